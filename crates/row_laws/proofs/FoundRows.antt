-- A write that failed.
use Rattle.std.proofs.Common.{◌≡◌, ◌≢◌, ℕ, Bool, true, false, cond, not, ◌&&◌, List, [], ◌∷◌, Option, None, Some, is_some, filter, map, refl, sym, ◌∙◌, ap, subst}
use Rattle.std.specs.Option.{option_map}
use Rattle.std.specs.Ordering.{nat_cmp, is_eq}
use Rattle.std.specs.declared.cmp.Ordering.TheVariants.{Less, Equal, Greater}
use Rattle.std.specs.Cmp.Lexicographic.{slice_cmp}
use Rattle.std.specs.FinMap.{put}
use Rattle.std.specs.FinMap.Entries.{by_order}
use Rattle.etcd_types.proofs.Bools.{and_first, and_second, and_both}
use Rattle.etcd_types.proofs.KeyOrder.{same-equal}
use Rattle.proxy_model.specs.declared.lease.Entry.{Entry}
use Rattle.proxy_model.specs.declared.lease.Phase.{Phase}
use Rattle.proxy_model.specs.declared.lease.Phase.TheVariants.{Held, Writing, Leaving}
use Rattle.proxy_model.specs.declared.ownership.Owner.{Owner}
use Rattle.proxy_model.specs.Keyed.{Keyed, at, with_at}
use Rattle.proxy_model.specs.LeaseTable.{is_writing, is_writing_phase, unwritten, phase_after_write}
use Rattle.wait_model.specs.declared.sending.Sending.TheVariants as sending
use Rattle.wait_model.specs.declared.write.Write.{Write}
use Rattle.wait_model.specs.declared.write.WriteStage.{WriteStage}
use Rattle.wait_model.specs.declared.write.WriteStage.TheVariants.{Sends, Finds}
use Rattle.wait_model.specs.Covers.{covers, is_single}
use Rattle.wait_model.specs.Edits.{without}
use Rattle.wait_model.specs.Fits.{Fits, stage_over}
use Rattle.wait_model.specs.ForeignOwnership.{by_key, is_own, owned_left, others, found_of, finding}
use Rattle.wait_model.specs.GuardedAnswers.{owns, owns_at, staged_by, is_gone, is_kept, kept_entries, other_owners, failed}
use Rattle.wait_model.specs.Phases.{if_written, is_session, own_entry}
use Rattle.wait_model.specs.Stages.{is_waiting, is_owner}
use Rattle.wait_model.specs.Writes.{first_by, with_first, sends}
use Rattle.wait_model.proofs.Tables.{at-each, at-without}
use Rattle.core_laws.proofs.Writes.Kept.{first_passes}
use Rattle.core_laws.proofs.Writes.Phases.{not_some}
use Rattle.read_model.specs.declared.acquire.Acquire.{Acquire}
use Rattle.read_model.specs.State.{Ground}
use Rattle.cache_laws.specs.Moves.View as view
use Rattle.cache_laws.specs.Moves.View.{Slot, View}
use Rattle.cache_laws.specs.Moves.Answers.{IsShown, returns, gives_up, Reaches}
use Rattle.row_laws.specs.Rows.{write_number, phase_in, written_in, acquired_by, spoiled_by, slot_of, row_of}
use Rattle.row_laws.specs.Laws.{Rows, IsLive, AreMarked, with_own, AreFound, Blocked, BlockedTurns}
use Rattle.row_laws.proofs.Reaching.{same_slot, one_turn, reaches_on, at_one}
use Rattle.row_laws.proofs.Stages.{found_stage, away_stage}
use Rattle.row_laws.proofs.Notices.{found_reach}
use Rattle.row_laws.proofs.Wrote.{sent_active, sent_number}
use Rattle.row_laws.proofs.EndRows.{forgets_reach, still_reach}

-- What was found, by key.

abbrev IsFoundAt : View → Write → List ℕ → Owner → Type 0
IsFoundAt v w k o = IsShown v k (record { create = o.create; session = o.lease }) × (covers w k ≡ true)

abbrev EachFound : View → Write → Keyed Owner → Type 0
EachFound v w [] = Unit {0}
EachFound v w (e ∷ es) = IsFoundAt v w e.0 e.1 × EachFound v w es

put_found : (v : View) (w : Write) (k : List ℕ) (o : Owner) (es : Keyed Owner) → IsFoundAt v w k o → EachFound v w es → EachFound v w (put (slice_cmp nat_cmp) k o es)
put_found v w k o [] f h = (f, tt)
put_found v w k o (e ∷ es) f h =
    elim (slice_cmp nat_cmp k e.0) as (λ r. slice_cmp nat_cmp k e.0 ≡ r → EachFound v w (by_order r ((k, o) ∷ e ∷ es) ((e.0, o) ∷ es) (e ∷ put (slice_cmp nat_cmp) k o es))) [
      | Less ↦ λ t. (f, h)
      | Equal ↦ λ t. (subst (λ (j : List ℕ). IsFoundAt v w j o) (same-equal k e.0 (ap is_eq t)) f, h.1)
      | Greater ↦ λ t. (h.0, put_found v w k o es f h.1)
    ] refl

by_key_found : (v : View) (w : Write) (os : List Owner) (ms : Keyed Owner) → AreFound v w os → EachFound v w ms → EachFound v w (by_key ms os)
by_key_found v w [] ms f h = h
by_key_found v w (o ∷ os) ms f h = by_key_found v w os (with_at ms o.key (Some o)) f.1 (put_found v w o.key o ms f.0 h)

filtered_found : (v : View) (w : Write) (q : Owner → Bool) (os : List Owner) → AreFound v w os → AreFound v w (filter q os)
filtered_found v w q [] f = tt
filtered_found v w q (o ∷ os) f = by (q o) (filtered_found v w q os f.1)
  where
    by : (b : Bool) → AreFound v w (filter q os) → AreFound v w (cond b (o ∷ filter q os) (filter q os))
    by true r = (f.0, r)
    by false r = r

-- Those of its own are given up.

left_row : (v : View) (p : ℕ) (own : ℕ → ℕ) (session : Option ℕ) (w : Write) (cs : Keyed Acquire) (ss : Keyed Bool) (stage : List ℕ → WriteStage) (os : Keyed Owner) (es : Keyed Entry) → IsLive v p session → ((k : List ℕ) → covers w k ≡ true → at cs k ≡ None) → EachFound v w os
    → (k : List ℕ) → Reaches v p k (slot_of own (at es k) (at cs k) (at ss k) (stage k)) (slot_of own (at (owned_left session os es) k) (at cs k) (at ss k) (stage k))
left_row v p own session w cs ss stage [] es live free f k = same_slot refl
left_row v p own session w cs ss stage (o ∷ os) es live free f k =
    let next = cond (is_own session es o) (with_at es o.0 (Some (own_entry o.1.create))) es in
    reaches_on (one (is_own session es o) refl) (left_row v p own session w cs ss stage os next live free f.1 k)
  where
    here : is_own session es o ≡ true → Reaches v p o.0 (slot_of own (at es o.0) (at cs o.0) (at ss o.0) (stage o.0)) (slot_of own (Some (own_entry o.1.create)) (at cs o.0) (at ss o.0) (stage o.0))
    here t =
        let none : at es o.0 ≡ None = not_some (at es o.0) (unnot (is_some (at es o.0)) (and_second (is_session session o.1.lease) (not (is_some (at es o.0))) t)) in
        let r = found_reach v p o.0 own session o.1.create o.1.lease (at ss o.0) (stage o.0) live f.0.0 (and_first (is_session session o.1.lease) (not (is_some (at es o.0))) t) in
        subst (λ (a : Option Acquire). Reaches v p o.0 (slot_of own (at es o.0) a (at ss o.0) (stage o.0)) (slot_of own (Some (own_entry o.1.create)) a (at ss o.0) (stage o.0))) (sym (free o.0 f.0.1))
        (subst (λ (e : Option Entry). Reaches v p o.0 (slot_of own e None (at ss o.0) (stage o.0)) (slot_of own (Some (own_entry o.1.create)) None (at ss o.0) (stage o.0))) (sym none) r)
      where
        unnot : (b : Bool) → not b ≡ true → b ≡ false
        unnot true h = absurd (cc)
        unnot false h = refl

    one : (b : Bool) → is_own session es o ≡ b → Reaches v p k (slot_of own (at es k) (at cs k) (at ss k) (stage k)) (slot_of own (at (cond b (with_at es o.0 (Some (own_entry o.1.create))) es) k) (at cs k) (at ss k) (stage k))
    one true t = at_one (λ j e. Reaches v p j (slot_of own (at es j) (at cs j) (at ss j) (stage j)) (slot_of own e (at cs j) (at ss j) (stage j))) es o.0 (Some (own_entry o.1.create)) (here t) (λ j. same_slot refl) k
    one false t = same_slot refl

-- What it wrote is held again, or gone.

returned_reach : (v : View) (p : ℕ) (k : List ℕ) (own : ℕ → ℕ) (call : ℕ) (e : Entry) (a : Option Acquire) (s : Option Bool) (stage next : WriteStage) (phase : Phase) → is_writing_phase phase ≡ true → write_number own stage ≡ own call → own call ≢ 0 → (v.outcomes (own call)).done ≡ true → (v.outcomes (own call)).ok ≡ false
    → Reaches v p k (record { phase = phase_in phase; create = e.create; kv = e.kv; acquire = acquired_by own a; spoiled = spoiled_by s a; write = written_in own stage phase })
    (record { phase = phase_in (phase_after_write phase); create = e.create; kv = e.kv; acquire = acquired_by own a; spoiled = spoiled_by s a; write = written_in own next (phase_after_write phase) })
returned_reach v p k own call e a s stage next Held t n some done ok = absurd (cc)
returned_reach v p k own call e a s stage next (Leaving sent) t n some done ok = absurd (cc)
returned_reach v p k own call e a s stage next (Writing true) t n some done ok = one_turn (gives_up (λ f. cc) refl)
returned_reach v p k own call e a s stage next (Writing false) t n some done ok =
    subst (λ (m : ℕ). Reaches v p k (before m) held) (sym n) (one_turn (returns refl some done ok refl))
  where
    before : ℕ → Slot
    before m = record { phase = view.Writing; create = e.create; kv = e.kv; acquire = acquired_by own a; spoiled = spoiled_by s a; write = m }

    held : Slot
    held = record { phase = view.Held; create = e.create; kv = e.kv; acquire = acquired_by own a; spoiled = spoiled_by s a; write = 0 }

pub kept_reach : (v : View) (p : ℕ) (k : List ℕ) (own : ℕ → ℕ) (call : ℕ) (e : Option Entry) (a : Option Acquire) (s : Option Bool) (stage next : WriteStage) (b gone : Bool) → (b ≡ true → write_number own stage ≡ own call) → (b ≡ false → is_writing e ≡ true → next ≡ stage) → own call ≢ 0
    → (v.outcomes (own call)).done ≡ true → (v.outcomes (own call)).ok ≡ false → Reaches v p k (slot_of own e a s stage) (slot_of own (option_map (if_written b unwritten) (cond gone None e)) a s next)
kept_reach v p k own call e a s stage next b true n q some done ok = forgets_reach v p k own e a s stage next
kept_reach v p k own call None a s stage next b false n q some done ok = same_slot refl
kept_reach v p k own call (Some e) a s stage next false false n q some done ok = still_reach v p k own e a s stage next e.phase (q refl)
kept_reach v p k own call (Some e) a s stage next true false n q some done ok =
    elim (is_writing_phase e.phase) as (λ t. is_writing_phase e.phase ≡ t → Reaches v p k (slot_of own (Some e) a s stage) (slot_of own (Some (cond t (unwritten e) e)) a s next)) [
      | true ↦ λ t. returned_reach v p k own call e a s stage next e.phase t (n refl) some done ok
      | false ↦ λ t. still_reach v p k own e a s stage next e.phase (λ f. absurd (cc))
    ] refl

-- One that isn't taken away keeps its call.
pub gone_reach : (v : View) (p : ℕ) (k : List ℕ) (own : ℕ → ℕ) (e : Option Entry) (a : Option Acquire) (s : Option Bool) (stage next : WriteStage) (gone : Bool) → (gone ≡ false → is_writing e ≡ true → next ≡ stage) → Reaches v p k (slot_of own e a s stage) (slot_of own (cond gone None e) a s next)
gone_reach v p k own e a s stage next true q = forgets_reach v p k own e a s stage next
gone_reach v p k own None a s stage next false q = same_slot refl
gone_reach v p k own (Some e) a s stage next false q = still_reach v p k own e a s stage next e.phase (q refl)

module _ (v : View) (p : ℕ) (own : ℕ → ℕ) (session : Option ℕ) (call : ℕ) (w : Write) (os : List Owner) (g : Ground) (live : IsLive v p session) (marked : AreMarked g) (fits : Fits g.own) (found : first_by (sends call) g.own.waits.writes ≡ Some w) (o : Blocked v (own call) w os) where
  sent : sends call w ≡ true
  sent = first_passes (sends call) g.own.waits.writes w found

  active : is_waiting w.stage ≡ false
  active = sent_active call w.stage sent

  first_is : (k : List ℕ) → covers w k ≡ true → stage_over k g.own.waits.writes ≡ w.stage
  first_is k c = found_stage (sends call) w g.own.waits.writes k found c active (fits k).only

  numbered : (k : List ℕ) → owns w k ≡ true → write_number own (stage_over k g.own.waits.writes) ≡ own call
  numbered k t = ap (write_number own) (first_is k (and_second (is_owner w.stage) (covers w k) t)) ∙ sent_number own call w.stage sent

  -- an entry that is written, and not by this write, is of a key that it doesn't cover
  others_stay : (next : WriteStage) (k : List ℕ) → owns w k ≡ false → is_writing (at g.own.entries k) ≡ true → stage_over k (with_first (sends call) next g.own.waits.writes) ≡ stage_over k g.own.waits.writes
  others_stay next k f t =
      elim (covers w k) as (λ b. covers w k ≡ b → stage_over k (with_first (sends call) next g.own.waits.writes) ≡ stage_over k g.own.waits.writes) [
        | true ↦ λ c.
            let owner : is_owner w.stage ≡ true = ap is_owner (sym (first_is k c)) ∙ (fits k).ok.writer t in
            let b = and_both (is_owner w.stage) (covers w k) owner c in
            absurd (cc)
        | false ↦ λ c. (away_stage (sends call) w g.own.waits.writes next k found c).1
      ] refl

  free : (k : List ℕ) → covers w k ≡ true → at g.acquires k ≡ None
  free k c = not_some (at g.acquires k) (sym (marked k) ∙ (fits k).ok.free (ap is_waiting (first_is k c) ∙ active))

  single_row : (next : WriteStage) → Rows v p own g (with_own g (staged_by g.own (without (owns_at w g.own.entries) g.own.entries) (sends call) next))
  single_row next k =
      subst (λ (x : Option Entry). Reaches v p k (row_of own g k) (slot_of own x (at g.acquires k) (at g.own.waits.spoiled k) (stage_over k (with_first (sends call) next g.own.waits.writes)))) (sym (at-without (owns_at w g.own.entries) g.own.entries k))
      (gone_reach v p k own (at g.own.entries k) (at g.acquires k) (at g.own.waits.spoiled k) (stage_over k g.own.waits.writes) (stage_over k (with_first (sends call) next g.own.waits.writes)) (owns_at w g.own.entries k)
      (λ f t. others_stay next k (not_owned (owns w k) (is_writing (at g.own.entries k)) f t) t))
    where
      not_owned : (a b : Bool) → a && b ≡ false → b ≡ true → a ≡ false
      not_owned true b f t = absurd (let x = sym t ∙ f in cc)
      not_owned false b f t = refl

  found_row : (next : WriteStage) → let ms = by_key [] (other_owners w g.own.entries os) in Rows v p own g (with_own g (staged_by g.own (owned_left session ms (kept_entries w os g.own.entries)) (sends call) next))
  found_row next k =
      let es = g.own.entries in
      let ms = by_key [] (other_owners w es os) in
      let after = stage_over k (with_first (sends call) next g.own.waits.writes) in
      let each_found = by_key_found v w (other_owners w es os) [] (filtered_found v w (λ x. not (is_kept w es os x.key)) os o.found) tt in
      reaches_on
      (subst (λ (x : Option Entry). Reaches v p k (row_of own g k) (slot_of own x (at g.acquires k) (at g.own.waits.spoiled k) after))
      (sym (at-each (λ j e. if_written (owns w j) unwritten e) (without (is_gone w es os) es) k ∙ ap (option_map (if_written (owns w k) unwritten)) (at-without (is_gone w es os) es k)))
      (kept_reach v p k own call (at es k) (at g.acquires k) (at g.own.waits.spoiled k) (stage_over k g.own.waits.writes) after (owns w k) (is_gone w es os k) (numbered k) (others_stay next k) o.some o.done o.failed))
      (left_row v p own session w g.acquires g.own.waits.spoiled (λ j. stage_over j (with_first (sends call) next g.own.waits.writes)) ms (kept_entries w os es) live free each_found k)

  blocked_row : Rows v p own g (with_own g (failed session (sends call) w os g.own))
  blocked_row k = by (is_owner w.stage && is_single w.request)
    where
      by : (b : Bool)
          → Reaches v p k (row_of own g k)
          (row_of own (with_own g (cond b (staged_by g.own (without (owns_at w g.own.entries) g.own.entries) (sends call) (Sends false (sending.Due g.own.waits.step))) (finding session (sends call) (by_key [] (other_owners w g.own.entries os)) g.own (kept_entries w os g.own.entries)))) k)
      by true = single_row (Sends false (sending.Due g.own.waits.step)) k
      by false = found_row (Finds (map (found_of g.own.waits.step) (others session (kept_entries w os g.own.entries) (by_key [] (other_owners w g.own.entries os))))) k

pub blocked_turns : BlockedTurns
blocked_turns v p own session call w os g live marked fits found o k = blocked_row v p own session call w os g live marked fits found o k
