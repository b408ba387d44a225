-- What ends without an answer, and reads that are decided again.
use Rattle.std.proofs.Common.{◌≡◌, ℕ, Bool, true, false, cond, not, ◌&&◌, ◌||◌, List, [], ◌∷◌, Option, None, Some, is_some, refl, sym, ◌∙◌, ap, subst}
use Rattle.std.specs.Option.{option_map}
use Rattle.etcd_types.specs.Keys.{same}
use Rattle.etcd_types.proofs.Bools.{and_second, and_both}
use Rattle.etcd_types.proofs.KeyOrder.{same-equal}
use Rattle.proxy_model.specs.declared.lease.Entry.{Entry}
use Rattle.proxy_model.specs.declared.lease.Phase.{Phase}
use Rattle.proxy_model.specs.declared.lease.Phase.TheVariants.{Held, Writing, Leaving}
use Rattle.proxy_model.specs.Keyed.{Keyed, at}
use Rattle.proxy_model.specs.LeaseTable.{is_writing, is_writing_phase, unwritten, leaving, phase_after_write, phase_left}
use Rattle.proxy_model.proofs.KeyedLaws.{at-with_at}
use Rattle.wait_model.specs.declared.sending.Sending.{Sending}
use Rattle.wait_model.specs.declared.sending.Sending.TheVariants as sending
use Rattle.wait_model.specs.declared.write.Write.{Write}
use Rattle.wait_model.specs.declared.write.WriteStage.{WriteStage}
use Rattle.wait_model.specs.declared.write.WriteStage.TheVariants.{Waiting, Sends, Finds}
use Rattle.wait_model.specs.Covers.{covers}
use Rattle.wait_model.specs.Endings.{given_back, forgotten_by, forgotten}
use Rattle.wait_model.specs.Fits.{Fits, stage_over}
use Rattle.wait_model.specs.GuardedAnswers.{owns, unwrote_entries, left_entries}
use Rattle.wait_model.specs.Phases.{if_written}
use Rattle.wait_model.specs.SessionEnd.{session_ended}
use Rattle.wait_model.specs.Stages.{is_waiting, is_owner, is_due}
use Rattle.wait_model.specs.State.{Ownership}
use Rattle.wait_model.specs.Writes.{first_by, without_first, has_ticket}
use Rattle.wait_model.proofs.Tables.{at-each, at-without}
use Rattle.core_laws.proofs.Writes.Steps.{forgetting_keeps}
use Rattle.read_model.specs.declared.acquire.Acquire.{Acquire}
use Rattle.read_model.specs.declared.asked.Asked.{Asked}
use Rattle.read_model.specs.PlainRead.{ask_key, acquirable, decision, begun_under, decided_ground}
use Rattle.read_model.specs.Release.{ask_stands, released_ground, released_from}
use Rattle.read_model.specs.SessionEnd.{is_due_acquire, dropped, over}
use Rattle.read_model.specs.SessionEnd as ends
use Rattle.read_model.specs.State.{Ground, Moment, ground_of}
use Rattle.read_model.specs.TakingOff.{is_writes, forgotten_all, falls}
use Rattle.core_laws.proofs.PlainReads.Grounds.{frees}
use Rattle.cache_laws.specs.Moves.View as view
use Rattle.cache_laws.specs.Moves.View.{Slot, View}
use Rattle.cache_laws.specs.Moves.Answers.{withdraws, gives_up, forgets, Reaches}
use Rattle.row_laws.specs.Rows.{write_number, phase_in, written_in, acquired_by, spoiled_by, slot_of, row_of}
use Rattle.row_laws.specs.Laws.{Rows, with_own, ReleasesTurn, TakenOffTurns, SessionOverTurns}
use Rattle.row_laws.proofs.Reaching.{same_slot, one_turn, reaches_on}
use Rattle.row_laws.proofs.Stages.{found_stage, away_stage, waiting_away}

-- An acquire that becomes due, and one that was due and falls.

due_slot : (own : ℕ → ℕ) (e : Option Entry) (a : Option Acquire) (s : Option Bool) (stage : WriteStage) → is_some a ≡ false → (x : Acquire) (t : Option Bool) (since : ℕ) → x.sending ≡ sending.Due since → slot_of own e (Some x) t stage ≡ slot_of own e a s stage
due_slot own e (Some a) s stage n x t since d = absurd (cc)
due_slot own e None s stage n x t since d = λ i. slot_at (d i)
  where
    slot_at : Sending → Slot
    slot_at y = slot_of own e (Some (record { ticket = 0; session = 0; sending = y })) t stage

begun_row : (own : ℕ → ℕ) (ticket : ℕ) (k : List ℕ) (o : Option ℕ) (g : Ground) (j : List ℕ) → (is_some o ≡ true → is_some (at g.acquires k) ≡ false) → row_of own (begun_under ticket k o g) j ≡ row_of own g j
begun_row own ticket k None g j n = refl
begun_row own ticket k (Some m) g j n =
    let x : Acquire = record { ticket = ticket; session = m; sending = sending.Due g.own.waits.step } in
    (λ i. slot_of own (at g.own.entries j) (at-with_at g.acquires k j (Some x) i) (at-with_at g.own.waits.spoiled k j (Some false) i) (stage_over j g.own.waits.writes))
    ∙ elim (same k j) as (λ b. same k j ≡ b → slot_of own (at g.own.entries j) (cond b (Some x) (at g.acquires j)) (cond b (Some false) (at g.own.waits.spoiled j)) (stage_over j g.own.waits.writes) ≡ row_of own g j) [
      | true ↦ λ t. due_slot own (at g.own.entries j) (at g.acquires j) (at g.own.waits.spoiled j) (stage_over j g.own.waits.writes) (subst (λ (l : List ℕ). is_some (at g.acquires l) ≡ false) (same-equal k j t) (n refl)) x (Some false) g.own.waits.step refl
      | false ↦ λ t. refl
    ] refl

pub decided_row : (own : ℕ → ℕ) (m : Moment) (g : Ground) (a : Asked) (j : List ℕ) → row_of own (decided_ground m g a) j ≡ row_of own g j
decided_row own m g a j =
    let k = ask_key a in
    begun_row own a.ticket k (decision m g k).under g j (λ s. (frees m.header g.own.waits.step (at g.own.entries k) (is_some (at g.acquires k)) (acquirable m g.own k) s).claim)

release_row : (own : ℕ → ℕ) (again : Bool) (m : Moment) (g : Ground) (xs : List Asked) (j : List ℕ) → row_of own (released_from again m g xs).ground j ≡ row_of own g j
unfolding released_from
release_row own again m g [] j = refl
release_row own again m g (a ∷ xs) j = release_row own again m (released_ground again m g a) xs j ∙ by (ask_stands g a || not again)
  where
    by : (b : Bool) → row_of own (cond b g (decided_ground m g a)) j ≡ row_of own g j
    by true = refl
    by false = decided_row own m g a j

pub releases_turn : ReleasesTurn
releases_turn v p own again m g xs k = same_slot (release_row own again m g xs k)

due_falls : (own : ℕ → ℕ) (e : Option Entry) (a : Option Acquire) (s : Option Bool) (stage : WriteStage) → is_due_acquire a ≡ true → slot_of own e None None stage ≡ slot_of own e a s stage
due_falls own e None s stage d = absurd (cc)
due_falls own e (Some a) s stage d = by a.sending d
  where
    slot : Sending → Slot
    slot y = slot_of own e (Some (record { ticket = 0; session = 0; sending = y })) s stage

    by : (y : Sending) → ends.is_due y ≡ true → slot_of own e None None stage ≡ slot y
    by (sending.Due since) d = refl
    by (sending.Out call) d = absurd (cc)

dropped_row : (own : ℕ → ℕ) (q : List ℕ → Bool) (g : Ground) (k : List ℕ) → (q k ≡ true → is_due_acquire (at g.acquires k) ≡ true) → row_of own (dropped q g) k ≡ row_of own g k
dropped_row own q g k d =
    (λ i. slot_of own (at g.own.entries k) (at-without q g.acquires k i) (at-without q g.own.waits.spoiled k i) (stage_over k g.own.waits.writes))
    ∙ elim (q k) as (λ b. q k ≡ b → slot_of own (at g.own.entries k) (cond b None (at g.acquires k)) (cond b None (at g.own.waits.spoiled k)) (stage_over k g.own.waits.writes) ≡ row_of own g k) [
      | true ↦ λ t. due_falls own (at g.own.entries k) (at g.acquires k) (at g.own.waits.spoiled k) (stage_over k g.own.waits.writes) (d t)
      | false ↦ λ t. refl
    ] refl

-- A session ends.

pub forgets_reach : (v : View) (p : ℕ) (k : List ℕ) (own : ℕ → ℕ) (e : Option Entry) (a : Option Acquire) (s : Option Bool) (stage next : WriteStage) → Reaches v p k (slot_of own e a s stage) (slot_of own None a s next)
forgets_reach v p k own None a s stage next = same_slot refl
forgets_reach v p k own (Some e) a s stage next = one_turn (forgets refl)

pub session_over_turns : SessionOverTurns
session_over_turns v p own m r k =
    let g = ground_of r in
    let h : Ground = record g { own = session_ended g.own } in
    let gone : Reaches v p k (row_of own g k) (row_of own h k) = forgets_reach v p k own (at g.own.entries k) (at g.acquires k) (at g.own.waits.spoiled k) (stage_over k g.own.waits.writes) (stage_over k h.own.waits.writes) in
    reaches_on gone (reaches_on (same_slot (dropped_row own (λ j. is_due_acquire (at g.acquires j)) h k (λ t. t))) (releases_turn v p own false m (over g) r.asks k))

-- A request is forgotten.

-- an entry that it writes: held again where its call is due, else given up
unwrote_reach : (v : View) (p : ℕ) (k : List ℕ) (own : ℕ → ℕ) (e : Entry) (a : Option Acquire) (s : Option Bool) (stage next : WriteStage) (phase : Phase) → is_writing_phase phase ≡ true → write_number own stage ≡ 0
    → Reaches v p k (record { phase = phase_in phase; create = e.create; kv = e.kv; acquire = acquired_by own a; spoiled = spoiled_by s a; write = written_in own stage phase })
    (record { phase = phase_in (phase_after_write phase); create = e.create; kv = e.kv; acquire = acquired_by own a; spoiled = spoiled_by s a; write = written_in own next (phase_after_write phase) })
unwrote_reach v p k own e a s stage next Held t n = absurd (cc)
unwrote_reach v p k own e a s stage next (Leaving sent) t n = absurd (cc)
unwrote_reach v p k own e a s stage next (Writing false) t n =
    one_turn (withdraws refl n (λ i. record { phase = view.Held; create = e.create; kv = e.kv; acquire = acquired_by own a; spoiled = spoiled_by s a; write = sym n i }))
unwrote_reach v p k own e a s stage next (Writing true) t n = one_turn (gives_up (λ f. cc) refl)

left_reach : (v : View) (p : ℕ) (k : List ℕ) (own : ℕ → ℕ) (e : Entry) (a : Option Acquire) (s : Option Bool) (stage next : WriteStage) (phase : Phase) → is_writing_phase phase ≡ true
    → Reaches v p k (record { phase = phase_in phase; create = e.create; kv = e.kv; acquire = acquired_by own a; spoiled = spoiled_by s a; write = written_in own stage phase })
    (record { phase = phase_in (phase_left phase); create = e.create; kv = e.kv; acquire = acquired_by own a; spoiled = spoiled_by s a; write = written_in own next (phase_left phase) })
left_reach v p k own e a s stage next Held t = absurd (cc)
left_reach v p k own e a s stage next (Leaving sent) t = absurd (cc)
left_reach v p k own e a s stage next (Writing revoked) t = one_turn (gives_up (λ f. cc) refl)

pub still_reach : (v : View) (p : ℕ) (k : List ℕ) (own : ℕ → ℕ) (e : Entry) (a : Option Acquire) (s : Option Bool) (stage next : WriteStage) (phase : Phase) → (is_writing_phase phase ≡ true → next ≡ stage)
    → Reaches v p k (record { phase = phase_in phase; create = e.create; kv = e.kv; acquire = acquired_by own a; spoiled = spoiled_by s a; write = written_in own stage phase })
    (record { phase = phase_in phase; create = e.create; kv = e.kv; acquire = acquired_by own a; spoiled = spoiled_by s a; write = written_in own next phase })
still_reach v p k own e a s stage next Held q = same_slot refl
still_reach v p k own e a s stage next (Writing revoked) q =
    same_slot (λ i. record { phase = view.Writing; create = e.create; kv = e.kv; acquire = acquired_by own a; spoiled = spoiled_by s a; write = write_number own (q refl i) })
still_reach v p k own e a s stage next (Leaving sent) q = same_slot refl

pub back_reach : (v : View) (p : ℕ) (k : List ℕ) (own : ℕ → ℕ) (e : Option Entry) (a : Option Acquire) (s : Option Bool) (stage next : WriteStage) (b due : Bool) → (b ≡ true → due ≡ true → write_number own stage ≡ 0) → (b ≡ false → is_writing e ≡ true → next ≡ stage)
    → Reaches v p k (slot_of own e a s stage) (slot_of own (option_map (if_written b (λ x. cond due (unwritten x) (leaving x))) e) a s next)
back_reach v p k own None a s stage next b due n q = same_slot refl
back_reach v p k own (Some e) a s stage next false due n q = still_reach v p k own e a s stage next e.phase (q refl)
back_reach v p k own (Some e) a s stage next true due n q =
    elim (is_writing_phase e.phase) as (λ t. is_writing_phase e.phase ≡ t → Reaches v p k (slot_of own (Some e) a s stage) (slot_of own (Some (cond t (cond due (unwritten e) (leaving e)) e)) a s next)) [
      | true ↦ λ t. by due t (n refl)
      | false ↦ λ t. still_reach v p k own e a s stage next e.phase (λ f. absurd (cc))
    ] refl
  where
    by : (d : Bool) → is_writing_phase e.phase ≡ true → (d ≡ true → write_number own stage ≡ 0) → Reaches v p k (slot_of own (Some e) a s stage) (slot_of own (Some (cond d (unwritten e) (leaving e))) a s next)
    by true t n = unwrote_reach v p k own e a s stage next e.phase t (n refl)
    by false t n = left_reach v p k own e a s stage next e.phase t

due_number : (own : ℕ → ℕ) (stage : WriteStage) → is_due stage ≡ true → write_number own stage ≡ 0
due_number own Waiting d = absurd (cc)
due_number own (Sends owner (sending.Due since)) d = refl
due_number own (Sends owner (sending.Out call)) d = absurd (cc)
due_number own (Finds found) d = absurd (cc)

owner_active : (stage : WriteStage) → is_owner stage ≡ true → is_waiting stage ≡ false
owner_active Waiting d = absurd (cc)
owner_active (Sends owner s) d = refl
owner_active (Finds found) d = absurd (cc)

-- an entry that is written, and not by the write that ends, keeps its call
pub others_end : (find : Write → Bool) (w : Write) (g : Ground) → Fits g.own → first_by find g.own.waits.writes ≡ Some w → (k : List ℕ) → owns w k ≡ false → is_writing (at g.own.entries k) ≡ true
    → stage_over k (without_first find g.own.waits.writes) ≡ stage_over k g.own.waits.writes
others_end find w g fits found k f t =
    elim (covers w k) as (λ b. covers w k ≡ b → stage_over k (without_first find ws) ≡ stage_over k ws) [
      | true ↦ λ c.
          elim (is_waiting w.stage) as (λ b. is_waiting w.stage ≡ b → stage_over k (without_first find ws) ≡ stage_over k ws) [
            | true ↦ λ i. waiting_away find w ws k found i (owner_active (stage_over k ws) ((fits k).ok.writer t))
            | false ↦ λ i. absurd (not_owner c i)
          ] refl
      | false ↦ λ c. (away_stage find w ws Waiting k found c).0
    ] refl
  where
    ws : List Write
    ws = g.own.waits.writes

    not_owner : covers w k ≡ true → is_waiting w.stage ≡ false → ⊥
    not_owner c i =
        let o : is_owner w.stage ≡ true = ap is_owner (sym (found_stage find w ws k found c i (fits k).only)) ∙ (fits k).ok.writer t in
        let b = and_both (is_owner w.stage) (covers w k) o c in absurd (cc)

given_back_at : (w : Write) (es : Keyed Entry) (k : List ℕ) → at (given_back w es) k ≡ option_map (if_written (owns w k) (λ x. cond (is_due w.stage) (unwritten x) (leaving x))) (at es k)
given_back_at w es k = by (is_due w.stage)
  where
    by : (d : Bool) → at (cond d (unwrote_entries w es) (left_entries w es)) k ≡ option_map (if_written (owns w k) (λ x. cond d (unwritten x) (leaving x))) (at es k)
    by true = at-each (λ j e. if_written (owns w j) unwritten e) es k
    by false = at-each (λ j e. if_written (owns w j) leaving e) es k

forgotten_by_row : (v : View) (p : ℕ) (own : ℕ → ℕ) (test : Write → Bool) (o : Option Write) (g : Ground) → Fits g.own → first_by test g.own.waits.writes ≡ o → Rows v p own g (with_own g (forgotten_by test o g.own))
forgotten_by_row v p own test None g fits found k = same_slot refl
forgotten_by_row v p own test (Some w) g fits found k =
    let ws = g.own.waits.writes in
    subst (λ (x : Option Entry). Reaches v p k (row_of own g k) (slot_of own x (at g.acquires k) (at g.own.waits.spoiled k) (stage_over k (without_first test ws)))) (sym (given_back_at w g.own.entries k))
    (back_reach v p k own (at g.own.entries k) (at g.acquires k) (at g.own.waits.spoiled k) (stage_over k ws) (stage_over k (without_first test ws)) (owns w k) (is_due w.stage) here (others_end test w g fits found k))
  where
    here : owns w k ≡ true → is_due w.stage ≡ true → write_number own (stage_over k g.own.waits.writes) ≡ 0
    here t d =
        let c = and_second (is_owner w.stage) (covers w k) t in
        let active = due_active w.stage d in
        ap (write_number own) (found_stage test w g.own.waits.writes k found c active (fits k).only) ∙ due_number own w.stage d
      where
        due_active : (stage : WriteStage) → is_due stage ≡ true → is_waiting stage ≡ false
        due_active Waiting d = absurd (cc)
        due_active (Sends owner s) d = refl
        due_active (Finds found) d = refl

forgotten_row : (v : View) (p : ℕ) (own : ℕ → ℕ) (ticket : ℕ) (g : Ground) → Fits g.own → Rows v p own g (with_own g (forgotten ticket g.own))
unfolding forgotten
forgotten_row v p own ticket g fits k = forgotten_by_row v p own (has_ticket ticket) (first_by (has_ticket ticket) g.own.waits.writes) g fits refl k

forgotten_all_row : (v : View) (p : ℕ) (own : ℕ → ℕ) (test : Asked → Bool) (xs : List Asked) (g : Ground) → Fits g.own → Rows v p own g (with_own g (forgotten_all test xs g.own))
forgotten_all_row v p own test [] g fits k = same_slot refl
forgotten_all_row v p own test (a ∷ xs) g fits k =
    either (test a && is_writes a.stage) (λ o. Reaches v p k (row_of own g k) (row_of own (with_own g (forgotten_all test xs o)) k)) (forgotten a.ticket g.own) g.own
    (reaches_on (forgotten_row v p own a.ticket g fits k) (forgotten_all_row v p own test xs (with_own g (forgotten a.ticket g.own)) (forgetting_keeps g.own a.ticket fits) k))
    (forgotten_all_row v p own test xs g fits k)
  where
    either : (b : Bool) (P : Ownership → Type 0) (x y : Ownership) → P x → P y → P (cond b x y)
    either true P x y h i = h
    either false P x y h i = i

pub taken_off_turns : TakenOffTurns
taken_off_turns v p own m test xs r fits k =
    let g = ground_of r in
    let h = with_own g (forgotten_all test r.asks r.own) in
    reaches_on (forgotten_all_row v p own test r.asks g fits k)
    (reaches_on (same_slot (dropped_row own (falls test r) h k (λ t. and_second _ (is_due_acquire (at r.acquires k)) t))) (releases_turn v p own false m (dropped (falls test r) h) xs k))
