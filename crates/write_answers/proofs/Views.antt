-- What a plain read comes upon at its key once an answer is taken, by what stands there before.
use Rattle.std.proofs.Common.{◌≡◌, ℕ, Bool, true, false, not, cond, ◌&&◌, List, [], ◌∷◌, Option, None, Some, is_some, refl, sym, ◌∙◌, ap}
use Rattle.std.specs.Option.{option_map}
use Rattle.etcd_types.proofs.Bools.{and_second}
use Rattle.etcd_types.proofs.KeyOrder.{same-equal}
use Rattle.etcd_types.specs.declared.record.Header.{Header}
use Rattle.etcd_types.specs.declared.record.Kv.{Kv}
use Rattle.etcd_types.specs.Keys.{same}
use Rattle.proxy_model.specs.declared.lease.Entry.{Entry}
use Rattle.proxy_model.specs.declared.lease.Phase.{Phase}
use Rattle.proxy_model.specs.declared.lease.Phase.TheVariants as phase
use Rattle.proxy_model.specs.declared.ownership.Owner.{Owner}
use Rattle.proxy_model.specs.Keyed.{Keyed, at, with_at}
use Rattle.proxy_model.specs.LeaseTable.{is_writing, is_writing_phase, unwritten, written}
use Rattle.proxy_model.proofs.KeyedLaws.{at-with_at}
use Rattle.read_model.specs.declared.acquire.Acquire.{Acquire}
use Rattle.read_core.specs.Falls.{stands_on, again_stage}
use Rattle.read_model.specs.declared.asked.Asked.{Asked}
use Rattle.read_model.specs.declared.asked.Stage.{Stage}
use Rattle.read_model.specs.declared.asked.Stage.TheVariants as stage
use Rattle.read_model.specs.PlainRead.{ask_key, read_turn}
use Rattle.read_model.specs.Release.{stands}
use Rattle.revoke_calls.specs.declared.entries.Fate.TheVariants.{Back}
use Rattle.revoke_calls.specs.declared.left.Left.{Left}
use Rattle.revoke_calls.specs.Ends.{wrote_turn, all_wrote, left_at}
use Rattle.revoke_calls.specs.Failed.{found_owners, failed_entries}
use Rattle.revoke_calls.specs.Fates.{settled_entries}
use Rattle.revoke_calls.proofs.SettledEntries.{calm_back}
use Rattle.revoke_core.specs.Answers.{rescinded_entries}
use Rattle.wait_model.specs.declared.write.Write.{Write}
use Rattle.wait_model.specs.Covers.{covers, is_single}
use Rattle.wait_model.specs.Edits.{without}
use Rattle.wait_model.specs.ForeignOwnership.{is_own, owned_left}
use Rattle.wait_model.specs.GuardedAnswers.{owns, owns_at, is_shown, is_gone, kept_entries}
use Rattle.wait_model.specs.Phases.{if_written, is_of, is_session, own_entry}
use Rattle.wait_model.specs.Stages.{is_owner}
use Rattle.wait_model.proofs.Tables.{at-each, at-without}
use Rattle.write_answers.specs.Seen.{What, what_in, what_of, neither, what_back, is_lost, is_written, waits, stands_by, seen_stage}

-- What becomes of a read by it.

pub stands_is : (ticket : ℕ) (e : Option Entry) (c : Option Acquire) (s : Stage) → stands_by ticket (what_of e).sight c s ≡ stands ticket e c s
stands_is ticket e c (stage.Calling s) = refl
stands_is ticket e c stage.Acquiring = refl
stands_is ticket e c stage.Joined = refl
stands_is ticket None c stage.Behind = refl
stands_is ticket (Some e) c stage.Behind = of e.phase
  where
    of : (p : Phase) → is_written (what_in p e.kv).sight ≡ is_writing_phase p
    of phase.Held = refl
    of (phase.Writing r) = refl
    of (phase.Leaving s) = refl
stands_is ticket e c stage.Writes = refl
stands_is ticket e c (stage.Grouped s) = refl
stands_is ticket e c (stage.Replied v) = refl

pub turn_is : (h : Header) (step : ℕ) (e : Option Entry) → seen_stage h step (what_of e) ≡ (read_turn h step e false None).stage
turn_is h step None = refl
turn_is h step (Some e) = of e.phase
  where
    of : (p : Phase) → seen_stage h step (what_of (Some (record e { phase = p }))) ≡ (read_turn h step (Some (record e { phase = p })) false None).stage
    of phase.Held = refl
    of (phase.Writing r) = refl
    of (phase.Leaving s) = refl

idle_stands : (ticket : ℕ) (e : Option Entry) (c : Option Acquire) (s : Stage) → waits s ≡ false → stands ticket e c s ≡ true
idle_stands ticket e c (stage.Calling s) h = refl
idle_stands ticket e c stage.Acquiring h = absurd (cc)
idle_stands ticket e c stage.Joined h = absurd (cc)
idle_stands ticket e c stage.Behind h = absurd (cc)
idle_stands ticket e c stage.Writes h = refl
idle_stands ticket e c (stage.Grouped s) h = refl
idle_stands ticket e c (stage.Replied v) h = refl

stands_so : (es : Keyed Entry) (acquires : Keyed Acquire) (a : Asked) (k : List ℕ) (w : What) (claim : Option Acquire) (b : Bool) → k ≡ ask_key a → w ≡ what_of (at es k) → claim ≡ at acquires k → b ≡ stands_by a.ticket w.sight claim a.stage → stands_on es acquires a ≡ b
stands_so es acquires a k w claim b e f g t =
    sym (t ∙ (λ i. stands_by a.ticket (f i).sight (g i) a.stage) ∙ ap (λ (j : List ℕ). stands_by a.ticket (what_of (at es j)).sight (at acquires j) a.stage) e ∙ stands_is a.ticket (at es (ask_key a)) (at acquires (ask_key a)) a.stage)

pub stays_if : (h : Header) (step : ℕ) (es : Keyed Entry) (acquires : Keyed Acquire) (a : Asked) → stands_on es acquires a ≡ true → None ≡ again_stage h step es acquires a
stays_if h step es acquires a t = sym (ap (λ b. cond b None (Some (read_turn h step (at es (ask_key a)) false None).stage)) t)

pub idle_stays : (h : Header) (step : ℕ) (es : Keyed Entry) (acquires : Keyed Acquire) (a : Asked) → waits a.stage ≡ false → None ≡ again_stage h step es acquires a
idle_stays h step es acquires a t = stays_if h step es acquires a (idle_stands a.ticket (at es (ask_key a)) (at acquires (ask_key a)) a.stage t)

pub seen_stays : (h : Header) (step : ℕ) (es : Keyed Entry) (acquires : Keyed Acquire) (a : Asked) (k : List ℕ) (w : What) (claim : Option Acquire) → k ≡ ask_key a → w ≡ what_of (at es k) → claim ≡ at acquires k → true ≡ stands_by a.ticket w.sight claim a.stage → None ≡ again_stage h step es acquires a
seen_stays h step es acquires a k w claim e f g t = stays_if h step es acquires a (stands_so es acquires a k w claim true e f g t)

pub seen_comes : (h : Header) (step : ℕ) (es : Keyed Entry) (acquires : Keyed Acquire) (a : Asked) (k : List ℕ) (w : What) (claim : Option Acquire) → k ≡ ask_key a → w ≡ what_of (at es k) → claim ≡ at acquires k → false ≡ stands_by a.ticket w.sight claim a.stage → Some (seen_stage h step w) ≡ again_stage h step es acquires a
seen_comes h step es acquires a k w claim e f g t =
    let turn = ap (seen_stage h step) (f ∙ ap (λ (j : List ℕ). what_of (at es j)) e) ∙ turn_is h step (at es (ask_key a)) in
    ap Some turn ∙ sym (ap (λ b. cond b None (Some (read_turn h step (at es (ask_key a)) false None).stage)) (stands_so es acquires a k w claim false e f g t))

-- A rescind.

pub rescinded_gone : (k : List ℕ) (create : ℕ) (es : Keyed Entry) (j : List ℕ) → same k j && is_of create (at es k) ≡ true → neither ≡ what_of (at (rescinded_entries k create es) j)
rescinded_gone k create es j h = of (same k j) (is_of create (at es k)) refl h
  where
    of : (a b : Bool) → same k j ≡ a → a && b ≡ true → neither ≡ what_of (at (cond b (with_at es k None) es) j)
    of true true s t = ap what_of (sym (at-with_at es k j None ∙ ap (λ c. cond c None (at es j)) s))
    of true false s t = absurd (cc)
    of false b s t = absurd (cc)

pub rescinded_stays : (k : List ℕ) (create : ℕ) (es : Keyed Entry) (j : List ℕ) → same k j && is_of create (at es k) ≡ false → what_of (at es j) ≡ what_of (at (rescinded_entries k create es) j)
rescinded_stays k create es j h = of (same k j) (is_of create (at es k)) refl h
  where
    of : (a b : Bool) → same k j ≡ a → a && b ≡ false → what_of (at es j) ≡ what_of (at (cond b (with_at es k None) es) j)
    of a false s t = refl
    of true true s t = absurd (cc)
    of false true s t = ap what_of (sym (at-with_at es k j None ∙ ap (λ c. cond c None (at es j)) s))

-- The write's entries are held again as they were.

back_over : (a : Bool) (o : Option Entry) → what_of (option_map (λ e. if_written a unwritten e) o) ≡ cond (a && is_writing o) (what_of (option_map unwritten o)) (what_of o)
back_over a None = of (a && false)
  where
    of : (b : Bool) → neither ≡ cond b neither neither
    of true = refl
    of false = refl
back_over a (Some e) = of (a && is_writing_phase e.phase)
  where
    of : (b : Bool) → what_of (Some (cond b (unwritten e) e)) ≡ cond b (what_of (Some (unwritten e))) (what_of (Some e))
    of true = refl
    of false = refl

pub back_is : (w : Write) (es : Keyed Entry) (k : List ℕ) → what_back w es k ≡ what_of (at (settled_entries Back w es) k)
back_is w es k = sym (ap what_of (at-each (λ j e. if_written (owns w j) unwritten e) es k) ∙ back_over (owns w k) (at es k))

pub owned_back : (w : Write) (es : Keyed Entry) (k : List ℕ) → owns_at w es k ≡ true → what_of (option_map unwritten (at es k)) ≡ what_back w es k
owned_back w es k h = sym (ap (λ b. cond b (what_of (option_map unwritten (at es k))) (what_of (at es k))) h)

pub other_back : (w : Write) (es : Keyed Entry) (k : List ℕ) → owns_at w es k ≡ false → what_of (at es k) ≡ what_back w es k
other_back w es k h = sym (ap (λ b. cond b (what_of (option_map unwritten (at es k))) (what_of (at es k))) h)

-- The write was done.

abbrev wrote_by : Option Left → Option Entry → Option Entry
wrote_by None o = o
wrote_by (Some l) o = wrote_turn l.kv o

twice : (kv left : Option Kv) (o : Option Entry) → wrote_turn kv (wrote_turn left o) ≡ wrote_turn left o
twice kv left None = refl
twice kv left (Some e) = of (is_writing_phase e.phase) refl
  where
    of : (b : Bool) → is_writing_phase e.phase ≡ b → wrote_turn kv (Some (cond b (written left e) e)) ≡ Some (cond b (written left e) e)
    of true h = ap (λ b. Some (cond b (written kv (written left e)) (written left e))) (calm_back e.phase)
    of false h = ap (λ b. Some (cond b (written kv e) e)) h

left_is : (ls : List Left) (es : Keyed Entry) (k : List ℕ) → at (all_wrote ls es) k ≡ wrote_by (left_at k ls) (at es k)
left_is [] es k = refl
left_is (l ∷ ls) es k =
    let o = wrote_turn l.kv (at es l.key) in
    let rest = left_is ls (with_at es l.key o) k in
    elim (same l.key k) as (λ b. same l.key k ≡ b → at (all_wrote ls (with_at es l.key o)) k ≡ wrote_by (cond b (Some l) (left_at k ls)) (at es k)) [
      | true ↦ λ s. rest ∙ ap (λ x. wrote_by (left_at k ls) x) (at-with_at es l.key k o ∙ ap (λ b. cond b o (at es k)) s ∙ ap (λ (j : List ℕ). wrote_turn l.kv (at es j)) (same-equal l.key k s)) ∙ again (left_at k ls) l.kv (at es k)
      | false ↦ λ s. rest ∙ ap (λ x. wrote_by (left_at k ls) x) (at-with_at es l.key k o ∙ ap (λ b. cond b o (at es k)) s)
    ] refl
  where
    again : (m : Option Left) (kv : Option Kv) (x : Option Entry) → wrote_by m (wrote_turn kv x) ≡ wrote_turn kv x
    again None kv x = refl
    again (Some m) kv x = twice m.kv kv x

pub none_left : (ls : List Left) (es : Keyed Entry) (k : List ℕ) → left_at k ls ≡ None → what_of (at es k) ≡ what_of (at (all_wrote ls es) k)
none_left ls es k h = ap what_of (sym (left_is ls es k ∙ ap (λ m. wrote_by m (at es k)) h))

pub one_left : (ls : List Left) (es : Keyed Entry) (k : List ℕ) (l : Left) → left_at k ls ≡ Some l → what_of (wrote_turn l.kv (at es k)) ≡ what_of (at (all_wrote ls es) k)
one_left ls es k l h = ap what_of (sym (left_is ls es k ∙ ap (λ m. wrote_by m (at es k)) h))

-- The write failed.

own_neither : (session : Option ℕ) (os : Keyed Owner) (es : Keyed Entry) (k : List ℕ) → what_of (at (owned_left session os es) k) ≡ what_of (at es k)
own_neither session [] es k = refl
own_neither session (o ∷ os) es k = own_neither session os (cond (is_own session es o) (with_at es o.0 (Some (own_entry o.1.create))) es) k ∙ of (is_own session es o) refl
  where
    empty : (a : Bool) (x : Option Entry) → a && not (is_some x) ≡ true → neither ≡ what_of x
    empty a None h = refl
    empty a (Some e) h = absurd (let f = and_second a false h in cc)

    here : (b : Bool) → same o.0 k ≡ b → is_own session es o ≡ true → what_of (cond b (Some (own_entry o.1.create)) (at es k)) ≡ what_of (at es k)
    here true s h = empty (is_session session o.1.lease) (at es o.0) h ∙ ap (λ (j : List ℕ). what_of (at es j)) (same-equal o.0 k s)
    here false s h = refl

    of : (b : Bool) → is_own session es o ≡ b → what_of (at (cond b (with_at es o.0 (Some (own_entry o.1.create))) es) k) ≡ what_of (at es k)
    of true h = ap what_of (at-with_at es o.0 k (Some (own_entry o.1.create))) ∙ here (same o.0 k) refl h
    of false h = refl

kept_what : (w : Write) (os : List Owner) (es : Keyed Entry) (k : List ℕ) → what_of (at (kept_entries w os es) k) ≡ cond (is_gone w es os k) neither (what_back w es k)
kept_what w os es k =
    ap what_of (at-each (λ j e. if_written (owns w j) unwritten e) (without (is_gone w es os) es) k ∙ ap (λ o. option_map (λ e. if_written (owns w k) unwritten e) o) (at-without (is_gone w es os) es k)) ∙ of (is_gone w es os k)
  where
    of : (b : Bool) → what_of (option_map (λ e. if_written (owns w k) unwritten e) (cond b None (at es k))) ≡ cond b neither (what_back w es k)
    of true = refl
    of false = back_over (owns w k) (at es k)

-- what is there of an entry that is dropped, or stays as it was
dropped_what : (w : Write) (es : Keyed Entry) (k : List ℕ) → what_of (at (without (owns_at w es) es) k) ≡ cond (owns_at w es k) neither (what_back w es k)
dropped_what w es k = ap what_of (at-without (owns_at w es) es k) ∙ of (owns_at w es k) refl
  where
    of : (b : Bool) → owns_at w es k ≡ b → what_of (cond b None (at es k)) ≡ cond b neither (what_back w es k)
    of true h = refl
    of false h = other_back w es k h

pub failed_what : (session : Option ℕ) (w : Write) (os : List Owner) (es : Keyed Entry) (k : List ℕ) → what_of (at (failed_entries session w os es) k) ≡ cond (is_lost w os es k) neither (what_back w es k)
failed_what session w os es k = of (is_owner w.stage) (is_single w.request) refl
  where
    found : what_of (at (owned_left session (found_owners w os es) (kept_entries w os es)) k) ≡ cond (is_gone w es os k) neither (what_back w es k)
    found = own_neither session (found_owners w os es) (kept_entries w os es) k ∙ kept_what w os es k

    -- of a write that owns nothing nothing is gone
    none : is_owner w.stage ≡ false → cond (is_gone w es os k) neither (what_back w es k) ≡ cond (owns_at w es k) neither (what_back w es k)
    none h = ap (λ b. cond (((b && covers w k) && is_writing (at es k)) && not (is_shown es os k)) neither (what_back w es k)) h ∙ sym (ap (λ b. cond ((b && covers w k) && is_writing (at es k)) neither (what_back w es k)) h)

    of : (a b : Bool) → is_owner w.stage ≡ a → what_of (at (cond (a && b) (without (owns_at w es) es) (owned_left session (found_owners w os es) (kept_entries w os es))) k) ≡ cond (cond b (owns_at w es k) (is_gone w es os k)) neither (what_back w es k)
    of true true h = dropped_what w es k
    of true false h = found
    of false true h = found ∙ none h
    of false false h = found

pub lost_what : (session : Option ℕ) (w : Write) (os : List Owner) (es : Keyed Entry) (k : List ℕ) → is_lost w os es k ≡ true → neither ≡ what_of (at (failed_entries session w os es) k)
lost_what session w os es k h = sym (failed_what session w os es k ∙ ap (λ b. cond b neither (what_back w es k)) h)

pub stays_what : (session : Option ℕ) (w : Write) (os : List Owner) (es : Keyed Entry) (k : List ℕ) → is_lost w os es k ≡ false → what_back w es k ≡ what_of (at (failed_entries session w os es) k)
stays_what session w os es k h = sym (failed_what session w os es k ∙ ap (λ b. cond b neither (what_back w es k)) h)
