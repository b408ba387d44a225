-- A read that waits for the acquire that is due for it: it goes on so, whatever comes to the reads, until it has a reply or the acquire
-- is sent.
use Rattle.std.proofs.Common.{◌≡◌, ℕ, Bool, true, false, cond, not, ◌&&◌, ◌||◌, ◌==◌, ◌-◌, nat_le, List, [], ◌∷◌, ◌++◌, map, filter, Option, None, Some, is_some, refl, sym, ◌∙◌, ap, subst}
use Rattle.std.specs.List.{list_all, list_any}
use Rattle.etcd_types.specs.declared.answer.Answer.{Answer}
use Rattle.etcd_types.specs.declared.answer.Answer.TheVariants as answer
use Rattle.etcd_types.specs.declared.record.Header.{Header}
use Rattle.etcd_types.specs.declared.record.Kv.{Kv}
use Rattle.etcd_types.specs.Keys.{same}
use Rattle.etcd_types.proofs.Bools.{and_first, and_second, and_both, and_false}
use Rattle.etcd_types.proofs.KeyOrder.{same-equal, same-itself}
use Rattle.proxy_model.specs.declared.lease.Entry.{Entry}
use Rattle.proxy_model.specs.declared.lease.Phase.{Phase}
use Rattle.proxy_model.specs.declared.lease.Phase.TheVariants.{Held, Writing, Leaving}
use Rattle.proxy_model.specs.declared.ownership.Claim.{Claim}
use Rattle.proxy_model.specs.declared.ownership.Claim.TheVariants.{Acquired, OwnedBy}
use Rattle.proxy_model.specs.Acquire.{claimed}
use Rattle.proxy_model.specs.Keyed.{Keyed, at, with_at, changed_at}
use Rattle.proxy_model.proofs.KeyedLaws.{at-with_at}
use Rattle.wait_model.specs.declared.sending.Sending.TheVariants as sending
use Rattle.wait_model.specs.declared.wait.Settled.{Settled}
use Rattle.wait_model.specs.declared.wait.Settled.TheVariants as settled
use Rattle.etcd_types.specs.declared.code.TheConstants.{NOT_FOUND}
use Rattle.wait_model.specs.Phases.{is_session}
use Rattle.wait_model.specs.Edits.{without}
use Rattle.wait_model.specs.Endings.{answered}
use Rattle.wait_model.specs.GuardedAnswers.{Ending}
use Rattle.wait_model.proofs.Tables.{at-without}
use Rattle.read_model.specs.declared.acquire.Acquire.{Acquire}
use Rattle.read_model.specs.declared.asked.Asked.{Asked}
use Rattle.read_model.specs.declared.asked.Stage.{Stage}
use Rattle.read_model.specs.declared.asked.Stage.TheVariants as stage
use Rattle.read_model.specs.declared.asked.Verdict.{Verdict}
use Rattle.read_model.specs.declared.asked.Verdict.TheVariants as verdict
use Rattle.read_model.specs.Acquires.{is_acquiring, acquires_at, told, acquire_gone, acquired, owned_by, acquire_done, AfterAcquire, done_by, acquire_refused, is_to_be_held, answered_acquire, acquire_answered, lost_once, told_lost, acquire_lost, sent_out}
use Rattle.read_model.specs.PlainRead.{ask_key, shown, called, held_turn, read_turn, decision, begun_under, in_stage, decided_ground, decided_ask, acquirable, Decision}
use Rattle.read_model.specs.Release.{stands, ask_stands, released_ground, released_ask, released_from, released}
use Rattle.read_model.specs.SessionEnd.{is_due, is_due_acquire, dropped}
use Rattle.read_model.specs.State.{Reads, Moment, Ground, ground_of, on}
use Rattle.read_model.specs.TakingOff.{forgotten_all, falls, taken_off}
use Rattle.read_model.specs.WriteAnswers.{settled_ask, ending, answered_by, wait_answered, wait_lost}
use Rattle.std.specs.Option.{option_to_list, option_map}
use Rattle.proxy_model.specs.Snapshot.{plain_body}
use Rattle.core_model.specs.ClockWork.{request_time, is_replied, times_out, timed_out_ask}
use Rattle.core_model.specs.Lookups.{has_ticket, without_ask}
use Rattle.cached_laws.specs.Awaited.{is_due_for, holds, is_over, Waits, waits, over}
use Rattle.core_laws.proofs.Steps.Lists.{all_kept, all_mapped, all_filtered, all_pushed, same_number, number_itself}

either : {A : Type 0} (P : A → Type 0) (b : Bool) (x y : A) → P x → P y → P (cond b x y)
either P true x y h i = h
either P false x y h i = i

due_some : (ticket : ℕ) (o : Option Acquire) → is_due_for ticket o ≡ true → is_some o ≡ true
due_some ticket None h = absurd (cc)
due_some ticket (Some c) h = refl

due_acquire : (ticket : ℕ) (o : Option Acquire) → is_due_for ticket o ≡ true → is_due_acquire o ≡ true
due_acquire ticket None h = absurd (cc)
due_acquire ticket (Some c) h = and_second (c.ticket == ticket) (is_due c.sending) h

due_named : (ticket : ℕ) (o : Option Acquire) → is_due_for ticket o ≡ true → (n : ℕ) → (n == ticket) ≡ true → Rattle.read_model.specs.Release.names n o ≡ true
due_named ticket None h n e = absurd (cc)
due_named ticket (Some c) h n e =
    let a = same_number c.ticket ticket (and_first (c.ticket == ticket) (is_due c.sending) h) in
    let b = same_number n ticket e in
    ap (λ (m : ℕ). m == n) (a ∙ sym b) ∙ number_itself n

held_waits : (h : Header) (step : ℕ) (kv : Option Kv) (p : Phase) → is_acquiring (held_turn h step kv p) ≡ false
held_waits h step kv Held = refl
held_waits h step kv (Writing revoked) = refl
held_waits h step kv (Leaving sent) = refl

-- where an acquire stands, none is made
pub claimed_turn : (h : Header) (step : ℕ) (e : Option Entry) (claimed : Bool) (under : Option ℕ) → claimed ≡ true → (is_acquiring (read_turn h step e claimed under).stage ≡ false) × ((read_turn h step e claimed under).under ≡ None)
claimed_turn h step (Some e) claimed under c = (held_waits h step e.kv e.phase, refl)
claimed_turn h step None true under c = (refl, refl)
claimed_turn h step None false under c = absurd (cc)

lost_waits : (members step : ℕ) (a : Asked) → is_acquiring (lost_once members step a).stage ≡ false
lost_waits members step a = either (λ (s : Stage). is_acquiring s ≡ false) _ (stage.Replied verdict.Lost) (called step) refl refl

reading_waits : (s : Stage) → is_replied s ≡ true → is_acquiring s ≡ false
reading_waits (stage.Replied v) h = refl
reading_waits (stage.Calling s) h = refl
reading_waits stage.Acquiring h = absurd (cc)
reading_waits stage.Joined h = refl
reading_waits stage.Behind h = refl
reading_waits stage.Writes h = refl
reading_waits (stage.Grouped s) h = refl

acquiring_stage : (ticket : ℕ) (e : Option Entry) (c : Option Acquire) (s : Stage) → is_acquiring s ≡ true → Rattle.read_model.specs.Release.names ticket c ≡ true → stands ticket e c s ≡ true
acquiring_stage ticket e c stage.Acquiring h n = n
acquiring_stage ticket e c (stage.Calling s) h n = refl
acquiring_stage ticket e c stage.Joined h n = absurd (cc)
acquiring_stage ticket e c stage.Behind h n = absurd (cc)
acquiring_stage ticket e c stage.Writes h n = refl
acquiring_stage ticket e c (stage.Grouped s) h n = refl
acquiring_stage ticket e c (stage.Replied v) h n = refl

replied_stands : (ticket : ℕ) (e : Option Entry) (c : Option Acquire) (s : Stage) → is_replied s ≡ true → stands ticket e c s ≡ true
replied_stands ticket e c (stage.Replied v) h = refl
replied_stands ticket e c (stage.Calling s) h = refl
replied_stands ticket e c stage.Acquiring h = absurd (cc)
replied_stands ticket e c stage.Joined h = absurd (cc)
replied_stands ticket e c stage.Behind h = absurd (cc)
replied_stands ticket e c stage.Writes h = refl
replied_stands ticket e c (stage.Grouped s) h = refl

or_cases : {A : Type 0} (a b : Bool) → a || b ≡ true → (a ≡ true → A) → (b ≡ true → A) → A
or_cases true b h f g = f refl
or_cases false b h f g = g h

not_both : {A : Type 0} (b : Bool) → b ≡ true → b ≡ false → A
not_both b h i = absurd (let e : true ≡ false = sym h ∙ i in cc)

-- `ticket` is the read's, `k` its key, and it was asked at this reading of the clock
module _ (ticket : ℕ) (k : List ℕ) (since : ℕ) where
  abbrev pub AllHold : List Asked → Type 0
  AllHold xs = list_all (holds ticket k since) xs ≡ true

  abbrev pub AllOver : List Asked → Type 0
  AllOver xs = list_all (is_over ticket k since) xs ≡ true

  abbrev pub ReadsWait : Reads → Type 0
  ReadsWait r = (Waits ticket k since) r.acquires r.asks

  -- ---- one request

  pub mine : (a : Asked) → holds ticket k since a ≡ true → (a.ticket == ticket) ≡ true → ((a.asked == since) ≡ true) × (acquires_at k a || is_replied a.stage ≡ true)
  mine a h e =
      let both : a.asked == since && (acquires_at k a || is_replied a.stage) ≡ true = sym (ap (λ (b : Bool). cond b (a.asked == since && (acquires_at k a || is_replied a.stage)) (not (acquires_at k a))) e) ∙ h in
      (and_first (a.asked == since) (acquires_at k a || is_replied a.stage) both, and_second (a.asked == since) (acquires_at k a || is_replied a.stage) both)

  pub acquirer : (a : Asked) → holds ticket k since a ≡ true → acquires_at k a ≡ true → (a.ticket == ticket) ≡ true
  acquirer a h t = by (a.ticket == ticket) refl
    where
      by : (b : Bool) → (a.ticket == ticket) ≡ b → b ≡ true
      by true e = refl
      by false e = not_both (acquires_at k a) t (off (acquires_at k a) (sym (ap (λ (b : Bool). cond b (a.asked == since && (acquires_at k a || is_replied a.stage)) (not (acquires_at k a))) e) ∙ h))
        where
          off : (b : Bool) → not b ≡ true → b ≡ false
          off true i = absurd (cc)
          off false i = refl

  -- another one that doesn't wait so
  pub other_holds : (a : Asked) → (a.ticket == ticket) ≡ false → acquires_at k a ≡ false → holds ticket k since a ≡ true
  other_holds a e n = ap (λ (b : Bool). cond b (a.asked == since && (acquires_at k a || is_replied a.stage)) (not (acquires_at k a))) e ∙ ap not n

  pub replied_holds : (v : Verdict) (a : Asked) → holds ticket k since a ≡ true → (holds ticket k since) (in_stage (stage.Replied v) a) ≡ true
  replied_holds v a h = by (a.ticket == ticket) refl
    where
      by : (b : Bool) → (a.ticket == ticket) ≡ b → cond b (a.asked == since && true) true ≡ true
      by true e = and_both (a.asked == since) true (mine a h e).0 refl
      by false e = refl

  pub replied_over : (v : Verdict) (a : Asked) → (is_over ticket k since) (in_stage (stage.Replied v) a) ≡ true
  replied_over v a = either (λ (b : Bool). b ≡ true) (a.ticket == ticket) true true refl refl

  pub other_over : (a : Asked) → (a.ticket == ticket) ≡ false → is_over ticket k since a ≡ true
  other_over a e = ap (λ (b : Bool). cond b (is_replied a.stage) true) e

  pub over_mine : (a : Asked) → is_over ticket k since a ≡ true → (a.ticket == ticket) ≡ true → is_replied a.stage ≡ true
  over_mine a h e = sym (ap (λ (b : Bool). cond b (is_replied a.stage) true) e) ∙ h

  -- at no stage of waiting for an acquire and without a reply it is another one's
  pub elsewhere : (a : Asked) → is_acquiring a.stage ≡ false → is_replied a.stage ≡ false → (holds ticket k since a ≡ true → (a.ticket == ticket) ≡ false) × (is_over ticket k since a ≡ true → (a.ticket == ticket) ≡ false)
  elsewhere a n r = (λ h. by_hold h (a.ticket == ticket) refl, λ h. by_over h (a.ticket == ticket) refl)
    where
      by_hold : holds ticket k since a ≡ true → (b : Bool) → (a.ticket == ticket) ≡ b → b ≡ false
      by_hold h true e = or_cases (acquires_at k a) (is_replied a.stage) (mine a h e).1 (λ t. not_both (is_acquiring a.stage) (and_first (is_acquiring a.stage) (same (ask_key a) k) t) n) (λ t. not_both (is_replied a.stage) t r)
      by_hold h false e = refl

      by_over : is_over ticket k since a ≡ true → (b : Bool) → (a.ticket == ticket) ≡ b → b ≡ false
      by_over h true e = not_both (is_replied a.stage) (over_mine a h e) r
      by_over h false e = refl

  calm_at : (a : Asked) → is_acquiring a.stage ≡ false → acquires_at k a ≡ false
  calm_at a h = ap (λ (b : Bool). b && same (ask_key a) k) h

  -- ---- releases

  unstanding : (g : Ground) (a : Asked) → is_due_for ticket (at g.acquires k) ≡ true → holds ticket k since a ≡ true → ask_stands g a ≡ false → (a.ticket == ticket) ≡ false
  unstanding g a d h n = by (a.ticket == ticket) refl
    where
      standing : (a.ticket == ticket) ≡ true → ask_stands g a ≡ true
      standing e =
          or_cases (acquires_at k a) (is_replied a.stage) (mine a h e).1
          (λ t.
          let key = same-equal (ask_key a) k (and_second (is_acquiring a.stage) (same (ask_key a) k) t) in
          acquiring_stage a.ticket (at g.own.entries (ask_key a)) (at g.acquires (ask_key a)) a.stage (and_first (is_acquiring a.stage) (same (ask_key a) k) t)
          (due_named ticket (at g.acquires (ask_key a)) (ap (λ (j : List ℕ). is_due_for ticket (at g.acquires j)) key ∙ d) a.ticket e))
          (λ t. replied_stands a.ticket (at g.own.entries (ask_key a)) (at g.acquires (ask_key a)) a.stage t)

      by : (b : Bool) → (a.ticket == ticket) ≡ b → b ≡ false
      by true e = not_both (ask_stands g a) (standing e) n
      by false e = refl

  -- a read that is decided, where the acquire stands: it makes none of that key
  pub decided_waits : (m : Moment) (g : Ground) (a : Asked) → is_due_for ticket (at g.acquires k) ≡ true → (acquires_at k (decided_ask m g a) ≡ false) × (is_due_for ticket (at (decided_ground m g a).acquires k) ≡ true)
  decided_waits m g a d = by (same (ask_key a) k) refl
    where
      turn : (j : List ℕ) → is_some (at g.acquires j) ≡ true → (is_acquiring (decision m g j).stage ≡ false) × ((decision m g j).under ≡ None)
      turn j s = claimed_turn m.header g.own.waits.step (at g.own.entries j) (is_some (at g.acquires j)) (acquirable m g.own j) s

      begun_other : (o : Option ℕ) → same (ask_key a) k ≡ false → is_due_for ticket (at (begun_under a.ticket (ask_key a) o g).acquires k) ≡ true
      begun_other None e = d
      begun_other (Some n) e =
          ap (is_due_for ticket)
          (at-with_at g.acquires (ask_key a) k (Some (record { ticket = a.ticket; session = n; sending = sending.Due g.own.waits.step }))
          ∙ ap (λ (b : Bool). cond b (Some (record { ticket = a.ticket; session = n; sending = sending.Due g.own.waits.step })) (at g.acquires k)) e)
          ∙ d

      by : (b : Bool) → same (ask_key a) k ≡ b → (acquires_at k (decided_ask m g a) ≡ false) × (is_due_for ticket (at (decided_ground m g a).acquires k) ≡ true)
      by true e =
          let key = same-equal (ask_key a) k e in
          let t = turn (ask_key a) (due_some ticket (at g.acquires (ask_key a)) (ap (λ (j : List ℕ). is_due_for ticket (at g.acquires j)) key ∙ d)) in
          (calm_at (decided_ask m g a) t.0, ap (λ (o : Option ℕ). is_due_for ticket (at (begun_under a.ticket (ask_key a) o g).acquires k)) t.1 ∙ d)
      by false e = (ap (λ (b : Bool). is_acquiring (decision m g (ask_key a)).stage && b) e ∙ and_false (is_acquiring (decision m g (ask_key a)).stage), begun_other (decision m g (ask_key a)).under e)

  released_one : (again : Bool) (m : Moment) (g : Ground) (a : Asked) → is_due_for ticket (at g.acquires k) ≡ true → holds ticket k since a ≡ true → (is_due_for ticket (at (released_ground again m g a).acquires k) ≡ true) × (holds ticket k since (released_ask again m g a) ≡ true)
  released_one again m g a d h = by (ask_stands g a) again refl
    where
      by : (b c : Bool) → ask_stands g a ≡ b → (is_due_for ticket (at (cond (b || not c) g (decided_ground m g a)).acquires k) ≡ true) × (holds ticket k since (cond b a (cond c (decided_ask m g a) (in_stage (called g.own.waits.step) a))) ≡ true)
      by true c e = (d, h)
      by false true e = let t = decided_waits m g a d in (t.1, other_holds (decided_ask m g a) (unstanding g a d h e) t.0)
      by false false e = (d, other_holds (in_stage (called g.own.waits.step) a) (unstanding g a d h e) refl)

  released_wait : (again : Bool) (m : Moment) (g : Ground) (xs : List Asked) → is_due_for ticket (at g.acquires k) ≡ true → AllHold xs → (is_due_for ticket (at (released_from again m g xs).ground.acquires k) ≡ true) × AllHold (released_from again m g xs).asks
  unfolding released_from
  released_wait again m g [] d h = (d, refl)
  released_wait again m g (a ∷ rest) d h =
      let one = released_one again m g a d (and_first (holds ticket k since a) (list_all (holds ticket k since) rest) h) in
      let more = released_wait again m (released_ground again m g a) rest one.0 (and_second (holds ticket k since a) (list_all (holds ticket k since) rest) h) in
      (more.0, and_both (holds ticket k since (released_ask again m g a)) (list_all (holds ticket k since) (released_from again m (released_ground again m g a) rest).asks) one.1 more.1)

  over_one : (again : Bool) (m : Moment) (g : Ground) (a : Asked) → is_over ticket k since a ≡ true → (is_over ticket k since) (released_ask again m g a) ≡ true
  over_one again m g a h = by (ask_stands g a) again refl
    where
      apart : ask_stands g a ≡ false → (a.ticket == ticket) ≡ false
      apart n = by_ticket (a.ticket == ticket) refl
        where
          by_ticket : (b : Bool) → (a.ticket == ticket) ≡ b → b ≡ false
          by_ticket true e = not_both (ask_stands g a) (replied_stands a.ticket (at g.own.entries (ask_key a)) (at g.acquires (ask_key a)) a.stage (over_mine a h e)) n
          by_ticket false e = refl

      by : (b c : Bool) → ask_stands g a ≡ b → (is_over ticket k since) (cond b a (cond c (decided_ask m g a) (in_stage (called g.own.waits.step) a))) ≡ true
      by true c e = h
      by false true e = other_over (decided_ask m g a) (apart e)
      by false false e = other_over (in_stage (called g.own.waits.step) a) (apart e)

  released_over : (again : Bool) (m : Moment) (g : Ground) (xs : List Asked) → AllOver xs → AllOver (released_from again m g xs).asks
  unfolding released_from
  released_over again m g [] h = refl
  released_over again m g (a ∷ rest) h =
      and_both (is_over ticket k since (released_ask again m g a)) (list_all (is_over ticket k since) (released_from again m (released_ground again m g a) rest).asks) (over_one again m g a (and_first (is_over ticket k since a) (list_all (is_over ticket k since) rest) h)) (released_over again m (released_ground again m g a) rest (and_second (is_over ticket k since a) (list_all (is_over ticket k since) rest) h))

  pub released_so : (again : Bool) (m : Moment) (r : Reads) → ReadsWait r → ReadsWait (released again m r)
  released_so again m r (waits d h) = let t = released_wait again m (ground_of r) r.asks d h in waits t.0 t.1
  released_so again m r (over h) = over (released_over again m (ground_of r) r.asks h)

  -- ---- requests change their stages

  -- those that pass are others
  pub others_so : (acquires : Keyed Acquire) (b : Asked → Bool) (f : Asked → Asked) (xs : List Asked) → ((a : Asked) → (f a).ticket ≡ a.ticket) → ((a : Asked) → is_acquiring (f a).stage ≡ false)
      → ((a : Asked) → b a ≡ true → (holds ticket k since a ≡ true → (a.ticket == ticket) ≡ false) × (is_over ticket k since a ≡ true → (a.ticket == ticket) ≡ false)) → Waits ticket k since acquires xs → Waits ticket k since acquires (map (λ a. cond (b a) (f a) a) xs)
  others_so acquires b f xs same_ticket calm others (waits d h) = waits d (all_mapped (holds ticket k since) (holds ticket k since) (λ a. cond (b a) (f a) a) (λ a t. by a t (b a) refl) xs h)
    where
      by : (a : Asked) → holds ticket k since a ≡ true → (c : Bool) → b a ≡ c → (holds ticket k since) (cond c (f a) a) ≡ true
      by a t true e = other_holds (f a) (ap (λ (n : ℕ). n == ticket) (same_ticket a) ∙ (others a e).0 t) (calm_at (f a) (calm a))
      by a t false e = t
  others_so acquires b f xs same_ticket calm others (over h) = over (all_mapped (is_over ticket k since) (is_over ticket k since) (λ a. cond (b a) (f a) a) (λ a t. by a t (b a) refl) xs h)
    where
      by : (a : Asked) → is_over ticket k since a ≡ true → (c : Bool) → b a ≡ c → (is_over ticket k since) (cond c (f a) a) ≡ true
      by a t true e = other_over (f a) (ap (λ (n : ℕ). n == ticket) (same_ticket a) ∙ (others a e).1 t)
      by a t false e = t

  -- those that pass have a reply
  pub replied_so : (acquires : Keyed Acquire) (b : Asked → Bool) (v : Verdict) (xs : List Asked) → Waits ticket k since acquires xs → Waits ticket k since acquires (map (λ a. cond (b a) (in_stage (stage.Replied v) a) a) xs)
  replied_so acquires b v xs (waits d h) = waits d (all_mapped (holds ticket k since) (holds ticket k since) (λ a. cond (b a) (in_stage (stage.Replied v) a) a) (λ a t. either (λ (x : Asked). (holds ticket k since) x ≡ true) (b a) (in_stage (stage.Replied v) a) a (replied_holds v a t) t) xs h)
  replied_so acquires b v xs (over h) = over (all_mapped (is_over ticket k since) (is_over ticket k since) (λ a. cond (b a) (in_stage (stage.Replied v) a) a) (λ a t. either (λ (x : Asked). (is_over ticket k since) x ≡ true) (b a) (in_stage (stage.Replied v) a) a (replied_over v a) t) xs h)

  -- ---- requests that end

  passing : (p : Asked → Bool) (xs : List Asked) → AllHold xs → list_any (λ a. p a && acquires_at k a) xs ≡ true → (a : Asked) × (p a ≡ true) × ((a.ticket == ticket) ≡ true) × ((a.asked == since) ≡ true) × (acquires_at k a ≡ true)
  passing p [] h f = absurd (cc)
  passing p (x ∷ xs) h f =
      let here = and_first (holds ticket k since x) (list_all (holds ticket k since) xs) h in
      or_cases (p x && acquires_at k x) (list_any (λ a. p a && acquires_at k a) xs) f
      (λ t.
      let at_k = and_second (p x) (acquires_at k x) t in
      let its = acquirer x here at_k in
      (x, and_first (p x) (acquires_at k x) t, its, (mine x here its).0, at_k))
      (λ t. passing p xs (and_second (holds ticket k since x) (list_all (holds ticket k since) xs) h) t)

  dropped_due : (p : List ℕ → Bool) (acquires : Keyed Acquire) → p k ≡ false → is_due_for ticket (at acquires k) ≡ true → is_due_for ticket (at (without p acquires) k) ≡ true
  dropped_due p acquires n d = ap (is_due_for ticket) (at-without p acquires k ∙ ap (λ (b : Bool). cond b None (at acquires k)) n) ∙ d

  -- where the read itself passes, all of its ticket have a reply or are gone
  pub taken_off_so : (m : Moment) (p : Asked → Bool) (xs : List Asked) (r : Reads) → (AllHold r.asks → AllHold xs) → (AllOver r.asks → AllOver xs)
      → ((a : Asked) → p a ≡ true → (a.ticket == ticket) ≡ true → (a.asked == since) ≡ true → acquires_at k a ≡ true → AllHold r.asks → AllOver xs) → ReadsWait r → ReadsWait (taken_off m p xs r)
  taken_off_so m p xs r kept gone ends (over h) = released_so false m (on (dropped (falls p r) (record (ground_of r) { own = forgotten_all p r.asks r.own })) xs) (over (gone h))
  taken_off_so m p xs r kept gone ends (waits d h) = by (list_any (λ a. p a && acquires_at k a) r.asks) refl
    where
      by : (b : Bool) → list_any (λ a. p a && acquires_at k a) r.asks ≡ b → ReadsWait (taken_off m p xs r)
      by true e = let f = passing p r.asks h e in released_so false m (on (dropped (falls p r) (record (ground_of r) { own = forgotten_all p r.asks r.own })) xs) (over (ends f.0 f.1 f.2 f.3 f.4 h))
      by false e =
          released_so false m (on (dropped (falls p r) (record (ground_of r) { own = forgotten_all p r.asks r.own })) xs)
          (waits (dropped_due (falls p r) r.acquires (ap (λ (b : Bool). b && is_due_acquire (at r.acquires k)) e) d) (kept h))

  times_alike : (now : ℕ) (a b : Asked) → times_out now a ≡ true → (a.asked == since) ≡ true → (b.asked == since) ≡ true → is_replied b.stage ≡ false → times_out now b ≡ true
  times_alike now a b t e f n =
      let over_time : nat_le request_time (now - a.asked) ≡ true = and_second (not (is_replied a.stage)) (nat_le request_time (now - a.asked)) t in
      and_both (not (is_replied b.stage)) (nat_le request_time (now - b.asked)) (ap not n) (ap (λ (m : ℕ). nat_le request_time (now - m)) (same_number b.asked since f ∙ sym (same_number a.asked since e)) ∙ over_time)

  pub times_so : (now : ℕ) (m : Moment) (r : Reads) → ReadsWait r → ReadsWait (taken_off m (times_out now) (map (timed_out_ask now) r.asks) r)
  times_so now m r w =
      taken_off_so m (times_out now) (map (timed_out_ask now) r.asks) r
      (λ h. all_mapped (holds ticket k since) (holds ticket k since) (timed_out_ask now) (λ a t. either (λ (x : Asked). (holds ticket k since) x ≡ true) (times_out now a) (in_stage (stage.Replied verdict.TimedOut) a) a (replied_holds verdict.TimedOut a t) t) r.asks h)
      (λ h. all_mapped (is_over ticket k since) (is_over ticket k since) (timed_out_ask now) (λ a t. either (λ (x : Asked). (is_over ticket k since) x ≡ true) (times_out now a) (in_stage (stage.Replied verdict.TimedOut) a) a (replied_over verdict.TimedOut a) t) r.asks h)
      (λ a p its asked at_k h. all_mapped (holds ticket k since) (is_over ticket k since) (timed_out_ask now) (λ b t. ended a b p asked t (times_out now b) refl) r.asks h)
      w
    where
      ended : (a b : Asked) → times_out now a ≡ true → (a.asked == since) ≡ true → (holds ticket k since) b ≡ true → (c : Bool) → times_out now b ≡ c → (is_over ticket k since) (cond c (in_stage (stage.Replied verdict.TimedOut) b) b) ≡ true
      ended a b p e h true f = replied_over verdict.TimedOut b
      ended a b p e h false f = by_ticket (b.ticket == ticket) refl
        where
          by_stage : (c : Bool) → is_replied b.stage ≡ c → (b.ticket == ticket) ≡ true → c ≡ true
          by_stage true s i = refl
          by_stage false s i = not_both (times_out now b) (times_alike now a b p e (mine b h i).0 s) f

          by_ticket : (c : Bool) → (b.ticket == ticket) ≡ c → cond c (is_replied b.stage) true ≡ true
          by_ticket true i = by_stage (is_replied b.stage) refl i
          by_ticket false i = refl

  pub leaves_so : (other : ℕ) (m : Moment) (r : Reads) → ReadsWait r → ReadsWait (taken_off m (has_ticket other) (without_ask other r.asks) r)
  leaves_so other m r w =
      taken_off_so m (has_ticket other) (without_ask other r.asks) r (λ h. all_filtered (holds ticket k since) (λ a. not (has_ticket other a)) r.asks h) (λ h. all_filtered (is_over ticket k since) (λ a. not (has_ticket other a)) r.asks h)
      (λ a p its asked at_k h. none_left (sym (same_number a.ticket other p) ∙ same_number a.ticket ticket its) r.asks) w
    where
      none_left : other ≡ ticket → (xs : List Asked) → AllOver (filter (λ a. not (has_ticket other a)) xs)
      none_left e [] = refl
      none_left e (x ∷ xs) = by (x.ticket == other) refl (none_left e xs)
        where
          by : (b : Bool) → (x.ticket == other) ≡ b → AllOver (filter (λ a. not (has_ticket other a)) xs) → AllOver (cond (not b) (x ∷ filter (λ a. not (has_ticket other a)) xs) (filter (λ a. not (has_ticket other a)) xs))
          by true i h = h
          by false i h = and_both (is_over ticket k since x) (list_all (is_over ticket k since) (filter (λ a. not (has_ticket other a)) xs)) (other_over x (ap (λ (n : ℕ). x.ticket == n) (sym e) ∙ i)) h

  pub taken_so : (other : ℕ) (acquires : Keyed Acquire) (xs : List Asked) → Waits ticket k since acquires xs → Waits ticket k since acquires (without_ask other xs)
  taken_so other acquires xs (waits d h) = waits d (all_filtered (holds ticket k since) (λ a. not (has_ticket other a)) xs h)
  taken_so other acquires xs (over h) = over (all_filtered (is_over ticket k since) (λ a. not (has_ticket other a)) xs h)

  -- ---- acquires of other keys

  -- one that is out is of another key
  abbrev pub IsOut : Option Acquire → Type 0
  IsOut o = (c : Acquire) → o ≡ Some c → is_due c.sending ≡ false

  other_key : (acquires : Keyed Acquire) (j : List ℕ) (c : Acquire) → at acquires j ≡ Some c → is_due c.sending ≡ false → is_due_for ticket (at acquires k) ≡ true → same j k ≡ false
  other_key acquires j c f o d = by (same j k) refl
    where
      by : (b : Bool) → same j k ≡ b → b ≡ false
      by true e = not_both (is_due c.sending) (and_second (c.ticket == ticket) (is_due c.sending) (ap (is_due_for ticket) (sym f ∙ ap (at acquires) (same-equal j k e)) ∙ d)) o
      by false e = refl

  gone_due : (acquires : Keyed Acquire) (j : List ℕ) (o : Option Acquire) → same j k ≡ false → is_due_for ticket (at acquires k) ≡ true → is_due_for ticket (at (with_at acquires j o) k) ≡ true
  gone_due acquires j o n d = ap (is_due_for ticket) (at-with_at acquires j k o ∙ ap (λ (b : Bool). cond b o (at acquires k)) n) ∙ d

  pub gone_so : (j : List ℕ) (o : Option Acquire) (acquires : Keyed Acquire) (c : Acquire) (xs : List Asked) → at acquires j ≡ Some c → is_due c.sending ≡ false → Waits ticket k since acquires xs → (Waits ticket k since) (with_at acquires j o) xs
  gone_so j o acquires c xs f n (waits d h) = waits (gone_due acquires j o (other_key acquires j c f n d) d) h
  gone_so j o acquires c xs f n (over h) = over h

  told_so : (j : List ℕ) (h : Header) (kv : Option Kv) (acquires : Keyed Acquire) (xs : List Asked) → Waits ticket k since acquires xs → Waits ticket k since acquires (map (told j (shown h kv)) xs)
  told_so j h kv acquires xs w = replied_so acquires (acquires_at j) (verdict.Said (answer.Done (record { header = h; body = plain_body (option_to_list kv) }))) xs w

  claim_so : (m : Moment) (j : List ℕ) (held : Bool) (h : Header) (x : Claim) (r : Reads) (c : Acquire) → at r.acquires j ≡ Some c → is_due c.sending ≡ false → ReadsWait r → ReadsWait (acquire_done m j held h x r)
  claim_so m j held h (Acquired create kv) r c f n w = released_so held m (acquired m j held h create kv r) (gone_so j None r.acquires c (map (told j (shown h kv)) r.asks) f n (told_so j h kv r.acquires r.asks w))
  claim_so m j held h (OwnedBy kv owner) r c f n w = released_so false m (owned_by m j h kv owner r) (gone_so j None r.acquires c (map (told j (shown h kv)) r.asks) f n (told_so j h kv r.acquires r.asks w))

  -- but where the session ends by it
  abbrev pub AfterSo : Option AfterAcquire → Type 0
  AfterSo None = Unit {0}
  AfterSo (Some x) = x.ends ≡ false → ReadsWait x.reads

  claimed_so : (m : Moment) (j : List ℕ) (held : Bool) (h : Header) (o : Option Claim) (r : Reads) (c : Acquire) → at r.acquires j ≡ Some c → is_due c.sending ≡ false → ReadsWait r → AfterSo (done_by m j held h o r)
  claimed_so m j held h None r c f n w = tt
  claimed_so m j held h (Some x) r c f n w = λ e. claim_so m j held h x r c f n w

  refused_so : (m : Moment) (j : List ℕ) (ends : Bool) (r : Reads) (c : Acquire) → at r.acquires j ≡ Some c → is_due c.sending ≡ false → ReadsWait r → AfterSo (Some (acquire_refused m j ends r))
  refused_so m j true r c f n w = λ e. absurd (cc)
  refused_so m j false r c f n w = λ e. released_so false m (on (acquire_gone j (ground_of r)) r.asks) (gone_so j None r.acquires c r.asks f n w)

  acquire_so : (m : Moment) (j : List ℕ) (o : Option Acquire) (a : Answer) (r : Reads) → at r.acquires j ≡ o → IsOut o → ReadsWait r → AfterSo (answered_acquire m j o a r)
  acquire_so m j None a r f n w = λ e. w
  acquire_so m j (Some c) (answer.Done reply) r f n w = claimed_so m j (is_to_be_held m j c r) reply.header (claimed r.own.waits.prefix j reply) r c f (n c refl) w
  acquire_so m j (Some c) (answer.Refused x) r f n w = refused_so m j (is_session m.session c.session && (x.code == NOT_FOUND)) r c f (n c refl) w

  pub acquire_answered_so : (m : Moment) (j : List ℕ) (a : Answer) (r : Reads) → IsOut (at r.acquires j) → ReadsWait r → AfterSo (acquire_answered m j a r)
  acquire_answered_so m j a r n w = acquire_so m j (at r.acquires j) a r refl n w

  lost_others : (j : List ℕ) (acquires : Keyed Acquire) (c : Acquire) → at acquires j ≡ Some c → is_due c.sending ≡ false → (members step : ℕ) (xs : List Asked) → Waits ticket k since acquires xs → Waits ticket k since acquires (map (told_lost members step j) xs)
  lost_others j acquires c f n members step xs (waits d h) = waits d (all_mapped (holds ticket k since) (holds ticket k since) (told_lost members step j) (λ a t. by a t (acquires_at j a) refl) xs h)
    where
      others : (a : Asked) → holds ticket k since a ≡ true → acquires_at j a ≡ true → (a.ticket == ticket) ≡ false
      others a t e = by_ticket (a.ticket == ticket) refl
        where
          acquiring : is_acquiring a.stage ≡ true
          acquiring = and_first (is_acquiring a.stage) (same (ask_key a) j) e

          same_key : acquires_at k a ≡ true → same j k ≡ true
          same_key g = ap (λ (i : List ℕ). same i k) (sym (same-equal (ask_key a) j (and_second (is_acquiring a.stage) (same (ask_key a) j) e))) ∙ and_second (is_acquiring a.stage) (same (ask_key a) k) g

          by_ticket : (b : Bool) → (a.ticket == ticket) ≡ b → b ≡ false
          by_ticket true i = or_cases (acquires_at k a) (is_replied a.stage) (mine a t i).1 (λ g. not_both (same j k) (same_key g) (other_key acquires j c f n d)) (λ g. not_both (is_acquiring a.stage) acquiring (reading_waits a.stage g))
          by_ticket false i = refl

      by : (a : Asked) → holds ticket k since a ≡ true → (b : Bool) → acquires_at j a ≡ b → (holds ticket k since) (cond b (lost_once members step a) a) ≡ true
      by a t true e = other_holds (lost_once members step a) (others a t e) (calm_at (lost_once members step a) (lost_waits members step a))
      by a t false e = t
  lost_others j acquires c f n members step xs (over h) = over (all_mapped (is_over ticket k since) (is_over ticket k since) (told_lost members step j) (λ a t. by a t (acquires_at j a) refl) xs h)
    where
      by : (a : Asked) → is_over ticket k since a ≡ true → (b : Bool) → acquires_at j a ≡ b → (is_over ticket k since) (cond b (lost_once members step a) a) ≡ true
      by a t true e = other_over (lost_once members step a) (by_ticket (a.ticket == ticket) refl)
        where
          by_ticket : (b : Bool) → (a.ticket == ticket) ≡ b → b ≡ false
          by_ticket true i = not_both (is_acquiring a.stage) (and_first (is_acquiring a.stage) (same (ask_key a) j) e) (reading_waits a.stage (over_mine a t i))
          by_ticket false i = refl
      by a t false e = t

  -- the call of the acquire was out
  pub acquire_lost_so : (members : ℕ) (m : Moment) (j : List ℕ) (r : Reads) (c : Acquire) → at r.acquires j ≡ Some c → is_due c.sending ≡ false → ReadsWait r → ReadsWait (acquire_lost members m j r)
  acquire_lost_so members m j r c f n w =
      released_so false m (on (acquire_gone j (ground_of r)) (map (told_lost members r.own.waits.step j) r.asks)) (gone_so j None r.acquires c (map (told_lost members r.own.waits.step j) r.asks) f n (lost_others j r.acquires c f n members r.own.waits.step r.asks w))

  -- ---- writes' answers and losses

  settled_so : (s : Settled) (acquires : Keyed Acquire) (xs : List Asked) → Waits ticket k since acquires xs → Waits ticket k since acquires (map (settled_ask s) xs)
  settled_so (settled.Reply other a) acquires xs w = replied_so acquires (λ x. x.ticket == other) (verdict.Said a) xs w
  settled_so (settled.Failed other) acquires xs w = replied_so acquires (λ x. x.ticket == other) verdict.Lost xs w
  settled_so settled.Nothing acquires xs w = replied_so acquires (λ x. false) verdict.Lost xs w

  abbrev pub ReadsIf : Option Reads → Type 0
  ReadsIf None = Unit {0}
  ReadsIf (Some r) = ReadsWait r

  ending_so : (m : Moment) (o : Option Ending) (r : Reads) → ReadsWait r → ReadsIf (answered_by m o r)
  ending_so m None r w = tt
  ending_so m (Some x) r w = released_so true m (ending x r) (settled_so x.settled r.acquires r.asks w)

  pub wait_answered_so : (m : Moment) (call : ℕ) (a : Answer) (r : Reads) → ReadsWait r → ReadsIf (wait_answered m call a r)
  wait_answered_so m call a r w = ending_so m (answered call a m.session m.now r.own) r w

  pub wait_lost_so : (m : Moment) (call : ℕ) (r : Reads) → ReadsWait r → ReadsWait (wait_lost m call r)
  wait_lost_so m call r w = released_so false m (ending (Rattle.wait_model.specs.Endings.lost call r.own) r) (settled_so (Rattle.wait_model.specs.Endings.lost call r.own).settled r.acquires r.asks w)

  -- ---- an acquire of another key is sent

  pub acquire_sent_so : (j : List ℕ) (call : ℕ) (acquires : Keyed Acquire) (xs : List Asked) → same j k ≡ false → Waits ticket k since acquires xs → (Waits ticket k since) (changed_at acquires j (sent_out call)) xs
  acquire_sent_so j call acquires xs n (waits d h) = waits (gone_due acquires j (option_map (sent_out call) (at acquires j)) n d) h
  acquire_sent_so j call acquires xs n (over h) = over h
