-- A key of which a proxy has nothing, with its reads: nobody waits there, no acquire is of it. It stays so whatever comes to the reads.
use Rattle.std.proofs.Common.{◌≡◌, ℕ, Bool, true, false, cond, not, ◌&&◌, ◌||◌, List, [], ◌∷◌, ◌++◌, map, Option, None, Some, is_some, ◌==◌, refl, sym, ◌∙◌, ap, subst}
use Rattle.std.specs.List.{list_all}
use Rattle.etcd_types.specs.declared.answer.Answer.{Answer}
use Rattle.etcd_types.specs.declared.answer.Answer.TheVariants as answer
use Rattle.etcd_types.specs.declared.record.Header.{Header}
use Rattle.etcd_types.specs.declared.record.Kv.{Kv}
use Rattle.etcd_types.specs.Keys.{same}
use Rattle.etcd_types.proofs.Bools.{and_first, and_second, and_both, and_false}
use Rattle.etcd_types.proofs.KeyOrder.{same-equal}
use Rattle.proxy_model.specs.declared.lease.Entry.{Entry}
use Rattle.proxy_model.specs.declared.ownership.Claim.{Claim}
use Rattle.proxy_model.specs.declared.ownership.Claim.TheVariants.{Acquired, OwnedBy}
use Rattle.proxy_model.specs.declared.ownership.Owner.{Owner}
use Rattle.proxy_model.specs.Acquire.{claimed}
use Rattle.proxy_model.specs.Keyed.{Keyed, at, with_at}
use Rattle.proxy_model.proofs.KeyedLaws.{at-with_at}
use Rattle.wait_model.specs.declared.sending.Sending.TheVariants as sending
use Rattle.wait_model.specs.declared.wait.Settled.{Settled}
use Rattle.wait_model.specs.declared.wait.Settled.TheVariants as settled
use Rattle.wait_model.specs.Asked.{acquire_begun, acquire_ended}
use Rattle.wait_model.specs.Edits.{without}
use Rattle.wait_model.specs.Endings.{answered, forgotten}
use Rattle.wait_model.specs.GuardedAnswers.{Ending}
use Rattle.etcd_types.specs.declared.code.TheConstants.{NOT_FOUND}
use Rattle.wait_model.specs.Phases.{is_session}
use Rattle.wait_model.specs.State.{Ownership}
use Rattle.wait_model.proofs.Tables.{at-without}
use Rattle.core_laws.specs.Writes.Laws.{OwnersCovered}
use Rattle.read_model.specs.declared.acquire.Acquire.{Acquire}
use Rattle.read_model.specs.declared.asked.Asked.{Asked}
use Rattle.read_model.specs.declared.asked.Stage.{Stage}
use Rattle.read_model.specs.declared.asked.Stage.TheVariants as stage
use Rattle.read_model.specs.declared.asked.Verdict.TheVariants as verdict
use Rattle.read_model.specs.Acquires.{acquires_at, told, acquire_gone, with_entry, won, found_own, acquired, owned_by, acquire_done, AfterAcquire, done_by, acquire_refused, is_to_be_held, answered_acquire, acquire_answered, lost_once, told_lost, acquire_lost}
use Rattle.read_model.specs.PlainRead.{ask_key, shown, called, decision, begun_under, in_stage, decided_ground, decided_ask}
use Rattle.read_model.specs.Release.{stands, ask_stands, released_ground, released_ask, released_from, released}
use Rattle.read_model.specs.SessionEnd.{is_due_acquire, dropped, over, session_over}
use Rattle.read_model.specs.State.{Reads, Moment, Ground, ground_of, on}
use Rattle.read_model.specs.TakingOff.{is_writes, forgotten_all, falls, taken_off}
use Rattle.read_model.specs.WriteAnswers.{settled_ask, ending, answered_by, wait_answered, wait_lost}
use Rattle.core_laws.proofs.Steps.Lists.{all_mapped}
use Rattle.core_fits.specs.Fits.{is_reading}
use Rattle.cached_laws.specs.Untouched.{is_apart}
use Rattle.cached_laws.proofs.Clear.{IsClear, EndClear, answered_clear, lost_clear, forgotten_clear, over_clear}

either : {A : Type 0} (P : A → Type 0) (b : Bool) (x y : A) → P x → P y → P (cond b x y)
either P true x y h i = h
either P false x y h i = i

not_stands : (ticket : ℕ) (e : Option Entry) (c : Option Acquire) (s : Stage) → stands ticket e c s ≡ false → is_reading s ≡ true
not_stands ticket e c (stage.Calling s) h = absurd (cc)
not_stands ticket e c stage.Acquiring h = refl
not_stands ticket e c stage.Joined h = refl
not_stands ticket e c stage.Behind h = refl
not_stands ticket e c stage.Writes h = absurd (cc)
not_stands ticket e c (stage.Grouped s) h = absurd (cc)
not_stands ticket e c (stage.Replied v) h = absurd (cc)

is_off : (a b : Bool) → a ≡ true → not (a && b) ≡ true → b ≡ false
is_off true true h i = absurd (cc)
is_off true false h i = refl
is_off false b h i = absurd (cc)

lost_calm : (members step : ℕ) (a : Asked) → is_reading (lost_once members step a).stage ≡ false
lost_calm members step a = either (λ (s : Stage). is_reading s ≡ false) _ (stage.Replied verdict.Lost) (called step) refl refl

module _ (k : List ℕ) where
  abbrev pub AllApart : List Asked → Type 0
  AllApart xs = list_all (is_apart k) xs ≡ true

  pub record IsUntouched (r : Reads) : Type 0 where
    pub own : IsClear k r.own
    pub acquire : at r.acquires k ≡ None
    pub asks : AllApart r.asks

  abbrev GroundClear : Ground → Type 0
  GroundClear g = IsClear k g.own × (at g.acquires k ≡ None)

  pub apart_calm : (a : Asked) → is_reading a.stage ≡ false → is_apart k a ≡ true
  apart_calm a h = ap (λ (b : Bool). not (b && same (ask_key a) k)) h

  pub apart_other : (a : Asked) → same (ask_key a) k ≡ false → is_apart k a ≡ true
  apart_other a h = ap (λ (b : Bool). not (is_reading a.stage && b)) h ∙ ap not (and_false (is_reading a.stage))

  -- of another key than one where an acquire stands
  other_acquire : (xs : Keyed Acquire) (j : List ℕ) (c : Acquire) → at xs k ≡ None → at xs j ≡ Some c → same j k ≡ false
  other_acquire xs j c n f = by (same j k) refl
    where
      by : (b : Bool) → same j k ≡ b → b ≡ false
      by true e = absurd (let g : None ≡ Some c = sym n ∙ ap (at xs) (sym (same-equal j k e)) ∙ f in cc)
      by false e = refl

  none_other : {A : Type 0} (xs : Keyed A) (j : List ℕ) (o : Option A) → same j k ≡ false → at xs k ≡ None → at (with_at xs j o) k ≡ None
  none_other xs j o n h = at-with_at xs j k o ∙ ap (λ (b : Bool). cond b o (at xs k)) n ∙ h

  none_gone : {A : Type 0} (xs : Keyed A) (j : List ℕ) → at xs k ≡ None → at (with_at xs j None) k ≡ None
  none_gone xs j h = at-with_at xs j k None ∙ either (λ o. o ≡ None) (same j k) None (at xs k) refl h

  none_less : {A : Type 0} (p : List ℕ → Bool) (xs : Keyed A) → at xs k ≡ None → at (without p xs) k ≡ None
  none_less p xs h = at-without p xs k ∙ either (λ o. o ≡ None) (p k) None (at xs k) refl h

  -- ---- releases

  begun_so : (ticket : ℕ) (j : List ℕ) (o : Option ℕ) (g : Ground) → same j k ≡ false → GroundClear g → GroundClear (begun_under ticket j o g)
  begun_so ticket j None g n h = h
  begun_so ticket j (Some x) g n h = (record { bare = h.0.bare; quiet = h.0.quiet }, none_other g.acquires j (Some (record { ticket = ticket; session = x; sending = sending.Due g.own.waits.step })) n h.1)

  pub decided_so : (m : Moment) (g : Ground) (a : Asked) → same (ask_key a) k ≡ false → GroundClear g → GroundClear (decided_ground m g a)
  decided_so m g a n h = begun_so a.ticket (ask_key a) (decision m g (ask_key a)).under g n h

  released_one : (again : Bool) (m : Moment) (g : Ground) (a : Asked) → is_apart k a ≡ true → GroundClear g → GroundClear (released_ground again m g a) × (is_apart k (released_ask again m g a) ≡ true)
  released_one again m g a p h = by (ask_stands g a) again refl
    where
      key : ask_stands g a ≡ false → same (ask_key a) k ≡ false
      key e = is_off (is_reading a.stage) (same (ask_key a) k) (not_stands a.ticket (at g.own.entries (ask_key a)) (at g.acquires (ask_key a)) a.stage e) p

      by : (b c : Bool) → ask_stands g a ≡ b → GroundClear (cond (b || not c) g (decided_ground m g a)) × (is_apart k (cond b a (cond c (decided_ask m g a) (in_stage (called g.own.waits.step) a))) ≡ true)
      by true c e = (h, p)
      by false true e = (decided_so m g a (key e) h, apart_other (decided_ask m g a) (key e))
      by false false e = (h, apart_calm (in_stage (called g.own.waits.step) a) refl)

  released_all : (again : Bool) (m : Moment) (g : Ground) (xs : List Asked) → AllApart xs → GroundClear g → GroundClear (released_from again m g xs).ground × AllApart (released_from again m g xs).asks
  unfolding released_from
  released_all again m g [] p h = (h, refl)
  released_all again m g (a ∷ rest) p h =
      let one = released_one again m g a (and_first (is_apart k a) (list_all (is_apart k) rest) p) h in
      let more = released_all again m (released_ground again m g a) rest (and_second (is_apart k a) (list_all (is_apart k) rest) p) one.0 in
      (more.0, and_both (is_apart k (released_ask again m g a)) (list_all (is_apart k) (released_from again m (released_ground again m g a) rest).asks) one.1 more.1)

  pub released_so : (again : Bool) (m : Moment) (r : Reads) → IsUntouched r → IsUntouched (released again m r)
  released_so again m r h =
      let t = released_all again m (ground_of r) r.asks h.asks (h.own, h.acquire) in
      record { own = t.0.0; acquire = t.0.1; asks = t.1 }

  -- ---- requests change their stages

  pub mapped_so : (f : Asked → Asked) (xs : List Asked) → ((a : Asked) → is_apart k a ≡ true → is_apart k (f a) ≡ true) → AllApart xs → AllApart (map f xs)
  mapped_so f xs g h = all_mapped (is_apart k) (is_apart k) f g xs h

  -- those that pass come to a stage at which none waits as a read
  pub calmed : (b : Asked → Bool) (f : Asked → Asked) (xs : List Asked) → ((a : Asked) → is_reading (f a).stage ≡ false) → AllApart xs → AllApart (map (λ a. cond (b a) (f a) a) xs)
  calmed b f xs n h = mapped_so (λ a. cond (b a) (f a) a) xs (λ a p. either (λ (x : Asked). is_apart k x ≡ true) (b a) (f a) a (apart_calm (f a) (n a)) p) h

  -- ---- a session's end, and requests that end

  pub over_so : (m : Moment) (r : Reads) → IsUntouched r → IsUntouched (session_over m r)
  over_so m r h =
      let c = over_clear k r.own h.own in
      released_so false m (on (over (ground_of r)) r.asks) (record { own = record { bare = c.bare; quiet = c.quiet }; acquire = none_less (λ j. is_due_acquire (at r.acquires j)) r.acquires h.acquire; asks = h.asks })

  forgotten_so : (p : Asked → Bool) (xs : List Asked) (own : Ownership) → IsClear k own → IsClear k (forgotten_all p xs own)
  forgotten_so p [] own h = h
  forgotten_so p (a ∷ rest) own h =
      forgotten_so p rest (cond (p a && is_writes a.stage) (forgotten a.ticket own) own) (either (IsClear k) (p a && is_writes a.stage) (forgotten a.ticket own) own (forgotten_clear k a.ticket own h) h)

  pub taken_off_so : (m : Moment) (p : Asked → Bool) (xs : List Asked) (r : Reads) → AllApart xs → IsUntouched r → IsUntouched (taken_off m p xs r)
  taken_off_so m p xs r t h =
      let c = forgotten_so p r.asks r.own h.own in
      released_so false m (on (dropped (falls p r) (record (ground_of r) { own = forgotten_all p r.asks r.own })) xs) (record { own = record { bare = c.bare; quiet = c.quiet }; acquire = none_less (falls p r) r.acquires h.acquire; asks = t })

  -- ---- acquires

  told_so : (j : List ℕ) (h : Header) (kv : Option Kv) (xs : List Asked) → AllApart xs → AllApart (map (told j (shown h kv)) xs)
  told_so j h kv xs t = calmed (acquires_at j) (in_stage (shown h kv)) xs (λ a. refl) t

  entry_so : (j : List ℕ) (e : Option Entry) (r : Reads) (xs : List Asked) → same j k ≡ false → AllApart xs → IsUntouched r → IsUntouched (on (with_entry j e (acquire_gone j (ground_of r))) xs)
  entry_so j e r xs n t h = record {
    own = record { bare = (none_other r.own.entries j e n h.own.bare.0, h.own.bare.1); quiet = h.own.quiet };
    acquire = none_gone r.acquires j h.acquire;
    asks = t;
  }

  claim_so : (m : Moment) (j : List ℕ) (held : Bool) (h : Header) (c : Claim) (r : Reads) → same j k ≡ false → IsUntouched r → IsUntouched (acquire_done m j held h c r)
  claim_so m j held h (Acquired create kv) r n t = released_so held m (acquired m j held h create kv r) (entry_so j (Some (won held create kv)) r (map (told j (shown h kv)) r.asks) n (told_so j h kv r.asks t.asks) t)
  claim_so m j held h (OwnedBy kv owner) r n t = released_so false m (owned_by m j h kv owner r) (entry_so j (found_own m.session owner (at r.own.entries j)) r (map (told j (shown h kv)) r.asks) n (told_so j h kv r.asks t.asks) t)

  abbrev pub AfterSo : Option AfterAcquire → Type 0
  AfterSo None = Unit {0}
  AfterSo (Some x) = IsUntouched x.reads

  claimed_so : (m : Moment) (j : List ℕ) (held : Bool) (h : Header) (o : Option Claim) (r : Reads) → same j k ≡ false → IsUntouched r → AfterSo (done_by m j held h o r)
  claimed_so m j held h None r n t = tt
  claimed_so m j held h (Some c) r n t = claim_so m j held h c r n t

  gone_so : (j : List ℕ) (r : Reads) (xs : List Asked) → AllApart xs → IsUntouched r → IsUntouched (on (acquire_gone j (ground_of r)) xs)
  gone_so j r xs a t = record { own = record { bare = t.own.bare; quiet = t.own.quiet }; acquire = none_gone r.acquires j t.acquire; asks = a }

  refused_so : (m : Moment) (j : List ℕ) (ends : Bool) (r : Reads) → IsUntouched r → IsUntouched (acquire_refused m j ends r).reads
  refused_so m j true r t = over_so m (on (acquire_gone j (ground_of r)) r.asks) (gone_so j r r.asks t.asks t)
  refused_so m j false r t = released_so false m (on (acquire_gone j (ground_of r)) r.asks) (gone_so j r r.asks t.asks t)

  acquire_so : (m : Moment) (j : List ℕ) (o : Option Acquire) (a : Answer) (r : Reads) → at r.acquires j ≡ o → IsUntouched r → AfterSo (answered_acquire m j o a r)
  acquire_so m j None a r f t = t
  acquire_so m j (Some c) (answer.Done reply) r f t = claimed_so m j (is_to_be_held m j c r) reply.header (claimed r.own.waits.prefix j reply) r (other_acquire r.acquires j c t.acquire f) t
  acquire_so m j (Some c) (answer.Refused x) r f t = refused_so m j (is_session m.session c.session && (x.code == NOT_FOUND)) r t

  pub acquire_answered_so : (m : Moment) (j : List ℕ) (a : Answer) (r : Reads) → IsUntouched r → AfterSo (acquire_answered m j a r)
  acquire_answered_so m j a r t = acquire_so m j (at r.acquires j) a r refl t

  pub acquire_lost_so : (members : ℕ) (m : Moment) (j : List ℕ) (r : Reads) → IsUntouched r → IsUntouched (acquire_lost members m j r)
  acquire_lost_so members m j r t =
      released_so false m (on (acquire_gone j (ground_of r)) (map (told_lost members r.own.waits.step j) r.asks)) (gone_so j r (map (told_lost members r.own.waits.step j) r.asks) (calmed (acquires_at j) (lost_once members r.own.waits.step) r.asks (lost_calm members r.own.waits.step) t.asks) t)

  -- ---- writes' answers and losses

  settled_so : (s : Settled) (xs : List Asked) → AllApart xs → AllApart (map (settled_ask s) xs)
  settled_so (settled.Reply ticket a) xs t = calmed (λ x. x.ticket == ticket) (in_stage (stage.Replied (verdict.Said a))) xs (λ x. refl) t
  settled_so (settled.Failed ticket) xs t = calmed (λ x. x.ticket == ticket) (in_stage (stage.Replied verdict.Lost)) xs (λ x. refl) t
  settled_so settled.Nothing xs t = mapped_so (settled_ask settled.Nothing) xs (λ x p. p) t

  abbrev pub ReadsIf : Option Reads → Type 0
  ReadsIf None = Unit {0}
  ReadsIf (Some r) = IsUntouched r

  ending_so : (m : Moment) (o : Option Ending) (r : Reads) → EndClear k o → IsUntouched r → ReadsIf (answered_by m o r)
  ending_so m None r e t = tt
  ending_so m (Some x) r e t = released_so true m (ending x r) (record { own = e; acquire = t.acquire; asks = settled_so x.settled r.asks t.asks })

  pub wait_answered_so : (m : Moment) (call : ℕ) (a : Answer) (r : Reads) → OwnersCovered (Rattle.wait_model.specs.Writes.sends call) a r.own → IsUntouched r → ReadsIf (wait_answered m call a r)
  wait_answered_so m call a r v t = ending_so m (answered call a m.session m.now r.own) r (answered_clear k call a m.session m.now r.own v t.own) t

  pub wait_lost_so : (m : Moment) (call : ℕ) (r : Reads) → IsUntouched r → IsUntouched (wait_lost m call r)
  wait_lost_so m call r t =
      released_so false m (ending (Rattle.wait_model.specs.Endings.lost call r.own) r) (record { own = lost_clear k call r.own t.own; acquire = t.acquire; asks = settled_so (Rattle.wait_model.specs.Endings.lost call r.own).settled r.asks t.asks })
