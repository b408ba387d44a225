-- Whatever is done to reads and acquires keeps all named: a request stays what it is, and only what may be acquired is.
use Rattle.std.proofs.Common.{◌≡◌, ℕ, Bool, true, false, not, cond, ◌&&◌, ◌||◌, ◌==◌, List, [], ◌∷◌, map, Option, None, Some, is_some, refl}
use Rattle.std.specs.List.{list_all}
use Rattle.std.specs.Ordering.{nat_cmp}
use Rattle.std.specs.declared.cmp.Ordering.{Ordering}
use Rattle.std.specs.declared.cmp.Ordering.TheVariants.{Less, Equal, Greater}
use Rattle.std.specs.Cmp.Lexicographic.{slice_cmp}
use Rattle.std.specs.FinMap.Entries.{put, by_order}
use Rattle.std.specs.Option.{option_map}
use Rattle.etcd_types.specs.Keys.{is_empty, same}
use Rattle.etcd_types.specs.Ranges.{contains}
use Rattle.etcd_types.specs.declared.answer.Answer.{Answer}
use Rattle.etcd_types.specs.declared.answer.Answer.TheVariants as answer
use Rattle.etcd_types.specs.declared.code.TheConstants.{NOT_FOUND}
use Rattle.etcd_types.specs.declared.record.Header.{Header}
use Rattle.etcd_types.proofs.Bools.{and_first, and_second, and_both}
use Rattle.proxy_model.specs.declared.lease.Entry.{Entry}
use Rattle.proxy_model.specs.declared.ownership.Claim.{Claim}
use Rattle.proxy_model.specs.declared.ownership.Claim.TheVariants.{Acquired, OwnedBy}
use Rattle.proxy_model.specs.Acquire.{claimed}
use Rattle.proxy_model.specs.Keyed.{Keyed, at, with_at}
use Rattle.proxy_model.specs.Prefixes.{leasing_range}
use Rattle.wait_model.specs.GuardedAnswers.{Ending}
use Rattle.wait_model.specs.declared.wait.Settled.{Settled}
use Rattle.wait_model.specs.declared.wait.Settled.TheVariants as settled
use Rattle.wait_model.specs.Endings.{answered, lost, forgotten}
use Rattle.wait_model.specs.Phases.{is_session}
use Rattle.wait_model.specs.SessionEnd.{session_ended}
use Rattle.wait_model.specs.State.{Ownership}
use Rattle.read_model.specs.declared.acquire.Acquire.{Acquire}
use Rattle.read_model.specs.declared.asked.Asked.{Asked}
use Rattle.read_model.specs.declared.asked.Stage.{Stage}
use Rattle.read_model.specs.Acquires.{read_asked, sent_out, acquire_sent, acquires_at, told, acquire_gone, with_entry, won, found_own, AfterAcquire, done_by, acquire_refused, is_to_be_held, answered_acquire, acquire_answered, lost_once, told_lost, acquire_lost}
use Rattle.read_model.specs.PlainRead.{ask_key, called, is_ownable, is_restful, is_written, is_free, acquirable, read_turn, decision, begun_under, in_stage, decided_ground, decided_ask}
use Rattle.read_model.specs.Release.{ask_stands, released_ground, released_ask, Released, released_from, released}
use Rattle.read_model.specs.SessionEnd.{is_due_acquire, over, dropped, session_over}
use Rattle.read_model.specs.State.{Reads, Moment, Ground, ground_of, on}
use Rattle.read_model.specs.TakingOff.{is_writes, forgotten_all, falls, taken_off}
use Rattle.read_model.specs.WriteAnswers.{settled_ask, ending, answered_by, wait_answered, wait_lost}
use Rattle.core_laws.proofs.Steps.Lists.{all_mapped, all_pushed, all_filtered}
use Rattle.namespace_laws.specs.Images.Named.{is_leasing, acquire_named, ask_named, OwnNamed, GroundNamed, ReadsNamed}
use Rattle.namespace_laws.proofs.Images.OwnNaming.{either, leased_own, session_ended_named, answered_named, lost_named, forgotten_named}

abbrev pub AcquiresNamed : List ℕ → Keyed Acquire → Type 0
AcquiresNamed p xs = list_all (acquire_named p) xs ≡ true

abbrev pub AsksNamed : List Asked → Type 0
AsksNamed xs = list_all ask_named xs ≡ true

-- Acquires.

pub put_named : (p k : List ℕ) (x : Acquire) (xs : Keyed Acquire) → is_leasing p && not (is_empty k) ≡ true → AcquiresNamed p xs → AcquiresNamed p (put (slice_cmp nat_cmp) k x xs)
put_named p k x [] e h = and_both (acquire_named p (k, x)) true e refl
put_named p k x (y ∷ ys) e h = by_case (slice_cmp nat_cmp k y.0) (put_named p k x ys e rest)
  where
    first : acquire_named p y ≡ true
    first = and_first (acquire_named p y) (list_all (acquire_named p) ys) h

    rest : AcquiresNamed p ys
    rest = and_second (acquire_named p y) (list_all (acquire_named p) ys) h

    by_case : (o : Ordering) → AcquiresNamed p (put (slice_cmp nat_cmp) k x ys) → AcquiresNamed p (by_order o ((k, x) ∷ y ∷ ys) ((y.0, x) ∷ ys) (y ∷ put (slice_cmp nat_cmp) k x ys))
    by_case Less t = and_both (acquire_named p (k, x)) (list_all (acquire_named p) (y ∷ ys)) e h
    by_case Equal t = and_both (acquire_named p (y.0, x)) (list_all (acquire_named p) ys) first rest
    by_case Greater t = and_both (acquire_named p y) (list_all (acquire_named p) (put (slice_cmp nat_cmp) k x ys)) first t

abbrev pub LeasedIf : List ℕ → Option Acquire → Type 0
LeasedIf p None = Unit {0}
LeasedIf p (Some x) = is_leasing p ≡ true

pub leased_at : (p k : List ℕ) (xs : Keyed Acquire) → AcquiresNamed p xs → LeasedIf p (at xs k)
leased_at p k [] h = tt
leased_at p k (x ∷ xs) h =
    either (LeasedIf p) (same k x.0) (Some x.1) (at xs k)
    (and_first (is_leasing p) (not (is_empty x.0)) (and_first (acquire_named p x) (list_all (acquire_named p) xs) h)) (leased_at p k xs (and_second (acquire_named p x) (list_all (acquire_named p) xs) h))

-- Plain reads: what may be acquired has a key, and leasing is on.

abbrev UnderOk : List ℕ → List ℕ → Option ℕ → Type 0
UnderOk p k None = Unit {0}
UnderOk p k (Some n) = is_leasing p && not (is_empty k) ≡ true

free_ok : (p k : List ℕ) (m : Moment) (own : Ownership) → own.waits.prefix ≡ p → UnderOk p k (acquirable m own k)
free_ok p k m own e = by_test (is_free m own k) refl
  where
    ownable : is_free m own k ≡ true → is_leasing own.waits.prefix && not (is_empty k) ≡ true
    ownable t =
        let a = is_ownable own.waits.prefix k in
        let b = and_second (not (is_written own k)) (a && m.created && is_restful own m.now k) t in
        let d = and_first a m.created (and_first (a && m.created) (is_restful own m.now k) b) in
        and_first (is_leasing own.waits.prefix && not (is_empty k)) (not (contains (leasing_range own.waits.prefix) k)) d

    named : (o : Option ℕ) → is_leasing own.waits.prefix && not (is_empty k) ≡ true → UnderOk p k o
    named None t = tt
    named (Some n) t = rw e at t

    by_test : (b : Bool) → is_free m own k ≡ b → UnderOk p k (cond b m.session None)
    by_test true t = named m.session (ownable t)
    by_test false t = tt

turn_ok : (p k : List ℕ) (h : Header) (step : ℕ) (e : Option Entry) (claimed : Bool) (o : Option ℕ) → UnderOk p k o → UnderOk p k (read_turn h step e claimed o).under
turn_ok p k h step (Some e) claimed o t = tt
turn_ok p k h step None true o t = tt
turn_ok p k h step None false None t = tt
turn_ok p k h step None false (Some n) t = t

begun_named : (p : List ℕ) (ticket : ℕ) (k : List ℕ) (o : Option ℕ) (g : Ground) → UnderOk p k o → GroundNamed p g → GroundNamed p (begun_under ticket k o g)
begun_named p ticket k None g t h = h
begun_named p ticket k (Some n) g t h =
    record { own = record { prefix = h.own.prefix; entries = h.own.entries; writes = h.own.writes }; acquires = put_named p k _ g.acquires t h.acquires }

decided_named : (p : List ℕ) (m : Moment) (g : Ground) (a : Asked) → GroundNamed p g → GroundNamed p (decided_ground m g a)
decided_named p m g a h =
    let k = ask_key a in
    begun_named p a.ticket k (decision m g k).under g (turn_ok p k m.header g.own.waits.step (at g.own.entries k) (is_some (at g.acquires k)) (acquirable m g.own k) (free_ok p k m g.own h.own.prefix)) h

pub read_asked_named : (p : List ℕ) (m : Moment) (a : Asked) (r : Reads) → ask_named a ≡ true → ReadsNamed p r → ReadsNamed p (read_asked m a r)
read_asked_named p m a r k h =
    let g = decided_named p m (ground_of r) a h.ground in
    record { ground = record { own = g.own; acquires = g.acquires }; asks = all_pushed ask_named (decided_ask m (ground_of r) a) r.asks h.asks k }

-- Released.

record ReleasedNamed (p : List ℕ) (x : Released) : Type 0 where
  ground : GroundNamed p x.ground
  asks : AsksNamed x.asks

released_ask_named : (again : Bool) (m : Moment) (g : Ground) (a : Asked) → ask_named a ≡ true → ask_named (released_ask again m g a) ≡ true
released_ask_named again m g a h =
    either (λ (x : Asked). ask_named x ≡ true) (ask_stands g a) a (cond again (decided_ask m g a) (in_stage (called g.own.waits.step) a)) h
    (either (λ (x : Asked). ask_named x ≡ true) again (decided_ask m g a) (in_stage (called g.own.waits.step) a) h h)

released_from_named : (p : List ℕ) (again : Bool) (m : Moment) (g : Ground) (xs : List Asked) → GroundNamed p g → AsksNamed xs → ReleasedNamed p (released_from again m g xs)
unfolding released_from
released_from_named p again m g [] h k = record { ground = h; asks = refl }
released_from_named p again m g (a ∷ rest) h k =
    let d = released_ground again m g a in
    let n : GroundNamed p d = either (GroundNamed p) (ask_stands g a || not again) g (decided_ground m g a) h (decided_named p m g a h) in
    let r = released_from_named p again m d rest n (and_second (ask_named a) (list_all ask_named rest) k) in
    record {
      ground = r.ground;
      asks = and_both (ask_named (released_ask again m g a)) (list_all ask_named (released_from again m d rest).asks) (released_ask_named again m g a (and_first (ask_named a) (list_all ask_named rest) k)) r.asks;
    }

released_named : (p : List ℕ) (again : Bool) (m : Moment) (r : Reads) → ReadsNamed p r → ReadsNamed p (released again m r)
released_named p again m r h =
    let x = released_from_named p again m (ground_of r) r.asks h.ground h.asks in
    record { ground = record { own = x.ground.own; acquires = x.ground.acquires }; asks = x.asks }

-- what is made of these parts
parts_named : (p : List ℕ) (g : Ground) (xs : List Asked) → GroundNamed p g → AsksNamed xs → ReadsNamed p (on g xs)
parts_named p g xs h k = record { ground = record { own = h.own; acquires = h.acquires }; asks = k }

-- a session ends, and requests end

dropped_named : (p : List ℕ) (q : List ℕ → Bool) (g : Ground) → GroundNamed p g → GroundNamed p (dropped q g)
dropped_named p q g h = record {
  own = record { prefix = h.own.prefix; entries = h.own.entries; writes = h.own.writes };
  acquires = all_filtered (acquire_named p) (λ x. not (q x.0)) g.acquires h.acquires;
}

pub session_over_named : (p : List ℕ) (m : Moment) (r : Reads) → ReadsNamed p r → ReadsNamed p (session_over m r)
session_over_named p m r h =
    let g = ground_of r in
    let ended : GroundNamed p (record g { own = session_ended g.own }) = record { own = session_ended_named p r.own h.ground.own; acquires = h.ground.acquires } in
    released_named p false m (on (over g) r.asks) (parts_named p (over g) r.asks (dropped_named p (λ k. is_due_acquire (at g.acquires k)) (record g { own = session_ended g.own }) ended) h.asks)

forgotten_all_named : (p : List ℕ) (q : Asked → Bool) (xs : List Asked) (own : Ownership) → OwnNamed p own → OwnNamed p (forgotten_all q xs own)
forgotten_all_named p q [] own h = h
forgotten_all_named p q (a ∷ rest) own h =
    forgotten_all_named p q rest (cond (q a && is_writes a.stage) (forgotten a.ticket own) own)
    (either (OwnNamed p) (q a && is_writes a.stage) (forgotten a.ticket own) own (forgotten_named p a.ticket own h) h)

pub taken_off_named : (p : List ℕ) (m : Moment) (q : Asked → Bool) (xs : List Asked) (r : Reads) → AsksNamed xs → ReadsNamed p r → ReadsNamed p (taken_off m q xs r)
taken_off_named p m q xs r k h =
    let g = ground_of r in
    let d = record g { own = forgotten_all q r.asks r.own } in
    let n : GroundNamed p d = record { own = forgotten_all_named p q r.asks r.own h.ground.own; acquires = h.ground.acquires } in
    released_named p false m (on (dropped (falls q r) d) xs) (parts_named p (dropped (falls q r) d) xs (dropped_named p (falls q r) d n) k)

-- Acquires end.

abbrev pub AfterNamed : List ℕ → Option AfterAcquire → Type 0
AfterNamed p None = Unit {0}
AfterNamed p (Some x) = ReadsNamed p x.reads

told_named : (k : List ℕ) (s : Stage) (xs : List Asked) → AsksNamed xs → AsksNamed (map (told k s) xs)
told_named k s xs h = all_mapped ask_named ask_named (told k s) (λ a t. either (λ (x : Asked). ask_named x ≡ true) (acquires_at k a) (in_stage s a) a t t) xs h

gone_named : (p k : List ℕ) (g : Ground) → GroundNamed p g → GroundNamed p (acquire_gone k g)
gone_named p k g h = record {
  own = record { prefix = h.own.prefix; entries = h.own.entries; writes = h.own.writes };
  acquires = all_filtered (acquire_named p) (λ x. not (same k x.0)) g.acquires h.acquires;
}

entry_put : (p k : List ℕ) (e : Option Entry) (g : Ground) → is_leasing p ≡ true → GroundNamed p g → GroundNamed p (with_entry k e g)
entry_put p k e g l h = record { own = leased_own p g.own (with_entry k e g).own l refl h.own.writes h.own; acquires = h.acquires }

-- the ground without the acquire, and with what the entry is to be
ended_named : (p : List ℕ) (m : Moment) (again : Bool) (k : List ℕ) (s : Stage) (e : Option Entry) (r : Reads) → is_leasing p ≡ true → ReadsNamed p r
    → ReadsNamed p (released again m (on (with_entry k e (acquire_gone k (ground_of r))) (map (told k s) r.asks)))
ended_named p m again k s e r l h =
    let g = with_entry k e (acquire_gone k (ground_of r)) in
    released_named p again m (on g (map (told k s) r.asks)) (parts_named p g (map (told k s) r.asks) (entry_put p k e (acquire_gone k (ground_of r)) l (gone_named p k (ground_of r) h.ground)) (told_named k s r.asks h.asks))

acquire_done_named : (p : List ℕ) (m : Moment) (k : List ℕ) (held : Bool) (h : Header) (c : Option Claim) (r : Reads) → is_leasing p ≡ true → ReadsNamed p r → AfterNamed p (done_by m k held h c r)
acquire_done_named p m k held h None r l n = tt
acquire_done_named p m k held h (Some (Acquired create kv)) r l n = ended_named p m held k _ (Some (won held create kv)) r l n
acquire_done_named p m k held h (Some (OwnedBy kv owner)) r l n = ended_named p m false k _ (found_own m.session owner (at r.own.entries k)) r l n

without_acquire : (p : List ℕ) (k : List ℕ) (r : Reads) → ReadsNamed p r → ReadsNamed p (on (acquire_gone k (ground_of r)) r.asks)
without_acquire p k r h = parts_named p (acquire_gone k (ground_of r)) r.asks (gone_named p k (ground_of r) h.ground) h.asks

refused_named : (p : List ℕ) (m : Moment) (k : List ℕ) (ends : Bool) (r : Reads) → ReadsNamed p r → ReadsNamed p (acquire_refused m k ends r).reads
refused_named p m k true r h = session_over_named p m (on (acquire_gone k (ground_of r)) r.asks) (without_acquire p k r h)
refused_named p m k false r h = released_named p false m (on (acquire_gone k (ground_of r)) r.asks) (without_acquire p k r h)

answered_acquire_named : (p : List ℕ) (m : Moment) (k : List ℕ) (o : Option Acquire) (a : Answer) (r : Reads) → LeasedIf p o → ReadsNamed p r → AfterNamed p (answered_acquire m k o a r)
answered_acquire_named p m k None a r l h = h
answered_acquire_named p m k (Some c) (answer.Done reply) r l h = acquire_done_named p m k (is_to_be_held m k c r) reply.header (claimed r.own.waits.prefix k reply) r l h
answered_acquire_named p m k (Some c) (answer.Refused x) r l h = refused_named p m k (is_session m.session c.session && (x.code == NOT_FOUND)) r h

pub acquire_answered_named : (p : List ℕ) (m : Moment) (k : List ℕ) (a : Answer) (r : Reads) → ReadsNamed p r → AfterNamed p (acquire_answered m k a r)
acquire_answered_named p m k a r h = answered_acquire_named p m k (at r.acquires k) a r (leased_at p k r.acquires h.ground.acquires) h

pub acquire_lost_named : (p : List ℕ) (members : ℕ) (m : Moment) (k : List ℕ) (r : Reads) → ReadsNamed p r → ReadsNamed p (acquire_lost members m k r)
acquire_lost_named p members m k r h =
    let xs = map (told_lost members r.own.waits.step k) r.asks in
    let n : AsksNamed xs = all_mapped ask_named ask_named (told_lost members r.own.waits.step k) (λ a t. either (λ (x : Asked). ask_named x ≡ true) (acquires_at k a) (lost_once members r.own.waits.step a) a t t) r.asks h.asks in
    released_named p false m (on (acquire_gone k (ground_of r)) xs) (parts_named p (acquire_gone k (ground_of r)) xs (gone_named p k (ground_of r) h.ground) n)

-- An acquire is sent.
pub acquire_sent_named : (p : List ℕ) (call : ℕ) (k : List ℕ) (r : Reads) → is_leasing p && not (is_empty k) ≡ true → ReadsNamed p r → ReadsNamed p (acquire_sent call k r)
acquire_sent_named p call k r e h = record { ground = record { own = h.ground.own; acquires = by_acquire (at r.acquires k) }; asks = h.asks }
  where
    by_acquire : (o : Option Acquire) → AcquiresNamed p (with_at r.acquires k (option_map (sent_out call) o))
    by_acquire None = all_filtered (acquire_named p) (λ x. not (same k x.0)) r.acquires h.ground.acquires
    by_acquire (Some x) = put_named p k (sent_out call x) r.acquires e h.ground.acquires

-- Writes' calls end.

settled_named : (s : Settled) (xs : List Asked) → AsksNamed xs → AsksNamed (map (settled_ask s) xs)
settled_named (settled.Reply ticket a) xs h = all_mapped ask_named ask_named (settled_ask (settled.Reply ticket a)) (λ x t. either (λ (y : Asked). ask_named y ≡ true) (x.ticket == ticket) _ x t t) xs h
settled_named (settled.Failed ticket) xs h = all_mapped ask_named ask_named (settled_ask (settled.Failed ticket)) (λ x t. either (λ (y : Asked). ask_named y ≡ true) (x.ticket == ticket) _ x t t) xs h
settled_named settled.Nothing xs h = all_mapped ask_named ask_named (settled_ask settled.Nothing) (λ x t. t) xs h

ending_named : (p : List ℕ) (x : Ending) (r : Reads) → OwnNamed p x.own → ReadsNamed p r → ReadsNamed p (ending x r)
ending_named p x r o h = record { ground = record { own = o; acquires = h.ground.acquires }; asks = settled_named x.settled r.asks h.asks }

abbrev pub ReadsIf : List ℕ → Option Reads → Type 0
ReadsIf p None = Unit {0}
ReadsIf p (Some r) = ReadsNamed p r

abbrev EndingIf : List ℕ → Option Ending → Type 0
EndingIf p None = Unit {0}
EndingIf p (Some x) = OwnNamed p x.own

answered_by_named : (p : List ℕ) (m : Moment) (o : Option Ending) (r : Reads) → EndingIf p o → ReadsNamed p r → ReadsIf p (answered_by m o r)
answered_by_named p m None r n h = tt
answered_by_named p m (Some x) r n h = released_named p true m (ending x r) (ending_named p x r n h)

pub wait_answered_named : (p : List ℕ) (m : Moment) (call : ℕ) (a : Answer) (r : Reads) → ReadsNamed p r → ReadsIf p (wait_answered m call a r)
wait_answered_named p m call a r h = answered_by_named p m (answered call a m.session m.now r.own) r (answered_named p call a m.session m.now r.own h.ground.own) h

pub wait_lost_named : (p : List ℕ) (m : Moment) (call : ℕ) (r : Reads) → ReadsNamed p r → ReadsNamed p (wait_lost m call r)
wait_lost_named p m call r h = released_named p false m (ending (lost call r.own) r) (ending_named p (lost call r.own) r (lost_named p call r.own h.ground.own) h)
