-- What a step makes of the requests and of the writes at once, in what changes both: releases, the end of a session, requests that
-- end, acquires and writes that are answered or lost.
use Rattle.std.proofs.Common.{◌≡◌, ℕ, ◌==◌, Bool, true, false, not, cond, ◌&&◌, ◌||◌, List, [], ◌∷◌, map, Option, None, Some, refl, sym, ◌∙◌, subst}
use Rattle.etcd_types.specs.declared.answer.Answer.{Answer}
use Rattle.etcd_types.specs.declared.answer.Answer.TheVariants.{Done, Refused}
use Rattle.etcd_types.specs.declared.code.TheConstants.{NOT_FOUND}
use Rattle.etcd_types.specs.declared.record.Header.{Header}
use Rattle.proxy_model.specs.declared.ownership.Claim.{Claim}
use Rattle.proxy_model.specs.declared.ownership.Claim.TheVariants.{Acquired, OwnedBy}
use Rattle.proxy_model.specs.Acquire.{claimed}
use Rattle.proxy_model.specs.Keyed.{at}
use Rattle.wait_model.specs.declared.write.Write.{Write}
use Rattle.wait_model.specs.Covers.{is_single}
use Rattle.wait_model.specs.Endings.{answered, lost, forgotten}
use Rattle.wait_model.specs.GuardedAnswers.{Ending}
use Rattle.wait_model.specs.Phases.{is_session}
use Rattle.wait_model.specs.SessionEnd.{stage_ended}
use Rattle.wait_model.specs.State.{Ownership}
use Rattle.read_model.specs.declared.acquire.Acquire.{Acquire}
use Rattle.read_model.specs.declared.asked.Asked.{Asked}
use Rattle.read_model.specs.Acquires.{AfterAcquire, told, told_lost, acquire_gone, acquired, owned_by, acquire_done, done_by, acquire_refused, answered_acquire, is_to_be_held, acquire_lost, acquire_answered}
use Rattle.read_model.specs.PlainRead.{ask_key, shown, decision, begun_under, decided_ground}
use Rattle.read_model.specs.Release.{ask_stands, released_ground, released_from, released}
use Rattle.read_model.specs.SessionEnd.{over, session_over, dropped}
use Rattle.read_model.specs.State.{Reads, Moment, Ground, ground_of, on}
use Rattle.read_model.specs.TakingOff.{is_writes, forgotten_all, falls, taken_off}
use Rattle.read_model.specs.WriteAnswers.{settled_ask, ending, answered_by, wait_answered, wait_lost}
use Rattle.core_laws.proofs.Steps.Comes.{by_test}
use Rattle.core_fits.specs.Fits.{EachOf}
use Rattle.core_fits.proofs.Eachs.{each_mapped}
use Rattle.core_fits.proofs.AskRows.{Goes, Carries, told_goes, told_lost_goes, released_each, settled_goes}
use Rattle.core_fits.proofs.WriteRows.{Stays, OwnHas, EndHas, staged_has, answered_has, lost_has, forgotten_has}

-- of each request and of each write
abbrev pub ReadsHave : (Asked → Type 0) → (Write → Type 0) → Reads → Type 0
ReadsHave P W r = EachOf P r.asks × EachOf W r.own.waits.writes

abbrev pub ReadsHaveIf : (Asked → Type 0) → (Write → Type 0) → Option Reads → Type 0
ReadsHaveIf P W None = Unit {0}
ReadsHaveIf P W (Some r) = ReadsHave P W r

abbrev pub AfterHas : (Asked → Type 0) → (Write → Type 0) → Option AfterAcquire → Type 0
AfterHas P W None = Unit {0}
AfterHas P W (Some x) = ReadsHave P W x.reads

pub each_goes : (P : Asked → Type 0) → Carries P → (f : Asked → Asked) → ((x : Asked) → Goes x (f x)) → (xs : List Asked) → EachOf P xs → EachOf P (map f xs)
each_goes P l f g xs t = each_mapped P P f (λ x h. l x (f x) (g x) h) xs t

-- Releases.

begun_writes : (ticket : ℕ) (k : List ℕ) (o : Option ℕ) (g : Ground) → (begun_under ticket k o g).own.waits.writes ≡ g.own.waits.writes
begun_writes ticket k None g = refl
begun_writes ticket k (Some n) g = refl

pub decided_writes : (m : Moment) (g : Ground) (a : Asked) → (decided_ground m g a).own.waits.writes ≡ g.own.waits.writes
decided_writes m g a = begun_writes a.ticket (ask_key a) (decision m g (ask_key a)).under g

released_writes : (again : Bool) (m : Moment) (g : Ground) (xs : List Asked) → (released_from again m g xs).ground.own.waits.writes ≡ g.own.waits.writes
unfolding released_from
released_writes again m g [] = refl
released_writes again m g (a ∷ rest) =
    released_writes again m (released_ground again m g a) rest
    ∙ by_test (λ (h : Ground). h.own.waits.writes ≡ g.own.waits.writes) (ask_stands g a || not again) g (decided_ground m g a) (λ t. refl) (λ t. decided_writes m g a)

pub released_has : (P : Asked → Type 0) (W : Write → Type 0) → Carries P → (again : Bool) (m : Moment) (r : Reads) → ReadsHave P W r → ReadsHave P W (released again m r)
released_has P W l again m r h = (released_each P l again m (ground_of r) r.asks h.0, subst (EachOf W) (sym (released_writes again m (ground_of r) r.asks)) h.1)

-- The end of a session, and requests that end.

pub session_over_has : (P : Asked → Type 0) (W : Write → Type 0) → Carries P → Stays W → (m : Moment) (r : Reads) → ReadsHave P W r → ReadsHave P W (session_over m r)
session_over_has P W l s m r h = released_has P W l false m (on (over (ground_of r)) r.asks) (h.0, staged_has W s (λ w. stage_ended (is_single w.request) w.stage) r.own.waits.writes h.1)

forgotten_all_has : (W : Write → Type 0) (p : Asked → Bool) (xs : List Asked) (own : Ownership) → OwnHas W own → OwnHas W (forgotten_all p xs own)
forgotten_all_has W p [] own h = h
forgotten_all_has W p (a ∷ rest) own h =
    forgotten_all_has W p rest (cond (p a && is_writes a.stage) (forgotten a.ticket own) own) (by_test (OwnHas W) (p a && is_writes a.stage) (forgotten a.ticket own) own (λ t. forgotten_has W a.ticket own h) (λ t. h))

pub taken_off_has : (P : Asked → Type 0) (W : Write → Type 0) → Carries P → (m : Moment) (p : Asked → Bool) (xs : List Asked) (r : Reads) → EachOf P xs → EachOf W r.own.waits.writes → ReadsHave P W (taken_off m p xs r)
taken_off_has P W l m p xs r t h =
    released_has P W l false m (on (dropped (falls p r) (record (ground_of r) { own = forgotten_all p r.asks r.own })) xs) (t, forgotten_all_has W p r.asks r.own h)

-- Acquires.

claim_has : (P : Asked → Type 0) (W : Write → Type 0) → Carries P → (m : Moment) (k : List ℕ) (held : Bool) (h : Header) (c : Claim) (r : Reads) → ReadsHave P W r → ReadsHave P W (acquire_done m k held h c r)
claim_has P W l m k held h (Acquired create kv) r t = released_has P W l held m (acquired m k held h create kv r) (each_goes P l (told k (shown h kv)) (told_goes k (shown h kv) refl) r.asks t.0, t.1)
claim_has P W l m k held h (OwnedBy kv owner) r t = released_has P W l false m (owned_by m k h kv owner r) (each_goes P l (told k (shown h kv)) (told_goes k (shown h kv) refl) r.asks t.0, t.1)

claimed_has : (P : Asked → Type 0) (W : Write → Type 0) → Carries P → (m : Moment) (k : List ℕ) (held : Bool) (h : Header) (o : Option Claim) (r : Reads) → ReadsHave P W r → AfterHas P W (done_by m k held h o r)
claimed_has P W l m k held h None r t = tt
claimed_has P W l m k held h (Some c) r t = claim_has P W l m k held h c r t

refused_has : (P : Asked → Type 0) (W : Write → Type 0) → Carries P → Stays W → (m : Moment) (k : List ℕ) (ends : Bool) (r : Reads) → ReadsHave P W r → ReadsHave P W (acquire_refused m k ends r).reads
refused_has P W l s m k true r t = session_over_has P W l s m (on (acquire_gone k (ground_of r)) r.asks) t
refused_has P W l s m k false r t = released_has P W l false m (on (acquire_gone k (ground_of r)) r.asks) t

acquire_by_has : (P : Asked → Type 0) (W : Write → Type 0) → Carries P → Stays W → (m : Moment) (k : List ℕ) (o : Option Acquire) (a : Answer) (r : Reads) → ReadsHave P W r → AfterHas P W (answered_acquire m k o a r)
acquire_by_has P W l s m k None a r t = t
acquire_by_has P W l s m k (Some c) (Done reply) r t = claimed_has P W l m k (is_to_be_held m k c r) reply.header (claimed r.own.waits.prefix k reply) r t
acquire_by_has P W l s m k (Some c) (Refused x) r t = refused_has P W l s m k (is_session m.session c.session && (x.code == NOT_FOUND)) r t

pub acquire_answered_has : (P : Asked → Type 0) (W : Write → Type 0) → Carries P → Stays W → (m : Moment) (k : List ℕ) (a : Answer) (r : Reads) → ReadsHave P W r → AfterHas P W (acquire_answered m k a r)
acquire_answered_has P W l s m k a r t = acquire_by_has P W l s m k (at r.acquires k) a r t

pub acquire_lost_has : (P : Asked → Type 0) (W : Write → Type 0) → Carries P → (members : ℕ) (m : Moment) (k : List ℕ) (r : Reads) → ReadsHave P W r → ReadsHave P W (acquire_lost members m k r)
acquire_lost_has P W l members m k r t =
    released_has P W l false m (on (acquire_gone k (ground_of r)) (map (told_lost members r.own.waits.step k) r.asks)) (each_goes P l (told_lost members r.own.waits.step k) (told_lost_goes members r.own.waits.step k) r.asks t.0, t.1)

-- Writes.

ending_has : (P : Asked → Type 0) (W : Write → Type 0) → Carries P → (x : Ending) (r : Reads) → EachOf P r.asks → OwnHas W x.own → ReadsHave P W (ending x r)
ending_has P W l x r t h = (each_goes P l (settled_ask x.settled) (settled_goes x.settled) r.asks t, h)

answered_by_has : (P : Asked → Type 0) (W : Write → Type 0) → Carries P → (m : Moment) (o : Option Ending) (r : Reads) → EndHas W o → EachOf P r.asks → ReadsHaveIf P W (answered_by m o r)
answered_by_has P W l m None r h t = tt
answered_by_has P W l m (Some x) r h t = released_has P W l true m (ending x r) (ending_has P W l x r t h)

pub wait_answered_has : (P : Asked → Type 0) (W : Write → Type 0) → Carries P → Stays W → (m : Moment) (call : ℕ) (a : Answer) (r : Reads) → ReadsHave P W r → ReadsHaveIf P W (wait_answered m call a r)
wait_answered_has P W l s m call a r t = answered_by_has P W l m (answered call a m.session m.now r.own) r (answered_has W s call a m.session m.now r.own t.1) t.0

pub wait_lost_has : (P : Asked → Type 0) (W : Write → Type 0) → Carries P → (m : Moment) (call : ℕ) (r : Reads) → ReadsHave P W r → ReadsHave P W (wait_lost m call r)
wait_lost_has P W l m call r t = released_has P W l false m (ending (lost call r.own) r) (ending_has P W l (lost call r.own) r t.0 (lost_has W call r.own t.1))
