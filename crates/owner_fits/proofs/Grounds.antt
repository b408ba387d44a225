-- What the parts of a step keep of acquires, entries and writes together: releases, requests that end, calls that end, and a
-- session's end.
use Rattle.std.proofs.Common.{◌≡◌, ℕ, Bool, true, false, not, cond, ◌&&◌, ◌||◌, ◌==◌, List, [], ◌∷◌, Option, None, Some, is_some, refl, sym, ◌∙◌, ap, subst}
use Rattle.std.specs.List.{list_any, list_all}
use Rattle.etcd_types.specs.declared.answer.Answer.{Answer}
use Rattle.etcd_types.specs.declared.answer.Answer.TheVariants as answer
use Rattle.etcd_types.specs.declared.code.TheConstants.{NOT_FOUND}
use Rattle.etcd_types.specs.declared.record.Header.{Header}
use Rattle.etcd_types.specs.declared.record.Kv.{Kv}
use Rattle.etcd_types.specs.Keys.{is_empty, same}
use Rattle.etcd_types.specs.Ranges.{contains}
use Rattle.etcd_types.proofs.Bools.{and_first, and_second, false_not, not_true}
use Rattle.etcd_types.proofs.KeyOrder.{same-equal}
use Rattle.proxy_model.specs.declared.lease.Entry.{Entry}
use Rattle.proxy_model.specs.declared.ownership.Claim.{Claim}
use Rattle.proxy_model.specs.declared.ownership.Claim.TheVariants.{Acquired, OwnedBy}
use Rattle.proxy_model.specs.declared.ownership.Owner.{Owner}
use Rattle.proxy_model.specs.Acquire.{claimed}
use Rattle.proxy_model.specs.Keyed.{Keyed, at}
use Rattle.proxy_model.specs.LeaseTable.{is_writing}
use Rattle.proxy_model.specs.Prefixes.{leasing_range}
use Rattle.proxy_model.proofs.KeyedLaws.{at-with_at}
use Rattle.wait_model.specs.declared.sending.Sending.TheVariants as sending
use Rattle.wait_model.specs.declared.write.Write.{Write}
use Rattle.wait_model.specs.declared.write.WriteStage.{WriteStage}
use Rattle.wait_model.specs.Asked.{is_spoiled}
use Rattle.wait_model.specs.Covers.{covers, leased}
use Rattle.wait_model.specs.Endings.{answered, lost, forgotten}
use Rattle.wait_model.specs.GuardedAnswers.{Ending}
use Rattle.wait_model.specs.Phases.{own_entry, is_session}
use Rattle.wait_model.specs.SessionEnd.{session_ended}
use Rattle.wait_model.specs.Stages.{is_owner, staged}
use Rattle.wait_model.specs.State.{Ownership}
use Rattle.read_model.specs.declared.acquire.Acquire.{Acquire}
use Rattle.read_model.specs.declared.asked.Asked.{Asked}
use Rattle.read_model.specs.Acquires.{acquires_at, acquire_gone, with_entry, won, found_own, acquired, owned_by, AfterAcquire, done_by, acquire_refused, answered_acquire, acquire_answered, acquire_lost}
use Rattle.read_model.specs.Fits.{is_owned}
use Rattle.read_model.specs.PlainRead.{ask_key, is_ownable, is_restful, is_written, is_free, acquirable, read_turn, decision, begun_under, decided_ground}
use Rattle.read_model.specs.Release.{ask_stands, released_ground, released_from, released}
use Rattle.read_model.specs.SessionEnd.{is_due, is_due_acquire, dropped, over, session_over}
use Rattle.read_model.specs.State.{Reads, Moment, Ground, ground_of, on}
use Rattle.read_model.specs.TakingOff.{is_writes, forgotten_all, falls, taken_off}
use Rattle.read_model.specs.WriteAnswers.{ending, answered_by, wait_answered, wait_lost}
use Rattle.core_laws.proofs.PlainReads.Grounds.{frees}
use Rattle.core_laws.proofs.PlainReads.InPlace.{plain_in_place}
use Rattle.core_model.specs.declared.out_call.OutCall.{OutCall}
use Rattle.core_model.specs.declared.out_call.OutJob.TheVariants as job
use Rattle.core_model.specs.Fits.{job_at}
use Rattle.core_model.specs.Lookups.{without_out}
use Rattle.core_laws.proofs.Steps.Comes.{by_test}
use Rattle.owner_fits.specs.Acquires.{AcquiresFit}
use Rattle.owner_fits.specs.Entries.{is_unleased, EntriesFit}
use Rattle.owner_fits.specs.Names.{stage_named, NamesFit}
use Rattle.owner_fits.proofs.Answering.{GoesIf, AnswersName, answered_goes, lost_goes}
use Rattle.owner_fits.proofs.Claims.{one_claim, left_claims, gone_claim, dropped_claims}
use Rattle.owner_fits.proofs.Going.{implies, implied, Lasts, EntryGoes, at_one, Holds}
use Rattle.owner_fits.proofs.Owning.{OwnGoes, goes_nowhere, goes_further, session_end_goes, forgotten_goes}
use Rattle.owner_fits.proofs.Passing.{unowned}

pub record GroundFit (named : Bool) (session : Option ℕ) (out : List OutCall) (g : Ground) : Type 0 where
  pub acquires : AcquiresFit g.own.waits.prefix session g.acquires out
  pub entries : EntriesFit g.own.waits.prefix g.own.entries g.own.waits.writes
  pub names : named ≡ true → NamesFit g.own.entries g.own.waits.writes

-- What most steps do to what is owned.

owned_lasts : (named : Bool) (prefix : List ℕ) → Lasts named (λ k e. not (is_owned e) || is_ownable prefix k)
owned_lasts named prefix = record {
  nothing = λ k. refl;
  left = λ k create n. refl;
  eased = λ k e f x h. implies (is_owned (Some f)) (is_ownable prefix k) (λ t. implied (is_owned (Some e)) (is_ownable prefix k) h (x.owned t));
}

unleased_lasts : (named : Bool) (ws : List Write) → Lasts named (λ k e. not (is_writing e) || list_all (is_unleased k) ws)
unleased_lasts named ws = record {
  nothing = λ k. refl;
  left = λ k create n. refl;
  eased = λ k e f x h. implies (is_writing (Some f)) (list_all (is_unleased k) ws) (λ t. implied (is_writing (Some e)) (list_all (is_unleased k) ws) h (x.writing t));
}

keys_last : (named : Bool) → named ≡ true → Lasts named (λ k e. not (is_some e) || not (is_empty k))
keys_last named b = record { nothing = λ k. refl; left = λ k create n. false_not (is_empty k) (n b); eased = λ k e f x h. h }

unleased_holds : (named : Bool) (k : List ℕ) → Holds named (is_unleased k)
unleased_holds named k = record { staged = λ w s c h. by_owner w s (is_owner s) refl c.owner h }
  where
    by_owner : (w : Write) (s : WriteStage) (b : Bool) → is_owner s ≡ b → (is_owner s ≡ true → is_owner w.stage ≡ true) → is_unleased k w ≡ true → is_unleased k (staged w s) ≡ true
    by_owner w s true e o h = ap (λ b. not (b && (covers w k && leased w.request k))) (e ∙ sym (o e)) ∙ h
    by_owner w s false e o h = unowned k (staged w s) e

found_holds : (named : Bool) → named ≡ true → Holds named (λ w. stage_named w.stage)
found_holds named b = record { staged = λ w s c h. c.found b h }

pub own_entries : (named : Bool) (own next : Ownership) → OwnGoes named own next → EntriesFit own.waits.prefix own.entries own.waits.writes → EntriesFit next.waits.prefix next.entries next.waits.writes
own_entries named own next g h = record {
  owned = λ k t. subst (λ (p : List ℕ). is_ownable p k ≡ true) (sym g.prefix) (implied (is_owned (at next.entries k)) (is_ownable own.waits.prefix k) (g.entries _ (owned_lasts named own.waits.prefix) (λ j. implies (is_owned (at own.entries j)) (is_ownable own.waits.prefix j) (h.owned j)) k) t);
  unleased = λ k t. g.writes (is_unleased k) (unleased_holds named k) (implied (is_writing (at next.entries k)) (list_all (is_unleased k) own.waits.writes) (g.entries _ (unleased_lasts named own.waits.writes) (λ j. implies (is_writing (at own.entries j)) (list_all (is_unleased j) own.waits.writes) (h.unleased j)) k) t);
}

pub own_names : (named : Bool) (own next : Ownership) → OwnGoes named own next → named ≡ true → NamesFit own.entries own.waits.writes → NamesFit next.entries next.waits.writes
own_names named own next g b h = record {
  keys = λ k t. not_true (is_empty k) (implied (is_some (at next.entries k)) (not (is_empty k)) (g.entries _ (keys_last named b) (λ j. implies (is_some (at own.entries j)) (not (is_empty j)) (λ u. false_not (is_empty j) (h.keys j u))) k) t);
  found = g.writes (λ w. stage_named w.stage) (found_holds named b) h.found;
}

pub own_fits : (named : Bool) (session : Option ℕ) (out : List OutCall) (own next : Ownership) (acquires : Keyed Acquire) → OwnGoes named own next → GroundFit named session out (record { own = own; acquires = acquires }) → GroundFit named session out (record { own = next; acquires = acquires })
own_fits named session out own next acquires g h = record {
  acquires = subst (λ (p : List ℕ). AcquiresFit p session acquires out) (sym g.prefix) h.acquires;
  entries = own_entries named own next g h.entries;
  names = λ b. own_names named own next g b (h.names b);
}

-- An acquire becomes due only of a key that may be owned and has none, under the session.

under_is : (h : Header) (step : ℕ) (e : Option Entry) (claimed : Bool) (under : Option ℕ) (n : ℕ) → (read_turn h step e claimed under).under ≡ Some n → under ≡ Some n
under_is h step (Some e) claimed under n t = absurd (cc)
under_is h step None true under n t = absurd (cc)
under_is h step None false None n t = absurd (cc)
under_is h step None false (Some m) n t = t

record IsAcquirable (m : Moment) (own : Ownership) (k : List ℕ) (n : ℕ) : Type 0 where
  ownable : is_ownable own.waits.prefix k ≡ true
  session : m.session ≡ Some n

is_acquirable : (m : Moment) (own : Ownership) (k : List ℕ) (n : ℕ) → acquirable m own k ≡ Some n → IsAcquirable m own k n
is_acquirable m own k n e = by (is_free m own k) refl e
  where
    by : (b : Bool) → is_free m own k ≡ b → cond b m.session None ≡ Some n → IsAcquirable m own k n
    by true t e = record { ownable = and_first (is_ownable own.waits.prefix k) m.created (and_first (is_ownable own.waits.prefix k && m.created) (is_restful own m.now k) (and_second (not (is_written own k)) (is_ownable own.waits.prefix k && m.created && is_restful own m.now k) t)); session = e }
    by false t e = absurd (cc)

begun_fits : (named : Bool) (session : Option ℕ) (out : List OutCall) (ticket : ℕ) (k : List ℕ) (o : Option ℕ) (g : Ground) → ((n : ℕ) → o ≡ Some n → (at g.acquires k ≡ None) × (is_ownable g.own.waits.prefix k ≡ true) × (session ≡ Some n)) → GroundFit named session out g → GroundFit named session out (begun_under ticket k o g)
begun_fits named session out ticket k None g f h = h
begun_fits named session out ticket k (Some n) g f h =
    let x = f n refl in
    let a : Acquire = record { ticket = ticket; session = n; sending = sending.Due g.own.waits.step } in
    record {
      acquires =
          one_claim g.own.waits.prefix session k (Some a) g.acquires out out
          (record {
            acquired = λ b e. x.1;
            under = λ b e d. x.2 ∙ ap (λ (o : Option Acquire). number_of o) e;
            awaits = λ call e. absurd (let z = h.acquires.awaits call k e in let y = sym x.0 ∙ z.stands in cc);
          })
          (λ call j t e. e) h.acquires;
      entries = h.entries;
      names = h.names;
    }
  where
    number_of : Option Acquire → Option ℕ
    number_of None = None
    number_of (Some a) = Some a.session

pub decided_fits : (named : Bool) (session : Option ℕ) (out : List OutCall) (m : Moment) (g : Ground) (a : Asked) → ((n : ℕ) → m.session ≡ Some n → session ≡ Some n) → GroundFit named session out g → GroundFit named session out (decided_ground m g a)
decided_fits named session out m g a s h =
    let k = ask_key a in
    begun_fits named session out a.ticket k (decision m g k).under g
    (λ n e.
    let free = (frees m.header g.own.waits.step (at g.own.entries k) (is_some (at g.acquires k)) (acquirable m g.own k) (ap is_some e)).claim in
    let x = is_acquirable m g.own k n (under_is m.header g.own.waits.step (at g.own.entries k) (is_some (at g.acquires k)) (acquirable m g.own k) n e) in
    (none (at g.acquires k) free, x.ownable, s n x.session)) h
  where
    none : (o : Option Acquire) → is_some o ≡ false → o ≡ None
    none None t = refl
    none (Some a) t = absurd (cc)

pub released_fits : (named : Bool) (session : Option ℕ) (out : List OutCall) (again : Bool) (m : Moment) (g : Ground) (xs : List Asked) → ((n : ℕ) → m.session ≡ Some n → session ≡ Some n) → GroundFit named session out g → GroundFit named session out (released_from again m g xs).ground
unfolding released_from
released_fits named session out again m g [] s h = h
released_fits named session out again m g (a ∷ xs) s h =
    released_fits named session out again m (released_ground again m g a) xs s
    (by_test (GroundFit named session out) (ask_stands g a || not again) g (decided_ground m g a) (λ t. h) (λ t. decided_fits named session out m g a s h))

-- a release in which none is decided again leaves all of them
pub plain_fits : (named : Bool) (session : Option ℕ) (out : List OutCall) (m : Moment) (r : Reads) → GroundFit named session out (ground_of r) → GroundFit named session out (ground_of (released false m r))
plain_fits named session out m r h = subst (λ (x : Reads). GroundFit named session out (ground_of x)) (sym (plain_in_place m r)) h

-- Due ones fall.

pub dropped_fits : (named : Bool) (session then : Option ℕ) (out : List OutCall) (p : List ℕ → Bool) (g : Ground) → ((k : List ℕ) → p k ≡ true → is_due_acquire (at g.acquires k) ≡ true) → ((k : List ℕ) (a : Acquire) → p k ≡ false → at g.acquires k ≡ Some a → is_due a.sending ≡ true → session ≡ Some a.session → then ≡ Some a.session) → GroundFit named session out g → GroundFit named then out (dropped p g)
dropped_fits named session then out p g d n h = record { acquires = dropped_claims g.own.waits.prefix session then p g.acquires out d n h.acquires; entries = h.entries; names = h.names }

pub over_fits : (named : Bool) (session : Option ℕ) (out : List OutCall) (m : Moment) (r : Reads) → GroundFit named session out (ground_of r) → GroundFit named None out (ground_of (session_over m r))
over_fits named session out m r h =
    plain_fits named None out m (on (over (ground_of r)) r.asks)
    (dropped_fits named session None out (λ k. is_due_acquire (at r.acquires k)) (record { own = session_ended r.own; acquires = r.acquires }) (λ k t. t)
    (λ k a t e d s. absurd (let z = ap is_due_acquire e in cc))
    (own_fits named session out r.own (session_ended r.own) r.acquires (session_end_goes named r.own) h))

all_forgotten : (named : Bool) (p : Asked → Bool) (xs : List Asked) (own : Ownership) → OwnGoes named own (forgotten_all p xs own)
all_forgotten named p [] own = goes_nowhere named own
all_forgotten named p (a ∷ xs) own =
    let next = cond (p a && is_writes a.stage) (forgotten a.ticket own) own in
    goes_further named own next (forgotten_all p xs next)
    (by_test (OwnGoes named own) (p a && is_writes a.stage) (forgotten a.ticket own) own (λ t. forgotten_goes named a.ticket own) (λ t. goes_nowhere named own))
    (all_forgotten named p xs next)

pub off_fits : (named : Bool) (session : Option ℕ) (out : List OutCall) (m : Moment) (p : Asked → Bool) (xs : List Asked) (r : Reads) → GroundFit named session out (ground_of r) → GroundFit named session out (ground_of (taken_off m p xs r))
off_fits named session out m p xs r h =
    plain_fits named session out m (on (dropped (falls p r) (record { own = forgotten_all p r.asks r.own; acquires = r.acquires })) xs)
    (dropped_fits named session session out (falls p r) (record { own = forgotten_all p r.asks r.own; acquires = r.acquires })
    (λ k t. and_second (list_any (λ a. p a && acquires_at k a) r.asks) (is_due_acquire (at r.acquires k)) t)
    (λ k a t e d s. s)
    (own_fits named session out r.own (forgotten_all p r.asks r.own) r.acquires (all_forgotten named p r.asks r.own) h))

-- Calls that end.

abbrev pub FitIf : Bool → Option ℕ → List OutCall → Option Reads → Type 0
FitIf named session out None = Unit {0}
FitIf named session out (Some r) = GroundFit named session out (ground_of r)

pub answers_fit : (named : Bool) (session : Option ℕ) (out : List OutCall) (m : Moment) (call : ℕ) (a : Answer) (r : Reads) → ((n : ℕ) → m.session ≡ Some n → session ≡ Some n) → AnswersName named call a r.own → GroundFit named session out (ground_of r) → FitIf named session out (wait_answered m call a r)
answers_fit named session out m call a r s n h = of_ending (answered call a m.session m.now r.own) (answered_goes named call a m.session m.now r.own n)
  where
    of_ending : (x : Option Ending) → GoesIf named r.own x → FitIf named session out (answered_by m x r)
    of_ending None g = tt
    of_ending (Some x) g = released_fits named session out true m (ground_of (ending x r)) (ending x r).asks s (own_fits named session out r.own x.own r.acquires g h)

pub losses_fit : (named : Bool) (session : Option ℕ) (out : List OutCall) (m : Moment) (call : ℕ) (r : Reads) → GroundFit named session out (ground_of r) → GroundFit named session out (ground_of (wait_lost m call r))
losses_fit named session out m call r h = plain_fits named session out m (ending (lost call r.own) r) (own_fits named session out r.own (lost call r.own).own r.acquires (lost_goes named call r.own) h)

-- an acquire's
gone_fits : (named : Bool) (session : Option ℕ) (out : List OutCall) (n : ℕ) (k : List ℕ) (g : Ground) → job_at n out ≡ Some (job.Acquire k) → GroundFit named session out g → GroundFit named session (without_out n out) (acquire_gone k g)
gone_fits named session out n k g f h = record { acquires = gone_claim g.own.waits.prefix session n k g.acquires out f h.acquires; entries = h.entries; names = h.names }

pub acquire_losses_fit : (named : Bool) (session : Option ℕ) (out : List OutCall) (members : ℕ) (m : Moment) (n : ℕ) (k : List ℕ) (r : Reads) → job_at n out ≡ Some (job.Acquire k) → GroundFit named session out (ground_of r) → GroundFit named session (without_out n out) (ground_of (acquire_lost members m k r))
acquire_losses_fit named session out members m n k r f h = plain_fits named session (without_out n out) m _ (gone_fits named session out n k (ground_of r) f h)

nonempty : (prefix k : List ℕ) → is_ownable prefix k ≡ true → is_empty k ≡ false
nonempty prefix k t = not_true (is_empty k) (and_second (not (is_empty prefix)) (not (is_empty k)) (and_first (not (is_empty prefix) && not (is_empty k)) (not (contains (leasing_range prefix) k)) t))

-- the key that was acquired has an entry that isn't being written
won_fits : (named : Bool) (session : Option ℕ) (out : List OutCall) (k : List ℕ) (e : Option Entry) (g : Ground) → is_ownable g.own.waits.prefix k ≡ true → is_writing e ≡ false → GroundFit named session out g → GroundFit named session out (with_entry k e g)
won_fits named session out k e g o w h = record {
  acquires = h.acquires;
  entries = record {
    owned = λ j t. owned j (same k j) refl (sym (ap is_owned (at-with_at g.own.entries k j e)) ∙ t);
    unleased = λ j t. unleased j (same k j) refl (sym (ap is_writing (at-with_at g.own.entries k j e)) ∙ t);
  };
  names = λ b. record { keys = λ j t. keys b j (same k j) refl (sym (ap is_some (at-with_at g.own.entries k j e)) ∙ t); found = (h.names b).found };
}
  where
    owned : (j : List ℕ) (b : Bool) → same k j ≡ b → is_owned (cond b e (at g.own.entries j)) ≡ true → is_ownable g.own.waits.prefix j ≡ true
    owned j true q t = subst (λ (i : List ℕ). is_ownable g.own.waits.prefix i ≡ true) (same-equal k j q) o
    owned j false q t = h.entries.owned j t

    unleased : (j : List ℕ) (b : Bool) → same k j ≡ b → is_writing (cond b e (at g.own.entries j)) ≡ true → list_all (is_unleased j) g.own.waits.writes ≡ true
    unleased j true q t = absurd (cc)
    unleased j false q t = h.entries.unleased j t

    keys : named ≡ true → (j : List ℕ) (b : Bool) → same k j ≡ b → is_some (cond b e (at g.own.entries j)) ≡ true → is_empty j ≡ false
    keys n j true q t = subst (λ (i : List ℕ). is_empty i ≡ false) (same-equal k j q) (nonempty g.own.waits.prefix k o)
    keys n j false q t = (h.names n).keys j t

found_goes : (named : Bool) (session : Option ℕ) (k : List ℕ) (o : Option Owner) (e : Option Entry) → is_empty k ≡ false → EntryGoes named k e (found_own session o e)
found_goes named session k None e n q l h = h
found_goes named session k (Some o) e n q l h = by_test (λ (x : Option Entry). q k x ≡ true) (is_session session o.lease && not (is_some e)) (Some (own_entry o.create)) e (λ t. l.left k o.create (λ b. n)) (λ t. h)

abbrev pub FitAfter : Bool → Option ℕ → List OutCall → Option AfterAcquire → Type 0
FitAfter named session out None = Unit {0}
FitAfter named session out (Some x) = GroundFit named (cond x.ends None session) out (ground_of x.reads)

pub acquires_fit : (named : Bool) (session : Option ℕ) (out : List OutCall) (m : Moment) (n : ℕ) (k : List ℕ) (a : Answer) (r : Reads) → ((i : ℕ) → m.session ≡ Some i → session ≡ Some i) → job_at n out ≡ Some (job.Acquire k) → GroundFit named session out (ground_of r) → FitAfter named session (without_out n out) (acquire_answered m k a r)
acquires_fit named session out m n k a r s f h = by_claim (at r.acquires k) refl
  where
    g : Ground
    g = acquire_gone k (ground_of r)

    gone : GroundFit named session (without_out n out) (acquire_gone k (ground_of r))
    gone = gone_fits named session out n k (ground_of r) f h

    is_won : (b : Bool) (create : ℕ) (kv : Option Kv) → is_writing (Some (won b create kv)) ≡ false
    is_won true create kv = refl
    is_won false create kv = refl

    done : (held : Bool) (d : Header) (c : Option Claim) → is_ownable r.own.waits.prefix k ≡ true → FitAfter named session (without_out n out) (done_by m k held d c r)
    done held d None o = tt
    done held d (Some (Acquired create kv)) o =
        let x = acquired m k held d create kv r in
        released_fits named session (without_out n out) held m (ground_of x) x.asks s (won_fits named session (without_out n out) k (Some (won held create kv)) g o (is_won held create kv) gone)
    done held d (Some (OwnedBy kv owner)) o =
        let x = owned_by m k d kv owner r in
        let e = found_own m.session owner (at r.own.entries k) in
        released_fits named session (without_out n out) false m (ground_of x) x.asks s
        (own_fits named session (without_out n out) g.own (with_entry k e g).own g.acquires
        (record { prefix = refl; entries = at_one named r.own.entries k e (found_goes named m.session k owner (at r.own.entries k) (nonempty r.own.waits.prefix k o)); writes = λ p l t. t }) gone)

    refused : (ends : Bool) → FitAfter named session (without_out n out) (Some (acquire_refused m k ends r))
    refused true = over_fits named session (without_out n out) m (on g r.asks) gone
    refused false = plain_fits named session (without_out n out) m (on g r.asks) gone

    with_claim : (c : Acquire) (a : Answer) → is_ownable r.own.waits.prefix k ≡ true → FitAfter named session (without_out n out) (answered_acquire m k (Some c) a r)
    with_claim c (answer.Done reply) o = done (is_session m.session c.session && not (is_spoiled k r.own)) reply.header (claimed r.own.waits.prefix k reply) o
    with_claim c (answer.Refused x) o = refused (is_session m.session c.session && (x.code == NOT_FOUND))

    by_claim : (o : Option Acquire) → at r.acquires k ≡ o → FitAfter named session (without_out n out) (answered_acquire m k o a r)
    by_claim None q = record { acquires = left_claims r.own.waits.prefix session n r.acquires out h.acquires; entries = h.entries; names = h.names }
    by_claim (Some c) q = with_claim c a (h.acquires.acquired k c q)
