-- Whatever is done to reads and acquires keeps all fit: a request stays what it is, and what is acquired is the key of one.
use Rattle.std.proofs.Common.{ℕ, ◌≤◌, Bool, true, false, not, cond, ◌&&◌, ◌||◌, ◌==◌, List, [], ◌∷◌, map, Option, None, Some, is_some, arith}
use Rattle.std.specs.Prelude.{slice_get}
use Rattle.std.specs.Option.{option_map}
use Rattle.text_model.specs.Words.{max_number}
use Rattle.etcd_types.specs.Keys.{same}
use Rattle.etcd_types.specs.declared.answer.Answer.{Answer}
use Rattle.etcd_types.specs.declared.answer.Answer.TheVariants as answer
use Rattle.etcd_types.specs.declared.answer.Body.{Body}
use Rattle.etcd_types.specs.declared.answer.Reply.{Reply}
use Rattle.etcd_types.specs.declared.code.TheConstants.{NOT_FOUND}
use Rattle.etcd_types.specs.declared.record.Header.{Header}
use Rattle.etcd_types.specs.declared.record.Kv.{Kv}
use Rattle.etcd_types.specs.declared.request.Request.{Request}
use Rattle.etcd_types.specs.declared.request.Request.TheVariants as request
use Rattle.proxy_model.specs.declared.lease.Entry.{Entry}
use Rattle.proxy_model.specs.declared.ownership.Claim.{Claim}
use Rattle.proxy_model.specs.declared.ownership.Claim.TheVariants.{Acquired, OwnedBy}
use Rattle.proxy_model.specs.declared.ownership.Owner.{Owner}
use Rattle.proxy_model.specs.Acquire.{acquire, claim_of, claimed}
use Rattle.proxy_model.specs.Fits.{branch_of, fits_txn}
use Rattle.proxy_model.specs.Foreign.{owner_of}
use Rattle.proxy_model.specs.Keyed.{at}
use Rattle.proxy_model.specs.Readings.{records_of, first_of, record_in, record_of, reading}
use Rattle.wait_model.specs.GuardedAnswers.{Ending}
use Rattle.wait_model.specs.declared.sending.Sending.TheVariants as sending
use Rattle.wait_model.specs.declared.wait.Settled.{Settled}
use Rattle.wait_model.specs.declared.wait.Settled.TheVariants as settled
use Rattle.wait_model.specs.Endings.{answered, lost, forgotten}
use Rattle.wait_model.specs.Phases.{is_session}
use Rattle.wait_model.specs.SessionEnd.{session_ended}
use Rattle.wait_model.specs.State.{Ownership}
use Rattle.read_model.specs.declared.acquire.Acquire.{Acquire}
use Rattle.read_model.specs.declared.asked.Asked.{Asked}
use Rattle.read_model.specs.declared.asked.Stage.{Stage}
use Rattle.read_model.specs.Acquires.{read_asked, sent_out, acquire_sent, acquires_at, told, acquire_gone, with_entry, won, found_own, AfterAcquire, done_by, acquire_refused, is_to_be_held, answered_acquire, acquire_answered, lost_once, told_lost, acquire_lost}
use Rattle.read_model.specs.PlainRead.{key_of, ask_key, called, is_free, acquirable, read_turn, decision, begun_under, in_stage, decided_ground, decided_ask}
use Rattle.read_model.specs.Release.{ask_stands, released_ground, released_ask, Released, released_from, released}
use Rattle.read_model.specs.SessionEnd.{is_due_acquire, over, dropped, session_over}
use Rattle.read_model.specs.State.{Reads, Moment, Ground, ground_of, on}
use Rattle.read_model.specs.TakingOff.{is_writes, forgotten_all, falls, taken_off}
use Rattle.read_model.specs.WriteAnswers.{settled_ask, ending, answered_by, wait_answered, wait_lost}
use Rattle.text_laws.specs.Values.Fits.{AllOf, If, Bytes, Number, KvFits, BodyFits, ReplyFits, AnswerFits, RequestFits}
use Rattle.text_laws.proofs.Values.Alls.{either, all_push, all_map, all_filter, get_all}
use Rattle.text_laws.specs.Sent.Sends.{EntryFits, AcquireFits, OwnFits, AskFits, GroundFits, ReadsFit}
use Rattle.text_laws.proofs.Sent.Keys.{at_fits, with_at_fits, changed_there}
use Rattle.text_laws.proofs.Sent.Owned.{BranchFits, branch_fits, records_fit, OwnerFits, shown_owner, session_ended_fits, EndingIf, answered_fits, lost_fits, forgotten_fits}

abbrev pub AsksFit : List Asked → Type 0
AsksFit xs = AllOf AskFits xs

-- a request at another stage
pub at_stage : (a : Asked) (s : Stage) → AskFits a → AskFits (in_stage s a)
at_stage a s h = record { ticket = h.ticket; request = h.request; flat = h.flat }

key_fits_of : (q : Request) → RequestFits 127 q → Bytes (key_of q)
key_fits_of (request.Range ask) f = f.range.0
key_fits_of (request.Put ask) f = tt
key_fits_of (request.Delete ask) f = tt
key_fits_of (request.Txn t) f = tt
key_fits_of (request.Compact revision physical) f = tt
key_fits_of (request.Grant ttl lease) f = tt
key_fits_of (request.Revoke lease) f = tt
key_fits_of (request.KeepAlive lease) f = tt
key_fits_of (request.TimeToLive lease keys) f = tt
key_fits_of request.Leases f = tt
key_fits_of (request.Watch ask) f = tt

-- ---- plain reads; the session is a number of a text

abbrev pub MomentFits : Moment → Type 0
MomentFits m = If Number m.session

under_fits : (m : Moment) (own : Ownership) (k : List ℕ) → MomentFits m → If Number (acquirable m own k)
under_fits m own k h = either (If Number) (is_free m own k) m.session None h tt

turn_fits : (h : Header) (step : ℕ) (e : Option Entry) (claimed : Bool) (o : Option ℕ) → If Number o → If Number (read_turn h step e claimed o).under
turn_fits h step (Some e) claimed o t = tt
turn_fits h step None true o t = tt
turn_fits h step None false None t = tt
turn_fits h step None false (Some n) t = t

begun_fits : (ticket : ℕ) (k : List ℕ) (o : Option ℕ) (g : Ground) → Number ticket → Bytes k → If Number o → GroundFits g → GroundFits (begun_under ticket k o g)
begun_fits ticket k None g t b n h = h
begun_fits ticket k (Some s) g t b n h =
    record {
      own = record { prefix = h.own.prefix; entries = h.own.entries; writes = h.own.writes };
      acquires = with_at_fits AcquireFits g.acquires k (Some (record { ticket = ticket; session = s; sending = sending.Due g.own.waits.step })) b (record { ticket = t; session = n }) h.acquires;
    }

decided_fits : (m : Moment) (g : Ground) (a : Asked) → MomentFits m → AskFits a → GroundFits g → GroundFits (decided_ground m g a)
decided_fits m g a n f h =
    let k = ask_key a in
    begun_fits a.ticket k (decision m g k).under g f.ticket (key_fits_of a.request f.request)
    (turn_fits m.header g.own.waits.step (at g.own.entries k) (is_some (at g.acquires k)) (acquirable m g.own k) (under_fits m g.own k n)) h

pub read_asked_fits : (m : Moment) (a : Asked) (r : Reads) → MomentFits m → AskFits a → ReadsFit r → ReadsFit (read_asked m a r)
read_asked_fits m a r n f h =
    let g = decided_fits m (ground_of r) a n f h.ground in
    record { ground = record { own = g.own; acquires = g.acquires }; asks = all_push AskFits r.asks (decided_ask m (ground_of r) a) h.asks (at_stage a _ f) }

-- ---- released

record ReleasedFits (x : Released) : Type 0 where
  ground : GroundFits x.ground
  asks : AsksFit x.asks

released_ask_fits : (again : Bool) (m : Moment) (g : Ground) (a : Asked) → AskFits a → AskFits (released_ask again m g a)
released_ask_fits again m g a h =
    either AskFits (ask_stands g a) a (cond again (decided_ask m g a) (in_stage (called g.own.waits.step) a)) h
    (either AskFits again (decided_ask m g a) (in_stage (called g.own.waits.step) a) (at_stage a _ h) (at_stage a _ h))

released_from_fits : (again : Bool) (m : Moment) (g : Ground) (xs : List Asked) → MomentFits m → GroundFits g → AsksFit xs → ReleasedFits (released_from again m g xs)
unfolding released_from
released_from_fits again m g [] n h k = record { ground = h; asks = tt }
released_from_fits again m g (a ∷ rest) n h k =
    let d = released_ground again m g a in
    let f : GroundFits d = either GroundFits (ask_stands g a || not again) g (decided_ground m g a) h (decided_fits m g a n k.0 h) in
    let r = released_from_fits again m d rest n f k.1 in
    record { ground = r.ground; asks = (released_ask_fits again m g a k.0, r.asks) }

released_fits : (again : Bool) (m : Moment) (r : Reads) → MomentFits m → ReadsFit r → ReadsFit (released again m r)
released_fits again m r n h =
    let x = released_from_fits again m (ground_of r) r.asks n h.ground h.asks in
    record { ground = record { own = x.ground.own; acquires = x.ground.acquires }; asks = x.asks }

parts_fit : (g : Ground) (xs : List Asked) → GroundFits g → AsksFit xs → ReadsFit (on g xs)
parts_fit g xs h k = record { ground = record { own = h.own; acquires = h.acquires }; asks = k }

dropped_fits : (q : List ℕ → Bool) (g : Ground) → GroundFits g → GroundFits (dropped q g)
dropped_fits q g h = record { own = record { prefix = h.own.prefix; entries = h.own.entries; writes = h.own.writes }; acquires = all_filter _ (λ x. not (q x.0)) g.acquires h.acquires }

pub session_over_fits : (m : Moment) (r : Reads) → MomentFits m → ReadsFit r → ReadsFit (session_over m r)
session_over_fits m r n h =
    let g = ground_of r in
    let d = record g { own = session_ended g.own } in
    let ended : GroundFits d = record { own = session_ended_fits r.own h.ground.own; acquires = h.ground.acquires } in
    released_fits false m (on (over g) r.asks) n (parts_fit (over g) r.asks (dropped_fits (λ k. is_due_acquire (at g.acquires k)) d ended) h.asks)

forgotten_all_fits : (q : Asked → Bool) (xs : List Asked) (own : Ownership) → OwnFits own → OwnFits (forgotten_all q xs own)
forgotten_all_fits q [] own h = h
forgotten_all_fits q (a ∷ rest) own h =
    forgotten_all_fits q rest (cond (q a && is_writes a.stage) (forgotten a.ticket own) own) (either OwnFits (q a && is_writes a.stage) (forgotten a.ticket own) own (forgotten_fits a.ticket own h) h)

pub taken_off_fits : (m : Moment) (q : Asked → Bool) (xs : List Asked) (r : Reads) → MomentFits m → AsksFit xs → ReadsFit r → ReadsFit (taken_off m q xs r)
taken_off_fits m q xs r n k h =
    let g = ground_of r in
    let d = record g { own = forgotten_all q r.asks r.own } in
    let f : GroundFits d = record { own = forgotten_all_fits q r.asks r.own h.ground.own; acquires = h.ground.acquires } in
    released_fits false m (on (dropped (falls q r) d) xs) n (parts_fit (dropped (falls q r) d) xs (dropped_fits (falls q r) d f) k)

-- ---- acquires end

abbrev pub AfterIf : Option AfterAcquire → Type 0
AfterIf o = If (λ (x : AfterAcquire). ReadsFit x.reads) o

told_fits : (k : List ℕ) (s : Stage) (xs : List Asked) → AsksFit xs → AsksFit (map (told k s) xs)
told_fits k s xs h = all_map AskFits AskFits (told k s) (λ a t. either AskFits (acquires_at k a) (in_stage s a) a (at_stage a s t) t) xs h

gone_fits : (k : List ℕ) (g : Ground) → GroundFits g → GroundFits (acquire_gone k g)
gone_fits k g h = record { own = record { prefix = h.own.prefix; entries = h.own.entries; writes = h.own.writes }; acquires = all_filter _ (λ x. not (same k x.0)) g.acquires h.acquires }

entry_put : (k : List ℕ) (e : Option Entry) (g : Ground) → Bytes k → If EntryFits e → GroundFits g → GroundFits (with_entry k e g)
entry_put k e g b f h = record { own = record { prefix = h.own.prefix; entries = with_at_fits EntryFits g.own.entries k e b f h.own.entries; writes = h.own.writes }; acquires = h.acquires }

-- the ground without the acquire, and with what the entry is to be
ended_fits : (m : Moment) (again : Bool) (k : List ℕ) (s : Stage) (e : Option Entry) (r : Reads) → MomentFits m → Bytes k → If EntryFits e → ReadsFit r
    → ReadsFit (released again m (on (with_entry k e (acquire_gone k (ground_of r))) (map (told k s) r.asks)))
ended_fits m again k s e r n b f h =
    let g = with_entry k e (acquire_gone k (ground_of r)) in
    released_fits again m (on g (map (told k s) r.asks)) n (parts_fit g (map (told k s) r.asks) (entry_put k e (acquire_gone k (ground_of r)) b f (gone_fits k (ground_of r) h.ground)) (told_fits k s r.asks h.asks))

-- what an acquire's answer says

abbrev ClaimFits : Claim → Type 0
ClaimFits (Acquired create kv) = Number create
ClaimFits (OwnedBy kv owner) = If OwnerFits owner

pub record_shown : (most : ℕ) (bs : List Body) (i : ℕ) → AllOf (BodyFits most 127) bs → If (KvFits most) (record_of bs i)
record_shown most bs i h = by_body (slice_get bs i) (get_all (BodyFits most 127) bs i h)
  where
    first : (kvs : List Kv) → AllOf (KvFits most) kvs → If (KvFits most) (first_of kvs)
    first [] f = tt
    first (kv ∷ kvs) f = f.0

    by_body : (o : Option Body) → If (BodyFits most 127) o → If (KvFits most) (record_in o)
    by_body None f = tt
    by_body (Some b) f = first (records_of b) (records_fit most 127 b f)

claim_fits : (most : ℕ) (p k : List ℕ) (reply : Reply) → most ≤ max_number → ReplyFits most reply → If ClaimFits (claimed p k reply)
claim_fits most p k reply l h = by_branch (fits_txn (acquire p k 0) reply.body) (branch_of reply.body) (branch_fits most reply.body h.1)
  where
    owner : (o : Option Kv) → If (KvFits most) o → If OwnerFits (option_map (owner_of p) o)
    owner None f = tt
    owner (Some kv) f = shown_owner most p kv l f

    by_ran : (succeeded : Bool) (bs : List Body) → AllOf (BodyFits most 127) bs → ClaimFits (claim_of p reply.header.revision succeeded bs)
    by_ran true bs f = let r = h.0.revision in omega (arith, r, l)
    by_ran false bs f = owner (record_of bs 1) (record_shown most bs 1 f)

    by_branch : (fits : Bool) (o : Option (Bool × List Body)) → BranchFits most o → If ClaimFits (reading fits o (claim_of p reply.header.revision))
    by_branch fits None f = tt
    by_branch true (Some ran) f = by_ran ran.0 ran.1 f
    by_branch false (Some ran) f = tt

won_fits : (held : Bool) (create : ℕ) (kv : Option Kv) → Number create → EntryFits (won held create kv)
won_fits true create kv n = n
won_fits false create kv n = n

found_own_fits : (session : Option ℕ) (owner : Option Owner) (e : Option Entry) → If OwnerFits owner → If EntryFits e → If EntryFits (found_own session owner e)
found_own_fits session None e f h = h
found_own_fits session (Some o) e f h = either (If EntryFits) (is_session session o.lease && not (is_some e)) (Some _) e f.create h

acquire_done_fits : (m : Moment) (k : List ℕ) (held : Bool) (h : Header) (c : Option Claim) (r : Reads) → MomentFits m → Bytes k → If ClaimFits c → ReadsFit r → AfterIf (done_by m k held h c r)
acquire_done_fits m k held h None r n b f g = tt
acquire_done_fits m k held h (Some (Acquired create kv)) r n b f g = ended_fits m held k _ (Some (won held create kv)) r n b (won_fits held create kv f) g
acquire_done_fits m k held h (Some (OwnedBy kv owner)) r n b f g =
    ended_fits m false k _ (found_own m.session owner (at r.own.entries k)) r n b (found_own_fits m.session owner (at r.own.entries k) f (at_fits EntryFits r.own.entries k g.ground.own.entries)) g

without_acquire : (k : List ℕ) (r : Reads) → ReadsFit r → ReadsFit (on (acquire_gone k (ground_of r)) r.asks)
without_acquire k r h = parts_fit (acquire_gone k (ground_of r)) r.asks (gone_fits k (ground_of r) h.ground) h.asks

refused_fits : (m : Moment) (k : List ℕ) (ends : Bool) (r : Reads) → MomentFits m → ReadsFit r → ReadsFit (acquire_refused m k ends r).reads
refused_fits m k true r n h = session_over_fits m (on (acquire_gone k (ground_of r)) r.asks) n (without_acquire k r h)
refused_fits m k false r n h = released_fits false m (on (acquire_gone k (ground_of r)) r.asks) n (without_acquire k r h)

answered_acquire_fits : (most : ℕ) (m : Moment) (k : List ℕ) (o : Option Acquire) (a : Answer) (r : Reads) → most ≤ max_number → MomentFits m → Bytes k → AnswerFits most a → ReadsFit r → AfterIf (answered_acquire m k o a r)
answered_acquire_fits most m k None a r l n b f h = h
answered_acquire_fits most m k (Some c) (answer.Done reply) r l n b f h =
    acquire_done_fits m k (is_to_be_held m k c r) reply.header (claimed r.own.waits.prefix k reply) r n b (claim_fits most r.own.waits.prefix k reply l f) h
answered_acquire_fits most m k (Some c) (answer.Refused x) r l n b f h = refused_fits m k (is_session m.session c.session && (x.code == NOT_FOUND)) r n h

pub acquire_answered_fits : (most : ℕ) (m : Moment) (k : List ℕ) (a : Answer) (r : Reads) → most ≤ max_number → MomentFits m → Bytes k → AnswerFits most a → ReadsFit r → AfterIf (acquire_answered m k a r)
acquire_answered_fits most m k a r l n b f h = answered_acquire_fits most m k (at r.acquires k) a r l n b f h

pub acquire_lost_fits : (members : ℕ) (m : Moment) (k : List ℕ) (r : Reads) → MomentFits m → ReadsFit r → ReadsFit (acquire_lost members m k r)
acquire_lost_fits members m k r n h =
    let xs = map (told_lost members r.own.waits.step k) r.asks in
    let f : AsksFit xs = all_map AskFits AskFits (told_lost members r.own.waits.step k) (λ a t. either AskFits (acquires_at k a) (lost_once members r.own.waits.step a) a (record { ticket = t.ticket; request = t.request; flat = t.flat }) t) r.asks h.asks in
    released_fits false m (on (acquire_gone k (ground_of r)) xs) n (parts_fit (acquire_gone k (ground_of r)) xs (gone_fits k (ground_of r) h.ground) f)

pub acquire_sent_fits : (call : ℕ) (k : List ℕ) (r : Reads) → ReadsFit r → ReadsFit (acquire_sent call k r)
acquire_sent_fits call k r h = record {
  ground = record { own = h.ground.own; acquires = changed_there AcquireFits r.acquires k (sent_out call) (λ x n. record { ticket = n.ticket; session = n.session }) h.ground.acquires };
  asks = h.asks;
}

-- ---- writes' calls end

settled_one : (s : Settled) (x : Asked) → AskFits x → AskFits (settled_ask s x)
settled_one (settled.Reply ticket a) x h = either AskFits (x.ticket == ticket) _ x (at_stage x _ h) h
settled_one (settled.Failed ticket) x h = either AskFits (x.ticket == ticket) _ x (at_stage x _ h) h
settled_one settled.Nothing x h = h

ending_fits : (x : Ending) (r : Reads) → OwnFits x.own → ReadsFit r → ReadsFit (ending x r)
ending_fits x r o h = record { ground = record { own = o; acquires = h.ground.acquires }; asks = all_map AskFits AskFits (settled_ask x.settled) (settled_one x.settled) r.asks h.asks }

abbrev pub ReadsIf : Option Reads → Type 0
ReadsIf o = If ReadsFit o

answered_by_fits : (m : Moment) (o : Option Ending) (r : Reads) → MomentFits m → EndingIf o → ReadsFit r → ReadsIf (answered_by m o r)
answered_by_fits m None r n f h = tt
answered_by_fits m (Some x) r n f h = released_fits true m (ending x r) n (ending_fits x r f h)

pub wait_answered_fits : (most : ℕ) (m : Moment) (call : ℕ) (a : Answer) (r : Reads) → most ≤ max_number → MomentFits m → AnswerFits most a → ReadsFit r → ReadsIf (wait_answered m call a r)
wait_answered_fits most m call a r l n f h = answered_by_fits m (answered call a m.session m.now r.own) r n (answered_fits most call a m.session m.now r.own l f h.ground.own) h

pub wait_lost_fits : (m : Moment) (call : ℕ) (r : Reads) → MomentFits m → ReadsFit r → ReadsFit (wait_lost m call r)
wait_lost_fits m call r n h = released_fits false m (ending (lost call r.own) r) n (ending_fits (lost call r.own) r (lost_fits call r.own h.ground.own) h)
