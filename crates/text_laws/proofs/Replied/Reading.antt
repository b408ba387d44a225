-- Whatever is done to reads and acquires keeps the records that are held and the replies that wait to be taken fit.
use Rattle.std.proofs.Common.{ℕ, ◌+◌, ◌≤◌, Bool, true, false, not, cond, ◌&&◌, ◌||◌, ◌==◌, List, [], ◌∷◌, map, Option, None, Some, is_some, arith}
use Rattle.std.specs.Prelude.{nat_le}
use Rattle.text_model.specs.Words.{max_number}
use Rattle.etcd_types.specs.declared.answer.Answer.{Answer}
use Rattle.etcd_types.specs.declared.answer.Answer.TheVariants as answer
use Rattle.etcd_types.specs.declared.code.TheConstants.{NOT_FOUND}
use Rattle.etcd_types.specs.declared.record.Header.{Header}
use Rattle.etcd_types.specs.declared.record.Kv.{Kv}
use Rattle.proxy_model.specs.declared.lease.Entry.{Entry}
use Rattle.proxy_model.specs.declared.lease.Phase.{Phase}
use Rattle.proxy_model.specs.declared.lease.Phase.TheVariants.{Held, Writing, Leaving}
use Rattle.proxy_model.specs.declared.ownership.Claim.{Claim}
use Rattle.proxy_model.specs.declared.ownership.Claim.TheVariants.{Acquired, OwnedBy}
use Rattle.proxy_model.specs.declared.ownership.Owner.{Owner}
use Rattle.proxy_model.specs.Acquire.{claimed}
use Rattle.proxy_model.specs.Keyed.{at}
use Rattle.proxy_model.specs.Limits.{capped}
use Rattle.wait_model.specs.declared.wait.Settled.{Settled}
use Rattle.wait_model.specs.declared.wait.Settled.TheVariants as settled
use Rattle.wait_model.specs.Endings.{answered, lost, forgotten}
use Rattle.wait_model.specs.GuardedAnswers.{Ending}
use Rattle.wait_model.specs.Phases.{is_session, own_entry}
use Rattle.wait_model.specs.State.{Ownership}
use Rattle.read_model.specs.declared.acquire.Acquire.{Acquire}
use Rattle.read_model.specs.declared.asked.Asked.{Asked}
use Rattle.read_model.specs.declared.asked.Stage.{Stage}
use Rattle.read_model.specs.declared.asked.Stage.TheVariants as stage
use Rattle.read_model.specs.declared.asked.Verdict.TheVariants as verdict
use Rattle.read_model.specs.Acquires.{read_asked, acquires_at, told, acquire_gone, with_entry, won, found_own, AfterAcquire, done_by, acquire_refused, is_to_be_held, answered_acquire, acquire_answered, lost_once, told_lost, acquire_lost}
use Rattle.read_model.specs.PlainRead.{ask_key, shown, called, acquirable, held_turn, read_turn, decision, begun_under, in_stage, decided_ground, decided_ask}
use Rattle.read_model.specs.Release.{ask_stands, released_ground, released_ask, Released, released_from, released}
use Rattle.read_model.specs.SessionEnd.{over, dropped, session_over}
use Rattle.read_model.specs.State.{Reads, Moment, Ground, ground_of, on}
use Rattle.read_model.specs.TakingOff.{is_writes, forgotten_all, falls, taken_off}
use Rattle.read_model.specs.WriteAnswers.{settled_ask, ending, answered_by, wait_answered, wait_lost}
use Rattle.text_laws.specs.Values.Fits.{AllOf, If, HeaderFits, PrevFits, AnswerFits}
use Rattle.text_laws.proofs.Values.Alls.{either, all_push, all_map}
use Rattle.text_laws.proofs.Values.Weaker.{header_weaker, prev_weaker}
use Rattle.text_laws.specs.Sent.Sends.{OwnFits}
use Rattle.text_laws.specs.Replied.Holds.{EntryHolds, EntriesHold, StageHolds, AskHolds, Bounds}
use Rattle.text_laws.proofs.Replied.Kept.{at_holds, with_at_holds}
use Rattle.text_laws.proofs.Replied.Bodies.{ClaimHolds, claim_holds, plain_fits}
use Rattle.text_laws.proofs.Replied.Owned.{entries_weaker, SettledHolds, EndingHolds, EndingIf, answered_holds, lost_holds, forgotten_holds}

abbrev pub AsksHold : List Asked → Type 0
AsksHold xs = AllOf AskHolds xs

-- the records that are held have numbers up to `most`
pub record ReadsHold (most : ℕ) (r : Reads) : Type 0 where
  pub entries : EntriesHold most r.own.entries
  pub asks : AsksHold r.asks

pub reads_weaker : (m n : ℕ) → m ≤ n → (r : Reads) → ReadsHold m r → ReadsHold n r
reads_weaker m n l r h = record { entries = entries_weaker m n l r.own.entries h.entries; asks = h.asks }

-- at another stage
pub at_stage : (a : Asked) (s : Stage) → AskHolds a → StageHolds s → AskHolds (in_stage s a)
at_stage a s h f = record { ticket = h.ticket; stage = f }

-- ---- plain reads

abbrev pub MomentHolds : Moment → Type 0
MomentHolds m = HeaderFits max_number m.header

pub shown_holds : (most : ℕ) (h : Header) (o : Option Kv) → most ≤ max_number → HeaderFits max_number h → PrevFits most o → StageHolds (shown h o)
shown_holds most h o l f k = (f, plain_fits most 128 o l k)

held_holds : (most : ℕ) (h : Header) (step : ℕ) (o : Option Kv) (p : Phase) → most ≤ max_number → HeaderFits max_number h → PrevFits most o → StageHolds (held_turn h step o p)
held_holds most h step o Held l f k = shown_holds most h o l f k
held_holds most h step o (Writing revoked) l f k = tt
held_holds most h step o (Leaving sent) l f k = tt

turn_holds : (most : ℕ) (h : Header) (step : ℕ) (e : Option Entry) (claimed : Bool) (o : Option ℕ) → most ≤ max_number → HeaderFits max_number h → If (EntryHolds most) e → StageHolds (read_turn h step e claimed o).stage
turn_holds most h step (Some e) claimed o l f k = held_holds most h step e.kv e.phase l f k
turn_holds most h step None true o l f k = tt
turn_holds most h step None false None l f k = tt
turn_holds most h step None false (Some n) l f k = tt

pub decided_holds : (most : ℕ) (m : Moment) (g : Ground) (a : Asked) → most ≤ max_number → MomentHolds m → EntriesHold most g.own.entries → AskHolds a → AskHolds (decided_ask m g a)
decided_holds most m g a l f h k =
    let key = ask_key a in
    at_stage a (decision m g key).stage k
    (turn_holds most m.header g.own.waits.step (at g.own.entries key) (is_some (at g.acquires key)) (acquirable m g.own key) l f (at_holds (EntryHolds most) g.own.entries key h))

-- an acquire that is made due leaves the entries
begun_holds : (most ticket : ℕ) (k : List ℕ) (o : Option ℕ) (g : Ground) → EntriesHold most g.own.entries → EntriesHold most (begun_under ticket k o g).own.entries
begun_holds most ticket k None g h = h
begun_holds most ticket k (Some s) g h = h

ground_holds : (most : ℕ) (m : Moment) (g : Ground) (a : Asked) → EntriesHold most g.own.entries → EntriesHold most (decided_ground m g a).own.entries
ground_holds most m g a h = begun_holds most a.ticket (ask_key a) (decision m g (ask_key a)).under g h

pub read_asked_holds : (most : ℕ) (m : Moment) (a : Asked) (r : Reads) → most ≤ max_number → MomentHolds m → AskHolds a → ReadsHold most r → ReadsHold most (read_asked m a r)
read_asked_holds most m a r l f k h = record {
  entries = ground_holds most m (ground_of r) a h.entries;
  asks = all_push AskHolds r.asks (decided_ask m (ground_of r) a) h.asks (decided_holds most m (ground_of r) a l f h.entries k);
}

-- ---- released

record ReleasedHolds (most : ℕ) (x : Released) : Type 0 where
  entries : EntriesHold most x.ground.own.entries
  asks : AsksHold x.asks

released_ask_holds : (most : ℕ) (again : Bool) (m : Moment) (g : Ground) (a : Asked) → most ≤ max_number → MomentHolds m → EntriesHold most g.own.entries → AskHolds a → AskHolds (released_ask again m g a)
released_ask_holds most again m g a l f h k =
    either AskHolds (ask_stands g a) a (cond again (decided_ask m g a) (in_stage (called g.own.waits.step) a)) k
    (either AskHolds again (decided_ask m g a) (in_stage (called g.own.waits.step) a) (decided_holds most m g a l f h k) (at_stage a (called g.own.waits.step) k tt))

released_from_holds : (most : ℕ) (again : Bool) (m : Moment) (g : Ground) (xs : List Asked) → most ≤ max_number → MomentHolds m → EntriesHold most g.own.entries → AsksHold xs → ReleasedHolds most (released_from again m g xs)
unfolding released_from
released_from_holds most again m g [] l f h k = record { entries = h; asks = tt }
released_from_holds most again m g (a ∷ rest) l f h k =
    let d = released_ground again m g a in
    let n : EntriesHold most d.own.entries = either (λ (x : Ground). EntriesHold most x.own.entries) (ask_stands g a || not again) g (decided_ground m g a) h (ground_holds most m g a h) in
    let r = released_from_holds most again m d rest l f n k.1 in
    record { entries = r.entries; asks = (released_ask_holds most again m g a l f h k.0, r.asks) }

pub released_holds : (most : ℕ) (again : Bool) (m : Moment) (r : Reads) → most ≤ max_number → MomentHolds m → ReadsHold most r → ReadsHold most (released again m r)
released_holds most again m r l f h =
    let x = released_from_holds most again m (ground_of r) r.asks l f h.entries h.asks in
    record { entries = x.entries; asks = x.asks }

pub session_over_holds : (most : ℕ) (m : Moment) (r : Reads) → most ≤ max_number → MomentHolds m → ReadsHold most r → ReadsHold most (session_over m r)
session_over_holds most m r l f h = released_holds most false m (on (over (ground_of r)) r.asks) l f (record { entries = tt; asks = h.asks })

forgotten_all_holds : (most : ℕ) (q : Asked → Bool) (xs : List Asked) (own : Ownership) → EntriesHold most own.entries → EntriesHold most (forgotten_all q xs own).entries
forgotten_all_holds most q [] own h = h
forgotten_all_holds most q (a ∷ rest) own h =
    forgotten_all_holds most q rest (cond (q a && is_writes a.stage) (forgotten a.ticket own) own)
    (either (λ (x : Ownership). EntriesHold most x.entries) (q a && is_writes a.stage) (forgotten a.ticket own) own (forgotten_holds most a.ticket own h) h)

pub taken_off_holds : (most : ℕ) (m : Moment) (q : Asked → Bool) (xs : List Asked) (r : Reads) → most ≤ max_number → MomentHolds m → AsksHold xs → ReadsHold most r → ReadsHold most (taken_off m q xs r)
taken_off_holds most m q xs r l f k h =
    let g = ground_of r in
    let d = record g { own = forgotten_all q r.asks r.own } in
    released_holds most false m (on (dropped (falls q r) d) xs) l f (record { entries = forgotten_all_holds most q r.asks r.own h.entries; asks = k })

-- ---- acquires end

abbrev pub AfterIf : ℕ → Option AfterAcquire → Type 0
AfterIf most o = If (λ (x : AfterAcquire). ReadsHold most x.reads) o

told_holds : (k : List ℕ) (s : Stage) (xs : List Asked) → StageHolds s → AsksHold xs → AsksHold (map (told k s) xs)
told_holds k s xs f h = all_map AskHolds AskHolds (told k s) (λ a t. either AskHolds (acquires_at k a) (in_stage s a) a (at_stage a s t f) t) xs h

ended_holds : (most : ℕ) (m : Moment) (again : Bool) (k : List ℕ) (s : Stage) (e : Option Entry) (r : Reads) → most ≤ max_number → MomentHolds m → StageHolds s → If (EntryHolds most) e → ReadsHold most r
    → ReadsHold most (released again m (on (with_entry k e (acquire_gone k (ground_of r))) (map (told k s) r.asks)))
ended_holds most m again k s e r l f n t h =
    released_holds most again m (on (with_entry k e (acquire_gone k (ground_of r))) (map (told k s) r.asks)) l f
    (record { entries = with_at_holds (EntryHolds most) r.own.entries k e t h.entries; asks = told_holds k s r.asks n h.asks })

won_holds : (heard most : ℕ) (held : Bool) (create : ℕ) (o : Option Kv) → heard ≤ most → PrevFits heard o → EntryHolds most (won held create o)
won_holds heard most true create o l f = prev_weaker heard most l o f
won_holds heard most false create o l f = tt

found_own_holds : (most : ℕ) (session : Option ℕ) (owner : Option Owner) (e : Option Entry) → If (EntryHolds most) e → If (EntryHolds most) (found_own session owner e)
found_own_holds most session None e h = h
found_own_holds most session (Some o) e h = either (If (EntryHolds most)) (is_session session o.lease && not (is_some e)) (Some (own_entry o.create)) e tt h

within : (heard most : ℕ) → Bounds heard most → most ≤ max_number
within heard most l = let r = l.room in omega (arith, r)

pub few_heard : (heard most : ℕ) → Bounds heard most → heard ≤ max_number
few_heard heard most l = let t = l.twice in omega (arith, t)

acquire_done_holds : (heard most : ℕ) (m : Moment) (k : List ℕ) (held : Bool) (x : Header) (c : Option Claim) (r : Reads) → Bounds heard most → MomentHolds m → HeaderFits heard x → If (ClaimHolds heard) c → ReadsHold most r → AfterIf most (done_by m k held x c r)
acquire_done_holds heard most m k held x None r l f g n h = tt
acquire_done_holds heard most m k held x (Some (Acquired create kv)) r l f g n h =
    let few = few_heard heard most l in
    ended_holds most m held k _ (Some (won held create kv)) r (within heard most l) f (shown_holds heard x kv few (header_weaker heard max_number few x g) n) (won_holds heard most held create kv l.kept n) h
acquire_done_holds heard most m k held x (Some (OwnedBy kv owner)) r l f g n h =
    let few = few_heard heard most l in
    ended_holds most m false k _ (found_own m.session owner (at r.own.entries k)) r (within heard most l) f (shown_holds heard x kv few (header_weaker heard max_number few x g) n)
    (found_own_holds most m.session owner (at r.own.entries k) (at_holds (EntryHolds most) r.own.entries k h.entries)) h

refused_holds : (most : ℕ) (m : Moment) (k : List ℕ) (ends : Bool) (r : Reads) → most ≤ max_number → MomentHolds m → ReadsHold most r → ReadsHold most (acquire_refused m k ends r).reads
refused_holds most m k true r l f h = session_over_holds most m (on (acquire_gone k (ground_of r)) r.asks) l f (record { entries = h.entries; asks = h.asks })
refused_holds most m k false r l f h = released_holds most false m (on (acquire_gone k (ground_of r)) r.asks) l f (record { entries = h.entries; asks = h.asks })

answered_acquire_holds : (heard most : ℕ) (m : Moment) (k : List ℕ) (o : Option Acquire) (a : Answer) (r : Reads) → Bounds heard most → MomentHolds m → AnswerFits heard a → ReadsHold most r → AfterIf most (answered_acquire m k o a r)
answered_acquire_holds heard most m k None a r l f g h = h
answered_acquire_holds heard most m k (Some c) (answer.Done reply) r l f g h =
    acquire_done_holds heard most m k (is_to_be_held m k c r) reply.header (claimed r.own.waits.prefix k reply) r l f g.0 (claim_holds heard r.own.waits.prefix k reply g) h
answered_acquire_holds heard most m k (Some c) (answer.Refused x) r l f g h = refused_holds most m k (is_session m.session c.session && (x.code == NOT_FOUND)) r (within heard most l) f h

pub acquire_answered_holds : (heard most : ℕ) (m : Moment) (k : List ℕ) (a : Answer) (r : Reads) → Bounds heard most → MomentHolds m → AnswerFits heard a → ReadsHold most r → AfterIf most (acquire_answered m k a r)
acquire_answered_holds heard most m k a r l f g h = answered_acquire_holds heard most m k (at r.acquires k) a r l f g h

-- one call of a read is lost
pub lost_once_holds : (members step : ℕ) (a : Asked) → AskHolds a → AskHolds (lost_once members step a)
lost_once_holds members step a h = record { ticket = h.ticket; stage = either StageHolds (nat_le members (capped (a.losses + 1))) (stage.Replied verdict.Lost) (called step) tt tt }

pub acquire_lost_holds : (most members : ℕ) (m : Moment) (k : List ℕ) (r : Reads) → most ≤ max_number → MomentHolds m → ReadsHold most r → ReadsHold most (acquire_lost members m k r)
acquire_lost_holds most members m k r l f h =
    let step = r.own.waits.step in
    let xs = map (told_lost members step k) r.asks in
    let n : AsksHold xs = all_map AskHolds AskHolds (told_lost members step k) (λ a t. either AskHolds (acquires_at k a) (lost_once members step a) a (lost_once_holds members step a t) t) r.asks h.asks in
    released_holds most false m (on (acquire_gone k (ground_of r)) xs) l f (record { entries = h.entries; asks = n })

-- ---- writes' calls end

settled_holds : (s : Settled) (x : Asked) → SettledHolds s → AskHolds x → AskHolds (settled_ask s x)
settled_holds (settled.Reply ticket a) x f h = either AskHolds (x.ticket == ticket) _ x (at_stage x (stage.Replied (verdict.Said a)) h f) h
settled_holds (settled.Failed ticket) x f h = either AskHolds (x.ticket == ticket) _ x (at_stage x (stage.Replied verdict.Lost) h tt) h
settled_holds settled.Nothing x f h = h

ending_holds : (most : ℕ) (x : Ending) (r : Reads) → EndingHolds most x → AsksHold r.asks → ReadsHold most (ending x r)
ending_holds most x r f h = record { entries = f.entries; asks = all_map AskHolds AskHolds (settled_ask x.settled) (λ a t. settled_holds x.settled a f.settled t) r.asks h }

abbrev pub ReadsIf : ℕ → Option Reads → Type 0
ReadsIf most o = If (ReadsHold most) o

answered_by_holds : (most : ℕ) (m : Moment) (o : Option Ending) (r : Reads) → most ≤ max_number → MomentHolds m → EndingIf most o → AsksHold r.asks → ReadsIf most (answered_by m o r)
answered_by_holds most m None r l f g h = tt
answered_by_holds most m (Some x) r l f g h = released_holds most true m (ending x r) l f (ending_holds most x r g h)

pub wait_answered_holds : (heard most : ℕ) (m : Moment) (call : ℕ) (a : Answer) (r : Reads) → Bounds heard most → MomentHolds m → AnswerFits heard a → OwnFits r.own → ReadsHold most r → ReadsIf (most + 128) (wait_answered m call a r)
wait_answered_holds heard most m call a r l f g b h =
    answered_by_holds (most + 128) m (answered call a m.session m.now r.own) r l.room f (answered_holds heard most call a m.session m.now r.own l g b h.entries) h.asks

pub wait_lost_holds : (most : ℕ) (m : Moment) (call : ℕ) (r : Reads) → most ≤ max_number → MomentHolds m → ReadsHold most r → ReadsHold most (wait_lost m call r)
wait_lost_holds most m call r l f h = released_holds most false m (ending (lost call r.own) r) l f (ending_holds most (lost call r.own) r (lost_holds most call r.own h.entries) h.asks)
