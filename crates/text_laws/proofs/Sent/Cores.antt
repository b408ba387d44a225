-- Every event but work keeps a proxy fit.
use Rattle.std.proofs.Common.{◌≡◌, ℕ, ◌+◌, ◌≤◌, ◌==◌, Bool, true, false, not, cond, ◌&&◌, Option, None, Some, List, [], ◌∷◌, map, length, Ok, Err, refl, arith}
use Rattle.std.proofs.lemmas.Bool.{ltb-false}
use Rattle.text_model.specs.Words.{max_number}
use Rattle.etcd_types.specs.Keys.{is_empty}
use Rattle.etcd_types.specs.declared.answer.Answer.{Answer}
use Rattle.etcd_types.specs.declared.answer.Answer.TheVariants as answer
use Rattle.etcd_types.specs.declared.answer.Body.{Body}
use Rattle.etcd_types.specs.declared.answer.Body.TheVariants as body
use Rattle.etcd_types.specs.declared.answer.Refusal.{Refusal}
use Rattle.etcd_types.specs.declared.record.Header.{Header}
use Rattle.etcd_types.specs.declared.operation.Op.{Op}
use Rattle.etcd_types.specs.declared.operation.Op.TheVariants as op
use Rattle.etcd_types.specs.declared.request.Request.{Request}
use Rattle.etcd_types.specs.declared.request.Request.TheVariants as request
use Rattle.etcd_types.specs.declared.watch.Event.{Event}
use Rattle.etcd_types.specs.declared.watch.WatchItem.{WatchItem}
use Rattle.etcd_types.specs.declared.watch.WatchItem.TheVariants as item
use Rattle.store_model.specs.FirstRefusals.{operations_limit}
use Rattle.store_model.specs.Refusals.{too_many_operations, key_not_provided}
use Rattle.proxy_model.specs.declared.unserved.Unserved.{Unserved}
use Rattle.proxy_model.specs.Members.{Members, failed}
use Rattle.proxy_model.specs.RequestRefusals.{first_of, request_lacks_key, names_session, reserved_lease, unserved_op, unserved_ops, unserved, unsupported, given}
use Rattle.proxy_model.specs.SeveralKeys.{written_ranges}
use Rattle.proxy_model.specs.Unwrapped.{Unwrapped, item_without}
use Rattle.proxy_model.specs.Upstream.{Upstream}
use Rattle.std.specs.Option.{option_map}
use Rattle.wait_model.specs.Asked.{submitted}
use Rattle.wait_model.specs.LeasingStream.{resynced, all_given_up}
use Rattle.wait_model.specs.Notices.{all_noticed}
use Rattle.wait_model.specs.State.{Ownership}
use Rattle.watch_model.specs.Lookups.{stream_at, watch_at, is_begun}
use Rattle.watch_model.specs.State.{Stream, Watch, Broadcasts}
use Rattle.watch_model.specs.Takes as watches
use Rattle.read_model.specs.declared.asked.Asked.{Asked}
use Rattle.read_model.specs.declared.asked.Stage.{Stage}
use Rattle.read_model.specs.declared.asked.Stage.TheVariants as stage
use Rattle.read_model.specs.declared.asked.Verdict.{Verdict}
use Rattle.read_model.specs.declared.asked.Verdict.TheVariants as verdict
use Rattle.read_model.specs.Acquires.{AfterAcquire, acquire_answered, read_asked, lost_once}
use Rattle.read_model.specs.PlainRead.{decided_ask, in_stage}
use Rattle.read_model.specs.State.{Reads, ground_of}
use Rattle.read_model.specs.WriteAnswers.{wait_answered}
use Rattle.core_model.specs.declared.event.StepFault.TheVariants as fault
use Rattle.core_model.specs.declared.out_call.CallKind.{CallKind}
use Rattle.core_model.specs.declared.out_call.OutCall.{OutCall}
use Rattle.core_model.specs.declared.out_call.OutJob.{OutJob}
use Rattle.core_model.specs.declared.out_call.OutJob.TheVariants as job
use Rattle.core_model.specs.Asking.{asked_at, is_leased_read, read_by, read_is_asked, with_ask, write_is_asked, held_body, if_live, call_stage, call_is_asked, answered_or_called, leased_ask, taken_in, request_asked, refused_or_taken, on_ask}
use Rattle.core_model.specs.ClockWork.{begun, clock_work, times_out, timed_out_ask, writes_go_on, requests_timed_out}
use Rattle.core_model.specs.Ends.{call_gone, is_stale_reply, ask_done, ask_answered, member_failed, acquire_if, reads_if, is_keepalive, group_answered, answered_job, lost_ask, lost_job, lost_call, or_lost, heard_call, answered_call, answer_of, loss_of, with_caller, stale_once, said}
use Rattle.core_model.specs.Groups.{keeps, is_out_stage, waits_next, group_ended, groups_ended}
use Rattle.core_model.specs.Heard.{heard, header_taken}
use Rattle.core_model.specs.Kinds.{is_read, writes_keys, is_body_of}
use Rattle.core_model.specs.LeasingStream.{opening_of, due_anew, own_created, leasing_ticked, leasing_cut, stream_is, leasing_created, leasing_cancelled, told_revision, is_readable, leasing_told, leasing_message, message_if_sent, leasing_item}
use Rattle.core_model.specs.LeasingStream as leasing
use Rattle.core_model.specs.Lookups.{leases, live_number, moment, reads_of, with_reads, is_known, calls_as, has_ticket, without_ask, without_out, out_at}
use Rattle.core_model.specs.Refusals.{touches, reserved_range, refusal_of, writes_too_much}
use Rattle.core_model.specs.Sessions.{drawn_session, seat_ticked, without_session, seat_is_over, deadline_passed, seat_calls, seat_granted, granted_by, grant_failed, grant_answered, seat_free, keep_failed, seat_renewed, kept, kept_by, keep_answered}
use Rattle.core_model.specs.State.{Seat, Opening, Core}
use Rattle.core_model.specs.Step.{ticked, on_tick, opening_at, client_item, item_of, client_cut, cut_of}
use Rattle.core_model.specs.Stepped.{Stepped, faults}
use Rattle.core_model.specs.Takes.{gone, item_taken, taken, on_take, has_left, watcher_left, left, on_leave}
use Rattle.core_model.specs.Takes as takes
use Rattle.core_model.specs.Watching.{with_watches, stream_message, stream_item, taken_item}
use Rattle.core_model.specs.Watching as watching
use Rattle.proxy_model.specs.Prefixes.{leasing_range}
use Rattle.proxy_model.specs.Session.{is_live}
use Rattle.text_laws.specs.Values.Fits.{AllOf, If, Number, Few, HeaderFits, AnswerFits, EventsFit, MessageFits, OpFits, RequestFits}
use Rattle.text_laws.proofs.Values.Alls.{either, all_push, all_map, all_filter}
use Rattle.text_laws.specs.Sent.Sends.{IsFlat, FlatAsk, OwnFits, AskFits, ReadsFit, UpstreamFits, StreamFits, WatchFits, BroadcastsFit, OpeningFits, JobFits, OutFits, MembersFit, SeatFits, CoreFits}
use Rattle.text_laws.proofs.Sent.Unwraps.{Stands, heard_fits, message_fits}
use Rattle.text_laws.proofs.Sent.Requests.{prefix_end_fits}
use Rattle.text_laws.proofs.Sent.Owned.{proceeded_fits, submitted_fits, gone_fits, given_up_fits, all_noticed_fits}
use Rattle.text_laws.proofs.Sent.Reading.{AsksFit, at_stage, MomentFits, read_asked_fits, session_over_fits, taken_off_fits, AfterIf, acquire_answered_fits, acquire_lost_fits, ReadsIf, wait_answered_fits, wait_lost_fits}
use Rattle.text_laws.proofs.Sent.Watching.{created_fits, advance_fits, last_fits, joined_fits, cut_fits, cancelled_fits, delivered_fits, created_stands, taken_from_fits, removed_fits, stream_found, watch_found}

-- ---- parts put back

pub with_reads_fits : (c : Core) (r : Reads) → ReadsFit r → CoreFits c → CoreFits (with_reads c r)
with_reads_fits c r n h = record { settings = h.settings; members = h.members; seat = h.seat; leasing = h.leasing; reads = record { ground = record { own = n.ground.own; acquires = n.ground.acquires }; asks = n.asks }; out = h.out; watches = h.watches }

pub with_own_fits : (c : Core) (own : Ownership) → OwnFits own → CoreFits c → CoreFits (record c { own = own })
with_own_fits c own n h = record { settings = h.settings; members = h.members; seat = h.seat; leasing = h.leasing; reads = record { ground = record { own = n; acquires = h.reads.ground.acquires }; asks = h.reads.asks }; out = h.out; watches = h.watches }

pub with_asks_fits : (c : Core) (xs : List Asked) → AsksFit xs → CoreFits c → CoreFits (record c { asks = xs })
with_asks_fits c xs n h = record { settings = h.settings; members = h.members; seat = h.seat; leasing = h.leasing; reads = record { ground = record { own = h.reads.ground.own; acquires = h.reads.ground.acquires }; asks = n }; out = h.out; watches = h.watches }

with_seat_fits : (c : Core) (s : Option Seat) → If SeatFits s → CoreFits c → CoreFits (record c { seat = s })
with_seat_fits c s n h = record { settings = h.settings; members = h.members; seat = n; leasing = h.leasing; reads = record { ground = record { own = h.reads.ground.own; acquires = h.reads.ground.acquires }; asks = h.reads.asks }; out = h.out; watches = h.watches }

with_members_fits : (c : Core) (m : Members) → MembersFit m → CoreFits c → CoreFits (record c { members = m })
with_members_fits c m n h = record { settings = h.settings; members = n; seat = h.seat; leasing = h.leasing; reads = record { ground = record { own = h.reads.ground.own; acquires = h.reads.ground.acquires }; asks = h.reads.asks }; out = h.out; watches = h.watches }

pub with_watches_fits : (c : Core) (b : Broadcasts) → BroadcastsFit b → CoreFits c → CoreFits (with_watches c b)
with_watches_fits c b n h = record { settings = h.settings; members = h.members; seat = h.seat; leasing = h.leasing; reads = record { ground = record { own = h.reads.ground.own; acquires = h.reads.ground.acquires }; asks = h.reads.asks }; out = h.out; watches = n }

with_out_fits : (c : Core) (out : List OutCall) → AllOf OutFits out → CoreFits c → CoreFits (record c { out = out })
with_out_fits c out n h = record { settings = h.settings; members = h.members; seat = h.seat; leasing = h.leasing; reads = record { ground = record { own = h.reads.ground.own; acquires = h.reads.ground.acquires }; asks = h.reads.asks }; out = n; watches = h.watches }

pub go_on : (c : Core) → CoreFits c → CoreFits (writes_go_on c)
go_on c h = with_own_fits c _ (proceeded_fits c.own h.reads.ground.own) h

moment_fits : (c : Core) (now : ℕ) → CoreFits c → MomentFits (moment c now)
moment_fits c now h = by_seat c.seat h.seat
  where
    by_seat : (o : Option Seat) → If SeatFits o → If Number (live_number o now)
    by_seat None f = tt
    by_seat (Some s) f = either (If Number) (is_live s.session now) (Some s.session.number) None f tt

-- ---- clock work

over_fits : (now : ℕ) (c : Core) → CoreFits c → CoreFits (without_session now c)
over_fits now c h =
    let d = record c { seat = None } in
    let n = with_seat_fits c None tt h in
    with_reads_fits d _ (session_over_fits (moment d now) (reads_of d) (moment_fits d now n) n.reads) n

timed_fits : (now : ℕ) (a : Asked) → AskFits a → AskFits (timed_out_ask now a)
timed_fits now a t = either AskFits (times_out now a) (in_stage (stage.Replied verdict.TimedOut) a) a (at_stage a _ t) t

pub clock_fits : (now : ℕ) (c : Core) → CoreFits c → CoreFits (clock_work now c)
unfolding clock_work
clock_fits now c h =
    let b = begun c in
    let n : CoreFits b = record {
      settings = h.settings;
      members = h.members;
      seat = h.seat;
      leasing = h.leasing;
      reads = record { ground = record { own = record { prefix = h.reads.ground.own.prefix; entries = h.reads.ground.own.entries; writes = h.reads.ground.own.writes }; acquires = h.reads.ground.acquires }; asks = h.reads.asks };
      out = h.out;
      watches = record { streams = h.watches.streams; watches = h.watches.watches };
    } in
    let d = deadline_passed now b in
    let m : CoreFits d = either CoreFits (seat_is_over c.seat now) (without_session now b) b (over_fits now b n) n in
    let xs = map (timed_out_ask now) d.asks in
    let k : AsksFit xs = all_map AskFits AskFits (timed_out_ask now) (timed_fits now) d.asks m.reads.asks in
    go_on (requests_timed_out now d) (with_reads_fits d _ (taken_off_fits (moment d now) (times_out now) xs (reads_of d) (moment_fits d now m) k m.reads) m)

-- ---- Ask

abbrev pub Leaves : Stepped → Type 0
Leaves s = CoreFits s.core

read_fits : (now : ℕ) (a : Asked) (c : Core) → AskFits a → CoreFits c → Leaves (read_is_asked (moment c now) a c)
read_fits now a c k h = by_stage (decided_ask (moment c now) (ground_of (reads_of c)) a).stage
  where
    waits : CoreFits (writes_go_on (with_reads c (read_asked (moment c now) a (reads_of c))))
    waits = go_on _ (with_reads_fits c _ (read_asked_fits (moment c now) a (reads_of c) (moment_fits c now h) k h.reads) h)

    by_stage : (s : Stage) → Leaves (read_by s c (with_reads c (read_asked (moment c now) a (reads_of c))))
    by_stage (stage.Calling s) = waits
    by_stage stage.Acquiring = waits
    by_stage stage.Joined = waits
    by_stage stage.Behind = waits
    by_stage stage.Writes = waits
    by_stage (stage.Grouped s) = waits
    by_stage (stage.Replied v) = h

asked_more : (s : Stage) (a : Asked) (c : Core) → AskFits a → CoreFits c → CoreFits (with_ask s a c)
asked_more s a c k h = with_asks_fits c _ (all_push AskFits c.asks (in_stage s a) h.reads.asks (at_stage a s k)) h

call_fits : (a : Asked) (c : Core) → AskFits a → CoreFits c → Leaves (call_is_asked a c)
call_fits a c k h = go_on _ (asked_more (call_stage a.request c) a c k h)

-- a write that is served nests no transactions, and with leasing it writes few ranges
record Served (q : Request) : Type 0 where
  request : RequestFits 126 q
  few : Few (written_ranges q)

first_none : {A : Type 0} (o : Option A) (rest : List (Option A)) → first_of (o ∷ rest) ≡ None → (o ≡ None) × (first_of rest ≡ None)
first_none None rest e = (refl, e)
first_none (Some x) rest e = absurd (cc)

flat_op : (o : Op) → unserved_op o ≡ None → OpFits 127 o → OpFits 126 o
flat_op (op.Range ask) e f = f
flat_op (op.Put ask) e f = f
flat_op (op.Delete ask) e f = f
flat_op (op.Txn' compare m success n failure) e f = absurd (cc)

flat_ops : (ops : List Op) → unserved_ops ops ≡ None → AllOf (OpFits 127) ops → AllOf (OpFits 126) ops
flat_ops [] e f = tt
flat_ops (o ∷ ops) e f =
    let a = first_none (unserved_op o) (unserved_ops ops ∷ []) e in
    (flat_op o a.0 f.0, flat_ops ops (first_none (unserved_ops ops) [] a.1).0 f.1)

flat_request : (q : Request) → unserved q ≡ None → RequestFits 127 q → RequestFits 126 q
flat_request (request.Txn t) e f =
    let a = first_none (unserved_ops t.success) (unserved_ops t.failure ∷ []) e in
    record { compare = f.compare; success = (flat_ops t.success a.0 f.success.0, f.success.1); failure = (flat_ops t.failure (first_none (unserved_ops t.failure) [] a.1).0 f.failure.0, f.failure.1) }
flat_request (request.Range ask) e f = f
flat_request (request.Put ask) e f = f
flat_request (request.Delete ask) e f = f
flat_request (request.Compact revision physical) e f = f
flat_request (request.Grant ttl lease) e f = f
flat_request (request.Revoke lease) e f = f
flat_request (request.KeepAlive lease) e f = f
flat_request (request.TimeToLive lease keys) e f = f
flat_request request.Leases e f = f
flat_request (request.Watch ask) e f = f

not_given : (b : Bool) (r : Refusal) → given b r ≡ None → b ≡ false
not_given true r e = absurd (cc)
not_given false r e = refl

none_mapped : (o : Option Unserved) → option_map unsupported o ≡ None → o ≡ None
none_mapped None e = refl
none_mapped (Some x) e = absurd (cc)

few_ranges : (q : Request) → writes_too_much q ≡ false → Few (written_ranges q)
few_ranges (request.Txn t) e = let l = ltb-false operations_limit (length (written_ranges (request.Txn t))) e in omega (arith, l)
few_ranges (request.Range ask) e = omega arith
few_ranges (request.Put ask) e = omega arith
few_ranges (request.Delete ask) e = omega arith
few_ranges (request.Compact revision physical) e = omega arith
few_ranges (request.Grant ttl lease) e = omega arith
few_ranges (request.Revoke lease) e = omega arith
few_ranges (request.KeepAlive lease) e = omega arith
few_ranges (request.TimeToLive lease keys) e = omega arith
few_ranges request.Leases e = omega arith
few_ranges (request.Watch ask) e = omega arith

flat_of : (o : Op) → unserved_op o ≡ None → IsFlat o
flat_of (op.Range ask) e = tt
flat_of (op.Put ask) e = tt
flat_of (op.Delete ask) e = tt
flat_of (op.Txn' compare m success n failure) e = absurd (cc)

all_flat : (ops : List Op) → unserved_ops ops ≡ None → AllOf IsFlat ops
all_flat [] e = tt
all_flat (o ∷ ops) e =
    let a = first_none (unserved_op o) (unserved_ops ops ∷ []) e in
    (flat_of o a.0, all_flat ops (first_none (unserved_ops ops) [] a.1).0)

ask_flat : (q : Request) → unserved q ≡ None → FlatAsk q
ask_flat (request.Txn t) e =
    let a = first_none (unserved_ops t.success) (unserved_ops t.failure ∷ []) e in
    (all_flat t.success a.0, all_flat t.failure (first_none (unserved_ops t.failure) [] a.1).0)
ask_flat (request.Range ask) e = tt
ask_flat (request.Put ask) e = tt
ask_flat (request.Delete ask) e = tt
ask_flat (request.Compact revision physical) e = tt
ask_flat (request.Grant ttl lease) e = tt
ask_flat (request.Revoke lease) e = tt
ask_flat (request.KeepAlive lease) e = tt
ask_flat (request.TimeToLive lease keys) e = tt
ask_flat request.Leases e = tt
ask_flat (request.Watch ask) e = tt

asked_flat : (p : List ℕ) (q : Request) → refusal_of p q ≡ None → FlatAsk q
asked_flat p q e = ask_flat q (none_mapped (unserved q) (first_none (option_map unsupported (unserved q)) _ e).0)

second_false : (a b : Bool) → a ≡ true → a && b ≡ false → b ≡ false
second_false true b e f = f
second_false false b e f = absurd (cc)

served : (p : List ℕ) (q : Request) → not (is_empty p) ≡ true → refusal_of p q ≡ None → RequestFits 127 q → Served q
served p q l e f =
    let too_much = given (not (is_empty p) && writes_too_much q) too_many_operations in
    let reserved = given (names_session q) reserved_lease in
    let range = given (not (is_empty p) && touches (leasing_range p) q) reserved_range in
    let lacks = given (request_lacks_key q) key_not_provided in
    let a = first_none (option_map unsupported (unserved q)) (lacks ∷ range ∷ reserved ∷ too_much ∷ []) e in
    let b = first_none lacks (range ∷ reserved ∷ too_much ∷ []) a.1 in
    let c = first_none range (reserved ∷ too_much ∷ []) b.1 in
    let d = first_none reserved (too_much ∷ []) c.1 in
    let g = first_none too_much [] d.1 in
    record { request = flat_request q (none_mapped (unserved q) a.0) f; few = few_ranges q (second_false (not (is_empty p)) (writes_too_much q) l (not_given (not (is_empty p) && writes_too_much q) too_many_operations g.0)) }

write_fits : (a : Asked) (c : Core) → Served a.request → AskFits a → CoreFits c → Leaves (write_is_asked a c)
write_fits a c s k h =
    let own = submitted a.ticket a.request c.own in
    go_on _ (asked_more stage.Writes a (record c { own = own }) k (with_own_fits c own (submitted_fits a.ticket a.request c.own k.ticket s.request k.flat s.few h.reads.ground.own) h))

answered_at_once : (o : Option Body) (a : Asked) (c : Core) → AskFits a → CoreFits c → Leaves (answered_or_called o a c)
answered_at_once None a c k h = call_fits a c k h
answered_at_once (Some b) a c k h = h

taken_fits : (now : ℕ) (a : Asked) (c : Core) → (leases c ≡ true → Served a.request) → AskFits a → CoreFits c → Leaves (taken_in (moment c now) a c)
taken_fits now a c s k h = by_leasing (leases c) refl
  where
    leased : Served a.request → Leaves (leased_ask (moment c now) a c)
    leased t =
        let other = answered_or_called (if_live (moment c now).session (held_body c.own.entries a.request)) a c in
        either Leaves (is_leased_read c.own.waits.prefix a.request) (read_is_asked (moment c now) a c) (cond (writes_keys a.request) (write_is_asked a c) other)
        (read_fits now a c k h)
        (either Leaves (writes_keys a.request) (write_is_asked a c) other (write_fits a c t k h) (answered_at_once (if_live (moment c now).session (held_body c.own.entries a.request)) a c k h))

    by_leasing : (b : Bool) → leases c ≡ b → Leaves (cond b (leased_ask (moment c now) a c) (call_is_asked a c))
    by_leasing true t = leased (s t)
    by_leasing false t = call_fits a c k h

request_fits : (q : Request) (now : ℕ) (a : Asked) (c : Core) → RequestFits 127 q → (leases c ≡ true → Served a.request) → AskFits a → CoreFits c → Leaves (request_asked q (moment c now) a c)
request_fits (request.Watch ask) now a c f s k h = with_watches_fits c _ (joined_fits c.watches a.ticket ask c.header f.0 f.1 h.watches) h
request_fits (request.Range ask) now a c f s k h = taken_fits now a c s k h
request_fits (request.Put ask) now a c f s k h = taken_fits now a c s k h
request_fits (request.Delete ask) now a c f s k h = taken_fits now a c s k h
request_fits (request.Txn t) now a c f s k h = taken_fits now a c s k h
request_fits (request.Compact revision physical) now a c f s k h = taken_fits now a c s k h
request_fits (request.Grant ttl lease) now a c f s k h = taken_fits now a c s k h
request_fits (request.Revoke lease) now a c f s k h = taken_fits now a c s k h
request_fits (request.KeepAlive lease) now a c f s k h = taken_fits now a c s k h
request_fits (request.TimeToLive lease keys) now a c f s k h = taken_fits now a c s k h
request_fits request.Leases now a c f s k h = taken_fits now a c s k h

pub ask_fits : (now ticket : ℕ) (q : Request) (word : ℕ) (c : Core) → Number ticket → RequestFits 127 q → CoreFits c → Leaves (on_ask now ticket q word c)
unfolding on_ask
ask_fits now ticket q word c t f h =
    either Leaves (is_known ticket c) (faults c (fault.TicketUsed ticket)) (refused_or_taken (refusal_of c.own.waits.prefix q) (moment c now) (asked_at now ticket q word) c)
    h (by_refusal (refusal_of c.own.waits.prefix q) refl)
  where
    by_refusal : (r : Option Refusal) → refusal_of c.own.waits.prefix q ≡ r → Leaves (refused_or_taken r (moment c now) (asked_at now ticket q word) c)
    by_refusal None e = request_fits q now (asked_at now ticket q word) c f (λ l. served c.own.waits.prefix q l e f) (record { ticket = t; request = f; flat = asked_flat c.own.waits.prefix q e }) h
    by_refusal (Some r) e = h

-- ---- Answer, Lost

member_fits : (m : Members) (member : ℕ) → MembersFit m → MembersFit (failed m member)
member_fits m member h = either MembersFit (member == m.current) _ m (record { some = h.some; current = by_last (m.current == m.count) refl; few = h.few }) h
  where
    by_last : (b : Bool) → m.current == m.count ≡ b → cond b 1 (m.current + 1) ≤ m.count
    by_last true e = h.some
    by_last false e = let c = h.current in grind (arith, c, e)

failed_fits : (o : OutCall) (c : Core) → CoreFits c → CoreFits (member_failed o c)
failed_fits o c h = with_members_fits c (failed c.members o.member) (member_fits c.members o.member h.members) h

header_fits : (x : Header) (c : Core) → CoreFits c → CoreFits (header_taken x c)
header_fits x c h = record { settings = h.settings; members = record { some = h.members.some; current = h.members.current; few = h.members.few }; seat = h.seat; leasing = h.leasing; reads = record { ground = record { own = h.reads.ground.own; acquires = h.reads.ground.acquires }; asks = h.reads.asks }; out = h.out; watches = h.watches }

grant_fails : (o : OutCall) (c : Core) → CoreFits c → CoreFits (grant_failed o c)
grant_fails o c h = either CoreFits (seat_calls o.call c.seat) _ c (with_seat_fits c None tt h) h

free_fits : (o : Option Seat) → If SeatFits o → If SeatFits (seat_free o)
free_fits None h = tt
free_fits (Some s) h = h

keep_fails : (o : OutCall) (c : Core) → CoreFits c → CoreFits (keep_failed o c)
keep_fails o c h = either CoreFits (seat_calls o.call c.seat) _ c (with_seat_fits c (seat_free c.seat) (free_fits c.seat h.seat) h) h

-- a request that is changed stays the same request
caller_fits : (call : ℕ) (f : Asked → Asked) (c : Core) → ((a : Asked) → AskFits a → AskFits (f a)) → CoreFits c → CoreFits (with_caller call f c)
caller_fits call f c k h = with_asks_fits c _ (all_map AskFits AskFits (λ a. cond (calls_as call a) (f a) a) (λ a t. either AskFits (calls_as call a) (f a) a (k a t) t) c.asks h.reads.asks) h

groups_fit : (step call lease : ℕ) (v : Verdict) (c : Core) → CoreFits c → CoreFits (record c { asks = groups_ended step call lease v c.asks })
groups_fit step call lease v c h = with_asks_fits c _ (all_map AskFits AskFits (group_ended step call lease v) one c.asks h.reads.asks) h
  where
    one : (a : Asked) → AskFits a → AskFits (group_ended step call lease v a)
    one a t = either AskFits (is_out_stage call a.stage) _ _ (at_stage a _ t) (either AskFits (keeps lease a.request && waits_next a.stage) _ a (at_stage a _ t) t)

lost_ask_fits : (k : CallKind) (o : OutCall) (c : Core) (a : Asked) → AskFits a → AskFits (lost_ask k o c a)
lost_ask_fits k o c a t = either AskFits (is_read k) (lost_once c.members.count c.own.waits.step a) (in_stage (stage.Replied verdict.Lost) a) (record { ticket = t.ticket; request = t.request; flat = t.flat }) (at_stage a _ t)

lost_job_fits : (now : ℕ) (o : OutCall) (j : OutJob) (c : Core) → CoreFits c → CoreFits (lost_job now o j c)
lost_job_fits now o (job.Grant lease) c h = grant_fails o c h
lost_job_fits now o (job.Keep lease) c h = keep_fails o c h
lost_job_fits now o (job.Acquire k) c h = with_reads_fits c _ (acquire_lost_fits c.members.count (moment c now) k (reads_of c) (moment_fits c now h) h.reads) h
lost_job_fits now o job.Wait c h = with_reads_fits c _ (wait_lost_fits (moment c now) o.call (reads_of c) (moment_fits c now h) h.reads) h
lost_job_fits now o (job.Ask k) c h = caller_fits o.call (lost_ask k o c) c (lost_ask_fits k o c) h
lost_job_fits now o (job.Group lease) c h = groups_fit c.own.waits.step o.call lease verdict.Lost c h

lost_fits : (now : ℕ) (o : OutCall) (c : Core) → CoreFits c → CoreFits (lost_call now o c)
lost_fits now o c h = lost_job_fits now o o.job (member_failed o c) (failed_fits o c h)

abbrev KeptIf : Option Core → Type 0
KeptIf o = If CoreFits o

granted_seat : (sent_at ttl : ℕ) (o : Option Seat) → If SeatFits o → If SeatFits (seat_granted sent_at ttl o)
granted_seat sent_at ttl None h = tt
granted_seat sent_at ttl (Some s) h = h

granted_fits : (o : OutCall) (b : Body) (c : Core) → CoreFits c → KeptIf (granted_by o b c)
granted_fits o (body.Grant lease ttl) c h = either CoreFits (seat_calls o.call c.seat) _ c (with_seat_fits c _ (granted_seat o.sent_at ttl c.seat h.seat) h) h
granted_fits o (body.Range count more kvs) c h = tt
granted_fits o (body.Put prev) c h = tt
granted_fits o (body.Delete deleted prevs) c h = tt
granted_fits o (body.Txn' succeeded m bodies) c h = tt
granted_fits o body.Compact c h = tt
granted_fits o body.Revoke c h = tt
granted_fits o (body.KeepAlive lease ttl) c h = tt
granted_fits o (body.TimeToLive lease ttl granted keys) c h = tt
granted_fits o (body.Leases leases) c h = tt

grant_fits : (o : OutCall) (a : Answer) (c : Core) → CoreFits c → KeptIf (grant_answered o a c)
grant_fits o (answer.Done reply) c h = granted_fits o reply.body c h
grant_fits o (answer.Refused r) c h = grant_fails o c h

renewed_seat : (sent_at ttl : ℕ) (o : Option Seat) → If SeatFits o → If SeatFits (seat_renewed sent_at ttl o)
renewed_seat sent_at ttl None h = tt
renewed_seat sent_at ttl (Some s) h = h

kept_fits : (now : ℕ) (o : OutCall) (b : Body) (c : Core) → CoreFits c → KeptIf (kept_by now o b c)
kept_fits now o (body.KeepAlive lease ttl) c h =
    either CoreFits (seat_calls o.call c.seat) (kept now o ttl c) c
    (either CoreFits (ttl == 0) (without_session now c) _ (over_fits now c h) (with_seat_fits c _ (renewed_seat o.sent_at ttl c.seat h.seat) h)) h
kept_fits now o (body.Range count more kvs) c h = tt
kept_fits now o (body.Put prev) c h = tt
kept_fits now o (body.Delete deleted prevs) c h = tt
kept_fits now o (body.Txn' succeeded m bodies) c h = tt
kept_fits now o body.Compact c h = tt
kept_fits now o (body.Grant lease ttl) c h = tt
kept_fits now o body.Revoke c h = tt
kept_fits now o (body.TimeToLive lease ttl granted keys) c h = tt
kept_fits now o (body.Leases leases) c h = tt

keep_fits : (now : ℕ) (o : OutCall) (a : Answer) (c : Core) → CoreFits c → KeptIf (keep_answered now o a c)
keep_fits now o (answer.Done reply) c h = kept_fits now o reply.body c h
keep_fits now o (answer.Refused r) c h = keep_fails o c h

acquire_fits_if : (c : Core) (o : Option AfterAcquire) → AfterIf o → CoreFits c → KeptIf (acquire_if c o)
acquire_fits_if c None n h = tt
acquire_fits_if c (Some x) n h = by_end x.ends
  where
    by_end : (b : Bool) → CoreFits (with_reads (cond b (record c { seat = None }) c) x.reads)
    by_end true = with_reads_fits (record c { seat = None }) x.reads n (with_seat_fits c None tt h)
    by_end false = with_reads_fits c x.reads n h

wait_fits_if : (c : Core) (o : Option Reads) → ReadsIf o → CoreFits c → KeptIf (reads_if c o)
wait_fits_if c None n h = tt
wait_fits_if c (Some r) n h = with_reads_fits c r n h

ask_ends : (k : CallKind) (o : OutCall) (a : Answer) (c : Core) → CoreFits c → KeptIf (ask_answered k o a c)
ask_ends k o (answer.Done reply) c h =
    either KeptIf (is_body_of k reply.body) (Some (ask_done k o reply c)) None
    (either CoreFits (is_stale_reply k o reply) (with_caller o.call (stale_once c.members.count c.own.waits.step) (member_failed o c)) (with_caller o.call (said (answer.Done reply)) c)
    (caller_fits o.call (stale_once c.members.count c.own.waits.step) (member_failed o c) (λ a t. record { ticket = t.ticket; request = t.request; flat = t.flat }) (failed_fits o c h))
    (caller_fits o.call (said (answer.Done reply)) c (λ a t. at_stage a _ t) h)) tt
ask_ends k o (answer.Refused r) c h = caller_fits o.call (said (answer.Refused r)) c (λ a t. at_stage a _ t) h

group_ends : (o : OutCall) (lease : ℕ) (a : Answer) (c : Core) → CoreFits c → KeptIf (group_answered o lease a c)
group_ends o lease a c h = either KeptIf (is_keepalive a) _ None (groups_fit c.own.waits.step o.call lease (verdict.Said a) c h) tt

job_fits : (most now : ℕ) (o : OutCall) (j : OutJob) (a : Answer) (c : Core) → most ≤ max_number → JobFits j → AnswerFits most a → CoreFits c → KeptIf (answered_job now o j a c)
job_fits most now o (job.Grant lease) a c l b f h = grant_fits o a c h
job_fits most now o (job.Keep lease) a c l b f h = keep_fits now o a c h
job_fits most now o (job.Acquire k) a c l b f h = acquire_fits_if c (acquire_answered (moment c now) k a (reads_of c)) (acquire_answered_fits most (moment c now) k a (reads_of c) l (moment_fits c now h) b f h.reads) h
job_fits most now o job.Wait a c l b f h = wait_fits_if c (wait_answered (moment c now) o.call a (reads_of c)) (wait_answered_fits most (moment c now) o.call a (reads_of c) l (moment_fits c now h) f h.reads) h
job_fits most now o (job.Ask k) a c l b f h = ask_ends k o a c h
job_fits most now o (job.Group lease) a c l b f h = group_ends o lease a c h

or_lost_fits : (now : ℕ) (o : OutCall) (c : Core) (x : Option Core) → CoreFits c → KeptIf x → CoreFits (or_lost now o c x)
or_lost_fits now o c None h n = lost_fits now o c h
or_lost_fits now o c (Some d) h n = n

heard_call_fits : (most now : ℕ) (o : OutCall) (x : Option Answer) (c : Core) → most ≤ max_number → OutFits o → If (AnswerFits most) x → CoreFits c → CoreFits (heard_call now o x c)
heard_call_fits most now o None c l b f h = lost_fits now o c h
heard_call_fits most now o (Some a) c l b f h = or_lost_fits now o c (answered_job now o o.job a c) h (job_fits most now o o.job a c l b f h)

answered_core : (most now : ℕ) (o : OutCall) (a : Answer) (c : Core) → most ≤ max_number → OutFits o → AnswerFits most a → CoreFits c → CoreFits (answered_call now o a c)
answered_core most now o (answer.Done reply) c l b f h = heard_call_fits most now o (heard c.settings.namespace (answer.Done reply)) (header_taken reply.header c) l b (heard_fits most c.settings.namespace (answer.Done reply) f) (header_fits reply.header c h)
answered_core most now o (answer.Refused r) c l b f h = heard_call_fits most now o (heard c.settings.namespace (answer.Refused r)) c l b (heard_fits most c.settings.namespace (answer.Refused r) f) h

out_found : (call : ℕ) (out : List OutCall) → AllOf OutFits out → If OutFits (out_at call out)
out_found call [] h = tt
out_found call (o ∷ rest) h = either (If OutFits) (o.call == call) (Some o) (out_at call rest) h.0 (out_found call rest h.1)

gone_call : (call : ℕ) (c : Core) → CoreFits c → CoreFits (call_gone call c)
gone_call call c h = with_out_fits c (without_out call c.out) (all_filter OutFits (λ o. not (o.call == call)) c.out h.out) h

pub answer_event : (most now call : ℕ) (a : Answer) (x : Option OutCall) (c : Core) → most ≤ max_number → If OutFits x → AnswerFits most a → CoreFits c → Leaves (answer_of now call a x c)
answer_event most now call a None c l b f h = h
answer_event most now call a (Some o) c l b f h = go_on _ (answered_core most now o a (call_gone call c) l b f (gone_call call c h))

pub loss_event : (now call : ℕ) (x : Option OutCall) (c : Core) → CoreFits c → Leaves (loss_of now call x c)
loss_event now call None c h = h
loss_event now call (Some o) c h = go_on _ (lost_fits now o (call_gone call c) (gone_call call c h))

pub out_there : (call : ℕ) (c : Core) → CoreFits c → If OutFits (out_at call c.out)
out_there call c h = out_found call c.out h.out

-- ---- Tick, Item, Cut

anew_fits : (u : Upstream) (c : Core) → UpstreamFits u → CoreFits c → CoreFits (due_anew u c)
anew_fits u c f h = record {
  settings = h.settings;
  members = h.members;
  seat = h.seat;
  leasing = f;
  reads = record { ground = record { own = h.reads.ground.own; acquires = h.reads.ground.acquires }; asks = h.reads.asks };
  out = h.out;
  watches = record { streams = h.watches.streams; watches = h.watches.watches };
}

ticked_seat : (word ttl step now : ℕ) (o : Option Seat) → If SeatFits o → SeatFits (seat_ticked word ttl step now o)
ticked_seat word ttl step now None h = drawn word
  where
    drawn : (word : ℕ) → Number (drawn_session word)
    drawn word = omega arith
ticked_seat word ttl step now (Some s) h = h

leasing_ticked_fits : (o : Option Opening) (c : Core) → If OpeningFits o → CoreFits c → CoreFits (leasing_ticked o c)
leasing_ticked_fits None c f h = anew_fits _ c (record { range = (h.reads.ground.own.prefix, prefix_end_fits c.own.waits.prefix h.reads.ground.own.prefix); next = omega arith }) h
leasing_ticked_fits (Some o) c f h = h

pub tick_event : (now word : ℕ) (c : Core) → CoreFits c → Leaves (on_tick now word c)
unfolding on_tick
tick_event now word c h =
    let s = seat_ticked word c.settings.ttl c.own.waits.step now c.seat in
    either CoreFits (leases c) (ticked now word c) c
    (leasing_ticked_fits c.leasing (record c { seat = Some s }) h.leasing (with_seat_fits c (Some s) (ticked_seat word c.settings.ttl c.own.waits.step now c.seat h.seat) h)) h

leasing_cut_fits : (o : Opening) (c : Core) → OpeningFits o → CoreFits c → CoreFits (leasing_cut o c)
leasing_cut_fits o c f h = anew_fits _ c (record { range = f.range; next = f.next }) h

opened_own : (c : Core) (o : Opening) (own : Ownership) → OpeningFits o → OwnFits own → CoreFits c → CoreFits (record c { leasing = Some o; own = own })
opened_own c o own f n h = record {
  settings = h.settings;
  members = h.members;
  seat = h.seat;
  leasing = f;
  reads = record { ground = record { own = n; acquires = h.reads.ground.acquires }; asks = h.reads.asks };
  out = h.out;
  watches = h.watches;
}

leasing_created_fits : (most : ℕ) (o : Opening) (x : Header) (c : Core) → most + 1 ≤ max_number → HeaderFits most x → OpeningFits o → CoreFits c → CoreFits (leasing_created o x c)
leasing_created_fits most o x c l f k h =
    either CoreFits o.stream.created c _ h
    (opened_own c _ (own_created o.stream.next c.own) (created_fits most o.stream x.revision l f.revision k)
    (either OwnFits (o.stream.next == 0) (resynced c.own) c.own (gone_fits (λ k. true) c.own h.reads.ground.own) h.reads.ground.own) h)

leasing_cancelled_fits : (o : Opening) (compaction : ℕ) (c : Core) → OpeningFits o → CoreFits c → CoreFits (leasing_cancelled o compaction c)
leasing_cancelled_fits o compaction c f h =
    either CoreFits (compaction == 0) (leasing_cut o c) _ (leasing_cut_fits o c f h)
    (anew_fits _ (record c { own = all_given_up c.own }) (record { range = f.range; next = omega arith }) (with_own_fits c (all_given_up c.own) (given_up_fits c.own h.reads.ground.own) h))

leasing_told_fits : (most now : ℕ) (o : Opening) (x : Header) (es : List Event) (c : Core) → most + 1 ≤ max_number → HeaderFits most x → EventsFit most es → OpeningFits o → CoreFits c → CoreFits (leasing_told now o x es c)
leasing_told_fits most now o x es c l f g k h =
    either CoreFits (is_readable o.stream es) _ (leasing_cut o c)
    (opened_own c _ (all_noticed (live_number c.seat now) es c.own) (advance_fits most o.stream (told_revision x es) l (last_fits most x.revision es f.revision g.0) k)
    (all_noticed_fits most (live_number c.seat now) es c.own (omega (arith, l)) g.0 h.reads.ground.own) h)
    (leasing_cut_fits o c k h)

leasing_message_fits : (most now : ℕ) (o : Opening) (x : WatchItem) (c : Core) → most + 1 ≤ max_number → MessageFits most x → OpeningFits o → CoreFits c → CoreFits (leasing_message now o x c)
leasing_message_fits most now o (item.Created y) c l f k h = leasing_created_fits most o y c l f k h
leasing_message_fits most now o (item.Events y es) c l f k h = leasing_told_fits most now o y es c l f.0 f.1 k h
leasing_message_fits most now o (item.Canceled y compaction) c l f k h = leasing_cancelled_fits o compaction c k h

leasing_unwrapped : (most now : ℕ) (o : Opening) (u : Unwrapped WatchItem) (c : Core) → most + 1 ≤ max_number → Stands (MessageFits most) u → OpeningFits o → CoreFits c → CoreFits (leasing.unwrapped_message now o u c)
leasing_unwrapped most now o (Ok x) c l f k h = leasing_message_fits most now o x c l f k h
leasing_unwrapped most now o (Err foreign) c l f k h = leasing_cut_fits o c k h

leasing_sent : (most now : ℕ) (o : Opening) (s : Option ℕ) (x : WatchItem) (c : Core) → most + 1 ≤ max_number → MessageFits most x → OpeningFits o → CoreFits c → CoreFits (message_if_sent now o s x c)
leasing_sent most now o None x c l f k h = leasing_unwrapped most now o (item_without c.settings.namespace x) c l (message_fits most c.settings.namespace x f) k h
leasing_sent most now o (Some since) x c l f k h = h

leasing_item_fits : (most now : ℕ) (o : Opening) (x : WatchItem) (c : Core) → most + 1 ≤ max_number → MessageFits most x → OpeningFits o → CoreFits c → CoreFits (leasing_item now o x c)
leasing_item_fits most now o x c l f k h = leasing_sent most now o o.due x (header_taken (leasing.item_header x) c) l f k (header_fits (leasing.item_header x) c h)

stream_message_fits : (most : ℕ) (s : Stream) (x : WatchItem) (c : Core) → most + 1 ≤ max_number → MessageFits most x → StreamFits s → CoreFits c → CoreFits (stream_message s x c)
stream_message_fits most s (item.Created y) c l f k h = with_watches_fits c _ (created_stands most c.watches s y c.header l f k h.watches) h
stream_message_fits most s (item.Events y es) c l f k h = with_watches_fits c _ (delivered_fits most c.watches s y es l f.0 f.1.0 k h.watches) h
stream_message_fits most s (item.Canceled y compaction) c l f k h = with_watches_fits c _ (cancelled_fits c.watches s y compaction c.header k h.watches) h

stream_unwrapped : (most : ℕ) (s : Stream) (u : Unwrapped WatchItem) (c : Core) → most + 1 ≤ max_number → Stands (MessageFits most) u → StreamFits s → CoreFits c → CoreFits (watching.unwrapped_message s u c)
stream_unwrapped most s (Ok y) c l f k h = stream_message_fits most s y c l f k h
stream_unwrapped most s (Err foreign) c l f k h = with_watches_fits c _ (cut_fits c.watches s k h.watches) h

stream_item_fits : (most : ℕ) (s : Stream) (x : WatchItem) (c : Core) → most + 1 ≤ max_number → MessageFits most x → StreamFits s → CoreFits c → CoreFits (stream_item s x c)
stream_item_fits most s x c l f k h =
    let d = header_taken (leasing.item_header x) c in
    let n = header_fits (leasing.item_header x) c h in
    either CoreFits (is_begun s.phase) (watching.unwrapped_message s (item_without d.settings.namespace x) d) d
    (stream_unwrapped most s (item_without d.settings.namespace x) d l (message_fits most d.settings.namespace x f) k n) n

client_item_fits : (most number : ℕ) (x : WatchItem) (s : Option Stream) (c : Core) → most + 1 ≤ max_number → MessageFits most x → If StreamFits s → CoreFits c → Leaves (client_item number x s c)
client_item_fits most number x None c l f k h = h
client_item_fits most number x (Some s) c l f k h = go_on _ (stream_item_fits most s x c l f k h)

-- the leasing stream, where it has this number
pub opening_fits : (number : ℕ) (c : Core) → CoreFits c → If OpeningFits (opening_at number c.leasing)
opening_fits number c h = by_opening c.leasing h.leasing
  where
    by_opening : (o : Option Opening) → If OpeningFits o → If OpeningFits (opening_at number o)
    by_opening None f = tt
    by_opening (Some o) f = either (If OpeningFits) (o.number == number) (Some o) None f tt

pub item_event : (most now number : ℕ) (x : WatchItem) (o : Option Opening) (c : Core) → most + 1 ≤ max_number → MessageFits most x → If OpeningFits o → CoreFits c → Leaves (item_of now number x o c)
item_event most now number x None c l f k h = client_item_fits most number x (stream_at number c.watches.streams) c l f (stream_found number c.watches.streams h.watches.streams) h
item_event most now number x (Some o) c l f k h = go_on _ (leasing_item_fits most now o x c l f k h)

client_cut_fits : (number : ℕ) (s : Option Stream) (c : Core) → If StreamFits s → CoreFits c → Leaves (client_cut number s c)
client_cut_fits number None c k h = h
client_cut_fits number (Some s) c k h = with_watches_fits c _ (cut_fits c.watches s k h.watches) h

pub cut_event : (number : ℕ) (o : Option Opening) (c : Core) → If OpeningFits o → CoreFits c → Leaves (cut_of number o c)
cut_event number None c k h = client_cut_fits number (stream_at number c.watches.streams) c (stream_found number c.watches.streams h.watches.streams) h
cut_event number (Some o) c k h = leasing_cut_fits o c k h

-- ---- Take, Leave

item_taken_fits : (ticket : ℕ) (w : Option Watch) (c : Core) → If WatchFits w → CoreFits c → Leaves (item_taken ticket w c)
item_taken_fits ticket None c k h = h
item_taken_fits ticket (Some w) c k h = by_pair (watches.taken_from c.watches c.header w w.queue) (taken_from_fits c.watches c.header w w.queue k h.watches)
  where
    by_pair : (x : Broadcasts × Option WatchItem) → BroadcastsFit x.0 → Leaves (taken_item c x)
    by_pair (b, None) n = h
    by_pair (b, Some x) n = with_watches_fits c b n h

without_fits : (ticket : ℕ) (xs : List Asked) → AsksFit xs → AsksFit (without_ask ticket xs)
without_fits ticket xs h = all_filter AskFits (λ a. not (has_ticket ticket a)) xs h

take_by_stage : (ticket : ℕ) (s : Stage) (c : Core) → CoreFits c → Leaves (takes.taken_from ticket s c)
take_by_stage ticket (stage.Calling s) c h = h
take_by_stage ticket stage.Acquiring c h = h
take_by_stage ticket stage.Joined c h = h
take_by_stage ticket stage.Behind c h = h
take_by_stage ticket stage.Writes c h = h
take_by_stage ticket (stage.Grouped s) c h = h
take_by_stage ticket (stage.Replied v) c h = with_asks_fits c (without_ask ticket c.asks) (without_fits ticket c.asks h.reads.asks) h

pub take_event : (ticket : ℕ) (o : Option Asked) (c : Core) → CoreFits c → Leaves (taken ticket o c)
take_event ticket None c h = item_taken_fits ticket (watch_at ticket c.watches.watches) c (watch_found ticket c.watches.watches h.watches.watches) h
take_event ticket (Some a) c h = take_by_stage ticket a.stage c h

pub leave_event : (now ticket : ℕ) (o : Option Asked) (c : Core) → CoreFits c → Leaves (left now ticket o c)
leave_event now ticket None c h = by_watch (watch_at ticket c.watches.watches)
  where
    by_watch : (w : Option Watch) → Leaves (watcher_left ticket w c)
    by_watch None = h
    by_watch (Some w) = with_watches_fits c _ (removed_fits c.watches ticket (watch_at ticket c.watches.watches) h.watches) h
leave_event now ticket (Some a) c h =
    let xs = without_ask ticket c.asks in
    go_on (has_left now ticket c) (with_reads_fits c _ (taken_off_fits (moment c now) (has_ticket ticket) xs (reads_of c) (moment_fits c now h) (without_fits ticket c.asks h.reads.asks) h.reads) h)
