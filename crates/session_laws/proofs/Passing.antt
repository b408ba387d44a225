-- What events that end no call make of the session and of the calls that are out: nothing, but for a tick, and for the end of a session
-- that the clock's work brings.
use Rattle.std.proofs.Common.{◌≡◌, ℕ, ◌==◌, Bool, true, false, cond, List, Option, None, Some, Ok, Err}
use Rattle.etcd_types.specs.declared.answer.Body.{Body}
use Rattle.etcd_types.specs.declared.answer.Refusal.{Refusal}
use Rattle.etcd_types.specs.declared.request.Request.{Request}
use Rattle.etcd_types.specs.declared.request.Request.TheVariants as request
use Rattle.etcd_types.specs.declared.watch.WatchItem.{WatchItem}
use Rattle.etcd_types.specs.declared.watch.WatchItem.TheVariants as item
use Rattle.proxy_model.specs.Unwrapped.{Unwrapped, item_without}
use Rattle.read_model.specs.declared.asked.Asked.{Asked}
use Rattle.read_model.specs.declared.asked.Stage.{Stage}
use Rattle.read_model.specs.declared.asked.Stage.TheVariants as stage
use Rattle.read_model.specs.Acquires.{read_asked}
use Rattle.read_model.specs.PlainRead.{decided_ask}
use Rattle.read_model.specs.State.{Moment, ground_of}
use Rattle.core_model.specs.declared.out_call.OutCall.{OutCall}
use Rattle.core_model.specs.Asking.{asked_at, is_leased_read, read_by, held_body, if_live, answered_or_called, leased_ask, taken_in, request_asked, refused_or_taken, on_ask}
use Rattle.core_model.specs.ClockWork.{begun, clock_work}
use Rattle.core_model.specs.Heard.{header_taken}
use Rattle.core_model.specs.Kinds.{writes_keys}
use Rattle.core_model.specs.LeasingStream.{leasing_ticked, leasing_cut, leasing_message, message_if_sent, item_header, leasing_item, is_readable}
use Rattle.core_model.specs.LeasingStream as leasing
use Rattle.core_model.specs.Lookups.{leases, is_known, moment, reads_of, with_reads, ask_at}
use Rattle.core_model.specs.Refusals.{refusal_of}
use Rattle.core_model.specs.Sessions.{seat_is_over, seat_ticked, without_session}
use Rattle.core_model.specs.State.{Seat, Opening, Core}
use Rattle.core_model.specs.Step.{ticked, on_tick, client_item, item_of, on_item, client_cut, cut_of, on_cut, opening_at}
use Rattle.core_model.specs.Stepped.{Stepped}
use Rattle.core_model.specs.Takes.{item_taken, taken, on_take, watcher_left, left, on_leave}
use Rattle.core_model.specs.Takes as takes
use Rattle.core_model.specs.Watching.{stream_message, stream_item, taken_item}
use Rattle.core_model.specs.Watching as watching
use Rattle.watch_model.specs.Lookups.{stream_at, watch_at, is_begun}
use Rattle.watch_model.specs.State.{Stream, Watch, Broadcasts}
use Rattle.watch_model.specs.Takes as watches
use Rattle.core_laws.proofs.Steps.Comes.{by_test}

-- the session behind the clock's work
abbrev pub seat_after : ℕ → Option Seat → Option Seat
seat_after now s = cond (seat_is_over s now) None s

module _ (S : Option Seat → List OutCall → Type 0) where
  abbrev pub CoreSo : Core → Type 0
  CoreSo c = S c.seat c.out

  abbrev pub StepSo : Stepped → Type 0
  StepSo s = CoreSo s.core

  pub clock_so : (now : ℕ) (c : Core) → S (seat_after now c.seat) c.out → CoreSo (clock_work now c)
  unfolding clock_work
  clock_so now c = by (seat_is_over c.seat now)
    where
      by : (b : Bool) → S (cond b None c.seat) c.out → S (cond b (without_session now (begun c)) (begun c)).seat (cond b (without_session now (begun c)) (begun c)).out
      by true h = h
      by false h = h

  -- a tick

  pub tick_so : (now word : ℕ) (c : Core) → CoreSo c → (leases c ≡ true → S (Some (seat_ticked word c.settings.ttl c.own.waits.step now c.seat)) c.out) → StepSo (on_tick now word c)
  unfolding on_tick
  tick_so now word c t h = by_test CoreSo (leases c) (ticked now word c) c (λ e. by c.leasing (h e)) (λ e. t)
    where
      by : (o : Option Opening) → S (Some (seat_ticked word c.settings.ttl c.own.waits.step now c.seat)) c.out → CoreSo (leasing_ticked o (record c { seat = Some (seat_ticked word c.settings.ttl c.own.waits.step now c.seat) }))
      by None k = k
      by (Some o) k = k

  -- messages and cuts

  message_so : (now : ℕ) (o : Opening) (x : WatchItem) (c : Core) → CoreSo c → CoreSo (leasing_message now o x c)
  message_so now o (item.Created d) c t = by_test CoreSo o.stream.created c _ (λ e. t) (λ e. t)
  message_so now o (item.Events d es) c t = by_test CoreSo (is_readable o.stream es) _ (leasing_cut o c) (λ e. t) (λ e. t)
  message_so now o (item.Canceled d compaction) c t = by_test CoreSo (compaction == 0) (leasing_cut o c) _ (λ e. t) (λ e. t)

  leasing_so : (now : ℕ) (o : Opening) (x : WatchItem) (c : Core) → CoreSo c → CoreSo (leasing_item now o x c)
  leasing_so now o x c t = by_due o.due
    where
      by_text : (u : Unwrapped WatchItem) (d : Core) → CoreSo d → CoreSo (leasing.unwrapped_message now o u d)
      by_text (Ok y) d e = message_so now o y d e
      by_text (Err foreign) d e = e

      by_due : (s : Option ℕ) → CoreSo (message_if_sent now o s x (header_taken (item_header x) c))
      by_due None = by_text (item_without c.settings.namespace x) (header_taken (item_header x) c) t
      by_due (Some since) = t

  stream_so : (s : Stream) (x : WatchItem) (c : Core) → CoreSo c → CoreSo (stream_item s x c)
  stream_so s x c t = by_test CoreSo (is_begun s.phase) _ (header_taken (item_header x) c) (λ e. by_text (item_without c.settings.namespace x)) (λ e. t)
    where
      by_message : (y : WatchItem) → CoreSo (stream_message s y (header_taken (item_header x) c))
      by_message (item.Created d) = t
      by_message (item.Events d es) = t
      by_message (item.Canceled d compaction) = t

      by_text : (u : Unwrapped WatchItem) → CoreSo (watching.unwrapped_message s u (header_taken (item_header x) c))
      by_text (Ok y) = by_message y
      by_text (Err foreign) = t

  pub item_so : (now number : ℕ) (x : WatchItem) (c : Core) → CoreSo c → StepSo (on_item now number x c)
  unfolding on_item
  item_so now number x c t = by_opening (opening_at number c.leasing)
    where
      by_stream : (s : Option Stream) → StepSo (client_item number x s c)
      by_stream None = t
      by_stream (Some s) = stream_so s x c t

      by_opening : (o : Option Opening) → StepSo (item_of now number x o c)
      by_opening None = by_stream (stream_at number c.watches.streams)
      by_opening (Some o) = leasing_so now o x c t

  pub cut_so : (number : ℕ) (c : Core) → CoreSo c → StepSo (on_cut number c)
  unfolding on_cut
  cut_so number c t = by_opening (opening_at number c.leasing)
    where
      by_stream : (s : Option Stream) → StepSo (client_cut number s c)
      by_stream None = t
      by_stream (Some s) = t

      by_opening : (o : Option Opening) → StepSo (cut_of number o c)
      by_opening None = by_stream (stream_at number c.watches.streams)
      by_opening (Some o) = t

  -- takes and leaving

  pub take_so : (ticket : ℕ) (c : Core) → CoreSo c → StepSo (on_take ticket c)
  unfolding on_take
  take_so ticket c t = by_ask (ask_at ticket c.asks)
    where
      by_pair : (x : Broadcasts × Option WatchItem) → StepSo (taken_item c x)
      by_pair (b, None) = t
      by_pair (b, Some x) = t

      by_watch : (w : Option Watch) → StepSo (item_taken ticket w c)
      by_watch None = t
      by_watch (Some w) = by_pair (watches.taken_from c.watches c.header w w.queue)

      by_stage : (s : Stage) → StepSo (takes.taken_from ticket s c)
      by_stage (stage.Replied v) = t
      by_stage (stage.Calling s) = t
      by_stage stage.Acquiring = t
      by_stage stage.Joined = t
      by_stage stage.Behind = t
      by_stage stage.Writes = t
      by_stage (stage.Grouped s) = t

      by_ask : (o : Option Asked) → StepSo (taken ticket o c)
      by_ask None = by_watch (watch_at ticket c.watches.watches)
      by_ask (Some a) = by_stage a.stage

  pub leave_so : (now ticket : ℕ) (c : Core) → CoreSo c → StepSo (on_leave now ticket c)
  unfolding on_leave
  leave_so now ticket c t = by_ask (ask_at ticket c.asks)
    where
      by_watch : (w : Option Watch) → StepSo (watcher_left ticket w c)
      by_watch None = t
      by_watch (Some w) = t

      by_ask : (o : Option Asked) → StepSo (left now ticket o c)
      by_ask None = by_watch (watch_at ticket c.watches.watches)
      by_ask (Some a) = t

  -- a request is asked

  leased_so : (m : Moment) (a : Asked) (c : Core) → CoreSo c → StepSo (leased_ask m a c)
  leased_so m a c t =
      by_test StepSo (is_leased_read c.own.waits.prefix a.request) _ _ (λ e. by_stage (decided_ask m (ground_of (reads_of c)) a).stage)
      (λ e. by_test StepSo (writes_keys a.request) _ _ (λ u. t) (λ u. by_body (if_live m.session (held_body c.own.entries a.request))))
    where
      by_stage : (s : Stage) → StepSo (read_by s c (with_reads c (read_asked m a (reads_of c))))
      by_stage (stage.Replied v) = t
      by_stage (stage.Calling s) = t
      by_stage stage.Acquiring = t
      by_stage stage.Joined = t
      by_stage stage.Behind = t
      by_stage stage.Writes = t
      by_stage (stage.Grouped s) = t

      by_body : (b : Option Body) → StepSo (answered_or_called b a c)
      by_body None = t
      by_body (Some b) = t

  taken_in_so : (m : Moment) (a : Asked) (c : Core) → CoreSo c → StepSo (taken_in m a c)
  taken_in_so m a c t = by_test StepSo (leases c) _ _ (λ e. leased_so m a c t) (λ e. t)

  request_so : (q : Request) (m : Moment) (a : Asked) (c : Core) → CoreSo c → StepSo (request_asked q m a c)
  request_so (request.Watch ask) m a c t = t
  request_so (request.KeepAlive lease) m a c t = taken_in_so m a c t
  request_so (request.Range ask) m a c t = taken_in_so m a c t
  request_so (request.Put ask) m a c t = taken_in_so m a c t
  request_so (request.Delete ask) m a c t = taken_in_so m a c t
  request_so (request.Txn x) m a c t = taken_in_so m a c t
  request_so (request.Compact revision physical) m a c t = taken_in_so m a c t
  request_so (request.Grant ttl lease) m a c t = taken_in_so m a c t
  request_so (request.Revoke lease) m a c t = taken_in_so m a c t
  request_so (request.TimeToLive lease keys) m a c t = taken_in_so m a c t
  request_so request.Leases m a c t = taken_in_so m a c t

  pub asked_so : (now ticket : ℕ) (q : Request) (word : ℕ) (c : Core) → CoreSo c → StepSo (on_ask now ticket q word c)
  unfolding on_ask
  asked_so now ticket q word c t = by_test StepSo (is_known ticket c) _ _ (λ e. t) (λ e. by_refusal (refusal_of c.own.waits.prefix q))
    where
      by_refusal : (o : Option Refusal) → StepSo (refused_or_taken o (moment c now) (asked_at now ticket q word) c)
      by_refusal None = request_so q (moment c now) (asked_at now ticket q word) c t
      by_refusal (Some x) = t
