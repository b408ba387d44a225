-- What clients do, and streams that break off.
use Rattle.std.proofs.Common.{◌≡◌, ℕ, ◌==◌, Bool, true, false, cond, ◌||◌, List, [], ◌∷◌, ◌++◌, Option, None, Some, is_some, refl, sym, ◌∙◌, ap, subst}
use Rattle.etcd_types.specs.declared.answer.Body.{Body}
use Rattle.etcd_types.specs.declared.answer.Refusal.{Refusal}
use Rattle.etcd_types.specs.declared.request.Request.{Request}
use Rattle.etcd_types.specs.declared.request.Request.TheVariants as request
use Rattle.etcd_types.specs.declared.watch.WatchItem.{WatchItem}
use Rattle.etcd_types.proofs.Bools.{or_first}
use Rattle.proxy_model.specs.Keyed.{at}
use Rattle.wait_model.specs.declared.write.Write.{Write}
use Rattle.wait_model.specs.declared.write.WriteStage.TheVariants.{Waiting}
use Rattle.wait_model.specs.Asked.{new_write, submitted}
use Rattle.wait_model.specs.Covers.{covers}
use Rattle.wait_model.specs.Fits.{Fits, stage_over}
use Rattle.read_model.specs.declared.asked.Asked.{Asked}
use Rattle.read_model.specs.declared.asked.Stage.{Stage}
use Rattle.read_model.specs.declared.asked.Stage.TheVariants as stage
use Rattle.read_model.specs.Acquires.{read_asked}
use Rattle.read_model.specs.PlainRead.{decided_ask}
use Rattle.read_model.specs.State.{Moment, ground_of}
use Rattle.core_laws.proofs.PlainReads.Kept.{asks_keep, taking_off_keeps}
use Rattle.watch_model.specs.Lookups.{stream_at, watch_at}
use Rattle.watch_model.specs.State.{Stream, Watch, Broadcasts}
use Rattle.watch_model.specs.Takes as watches
use Rattle.core_model.specs.Asking.{asked_at, is_leased_read, read_by, read_is_asked, with_ask, write_is_asked, held_body, if_live, call_stage, call_is_asked, answered_or_called, leased_ask, taken_in, request_asked, refused_or_taken, on_ask}
use Rattle.core_model.specs.ClockWork.{writes_go_on}
use Rattle.core_model.specs.Fits.{ask_tickets, has_number, is_standing, CoreOk}
use Rattle.core_model.specs.Kinds.{writes_keys}
use Rattle.core_model.specs.Lookups.{leases, moment, reads_of, with_reads, has_ticket, ask_at, without_ask, is_known}
use Rattle.core_model.specs.Refusals.{refusal_of}
use Rattle.core_model.specs.State.{Opening, Core}
use Rattle.core_model.specs.Step.{opening_at, client_cut, cut_of, on_cut}
use Rattle.core_model.specs.Stepped.{Stepped, faults}
use Rattle.core_model.specs.Takes.{taken_from, item_taken, taken, on_take, has_left, watcher_left, left, on_leave}
use Rattle.core_model.specs.Watching.{taken_item, watch_taken}
use Rattle.core_model.specs.declared.event.StepFault.TheVariants as fault
use Rattle.cache_laws.specs.Moves.View.{View}
use Rattle.cache_laws.specs.Moves.Invariant.{Inv}
use Rattle.row_laws.specs.Rows.{write_number, slot_of, row_of}
use Rattle.row_laws.proofs.EndRows.{decided_row, taken_off_turns}
use Rattle.core_laws.proofs.Steps.Asks.{unknown, write_mid}
use Rattle.core_laws.proofs.Steps.Whole.{of_ok}
use Rattle.core_moves.specs.Clients.{AsksMove, TakesMove, LeavesMove, CutsMove}
use Rattle.core_moves.specs.Sees.{term_of, ground_in, Sees, Moves}
use Rattle.core_moves.proofs.Clocks.{stays_so, rows_move, moves_on, pass_moves}

-- what the view sees of two cores is the same
pub sees_same : (v : View) (p now : ℕ) (own : ℕ → ℕ) (c d : Core) → d.seat ≡ c.seat → d.own ≡ c.own → d.acquires ≡ c.acquires → Sees v p now own c → Sees v p now own d
sees_same v p now own c d seat owned acquires s =
    record {
      clock = s.clock;
      term = s.term ∙ ap term_of (sym seat);
      row = λ k. s.row k ∙ (λ i. row_of own (record { own = sym owned i; acquires = sym acquires i }) k);
    }

-- A write that is handed in waits, which isn't seen.

over_new : (ticket : ℕ) (q : Request) (k : List ℕ) (ws : List Write) → stage_over k (ws ++ new_write ticket q ∷ []) ≡ stage_over k ws
over_new ticket q k [] = by (covers (new_write ticket q) k)
  where
    by : (b : Bool) → cond b Waiting Waiting ≡ Waiting
    by true = refl
    by false = refl
over_new ticket q k (w ∷ ws) = ap (cond (covers w k) w.stage) (over_new ticket q k ws)

module _ (holder : ℕ → ℕ) (v : View) (p now : ℕ) (own : ℕ → ℕ) where
  abbrev After : Stepped → Type 0
  After x = Moves holder v p now own x.core

  -- Ask.

  call_moves : (a : Asked) (c : Core) → CoreOk c → Sees v p now own c → Inv holder v → After (call_is_asked a c)
  call_moves a c ok s h = pass_moves holder v p now own (with_ask (call_stage a.request c) a c) ok.reads.ground.keys (record { clock = s.clock; term = s.term; row = s.row }) h

  read_moves : (m : Moment) (a : Asked) (c : Core) → CoreOk c → Sees v p now own c → Inv holder v → After (read_is_asked m a c)
  read_moves m a c ok s h = by_stage (decided_ask m (ground_of (reads_of c)) a).stage
    where
      waits : Moves holder v p now own (writes_go_on (with_reads c (read_asked m a (reads_of c))))
      waits =
          pass_moves holder v p now own (with_reads c (read_asked m a (reads_of c))) (asks_keep (is_standing c.seat) m a (reads_of c) ok.reads).ground.keys
          (record { clock = s.clock; term = s.term; row = λ k. s.row k ∙ sym (decided_row own m (ground_of (reads_of c)) a k) }) h

      by_stage : (x : Stage) → After (read_by x c (with_reads c (read_asked m a (reads_of c))))
      by_stage (stage.Calling x) = waits
      by_stage stage.Acquiring = waits
      by_stage stage.Joined = waits
      by_stage stage.Behind = waits
      by_stage stage.Writes = waits
      by_stage (stage.Grouped x) = waits
      by_stage (stage.Replied x) = stays_so holder v p now own c s h

  write_moves : (a : Asked) (c : Core) → has_number (ask_tickets c.asks) a.ticket ≡ false → writes_keys a.request ≡ true → CoreOk c → Sees v p now own c → Inv holder v → After (write_is_asked a c)
  write_moves a c n w ok s h =
      pass_moves holder v p now own (with_ask stage.Writes a (record c { own = submitted a.ticket a.request c.own })) (write_mid 0 c a n w (of_ok c ok).mid).reads.ground.keys
      (record { clock = s.clock; term = s.term; row = λ k. s.row k ∙ (λ i. slot_of own (at c.own.entries k) (at c.acquires k) (at c.own.waits.spoiled k) (sym (over_new a.ticket a.request k c.own.waits.writes) i)) }) h

  answered_moves : (o : Option Body) (a : Asked) (c : Core) → CoreOk c → Sees v p now own c → Inv holder v → After (answered_or_called o a c)
  answered_moves None a c ok s h = call_moves a c ok s h
  answered_moves (Some b) a c ok s h = stays_so holder v p now own c s h

  taken_moves : (m : Moment) (a : Asked) (c : Core) → has_number (ask_tickets c.asks) a.ticket ≡ false → CoreOk c → Sees v p now own c → Inv holder v → After (taken_in m a c)
  taken_moves m a c n ok s h = by_leases (leases c)
    where
      other : Option Body
      other = if_live m.session (held_body c.own.entries a.request)

      by_write : (b : Bool) → writes_keys a.request ≡ b → After (cond b (write_is_asked a c) (answered_or_called other a c))
      by_write true e = write_moves a c n e ok s h
      by_write false e = answered_moves other a c ok s h

      by_read : (b : Bool) → After (cond b (read_is_asked m a c) (cond (writes_keys a.request) (write_is_asked a c) (answered_or_called other a c)))
      by_read true = read_moves m a c ok s h
      by_read false = by_write (writes_keys a.request) refl

      by_leases : (b : Bool) → After (cond b (leased_ask m a c) (call_is_asked a c))
      by_leases true = by_read (is_leased_read c.own.waits.prefix a.request)
      by_leases false = call_moves a c ok s h

  request_moves : (q : Request) (m : Moment) (a : Asked) (c : Core) → has_number (ask_tickets c.asks) a.ticket ≡ false → CoreOk c → Sees v p now own c → Inv holder v → After (request_asked q m a c)
  request_moves (request.Watch ask) m a c n ok s h = stays_so holder v p now own _ (record { clock = s.clock; term = s.term; row = s.row }) h
  request_moves (request.Range ask) m a c n ok s h = taken_moves m a c n ok s h
  request_moves (request.Put ask) m a c n ok s h = taken_moves m a c n ok s h
  request_moves (request.Delete ask) m a c n ok s h = taken_moves m a c n ok s h
  request_moves (request.Txn t) m a c n ok s h = taken_moves m a c n ok s h
  request_moves (request.Compact revision physical) m a c n ok s h = taken_moves m a c n ok s h
  request_moves (request.Grant ttl lease) m a c n ok s h = taken_moves m a c n ok s h
  request_moves (request.Revoke lease) m a c n ok s h = taken_moves m a c n ok s h
  request_moves (request.KeepAlive lease) m a c n ok s h = taken_moves m a c n ok s h
  request_moves (request.TimeToLive lease keys) m a c n ok s h = taken_moves m a c n ok s h
  request_moves request.Leases m a c n ok s h = taken_moves m a c n ok s h

  -- Take, Leave, Cut.

  watch_takes : (w : Watch) (c : Core) → Sees v p now own c → Inv holder v → After (watch_taken w c)
  watch_takes w c s h = by (watches.taken_from c.watches c.header w w.queue)
    where
      by : (x : Broadcasts × Option WatchItem) → After (taken_item c x)
      by (b, None) = stays_so holder v p now own c s h
      by (b, Some x) = stays_so holder v p now own _ (record { clock = s.clock; term = s.term; row = s.row }) h

  reply_takes : (ticket : ℕ) (x : Stage) (c : Core) → Sees v p now own c → Inv holder v → After (taken_from ticket x c)
  reply_takes ticket (stage.Replied r) c s h = stays_so holder v p now own _ (record { clock = s.clock; term = s.term; row = s.row }) h
  reply_takes ticket (stage.Calling x) c s h = stays_so holder v p now own c s h
  reply_takes ticket stage.Acquiring c s h = stays_so holder v p now own c s h
  reply_takes ticket stage.Joined c s h = stays_so holder v p now own c s h
  reply_takes ticket stage.Behind c s h = stays_so holder v p now own c s h
  reply_takes ticket stage.Writes c s h = stays_so holder v p now own c s h
  reply_takes ticket (stage.Grouped x) c s h = stays_so holder v p now own c s h

pub asks_move : AsksMove
unfolding on_ask
asks_move holder v p now own ticket q word c ok s h = by (is_known ticket c) refl
  where
    by_refusal : (r : Option Refusal) → has_number (ask_tickets c.asks) ticket ≡ false → Moves holder v p now own (refused_or_taken r (moment c now) (asked_at now ticket q word) c).core
    by_refusal None n = request_moves holder v p now own q (moment c now) (asked_at now ticket q word) c n ok s h
    by_refusal (Some r) n = stays_so holder v p now own c s h

    by : (b : Bool) → is_known ticket c ≡ b → Moves holder v p now own (cond b (faults c (fault.TicketUsed ticket)) (refused_or_taken (refusal_of c.own.waits.prefix q) (moment c now) (asked_at now ticket q word) c)).core
    by true e = stays_so holder v p now own c s h
    by false e = by_refusal (refusal_of c.own.waits.prefix q) (unknown ticket c.asks (or_first (is_some (ask_at ticket c.asks)) (is_some (watch_at ticket c.watches.watches)) e))

pub takes_move : TakesMove
unfolding on_take
takes_move holder v p now own ticket c s h = by (ask_at ticket c.asks)
  where
    by_watch : (o : Option Watch) → Moves holder v p now own (item_taken ticket o c).core
    by_watch None = stays_so holder v p now own c s h
    by_watch (Some w) = watch_takes holder v p now own w c s h

    by : (o : Option Asked) → Moves holder v p now own (taken ticket o c).core
    by None = by_watch (watch_at ticket c.watches.watches)
    by (Some a) = reply_takes holder v p now own ticket a.stage c s h

pub leaves_move : LeavesMove
unfolding on_leave
leaves_move holder v p now own ticket c ok s h = by (ask_at ticket c.asks)
  where
    by_watch : (o : Option Watch) → Moves holder v p now own (watcher_left ticket o c).core
    by_watch None = stays_so holder v p now own c s h
    by_watch (Some w) = stays_so holder v p now own _ (record { clock = s.clock; term = s.term; row = s.row }) h

    by : (o : Option Asked) → Moves holder v p now own (left now ticket o c).core
    by None = by_watch (watch_at ticket c.watches.watches)
    by (Some a) =
        let d = has_left now ticket c in
        let m = rows_move holder v p now own c d s h refl (taken_off_turns v p own (moment c now) (has_ticket ticket) (without_ask ticket c.asks) (reads_of c) ok.reads.ground.keys) in
        let fits = (taking_off_keeps (is_standing c.seat) (moment c now) (has_ticket ticket) (without_ask ticket c.asks) (reads_of c) ok.reads.ground).ground.keys in
        moves_on holder v p now own d (writes_go_on d) m (pass_moves holder m.after p now own d fits m.sees m.inv)

pub cuts_move : CutsMove
unfolding on_cut
cuts_move holder v p now own number c s h = by (opening_at number c.leasing)
  where
    by_stream : (o : Option Stream) → Moves holder v p now own (client_cut number o c).core
    by_stream None = stays_so holder v p now own c s h
    by_stream (Some x) = stays_so holder v p now own _ (record { clock = s.clock; term = s.term; row = s.row }) h

    by : (o : Option Opening) → Moves holder v p now own (cut_of number o c).core
    by None = by_stream (stream_at number c.watches.streams)
    by (Some o) = stays_so holder v p now own _ (record { clock = s.clock; term = s.term; row = s.row }) h
