-- Messages of streams, and ticks.
use Rattle.std.proofs.Common.{◌≡◌, ◌≢◌, ℕ, ◌==◌, Bool, true, false, cond, ◌⊎◌, inl, inr, List, Option, None, Some, Result, Ok, Err, refl, sym, ◌∙◌, ap, subst}
use Rattle.etcd_types.specs.declared.record.Header.{Header}
use Rattle.etcd_types.specs.declared.watch.Event.{Event}
use Rattle.etcd_types.specs.declared.watch.WatchItem.{WatchItem}
use Rattle.etcd_types.specs.declared.watch.WatchItem.TheVariants as item
use Rattle.proxy_model.specs.Unwrapped.{Unwrapped, item_without}
use Rattle.wait_model.specs.Fits.{Fits}
use Rattle.wait_model.specs.LeasingStream.{resynced, all_given_up}
use Rattle.wait_model.specs.Notices.{all_noticed}
use Rattle.wait_model.specs.State.{Ownership}
use Rattle.proxy_model.specs.Upstream.{opened, created, advance}
use Rattle.read_model.specs.State.{Ground}
use Rattle.core_laws.specs.PlainReads.Kept.{NoticesOk}
use Rattle.core_laws.proofs.PlainReads.Kept.{notices_keep}
use Rattle.watch_model.specs.Lookups.{stream_at, is_begun}
use Rattle.watch_model.specs.State.{Stream}
use Rattle.core_model.specs.ClockWork.{writes_go_on}
use Rattle.core_model.specs.Fits.{is_standing, CoreOk}
use Rattle.core_model.specs.Heard.{header_taken}
use Rattle.core_model.specs.LeasingStream.{due_anew, told_revision, leasing_ticked, leasing_cut, stream_is, own_created, leasing_created, leasing_cancelled, is_readable, leasing_told, leasing_message, message_if_sent, item_header, leasing_item}
use Rattle.core_model.specs.LeasingStream as leasing
use Rattle.core_model.specs.Lookups.{leases, live_number, reads_of}
use Rattle.core_model.specs.Sessions.{drawn_session, seat_ticked}
use Rattle.core_model.specs.State.{Seat, Opening, Core}
use Rattle.core_model.specs.Step.{opening_at, client_item, item_of, on_item, ticked, on_tick}
use Rattle.core_model.specs.Watching.{stream_message, message_if_begun, stream_item}
use Rattle.core_model.specs.Watching as watching
use Rattle.cache_laws.specs.Moves.View.{Term, View}
use Rattle.cache_laws.specs.Moves.Answers.{Reaches}
use Rattle.cache_laws.specs.Moves.Invariant.{Inv}
use Rattle.cache_laws.specs.Moves.Sessions.{Draws, session_drawn}
use Rattle.cache_laws.proofs.Moves.Numbers.{same_number}
use Rattle.cache_laws.proofs.Moves.SessionProofs.{draws_keep}
use Rattle.row_laws.specs.Rows.{row_of}
use Rattle.row_laws.specs.Laws.{Rows}
use Rattle.row_laws.specs.Notices.{AreTold}
use Rattle.row_laws.proofs.Told.{messages_turn, resync_turns, cancellation_turns}
use Rattle.core_moves.specs.Clients.{TellsItem, ItemsMove, TickMoves, TicksMove}
use Rattle.core_moves.specs.Terms.{HasNumber}
use Rattle.core_moves.specs.Sees.{term_of, ground_in, Sees, Moves}
use Rattle.core_moves.proofs.Clocks.{put_here, put_there, stays_so, rows_move, moves_on, pass_moves}
use Rattle.core_moves.proofs.Terms.{seat_is_live}
use Rattle.core_moves.proofs.Clients.{sees_same}

module _ (holder : ℕ → ℕ) (v : View) (p now : ℕ) (own : ℕ → ℕ) (c : Core) (ok : CoreOk c) (some : HasNumber c.seat) (s : Sees v p now own c) (h : Inv holder v) where
  -- nothing that the view sees is changed, and waiting writes go on
  beside : (d : Core) → d.seat ≡ c.seat → d.own ≡ c.own → d.acquires ≡ c.acquires → Moves holder v p now own (writes_go_on d)
  beside d seat owned acquires =
      pass_moves holder v p now own d (subst (λ (x : Ownership). Fits x) (sym owned) ok.reads.ground.keys) (sees_same v p now own c d seat owned acquires s) h

  notices : NoticesOk (is_standing c.seat) (reads_of c)
  notices = notices_keep (is_standing c.seat) (reads_of c) ok.reads

  -- rows of the leasing stream's message, and then the pass
  told : (d : Core) → d.seat ≡ c.seat → Rows v p own (ground_in c) (ground_in d) → Fits d.own → Moves holder v p now own (writes_go_on d)
  told d seat rows fits =
      let m = rows_move holder v p now own c d s h seat rows in
      moves_on holder v p now own d (writes_go_on d) m (pass_moves holder m.after p now own d fits m.sees m.inv)

  -- A message of a client stream.

  stream_moves : (x : Stream) (y : WatchItem) → Moves holder v p now own (writes_go_on (stream_item x y c))
  stream_moves x y = by (is_begun x.phase)
    where
      d : Core
      d = header_taken (item_header y) c

      by_item : (z : WatchItem) → Moves holder v p now own (writes_go_on (stream_message x z d))
      by_item (item.Created e) = beside _ refl refl refl
      by_item (item.Events e events) = beside _ refl refl refl
      by_item (item.Canceled e compaction) = beside _ refl refl refl

      by_read : (z : Unwrapped WatchItem) → Moves holder v p now own (writes_go_on (watching.unwrapped_message x z d))
      by_read (Ok z) = by_item z
      by_read (Err foreign) = beside _ refl refl refl

      by : (b : Bool) → Moves holder v p now own (writes_go_on (cond b (watching.unwrapped_message x (item_without d.settings.namespace y) d) d))
      by true = by_read (item_without c.settings.namespace y)
      by false = beside d refl refl refl

  -- A message of the leasing stream.

  created_moves : (o : Opening) (e : Header) (d : Core) → d.seat ≡ c.seat → d.own ≡ c.own → d.acquires ≡ c.acquires → Moves holder v p now own (writes_go_on (leasing_created o e d))
  created_moves o e d seat owned acquires = by o.stream.created
    where
      by_next : (b : Bool) → Moves holder v p now own (writes_go_on (record (stream_is o (created o.stream e.revision) d) { own = cond b (resynced d.own) d.own }))
      by_next true =
          told _ seat (λ k. subst (λ (x : Ground). Reaches v p k (row_of own (ground_in c) k) (row_of own x k)) (λ i. record { own = resynced (sym owned i); acquires = sym acquires i }) (resync_turns v p own (ground_in c) k)) (subst (λ (x : Ownership). Fits (resynced x)) (sym owned) notices.resync.ground.keys)
      by_next false = beside _ seat owned acquires

      by : (b : Bool) → Moves holder v p now own (writes_go_on (cond b d (record (stream_is o (created o.stream e.revision) d) { own = own_created o.stream.next d.own })))
      by true = beside d seat owned acquires
      by false = by_next (o.stream.next == 0)

  leasing_moves : (o : Opening) (y : WatchItem) → ((e : Header) (events : List Event) → o.due ≡ None → item_without c.settings.namespace y ≡ Ok (item.Events e events) → AreTold v c.own.waits.prefix events) → Moves holder v p now own (writes_go_on (leasing_item now o y c))
  leasing_moves o y tells = by_due o.due refl
    where
      d : Core
      d = header_taken (item_header y) c

      by_message : (z : WatchItem) → o.due ≡ None → item_without c.settings.namespace y ≡ Ok z → Moves holder v p now own (writes_go_on (leasing_message now o z d))
      by_message (item.Created e) u f = created_moves o e d refl refl refl
      by_message (item.Events e events) u f = by (is_readable o.stream events)
        where
          next : Core
          next = record (stream_is o (advance o.stream (told_revision e events)) d) { own = all_noticed (live_number c.seat now) events c.own }

          by : (b : Bool) → Moves holder v p now own (writes_go_on (cond b next (leasing_cut o d)))
          by true = told next refl (messages_turn v p own (live_number c.seat now) events (ground_in c) (seat_is_live v p now own c some s) ok.reads.ground.marks (tells e events u f)) (notices.message (live_number c.seat now) events).ground.keys
          by false = beside (leasing_cut o d) refl refl refl
      by_message (item.Canceled e compaction) u f = by (compaction == 0)
        where
          next : Core
          next = due_anew (opened o.stream.range 0) (record d { own = all_given_up d.own })

          by : (b : Bool) → Moves holder v p now own (writes_go_on (cond b (leasing_cut o d) next))
          by true = beside (leasing_cut o d) refl refl refl
          by false = told next refl (cancellation_turns v p own (ground_in c)) notices.compaction.ground.keys

      by_read : (z : Unwrapped WatchItem) → o.due ≡ None → item_without c.settings.namespace y ≡ z → Moves holder v p now own (writes_go_on (leasing.unwrapped_message now o z d))
      by_read (Ok z) u f = by_message z u f
      by_read (Err foreign) u f = beside (leasing_cut o d) refl refl refl

      by_due : (x : Option ℕ) → o.due ≡ x → Moves holder v p now own (writes_go_on (message_if_sent now o x y d))
      by_due None u = by_read (item_without c.settings.namespace y) u refl
      by_due (Some since) u = beside d refl refl refl

pub items_move : ItemsMove
unfolding on_item
items_move holder v p now own number x c ok some tells s h = by (opening_at number c.leasing) refl
  where
    by_stream : (o : Option Stream) → Moves holder v p now own (client_item number x o c).core
    by_stream None = stays_so holder v p now own c s h
    by_stream (Some y) = stream_moves holder v p now own c ok some s h y x

    by : (o : Option Opening) → opening_at number c.leasing ≡ o → Moves holder v p now own (item_of now number x o c).core
    by None e = by_stream (stream_at number c.watches.streams)
    by (Some o) e = leasing_moves holder v p now own c ok some s h o x (λ b events u f. tells o b events e u f)

-- A tick.

ticked_so : (holder : ℕ → ℕ) (v : View) (p now : ℕ) (own : ℕ → ℕ) (word : ℕ) (d : Core) → Sees v p now own d → Inv holder v → TickMoves holder v p now own word d
ticked_so holder v p now own word d s h =
    record {
      after = v;
      inv = h;
      sees = s;
      alike = record { rev = refl; made = refl; owners = refl; kvs = refl; told = refl; leases = refl; floors = refl; drawn = refl; sent = refl; calls = refl; outcomes = refl; clocks = refl; terms = λ q n. refl; slots = λ q n. refl };
      drawn = λ n e. inl e;
    }

drawn_so : (holder : ℕ → ℕ) (v : View) (p now : ℕ) (own : ℕ → ℕ) (word : ℕ) (c d : Core) → Draws holder v p (drawn_session word) → term_of d.seat ≡ record { number = 0; deadline = 0; asked = drawn_session word } → ((k : List ℕ) → row_of own (ground_in d) k ≡ row_of own (ground_in c) k)
    → Sees v p now own c → Inv holder v → TickMoves holder v p now own word d
drawn_so holder v p now own word c d draws term rows s h =
    let n = drawn_session word in
    let t : Term = record { number = 0; deadline = 0; asked = n } in
    record {
      after = session_drawn v p n;
      inv = draws_keep holder v p n draws h;
      sees = record { clock = s.clock; term = put_here v.terms p t ∙ sym term; row = λ k. s.row k ∙ sym (rows k) };
      alike = record { rev = refl; made = refl; owners = refl; kvs = refl; told = refl; leases = refl; floors = refl; drawn = refl; sent = refl; calls = refl; outcomes = refl; clocks = refl; terms = λ q m. put_there v.terms p t q m; slots = λ q m. refl };
      drawn = λ m e. by m (m == n) refl e;
    }
  where
    by : (m : ℕ) (b : Bool) → (m == drawn_session word) ≡ b → cond b true (v.drawn m) ≡ true → (v.drawn m ≡ true) ⊎ (m ≡ drawn_session word)
    by m true e f = inr (same_number m (drawn_session word) e)
    by m false e f = inl f

pub ticks_move : TicksMove
unfolding on_tick
ticks_move holder v p now own word c draws s h = by_leases (leases c)
  where
    by_opening : (seat : Seat) (o : Option Opening) → TickMoves holder v p now own word (record c { seat = Some seat }) → TickMoves holder v p now own word (leasing_ticked o (record c { seat = Some seat }))
    by_opening seat None m = record { after = m.after; inv = m.inv; sees = record { clock = m.sees.clock; term = m.sees.term; row = m.sees.row }; alike = m.alike; drawn = m.drawn }
    by_opening seat (Some o) m = m

    by_seat : (x : Option Seat) → c.seat ≡ x → TickMoves holder v p now own word (record c { seat = Some (seat_ticked word c.settings.ttl c.own.waits.step now x) })
    by_seat None e = drawn_so holder v p now own word c _ (draws e) refl (λ k. refl) s h
    by_seat (Some x) e = ticked_so holder v p now own word _ (record { clock = s.clock; term = s.term ∙ ap term_of e; row = s.row }) h

    by_leases : (b : Bool) → TickMoves holder v p now own word (cond b (ticked now word c) c)
    by_leases true =
        by_opening (seat_ticked word c.settings.ttl c.own.waits.step now c.seat) c.leasing (by_seat c.seat refl)
    by_leases false = ticked_so holder v p now own word c s h
