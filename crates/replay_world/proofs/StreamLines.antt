-- The lines that are about one stream, as turns of its proxy.
use Rattle.std.proofs.Common.{◌≡◌, ℕ, Bool, true, false, not, ◌&&◌, List, [], ◌∷◌, drop, Option, None, Some, Ok, refl, sym, ◌∙◌, ap, subst}
use Rattle.core_model.specs.declared.event.CoreEvent.TheVariants as event
use Rattle.etcd_types.specs.declared.watch.WatchItem.{WatchItem}
use Rattle.replay_world.proofs.CallLines.{is_there, isnt_there}
use Rattle.replay_world.proofs.Turns.{Turns, seen_so}
use Rattle.replay_world.specs.Calls.{is_standing, is_open, is_open_at}
use Rattle.replay_world.specs.World.{Parts, Stands, Leaves, Gives}
use Rattle.replay_places.specs.declared.turn.Turn.{Turn}
use Rattle.replay_places.specs.declared.turn.Turn.TheVariants as turn
use Rattle.replay_places.specs.Places.{with_places}
use Rattle.replay_places.specs.Turns.{turned}
use Rattle.replay_parts.specs.Streams.{first_of}
use Rattle.script_text.specs.declared.item.Item.{Item}
use Rattle.script_text.specs.declared.item.Item.TheVariants as item
use Rattle.store_model.specs.Watches.{Pushed}
use Rattle.store_world.specs.declared.store.Store.{Store}
use Rattle.store_world.specs.Faults as faults
use Rattle.world_model.specs.declared.fault.WorldFault.TheVariants as fault
use Rattle.world_model.specs.Places.{nth, with_nth, place_at, unless, stream_place, with_stream, ended}
use Rattle.world_model.specs.State.{Numbered, Place, OpenedStream, World}
use Rattle.world_model.specs.Steps.{Step, refuses, at_place, at_place_of}
use Rattle.world_model.specs.Streams.{with_message, open_place, pushed_of, pushed_at, pushed_as, delivered, delivered_of, delivered_at, delivered_as, cut, cut_of, cut_at}

-- Messages of the store.

standing_if_open : (b c : Bool) → (not b && c) ≡ true → (b ≡ false) × (c ≡ true)
standing_if_open true c e = absurd (cc)
standing_if_open false c e = (refl, e)

none_unless : (b : Bool) (o : Option Place) → o ≡ None → unless b o ≡ None
none_unless true o e = refl
none_unless false o e = e

pub isnt_open : (w : World) (s : OpenedStream) → is_open w.places s ≡ false → open_place w s ≡ None
isnt_open w s e = by_cancelled s.cancelled e
  where
    by_cancelled : (b : Bool) → (not b && is_standing w.places s) ≡ false → unless b (stream_place w s) ≡ None
    by_cancelled true f = refl
    by_cancelled false f = isnt_there w s.proxy s.life s.ended f

pub record IsOpen (w : World) (s : OpenedStream) : Type 0 where
  pub place : Place
  pub here : open_place w s ≡ Some place
  pub at : place_at w s.proxy ≡ Some place

pub is_opened : (w : World) (s : OpenedStream) → is_open w.places s ≡ true → IsOpen w s
is_opened w s e =
    let parts = standing_if_open s.cancelled (is_standing w.places s) e in
    let there = is_there w s.proxy s.life s.ended parts.1 in
    record { place = there.place; here = ap (λ b. unless b (stream_place w s)) parts.0 ∙ there.here; at = there.at }

pub pushed_nowhere : (w : World) (number : ℕ) (message : ℕ → Pushed) (o : Option OpenedStream) → is_open_at w.places o ≡ false → pushed_of w number message o ≡ refuses w (fault.NoSuchStream number)
pushed_nowhere w number message None e = refl
pushed_nowhere w number message (Some s) e = ap (pushed_at w number message s) (isnt_open w s e)

pub pushed_there : (w : World) (number : ℕ) (message : ℕ → Pushed) (o : Option OpenedStream) → is_open_at w.places o ≡ true → (s : OpenedStream) × (o ≡ Some s) × (pushed_of w number message o ≡ pushed_as w number s (message number))
pushed_there w number message None e = absurd (cc)
pushed_there w number message (Some s) e = (s, refl, ap (pushed_at w number message s) (is_opened w s e).here)

-- Deliveries.

abbrev pub delivered_in : World → ℕ → OpenedStream → World
delivered_in w number s = with_stream w number (record s { waiting = drop 1 s.waiting })

pub delivered_none : (w : World) (number : ℕ) → nth w.streams number ≡ None → delivered w number ≡ refuses w (fault.NoSuchStream number)
delivered_none w number e = ap (delivered_of w number) e

pub delivered_gone : (w : World) (number : ℕ) (s : OpenedStream) → nth w.streams number ≡ Some s → is_standing w.places s ≡ false → delivered w number ≡ refuses w (fault.NoSuchStream number)
delivered_gone w number s e f =
    ap (delivered_of w number) e ∙ ap (delivered_at w number s) (isnt_there w s.proxy s.life s.ended f)

pub delivered_nothing : (w : World) (number : ℕ) (s : OpenedStream) → nth w.streams number ≡ Some s → is_standing w.places s ≡ true → first_of s.waiting ≡ None → delivered w number ≡ refuses w (fault.NothingToDeliver number)
delivered_nothing w number s e f h =
    let there = is_there w s.proxy s.life s.ended f in
    ap (delivered_of w number) e ∙ ap (delivered_at w number s) there.here ∙ by_waiting there.place s.waiting h
  where
    by_waiting : (x : Place) (xs : List WatchItem) → first_of xs ≡ None → delivered_as w number s x xs ≡ refuses w (fault.NothingToDeliver number)
    by_waiting x [] g = refl
    by_waiting x (i ∷ rest) g = absurd (cc)

pub delivered_turn : (w : World) (number : ℕ) (s : OpenedStream) (i : WatchItem) → nth w.streams number ≡ Some s → is_standing w.places s ≡ true → first_of s.waiting ≡ Some i → delivered w number ≡ at_place w s.proxy (turned w (delivered_in w number s) s.proxy (turn.Step (event.Item s.own i) (fault.NoSuchStream number) (item.Delivered number)))
delivered_turn w number s i e f h =
    let there = is_there w s.proxy s.life s.ended f in
    ap (delivered_of w number) e ∙ ap (delivered_at w number s) there.here ∙ by_waiting there.place s.waiting h
    ∙ sym (ap (λ (o : Option Place). at_place_of w s.proxy o (turned w (delivered_in w number s) s.proxy (turn.Step (event.Item s.own i) (fault.NoSuchStream number) (item.Delivered number)))) there.at)
  where
    by_waiting : (x : Place) (xs : List WatchItem) → first_of xs ≡ Some i → delivered_as w number s x xs ≡ turned w (with_stream w number (record s { waiting = drop 1 xs })) s.proxy (turn.Step (event.Item s.own i) (fault.NoSuchStream number) (item.Delivered number)) x
    by_waiting x [] g = absurd (cc)
    by_waiting x (j ∷ rest) g =
        ap (λ (y : WatchItem). turned w (with_stream w number (record s { waiting = rest })) s.proxy (turn.Step (event.Item s.own y) (fault.NoSuchStream number) (item.Delivered number)) x) (same_some g)
      where
        same_some : Some j ≡ Some i → j ≡ i
        same_some g = cc

-- Cuts.

abbrev pub cut_in : World → ℕ → OpenedStream → World
cut_in w number s = with_stream w number (ended s)

pub cut_none : (w : World) (number : ℕ) → nth w.streams number ≡ None → cut w number ≡ refuses w (fault.NoSuchStream number)
cut_none w number e = ap (cut_of w number) e

pub cut_gone : (w : World) (number : ℕ) (s : OpenedStream) → nth w.streams number ≡ Some s → is_open w.places s ≡ false → cut w number ≡ refuses w (fault.NoSuchStream number)
cut_gone w number s e f = ap (cut_of w number) e ∙ ap (cut_at w number s) (isnt_open w s f)

pub cut_turn : (w : World) (number : ℕ) (s : OpenedStream) → nth w.streams number ≡ Some s → is_open w.places s ≡ true → cut w number ≡ at_place w s.proxy (turned w (cut_in w number s) s.proxy (turn.Step (event.Cut s.own) (fault.NoSuchStream number) (item.Cut number)))
cut_turn w number s e f =
    let there = is_opened w s f in
    ap (cut_of w number) e ∙ ap (cut_at w number s) there.here
    ∙ sym (ap (λ (o : Option Place). at_place_of w s.proxy o (turned w (cut_in w number s) s.proxy (turn.Step (event.Cut s.own) (fault.NoSuchStream number) (item.Cut number)))) there.at)

-- What is left where a turn is taken that changes one stream. Where it is refused, nothing but the proxies changes.
pub stream_changed : (x old : Parts) (w : World) (p number : ℕ) (t : Turn) (changed : OpenedStream) (new : Numbered Place) (streams : List OpenedStream) (items : List Item) → x ≡ old → Stands old w → Turns x.places p t new (Ok items) → streams ≡ with_nth x.streams number changed → Gives (record x { places = new; streams = streams }) (Ok items) (at_place w p (turned w (with_stream w number changed) p t))
stream_changed x old w p number t changed new streams items e s turns marked =
    let s' : Stands x w = seen_so x old w e s in
    record {
      after = with_places (with_stream w number changed) new;
      so = turns w (with_stream w number changed) s'.places s'.places;
      stands = record {
        members = s'.members;
        namespace = s'.namespace;
        leasing = s'.leasing;
        places = refl;
        calls = s'.calls;
        streams = ap (λ (ss : List OpenedStream). with_nth ss number changed) s'.streams ∙ sym marked;
        floors = s'.floors;
        store = s'.store;
        lines = s'.lines;
      };
    }

-- A message of the store waits in a stream.
pub pushed_so : (x old : Parts) (w : World) (number : ℕ) (s : OpenedStream) (i : WatchItem) (given : Pushed) (stored : Store) (new : Parts) (items : List Item) (step : Step) → x ≡ old → Stands old w → step ≡ pushed_as w number s given → faults.Gives stored i given → items ≡ item.Pushed number i ∷ [] → new ≡ record x { store = stored; streams = with_nth x.streams number (with_message i s) } → Leaves new step (Ok items)
pushed_so x old w number s i given stored new items step e stands is gives told made =
    let s' : Stands x w = seen_so x old w e stands in
    let made_so : Leaves (record x { store = stored; streams = with_nth x.streams number (with_message i s) }) step (Ok items) =
    record {
      after = record w { streams = with_nth w.streams number (with_message i s); store = gives.0 };
      so =
          is ∙ ap (pushed_as w number s) gives.1
          ∙ ap (λ (xs : List Item). record { world = record w { streams = with_nth w.streams number (with_message i s); store = gives.0 }; gained = Ok xs }) (sym told);
      stands = record {
        members = s'.members;
        namespace = s'.namespace;
        leasing = s'.leasing;
        places = s'.places;
        calls = s'.calls;
        streams = ap (λ (ss : List OpenedStream). with_nth ss number (with_message i s)) s'.streams;
        floors = s'.floors;
        store = gives.2;
        lines = s'.lines;
      };
    } in
    subst (λ (y : Parts). Leaves y step (Ok items)) (sym made) made_so

-- The same, for numbers that are the stream's.
pub cut_turn_at : (w : World) (number : ℕ) (s : OpenedStream) (p own : ℕ) → nth w.streams number ≡ Some s → is_open w.places s ≡ true → p ≡ s.proxy → own ≡ s.own → cut w number ≡ at_place w p (turned w (cut_in w number s) p (turn.Step (event.Cut own) (fault.NoSuchStream number) (item.Cut number)))
cut_turn_at w number s p own e f same_proxy same_own =
    cut_turn w number s e f
    ∙ ap (λ (q : ℕ). at_place w q (turned w (cut_in w number s) q (turn.Step (event.Cut s.own) (fault.NoSuchStream number) (item.Cut number)))) (sym same_proxy)
    ∙ ap (λ (o : ℕ). at_place w p (turned w (cut_in w number s) p (turn.Step (event.Cut o) (fault.NoSuchStream number) (item.Cut number)))) (sym same_own)

pub delivered_turn_at : (w : World) (number : ℕ) (s : OpenedStream) (i : WatchItem) (p own : ℕ) → nth w.streams number ≡ Some s → is_standing w.places s ≡ true → first_of s.waiting ≡ Some i → p ≡ s.proxy → own ≡ s.own → delivered w number ≡ at_place w p (turned w (delivered_in w number s) p (turn.Step (event.Item own i) (fault.NoSuchStream number) (item.Delivered number)))
delivered_turn_at w number s i p own e f h same_proxy same_own =
    delivered_turn w number s i e f h
    ∙ ap (λ (q : ℕ). at_place w q (turned w (delivered_in w number s) q (turn.Step (event.Item s.own i) (fault.NoSuchStream number) (item.Delivered number)))) (sym same_proxy)
    ∙ ap (λ (o : ℕ). at_place w p (turned w (delivered_in w number s) p (turn.Step (event.Item o i) (fault.NoSuchStream number) (item.Delivered number)))) (sym same_own)
