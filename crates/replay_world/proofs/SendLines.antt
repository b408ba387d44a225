-- A proxy sends a call, opens a stream or closes one, as turns of it.
use Rattle.std.proofs.Common.{◌≡◌, ℕ, true, false, List, [], ◌∷◌, ◌++◌, Option, None, Some, Result, Ok, Err, IsSome, flat_map, refl, sym, ◌∙◌, ap, subst}
use Rattle.core_model.specs.declared.event.Job.{Job}
use Rattle.etcd_types.specs.declared.request.Request.{Request}
use Rattle.etcd_types.specs.declared.request.Request.TheVariants as request
use Rattle.etcd_types.specs.declared.request.WatchAsk.{WatchAsk}
use Rattle.replay_parts.proofs.Kept.{put_put, kept_is_there}
use Rattle.replay_parts.specs.Streams.{without_messages}
use Rattle.replay_world.proofs.Turns.{Turns, seen_so, stands_so}
use Rattle.replay_world.specs.World.{Parts, Stands, Gives}
use Rattle.replay_places.specs.declared.turn.Turn.{Turn}
use Rattle.replay_places.specs.declared.turn.Turn.TheVariants as turn
use Rattle.replay_places.specs.Places.{job_or_nothing, with_places, with_own_call, with_own_stream}
use Rattle.replay_places.specs.Turns.{turned, told_by}
use Rattle.script_text.specs.declared.item.Item.{Item}
use Rattle.script_text.specs.declared.item.Item.TheVariants as item
use Rattle.store_model.specs.State.{State}
use Rattle.store_world.specs.declared.store.Store.{Store}
use Rattle.store_world.specs.Store as store_of
use Rattle.world_model.specs.declared.fault.WorldFault.{WorldFault}
use Rattle.world_model.specs.declared.sent_call.SentCall.{SentCall}
use Rattle.world_model.specs.Gains.{Replies, all_fetched, gained, gained_by, reply_items}
use Rattle.world_model.specs.Places.{kept_at, with_kept, nth, place_at, with_place}
use Rattle.world_model.specs.Sends.{call_sent, new_call, next_call, next_stream, new_stream, stream_begun, stream_closed, closed_in, sends_nothing, sent}
use Rattle.world_model.specs.State.{Numbered, Place, OpenedStream, World, starting_world}
use Rattle.world_model.specs.Steps.{Step, gains, refuses, at_place, at_place_of}

-- The proxy after its step stands in the world.

pub worked_stands : (x old : Parts) (w : World) (p : ℕ) (y : Place) (new : Numbered Place) → x ≡ old → Stands old w → new ≡ with_kept x.places p y → Stands (record x { places = new }) (with_place w p y)
worked_stands x old w p y new e s put =
    let s' : Stands x w = seen_so x old w e s in
    record {
      members = s'.members;
      namespace = s'.namespace;
      leasing = s'.leasing;
      places = ap (λ (kept : Numbered Place). with_kept kept p y) s'.places ∙ sym put;
      calls = s'.calls;
      streams = s'.streams;
      floors = s'.floors;
      store = s'.store;
      lines = s'.lines;
    }

pub there : (w : World) (p : ℕ) (y : Place) → place_at (with_place w p y) p ≡ Some y
there w p y = kept_is_there w.places p y

pub placed_at : (x old : Parts) (w : World) (p : ℕ) (y : Place) → x ≡ old → Stands old (with_place w p y) → kept_at x.places p ≡ Some y
placed_at x old w p y e s =
    ap (λ (kept : Numbered Place). kept_at kept p) (sym (seen_so x old (with_place w p y) e s).places) ∙ there w p y

-- it stands there once, whatever stood there
pub gained_once : (w : World) (p : ℕ) (x y : Place) (own : List Item) (told : Replies) → gained (with_place w p x) p y own told ≡ gained w p y own told
gained_once w p x y own told =
    ap (λ (kept : Numbered Place). gained_by (record w { places = kept }) p own (all_fetched y told)) refl
    ∙ ap (λ (kept : Numbered Place). gains (record w { places = kept }) (own ++ replied)) (put_put w.places p x (all_fetched y told).place)
  where
    replied : List Item
    replied = flat_map (reply_items p (all_fetched y told).place.posted) (all_fetched y told).replies

-- what a turn is at a proxy that stands there
pub turned_there : (w after : World) (p : ℕ) (x : Place) (t : Turn) → at_place (with_place w p x) p (turned (with_place w p x) after p t) ≡ turned (with_place w p x) after p t x
turned_there w after p x t = ap (λ (o : Option Place). at_place_of (with_place w p x) p o (turned (with_place w p x) after p t)) (there w p x)

-- A turn by which a proxy tells what it did is never refused.

pub some_of : {A : Type 0} (o : Option A) → IsSome o → (y : A) × (o ≡ Some y)
some_of None h = absurd (none h)
  where
    none : false ≡ true → ⊥
    none e = cc
some_of (Some y) h = (y, refl)

pub isnt_refused : (v u : World) (items : List Item) (why : WorldFault) → gains v items ≡ refuses u why → ⊥
isnt_refused v u items why e = clash (ap (λ (s : Step). s.gained) e)
  where
    clash : Ok items ≡ Err why → ⊥
    clash f = cc

abbrev pub IsNotRefused : World → World → ℕ → Turn → Place → Type 0
IsNotRefused w after p t y = (v : World) (why : WorldFault) → turned w after p t y ≡ refuses v why → ⊥

pub told_line : (x : Parts) (w after : World) (p : ℕ) (t : Turn) (y : Place) (new : Numbered Place) (r : Result (List Item) WorldFault) → Stands x after → w.places ≡ x.places → kept_at x.places p ≡ Some y → IsNotRefused w after p t y → Turns x.places p t new r → Gives (record x { places = new }) r (at_place w p (turned w after p t))
told_line x w after p t y new (Ok items) s same at ok turns = record {
  after = with_places after new;
  so = turns w after same s.places;
  stands = stands_so x after new s;
}
told_line x w after p t y new (Err why) s same at ok turns = λ n.
    let place : place_at w p ≡ Some y = ap (λ (kept : Numbered Place). kept_at kept p) same ∙ at in
    absurd (ok (with_places w new) why (sym (ap (λ (o : Option Place). at_place_of w p o (turned w after p t)) place) ∙ turns w after same s.places n))

-- Calls.

abbrev pub call_of : ℕ → ℕ → ℕ → ℕ → ℕ → Request → SentCall
call_of p life clock own member q =
    record { proxy = p; life = life; own = own; member = member; request = q; clock = clock; executed = None; settled = false }

abbrev pub with_new_call : World → SentCall → World
with_new_call w call = record w { calls = w.calls ++ call ∷ [] }

pub call_sent_turn : (w : World) (p : ℕ) (x : Place) (own member ticket : ℕ) (q : Request) (life clock number : ℕ) (told : Item) → life ≡ x.life → clock ≡ x.clock → number ≡ next_call w → told ≡ item.Sent p number member ticket q → call_sent w p x own member ticket q ≡ at_place (with_place w p x) p (turned (with_place w p x) (with_new_call (with_place w p x) (call_of p life clock own member q)) p (turn.Sent number told))
call_sent_turn w p x own member ticket q life clock number told l c n t =
    sym (
    turned_there w (with_new_call (with_place w p x) (call_of p life clock own member q)) p x (turn.Sent number told)
    ∙ ap (λ (y : Item). told_by (with_new_call (with_place w p x) (call_of p life clock own member q)) p y (with_own_call number x)) t
    ∙ ap (λ (k : ℕ). told_by (with_new_call (with_place w p x) (call_of p life clock own member q)) p (item.Sent p k member ticket q) (with_own_call k x)) n
    ∙ ap (λ (k : ℕ). told_by (with_new_call (with_place w p x) (call_of p k clock own member q)) p (item.Sent p (next_call w) member ticket q) (with_own_call (next_call w) x)) l
    ∙ ap (λ (k : ℕ). told_by (with_new_call (with_place w p x) (call_of p x.life k own member q)) p (item.Sent p (next_call w) member ticket q) (with_own_call (next_call w) x)) c
    ∙ gained_once (with_new_call w (new_call p x own member q)) p x (with_own_call (next_call w) x) (item.Sent p (next_call w) member ticket q ∷ []) []
    )

pub call_added : (x old : Parts) (w : World) (call : SentCall) (calls : List SentCall) → x ≡ old → Stands old w → calls ≡ x.calls ++ call ∷ [] → Stands (record x { calls = calls }) (with_new_call w call)
call_added x old w call calls e s put =
    let s' : Stands x w = seen_so x old w e s in
    record {
      members = s'.members;
      namespace = s'.namespace;
      leasing = s'.leasing;
      places = s'.places;
      calls = ap (λ (cs : List SentCall). cs ++ call ∷ []) s'.calls ∙ sym put;
      streams = s'.streams;
      floors = s'.floors;
      store = s'.store;
      lines = s'.lines;
    }

-- Openings.

abbrev pub stream_of : ℕ → ℕ → ℕ → OpenedStream
stream_of p life own = record { proxy = p; life = life; own = own; waiting = []; ended = false; cancelled = false }

abbrev pub with_new_stream : World → OpenedStream → State → World
with_new_stream w s stored = record w { streams = w.streams ++ s ∷ []; store = stored }

pub stream_begun_turn : (w : World) (p : ℕ) (x : Place) (own member : ℕ) (ask : WatchAsk) (stored : State × ℕ) (life number : ℕ) → life ≡ x.life → number ≡ next_stream w → stream_begun w p x own member ask stored ≡ at_place (with_place w p x) p (turned (with_place w p x) (with_new_stream (with_place w p x) (stream_of p life own) stored.0) p (turn.Opened own number (item.Opened p number member (request.Watch ask))))
stream_begun_turn w p x own member ask stored life number l n =
    sym (
    turned_there w (with_new_stream (with_place w p x) (stream_of p life own) stored.0) p x (turn.Opened own number (item.Opened p number member (request.Watch ask)))
    ∙ ap (λ (k : ℕ). told_by (with_new_stream (with_place w p x) (stream_of p life own) stored.0) p (item.Opened p k member (request.Watch ask)) (with_own_stream own k x)) n
    ∙ ap (λ (k : ℕ). told_by (with_new_stream (with_place w p x) (stream_of p k own) stored.0) p (item.Opened p (next_stream w) member (request.Watch ask)) (with_own_stream own (next_stream w) x)) l
    ∙ gained_once (with_new_stream w (new_stream p x own) stored.0) p x (with_own_stream own (next_stream w) x) (item.Opened p (next_stream w) member (request.Watch ask) ∷ []) []
    )

pub stream_begun_as : (w : World) (p : ℕ) (x : Place) (own member : ℕ) (ask : WatchAsk) (stored : State × ℕ) (life number : ℕ) (s : OpenedStream) (m : ℕ) → life ≡ x.life → number ≡ next_stream w → s ≡ stream_of p life own → m ≡ member → stream_begun w p x own member ask stored ≡ at_place (with_place w p x) p (turned (with_place w p x) (with_new_stream (with_place w p x) s stored.0) p (turn.Opened own number (item.Opened p number m (request.Watch ask))))
stream_begun_as w p x own member ask stored life number s m l n e f =
    stream_begun_turn w p x own member ask stored life number l n
    ∙ ap (λ (y : OpenedStream). at_place (with_place w p x) p (turned (with_place w p x) (with_new_stream (with_place w p x) y stored.0) p (turn.Opened own number (item.Opened p number member (request.Watch ask))))) (sym e)
    ∙ ap (λ (k : ℕ). at_place (with_place w p x) p (turned (with_place w p x) (with_new_stream (with_place w p x) s stored.0) p (turn.Opened own number (item.Opened p number k (request.Watch ask))))) (sym f)

-- Closings.

ended_so : (w : World) (number : ℕ) (o : Option OpenedStream) → closed_in w number o ≡ record w { streams = without_messages w.streams number o }
ended_so w number None = refl
ended_so w number (Some s) = refl

abbrev pub with_ended : World → ℕ → World
with_ended w number = record w { streams = without_messages w.streams number (nth w.streams number) }

pub stream_closed_turn : (w : World) (p : ℕ) (x : Place) (number : ℕ) (o : Option ℕ) → o ≡ Some number → stream_closed w p x o ≡ at_place (with_place w p x) p (turned (with_place w p x) (with_ended (with_place w p x) number) p (turn.Told (item.Closed p number)))
stream_closed_turn w p x number o e =
    ap (stream_closed w p x) e
    ∙ ap (λ (v : World). gained v p x (item.Closed p number ∷ []) []) (ended_so w number (nth w.streams number))
    ∙ sym (gained_once (with_ended w number) p x x (item.Closed p number ∷ []) [])
    ∙ sym (turned_there w (with_ended (with_place w p x) number) p x (turn.Told (item.Closed p number)))

pub stream_not_closed : (w : World) (p : ℕ) (x : Place) (o : Option ℕ) → o ≡ None → stream_closed w p x o ≡ sends_nothing w p x
stream_not_closed w p x o e = ap (stream_closed w p x) e

-- The code's world once a call, a stream or an end was put into it.

pub call_put : (old new : Parts) (w : World) (call : SentCall) → Stands old w → new ≡ record old { calls = old.calls ++ call ∷ [] } → Stands new (with_new_call w call)
call_put old new w call s e = subst (λ (y : Parts). Stands y (with_new_call w call)) (sym e) (call_added old old w call (old.calls ++ call ∷ []) refl s refl)

pub call_sent_line : (x old new : Parts) (w : World) (p : ℕ) (call : SentCall) (number : ℕ) (told : Item) (places : Numbered Place) (r : Result (List Item) WorldFault) → x ≡ new → new ≡ record old { calls = old.calls ++ call ∷ [] } → Stands old w → IsSome (kept_at old.places p) → Turns x.places p (turn.Sent number told) places r → Gives (record x { places = places }) r (at_place w p (turned w (with_new_call w call) p (turn.Sent number told)))
call_sent_line x old new w p call number told places r e f s there turns =
    let some = some_of (kept_at old.places p) there in
    let same : x.places ≡ old.places = ap (λ (y : Parts). y.places) e ∙ ap (λ (y : Parts). y.places) f in
    told_line x w (with_new_call w call) p (turn.Sent number told) some.0 places r
    (seen_so x new (with_new_call w call) e (call_put old new w call s f))
    (s.places ∙ sym same)
    (ap (λ (kept : Numbered Place). kept_at kept p) same ∙ some.1)
    (λ v why q. isnt_refused _ v _ why q)
    turns

pub stream_put : (x old : Parts) (w : World) (s : OpenedStream) (stored : State) (new : Store) (streams : List OpenedStream) → x ≡ old → Stands old w → store_of.Stands new stored → streams ≡ x.streams ++ s ∷ [] → Stands (record x { streams = streams; store = new }) (with_new_stream w s stored)
stream_put x old w s stored new streams e stands is put =
    let s' : Stands x w = seen_so x old w e stands in
    record {
      members = s'.members;
      namespace = s'.namespace;
      leasing = s'.leasing;
      places = s'.places;
      calls = s'.calls;
      streams = ap (λ (ss : List OpenedStream). ss ++ s ∷ []) s'.streams ∙ sym put;
      floors = s'.floors;
      store = is;
      lines = s'.lines;
    }

pub end_put : (x old : Parts) (w : World) (number : ℕ) (streams : List OpenedStream) → x ≡ old → Stands old w → streams ≡ without_messages x.streams number (nth x.streams number) → Stands (record x { streams = streams }) (with_ended w number)
end_put x old w number streams e stands put =
    let s' : Stands x w = seen_so x old w e stands in
    record {
      members = s'.members;
      namespace = s'.namespace;
      leasing = s'.leasing;
      places = s'.places;
      calls = s'.calls;
      streams = ap (λ (ss : List OpenedStream). without_messages ss number (nth ss number)) s'.streams ∙ sym put;
      floors = s'.floors;
      store = s'.store;
      lines = s'.lines;
    }

pub opened_line : (x y old mid : Parts) (w : World) (p : ℕ) (z : Place) (s : OpenedStream) (stored : State) (new : Store) (t : Turn) (places : Numbered Place) (r : Result (List Item) WorldFault) → x ≡ old → Stands old (with_place w p z) → store_of.Stands new stored → mid ≡ record x { store = new; streams = x.streams ++ s ∷ [] } → y ≡ mid → IsNotRefused (with_place w p z) (with_new_stream (with_place w p z) s stored) p t z → Turns y.places p t places r → Gives (record y { places = places }) r (at_place (with_place w p z) p (turned (with_place w p z) (with_new_stream (with_place w p z) s stored) p t))
opened_line x y old mid w p z s stored new t places r e stands is put same ok turns =
    let made : Stands y (with_new_stream (with_place w p z) s stored) =
    subst (λ (u : Parts). Stands u (with_new_stream (with_place w p z) s stored)) (sym (same ∙ put))
    (stream_put x old (with_place w p z) s stored new (x.streams ++ s ∷ []) e stands is refl) in
    told_line y (with_place w p z) (with_new_stream (with_place w p z) s stored) p t z places r made made.places
    (ap (λ (kept : Numbered Place). kept_at kept p) (sym made.places) ∙ there w p z) ok turns

-- A proxy whose due job was looked for stands there.
pub worked_there : (old new : Numbered Place) (p : ℕ) (job : Option Job) → ((w : World) → w.places ≡ old → (x : Place) × (new ≡ with_kept old p x) × (sent w p ≡ job_or_nothing w p x job)) → IsSome (kept_at new p)
worked_there old new p job f =
    let found = f (record (starting_world 0 [] []) { places = old }) refl in
    subst (λ (o : Option Place). IsSome o) (sym (ap (λ (kept : Numbered Place). kept_at kept p) found.1 ∙ kept_is_there old p found.0)) refl
