-- The lines that are about one call, as turns of its proxy.
use Rattle.std.proofs.Common.{◌≡◌, ℕ, Bool, true, false, not, cond, ◌==◌, ◌&&◌, List, [], ◌∷◌, Option, None, Some, is_some, Ok, Err, refl, sym, ◌∙◌, ap, subst}
use Rattle.core_model.specs.declared.event.CoreEvent.TheVariants as event
use Rattle.etcd_types.specs.declared.answer.Answer.{Answer}
use Rattle.replay_world.proofs.Turns.{Turns, seen_so}
use Rattle.replay_world.specs.Calls.{is_out}
use Rattle.replay_world.specs.World.{Parts, Stands, Leaves, Gives}
use Rattle.replay_places.specs.declared.turn.Turn.{Turn}
use Rattle.replay_places.specs.declared.turn.Turn.TheVariants as turn
use Rattle.replay_places.specs.Places.{with_places}
use Rattle.replay_places.specs.Turns.{turned}
use Rattle.script_text.specs.declared.item.Item.{Item}
use Rattle.script_text.specs.declared.item.Item.TheVariants as item
use Rattle.store_model.specs.Step.{exec}
use Rattle.store_world.specs.declared.store.Store.{Store}
use Rattle.store_world.specs.Store.{Takes}
use Rattle.world_model.specs.Calls.{executed, executed_of, executed_if, executed_as, answered, answered_of, answered_at, answered_as, lost, lost_of, lost_at}
use Rattle.world_model.specs.declared.fault.WorldFault.{WorldFault}
use Rattle.world_model.specs.declared.fault.WorldFault.TheVariants as fault
use Rattle.world_model.specs.declared.floor.Floor.{Floor}
use Rattle.world_model.specs.declared.sent_call.SentCall.{SentCall}
use Rattle.world_model.specs.Floors.{floors_after}
use Rattle.world_model.specs.Places.{if_life, kept_at, nth, with_nth, place_at, place_in, unless, with_call}
use Rattle.world_model.specs.State.{Numbered, Place, World}
use Rattle.world_model.specs.Steps.{refuses, at_place, at_place_of}

-- The proxy that something is for, in the life that it is of.

pub record IsThere (w : World) (p life : ℕ) (settled : Bool) : Type 0 where
  pub place : Place
  pub here : unless settled (place_in w p life) ≡ Some place
  pub at : place_at w p ≡ Some place

alive : (life : ℕ) (o : Option Place) → is_some (if_life life o) ≡ true → (x : Place) × (if_life life o ≡ Some x) × (o ≡ Some x)
alive life None e = absurd (cc)
alive life (Some x) e = (x, by_life (x.life == life) e, refl)
  where
    by_life : (b : Bool) → is_some (cond b (Some x) None) ≡ true → cond b (Some x) None ≡ Some x
    by_life true f = refl
    by_life false f = absurd (cc)

gone : (o : Option Place) → is_some o ≡ false → o ≡ None
gone None e = refl
gone (Some x) e = absurd (cc)

pub is_there : (w : World) (p life : ℕ) (settled : Bool) → (not settled && is_some (if_life life (kept_at w.places p))) ≡ true → IsThere w p life settled
is_there w p life true e = absurd (cc)
is_there w p life false e =
    let found = alive life (place_at w p) e in
    record { place = found.0; here = found.1; at = found.2 }

pub isnt_there : (w : World) (p life : ℕ) (settled : Bool) → (not settled && is_some (if_life life (kept_at w.places p))) ≡ false → unless settled (place_in w p life) ≡ None
isnt_there w p life true e = refl
isnt_there w p life false e = gone (if_life life (place_at w p)) e

-- Executions.

pub executed_none : (w : World) (number : ℕ) → nth w.calls number ≡ None → executed w number ≡ refuses w (fault.NoSuchCall number)
executed_none w number e = ap (executed_of w number) e

pub executed_twice : (w : World) (number : ℕ) (call : SentCall) (a : Answer) → nth w.calls number ≡ Some call → call.executed ≡ Some a → executed w number ≡ refuses w (fault.NoSuchCall number)
executed_twice w number call a e f = ap (executed_of w number) e ∙ ap (executed_if w number call) f

pub executed_once : (w : World) (number : ℕ) (call : SentCall) → nth w.calls number ≡ Some call → call.executed ≡ None → executed w number ≡ executed_as w number call (exec w.store call.member call.request)
executed_once w number call e f = ap (executed_of w number) e ∙ ap (executed_if w number call) f

-- Answers and losses.

abbrev pub settled_in : World → ℕ → SentCall → World
settled_in w number call = with_call w number (record call { settled = true })

pub answered_none : (w : World) (number : ℕ) → nth w.calls number ≡ None → answered w number ≡ refuses w (fault.NoSuchCall number)
answered_none w number e = ap (answered_of w number) e

pub answered_gone : (w : World) (number : ℕ) (call : SentCall) → nth w.calls number ≡ Some call → is_out w.places call ≡ false → answered w number ≡ refuses w (fault.NoSuchCall number)
answered_gone w number call e f =
    ap (answered_of w number) e ∙ ap (answered_at w number call) (isnt_there w call.proxy call.life call.settled f)

pub answered_early : (w : World) (number : ℕ) (call : SentCall) → nth w.calls number ≡ Some call → is_out w.places call ≡ true → call.executed ≡ None → answered w number ≡ refuses w (fault.NotExecuted number)
answered_early w number call e f h =
    let there = is_there w call.proxy call.life call.settled f in
    ap (answered_of w number) e ∙ ap (answered_at w number call) there.here ∙ ap (answered_as w number call there.place) h

pub answered_turn : (w : World) (number : ℕ) (call : SentCall) (a : Answer) → nth w.calls number ≡ Some call → is_out w.places call ≡ true → call.executed ≡ Some a → answered w number ≡ at_place w call.proxy (turned w (settled_in w number call) call.proxy (turn.Step (event.Answer call.own a) (fault.NoSuchCall number) (item.Answered number)))
answered_turn w number call a e f h =
    let there = is_there w call.proxy call.life call.settled f in
    ap (answered_of w number) e ∙ ap (answered_at w number call) there.here ∙ ap (answered_as w number call there.place) h
    ∙ sym (ap (λ (o : Option Place). at_place_of w call.proxy o (turned w (settled_in w number call) call.proxy (turn.Step (event.Answer call.own a) (fault.NoSuchCall number) (item.Answered number)))) there.at)

pub lost_none : (w : World) (number : ℕ) → nth w.calls number ≡ None → lost w number ≡ refuses w (fault.NoSuchCall number)
lost_none w number e = ap (lost_of w number) e

pub lost_gone : (w : World) (number : ℕ) (call : SentCall) → nth w.calls number ≡ Some call → is_out w.places call ≡ false → lost w number ≡ refuses w (fault.NoSuchCall number)
lost_gone w number call e f =
    ap (lost_of w number) e ∙ ap (lost_at w number call) (isnt_there w call.proxy call.life call.settled f)

pub lost_turn : (w : World) (number : ℕ) (call : SentCall) → nth w.calls number ≡ Some call → is_out w.places call ≡ true → lost w number ≡ at_place w call.proxy (turned w (settled_in w number call) call.proxy (turn.Step (event.Lost call.own) (fault.NoSuchCall number) (item.Lost number)))
lost_turn w number call e f =
    let there = is_there w call.proxy call.life call.settled f in
    ap (lost_of w number) e ∙ ap (lost_at w number call) there.here
    ∙ sym (ap (λ (o : Option Place). at_place_of w call.proxy o (turned w (settled_in w number call) call.proxy (turn.Step (event.Lost call.own) (fault.NoSuchCall number) (item.Lost number)))) there.at)

-- A call ends at its proxy: what is left where the turn is taken, and where it is refused.

pub settled_so : (x old : Parts) (w : World) (p number : ℕ) (t : Turn) (call : SentCall) (new : Numbered Place) (calls : List SentCall) (items : List Item) → x ≡ old → Stands old w → Turns x.places p t new (Ok items) → calls ≡ with_nth x.calls number (record call { settled = true }) → Gives (record x { places = new; calls = calls }) (Ok items) (at_place w p (turned w (settled_in w number call) p t))
settled_so x old w p number t call new calls items e s turns marked =
    let s' : Stands x w = seen_so x old w e s in
    record {
      after = with_places (settled_in w number call) new;
      so = turns w (settled_in w number call) s'.places s'.places;
      stands = record {
        members = s'.members;
        namespace = s'.namespace;
        leasing = s'.leasing;
        places = refl;
        calls = ap (λ (cs : List SentCall). with_nth cs number (record call { settled = true })) s'.calls ∙ sym marked;
        streams = s'.streams;
        floors = s'.floors;
        store = s'.store;
        lines = s'.lines;
      };
    }

pub unsettled_so : (x old : Parts) (w after : World) (p : ℕ) (t : Turn) (new : Numbered Place) (why : WorldFault) → x ≡ old → Stands old w → after.places ≡ w.places → Turns x.places p t new (Err why) → Gives (record x { places = new }) (Err why) (at_place w p (turned w after p t))
unsettled_so x old w after p t new why e s same turns = λ n.
    let s' : Stands x w = seen_so x old w e s in
    record {
      after = with_places w new;
      so = turns w after s'.places (same ∙ s'.places) n;
      stands = record {
        members = s'.members;
        namespace = s'.namespace;
        leasing = s'.leasing;
        places = refl;
        calls = s'.calls;
        streams = s'.streams;
        floors = s'.floors;
        store = s'.store;
        lines = s'.lines;
      };
    }

-- A call is executed.
pub executed_so : (x old : Parts) (w : World) (number : ℕ) (call : SentCall) (a : Answer) (stored : Store) (new : Parts) (items : List Item) → x ≡ old → Stands old w → nth x.calls number ≡ Some call → call.executed ≡ None → Takes stored a (exec w.store call.member call.request) → items ≡ item.Executed number a ∷ [] → new ≡ record x { store = stored; calls = with_nth x.calls number (record call { executed = Some a }); floors = floors_after call a x.floors } → Leaves new (executed w number) (Ok items)
executed_so x old w number call a stored new items e s found fresh takes told made =
    let s' : Stands x w = seen_so x old w e s in
    let done = exec w.store call.member call.request in
    let made_so : Leaves (record x { store = stored; calls = with_nth x.calls number (record call { executed = Some a }); floors = floors_after call a x.floors }) (executed w number) (Ok items) =
    record {
      after = record w { calls = with_nth w.calls number (record call { executed = Some a }); store = done.0; floors = floors_after call a w.floors };
      so =
          executed_once w number call (ap (λ (cs : List SentCall). nth cs number) s'.calls ∙ found) fresh
          ∙ ap (λ (y : Answer). executed_as w number call (done.0, y)) (sym takes.answered)
          ∙ ap (λ (xs : List Item). record { world = record w { calls = with_nth w.calls number (record call { executed = Some a }); store = done.0; floors = floors_after call a w.floors }; gained = Ok xs }) (sym told);
      stands = record {
        members = s'.members;
        namespace = s'.namespace;
        leasing = s'.leasing;
        places = s'.places;
        calls = ap (λ (cs : List SentCall). with_nth cs number (record call { executed = Some a })) s'.calls;
        streams = s'.streams;
        floors = ap (λ (fs : Numbered Floor). floors_after call a fs) s'.floors;
        store = takes.state;
        lines = s'.lines;
      };
    } in
    subst (λ (y : Parts). Leaves y (executed w number) (Ok items)) (sym made) made_so
