-- From what a turn leaves of the proxies to what its line leaves of the world, and lines that are refused before a proxy makes a step.
use Rattle.std.proofs.Common.{◌≡◌, ℕ, Bool, true, false, cond, List, Option, None, Some, Result, Ok, Err, refl, sym, ◌∙◌, ap, subst}
use Rattle.script_text.specs.declared.item.Item.{Item}
use Rattle.replay_places.specs.declared.turn.Turn.{Turn}
use Rattle.replay_places.specs.Places.{PlacesGive, with_places}
use Rattle.replay_places.specs.Turns.{turned}
use Rattle.replay_world.specs.Refusals.{fault_if}
use Rattle.replay_world.specs.World.{Parts, Stands, Gives}
use Rattle.world_model.specs.declared.fault.WorldFault.{WorldFault}
use Rattle.world_model.specs.declared.fault.WorldFault.TheVariants as fault
use Rattle.world_model.specs.State.{Numbered, Place, World}
use Rattle.world_model.specs.Steps.{Step, refuses, at_place, at_place_of}

-- The code's world stands for the same worlds, whichever way it is seen.
pub seen_so : (x old : Parts) (w : World) → x ≡ old → Stands old w → Stands x w
seen_so x old w e s = subst (λ (y : Parts). Stands y w) (sym e) s

-- A step is told by another that is the same.

pub gives_same : (new : Parts) (r : Result (List Item) WorldFault) (a b : Step) → a ≡ b → Gives new r b → Gives new r a
gives_same new r a b e g = subst (λ (y : Step). Gives new r y) (sym e) g

-- Lines that change nothing but proxies.

pub stands_so : (x : Parts) (w : World) (new : Numbered Place) → Stands x w → Stands (record x { places = new }) (with_places w new)
stands_so x w new s = record {
  members = s.members;
  namespace = s.namespace;
  leasing = s.leasing;
  places = refl;
  calls = s.calls;
  streams = s.streams;
  floors = s.floors;
  store = s.store;
  lines = s.lines;
}

pub line_of : (x : Parts) (w : World) (new : Numbered Place) (r : Result (List Item) WorldFault) (step : Step) → Stands x w → PlacesGive w w new r step → Gives (record x { places = new }) r step
line_of x w new (Ok items) step s g = record { after = with_places w new; so = g; stands = stands_so x w new s }
line_of x w new (Err why) step s g = λ n. record { after = with_places w new; so = g n; stands = stands_so x w new s }

-- what a turn does, whatever the rest of the world is
abbrev pub Turns : Numbered Place → ℕ → Turn → Numbered Place → Result (List Item) WorldFault → Type 0
Turns old p t new r = (before after : World) → before.places ≡ old → after.places ≡ old → PlacesGive before after new r (at_place before p (turned before after p t))

pub turn_line : (x old : Parts) (w : World) (p : ℕ) (t : Turn) (new : Numbered Place) (r : Result (List Item) WorldFault) (step : Step) → x ≡ old → Stands old w → Turns x.places p t new r → step ≡ at_place w p (turned w w p t) → Gives (record x { places = new }) r step
turn_line x old w p t new r step e s turns same =
    let s' : Stands x w = seen_so x old w e s in
    gives_same (record x { places = new }) r step _ same (line_of x w new r _ s' (turns w w s'.places s'.places))

-- A line that is refused leaves all as it was.
pub stays : (x old : Parts) (w : World) (why : WorldFault) (step : Step) → x ≡ old → Stands old w → step ≡ refuses w why → Gives x (Err why) step
stays x old w why step e s same = λ n. record { after = w; so = same; stands = seen_so x old w e s }

-- Refusals before a proxy makes a step.

none_is_free : (b : Bool) (why : WorldFault) → cond b (Some why) None ≡ None → b ≡ false
none_is_free true why e = cc
none_is_free false why e = refl

some_holds : (b : Bool) (why told : WorldFault) → cond b (Some why) None ≡ Some told → b ≡ true
some_holds true why told e = refl
some_holds false why told e = cc

same_fault : (b : Bool) (why told : WorldFault) → cond b (Some why) None ≡ Some told → why ≡ told
same_fault true why told e = cc
same_fault false why told e = cc

pub goes : (w : World) (p : ℕ) (test : Place → Bool) (why : WorldFault) (f g : Place → Step) (o : Option Place) → ((x : Place) → test x ≡ false → f x ≡ g x) → fault_if p test why o ≡ None → at_place_of w p o f ≡ at_place_of w p o g
goes w p test why f g None same e = cc
goes w p test why f g (Some x) same e = same x (none_is_free (test x) why e)

pub same_some : {A : Type 0} (x y : A) → Some x ≡ Some y → x ≡ y
same_some x y e = cc

pub stops : (w : World) (p : ℕ) (test : Place → Bool) (why told : WorldFault) (f : Place → Step) (o : Option Place) → ((x : Place) → test x ≡ true → f x ≡ refuses w why) → fault_if p test why o ≡ Some told → at_place_of w p o f ≡ refuses w told
stops w p test why told f None same e = ap (λ (y : WorldFault). refuses w y) (same_some (fault.NoSuchProxy p) told e)
stops w p test why told f (Some x) same e =
    same x (some_holds (test x) why told e) ∙ ap (λ (y : WorldFault). refuses w y) (same_fault (test x) why told e)
