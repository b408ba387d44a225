-- From what a turn does at a proxy to what its line does in the world.
use Rattle.std.proofs.Common.{◌≡◌, ◌≢◌, ℕ, List, Option, None, Some, Result, Ok, Err, IfOk, IfErr, sym, ◌∙◌, ap}
use Rattle.script_text.specs.declared.item.Item.{Item}
use Rattle.core_model.specs.declared.event.Job.{Job}
use Rattle.replay_places.specs.Places.{PlaceGives, PlacesGive, job_or_nothing, with_places}
use Rattle.world_model.specs.declared.fault.WorldFault.{WorldFault}
use Rattle.world_model.specs.declared.fault.WorldFault.TheVariants as fault
use Rattle.world_model.specs.Places.{kept_at, with_kept, with_place}
use Rattle.world_model.specs.Sends.{sent, sent_at}
use Rattle.world_model.specs.State.{Numbered, Place, World}
use Rattle.world_model.specs.Steps.{Step, gains, refuses, at_place, at_place_of}

-- A proxy that was started, or wasn't.

pub at_found : (w : World) (p : ℕ) (rows : Numbered Place) (x : Place) (f : Place → Step) → w.places ≡ rows → kept_at rows p ≡ Some x → at_place w p f ≡ f x
at_found w p rows x f e h = ap (λ (o : Option Place). at_place_of w p o f) (ap (λ (t : Numbered Place). kept_at t p) e ∙ h)

pub at_none : (w : World) (p : ℕ) (rows : Numbered Place) (f : Place → Step) → w.places ≡ rows → kept_at rows p ≡ None → at_place w p f ≡ refuses w (fault.NoSuchProxy p)
at_none w p rows f e h = ap (λ (o : Option Place). at_place_of w p o f) (ap (λ (t : Numbered Place). kept_at t p) e ∙ h)

-- its turn is the world's
pub lands : (before after : World) (p : ℕ) (rows : Numbered Place) (x y : Place) (r : Result (List Item) WorldFault) (f : Place → Step) → before.places ≡ rows → after.places ≡ rows → kept_at rows p ≡ Some x → PlaceGives before after p y r (f x) → PlacesGive before after (with_kept rows p y) r (at_place before p f)
lands before after p rows x y (Ok items) f e e' h g =
    at_found before p rows x f e h ∙ g ∙ ap (λ (t : Numbered Place). gains (with_places after (with_kept t p y)) items) e'
lands before after p rows x y (Err why) f e e' h g = λ n.
    at_found before p rows x f e h ∙ g n ∙ ap (λ (t : Numbered Place). refuses (with_places before (with_kept t p y)) why) e

pub nowhere : (before after : World) (p : ℕ) (rows : Numbered Place) (f : Place → Step) → before.places ≡ rows → kept_at rows p ≡ None → PlacesGive before after rows (Err (fault.NoSuchProxy p)) (at_place before p f)
nowhere before after p rows f e h = λ n.
    at_none before p rows f e h ∙ ap (λ (t : Numbered Place). refuses (with_places before t) (fault.NoSuchProxy p)) e

-- What is due first at a proxy.

pub works : (rows new : Numbered Place) (p : ℕ) (x y : Place) (r : Result (Option Job) WorldFault) → new ≡ with_kept rows p y → kept_at rows p ≡ Some x → IfOk r (λ job. (w : World) → sent_at w p x ≡ job_or_nothing w p y job) → IfOk r (λ job. (w : World) → w.places ≡ rows → (z : Place) × (new ≡ with_kept rows p z) × (sent w p ≡ job_or_nothing w p z job))
works rows new p x y (Ok job) n h g = λ w e. (y, n, at_found w p rows x (sent_at w p) e h ∙ g w)
works rows new p x y (Err why) n h g = tt

pub work_faults : (rows new : Numbered Place) (p : ℕ) (x y : Place) (r : Result (Option Job) WorldFault) → new ≡ with_kept rows p y → kept_at rows p ≡ Some x → IfErr r (λ why. why ≢ fault.NoMemory → (w : World) → sent_at w p x ≡ refuses (with_place w p y) why) → IfErr r (λ why. why ≢ fault.NoMemory → (w : World) → w.places ≡ rows → sent w p ≡ refuses (with_places w new) why)
work_faults rows new p x y (Ok job) n h g = tt
work_faults rows new p x y (Err why) n h g = λ m w e.
    at_found w p rows x (sent_at w p) e h ∙ g m w
    ∙ ap (λ (t : Numbered Place). refuses (with_places w (with_kept t p y)) why) e ∙ ap (λ (t : Numbered Place). refuses (with_places w t) why) (sym n)

pub works_nowhere : (w : World) (p : ℕ) (rows : Numbered Place) → w.places ≡ rows → kept_at rows p ≡ None → sent w p ≡ refuses (with_places w rows) (fault.NoSuchProxy p)
works_nowhere w p rows e h =
    at_none w p rows (sent_at w p) e h ∙ ap (λ (t : Numbered Place). refuses (with_places w t) (fault.NoSuchProxy p)) e
