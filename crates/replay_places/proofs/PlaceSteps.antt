-- What a step of a proxy's machine makes of a line, and what is fetched behind it.
use Rattle.std.proofs.Common.{◌≡◌, ◌≢◌, ℕ, Bool, false, ◌++◌, List, None, Some, Ok, Err, flat_map, refl, sym, ◌∙◌, ap}
use Rattle.core_model.specs.declared.event.CoreEvent.{CoreEvent}
use Rattle.core_model.specs.declared.event.CoreEvent.TheVariants as event
use Rattle.core_model.specs.declared.event.Outcome.{Outcome}
use Rattle.core_model.specs.declared.event.Outcome.TheVariants as outcome
use Rattle.core_model.specs.declared.event.StepFault.{StepFault}
use Rattle.core_model.specs.declared.event.StepFault.TheVariants as core
use Rattle.core_model.specs.Step.{stepped}
use Rattle.replay_places.specs.Places.{PlaceSteps, is_wanting, replied, fetched_with, told_of, message_of, took_by, job_of, job_or_nothing}
use Rattle.script_text.specs.declared.item.Item.{Item}
use Rattle.world_model.specs.Asks.{told_at_once}
use Rattle.world_model.specs.declared.fault.WorldFault.{WorldFault}
use Rattle.world_model.specs.declared.fault.WorldFault.TheVariants as fault
use Rattle.world_model.specs.Gains.{Replies, Fetched, fetches, fetched_as, fetched_by, all_fetched, reply_items, gained, gained_by}
use Rattle.world_model.specs.Places.{with_core, with_place}
use Rattle.world_model.specs.Sends.{worked}
use Rattle.world_model.specs.State.{Place, World}
use Rattle.world_model.specs.Steps.{Step, gains, refuses, of_core, after_core, steps}
use Rattle.world_model.specs.Takes.{took}

pub step_taken : (w : World) (p : ℕ) (old : Place) (e : CoreEvent) (why : WorldFault) (next : Place → Outcome → Step) (new : Place) (o : Outcome) → PlaceSteps old e new (Ok o) → steps w p old e why next ≡ next new o
step_taken w p old e why next new o h = ap (after_core w p old why next) h.core ∙ sym (ap (λ (y : Place). next y o) h.rest)

pub step_faulted : (w : World) (p : ℕ) (old : Place) (e : CoreEvent) (why : WorldFault) (next : Place → Outcome → Step) (new : Place) (f : StepFault) → PlaceSteps old e new (Err f) → of_core p why f ≢ fault.NoMemory → steps w p old e why next ≡ refuses (with_place w p new) (of_core p why f)
step_faulted w p old e why next new core.Worn h n = ap (after_core w p old why next) h.core ∙ sym (ap (λ (y : Place). refuses (with_place w p y) (fault.Worn p)) h.rest)
step_faulted w p old e why next new core.NoMemory h n = absurd (n refl)
step_faulted w p old e why next new (core.TicketUsed ticket) h n = ap (after_core w p old why next) h.core ∙ sym (ap (λ (y : Place). refuses (with_place w p y) why) h.rest)
step_faulted w p old e why next new (core.NoSuchTicket ticket) h n = ap (after_core w p old why next) h.core ∙ sym (ap (λ (y : Place). refuses (with_place w p y) why) h.rest)
step_faulted w p old e why next new (core.NoSuchCall call) h n = ap (after_core w p old why next) h.core ∙ sym (ap (λ (y : Place). refuses (with_place w p y) why) h.rest)
step_faulted w p old e why next new (core.NoSuchStream stream) h n = ap (after_core w p old why next) h.core ∙ sym (ap (λ (y : Place). refuses (with_place w p y) why) h.rest)

-- what a line gains, once its replies are fetched
pub gained_so : (w : World) (p : ℕ) (old new : Place) (own : List Item) (told replies : Replies) (items : List Item) → all_fetched old told ≡ fetches new replies → items ≡ own ++ flat_map (reply_items p new.posted) replies → gained w p old own told ≡ gains (with_place w p new) items
gained_so w p old new own told replies items f e =
    ap (gained_by w p own) f ∙ sym (ap (λ (xs : List Item). gains (with_place w p new) xs) e)

-- Fetching.

fetched_same : (more : Place → Replies → Fetched) (x : Place) (ticket : ℕ) (got : Replies) (o : Outcome) → fetched_as more x ticket got (Ok o) ≡ fetched_with more x ticket got (replied o)
fetched_same more x ticket got (outcome.Replied a) = refl
fetched_same more x ticket got outcome.Waiting = refl
fetched_same more x ticket got outcome.Pending = refl
fetched_same more x ticket got (outcome.Item i) = refl
fetched_same more x ticket got outcome.Noted = refl
fetched_same more x ticket got (outcome.Job j) = refl

pub reply_taken : (more : Place → Replies → Fetched) (old : Place) (ticket : ℕ) (got : Replies) (new : Place) (o : Outcome) → PlaceSteps old (event.Take ticket) new (Ok o) → fetched_by more old ticket got (stepped old.core (event.Take ticket) old.clock) ≡ fetched_with more new ticket got (replied o)
reply_taken more old ticket got new o h =
    ap (fetched_by more old ticket got) h.core ∙ sym (ap (λ (y : Place). fetched_as more y ticket got (Ok o)) h.rest) ∙ fetched_same more new ticket got o

pub none_taken : (more : Place → Replies → Fetched) (old : Place) (ticket : ℕ) (got : Replies) (new : Place) (f : StepFault) → PlaceSteps old (event.Take ticket) new (Err f) → is_wanting f ≡ false → fetched_by more old ticket got (stepped old.core (event.Take ticket) old.clock) ≡ fetches new got
none_taken more old ticket got new core.Worn h n = ap (fetched_by more old ticket got) h.core ∙ sym (ap (λ (y : Place). fetches y got) h.rest)
none_taken more old ticket got new core.NoMemory h n = absurd (cc)
none_taken more old ticket got new (core.TicketUsed t) h n = ap (fetched_by more old ticket got) h.core ∙ sym (ap (λ (y : Place). fetches y got) h.rest)
none_taken more old ticket got new (core.NoSuchTicket t) h n = ap (fetched_by more old ticket got) h.core ∙ sym (ap (λ (y : Place). fetches y got) h.rest)
none_taken more old ticket got new (core.NoSuchCall t) h n = ap (fetched_by more old ticket got) h.core ∙ sym (ap (λ (y : Place). fetches y got) h.rest)
none_taken more old ticket got new (core.NoSuchStream t) h n = ap (fetched_by more old ticket got) h.core ∙ sym (ap (λ (y : Place). fetches y got) h.rest)

-- what a step told at once
pub told_same : (ticket : ℕ) (o : Outcome) → told_at_once ticket o ≡ told_of ticket (replied o)
told_same ticket (outcome.Replied a) = refl
told_same ticket outcome.Waiting = refl
told_same ticket outcome.Pending = refl
told_same ticket (outcome.Item i) = refl
told_same ticket outcome.Noted = refl
told_same ticket (outcome.Job j) = refl

pub took_same : (w : World) (p ticket : ℕ) (x : Place) (o : Outcome) → took w p ticket x o ≡ took_by w p ticket x (message_of o)
took_same w p ticket x (outcome.Replied a) = refl
took_same w p ticket x outcome.Waiting = refl
took_same w p ticket x outcome.Pending = refl
took_same w p ticket x (outcome.Item i) = refl
took_same w p ticket x outcome.Noted = refl
took_same w p ticket x (outcome.Job j) = refl

pub worked_same : (w : World) (p : ℕ) (x : Place) (o : Outcome) → worked w p x o ≡ job_or_nothing w p x (job_of o)
worked_same w p x (outcome.Replied a) = refl
worked_same w p x outcome.Waiting = refl
worked_same w p x outcome.Pending = refl
worked_same w p x (outcome.Item i) = refl
worked_same w p x outcome.Noted = refl
worked_same w p x (outcome.Job None) = refl
worked_same w p x (outcome.Job (Some j)) = refl
