-- What a line does at a proxy, and how the code's places stand for it.
use Rattle.std.specs.Prelude.{◌≡◌, ◌≢◌, ℕ, suc, Bool, true, false, List, [], ◌∷◌, ◌++◌, Option, None, Some, Result, Ok, Err}
use Rattle.core_face.specs.Steps.{Steps}
use Rattle.core_model.specs.declared.event.CoreEvent.{CoreEvent}
use Rattle.core_model.specs.declared.event.Job.{Job}
use Rattle.core_model.specs.declared.event.Outcome.{Outcome}
use Rattle.core_model.specs.declared.event.Outcome.TheVariants as outcome
use Rattle.core_model.specs.declared.event.StepFault.{StepFault}
use Rattle.core_model.specs.declared.event.StepFault.TheVariants as core
use Rattle.core_model.specs.declared.settings.Settings.{Settings}
use Rattle.core_model.specs.State.{first_core}
use Rattle.etcd_types.specs.declared.answer.Answer.{Answer}
use Rattle.etcd_types.specs.declared.watch.WatchItem.{WatchItem}
use Rattle.script_text.specs.declared.item.Item.{Item}
use Rattle.script_text.specs.declared.item.Item.TheVariants as item
use Rattle.world_model.specs.declared.fault.WorldFault.{WorldFault}
use Rattle.world_model.specs.declared.fault.WorldFault.TheVariants as fault
use Rattle.world_model.specs.Gains.{Fetched, Replies, fetched, fetches, gained, taken_items, with_reply}
use Rattle.world_model.specs.Places.{with_core, with_kept, with_place}
use Rattle.world_model.specs.Sends.{job_done, sends_nothing}
use Rattle.world_model.specs.State.{Numbered, Place, World, no_numbers}
use Rattle.world_model.specs.Steps.{Step, gains, refuses}

-- a proxy at a start
abbrev pub fresh : Settings → ℕ → ℕ → Place
fresh settings clock life =
    record { clock = clock; life = life; core = first_core settings; tickets = no_numbers; posted = no_numbers; calls = []; streams = [] }

-- the proxy's machine makes a step, and nothing else of the proxy changes
pub record PlaceSteps (old : Place) (e : CoreEvent) (new : Place) (result : Result Outcome StepFault) : Type 0 where
  pub rest : new ≡ with_core old new.core
  pub core : Steps old.core e old.clock new.core result

-- the line is taken as the definition says and leaves the proxy so; or it is refused so, and what else it would change stays
abbrev pub PlaceGives : World → World → ℕ → Place → Result (List Item) WorldFault → Step → Type 0
PlaceGives before after p new (Ok items) step = step ≡ gains (with_place after p new) items
PlaceGives before after p new (Err why) step = why ≢ fault.NoMemory → step ≡ refuses (with_place before p new) why

abbrev pub with_places : World → Numbered Place → World
with_places w places = record w { places = places }

-- the same of all proxies
abbrev pub PlacesGive : World → World → Numbered Place → Result (List Item) WorldFault → Step → Type 0
PlacesGive before after new (Ok items) step = step ≡ gains (with_places after new) items
PlacesGive before after new (Err why) step = why ≢ fault.NoMemory → step ≡ refuses (with_places before new) why

abbrev pub is_wanting : StepFault → Bool
is_wanting core.NoMemory = true
is_wanting _ = false

-- the reply that an outcome is
abbrev pub replied : Outcome → Option Answer
replied (outcome.Replied a) = Some a
replied _ = None

abbrev pub told_of : ℕ → Option Answer → Replies
told_of ticket None = []
told_of ticket (Some a) = (ticket, a) ∷ []

abbrev pub job_of : Outcome → Option Job
job_of (outcome.Job j) = j
job_of _ = None

abbrev pub message_of : Outcome → Option WatchItem
message_of (outcome.Item i) = Some i
message_of _ = None

-- a message of a watch is taken, or none is there
abbrev pub took_by : World → ℕ → ℕ → Place → Option WatchItem → Step
took_by w p ticket x None = gained w p x (item.Pending p ticket ∷ []) []
took_by w p ticket x (Some i) = gained w p x (taken_items p x.posted ticket i) []

-- what is fetched behind a reply that was taken; where none was, all is
abbrev pub fetched_with : (Place → Replies → Fetched) → Place → ℕ → Replies → Option Answer → Fetched
fetched_with more x ticket got None = fetches x got
fetched_with more x ticket got (Some a) = more x (with_reply ticket a got)

-- Fetching: with one more, at most so many replies are fetched as with it fetched already; without one, none are.
abbrev pub fetches_on : Bool → Place → Replies → Place → Replies → Type 0
fetches_on true old told new told' = (n : ℕ) → fetched (suc n) old told ≡ fetched n new told'
fetches_on false old told new told' = (n : ℕ) → fetched (suc n) old told ≡ fetches new told'

-- a proxy that has sent a call of this number, or opened a stream
abbrev pub with_own_call : ℕ → Place → Place
with_own_call number x = record x { calls = x.calls ++ number ∷ [] }

abbrev pub with_own_stream : ℕ → ℕ → Place → Place
with_own_stream own number x = record x { streams = with_kept x.streams own number }

-- the first due job is done, or there is none
abbrev pub job_or_nothing : World → ℕ → Place → Option Job → Step
job_or_nothing w p x None = sends_nothing w p x
job_or_nothing w p x (Some j) = job_done w p x j
