-- What a line gains at the proxy that made a step: its own items, and then the replies. These are the reply that the step gave,
-- and each reply that stands ready, which is fetched by a step of the proxy on taking it.
use Rattle.std.specs.Prelude.{ℕ, zero, suc, Bool, true, false, List, [], ◌∷◌, ◌++◌, length, Option, None, Some, Result, Ok, Err, flat_map}
use Rattle.std.specs.Ordering.{nat_cmp}
use Rattle.std.specs.FinMap.{put}
use Rattle.std.specs.BTreeSet.{BTreeSet}
use Rattle.etcd_types.specs.declared.answer.Answer.{Answer}
use Rattle.etcd_types.specs.declared.watch.WatchItem.{WatchItem}
use Rattle.json_model.specs.WrittenReplies.{answer_status, answer_text, item_text}
use Rattle.core_model.specs.declared.event.CoreEvent.TheVariants as event
use Rattle.core_model.specs.declared.event.Outcome.{Outcome}
use Rattle.core_model.specs.declared.event.Outcome.TheVariants as outcome
use Rattle.core_model.specs.declared.event.StepFault.{StepFault}
use Rattle.core_model.specs.Step.{stepped}
use Rattle.core_model.specs.Stepped.{Stepped}
use Rattle.core_model.specs.Takes.{ready}
use Rattle.script_text.specs.declared.item.Item.{Item}
use Rattle.script_text.specs.declared.item.Item.TheVariants as item
use Rattle.world_model.specs.Places.{is_among, with_core, with_place}
use Rattle.world_model.specs.State.{Numbered, Place, World}
use Rattle.world_model.specs.Steps.{Step, gains}

-- the replies by rising tickets
abbrev pub Replies : Type 0
Replies = Numbered Answer

abbrev pub with_reply : ℕ → Answer → Replies → Replies
with_reply ticket answer got = put nat_cmp ticket answer got

-- The proxy once its ready replies were fetched, and the replies.
pub record Fetched : Type 0 where
  pub place : Place
  pub replies : Replies

abbrev pub fetches : Place → Replies → Fetched
fetches x got = record { place = x; replies = got }

-- a worn proxy gives none
abbrev pub fetched_as : (Place → Replies → Fetched) → Place → ℕ → Replies → Result Outcome StepFault → Fetched
fetched_as more x ticket got (Ok (outcome.Replied a)) = more x (with_reply ticket a got)
fetched_as more x ticket got (Ok o) = fetches x got
fetched_as more x ticket got (Err f) = fetches x got

abbrev pub fetched_by : (Place → Replies → Fetched) → Place → ℕ → Replies → Stepped → Fetched
fetched_by more x ticket got s = fetched_as more (with_core x s.core) ticket got s.outcome

abbrev pub fetched_if : (Place → Replies → Fetched) → Place → Replies → Option ℕ → Fetched
fetched_if more x got None = fetches x got
fetched_if more x got (Some ticket) = fetched_by more x ticket got (stepped x.core (event.Take ticket) x.clock)

-- at most so many: each one that is taken is no request any more
abbrev pub fetched : ℕ → Place → Replies → Fetched
fetched zero x got = fetches x got
fetched (suc n) x got = fetched_if (fetched n) x got (ready x.core)

abbrev pub all_fetched : Place → Replies → Fetched
all_fetched x got = fetched (length x.core.asks) x got

-- Items.

abbrev pub body_if : Bool → ℕ → ℕ → Answer → List Item
body_if false p ticket a = []
body_if true p ticket a = item.Body p ticket (answer_status a) (answer_text a) ∷ []

-- a reply to what was posted is told as JSON, too
abbrev pub reply_items : ℕ → BTreeSet ℕ → ℕ × Answer → List Item
reply_items p posted r = item.Reply p r.0 r.1 ∷ body_if (is_among posted r.0) p r.0 r.1

abbrev pub line_if : Bool → ℕ → ℕ → WatchItem → List Item
line_if false p ticket i = []
line_if true p ticket i = item.Body p ticket 200 (item_text i) ∷ []

-- so is a message of a watch that was posted
abbrev pub taken_items : ℕ → BTreeSet ℕ → ℕ → WatchItem → List Item
taken_items p posted ticket i = item.Taken p ticket i ∷ line_if (is_among posted ticket) p ticket i

abbrev pub gained_by : World → ℕ → List Item → Fetched → Step
gained_by w p own f = gains (with_place w p f.place) (own ++ flat_map (reply_items p f.place.posted) f.replies)

-- a line's own items, and a proxy after its step with the replies that the step gave
abbrev pub gained : World → ℕ → Place → List Item → Replies → Step
gained w p x own told = gained_by w p own (all_fetched x told)
