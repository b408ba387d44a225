-- The store of a transcript, and the first part of the headline: its answers are the store's. So are the messages of its streams.
use Rattle.std.specs.Prelude.{◌≡◌, ℕ, List, [], ◌∷◌, ◌++◌, Option, None, Some, Result, Ok, Err}
use Rattle.std.specs.Option.{option_map}
use Rattle.etcd_types.specs.declared.answer.Answer.{Answer}
use Rattle.etcd_types.specs.declared.request.Request.{Request}
use Rattle.etcd_types.specs.declared.request.Request.TheVariants as request
use Rattle.etcd_types.specs.declared.watch.Event.{Event}
use Rattle.etcd_types.specs.declared.watch.WatchItem.{WatchItem}
use Rattle.etcd_types.specs.declared.watch.WatchItem.TheVariants.{Created, Events, Canceled}
use Rattle.script_text.specs.declared.item.Item.{Item}
use Rattle.script_text.specs.declared.item.Item.TheVariants as item
use Rattle.store_model.specs.declared.store_fault.StoreFault.{StoreFault}
use Rattle.store_model.specs.Leases.{expired}
use Rattle.store_model.specs.Members.{applied}
use Rattle.store_model.specs.State.{State, starting}
use Rattle.store_model.specs.Step.{exec}
use Rattle.store_model.specs.Watches.{Pushed, opened, pushed, progressed}
use Rattle.world_model.specs.Places.{nth}

-- what the items tell of the store, without a look at any proxy: the calls sent, each with its member, and the store
pub record Seen : Type 0 where
  pub calls : List (ℕ × Request)
  pub store : State

-- before the item that makes the world
abbrev pub unseen : Seen
unseen = record { calls = []; store = starting 0 }

-- calls are numbered from 1 in the order in which they were sent
abbrev pub sent_call : Seen → ℕ → Option (ℕ × Request)
sent_call s number = nth s.calls number

abbrev pub after_call : State → Option (ℕ × Request) → State
after_call store None = store
after_call store (Some call) = (exec store call.0 call.1).0

-- a step that the store doesn't take leaves it
abbrev pub after_step : State → Result State StoreFault → State
after_step store (Ok after) = after
after_step store (Err why) = store

-- only watches are opened
abbrev pub after_opening : State → ℕ → Request → State
after_opening store member (request.Watch ask) = (opened store member ask).0
after_opening store member _ = store

-- a message without events tells a stream's progress
abbrev pub events_pushed : State → ℕ → List Event → Pushed
events_pushed store number [] = progressed store number
events_pushed store number (e ∷ es) = pushed store number

-- what the store has for a stream where the message is of this kind: streams are numbered as the store numbers its watches
abbrev pub message_by : State → ℕ → WatchItem → Pushed
message_by store number (Created h) = pushed store number
message_by store number (Events h events) = events_pushed store number events
message_by store number (Canceled h compaction) = pushed store number

abbrev pub after_push : State → Pushed → State
after_push store (Ok p) = p.0
after_push store (Err why) = store

abbrev pub saw : Seen → Item → Seen
saw s (item.World members namespace leasing) = record { calls = []; store = starting members }
saw s (item.Sent p number member ticket q) = record s { calls = s.calls ++ (member, q) ∷ [] }
saw s (item.Executed number answer) = record s { store = after_call s.store (sent_call s number) }
saw s (item.Opened p number member q) = record s { store = after_opening s.store member q }
saw s (item.Pushed number i) = record s { store = after_push s.store (message_by s.store number i) }
saw s (item.Expired lease) = record s { store = after_step s.store (expired s.store lease) }
saw s (item.Applied member revision) = record s { store = after_step s.store (applied s.store member revision) }
saw s _ = s

abbrev pub saw_all : Seen → List Item → Seen
saw_all s [] = s
saw_all s (i ∷ items) = saw_all (saw s i) items

-- the store that the items made
abbrev pub seen : List Item → Seen
seen items = saw_all unseen items

-- what the store step answers to a call
abbrev pub answer_to : Seen → ℕ → Option Answer
answer_to s number = option_map (λ call. (exec s.store call.0 call.1).1) (sent_call s number)

-- each answer is the one that the store step gives to that call, on the store of the items before it
abbrev pub AnswersAreTheStores : List Item → Type 0
AnswersAreTheStores items =
    (earlier later : List Item) (number : ℕ) (answer : Answer)
    → items ≡ earlier ++ item.Executed number answer ∷ later → answer_to (seen earlier) number ≡ Some answer

-- the message that the store gives
abbrev pub message_of : Pushed → Option WatchItem
message_of (Ok p) = Some p.1
message_of (Err why) = None

-- each message that is pushed is the one that the store of the items before it has for that stream
abbrev pub MessagesAreTheStores : List Item → Type 0
MessagesAreTheStores items =
    (earlier later : List Item) (number : ℕ) (message : WatchItem)
    → items ≡ earlier ++ item.Pushed number message ∷ later
    → message_of (message_by (seen earlier).store number message) ≡ Some message
