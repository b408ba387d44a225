-- What holds of every script, of any number of proxies.
use Rattle.std.specs.Prelude.{◌≡◌, ◌⊎◌, ℕ, ◌+◌, List, ◌∷◌, ◌++◌, length, Option, Some, Ok, Err}
use Rattle.core_model.specs.declared.event.CoreEvent.{CoreEvent}
use Rattle.core_model.specs.Step.{stepped}
use Rattle.script_text.specs.declared.item.Item.{Item}
use Rattle.script_text.specs.declared.item.Item.TheVariants as item
use Rattle.script_text.specs.declared.line.Line.{Line}
use Rattle.script_text.specs.declared.line.Line.TheVariants as line
use Rattle.store_model.specs.State.{starting}
use Rattle.store_laws.specs.Lives.Lives.{StoreStep, lived}
use Rattle.store_laws.specs.Lives.Sound.{Sound}
use Rattle.world_model.specs.Answers.{AnswersAreTheStores, MessagesAreTheStores}
use Rattle.world_model.specs.declared.fault.LineRefusal.{LineRefusal}
use Rattle.world_model.specs.Places.{place_at, with_place, with_core}
use Rattle.world_model.specs.State.{Place, World, word}
use Rattle.world_model.specs.Transcript.{done, transcript, transcript_from, world_behind}

abbrev pub EachTranscriptHasTheStoresAnswers : Type 0
EachTranscriptHasTheStoresAnswers = (lines : List Line) → AnswersAreTheStores (transcript lines)

abbrev pub EachTranscriptHasTheStoresMessages : Type 0
EachTranscriptHasTheStoresMessages = (lines : List Line) → MessagesAreTheStores (transcript lines)

-- Each stream is one watch of the store, under the same number.
abbrev pub StreamsAreWatches : Type 0
StreamsAreWatches =
    (lines : List Line) (w : World) → world_behind lines ≡ Ok (Some w) → length w.store.watches ≡ length w.streams

-- The world's store is what began empty and had steps done to it, so it is sound.
pub record HasLived (w : World) : Type 0 where
  pub steps : List StoreStep
  pub store : w.store ≡ lived (starting w.members) steps

abbrev pub StoresLive : Type 0
StoresLive = (lines : List Line) (w : World) → world_behind lines ≡ Ok (Some w) → HasLived w

abbrev pub StoresAreSound : Type 0
StoresAreSound = (lines : List Line) (w : World) → world_behind lines ≡ Ok (Some w) → Sound w.store

-- One of the proxies made a step, and nothing else happened.
pub record OneStepped (w after : World) : Type 0 where
  pub proxy : ℕ
  pub place : Place
  pub event : CoreEvent
  pub stands : place_at w proxy ≡ Some place
  pub steps : after ≡ with_place w proxy (with_core place (stepped place.core event place.clock).core)

abbrev pub RefusedLinesLeaveTheWorld : Type 0
RefusedLinesLeaveTheWorld =
    (w : World) (l : Line) (why : LineRefusal)
    → (done w l).gained ≡ Err why → ((done w l).world ≡ w) ⊎ OneStepped w (done w l).world

-- the next line has the number behind those that were taken
abbrev pub WordsAreLineNumbers : Type 0
WordsAreLineNumbers =
    (lines : List Line) (w : World) → world_behind lines ≡ Ok (Some w) → word w ≡ length lines + 1

abbrev pub TranscriptsGoOn : Type 0
TranscriptsGoOn =
    (lines more : List Line) (w : Option World)
    → world_behind lines ≡ Ok w → transcript (lines ++ more) ≡ transcript lines ++ transcript_from w more

-- A line's own item repeats its words, or is what it brought about.
abbrev pub IsOwn : Line → Item → Type 0
IsOwn (line.World members namespace leasing) (item.World m n l) = (m ≡ members) × (n ≡ namespace) × (l ≡ leasing)
IsOwn (line.Start p) (item.Started q) = q ≡ p
IsOwn (line.Start p) (item.Restarted q) = q ≡ p
IsOwn (line.Clock p millis) (item.Clock q m) = (q ≡ p) × (m ≡ millis)
IsOwn (line.Ask p ticket asked) (item.Asked q t r) = (q ≡ p) × (t ≡ ticket) × (r ≡ asked)
IsOwn (line.Post p ticket path body) (item.Posted q t a b) = (q ≡ p) × (t ≡ ticket) × (a ≡ path) × (b ≡ body)
IsOwn (line.Tick p) (item.Ticked q) = q ≡ p
IsOwn (line.Send p) (item.Sent q call member ticket request) = q ≡ p
IsOwn (line.Send p) (item.Opened q stream member request) = q ≡ p
IsOwn (line.Send p) (item.Closed q stream) = q ≡ p
IsOwn (line.Exec call) (item.Executed c answer) = c ≡ call
IsOwn (line.Answer call) (item.Answered c) = c ≡ call
IsOwn (line.Lose call) (item.Lost c) = c ≡ call
IsOwn (line.Push stream) (item.Pushed s message) = s ≡ stream
IsOwn (line.Progress stream) (item.Pushed s message) = s ≡ stream
IsOwn (line.Deliver stream) (item.Delivered s) = s ≡ stream
IsOwn (line.Cut stream) (item.Cut s) = s ≡ stream
IsOwn (line.Take p ticket) (item.Taken q t message) = (q ≡ p) × (t ≡ ticket)
IsOwn (line.Take p ticket) (item.Pending q t) = (q ≡ p) × (t ≡ ticket)
IsOwn (line.Leave p ticket) (item.Left q t) = (q ≡ p) × (t ≡ ticket)
IsOwn (line.Expire lease) (item.Expired l) = l ≡ lease
IsOwn (line.Apply member revision) (item.Applied m r) = (m ≡ member) × (r ≡ revision)
IsOwn _ _ = ⊥

pub record GainsItsOwn (l : Line) (items : List Item) : Type 0 where
  pub own : Item
  pub rest : List Item
  pub gained : items ≡ own ∷ rest
  pub repeats : IsOwn l own

abbrev pub EachLineGainsItsOwn : Type 0
EachLineGainsItsOwn = (w : World) (l : Line) (items : List Item) → (done w l).gained ≡ Ok items → GainsItsOwn l items
