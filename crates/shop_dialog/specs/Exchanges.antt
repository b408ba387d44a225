-- What the parts of serving one request do.
use Rattle.std.specs.Prelude.{◌≡◌, ℕ, Bool, true, false, ◌||◌, List, [], ◌∷◌, ◌++◌, Option, None, Some, IfSome, Result, Ok, Err}
use Rattle.std.specs.List.{flat_map}
use Rattle.std.specs.Io.KnownBytes.{Appends}
use Rattle.outside.specs.Streams.{WritesFront}
use Rattle.etcd_types.specs.declared.request.Request.{Request}
use Rattle.etcd_types.specs.declared.watch.WatchItem.{WatchItem}
use Rattle.http_talk.specs.declared.form.RefusalForm.TheVariants.{Mapping}
use Rattle.http_talk.specs.declared.refused.Refused.{Refused}
use Rattle.http_talk.specs.Refusals.{refusal_to}
use Rattle.http_talk.specs.Replies.{is_cancel, said_in_chunk}
use Rattle.http_talk.specs.Requests.{Ahead, IsRequest}
use Rattle.turn_hub.specs.History.{entry_of}
use Rattle.shop_model.specs.declared.event.StoreEvent.TheVariants.{Push}
use Rattle.shop_model.specs.declared.event.StoreOutcome.{StoreOutcome}
use Rattle.shop_model.specs.declared.event.StoreOutcome.TheVariants as outcome
use Rattle.shop_model.specs.declared.event.StoreStepFault.{StoreStepFault}
use Rattle.shop_dialog.specs.declared.ends.StoreEnd.{StoreEnd}
use Rattle.shop_dialog.specs.declared.progress.Pushed.{Pushed}
use Rattle.shop_dialog.specs.declared.progress.Pushed.TheVariants as pushed
use Rattle.shop_dialog.specs.declared.progress.Stop.{Stop}
use Rattle.shop_dialog.specs.declared.progress.Stop.TheVariants as stop
use Rattle.shop_dialog.specs.Steps.{Step}
use Rattle.shop_dialog.specs.Watching.{ArePartial, PushesAll, Stopping, Whole, Breaks, IsUntold, is_final, goes_on}
use Rattle.shop_dialog.specs.Dialog.{Exchange, Last, IsLast, Suits, Said, Answers, StopsIn, Requests, AreAnswered, asked_in, begins, said_at, said_from, said_for, said_in, last_steps, last_said}

-- what a push brought
abbrev pub IsPushed : Pushed → Result StoreOutcome StoreStepFault → Type 0
IsPushed pushed.Nothing answer = answer ≡ Ok outcome.Nothing
IsPushed pushed.Part answer = (goes_on answer ≡ true) × (begins answer ≡ true)
IsPushed pushed.Last answer = is_final answer ≡ true

-- one of these steps brought a message
abbrev pub begun_by : List Step → Bool
begun_by [] = false
begun_by (e ∷ es) = begins e.answer || begun_by es

-- pushes behind which more is to come, all of whose messages are written
pub record Partly (number : ℕ) (begun : Bool) (made made' : List Step) (written written' : Option (List ℕ)) : Type 0 where
  pub pushes : List Step
  pub partial : ArePartial number pushes
  pub did : made' ≡ made ++ pushes
  pub said : Appends written written' (said_from false pushes)
  pub begun_so : begun_by pushes ≡ begun

-- one push, and what it says, where the head of the chunks was written or wasn't
abbrev pub Took : ℕ → Bool → List Step → List Step → Option (List ℕ) → Option (List ℕ) → Pushed → Type 0
Took number begun made made' written written' p =
    (now : ℕ) × (answer : Result StoreOutcome StoreStepFault) × IsPushed p answer × (made' ≡ made ++ entry_of (Push number) now answer ∷ [])
    × Appends written written' (said_at begun answer)

-- all pushes of a watch, whose messages are written
abbrev pub FollowsAll : ℕ → List Step → List Step → Option (List ℕ) → Option (List ℕ) → Type 0
FollowsAll number made made' written written' =
    (pushes : List Step) × PushesAll number pushes × (made' ≡ made ++ pushes) × Appends written written' (said_from false pushes)

-- no more is pushed of a watch: what its pushes say was written up to some place
abbrev pub Stopped : Type 0 → ℕ → Bool → List Step → List Step → Option (List ℕ) → Option (List ℕ) → Stop → Type 0
Stopped worn number begun made made' written written' (stop.Unanswered e) =
    (pushes : List Step) × (tail : List Step) × ArePartial number pushes × Stopping worn number e tail × (made' ≡ made ++ (pushes ++ tail))
    × WritesFront written written' (said_from begun pushes)
Stopped worn number begun made made' written written' (stop.Answered e) =
    (pushes : List Step) × PushesAll number pushes × IsUntold e × (made' ≡ made ++ pushes) × WritesFront written written' (said_from begun pushes)

-- a message of a watch was told
abbrev pub PassesOn : Bool → WatchItem → Option (List ℕ) → Option (List ℕ) → Result Pushed Stop → Type 0
PassesOn begun item written written' (Ok pushed.Nothing) = ⊥
PassesOn begun item written written' (Ok pushed.Part) = (is_cancel item ≡ false) × Appends written written' (said_in_chunk begun item)
PassesOn begun item written written' (Ok pushed.Last) = (is_cancel item ≡ true) × Appends written written' (said_in_chunk begun item)
PassesOn begun item written written' (Err (stop.Unanswered e)) = (is_cancel item ≡ false) × IsUntold e × WritesFront written written' (said_in_chunk begun item)
PassesOn begun item written written' (Err (stop.Answered e)) = (is_cancel item ≡ true) × IsUntold e × WritesFront written written' (said_in_chunk begun item)

-- one push, or why no more is pushed
abbrev pub Pushes : Type 0 → ℕ → Bool → List Step → List Step → Option (List ℕ) → Option (List ℕ) → Result Pushed Stop → Type 0
Pushes worn number begun made made' written written' (Ok p) = Took number begun made made' written written' p
Pushes worn number begun made made' written written' (Err why) = Stopped worn number begun made made' written written' why

-- all that comes on a watch, or why no more is pushed
abbrev pub Follows : Type 0 → ℕ → List Step → List Step → Option (List ℕ) → Option (List ℕ) → Result (Unit {0}) Stop → Type 0
Follows worn number made made' written written' (Ok done) = FollowsAll number made made' written written'
Follows worn number made made' written written' (Err why) = Stopped worn number false made made' written written' why

-- the end of a connection that stopped so
abbrev pub end_in : Stop → StoreEnd
end_in (stop.Unanswered e) = e
end_in (stop.Answered e) = e

-- the steps of a request, and what they say
abbrev pub Asks : Type 0 → Request → List Step → List Step → Option (List ℕ) → Option (List ℕ) → Option StoreEnd → Type 0
Asks worn q made made' written written' None =
    (steps : List Step) × Whole q steps × (made' ≡ made ++ steps) × Appends written written' (said_from false steps)
Asks worn q made made' written written' (Some e) =
    (steps : List Step) × Breaks worn q e steps × (made' ≡ made ++ steps) × WritesFront written written' (said_from false steps)

-- a request with this method was refused, or a front of that was written
abbrev pub Refuses : List ℕ → Refused → Option (List ℕ) → Option (List ℕ) → Option StoreEnd → Type 0
Refuses method refused written written' None = Appends written written' (refusal_to Mapping method refused)
Refuses method refused written written' (Some e) = IsUntold e × WritesFront written written' (refusal_to Mapping method refused)

-- the same of a request with this method that was read, of which the mapping says this
abbrev pub Replies : Type 0 → List ℕ → Result Request Refused → List Step → List Step → Option (List ℕ) → Option (List ℕ) → Option StoreEnd → Type 0
Replies worn method asked made made' written written' None =
    (steps : List Step) × Answers asked steps × (made' ≡ made ++ steps) × Appends written written' (said_for method asked steps)
Replies worn method asked made made' written written' (Some e) =
    (steps : List Step) × StopsIn worn asked e steps × (made' ≡ made ++ steps) × WritesFront written written' (said_for method asked steps)

-- a request was read and answered whole, and the connection goes on
pub record Exchanged (left left' : Option (List ℕ)) (made made' : List Step) (written written' : Option (List ℕ)) : Type 0 where
  pub x : Exchange
  pub read : Ahead (IsRequest x.head x.body) left left'
  pub answers : Answers (asked_in x.head x.body) x.steps
  pub stays : x.head.close ≡ false
  pub did : made' ≡ made ++ x.steps
  pub said : Appends written written' (said_in x)

-- the connection ended
pub record Ends (worn : Type 0) (left : Option (List ℕ)) (made made' : List Step) (written written' : Option (List ℕ)) (e : StoreEnd) : Type 0 where
  pub last : Last
  pub suits : Suits worn e last
  pub is_last : IfSome left (IsLast last)
  pub did : made' ≡ made ++ last_steps last
  pub said : Said e written written' (last_said last)

-- one request, and how it goes on
abbrev pub Turned : Type 0 → Option (List ℕ) → Option (List ℕ) → List Step → List Step → Option (List ℕ) → Option (List ℕ) → Option StoreEnd → Type 0
Turned worn left left' made made' written written' None = Exchanged left left' made made' written written'
Turned worn left left' made made' written written' (Some e) = Ends worn left made made' written written' e

-- the requests that were answered whole so far
pub record Has (left left' : Option (List ℕ)) (made made' : List Step) (written written' : Option (List ℕ)) : Type 0 where
  pub whole : List Exchange
  pub read : Ahead (Requests whole) left left'
  pub answered : AreAnswered whole
  pub did : made' ≡ made ++ flat_map (λ x. x.steps) whole
  pub said : Appends written written' (flat_map said_in whole)
