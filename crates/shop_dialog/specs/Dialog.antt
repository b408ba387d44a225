-- A connection to the store, from its start to its end: the requests among the bytes that were read, the steps that were made for them, and
-- the bytes that were written.
use Rattle.std.specs.Prelude.{◌≡◌, ℕ, Bool, true, false, List, [], ◌∷◌, ◌++◌, ◌||◌, Option, IfSome, Result, Ok, Err}
use Rattle.std.specs.List.{flat_map}
use Rattle.std.specs.Io.KnownBytes.{Appends}
use Rattle.outside.specs.Streams.{WritesFront}
use Rattle.etcd_types.specs.declared.request.Request.{Request}
use Rattle.json_model.specs.declared.extra.Reading.TheVariants.{Call}
use Rattle.http_wire.specs.declared.fault.WireFault.{WireFault}
use Rattle.http_wire.specs.declared.fault.WireFault.TheVariants as wire
use Rattle.http_wire.specs.declared.message.Head.{Head}
use Rattle.http_talk.specs.declared.form.RefusalForm.TheVariants.{Mapping}
use Rattle.http_talk.specs.declared.refused.Refused.{Refused}
use Rattle.http_talk.specs.Receiving.{Cut, IsCut, CutBy, cut_said}
use Rattle.http_talk.specs.Refusals.{refusal_to}
use Rattle.http_talk.specs.Replies.{said_in_chunk, said_as_reply, go_on_of}
use Rattle.http_talk.specs.Requests.{IsRequest, asked_of}
use Rattle.shop_model.specs.declared.event.StoreOutcome.{StoreOutcome}
use Rattle.shop_model.specs.declared.event.StoreOutcome.TheVariants as outcome
use Rattle.shop_model.specs.declared.event.StoreStepFault.{StoreStepFault}
use Rattle.shop_dialog.specs.declared.ends.StoreEnd.{StoreEnd}
use Rattle.shop_dialog.specs.declared.ends.StoreEnd.TheVariants as end
use Rattle.shop_dialog.specs.Steps.{Step, Every}
use Rattle.shop_dialog.specs.Watching.{Whole, Breaks, Breaking, IsUntold}

-- what a step says to the client in the mapping's form, where the head of the chunks was written or wasn't
abbrev pub said_at : Bool → Result StoreOutcome StoreStepFault → List ℕ
said_at begun (Ok (outcome.Answer answer)) = said_as_reply Mapping begun answer
said_at begun (Ok (outcome.Item item)) = said_in_chunk begun item
said_at begun _ = []

abbrev pub begins : Result StoreOutcome StoreStepFault → Bool
begins (Ok (outcome.Item item)) = true
begins _ = false

abbrev pub said_from : Bool → List Step → List ℕ
said_from begun [] = []
said_from begun (e ∷ es) = said_at begun e.answer ++ said_from (begun || begins e.answer) es

-- a request, and the steps that were made for it
pub record Exchange : Type 0 where
  pub head : Head
  pub body : List ℕ
  pub steps : List Step

-- what it asks, or why it is refused: the store reads it as a member reads a proxy's call
abbrev pub asked_in : Head → List ℕ → Result Request Refused
asked_in head body = asked_of Call head body

-- what is said for a request with this method
abbrev pub said_for : List ℕ → Result Request Refused → List Step → List ℕ
said_for method (Ok q) steps = said_from false steps
said_for method (Err refused) steps = refusal_to Mapping method refused

abbrev pub said_in : Exchange → List ℕ
said_in x = go_on_of x.head ++ said_for x.head.method (asked_in x.head x.body) x.steps

-- a refusal of the request makes no step
abbrev pub Answers : Result Request Refused → List Step → Type 0
Answers (Ok q) steps = Whole q steps
Answers (Err refused) steps = steps ≡ []

abbrev pub StopsIn : Type 0 → Result Request Refused → StoreEnd → List Step → Type 0
StopsIn worn (Ok q) e steps = Breaks worn q e steps
StopsIn worn (Err refused) e steps = (steps ≡ []) × IsUntold e

-- What a connection ends with, behind the requests that were answered whole: the input's end; the last request, with `close`; a request that
-- wasn't read whole; or one in whose midst it ended.
pub data Last : Type 0 where
  Ended : Last
  Closing : Exchange → Last
  NotRead : Cut → Last
  Broken : Exchange → Last

abbrev pub last_steps : Last → List Step
last_steps (Closing x) = x.steps
last_steps (Broken x) = x.steps
last_steps _ = []

abbrev pub last_said : Last → List ℕ
last_said Ended = []
last_said (Closing x) = said_in x
last_said (NotRead cut) = cut_said Mapping cut
last_said (Broken x) = said_in x

-- what it is among the bytes that were still ahead
abbrev pub IsLast : Last → List ℕ → Type 0
IsLast Ended all = all ≡ []
IsLast (Closing x) all = (rest : List ℕ) × IsRequest x.head x.body all rest
IsLast (NotRead cut) all = IsCut cut all
IsLast (Broken x) all = (rest : List ℕ) × IsRequest x.head x.body all rest

-- the end of a connection by a fault of its bytes, its source or its sink
abbrev pub end_by : WireFault → StoreEnd
end_by wire.ReadFault = end.ReadFault
end_by wire.WriteFault = end.WriteFault
end_by wire.NoMemory = end.NoMemory
end_by fault = end.BadRequest fault

-- which end goes with it
abbrev pub Suits : Type 0 → StoreEnd → Last → Type 0
Suits worn e Ended = e ≡ end.Closed
Suits worn e (Closing x) = (e ≡ end.Closed) × Answers (asked_in x.head x.body) x.steps × (x.head.close ≡ true)
Suits worn e (NotRead cut) = (fault : WireFault) × (e ≡ end_by fault) × CutBy fault cut
Suits worn e (Broken x) = Breaking e × StopsIn worn (asked_in x.head x.body) e x.steps

-- all of it was written, or a front of it
abbrev pub Said : StoreEnd → Option (List ℕ) → Option (List ℕ) → List ℕ → Type 0
Said end.Closed old new bytes = Appends old new bytes
Said _ old new bytes = WritesFront old new bytes

-- these requests stand in the bytes, one behind the other
abbrev pub Requests : List Exchange → List ℕ → List ℕ → Type 0
Requests [] all rest = all ≡ rest
Requests (x ∷ xs) all rest = (mid : List ℕ) × IsRequest x.head x.body all mid × Requests xs mid rest

-- each was answered whole, and none of them closes
abbrev pub AreAnswered : List Exchange → Type 0
AreAnswered xs = Every (λ x. Answers (asked_in x.head x.body) x.steps × (x.head.close ≡ false)) xs

-- A whole connection. `left` are the bytes that the source had to give.
pub record Dialog (worn : Type 0) (left : Option (List ℕ)) (made made' : List Step) (written written' : Option (List ℕ)) (e : StoreEnd) : Type 0 where
  pub whole : List Exchange
  pub last : Last
  pub read : IfSome left (λ all. (mid : List ℕ) × Requests whole all mid × IsLast last mid)
  pub answered : AreAnswered whole
  pub suits : Suits worn e last
  pub did : made' ≡ made ++ (flat_map (λ x. x.steps) whole ++ last_steps last)
  pub said : Said e written written' (flat_map said_in whole ++ last_said last)
