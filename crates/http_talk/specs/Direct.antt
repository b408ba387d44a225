-- Answers that need no step: refusals, and answers that an object beside the machine gives to requests that the mapping refuses.
use Rattle.std.specs.Prelude.{◌≡◌, ℕ, List, [], Option, None, Some, Result, Ok, Err, ⊤}
use Rattle.etcd_types.specs.declared.request.Request.{Request}
use Rattle.http_wire.specs.declared.message.Head.{Head}
use Rattle.http_talk.specs.declared.form.RefusalForm.{RefusalForm}
use Rattle.http_talk.specs.declared.ready.Ready.{Ready}
use Rattle.http_talk.specs.declared.refused.Refused.{Refused}
use Rattle.http_talk.specs.Refusals.{refusal_to, reply_to}

-- how a request is answered with no step: refused, or as it was given; or memory was wanting before that was known
pub data Direct : Type 0 where
  Refuses : Refused → Direct
  Gives : Ready → Direct
  Undecided : Direct

-- what it says to a client with this method
abbrev pub direct_said : RefusalForm → List ℕ → Direct → List ℕ
direct_said form method (Refuses refused) = refusal_to form method refused
direct_said form method (Gives ready) = reply_to method ready.status ready.body
direct_said form method Undecided = []

-- the mapping refuses the request
abbrev pub IsRefused : Result Request Refused → Type 0
IsRefused asked = (refused : Refused) × (asked ≡ Err refused)

-- it says something
abbrev pub IsSaid : Direct → Type 0
IsSaid Undecided = ⊥
IsSaid _ = ⊤

-- How a request is decided of which the mapping says `asked`: one that the mapping knows is asked. Of others, those to which an answer is
-- given have that one, and the rest are refused. `gives` says which answers may be given to this request, none among them.
abbrev pub Decides : (Option Ready → Type 0) → Result Request Refused → Result Request Direct → Type 0
Decides gives asked (Ok request) = asked ≡ Ok request
Decides gives asked (Err (Refuses refused)) = (asked ≡ Err refused) × gives None
Decides gives asked (Err (Gives ready)) = IsRefused asked × gives (Some ready)
Decides gives asked (Err Undecided) = IsRefused asked

-- an object that gives no answers
abbrev pub GivesNone : Head → List ℕ → Option Ready → Type 0
GivesNone head body given = given ≡ None
