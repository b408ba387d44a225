-- A request that has no reply five seconds after it was asked is refused at the proxy's first step from then on, and has no other reply then, read
-- off a transcript alone.
use Rattle.std.specs.Prelude.{◌≡◌, ◌+◌, ℕ, Bool, true, false, not, ◌&&◌, ◌==◌, nat_le, List, [], ◌∷◌, ◌++◌, Some}
use Rattle.std.specs.List.{list_any, list_all}
use Rattle.etcd_types.specs.declared.answer.Answer.{Answer}
use Rattle.etcd_types.specs.declared.answer.Answer.TheVariants.{Refused}
use Rattle.etcd_types.specs.declared.answer.Refusal.{Refusal}
use Rattle.etcd_types.specs.declared.code.TheConstants.{DEADLINE_EXCEEDED}
use Rattle.etcd_types.specs.declared.request.Request.{Request}
use Rattle.etcd_types.specs.declared.request.Request.TheVariants as request
use Rattle.core_model.specs.ClockWork.{request_time}
use Rattle.core_model.specs.Verdicts.{timed_out}
use Rattle.script_text.specs.declared.item.Item.{Item}
use Rattle.script_text.specs.declared.item.Item.TheVariants as item
use Rattle.world_model.specs.Lives.{begins, clock_of, life, asked_as}
use Rattle.world_model.specs.LiveSessions.{is_step_of}

-- none of these items, each read behind those before it
abbrev pub none : (List Item → Item → Bool) → List Item → List Item → Bool
none f before [] = true
none f before (i ∷ items) = not (f before i) && none f (before ++ i ∷ []) items

-- a step of the proxy at or above this reading of its clock
abbrev pub is_late : ℕ → ℕ → List Item → Item → Bool
is_late p limit before i = is_step_of p before i && nat_le limit (clock_of p before)

-- a reply, or its JSON
abbrev pub is_told : Item → Bool
is_told (item.Reply p ticket a) = true
is_told (item.Body p ticket status text) = true
is_told _ = false

-- The request of this ticket was asked, and the proxy wasn't started since. Its last step came five seconds after the asking or later, and is
-- the first that did; behind it there are replies alone.
pub record TimesOut (items : List Item) (p ticket : ℕ) : Type 0 where
  pub before : List Item
  pub asked : Request
  pub since : List Item
  pub step : Item
  pub told : List Item
  pub story : items ≡ (before ++ item.Asked p ticket asked ∷ since) ++ step ∷ told
  pub stays : list_any (begins p) since ≡ false
  pub in_time : none (is_late p (clock_of p before + request_time)) (before ++ item.Asked p ticket asked ∷ []) since ≡ true
  pub late : is_late p (clock_of p before + request_time) (before ++ item.Asked p ticket asked ∷ since) step ≡ true
  pub replies : list_all is_told told ≡ true

-- of each refusal that says that the time is over
abbrev pub TimeoutsAreDue : List Item → Type 0
TimeoutsAreDue items =
    (earlier later : List Item) (p ticket : ℕ) (r : Refusal)
    → items ≡ earlier ++ item.Reply p ticket (Refused r) ∷ later → r.code ≡ DEADLINE_EXCEEDED → (r ≡ timed_out) × TimesOut earlier p ticket

-- ---- no other reply comes so late

-- The request of this ticket was asked, the proxy wasn't started since, and no step of it since came five seconds after the asking or later.
pub record InTime (items : List Item) (p ticket : ℕ) : Type 0 where
  pub before : List Item
  pub asked : Request
  pub since : List Item
  pub story : items ≡ before ++ item.Asked p ticket asked ∷ since
  pub stays : list_any (begins p) since ≡ false
  pub in_time : none (is_late p (clock_of p before + request_time)) (before ++ item.Asked p ticket asked ∷ []) since ≡ true

-- of each other reply to a request; a posted body that is no request has a reply, too
abbrev pub OthersAreInTime : List Item → Type 0
OthersAreInTime items =
    (earlier later : List Item) (p ticket : ℕ) (q : Request) (a : Answer)
    → items ≡ earlier ++ item.Reply p ticket a ∷ later → asked_as p ticket (life p earlier) ≡ Some q → (a ≡ Refused timed_out → ⊥) → InTime earlier p ticket

-- ---- none waits longer

-- a watch has no reply
abbrev pub is_call : Request → Bool
is_call (request.Watch ask) = false
is_call _ = true

-- the client has a reply, or left; or it takes messages, as of a watch
abbrev pub ends_it : ℕ → ℕ → Item → Bool
ends_it p ticket (item.Reply q t a) = q == p && t == ticket
ends_it p ticket (item.Left q t) = q == p && t == ticket
ends_it p ticket (item.Taken q t message) = q == p && t == ticket
ends_it p ticket (item.Pending q t) = q == p && t == ticket
ends_it p ticket _ = false

-- A request was asked under this ticket in this life of the proxy, and its client waits for the reply.
pub record Awaits (items : List Item) (p ticket : ℕ) : Type 0 where
  pub asked : Request
  pub was_asked : asked_as p ticket (life p items) ≡ Some asked
  pub calls : is_call asked ≡ true
  pub unended : list_any (ends_it p ticket) (life p items) ≡ false

-- At each step of a proxy, no step of it before was too late for a request that waits: with the first that is, its client has a reply.
abbrev pub NoneWaitsTooLong : List Item → Type 0
NoneWaitsTooLong items =
    (earlier later : List Item) (step : Item) (p ticket : ℕ) → items ≡ earlier ++ step ∷ later → is_step_of p earlier step ≡ true → Awaits earlier p ticket → InTime earlier p ticket
