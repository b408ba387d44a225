-- What is told of the calls that are made on what stands outside: on a link to the members of a cluster, on a spawner of
-- parts, and on a host that accepts connections.
use Rattle.std.specs.Prelude.{◌≡◌, ℕ, ◌≤◌, Bool, true, false, List, ◌++◌, Option, None, Some, Result, Ok, Err}
use Rattle.outside.specs.declared.link.AnswerEnd.{AnswerEnd}
use Rattle.outside.specs.declared.link.CallKind.{CallKind}
use Rattle.outside.specs.declared.link.LinkFault.{LinkFault}
use Rattle.outside.specs.declared.link.LinkFault.TheVariants as link
use Rattle.outside.specs.declared.source.Failed.{Failed}
use Rattle.outside.specs.Faults.{Rose}

-- what is told grows by these; it may stop being told, for good
abbrev pub Adds : {A : Type 0} → Option (List A) → Option (List A) → List A → Type 0
Adds old None more = Unit {0}
Adds None (Some after) more = ⊥
Adds (Some before) (Some after) more = after ≡ before ++ more

-- what is done on a link: a call was sent, with its member, what it is for and its bytes, and what the answer had to give, or why
-- there is none; or an answer was given back, with what it still gives, how often reading it failed, and how far it was read
pub data LinkCall : Type 0 where
  Begun : ℕ → CallKind → List ℕ → Result (Option (List ℕ)) LinkFault → LinkCall
  Ended : Option (List ℕ) → ℕ → AnswerEnd → LinkCall

-- what an answer has to give, or why there is none
abbrev pub had : {S : Type 0} → (S → Option (List ℕ)) → Result S LinkFault → Result (Option (List ℕ)) LinkFault
had left (Ok answer) = Ok (left answer)
had left (Err fault) = Err fault

-- what a call on a link does to its count: it rises with each failure but want of memory, and never falls
pub record HasLinkCause {T : Type 0} (earlier later : ℕ) (result : Result T LinkFault) : Type 0 where
  pub kept : earlier ≤ later
  pub rose : result ≡ Err link.Failed → Rose earlier later

-- a part that was handed over, and whether it was started
pub record Handed (P : Type 0) : Type 0 where
  pub part : P
  pub started : Bool

abbrev pub is_done : {T E : Type 0} → Result T E → Bool
is_done (Ok x) = true
is_done (Err e) = false

-- a call on a host: the address that it is to listen on, or a connection that it accepted, or none, where it was told to stop
pub data HostCall (C : Type 0) : Type 0 where
  Listened : List ℕ → Result (Unit {0}) Failed → HostCall C
  Accepted : Result (Option C) Failed → HostCall C
