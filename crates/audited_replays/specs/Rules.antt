-- The rules of an audit, of the transcript of every script, one by one. Premises: the world has as many members as a line's text can have;
-- there are fewer than 2^60 lines; and what the answers show is made of bytes. All three hold of scripts that were read.
use Rattle.std.specs.Prelude.{◌≡◌, ◌<◌, ◌^◌, ◌&&◌, nat_le, Bool, true, List, ◌∷◌, ◌++◌, length, None}
use Rattle.std.specs.List.{list_all}
use Rattle.script_text.specs.declared.item.Item.{Item}
use Rattle.script_text.specs.declared.line.Line.{Line}
use Rattle.script_text.specs.declared.line.Line.TheVariants as line
use Rattle.world_model.specs.Transcript.{transcript}
use Rattle.renewed_laws.specs.Renewals.{AnswersShowBytes}
use Rattle.audit_model.specs.Answers.{answers_so, pushes_so}
use Rattle.audit_model.specs.Broken.{Meets}
use Rattle.audit_model.specs.Floors.{too_early}
use Rattle.audit_model.specs.Order.{in_order}
use Rattle.audit_model.specs.Takes.{takes_so}
use Rattle.audit_model.specs.Unsent.{replies_so}

-- of each item, behind those before it
abbrev pub OfEach : (List Item → Item → Type 0) → List Item → Type 0
OfEach R items = (earlier later : List Item) (i : Item) → items ≡ earlier ++ i ∷ later → R earlier i

-- a world has 1 to 9 members
abbrev pub has_members : Line → Bool
has_members (line.World members namespace leasing) = nat_le 1 members && nat_le members 9
has_members _ = true

abbrev pub OfReplays : (List Item → Type 0) → Type 0
OfReplays P = (lines : List Line) → list_all has_members lines ≡ true → length lines < 2 ^ 60 → AnswersShowBytes (transcript lines) → P (transcript lines)

-- each item is in order
abbrev pub OrdersAreKept : Type 0
OrdersAreKept = OfReplays (OfEach (λ before i. in_order before i ≡ true))

-- answers and messages are the store's
abbrev pub AnswersAreKept : Type 0
AnswersAreKept = OfReplays (OfEach (λ before i. answers_so before i ≡ true))

abbrev pub PushesAreKept : Type 0
PushesAreKept = OfReplays (OfEach (λ before i. pushes_so before i ≡ true))

-- what is replied with no call of its own so far is true
abbrev pub RepliesAreKept : Type 0
RepliesAreKept = OfReplays (OfEach (λ before i. replies_so before i ≡ true))

-- no session expires below its floor
abbrev pub FloorsAreKept : Type 0
FloorsAreKept = OfReplays (OfEach (λ before i. too_early before i ≡ None))

-- each message that a watch takes is what it may take
abbrev pub TakesAreKept : Type 0
TakesAreKept = OfReplays (OfEach (λ before i. takes_so before i ≡ true))

-- all rules together
abbrev pub RulesAreKept : Type 0
RulesAreKept = OfReplays Meets
