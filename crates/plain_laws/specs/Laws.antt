-- With leasing off nothing is cached: each ok reply, but one to a keepalive, is the answer to a call that its proxy sent for it.
use Rattle.std.specs.Prelude.{◌≡◌, ℕ, true, false, List, ◌∷◌, ◌++◌, Some}
use Rattle.etcd_types.specs.declared.answer.Answer.TheVariants.{Done}
use Rattle.etcd_types.specs.declared.answer.Reply.{Reply}
use Rattle.etcd_types.specs.declared.request.Request.{Request}
use Rattle.etcd_types.specs.Keys.{is_empty}
use Rattle.core_model.specs.Fits.{is_keepalive}
use Rattle.script_text.specs.declared.item.Item.{Item}
use Rattle.script_text.specs.declared.item.Item.TheVariants as item
use Rattle.script_text.specs.declared.line.Line.{Line}
use Rattle.world_model.specs.Lives.{world_of, life, asked_as, is_named}
use Rattle.world_model.specs.Reads.{UnsentReadsAreTrue}
use Rattle.world_model.specs.Transcript.{transcript}
use Rattle.renewed_laws.specs.Renewals.{AnswersShowBytes}

-- the leasing prefix of the world; leasing is off where it is empty
abbrev pub leasing_of : List Item → List ℕ
leasing_of items = (world_of items).1

-- Also of a script with a line that can't be taken. Keepalives of one lease share a call, which names one of them. The premise is that
-- what the answers show is made of bytes.
abbrev pub LeasingOffNamesReplies : Type 0
LeasingOffNamesReplies =
    (lines : List Line) → AnswersShowBytes (transcript lines) → is_empty (leasing_of (transcript lines)) ≡ true
    → (earlier later : List Item) (p ticket : ℕ) (q : Request) (reply : Reply) → transcript lines ≡ earlier ++ item.Reply p ticket (Done reply) ∷ later
    → asked_as p ticket (life p earlier) ≡ Some q → is_keepalive q ≡ false → is_named p ticket (life p earlier) ≡ true

-- So no read is answered unsent, and each of them is true.
abbrev pub LeasingOffReadsAreTrue : Type 0
LeasingOffReadsAreTrue =
    (lines : List Line) → AnswersShowBytes (transcript lines) → is_empty (leasing_of (transcript lines)) ≡ true → UnsentReadsAreTrue (transcript lines)
