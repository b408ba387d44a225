-- Each item of a whole transcript has a text as what was made of it has.
use Rattle.std.proofs.Common.{◌≡◌, ◌≤◌, ℕ, ◌+◌, true, List, [], ◌∷◌, length, Some, Ok, Err, arith}
use Rattle.text_model.specs.Words.{max_number}
use Rattle.script_text.specs.declared.item.Item.{Item}
use Rattle.script_text.specs.declared.line.Line.{Line}
use Rattle.script_text.specs.declared.line.Line.TheVariants as line
use Rattle.script_text.specs.Lines.{is_line}
use Rattle.world_model.specs.State.{World}
use Rattle.world_model.specs.Transcript.{Taken, begun, taken, items_and_then, transcript_from}
use Rattle.text_laws.specs.Items.Texts.{AreRead, HasTextAsMade, HaveTextsAsMade}
use Rattle.text_laws.specs.Items.Laws.{ItemsHaveTextsAsMade}
use Rattle.text_laws.proofs.Items.Parts.{each_append, parts_of, world_text}
use Rattle.text_laws.proofs.Items.Steps.{WorldFits, TakenFits, line_taken}

and_then_fits : (k : ℕ) (t : Taken) (rest : World → List Item) → TakenFits k t → ((w : World) → WorldFits k w → HaveTextsAsMade (rest w)) → HaveTextsAsMade (items_and_then t rest)
and_then_fits k (Ok gained) rest f h = each_append HasTextAsMade gained.1 (rest gained.0) f.0 (h gained.0 f.1)
and_then_fits k (Err why) rest f h = tt

from_fits : (k n : ℕ) (w : World) (lines : List Line) → AreRead n lines → k + length lines ≤ max_number → WorldFits k w → HaveTextsAsMade (transcript_from (Some w) lines)
from_fits k n w [] r room g = tt
from_fits k n w (l ∷ lines) r room g =
    and_then_fits (k + 1) (taken w l) (λ after. transcript_from (Some after) lines)
    (line_taken k n w l (omega (arith, room)) r.0 g)
    (λ v f. from_fits (k + 1) (n + 1) v lines r.1 (omega (arith, room)) f)

begun_fits : (l : Line) → is_line 1 l ≡ true → TakenFits 0 (begun l)
begun_fits (line.World members namespace leasing) e =
    ((world_text members namespace leasing (parts_of 1 (line.World members namespace leasing) e), tt), record { calls = tt; streams = tt; few_calls = omega arith; few_streams = omega arith })
begun_fits _ e = tt

pub texts_as_made : ItemsHaveTextsAsMade
texts_as_made [] r few = tt
texts_as_made (l ∷ lines) r few =
    and_then_fits 0 (begun l) (λ after. transcript_from (Some after) lines)
    (begun_fits l r.0)
    (λ v f. from_fits 0 2 v lines r.1 (omega (arith, few)) f)
