-- Behind each script of lines that were all taken the world is shown by the view of true caches, with leasing on. The number of a line is
-- the word by which a session may be drawn, so lines are to be fewer than there are such numbers.
use Rattle.std.specs.Prelude.{◌≡◌, ◌<◌, ◌^◌, false, List, length, Some, Ok}
use Rattle.etcd_types.specs.Keys.{is_empty}
use Rattle.script_text.specs.declared.line.Line.{Line}
use Rattle.world_model.specs.State.{World}
use Rattle.world_model.specs.Transcript.{world_behind, transcript}
use Rattle.renewed_laws.specs.Renewals.{AnswersShowBytes}
use Rattle.bridge_laws.specs.Holder.{holder_of}
use Rattle.bridge_laws.specs.Shown.{Shown}

abbrev pub EachWorldIsShown : Type 0
EachWorldIsShown =
    (lines : List Line) (w : World) → length lines < 2 ^ 60 → AnswersShowBytes (transcript lines) → world_behind lines ≡ Ok (Some w) → is_empty w.leasing ≡ false → Shown (holder_of lines) w
