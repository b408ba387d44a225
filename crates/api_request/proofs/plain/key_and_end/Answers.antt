-- What stands before the first quotation mark and what begins with it are the whole.
use Rattle.std.proofs.Common.{◌++◌, ◌∙◌, ℕ, List, Some, ap}
use Rattle.std.proofs.lemmas.Bool.Decides.{Decides-eqb}
use Rattle.std.proofs.lemmas.Slice.Eq.{strip_prefix_is}
use Rattle.api_request.proofs.PlainWatches.{range_parted}
use Rattle.api_request.proofs.plain.key_and_end.Goals as goal

pub returns : goal.returns
returns c =
    let front = c.split_at.result.0.now in
    let back = c.split_at.result.1.now in
    let end = c.in_ok-end.end in
    range_parted _ c.args.texts.now front back end.now c.split_at.ensures.front c.split_at.ensures.back
    (strip_prefix_is Decides-eqb back c.as_slice.result.now (Some end) c.in_ok-end.ensures.cases ∙ ap (λ (t : List ℕ). t ++ end.now) c.as_slice.ensures)
