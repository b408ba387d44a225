-- What stands before the first quotation mark and what begins with it are the whole.
use Rattle.std.proofs.Common.{◌++◌, ◌∙◌, ℕ, List, Some, ap}
use Rattle.std.proofs.lemmas.Bool.Decides.{Decides-eqb}
use Rattle.std.proofs.lemmas.Slice.Eq.{strip_prefix_is}
use Rattle.api_request.proofs.PlainRequests.{parted}
use Rattle.api_request.proofs.plain.key_and_value.Goals as goal

pub returns : goal.returns
returns c =
    let front = c.split_at.result.0.now in
    let back = c.split_at.result.1.now in
    let value = c.in_ok-value.value in
    parted _ c.args.texts.now front back value.now c.split_at.ensures.front c.split_at.ensures.back
    (strip_prefix_is Decides-eqb back c.as_slice.result.now (Some value) c.in_ok-value.ensures.cases ∙ ap (λ (t : List ℕ). t ++ value.now) c.as_slice.ensures)
