-- What is left once the piece is taken off stands behind it.
use Rattle.std.proofs.Common.{◌≡◌, ◌≢◌, ◌++◌, ℕ, List, Option, Some, None, Bor}
use Rattle.std.specs.Prelude.{IfSome, MatchOption}
use Rattle.std.proofs.lemmas.Bool.Decides.{Decides-eqb}
use Rattle.std.proofs.lemmas.Slice.Eq.{strip_prefix_is}
use Rattle.api_reply.proofs.plain.after.Goals as goal

where_some : (text piece : List ℕ) (r : Option (Bor (List ℕ))) → MatchOption r ((rest : List ℕ) → text ≢ piece ++ rest) (λ x. text ≡ piece ++ x.now) → IfSome r (λ x. text ≡ piece ++ x.now)
where_some text piece None h = tt
where_some text piece (Some x) h = h

pub returns : goal.returns
returns c =
    let text = c.args.text.now in
    let piece = c.args.piece.now in
    where_some text piece c.strip_prefix.result (strip_prefix_is Decides-eqb text piece c.strip_prefix.result c.strip_prefix.ensures.cases)
