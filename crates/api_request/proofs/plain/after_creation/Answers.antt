-- What is left once the opening is taken off stands behind it.
use Rattle.std.proofs.Common.{◌≡◌, ◌≢◌, ◌++◌, ◌∙◌, ℕ, List, Option, Some, None, Bor, ap}
use Rattle.std.specs.Prelude.{IfSome, MatchOption}
use Rattle.std.proofs.lemmas.Bool.Decides.{Decides-eqb}
use Rattle.std.proofs.lemmas.Slice.Eq.{strip_prefix_is}
use Rattle.api_request.proofs.plain.after_creation.Goals as goal

where_some : (s p q : List ℕ) (r : Option (Bor (List ℕ))) → p ≡ q → MatchOption r ((rest : List ℕ) → s ≢ p ++ rest) (λ x. s ≡ p ++ x.now) → IfSome r (λ x. s ≡ q ++ x.now)
where_some s p q None e h = tt
where_some s p q (Some x) e h = h ∙ ap (λ (t : List ℕ). t ++ x.now) e

pub returns : goal.returns
returns c =
    where_some c.args.body.now c.as_slice.result.now _ c.strip_prefix.result c.as_slice.ensures
    (strip_prefix_is Decides-eqb c.args.body.now c.as_slice.result.now c.strip_prefix.result c.strip_prefix.ensures.cases)
