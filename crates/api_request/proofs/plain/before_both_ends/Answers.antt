-- What is left once the end is taken off stands before it.
use Rattle.std.proofs.Common.{◌≡◌, ◌≢◌, ◌++◌, ◌∙◌, ℕ, List, Option, Some, None, Bor, ap}
use Rattle.std.specs.Prelude.{IfSome, MatchOption}
use Rattle.std.proofs.lemmas.Bool.Decides.{Decides-eqb}
use Rattle.std.proofs.lemmas.Slice.Eq.{strip_suffix_is}
use Rattle.api_request.proofs.plain.before_both_ends.Goals as goal

where_some : (s p q : List ℕ) (r : Option (Bor (List ℕ))) → p ≡ q → MatchOption r ((front : List ℕ) → s ≢ front ++ p) (λ x. s ≡ x.now ++ p) → IfSome r (λ x. s ≡ x.now ++ q)
where_some s p q None e h = tt
where_some s p q (Some x) e h = h ∙ ap (λ (t : List ℕ). x.now ++ t) e

pub returns : goal.returns
returns c =
    where_some c.args.rest.now c.as_slice.result.now _ c.strip_suffix.result c.as_slice.ensures
    (strip_suffix_is Decides-eqb c.args.rest.now c.as_slice.result.now c.strip_suffix.result c.strip_suffix.ensures.cases)
