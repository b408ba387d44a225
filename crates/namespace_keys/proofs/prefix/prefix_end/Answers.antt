-- The last byte below FF is raised; before it is found, the bytes left out are FF.
use Rattle.std.proofs.Common.{◌≡◌, ◌∷◌, [], ◌++◌, Option, unwrap_or, sym, ap, ◌∙◌, arith, List, ℕ}
use Rattle.proxy_model.specs.Prefixes.{raised}
use Rattle.proxy_model.proofs.PrefixLaws.{raised-full, raised-below}
use Rattle.namespace_keys.proofs.prefix.prefix_end.Goals as goal

pub returns-then-last-lt255 : goal.returns-then-last-lt255
returns-then-last-lt255 c =
    let front = c.in-Some.front.now in
    let last = c.in-Some.last.now in
    let found = ap raised (sym c.as_slice-rest.ensures) ∙ sym c.loop-last.invariant ∙ ap raised c.in-Some.ensures.cases.0 ∙ raised-below front last c.if-last-lt255.true in
    c.in_ok-join.ensures ∙ sym (ap (λ (o : Option (List ℕ)). unwrap_or o (0 ∷ [])) found)

pub loop-last-preserved : goal.loop-last-preserved
loop-last-preserved c =
    let front = c.in-Some.front.now in
    let full : c.in-Some.last.now ≡ 255 = omega arith in
    sym (raised-full front) ∙ ap (λ b. raised (front ++ b ∷ [])) (sym full) ∙ sym (ap raised c.in-Some.ensures.cases.0) ∙ c.loop-last.invariant
