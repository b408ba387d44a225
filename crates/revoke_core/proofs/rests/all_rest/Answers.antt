-- One more rests, or they don't all.
use Rattle.std.proofs.Common.{◌≡◌, ◌<◌, ◌+◌, ◌&&◌, true, false, length, take, drop, sym, ap, ◌∙◌, arith}
use mathlib.Core.List.{reverse}
use Rattle.revoke_core.specs.Rests.{all_rest, is_at_rest}
use Rattle.revoke_core.proofs.Resting.{rest_more}
use Rattle.revoke_core.proofs.rests.all_rest.Goals as goal

pub loop-at-preserved : goal.loop-at-preserved
loop-at-preserved c =
    let ws = c.args.writes.now in
    let i = c.loop-at.at in
    let f = c.loop-at-test.true in
    let l : i < length ws = omega arith in
    let here : is_at_rest ws i ≡ true = sym c.is_at_rest.ensures ∙ c.if-not-is_at_rest.false in
    sym (rest_more ws i l ∙ ap (λ b. b && all_rest (reverse (take (i + 1) ws)) (drop (i + 1) ws)) here) ∙ c.loop-at.invariant

pub returns-then-not-is_at_rest : goal.returns-then-not-is_at_rest
returns-then-not-is_at_rest c =
    let ws = c.args.writes.now in
    let i = c.loop-at.at in
    let f = c.loop-at-test.true in
    let l : i < length ws = omega arith in
    let here : is_at_rest ws i ≡ false = sym c.is_at_rest.ensures ∙ c.if-not-is_at_rest.true in
    sym (sym c.loop-at.invariant ∙ rest_more ws i l ∙ ap (λ b. b && all_rest (reverse (take (i + 1) ws)) (drop (i + 1) ws)) here)
