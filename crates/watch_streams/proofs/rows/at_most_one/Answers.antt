use Rattle.std.proofs.Common.{◌≡◌, ◌<◌, ◌≤◌, ℕ, suc, ◌+◌, Bool, true, false, not, length, add-one, ap, ◌∙◌, refl, arith}
use Rattle.watch_streams.specs.Rows.{before}
use Rattle.watch_streams.proofs.Alone.{alone_at_end, alone_at}
use Rattle.watch_streams.proofs.rows.at_most_one.Goals as goal

pub returns-then-next-rows : goal.returns-then-next-rows
returns-then-next-rows c = λ rises e.
    let rs = c.args.rows.now in
    let n = c.before-next.ensures.count rises in
    alone_at_end c.args.digest rs (let l = c.if-next-rows.true in omega (arith, l, n))

pub returns : goal.returns
returns c = λ rises e.
    let rs = c.args.rows.now in
    let n = c.before-next.ensures.count rises in
    let at : c.before-next.result + 1 ≡ suc (before c.args.digest rs) = add-one c.before-next.result ∙ ap (λ (k : ℕ). suc k) n in
    alone_at c.args.digest 0 (c.before-next.result + 1) rs _ rises at (let l = c.if-next-rows.false in omega (arith, l)) (other _ e)
  where
    other : (b : Bool) → not b ≡ true → b ≡ false
    other false e = refl
    other true e = absurd (cc)
