use Rattle.std.proofs.Common.{◌≡◌, ◌<◌, ℕ, length, sym, subst, arith, rules}
use Rattle.std.proofs.lemmas.List.{length-map}
use Rattle.watch_queue.specs.Watching.{shown}
use Rattle.watch_merge.proofs.Ticketed.{none_at_end, none_at_gap, at_gap}
use Rattle.watch_merge.proofs.watches.index_of.Goals as goal
use Rattle.watch_merge.proofs.watches.index_of.Goals.{then-at-watches-via-then-at-watches, then-at-watches-via-else-at-watches+then-watches-at}

pub returns-then-at-watches-clause-none : goal.returns-then-at-watches-clause-none
returns-then-at-watches-clause-none c =
    let t = c.args.ticket in
    let ws = c.args.watches.now in
    elim c.then-at-watches.branch [
      | then-at-watches-via-then-at-watches w ↦ none_at_end t ws (let e = w.if-at-watches.true in let g = c.gap-at.ensures.gap in omega (arith, e, g))
      | then-at-watches-via-else-at-watches+then-watches-at w ↦
          let y = w.index-watches-at.result in
          let l : c.gap-at.result < length ws = let e = w.if-at-watches.false in let b = c.gap-at.ensures.bound in omega (arith, e, b) in
          none_at_gap t 0 c.gap-at.result ws y c.requires c.gap-at.ensures.gap l w.index-watches-at.is (λ q. let e = w.if-watches-at.true in search (q, e, rules))
    ]

pub returns-clause-found : goal.returns-clause-found
returns-clause-found c =
    let t = c.args.ticket in
    let ws = c.args.watches.now in
    let y = c.index-watches-at.result in
    let l : c.gap-at.result < length ws = let e = c.if-at-watches.false in let b = c.gap-at.ensures.bound in omega (arith, e, b) in
    let k : y.ticket ≡ t = let e = c.if-watches-at.false in search (e, rules) in
    record {
      bound = subst (λ (n : ℕ). c.gap-at.result < n) (sym (length-map ws shown)) l;
      is = at_gap t c.gap-at.result ws y c.gap-at.ensures.gap l c.index-watches-at.is k;
    }
