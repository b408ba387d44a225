use Rattle.std.proofs.Common.{◌≡◌, ◌<◌, ℕ, length, arith, rules}
use Rattle.watch_streams.proofs.Halving.{none_at_end, none_at_sooner, at_sooner}
use Rattle.watch_streams.proofs.streams.place_of.Goals as goal
use Rattle.watch_streams.proofs.streams.place_of.Goals.{then-at-streams-via-then-at-streams, then-at-streams-via-else-at-streams+then-streams-at}

pub returns-then-at-streams-clause-none : goal.returns-then-at-streams-clause-none
returns-then-at-streams-clause-none c =
    let t = c.args.number in
    let ss = c.args.streams.now in
    elim c.then-at-streams.branch [
      | then-at-streams-via-then-at-streams w ↦ none_at_end t ss (let e = w.if-at-streams.true in let g = c.sooner-at.ensures.count in omega (arith, e, g))
      | then-at-streams-via-else-at-streams+then-streams-at w ↦
          let l : c.sooner-at.result < length ss = let e = w.if-at-streams.false in let b = c.sooner-at.ensures.bound in omega (arith, e, b) in
          none_at_sooner t 0 c.requires.high c.sooner-at.result ss w.index-streams-at.result c.requires.numbers c.sooner-at.ensures.count l w.index-streams-at.is (λ q. let e = w.if-streams-at.true in search (q, e, rules))
    ]

pub returns-clause-found : goal.returns-clause-found
returns-clause-found c =
    let t = c.args.number in
    let ss = c.args.streams.now in
    let y = c.index-streams-at.result in
    let l : c.sooner-at.result < length ss = let e = c.if-at-streams.false in let b = c.sooner-at.ensures.bound in omega (arith, e, b) in
    let k : y.number ≡ t = let e = c.if-streams-at.false in search (e, rules) in
    record { bound = l; is = at_sooner t c.sooner-at.result ss y c.sooner-at.ensures.count l c.index-streams-at.is k }
