use Rattle.std.proofs.Common.{rules, of_calls, nat_lt, arith}
use Rattle.std.proofs.lemmas.Fn.{always_returns_same}
use Rattle.watch_merge.proofs.Ticketed.{sooner_below, gap_is}
use Rattle.watch_merge.proofs.watches.gap.Goals as goal

pub returns-clause-gap : goal.returns-clause-gap
returns-clause-gap c =
    let ticket = c.args.ticket in
    let ws = c.args.watches.now in
    let point = c.partition_point.ensures.partitioned (λ w. nat_lt w.ticket ticket) (always_returns_same _ _ _ (λ a r f k. search (rules, of_calls)))
    (λ i j d l m up. sooner_below ticket i j ws d c.requires l m up) in
    gap_is ticket c.partition_point.result ws c.partition_point.ensures.bound (λ k d l. point.0 k d (omega arith) l) (λ k d l m. point.1 k d l m)
