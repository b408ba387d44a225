use Rattle.std.proofs.Common.{rules, of_calls, nat_lt, arith}
use Rattle.std.proofs.lemmas.Fn.{always_returns_same}
use Rattle.watch_streams.proofs.Halving.{sooner_below, sooner_is}
use Rattle.watch_streams.proofs.streams.sooner.Goals as goal

pub returns-clause-count : goal.returns-clause-count
returns-clause-count c =
    let t = c.args.number in
    let ss = c.args.streams.now in
    let point = c.partition_point.ensures.partitioned (λ s. nat_lt s.number t) (always_returns_same _ _ _ (λ a r f k. search (rules, of_calls)))
    (λ i j d l m up. sooner_below t c.requires.high i j ss d c.requires.numbers l m up) in
    sooner_is t c.partition_point.result ss c.partition_point.ensures.bound (λ k d l. point.0 k d (omega arith) l) (λ k d l m. point.1 k d l m)
