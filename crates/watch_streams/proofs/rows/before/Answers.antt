use Rattle.std.proofs.Common.{rules, of_calls, nat_lt, arith}
use Rattle.std.proofs.lemmas.Fn.{always_returns_same}
use Rattle.watch_streams.proofs.Rising.{sooner_below, before_is}
use Rattle.watch_streams.proofs.rows.before.Goals as goal

pub returns-clause-count : goal.returns-clause-count
returns-clause-count c = λ rises.
    let t = c.args.limit in
    let rs = c.args.rows.now in
    let point = c.partition_point.ensures.partitioned (λ r. nat_lt r.digest t) (always_returns_same _ _ _ (λ a r f k. search (rules, of_calls)))
    (λ i j d l m up. sooner_below t i j rs d rises l m up) in
    before_is t c.partition_point.result rs c.partition_point.ensures.bound (λ k d l. point.0 k d (omega arith) l) (λ k d l m. point.1 k d l m)
