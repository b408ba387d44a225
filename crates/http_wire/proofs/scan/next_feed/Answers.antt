use Rattle.http_wire.proofs.Feeds.{unfinished, front_unfinished}
use Rattle.http_wire.proofs.Scanning.{goes_on, ends_there, is_last}
use Rattle.http_wire.proofs.scan.next_feed.Goals as goal

pub behind-requires : goal.behind-requires
behind-requires c = unfinished c.args.bytes.now c.in_default.ensures

pub behind-requires-2 : goal.behind-requires-2
behind-requires-2 c = front_unfinished c.args.bytes.now c.in-Some.count c.in-Some.ensures

pub returns-in-Inside : goal.returns-in-Inside
returns-in-Inside c = goes_on c.args.place c.args.bytes.now c.in-Some.count c.in-Some.ensures c.in-Inside.ensures

pub returns-in_default-behind : goal.returns-in_default-behind
returns-in_default-behind c =
    is_last c.args.place c.behind-2.result c.args.bytes.now c.in-Some.count c.in-Some.ensures c.behind-2.ensures (ends_there c.behind-2.result c.in_default-behind.not-Inside)
