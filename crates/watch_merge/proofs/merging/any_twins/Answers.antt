use Rattle.std.proofs.Common.{not, ap, sym, ◌∙◌}
use Rattle.watch_merge.proofs.Alone.{alone_has_none}
use Rattle.watch_merge.proofs.merging.any_twins.Goals as goal

pub returns-else-not-is_alone : goal.returns-else-not-is_alone
returns-else-not-is_alone c =
    let e = c.if-not-is_alone.false in
    ap not e ∙ sym (alone_has_none c.args.range.now c.args.streams.now (c.is_alone.ensures c.args.streams.now c.requires e))
