-- By its own keys, or by the earlier ones.
use Rattle.std.proofs.Common.{sym, ◌∙◌}
use Rattle.revoke_core.proofs.Keeping.{kept_here, blocked_here}
use Rattle.revoke_core.proofs.passes.stays.Goals as goal

pub returns-then-is_kept : goal.returns-then-is_kept
returns-then-is_kept c =
    kept_here c.args.writes.now c.args.at c.index-writes-at.result c.args.table.now.entries c.args.spoiled.now c.requires c.index-writes-at.is (sym c.is_kept.ensures ∙ c.if-is_kept.true)

pub returns : goal.returns
returns c =
    blocked_here c.args.writes.now c.args.at c.is_blocked.result c.args.table.now.entries c.args.spoiled.now c.is_blocked.ensures
