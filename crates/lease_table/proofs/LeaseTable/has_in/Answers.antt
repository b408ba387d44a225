-- Where the range begins, or nowhere.
use Rattle.std.proofs.Common.{◌∙◌}
use Rattle.proxy_model.proofs.KeyedLaws.{to_T}
use Rattle.lease_table.proofs.Starts.{any_at_start}
use Rattle.lease_table.proofs.LeaseTable.has_in.Goals as goal

pub returns : goal.returns
returns c = c.is_in.ensures ∙ any_at_start c.args.range.now c.args.self.now.entries c.start.result (to_T _ c.len-count.ensures.in_order) c.start.ensures
