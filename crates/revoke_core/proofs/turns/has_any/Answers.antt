-- A key in one of the ranges, range by range.
use Rattle.std.proofs.Common.{List, ◌∙◌, ap}
use Rattle.std.specs.List.{list_any}
use Rattle.etcd_types.specs.declared.key_range.KeyRange.{KeyRange}
use Rattle.etcd_types.specs.Ranges.{contains}
use Rattle.revoke_core.proofs.Ranges.{any_turned}
use Rattle.revoke_core.proofs.turns.has_any.Goals as goal

pub returns : goal.returns
returns c =
    c.is_any_in.ensures ∙ ap (λ (rs : List KeyRange). list_any (λ r. list_any (λ e. contains r e.0) c.args.table.now.entries) rs) c.as_slice.ensures ∙
    any_turned c.args.write.now.ranges c.args.table.now.entries
