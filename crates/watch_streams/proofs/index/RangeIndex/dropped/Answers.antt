use Rattle.std.proofs.Common.{◌≡◌, List, sym, subst}
use Rattle.watch_model.specs.Lookups.{without_stream}
use Rattle.watch_streams.specs.declared.rows.Row.{Row}
use Rattle.watch_streams.specs.Rows.{Indexed}
use Rattle.watch_streams.proofs.Indexing.{indexed_without}
use Rattle.watch_streams.proofs.index.RangeIndex.dropped.Goals as goal

pub returns : goal.returns
returns c = λ ss h e. subst (λ (l : List Row). Indexed l (without_stream c.args.number ss)) (sym c.drop_row.ensures) (indexed_without c.args.number c.args.self.now.rows.items ss (h e))
