-- The first number from the mark on is that of the first one, unless there is none.
use Rattle.std.proofs.Common.{[], ◌∷◌, List, ap, ◌∙◌}
use Rattle.read_model.specs.declared.asked.Asked.{Asked}
use Rattle.known_asks.specs.OneByOne.{first_of}
use Rattle.ask_tables.specs.RowMarks.{row_mark, has_key, by_group}
use Rattle.known_asks.proofs.Firsts.{first_row, no_row, row_stands}
use Rattle.known_asks.proofs.RowFirsts.{first_is, none_first}
use Rattle.known_asks.proofs.asks.Asks.first_grouped.Goals as goal

pub row_of-requires-clause-there : goal.row_of-requires-clause-there
row_of-requires-clause-there c =
    let all = rw c.new.ensures at c.from.ensures.all in
    let first = first_row (c.args.kind ∷ c.args.lease ∷ 0 ∷ []) c.self.inside.tables.groups c.from.result.now c.row-item.result all c.in-len1-up.len_at_least c.row-item.is in
    rw c.deref.ensures.value
    (row_stands (row_mark by_group) c.self.inside.rows.items c.self.inside.tables.groups (c.args.kind ∷ c.args.lease ∷ 0 ∷ []) c.row-item.result _ c.from.ensures.in_order c.self.invariant.marked.groups first)

pub returns-in-len1-up : goal.returns-in-len1-up
returns-in-len1-up c =
    let all = rw c.new.ensures at c.from.ensures.all in
    let first = first_row (c.args.kind ∷ c.args.lease ∷ 0 ∷ []) c.self.inside.tables.groups c.from.result.now c.row-item.result all c.in-len1-up.len_at_least c.row-item.is in
    c.only_keyed.ensures ∙
    first_is by_group c.args.kind c.args.lease c.self.inside.rows.items c.self.inside.tables.groups c.row-item.result _ c.row_of.result.now c.from.ensures.in_order c.self.invariant.fits.indexed.rows_rise c.self.invariant.marked.groups first (rw c.deref.ensures.value at c.row_of.ensures) ∙
    ap (λ (s : List Asked). first_of (has_key by_group c.args.kind c.args.lease) s) c.self.view_is

pub returns-in-empty : goal.returns-in-empty
returns-in-empty c =
    let all = rw c.new.ensures at c.from.ensures.all in
    let none = no_row (c.args.kind ∷ c.args.lease ∷ 0 ∷ []) c.self.inside.tables.groups c.from.result.now all c.in-empty.len_below in
    none_first by_group c.args.kind c.args.lease c.self.inside.rows.items c.self.inside.tables.groups c.self.invariant.fits.indexed.rows_rise c.self.invariant.marked.groups none ∙
    ap (λ (s : List Asked). first_of (has_key by_group c.args.kind c.args.lease) s) c.self.view_is
