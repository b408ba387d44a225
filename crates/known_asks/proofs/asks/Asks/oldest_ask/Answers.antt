-- The first number from the first mark on is that of the one asked first, unless all have replies.
use Rattle.std.proofs.Common.{[], ◌∷◌, ◌≡◌, List, Option, None, Some, true, cond, subst, sym}
use Rattle.std.specs.List.{list_all}
use Rattle.read_model.specs.declared.asked.Asked.{Asked}
use Rattle.core_model.specs.ClockWork.{is_replied}
use Rattle.ask_tables.specs.RowMarks.{row_mark, by_time}
use Rattle.known_asks.specs.Times.{IsOldestOf}
use Rattle.known_asks.proofs.Firsts.{first_row, no_row, row_stands}
use Rattle.known_asks.proofs.RowFirsts.{oldest_is, none_oldest}
use Rattle.known_asks.proofs.asks.Asks.oldest_ask.Goals as goal

pub row_of-requires-clause-there : goal.row_of-requires-clause-there
row_of-requires-clause-there c =
    let all = rw c.new.ensures at c.from.ensures.all in
    let first = first_row (0 ∷ 0 ∷ 0 ∷ []) c.self.inside.tables.times c.from.result.now c.row-item.result all c.in-len1-up.len_at_least c.row-item.is in
    rw c.deref.ensures.value
    (row_stands (row_mark by_time) c.self.inside.rows.items c.self.inside.tables.times (0 ∷ 0 ∷ 0 ∷ []) c.row-item.result _ c.from.ensures.in_order c.self.invariant.marked.times first)

pub returns-in-len1-up : goal.returns-in-len1-up
returns-in-len1-up c =
    let all = rw c.new.ensures at c.from.ensures.all in
    let first = first_row (0 ∷ 0 ∷ 0 ∷ []) c.self.inside.tables.times c.from.result.now c.row-item.result all c.in-len1-up.len_at_least c.row-item.is in
    let oldest = oldest_is c.self.inside.rows.items c.self.inside.index c.self.inside.tables.times c.row-item.result _ c.row_of.result.now c.from.ensures.in_order c.self.invariant.fits.indexed c.self.invariant.marked.times first (rw c.deref.ensures.value at c.row_of.ensures) in
    subst (λ (o : Option Asked). IsOldestOf o c.args.self.now) (sym c.only_unanswered.ensures) (subst (λ (s : List Asked). IsOldestOf (cond (is_replied c.row_of.result.now.stage) None (Some c.row_of.result.now)) s) c.self.view_is oldest)

pub returns-in-empty : goal.returns-in-empty
returns-in-empty c =
    let all = rw c.new.ensures at c.from.ensures.all in
    let none = no_row (0 ∷ 0 ∷ 0 ∷ []) c.self.inside.tables.times c.from.result.now all c.in-empty.len_below in
    subst (λ (s : List Asked). list_all (λ a. is_replied a.stage) s ≡ true) c.self.view_is
    (none_oldest c.self.inside.rows.items c.self.inside.index c.self.inside.tables.times c.self.invariant.fits.indexed c.self.invariant.marked.times none)
