-- The first mark tells whether one does.
use Rattle.std.proofs.Common.{◌≡◌, ℕ, List, true, not, sym, subst, ◌∙◌, ap}
use Rattle.read_model.specs.declared.asked.Asked.{Asked}
use Rattle.core_model.specs.ClockWork.{times_out}
use Rattle.known_asks.specs.Asks.{none_times_out}
use Rattle.known_asks.specs.Times.{is_late}
use Rattle.known_asks.proofs.Tickets.{asks}
use Rattle.known_asks.proofs.Firsts.{all_row, no_row_at_all}
use Rattle.known_asks.proofs.RowFirsts.{oldest_is, none_oldest, all_from, first_time}
use Rattle.known_asks.proofs.Late.{late_mark, first_tells, none_is_late_then}
use Rattle.known_asks.proofs.asks.Asks.may_time_out.Goals as goal

pub returns-in-len1-up : goal.returns-in-len1-up
returns-in-len1-up c =
    let first = all_row c.self.inside.tables.times c.all.result.now c.row-item.result c.all.ensures.all c.in-len1-up.len_at_least c.row-item.is in
    let from = all_from c.self.inside.rows.items c.self.inside.tables.times c.row-item.result _ c.all.ensures.in_order c.self.invariant.marked.times first in
    let its = first_time c.self.inside.rows.items c.self.inside.tables.times c.row-item.result _ c.all.ensures.in_order c.self.invariant.marked.times first in
    let oldest = oldest_is c.self.inside.rows.items c.self.inside.index c.self.inside.tables.times c.row-item.result _ its.0 c.all.ensures.in_order c.self.invariant.fits.indexed c.self.invariant.marked.times from its.1 in
    c.is_late.ensures ∙ ap (λ (k : List ℕ). is_late k c.args.now) (sym its.2) ∙ late_mark c.args.now its.0 c.row-item.result.1
    ∙ subst (λ (s : List Asked). times_out c.args.now its.0 ≡ not (none_times_out c.args.now s)) c.self.view_is (first_tells c.args.now its.0 (asks c.self.inside.rows.items) oldest)

pub returns-in-empty : goal.returns-in-empty
returns-in-empty c =
    let none = none_oldest c.self.inside.rows.items c.self.inside.index c.self.inside.tables.times c.self.invariant.fits.indexed c.self.invariant.marked.times (no_row_at_all c.self.inside.tables.times c.all.result.now c.all.ensures.all c.in-empty.len_below) in
    sym (ap not (subst (λ (s : List Asked). none_times_out c.args.now s ≡ true) c.self.view_is (none_is_late_then c.args.now (asks c.self.inside.rows.items) none)))
