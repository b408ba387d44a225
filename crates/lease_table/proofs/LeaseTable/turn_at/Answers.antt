-- One entry changes in its place, and what is known of due rescinds with it.
use Rattle.std.proofs.Common.{◌≡◌, ◌<◌, ℕ, List, length, set, true, sym, ap, subst, ◌∙◌, arith}
use Rattle.proxy_model.specs.declared.lease.Entry.{Entry}
use Rattle.proxy_model.specs.Keyed.{Keyed, is_in_order}
use Rattle.proxy_model.specs.LeaseTable.{Table}
use Rattle.wait_model.specs.Phases.{is_rescind_due}
use Rattle.slot_rows.specs.Roomy.{changed_in}
use Rattle.slot_rows.proofs.Changes.{length-changed, in_order-changed_in}
use Rattle.lease_table.specs.Dues.{IsKept, one_if, due_count, first_of_changed}
use Rattle.lease_table.specs.Turns.{turned}
use Rattle.lease_table.proofs.Counting.{one_at_most, at_most_all, counted_one, count-set, kept-changed}
use Rattle.lease_table.proofs.Edits.{IsTurned, turned_rows, turned_row}
use Rattle.lease_table.proofs.LeaseTable.turn_at.Goals as goal

pub count_changed-self-inside-requires-clause-counted : goal.count_changed-self-inside-requires-clause-counted
count_changed-self-inside-requires-clause-counted c =
    let es = c.self.inside.rows.rows in
    let l = subst (λ (t : Table). c.args.place < length t.entries) (sym c.self.view_is) c.requires in
    let one = counted_one es c.args.place c.row.result.now l c.row.ensures in
    let was = ap one_if c.is_rescind_due-was.ensures in
    let count = c.self.invariant.kept.counted in omega (arith, one, was, count)

pub count_changed-self-inside-requires-clause-room : goal.count_changed-self-inside-requires-clause-room
count_changed-self-inside-requires-clause-room c =
    let es = c.self.inside.rows.rows in
    let l = subst (λ (t : Table). c.args.place < length t.entries) (sym c.self.view_is) c.requires in
    let counts = counted_one es c.args.place c.row.result.now l c.row.ensures in
    let all = at_most_all es in
    let one = one_at_most c.is_rescind_due-is.result in
    let count = c.self.invariant.kept.counted in
    let most = c.self.invariant.most in omega arith

pub row-requires-2 : goal.row-requires-2
row-requires-2 c =
    let l = subst (λ (t : Table). c.args.place < length t.entries) (sym c.self.view_is) c.requires in
    let lengths = ap length c.change.ensures.rows ∙ length-changed c.self.inside.rows.rows c.args.place (turned c.args.turn) in omega (arith, l, lengths)

pub first_of_changed-self-inside-requires-clause-in_range : goal.first_of_changed-self-inside-requires-clause-in_range
first_of_changed-self-inside-requires-clause-in_range c =
    let l = subst (λ (t : Table). c.args.place < length t.entries) (sym c.self.view_is) c.requires in
    let lengths = ap length c.change.ensures.rows ∙ length-changed c.self.inside.rows.rows c.args.place (turned c.args.turn) in omega (arith, l, lengths)

pub first_of_changed-self-inside-requires-clause-counted : goal.first_of_changed-self-inside-requires-clause-counted
first_of_changed-self-inside-requires-clause-counted c =
    let es = c.self.inside.rows.rows in
    let i = c.args.place in
    let f = turned c.args.turn in
    let old = c.row.result.now in
    let l = subst (λ (t : Table). i < length t.entries) (sym c.self.view_is) c.requires in
    let x : IsTurned es i f old c.change.new.self.rows c.row-2.result.now = record { within = l; old_is = c.row.ensures; after_is = c.change.ensures.rows; row_is = c.row-2.ensures } in
    let counts = count-set es i old (old.0, f old.1) l c.row.ensures in
    let was = ap one_if c.is_rescind_due-was.ensures in
    let is = ap one_if (c.is_rescind_due-is.ensures ∙ ap (λ (r : List ℕ × Entry). is_rescind_due r.1) (turned_row es i f old c.change.new.self.rows c.row-2.result.now x)) in
    let count = c.self.invariant.kept.counted in
    let after = c.count_changed-self-inside.ensures in
    let same = ap due_count (turned_rows es i f old c.change.new.self.rows c.row-2.result.now x) in omega (arith, counts, was, is, count, after, same)

pub invariant_of-self : goal.invariant_of-self
invariant_of-self c =
    let es = c.self.inside.rows.rows in
    let i = c.args.place in
    let f = turned c.args.turn in
    let old = c.row.result.now in
    let new : List ℕ × Entry = (old.0, f old.1) in
    let rows = c.change.new.self.rows in
    let l = subst (λ (t : Table). i < length t.entries) (sym c.self.view_is) c.requires in
    let x : IsTurned es i f old rows c.row-2.result.now = record { within = l; old_is = c.row.ensures; after_is = c.change.ensures.rows; row_is = c.row-2.ensures } in
    let same = turned_rows es i f old rows c.row-2.result.now x in
    let order : is_in_order (set es i new) ≡ true = ap is_in_order (sym same ∙ c.change.ensures.rows) ∙ in_order-changed_in es i f ∙ c.self.invariant.kept.in_order in
    let was = ap one_if c.is_rescind_due-was.ensures in
    let now = c.is_rescind_due-is.ensures ∙ ap (λ (r : List ℕ × Entry). is_rescind_due r.1) (turned_row es i f old rows c.row-2.result.now x) in
    let is = ap one_if now in
    let after = c.count_changed-self-inside.ensures in
    let first = c.first_of_changed-self-inside.ensures ∙ ap (λ (rs : Keyed Entry). first_of_changed rs c.self.inside.first i c.is_rescind_due-is.result) same ∙ ap (first_of_changed (set es i new) c.self.inside.first i) now in
    let kept = kept-changed es c.self.inside.due c.self.inside.first i old new c.count_changed-self-inside.result c.first_of_changed-self-inside.result c.self.invariant.kept l c.row.ensures order (omega (arith, was, is, after)) first in
    let lengths = ap length c.change.ensures.rows ∙ length-changed es i f in
    let spare = c.change.ensures.spare in
    let most = c.self.invariant.most in
    record {
      kept = subst (λ (rs : Keyed Entry). IsKept rs c.count_changed-self-inside.result c.first_of_changed-self-inside.result) (sym same) kept;
      most = omega (arith, lengths, spare, most);
    }

pub returns : goal.returns
returns c =
    let f = turned c.args.turn in
    let changed : ◌≡◌ {A = Table} (record { entries = c.change.new.self.rows; spare = c.change.new.self.spare }) (record { entries = changed_in c.self.inside.rows.rows c.args.place f; spare = c.self.inside.rows.spare }) = λ j. record { entries = c.change.ensures.rows j; spare = c.change.ensures.spare j } in
    changed ∙ ap (λ (t : Table). record t { entries = changed_in t.entries c.args.place f }) c.self.view_is
