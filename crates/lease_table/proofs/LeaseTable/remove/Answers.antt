-- The row at the key's place is taken out, and where there is none all stays.
use Rattle.std.proofs.Common.{◌≡◌, ◌<◌, None, length, sym, ap, subst, ◌∙◌, arith}
use Rattle.std.proofs.lemmas.List.Edits.{length-remove}
use Rattle.proxy_model.specs.declared.lease.Entry.{Entry}
use Rattle.proxy_model.specs.Keyed.{Keyed, with_at}
use Rattle.proxy_model.specs.LeaseTable.{Table, room}
use Rattle.keyed_rows.specs.Places.{IsPlace, IsGap}
use Rattle.lease_table.specs.Dues.{IsKept, one_if, due_count, first_of_removed}
use Rattle.lease_table.proofs.Counting.{counted_one, count-remove, kept-removed}
use Rattle.lease_table.proofs.Edits.{in_order-removed, removed, none_removed}
use Rattle.lease_table.proofs.LeaseTable.remove.Goals as goal

pub count_changed-self-inside-requires-clause-counted : goal.count_changed-self-inside-requires-clause-counted
count_changed-self-inside-requires-clause-counted c =
    let es = c.self.inside.rows.rows in
    let i = c.in-Ok.place in
    let l = subst (λ (t : Table). i < length t.entries) (sym c.self.view_is) c.in-Ok.ensures.in_range in
    let one = counted_one es i c.remove-row.result l c.remove-row.ensures.row in
    let was = ap one_if c.is_rescind_due-was.ensures in
    let count = c.self.invariant.kept.counted in omega (arith, one, was, count)

pub first_of_removed-self-inside-requires-clause-counted : goal.first_of_removed-self-inside-requires-clause-counted
first_of_removed-self-inside-requires-clause-counted c =
    let es = c.self.inside.rows.rows in
    let i = c.in-Ok.place in
    let l = subst (λ (t : Table). i < length t.entries) (sym c.self.view_is) c.in-Ok.ensures.in_range in
    let counts = count-remove es i c.remove-row.result l c.remove-row.ensures.row in
    let was = ap one_if c.is_rescind_due-was.ensures in
    let count = c.self.invariant.kept.counted in
    let after = c.count_changed-self-inside.ensures in
    let same = ap due_count c.remove-row.ensures.rows in omega (arith, counts, was, count, after, same)

pub first_of_removed-self-inside-requires-clause-in_range : goal.first_of_removed-self-inside-requires-clause-in_range
first_of_removed-self-inside-requires-clause-in_range c =
    let es = c.self.inside.rows.rows in
    let i = c.in-Ok.place in
    let l = subst (λ (t : Table). i < length t.entries) (sym c.self.view_is) c.in-Ok.ensures.in_range in
    let shorter = length-remove es i l in
    let same = ap length c.remove-row.ensures.rows in omega (arith, l, shorter, same)

pub invariant_of-self : goal.invariant_of-self
invariant_of-self c =
    let es = c.self.inside.rows.rows in
    let i = c.in-Ok.place in
    let l = subst (λ (t : Table). i < length t.entries) (sym c.self.view_is) c.in-Ok.ensures.in_range in
    let place = subst (λ (t : Table). IsPlace t.entries c.args.key.now i) (sym c.self.view_is) c.in-Ok.ensures.found in
    let was = ap one_if c.is_rescind_due-was.ensures in
    let after = c.count_changed-self-inside.ensures in
    let first = c.first_of_removed-self-inside.ensures ∙ ap (λ (rows : Keyed Entry). first_of_removed rows c.self.inside.first i) c.remove-row.ensures.rows in
    let shorter = length-remove es i l in
    let same = ap length c.remove-row.ensures.rows in
    let more = c.remove-row.ensures.spare in
    let most = c.self.invariant.most in
    record {
      kept = subst (λ (rs : Keyed Entry). IsKept rs c.count_changed-self-inside.result c.first_of_removed-self-inside.result) (sym c.remove-row.ensures.rows) (kept-removed es c.self.inside.due c.self.inside.first i c.remove-row.result c.count_changed-self-inside.result c.first_of_removed-self-inside.result c.self.invariant.kept l c.remove-row.ensures.row (in_order-removed es c.args.key.now i c.self.invariant.kept.in_order place) (omega (arith, was, after)) first);
      most = omega (arith, shorter, same, more, most);
    }

pub returns-in-Ok-clause-entries : goal.returns-in-Ok-clause-entries
returns-in-Ok-clause-entries c =
    let place = subst (λ (t : Table). IsPlace t.entries c.args.key.now c.in-Ok.place) (sym c.self.view_is) c.in-Ok.ensures.found in
    c.remove-row.ensures.rows ∙ removed _ _ _ c.self.invariant.kept.in_order place ∙ ap (λ (t : Table). with_at t.entries c.args.key.now None) c.self.view_is

pub returns-in-Ok-clause-room : goal.returns-in-Ok-clause-room
returns-in-Ok-clause-room c =
    let es = c.self.inside.rows.rows in
    let i = c.in-Ok.place in
    let l = subst (λ (t : Table). i < length t.entries) (sym c.self.view_is) c.in-Ok.ensures.in_range in
    let before = ap room c.self.view_is in
    let shorter = length-remove es i l in
    let same = ap length c.remove-row.ensures.rows in
    let more = c.remove-row.ensures.spare in omega (arith, before, shorter, same, more)

pub returns-in_default-clause-entries : goal.returns-in_default-clause-entries
returns-in_default-clause-entries c =
    let gap = subst (λ (t : Table). IsGap t.entries c.args.key.now c.in_default.field-0) (sym c.self.view_is) c.in_default.ensures.absent in
    subst (λ (t : Table). t.entries ≡ with_at t.entries c.args.key.now None) c.self.view_is (none_removed _ _ _ c.self.invariant.kept.in_order gap)
