-- The key has no entry, so there is a gap for it, and a row is added there.
use Rattle.std.proofs.Common.{◌≡◌, ◌≤◌, List, ℕ, length, sym, ap, subst, ◌∙◌, arith}
use Rattle.std.specs.List.{insert}
use Rattle.std.proofs.lemmas.List.Edits.{length-insert}
use Rattle.proxy_model.specs.declared.lease.Entry.{Entry}
use Rattle.proxy_model.specs.Keyed.{Keyed}
use Rattle.proxy_model.specs.LeaseTable.{Table, hold}
use Rattle.keyed_rows.specs.Places.{IsGap}
use Rattle.lease_table.specs.Dues.{IsKept, one_if, first_of_added}
use Rattle.lease_table.proofs.Counting.{one_at_most, at_most_all, within, kept-added}
use Rattle.lease_table.proofs.Edits.{not_absent, in_order-held, held_table}
use Rattle.lease_table.proofs.LeaseTable.hold.Goals as goal

pub unreachable-requires : goal.unreachable-requires
unreachable-requires c = not_absent _ _ _ c.in-Ok.ensures.found c.requires.absent

pub count_changed-self-inside-requires-clause-room : goal.count_changed-self-inside-requires-clause-room
count_changed-self-inside-requires-clause-room c =
    let all = at_most_all c.self.inside.rows.rows in
    let one = one_at_most c.is_rescind_due-is.result in
    let count = c.self.invariant.kept.counted in
    let spare = ap (λ (t : Table). t.spare) c.self.view_is in
    let room = c.requires.room in
    let most = c.self.invariant.most in omega arith

pub first_of_added-self-inside-requires : goal.first_of_added-self-inside-requires
first_of_added-self-inside-requires c =
    let all = within c.self.inside.rows.rows in
    let found = c.self.invariant.kept.found in
    let spare = ap (λ (t : Table). t.spare) c.self.view_is in
    let room = c.requires.room in
    let most = c.self.invariant.most in omega arith

pub invariant_of-self : goal.invariant_of-self
invariant_of-self c =
    let es = c.self.inside.rows.rows in
    let i = c.in-Err.gap in
    let row : List ℕ × Entry = (c.args.key, c.args.entry) in
    let gap = subst (λ (t : Table). IsGap t.entries c.args.key i) (sym c.self.view_is) c.in-Err.ensures.absent in
    let l = subst (λ (t : Table). i ≤ length t.entries) (sym c.self.view_is) c.in-Err.ensures.up_to_end in
    let is = ap one_if c.is_rescind_due-is.ensures in
    let after = c.count_changed-self-inside.ensures in
    let first = c.first_of_added-self-inside.ensures ∙ ap (first_of_added c.self.inside.first i) c.is_rescind_due-is.ensures in
    let longer = ap length c.insert.ensures.rows ∙ length-insert es i row l in
    let fewer = c.insert.ensures.spare in
    let most = c.self.invariant.most in
    record {
      kept = subst (λ (rs : Keyed Entry). IsKept rs c.count_changed-self-inside.result c.first_of_added-self-inside.result) (sym c.insert.ensures.rows) (kept-added es c.self.inside.due c.self.inside.first i row c.count_changed-self-inside.result c.first_of_added-self-inside.result c.self.invariant.kept l (in_order-held es c.args.key c.args.entry i c.self.invariant.kept.in_order gap) (omega (arith, is, after)) first);
      most = omega (arith, longer, fewer, most);
    }

pub returns : goal.returns
returns c =
    let es = c.self.inside.rows.rows in
    let i = c.in-Err.gap in
    let gap = subst (λ (t : Table). IsGap t.entries c.args.key i) (sym c.self.view_is) c.in-Err.ensures.absent in
    let fewer = c.insert.ensures.spare in
    let spare = c.insert.new.self.spare in
    let as_added : ◌≡◌ {A = Table} (record { entries = c.insert.new.self.rows; spare = spare }) (record { entries = insert es i (c.args.key, c.args.entry); spare = spare }) = λ j. record { entries = c.insert.ensures.rows j; spare = spare } in
    let new = held_table (record { entries = es; spare = c.self.inside.rows.spare }) c.args.key c.args.entry i spare gap (omega (arith, fewer)) in
    as_added ∙ new ∙ ap (λ t. hold t c.args.key c.args.entry) c.self.view_is
