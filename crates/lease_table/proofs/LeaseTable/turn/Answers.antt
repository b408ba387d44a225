-- The entry at the key is changed, and where there is none nothing is.
use Rattle.std.proofs.Common.{◌≡◌, ◌∙◌, ℕ, length, true, sym, ap, subst, arith}
use Rattle.proxy_model.specs.declared.lease.Entry.{Entry}
use Rattle.proxy_model.specs.Keyed.{Keyed, at, changed_at}
use Rattle.proxy_model.specs.LeaseTable.{Table, change}
use Rattle.lease_table.specs.Dues.{IsKept}
use Rattle.lease_table.specs.Turns.{turned, is_quiet_at}
use Rattle.lease_table.proofs.Edits.{changed_table, unchanged_table}
use Rattle.lease_table.proofs.Quiet.{quiet_turn}
use Rattle.lease_table.proofs.LeaseTable.turn.Goals as goal

pub invariant_of-self : goal.invariant_of-self
invariant_of-self c =
    let es = c.self.inside.rows.rows in
    let k = c.args.key.now in
    let quiet : is_quiet_at c.args.turn (at es k) ≡ true = ap (λ (t : Table). is_quiet_at c.args.turn (at t.entries k)) c.self.view_is ∙ sym c.is_quiet.ensures ∙ c.if-is_quiet.true in
    let q = quiet_turn es c.self.inside.due c.self.inside.first k c.args.turn c.self.invariant.kept quiet in
    let len = q.len in
    let rows = ap length c.change_at.ensures.rows in
    let spare = c.change_at.ensures.spare in
    let most = c.self.invariant.most in
    record {
      kept = subst (λ (rs : Keyed Entry). IsKept rs c.self.inside.due c.self.inside.first) (sym c.change_at.ensures.rows) q.kept;
      most = omega (arith, len, rows, spare, most);
    }

pub returns-then-is_quiet : goal.returns-then-is_quiet
returns-then-is_quiet c =
    let f = turned c.args.turn in
    let changed : ◌≡◌ {A = Table} (record { entries = c.change_at.new.self.rows; spare = c.change_at.new.self.spare }) (record { entries = changed_at c.self.inside.rows.rows c.args.key.now f; spare = c.self.inside.rows.spare }) = λ j. record { entries = c.change_at.ensures.rows j; spare = c.change_at.ensures.spare j } in
    changed ∙ ap (λ (t : Table). change t c.args.key.now f) c.self.view_is

pub returns-in-Ok : goal.returns-in-Ok
returns-in-Ok c =
    c.turn_at.ensures ∙ changed_table c.args.self.now c.args.key.now (turned c.args.turn) c.in-Ok.place c.in-Ok.ensures.found

pub returns-in_default : goal.returns-in_default
returns-in_default c =
    unchanged_table c.args.self.now c.args.key.now (turned c.args.turn) c.in_default.field-0 c.len-count.ensures.in_order c.in_default.ensures.absent
