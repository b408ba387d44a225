-- The entry of this create revision is gone and its key rests; another one stays.
use Rattle.std.proofs.Common.{◌+◌, Some, None, cond, sym, ◌∙◌, ap}
use Rattle.proxy_model.specs.Keyed.{with_at}
use Rattle.proxy_model.specs.Limits.{capped}
use Rattle.wait_model.specs.Leaving.{rest}
use Rattle.wait_model.specs.Phases.{is_of}
use Rattle.revoke_core.proofs.takes.end_entry.Goals as goal

pub returns-clause-quiet : goal.returns-clause-quiet
returns-clause-quiet c =
    let es = c.args.table.now.entries in
    let k = c.args.key in
    let own = ap (is_of c.args.create) (sym c.find.ensures) ∙ sym c.is_of.ensures ∙ c.if-not-is_of.false in
    c.in_ok-put.ensures.ok ∙ (λ i. with_at c.args.quiet.now (c.in_ok-copy.ensures i) (Some (c.saturating_add.ensures i))) ∙ sym (ap (λ b. cond b (with_at c.args.quiet.now k (Some (capped (c.args.now + rest)))) c.args.quiet.now) own)

pub returns-clause-entries : goal.returns-clause-entries
returns-clause-entries c =
    let es = c.args.table.now.entries in
    let k = c.args.key in
    let own = ap (is_of c.args.create) (sym c.find.ensures) ∙ sym c.is_of.ensures ∙ c.if-not-is_of.false in
    c.remove.ensures.entries ∙ sym (ap (λ b. cond b (with_at es k None) es) own)

pub returns-then-not-is_of-clause-quiet : goal.returns-then-not-is_of-clause-quiet
returns-then-not-is_of-clause-quiet c =
    let es = c.args.table.now.entries in
    let other = ap (is_of c.args.create) (sym c.find.ensures) ∙ sym c.is_of.ensures ∙ c.if-not-is_of.true in
    sym (ap (λ b. cond b (with_at c.args.quiet.now c.args.key (Some (capped (c.args.now + rest)))) c.args.quiet.now) other)

pub returns-then-not-is_of-clause-entries : goal.returns-then-not-is_of-clause-entries
returns-then-not-is_of-clause-entries c =
    let es = c.args.table.now.entries in
    let other = ap (is_of c.args.create) (sym c.find.ensures) ∙ sym c.is_of.ensures ∙ c.if-not-is_of.true in
    sym (ap (λ b. cond b (with_at es c.args.key None) es) other)
