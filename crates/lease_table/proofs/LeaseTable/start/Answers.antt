-- The range begins at its own key, or at the first of all.
use Rattle.std.proofs.Common.{◌≡◌, ◌&&◌, true, false, cond, List, ℕ, [], sym, ap, subst, ◌∙◌}
use Rattle.etcd_types.specs.Keys.{is_zero}
use Rattle.lease_table.specs.Starts.{IsStart}
use Rattle.lease_table.proofs.Starts.{start-all, start-place, start-gap}
use Rattle.lease_table.proofs.LeaseTable.start.Goals as goal

pub returns-then-is_all : goal.returns-then-is_all
returns-then-is_all c =
    let r = c.args.range.now in
    let all : is_zero r.end && is_zero r.key ≡ true = sym c.is_all.ensures ∙ c.if-is_all.true in
    subst (λ (k : List ℕ). IsStart k c.args.self.now.entries 0) (sym (ap (λ b. cond b [] r.key) all)) (start-all c.args.self.now.entries)

pub returns-in-Ok : goal.returns-in-Ok
returns-in-Ok c =
    let r = c.args.range.now in
    let not_all : is_zero r.end && is_zero r.key ≡ false = sym c.is_all.ensures ∙ c.if-is_all.false in
    subst (λ (k : List ℕ). IsStart k c.args.self.now.entries c.in-Ok.place) (sym (ap (λ b. cond b [] r.key) not_all)) (start-place c.args.self.now.entries r.key c.in-Ok.place c.in-Ok.ensures.found)

pub returns-in-Ok-2 : goal.returns-in-Ok-2
returns-in-Ok-2 c =
    let r = c.args.range.now in
    let not_all : is_zero r.end && is_zero r.key ≡ false = sym c.is_all.ensures ∙ c.if-is_all.false in
    subst (λ (k : List ℕ). IsStart k c.args.self.now.entries c.in-Ok.place) (sym (ap (λ b. cond b [] r.key) not_all)) (start-gap c.args.self.now.entries r.key c.in-Ok.place c.in-Ok.ensures.absent)
