-- The entries of an owner's single keys, and of another write none.
use Rattle.std.proofs.Common.{List, sym, ◌∙◌, ap}
use Rattle.proxy_model.specs.declared.ownership.Owned.{Owned}
use Rattle.proxy_model.specs.Guarded.{create_or}
use Rattle.revoke_calls.specs.Jobs.{owned_over}
use Rattle.revoke_calls.proofs.Compared.{owner_compares, none_compared}
use Rattle.revoke_calls.proofs.ProperWrite.{owner-by_keys}
use Rattle.revoke_calls.proofs.jobs.owned_of.Goals as goal

pub returns-in_ok-owned_over : goal.returns-in_ok-owned_over
returns-in_ok-owned_over c = λ k.
    let w = c.args.write.now in
    let es = c.args.table.now.entries in
    let o = sym c.is_owner.ensures ∙ c.if-is_owner.true in
    ap (λ (os : List Owned). create_or 0 os k) (c.in_ok-owned_over.ensures ∙ ap (λ rs. owned_over es rs) c.as_slice.ensures) ∙ owner_compares es w k o (owner-by_keys w c.requires o)

pub returns-else-is_owner : goal.returns-else-is_owner
returns-else-is_owner c = λ k. ap (λ (os : List Owned). create_or 0 os k) c.new.ensures.items ∙ none_compared c.args.table.now.entries c.args.write.now k (sym c.is_owner.ensures ∙ c.if-is_owner.false)
