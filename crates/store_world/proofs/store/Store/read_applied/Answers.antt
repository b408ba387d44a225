use Rattle.std.proofs.Common.{◌≡◌, ℕ, nat_lt, false, sym, ◌∙◌, ap, subst, arith}
use Rattle.std.proofs.lemmas.Bool.Decides.{nat_tests}
use Rattle.store_model.specs.History.{up_to_revision}
use Rattle.store_model.specs.Reads.{read}
use Rattle.store_index.specs.declared.index.Index.{Index}
use Rattle.store_index.specs.Index.{HoldsKept}
use Rattle.store_world.proofs.RunProofs.{applied_read}
use Rattle.store_world.proofs.store.Store.read_applied.Goals as goal

pub returns-in-Ok : goal.returns-in-Ok
returns-in-Ok c = λ h holds.
    let held : HoldsKept c.get-index.result.now h = subst (λ (i : Index). HoldsKept i h) (sym c.get-index.ensures) holds in
    let same : c.get-index.result.now.compacted ≡ c.args.self.now.index.compacted = ap (λ (i : Index). i.compacted) c.get-index.ensures in
    let late : nat_lt c.applied_by-applied.result c.args.self.now.index.compacted ≡ false = let e = c.if-applied-index.false in grind (arith, nat_tests) in
    applied_read c.args.self.now h c.args.member c.applied_by-applied.result c.args.ask.now c.in_ok-body.field-0 c.in-Ok.body c.header.result holds
    c.applied_by-applied.ensures late
    (c.in_ok-body.ensures h held ∙ ap (λ (n : ℕ). read (up_to_revision h c.applied_by-applied.result) c.applied_by-applied.result n c.args.ask.now) same)
    c.in-Ok.is c.header.ensures
