-- A world of 1 to 9 members keeps the rules.
use Rattle.std.proofs.Common.{◌≡◌, [], None, refl, sym, subst, arith}
use Rattle.script_text.specs.declared.item.Item.{Item}
use Rattle.script_text.specs.declared.item.Item.TheVariants as item
use Rattle.world_model.specs.Answers.{unseen}
use Rattle.audit_model.specs.Broken.{broken}
use Rattle.audit_text.proofs.Rules.{first_kept, makes_as}
use Rattle.audit_text.proofs.audit.first.Goals as goal

pub returns-in_ok-new-in-World-clause-made : goal.returns-in_ok-new-in-World-clause-made
returns-in_ok-new-in-World-clause-made c =
    let w = c.in-World in (
      subst (λ (i : Item). broken [] i ≡ None) (sym w.is) (first_kept w.members w.namespace w.leasing c.if-members-eq0.false (omega (arith, c.if-members-gt9.false))),
      record {
        some = refl;
        seen = makes_as c.in_ok-new-in-World.field-0 unseen c.args.item.now (item.World w.members w.namespace w.leasing) w.is (c.in_ok-new-in-World.ensures w.namespace w.leasing);
      },
    )
