-- A key has an entry then where it has one now that isn't gone.
use Rattle.std.proofs.Common.{◌≡◌, not, ◌&&◌, is_some, Option, None, Some, refl, sym, ◌∙◌, ap, Bor}
use Rattle.std.specs.Option.{option_copied}
use Rattle.wait_model.specs.GuardedAnswers.{is_gone}
use Rattle.revoke_calls.proofs.TurnedKeys.{some-kept}
use Rattle.revoke_calls.proofs.owners.stays.Goals as goal

some-copied : {A : Type 0} (o : Option (Bor A)) → is_some (option_copied o) ≡ is_some o
some-copied None = refl
some-copied (Some x) = refl

pub returns-then-is_some : goal.returns-then-is_some
returns-then-is_some c =
    let w = c.args.write.now in
    let os = c.args.owners.now in
    let es = c.args.table.now.entries in
    let k = c.args.key.now in
    let has = ap is_some (sym c.find.ensures) ∙ some-copied c.find.result ∙ sym c.is_some.ensures ∙ c.if-is_some.true in
    ap not c.is_gone.ensures ∙ ap (λ b. b && not (is_gone w es os k)) (sym has) ∙ some-kept w os es k

pub returns-else-is_some : goal.returns-else-is_some
returns-else-is_some c =
    let w = c.args.write.now in
    let os = c.args.owners.now in
    let es = c.args.table.now.entries in
    let k = c.args.key.now in
    let has = ap is_some (sym c.find.ensures) ∙ some-copied c.find.result ∙ sym c.is_some.ensures ∙ c.if-is_some.false in
    c.if-is_some.false ∙ ap (λ b. b && not (is_gone w es os k)) (sym has) ∙ some-kept w os es k
