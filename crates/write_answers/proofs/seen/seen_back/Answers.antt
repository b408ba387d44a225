-- An entry that the write compared, and any other.
use Rattle.std.proofs.Common.{sym, ◌∙◌, ap}
use Rattle.std.specs.Option.{option_map}
use Rattle.proxy_model.specs.LeaseTable.{unwritten}
use Rattle.write_answers.specs.Seen.{what_of}
use Rattle.write_answers.proofs.Views.{owned_back, other_back}
use Rattle.write_answers.proofs.seen.seen_back.Goals as goal

pub returns-then-owns_at : goal.returns-then-owns_at
returns-then-owns_at c =
    c.unwritten.ensures ∙ ap (λ o. what_of (option_map unwritten o)) c.find.ensures ∙ owned_back c.args.write.now c.args.table.now.entries c.args.key.now (sym c.owns_at.ensures ∙ c.if-owns_at.true)

pub returns-else-owns_at : goal.returns-else-owns_at
returns-else-owns_at c =
    c.seen_in.ensures ∙ ap what_of c.find-else-owns_at.ensures ∙ other_back c.args.write.now c.args.table.now.entries c.args.key.now (sym c.owns_at.ensures ∙ c.if-owns_at.false)
