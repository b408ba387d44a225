-- The entries of the write are held again.
use Rattle.std.proofs.Common.{sym, ◌∙◌, ap}
use Rattle.std.specs.Option.{option_copied}
use Rattle.proxy_model.specs.Keyed.{at}
use Rattle.revoke_calls.specs.declared.entries.Fate.TheVariants.{Back}
use Rattle.revoke_core.specs.Steps.{settled_if}
use Rattle.write_answers.specs.Seen.{what_of}
use Rattle.write_answers.proofs.Views.{back_is}
use Rattle.write_answers.proofs.seen.seen_refused.Goals as goal

pub returns-in-Some : goal.returns-in-Some
returns-in-Some c =
    let es = c.args.table.now.entries in
    let k = c.args.key.now in
    c.seen_back.ensures ∙ back_is c.in-Some.write.now es k ∙ ap (λ o. what_of (at (settled_if Back (option_copied o) es) k)) (sym c.in-Some.is)
