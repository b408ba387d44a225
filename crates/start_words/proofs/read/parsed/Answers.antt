use Rattle.std.proofs.Common.{◌≡◌, ◌∙◌, ap, subst, map, []}
use Rattle.std.proofs.lemmas.Result.{err_from_is_err_and}
use Rattle.clap.specs.Faults.{fault_of, is_simple_and_free}
use Rattle.clap.specs.Kinds.{HasKind}
use Rattle.clap.specs.Matches.{found_of}
use Rattle.clap.specs.Simple.{App, is_simple, matches_of}
use Rattle.clap.specs.Walk.{rows_of}
use Rattle.start_words.proofs.Simple.{is_free_start, is_simple_start}
use Rattle.start_words.proofs.read.parsed.Goals as goal

pub returns-clause-taken : goal.returns-clause-taken
returns-clause-taken g c =
    let command_is = c.in_ok-command.ensures in
    subst (λ (a : App). fault_of a (map g.S.AsStr.text c.args.words.now) ≡ []) command_is
    (c.in_ok-try_get_matches_from.ensures.kinds (ap is_simple_and_free command_is ∙ is_free_start))

pub returns-clause-rows : goal.returns-clause-rows
returns-clause-rows g c =
    let command_is = c.in_ok-command.ensures in
    subst (λ (a : App). rows_of (found_of c.in_ok-try_get_matches_from.field-0) ≡ matches_of a (map g.S.AsStr.text c.args.words.now)) command_is
    (c.in_ok-try_get_matches_from.ensures.matches (ap is_simple command_is ∙ is_simple_start)).0

pub returns-in_err-try_get_matches_from-clause-fault : goal.returns-in_err-try_get_matches_from-clause-fault
returns-in_err-try_get_matches_from-clause-fault g c =
    let command_is = c.in_ok-command.ensures in
    let p = err_from_is_err_and c.from_residual-in_err-try_get_matches_from.result c.from_residual-in_err-try_get_matches_from.ensures.1 in
    rw (p.1, p.2)
    (subst (λ (a : App). HasKind (fault_of a (map g.S.AsStr.text c.args.words.now)) c.in_err-try_get_matches_from.field-0.0) command_is
    (c.in_err-try_get_matches_from.ensures.kinds (ap is_simple_and_free command_is ∙ is_free_start)))
