-- No write's call has this number, or the first that has it; it is proper.
use Rattle.std.proofs.Common.{Option, Some, sym, ◌∙◌, ap, subst}
use Rattle.etcd_types.specs.declared.answer.Answer.TheVariants as answer
use Rattle.lease_txn.specs.Results.{Reads}
use Rattle.wait_model.specs.Fits.{is_proper}
use Rattle.wait_model.specs.Writes.{first_by, sends}
use Rattle.revoke_core.specs.declared.answers.ReadAnswer.{ReadAnswer}
use Rattle.revoke_core.specs.Readings.{write_read}
use Rattle.revoke_core.proofs.Proper.{all-get}
use Rattle.revoke_core.proofs.Searches.{found_first}
use Rattle.revoke_core.proofs.AnswerParts.{first_is}
use Rattle.revoke_core.proofs.answers.read_own.Goals as goal

pub returns-in-None : goal.returns-in-None
returns-in-None c = ap (λ o. write_read c.args.prefix.now c.args.answer c.args.table.now.entries o) c.in-None.ensures.none

pub read_done-requires : goal.read_done-requires
read_done-requires c = rw (← c.index-writes-at.is) at (all-get is_proper c.args.writes.now c.in-Some.at c.index-writes-at.result c.requires c.in-Some.ensures.in_range)

pub returns-in-Done : goal.returns-in-Done
returns-in-Done c =
    let found = found_first (sends c.args.call) c.args.writes.now c.in-Some.at c.index-writes-at.result c.in-Some.ensures.found ∙ ap Some (sym c.index-writes-at.is) in
    let all = ap (λ a. write_read c.args.prefix.now a c.args.table.now.entries (first_by (sends c.args.call) c.args.writes.now)) c.in-Done.is ∙ ap (λ o. write_read c.args.prefix.now (answer.Done c.in-Done.reply) c.args.table.now.entries o) found in
    subst (λ (x : Option ReadAnswer). Reads c.read_done.result x) (sym all) c.read_done.ensures

pub returns-in-Refused : goal.returns-in-Refused
returns-in-Refused c =
    let first = first_is (sends c.args.call) c.args.writes.now c.in-Some.at c.in-Some.ensures.found in
    ap (λ a. write_read c.args.prefix.now a c.args.table.now.entries (first_by (sends c.args.call) c.args.writes.now)) c.in-Refused.is ∙ ap (λ o. write_read c.args.prefix.now (answer.Refused c.in-Refused.refusal) c.args.table.now.entries o) first.1
