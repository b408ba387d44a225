-- Both parts of the group's end.
use Rattle.std.proofs.Common.{List, map, ap, ◌∙◌}
use Rattle.read_model.specs.declared.asked.Asked.{Asked}
use Rattle.read_model.specs.declared.asked.Verdict.TheVariants as verdict
use Rattle.keep_merge.specs.Ends.{group_next}
use Rattle.keep_merge.proofs.Ended.{all_ended, all_over, over_none, next-Settles}
use Rattle.keep_merge.proofs.ends.answer_group.Goals as goal

pub group_changes-requires : goal.group_changes-requires
group_changes-requires c = λ a e. over_none c.args.call (verdict.Said c.args.answer.now) a e

pub change_next_group-requires : goal.change_next_group-requires
change_next_group-requires c = next-Settles c.args.step c.args.lease

pub returns-clause-ok : goal.returns-clause-ok
returns-clause-ok c =
    c.change_next_group.ensures ∙ ap (λ (xs : List Asked). map (group_next c.args.step c.args.lease) xs) (c.set_stages.ensures ∙ c.in_ok-changes.ensures ∙ all_over c.args.call (verdict.Said c.args.answer.now) c.args.asks.now) ∙
    all_ended c.args.step c.args.call c.args.lease (verdict.Said c.args.answer.now) c.args.asks.now
