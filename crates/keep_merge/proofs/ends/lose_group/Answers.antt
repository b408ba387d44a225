-- Both parts of the group's end.
use Rattle.std.proofs.Common.{List, map, ap, ◌∙◌}
use Rattle.read_model.specs.declared.asked.Asked.{Asked}
use Rattle.read_model.specs.declared.asked.Verdict.TheVariants as verdict
use Rattle.keep_merge.specs.Ends.{group_next}
use Rattle.keep_merge.proofs.Ended.{all_ended, over_stays, next-Settles}
use Rattle.keep_merge.proofs.ends.lose_group.Goals as goal

pub change_group-requires : goal.change_group-requires
change_group-requires c = λ a e. over_stays c.args.call verdict.Lost a e

pub change_next_group-requires : goal.change_next_group-requires
change_next_group-requires c = next-Settles c.args.step c.args.lease

pub returns : goal.returns
returns c =
    c.change_next_group.ensures ∙ ap (λ (xs : List Asked). map (group_next c.args.step c.args.lease) xs) c.change_group.ensures ∙ all_ended c.args.step c.args.call c.args.lease verdict.Lost c.args.asks.now
