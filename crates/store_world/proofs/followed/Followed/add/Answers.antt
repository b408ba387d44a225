-- What is noted stays true where a revision comes.
use Rattle.store_world.proofs.LookedLemmas.{all_added}
use Rattle.store_world.proofs.followed.Followed.add.Goals as goal

pub invariant_of-self-2 : goal.invariant_of-self-2
invariant_of-self-2 c = all_added c.self.inside.index c.add.new.self c.args.changes c.self.inside.looked.items c.in_ok-add.ensures.ok c.in_ok-add.ensures.compacted c.self.invariant
