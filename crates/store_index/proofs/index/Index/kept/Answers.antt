use Rattle.std.proofs.Common.{◌∙◌, ap, min}
use Rattle.store_index.proofs.CountLemmas.{entries_counted}
use Rattle.store_index.proofs.index.Index.kept.Goals as goal

pub returns : goal.returns
returns c = λ h holds. c.count.ensures.count ∙ ap (λ n. min n 0xffff_ffff_ffff_ffff) (entries_counted _ _ _ _ h holds c.count.ensures.ordered)
