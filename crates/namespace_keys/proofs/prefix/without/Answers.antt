use Rattle.std.proofs.lemmas.Bool.Decides.{Decides-eqb}
use Rattle.std.proofs.lemmas.Slice.Eq.{strip_prefix_is}
use Rattle.namespace_keys.proofs.Keys.{stripped}
use Rattle.namespace_keys.proofs.prefix.without.Goals as goal

pub returns : goal.returns
returns c =
    stripped c.args.prefix.now c.args.key.now c.as_slice-2.result.now c.as_slice.result.now c.strip_prefix.result c.as_slice-2.ensures c.as_slice.ensures
    (strip_prefix_is Decides-eqb c.as_slice.result.now c.as_slice-2.result.now c.strip_prefix.result c.strip_prefix.ensures.cases)
