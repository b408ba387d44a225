use Rattle.std.proofs.Common.{ℕ, List, length, sym, ◌∙◌, ap}
use Rattle.store_index.proofs.PartLemmas.{length-parts}
use Rattle.store_index.proofs.packed_keys.PackedKeys.len.Goals as goal

pub returns : goal.returns
returns c =
    c.len.ensures ∙ sym (length-parts c.self.inside.ends.0 c.self.inside.ends.1 c.self.inside.bytes.items) ∙ ap (λ (ks : List (List ℕ)). length ks) c.self.view_is
