use Rattle.std.proofs.Common.{[], ◌∷◌, ◌++◌, refl, ◌∙◌}
use Rattle.store_index.proofs.PartLemmas.{piece_pushed, parts_pushed}
use Rattle.store_index.proofs.packed_keys.PackedKeys.push.Goals as goal

pub invariant_of-self-in-Ok : goal.invariant_of-self-in-Ok
invariant_of-self-in-Ok c =
    piece_pushed c.self.inside.ends c.push.new.self _ c.self.inside.bytes.items c.as_slice-key.result.now c.extend_from_slice.new.self.items c.self.invariant c.in-Ok.ensures.ok
    c.in_ok-extend_from_slice.ensures.items refl

pub returns-in-Ok-clause-ok : goal.returns-in-Ok-clause-ok
returns-in-Ok-clause-ok c =
    parts_pushed c.self.inside.ends c.push.new.self _ c.self.inside.bytes.items c.as_slice-key.result.now c.extend_from_slice.new.self.items c.self.invariant c.in-Ok.ensures.ok
    c.in_ok-extend_from_slice.ensures.items refl
    ∙ (λ i. c.self.view_is i ++ c.as_slice-key.ensures i ∷ [])
