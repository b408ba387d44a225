-- The piece that was copied is the front of what is left.
use Rattle.std.proofs.Common.{◌≡◌, arith, length, length-take, length-drop, ℕ, List, take, drop, ◌-◌, ◌∙◌, ap, sym, min}
use Rattle.outside.specs.Memory.{Supply}
use Rattle.outside.proofs.MemoryReads.{gave_front, gave_nothing}
use Rattle.outside.proofs.memory_source.MemSourceSource.read.Goals as goal

pub returns-clause-bytes : goal.returns-clause-bytes
returns-clause-bytes c =
    let s = c.self.inside in
    let bytes = s.bytes.items in
    let filled = c.copy_from_slice.new.self in
    let count = c.min-count.result in
    let is = c.deref-2.ensures.value in
    let size : length filled ≡ count =
    c.copy_from_slice.ensures.len ∙ omega (arith, length-take {A = ℕ}, length-drop {A = ℕ}, c.min.ensures, c.min-count.ensures) in (
      sym (ap (λ (v : Supply). v.left) c.self.view_is)
          ∙ gave_front bytes c.args.room.now filled s.at count (c.copy_from_slice.ensures.after ∙ ap (λ (bs : List ℕ). take count (take (length bs - s.at) (drop s.at bs))) is) (omega (arith, length-take {A = ℕ}, length-drop {A = ℕ}, ap length is, c.self.invariant.0)),
      gave_nothing bytes filled c.args.room.now s.at count c.min.result s.piece (c.min.ensures ∙ ap (λ (bs : List ℕ). min (length (take (length bs - s.at) (drop s.at bs))) (length c.args.room.now)) is) c.min-count.ensures c.self.invariant.1 size,
    )
