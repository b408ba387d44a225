-- Streams of which none is due: none is the first one, and a change that leaves the phases leaves it so.
use Rattle.std.proofs.Common.{◌≡◌, ℕ, Bool, true, false, cond, ◌&&◌, ◌==◌, List, [], ◌∷◌, Option, None, refl, ap, sym, subst, ◌∙◌}
use Rattle.etcd_types.proofs.Bools.{and_first, and_second}
use Rattle.watch_model.specs.declared.stream.StreamPhase.{StreamPhase}
use Rattle.watch_model.specs.declared.stream.StreamPhase.TheVariants as phase
use Rattle.watch_model.specs.State.{Stream}
use Rattle.watch_model.specs.Lookups.{is_begun, changed_stream, with_stream}
use Rattle.watch_model.specs.Due.{earlier, first_from, first_due}
use Rattle.watch_streams.specs.Idle.{rests, none_due, IsIdle}

passed : (o : Option Stream) (s : Stream) (p : StreamPhase) → is_begun p ≡ true → earlier o s p ≡ o
passed o s phase.Begun e = refl
passed o s (phase.Due since) e = absurd (cc)
passed o s (phase.Closing since) e = absurd (cc)

none_from : (o : Option Stream) (ss : List Stream) → none_due ss ≡ true → first_from o ss ≡ o
none_from o [] e = refl
none_from o (s ∷ ss) e =
    ap (λ (x : Option Stream). first_from x ss) (passed o s s.phase (and_first (rests s) (none_due ss) e)) ∙ none_from o ss (and_second (rests s) (none_due ss) e)

pub idle_first : (idle : Bool) (ss : List Stream) → IsIdle idle ss → idle ≡ true → first_due ss ≡ None
idle_first true ss h e = none_from None ss h
idle_first false ss h e = absurd (cc)

pub idle_is : (idle : Bool) (ss : List Stream) → idle ≡ none_due ss → IsIdle idle ss
idle_is true ss e = sym e
idle_is false ss e = tt

same_phase : (n : ℕ) (f : Stream → Stream) → ((s : Stream) → (f s).phase ≡ s.phase) → (s : Stream) → (changed_stream n f s).phase ≡ s.phase
same_phase n f h s = elim (s.number == n) as (λ b. (cond b (f s) s).phase ≡ s.phase) [ true ↦ h s | false ↦ refl ]

none_changed : (n : ℕ) (f : Stream → Stream) → ((s : Stream) → (f s).phase ≡ s.phase) → (ss : List Stream) → none_due (with_stream n f ss) ≡ none_due ss
none_changed n f h [] = refl
none_changed n f h (s ∷ ss) = (λ i. is_begun (same_phase n f h s i) && none_changed n f h ss i)

pub idle-changed : (idle : Bool) (n : ℕ) (f : Stream → Stream) → ((s : Stream) → (f s).phase ≡ s.phase) → (ss : List Stream) → IsIdle idle ss → IsIdle idle (with_stream n f ss)
idle-changed true n f h ss k = none_changed n f h ss ∙ k
idle-changed false n f h ss k = tt
