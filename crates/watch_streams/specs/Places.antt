-- The place of a stream in its list, and a stream that goes from its place to the end.
use Rattle.std.specs.Prelude.{ℕ, zero, suc, ◌≡◌, ◌<◌, nat_lt, if◌then◌else◌, List, [], ◌∷◌, ◌++◌, length, get_or, Some}
use Rattle.proxy_model.specs.Upstream.{cut}
use Rattle.watch_model.specs.declared.stream.StreamPhase.TheVariants as phase
use Rattle.watch_model.specs.State.{Stream}
use Rattle.watch_model.specs.Lookups.{stream_at}

-- the place of the first stream with this number
pub record IsAt (number : ℕ) (ss : List Stream) (i : ℕ) : Type 0 where
  pub bound : i < length ss
  pub is : (d : Stream) → stream_at number ss ≡ Some (get_or ss i d)

-- how many streams stand before one of this number
abbrev pub sooner : ℕ → List Stream → ℕ
sooner number [] = 0
sooner number (s ∷ ss) = if nat_lt s.number number then suc (sooner number ss) else 0

abbrev pub again : ℕ → ℕ → Stream → Stream
again number step s = record { number = number; phase = phase.Due step; stream = cut s.stream }

-- the one at a place, at the end
abbrev pub reopened_at : ℕ → ℕ → ℕ → List Stream → List Stream
reopened_at zero number step [] = []
reopened_at zero number step (s ∷ ss) = ss ++ again number step s ∷ []
reopened_at (suc i) number step [] = []
reopened_at (suc i) number step (s ∷ ss) = s ∷ reopened_at i number step ss
