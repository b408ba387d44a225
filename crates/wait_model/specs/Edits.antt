-- One change at each key of what is kept by key.
use Rattle.std.specs.Prelude.{ℕ, Bool, not, List, map, filter}
use Rattle.proxy_model.specs.Keyed.{Keyed}

-- what stands at each key changed, by the key
abbrev pub each : {A B : Type 0} → (List ℕ → A → B) → Keyed A → Keyed B
each f es = map (λ e. (e.0, f e.0 e.1)) es

-- with nothing at the keys that pass the test
abbrev pub without : {A : Type 0} → (List ℕ → Bool) → Keyed A → Keyed A
without p es = filter (λ e. not (p e.0)) es
