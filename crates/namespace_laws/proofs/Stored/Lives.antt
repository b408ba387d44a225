-- The life of a store under a namespace, step by step.
use Rattle.std.proofs.Common.{◌≡◌, ℕ, true, not, List, [], ◌∷◌, map, Result, Ok, Err, refl, ◌∙◌, ap}
use Rattle.std.specs.List.{list_all}
use Rattle.etcd_types.proofs.Bools.{and_first, and_second, not_true}
use Rattle.store_model.specs.declared.store_fault.StoreFault.{StoreFault}
use Rattle.store_model.specs.State.{State, starting}
use Rattle.store_model.specs.Leases.{expired}
use Rattle.store_model.specs.Members.{applied}
use Rattle.store_model.specs.Watches.{Pushed, pushed, progressed}
use Rattle.store_model.specs.Step.{Step}
use Rattle.store_laws.specs.Lives.Lives.{StoreStep, executes, expires, applies, opens, pushes, progresses, state_or, pushed_or, stepped, lived}
use Rattle.store_laws.specs.Lives.Sound.{Sound}
use Rattle.store_laws.specs.Lives.TestedKeys.{have_keys}
use Rattle.store_laws.proofs.Lives.LifeProofs.{step_sound}
use Rattle.store_laws.proofs.Lives.SoundProofs.{starts_sound}
use Rattle.namespace_laws.specs.Stored.Stored.{stored_after, stored}
use Rattle.namespace_laws.specs.Stored.StoredWatches.{stored_pushed}
use Rattle.namespace_laws.specs.Stored.Lives.{step_under, step_lacks, LivesAreStored}
use Rattle.namespace_laws.proofs.Stored.Steps.{stored_stores_answer, expiries_are_stored}
use Rattle.namespace_laws.proofs.Stored.Watches.{openings_are_stored, pushes_are_stored, progress_is_stored, applies_are_stored}

pushed_same : (ns : List ℕ) (s : State) (p : Pushed) → pushed_or (stored ns s) (stored_pushed ns p) ≡ stored ns (pushed_or s p)
pushed_same ns s (Ok p) = refl
pushed_same ns s (Err fault) = refl

state_same : (ns : List ℕ) (s : State) (r : Result State StoreFault) → state_or (stored ns s) (stored_after ns r) ≡ stored ns (state_or s r)
state_same ns s (Ok t) = refl
state_same ns s (Err fault) = refl

step_stored : (ns : List ℕ) (s : State) (e : StoreStep) → list_all have_keys s.history ≡ true → not (step_lacks e) ≡ true → stepped (stored ns s) (step_under ns e) ≡ stored ns (stepped s e)
step_stored ns s (executes member q) k n = ap (λ (step : Step). step.0) (stored_stores_answer ns s member q k (not_true _ n))
step_stored ns s (expires lease) k n = ap (state_or (stored ns s)) (expiries_are_stored ns s lease k) ∙ state_same ns s (expired s lease)
step_stored ns s (applies member revision) k n = ap (state_or (stored ns s)) (applies_are_stored ns s member revision) ∙ state_same ns s (applied s member revision)
step_stored ns s (opens member ask) k n = ap (λ (x : State × ℕ). x.0) (openings_are_stored ns s member ask)
step_stored ns s (pushes number) k n = ap (pushed_or (stored ns s)) (pushes_are_stored ns s number k) ∙ pushed_same ns s (pushed s number)
step_stored ns s (progresses number) k n = ap (pushed_or (stored ns s)) (progress_is_stored ns s number k) ∙ pushed_same ns s (progressed s number)

life_stored : (ns : List ℕ) (s : State) (es : List StoreStep) → Sound s → list_all (λ e. not (step_lacks e)) es ≡ true → lived (stored ns s) (map (step_under ns) es) ≡ stored ns (lived s es)
life_stored ns s [] h n = refl
life_stored ns s (e ∷ es) h n =
    ap (λ (t : State). lived t (map (step_under ns) es)) (step_stored ns s e h.keys (and_first (not (step_lacks e)) _ n))
    ∙ life_stored ns (stepped s e) es (step_sound s e h) (and_second (not (step_lacks e)) _ n)

pub lives_are_stored : LivesAreStored
lives_are_stored ns members es n = life_stored ns (starting members) es (starts_sound members) n
