-- The life of a store to which only proxies of one namespace speak.
use Rattle.std.specs.Prelude.{◌≡◌, ℕ, Bool, true, false, not, List, map}
use Rattle.std.specs.List.{list_all}
use Rattle.store_model.specs.State.{starting}
use Rattle.proxy_model.specs.Wrapped.{request_under, watch_under}
use Rattle.store_laws.specs.Lives.Lives.{StoreStep, executes, expires, applies, opens, pushes, progresses, lived}
use Rattle.namespace_laws.specs.Stored.Stored.{stored}
use Rattle.namespace_laws.specs.Stored.Laws.{request_lacks}

-- what a proxy of the namespace does
abbrev pub step_under : List ℕ → StoreStep → StoreStep
step_under ns (executes member q) = executes member (request_under ns q)
step_under ns (expires lease) = expires lease
step_under ns (applies member revision) = applies member revision
step_under ns (opens member ask) = opens member (watch_under ns ask)
step_under ns (pushes number) = pushes number
step_under ns (progresses number) = progresses number

abbrev pub step_lacks : StoreStep → Bool
step_lacks (executes member q) = request_lacks q
step_lacks _ = false

-- where all that is done is under the namespace and no request names an empty key, the store is that of the bare keys
abbrev pub LivesAreStored : Type 0
LivesAreStored =
    (ns : List ℕ) (members : ℕ) (es : List StoreStep) → list_all (λ e. not (step_lacks e)) es ≡ true → lived (starting members) (map (step_under ns) es) ≡ stored ns (lived (starting members) es)
