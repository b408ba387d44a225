-- Leaving: a proxy gives a key up by deleting its ownership key, if that is still its own.
use Rattle.std.specs.Prelude.{ℕ, Bool, true, false, ◌&&◌, ◌||◌, if◌then◌else◌, List, [], ◌∷◌, ◌++◌, Option, None, Some}
use Rattle.etcd_types.specs.declared.operation.TxnAsk.{TxnAsk}
use Rattle.etcd_types.specs.declared.answer.Body.{Body}
use Rattle.proxy_model.specs.Prefixes.{only}
use Rattle.proxy_model.specs.Asks.{created_at, delete_op}
use Rattle.proxy_model.specs.Fits.{branch_of, is_put, is_delete}

abbrev pub rescind : List ℕ → List ℕ → ℕ → TxnAsk
rescind p k create =
    record { compare = created_at (only (p ++ k)) create ∷ []; success = delete_op (only (p ++ k)) ∷ []; failure = [] }

-- Whether the guard of a rescind or a revoke call held, where the answer can be one of these: a success with one body, of a
-- put or a delete, or a failure with none.
abbrev pub held_by : Bool → List Body → Option Bool
held_by succeeded [] = if succeeded then None else Some false
held_by succeeded (b ∷ []) = if succeeded && (is_put b || is_delete b) then Some true else None
held_by succeeded (b ∷ c ∷ bs) = None

abbrev pub held_in : Option (Bool × List Body) → Option Bool
held_in None = None
held_in (Some ran) = held_by ran.0 ran.1

abbrev pub guard_held : Body → Option Bool
guard_held b = held_in (branch_of b)
