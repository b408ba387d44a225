-- What is read off the bodies of an answer, with a harmless default where one isn't of the kind.
use Rattle.std.specs.Prelude.{ℕ, Bool, List, [], ◌∷◌, slice_get, Option, None, Some, if◌then◌else◌}
use Rattle.etcd_types.specs.declared.record.Kv.{Kv}
use Rattle.etcd_types.specs.declared.answer.Body.{Body}
use Rattle.etcd_types.specs.declared.answer.Body.TheVariants as body

abbrev pub records_of : Body → List Kv
records_of (body.Range count more kvs) = kvs
records_of _ = []

abbrev pub first_of : List Kv → Option Kv
first_of [] = None
first_of (kv ∷ kvs) = Some kv

abbrev pub record_in : Option Body → Option Kv
record_in None = None
record_in (Some b) = first_of (records_of b)

-- the first record of the i-th body
abbrev pub record_of : List Body → ℕ → Option Kv
record_of bs i = record_in (slice_get bs i)

abbrev pub deleted_of : Body → ℕ
deleted_of (body.Delete deleted prevs) = deleted
deleted_of _ = 0

abbrev pub prevs_of : Body → List Kv
prevs_of (body.Delete deleted prevs) = prevs
prevs_of _ = []

abbrev pub first_body : List Body → Body
first_body [] = body.Compact
first_body (b ∷ bs) = b

-- what is read of the branch that ran, where the answer fits
abbrev pub reading : {A : Type 0} → Bool → Option (Bool × List Body) → (Bool → List Body → A) → Option A
reading fits None f = None
reading fits (Some ran) f = if fits then Some (f ran.0 ran.1) else None
