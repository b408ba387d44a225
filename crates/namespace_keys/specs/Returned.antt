-- What a call that unwraps returns.
use Rattle.std.specs.Prelude.{◌≡◌, Result, Ok, Err}
use Rattle.namespace_keys.specs.declared.fault.KeyFault.{KeyFault}
use Rattle.namespace_keys.specs.declared.fault.KeyFault.TheVariants.{ForeignKey, NoMemory}
use Rattle.proxy_model.specs.Unwrapped.{Unwrapped}

-- a foreign key is refused by name
abbrev pub Fails : {A : Type 0} → KeyFault → Unwrapped A → Type 0
Fails (ForeignKey k) unwrapped = unwrapped ≡ Err k
Fails NoMemory unwrapped = Unit {0}

-- the value without the namespace, or its first foreign key, unless memory ran out
abbrev pub Unwraps : {A : Type 0} → Result A KeyFault → Unwrapped A → Type 0
Unwraps (Ok x) unwrapped = unwrapped ≡ Ok x
Unwraps (Err e) unwrapped = Fails e unwrapped
