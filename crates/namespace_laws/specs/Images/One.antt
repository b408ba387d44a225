-- An image tells its store: no two stores of bare keys have one image under a namespace.
use Rattle.std.specs.Prelude.{◌≡◌, ℕ, List}
use Rattle.store_model.specs.State.{State}
use Rattle.namespace_laws.specs.Stored.Stored.{stored}

abbrev pub ImagesTellTheirStores : Type 0
ImagesTellTheirStores = (ns : List ℕ) (s t : State) → stored ns s ≡ stored ns t → s ≡ t
