-- What a step on the leasing stream leaves.
use Rattle.std.specs.Prelude.{◌≡◌, Some}
use Rattle.core_model.specs.State.{Core, Opening}
use Rattle.core_machine.specs.Keeping.{Kept, on}

abbrev pub OnLeasing : Kept → (Opening → Core → Core) → Kept → Type 0
OnLeasing old f new = (o : Opening) → old.core.leasing ≡ Some o → new ≡ on old (f o old.core)
