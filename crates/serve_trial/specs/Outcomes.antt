-- What the small core answers to an Ask and to a Take.
use Rattle.std.specs.Prelude.{⊤}
use Rattle.core_model.specs.declared.event.Outcome.{Outcome}
use Rattle.core_model.specs.declared.event.Outcome.TheVariants.{Replied, Waiting, Pending, Item}

abbrev pub IsAsked : Outcome → Type 0
IsAsked (Replied answer) = ⊤
IsAsked Waiting = ⊤
IsAsked _ = ⊥

abbrev pub IsTaken : Outcome → Type 0
IsTaken (Replied answer) = ⊤
IsTaken Pending = ⊤
IsTaken (Item item) = ⊤
IsTaken _ = ⊥
