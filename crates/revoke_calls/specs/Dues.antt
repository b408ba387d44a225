-- The places of due calls.
use Rattle.std.specs.Prelude.{List, map}
use Rattle.wait_model.specs.declared.due.DueCall.{DueCall}
use Rattle.wait_model.specs.declared.due.Place.{Place}

abbrev pub places : List DueCall → List Place
places ds = map (λ d. d.place) ds
