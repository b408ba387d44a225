-- Streams of which none is due to be opened or closed.
use Rattle.std.specs.Prelude.{◌≡◌, Bool, true, false, List}
use Rattle.std.specs.List.{list_all}
use Rattle.watch_model.specs.State.{Stream}
use Rattle.watch_model.specs.Lookups.{is_begun}

abbrev pub rests : Stream → Bool
rests s = is_begun s.phase

abbrev pub none_due : List Stream → Bool
none_due ss = list_all rests ss

-- what is known of the streams: that none is due, or nothing
abbrev pub IsIdle : Bool → List Stream → Type 0
IsIdle false ss = Unit {0}
IsIdle true ss = none_due ss ≡ true
