-- The put that is held on to, behind the versions passed.
use Rattle.std.specs.Prelude.{List, [], ◌∷◌, Option}
use Rattle.compaction_model.specs.declared.version.Version.{Version}
use Rattle.compaction_model.specs.Versions.{held_of}

abbrev pub held_last : List Version → Option Version → Option Version
held_last [] held = held
held_last (v ∷ vs) held = held_last vs (held_of v)
