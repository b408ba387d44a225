-- Under which session a key without entry and acquire may be acquired, by what is known of it.
use Rattle.std.specs.Prelude.{ℕ, Bool, not, ◌&&◌, if◌then◌else◌, Option, None}

abbrev pub under_if : Option ℕ → Bool → Bool → Bool → Bool → Option ℕ
under_if session ownable written created rested = if not written && (ownable && created && rested) then session else None
