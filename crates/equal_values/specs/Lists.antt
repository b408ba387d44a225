-- Whether two lists have the same members in the same order, by a test of two members; and whether two truth values are the same.
use Rattle.std.specs.Prelude.{Bool, true, false, not, ◌==◌, ◌&&◌, List, length, zip}
use Rattle.std.specs.List.{list_all}

abbrev pub same_all : {A : Type 0} → (A → A → Bool) → List A → List A → Bool
same_all test told due = length told == length due && list_all (λ p. test p.0 p.1) (zip told due)

abbrev pub same_flag : Bool → Bool → Bool
same_flag true due = due
same_flag false due = not due
