-- The calls that are out, kept each under its number.
use Rattle.std.specs.Prelude.{◌≡◌, ℕ, Bool, true, ◌==◌, nat_lt, IsTrue, List}
use Rattle.std.specs.List.{list_all}
use Rattle.numbered_rows.specs.Numbered.{Numbered, is_in_order}
use Rattle.core_model.specs.declared.out_call.OutCall.{OutCall}
use Rattle.calls_out.specs.Counts.{Counted}

-- all of them were sent before the call of this number
abbrev pub all_below : ℕ → List OutCall → Bool
all_below call out = list_all (λ o. nat_lt o.call call) out

abbrev pub is_named : ℕ × OutCall → Bool
is_named r = r.1.call == r.0

pub record AreCalls (rows : Numbered OutCall) : Type 0 where
  pub in_order : IsTrue (is_in_order rows)
  pub named : list_all is_named rows ≡ true

pub record AreKept (rows : Numbered OutCall) (counts : Numbered ℕ) : Type 0 where
  pub calls : AreCalls rows
  pub counted : Counted rows counts
