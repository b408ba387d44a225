-- What is kept by number, as a list of pairs of a number and what is kept there.
use Rattle.std.specs.Prelude.{ℕ, Bool, not, List, filter, Option, None, Some}
use Rattle.std.specs.Ordering.{nat_cmp, is_eq}
use Rattle.std.specs.FinMap.{find, put, is_sorted}
use Rattle.std.specs.Option.{option_map}

abbrev pub Numbered : Type 0 → Type 0
Numbered A = List (ℕ × A)

abbrev pub same_number : ℕ → ℕ → Bool
same_number k j = is_eq (nat_cmp k j)

-- what stands at the number
abbrev pub at : {A : Type 0} → Numbered A → ℕ → Option A
at es k = find nat_cmp k es

-- the list with this at the number: in its place in the order, or with nothing there
abbrev pub with_at : {A : Type 0} → Numbered A → ℕ → Option A → Numbered A
with_at es k None = filter (λ e. not (same_number k e.0)) es
with_at es k (Some x) = put nat_cmp k x es

abbrev pub changed_at : {A : Type 0} → Numbered A → ℕ → (A → A) → Numbered A
changed_at es k f = with_at es k (option_map f (at es k))

-- the numbers rise strictly, so none stands twice
abbrev pub is_in_order : {A : Type 0} → Numbered A → Bool
is_in_order es = is_sorted nat_cmp es
