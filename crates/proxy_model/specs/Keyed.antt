-- What a proxy keeps by key, as a list of pairs of a key and what is kept there. A rule on one key reads what stands there
-- and puts there what is to stand, so it leaves all other keys alone.
use Rattle.std.specs.Prelude.{ℕ, Bool, not, List, filter, Option, None, Some}
use Rattle.std.specs.Ordering.{nat_cmp}
use Rattle.std.specs.Cmp.Lexicographic.{slice_cmp}
use Rattle.std.specs.FinMap.{find, put, is_sorted}
use Rattle.std.specs.Option.{option_map}
use Rattle.etcd_types.specs.Keys.{same}

abbrev pub Keyed : Type 0 → Type 0
Keyed A = List (List ℕ × A)

-- what stands at the key
abbrev pub at : {A : Type 0} → Keyed A → List ℕ → Option A
at es k = find (slice_cmp nat_cmp) k es

-- the list with this at the key: in its place in the keys' order, or with nothing there
abbrev pub with_at : {A : Type 0} → Keyed A → List ℕ → Option A → Keyed A
with_at es k None = filter (λ e. not (same k e.0)) es
with_at es k (Some x) = put (slice_cmp nat_cmp) k x es

-- the list with what stands at the key changed, where there is any
abbrev pub changed_at : {A : Type 0} → Keyed A → List ℕ → (A → A) → Keyed A
changed_at es k f = with_at es k (option_map f (at es k))

-- the keys rise strictly, so no key stands twice
abbrev pub is_in_order : {A : Type 0} → Keyed A → Bool
is_in_order es = is_sorted (slice_cmp nat_cmp) es
