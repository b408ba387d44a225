-- The record that the last of some versions left.
use Rattle.std.proofs.Common.{◌≡◌, ℕ, ◌+◌, ◌-◌, ◌<◌, ◌≤◌, nat_le, Bool, true, false, cond, List, [], ◌∷◌, ◌++◌, None, Some, length, take, get_or, refl, sym, ◌∙◌, ap, arith}
use Rattle.std.specs.List.{slice_get}
use Rattle.std.proofs.Math.Seq.{take-length}
use Rattle.std.proofs.lemmas.List.{take_more}
use Rattle.std.proofs.lemmas.List.Elements.{filter-append}
use Rattle.std.proofs.lemmas.Option.{slice_get_within, get_or_from_slice_get, slice_get-get_or}
use Rattle.std.proofs.lemmas.Bool.Decides.{nat_tests}
use Rattle.compaction_model.specs.declared.version.Version.{Version}
use Rattle.compaction_model.specs.Versions.{last_left, up_to, is_up_to}
use Rattle.compaction_model.proofs.VersionProofs.{last_left-append}

up_to-push : (r : ℕ) (vs : List Version) (v : Version) → last_left (up_to r (vs ++ v ∷ [])) None ≡ cond (nat_le v.revision r) v.left (last_left (up_to r vs) None)
up_to-push r vs v =
    ap (λ (ws : List Version). last_left ws None) (filter-append (is_up_to r) vs (v ∷ [])) ∙ last_left-append (up_to r vs) (cond (nat_le v.revision r) (v ∷ []) []) None ∙ by_test (nat_le v.revision r)
  where
    by_test : (b : Bool) → last_left (cond b (v ∷ []) []) (last_left (up_to r vs) None) ≡ cond b v.left (last_left (up_to r vs) None)
    by_test true = refl
    by_test false = refl

at_last : (r n : ℕ) (vs : List Version) (v : Version) → 0 < n → n ≤ length vs → v ≡ get_or vs (n - 1) v
    → last_left (up_to r (take n vs)) None ≡ cond (nat_le v.revision r) v.left (last_left (up_to r (take (n - 1) vs)) None)
at_last r n vs v more le is =
    let lt : n - 1 < length vs = omega (arith, more, le) in
    let back : n ≡ n - 1 + 1 = omega (arith, more) in
    ap (λ m. last_left (up_to r (take m vs)) None) back
    ∙ ap (λ (ws : List Version). last_left (up_to r ws) None) (take_more vs (n - 1) v lt ∙ ap (λ (w : Version). take (n - 1) vs ++ w ∷ []) (sym is))
    ∙ up_to-push r (take (n - 1) vs) v

-- the version just below a place is the one that is read, where it isn't too late
pub read_here : (r n : ℕ) (vs : List Version) (v : Version) → 0 < n → n ≤ length vs → v ≡ get_or vs (n - 1) v → v.revision ≤ r → last_left (up_to r (take n vs)) None ≡ v.left
read_here r n vs v more le is early =
    at_last r n vs v more le is ∙ ap (λ (b : Bool). cond b v.left (last_left (up_to r (take (n - 1) vs)) None)) (let e : nat_le v.revision r ≡ true = grind (arith, nat_tests) in e)

-- and else what is before it is read
pub read_before : (r n : ℕ) (vs : List Version) (v : Version) → 0 < n → n ≤ length vs → v ≡ get_or vs (n - 1) v → r < v.revision
    → last_left (up_to r (take n vs)) None ≡ last_left (up_to r (take (n - 1) vs)) None
read_before r n vs v more le is late =
    at_last r n vs v more le is ∙ ap (λ (b : Bool). cond b v.left (last_left (up_to r (take (n - 1) vs)) None)) (let e : nat_le v.revision r ≡ false = grind (arith, nat_tests) in e)

-- the last of all versions
pub last_there : (vs : List Version) (v : Version) → slice_get vs (length vs - 1) ≡ Some v → last_left vs None ≡ v.left
last_there vs v e =
    let lt : length vs - 1 < length vs = slice_get_within vs (length vs - 1) v e in
    let all : length vs ≡ length vs - 1 + 1 = omega (arith, lt) in
    let is : v ≡ get_or vs (length vs - 1) v = sym (get_or_from_slice_get vs (length vs - 1) v v e) in
    ap (λ (ws : List Version). last_left ws None)
    (sym (take-length vs) ∙ ap (λ n. take n vs) all ∙ take_more vs (length vs - 1) v lt ∙ ap (λ (w : Version). take (length vs - 1) vs ++ w ∷ []) (sym is))
    ∙ last_left-append (take (length vs - 1) vs) (v ∷ []) None

pub none_there : (vs : List Version) → slice_get vs (length vs - 1) ≡ None → last_left vs None ≡ None
none_there [] e = refl
none_there (w ∷ vs) e =
    let lt : length (w ∷ vs) - 1 < length (w ∷ vs) = omega arith in
    let there = slice_get-get_or (w ∷ vs) (length (w ∷ vs) - 1) w lt in
    absurd (cc)
