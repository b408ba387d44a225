-- Which keys a range has that isn't of one key.
use Rattle.std.proofs.Common.{◌≡◌, ℕ, Bool, true, false, cond, ◌&&◌, ◌||◌, List, refl, sym, ◌∙◌, ap}
use Rattle.etcd_types.specs.declared.key_range.KeyRange.{KeyRange}
use Rattle.etcd_types.specs.Keys.{up_to, before, same, is_empty, is_zero}
use Rattle.etcd_types.specs.Ranges.{contains}
use Rattle.etcd_types.proofs.Bools.{and_true}
use Rattle.etcd_types.proofs.KeyOrder.{or_up_to}

range_by : (one endless all : Bool) (key end k : List ℕ) → one ≡ false
    → cond one (same k key) (cond endless (all || up_to key k) (up_to key k && before k end)) ≡ cond endless (all || up_to key k) (up_to key k && before k end)
range_by true endless all key end k e = absurd (cc)
range_by false endless all key end k e = refl

-- a range that isn't of one key has the keys from its key on, up to its end, if that isn't endless
pub range_has : (r : KeyRange) (k : List ℕ) → is_empty r.end ≡ false → is_empty k ≡ false → contains r k ≡ up_to r.key k && (is_zero r.end || before k r.end)
range_has r k e f =
    range_by (is_empty r.end) (is_zero r.end) (is_zero r.key) r.key r.end k e ∙ ap (λ t. cond (is_zero r.end) t (up_to r.key k && before k r.end)) (or_up_to r.key k f)
    ∙ by_test (is_zero r.end)
  where
    by_test : (z : Bool) → cond z (up_to r.key k) (up_to r.key k && before k r.end) ≡ up_to r.key k && (z || before k r.end)
    by_test true = sym (and_true (up_to r.key k))
    by_test false = refl
