-- An ownership key is told by the key that it owns.
use Rattle.std.proofs.Common.{◌≡◌, ℕ, Bool, true, false, List, ◌++◌, length, drop, refl, sym, ◌∙◌, subst}
use Rattle.etcd_types.specs.Keys.{up_to, is_empty}
use Rattle.etcd_types.proofs.Bools.{and_first, and_second}
use Rattle.etcd_types.proofs.KeyOrder.{same-equal, up_to-along}
use Rattle.store_model.proofs.RangeLemmas.{range_has}
use Rattle.proxy_model.specs.Prefixes.{end_under, under}
use Rattle.proxy_model.proofs.Prefixed.{prefix_first, behind}
use Rattle.proxy_model.proofs.PrefixEnds.{end_under-not_empty, one_has, one_under, within_end}
use Rattle.proxy_laws.specs.Ownership.{OwnersAreNamed}

pub owners_are_named : OwnersAreNamed
owners_are_named p r kv a n c = by_one (is_empty r.end) refl
  where
    by_one : (t : Bool) → is_empty r.end ≡ t → p ++ drop (length p) kv.key ≡ kv.key
    by_one true e =
        let one = one_has (is_empty (end_under p r.end)) kv.key (p ++ r.key) _ (one_under p r.end e) in
        let is = same-equal kv.key (p ++ r.key) (sym one ∙ c) in
        subst (λ (j : List ℕ). p ++ drop (length p) j ≡ j) (sym is) (behind p r.key)
    by_one false e =
        let has = sym (range_has (under p r) kv.key (end_under-not_empty p r.end e) n) ∙ c in
        let from = and_first (up_to (p ++ r.key) kv.key) _ has in
        within_end p kv.key r.end a e (up_to-along p (p ++ r.key) kv.key (prefix_first p r.key) from) (and_second (up_to (p ++ r.key) kv.key) _ has)
