-- No two stores of bare keys have one image: a key comes back from behind the namespace, and the end of a range does.
use Rattle.std.proofs.Common.{◌≡◌, ℕ, ◌+◌, ◌≤◌, ◌==◌, Bool, true, false, cond, List, [], ◌∷◌, ◌++◌, length, map, Option, None, Some, unwrap_or, refl, sym, ◌∙◌, ap, arith, length-append}
use Rattle.std.proofs.lemmas.Bool.Decides.{nat_tests}
use Rattle.etcd_types.specs.declared.request.WatchAsk.{WatchAsk}
use Rattle.etcd_types.specs.Keys.{is_empty, is_zero}
use Rattle.store_model.specs.declared.history.KeyChange.{KeyChange}
use Rattle.store_model.specs.declared.history.KeyChange.TheVariants as change
use Rattle.store_model.specs.declared.watch.OpenWatch.{OpenWatch}
use Rattle.store_model.specs.History.{History}
use Rattle.store_model.specs.State.{State}
use Rattle.proxy_model.specs.Prefixes.{raised, raised_last, prefix_end, end_under}
use Rattle.namespace_laws.specs.Stored.Stored.{stored_change, stored_changes, stored_watch}
use Rattle.namespace_laws.specs.Images.One.{ImagesTellTheirStores}
use Rattle.namespace_laws.proofs.Images.Bare.{prefix_end_is}

-- Lists.

behind_one : (ns j k : List ℕ) → ns ++ j ≡ ns ++ k → j ≡ k
behind_one [] j k e = e
behind_one (n ∷ ns) j k e = let rest : ns ++ j ≡ ns ++ k = cc in behind_one ns j k rest

map_one : {A B : Type 0} (f : A → B) → ((x y : A) → f x ≡ f y → x ≡ y) → (xs ys : List A) → map f xs ≡ map f ys → xs ≡ ys
map_one f h [] [] e = refl
map_one f h [] (y ∷ ys) e = absurd (cc)
map_one f h (x ∷ xs) [] e = absurd (cc)
map_one f h (x ∷ xs) (y ∷ ys) e =
    let first : f x ≡ f y = cc in
    let rest : map f xs ≡ map f ys = cc in
    let a = h x y first in
    let b = map_one f h xs ys rest in
    λ i. a i ∷ b i

-- Histories.

change_one : (ns : List ℕ) (a b : KeyChange) → stored_change ns a ≡ stored_change ns b → a ≡ b
change_one ns (change.Put j v m) (change.Put k w n) e =
    let keys : ns ++ j ≡ ns ++ k = cc in
    let same = behind_one ns j k keys in
    cc
change_one ns (change.Put j v m) (change.Delete k) e = absurd (cc)
change_one ns (change.Delete j) (change.Put k w n) e = absurd (cc)
change_one ns (change.Delete j) (change.Delete k) e =
    let keys : ns ++ j ≡ ns ++ k = cc in
    let same = behind_one ns j k keys in
    cc

history_one : (ns : List ℕ) (g h : History) → map (stored_changes ns) g ≡ map (stored_changes ns) h → g ≡ h
history_one ns g h e = map_one (stored_changes ns) (λ a b f. map_one (stored_change ns) (change_one ns) a b f) g h e

-- The ends of ranges: none, the end of all keys, or a key.

data EndIs (x : List ℕ) : Type 0 where
  none : x ≡ [] → EndIs x
  all : x ≡ 0 ∷ [] → EndIs x
  key : is_empty x ≡ false → is_zero x ≡ false → EndIs x

end_is : (x : List ℕ) → EndIs x
end_is [] = none refl
end_is (b ∷ c ∷ bs) = key refl refl
end_is (b ∷ []) = by_byte (b == 0) refl
  where
    by_byte : (t : Bool) → (b == 0) ≡ t → EndIs (b ∷ [])
    by_byte true e = let zero_byte : b ≡ 0 = grind (arith, nat_tests) in all (ap (λ (n : ℕ). n ∷ []) zero_byte)
    by_byte false e = key refl e

raised_short : (p : List ℕ) (cs : List ℕ) → raised p ≡ Some cs → length cs ≤ length p
raised_short [] cs e = absurd (cc)
raised_short (b ∷ bs) cs e = by_rest (raised bs) (λ ds f. raised_short bs ds f) e
  where
    by_byte : (t : Bool) → cond t None (Some ((b + 1) ∷ [])) ≡ Some cs → length cs ≤ length (b ∷ bs)
    by_byte true f = absurd (cc)
    by_byte false f = let same : cs ≡ (b + 1) ∷ [] = cc in omega (arith, ap length same)

    by_rest : (o : Option (List ℕ)) → ((ds : List ℕ) → o ≡ Some ds → length ds ≤ length bs) → raised_last b o ≡ Some cs → length cs ≤ length (b ∷ bs)
    by_rest None f g = by_byte (b == 255) g
    by_rest (Some ds) f g = let same : cs ≡ b ∷ ds = cc in omega (arith, ap length same, f ds refl)

-- the end of a prefix is no longer than the prefix
end_short : (b : ℕ) (bs : List ℕ) → length (prefix_end (b ∷ bs)) ≤ length (b ∷ bs)
end_short b bs = by_raised (raised (b ∷ bs)) refl
  where
    by_raised : (o : Option (List ℕ)) → raised (b ∷ bs) ≡ o → length (unwrap_or o (0 ∷ [])) ≤ length (b ∷ bs)
    by_raised None e = omega arith
    by_raised (Some cs) e = raised_short (b ∷ bs) cs e

long : (y : List ℕ) → is_empty y ≡ false → 1 ≤ length y
long [] e = absurd (cc)
long (b ∷ bs) e = omega arith

-- so it is no key behind it
end_apart : (ns y : List ℕ) → is_empty y ≡ false → is_zero y ≡ false → prefix_end ns ≡ ns ++ y → ⊥
end_apart [] y e z f = let zero_byte : is_zero (0 ∷ []) ≡ false = ap is_zero f ∙ z in cc
end_apart (b ∷ bs) y e z f = omega (arith, ap length f, end_short b bs, long y e, length-append (b ∷ bs) y)

-- what the end of a range becomes
abbrev EndBecomes : List ℕ → List ℕ → List ℕ → Type 0
EndBecomes ns x u = end_under ns x ≡ u

key_becomes : (ns x : List ℕ) → is_empty x ≡ false → is_zero x ≡ false → EndBecomes ns x (ns ++ x)
key_becomes ns x e z = ap (λ (b : Bool). cond b [] (cond (is_zero x) (prefix_end ns) (ns ++ x))) e ∙ ap (λ (b : Bool). cond b (prefix_end ns) (ns ++ x)) z

all_becomes : (ns x : List ℕ) → x ≡ 0 ∷ [] → EndBecomes ns x (prefix_end ns)
all_becomes ns x e = ap (end_under ns) e

none_becomes : (ns x : List ℕ) → x ≡ [] → EndBecomes ns x []
none_becomes ns x e = ap (end_under ns) e

joined_is : (ns x : List ℕ) → is_empty x ≡ false → is_empty (ns ++ x) ≡ false
joined_is [] x e = e
joined_is (n ∷ ns) x e = refl

-- nothing is no end of keys
not_nothing : (u : List ℕ) → is_empty u ≡ false → [] ≡ u → ⊥
not_nothing u e f = let empty : is_empty [] ≡ false = ap is_empty f ∙ e in cc

end_one : (ns x y : List ℕ) → EndIs x → EndIs y → end_under ns x ≡ end_under ns y → x ≡ y
end_one ns x y (none a) (none b) e = a ∙ sym b
end_one ns x y (none a) (all b) e = absurd (not_nothing (prefix_end ns) (prefix_end_is ns) (sym (none_becomes ns x a) ∙ e ∙ all_becomes ns y b))
end_one ns x y (none a) (key b z) e = absurd (not_nothing (ns ++ y) (joined_is ns y b) (sym (none_becomes ns x a) ∙ e ∙ key_becomes ns y b z))
end_one ns x y (all a) (none b) e = absurd (not_nothing (prefix_end ns) (prefix_end_is ns) (sym (none_becomes ns y b) ∙ sym e ∙ all_becomes ns x a))
end_one ns x y (all a) (all b) e = a ∙ sym b
end_one ns x y (all a) (key b z) e = absurd (end_apart ns y b z (sym (all_becomes ns x a) ∙ e ∙ key_becomes ns y b z))
end_one ns x y (key a z) (none b) e = absurd (not_nothing (ns ++ x) (joined_is ns x a) (sym (none_becomes ns y b) ∙ sym e ∙ key_becomes ns x a z))
end_one ns x y (key a z) (all b) e = absurd (end_apart ns x a z (sym (all_becomes ns y b) ∙ sym e ∙ key_becomes ns x a z))
end_one ns x y (key a z) (key b t) e = behind_one ns x y (sym (key_becomes ns x a z) ∙ e ∙ key_becomes ns y b t)

-- Watches.

watch_one : (ns : List ℕ) (v w : OpenWatch) → stored_watch ns v ≡ stored_watch ns w → v ≡ w
watch_one ns v w e =
    let a = ap (λ (x : OpenWatch). x.ask) e in
    let keys = behind_one ns v.ask.range.key w.ask.range.key (ap (λ (x : WatchAsk). x.range.key) a) in
    let ends = end_one ns v.ask.range.end w.ask.range.end (end_is v.ask.range.end) (end_is w.ask.range.end) (ap (λ (x : WatchAsk). x.range.end) a) in
    λ i. record {
      member = ap (λ (x : OpenWatch). x.member) e i;
      ask = record {
        range = record { key = keys i; end = ends i };
        start = ap (λ (x : WatchAsk). x.start) a i;
        no_put = ap (λ (x : WatchAsk). x.no_put) a i;
        no_delete = ap (λ (x : WatchAsk). x.no_delete) a i;
        prev_kv = ap (λ (x : WatchAsk). x.prev_kv) a i;
        progress = ap (λ (x : WatchAsk). x.progress) a i;
      };
      next = ap (λ (x : OpenWatch). x.next) e i;
    }

pub images_tell_their_stores : ImagesTellTheirStores
images_tell_their_stores ns s t e =
    let histories = history_one ns s.history t.history (ap (λ (x : State). x.history) e) in
    let watches = map_one (stored_watch ns) (watch_one ns) s.watches t.watches (ap (λ (x : State). x.watches) e) in
    λ i. record {
      history = histories i;
      compacted = ap (λ (x : State). x.compacted) e i;
      leases = ap (λ (x : State). x.leases) e i;
      applied = ap (λ (x : State). x.applied) e i;
      watches = watches i;
    }
