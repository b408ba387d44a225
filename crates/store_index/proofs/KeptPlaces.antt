-- Where the versions begin that a compaction keeps.
use Rattle.std.proofs.Common.{◌≡◌, ℕ, ◌+◌, ◌-◌, ◌<◌, ◌≤◌, ◌==◌, nat_lt, Bool, true, false, cond, List, [], ◌∷◌, ◌++◌, Option, None, Some, length, take, drop, get_or, refl, sym, ◌∙◌, ap, arith, eq-eqb}
use Rattle.std.specs.Option.{is_some}
use Rattle.std.proofs.lemmas.List.{drop_more, take_more}
use Rattle.std.proofs.lemmas.Bool.Decides.{nat_tests}
use Rattle.etcd_types.specs.declared.record.Kv.{Kv}
use Rattle.compaction_model.specs.declared.version.Version.{Version}
use Rattle.compaction_model.specs.Versions.{held_left, held_of, held_list, kept_with}
use Rattle.store_index.specs.Held.{held_last}

cons_at : (vs : List Version) (i : ℕ) (v : Version) → i < length vs → v ≡ get_or vs i v → drop i vs ≡ v ∷ drop (i + 1) vs
cons_at vs i v lt is = drop_more vs i v lt ∙ ap (λ (w : Version). w ∷ drop (i + 1) vs) (sym is)

not_below : (a c : ℕ) → c ≤ a → nat_lt a c ≡ false
not_below a c e = grind (arith, nat_tests)

is_below : (a c : ℕ) → a < c → nat_lt a c ≡ true
is_below a c e = grind (arith, nat_tests)

not_equal : (a c : ℕ) → c < a → (a == c) ≡ false
not_equal a c e = grind (arith, nat_tests)

-- a version of the compaction's revision begins what is kept
pub kept_equal : (c i : ℕ) (vs : List Version) (v : Version) (held : Option Version) → i < length vs → v ≡ get_or vs i v → v.revision ≡ c
    → kept_with c held (drop i vs) ≡ drop i vs
kept_equal c i vs v held lt is e =
    let le : c ≤ v.revision = omega (arith, e) in
    ap (kept_with c held) (cons_at vs i v lt is)
    ∙ ap (λ (b : Bool). cond b (kept_with c (held_of v) (drop (i + 1) vs)) (cond (v.revision == c) (v ∷ drop (i + 1) vs) (held_list held ++ v ∷ drop (i + 1) vs))) (not_below v.revision c le)
    ∙ ap (λ (b : Bool). cond b (v ∷ drop (i + 1) vs) (held_list held ++ v ∷ drop (i + 1) vs)) (eq-eqb v.revision c e)
    ∙ sym (cons_at vs i v lt is)

-- before a later one the put that is held is kept
pub kept_above : (c i : ℕ) (vs : List Version) (v : Version) (held : Option Version) → i < length vs → v ≡ get_or vs i v → c < v.revision
    → kept_with c held (drop i vs) ≡ held_list held ++ drop i vs
kept_above c i vs v held lt is e =
    let le : c ≤ v.revision = omega (arith, e) in
    ap (kept_with c held) (cons_at vs i v lt is)
    ∙ ap (λ (b : Bool). cond b (kept_with c (held_of v) (drop (i + 1) vs)) (cond (v.revision == c) (v ∷ drop (i + 1) vs) (held_list held ++ v ∷ drop (i + 1) vs))) (not_below v.revision c le)
    ∙ ap (λ (b : Bool). cond b (v ∷ drop (i + 1) vs) (held_list held ++ v ∷ drop (i + 1) vs)) (not_equal v.revision c e)
    ∙ ap (λ (ws : List Version). held_list held ++ ws) (sym (cons_at vs i v lt is))

held_last-push : (vs : List Version) (v : Version) (held : Option Version) → held_last (vs ++ v ∷ []) held ≡ held_of v
held_last-push [] v held = refl
held_last-push (w ∷ vs) v held = held_last-push vs v (held_of w)

held_at : (i : ℕ) (vs : List Version) (v : Version) → i < length vs → v ≡ get_or vs i v → held_last (take (i + 1) vs) None ≡ held_of v
held_at i vs v lt is =
    ap (λ (ws : List Version). held_last ws None) (take_more vs i v lt ∙ ap (λ (w : Version). take i vs ++ w ∷ []) (sym is)) ∙ held_last-push (take i vs) v None

-- an earlier one is passed, and held if it is a put
pub kept_below : (c i : ℕ) (vs : List Version) (v : Version) (held : Option Version) → i < length vs → v ≡ get_or vs i v → v.revision < c
    → kept_with c held (drop i vs) ≡ kept_with c (held_last (take (i + 1) vs) None) (drop (i + 1) vs)
kept_below c i vs v held lt is e =
    ap (kept_with c held) (cons_at vs i v lt is)
    ∙ ap (λ (b : Bool). cond b (kept_with c (held_of v) (drop (i + 1) vs)) (cond (v.revision == c) (v ∷ drop (i + 1) vs) (held_list held ++ v ∷ drop (i + 1) vs))) (is_below v.revision c e)
    ∙ ap (λ (o : Option Version). kept_with c o (drop (i + 1) vs)) (sym (held_at i vs v lt is))

-- the put just before a place

pub held_put : (place : ℕ) (vs : List Version) (v : Version) → 0 < place → place ≤ length vs → v ≡ get_or vs (place - 1) v → is_some v.left ≡ true
    → held_list (held_last (take place vs) None) ++ drop place vs ≡ drop (place - 1) vs
held_put place vs v more le is put =
    let lt : place - 1 < length vs = omega (arith, more, le) in
    let back : place - 1 + 1 ≡ place = omega (arith, more) in
    ap (λ n. held_list (held_last (take n vs) None) ++ drop n vs) (sym back)
    ∙ ap (λ (o : Option Version). held_list o ++ drop (place - 1 + 1) vs) (held_at (place - 1) vs v lt is ∙ one v.left put)
    ∙ sym (cons_at vs (place - 1) v lt is)
  where
    one : (o : Option Kv) → is_some o ≡ true → held_left v o ≡ Some v
    one None e = absurd (cc)
    one (Some kv) e = refl

pub held_deletion : (place : ℕ) (vs : List Version) (v : Version) → 0 < place → place ≤ length vs → v ≡ get_or vs (place - 1) v → is_some v.left ≡ false
    → held_list (held_last (take place vs) None) ++ drop place vs ≡ drop place vs
held_deletion place vs v more le is none =
    let lt : place - 1 < length vs = omega (arith, more, le) in
    let back : place - 1 + 1 ≡ place = omega (arith, more) in
    ap (λ n. held_list (held_last (take n vs) None) ++ drop place vs) (sym back)
    ∙ ap (λ (o : Option Version). held_list o ++ drop place vs) (held_at (place - 1) vs v lt is ∙ nothing v.left none)
  where
    nothing : (o : Option Kv) → is_some o ≡ false → held_left v o ≡ None
    nothing None e = refl
    nothing (Some kv) e = absurd (cc)

pub held_none : (vs : List Version) → held_list (held_last (take 0 vs) None) ++ drop 0 vs ≡ drop 0 vs
held_none vs = refl
