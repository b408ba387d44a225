-- The pass as a loop over places.
use Rattle.std.proofs.Common.{◌≡◌, ℕ, ◌+◌, ◌<◌, ◌≤◌, Bool, true, false, not, cond, ◌&&◌, ◌||◌, List, [], ◌∷◌, ◌++◌, length, take, drop, get_or, set, refl, sym, ◌∙◌, ap, arith}
use mathlib.Core.List.{reverse}
use Rattle.std.specs.List.{list_any}
use Rattle.std.proofs.lemmas.List.{reverse-append, drop_more, take_more_set, drop-set-lt, take_all, drop_all, append-nil, length-set}
use Rattle.std.proofs.lemmas.List.Folds.{list_any-append}
use Rattle.proxy_model.specs.declared.lease.Entry.{Entry}
use Rattle.proxy_model.specs.Keyed.{Keyed}
use Rattle.wait_model.specs.declared.write.Write.{Write}
use Rattle.wait_model.specs.Covers.{shares}
use Rattle.wait_model.specs.Passes.{goes, turn_if, turn, Pass, passed}
use Rattle.wait_model.specs.SingleKeys.{Turn}
use Rattle.wait_model.specs.Stages.{is_waiting, staged, stage_on}
use Rattle.revoke_core.specs.Steps.{first_blocked, is_blocked}

-- what is left of the pass from the i-th write on ends where the whole pass ends
pub record Passing (step : ℕ) (es₀ : Keyed Entry) (ss₀ : Keyed Bool) (ws₀ : List Write) (i : ℕ) (es : Keyed Entry) (ss : Keyed Bool) (ws : List Write) : Type 0 where
  pub len : length ws ≡ length ws₀
  pub entries : (passed step (reverse (take i ws)) es ss (drop i ws)).entries ≡ (passed step [] es₀ ss₀ ws₀).entries
  pub spoiled : (passed step (reverse (take i ws)) es ss (drop i ws)).spoiled ≡ (passed step [] es₀ ss₀ ws₀).spoiled
  pub writes : take i ws ++ (passed step (reverse (take i ws)) es ss (drop i ws)).writes ≡ (passed step [] es₀ ss₀ ws₀).writes

pub passing_begins : (step : ℕ) (es : Keyed Entry) (ss : Keyed Bool) (ws : List Write) → Passing step es ss ws 0 es ss ws
passing_begins step es ss ws = record { len = refl; entries = refl; spoiled = refl; writes = refl }

pub any-reverse : {A : Type 0} (p : A → Bool) (xs : List A) → list_any p (reverse xs) ≡ list_any p xs
any-reverse p [] = refl
any-reverse p (x ∷ xs) =
    ap (list_any p) (reverse-append (x ∷ []) xs) ∙ list_any-append p (reverse xs) (x ∷ []) ∙ ap (λ b. b || (p x || false)) (any-reverse p xs) ∙ turned (list_any p xs) (p x)
  where
    turned : (a b : Bool) → a || (b || false) ≡ b || a
    turned true true = refl
    turned true false = refl
    turned false true = refl
    turned false false = refl

-- a write that doesn't wait for its turn has the same one, held back or not
only_waiting : (a b : Bool) → a && not (a && b) ≡ a && not b
only_waiting true b = refl
only_waiting false b = refl

same_turn : (step : ℕ) (b : Bool) (es : Keyed Entry) (ss : Keyed Bool) (w : Write) → turn_if step (is_waiting (stage_on w.stage) && b) es ss w ≡ turn_if step b es ss w
same_turn step b es ss w =
    let v = staged w (stage_on w.stage) in
    let as_it_is : Turn = record { entries = es; spoiled = ss; write = v } in
    ap (λ c. cond c (goes step es ss v) as_it_is) (only_waiting (is_waiting (stage_on w.stage)) b)

blocked_is : (ws : List Write) (i : ℕ) (w : Write) → i < length ws → w ≡ get_or ws i w → is_blocked ws i ≡ is_waiting (stage_on w.stage) && list_any (shares w) (reverse (take i ws))
blocked_is ws i w l e =
    let here = is_waiting (stage_on w.stage) in
    ap (first_blocked (take i ws)) (drop_more ws i w l) ∙ ap (λ x. is_waiting (stage_on x.stage) && list_any (shares x) (take i ws)) (sym e) ∙ ap (λ b. here && b) (sym (any-reverse (shares w) (take i ws)))

append-assoc : {A : Type 0} (xs : List A) (y : A) (zs : List A) → (xs ++ y ∷ []) ++ zs ≡ xs ++ y ∷ zs
append-assoc [] y zs = refl
append-assoc (x ∷ xs) y zs = ap (λ l. x ∷ l) (append-assoc xs y zs)

pub passing_more : (step : ℕ) (es₀ : Keyed Entry) (ss₀ : Keyed Bool) (ws₀ : List Write) (i : ℕ) (es : Keyed Entry) (ss : Keyed Bool) (ws : List Write) (w : Write) (b : Bool) → Passing step es₀ ss₀ ws₀ i es ss ws → i < length ws → w ≡ get_or ws i w → turn_if step b es ss w ≡ turn_if step (is_blocked ws i) es ss w → Passing step es₀ ss₀ ws₀ (i + 1) (turn_if step b es ss w).entries (turn_if step b es ss w).spoiled (set ws i (turn_if step b es ss w).write)
unfolding passed
passing_more step es₀ ss₀ ws₀ i es ss ws w b h l e g =
    let earlier = reverse (take i ws) in
    let rest = drop (i + 1) ws in
    let t = turn_if step b es ss w in
    let same : turn step earlier es ss w ≡ t = sym (same_turn step (list_any (shares w) earlier) es ss w) ∙ ap (λ x. turn_if step x es ss w) (sym (blocked_is ws i w l e)) ∙ sym g in
    let d : drop i ws ≡ w ∷ rest = drop_more ws i w l ∙ ap (λ x. x ∷ rest) (sym e) in
    let q : Turn → Pass = λ u. passed step (u.write ∷ earlier) u.entries u.spoiled rest in
    let before : reverse (take (i + 1) (set ws i t.write)) ≡ t.write ∷ earlier = ap reverse (take_more_set ws i t.write l) ∙ reverse-append (take i ws) (t.write ∷ []) in
    let after : drop (i + 1) (set ws i t.write) ≡ rest = drop-set-lt (i + 1) ws i t.write (omega arith) in
    let r : passed step (reverse (take (i + 1) (set ws i t.write))) t.entries t.spoiled (drop (i + 1) (set ws i t.write)) ≡ q t = λ j. passed step (before j) t.entries t.spoiled (after j) in
    record {
      len = length-set ws i t.write ∙ h.len;
      entries = ap (λ p. p.entries) r ∙ ap (λ u. (q u).entries) (sym same) ∙ ap (λ ds. (passed step earlier es ss ds).entries) (sym d) ∙ h.entries;
      spoiled = ap (λ p. p.spoiled) r ∙ ap (λ u. (q u).spoiled) (sym same) ∙ ap (λ ds. (passed step earlier es ss ds).spoiled) (sym d) ∙ h.spoiled;
      writes =
          ap (λ xs. xs ++ (passed step (reverse (take (i + 1) (set ws i t.write))) t.entries t.spoiled (drop (i + 1) (set ws i t.write))).writes) (take_more_set ws i t.write l)
          ∙ append-assoc (take i ws) t.write _
          ∙ ap (λ p. take i ws ++ t.write ∷ p.writes) r
          ∙ ap (λ u. take i ws ++ u.write ∷ (q u).writes) (sym same)
          ∙ ap (λ ds. take i ws ++ (passed step earlier es ss ds).writes) (sym d)
          ∙ h.writes;
    }

pub record Passed (p : Pass) (es : Keyed Entry) (ss : Keyed Bool) (ws : List Write) : Type 0 where
  pub entries : es ≡ p.entries
  pub spoiled : ss ≡ p.spoiled
  pub writes : ws ≡ p.writes

pub passing_ends : (step : ℕ) (es₀ : Keyed Entry) (ss₀ : Keyed Bool) (ws₀ : List Write) (i : ℕ) (es : Keyed Entry) (ss : Keyed Bool) (ws : List Write) → Passing step es₀ ss₀ ws₀ i es ss ws → length ws ≤ i → Passed (passed step [] es₀ ss₀ ws₀) es ss ws
unfolding passed
passing_ends step es₀ ss₀ ws₀ i es ss ws h l =
    let d = drop_all i ws l in
    record {
      entries = ap (λ ds. (passed step (reverse (take i ws)) es ss ds).entries) (sym d) ∙ h.entries;
      spoiled = ap (λ ds. (passed step (reverse (take i ws)) es ss ds).spoiled) (sym d) ∙ h.spoiled;
      writes = sym (append-nil ws) ∙ ap (λ xs. xs ++ []) (sym (take_all i ws l)) ∙ ap (λ ds. take i ws ++ (passed step (reverse (take i ws)) es ss ds).writes) (sym d) ∙ h.writes;
    }

pub passing_moved : (step : ℕ) (es₀ : Keyed Entry) (ss₀ : Keyed Bool) (ws₀ : List Write) (i j : ℕ) (es fs : Keyed Entry) (ss ts : Keyed Bool) (ws : List Write) (w v : Write) → fs ≡ es → ts ≡ ss → v ≡ w → Passing step es₀ ss₀ ws₀ j es ss (set ws i w) → Passing step es₀ ss₀ ws₀ j fs ts (set ws i v)
passing_moved step es₀ ss₀ ws₀ i j es fs ss ts ws w v p q r h = rw (p, q, r) h

-- a write by the slice of those before it
pub held_before : (ws : List Write) (i : ℕ) (w : Write) → i < length ws → w ≡ get_or ws i w → is_waiting (stage_on w.stage) && list_any (shares w) (take i ws) ≡ is_blocked ws i
held_before ws i w l e =
    ap (λ x. is_waiting (stage_on x.stage) && list_any (shares x) (take i ws)) e ∙ ap (first_blocked (take i ws)) (sym (drop_more ws i w l))
