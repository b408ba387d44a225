-- What keeps a write of single keys waiting by its own keys alone.
use Rattle.std.proofs.Common.{◌≡◌, ℕ, zero, suc, ◌<◌, Bool, true, false, not, cond, ◌&&◌, ◌||◌, List, [], ◌∷◌, length, get_or, is_some, refl, sym, ◌∙◌, ap, arith}
use Rattle.std.specs.List.{list_all, list_any}
use Rattle.etcd_types.specs.declared.key_range.KeyRange.{KeyRange}
use Rattle.etcd_types.specs.Keys.{same, up_to, before, is_zero}
use Rattle.etcd_types.specs.Ranges.{is_one, contains}
use Rattle.etcd_types.proofs.Bools.{and_first, and_second, or_first, or_second, not_true}
use Rattle.etcd_types.proofs.KeyOrder.{same-equal}
use Rattle.proxy_model.specs.declared.lease.Entry.{Entry}
use Rattle.proxy_model.specs.Keyed.{Keyed, at}
use Rattle.wait_model.specs.declared.write.Write.{Write}
use Rattle.wait_model.specs.Covers.{covered, is_by_keys, leased}
use Rattle.wait_model.specs.Edits.{each}
use Rattle.wait_model.specs.Passes.{goes, turn_if}
use Rattle.wait_model.specs.Phases.{is_leaving, let_go}
use Rattle.wait_model.specs.SeveralKeys.{by_ranges}
use Rattle.wait_model.specs.SingleKeys.{Turn, any_key, let_go_leased, begun_over, keys_begun, by_keys}
use Rattle.wait_model.specs.Stages.{is_waiting, staged, stage_on, gone_on}
use Rattle.revoke_core.specs.Keeping.{keys_keep, is_kept, StaysAlike}
use Rattle.revoke_core.specs.Steps.{is_blocked}

of_one : (r : KeyRange) (k : List ℕ) → is_one r ≡ true → contains r k ≡ same k r.key
of_one r k h =
    ap (λ b. cond b (same k r.key) (cond (is_zero r.end) (is_zero r.key || up_to r.key k) (up_to r.key k && before k r.end))) h

not_leased : (rs : List KeyRange) (q : List ℕ → Bool) (k : List ℕ) → list_all is_one rs ≡ true → list_any (λ r. q r.key) rs ≡ false → covered rs k && q k ≡ false
not_leased [] q k h n = refl
not_leased (r ∷ rs) q k h n =
    ap (λ b. (b || covered rs k) && q k) (of_one r k (and_first (is_one r) (list_all is_one rs) h)) ∙
    one (not_leased rs q k (and_second (is_one r) (list_all is_one rs) h) (or_second (q r.key) (list_any (λ s. q s.key) rs) n)) (same k r.key) refl
  where
    one : covered rs k && q k ≡ false → (b : Bool) → same k r.key ≡ b → (b || covered rs k) && q k ≡ false
    one rest true s = ap q (same-equal k r.key s) ∙ or_first (q r.key) (list_any (λ s. q s.key) rs) n
    one rest false s = rest

none_let_go : (v : Write) (es : Keyed Entry) → is_by_keys v ≡ true → any_key v (leased v.request) ≡ false → each (let_go_leased v) es ≡ es
none_let_go v [] k n = refl
none_let_go v (e ∷ es) k n = λ i.
    (e.0, ap (λ b. cond b (let_go e.1) e.1) (not_leased v.ranges (leased v.request) e.0 k n) i) ∷ none_let_go v es k n i

abbrev as_it_is : Keyed Entry → Keyed Bool → Write → Turn
as_it_is es ss v = record { entries = es; spoiled = ss; write = v }

keys_stay : (step : ℕ) (es : Keyed Entry) (ss : Keyed Bool) (v : Write) → is_by_keys v ≡ true → keys_keep es ss v ≡ true → by_keys step es ss v ≡ as_it_is es ss v
keys_stay step es ss v k h = one (any_key v (λ k. is_some (at ss k))) h
  where
    leaves : Bool
    leaves = any_key v (λ k. is_leaving (at es k))

    one : (c : Bool) → c || (any_key v (λ k. is_leaving (at es k)) && not (any_key v (leased v.request))) ≡ true → cond c (as_it_is es ss v) (keys_begun step (each (let_go_leased v) es) ss v) ≡ as_it_is es ss v
    one true h = refl
    one false h =
        ap (λ (fs : Keyed Entry). keys_begun step fs ss v) (none_let_go v es k (not_true (any_key v (leased v.request)) (and_second leaves (not (any_key v (leased v.request))) h))) ∙
        ap (λ b. cond b (as_it_is es ss v) (record { entries = each (begun_over v) es; spoiled = ss; write = gone_on step (any_key v (λ k. is_some (at es k))) v })) (and_first leaves (not (any_key v (leased v.request))) h)

either : (b : Bool) (t u : Turn) → t ≡ u → cond b t u ≡ u
either true t u e = e
either false t u e = refl

as_kept : (step : ℕ) (b : Bool) (es : Keyed Entry) (ss : Keyed Bool) (w : Write) → is_by_keys w ≡ true → keys_keep es ss w ≡ true → turn_if step b es ss w ≡ as_it_is es ss (staged w (stage_on w.stage))
as_kept step b es ss w k h =
    let v = staged w (stage_on w.stage) in
    let still : goes step es ss v ≡ as_it_is es ss v = ap (λ c. cond c (by_keys step es ss v) (by_ranges step es ss v)) k ∙ keys_stay step es ss v k h in
    either (is_waiting (stage_on w.stage) && not b) (goes step es ss v) (as_it_is es ss v) still

one_write : (ws : List Write) (i : ℕ) (v w : Write) → i < length ws → v ≡ get_or ws i v → w ≡ get_or ws i w → v ≡ w
one_write [] i v w l e f = absurd (omega arith)
one_write (x ∷ ws) zero v w l e f = e ∙ sym f
one_write (x ∷ ws) (suc i) v w l e f = one_write ws i v w (omega arith) e f

pub kept_here : (ws : List Write) (i : ℕ) (v : Write) (es : Keyed Entry) (ss : Keyed Bool) → i < length ws → v ≡ get_or ws i v → is_kept es ss v ≡ true → StaysAlike true ws i es ss
kept_here ws i v es ss l e h = λ step w f.
    let own = ap (λ (x : Write). is_kept es ss x) (sym (one_write ws i v w l e f)) ∙ h in
    let keys = and_second (is_waiting (stage_on w.stage)) (is_by_keys w) (and_first (is_waiting (stage_on w.stage) && is_by_keys w) (keys_keep es ss w) own) in
    let keep = and_second (is_waiting (stage_on w.stage) && is_by_keys w) (keys_keep es ss w) own in
    as_kept step true es ss w keys keep ∙ sym (as_kept step (is_blocked ws i) es ss w keys keep)

pub blocked_here : (ws : List Write) (i : ℕ) (b : Bool) (es : Keyed Entry) (ss : Keyed Bool) → b ≡ is_blocked ws i → StaysAlike b ws i es ss
blocked_here ws i b es ss g = λ step w f. ap (λ c. turn_if step c es ss w) g
