-- What the sending of a write's call or of a revoke call makes of the writes, as far as the view and later answers read it.
use Rattle.std.proofs.Common.{◌≡◌, ℕ, Bool, true, false, cond, List, [], ◌∷◌, Option, None, Some, unwrap_or, refl, sym, ◌∙◌, ap, subst}
use Rattle.std.specs.List.{list_all, list_any}
use Rattle.etcd_types.specs.declared.request.Request.{Request}
use Rattle.etcd_types.proofs.Bools.{and_first, and_second, or_first, or_second, or_none}
use Rattle.proxy_model.specs.declared.lease.Entry.{Entry}
use Rattle.proxy_model.specs.declared.lease.Phase.{Phase}
use Rattle.proxy_model.specs.declared.lease.Phase.TheVariants.{Held, Writing, Leaving}
use Rattle.proxy_model.specs.SeveralKeys.{written_ranges}
use Rattle.wait_model.specs.declared.write.Write.{Write}
use Rattle.wait_model.specs.declared.write.WriteStage.{WriteStage}
use Rattle.wait_model.specs.declared.write.WriteStage.TheVariants.{Waiting, Sends, Finds}
use Rattle.wait_model.specs.Covers.{covers}
use Rattle.wait_model.specs.Fits.{stage_over}
use Rattle.wait_model.specs.Sent.{stage_revoking}
use Rattle.wait_model.specs.Stages.{staged}
use Rattle.wait_model.specs.Writes.{first_by, with_first, stage_sends, sends}
use Rattle.core_laws.proofs.Writes.FoundWrite.{head_found, rest_found}
use Rattle.core_model.specs.Fits.{HaveRanges}
use Rattle.core_laws.proofs.Steps.Comes.{by_test}
use Rattle.row_laws.specs.Rows.{write_number, written_in, written_by}

-- of all writes, of the first that passes

pub first_has : (P p : Write → Bool) (w : Write) (ws : List Write) → first_by p ws ≡ Some w → list_all P ws ≡ true → P w ≡ true
first_has P p w [] f h = absurd (cc)
first_has P p w (x ∷ xs) f h =
    by_test (λ (o : Option Write). o ≡ Some w → P w ≡ true) (p x) (Some x) (first_by p xs) (λ t g. subst (λ (y : Write). P y ≡ true) (ap (λ (o : Option Write). unwrap_or o x) g) (and_first (P x) (list_all P xs) h))
    (λ t g. first_has P p w xs g (and_second (P x) (list_all P xs) h)) f

pub first_ranges : (p : Write → Bool) (w : Write) (ws : List Write) → first_by p ws ≡ Some w → HaveRanges ws → w.ranges ≡ written_ranges w.request
first_ranges p w [] f h = absurd (cc)
first_ranges p w (x ∷ xs) f h =
    by_test (λ (o : Option Write). o ≡ Some w → w.ranges ≡ written_ranges w.request) (p x) (Some x) (first_by p xs) (λ t g. subst (λ (y : Write). y.ranges ≡ written_ranges y.request) (ap (λ (o : Option Write). unwrap_or o x) g) h.0)
    (λ t g. first_ranges p w xs g h.1) f

-- The slots: a revoke call isn't seen.

pub same_written : (own : ℕ → ℕ) (s t : WriteStage) → write_number own s ≡ write_number own t → (e : Option Entry) → written_by own s e ≡ written_by own t e
same_written own s t n None = refl
same_written own s t n (Some e) = by e.phase
  where
    by : (x : Phase) → written_in own s x ≡ written_in own t x
    by Held = refl
    by (Writing revoked) = n
    by (Leaving sent) = refl

revoking_number : (own : ℕ → ℕ) (call : ℕ) (k : List ℕ) (s : WriteStage) → write_number own (stage_revoking call k s) ≡ write_number own s
revoking_number own call k Waiting = refl
revoking_number own call k (Sends owner s) = refl
revoking_number own call k (Finds found) = refl

over_either : (own : ℕ → ℕ) (b : Bool) (s t u x : WriteStage) → write_number own s ≡ write_number own t → write_number own u ≡ write_number own x → write_number own (cond b s u) ≡ write_number own (cond b t x)
over_either own true s t u x e f = e
over_either own false s t u x e f = f

pub over_revoking : (own : ℕ → ℕ) (call : ℕ) (key : List ℕ) (p : Write → Bool) (w : Write) (k : List ℕ) (ws : List Write) → first_by p ws ≡ Some w → write_number own (stage_over k (with_first p (stage_revoking call key w.stage) ws)) ≡ write_number own (stage_over k ws)
over_revoking own call key p w k [] f = absurd (cc)
over_revoking own call key p w k (x ∷ xs) f =
    by_test (λ (us : List Write). write_number own (stage_over k us) ≡ write_number own (stage_over k (x ∷ xs))) (p x) (staged x (stage_revoking call key w.stage) ∷ xs) (x ∷ with_first p (stage_revoking call key w.stage) xs)
    (λ t. over_either own (covers x k) (stage_revoking call key w.stage) x.stage (stage_over k xs) (stage_over k xs) (revoking_number own call key w.stage ∙ ap (λ (y : Write). write_number own y.stage) (sym (head_found p x w xs t f))) refl)
    (λ t. over_either own (covers x k) x.stage x.stage (stage_over k (with_first p (stage_revoking call key w.stage) xs)) (stage_over k xs) refl (over_revoking own call key p w k xs (rest_found p x w xs t f)))

-- Which write sends the call.

pub sends_none : (n : ℕ) (ws : List Write) → list_any (sends n) ws ≡ false → (y : Write) → first_by (sends n) ws ≡ Some y → ⊥
sends_none n [] h y f = let x : None ≡ Some y = f in cc
sends_none n (w ∷ ws) h y f = by (λ g. sends_none n ws (or_second (sends n w) (list_any (sends n) ws) h) y g) (sends n w) (or_first (sends n w) (list_any (sends n) ws) h) f
  where
    by : (first_by (sends n) ws ≡ Some y → ⊥) → (b : Bool) → b ≡ false → cond b (Some w) (first_by (sends n) ws) ≡ Some y → ⊥
    by more true e g = absurd (cc)
    by more false e g = more g

revoking_sends : (n call : ℕ) (k : List ℕ) (s : WriteStage) → stage_sends n (stage_revoking call k s) ≡ stage_sends n s
revoking_sends n call k Waiting = refl
revoking_sends n call k (Sends owner s) = refl
revoking_sends n call k (Finds found) = refl

pub revoking_none : (n call : ℕ) (key : List ℕ) (p : Write → Bool) (w : Write) (ws : List Write) → first_by p ws ≡ Some w → list_any (sends n) ws ≡ false → list_any (sends n) (with_first p (stage_revoking call key w.stage) ws) ≡ false
revoking_none n call key p w [] f h = absurd (cc)
revoking_none n call key p w (x ∷ xs) f h =
    by_test (λ (us : List Write). list_any (sends n) us ≡ false) (p x) (staged x (stage_revoking call key w.stage) ∷ xs) (x ∷ with_first p (stage_revoking call key w.stage) xs)
    (λ t. or_none (stage_sends n (stage_revoking call key w.stage)) (list_any (sends n) xs) (revoking_sends n call key w.stage ∙ ap (λ (y : Write). sends n y) (sym (head_found p x w xs t f)) ∙ or_first (sends n x) (list_any (sends n) xs) h) (or_second (sends n x) (list_any (sends n) xs) h))
    (λ t. or_none (sends n x) (list_any (sends n) (with_first p (stage_revoking call key w.stage) xs)) (or_first (sends n x) (list_any (sends n) xs) h) (revoking_none n call key p w xs (rest_found p x w xs t f) (or_second (sends n x) (list_any (sends n) xs) h)))

-- where nobody sent it, it is that of the write that is staged
pub sent_is : (n : ℕ) (p : Write → Bool) (w : Write) (s : WriteStage) (ws : List Write) → first_by p ws ≡ Some w → list_any (sends n) ws ≡ false → (y : Write) → first_by (sends n) (with_first p s ws) ≡ Some y → y.request ≡ w.request
sent_is n p w s [] f h y g = absurd (cc)
sent_is n p w s (x ∷ xs) f h y g =
    by_test (λ (us : List Write). first_by (sends n) us ≡ Some y → y.request ≡ w.request) (p x) (staged x s ∷ xs) (x ∷ with_first p s xs)
    (λ t. here (head_found p x w xs t f) (stage_sends n s))
    (λ t. later (sends n x) (or_first (sends n x) (list_any (sends n) xs) h) (sent_is n p w s xs (rest_found p x w xs t f) (or_second (sends n x) (list_any (sends n) xs) h) y)) g
  where
    request_in : Option Write → Request
    request_in None = w.request
    request_in (Some z) = z.request

    here : x ≡ w → (b : Bool) → cond b (Some (staged x s)) (first_by (sends n) xs) ≡ Some y → y.request ≡ w.request
    here e true i = sym (ap request_in i) ∙ ap (λ (z : Write). z.request) e
    here e false i = absurd (sends_none n xs (or_second (sends n x) (list_any (sends n) xs) h) y i)

    later : (b : Bool) → b ≡ false → (first_by (sends n) (with_first p s xs) ≡ Some y → y.request ≡ w.request) → cond b (Some x) (first_by (sends n) (with_first p s xs)) ≡ Some y → y.request ≡ w.request
    later true e i j = absurd (cc)
    later false e i j = i j
