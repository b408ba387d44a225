-- When a list of bodies fits a list of operations of one kind.
use Rattle.std.proofs.Common.{◌≡◌, ◌≢◌, ℕ, suc, Bool, true, false, List, [], ◌∷◌, length, map, ◌&&◌, ◌==◌, nat_eq, refl, ap, arith, ◌∙◌, sym}
use Rattle.std.specs.List.{list_all}
use Rattle.std.proofs.lemmas.Bool.Decides.{nat_tests}
use Rattle.std.proofs.lemmas.List.{length-map}
use Rattle.etcd_types.specs.declared.key_range.KeyRange.{KeyRange}
use Rattle.etcd_types.specs.declared.operation.Op.{Op}
use Rattle.etcd_types.specs.declared.answer.Body.{Body}
use Rattle.proxy_model.specs.Fits.{fits, fits_all, is_delete}
use Rattle.proxy_model.specs.Guarded.{delete_part, read_owners}
use Rattle.lease_txn.specs.Writes.{are_deletes}

and_false : (b : Bool) → b && false ≡ false
and_false b = grind arith

-- bodies in another number than the operations don't fit
pub fits_all-uneven : (os : List Op) (bs : List Body) → length os ≢ length bs → fits_all os bs ≡ false
fits_all-uneven [] [] u = absurd (u refl)
fits_all-uneven [] (b ∷ bs) u = refl
fits_all-uneven (o ∷ os) [] u = refl
fits_all-uneven (o ∷ os) (b ∷ bs) u =
    ap (λ c. fits o b && c) (fits_all-uneven os bs (λ e. u (omega (arith, e)))) ∙ and_false (fits o b)

pub ruleset of_lengths = (fits_all-uneven)

-- the parts of a range delete
step : (n m : ℕ) (a b : Bool) → a && ((n == m) && b) ≡ (suc n == suc m) && (a && b)
step n m a b = grind (arith, nat_tests)

pub fits_all-parts : (prev_kv : Bool) (rs : List KeyRange) (bs : List Body) → fits_all (map (delete_part prev_kv) rs) bs ≡ are_deletes (length rs) bs
fits_all-parts prev_kv [] [] = refl
fits_all-parts prev_kv [] (b ∷ bs) = grind (arith, nat_tests)
fits_all-parts prev_kv (r ∷ rs) [] = grind (arith, nat_tests)
fits_all-parts prev_kv (r ∷ rs) (b ∷ bs) =
    ap (λ c. is_delete b && c) (fits_all-parts prev_kv rs bs) ∙ step (length bs) (length rs) (is_delete b) (list_all is_delete bs)

pub ruleset of_parts = (fits_all-parts)

-- the reads of ownership keys
pub fits_all-reads : (p : List ℕ) (rs : List KeyRange) (bs : List Body) → length rs ≢ length bs → fits_all (map (read_owners p) rs) bs ≡ false
fits_all-reads p rs bs u = fits_all-uneven (map (read_owners p) rs) bs (λ e. u (sym (length-map rs (read_owners p)) ∙ e))

pub ruleset of_reads = (fits_all-reads)
