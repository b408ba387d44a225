-- What holds of the first due call of the writes: a revoke call names what was found, and a write's own call is that of its write.
use Rattle.std.proofs.Common.{◌≡◌, ℕ, ◌==◌, Bool, true, false, cond, not, List, [], ◌∷◌, ◌++◌, Option, None, Some, unwrap_or, refl, sym, ◌∙◌, ap, subst}
use Rattle.std.specs.List.{list_all, flat_map}
use Rattle.std.specs.Ordering.{nat_cmp, is_eq, is_lt}
use Rattle.std.specs.Cmp.Lexicographic.{slice_cmp}
use Rattle.std.specs.FinMap.Entries.{below_all, is_sorted}
use Rattle.std.specs.declared.cmp.Ordering.{Ordering}
use Rattle.std.specs.declared.cmp.Ordering.TheVariants.{Less, Equal, Greater}
use Rattle.etcd_types.specs.Keys.{same}
use Rattle.etcd_types.proofs.Bools.{and_first, and_second, not_true, or_first, or_second}
use Rattle.etcd_types.proofs.KeyOrder.{same-equal, same-itself}
use Rattle.proxy_model.specs.declared.lease.Entry.{Entry}
use Rattle.proxy_model.specs.Keyed.{Keyed, at, is_in_order}
use Rattle.wait_model.specs.declared.due.DueCall.{DueCall}
use Rattle.wait_model.specs.declared.due.JobKind.{JobKind}
use Rattle.wait_model.specs.declared.due.JobKind.TheVariants as kind
use Rattle.wait_model.specs.declared.found.Asking.{Asking}
use Rattle.wait_model.specs.declared.found.Asking.TheVariants as asking
use Rattle.wait_model.specs.declared.found.Found.{Found}
use Rattle.wait_model.specs.declared.sending.Sending.{Sending}
use Rattle.wait_model.specs.declared.sending.Sending.TheVariants as sending
use Rattle.wait_model.specs.declared.write.Write.{Write}
use Rattle.wait_model.specs.declared.write.WriteStage.{WriteStage}
use Rattle.wait_model.specs.declared.write.WriteStage.TheVariants.{Waiting, Sends, Finds}
use Rattle.wait_model.specs.DueOrder.{is_sooner, due_own, due_asking, due_found, due_in, due_of, due_calls, sooner, soonest, first_call, first_rescind}
use Rattle.wait_model.specs.Phases.{is_rescind_due}
use Rattle.wait_model.specs.Stages.{is_due}
use Rattle.wait_model.specs.Writes.{first_by, has_ticket}
use Rattle.core_model.specs.Fits.{has_number, once, write_tickets}
use Rattle.core_laws.proofs.Steps.Lists.{number_itself, number_turned}
use Rattle.core_fits.specs.Fits.{EachOf}
use Rattle.owner_fits.specs.Names.{is_named, found_named, stage_named}

-- A rescind: the entry stands at its key.

none_below : {A : Type 0} (k : List ℕ) (es : Keyed A) → below_all (slice_cmp nat_cmp) k es ≡ true → at es k ≡ None
none_below k [] h = refl
none_below k (e ∷ es) h = by (slice_cmp nat_cmp k e.0) (and_first (is_lt (slice_cmp nat_cmp k e.0)) (below_all (slice_cmp nat_cmp) k es) h) (none_below k es (and_second (is_lt (slice_cmp nat_cmp k e.0)) (below_all (slice_cmp nat_cmp) k es) h))
  where
    by : (o : Ordering) → is_lt o ≡ true → at es k ≡ None → cond (is_eq o) (Some e.1) (at es k) ≡ None
    by Less t n = n
    by Equal t n = absurd (cc)
    by Greater t n = absurd (cc)

abbrev pub IsRescind : Keyed Entry → List ℕ × Entry → Type 0
IsRescind es e = (at es e.0 ≡ Some e.1) × (is_rescind_due e.1 ≡ true)

pub rescind_stands : (es : Keyed Entry) (e : List ℕ × Entry) → is_in_order es ≡ true → first_rescind es ≡ Some e → IsRescind es e
rescind_stands [] e s f = absurd (cc)
rescind_stands (x ∷ xs) e s f = by_head (λ g. rescind_stands xs e (and_second (below_all (slice_cmp nat_cmp) x.0 xs) (is_sorted (slice_cmp nat_cmp) xs) s) g) (is_rescind_due x.1) refl f
  where
    below : at xs x.0 ≡ None
    below = none_below x.0 xs (and_first (below_all (slice_cmp nat_cmp) x.0 xs) (is_sorted (slice_cmp nat_cmp) xs) s)

    later : at xs e.0 ≡ Some e.1 → (b : Bool) → same e.0 x.0 ≡ b → at (x ∷ xs) e.0 ≡ Some e.1
    later i true t = absurd (let n : at xs e.0 ≡ None = ap (at xs) (same-equal e.0 x.0 t) ∙ below in let m : None ≡ Some e.1 = sym n ∙ i in cc)
    later i false t = ap (λ b. cond b (Some x.1) (at xs e.0)) t ∙ i

    by_head : (first_rescind xs ≡ Some e → IsRescind xs e) → (b : Bool) → is_rescind_due x.1 ≡ b → cond b (Some x) (first_rescind xs) ≡ Some e → IsRescind (x ∷ xs) e
    by_head more true t g = subst (λ (y : List ℕ × Entry). IsRescind (x ∷ xs) y) (ap (λ (o : Option (List ℕ × Entry)). unwrap_or o x) g) (ap (λ b. cond b (Some x.1) (at xs x.0)) (same-itself x.0), t)
    by_head more false t g = let m = more g in (later m.0 (same e.0 x.0) refl, m.1)

-- Tickets stand once, so the first of a write's ticket is this write.

abbrev IsFirst : List Write → Write → Type 0
IsFirst ws x = first_by (has_ticket x.ticket) ws ≡ Some x

firsts : (ws : List Write) → once (write_tickets ws) ≡ true → EachOf (IsFirst ws) ws
firsts [] h = tt
firsts (w ∷ ws) h = (
  ap (λ b. cond b (Some w) (first_by (has_ticket w.ticket) ws)) (number_itself w.ticket),
  behind ws (not_true (has_number (write_tickets ws) w.ticket) (and_first (not (has_number (write_tickets ws) w.ticket)) (once (write_tickets ws)) h)) (firsts ws (and_second (not (has_number (write_tickets ws) w.ticket)) (once (write_tickets ws)) h)),
)
  where
    behind : (xs : List Write) → has_number (write_tickets xs) w.ticket ≡ false → EachOf (IsFirst ws) xs → EachOf (IsFirst (w ∷ ws)) xs
    behind [] n f = tt
    behind (x ∷ xs) n f =
        (ap (λ b. cond b (Some w) (first_by (has_ticket x.ticket) ws)) (number_turned x.ticket w.ticket (or_first (x.ticket == w.ticket) (has_number (write_tickets xs) w.ticket) n)) ∙ f.0, behind xs (or_second (x.ticket == w.ticket) (has_number (write_tickets xs) w.ticket) n) f.1)

-- Due calls.

abbrev pub CallIs : List Write → DueCall → JobKind → Type 0
CallIs ws d kind.Revoke = is_named d.key d.create ≡ true
CallIs ws d kind.Call = (w : Write) → first_by (has_ticket d.place.number) ws ≡ Some w → is_due w.stage ≡ true
CallIs ws d kind.Close = ⊥
CallIs ws d kind.Open = ⊥

abbrev pub CallFits : List Write → DueCall → Type 0
CallFits ws d = CallIs ws d d.place.kind

pub revoke_names : (ws : List Write) (d : DueCall) → CallFits ws d → d.place.kind ≡ kind.Revoke → is_named d.key d.create ≡ true
revoke_names ws d h e = subst (CallIs ws d) e h

module _ (ws : List Write) where
  abbrev All : List DueCall → Type 0
  All [] = Unit {0}
  All (d ∷ ds) = CallFits ws d × All ds

  appended : (ds fs : List DueCall) → All ds → All fs → All (ds ++ fs)
  appended [] fs a b = b
  appended (d ∷ ds) fs a b = (a.0, appended ds fs a.1 b)

  own_fits : (x : Write) (owner : Bool) (s : Sending) → IsFirst ws x → x.stage ≡ Sends owner s → All (due_own x.ticket s)
  own_fits x owner (sending.Due since) f e = ((λ w g. ap is_due (ap (λ (y : Write). y.stage) (ap (λ (o : Option Write). unwrap_or o x) (sym g ∙ f)) ∙ e)), tt)
  own_fits x owner (sending.Out call) f e = tt

  found_fits : (ticket : ℕ) (found : List Found) → list_all found_named found ≡ true → All (flat_map (due_found ticket) found)
  found_fits ticket [] h = tt
  found_fits ticket (f ∷ fs) h = appended (due_found ticket f) (flat_map (due_found ticket) fs) (by f.revoke) (found_fits ticket fs (and_second (found_named f) (list_all found_named fs) h))
    where
      by : (a : Asking) → All (due_asking ticket f a)
      by (asking.Due since) = (and_first (found_named f) (list_all found_named fs) h, tt)
      by (asking.Out call) = tt
      by asking.Done = tt

  stage_fits : (x : Write) (s : WriteStage) → IsFirst ws x → x.stage ≡ s → stage_named s ≡ true → All (due_in x.ticket s)
  stage_fits x Waiting f e h = tt
  stage_fits x (Sends owner s) f e h = own_fits x owner s f e
  stage_fits x (Finds found) f e h = found_fits x.ticket found h

  calls_fit : (xs : List Write) → EachOf (IsFirst ws) xs → list_all (λ w. stage_named w.stage) xs ≡ true → All (due_calls xs)
  calls_fit [] f h = tt
  calls_fit (x ∷ xs) f h =
      appended (due_of x) (due_calls xs) (stage_fits x x.stage f.0 refl (and_first (stage_named x.stage) (list_all (λ w. stage_named w.stage) xs) h)) (calls_fit xs f.1 (and_second (stage_named x.stage) (list_all (λ w. stage_named w.stage) xs) h))

  abbrev If : Option DueCall → Type 0
  If None = Unit {0}
  If (Some d) = CallFits ws d

  soonest_fits : (o : Option DueCall) (ds : List DueCall) → If o → All ds → If (soonest o ds)
  soonest_fits o [] a b = a
  soonest_fits o (d ∷ ds) a b = soonest_fits (Some (sooner o d)) ds (chosen o a) b.1
    where
      either : (t : Bool) (e : DueCall) → CallFits ws e → CallFits ws (cond t d e)
      either true e x = b.0
      either false e x = x

      chosen : (o : Option DueCall) → If o → CallFits ws (sooner o d)
      chosen None x = b.0
      chosen (Some e) x = either (is_sooner d e) e x

  pub first_fits : (d : DueCall) → once (write_tickets ws) ≡ true → list_all (λ w. stage_named w.stage) ws ≡ true → first_call ws ≡ Some d → CallFits ws d
  first_fits d h n e = subst If e (soonest_fits None (due_calls ws) tt (calls_fit ws (firsts ws h) n))
