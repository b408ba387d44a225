-- The write whose own call is sent first is one whose call is due.
use Rattle.std.proofs.Common.{◌≡◌, ℕ, ◌==◌, Bool, true, false, not, cond, ◌&&◌, List, [], ◌∷◌, ◌++◌, Option, None, Some, refl, sym, ◌∙◌, ap}
use Rattle.std.specs.List.{flat_map}
use Rattle.std.specs.Prelude.{unwrap_or}
use Rattle.etcd_types.proofs.Bools.{and_first, and_second, or_first, or_second, not_true}
use Rattle.wait_model.specs.declared.due.DueCall.{DueCall}
use Rattle.wait_model.specs.declared.found.Asking.{Asking}
use Rattle.wait_model.specs.declared.found.Asking.TheVariants as asking
use Rattle.wait_model.specs.declared.found.Found.{Found}
use Rattle.wait_model.specs.declared.sending.Sending.{Sending}
use Rattle.wait_model.specs.declared.sending.Sending.TheVariants as sending
use Rattle.wait_model.specs.declared.write.Write.{Write}
use Rattle.wait_model.specs.declared.write.WriteStage.{WriteStage}
use Rattle.wait_model.specs.declared.write.WriteStage.TheVariants.{Waiting, Sends, Finds}
use Rattle.wait_model.specs.DueOrder.{first_call, is_sooner, sooner, soonest, due_asking, due_found, due_own, due_in, due_of, due_calls}
use Rattle.wait_model.specs.Sent.{is_revoke}
use Rattle.wait_model.specs.Stages.{is_due}
use Rattle.wait_model.specs.Writes.{first_by, has_ticket}
use Rattle.core_model.specs.Fits.{has_number, once, write_tickets}
use Rattle.core_laws.proofs.Steps.Lists.{number_itself, number_turned}
use Rattle.core_fits.specs.Fits.{EachOf}

abbrev IsFirst : List Write → Write → Type 0
IsFirst ws x = first_by (has_ticket x.ticket) ws ≡ Some x

-- tickets stand once, so the first of a write's ticket is this write
firsts : (ws : List Write) → once (write_tickets ws) ≡ true → EachOf (IsFirst ws) ws
firsts [] h = tt
firsts (w ∷ ws) h = (
  ap (λ b. cond b (Some w) (first_by (has_ticket w.ticket) ws)) (number_itself w.ticket),
  behind ws (not_true (has_number (write_tickets ws) w.ticket) (and_first (not (has_number (write_tickets ws) w.ticket)) (once (write_tickets ws)) h)) (firsts ws (and_second (not (has_number (write_tickets ws) w.ticket)) (once (write_tickets ws)) h)),
)
  where
    behind : (xs : List Write) → has_number (write_tickets xs) w.ticket ≡ false → EachOf (IsFirst ws) xs → EachOf (IsFirst (w ∷ ws)) xs
    behind [] n f = tt
    behind (x ∷ xs) n f =
        (ap (λ b. cond b (Some w) (first_by (has_ticket x.ticket) ws)) (number_turned x.ticket w.ticket (or_first (x.ticket == w.ticket) (has_number (write_tickets xs) w.ticket) n)) ∙ f.0, behind xs (or_second (x.ticket == w.ticket) (has_number (write_tickets xs) w.ticket) n) f.1)

-- where it is no revoke call, the write of its ticket is due
abbrev pub OwnDue : List Write → DueCall → Type 0
OwnDue ws d = is_revoke d.place.kind ≡ false → (w : Write) → first_by (has_ticket d.place.number) ws ≡ Some w → is_due w.stage ≡ true

module _ (ws : List Write) where
  abbrev AllDue : List DueCall → Type 0
  AllDue ds = EachOf (OwnDue ws) ds

  appended : (ds fs : List DueCall) → AllDue ds → AllDue fs → AllDue (ds ++ fs)
  appended [] fs a b = b
  appended (d ∷ ds) fs a b = (a.0, appended ds fs a.1 b)

  own_due : (x : Write) (owner : Bool) (s : Sending) → IsFirst ws x → x.stage ≡ Sends owner s → AllDue (due_own x.ticket s)
  own_due x owner (sending.Due since) f e = (λ n w g. ap is_due (ap (λ (y : Write). y.stage) (ap (λ (o : Option Write). unwrap_or o x) (sym g ∙ f)) ∙ e), tt)
  own_due x owner (sending.Out call) f e = tt

  found_due : (ticket : ℕ) (found : List Found) → AllDue (flat_map (due_found ticket) found)
  found_due ticket [] = tt
  found_due ticket (f ∷ fs) = appended (due_found ticket f) (flat_map (due_found ticket) fs) (by f.revoke) (found_due ticket fs)
    where
      by : (a : Asking) → AllDue (due_asking ticket f a)
      by (asking.Due since) = (λ n. absurd (cc), tt)
      by (asking.Out call) = tt
      by asking.Done = tt

  stage_due : (x : Write) (s : WriteStage) → IsFirst ws x → x.stage ≡ s → AllDue (due_in x.ticket s)
  stage_due x Waiting f e = tt
  stage_due x (Sends owner s) f e = own_due x owner s f e
  stage_due x (Finds found) f e = found_due x.ticket found

  calls_due : (xs : List Write) → EachOf (IsFirst ws) xs → AllDue (due_calls xs)
  calls_due [] f = tt
  calls_due (x ∷ xs) f = appended (due_of x) (due_calls xs) (stage_due x x.stage f.0 refl) (calls_due xs f.1)

  abbrev pub If : Option DueCall → Type 0
  If None = Unit {0}
  If (Some d) = OwnDue ws d

  soonest_due : (o : Option DueCall) (ds : List DueCall) → If o → AllDue ds → If (soonest o ds)
  soonest_due o [] a b = a
  soonest_due o (d ∷ ds) a b = soonest_due (Some (sooner o d)) ds (chosen o a) b.1
    where
      either : (t : Bool) (e : DueCall) → OwnDue ws e → OwnDue ws (cond t d e)
      either true e x = b.0
      either false e x = x

      chosen : (o : Option DueCall) → If o → OwnDue ws (sooner o d)
      chosen None x = b.0
      chosen (Some e) x = either (is_sooner d e) e x

  pub first_own : once (write_tickets ws) ≡ true → If (first_call ws)
  first_own h = soonest_due None (due_calls ws) tt (calls_due ws (firsts ws h))
