-- The call of the first of the owner's own writes goes out: where a call that names its ticket is sent, that is it.
use Rattle.std.proofs.Common.{◌≡◌, inl, inr, ℕ, ◌==◌, Bool, true, false, cond, not, ◌||◌, List, [], ◌∷◌, ◌++◌, Option, None, Some, refl, sym, ◌∙◌, ap, subst}
use Rattle.std.specs.Prelude.{flat_map}
use Rattle.etcd_types.proofs.Bools.{and_first, and_second}
use Rattle.proxy_model.specs.declared.lease.Entry.{Entry}
use Rattle.wait_model.specs.declared.due.DueCall.{DueCall}
use Rattle.wait_model.specs.declared.sending.Sending.TheVariants as sending
use Rattle.wait_model.specs.declared.found.Asking.{Asking}
use Rattle.wait_model.specs.declared.found.Asking.TheVariants as asking
use Rattle.wait_model.specs.declared.found.Found.{Found}
use Rattle.wait_model.specs.declared.write.Write.{Write}
use Rattle.wait_model.specs.declared.write.WriteStage.{WriteStage}
use Rattle.wait_model.specs.declared.write.WriteStage.TheVariants.{Waiting, Sends, Finds}
use Rattle.wait_model.specs.DueOrder.{due_asking, due_found, due_in, due_of, due_calls, is_sooner, sooner, soonest, first_call, first_rescind}
use Rattle.wait_model.specs.Sent.{JobSent, rescind_job, revoke_job, write_job, stage_sent, is_revoke, call_of, call_sent, job_sent_after, job_sent}
use Rattle.wait_model.specs.Stages.{staged}
use Rattle.wait_model.specs.State.{Ownership}
use Rattle.wait_model.specs.Writes.{first_by, with_first, has_ticket}
use Rattle.core_laws.proofs.Writes.Kept.{first_passes}
use Rattle.core_model.specs.Fits.{has_number, once, write_tickets}
use Rattle.core_fits.specs.Fits.{EachOf}
use Rattle.core_laws.proofs.Steps.Lists.{same_number, number_itself}
use Rattle.owned_laws.specs.OwnWrites.{OwnWrite}
use Rattle.owned_laws.proofs.Modes.{Mine, IsMine, AllAlone, behind_as, first_as, phase_as}
use Rattle.owned_laws.proofs.Own.{OverOf, OwnSo}
use Rattle.owned_laws.proofs.Ways.{writes_own}

no_true : {A : Type 0} → false ≡ true → A
no_true e = absurd (cc)

or_none : (a b : Bool) → a || b ≡ false → (a ≡ false) × (b ≡ false)
or_none true b h = absurd (cc)
or_none false b h = (refl, h)

not_true : (b : Bool) → not b ≡ true → b ≡ false
not_true true h = no_true h
not_true false h = refl

or_second : (a b : Bool) → b ≡ true → a || b ≡ true
or_second true b h = refl
or_second false b h = h

clash : {A : Type 0} (b : Bool) → b ≡ true → b ≡ false → A
clash true e f = absurd (cc)
clash false e f = absurd (cc)

-- ---- the write of the ticket

module _ (k : List ℕ) (v : OwnWrite) (vs : List OwnWrite) where
  abbrev t : ℕ
  t = v.ticket

  abbrev due : Bool → Mine
  due c = first_as v None c

  abbrev Over : Bool → List Write → Type 0
  Over c ws = OverOf k (due c ∷ behind_as vs) ws

  its_ticket : (c : Bool) (x : Write) → IsMine (due c) x → (x.ticket == t) ≡ true
  its_ticket c x i = ap (λ (n : ℕ). n == t) i.ticket ∙ number_itself t

  pub has_it : (c : Bool) (ws : List Write) → Over c ws → has_number (write_tickets ws) t ≡ true
  has_it c [] o = absurd o
  has_it c (y ∷ ws) (inl o) = ap (λ (b : Bool). b || has_number (write_tickets ws) t) (its_ticket c y o.0)
  has_it c (y ∷ ws) (inr o) = or_second (y.ticket == t) (has_number (write_tickets ws) t) (has_it c ws o.1)

  -- a write before it has another ticket
  other : (c : Bool) (y : Write) (ws : List Write) → Over c ws → once (write_tickets (y ∷ ws)) ≡ true → (y.ticket == t) ≡ false
  other c y ws o u = by (y.ticket == t) refl
    where
      by : (b : Bool) → (y.ticket == t) ≡ b → b ≡ false
      by true e =
          clash (has_number (write_tickets ws) t) (has_it c ws o)
          (ap (has_number (write_tickets ws)) (sym (same_number y.ticket t e)) ∙ not_true (has_number (write_tickets ws) y.ticket) (and_first (not (has_number (write_tickets ws) y.ticket)) (once (write_tickets ws)) u))
      by false e = refl

  some_write : (x y : Write) → Some x ≡ Some y → x ≡ y
  some_write x y e = cc

  -- the first of the ticket is it
  is_it : (c : Bool) (x : Write) (ws : List Write) → Over c ws → once (write_tickets ws) ≡ true → first_by (has_ticket t) ws ≡ Some x → IsMine (due c) x
  is_it c x [] o u e = absurd o
  is_it c x (y ∷ ws) (inl o) u e = subst (IsMine (due c)) (some_write y x (ap (λ (b : Bool). cond b (Some y) (first_by (has_ticket t) ws)) (sym (its_ticket c y o.0)) ∙ e)) o.0
  is_it c x (y ∷ ws) (inr o) u e =
      is_it c x ws o.1 (and_second (not (has_number (write_tickets ws) y.ticket)) (once (write_tickets ws)) u) (ap (λ (b : Bool). cond b (Some y) (first_by (has_ticket t) ws)) (sym (other c y ws o.1 u)) ∙ e)

  -- it goes out
  goes_out : (call : ℕ) (ws : List Write) → Over true ws → once (write_tickets ws) ≡ true → OverOf k (first_as v (Some call) true ∷ behind_as vs) (with_first (has_ticket t) (Sends true (sending.Out call)) ws)
  goes_out call [] o u = absurd o
  goes_out call (y ∷ ws) (inl o) u =
      subst (λ (b : Bool). OverOf k (first_as v (Some call) true ∷ behind_as vs) (cond b (staged y (Sends true (sending.Out call)) ∷ ws) (y ∷ with_first (has_ticket t) (Sends true (sending.Out call)) ws))) (sym (its_ticket true y o.0))
      (inl (record { ticket = o.0.ticket; request = o.0.request; ranges = o.0.ranges; stage = refl }, (o.1.0, o.1.1)))
  goes_out call (y ∷ ws) (inr o) u =
      subst (λ (b : Bool). OverOf k (first_as v (Some call) true ∷ behind_as vs) (cond b (staged y (Sends true (sending.Out call)) ∷ ws) (y ∷ with_first (has_ticket t) (Sends true (sending.Out call)) ws))) (sym (other true y ws o.1 u))
      (inr (o.0, goes_out call ws o.1 (and_second (not (has_number (write_tickets ws) y.ticket)) (once (write_tickets ws)) u)))

  -- ---- no revoke call is for it, and while it waits no call

  abbrev calls_other : Bool → WriteStage → Bool
  calls_other c Waiting = false
  calls_other c (Sends owner s) = not c
  calls_other c (Finds found) = true

  abbrev FindsOther : Bool → Write → Type 0
  FindsOther c x = calls_other c x.stage ≡ true → (x.ticket == t) ≡ false

  none_it : (c : Bool) (ws : List Write) → has_number (write_tickets ws) t ≡ false → EachOf (FindsOther c) ws
  none_it c [] n = tt
  none_it c (y ∷ ws) n = let o = or_none (y.ticket == t) (has_number (write_tickets ws) t) n in ((λ f. o.0), none_it c ws o.1)

  it_calls : (c : Bool) (y : Write) → IsMine (due c) y → calls_other c y.stage ≡ false
  it_calls true y i = ap (calls_other true) i.stage.1
  it_calls false y i = ap (calls_other false) i.stage

  all_find : (c : Bool) (ws : List Write) → Over c ws → once (write_tickets ws) ≡ true → EachOf (FindsOther c) ws
  all_find c [] o u = absurd o
  all_find c (y ∷ ws) (inl o) u = (
    (λ f. no_true (sym (it_calls c y o.0) ∙ f)),
    none_it c ws (ap (has_number (write_tickets ws)) (sym o.0.ticket) ∙ not_true (has_number (write_tickets ws) y.ticket) (and_first (not (has_number (write_tickets ws) y.ticket)) (once (write_tickets ws)) u)),
  )
  all_find c (y ∷ ws) (inr o) u = ((λ f. other c y ws o.1 u), all_find c ws o.1 (and_second (not (has_number (write_tickets ws) y.ticket)) (once (write_tickets ws)) u))

  abbrev CallSo : Bool → DueCall → Type 0
  CallSo c d = not c || is_revoke d.place.kind ≡ true → (d.place.number == t) ≡ false

  abbrev IfSo : Bool → Option DueCall → Type 0
  IfSo c None = Unit {0}
  IfSo c (Some d) = CallSo c d

  appended : (c : Bool) (ds fs : List DueCall) → EachOf (CallSo c) ds → EachOf (CallSo c) fs → EachOf (CallSo c) (ds ++ fs)
  appended c [] fs a b = b
  appended c (d ∷ ds) fs a b = (a.0, appended c ds fs a.1 b)

  found_so : (c : Bool) (ticket : ℕ) (found : List Found) → (ticket == t) ≡ false → EachOf (CallSo c) (flat_map (due_found ticket) found)
  found_so c ticket [] n = tt
  found_so c ticket (f ∷ fs) n = appended c (due_found ticket f) (flat_map (due_found ticket) fs) (by f.revoke) (found_so c ticket fs n)
    where
      by : (a : Asking) → EachOf (CallSo c) (due_asking ticket f a)
      by (asking.Due since) = ((λ e. n), tt)
      by (asking.Out call) = tt
      by asking.Done = tt

  or_off : (b : Bool) → b || false ≡ true → b ≡ true
  or_off true e = refl
  or_off false e = no_true e

  stage_so : (c : Bool) (ticket : ℕ) (s : WriteStage) → (calls_other c s ≡ true → (ticket == t) ≡ false) → EachOf (CallSo c) (due_in ticket s)
  stage_so c ticket Waiting n = tt
  stage_so c ticket (Sends owner (sending.Due since)) n = ((λ e. n (or_off (not c) e)), tt)
  stage_so c ticket (Sends owner (sending.Out call)) n = tt
  stage_so c ticket (Finds found) n = found_so c ticket found (n refl)

  calls_so : (c : Bool) (ws : List Write) → EachOf (FindsOther c) ws → EachOf (CallSo c) (due_calls ws)
  calls_so c [] f = tt
  calls_so c (x ∷ ws) f = appended c (due_of x) (due_calls ws) (stage_so c x.ticket x.stage f.0) (calls_so c ws f.1)

  soonest_so : (c : Bool) (o : Option DueCall) (ds : List DueCall) → IfSo c o → EachOf (CallSo c) ds → IfSo c (soonest o ds)
  soonest_so c o [] a b = a
  soonest_so c o (d ∷ ds) a b = soonest_so c (Some (sooner o d)) ds (chosen o a) b.1
    where
      either : (i : Bool) (e : DueCall) → CallSo c e → CallSo c (cond i d e)
      either true e x = b.0
      either false e x = x

      chosen : (o : Option DueCall) → IfSo c o → CallSo c (sooner o d)
      chosen None x = b.0
      chosen (Some e) x = either (is_sooner d e) e x

  first_so : (c : Bool) (ws : List Write) → Over c ws → once (write_tickets ws) ≡ true → IfSo c (first_call ws)
  first_so c ws o u = soonest_so c None (due_calls ws) tt (calls_so c ws (all_find c ws o u))

  -- ---- the job

  module _ (n : ℕ) (alone : AllAlone k (behind_as (v ∷ vs))) (e : Entry) (call : ℕ) (own : Ownership) (u : once (write_tickets own.waits.writes) ≡ true) (s : JobSent) (names : s.due.ticket ≡ t) (client : (0 == t) ≡ false) (so : OwnSo (writes_own k n v vs None alone e) own) where
    abbrev Sent : Type 0
    Sent = (writes_own k n v vs None alone e).Outs s.own.waits.out → OwnSo (writes_own k n v vs (Some call) alone e) s.own

    some_sent : (a b : JobSent) → Some a ≡ Some b → a ≡ b
    some_sent a b f = cc

    numbered : (d : DueCall) (x : Write) → x.ticket ≡ s.due.ticket → first_by (has_ticket d.place.number) own.waits.writes ≡ Some x → d.place.number ≡ t
    numbered d x i f = sym (same_number x.ticket d.place.number (first_passes (has_ticket d.place.number) own.waits.writes x f)) ∙ i ∙ names

    -- no call is for it
    not_its : {A : Type 0} (d : DueCall) → d.place.number ≡ t → (d.place.number == t) ≡ false → A
    not_its d number f = clash (d.place.number == t) (ap (λ (i : ℕ). i == t) number ∙ number_itself t) f

    written : (d : DueCall) (x : Write) → (c : Bool) → so.case ≡ c → IfSo c (Some d) → first_by (has_ticket d.place.number) own.waits.writes ≡ Some x → write_job call d x own ≡ s → Sent
    written d x false is i f g = not_its d (numbered d x (ap (λ (j : JobSent). j.due.ticket) g) f) (i refl)
    written d x true is i f g =
        let number : d.place.number ≡ t = numbered d x (ap (λ (j : JobSent). j.due.ticket) g) f in
        let over : Over true own.waits.writes = subst (λ (c : Bool). Over c own.waits.writes) is (so.over refl) in
        let mine = is_it true x own.waits.writes over u (ap (λ (i : ℕ). first_by (has_ticket i) own.waits.writes) (sym number) ∙ f) in
        subst (λ (j : JobSent). (writes_own k n v vs None alone e).Outs j.own.waits.out → OwnSo (writes_own k n v vs (Some call) alone e) j.own) g
        (λ outs. record {
          case = true;
          outs = outs;
          there = tt;
          over = λ y.
              subst (λ (i : ℕ). OverOf k (first_as v (Some call) true ∷ behind_as vs) (with_first (has_ticket i) (stage_sent call x.stage) own.waits.writes)) (sym number)
              (subst (λ (z : WriteStage). OverOf k (first_as v (Some call) true ∷ behind_as vs) (with_first (has_ticket t) z own.waits.writes)) (sym (ap (stage_sent call) mine.stage.1)) (goes_out call own.waits.writes over u));
          mark = λ y. no_true y;
          entry = λ y. so.entry y ∙ ap (λ (c : Bool). Some (record e { phase = phase_as None c })) is;
        })

    revoked : {A : Type 0} (d : DueCall) (x : Write) → IfSo so.case (Some d) → is_revoke d.place.kind ≡ true → first_by (has_ticket d.place.number) own.waits.writes ≡ Some x → revoke_job call d x own ≡ s → A
    revoked d x c r f g = not_its d (numbered d x (ap (λ (j : JobSent). j.due.ticket) g) f) (c (or_second (not so.case) (is_revoke d.place.kind) r))

    by_kind : (d : DueCall) (x : Write) → IfSo so.case (Some d) → first_by (has_ticket d.place.number) own.waits.writes ≡ Some x → (b : Bool) → is_revoke d.place.kind ≡ b → Some (cond b (revoke_job call d x own) (write_job call d x own)) ≡ Some s → Sent
    by_kind d x c f true r g = revoked d x c r f (some_sent (revoke_job call d x own) s g)
    by_kind d x c f false r g = written d x so.case refl c f (some_sent (write_job call d x own) s g)

    by_write : (d : DueCall) → IfSo so.case (Some d) → (o : Option Write) → first_by (has_ticket d.place.number) own.waits.writes ≡ o → call_of call d o own ≡ Some s → Sent
    by_write d c None f g = absurd (cc)
    by_write d c (Some x) f g = by_kind d x c f (is_revoke d.place.kind) refl g

    by_call : (o : Option DueCall) → IfSo so.case o → call_sent call o own ≡ Some s → Sent
    by_call None c g = absurd (cc)
    by_call (Some d) c g = by_write d c (first_by (has_ticket d.place.number) own.waits.writes) refl g

    by_rescind : (o : Option (List ℕ × Entry)) → job_sent_after call o own ≡ Some s → Sent
    by_rescind None g = by_call (first_call own.waits.writes) (first_so so.case own.waits.writes (so.over refl) u) g
    by_rescind (Some x) g = clash (0 == t) (ap (λ (i : ℕ). 0 == i) (sym (ap (λ (j : JobSent). j.due.ticket) (some_sent (rescind_job call x own) s g) ∙ names)) ∙ number_itself 0) client

    pub own_goes_out : job_sent call own ≡ Some s → Sent
    unfolding job_sent
    own_goes_out g = by_rescind (first_rescind own.entries) g
