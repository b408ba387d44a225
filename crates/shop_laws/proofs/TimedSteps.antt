-- Each step of the machine leaves each lease with its deadline.
use Rattle.std.proofs.Common.{◌≡◌, ℕ, ◌==◌, ◌-◌, nat_lt, ◌||◌, Bool, true, false, cond, List, [], ◌∷◌, map, set, Option, None, Some, Result, Ok, Err, refl, sym, ap, subst, ◌∙◌, inl, inr}
use Rattle.etcd_types.specs.declared.request.Request.{Request}
use Rattle.etcd_types.specs.declared.request.Request.TheVariants as request
use Rattle.etcd_types.specs.declared.operation.Op.{Op}
use Rattle.etcd_types.specs.declared.answer.Body.{Body}
use Rattle.etcd_types.specs.declared.watch.Event.{Event}
use Rattle.store_model.specs.declared.store_fault.StoreFault.{StoreFault}
use Rattle.store_model.specs.declared.store_fault.StoreFault.TheVariants as fault
use Rattle.store_model.specs.declared.watch.OpenWatch.{OpenWatch}
use Rattle.store_model.specs.History.{newest}
use Rattle.store_model.specs.State.{State, applied_by}
use Rattle.store_model.specs.Leases.{lease_number, expired, ended, granted, granted_lease, granted_ttl, asked_number}
use Rattle.store_model.specs.Members.{applied, lacks_member}
use Rattle.store_model.specs.Transactions.{has_lease}
use Rattle.store_model.specs.Step.{Step, exec}
use Rattle.store_model.specs.Watches.{Pushed, pushed, push_to, push_events, events_for, for_watch, watch_of}
use Rattle.store_laws.proofs.Requests.StepCases.{StepCases, exec_by, op_of}
use Rattle.shop_model.specs.declared.deadline.Deadline.{Deadline}
use Rattle.shop_model.specs.declared.event.StoreEvent.{StoreEvent}
use Rattle.shop_model.specs.declared.event.StoreEvent.TheVariants.{Exec, Open, Push}
use Rattle.shop_model.specs.declared.event.StoreOutcome.{StoreOutcome}
use Rattle.shop_model.specs.declared.event.StoreStepFault.{StoreStepFault}
use Rattle.shop_model.specs.declared.event.StoreStepFault.TheVariants as step
use Rattle.shop_model.specs.Deadlines.{due, ends_at, without_deadline}
use Rattle.shop_model.specs.Shop.{Shop, taken, lease_ended, all_ended, caught_up, settled}
use Rattle.shop_model.specs.Steps.{Begun, Stepped, does, with_pushed, deadlines_by, deadlines_after}
use Rattle.shop_model.specs.Timed.{AreTimed, IsTimed}
use Rattle.shop_laws.specs.StayTimed.{StaysTimed}
use Rattle.shop_laws.proofs.Timed.{grant_timed, end_timed, keepalive_timed, none_taken}

-- ---- what a step does first

expired_either : (s : State) (n : ℕ) (ds : List Deadline) (b : Bool) → has_lease s.leases n ≡ b → AreTimed s.leases ds
    → AreTimed (taken s (cond b (Ok (ended s n)) (Err (fault.NoSuchLease n)))).leases (without_deadline n ds)
expired_either s n ds true e t = end_timed n s.leases ds t
expired_either s n ds false e t = end_timed n s.leases ds t ∙ ap (map lease_number) (none_taken n s.leases e)

pub ended_timed : (n : ℕ) (s : Shop) → IsTimed s → IsTimed (lease_ended n s)
unfolding expired
ended_timed n s t = expired_either s.store n s.deadlines (has_lease s.store.leases n) refl t

pub all_timed : (numbers : List ℕ) (s : Shop) → IsTimed s → IsTimed (all_ended numbers s)
all_timed [] s t = t
all_timed (n ∷ ns) s t = all_timed ns (lease_ended n s) (ended_timed n s t)

applied_either : (s t : State) (b c : Bool) (e f : StoreFault) → s.leases ≡ t.leases → (taken s (cond b (Err e) (cond c (Err f) (Ok t)))).leases ≡ s.leases
applied_either s t true c e f q = refl
applied_either s t false true e f q = refl
applied_either s t false false e f q = sym q

pub caught_up_leases : (s : Shop) → (caught_up s).store.leases ≡ s.store.leases
unfolding applied
caught_up_leases s =
    applied_either s.store (record s.store { applied = set s.store.applied (1 - 1) (newest s.store.history) })
    (lacks_member s.store 1) (nat_lt (newest s.store.history) (applied_by s.store 1) || nat_lt (newest s.store.history) (newest s.store.history))
    (fault.NoSuchMember 1) (fault.BadApply (applied_by s.store 1) (newest s.store.history)) refl

pub settled_timed : (now : ℕ) (s : Shop) → IsTimed s → IsTimed (settled now s)
settled_timed now s t =
    let ended = all_ended (due now s.deadlines) s in all_timed (due now s.deadlines) s t ∙ sym (ap (map lease_number) (caught_up_leases ended))

-- ---- what the event does

Keeps : (s : State) → Request → Step → Type 0
Keeps s q a = (now : ℕ) (ds : List Deadline) → AreTimed s.leases ds → AreTimed a.0.leases (deadlines_after now q a.1 ds)

op_keeps : (q : Request) (op : Op) (b : Body) (now : ℕ) (ds : List Deadline) → op_of q ≡ Some op → deadlines_by now q b ds ≡ ds
op_keeps (request.Range ask) op b now ds e = refl
op_keeps (request.Put ask) op b now ds e = refl
op_keeps (request.Delete ask) op b now ds e = refl
op_keeps (request.Txn txn) op b now ds e = refl
op_keeps (request.Compact revision physical) op b now ds e = absurd (cc)
op_keeps (request.Grant ttl lease) op b now ds e = absurd (cc)
op_keeps (request.Revoke lease) op b now ds e = absurd (cc)
op_keeps (request.KeepAlive lease) op b now ds e = absurd (cc)
op_keeps (request.TimeToLive lease keys) op b now ds e = absurd (cc)
op_keeps request.Leases op b now ds e = absurd (cc)
op_keeps (request.Watch ask) op b now ds e = absurd (cc)

cases : (s : State) → StepCases s 1 (Keeps s)
unfolding Keeps
cases s = record {
  refuses = λ q refusal k now ds t. t;
  runs = λ q op made b e n f r now ds t. subst (AreTimed s.leases) (sym (op_keeps q op b now ds e)) t;
  reads = λ ask b e now ds t. t;
  compacts = λ revision physical e f now ds t. t;
  grants = λ ttl number e now ds t. grant_timed (granted_lease (asked_number s.leases number) ttl) (record { number = asked_number s.leases number; at = ends_at now (granted_ttl ttl) }) s.leases ds refl t;
  revokes = λ number e now ds t. end_timed number s.leases ds t;
  keeps_alive = λ number now ds t. keepalive_timed number (ends_at now (granted s.leases number)) (granted s.leases number) s.leases ds t;
  tells = λ number keys now ds t. t;
  lists = λ now ds t. t;
}

exec_timed : (q : Request) (s : State) (now : ℕ) (ds : List Deadline) → AreTimed s.leases ds → AreTimed (exec s 1 q).0.leases (deadlines_after now q (exec s 1 q).1 ds)
unfolding Keeps
exec_timed q s = exec_by s 1 (Keeps s) (cases s) q

PushKeeps : State → Pushed → Type 0
PushKeeps s (Ok p) = p.0.leases ≡ s.leases
PushKeeps s (Err e) = Unit {0}

push_either : (s : State) (b : Bool) (x y : Pushed) → PushKeeps s x → PushKeeps s y → PushKeeps s (cond b x y)
push_either s true x y p q = p
push_either s false x y p q = q

events_keep : (s : State) (n : ℕ) (w : OpenWatch) (es : List Event) → PushKeeps s (push_events s n w es)
unfolding PushKeeps
events_keep s n w [] = tt
events_keep s n w (e ∷ es) = refl

watch_keeps : (s : State) (n : ℕ) (w : Option OpenWatch) → PushKeeps s (for_watch n w (push_to s n))
unfolding PushKeeps
watch_keeps s n None = tt
watch_keeps s n (Some w) =
    push_either s (w.next == 0) _ _ refl (push_either s (nat_lt w.next s.compacted) _ _ refl (events_keep s n w (events_for s w)))

pushed_timed : (s : Shop) (n : ℕ) (p : Pushed) → PushKeeps s.store p → IsTimed s → IsTimed (with_pushed n s p).0
unfolding PushKeeps
pushed_timed s n (Ok p) k t = t ∙ sym (ap (map lease_number) k)
pushed_timed s n (Err (fault.NothingToPush w)) k t = t
pushed_timed s n (Err (fault.NoSuchLease l)) k t = t
pushed_timed s n (Err (fault.BadApply a b)) k t = t
pushed_timed s n (Err (fault.NoSuchMember m)) k t = t
pushed_timed s n (Err (fault.NoSuchWatch w)) k t = t
pushed_timed s n (Err (fault.NotAsked w)) k t = t
pushed_timed s n (Err (fault.NotSynced a b)) k t = t
pushed_timed s n (Err fault.NoMemory) k t = t

pub does_timed : (now : ℕ) (e : StoreEvent) (s : Shop) → IsTimed s → IsTimed (does now e s).0
unfolding pushed
does_timed now (Exec q) s t = exec_timed q s.store now s.deadlines t
does_timed now (Open ask) s t = t
does_timed now (Push n) s t = pushed_timed s n (pushed s.store n) (watch_keeps s.store n (watch_of s.store n)) t

-- ---- the whole step

did_timed : (now : ℕ) (e : StoreEvent) (s t : Shop) (a : Result StoreOutcome StoreStepFault) → IsTimed s → (t, a) ≡ does now e (settled now s) → IsTimed t
did_timed now e s t a h is = subst IsTimed (sym (ap (λ (x : Stepped). x.0) is)) (does_timed now e (settled now s) (settled_timed now s h))

begun_timed : (now : ℕ) (s t : Shop) → IsTimed s → Begun now s t → IsTimed t
begun_timed now s t h b =
    elim b [ inl x ↦ subst IsTimed (sym x.3) (all_timed x.0 s h) | inr e ↦ subst IsTimed (sym e) (settled_timed now s h) ]

pub step_timed : StaysTimed
step_timed s t e now (Ok o) h k = did_timed now e s t (Ok o) h k.1
step_timed s t e now (Err (step.NoSuchWatch n)) h k = did_timed now e s t (Err (step.NoSuchWatch n)) h k.1
step_timed s t e now (Err step.Worn) h k = subst IsTimed (sym k.1) h
step_timed s t e now (Err step.NoMemory) h k = begun_timed now s t h k.1
