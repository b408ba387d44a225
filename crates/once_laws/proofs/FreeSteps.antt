-- A whole step of a proxy keeps what is known of its writes.
use Rattle.std.proofs.Common.{◌≡◌, ℕ, Bool, true, false, Option, None, Some, Result, Ok, Err, refl, sym, ◌∙◌, ap, subst}
use Rattle.etcd_types.specs.declared.answer.Answer.{Answer}
use Rattle.etcd_types.specs.declared.request.Request.{Request}
use Rattle.proxy_model.specs.Keyed.{is_in_order}
use Rattle.wait_model.specs.declared.write.Write.{Write}
use Rattle.wait_model.specs.Writes as writes
use Rattle.wait_model.specs.Writes.{first_by}
use Rattle.core_model.specs.declared.event.CoreEvent.{CoreEvent}
use Rattle.core_model.specs.declared.event.CoreEvent.TheVariants as event
use Rattle.core_model.specs.declared.event.Outcome.{Outcome}
use Rattle.core_model.specs.declared.event.StepFault.{StepFault}
use Rattle.core_model.specs.declared.event.StepFault.TheVariants as fault
use Rattle.core_model.specs.ClockWork.{clock_work}
use Rattle.core_model.specs.Fits.{CoreOk}
use Rattle.core_model.specs.Heard.{heard}
use Rattle.core_model.specs.Lookups.{out_at}
use Rattle.core_model.specs.Sending.{on_work}
use Rattle.core_model.specs.State.{Core}
use Rattle.core_model.specs.Step.{is_worn, happened, stepped}
use Rattle.core_model.specs.Stepped.{Stepped, faults, counted, counted_by}
use Rattle.core_laws.proofs.Steps.Comes.{by_test}
use Rattle.core_laws.proofs.Steps.Middle.{clock_whole}
use Rattle.core_laws.proofs.Steps.Whole.{Whole, of_ok}
use Rattle.once_laws.proofs.FreeCore as free
use Rattle.once_laws.proofs.FreeCore.{CoreFree, Begins, EndsIf, KindsAt, clock_free}
use Rattle.once_laws.proofs.FreeSends.{SendsFree, work_free}

-- what an event but a sending brings, once the clock's work is done
module _ (N D : ℕ → Type 0) (A W : ℕ → ℕ → Type 0) (Off On : Type 0) where
  abbrev pub Brings : CoreEvent → Core → Type 0
  Brings (event.Ask ticket q word) c = Begins N D A W Off On ticket c
  Brings (event.Answer call a) c = EndsIf N D A W Off On call (heard c.settings.namespace a) × KindsAt N D A W Off On (out_at call c.out) c.asks
  Brings (event.Lost call) c = KindsAt N D A W Off On (out_at call c.out) c.asks
  Brings event.Work c = ⊥
  Brings _ c = Unit {0}

  happened_free : (now : ℕ) (e : CoreEvent) (c : Core) → Brings e c → CoreFree N D A W Off On c → CoreFree N D A W Off On (happened now e c).core
  happened_free now (event.Ask ticket q word) c b h = free.asked_so N D A W Off On now ticket q word c b h
  happened_free now (event.Answer call a) c b h = free.answered_so N D A W Off On now call a c b.0 b.1 h
  happened_free now (event.Lost call) c b h = free.lost_so N D A W Off On now call c b h
  happened_free now (event.Tick word) c b h = free.tick_so N D A W Off On now word c h
  happened_free now (event.Item number x) c b h = free.item_so N D A W Off On now number x c h
  happened_free now (event.Cut number) c b h = free.cut_so N D A W Off On number c h
  happened_free now (event.Take ticket) c b h = free.take_so N D A W Off On ticket c h
  happened_free now (event.Leave ticket) c b h = free.leave_so N D A W Off On now ticket c h
  happened_free now event.Work c b h = absurd b

  counted_free : (c : Core) (r : Result Outcome StepFault) → CoreFree N D A W Off On c → CoreFree N D A W Off On (counted_by c r).core
  counted_free c (Ok o) h = h
  counted_free c (Err f) h = h

  pub stepped_free : (c : Core) (e : CoreEvent) (now : ℕ) → Brings e (clock_work now c) → CoreFree N D A W Off On c → CoreFree N D A W Off On (stepped c e now).core
  unfolding stepped
  stepped_free c e now b h =
      by_test (λ (s : Stepped). CoreFree N D A W Off On s.core) (is_worn c) (faults c fault.Worn) (counted (happened now e (clock_work now c))) (λ w. h)
      (λ w. counted_free (happened now e (clock_work now c)).core (happened now e (clock_work now c)).outcome (happened_free now e (clock_work now c) b (clock_free N D A W Off On now c h)))

-- a sending, of a proxy that isn't worn
module _ (N D M : ℕ → Type 0) (A W : ℕ → ℕ → Type 0) (N' D' M' : ℕ → Type 0) (A' W' : ℕ → ℕ → Type 0) (Off On : Type 0) where
  abbrev Sent : Stepped → Type 0
  Sent s = CoreFree N' D' A' W' Off On s.core × ((t : ℕ) → M t → M' t)

  counted_sent : (c : Core) (r : Result Outcome StepFault) → CoreFree N' D' A' W' Off On c × ((t : ℕ) → M t → M' t) → Sent (counted_by c r)
  counted_sent c (Ok o) h = h
  counted_sent c (Err f) h = h

  counted_is : (c : Core) (r : Result Outcome StepFault) → (counted_by c r).outcome ≡ r
  counted_is c (Ok o) = refl
  counted_is c (Err f) = refl

  pub worked_free : (c : Core) (now : ℕ) → CoreOk c → is_worn c ≡ false → is_in_order (clock_work now c).acquires ≡ true
      → SendsFree N D M A W N' D' M' A' W' Off On (clock_work now c) (stepped c event.Work now).outcome → CoreFree N D A W Off On c → Sent (stepped c event.Work now)
  unfolding stepped
  worked_free c now ok fresh order s h = by (is_worn c) fresh s
    where
      d : Core
      d = clock_work now c

      whole : Whole 0 (clock_work now c)
      whole = clock_whole 0 now c (of_ok c ok).mid

      by : (b : Bool) → b ≡ false → SendsFree N D M A W N' D' M' A' W' Off On (clock_work now c) (Rattle.std.proofs.Common.cond b (faults c fault.Worn) (counted (happened now event.Work (clock_work now c)))).outcome
          → Sent (Rattle.std.proofs.Common.cond b (faults c fault.Worn) (counted (happened now event.Work (clock_work now c))))
      by true e s = absurd (cc)
      by false e s =
          counted_sent (on_work now (clock_work now c)).core (on_work now (clock_work now c)).outcome
          (work_free N D M A W N' D' M' A' W' Off On (clock_work now c) now whole.mid.agrees (clock_free N D A W Off On now c h) order
          (subst (SendsFree N D M A W N' D' M' A' W' Off On (clock_work now c)) (counted_is (on_work now (clock_work now c)).core (on_work now (clock_work now c)).outcome) s))
