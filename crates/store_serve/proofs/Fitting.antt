-- What a call of the hub tells of the pass that makes it.
use Rattle.std.proofs.Common.{◌≡◌, ℕ, ◌≤◌, true, List, [], ◌∷◌, ◌++◌, Result, Ok, Err, ap, subst, ◌∙◌, arith, append_assoc}
use Rattle.std.proofs.Math.Bool.{Bool-set}
use Rattle.std.proofs.Math.Bridge.{le_prop}
use Rattle.std.proofs.Math.Logic.{∥∥₁_elim}
use Rattle.turn_hub.specs.declared.view.Opening.{Opening}
use Rattle.turn_hub.specs.declared.fault.HubFault.{HubFault}
use Rattle.turn_hub.specs.declared.fault.HubFault.TheVariants as hub
use Rattle.turn_hub.specs.History.{Begins, Runs, entry_of}
use Rattle.turn_hub.specs.Known.{Known, opening_of}
use Rattle.turn_hub.specs.Steps.{Makes, Fails, IsAllowed}
use Rattle.etcd_types.specs.declared.request.Request.{Request}
use Rattle.etcd_types.specs.declared.request.WatchAsk.{WatchAsk}
use Rattle.shop_model.specs.declared.event.StoreEvent.{StoreEvent}
use Rattle.shop_model.specs.declared.event.StoreEvent.TheVariants.{Exec, Open, Push}
use Rattle.shop_model.specs.declared.event.StoreOutcome.{StoreOutcome}
use Rattle.shop_model.specs.declared.event.StoreOutcome.TheVariants as outcome
use Rattle.shop_model.specs.declared.event.StoreStepFault.{StoreStepFault}
use Rattle.shop_model.specs.declared.event.StoreStepFault.TheVariants as step
use Rattle.shop_laws.proofs.Watches.{finds_watch}
use Rattle.store_machine.specs.declared.machine.StoreMachine.{StoreMachine}
use Rattle.store_machine.specs.Standing.{Steps}
use Rattle.store_machine.proofs.Machines.{stand_for_shops}
use Rattle.shop_dialog.specs.Steps.{Step, fits, has_opened}
use Rattle.shop_dialog.specs.Watching.{IsOfAny}
use Rattle.store_serve.specs.Missing.{IsAnswer, IsNumber, IsPushed, Misses}
use Rattle.store_serve.proofs.Histories.{step_fits, run_last, lived, opened_more, opened_last, opens_itself, opened_known}

abbrev pub Seen : Type 0
Seen = Known (Opening StoreMachine) Step

-- the machine before the last step, and that step
last_of : (before after : Seen) (e : StoreEvent) (now : ℕ) (a : Result StoreOutcome StoreStepFault) → (m : Makes Steps before after e now a)
    → (l : StoreMachine) × Runs Steps (opening_of after.hub) (before.seen ++ m.between) l × Steps l e now a m.allowed.0
last_of before after e now a m =
    run_last Steps (before.seen ++ m.between) (entry_of e now a) (opening_of after.hub) m.allowed.0
    (subst (λ (l : List Step). Runs Steps (opening_of after.hub) l m.allowed.0) m.seen m.allowed.1)

pub fits_so : (before after : Seen) (e : StoreEvent) (now : ℕ) (a : Result StoreOutcome StoreStepFault) → Makes Steps before after e now a → fits e a ≡ true
fits_so before after e now a m =
    let l = last_of before after e now a m in
    ∥∥₁_elim (stand_for_shops l.0) (Bool-set _ _) (λ x. let k = l.2 x.0 x.1 in step_fits x.0 k.0 e now a k.1)

-- the outcome by another name
pub makes_as : (before after : Seen) (e : StoreEvent) (now : ℕ) (x y : StoreOutcome) → x ≡ y → Makes Steps before after e now (Ok x) → Makes Steps before after e now (Ok y)
makes_as before after e now x y same m = subst (λ (o : StoreOutcome). Makes Steps before after e now (Ok o)) same m

pub begins_so : (before after : Seen) (e : StoreEvent) (now : ℕ) (a : Result StoreOutcome StoreStepFault) → Makes Steps before after e now a → Begins before.seen after.seen
begins_so before after e now a m = (m.between ++ entry_of e now a ∷ [], m.seen ∙ append_assoc before.seen m.between (entry_of e now a ∷ []))

pub opened_now : (before after : Seen) (ask : WatchAsk) (now n : ℕ) → Makes Steps before after (Open ask) now (Ok (outcome.Opened n)) → has_opened n after.seen ≡ true
opened_now before after ask now n m =
    ap (has_opened n) m.seen ∙ opened_last n (before.seen ++ m.between) (entry_of (Open ask) now (Ok (outcome.Opened n))) (opens_itself n)

pub still_opened : (before after : Seen) (n : ℕ) → Begins before.seen after.seen → has_opened n before.seen ≡ true → has_opened n after.seen ≡ true
still_opened before after n b h = ap (has_opened n) b.1 ∙ opened_more n before.seen b.0 h

-- a watch that was opened is known
pub never_unknown : (before after : Seen) (n now w : ℕ) → has_opened n before.seen ≡ true → Makes Steps before after (Push n) now (Err (step.NoSuchWatch w)) → ⊥
never_unknown before after n now w h m =
    let l = last_of before after (Push n) now (Err (step.NoSuchWatch w)) m in
    let all = before.seen ++ m.between in
    let no : 1 ≤ 0 = ∥∥₁_elim (stand_for_shops (opening_of after.hub)) le_prop
    (λ x. let t = lived (opening_of after.hub) l.0 all l.1 x.0 x.1 in
    let k = l.2 t.0 t.2 in
    absurd (finds_watch t.0 k.0 now n w (opened_known all x.0 t.0 n t.1 (opened_more n before.seen m.between h)) k.1)) in
    absurd (omega (arith, no))

-- ---- calls that gave nothing

any_of_exec : (q : Request) (f : StoreStepFault) → fits (Exec q) (Err f) ≡ true → IsOfAny f
any_of_exec q step.Worn e = tt
any_of_exec q step.NoMemory e = tt
any_of_exec q (step.NoSuchWatch w) e = absurd (cc)

any_of_open : (ask : WatchAsk) (f : StoreStepFault) → fits (Open ask) (Err f) ≡ true → IsOfAny f
any_of_open ask step.Worn e = tt
any_of_open ask step.NoMemory e = tt
any_of_open ask (step.NoSuchWatch w) e = absurd (cc)

any_of_push : (before after : Seen) (n now : ℕ) (f : StoreStepFault) → has_opened n before.seen ≡ true → Makes Steps before after (Push n) now (Err f) → IsOfAny f
any_of_push before after n now step.Worn h m = tt
any_of_push before after n now step.NoMemory h m = tt
any_of_push before after n now (step.NoSuchWatch w) h m = absurd (never_unknown before after n now w h m)

pub exec_misses : (before after : Seen) (q : Request) (now : ℕ) (f : HubFault StoreStepFault) → Fails Steps before after (Exec q) now f → Misses (Exec q) now before after f
exec_misses before after q now hub.Worn m = (m.made, m.full)
exec_misses before after q now (hub.Machine f) m = (m.made, any_of_exec q f (fits_so before after (Exec q) now (Err f) m))

pub open_misses : (before after : Seen) (ask : WatchAsk) (now : ℕ) (f : HubFault StoreStepFault) → Fails Steps before after (Open ask) now f → Misses (Open ask) now before after f
open_misses before after ask now hub.Worn m = (m.made, m.full)
open_misses before after ask now (hub.Machine f) m = (m.made, any_of_open ask f (fits_so before after (Open ask) now (Err f) m))

pub push_misses : (before after : Seen) (n now : ℕ) (f : HubFault StoreStepFault) → has_opened n before.seen ≡ true → Fails Steps before after (Push n) now f → Misses (Push n) now before after f
push_misses before after n now hub.Worn h m = (m.made, m.full)
push_misses before after n now (hub.Machine f) h m = (m.made, any_of_push before after n now f h m)

pub fail_begins : (before after : Seen) (e : StoreEvent) (now : ℕ) (f : HubFault StoreStepFault) → Fails Steps before after e now f → Begins before.seen after.seen
fail_begins before after e now hub.Worn m = m.seen
fail_begins before after e now (hub.Machine f) m = begins_so before after e now (Err f) m

pub fail_allowed : (before after : Seen) (e : StoreEvent) (now : ℕ) (f : HubFault StoreStepFault) → Fails Steps before after e now f → IsAllowed Steps after
fail_allowed before after e now hub.Worn m = m.allowed
fail_allowed before after e now (hub.Machine f) m = m.allowed

-- ---- an outcome is of its event's kind

pub exec_answers : (before after : Seen) (q : Request) (now : ℕ) (o : StoreOutcome) → Makes Steps before after (Exec q) now (Ok o) → IsAnswer o
exec_answers before after q now (outcome.Answer a) m = tt
exec_answers before after q now (outcome.Opened n) m = let yes = fits_so before after (Exec q) now (Ok (outcome.Opened n)) m in absurd (cc)
exec_answers before after q now (outcome.Item i) m = let yes = fits_so before after (Exec q) now (Ok (outcome.Item i)) m in absurd (cc)
exec_answers before after q now outcome.Nothing m = let yes = fits_so before after (Exec q) now (Ok outcome.Nothing) m in absurd (cc)

pub open_opens : (before after : Seen) (ask : WatchAsk) (now : ℕ) (o : StoreOutcome) → Makes Steps before after (Open ask) now (Ok o) → IsNumber o
open_opens before after ask now (outcome.Opened n) m = tt
open_opens before after ask now (outcome.Answer a) m = let yes = fits_so before after (Open ask) now (Ok (outcome.Answer a)) m in absurd (cc)
open_opens before after ask now (outcome.Item i) m = let yes = fits_so before after (Open ask) now (Ok (outcome.Item i)) m in absurd (cc)
open_opens before after ask now outcome.Nothing m = let yes = fits_so before after (Open ask) now (Ok outcome.Nothing) m in absurd (cc)

pub push_pushes : (before after : Seen) (n now : ℕ) (o : StoreOutcome) → Makes Steps before after (Push n) now (Ok o) → IsPushed o
push_pushes before after n now (outcome.Item i) m = tt
push_pushes before after n now outcome.Nothing m = tt
push_pushes before after n now (outcome.Answer a) m = let yes = fits_so before after (Push n) now (Ok (outcome.Answer a)) m in absurd (cc)
push_pushes before after n now (outcome.Opened k) m = let yes = fits_so before after (Push n) now (Ok (outcome.Opened k)) m in absurd (cc)
