-- What is found for the watch of a number is what the step of that number gives.
use Rattle.std.proofs.Common.{◌≡◌, ℕ, Some, Result, Ok, Err, IfOk, IfErr, ◌∙◌, sym, subst}
use Rattle.store_model.specs.declared.watch.OpenWatch.{OpenWatch}
use Rattle.store_model.specs.declared.store_fault.StoreFault.{StoreFault}
use Rattle.store_model.specs.History.{History}
use Rattle.store_model.specs.State.{State}
use Rattle.store_model.specs.Watches.{Pushed, watch_of}
use Rattle.store_index.specs.declared.index.Index.{Index}
use Rattle.store_index.specs.Index.{HoldsKept}
use Rattle.audit_store.specs.declared.watches.Push.{Push}
use Rattle.audit_store.specs.Faults.{IsFault}
use Rattle.audit_store.specs.Pushes.{IsPush, IsPushOf}

pub push_found : (r : Result Push StoreFault) (i : Index) (s : History → State) (number : ℕ) (w : OpenWatch) (step inner : History → Pushed)
    → ((h : History) → Some w ≡ watch_of (s h) number) → ((h : History) → step h ≡ inner h)
    → IfOk r (λ push. (h : History) → HoldsKept i h → IsPush (s h) number w push (inner h))
    → IfOk r (λ push. (h : History) → HoldsKept i h → IsPushOf (s h) number push (step h))
push_found (Ok push) i s number w step inner e q f = λ h holds. (w, sym (e h), q h ∙ f h holds)
push_found (Err fault) i s number w step inner e q f = tt

pub fault_found : (r : Result Push StoreFault) (i : Index) (step inner : History → Pushed) → ((h : History) → step h ≡ inner h)
    → IfErr r (λ fault. (h : History) → HoldsKept i h → IsFault fault (inner h)) → IfErr r (λ fault. (h : History) → HoldsKept i h → IsFault fault (step h))
fault_found (Ok push) i step inner q f = tt
fault_found (Err fault) i step inner q f = λ h holds. subst (λ (p : Pushed). IsFault fault p) (sym (q h)) (f h holds)
