-- What is found for the watch of a number is what the step of that number gives.
use Rattle.std.proofs.Common.{◌≡◌, ◌==◌, ℕ, nat_lt, Bool, true, false, cond, List, [], ◌∷◌, Some, Result, Ok, Err, IfOk, IfErr, ◌∙◌, refl, sym, subst}
use Rattle.etcd_types.specs.declared.watch.Event.{Event}
use Rattle.etcd_types.specs.declared.watch.WatchItem.TheVariants as item
use Rattle.store_model.specs.declared.watch.OpenWatch.{OpenWatch}
use Rattle.store_model.specs.declared.store_fault.StoreFault.{StoreFault}
use Rattle.store_model.specs.declared.store_fault.StoreFault.TheVariants as fault
use Rattle.store_model.specs.History.{History, newest}
use Rattle.store_model.specs.Events.{watch_events}
use Rattle.store_model.proofs.WatchLemmas.{pushed-some}
use Rattle.store_model.specs.State.{State}
use Rattle.store_model.specs.Watches.{Pushed, pushed, watch_of, with_next, first_next, watch_header, events_for, push_events}
use Rattle.store_index.specs.declared.index.Index.{Index}
use Rattle.store_index.specs.Index.{HoldsKept}
use Rattle.store_world.specs.declared.watches.Push.{Push}
use Rattle.store_world.specs.Faults.{IsFault}
use Rattle.store_world.specs.Pushes.{IsPush, IsPushOf, TellsNothing}

pub push_found : (r : Result Push StoreFault) (i : Index) (s : History → State) (number : ℕ) (w : OpenWatch) (step inner : History → Pushed)
    → ((h : History) → Some w ≡ watch_of (s h) number) → ((h : History) → step h ≡ inner h)
    → IfOk r (λ push. (h : History) → HoldsKept i h → IsPush (s h) number w push (inner h))
    → IfOk r (λ push. (h : History) → HoldsKept i h → IsPushOf (s h) number push (step h))
push_found (Ok push) i s number w step inner e q f = λ h holds. (w, sym (e h), q h ∙ f h holds)
push_found (Err fault) i s number w step inner e q f = tt

pub fault_found : (r : Result Push StoreFault) (i : Index) (step inner : History → Pushed) → ((h : History) → step h ≡ inner h)
    → IfErr r (λ fault. (h : History) → HoldsKept i h → IsFault fault (inner h)) → IfErr r (λ fault. (h : History) → HoldsKept i h → IsFault fault (step h))
fault_found (Ok push) i step inner q f = tt
fault_found (Err fault) i step inner q f = λ h holds. subst (λ (p : Pushed). IsFault fault p) (sym (q h)) (f h holds)

-- where there is nothing to push, the watch has no event to come
pub nothing_so : (s : State) (number : ℕ) (w : OpenWatch) → watch_of s number ≡ Some w → TellsNothing s number → watch_events s.history s.compacted w.ask w.next ≡ []
nothing_so s number w there nothing = by (w.next == 0) (nat_lt w.next s.compacted) (events_for s w) refl (sym (pushed-some s number w there) ∙ nothing.1)
  where
    by : (a b : Bool) (es : List Event) → events_for s w ≡ es
        → cond a (Ok (with_next s number w (first_next (newest s.history) w.ask.start), item.Created (watch_header s w)))
        (cond b (Ok (s, item.Canceled (watch_header s w) s.compacted)) (push_events s number w es)) ≡ Err (fault.NothingToPush nothing.0)
        → watch_events s.history s.compacted w.ask w.next ≡ []
    by true b es f g = absurd (cc)
    by false true es f g = absurd (cc)
    by false false [] f g = f
    by false false (x ∷ es) f g = absurd (cc)

-- a fault that says so
pub nothing_told : (f : StoreFault) (n : ℕ) (s : State) (number : ℕ) → f ≡ fault.NothingToPush n → IsFault f (pushed s number) → TellsNothing s number
nothing_told f n s number is told = (n, subst (λ (g : StoreFault). IsFault g (pushed s number)) is told)
