-- The steps of watches, leases and members by their cases.
use Rattle.std.proofs.Common.{◌≡◌, ℕ, None, Some, Err, refl}
use Rattle.store_model.specs.declared.watch.OpenWatch.{OpenWatch}
use Rattle.store_model.specs.declared.store_fault.StoreFault.TheVariants as fault
use Rattle.store_model.specs.State.{State}
use Rattle.store_model.specs.Watches.{watch_of, push_to, progress_to, pushed, progressed}

pub pushed-none : (s : State) (number : ℕ) → watch_of s number ≡ None → pushed s number ≡ Err (fault.NoSuchWatch number)
unfolding pushed
pushed-none s number e = rw e refl

pub pushed-some : (s : State) (number : ℕ) (w : OpenWatch) → watch_of s number ≡ Some w → pushed s number ≡ push_to s number w
unfolding pushed
pushed-some s number w e = rw e refl

pub progressed-none : (s : State) (number : ℕ) → watch_of s number ≡ None → progressed s number ≡ Err (fault.NoSuchWatch number)
unfolding progressed
progressed-none s number e = rw e refl

pub progressed-some : (s : State) (number : ℕ) (w : OpenWatch) → watch_of s number ≡ Some w → progressed s number ≡ progress_to s number w
unfolding progressed
progressed-some s number w e = rw e refl

pub ruleset of_pushes = (pushed-none, pushed-some, progressed-none, progressed-some)
