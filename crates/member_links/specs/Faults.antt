-- What is made of the system's errors: how a link reports one, and whether it says anything of the member that was called.
use Rattle.std.specs.Prelude.{ℕ, Bool, true, false, Result, Ok, Err}
use Rattle.std.specs.declared.io.ErrorKind.{ErrorKind}
use Rattle.std.specs.declared.io.ErrorKind.TheVariants.{OutOfMemory}
use Rattle.outside.specs.Faults.{one_more}
use Rattle.outside.specs.declared.link.CallKind.{CallKind}
use Rattle.outside.specs.declared.link.CallKind.TheVariants as kind
use Rattle.outside.specs.declared.link.LinkFault.{LinkFault}
use Rattle.outside.specs.declared.link.LinkFault.TheVariants as link

-- want of memory is reported as such, and anything else as a failure
abbrev pub link_fault : ErrorKind → LinkFault
link_fault OutOfMemory = link.NoMemory
link_fault _ = link.Failed

-- workers make all calls but those that begin a stream or ask whether a member answers
abbrev pub is_of_worker : CallKind → Bool
is_of_worker (kind.Watches stream) = false
is_of_worker kind.Asks = false
is_of_worker _ = true

-- the count of a link's failures behind a call of it: one more where the call has no answer, for want of memory too
abbrev pub counted : {T : Type 0} → ℕ → Result T LinkFault → ℕ
counted before (Ok answer) = before
counted before (Err fault) = one_more before
