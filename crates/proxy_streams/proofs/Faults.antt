-- What a fault's own name says, where a clause speaks of the whole answer.
use Rattle.std.proofs.Common.{◌≡◌, ℕ, List, Option, Result, Err, ap, sym, subst}
use Rattle.outside.specs.Faults.{Rose}
use Rattle.etcd_types.specs.declared.watch.WatchItem.{WatchItem}
use Rattle.json_model.specs.Faults.{ReplyFails}
use Rattle.json_model.specs.declared.fault.NotReply.{NotReply}
use Rattle.json_model.specs.declared.fault.NotReply.TheVariants.{Unreadable}
use Rattle.http_wire.specs.declared.fault.WireFault.{WireFault}
use Rattle.http_wire.specs.declared.fault.WireFault.TheVariants as wire
use Rattle.outside.specs.declared.link.AnswerEnd.{AnswerEnd}
use Rattle.server_model.specs.declared.ends.StreamEnd.{StreamEnd}
use Rattle.server_model.specs.Steps.{Step}
use Rattle.server_model.specs.Following.{Following}

abbrev failed_by : (T : Type 0) → WireFault → Result T WireFault
failed_by T fault = Err fault

-- a read that failed has its cause
pub cause_of : (T : Type 0) (fault : WireFault) (n m : ℕ) → (failed_by T fault ≡ failed_by T wire.ReadFault → Rose n m) → fault ≡ wire.ReadFault → Rose n m
cause_of T fault n m f e = f (ap (failed_by T) e)

-- a line that is no message
pub unreadable_as : (why : NotReply) (read : Result WatchItem NotReply) → why ≡ Unreadable → ReplyFails why read → read ≡ Err Unreadable
unreadable_as why read e f = subst (λ (x : NotReply). ReplyFails x read) e f

-- the source rested, and counts as many failed reads as before
pub later_as : (most : ℕ) (worn : Type 0) (stream : ℕ) (had : Option (List ℕ)) (earlier x y : ℕ) (a b : Option (List Step)) (read : AnswerEnd) (end : StreamEnd) → y ≡ x
    → Following worn most stream had earlier x a b read end → Following worn most stream had earlier y a b read end
later_as most worn stream had earlier x y a b read end e f = subst (λ (n : ℕ). Following worn most stream had earlier n a b read end) (sym e) f
