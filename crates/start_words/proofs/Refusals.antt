-- What clap's refusal of the words is told as.
use Rattle.std.proofs.Common.{List, Err, inl, inr, subst}
use Rattle.clap.specs.Faults.{fault_of}
use Rattle.clap.specs.Kinds.{HasKind, IsAmong}
use Rattle.clap.specs.Values.{kind_of}
use Rattle.clap.specs.Walk.{Text}
use Rattle.clap.specs.declared.error.Error.{Error}
use Rattle.clap.specs.declared.error.kind.ErrorKind.{ErrorKind}
use Rattle.start_words.specs.declared.start_fault.StartFault.{StartFault}
use Rattle.start_words.specs.declared.start_fault.StartFault.TheVariants as start
use Rattle.start_words.specs.Reads.{IsRefusal, Reads}
use Rattle.start_words.specs.Start.{start_app}

pub refusal_reads : (words : List Text) (e : Error) (f : StartFault) → HasKind (fault_of start_app words) e → IsRefusal (kind_of e) f
    → Reads words (Err f)
refusal_reads words e (start.Help text) (inl memory) told = absurd (told.1 memory)
refusal_reads words e (start.Help text) (inr among) told = subst (λ (k : ErrorKind). IsAmong k (fault_of start_app words)) told.0 among
refusal_reads words e (start.Usage text) (inl memory) told = absurd (told.1 memory)
refusal_reads words e (start.Usage text) (inr among) told = (kind_of e, among, told.0)
refusal_reads words e start.NoMemory has told = tt
refusal_reads words e (start.Wrong w) has told = absurd told
