use Rattle.core_laws.proofs.PlainReads.Waiting.{no_read_is_idle, held_is_replied, held_is_live, acquirable_is_acquired}
use Rattle.core_laws.proofs.laws_of_reads.reads_wait.Goals as goal

pub returns : goal.returns
returns c = record {
  no_read_is_idle = no_read_is_idle;
  held_is_replied = held_is_replied;
  held_is_live = held_is_live;
  acquirable_is_acquired = acquirable_is_acquired;
}
