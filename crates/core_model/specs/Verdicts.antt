-- The reply that a verdict stands for.
use Rattle.std.specs.Prelude.{codes}
use Rattle.etcd_types.specs.declared.answer.Answer.{Answer}
use Rattle.etcd_types.specs.declared.answer.Answer.TheVariants.{Refused}
use Rattle.etcd_types.specs.declared.answer.Refusal.{Refusal}
use Rattle.etcd_types.specs.declared.code.TheConstants.{DEADLINE_EXCEEDED, FAILED_PRECONDITION}
use Rattle.proxy_model.specs.PassingOn.{call_lost}
use Rattle.read_model.specs.declared.asked.Verdict.{Verdict}
use Rattle.read_model.specs.declared.asked.Verdict.TheVariants as verdict

abbrev pub timed_out : Refusal
timed_out = record { code = DEADLINE_EXCEEDED; text = codes "proxy: request timed out" }

-- the text of etcd's clientv3
abbrev pub no_greater_revision : Refusal
no_greater_revision =
    record { code = FAILED_PRECONDITION; text = codes "etcdclient: no cluster members have a revision higher than the previously received revision" }

abbrev pub reply_of : Verdict → Answer
reply_of (verdict.Said a) = a
reply_of verdict.TimedOut = Refused timed_out
reply_of verdict.Lost = Refused call_lost
reply_of verdict.Stale = Refused no_greater_revision
