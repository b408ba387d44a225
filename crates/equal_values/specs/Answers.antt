-- Whether two answers are the same.
use Rattle.std.specs.Prelude.{Bool, false, ◌==◌, ◌&&◌}
use Rattle.etcd_types.specs.declared.answer.Answer.{Answer}
use Rattle.etcd_types.specs.declared.answer.Answer.TheVariants.{Done, Refused}
use Rattle.etcd_types.specs.declared.answer.Refusal.{Refusal}
use Rattle.etcd_types.specs.declared.answer.Reply.{Reply}
use Rattle.etcd_types.specs.Keys.{same}
use Rattle.equal_values.specs.Bodies.{same_body}
use Rattle.equal_values.specs.Records.{same_header}

abbrev pub same_reply : Reply → Reply → Bool
same_reply told due = same_header told.header due.header && same_body told.body due.body

abbrev pub same_refusal : Refusal → Refusal → Bool
same_refusal told due = told.code == due.code && same told.text due.text

abbrev pub same_answer : Answer → Answer → Bool
same_answer (Done told) (Done due) = same_reply told due
same_answer (Done told) (Refused due) = false
same_answer (Refused told) (Done due) = false
same_answer (Refused told) (Refused due) = same_refusal told due
