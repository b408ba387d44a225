-- What is heard of a member: its header first, and then the answer without the namespace. A refusal with another code than these
-- says nothing of whether the call was done, and a key of another namespace makes a reply unreadable: both count as a loss.
use Rattle.std.specs.Prelude.{ℕ, Bool, ◌==◌, ◌||◌, nat_le, if◌then◌else◌, List, Ok, Err, Option, None, Some}
use Rattle.etcd_types.specs.declared.answer.Answer.{Answer}
use Rattle.etcd_types.specs.declared.answer.Answer.TheVariants.{Done, Refused}
use Rattle.etcd_types.specs.declared.answer.Reply.{Reply}
use Rattle.etcd_types.specs.declared.code.TheConstants.{INVALID_ARGUMENT, NOT_FOUND, PERMISSION_DENIED, FAILED_PRECONDITION, OUT_OF_RANGE, UNIMPLEMENTED}
use Rattle.etcd_types.specs.declared.record.Header.{Header}
use Rattle.proxy_model.specs.Members.{take_seen}
use Rattle.proxy_model.specs.Unwrapped.{Unwrapped, reply_without}
use Rattle.core_model.specs.State.{Core}

-- a refusal with such a code says that nothing was done
abbrev pub is_known : ℕ → Bool
is_known code =
    code == INVALID_ARGUMENT || code == NOT_FOUND || code == PERMISSION_DENIED || code == FAILED_PRECONDITION || code == OUT_OF_RANGE || code == UNIMPLEMENTED

abbrev pub heard_reply : Unwrapped Reply → Option Answer
heard_reply (Ok reply) = Some (Done reply)
heard_reply (Err foreign) = None

-- nothing, where it counts as a loss
abbrev pub heard : List ℕ → Answer → Option Answer
heard namespace (Done reply) = heard_reply (reply_without namespace reply)
heard namespace (Refused r) = if is_known r.code then Some (Refused r) else None

-- The cached header: of those delivered the one of the highest revision, the latest on a tie.

abbrev pub later_header : Header → Header → Header
later_header old new = if nat_le old.revision new.revision then new else old

abbrev pub header_taken : Header → Core → Core
header_taken h c = record c { members = take_seen c.members h.revision; header = later_header c.header h }

abbrev pub answer_taken : Answer → Core → Core
answer_taken (Done reply) c = header_taken reply.header c
answer_taken (Refused r) c = c
