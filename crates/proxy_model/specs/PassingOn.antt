-- Passing on: the call that a request becomes, and the reply that the call's answer becomes.
use Rattle.std.specs.Prelude.{ℕ, ◌+◌, ◌-◌, ◌%◌, ◌==◌, if◌then◌else◌, List, Ok, Err, codes}
use Rattle.etcd_types.specs.declared.answer.Answer.{Answer}
use Rattle.etcd_types.specs.declared.answer.Answer.TheVariants.{Done, Refused}
use Rattle.etcd_types.specs.declared.answer.Refusal.{Refusal}
use Rattle.etcd_types.specs.declared.code.TheConstants.{UNAVAILABLE}
use Rattle.etcd_types.specs.declared.answer.Reply.{Reply}
use Rattle.etcd_types.specs.declared.request.Request.{Request}
use Rattle.etcd_types.specs.declared.request.Request.TheVariants.{Grant}
use Rattle.proxy_model.specs.declared.session.TheConstants.{FIRST_SESSION}
use Rattle.proxy_model.specs.Wrapped.{request_under}
use Rattle.proxy_model.specs.Unwrapped.{Unwrapped, reply_without}

-- a lease number below the sessions', from the random word that came with the request
abbrev pub chosen_lease : ℕ → ℕ
chosen_lease word = 1 + word % (FIRST_SESSION - 1)

-- a grant that leaves its number open is sent with a chosen one
abbrev pub numbered : ℕ → Request → Request
numbered word (Grant ttl lease) = Grant ttl (if lease == 0 then chosen_lease word else lease)
numbered word request = request

-- the call of a request under a namespace
abbrev pub passed_on : List ℕ → ℕ → Request → Request
passed_on namespace word request = request_under namespace (numbered word request)

abbrev pub call_lost : Refusal
call_lost = record { code = UNAVAILABLE; text = codes "proxy: upstream call lost" }

-- a reply with a foreign key counts as lost
abbrev pub replied_with : Unwrapped Reply → Answer
replied_with (Ok reply) = Done reply
replied_with (Err foreign) = Refused call_lost

-- the reply of an answer under a namespace
abbrev pub replied : List ℕ → Answer → Answer
replied namespace (Done reply) = replied_with (reply_without namespace reply)
replied namespace (Refused refusal) = Refused refusal
