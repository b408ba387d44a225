-- What a reply on a lease's time to live says.
use Rattle.std.specs.Prelude.{Bool, true, false, ℤ, pos, negsuc}
use Rattle.etcd_types.specs.declared.answer.Answer.{Answer}
use Rattle.etcd_types.specs.declared.answer.Answer.TheVariants.{Done, Refused}
use Rattle.etcd_types.specs.declared.answer.Body.{Body}
use Rattle.etcd_types.specs.declared.answer.Body.TheVariants as body

abbrev pub is_not_negative : ℤ → Bool
is_not_negative (pos n) = true
is_not_negative (negsuc n) = false

-- there is such a lease
abbrev pub is_there : Body → Bool
is_there (body.TimeToLive lease ttl granted keys) = is_not_negative ttl
is_there _ = false

abbrev pub says_there : Answer → Bool
says_there (Done reply) = is_there reply.body
says_there (Refused why) = false
