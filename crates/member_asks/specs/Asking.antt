-- Asking a member whether it answers: a range of one key of which only the count is wanted (etcd API reference, service KV, Range). It isn't
-- serializable, so the member has to reach the agreement of the cluster.
use Rattle.std.specs.Prelude.{◌≡◌, ℕ, true, false, List, [], ◌∷◌, Option, Result, Ok, Err}
use Rattle.etcd_types.specs.declared.request.Request.{Request}
use Rattle.etcd_types.specs.declared.request.Request.TheVariants as request
use Rattle.etcd_types.specs.declared.answer.Answer.{Answer}
use Rattle.etcd_types.specs.declared.answer.Answer.TheVariants.{Done, Refused}
use Rattle.outside.specs.Calls.{LinkCall}
use Rattle.outside.specs.declared.link.CallKind.TheVariants as kind
use Rattle.proxy_model.specs.Asks.{unsorted}
use Rattle.server_model.specs.Calls.{IsCalled}
use Rattle.server_model.specs.declared.fault.CallFault.{CallFault}
use Rattle.server_model.specs.declared.fault.CallFault.TheVariants as fault
use Rattle.member_asks.specs.declared.call.AskFault.{AskFault}
use Rattle.member_asks.specs.declared.call.AskFault.TheVariants as ask
use Rattle.member_asks.specs.declared.standing.Standing.{Standing}

-- how many records the key of one zero byte has
abbrev pub asking : Request
asking =
    request.Range (record {
      range = record { key = 0 ∷ []; end = [] };
      revision = 0;
      limit = 0;
      serializable = false;
      keys_only = false;
      count_only = true;
      sort = unsorted;
    })

-- what an answer tells: its header
abbrev pub told_by : Result Answer CallFault → Result Standing AskFault
told_by (Ok (Done reply)) = Ok (record { cluster = reply.header.cluster; member = reply.header.member; revision = reply.header.revision; term = reply.header.term })
told_by (Ok (Refused refusal)) = Err (ask.Refused refusal.code)
told_by (Err fault.Lost) = Err ask.Lost
told_by (Err fault.NoMemory) = Err ask.NoMemory

-- a member was asked between two moments of a link: by one call to it, or none for want of memory, whose answer tells this
pub record Asks (host : List ℕ) (member : ℕ) (old new : Option (List LinkCall)) (faults faults' : ℕ) (result : Result Standing AskFault) : Type 0 where
  pub answer : Result Answer CallFault
  pub called : IsCalled host member kind.Asks asking old new faults faults' answer
  pub told : result ≡ told_by answer
