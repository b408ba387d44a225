-- A proxy's own writes of a key that it owns or is about to, by which it stays the owner: each writes single keys and puts this one without a
-- lease, and its one call is answered in time as done or as refused (the leasing cache of etcd's clientv3).
use Rattle.std.specs.Prelude.{ℕ, ◌+◌, ◌&&◌, nat_lt, Bool, true, false, not, List, Option, None, Some}
use Rattle.std.specs.List.{list_all}
use Rattle.etcd_types.specs.declared.answer.Answer.{Answer}
use Rattle.etcd_types.specs.declared.answer.Answer.TheVariants.{Done, Refused}
use Rattle.etcd_types.specs.declared.request.Request.{Request}
use Rattle.etcd_types.specs.Keys.{is_empty}
use Rattle.etcd_types.specs.Ranges.{is_one}
use Rattle.proxy_model.specs.declared.ownership.Written.{Written}
use Rattle.proxy_model.specs.declared.ownership.Written.TheVariants.{Wrote, Blocked}
use Rattle.proxy_model.specs.Guarded.{written}
use Rattle.proxy_model.specs.SeveralKeys.{written_ranges}
use Rattle.wait_model.specs.Covers.{leased}
use Rattle.core_model.specs.ClockWork.{request_time}
use Rattle.core_model.specs.Heard.{heard}

-- One that isn't done.
pub record OwnWrite : Type 0 where
  pub ticket : ℕ
  pub request : Request
  -- the proxy's clock as it was asked
  pub since : ℕ

-- with leasing on, each range that it writes is one key, in a transaction in both branches; and it doesn't put this key with a lease
abbrev pub keeps_over : List ℕ → List ℕ → Request → Bool
keeps_over leasing k r = not (is_empty leasing) && (list_all is_one (written_ranges r) && not (leased r k))

abbrev pub is_wrote : Option Written → Bool
is_wrote None = false
is_wrote (Some (Wrote reply)) = true
is_wrote (Some (Blocked os)) = false

-- the write was done, or surely wasn't
abbrev pub settles : List ℕ → Request → Option Answer → Bool
settles leasing r None = false
settles leasing r (Some (Done reply)) = is_wrote (written leasing r reply)
settles leasing r (Some (Refused refusal)) = true

abbrev pub settles_as : List ℕ → List ℕ → Request → Option Answer → Bool
settles_as namespace leasing r None = false
settles_as namespace leasing r (Some a) = settles leasing r (heard namespace a)

-- before its request times out
abbrev pub is_in_time : ℕ → OwnWrite → Bool
is_in_time now w = nat_lt now (w.since + request_time)
