-- Those unwrapped so far are those of the front.
use Rattle.std.proofs.Common.{◌≡◌, take, Ok}
use Rattle.proxy_model.specs.Unwrapped.{each, record_without}
use Rattle.namespace_keys.proofs.unwrap.unwrap_records.Given as goal

abbrev pub invariant-loop-record : goal.invariant-loop-record
invariant-loop-record l = each (record_without l.prefix) (take l.record-index l.records) ≡ Ok l.unwrapped
