-- The values so far, and those that are left to write, are all.
use Rattle.std.proofs.Common.{◌≡◌, drop}
use Rattle.json_model.specs.Written.{items_of}
use Rattle.json_model.specs.WrittenReplies.{record_value}
use Rattle.json_model.proofs.ItemsSoFar.{onto}
use Rattle.api_reply.proofs.records.record_values.Given as goal

abbrev pub invariant-loop-kv : goal.invariant-loop-kv
invariant-loop-kv l = onto l.values.items (items_of record_value (drop l.kv-index l.kv-items)) ≡ items_of record_value l.kvs
