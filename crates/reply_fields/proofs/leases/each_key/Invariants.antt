-- The keys so far, and those that are left, are all.
use Rattle.std.proofs.Common.{◌≡◌, drop}
use Rattle.serde_json.specs.View.{items_view}
use Rattle.json_model.specs.Fields.{each}
use Rattle.json_model.proofs.Chains.{with_front}
use Rattle.reply_fields.specs.Keys.{key_of}
use Rattle.reply_fields.proofs.leases.each_key.Given as goal

abbrev pub invariant-loop-item : goal.invariant-loop-item
invariant-loop-item l = with_front l.keys (each key_of (items_view (drop l.item-index l.items))) ≡ each key_of (items_view l.items)
