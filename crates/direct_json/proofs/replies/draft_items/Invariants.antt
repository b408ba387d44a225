-- The text so far, with the records that are left, is the text with all.
use Rattle.std.proofs.Common.{◌≡◌, drop}
use Rattle.json_model.specs.Written.{items_of}
use Rattle.json_model.specs.WrittenReplies.{record_value}
use Rattle.direct_json.specs.Drafts.{with_items}
use Rattle.direct_json.proofs.replies.draft_items.Given as goal

abbrev pub invariant-loop-kv : goal.invariant-loop-kv
invariant-loop-kv l = with_items (items_of record_value (drop l.kv-index l.kv-items)) l.draft ≡ with_items (items_of record_value l.kvs) l.initial.draft
