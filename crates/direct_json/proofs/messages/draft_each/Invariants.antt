-- The text so far, with the events that are left, is the text with all.
use Rattle.std.proofs.Common.{◌≡◌, drop}
use Rattle.json_model.specs.Written.{items_of}
use Rattle.json_model.specs.WrittenReplies.{event_value}
use Rattle.direct_json.specs.Drafts.{with_items}
use Rattle.direct_json.proofs.messages.draft_each.Given as goal

abbrev pub invariant-loop-event : goal.invariant-loop-event
invariant-loop-event l = with_items (items_of event_value (drop l.event-index l.event-items)) l.draft ≡ with_items (items_of event_value l.events) l.initial.draft
