-- What a proof unfolds to compute the mapping on literals.
use Rattle.std.specs.Prelude.{⊤}
use Rattle.std.specs.Fmt.{digits}
use Rattle.std.specs.Str.{is_utf8, chars}
use Rattle.std.specs.Char.{encode_utf8}
use Rattle.base64.proofs.OnLiterals.{base64_on_literals}
use Rattle.serde_json.proofs.OnLiterals.{serde_json_on_literals}
use Rattle.json_model.specs.Known.{only, once}
use Rattle.json_model.specs.Paths.{path_of}
use Rattle.json_model.specs.Texts.{object_of}
use Rattle.json_model.specs.Tables.{range_fields, put_fields, delete_fields, txn_fields, compare_fields, operation_fields, compaction_fields, grant_fields, lease_fields, time_to_live_fields, watch_fields, create_fields, no_fields, header_fields, record_fields, put_reply_fields, delete_reply_fields, event_fields, message_fields}
use Rattle.json_model.specs.Requests.{key_range_in, limits_in, sorting_in, range_flags_in, bounds_in, range_in, ignored_in, put_in, delete_in, compact_in, grant_in, lease_in, time_to_live_in, leases_in}
use Rattle.json_model.specs.Compares.{operand_in, comparison_in, compare_in}
use Rattle.json_model.specs.Compares as compares
use Rattle.json_model.specs.Transactions.{operation_by, txn_by, txn_in}
use Rattle.json_model.specs.Watches.{unserved_in, create_in, created_in, watch_in}
use Rattle.json_model.specs.Extras.{put_extra, nested_extra, operation_extra, txn_extra_by, txn_extra, create_extra, asked_extra, watch_extra}
use Rattle.json_model.specs.Mapping.{request_of}
use Rattle.json_model.specs.Replies.{numbers_in, header_from, header_in, revisions_in, record_from, put_body, delete_body, lease_numbers}
use Rattle.json_model.specs.Answers.{refusal_in, reply_in, answer_of}
use Rattle.json_model.specs.WatchItems.{event_from, marks_in, item_in, item_of}
use Rattle.json_model.specs.WrittenRequests.{range_written, put_written, create_written, watch_written}
use Rattle.json_model.specs.WrittenReplies.{header_written, record_written, range_fields_of, time_to_live_fields_of, refusal_written, deleted_written, delete_event_written, events_written}

unfoldable pub requests_on_literals : ⊤
unfolding base64_on_literals serde_json_on_literals digits is_utf8 chars encode_utf8 path_of object_of only range_fields put_fields delete_fields txn_fields compare_fields operation_fields compaction_fields grant_fields lease_fields time_to_live_fields watch_fields create_fields no_fields key_range_in limits_in sorting_in range_flags_in bounds_in range_in ignored_in put_in delete_in compact_in grant_in lease_in time_to_live_in leases_in compares.version_in compares.create_in compares.modified_in compares.value_in compares.lease_in operand_in comparison_in compare_in operation_by txn_by txn_in unserved_in create_in created_in watch_in put_extra nested_extra operation_extra txn_extra_by txn_extra create_extra asked_extra watch_extra request_of
requests_on_literals = tt

unfoldable pub replies_on_literals : ⊤
unfolding base64_on_literals serde_json_on_literals digits is_utf8 chars encode_utf8 object_of once header_fields record_fields put_reply_fields delete_reply_fields event_fields message_fields numbers_in header_from header_in revisions_in record_from put_body delete_body lease_numbers refusal_in reply_in answer_of event_from marks_in item_in item_of
replies_on_literals = tt

unfoldable pub written_on_literals : ⊤
unfolding base64_on_literals serde_json_on_literals digits is_utf8 chars encode_utf8 range_written put_written create_written watch_written header_written record_written range_fields_of time_to_live_fields_of refusal_written deleted_written delete_event_written events_written
written_on_literals = tt
