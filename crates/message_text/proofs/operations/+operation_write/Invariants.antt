-- The words so far are those of the front of the list.
use Rattle.std.proofs.Common.{◌≡◌, ◌++◌, take}
use Rattle.std.specs.Prelude.{string_bytes, flat_map}
use Rattle.text_model.specs.Texts.{written}
use Rattle.message_text.specs.Requests.{op_words}
use Rattle.message_text.proofs.operations.+operation_write.Given as goal

abbrev pub invariant-push_ops-loop-op : goal.invariant-push_ops-loop-op
invariant-push_ops-loop-op l =
    string_bytes l.out ≡ string_bytes l.initial.out ++ written 32 (flat_map op_words (take l.op-index l.op-items))
