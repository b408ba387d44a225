-- The words so far are those of the front of the list.
use Rattle.std.proofs.Common.{◌≡◌, ◌++◌, take}
use Rattle.std.specs.Prelude.{string_bytes, flat_map}
use Rattle.text_model.specs.Texts.{written}
use Rattle.message_text.proofs.text.push_list.Given as goal

abbrev pub invariant-loop-member : goal.invariant-loop-member
invariant-loop-member g l =
    string_bytes l.out ≡ string_bytes l.initial.out ++ written 32 (flat_map g.T.Text.form.spell (take l.member-index l.member-items))
