-- The words so far are those of the front of the list.
use Rattle.std.proofs.Common.{◌≡◌, ◌++◌, take}
use Rattle.std.specs.Prelude.{string_bytes, flat_map}
use Rattle.text_model.specs.Texts.{written}
use Rattle.message_text.specs.Answers.{body_words}
use Rattle.message_text.proofs.bodies.+body_write.Given as goal

abbrev pub invariant-push_bodies-loop-body : goal.invariant-push_bodies-loop-body
invariant-push_bodies-loop-body l =
    string_bytes l.out ≡ string_bytes l.initial.out ++ written 32 (flat_map body_words (take l.body-index l.body-items))
