-- Each exit is a case of the end.
use Rattle.std.proofs.Common.{List, ℕ, false, refl, sym, ◌∙◌, subst}
use Rattle.std.specs.Prelude.{string_bytes}
use Rattle.replay_model.specs.Progress.{progress, after_line}
use Rattle.replay_input.specs.Script.{Adds}
use Rattle.replay_input.proofs.Replays.{ends_whole, ends_begun, empty_by_length, some_by_length}
use Rattle.replay_input.proofs.replay.Replay.take_end.Goals as goal

pub take_line-requires : goal.take_line-requires
take_line-requires g c = c.requires.1.ready

pub returns-then-is_empty : goal.returns-then-is_empty
returns-then-is_empty g c = λ bytes f.
    ends_whole c.args.self.now _ bytes f (empty_by_length c.args.self.now.line.items _ c.args.self.now.line.ok.0 (sym c.is_empty.ensures ∙ c.if-is_empty.true)) refl

pub returns : goal.returns
returns g c = λ bytes f.
    ends_begun c.args.self.now _ bytes c.in_ok-take_line.field-0 f (some_by_length c.args.self.now.line.items _ c.args.self.now.line.ok.0 (sym c.is_empty.ensures ∙ c.if-is_empty.false))
    (subst (λ (line : List ℕ). Adds c.take_line.new.self (string_bytes c.args.self.now.pending) (string_bytes c.take_line.new.out) c.in_ok-take_line.field-0 (progress bytes) (after_line (progress bytes) line false)) c.as_slice.ensures.value (c.in_ok-take_line.ensures.line (progress bytes) f.stands))
