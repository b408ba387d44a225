-- The line is within the limits, or not.
use Rattle.std.proofs.Common.{List, ℕ, length, true, false, ◌≡◌, refl, sym, ◌∙◌, subst}
use Rattle.replay_model.specs.Progress.{progress, passes_limit}
use Rattle.replay_input.proofs.Replays.{takes_front, takes_too_much}
use Rattle.replay_input.proofs.replay.Replay.take_front.Goals as goal

pub returns-then-is_past_limit-clause-taken : goal.returns-then-is_past_limit-clause-taken
returns-then-is_past_limit-clause-taken g c = λ bytes f.
    takes_too_much c.args.self.now _ bytes c.args.front.now f c.requires.one c.requires.some c.in_ok-extend_from_slice.ensures.items refl
    (subst (λ (line : List ℕ). passes_limit (progress bytes) (length line) (length line) ≡ true) c.as_slice.ensures.value (sym (c.is_past_limit.ensures.passes (progress bytes) f.stands) ∙ c.if-is_past_limit.true))

pub returns-clause-taken : goal.returns-clause-taken
returns-clause-taken g c = λ bytes f.
    takes_front c.args.self.now _ bytes c.args.front.now f c.requires.one refl c.in_ok-extend_from_slice.ensures.items refl
    (subst (λ (line : List ℕ). passes_limit (progress bytes) (length line) (length line) ≡ false) c.as_slice.ensures.value (sym (c.is_past_limit.ensures.passes (progress bytes) f.stands) ∙ c.if-is_past_limit.false))
