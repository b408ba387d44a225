-- The line is the rest alone, or what has begun and the rest.
use Rattle.std.proofs.Common.{List, ℕ, [], ◌++◌, true, ◌≡◌, sym, ap, ◌∙◌, subst}
use Rattle.std.specs.Prelude.{string_bytes}
use Rattle.replay_model.specs.Progress.{progress, after_line}
use Rattle.replay_input.specs.Script.{Adds}
use Rattle.replay_input.proofs.Replays.{takes_end_of_line, nothing_by_length}
use Rattle.replay_input.proofs.replay.Replay.take_line.Goals as goal

pub take_line-requires : goal.take_line-requires
take_line-requires g c = c.requires.way.1.ready

pub take_line-requires-2 : goal.take_line-requires-2
take_line-requires-2 g c = c.requires.way.1.ready

pub returns-then-is_empty-clause-taken : goal.returns-then-is_empty-clause-taken
returns-then-is_empty-clause-taken g c = λ bytes f.
    let rest = c.args.rest.now in
    let nothing : c.args.self.now.line.items ≡ [] = nothing_by_length c.args.self.now.line.items _ c.args.self.now.line.ok.0 (sym c.is_empty.ensures ∙ c.if-is_empty.true) in
    takes_end_of_line c.args.self.now _ bytes rest c.in_ok-take_line.field-0 f c.requires.one
    (subst (λ (line : List ℕ). Adds c.take_line.new.self (string_bytes c.args.self.now.pending) (string_bytes c.take_line.new.out) c.in_ok-take_line.field-0 (progress bytes) (after_line (progress bytes) line true)) (ap (λ (line : List ℕ). line ++ rest) (sym nothing)) (c.in_ok-take_line.ensures.line (progress bytes) f.stands))
    nothing

pub returns-clause-taken : goal.returns-clause-taken
returns-clause-taken g c = λ bytes f.
    takes_end_of_line c.args.self.now _ bytes c.args.rest.now c.in_ok-ending.ending f c.requires.one
    (subst (λ (line : List ℕ). Adds c.take_line-2.new.self (string_bytes c.args.self.now.pending) (string_bytes c.take_line-2.new.out) c.in_ok-ending.ending (progress bytes) (after_line (progress bytes) line true)) (c.as_slice.ensures.value ∙ c.in_ok-extend_from_slice.ensures.items) (c.in_ok-ending.ensures.line (progress bytes) f.stands))
    c.clear.ensures.items
