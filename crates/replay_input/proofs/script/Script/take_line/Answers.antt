-- The line that was taken is the progress's next.
use Rattle.std.proofs.Common.{◌≡◌, ◌∙◌, ◌+◌, false, refl, sym, ap, length}
use Rattle.std.specs.Prelude.{string_bytes}
use Rattle.replay_model.specs.Progress.{is_past, size_of}
use Rattle.replay_input.proofs.Scripts.{adds_line}
use Rattle.replay_input.proofs.script.Script.take_line.Goals as goal

pub returns-in_ok-write_items-in-Ok-clause-line : goal.returns-in_ok-write_items-in-Ok-clause-line
returns-in_ok-write_items-in-Ok-clause-line g c = λ p s.
    let line = c.args.line.now in
    let size = c.size_of-size.ensures in
    let within : is_past c.args.self.now.lines c.args.self.now.bytes (length line) (size_of line c.args.feed) ≡ false =
    sym (ap (is_past c.args.self.now.lines c.args.self.now.bytes (length line)) size) ∙ sym c.is_past.ensures ∙ c.if-is_past.false in
    adds_line c.args.self.now _ p line c.args.feed c.in-Ok.items (string_bytes c.args.out.now) (string_bytes c.write_items.new.out) s c.requires within (c.in-Ok.ensures.gained p.world s.world) refl (λ i. c.in-Ok.ensures.bytes i + size i) c.in_ok-write_items-in-Ok.ensures
