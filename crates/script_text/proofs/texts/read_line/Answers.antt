use Rattle.script_text.proofs.Calls.{line_found, line_only}
use Rattle.script_text.proofs.texts.read_line.Goals as goal

pub returns-clause-found : goal.returns-clause-found
returns-clause-found c = line_found c.args.number c.args.line.now c.placed_line.result c.placed_line.ensures

pub returns-clause-only : goal.returns-clause-only
returns-clause-only c = line_only c.args.number c.args.line.now c.placed_line.result c.placed_line.ensures
