use Rattle.script_text.proofs.Calls.{item_found, item_only}
use Rattle.script_text.proofs.texts.read_item.Goals as goal

pub returns-clause-found : goal.returns-clause-found
returns-clause-found c = item_found c.args.line.now c.placed_item.result c.placed_item.ensures

pub returns-clause-only : goal.returns-clause-only
returns-clause-only c = item_only c.args.line.now c.placed_item.result c.placed_item.ensures
