-- The values so far, and those that are left to write, are all.
use Rattle.std.proofs.Common.{◌≡◌, drop}
use Rattle.json_model.specs.Written.{items_of}
use Rattle.json_model.specs.Written.{text_of}
use Rattle.json_model.proofs.ItemsSoFar.{onto}
use Rattle.api_reply.proofs.bodies.key_values.Given as goal

abbrev pub invariant-loop-key : goal.invariant-loop-key
invariant-loop-key l = onto l.values.items (items_of text_of (drop l.key-index l.key-items)) ≡ items_of text_of l.keys
