-- The values so far, and those that are left to write, are all. Each round of responses is of bodies within a body.
use Rattle.std.proofs.Common.{◌≡◌, drop}
use Rattle.json_model.specs.Written.{items_of}
use Rattle.json_model.specs.WrittenReplies.{response_value}
use Rattle.json_model.proofs.ItemsSoFar.{onto}
use Rattle.api_reply.proofs.responses.+response.Given as goal

abbrev pub invariant-response_values-loop-body : goal.invariant-response_values-loop-body
invariant-response_values-loop-body l = onto l.values.items (items_of response_value (drop l.body-index l.body-items)) ≡ items_of response_value l.bodies
