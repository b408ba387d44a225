-- No key so far is the one that is looked for.
use Rattle.std.proofs.Common.{◌≡◌}
use Rattle.serde_json.specs.View.{members_view}
use Rattle.json_model.specs.Known.{has_key}
use Rattle.json_fields.proofs.known.has_key.Given as goal

abbrev pub invariant-loop-key : goal.invariant-loop-key
invariant-loop-key l = has_key l.name (members_view l.key-iterator) ≡ has_key l.name (members_view l.object.entries)
