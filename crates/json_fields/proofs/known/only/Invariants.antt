-- Every key so far is known.
use Rattle.std.proofs.Common.{◌≡◌}
use Rattle.serde_json.specs.View.{members_view}
use Rattle.json_model.specs.Names.{words}
use Rattle.json_model.specs.Known as spec
use Rattle.json_fields.proofs.known.only.Given as goal

abbrev pub invariant-loop-key : goal.invariant-loop-key
invariant-loop-key l =
    let all = members_view l.object.entries in
    spec.all_known (members_view l.key-iterator) (words l.allowed) all ≡ spec.only all l.allowed
