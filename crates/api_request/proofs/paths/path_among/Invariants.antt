-- No path so far has this text.
use Rattle.std.proofs.Common.{◌≡◌, drop}
use Rattle.json_model.specs.Paths.{path_among}
use Rattle.api_request.proofs.paths.path_among.Given as goal

abbrev pub invariant-loop-path : goal.invariant-loop-path
invariant-loop-path l = path_among l.text (drop l.path-index l.paths) ≡ path_among l.text l.paths
