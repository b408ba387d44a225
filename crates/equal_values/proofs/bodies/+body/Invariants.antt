-- What is left to compare decides.
use Rattle.std.proofs.Common.{◌≡◌, drop}
use Rattle.equal_values.specs.Bodies.{same_bodies}
use Rattle.equal_values.proofs.bodies.+body.Given as goal

abbrev pub invariant-same_bodies-loop-place : goal.invariant-same_bodies-loop-place
invariant-same_bodies-loop-place l = same_bodies (drop l.place l.told) (drop l.place l.due) ≡ same_bodies l.told l.due
