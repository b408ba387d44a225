-- Each by computation.
use Rattle.std.proofs.Common.{refl}
use Rattle.watch_laws.proofs.worked.worked_scripts.Goals as goal

pub returns : goal.returns
returns c = record {
  merges = refl;
  cancels = refl;
  removes = refl;
  opens_from_now = refl;
  progresses = refl;
  splits = refl;
}
