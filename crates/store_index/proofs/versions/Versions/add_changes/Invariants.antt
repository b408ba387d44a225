-- The changes passed are added, and the others are still to come.
use Rattle.std.proofs.Common.{◌≡◌, ◌++◌, length}
use Rattle.store_index.specs.Adding.{added_all}
use Rattle.store_index.proofs.versions.Versions.add_changes.Given as goal

abbrev pub invariant-loop-change : goal.invariant-loop-change
invariant-loop-change l = record {
  added : l.self ≡ added_all l.revision l.yielded l.fn.self;
  counted : l.count ≡ length l.yielded;
  rest : l.yielded ++ l.change-iterator.rest.items ≡ l.fn.changes;
}
