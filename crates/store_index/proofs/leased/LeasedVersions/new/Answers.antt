use Rattle.std.proofs.Common.{◌≡◌, None, Some, sym, ◌∙◌, ap}
use Rattle.etcd_types.specs.declared.record.Kv.{Kv}
use Rattle.compaction_model.specs.Versions.{last_left}
use Rattle.store_index.specs.Maps.{Entries, versions_of}
use Rattle.store_index.proofs.leased.LeasedVersions.new.Goals as goal

pub invariant_of-result : goal.invariant_of-result
invariant_of-result c = λ k kv e.
    let none : None ≡ Some kv = ap (λ (es : Entries). last_left (versions_of es k) None) (sym c.new.ensures) ∙ e in absurd (cc)
