use Rattle.std.proofs.Common.{List, true, ◌≡◌, sym, ◌∙◌, ap, subst}
use Rattle.std.specs.List.{list_all}
use Rattle.store_model.specs.declared.history.KeyChange.{KeyChange}
use Rattle.store_index.specs.Maps.{Entries}
use Rattle.store_index.specs.Leases.{AreCovered, is_put_linked}
use Rattle.store_index.proofs.LeaseLemmas.{added_covered, covered_stay}
use Rattle.store_index.proofs.leased.LeasedVersions.add_changes.Goals as goal

pub unlink_moved-requires : goal.unlink_moved-requires
unlink_moved-requires c =
    let linked : list_all (is_put_linked c.link_all.new.self) c.args.changes ≡ true =
    ap (λ (cs : List KeyChange). list_all (is_put_linked c.link_all.new.self) cs) (sym c.as_slice.ensures) ∙ c.in_ok-link_all.ensures.linked in
    subst (λ (es : Entries). AreCovered es c.link_all.new.self) (sym c.in_ok-add_changes.ensures.ok)
    (added_covered c.args.revision c.args.changes c.self.inside.versions c.link_all.new.self
    (covered_stay c.self.inside.versions c.self.inside.leases c.link_all.new.self c.self.invariant c.link_all.ensures.stay) linked)
