use Rattle.std.proofs.Common.{◌≡◌, ◌++◌, ℕ, take, drop, None, sym, subst, arith, rules}
use Rattle.compaction_model.specs.Versions.{held_list}
use Rattle.store_index.specs.Held.{held_last}
use Rattle.store_index.proofs.KeptPlaces.{held_put, held_deletion, held_none}
use Rattle.store_index.proofs.key_versions.held_before.Goals.{else-place-gt0-via-then-place-gt0+else-is_some, else-place-gt0-via-else-place-gt0}
use Rattle.store_index.proofs.key_versions.held_before.Goals as goal

pub returns-then-is_some-clause-held : goal.returns-then-is_some-clause-held
returns-then-is_some-clause-held c =
    held_put c.args.place c.args.versions.now c.index-versions-place.result c.if-place-gt0.true c.requires c.index-versions-place.is (search rules)

pub returns-else-place-gt0-clause-held : goal.returns-else-place-gt0-clause-held
returns-else-place-gt0-clause-held c =
    elim c.else-place-gt0.branch [
      | else-place-gt0-via-then-place-gt0+else-is_some w ↦
          held_deletion c.args.place c.args.versions.now w.index-versions-place.result w.if-place-gt0.true c.requires w.index-versions-place.is (search rules)
      | else-place-gt0-via-else-place-gt0 w ↦
          let e : c.args.place ≡ 0 = omega arith in
          subst (λ (n : ℕ). held_list (held_last (take n c.args.versions.now) None) ++ drop n c.args.versions.now ≡ drop n c.args.versions.now) (sym e)
          (held_none c.args.versions.now)
    ]
