use Rattle.std.proofs.Common.{sym, ◌∙◌, rules}
use Rattle.std.specs.Ordering.{nat_cmp}
use Rattle.std.specs.Cmp.Lexicographic.{slice_cmp}
use Rattle.std.specs.BTreeMap.{is_at}
use Rattle.std.proofs.lemmas.Result.{err_from_is_err_and}
use Rattle.std.proofs.lemmas.Map.Steps.{set_value_same}
use Rattle.store_index.proofs.versions.Versions.add_change.Goals as goal

-- nothing was pushed, so what is written back is what was found
pub returns-in_err-push-clause-err : goal.returns-in_err-push-clause-err
returns-in_err-push-clause-err c =
    let p = err_from_is_err_and c.from_residual.result c.from_residual.ensures.1 in
    rw p.1
    (let same = c.in_err-push.ensures.err in
    rw same
    ((c.get_mut.follows.holds c.in-Some.versions.now).0
    ∙ set_value_same (is_at (slice_cmp nat_cmp c.args.key.now)) c.self.inside.map.entries c.in-Some.versions.now (sym (search rules)) ∙ c.self.view_is))
