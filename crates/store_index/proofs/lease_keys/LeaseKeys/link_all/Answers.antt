use Rattle.std.proofs.Common.{◌≡◌, true, List, ◌++◌, ◌∷◌, [], take, refl, sym, ◌∙◌, ap}
use Rattle.std.specs.List.{list_all}
use Rattle.std.proofs.lemmas.List.{take_more}
use Rattle.std.proofs.lemmas.List.Folds.{list_all-append}
use Rattle.etcd_types.proofs.Bools.{and_both}
use Rattle.store_model.specs.declared.history.KeyChange.{KeyChange}
use Rattle.store_index.specs.Leases.{is_put_linked}
use Rattle.store_index.proofs.LeaseLemmas.{linked_stay}
use Rattle.store_index.proofs.lease_keys.LeaseKeys.link_all.Goals as goal

pub loop-change-preserved : goal.loop-change-preserved
loop-change-preserved c =
    let passed : List KeyChange = take c.loop-change.change-index c.args.changes.now in
    let x : KeyChange = c.change-item.result in
    let before : list_all (is_put_linked c.link_put.new.self) passed ≡ true =
    linked_stay c.loop-change.self c.link_put.new.self passed c.link_put.ensures.stay c.loop-change.invariant.linked in
    let here : is_put_linked c.link_put.new.self x ≡ true = c.in_ok-link_put.ensures.linked in
    record {
      linked =
          ap (list_all (is_put_linked c.link_put.new.self))
          (take_more c.args.changes.now c.loop-change.change-index x c.loop-change-test.true ∙ ap (λ (d : KeyChange). passed ++ d ∷ []) (sym c.change-item.is))
          ∙ list_all-append (is_put_linked c.link_put.new.self) passed (x ∷ [])
          ∙ and_both (list_all (is_put_linked c.link_put.new.self) passed) (list_all (is_put_linked c.link_put.new.self) (x ∷ [])) before
          (and_both (is_put_linked c.link_put.new.self x) true here refl);
      stay = λ n k e. c.link_put.ensures.stay n k (c.loop-change.invariant.stay n k e);
    }
