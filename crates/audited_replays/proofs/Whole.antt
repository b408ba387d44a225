-- All rules together: no item of a replay breaks one.
use Rattle.std.proofs.Common.{◌≡◌, true, not, cond, Some, None}
use Rattle.script_text.specs.declared.item.Item.{Item}
use Rattle.audit_laws.proofs.Splits.{meets_all}
use Rattle.audit_model.specs.declared.fault.AuditFault.TheVariants as fault
use Rattle.audit_model.specs.Answers.{answers_so, pushes_so}
use Rattle.audit_model.specs.Broken.{breaks_store, breaks_clients, first_of, broken}
use Rattle.audit_model.specs.Floors.{too_early}
use Rattle.audit_model.specs.Order.{about, in_order}
use Rattle.audit_model.specs.Takes.{takes_so}
use Rattle.audit_model.specs.Unsent.{replies_so}
use Rattle.std.specs.Prelude.{List}
use Rattle.audited_replays.specs.Rules.{RulesAreKept}
use Rattle.audited_replays.proofs.InOrders.{orders_kept, floors_kept}
use Rattle.audited_replays.proofs.Stores.{answers_kept, pushes_kept}
use Rattle.audited_replays.proofs.Takes.{takes_kept}
use Rattle.audited_replays.proofs.Unsent.{replies_kept}

store_unbroken : (before : List Item) (i : Item) → in_order before i ≡ true → answers_so before i ≡ true → pushes_so before i ≡ true → breaks_store before i ≡ None
unfolding breaks_store
store_unbroken before i a b c = λ j. cond (not (a j)) (Some (fault.Order (about i))) (cond (not (b j)) (Some (fault.Answer (about i))) (cond (not (c j)) (Some (fault.Push (about i))) None))

clients_unbroken : (before : List Item) (i : Item) → replies_so before i ≡ true → takes_so before i ≡ true → too_early before i ≡ None → breaks_clients before i ≡ None
unfolding breaks_clients
clients_unbroken before i a b c = λ j. cond (not (a j)) (Some (fault.Unsent (about i))) (cond (not (b j)) (Some (fault.Watch (about i))) (c j))

unbroken : (before : List Item) (i : Item) → breaks_store before i ≡ None → breaks_clients before i ≡ None → broken before i ≡ None
unbroken before i a b = λ j. first_of (a j) (b j)

pub rules_kept : RulesAreKept
rules_kept lines m few s =
    meets_all _
    (λ earlier later i e. unbroken earlier i
    (store_unbroken earlier i (orders_kept lines m few s earlier later i e) (answers_kept lines m few s earlier later i e) (pushes_kept lines m few s earlier later i e))
    (clients_unbroken earlier i (replies_kept lines m few s earlier later i e) (takes_kept lines m few s earlier later i e) (floors_kept lines m few s earlier later i e)))
