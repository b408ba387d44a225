-- Each kind of message is told as it is defined.
use Rattle.std.proofs.Common.{◌≡◌, Option, Some, Result, Ok, OnOk, sym, subst, ◌∙◌}
use Rattle.etcd_types.specs.declared.record.Header.{Header}
use Rattle.etcd_types.specs.declared.watch.WatchItem.{WatchItem}
use Rattle.watch_model.specs.Delivery.{delivered, found_stream}
use Rattle.watch_model.specs.State.{Stream, Broadcasts}
use Rattle.watch_merge.specs.declared.fault.WatchFault.{WatchFault}
use Rattle.core_machine.specs.Items.{watches_told, watches_told_if}
use Rattle.core_machine.proofs.Messages.{told_found}
use Rattle.core_machine.proofs.items.tell.Goals as goal
use Rattle.core_machine.proofs.items.tell.Goals.{in-Created, in-Events, in-Canceled}

told_so :
    (told result : Result (Unit {0}) WatchFault) (done : Unit {0}) (s : Option Stream) (x y : WatchItem) (last : Header) (b new out : Broadcasts)
    → told ≡ result → told ≡ Ok done → out ≡ new → x ≡ y → OnOk result (found_stream s (λ s. watches_told s y last b) ≡ Some new) → out ≡ watches_told_if s x last b
told_so told result done s x y last b new out e f g h t =
    g ∙ told_found s y last b new (subst (λ z. OnOk z (found_stream s (λ s. watches_told s y last b) ≡ Some new)) (sym e ∙ f) t)
    ∙ (λ i. watches_told_if s (sym h i) last b)

pub returns-in-Ok-clause-ok : goal.returns-in-Ok-clause-ok
unfolding delivered
returns-in-Ok-clause-ok c =
    elim c.match-item.branch [
      | in-Created w ↦ told_so c.match-item.told w.created-told.result c.in-Ok.field-0 _ c.args.item _ c.args.last c.args.watches.now _ c.match-item.watches w.told-is c.in-Ok.is w.watches-is w.in-Created.is w.created-told.ensures.ok
      | in-Events w ↦ told_so c.match-item.told w.deliver-told.result c.in-Ok.field-0 _ c.args.item _ c.args.last c.args.watches.now _ c.match-item.watches w.told-is c.in-Ok.is w.watches-is w.in-Events.is w.deliver-told.ensures.ok
      | in-Canceled w ↦ told_so c.match-item.told w.cancelled-told.result c.in-Ok.field-0 _ c.args.item _ c.args.last c.args.watches.now _ c.match-item.watches w.told-is c.in-Ok.is w.watches-is w.in-Canceled.is w.cancelled-told.ensures.ok
    ]
