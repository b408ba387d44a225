use Rattle.std.proofs.Common.{◌≡◌, ◌++◌, ◌∷◌, [], List, take, None, Some, slice_get, sym, ap, ◌∙◌}
use Rattle.etcd_types.specs.declared.watch.Event.{Event}
use Rattle.watch_queue.specs.Shared.{values}
use Rattle.std.specs.Arc.{arc_value}
use Rattle.std.specs.Option.{option_copied}
use Rattle.watch_queue.proofs.Values.{copied_more, copied_none, none_by}
use Rattle.watch_queue.proofs.rings.copy_first.Goals as goal
use Rattle.watch_queue.proofs.rings.copy_first.Goals.{in-Some+in_ok-copy+in_ok-push, in_default}

pub loop-at-preserved : goal.loop-at-preserved
loop-at-preserved c =
    let xs = c.args.events.now.items in
    let i = c.loop-at.at in
    elim c.match-get.branch [
      | in-Some+in_ok-copy+in_ok-push w ↦
          let is : slice_get xs i ≡ Some w.in-Some.event.now = sym c.get.ensures ∙ ap option_copied w.in-Some.is in
          let one : w.in_ok-copy.field-0 ≡ arc_value w.in-Some.event.now = w.in_ok-copy.ensures ∙ w.deref.ensures in
          w.copies-is ∙ w.in_ok-push.ensures.ok ∙ ap (λ (l : List Event). l ++ w.in_ok-copy.field-0 ∷ []) c.loop-at.invariant ∙ ap (λ (e : Event). take i (values xs) ++ e ∷ []) one
          ∙ sym (copied_more xs i w.in-Some.event.now is)
      | in_default w ↦
          let is : slice_get xs i ≡ None = sym c.get.ensures ∙ ap option_copied (none_by c.get.result w.in_default.not-Some) in
          w.copies-is ∙ c.loop-at.invariant ∙ sym (copied_none xs i is)
    ]
