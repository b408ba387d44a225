use Rattle.std.proofs.Common.{◌≡◌, ℕ, ◌+◌, [], List, length, drop, refl, ap, sym, subst, ◌∙◌, append-nil}
use Rattle.etcd_types.specs.declared.watch.WatchItem.{WatchItem}
use Rattle.watch_model.specs.Queues.{item_events}
use Rattle.watch_queue.specs.Queued.{Queued}
use Rattle.watch_queue.specs.Heads.{Counts, items_of, shared_of}
use Rattle.watch_queue.specs.Shared.{values}
use Rattle.watch_queue.specs.declared.head.Head.{Head}
use Rattle.watch_queue.specs.declared.head.Head.TheVariants as head
use Rattle.watch_queue.proofs.Counts as counts
use Rattle.watch_queue.proofs.Heads as heads
use Rattle.watch_queue.proofs.queue.Queue.stage_told.Goals as goal

pub invariant_of-self-2 : goal.invariant_of-self-2
invariant_of-self-2 c =
    let e = c.push_head.ensures in
    let hs = c.self.inside.heads.items in
    let es = values c.self.inside.events.items in
    let h : Head = head.Whole c.args.told in
    let counted : c.event_count.result ≡ shared_of h = c.event_count.ensures ∙ ap (λ (i : WatchItem). length (item_events i)) c.item.ensures in
    let more : c.in-Some.ready ≡ c.self.inside.ready + shared_of h = c.in-Some.ensures.1 ∙ ap (λ (n : ℕ). c.self.inside.ready + n) counted in (
      heads.fits-pushed c.push_head.result hs c.push_head.new.heads.items h es es [] c.self.inside.shown c.self.inside.within c.self.invariant.0 refl
          e.ok (heads.same_events c.push_head.result es) e.err (heads.still c.push_head.result es),
      subst (λ (gs : List Head). Counts gs c.self.inside.shown c.self.inside.shared c.in-Some.ready) (sym c.in_ok-push_head.ensures.ok)
          (counts.counts-push hs h c.self.inside.shown c.self.inside.shared c.self.inside.ready c.in-Some.ready c.self.invariant.0.some c.self.invariant.1 more),
    )

pub returns-clause-items : goal.returns-clause-items
returns-clause-items c =
    let e = c.push_head.ensures in
    let es = values c.self.inside.events.items in
    heads.shown-pushed c.push_head.result c.self.inside.heads.items c.push_head.new.heads.items (head.Whole c.args.told) es es [] c.self.inside.shown c.self.inside.within c.self.invariant.0
    e.ok (heads.same_events c.push_head.result es) e.err (heads.still c.push_head.result es)
    ∙ ap (λ (q : Queued). q.items) (c.self.view_is ∙ c.unstage.ensures)

pub returns-clause-ok : goal.returns-clause-ok
returns-clause-ok c =
    let hs = c.self.inside.heads.items in
    let es = values c.self.inside.events.items in
    let none : drop c.self.inside.shown (items_of hs es) ≡ [] = ap (λ (q : Queued). q.staged) (c.self.view_is ∙ c.unstage.ensures) in
    (λ i. drop c.self.inside.shown (items_of (c.in_ok-push_head.ensures.ok i) (sym (append-nil es) i)))
    ∙ heads.staged-push hs (head.Whole c.args.told) es [] c.self.inside.shown c.self.inside.within c.self.invariant.0 none
