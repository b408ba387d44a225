use Rattle.std.proofs.Common.{◌≡◌, [], take, drop, true, false, cond, sym, ap, subst, ◌∙◌}
use Rattle.etcd_types.specs.declared.watch.WatchItem.TheVariants as item
use Rattle.watch_queue.specs.Queued.{Queued, progressed, committed}
use Rattle.watch_queue.specs.Heads.{items_of}
use Rattle.watch_model.specs.Queues.{is_progress_last, with_progress}
use Rattle.watch_queue.specs.Shared.{values}
use Rattle.watch_queue.specs.contracts.queue.Queue.{the_view}
use Rattle.watch_queue.proofs.Values.{take-values}
use Rattle.watch_queue.proofs.Counts as counts
use Rattle.watch_queue.proofs.Heads as heads
use Rattle.watch_queue.proofs.queue.Queue.commit_progress.Goals as goal

pub invariant_of-self : goal.invariant_of-self
invariant_of-self c =
    rw (c.put_last.ensures, c.truncate_back.ensures, take-values c.self.inside.within c.self.inside.events.items) (
      heads.put_fits_at c.self.inside.heads.items (values c.self.inside.events.items) c.self.inside.shown c.self.inside.within c.args.header c.self.invariant.0 (sym c.ends_in_progress.ensures ∙ c.if-ends_in_progress.true),
      counts.counts-put c.self.inside.heads.items c.self.inside.shown c.self.inside.shared c.self.inside.ready c.args.header c.self.invariant.0.some c.self.invariant.1 (sym c.ends_in_progress.ensures ∙ c.if-ends_in_progress.true),
    )

pub returns-then-ends_in_progress : goal.returns-then-ends_in_progress
returns-then-ends_in_progress c =
    let hs = c.self.inside.heads.items in
    let es = values c.self.inside.events.items in
    let n = c.self.inside.shown in
    let e = sym c.ends_in_progress.ensures ∙ c.if-ends_in_progress.true in
    let one : take n (items_of c.put_last.new.heads.items (values c.truncate_back.new.self.items)) ≡ with_progress (take n (items_of hs es)) (item.Events c.args.header []) =
    rw (c.put_last.ensures, c.truncate_back.ensures, take-values c.self.inside.within c.self.inside.events.items) (heads.put_shown_at hs es n c.self.inside.within c.args.header c.self.invariant.0 e) in
    let none : drop n (items_of c.put_last.new.heads.items (values c.truncate_back.new.self.items)) ≡ [] =
    rw (c.put_last.ensures, c.truncate_back.ensures, take-values c.self.inside.within c.self.inside.events.items) (heads.put_staged_at hs es n c.self.inside.within c.args.header c.self.invariant.0 e) in
    let last : is_progress_last (take n (items_of hs es)) ≡ true = sym (heads.ends_is hs es n c.self.inside.within c.self.invariant.0) ∙ e in
    (λ i. record { items = one i; staged = none i })
    ∙ sym (ap (λ b. cond b (record { items = with_progress (take n (items_of hs es)) (item.Events c.args.header []); staged = [] }) (committed (the_view c.self.inside))) last)
    ∙ ap (λ (q : Queued). progressed q c.args.header) c.self.view_is

pub returns-else-ends_in_progress : goal.returns-else-ends_in_progress
returns-else-ends_in_progress c =
    let q : Queued = c.args.self.now in
    let e : is_progress_last q.items ≡ false =
    subst (λ (r : Queued). is_progress_last r.items ≡ false) c.self.view_is
    (sym (heads.ends_is c.self.inside.heads.items (values c.self.inside.events.items) c.self.inside.shown c.self.inside.within c.self.invariant.0) ∙ sym c.ends_in_progress.ensures ∙ c.if-ends_in_progress.false) in
    c.commit.ensures ∙ sym (ap (λ b. cond b (record { items = with_progress q.items (item.Events c.args.header []); staged = [] }) (committed q)) e)
