use Rattle.std.proofs.Common.{◌≡◌, ◌<◌, None, Some, List, Option, drop, get_or, length, ap, sym, subst, ◌∙◌, IfOk}
use Rattle.std.specs.Option.{option_copied}
use Rattle.etcd_types.specs.declared.watch.WatchItem.{WatchItem}
use Rattle.watch_model.specs.State.{Stream, Watch, Broadcasts}
use Rattle.watch_model.specs.Joining.{seated_as, stream_to_join}
use Rattle.watch_model.specs.Takes.{taken_from, with_watch}
use Rattle.watch_merge.specs.contracts.broadcasts.Broadcasts.{the_view}
use Rattle.watch_merge.specs.Taking.{joins_again, taken_to, opened_for}
use Rattle.watch_merge.proofs.Takings.{is_shown, bound_of, only_is, again_standing, again_fresh, each_ok}
use Rattle.watch_merge.proofs.broadcasts.Broadcasts.take_at.Goals as goal

pub returns-then-not-joins_again-clause-ok : goal.returns-then-not-joins_again-clause-ok
returns-then-not-joins_again-clause-ok c =
    let o : Broadcasts = c.args.self.now in
    let new : Broadcasts = c.take_only.new.self in
    each_ok
    (λ (item : Option WatchItem). (w : Watch) → w ≡ get_or o.watches c.args.at w → taken_to o w w.queue (with_watch o (record w { queue = drop 1 w.queue })) ≡ (new, item))
    (λ (item : Option WatchItem). (w : Watch) → w ≡ get_or o.watches c.args.at w → taken_from o c.args.last w w.queue ≡ (new, item))
    c.take_only.result
    (λ item h w e.
    let ws = c.self.inside.watches.items in
    let l = bound_of ws c.args.at (subst (λ (b : Broadcasts). c.args.at < length b.watches) (sym c.self.view_is) c.requires.bound) in
    let s = is_shown ws c.args.at c.index-watch.result.now w l c.index-watch.ensures (e ∙ ap (λ (b : Broadcasts). get_or b.watches c.args.at w) (sym c.self.view_is)) in
    only_is o c.args.last w w.queue (ap joins_again s ∙ sym c.joins_again.ensures ∙ c.if-not-joins_again.true) ∙ h w e)
    c.take_only.ensures.ok

pub returns-in-None-clause-ok : goal.returns-in-None-clause-ok
returns-in-None-clause-ok c =
    let o : Broadcasts = the_view c.self.inside in
    let new : Broadcasts = c.take_and_open.new.self in
    subst (λ (x : Broadcasts). IfOk c.take_and_open.result (λ item. (w : Watch) → w ≡ get_or x.watches c.args.at w → taken_from x c.args.last w w.queue ≡ (new, item))) c.self.view_is
    (each_ok
    (λ (item : Option WatchItem). (w : Watch) → w ≡ get_or o.watches c.args.at w → taken_to o w w.queue (opened_for o (record w { queue = drop 1 w.queue })) ≡ (new, item))
    (λ (item : Option WatchItem). (w : Watch) → w ≡ get_or o.watches c.args.at w → taken_from o c.args.last w w.queue ≡ (new, item))
    c.take_and_open.result
    (λ item h w e.
    let ws = c.self.inside.watches.items in
    let l = bound_of ws c.args.at (subst (λ (b : Broadcasts). c.args.at < length b.watches) (sym c.self.view_is) c.requires.bound) in
    let s = is_shown ws c.args.at c.index-watch.result.now w l c.index-watch.ensures e in
    let at : stream_to_join o.streams w.ask.range w.next c.args.last.revision ≡ None =
    ap (λ (v : Watch). stream_to_join o.streams v.ask.range v.next c.args.last.revision) s
    ∙ sym (ap (λ (ss : List Stream). stream_to_join ss c.index-watch.result.now.ask.range c.index-watch.result.now.next c.args.last.revision) c.deref-2.ensures.value)
    ∙ sym c.stream_to_join.ensures ∙ ap option_copied c.in-None.is in
    again_fresh o c.args.last w w.queue (ap joins_again s ∙ sym c.joins_again.ensures ∙ c.if-not-joins_again.false) at ∙ h w e)
    c.take_and_open.ensures.ok)

pub returns-clause-ok : goal.returns-clause-ok
returns-clause-ok c =
    let o : Broadcasts = the_view c.self.inside in
    let new : Broadcasts = c.take_and_join.new.self in
    let t : Stream = c.in-Some.found.now in
    subst (λ (x : Broadcasts). IfOk c.take_and_join.result (λ item. (w : Watch) → w ≡ get_or x.watches c.args.at w → taken_from x c.args.last w w.queue ≡ (new, item))) c.self.view_is
    (each_ok
    (λ (item : Option WatchItem). (w : Watch) → w ≡ get_or o.watches c.args.at w
    → taken_to o w w.queue (with_watch o (seated_as c.args.last t.number c.next_of-next.result c.is_created-created.result (record w { queue = drop 1 w.queue }))) ≡ (new, item))
    (λ (item : Option WatchItem). (w : Watch) → w ≡ get_or o.watches c.args.at w → taken_from o c.args.last w w.queue ≡ (new, item))
    c.take_and_join.result
    (λ item h w e.
    let ws = c.self.inside.watches.items in
    let l = bound_of ws c.args.at (subst (λ (b : Broadcasts). c.args.at < length b.watches) (sym c.self.view_is) c.requires.bound) in
    let s = is_shown ws c.args.at c.index-watch.result.now w l c.index-watch.ensures e in
    let at : stream_to_join o.streams w.ask.range w.next c.args.last.revision ≡ Some t =
    ap (λ (v : Watch). stream_to_join o.streams v.ask.range v.next c.args.last.revision) s
    ∙ sym (ap (λ (ss : List Stream). stream_to_join ss c.index-watch.result.now.ask.range c.index-watch.result.now.next c.args.last.revision) c.deref-2.ensures.value)
    ∙ sym c.stream_to_join.ensures ∙ ap option_copied c.in-Some.is in
    again_standing o c.args.last w w.queue t (ap joins_again s ∙ sym c.joins_again.ensures ∙ c.if-not-joins_again.false) at
    ∙ (λ j. taken_to o w w.queue (with_watch o (seated_as c.args.last t.number (sym c.next_of-next.ensures j) (sym c.is_created-created.ensures.created j) (record w { queue = drop 1 w.queue }))))
    ∙ h w e)
    c.take_and_join.ensures.ok)
