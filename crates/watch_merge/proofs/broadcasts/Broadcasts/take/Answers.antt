use Rattle.std.proofs.Common.{false, [], List, get_or, map, ap, subst, ◌∙◌}
use Rattle.watch_model.specs.declared.place.WatchPlace.TheVariants as place
use Rattle.watch_model.specs.State.{Watch, Broadcasts}
use Rattle.watch_queue.specs.Watching.{shown}
use Rattle.watch_merge.specs.Watches.{IsWatchAt}
use Rattle.watch_merge.proofs.Takings.{same_get, taken_is}
use Rattle.watch_merge.proofs.broadcasts.Broadcasts.take.Goals as goal

pub returns-clause-ok : goal.returns-clause-ok
returns-clause-ok c =
    let o : Broadcasts = c.args.self.now in
    let p = subst (λ (ws : List Watch). IsWatchAt c.args.ticket ws c.in-Some.at) (ap (map shown) c.deref.ensures.value ∙ ap (λ (b : Broadcasts). b.watches) c.self.view_is) c.in-Some.ensures.found in
    let any : Watch = record {
      ticket = 0;
      ask = record { range = record { key = []; end = [] }; start = 0; no_put = false; no_delete = false; prev_kv = false; progress = false };
      start = 0;
      next = 0;
      told = false;
      queue = [];
      place = place.Split;
    } in
    let w = get_or o.watches c.in-Some.at any in
    taken_is o c.take_at.new.self c.args.ticket c.args.last w c.in_ok-take_at.field-0 (p.is any) (c.in_ok-take_at.ensures.ok w (same_get o.watches c.in-Some.at any w p.bound))
