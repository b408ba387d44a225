-- Behind none, or behind some.
use Rattle.std.proofs.Common.{List, [], ◌∷◌, ◌++◌, Option, sym, subst}
use Rattle.etcd_types.specs.declared.watch.WatchItem.{WatchItem}
use Rattle.audit_clients.specs.Takings.{IsTaking, Tracks}
use Rattle.audit_clients.specs.declared.takings.Taking.{Taking}
use Rattle.audit_clients.proofs.takings.after.Goals as goal

pub returns-in_ok-next_taking-in-Some-clause-tracks : goal.returns-in_ok-next_taking-in-Some-clause-tracks
returns-in_ok-next_taking-in-Some-clause-tracks c = λ taken t.
    c.in_ok-next_taking-in-Some.ensures.tracks c.args.ask.now taken (subst (λ (o : Option Taking). IsTaking o c.args.ask.now taken) c.in-Some.is t)

pub returns-in_ok-first_taking-in-None-clause-tracks : goal.returns-in_ok-first_taking-in-None-clause-tracks
returns-in_ok-first_taking-in-None-clause-tracks c = λ taken t.
    subst (λ (ts : List WatchItem). Tracks c.in_ok-first_taking-in-None.field-0 c.args.ask.now (ts ++ c.args.message.now ∷ []))
    (sym (subst (λ (o : Option Taking). IsTaking o c.args.ask.now taken) c.in-None.is t)) c.in_ok-first_taking-in-None.ensures.tracks
