-- The first message, or a later one.
use Rattle.std.proofs.Common.{List, sym, ◌∙◌, ap, subst}
use Rattle.etcd_types.specs.declared.watch.WatchItem.{WatchItem}
use Rattle.world_model.specs.Answers.{seen}
use Rattle.world_model.specs.Lives.{namespace_of}
use Rattle.audit_model.specs.Takes.{takes_by}
use Rattle.audit_clients.proofs.Turns.{none_taken, some_taken}
use Rattle.audit_clients.proofs.takes.takes_by.Goals as goal

pub returns-in_ok-takes_later-in-Some : goal.returns-in_ok-takes_later-in-Some
returns-in_ok-takes_later-in-Some c = λ items taken st g ok.
    c.in_ok-takes_later-in-Some.ensures items taken st g (some_taken (seen items).store (namespace_of items) c.args.ask.now taken c.args.taking c.in-Some.taking c.in-Some.is ok)

pub returns-in-None : goal.returns-in-None
returns-in-None c = λ items taken st g ok.
    c.takes_first.ensures items
    ∙ ap (λ (ts : List WatchItem). takes_by items c.args.ask.now ts c.args.message.now) (sym (none_taken (seen items).store (namespace_of items) c.args.ask.now taken c.args.taking c.in-None.is ok))
