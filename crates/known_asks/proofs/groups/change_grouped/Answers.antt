-- One after the other is changed, until there is none.
use Rattle.std.proofs.Common.{◌<◌, List, map, ap, sym, subst, ◌∙◌}
use Rattle.read_model.specs.declared.asked.Asked.{Asked}
use Rattle.known_asks.specs.OneByOne.{how_many}
use Rattle.ask_tables.specs.RowMarks.{has_key, by_group}
use Rattle.known_asks.proofs.OneByOne.{settled, settled-one, fewer_ticket, no_ticket}
use Rattle.known_asks.proofs.groups.change_grouped.Goals as goal

pub loop-ticket-smaller : goal.loop-ticket-smaller
loop-ticket-smaller g c =
    subst (λ (s : List Asked). how_many (has_key by_group c.args.kind c.args.lease) s < how_many (has_key by_group c.args.kind c.args.lease) c.loop-ticket.asks) (sym c.change.ensures)
    (fewer_ticket (has_key by_group c.args.kind c.args.lease) (g.R.Rule.changed c.args.rule.now) c.in-Some.ticket c.loop-ticket.asks c.requires c.in-Some.ensures)

pub loop-ticket-preserved : goal.loop-ticket-preserved
loop-ticket-preserved g c =
    ap (λ (s : List Asked). map (g.R.Rule.changed c.args.rule.now) s) c.change.ensures ∙ settled-one (has_key by_group c.args.kind c.args.lease) (g.R.Rule.changed c.args.rule.now) c.in-Some.ticket c.loop-ticket.asks c.requires ∙ c.loop-ticket.invariant

pub returns : goal.returns
returns g c =
    settled (has_key by_group c.args.kind c.args.lease) (g.R.Rule.changed c.args.rule.now) c.loop-ticket.asks c.requires (no_ticket (has_key by_group c.args.kind c.args.lease) c.loop-ticket.asks c.in_default.ensures) ∙ c.loop-ticket.invariant
