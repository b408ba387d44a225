-- The request is drawn and asked, and then all settles.
use Rattle.std.proofs.Common.{sym, subst}
use Rattle.replay_generated.proofs.Makings.{asks}
use Rattle.replay_world.specs.Step.{IsStep}
use Rattle.script_text.specs.declared.line.Line.{Line}
use Rattle.replay_generated.proofs.Taking.{ask_first, ask_then}
use Rattle.replay_generated.proofs.making.Making.asks_once.Goals as goal

pub returns : goal.returns
returns g c = asks c.in_ok-line.line c.args.state c.args.number c.set_state.ensures c.in_ok-line.ensures c.in_ok-add.ensures c.in_ok-settle.ensures

pub add-requires : goal.add-requires
add-requires g c = record {
  line = subst (λ (l : Line). IsStep l) (sym c.in_ok-line.ensures) tt;
  goes = ask_first c.in_ok-line.line c.args.state c.args.number c.set_state.ensures c.in_ok-line.ensures c.requires;
}

pub settle-requires : goal.settle-requires
settle-requires g c = ask_then c.in_ok-line.line c.args.state c.args.number c.set_state.ensures c.in_ok-line.ensures c.requires c.in_ok-add.ensures
