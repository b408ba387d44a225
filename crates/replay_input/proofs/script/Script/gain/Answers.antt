-- What the world requires of a line, and that it gives what the script gives.
use Rattle.std.proofs.Common.{arith}
use Rattle.replay_input.proofs.Scripts.{counts_there, world_fits, world_begins, world_gives}
use Rattle.replay_input.proofs.script.Script.gain.Goals as goal

pub later-requires : goal.later-requires
later-requires g c =
    let counted = counts_there c.args.self.now.world c.in-Some.world c.args.self.now.lines c.in-Some.is c.requires.ready in
    record {
      number = omega (arith, counted, c.requires.number);
      few = omega (arith, counted, c.args.self.now.few_lines);
    }

pub begin-requires : goal.begin-requires
begin-requires g c = world_fits c.args.number c.in-Ok.line c.in-Ok.ensures.found.1

pub returns-in-Some-clause-gained : goal.returns-in-Some-clause-gained
returns-in-Some-clause-gained g c =
    world_gives c.args.self.now.world c.in-Some.world c.later.new.world c.later.result c.in-Ok.line _ c.in-Some.is c.in-Ok.ensures.exact c.later.ensures

pub returns-in_ok-world-in-None-clause-gained : goal.returns-in_ok-world-in-None-clause-gained
returns-in_ok-world-in-None-clause-gained g c =
    world_begins c.args.self.now.world c.in_ok-world-in-None.world c.in_ok-world-in-None.items c.in-Ok.line _ c.in-None.is c.in-Ok.ensures.exact c.in_ok-world-in-None.ensures
