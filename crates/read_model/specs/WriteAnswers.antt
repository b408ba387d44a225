-- A write's call, a revoke call or a rescind is answered or lost: what it settles is replied, and the reads that waited for an
-- owner write are decided again where it was answered, before waiting writes go on.
use Rattle.std.specs.Prelude.{ℕ, true, false, ◌==◌, if◌then◌else◌, map, Option, None, Some}
use Rattle.etcd_types.specs.declared.answer.Answer.{Answer}
use Rattle.wait_model.specs.declared.wait.Settled.{Settled}
use Rattle.wait_model.specs.declared.wait.Settled.TheVariants as settled
use Rattle.wait_model.specs.Endings.{answered, lost}
use Rattle.wait_model.specs.GuardedAnswers.{Ending}
use Rattle.wait_model.specs.Passes.{proceeded}
use Rattle.read_model.specs.declared.asked.Asked.{Asked}
use Rattle.read_model.specs.declared.asked.Stage.TheVariants as stage
use Rattle.read_model.specs.declared.asked.Verdict.TheVariants as verdict
use Rattle.read_model.specs.PlainRead.{in_stage}
use Rattle.read_model.specs.Release.{released}
use Rattle.read_model.specs.State.{Reads, Moment}

abbrev pub settled_ask : Settled → Asked → Asked
settled_ask (settled.Reply ticket a) x = if x.ticket == ticket then in_stage (stage.Replied (verdict.Said a)) x else x
settled_ask (settled.Failed ticket) x = if x.ticket == ticket then in_stage (stage.Replied verdict.Lost) x else x
settled_ask settled.Nothing x = x

abbrev pub ending : Ending → Reads → Reads
ending x r = record r { own = x.own; asks = map (settled_ask x.settled) r.asks }

abbrev pub answered_by : Moment → Option Ending → Reads → Option Reads
answered_by m None r = None
answered_by m (Some x) r = Some (released true m (ending x r))

-- nothing, where the answer can't be one to this call
abbrev pub wait_answered : Moment → ℕ → Answer → Reads → Option Reads
wait_answered m call a r = answered_by m (answered call a m.session m.now r.own) r

abbrev pub wait_lost : Moment → ℕ → Reads → Reads
wait_lost m call r = released false m (ending (lost call r.own) r)

-- Waiting writes go on.
abbrev pub went_on : Reads → Reads
went_on r = record r { own = proceeded r.own }
