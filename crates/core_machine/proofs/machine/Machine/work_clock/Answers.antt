-- After the end of a session what is owned, acquired and read still fits together.
use Rattle.std.proofs.Common.{sym, subst, Bool}
use Rattle.read_model.specs.Fits.{ReadsOk}
use Rattle.core_model.specs.ClockWork.{begun}
use Rattle.core_model.specs.Fits.{is_standing}
use Rattle.core_model.specs.Lookups.{reads_of}
use Rattle.core_model.specs.Sessions.{deadline_passed}
use Rattle.core_laws.proofs.Steps.Middle.{deadline_mid}
use Rattle.core_laws.proofs.Steps.Whole.{begun_mid}
use Rattle.core_machine.specs.Keeping.{Kept, on}
use Rattle.core_machine.proofs.machine.Machine.work_clock.Goals as goal

pub time_out-requires : goal.time_out-requires
time_out-requires c =
    let old = c.args.self.now.core in
    let d = begun old in
    let m = deadline_mid 0 c.args.now d (begun_mid 0 old c.requires) in
    let P : Kept → Type 0 = λ k. (x : Bool) × ReadsOk x (reads_of k.core) in
    subst P (sym c.pass_deadline.ensures)
    (subst (λ (k : Kept). P (on k (deadline_passed c.args.now k.core))) (sym c.begin_step.ensures) (is_standing (deadline_passed c.args.now d).seat, m.reads))
