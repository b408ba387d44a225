-- Clock work, with which every step begins: the session ends at its deadline; then each request that has no reply after five
-- seconds has one, all at once, and what stood on them falls. Its due calls go, and those that are out go on.
use Rattle.std.specs.Prelude.{ℕ, ◌-◌, Bool, true, false, not, ◌&&◌, nat_le, if◌then◌else◌, map}
use Rattle.wait_model.specs.Passes.{proceeded}
use Rattle.wait_model.specs.State.{step_begun}
use Rattle.read_model.specs.declared.asked.Asked.{Asked}
use Rattle.read_model.specs.declared.asked.Stage.{Stage}
use Rattle.read_model.specs.declared.asked.Stage.TheVariants as stage
use Rattle.read_model.specs.declared.asked.Verdict.TheVariants as verdict
use Rattle.read_model.specs.PlainRead.{in_stage}
use Rattle.read_model.specs.TakingOff.{taken_off}
use Rattle.core_model.specs.Lookups.{moment, reads_of, with_reads}
use Rattle.core_model.specs.Sessions.{deadline_passed}
use Rattle.core_model.specs.State.{Core}

-- milliseconds
abbrev pub request_time : ℕ
request_time = 5000

abbrev pub is_replied : Stage → Bool
is_replied (stage.Replied v) = true
is_replied _ = false

-- unanswered, and its time has passed
abbrev pub times_out : ℕ → Asked → Bool
times_out now a = not (is_replied a.stage) && nat_le request_time (now - a.asked)

abbrev pub timed_out_ask : ℕ → Asked → Asked
timed_out_ask now a = if times_out now a then in_stage (stage.Replied verdict.TimedOut) a else a

abbrev pub requests_timed_out : ℕ → Core → Core
requests_timed_out now c =
    with_reads c (taken_off (moment c now) (times_out now) (map (timed_out_ask now) c.asks) (reads_of c))

-- waiting writes go on
abbrev pub writes_go_on : Core → Core
writes_go_on c = record c { own = proceeded c.own }

-- what becomes due is due since this step
abbrev pub begun : Core → Core
begun c = record c { own = step_begun c.steps c.own; watches = record c.watches { step = c.steps } }

unfoldable pub clock_work : ℕ → Core → Core
clock_work now c = writes_go_on (requests_timed_out now (deadline_passed now (begun c)))
