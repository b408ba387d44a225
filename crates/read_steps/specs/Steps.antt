-- The steps of reads by name, where the definitions have them as parts of a proxy's step.
use Rattle.std.specs.Prelude.{◌≡◌, ℕ, Bool, false, List, [], ◌∷◌, ◌++◌, map, Option, None, Some, Result, Ok, Err}
use Rattle.lease_txn.specs.declared.not_shape.NotShape.{NotShape}
use Rattle.lease_txn.specs.declared.not_shape.NotShape.TheVariants.{Shape, NoMemory}
use Rattle.wait_model.specs.Asked.{submitted}
use Rattle.wait_model.specs.State.{owned, first_waits}
use Rattle.read_model.specs.declared.asked.Asked.{Asked}
use Rattle.read_model.specs.declared.asked.Stage.{Stage}
use Rattle.read_model.specs.declared.asked.Stage.TheVariants as stage
use Rattle.read_model.specs.declared.asked.Verdict.{Verdict}
use Rattle.read_model.specs.Acquires.{AfterAcquire, read_asked}
use Rattle.read_model.specs.Fits.{ReadsOk}
use Rattle.read_model.specs.PlainRead.{in_stage}
use Rattle.read_model.specs.State.{Reads, Moment}
use Rattle.read_model.specs.TakingOff.{taken_off}
use Rattle.write_answers.specs.Answered.{Leaves}
use Rattle.core_model.specs.ClockWork.{times_out, timed_out_ask}
use Rattle.core_model.specs.Lookups.{has_ticket, without_ask}

-- nothing is owned or asked
abbrev pub first_reads : List ℕ → Reads
first_reads prefix = record { own = owned [] (first_waits prefix); acquires = []; asks = [] }

-- A read is asked: one that is replied at once isn't kept.

abbrev pub at_once : Stage → Option Verdict
at_once (stage.Replied v) = Some v
at_once _ = None

abbrev pub after_read : Option Verdict → Moment → Asked → Reads → Reads
after_read None m a r = read_asked m a r
after_read (Some v) m a r = r

-- any other is kept in this stage
abbrev pub kept_in : Stage → Asked → Reads → Reads
kept_in s a r = record r { asks = r.asks ++ in_stage s a ∷ [] }

abbrev pub write_asked : Asked → Reads → Reads
write_asked a r = record (kept_in stage.Writes a r) { own = submitted a.ticket a.request r.own }

-- Requests that end without an answer.

-- each that waited too long
abbrev pub timed_out : Moment → Reads → Reads
timed_out m r = taken_off m (times_out m.now) (map (timed_out_ask m.now) r.asks) r

-- the one of this ticket
abbrev pub left_by : Moment → ℕ → Reads → Reads
left_by m ticket r = taken_off m (has_ticket ticket) (without_ask ticket r.asks) r

-- What is owned, acquired and read fits one another, whether a session stands or not.
abbrev pub FitTogether : Reads → Type 0
FitTogether r = (standing : Bool) × ReadsOk standing r

-- Whether the session ended by an acquire's answer, and what stands then; `Shape` exactly where the answer can't be one to an
-- acquire; or memory was wanting.
abbrev pub GivesReads : Result Bool NotShape → Reads → Option AfterAcquire → Type 0
GivesReads (Ok ends) r after = after ≡ Some (record { reads = r; ends = ends })
GivesReads (Err Shape) r after = after ≡ None
GivesReads (Err NoMemory) r after = Unit {0}

-- what stands after an answer to a write's call or an entry's, by the same
abbrev pub GivesWrite : Result (Unit {0}) NotShape → Reads → Option Reads → Type 0
GivesWrite = Leaves

-- what stands after a reply to an acquire; the session doesn't end by it
abbrev pub Claims : Result (Unit {0}) NotShape → Reads → Option AfterAcquire → Type 0
Claims (Ok done) r after = after ≡ Some (record { reads = r; ends = false })
Claims (Err Shape) r after = after ≡ None
Claims (Err NoMemory) r after = Unit {0}
