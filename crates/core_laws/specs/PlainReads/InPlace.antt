-- The release as one change of each read in its place, and where that is the same: no read that is released makes an acquire then.
use Rattle.std.specs.Prelude.{◌≡◌, ℕ, Bool, true, false, List, Option, None, Some}
use Rattle.etcd_types.specs.declared.answer.Answer.{Answer}
use Rattle.read_model.specs.Acquires.{acquired, acquire_done}
use Rattle.read_model.specs.Fits.{ReadsOk}
use Rattle.read_model.specs.Release.{released, released_in_place, makes_none}
use Rattle.read_model.specs.State.{Reads, Moment, ground_of}
use Rattle.read_model.specs.WriteAnswers.{ending, wait_answered}
use Rattle.wait_model.specs.Endings.{answered}
use Rattle.wait_model.specs.GuardedAnswers.{Ending}
use Rattle.std.specs.List.{list_all}
use Rattle.etcd_types.specs.declared.record.Header.{Header}
use Rattle.etcd_types.specs.declared.record.Kv.{Kv}
use Rattle.proxy_model.specs.declared.ownership.Claim.TheVariants.{Acquired}

abbrev pub PlainInPlace : Type 0
PlainInPlace = (m : Moment) (r : Reads) → released false m r ≡ released_in_place false m.header r

abbrev pub AgainInPlace : Type 0
AgainInPlace = (m : Moment) (r : Reads) → list_all (makes_none (ground_of r)) r.asks ≡ true → released true m r ≡ released_in_place true m.header r

abbrev pub placed_by : Moment → Option Ending → Reads → Option Reads
placed_by m None r = None
placed_by m (Some x) r = Some (released_in_place true m.header (ending x r))

abbrev pub AnswersInPlace : Type 0
AnswersInPlace =
    (standing : Bool) (m : Moment) (call : ℕ) (a : Answer) (r : Reads) → ReadsOk standing r → wait_answered m call a r ≡ placed_by m (answered call a m.session m.now r.own) r

abbrev pub WinsInPlace : Type 0
WinsInPlace =
    (standing : Bool) (m : Moment) (k : List ℕ) (h : Header) (create : ℕ) (kv : Option Kv) (r : Reads) → ReadsOk standing r → acquire_done m k true h (Acquired create kv) r ≡ released_in_place true m.header (acquired m k true h create kv r)
