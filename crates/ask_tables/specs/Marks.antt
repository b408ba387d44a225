-- The mark that a request is found by: what it waits for, since which step or by which call, and its ticket. A request that is due
-- comes behind those that aren't, the one that is due longest first.
use Rattle.std.specs.Prelude.{ℕ, Bool, ◌&&◌, ◌==◌, nat_le, List, [], ◌∷◌, Some, None}
use Rattle.wait_model.specs.declared.sending.Sending.{Sending}
use Rattle.wait_model.specs.declared.sending.Sending.TheVariants as sending
use Rattle.read_model.specs.declared.asked.Asked.{Asked}
use Rattle.read_model.specs.declared.asked.Stage.{Stage}
use Rattle.read_model.specs.declared.asked.Stage.TheVariants as stage

abbrev pub call_rank : Sending → ℕ
call_rank (sending.Out call) = 5
call_rank (sending.Due since) = 6

abbrev pub group_rank : Sending → ℕ
group_rank (sending.Out call) = 3
group_rank (sending.Due since) = 6

-- reads that wait at a key, writes, keepalives that wait for the next call or for one that is out, replies, calls that are out, what is due
abbrev pub stage_rank : Stage → ℕ
stage_rank (stage.Calling s) = call_rank s
stage_rank stage.Acquiring = 0
stage_rank stage.Joined = 0
stage_rank stage.Behind = 0
stage_rank stage.Writes = 1
stage_rank (stage.Grouped None) = 2
stage_rank (stage.Grouped (Some s)) = group_rank s
stage_rank (stage.Replied v) = 4

abbrev pub sending_number : Sending → ℕ
sending_number (sending.Out call) = call
sending_number (sending.Due since) = since

-- the call that is out, or the step since which one is due
abbrev pub stage_number : Stage → ℕ
stage_number (stage.Calling s) = sending_number s
stage_number (stage.Grouped (Some s)) = sending_number s
stage_number _ = 0

abbrev pub mark_of : Asked → List ℕ
mark_of a = stage_rank a.stage ∷ stage_number a.stage ∷ a.ticket ∷ []

-- it has this rank and this number
abbrev pub is_alike : ℕ → ℕ → Asked → Bool
is_alike rank number a = (stage_rank a.stage == rank) && (stage_number a.stage == number)

-- tickets have 64 bits
abbrev pub is_narrow : Asked → Bool
is_narrow a = nat_le a.ticket 0xffff_ffff_ffff_ffff
