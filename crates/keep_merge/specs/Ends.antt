-- The end of a group in two parts: those that share its call have their reply, and those that wait for the next one are due.
use Rattle.std.specs.Prelude.{◌≡◌, ℕ, Bool, true, false, ◌&&◌, cond, if◌then◌else◌, Option, None, Some, refl}
use Rattle.read_model.specs.declared.asked.Asked.{Asked}
use Rattle.read_model.specs.declared.asked.Stage.{Stage}
use Rattle.read_model.specs.declared.asked.Stage.TheVariants as stage
use Rattle.read_model.specs.declared.asked.Verdict.{Verdict}
use Rattle.read_model.specs.PlainRead.{in_stage}
use Rattle.wait_model.specs.declared.sending.Sending.TheVariants as sending
use Rattle.core_model.specs.Groups.{keeps, is_out_stage, waits_next}

-- it shares the call, and has this reply
abbrev pub group_over : ℕ → Verdict → Asked → Asked
group_over call v a = if is_out_stage call a.stage then in_stage (stage.Replied v) a else a

-- the stage that it comes into so, or nothing
abbrev pub over_stage : ℕ → Verdict → Asked → Option Stage
over_stage call v a = if is_out_stage call a.stage then Some (stage.Replied v) else None

-- it waits for the next call of the lease, and is due
abbrev pub group_next : ℕ → ℕ → Asked → Asked
group_next step lease a =
    if keeps lease a.request && waits_next a.stage then in_stage (stage.Grouped (Some (sending.Due step))) a else a

kept : (b : Bool) (s : Stage) (a : Asked) → (cond b (in_stage s a) a).ticket ≡ a.ticket
kept true s a = refl
kept false s a = refl

pub group_over-ticket : (call : ℕ) (v : Verdict) (a : Asked) → (group_over call v a).ticket ≡ a.ticket
group_over-ticket call v a = kept (is_out_stage call a.stage) (stage.Replied v) a

pub group_next-ticket : (step lease : ℕ) (a : Asked) → (group_next step lease a).ticket ≡ a.ticket
group_next-ticket step lease a = kept (keeps lease a.request && waits_next a.stage) (stage.Grouped (Some (sending.Due step))) a
