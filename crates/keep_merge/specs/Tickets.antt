-- A keepalive whose group is sent keeps its ticket.
use Rattle.std.specs.Prelude.{◌≡◌, ℕ, Bool, true, false, ◌&&◌, cond, Some, refl}
use Rattle.read_model.specs.declared.asked.Asked.{Asked}
use Rattle.read_model.specs.declared.asked.Stage.{Stage}
use Rattle.read_model.specs.declared.asked.Stage.TheVariants as stage
use Rattle.read_model.specs.PlainRead.{in_stage}
use Rattle.wait_model.specs.declared.sending.Sending.TheVariants as sending
use Rattle.core_model.specs.Groups.{keeps, is_due_stage, group_sent}

kept : (b : Bool) (s : Stage) (a : Asked) → (cond b (in_stage s a) a).ticket ≡ a.ticket
kept true s a = refl
kept false s a = refl

pub group_sent-ticket : (call lease : ℕ) (a : Asked) → (group_sent call lease a).ticket ≡ a.ticket
group_sent-ticket call lease a = kept (keeps lease a.request && is_due_stage a.stage) (stage.Grouped (Some (sending.Out call))) a
