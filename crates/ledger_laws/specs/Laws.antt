-- The world of a script is told by its items: behind each prefix they say of its proxies which were started and how their clocks read, of its
-- calls by whom they were sent, to what they were executed and whether they have ended, of its streams by whom they were opened, whether they
-- have ended and whether a cancellation was pushed into them, and of its sessions their floors.
use Rattle.std.specs.Prelude.{◌≡◌, ℕ, List, length, Some, Ok, is_some}
use Rattle.script_text.specs.declared.item.Item.{Item}
use Rattle.script_text.specs.declared.line.Line.{Line}
use Rattle.world_model.specs.declared.sent_call.SentCall.{SentCall}
use Rattle.world_model.specs.Lives.{clock_of, executed_to}
use Rattle.world_model.specs.Places.{nth, place_at}
use Rattle.world_model.specs.State.{Place, OpenedStream, World}
use Rattle.world_model.specs.Transcript.{transcript, world_behind}
use Rattle.renewed_laws.specs.Renewals.{AnswersShowBytes}
use Rattle.audit_model.specs.Calls.{calls_sent, sender_of, is_settled}
use Rattle.audit_model.specs.Floors.{reported_floors}
use Rattle.audit_model.specs.Order.{has_started}
use Rattle.audit_model.specs.Streams.{streams_opened, opener_of, has_ended, has_cancelled}

-- a call under its number
pub record CallIsTold (items : List Item) (n : ℕ) (call : SentCall) : Type 0 where
  pub sender : sender_of n items ≡ Some call.proxy
  pub executed : executed_to n items ≡ call.executed
  pub settled : is_settled n items ≡ call.settled

-- a stream under its number
pub record StreamIsTold (items : List Item) (n : ℕ) (s : OpenedStream) : Type 0 where
  pub opener : opener_of n items ≡ Some s.proxy
  pub ended : has_ended n items ≡ s.ended
  pub cancelled : has_cancelled n items ≡ s.cancelled

pub record IsTold (items : List Item) (w : World) : Type 0 where
  pub started : (p : ℕ) → has_started p items ≡ is_some (place_at w p)
  pub clocks : (p : ℕ) (x : Place) → place_at w p ≡ Some x → clock_of p items ≡ x.clock
  pub count : calls_sent items ≡ length w.calls
  pub calls : (n : ℕ) (call : SentCall) → nth w.calls n ≡ Some call → CallIsTold items n call
  pub opened : streams_opened items ≡ length w.streams
  pub streams : (n : ℕ) (s : OpenedStream) → nth w.streams n ≡ Some s → StreamIsTold items n s
  pub floors : reported_floors items ≡ w.floors

-- The premise is that what the answers show is made of bytes.
abbrev pub EachWorldIsTold : Type 0
EachWorldIsTold = (lines : List Line) (w : World) → AnswersShowBytes (transcript lines) → world_behind lines ≡ Ok (Some w) → IsTold (transcript lines) w
