-- Which calls and streams are still at their proxies.
use Rattle.std.specs.Prelude.{Bool, false, not, ◌&&◌, Option, None, Some, is_some}
use Rattle.world_model.specs.declared.sent_call.SentCall.{SentCall}
use Rattle.world_model.specs.Places.{if_life, kept_at}
use Rattle.world_model.specs.State.{Numbered, Place, OpenedStream}

abbrev pub is_out : Numbered Place → SentCall → Bool
is_out places call = not call.settled && is_some (if_life call.life (kept_at places call.proxy))

abbrev pub is_standing : Numbered Place → OpenedStream → Bool
is_standing places s = not s.ended && is_some (if_life s.life (kept_at places s.proxy))

-- and no cancellation was pushed
abbrev pub is_open : Numbered Place → OpenedStream → Bool
is_open places s = not s.cancelled && is_standing places s

abbrev pub is_open_at : Numbered Place → Option OpenedStream → Bool
is_open_at places None = false
is_open_at places (Some s) = is_open places s
