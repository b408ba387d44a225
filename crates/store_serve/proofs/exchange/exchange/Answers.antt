-- The exchange goes on, closes, or breaks off; or no request was read whole.
use Rattle.http_talk.specs.Requests.{IsRequest}
use Rattle.shop_dialog.proofs.Replying.{broken_off, exchanged, closed, ended, not_read, bytes_kept, ahead_kept}
use Rattle.store_serve.proofs.Missed.{none_received, some_received}
use Rattle.store_serve.proofs.exchange.exchange.Goals as goal

pub returns-in-Ok-None-clause-turned : goal.returns-in-Ok-None-clause-turned
returns-in-Ok-None-clause-turned g c = ended _ _ _ _ _ (none_received _ _ _ _ c.in-Ok-None.field-0 c.in-Ok-None.field-0-is c.in-Ok-None.ensures.receives).0 (none_received _ _ _ _ c.in-Ok-None.field-0 c.in-Ok-None.field-0-is c.in-Ok-None.ensures.receives).1

pub returns-in-Err-clause-turned : goal.returns-in-Err-clause-turned
returns-in-Err-clause-turned g c = not_read _ _ _ _ _ c.in-Err.fault c.end_by.result c.end_by.ensures.is c.in-Err.ensures.receives

pub returns-in-Some-clause-turned : goal.returns-in-Some-clause-turned
returns-in-Some-clause-turned g c =
    broken_off _ _ _ _ _ _ _ _ c.in-Ok-Some.received.head c.in-Ok-Some.received.body c.in-Some.end (some_received _ _ _ _ c.in-Ok-Some.field-0 c.in-Ok-Some.received c.in-Ok-Some.field-0-is c.in-Ok-Some.ensures.receives).0 (some_received _ _ _ _ c.in-Ok-Some.field-0 c.in-Ok-Some.received c.in-Ok-Some.field-0-is c.in-Ok-Some.ensures.receives).1 c.in-Some.ensures.breaking c.in-Some.ensures.replies

pub returns-then-received-clause-turned : goal.returns-then-received-clause-turned
returns-then-received-clause-turned g c =
    closed _ _ _ _ _ _ _ _ c.in-Ok-Some.received.head c.in-Ok-Some.received.body (some_received _ _ _ _ c.in-Ok-Some.field-0 c.in-Ok-Some.received c.in-Ok-Some.field-0-is c.in-Ok-Some.ensures.receives).0 (some_received _ _ _ _ c.in-Ok-Some.field-0 c.in-Ok-Some.received c.in-Ok-Some.field-0-is c.in-Ok-Some.ensures.receives).1 c.in-None.ensures.replies c.if-received.true

pub returns-clause-turned : goal.returns-clause-turned
returns-clause-turned g c =
    exchanged ⊥ _ _ _ _ _ _ _ c.in-Ok-Some.received.head c.in-Ok-Some.received.body
    (ahead_kept (IsRequest c.in-Ok-Some.received.head c.in-Ok-Some.received.body) _ _ _ (some_received _ _ _ _ c.in-Ok-Some.field-0 c.in-Ok-Some.received c.in-Ok-Some.field-0-is c.in-Ok-Some.ensures.receives).0 (bytes_kept _ _ c.receive.new.wire c.in-None.ensures.ahead))
    (some_received _ _ _ _ c.in-Ok-Some.field-0 c.in-Ok-Some.received c.in-Ok-Some.field-0-is c.in-Ok-Some.ensures.receives).1 c.in-None.ensures.replies c.if-received.false
