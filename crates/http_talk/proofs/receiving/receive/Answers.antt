-- The ends before a request was read whole.
use Rattle.std.proofs.Common.{Some, None, refl}
use Rattle.http_talk.proofs.Receives.{heads_as, input_ended, head_failed, not_encouraged, body_failed}
use Rattle.http_talk.proofs.receiving.receive.Goals as goal

pub returns-in-Ok-None-clause-receives : goal.returns-in-Ok-None-clause-receives
returns-in-Ok-None-clause-receives g c = (input_ended _ _ (heads_as _ _ _ None c.in-Ok-None.field-0-is (c.in-Ok-None.ensures.read c.requires.sound)), refl)

pub returns-in-Err-clause-receives : goal.returns-in-Err-clause-receives
returns-in-Err-clause-receives g c =
    head_failed c.args.form _ _ _ _ c.in-Err.fault (c.in-Err.ensures.read c.requires.sound) (c.in-Err.ensures.reading c.requires.sound) c.refuse_bytes.ensures.told

pub returns-in-Err-encourage-clause-receives : goal.returns-in-Err-encourage-clause-receives
returns-in-Err-encourage-clause-receives g c =
    not_encouraged c.args.form _ _ _ _ c.in-Ok-Some.head c.in-Err-encourage.fault (heads_as _ _ _ (Some c.in-Ok-Some.head) c.in-Ok-Some.field-0-is (c.in-Ok-Some.ensures.read c.requires.sound)) c.in-Err-encourage.ensures.written

pub returns-in-Err-read_body-clause-receives : goal.returns-in-Err-read_body-clause-receives
returns-in-Err-read_body-clause-receives g c =
    let sound = c.in-Ok-Some.ensures.fault c.requires.sound in
    body_failed c.args.form _ _ _ _ _ _ c.in-Ok-Some.head c.in-Err-read_body.fault (heads_as _ _ _ (Some c.in-Ok-Some.head) c.in-Ok-Some.field-0-is (c.in-Ok-Some.ensures.read c.requires.sound))
    c.in-Ok.ensures.written (c.in-Err-read_body.ensures.read sound) (c.in-Err-read_body.ensures.reading sound) c.refuse_bytes-in-Err-read_body.ensures.told
