-- The body is the opening, the base64 texts of the key and of the value round what stands between them, and the end.
use Rattle.api_request.proofs.PlainRequests.{put_back}
use Rattle.api_request.proofs.plain.put_from.Goals as goal

pub returns : goal.returns
returns c =
    let key = c.in_ok-key-2.ensures in
    let value = c.in_ok-value.ensures in
    rw c.put_of.ensures
    (put_back c.args.body.now c.in_ok-texts.texts.now c.in_ok-key.key.now c.in_ok-key.value.now c.in_ok-key-2.key c.in_ok-value.value c.in_ok-texts.ensures c.in_ok-key.ensures key.text value.text key.bytes value.bytes key.some value.some)
