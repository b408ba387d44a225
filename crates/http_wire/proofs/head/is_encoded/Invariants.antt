-- One of the fields so far says so.
use Rattle.std.proofs.Common.{◌≡◌, take}
use Rattle.std.specs.List.{list_any}
use Rattle.httparse.specs.declared.spans.HeaderSpan.{HeaderSpan}
use Rattle.httparse.specs.Spans.{header_bytes}
use Rattle.http_wire.specs.Heads.{is_encoding}
use Rattle.http_wire.proofs.head.is_encoded.Given as goal

abbrev pub invariant-loop-field : goal.invariant-loop-field
invariant-loop-field l = l.encoded ≡ list_any (λ (field : HeaderSpan). is_encoding (header_bytes l.bytes field)) (take l.field-index l.fields)
