use Rattle.std.proofs.Common.{sym, ap, ◌∙◌}
use Rattle.std.proofs.lemmas.List.{take_all}
use Rattle.std.specs.List.{list_any}
use Rattle.httparse.specs.declared.spans.HeaderSpan.{HeaderSpan}
use Rattle.httparse.specs.Spans.{header_bytes}
use Rattle.http_wire.specs.Heads.{is_encoding}
use Rattle.http_wire.proofs.Fields.{any_of_map}
use Rattle.http_wire.proofs.head.is_encoded.Goals as goal

pub returns : goal.returns
returns c =
    let fields = c.args.fields.now in
    c.loop-field.invariant
    ∙ ap (list_any (λ (field : HeaderSpan). is_encoding (header_bytes c.args.bytes.now field))) (take_all c.loop-field.field-index fields c.loop-field-test.false)
    ∙ sym (any_of_map is_encoding (header_bytes c.args.bytes.now) fields)
