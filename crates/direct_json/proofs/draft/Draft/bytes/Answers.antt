-- The base64 text stands behind the opening.
use Rattle.std.proofs.Common.{◌++◌, List, ℕ, sym, ap, ◌∙◌}
use Rattle.base64.specs.Engines.{standard}
use Rattle.base64.specs.GeneralPurpose.{encode_of}
use Rattle.json.specs.Print.{escape}
use Rattle.direct_json.proofs.Primitives.{bytes_written}
use Rattle.direct_json.proofs.draft.Draft.bytes.Goals as goal

pub returns : goal.returns
returns c =
    let value = ap (λ (b : List ℕ). c.self.inside.text ++ escape (encode_of standard b)) c.as_slice.ensures in
    bytes_written c.args.opening.now c.args.value.now c.put_base64.new.self c.self.inside.text c.self.inside.later c.args.self.now c.open.new.self c.end.new.self
    (sym c.if-is_empty.ensures) c.in_ok-open.ensures (sym c.self.view_is) (c.in_ok-put_base64.ensures ∙ value) c.in_ok-end.ensures
