-- The base64 text, which needs no escape, stands behind what was there.
use Rattle.std.proofs.Common.{arith, ◌≡◌, ◌++◌, ℕ, List, length, take, drop, sym, ap, ◌∙◌}
use Rattle.std.proofs.lemmas.List.{take_at}
use Rattle.base64.specs.Engines.{standard}
use Rattle.base64.specs.GeneralPurpose.{encode_of}
use Rattle.direct_json.proofs.Plain.{escape_encoded}
use Rattle.direct_json.proofs.sheet.Sheet.put_base64.Goals as goal

pub returns : goal.returns
returns c =
    let u : ℕ = c.self.inside.used in
    let before = ap (take u) c.as_mut_slice.ensures.value ∙ c.make_room.ensures.kept ∙ c.self.view_is in
    let plain = escape_encoded c.args.bytes.now (λ i. let byte = c.type_inv.bytes i in omega arith) in
    let w : List ℕ = c.encode_at.new.room in
    let left : List ℕ = drop (length w) c.make_room.new.room.items in
    let size : length w ≡ c.make_room.new.room.len = c.encode_at.ensures.len ∙ c.as_mut_slice.ensures.len in
    ap (take c.in_ok-self-inside.field-0) (take_at w left c.make_room.new.room.len size)
    ∙ c.in_ok-self-inside.ensures.end.1 ∙ ap (λ (t : List ℕ). t ++ encode_of standard c.args.bytes.now) before
    ∙ ap (λ (t : List ℕ). c.args.self.now ++ t) (sym plain)
