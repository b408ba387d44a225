-- Of the places that were copied, those of the digits and of the mark behind them are used.
use Rattle.std.proofs.Common.{rules, arith, ◌≡◌, ◌+◌, ◌-◌, ◌≤◌, ◌++◌, ◌∷◌, [], ℕ, List, length, take, drop, replicate, decimal, refl, sym, ap, ◌∙◌, append_assoc, length-append}
use Rattle.std.proofs.lemmas.Fmt.{length-decimal-le}
use Rattle.std.proofs.lemmas.List.{length-take-le, take_at}
use Rattle.direct_json.proofs.Fronts.{front_written}
use Rattle.direct_json.proofs.sheet.Sheet.put_number.Goals as goal

pub write_digits-start-requires : goal.write_digits-start-requires
write_digits-start-requires c = search (rules, length-decimal-le 20)

pub returns : goal.returns
returns c =
    let start : ℕ = c.write_digits-start.result in
    let made = c.write_digits-start.ensures.start in
    let digits : List ℕ = decimal c.args.value in
    let marks : List ℕ = replicate 20 34 in
    let some : drop 20 (replicate 41 34) ≡ 34 ∷ marks = refl in
    let front : List ℕ = digits ++ 34 ∷ [] in
    let behind : drop start c.write_digits-start.new.buf ≡ front ++ marks =
    c.write_digits-start.ensures.written ∙ ap (λ (t : List ℕ). digits ++ t) some ∙ sym (append_assoc digits (34 ∷ []) marks) in
    let u : ℕ = c.self.inside.used in
    let s : List ℕ = c.as_mut_slice.result.now in
    let value = c.as_mut_slice.ensures.value in
    let before : take u s ≡ c.args.self.now = ap (take u) value ∙ c.make_room.ensures.kept ∙ c.self.view_is in
    let within : u ≤ length s = omega (arith, ap length value) in
    let places : start + 20 + 1 - start ≡ 21 = omega arith in
    let piece = ap (λ (n : ℕ). take n (drop start c.write_digits-start.new.buf)) places ∙ ap (take 21) behind in
    let w : List ℕ = c.write_at.new.room in
    let left : List ℕ = drop (length w) c.make_room.new.room.items in
    let size : length w ≡ c.make_room.new.room.len = c.write_at.ensures.len ∙ c.as_mut_slice.ensures.len in
    let count : length front ≡ 21 - start = omega (arith, length-append digits (34 ∷ [])) in
    ap (take (u + (21 - start))) (take_at w left c.make_room.new.room.len size)
    ∙ front_written w (take u s) _ front marks u 21 (21 - start) (length-take-le u s within) count (omega arith) c.write_at.ensures.written piece
    ∙ ap (λ (t : List ℕ). t ++ front) before
