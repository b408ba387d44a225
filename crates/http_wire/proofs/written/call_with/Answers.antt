-- The parts one after another.
use Rattle.std.proofs.Common.{◌≡◌, ℕ, List, [], ◌++◌, refl, ◌∙◌, append_assoc, append-nil}
use Rattle.std.specs.Prelude.{codes}
use Rattle.http_wire.specs.Written.{line_end}
use Rattle.http_wire.proofs.written.call_with.Goals as goal

next : (all part is : List ℕ) {old new : List ℕ} → old ≡ all → new ≡ old ++ part → part ≡ is → new ≡ all ++ is
next all part is before more same = more ∙ (λ i. before i ++ same i)

regrouped : (a b c d e f g : List ℕ) → a ++ b ++ c ++ d ++ e ++ f ++ g ≡ a ++ (b ++ (c ++ (d ++ (e ++ (f ++ (g ++ []))))))
regrouped a b c d e f g = simp (append_assoc, append-nil)

pub returns : goal.returns
returns c =
    let path = c.args.path.now in
    let host = c.args.host.now in
    let body = c.args.body.now in
    let fields = c.args.fields.now in
    let post = codes "POST " in
    let version = codes " HTTP/1.1" ++ line_end ++ codes "Host: " in
    let one = next [] post post c.new-all.ensures.items c.in_ok-extend_from_slice.ensures.items refl in
    let two = next post path path one c.in_ok-extend_from_slice-2.ensures.items refl in
    let three = next (post ++ path) version version two c.in_ok-extend_from_slice-3.ensures.items refl in
    let four = next _ host host three c.in_ok-extend_from_slice-4.ensures.items refl in
    let five = next _ line_end line_end four c.in_ok-extend_from_slice-5.ensures.items refl in
    let six = next _ c.as_bytes.result.now fields five c.in_ok-extend_from_slice-6.ensures.items c.as_bytes.ensures.value in
    let seven = next _ body body six c.in_ok-extend_from_slice-7.ensures.items refl in
    seven ∙ regrouped post path version host line_end fields body
