-- What the public calls say of texts.
use Rattle.std.proofs.Common.{◌≡◌, ℕ, ◌+◌, ◌-◌, ◌<◌, true, List, [], ◌∷◌, ◌++◌, length, take, Result, Ok, Err, sym, ap, ◌∙◌, subst, append_assoc, arith}
use Rattle.std.specs.Prelude.{IfOk, slice_index}
use Rattle.std.specs.List.{join_with_byte}
use Rattle.std.proofs.lemmas.List.{length-append}
use Rattle.std.proofs.Math.Seq.{get_or-append_seam, take-append_seam}
use Rattle.text_model.specs.Forms.{Word}
use Rattle.text_model.specs.Texts.{written}
use Rattle.text_model.proofs.TextLaws.{written_text}
use Rattle.script_text.specs.declared.fault.LineFault.{LineFault}
use Rattle.script_text.specs.declared.line.Line.{Line}
use Rattle.script_text.specs.declared.item.Item.{Item}
use Rattle.script_text.specs.Faults.{Reads}
use Rattle.script_text.specs.Lines.{line_text, line_at, is_line}
use Rattle.script_text.specs.Items.{item_form, item_text, item_at, is_item}
use Rattle.script_text.proofs.LineLaws.{line_takes, line_again}
use Rattle.script_text.proofs.ItemLaws.{item_takes, item_again, item_form-HasWords}

pub line_found : (n : ℕ) (bytes : List ℕ) (r : Result Line LineFault) → Reads n r (line_at n bytes) → IfOk r (λ l. (bytes ≡ line_text l) × (is_line n l ≡ true))
line_found n bytes (Ok l) given = line_takes n bytes l given
line_found n bytes (Err e) given = tt

pub line_only : (n : ℕ) (bytes : List ℕ) (r : Result Line LineFault) → Reads n r (line_at n bytes) → (l : Line) → is_line n l ≡ true → bytes ≡ line_text l → Reads n r (Ok l)
line_only n bytes r given l fits e =
    let At : Result Line ℕ → Type 0 = λ x. Reads n r x in
    subst At (ap (line_at n) e ∙ line_again n l fits) given

pub item_found : (bytes : List ℕ) (r : Result Item LineFault) → Reads 0 r (item_at bytes) → IfOk r (λ i. (bytes ≡ item_text i) × (is_item i ≡ true))
item_found bytes (Ok i) given = item_takes bytes i given
item_found bytes (Err e) given = tt

pub item_only : (bytes : List ℕ) (r : Result Item LineFault) → Reads 0 r (item_at bytes) → (i : Item) → is_item i ≡ true → bytes ≡ item_text i → Reads 0 r (Ok i)
item_only bytes r given i fits e =
    let At : Result Item ℕ → Type 0 = λ x. Reads 0 r x in
    subst At (ap item_at e ∙ item_again i fits) given

abbrev value_or : {A : Type 0} → A → Result A ℕ → A
value_or d (Ok x) = x
value_or d (Err n) = d

abbrev pub done : {A : Type 0} → A → Result A ℕ
done x = Ok x

pub same_value : {A : Type 0} (x y : A) → done x ≡ done y → x ≡ y
same_value x y e = ap (value_or x) e

-- ---- the last space goes

-- words written one after the other end with a space
spaced : (ws : List Word) → 0 < length ws → written 32 ws ≡ join_with_byte 32 ws ++ 32 ∷ []
spaced [] some = absurd (omega arith)
spaced (w ∷ ws) some = written_text 32 w ws

abbrev pub LastGoes : List ℕ → ℕ → List ℕ → Type 0
LastGoes full n new = 0 < n → slice_index full (n - 1) < 128 → new ≡ take (n - 1) full

last_goes : (front full new : List ℕ) (n : ℕ) → full ≡ front ++ 32 ∷ [] → n ≡ length full → LastGoes full n new → new ≡ front
last_goes front full new n e long goes =
    let many : n ≡ length front + 1 = long ∙ ap length e ∙ length-append front (32 ∷ []) in
    let before : n - 1 ≡ length front = omega (arith, many) in
    let last : slice_index full (n - 1) ≡ 32 = (λ i. slice_index (e i) (before i)) ∙ get_or-append_seam front 32 [] 0 in
    goes (omega (arith, many)) (omega (arith, last)) ∙ (λ i. take (before i) (e i)) ∙ take-append_seam front (32 ∷ [])

-- an item's words behind what stands there, without the last space
pub item_appended : (i : Item) (old full new : List ℕ) (n : ℕ) → full ≡ old ++ written 32 (item_form.spell i) → n ≡ length full → LastGoes full n new → new ≡ old ++ item_text i
unfolding item_text
item_appended i old full new n e long goes =
    let text_of = join_with_byte 32 (item_form.spell i) in
    last_goes (old ++ text_of) full new n
    (e ∙ ap (λ (bs : List ℕ). old ++ bs) (spaced (item_form.spell i) (item_form-HasWords i)) ∙ sym (append_assoc old text_of (32 ∷ [])))
    long goes
