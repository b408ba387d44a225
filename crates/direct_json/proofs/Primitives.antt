-- A number and bytes, by the steps in which they are written.
use Rattle.std.proofs.Common.{◌≡◌, ℕ, zero, suc, Bool, true, false, List, [], ◌∷◌, ◌++◌, decimal, refl, sym, ap, ◌∙◌}
use Rattle.base64.specs.Engines.{standard}
use Rattle.base64.specs.GeneralPurpose.{encode_of}
use Rattle.json.specs.Print.{escape}
use Rattle.etcd_types.specs.Keys.{is_empty}
use Rattle.direct_json.specs.Drafts.{TextSoFar, after, ended, with_text, with_number, with_bytes}

text_written : (o s t text : List ℕ) (later : Bool) (old front end : TextSoFar)
    → front ≡ (old.0 ++ after old.1 o, old.1) → front ≡ (text, later) → t ≡ text ++ escape s → end ≡ ended 34 (t, later) → end ≡ with_text o s old
text_written o s t text later old front end opened view added closed =
    let before : text ≡ old.0 ++ after old.1 o = ap (λ (p : TextSoFar). p.0) (sym view ∙ opened) in
    closed ∙ ap (λ (x : List ℕ). ended 34 (x, true)) (added ∙ ap (λ (x : List ℕ). x ++ escape s) before)

nonzero : (o : List ℕ) (n : ℕ) (d : TextSoFar) → (n ≡ 0 → ⊥) → with_number o n d ≡ with_text o (decimal n) d
nonzero o zero d h = absurd (h refl)
nonzero o (suc n) d h = refl

pub number_written : (o : List ℕ) (n : ℕ) (t text : List ℕ) (later : Bool) (old front end : TextSoFar) → (n ≡ 0 → ⊥)
    → front ≡ (old.0 ++ after old.1 o, old.1) → front ≡ (text, later) → t ≡ text ++ escape (decimal n) → end ≡ ended 34 (t, later) → end ≡ with_number o n old
number_written o n t text later old front end h opened view added closed =
    text_written o (decimal n) t text later old front end opened view added closed ∙ sym (nonzero o n old h)

nonempty : (o b : List ℕ) (d : TextSoFar) → is_empty b ≡ false → with_bytes o b d ≡ with_text o (encode_of standard b) d
nonempty o [] d h = absurd (cc)
nonempty o (x ∷ b) d h = refl

pub bytes_written : (o b t text : List ℕ) (later : Bool) (old front end : TextSoFar) → is_empty b ≡ false
    → front ≡ (old.0 ++ after old.1 o, old.1) → front ≡ (text, later) → t ≡ text ++ escape (encode_of standard b) → end ≡ ended 34 (t, later) → end ≡ with_bytes o b old
bytes_written o b t text later old front end h opened view added closed =
    text_written o (encode_of standard b) t text later old front end opened view added closed ∙ sym (nonempty o b old h)
