-- Reading and writing the members of a list one after the other, as a loop does.
use Rattle.std.proofs.Common.{◌≡◌, ℕ, zero, suc, ◌-◌, ◌+◌, ◌≤◌, ◌<◌, List, [], ◌∷◌, ◌++◌, take, get_or, length, Result, Ok, Err, refl, sym, ap, ◌∙◌, append_assoc, arith}
use Rattle.std.specs.Prelude.{flat_map}
use Rattle.std.proofs.lemmas.List.{append-nil, take_more}
use Rattle.std.proofs.lemmas.Grind.{flat_map-append}
use Rattle.text_model.specs.Forms.{Word, ◌>>=◌, read_several}
use Rattle.text_model.specs.Texts.{written}
use Rattle.text_model.proofs.TextLaws.{written-append}
use Rattle.text_words.specs.declared.fault.ReadError.{ReadError}
use Rattle.text_words.specs.declared.fault.ReadError.TheVariants.{NoMemory, Wrong}
use Rattle.text_words.specs.Reading.{Fails}

abbrev pub Reads : Type 0 → Type 0
Reads A = List Word → Result (A × List Word) ℕ

-- what was read before, and what is still read
abbrev pub with_front : {A : Type 0} → List A → Result (List A × List Word) ℕ → Result (List A × List Word) ℕ
with_front front read = read >>= λ x. Ok (front ++ x.0, x.1)

regroup : {A : Type 0} (front : List A) (x : A) (read : Result (List A × List Word) ℕ) → with_front front (read >>= λ b. Ok (x ∷ b.0, b.1)) ≡ with_front (front ++ x ∷ []) read
regroup {A} front x (Ok b) = ap (λ (xs : List A). Ok (xs, b.1)) (sym (append_assoc front (x ∷ []) b.0))
regroup front x (Err n) = refl

pub goes_on : {A : Type 0} (read : Reads A) (front : List A) (count i : ℕ) (ws : List Word) (x : A) (after : List Word) (total : Result (List A × List Word) ℕ) → i < count → read ws ≡ Ok (x, after)
    → with_front front (read_several read (count - i) ws) ≡ total → with_front (front ++ x ∷ []) (read_several read (count - (i + 1)) after) ≡ total
unfolding read_several
goes_on read front count i ws x after total lt h so_far =
    let k : count - i ≡ suc (count - (i + 1)) = omega arith in
    let one : with_front front (read_several read (count - i) ws) ≡ with_front (front ++ x ∷ []) (read_several read (count - (i + 1)) after) = rw (k, h) (regroup front x (read_several read (count - (i + 1)) after)) in
    sym one ∙ so_far

pub ends : {A : Type 0} (read : Reads A) (e : ReadError) (front : List A) (count i : ℕ) (ws : List Word) (total : Result (List A × List Word) ℕ) → i < count → Fails e (read ws)
    → with_front front (read_several read (count - i) ws) ≡ total → Fails e total
unfolding read_several
ends read NoMemory front count i ws total lt h so_far = tt
ends read (Wrong n) front count i ws total lt h so_far =
    let k : count - i ≡ suc (count - (i + 1)) = omega arith in
    let one : with_front front (read_several read (count - i) ws) ≡ Err n = rw (k, h) refl in
    sym so_far ∙ one

pub is_done : {A : Type 0} (read : Reads A) (front : List A) (count i : ℕ) (ws : List Word) (total : Result (List A × List Word) ℕ) → count ≤ i → with_front front (read_several read (count - i) ws) ≡ total → total ≡ Ok (front, ws)
unfolding read_several
is_done {A} read front count i ws total le so_far =
    let k : count - i ≡ 0 = omega arith in
    let one : with_front front (read_several read (count - i) ws) ≡ Ok (front, ws) = rw k (ap (λ (xs : List A). Ok (xs, ws)) (append-nil front)) in
    sym so_far ∙ one

-- one more member is written
pub written_more : {A : Type 0} (spell : A → List Word) (begun : List ℕ) (xs : List A) (i : ℕ) (x : A) → i < length xs → x ≡ get_or xs i x → (begun ++ written 32 (flat_map spell (take i xs))) ++ written 32 (spell x) ≡ begun ++ written 32 (flat_map spell (take (i + 1) xs))
written_more {A} spell begun xs i x lt e =
    let front : take (i + 1) xs ≡ take i xs ++ x ∷ [] = take_more xs i x lt ∙ ap (λ (y : A). take i xs ++ y ∷ []) (sym e) in
    let last : flat_map spell (x ∷ []) ≡ spell x = append-nil (spell x) in
    let more : flat_map spell (take (i + 1) xs) ≡ flat_map spell (take i xs) ++ spell x = ap (flat_map spell) front ∙ flat_map-append spell (take i xs) (x ∷ []) ∙ ap (λ (ws : List Word). flat_map spell (take i xs) ++ ws) last in
    append_assoc begun (written 32 (flat_map spell (take i xs))) (written 32 (spell x)) ∙ ap (λ (bs : List ℕ). begun ++ bs) (sym (written-append 32 (flat_map spell (take i xs)) (spell x)) ∙ ap (written 32) (sym more))

pub fails_along : {A : Type 0} (e : ReadError) (r s : Result A ℕ) → s ≡ r → Fails e r → Fails e s
fails_along NoMemory r s same h = tt
fails_along (Wrong n) r s same h = same ∙ h

-- a name and then other words
pub name_written : (begun : List ℕ) (name : Word) (ws : List Word) → (begun ++ written 32 (name ∷ [])) ++ written 32 ws ≡ begun ++ written 32 (name ∷ ws)
name_written begun name ws =
    append_assoc begun (written 32 (name ∷ [])) (written 32 ws) ∙ ap (λ (bs : List ℕ). begun ++ bs) (sym (written-append 32 (name ∷ []) ws))
