-- Bytes as they are decoded are bytes, and a word none of whose bytes is escaped spells itself.
use Rattle.std.proofs.Common.{◌≡◌, ℕ, ◌<◌, true, not, ◌==◌, length, List, [], ◌∷◌, refl, sym, ap, ◌∙◌, All, Some, arith}
use Rattle.std.specs.Prelude.{bytes_eq, flat_map, nat_lt}
use Rattle.std.specs.List.{list_all}
use Rattle.std.proofs.lemmas.Bool.{and_from, and_parts, lt-ltb}
use Rattle.std.proofs.lemmas.Bool.Decides.{nat_tests}
use Rattle.std.proofs.lemmas.List.Concat.{flat_map-cons}
use Rattle.std.proofs.lemmas.List.Elements.{All-head, All-tail}
use Rattle.std.proofs.lemmas.Slice.Eq.{bytes_eq-Decides}
use Rattle.text_model.specs.Forms.{Word, respelled}
use Rattle.text_model.specs.Words.{are_bytes, bytes_word, bytes_guess, byte_text, is_plain}
use Rattle.text_model.proofs.Laws.{respelled_found}
use Rattle.text_model.proofs.WordLaws.{bytes_back}
use Rattle.text_words.specs.Plain.{is_plain_word}

pub are_bytes_from_all : (bs : List ℕ) → All (λ b. b < 256) bs → are_bytes bs ≡ true
are_bytes_from_all [] all = refl
are_bytes_from_all (b ∷ bs) all =
    and_from _ _ (lt-ltb b 256 (All-head (λ b. b < 256) b bs all)) (are_bytes_from_all bs (All-tail (λ b. b < 256) b bs all))

plain_spelled : (bs : List ℕ) → list_all is_plain bs ≡ true → flat_map byte_text bs ≡ bs
plain_spelled [] plain = refl
plain_spelled (b ∷ bs) plain =
    let p = and_parts (is_plain b) (list_all is_plain bs) plain in
    rw (flat_map-cons, p.0) (ap (λ (rest : List ℕ). b ∷ rest) (plain_spelled bs p.1))

plain_byte : (b : ℕ) → is_plain b ≡ true → nat_lt b 256 ≡ true
plain_byte b plain = grind (arith, nat_tests)

plain_bytes : (bs : List ℕ) → list_all is_plain bs ≡ true → are_bytes bs ≡ true
plain_bytes [] plain = refl
plain_bytes (b ∷ bs) plain =
    let p = and_parts (is_plain b) (list_all is_plain bs) plain in
    and_from _ _ (plain_byte b p.0) (plain_bytes bs p.1)

all_plain : (word : Word) → is_plain_word word ≡ true → list_all is_plain word ≡ true
all_plain word plain = (and_parts (not (length word == 0)) (list_all is_plain word) plain).1

itself : (word : Word) → is_plain_word word ≡ true → bytes_word word ≡ word
unfolding bytes_word
itself [] plain = absurd (cc)
itself (b ∷ bs) plain = plain_spelled (b ∷ bs) (all_plain (b ∷ bs) plain)

pub plain_word : (word : Word) → is_plain_word word ≡ true → respelled bytes_word bytes_guess are_bytes word ≡ Some word
plain_word word plain =
    let fits = plain_bytes word (all_plain word plain) in
    let same = itself word plain in
    respelled_found bytes_word bytes_guess are_bytes word word (ap bytes_guess (sym same) ∙ bytes_back word fits) (sym same) fits

pub tilde_word : (word : Word) → bytes_eq word (126 ∷ []) ≡ true → respelled bytes_word bytes_guess are_bytes word ≡ Some []
unfolding bytes_word
tilde_word word tilde =
    let e : word ≡ 126 ∷ [] = (bytes_eq-Decides word (126 ∷ [])).0 tilde in
    respelled_found bytes_word bytes_guess are_bytes word [] (ap bytes_guess e) e refl
