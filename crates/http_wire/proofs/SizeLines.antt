-- The size lines that `size_of` reads are those of `httparse`'s grammar.
use Rattle.std.proofs.Common.{◌≡◌, ℕ, ◌≤◌, Bool, true, false, ◌&&◌, ◌||◌, not, IsTrue, ⊎_elim, nat_lt, nat_le, ◌==◌, refl, subst, List, [], ◌∷◌, ◌++◌, length, drop, length-drop, length-append, sym, ap, ◌∙◌, arith, append_assoc, append-nil, Option, Some, None}
use Rattle.std.proofs.lemmas.Bool.{eqb-true, ltb-true, leb-true, lt-ltb, le-leb, both_ways, not-true, and_parts, or_cases}
use Rattle.std.proofs.lemmas.List.Elements.{All-nil, All-cons, All-head, All-tail}
use Rattle.std.specs.Char.{is_ascii_hexdigit}
use Rattle.std.specs.Str.Parse.{digits_value}
use Rattle.httparse.specs.Grammar.{AllPass, is_ows, skip_ows, is_extension_byte, IsExtension, print_extension, ChunkLine, print_chunk_line, ReadsChunkLine, HasNoChunkLine, NeverHasChunkLine, chunk_size}
use Rattle.httparse.specs.Spans.{IsChunkLineAt}
use Rattle.httparse.proofs.ChunkLemmas.{chunk_line_unique}
use Rattle.std.proofs.Math.ListN.{drop_of_length-le}
use Rattle.http_wire.specs.Sizes.{leading_digits, after_digits, is_feed, is_extension_line, is_line_rest, size_of}

-- ---- what is read is in the grammar

hex_parts : (line : List ℕ) → (line ≡ leading_digits line ++ after_digits line) × AllPass is_ascii_hexdigit (leading_digits line)
hex_parts [] = (refl, All-nil (λ (x : ℕ). IsTrue (is_ascii_hexdigit x)))
hex_parts (b ∷ bs) = by_test (hex_parts bs) (is_ascii_hexdigit b) refl
  where
    by_test : (bs ≡ leading_digits bs ++ after_digits bs) × AllPass is_ascii_hexdigit (leading_digits bs) → (t : Bool) → is_ascii_hexdigit b ≡ t
        → (b ∷ bs ≡ leading_digits (b ∷ bs) ++ after_digits (b ∷ bs)) × AllPass is_ascii_hexdigit (leading_digits (b ∷ bs))
    by_test more true e = rw e (ap (λ (l : List ℕ). b ∷ l) more.0, All-cons (λ (x : ℕ). IsTrue (is_ascii_hexdigit x)) b (leading_digits bs) e more.1)
    by_test more false e = rw e (refl, All-nil (λ (x : ℕ). IsTrue (is_ascii_hexdigit x)))

blank_parts : (xs : List ℕ) → (pad : List ℕ) × AllPass is_ows pad × (xs ≡ pad ++ skip_ows xs)
blank_parts [] = ([], All-nil (λ (x : ℕ). IsTrue (is_ows x)), refl)
blank_parts (b ∷ bs) = by_test (blank_parts bs) (is_ows b) refl
  where
    by_test : (pad : List ℕ) × AllPass is_ows pad × (bs ≡ pad ++ skip_ows bs) → (t : Bool) → is_ows b ≡ t
        → (pad : List ℕ) × AllPass is_ows pad × (b ∷ bs ≡ pad ++ skip_ows (b ∷ bs))
    by_test more true e = (b ∷ more.0, All-cons (λ (x : ℕ). IsTrue (is_ows x)) b more.0 e more.1, rw e (ap (λ (l : List ℕ). b ∷ l) more.2))
    by_test more false e = ([], All-nil (λ (x : ℕ). IsTrue (is_ows x)), rw e refl)

feed_is : (bs : List ℕ) → is_feed bs ≡ true → bs ≡ 10 ∷ []
feed_is [] h = cc
feed_is (b ∷ []) h = ap (λ (n : ℕ). n ∷ []) (eqb-true b 10 (and_parts _ true h).0)
feed_is (b ∷ c ∷ cs) h = let wrong = (and_parts _ false h).1 in cc

extension_parts : (bs : List ℕ) → is_extension_line bs ≡ true → (text : List ℕ) × AllPass is_extension_byte text × (bs ≡ text ++ 13 ∷ 10 ∷ [])
extension_parts [] h = absurd (both_ways false refl h)
extension_parts (b ∷ bs) h = by_test (b == 13) refl (b == 10) refl (extension_parts bs) h
  where
    by_test : (t : Bool) → (b == 13) ≡ t → (u : Bool) → (b == 10) ≡ u
        → (is_extension_line bs ≡ true → (text : List ℕ) × AllPass is_extension_byte text × (bs ≡ text ++ 13 ∷ 10 ∷ []))
        → is_extension_line (b ∷ bs) ≡ true
        → (text : List ℕ) × AllPass is_extension_byte text × (b ∷ bs ≡ text ++ 13 ∷ 10 ∷ [])
    by_test true e u f more h =
        let feed : is_feed bs ≡ true = rw e at h in
        ([], All-nil (λ (x : ℕ). IsTrue (is_extension_byte x)), λ i. eqb-true b 13 e i ∷ feed_is bs feed i)
    by_test false e true f more h = let wrong : false ≡ true = rw (e, f) at h in cc
    by_test false e false f more h =
        let rest : is_extension_line bs ≡ true = rw (e, f) at h in
        let found = more rest in
        let passes : IsTrue (is_extension_byte b) = rw (e, f) refl in
        (b ∷ found.0, All-cons (λ (x : ℕ). IsTrue (is_extension_byte x)) b found.0 passes found.1, ap (λ (l : List ℕ). b ∷ l) found.2)

rest_parts : (bs : List ℕ) → is_line_rest bs ≡ true → (e : Option (List ℕ)) × IsExtension e × (bs ≡ print_extension e ++ 13 ∷ 10 ∷ [])
rest_parts [] h = absurd (both_ways false refl h)
rest_parts (b ∷ bs) h = by_test (b == 13) refl h
  where
    by_test : (t : Bool) → (b == 13) ≡ t → is_line_rest (b ∷ bs) ≡ true → (e : Option (List ℕ)) × IsExtension e × (b ∷ bs ≡ print_extension e ++ 13 ∷ 10 ∷ [])
    by_test true e h =
        let feed : is_feed bs ≡ true = rw e at h in
        (None, tt, λ i. eqb-true b 13 e i ∷ feed_is bs feed i)
    by_test false e h =
        let both : (b == 59) && is_extension_line bs ≡ true = rw e at h in
        let parts = and_parts (b == 59) (is_extension_line bs) both in
        let found = extension_parts bs parts.1 in
        (Some found.0, found.1, λ i. eqb-true b 59 parts.0 i ∷ found.2 i)

regrouped : (a b c d : List ℕ) → a ++ (b ++ (c ++ d)) ≡ a ++ b ++ c ++ d ++ []
regrouped a b c d = simp (append_assoc, append-nil)

-- a line with a size is a size line
pub size_line : (line : List ℕ) (n : ℕ) → size_of line ≡ Some n → (l : ChunkLine) × ReadsChunkLine line l [] × (chunk_size l ≡ n)
unfolding print_chunk_line
size_line line n h = by_test (is_sized line) refl h
  where
    is_sized : List ℕ → Bool
    is_sized bs = nat_lt 0 (length (leading_digits bs)) && nat_le (length (leading_digits bs)) 16 && is_line_rest (skip_ows (after_digits bs))

    by_test : (t : Bool) → is_sized line ≡ t → size_of line ≡ Some n → (l : ChunkLine) × ReadsChunkLine line l [] × (chunk_size l ≡ n)
    by_test false e h = let wrong : ◌≡◌ {A = Option ℕ} None (Some n) = rw e at h in cc
    by_test true e h =
        let digits = leading_digits line in
        let tests = and_parts (nat_lt 0 (length digits) && nat_le (length digits) 16) (is_line_rest (skip_ows (after_digits line))) e in
        let sizes = and_parts (nat_lt 0 (length digits)) (nat_le (length digits) 16) tests.0 in
        let blank = blank_parts (after_digits line) in
        let rest = rest_parts (skip_ows (after_digits line)) tests.1 in
        let value : Some (digits_value 16 digits) ≡ Some n = rw e at h in
        let l : ChunkLine = record { digits = digits; pad = blank.0; extension = rest.0 } in
        let parts : line ≡ print_chunk_line l ++ [] =
        (hex_parts line).0 ∙ ap (λ (x : List ℕ). digits ++ x) (blank.2 ∙ ap (λ (x : List ℕ). blank.0 ++ x) rest.2)
        ∙ regrouped digits blank.0 (print_extension rest.0) (13 ∷ 10 ∷ []) in
        (l, (record { digits = (ltb-true 0 (length digits) sizes.0, leb-true (length digits) 16 sizes.1, (hex_parts line).1); pad = blank.1; extension = rest.1 }, parts), cc)

-- ---- what is in the grammar is read

digits_kept : (digits rest : List ℕ) → AllPass is_ascii_hexdigit digits
    → (leading_digits (digits ++ rest) ≡ digits ++ leading_digits rest) × (after_digits (digits ++ rest) ≡ after_digits rest)
digits_kept [] rest h = (refl, refl)
digits_kept (b ∷ bs) rest h =
    let first : is_ascii_hexdigit b ≡ true = All-head (λ (x : ℕ). IsTrue (is_ascii_hexdigit x)) b bs h in
    let more = digits_kept bs rest (All-tail (λ (x : ℕ). IsTrue (is_ascii_hexdigit x)) b bs h) in
    rw first (ap (λ (l : List ℕ). b ∷ l) more.0, more.1)

-- a space, a tab, a semicolon or CR is no digit
blank_no_digit : (b : ℕ) → is_ows b ≡ true → is_ascii_hexdigit b ≡ false
blank_no_digit b h = ⊎_elim (λ e. rw (eqb-true b 32 e) refl) (λ e. rw (eqb-true b 9 e) refl) (or_cases (b == 32) (b == 9) h)

no_digits : (pad : List ℕ) (e : Option (List ℕ)) (rest : List ℕ) → AllPass is_ows pad
    → (leading_digits (pad ++ print_extension e ++ 13 ∷ rest) ≡ []) × (after_digits (pad ++ print_extension e ++ 13 ∷ rest) ≡ pad ++ print_extension e ++ 13 ∷ rest)
no_digits [] None rest h = (refl, refl)
no_digits [] (Some text) rest h = (refl, refl)
no_digits (b ∷ bs) e rest h =
    let other = blank_no_digit b (All-head (λ (x : ℕ). IsTrue (is_ows x)) b bs h) in
    rw other (refl, refl)

blanks_skipped : (pad : List ℕ) (e : Option (List ℕ)) (rest : List ℕ) → AllPass is_ows pad
    → skip_ows (pad ++ print_extension e ++ 13 ∷ rest) ≡ print_extension e ++ 13 ∷ rest
blanks_skipped [] None rest h = refl
blanks_skipped [] (Some text) rest h = refl
blanks_skipped (b ∷ bs) e rest h =
    let first : is_ows b ≡ true = All-head (λ (x : ℕ). IsTrue (is_ows x)) b bs h in
    rw first (blanks_skipped bs e rest (All-tail (λ (x : ℕ). IsTrue (is_ows x)) b bs h))

extension_read : (text : List ℕ) → AllPass is_extension_byte text → is_extension_line (text ++ 13 ∷ 10 ∷ []) ≡ true
extension_read [] h = refl
extension_read (b ∷ bs) h =
    let first : not ((b == 13) || (b == 10)) ≡ true = All-head (λ (x : ℕ). IsTrue (is_extension_byte x)) b bs h in
    let neither = or_neither (b == 13) (b == 10) (not-true _ first) in
    rw (neither.0, neither.1) (extension_read bs (All-tail (λ (x : ℕ). IsTrue (is_extension_byte x)) b bs h))
  where
    or_neither : (x y : Bool) → (x || y) ≡ false → (x ≡ false) × (y ≡ false)
    or_neither true y h = cc
    or_neither false y h = (refl, h)

rest_read : (e : Option (List ℕ)) → IsExtension e → is_line_rest (print_extension e ++ 13 ∷ 10 ∷ []) ≡ true
rest_read None h = refl
rest_read (Some text) h = extension_read text h

line_parts : (a b c d : List ℕ) → a ++ b ++ c ++ d ++ [] ≡ a ++ (b ++ c ++ d)
line_parts a b c d = simp (append_assoc, append-nil)

-- a size line has its size
pub size_read : (line : List ℕ) (l : ChunkLine) → ReadsChunkLine line l [] → size_of line ≡ Some (chunk_size l)
unfolding print_chunk_line
size_read line l h =
    let tail = l.pad ++ print_extension l.extension ++ 13 ∷ 10 ∷ [] in
    let parts : line ≡ l.digits ++ tail = h.1 ∙ line_parts l.digits l.pad (print_extension l.extension) (13 ∷ 10 ∷ []) in
    let front : leading_digits line ≡ l.digits = ap leading_digits parts ∙ (digits_kept l.digits tail h.0.digits.2).0 ∙ ap (λ (x : List ℕ). l.digits ++ x) (no_digits l.pad l.extension (10 ∷ []) h.0.pad).0 ∙ append-nil l.digits in
    let back : skip_ows (after_digits line) ≡ print_extension l.extension ++ 13 ∷ 10 ∷ [] =
    ap skip_ows (ap after_digits parts ∙ (digits_kept l.digits tail h.0.digits.2).1 ∙ (no_digits l.pad l.extension (10 ∷ []) h.0.pad).1)
    ∙ blanks_skipped l.pad l.extension (10 ∷ []) h.0.pad in
    let few : nat_lt 0 (length l.digits) ≡ true = lt-ltb 0 (length l.digits) h.0.digits.0 in
    let most : nat_le (length l.digits) 16 ≡ true = le-leb (length l.digits) 16 h.0.digits.1 in
    rw (front, back, few, most, rest_read l.extension h.0.extension) refl

-- what isn't a whole size line has no size
pub no_size : (line : List ℕ) → ((l : ChunkLine) → ReadsChunkLine line l [] → ⊥) → size_of line ≡ None
no_size line none = by_size (size_of line) refl
  where
    by_size : (o : Option ℕ) → size_of line ≡ o → size_of line ≡ None
    by_size None e = e
    by_size (Some n) e = let found = size_line line n e in absurd (none found.0 found.1)

-- ---- what `parse_chunk_size` answers

pub size_found : (line : List ℕ) (len size : ℕ) (l : ChunkLine) → IsChunkLineAt line len size l → len ≡ length line → Some size ≡ size_of line
size_found line len size l at whole =
    let none : drop len line ≡ [] = drop_of_length-le line (omega arith) in
    let reads : ReadsChunkLine line l [] = subst (λ (rest : List ℕ). ReadsChunkLine line l rest) none at.reads in
    ap Some at.size_is ∙ sym (size_read line l reads)

pub size_partial : (line : List ℕ) → HasNoChunkLine line → None ≡ size_of line
size_partial line none = sym (no_size line (λ l reads. none l [] reads))

pub size_never : (line : List ℕ) → NeverHasChunkLine line → None ≡ size_of line
size_never line never = size_partial line (subst HasNoChunkLine (append-nil line) (never []))

-- the bytes begin with a size line, and others follow it
pub size_longer : (line : List ℕ) (len size : ℕ) (l : ChunkLine) → IsChunkLineAt line len size l → (len ≡ length line → ⊥) → None ≡ size_of line
size_longer line len size l at longer = sym (no_size line (λ k reads. longer (whole k reads)))
  where
    whole : (k : ChunkLine) → ReadsChunkLine line k [] → len ≡ length line
    whole k reads =
        let rest : drop len line ≡ [] = (chunk_line_unique line l k (drop len line) [] at.reads reads).1 in
        let within : len ≤ length line =
        omega (arith, at.len_is, ap length at.reads.1, length-append (print_chunk_line l) (drop len line)) in
        omega (arith, ap length rest, length-drop len line)
