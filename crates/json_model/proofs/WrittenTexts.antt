-- The text that is written for a value is read as the value.
use Rattle.std.proofs.Common.{◌≡◌, ℕ, suc, ◌<◌, ◌≤◌, ◌^◌, Bool, true, false, List, [], ◌∷◌, max, Option, Some, None, option_map, option_and_then, Ordering, Less, Equal, Greater, decimal, refl, sym, ap, ap₂, ◌∙◌, arith, append-nil, nat_cmp}
use Rattle.std.specs.Prelude.{⊤, IsUtf8}
use Rattle.std.specs.Ordering.{match_ordering, ordering_reverse}
use Rattle.std.specs.Cmp.Lexicographic.{slice_cmp}
use Rattle.std.proofs.lemmas.Cmp.{nat_list_cmp_total}
use Rattle.std.proofs.lemmas.Fmt.{IsAscii-decimal}
use Rattle.std.proofs.lemmas.Str.{IsUtf8-from_ascii, IsUtf8-append, IsUtf8-nil}
use Rattle.json.specs.Lex.{tokens}
use Rattle.json.specs.Print.{print, quoted, token_text}
use Rattle.json.specs.Json as json
use Rattle.json.specs.Tree as tree
use Rattle.json.specs.Token.{Token}
use Rattle.json.proofs.Printed.Decimals.{IsNumber-decimal}
use Rattle.json.proofs.Printed.Trees.{document-print, value-json_tokens}
use Rattle.json.proofs.Printed.Utf8.{IsUtf8-are_ascii, IsUtf8-quoted, IsUtf8-boolean}
use Rattle.json.proofs.Unique.Spelling.{tokens-document}
use Rattle.serde_json.specs.Data.{Num, unsigned, negative, float, Data, null, boolean, number, string, array, object, Items, no_items, item, Members, no_members, member, put, depth, items_depth, members_depth}
use Rattle.serde_json.specs.Read.{read, max_depth, of_json, of_items, of_members}
use Rattle.serde_json.specs.Written.{outline, items_outline, members_outline, has_float, items_have_float, members_have_float, compact_text, items_text, members_text, comma_if}
use Rattle.serde_json.proofs.Numbers.{number_of-decimal}
use Rattle.serde_json.proofs.Texts.{print-outline}
use Rattle.json_model.specs.Texts.{object_of}
use Rattle.json_model.specs.Written.{Field, with_field, with_fields, members_of}
use Rattle.json_model.proofs.TextLemmas.{json_is}

-- ---- values as they are written: no fraction, names in order and each once, text as UTF-8

abbrev IsNumber : Num → Type 0
IsNumber (unsigned n) = n < 2 ^ 64
IsNumber (negative z) = ⊥
IsNumber (float x) = ⊥

-- the key stands before each of these
abbrev IsBefore : List ℕ → Members → Type 0
IsBefore k no_members = ⊤
IsBefore k (member l d ms) = (slice_cmp nat_cmp k l ≡ Less) × IsBefore k ms

abbrev mutual
  pub IsPlain : Data → Type 0
  IsPlain null = ⊤
  IsPlain (boolean b) = ⊤
  IsPlain (number n) = IsNumber n
  IsPlain (string s) = IsUtf8 s
  IsPlain (array ds) = ArePlain ds
  IsPlain (object ms) = HasPlain ms

  pub ArePlain : Items → Type 0
  ArePlain no_items = ⊤
  ArePlain (item d ds) = IsPlain d × ArePlain ds

  pub HasPlain : Members → Type 0
  HasPlain no_members = ⊤
  HasPlain (member k d ms) = IsUtf8 k × IsPlain d × IsBefore k ms × HasPlain ms

-- ---- adding a member keeps the order

turned : (k l : List ℕ) → slice_cmp nat_cmp k l ≡ Greater → slice_cmp nat_cmp l k ≡ Less
turned k l e = nat_list_cmp_total.antisymm l k ∙ ap ordering_reverse e

before_put : (k l : List ℕ) (d : Data) (ms : Members) → slice_cmp nat_cmp l k ≡ Less → IsBefore l ms → IsBefore l (put k d ms)
before_put k l d no_members e h = (e, tt)
before_put k l d (member n x ms) e h =
    placed (slice_cmp nat_cmp k n) _ _ _ (e, h) h (h.0, before_put k l d ms e h.1)
  where
    placed : (o : Ordering) (a b c : Members) → IsBefore l a → IsBefore l b → IsBefore l c → IsBefore l (match_ordering o a b c)
    placed Less a b c x y z = x
    placed Equal a b c x y z = y
    placed Greater a b c x y z = z

before_along : (k l : List ℕ) (ms : Members) → slice_cmp nat_cmp k l ≡ Less → IsBefore l ms → IsBefore k ms
before_along k l no_members e h = tt
before_along k l (member n x ms) e h = (nat_list_cmp_total.trans k l n e h.0, before_along k l ms e h.1)

plain_put_at : (o : Ordering) (k l : List ℕ) (d x : Data) (ms : Members) → slice_cmp nat_cmp k l ≡ o → IsUtf8 k → IsPlain d → HasPlain (member l x ms) → HasPlain (put k d ms)
    → HasPlain (match_ordering o (member k d (member l x ms)) (member l d ms) (member l x (put k d ms)))
plain_put_at Less k l d x ms e u p h later = (u, p, (e, before_along k l ms e h.2), h)
plain_put_at Equal k l d x ms e u p h later = (h.0, p, h.2, h.3)
plain_put_at Greater k l d x ms e u p h later = (h.0, h.1, before_put k l d ms (turned k l e) h.2, later)

plain_put : (k : List ℕ) (d : Data) (ms : Members) → IsUtf8 k → IsPlain d → HasPlain ms → HasPlain (put k d ms)
plain_put k d no_members u p h = (u, p, tt, tt)
plain_put k d (member l x ms) u p h = plain_put_at _ k l d x ms refl u p h (plain_put k d ms u p h.3)

-- what may be written under a name
abbrev pub IsPlainField : Option Data → Type 0
IsPlainField None = ⊤
IsPlainField (Some d) = IsPlain d

abbrev pub ArePlainFields : List Field → Type 0
ArePlainFields [] = ⊤
ArePlainFields (f ∷ fs) = IsUtf8 f.0 × IsPlainField f.1 × ArePlainFields fs

plain_field : (k : List ℕ) (o : Option Data) (ms : Members) → IsUtf8 k → IsPlainField o → HasPlain ms → HasPlain (with_field k o ms)
plain_field k None ms u p h = h
plain_field k (Some d) ms u p h = plain_put k d ms u p h

plain_fields : (fs : List Field) (ms : Members) → ArePlainFields fs → HasPlain ms → HasPlain (with_fields ms fs)
plain_fields [] ms p h = h
plain_fields (f ∷ fs) ms p h = plain_fields fs (with_field f.0 f.1 ms) p.2 (plain_field f.0 f.1 ms p.0 p.1 h)

pub plain_members : (fs : List Field) → ArePlainFields fs → HasPlain (members_of fs)
plain_members fs p = plain_fields fs no_members p tt

-- ---- no fraction is written, so the text is the compact one

mutual
  pub plain_no_float : (d : Data) → IsPlain d → has_float d ≡ false
  plain_no_float null h = refl
  plain_no_float (boolean b) h = refl
  plain_no_float (number (unsigned n)) h = refl
  plain_no_float (number (negative z)) h = refl
  plain_no_float (number (float x)) h = absurd h
  plain_no_float (string s) h = refl
  plain_no_float (array ds) h = plain_items_no_float ds h
  plain_no_float (object ms) h = plain_members_no_float ms h

  plain_items_no_float : (ds : Items) → ArePlain ds → items_have_float ds ≡ false
  plain_items_no_float no_items h = refl
  plain_items_no_float (item d ds) h = rw (plain_no_float d h.0) (plain_items_no_float ds h.1)

  pub plain_members_no_float : (ms : Members) → HasPlain ms → members_have_float ms ≡ false
  plain_members_no_float no_members h = refl
  plain_members_no_float (member k d ms) h = rw (plain_no_float d h.1) (plain_members_no_float ms h.3)

-- ---- the tokens are read as the value

mutual
  outline_depth : (d : Data) → tree.depth (outline d) ≡ depth d
  outline_depth null = refl
  outline_depth (boolean b) = refl
  outline_depth (number n) = refl
  outline_depth (string s) = refl
  outline_depth (array ds) = ap suc (outline_items_depth ds)
  outline_depth (object ms) = ap suc (outline_members_depth ms)

  outline_items_depth : (ds : Items) → tree.items_depth (items_outline ds) ≡ items_depth ds
  outline_items_depth no_items = refl
  outline_items_depth (item d ds) = ap₂ max (outline_depth d) (outline_items_depth ds)

  outline_members_depth : (ms : Members) → tree.members_depth (members_outline ms) ≡ members_depth ms
  outline_members_depth no_members = refl
  outline_members_depth (member k d ms) = ap₂ max (outline_depth d) (outline_members_depth ms)

mutual
  outline_numbers : (d : Data) → IsPlain d → tree.HasNumbers (outline d)
  outline_numbers null h = tt
  outline_numbers (boolean b) h = tt
  outline_numbers (number (unsigned n)) h = IsNumber-decimal n h
  outline_numbers (number (negative z)) h = absurd h
  outline_numbers (number (float x)) h = absurd h
  outline_numbers (string s) h = tt
  outline_numbers (array ds) h = outline_items_numbers ds h
  outline_numbers (object ms) h = outline_members_numbers ms h

  outline_items_numbers : (ds : Items) → ArePlain ds → tree.ItemsHaveNumbers (items_outline ds)
  outline_items_numbers no_items h = tt
  outline_items_numbers (item d ds) h = (outline_numbers d h.0, outline_items_numbers ds h.1)

  outline_members_numbers : (ms : Members) → HasPlain ms → tree.MembersHaveNumbers (members_outline ms)
  outline_members_numbers no_members h = tt
  outline_members_numbers (member k d ms) h = (outline_numbers d h.1, outline_members_numbers ms h.3)

abbrev onto : Members → Members → Members
onto no_members ms = ms
onto (member l x found) ms = member l x (onto found ms)

onto_nothing : (found : Members) → found ≡ onto found no_members
onto_nothing no_members = refl
onto_nothing (member l x found) = ap (member l x) (onto_nothing found)

onto_next : (found : Members) (k : List ℕ) (d : Data) (ms : Members) → onto (onto found (member k d no_members)) ms ≡ onto found (member k d ms)
onto_next no_members k d ms = refl
onto_next (member l x found) k d ms = ap (member l x) (onto_next found k d ms)

-- each name found so far stands before each that is left
abbrev AreBefore : Members → Members → Type 0
AreBefore no_members ms = ⊤
AreBefore (member l x found) ms = IsBefore l ms × AreBefore found ms

put_last : (k : List ℕ) (d : Data) (found ms : Members) → AreBefore found (member k d ms) → put k d found ≡ onto found (member k d no_members)
put_last k d no_members ms h = refl
put_last k d (member l x found) ms h =
    let above : slice_cmp nat_cmp k l ≡ Greater = nat_list_cmp_total.antisymm k l ∙ ap ordering_reverse h.0.0 in
    rw above (ap (member l x) (put_last k d found ms h.1))

before_next : (k : List ℕ) (d : Data) (found ms : Members) → AreBefore found (member k d ms) → IsBefore k ms → AreBefore (onto found (member k d no_members)) ms
before_next k d no_members ms h b = (b, tt)
before_next k d (member l x found) ms h b = (h.0.1, before_next k d found ms h.1 b)

mutual
  outline_read : (d : Data) → IsPlain d → of_json (outline d) ≡ Some d
  outline_read null h = refl
  outline_read (boolean b) h = refl
  outline_read (number (unsigned n)) h = ap (option_map number) (number_of-decimal n h)
  outline_read (number (negative z)) h = absurd h
  outline_read (number (float x)) h = absurd h
  outline_read (string s) h = refl
  outline_read (array ds) h = ap (option_map array) (outline_items_read ds h)
  outline_read (object ms) h = ap (option_map object) (outline_members_read ms no_members h tt)

  outline_items_read : (ds : Items) → ArePlain ds → of_items (items_outline ds) ≡ Some ds
  outline_items_read no_items h = refl
  outline_items_read (item d ds) h = rw (outline_read d h.0, outline_items_read ds h.1) refl

  outline_members_read : (ms found : Members) → HasPlain ms → AreBefore found ms → of_members (members_outline ms) found ≡ Some (onto found ms)
  outline_members_read no_members found h b = ap Some (onto_nothing found)
  outline_members_read (member k d ms) found h b =
      ap (option_and_then (λ x. of_members (members_outline ms) (put k x found))) (outline_read d h.1)
      ∙ ap (of_members (members_outline ms)) (put_last k d found ms b)
      ∙ outline_members_read ms (onto found (member k d no_members)) h.3 (before_next k d found ms b h.2)
      ∙ ap Some (onto_next found k d ms)

-- ---- the text is UTF-8

comma_utf8 : (b : Bool) → IsUtf8 (comma_if b)
comma_utf8 true = IsUtf8-are_ascii (44 ∷ []) refl
comma_utf8 false = IsUtf8-nil

mutual
  text_utf8 : (d : Data) → IsPlain d → IsUtf8 (compact_text d)
  text_utf8 null h = IsUtf8-are_ascii (token_text Token.null) refl
  text_utf8 (boolean b) h = IsUtf8-boolean b
  text_utf8 (number (unsigned n)) h = IsUtf8-from_ascii (decimal n) (IsAscii-decimal n h)
  text_utf8 (number (negative z)) h = absurd h
  text_utf8 (number (float x)) h = absurd h
  text_utf8 (string s) h = IsUtf8-quoted s h
  text_utf8 (array ds) h = IsUtf8-append (91 ∷ []) _ (IsUtf8-are_ascii (91 ∷ []) refl) (items_utf8 false ds h)
  text_utf8 (object ms) h = IsUtf8-append (123 ∷ []) _ (IsUtf8-are_ascii (123 ∷ []) refl) (members_utf8 false ms h)

  items_utf8 : (later : Bool) (ds : Items) → ArePlain ds → IsUtf8 (items_text later ds)
  items_utf8 later no_items h = IsUtf8-are_ascii (93 ∷ []) refl
  items_utf8 later (item d ds) h = IsUtf8-append (comma_if later) _ (comma_utf8 later) (IsUtf8-append (compact_text d) _ (text_utf8 d h.0) (items_utf8 true ds h.1))

  members_utf8 : (later : Bool) (ms : Members) → HasPlain ms → IsUtf8 (members_text later ms)
  members_utf8 later no_members h = IsUtf8-are_ascii (125 ∷ []) refl
  members_utf8 later (member k d ms) h =
      IsUtf8-append (comma_if later) _ (comma_utf8 later)
      (IsUtf8-append (quoted k) _ (IsUtf8-quoted k h.0)
      (IsUtf8-append (58 ∷ []) _ (IsUtf8-are_ascii (58 ∷ []) refl) (IsUtf8-append (compact_text d) _ (text_utf8 d h.1) (members_utf8 true ms h.3))))

-- ---- together

tokens_text : (d : Data) → IsPlain d → depth d ≤ max_depth → tokens (compact_text d) ≡ tree.json_tokens (outline d)
tokens_text d h deep =
    let shallow : tree.depth (outline d) ≤ json.max_depth = rw (outline_depth d) (omega (arith, deep)) in
    sym (ap tokens (print-outline d)) ∙ tokens-document (print (tree.json_tokens (outline d))) (outline d) (document-print (outline d) (outline_numbers d h) shallow)

pub read_text : (d : Data) → IsPlain d → depth d ≤ max_depth → read (compact_text d) ≡ Some d
read_text d h deep =
    let shallow : tree.depth (outline d) ≤ max_depth = rw (outline_depth d) deep in
    ap (λ ts. option_and_then of_json (option_and_then (λ p. json.if_last p.0 p.1) (json.value max_depth ts))) (tokens_text d h deep ∙ sym (append-nil _))
    ∙ ap (λ r. option_and_then of_json (option_and_then (λ p. json.if_last p.0 p.1) r)) (value-json_tokens (outline d) max_depth [] shallow)
    ∙ outline_read d h

-- an object's text is read as the object
pub object_back : (ms : Members) → HasPlain ms → depth (object ms) ≤ max_depth → object_of (compact_text (object ms)) ≡ Some ms
unfolding object_of
object_back ms h deep = rw (json_is (compact_text (object ms)) (object ms) (text_utf8 (object ms) h) (read_text (object ms) h deep)) refl
