-- The text of a value whose strings are bytes is bytes.
use Rattle.std.proofs.Common.{◌≡◌, ℕ, zero, suc, ◌<◌, ◌^◌, Bool, true, false, ◌&&◌, List, [], ◌∷◌, ◌++◌, Option, None, Some, Ordering, Less, Equal, Greater, inl, inr, decimal, refl, subst, sym, arith, nat_cmp}
use Rattle.std.specs.Ordering.{match_ordering}
use Rattle.std.specs.Cmp.Lexicographic.{slice_cmp}
use Rattle.std.specs.List.{list_all}
use Rattle.std.specs.Str.{IsAscii}
use Rattle.std.proofs.lemmas.Bool.{cases_eq}
use Rattle.std.proofs.lemmas.Fmt.{IsAscii-decimal}
use Rattle.json.specs.Print.{escape_byte, escape, quoted, token_text}
use Rattle.json.specs.Token.{Token}
use Rattle.serde_json.specs.Data.{Num, unsigned, negative, float, Data, null, boolean, number, string, array, object, Items, no_items, item, Members, no_members, member, put}
use Rattle.serde_json.specs.Written.{compact_text, items_text, members_text, comma_if}
use Rattle.etcd_types.proofs.Bools.{and_first, and_second}
use Rattle.text_model.specs.Words.{are_bytes}
use Rattle.json_model.specs.Written.{Field, with_field, with_fields, members_of}
use Rattle.text_laws.specs.Values.Fits.{IsByte, Bytes}
use Rattle.text_laws.proofs.Values.Alls.{all_append, bytes_are}

pub ascii_bytes : (bs : List ℕ) → IsAscii bs → Bytes bs
ascii_bytes [] h = tt
ascii_bytes (b ∷ bs) h = (let x = h 0 in omega (arith, x), ascii_bytes bs (λ i. h (suc i)))

-- ---- quoted strings

-- the escapes of the bytes below n are bytes
abbrev escapes_below : ℕ → Bool
escapes_below zero = true
escapes_below (suc n) = are_bytes (escape_byte n) && escapes_below n

escape_below : (n : ℕ) → escapes_below n ≡ true → (x : ℕ) → x < n → Bytes (escape_byte x)
escape_below zero e x h = absurd (omega (arith, h))
escape_below (suc n) e x h =
    elim (cases_eq x n) [
      | inl same ↦ subst (λ (y : ℕ). Bytes (escape_byte y)) (sym same) (bytes_are (escape_byte n) (and_first (are_bytes (escape_byte n)) (escapes_below n) e))
      | inr other ↦ escape_below n (and_second (are_bytes (escape_byte n)) (escapes_below n) e) x (omega (arith, h, other))
    ]

all_escapes : escapes_below 256 ≡ true
unfolding escape_byte
all_escapes = refl

escape_bytes : (s : List ℕ) → Bytes s → Bytes (escape s)
escape_bytes [] h = tt
escape_bytes (b ∷ bs) h = all_append IsByte (escape_byte b) (escape bs) (escape_below 256 all_escapes b h.0) (escape_bytes bs h.1)

quoted_bytes : (s : List ℕ) → Bytes s → Bytes (quoted s)
quoted_bytes s h = (omega arith, all_append IsByte (escape s) (34 ∷ []) (escape_bytes s h) (omega arith, tt))

-- ---- values

abbrev IsWhole : Num → Type 0
IsWhole (unsigned n) = n < 2 ^ 64
IsWhole (negative z) = ⊥
IsWhole (float x) = ⊥

abbrev mutual
  pub ByteData : Data → Type 0
  ByteData null = Unit {0}
  ByteData (boolean b) = Unit {0}
  ByteData (number n) = IsWhole n
  ByteData (string s) = Bytes s
  ByteData (array ds) = ByteItems ds
  ByteData (object ms) = ByteMembers ms

  pub ByteItems : Items → Type 0
  ByteItems no_items = Unit {0}
  ByteItems (item d ds) = ByteData d × ByteItems ds

  pub ByteMembers : Members → Type 0
  ByteMembers no_members = Unit {0}
  ByteMembers (member k d ms) = Bytes k × ByteData d × ByteMembers ms

comma_bytes : (later : Bool) → Bytes (comma_if later)
comma_bytes true = (omega arith, tt)
comma_bytes false = tt

mutual
  pub text_bytes : (d : Data) → ByteData d → Bytes (compact_text d)
  text_bytes null h = bytes_are (token_text Token.null) refl
  text_bytes (boolean true) h = bytes_are (token_text (Token.boolean true)) refl
  text_bytes (boolean false) h = bytes_are (token_text (Token.boolean false)) refl
  text_bytes (number (unsigned n)) h = ascii_bytes (decimal n) (IsAscii-decimal n h)
  text_bytes (number (negative z)) h = absurd h
  text_bytes (number (float x)) h = absurd h
  text_bytes (string s) h = quoted_bytes s h
  text_bytes (array ds) h = (omega arith, items_bytes false ds h)
  text_bytes (object ms) h = (omega arith, members_bytes false ms h)

  items_bytes : (later : Bool) (ds : Items) → ByteItems ds → Bytes (items_text later ds)
  items_bytes later no_items h = (omega arith, tt)
  items_bytes later (item d ds) h = all_append IsByte (comma_if later) (compact_text d ++ items_text true ds) (comma_bytes later) (all_append IsByte (compact_text d) (items_text true ds) (text_bytes d h.0) (items_bytes true ds h.1))

  members_bytes : (later : Bool) (ms : Members) → ByteMembers ms → Bytes (members_text later ms)
  members_bytes later no_members h = (omega arith, tt)
  members_bytes later (member k d ms) h =
      all_append IsByte (comma_if later) (quoted k ++ 58 ∷ (compact_text d ++ members_text true ms)) (comma_bytes later)
      (all_append IsByte (quoted k) (58 ∷ (compact_text d ++ members_text true ms)) (quoted_bytes k h.0)
      (omega arith, all_append IsByte (compact_text d) (members_text true ms) (text_bytes d h.1) (members_bytes true ms h.2)))

-- ---- objects by their fields

put_bytes : (k : List ℕ) (d : Data) (ms : Members) → Bytes k → ByteData d → ByteMembers ms → ByteMembers (put k d ms)
put_bytes k d no_members b h f = (b, h, tt)
put_bytes k d (member l x ms) b h f = placed (slice_cmp nat_cmp k l) (put_bytes k d ms b h f.2)
  where
    placed : (o : Ordering) → ByteMembers (put k d ms) → ByteMembers (match_ordering o (member k d (member l x ms)) (member l d ms) (member l x (put k d ms)))
    placed Less later = (b, h, f)
    placed Equal later = (f.0, h, f.2)
    placed Greater later = (f.0, f.1, later)

-- what is written under a name
abbrev pub ByteField : Option Data → Type 0
ByteField None = Unit {0}
ByteField (Some d) = ByteData d

abbrev pub ByteFields : List Field → Type 0
ByteFields [] = Unit {0}
ByteFields (f ∷ fs) = Bytes f.0 × ByteField f.1 × ByteFields fs

field_bytes : (k : List ℕ) (o : Option Data) (ms : Members) → Bytes k → ByteField o → ByteMembers ms → ByteMembers (with_field k o ms)
field_bytes k None ms b h f = f
field_bytes k (Some d) ms b h f = put_bytes k d ms b h f

fields_bytes : (fs : List Field) (ms : Members) → ByteFields fs → ByteMembers ms → ByteMembers (with_fields ms fs)
fields_bytes [] ms h f = f
fields_bytes (x ∷ fs) ms h f = fields_bytes fs (with_field x.0 x.1 ms) h.2 (field_bytes x.0 x.1 ms h.0 h.1 f)

pub object_bytes : (fs : List Field) → ByteFields fs → ByteMembers (members_of fs)
object_bytes fs h = fields_bytes fs no_members h tt

-- names are bytes, as a computation says
abbrev pub ByteValues : List Field → Type 0
ByteValues [] = Unit {0}
ByteValues (f ∷ fs) = ByteField f.1 × ByteValues fs

pub bytes_by : (fs : List Field) → list_all (λ f. are_bytes f.0) fs ≡ true → ByteValues fs → ByteFields fs
bytes_by [] e h = tt
bytes_by (f ∷ fs) e h =
    (bytes_are f.0 (and_first (are_bytes f.0) (list_all (λ g. are_bytes g.0) fs) e), h.0, bytes_by fs (and_second (are_bytes f.0) (list_all (λ g. are_bytes g.0) fs) e) h.1)
