-- What a text so far is once the members or items that are left stand behind it.
use Rattle.std.proofs.Common.{◌≡◌, ℕ, zero, suc, Bool, true, false, List, [], ◌∷◌, ◌++◌, Option, Some, None, refl, sym, ap, ◌∙◌, append_assoc}
use Rattle.json.specs.Print.{escape, quoted}
use Rattle.serde_json.specs.Data.{Data, string, array, object, Items, no_items, item, Members, no_members, member}
use Rattle.serde_json.specs.Written.{comma_if, compact_text, items_text, members_text}
use Rattle.json_model.specs.Written.{Field, number_value, bytes_value, members_of}
use Rattle.direct_json.specs.Drafts.{TextSoFar, after, begun, ended, with_whole, with_text, with_number, with_bytes, with_member, with_field, with_item, with_items}
use Rattle.direct_json.proofs.InOrder.{member_if, in_order, all_placed, all_have_places, members_placed}

-- with the bracket that ends the object or the array
abbrev pub finished : TextSoFar → Members → List ℕ
finished d ms = d.0 ++ members_text d.1 ms

abbrev pub finished_items : TextSoFar → Items → List ℕ
finished_items d ds = d.0 ++ items_text d.1 ds

-- what stands before a member's value, where the value begins so
abbrev pub Opens : List ℕ → List ℕ → List ℕ → Type 0
Opens opening name begin = opening ≡ 44 ∷ (quoted name ++ 58 ∷ begin)

after_comma : (later : Bool) (o x : List ℕ) → o ≡ 44 ∷ x → after later o ≡ comma_if later ++ x
after_comma true o x e = e
after_comma false o x e = ap (after false) e

-- ---- members of texts

regroup_text : (a c q s m : List ℕ) → (((a ++ (c ++ (q ++ 58 ∷ 34 ∷ []))) ++ s) ++ 34 ∷ []) ++ m ≡ a ++ (c ++ (q ++ 58 ∷ ((34 ∷ (s ++ 34 ∷ [])) ++ m)))
regroup_text a c q s m = simp append_assoc

text_next : (o k s : List ℕ) (d : TextSoFar) (ms : Members) → Opens o k (34 ∷ []) → finished (with_text o s d) ms ≡ finished d (member k (string s) ms)
text_next o k s d ms e =
    ap (λ (x : List ℕ). (((d.0 ++ x) ++ escape s) ++ 34 ∷ []) ++ members_text true ms) (after_comma d.1 o _ e)
    ∙ regroup_text d.0 (comma_if d.1) (quoted k) (escape s) (members_text true ms)

pub number_next : (o k : List ℕ) (n : ℕ) (d : TextSoFar) (ms : Members) → Opens o k (34 ∷ []) → finished (with_number o n d) ms ≡ finished d (member_if k (number_value n) ms)
number_next o k zero d ms e = refl
number_next o k (suc n) d ms e = text_next o k _ d ms e

pub bytes_next : (o k b : List ℕ) (d : TextSoFar) (ms : Members) → Opens o k (34 ∷ []) → finished (with_bytes o b d) ms ≡ finished d (member_if k (bytes_value b) ms)
bytes_next o k [] d ms e = refl
bytes_next o k (x ∷ b) d ms e = text_next o k _ d ms e

-- ---- members of any kind

regroup_member : (a c q v m : List ℕ) → (a ++ (c ++ (q ++ 58 ∷ v))) ++ m ≡ a ++ (c ++ (q ++ 58 ∷ (v ++ m)))
regroup_member a c q v m = simp append_assoc

pub member_next : (k : List ℕ) (v : Data) (d : TextSoFar) (ms : Members) → finished (with_member k v d) ms ≡ finished d (member k v ms)
member_next k v d ms = regroup_member d.0 (comma_if d.1) (quoted k) (compact_text v) (members_text true ms)

pub field_next : (k : List ℕ) (o : Option Data) (d : TextSoFar) (ms : Members) → finished (with_field (k, o) d) ms ≡ finished d (member_if k o ms)
field_next k None d ms = refl
field_next k (Some v) d ms = member_next k v d ms

pub whole_written : (o k : List ℕ) (v : Data) (d : TextSoFar) → Opens o k (compact_text v) → with_whole o d ≡ with_member k v d
whole_written o k v d e = λ i. (d.0 ++ after_comma d.1 o _ e i, true)

opened : (o k begin rest : List ℕ) (d : TextSoFar) → Opens o k begin → (d.0 ++ after d.1 o) ++ rest ≡ d.0 ++ (comma_if d.1 ++ (quoted k ++ 58 ∷ (begin ++ rest)))
opened o k begin rest d e = ap (λ (x : List ℕ). (d.0 ++ x) ++ rest) (after_comma d.1 o _ e) ∙ regroup_member d.0 (comma_if d.1) (quoted k) begin rest

-- ---- objects and arrays within

pub object_member : (o k : List ℕ) (fs : List Field) (d e : TextSoFar) → Opens o k (123 ∷ []) → all_have_places [] fs ≡ true
    → finished e no_members ≡ finished (begun o d) (in_order (all_placed [] fs)) → ended 125 e ≡ with_member k (object (members_of fs)) d
object_member o k fs d e opens places is =
    let text = is ∙ ap (finished (begun o d)) (sym (members_placed fs places)) ∙ opened o k (123 ∷ []) (members_text false (members_of fs)) d opens in
    λ i. (text i, true)

pub object_item : (fs : List Field) (d e : TextSoFar) → all_have_places [] fs ≡ true
    → finished e no_members ≡ finished (begun (44 ∷ 123 ∷ []) d) (in_order (all_placed [] fs)) → ended 125 e ≡ with_item (object (members_of fs)) d
object_item fs d e places is =
    let o : List ℕ = 44 ∷ 123 ∷ [] in
    let rest = members_text false (members_of fs) in
    let text = is ∙ ap (finished (begun o d)) (sym (members_placed fs places))
    ∙ ap (λ (x : List ℕ). (d.0 ++ x) ++ rest) (after_comma d.1 o (123 ∷ []) refl) ∙ regroup_item d.0 (comma_if d.1) rest in
    λ i. (text i, true)
  where
    regroup_item : (a c m : List ℕ) → (a ++ (c ++ 123 ∷ [])) ++ m ≡ a ++ (c ++ 123 ∷ m)
    regroup_item a c m = simp append_assoc

items_next : (ds : Items) (d : TextSoFar) → finished_items (with_items ds d) no_items ≡ finished_items d ds
items_next no_items d = refl
items_next (item v ds) d = items_next ds (with_item v d) ∙ regroup d.0 (comma_if d.1) (compact_text v) (items_text true ds)
  where
    regroup : (a c v m : List ℕ) → (a ++ (c ++ v)) ++ m ≡ a ++ (c ++ (v ++ m))
    regroup a c v m = simp append_assoc

pub list_member : (o k : List ℕ) (ds : Items) (d : TextSoFar) → Opens o k (91 ∷ []) → ended 93 (with_items ds (begun o d)) ≡ with_member k (array ds) d
list_member o k ds d opens =
    let text = items_next ds (begun o d) ∙ opened o k (91 ∷ []) (items_text false ds) d opens in
    λ i. (text i, true)
