-- What the entries of an ordered map show of a range of one key is what the versions of this key show.
use Rattle.std.proofs.Common.{◌≡◌, ℕ, Bool, true, false, cond, ◌&&◌, ◌||◌, List, [], ◌∷◌, Option, None, Some, refl, sym, ◌∙◌, ap, subst}
use Rattle.std.specs.List.{AllByRecursion, cons_option}
use Rattle.std.specs.List.Sorted.{IsStrictlySortedBy}
use Rattle.std.specs.Option.{unwrap_or, option_to_list}
use Rattle.std.specs.Ordering.{nat_cmp, is_eq, ordering_reverse}
use Rattle.std.specs.declared.cmp.Ordering.TheVariants.{Less}
use Rattle.std.specs.Cmp.Lexicographic.{slice_cmp}
use Rattle.std.specs.Map.{keys_of}
use Rattle.std.proofs.lemmas.Cmp.{nat_list_cmp_total}
use Rattle.etcd_types.specs.declared.record.Kv.{Kv}
use Rattle.etcd_types.specs.declared.key_range.KeyRange.{KeyRange}
use Rattle.etcd_types.specs.Keys.{same, up_to, before, is_zero}
use Rattle.etcd_types.specs.Ranges.{is_one, contains}
use Rattle.etcd_types.proofs.KeyOrder.{same-equal}
use Rattle.compaction_model.specs.declared.version.Version.{Version}
use Rattle.store_index.specs.Maps.{Entries, AreOrdered, versions_of, found, left_by, shown_by}
use Rattle.store_index.proofs.EntryLemmas.{same-sym}
use Rattle.store_index.proofs.ListedRecords.{shown-cons}

abbrev IsBehind : List ℕ → List ℕ → Type 0
IsBehind k q = slice_cmp nat_cmp k q ≡ Less

contains_one : (range : KeyRange) (k : List ℕ) → is_one range ≡ true → contains range k ≡ same k range.key
contains_one range k o =
    ap (λ (b : Bool). cond b (same k range.key) (cond (is_zero range.end) (is_zero range.key || up_to range.key k) (up_to range.key k && before k range.end))) o

-- by whether the first key is the one
shown_first : (read : List Version → Option Kv) (range : KeyRange) (e : List ℕ × List Version) (es : Entries) → is_one range ≡ true
    → shown_by read range (e ∷ es) ≡ cond (same e.0 range.key) (cons_option (read e.1) (shown_by read range es)) (shown_by read range es)
shown_first read range e es o =
    shown-cons read range e es ∙ ap (λ (b : Bool). cond b (cons_option (read e.1) (shown_by read range es)) (shown_by read range es)) (contains_one range e.0 o)

-- keys behind the one show nothing of it
none_behind : (read : List Version → Option Kv) (range : KeyRange) (es : Entries) → is_one range ≡ true → AllByRecursion (IsBehind range.key) (keys_of es)
    → shown_by read range es ≡ []
none_behind read range [] o a = refl
none_behind read range (e ∷ es) o a =
    let other : same e.0 range.key ≡ false = ap is_eq (nat_list_cmp_total.antisymm e.0 range.key ∙ ap ordering_reverse a.0) in
    shown_first read range e es o
    ∙ ap (λ (b : Bool). cond b (cons_option (read e.1) (shown_by read range es)) (shown_by read range es)) other
    ∙ none_behind read range es o a.1

alone : (o : Option Kv) → option_to_list o ≡ cons_option o []
alone None = refl
alone (Some kv) = refl

pub one_shown : (read : List Version → Option Kv) (range : KeyRange) (es : Entries) → AreOrdered es → is_one range ≡ true → read [] ≡ None
    → option_to_list (read (versions_of es range.key)) ≡ shown_by read range es
unfolding IsStrictlySortedBy
one_shown read range [] s o n = ap option_to_list n
one_shown read range (e ∷ es) s o n =
    ap (λ (b : Bool). option_to_list (read (unwrap_or (cond b (Some e.1) (found range.key es)) []))) (same-sym range.key e.0)
    ∙ by_key (same e.0 range.key) refl (one_shown read range es s.1 o n) ∙ sym (shown_first read range e es o)
  where
    by_key : (b : Bool) → same e.0 range.key ≡ b → option_to_list (read (versions_of es range.key)) ≡ shown_by read range es
        → option_to_list (read (unwrap_or (cond b (Some e.1) (found range.key es)) [])) ≡ cond b (cons_option (read e.1) (shown_by read range es)) (shown_by read range es)
    by_key true t later =
        alone (read e.1)
        ∙ ap (cons_option (read e.1))
        (sym (none_behind read range es o (subst (λ (k : List ℕ). AllByRecursion (IsBehind k) (keys_of es)) (same-equal e.0 range.key t) s.0)))
    by_key false t later = later

pub nothing_left : (up_to : Option ℕ) → left_by up_to [] ≡ None
nothing_left None = refl
nothing_left (Some revision) = refl
