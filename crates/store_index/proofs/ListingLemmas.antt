-- A listing between bounds, one entry after the other.
use Rattle.std.proofs.Common.{◌≡◌, ℕ, List, [], ◌∷◌, ◌++◌, Option, None, Some, filter, filter_map, refl, sym, ◌∙◌, ap, append_assoc}
use Rattle.std.specs.List.{cons_option}
use Rattle.std.specs.Option.{option_to_list}
use Rattle.std.specs.Ordering.{nat_cmp}
use Rattle.std.specs.Cmp.Lexicographic.{slice_cmp}
use Rattle.std.specs.declared.ops.Bound.{Bound}
use Rattle.std.specs.BTreeMap.Range.{entries_between}
use Rattle.std.proofs.lemmas.List.{append-nil}
use Rattle.etcd_types.specs.declared.record.Kv.{Kv}
use Rattle.etcd_types.specs.declared.key_range.KeyRange.{KeyRange}
use Rattle.compaction_model.specs.declared.version.Version.{Version}
use Rattle.store_index.specs.Bounds.{BoundsOf}
use Rattle.store_index.specs.Maps.{Entries, shown_by}

-- the entries between the bounds of a range show what all entries show of it
pub shown_between : (read : List Version → Option Kv) (range : KeyRange) (low high : Bound (List ℕ)) (es rest : Entries) → BoundsOf range low high
    → rest ≡ entries_between (slice_cmp nat_cmp) low high es → filter_map (λ e. read e.1) rest ≡ shown_by read range es
shown_between read range low high es rest b is =
    ap (λ (fs : Entries). filter_map (λ e. read e.1) fs) is ∙ (λ i. filter_map (λ e. read e.1) (filter (λ e. b.same e.0 i) es))

pub listed_one : (read : List Version → Option Kv) (kvs new whole : List Kv) (e : List ℕ × List Version) (left rest : Entries)
    → kvs ++ filter_map (λ f. read f.1) left ≡ whole → left ≡ e ∷ rest → new ≡ kvs ++ option_to_list (read e.1)
    → new ++ filter_map (λ f. read f.1) rest ≡ whole
listed_one read kvs new whole e left rest so_far is more =
    ap (λ (ks : List Kv). ks ++ later) more ∙ append_assoc kvs (option_to_list (read e.1)) later
    ∙ ap (λ (ks : List Kv). kvs ++ ks) (put_first (read e.1)) ∙ ap (λ (es : Entries). kvs ++ filter_map (λ f. read f.1) es) (sym is) ∙ so_far
  where
    later : List Kv
    later = filter_map (λ f. read f.1) rest

    put_first : (o : Option Kv) → option_to_list o ++ later ≡ cons_option o later
    put_first None = refl
    put_first (Some kv) = refl

pub listed_all : (read : List Version → Option Kv) (kvs whole : List Kv) (left : Entries) → kvs ++ filter_map (λ f. read f.1) left ≡ whole → left ≡ [] → kvs ≡ whole
listed_all read kvs whole left so_far is = sym (append-nil kvs) ∙ ap (λ (es : Entries). kvs ++ filter_map (λ f. read f.1) es) (sym is) ∙ so_far
