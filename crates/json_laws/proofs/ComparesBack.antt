-- A compare and a watch are read back as they are written.
use Rattle.std.proofs.Common.{◌≡◌, ℕ, ◌==◌, Bool, true, false, lit<, List, [], ◌∷◌, None, Ok, refl, sym, ap}
use Rattle.std.specs.List.{list_any}
use Rattle.base64.specs.GeneralPurpose.{IsBytes}
use Rattle.etcd_types.specs.declared.operation.Compare.{Compare}
use Rattle.etcd_types.specs.declared.operation.Target.{Target}
use Rattle.etcd_types.specs.declared.operation.Target.TheVariants.{Version, Create, Modified, Value, Lease}
use Rattle.etcd_types.specs.declared.operation.Relation.{Relation}
use Rattle.etcd_types.specs.declared.operation.Relation.TheVariants.{Equal, Greater, Less, NotEqual}
use Rattle.etcd_types.specs.declared.request.WatchAsk.{WatchAsk}
use Rattle.json_model.specs.FieldNames as names
use Rattle.json_model.specs.Tables.{compare_fields, create_fields, watch_fields, relations, targets, filters}
use Rattle.json_model.specs.Fields.{present, read_or, choice_from, each}
use Rattle.json_model.specs.Written.{members_of, choice_value}
use Rattle.json_model.specs.WrittenRequests.{compare_written, compare_value, relation_number, create_written, watch_written, filter_items}
use Rattle.json_model.specs.Requests.{key_range_in}
use Rattle.json_model.specs.Compares.{relation_of, operand_in, comparison_in, compare_in}
use Rattle.json_model.specs.Compares as compares
use Rattle.json_model.specs.Watches.{unserved_in, create_in, created_in, watch_in}
use Rattle.json_model.specs.Fits.{OperandFits, CompareFits, WatchFits}
use Rattle.json_model.proofs.WrittenObjects.{one_name, two_names, only_written, found_written}
use Rattle.json_model.proofs.WrittenValues.{number_back, bytes_back, flag_back, choice_back, list_back}

relation_back : (r : Relation) → read_or 0 (choice_from relations names.result.0) (present (choice_value relations (relation_number r))) ≡ Ok (relation_number r)
relation_back Equal = refl
relation_back Greater = refl
relation_back Less = refl
relation_back NotEqual = refl

relation_again : (r : Relation) → relation_of (relation_number r) ≡ r
relation_again Equal = refl
relation_again Greater = refl
relation_again Less = refl
relation_again NotEqual = refl

-- a compare from its parts
abbrev made : List ℕ → List ℕ → Target → Relation → ℕ → List ℕ → Compare
made key end target relation n v = record { range = record { key = key; end = end }; target = target; relation = relation; number = n; value = v }

compare_by : (key end : List ℕ) (t : Target) (r : Relation) (n : ℕ) (v : List ℕ) → IsBytes key → IsBytes end → OperandFits t n v → compare_in (compare_value (made key end t r n v)) ≡ Ok (made key end t r n v)
unfolding compare_in comparison_in operand_in compares.version_in compares.create_in compares.modified_in compares.value_in compares.lease_in compare_written compare_fields
compare_by key end Version r n v k e h =
    let fs = compare_written (made key end Version r n v) in
    rw (
      only_written compare_fields fs refl,
      choice_back relations names.result fs (relation_number r) refl (one_name _) (relation_back r),
      choice_back targets names.target fs 0 refl (one_name _) refl,
      relation_again r,
      bytes_back names.key fs key refl (one_name _) k,
      number_back names.version fs n refl (one_name _) h.0,
      found_written names.create_revision fs None refl refl,
      found_written names.mod_revision fs None refl refl,
      found_written names.value fs None refl refl,
      found_written names.lease fs None refl refl,
      bytes_back names.range_end fs end refl (two_names _) e,
    ) (ap (λ w. Ok (made key end Version r n w)) (sym h.1))
compare_by key end Create r n v k e h =
    let fs = compare_written (made key end Create r n v) in
    rw (
      only_written compare_fields fs refl,
      choice_back relations names.result fs (relation_number r) refl (one_name _) (relation_back r),
      choice_back targets names.target fs 1 refl (one_name _) refl,
      relation_again r,
      bytes_back names.key fs key refl (one_name _) k,
      found_written names.version fs None refl refl,
      number_back names.create_revision fs n refl (two_names _) h.0,
      found_written names.mod_revision fs None refl refl,
      found_written names.value fs None refl refl,
      found_written names.lease fs None refl refl,
      bytes_back names.range_end fs end refl (two_names _) e,
    ) (ap (λ w. Ok (made key end Create r n w)) (sym h.1))
compare_by key end Modified r n v k e h =
    let fs = compare_written (made key end Modified r n v) in
    rw (
      only_written compare_fields fs refl,
      choice_back relations names.result fs (relation_number r) refl (one_name _) (relation_back r),
      choice_back targets names.target fs 2 refl (one_name _) refl,
      relation_again r,
      bytes_back names.key fs key refl (one_name _) k,
      found_written names.version fs None refl refl,
      found_written names.create_revision fs None refl refl,
      number_back names.mod_revision fs n refl (two_names _) h.0,
      found_written names.value fs None refl refl,
      found_written names.lease fs None refl refl,
      bytes_back names.range_end fs end refl (two_names _) e,
    ) (ap (λ w. Ok (made key end Modified r n w)) (sym h.1))
compare_by key end Value r n v k e h =
    let fs = compare_written (made key end Value r n v) in
    rw (
      only_written compare_fields fs refl,
      choice_back relations names.result fs (relation_number r) refl (one_name _) (relation_back r),
      choice_back targets names.target fs 3 refl (one_name _) refl,
      relation_again r,
      bytes_back names.key fs key refl (one_name _) k,
      found_written names.version fs None refl refl,
      found_written names.create_revision fs None refl refl,
      found_written names.mod_revision fs None refl refl,
      bytes_back names.value fs v refl (one_name _) h.1,
      found_written names.lease fs None refl refl,
      bytes_back names.range_end fs end refl (two_names _) e,
    ) (ap (λ m. Ok (made key end Value r m v)) (sym h.0))
compare_by key end Lease r n v k e h =
    let fs = compare_written (made key end Lease r n v) in
    rw (
      only_written compare_fields fs refl,
      choice_back relations names.result fs (relation_number r) refl (one_name _) (relation_back r),
      choice_back targets names.target fs 4 refl (one_name _) refl,
      relation_again r,
      bytes_back names.key fs key refl (one_name _) k,
      found_written names.version fs None refl refl,
      found_written names.create_revision fs None refl refl,
      found_written names.mod_revision fs None refl refl,
      found_written names.value fs None refl refl,
      number_back names.lease fs n refl (one_name _) h.0,
      bytes_back names.range_end fs end refl (two_names _) e,
    ) (ap (λ w. Ok (made key end Lease r n w)) (sym h.1))

pub compare_back : (c : Compare) → CompareFits c → compare_in (compare_value c) ≡ Ok c
compare_back c h = compare_by c.range.key c.range.end c.target c.relation c.number c.value h.range.key h.range.end h.operand

-- ---- watches

numbers : Bool → Bool → List ℕ
numbers true true = 0 ∷ 1 ∷ []
numbers true false = 0 ∷ []
numbers false true = 1 ∷ []
numbers false false = []

filters_back : (a : WatchAsk) (p d : Bool) → a.no_put ≡ p → a.no_delete ≡ d → each (choice_from filters names.filters.0) (filter_items a) ≡ Ok (numbers p d)
unfolding numbers
filters_back a true true p d = rw (p, d) refl
filters_back a true false p d = rw (p, d) refl
filters_back a false true p d = rw (p, d) refl
filters_back a false false p d = rw (p, d) refl

has_put : (p d : Bool) → list_any (λ n. n == 0) (numbers p d) ≡ p
unfolding numbers
has_put true true = refl
has_put true false = refl
has_put false true = refl
has_put false false = refl

has_delete : (p d : Bool) → list_any (λ n. n == 1) (numbers p d) ≡ d
unfolding numbers
has_delete true true = refl
has_delete true false = refl
has_delete false true = refl
has_delete false false = refl

create_back : (a : WatchAsk) → WatchFits a → create_in (members_of (create_written a)) ≡ Ok a
unfolding create_in key_range_in unserved_in create_written create_fields
create_back a h =
    let fs = create_written a in
    rw (
      only_written create_fields fs refl,
      bytes_back names.key fs a.range.key refl (one_name _) h.range.key,
      bytes_back names.range_end fs a.range.end refl (two_names _) h.range.end,
      number_back names.start_revision fs a.start refl (two_names _) h.start,
      flag_back names.progress_notify fs a.progress refl (two_names _),
      list_back names.filters fs (choice_from filters names.filters.0) (filter_items a) (numbers a.no_put a.no_delete) refl (one_name _) (filters_back a _ _ refl refl),
      flag_back names.prev_kv fs a.prev_kv refl (two_names _),
      number_back names.watch_id fs 0 refl refl (lit< tt),
      flag_back names.fragment fs false refl refl,
      has_put a.no_put a.no_delete,
      has_delete a.no_put a.no_delete,
    ) refl

pub watch_back : (a : WatchAsk) → WatchFits a → watch_in (members_of (watch_written a)) ≡ Ok a
unfolding watch_in created_in watch_written watch_fields
watch_back a h = rw (only_written watch_fields (watch_written a) refl, create_back a h) refl
