-- A transaction answered from held records has the body that the store gives, where these are its records.
use Rattle.std.proofs.Common.{◌≡◌, ℕ, ◌≤◌, Bool, true, false, not, cond, ◌&&◌, ◌==◌, nat_lt, List, [], ◌∷◌, length, take, map, Option, None, Some, is_some, unwrap_or, Ok, refl, sym, ◌∙◌, ap, arith}
use Rattle.std.specs.List.{list_all}
use Rattle.std.specs.Option.{option_to_list}
use Rattle.std.proofs.lemmas.List.{take_all}
use Rattle.std.proofs.lemmas.Bool.Decides.{nat_tests}
use Rattle.etcd_types.specs.declared.record.Kv.{Kv}
use Rattle.etcd_types.specs.declared.operation.RangeAsk.{RangeAsk}
use Rattle.etcd_types.specs.declared.operation.Compare.{Compare}
use Rattle.etcd_types.specs.declared.operation.TxnAsk.{TxnAsk}
use Rattle.etcd_types.specs.declared.operation.Op.{Op}
use Rattle.etcd_types.specs.declared.operation.Op.TheVariants as op
use Rattle.etcd_types.specs.declared.answer.Body.{Body}
use Rattle.etcd_types.specs.declared.answer.Body.TheVariants as body
use Rattle.etcd_types.specs.Ranges.{is_one}
use Rattle.etcd_types.proofs.Bools.{and_first, and_second, not_true}
use Rattle.store_model.specs.declared.history.KeyChange.{KeyChange}
use Rattle.store_model.specs.History.{newest, up_to_revision}
use Rattle.store_model.specs.Records.{record_now}
use Rattle.store_model.specs.Ranges.{records_now}
use Rattle.store_model.specs.Reads.{read, range_body, limited, without_value, asked_history}
use Rattle.store_model.specs.State.{State}
use Rattle.store_model.specs.Compares.{holds_of, compare_holds, all_hold}
use Rattle.store_model.specs.Transactions.{seen, run_all, run_range}
use Rattle.store_model.proofs.RunLemmas.{same_ok, unchanged_ok, first_then_ok}
use Rattle.proxy_model.specs.Snapshot.{Held, record_held, is_plain, is_unsorted, is_plain_read, compares_one, is_snapshot, names_nothing, is_compare_held, is_read_held, all_held, snapshot_holds, snapshot_body, snapshot_by, plain_body, snapshot}
use Rattle.proxy_laws.specs.Answers.{SnapshotsAreTrue, AreRecordsOf, holds_now}
use Rattle.proxy_laws.proofs.Fit.{read_is}
use Rattle.proxy_laws.proofs.OneKey.{records_one}
use Rattle.proxy_laws.proofs.Ran.{answer_branch}

-- a held key has the store's record
held_is : (s : State) (held : Held) (k : List ℕ) → AreRecordsOf held s → is_some (held k) ≡ true → record_held held k ≡ record_now s.history k
held_is s held k a e = by_found (held k) refl e
  where
    by_found : (o : Option (Option Kv)) → held k ≡ o → is_some o ≡ true → unwrap_or (held k) None ≡ record_now s.history k
    by_found None f g = absurd (cc)
    by_found (Some kv) f g = ap (λ (o : Option (Option Kv)). unwrap_or o None) f ∙ sym (a k kv f)

-- Compares.

compare_same : (s : State) (held : Held) (c : Compare) → AreRecordsOf held s → compares_one c ≡ true → is_compare_held held c ≡ true → compare_holds s.history c ≡ snapshot_holds held c
compare_same s held c a one is =
    ap (holds_of c) (records_one s.history c.range one ∙ ap option_to_list (sym (held_is s held c.range.key a is)))

compares_same : (s : State) (held : Held) (cs : List Compare) → AreRecordsOf held s → list_all compares_one cs ≡ true → list_all (is_compare_held held) cs ≡ true
    → all_hold s.history cs ≡ list_all (snapshot_holds held) cs
compares_same s held [] a one is = refl
compares_same s held (c ∷ cs) a one is =
    let first = compare_same s held c a (and_first (compares_one c) _ one) (and_first (is_compare_held held c) _ is) in
    let rest = compares_same s held cs a (and_second (compares_one c) _ one) (and_second (is_compare_held held c) _ is) in
    λ i. first i && rest i

-- Plain reads.

none_more : (limit n : ℕ) → n ≤ 1 → not (limit == 0) && nat_lt limit n ≡ false
none_more limit n f = grind (arith, nat_tests)

above_none : (limit : ℕ) → (limit == 0) ≡ false → 1 ≤ limit
above_none limit e = grind (arith, nat_tests)

few_taken : (limit : ℕ) (kvs : List Kv) → length kvs ≤ 1 → limited limit kvs ≡ kvs
few_taken limit kvs f = by_test (limit == 0) refl
  where
    by_test : (b : Bool) → (limit == 0) ≡ b → cond b kvs (take limit kvs) ≡ kvs
    by_test true e = refl
    by_test false e = let room = above_none limit e in take_all limit kvs (omega arith)

few : (o : Option Kv) → length (option_to_list o) ≤ 1
few None = omega arith
few (Some kv) = omega arith

-- a read that shows the whole record, by the answers of its tests
pub plain_by : (limit : ℕ) (keys_only count_only : Bool) (o : Option Kv) → keys_only ≡ false → count_only ≡ false
    → cond count_only (body.Range (length (option_to_list o)) false []) (body.Range (length (option_to_list o)) (not (limit == 0) && nat_lt limit (length (option_to_list o))) (cond keys_only (map without_value (limited limit (option_to_list o))) (limited limit (option_to_list o))))
    ≡ plain_body (option_to_list o)
plain_by limit true count_only o e f = absurd (cc)
plain_by limit false true o e f = absurd (cc)
plain_by limit false false o e f =
    λ i. body.Range (length (option_to_list o)) (none_more limit (length (option_to_list o)) (few o) i) (few_taken limit (option_to_list o) (few o) i)

record Plain (ask : RangeAsk) : Type 0 where
  one : is_one ask.range ≡ true
  now : (ask.revision == 0) ≡ true
  keys : ask.keys_only ≡ false
  count : ask.count_only ≡ false

plain : (ask : RangeAsk) → is_plain ask ≡ true → Plain ask
plain ask e =
    let to_count = and_first _ (is_unsorted ask.sort) e in
    let to_keys = and_first _ (not ask.count_only) to_count in
    let to_serial = and_first _ (not ask.keys_only) to_keys in
    let to_now = and_first _ (not ask.serializable) to_serial in
    record {
      one = and_first (is_one ask.range) _ to_now;
      now = and_second (is_one ask.range) _ to_now;
      keys = not_true ask.keys_only (and_second _ (not ask.keys_only) to_keys);
      count = not_true ask.count_only (and_second _ (not ask.count_only) to_count);
    }

pub read_same : (s : State) (held : Held) (ask : RangeAsk) (made next : List KeyChange) (b : Body) → AreRecordsOf held s → is_plain ask ≡ true → is_some (held ask.range.key) ≡ true → made ≡ []
    → run_range s ask made ≡ Ok (next, b) → (made ≡ next) × (b ≡ plain_body (option_to_list (record_held held ask.range.key)))
read_same s held ask made next b a p is none e =
    let flags = plain ask p in
    let (same, told) = unchanged_ok made (read (seen s made) (newest (seen s made)) s.compacted ask) next b e in
    let now : asked_history (seen s made) ask.revision ≡ s.history =
    ap (λ c. cond c (seen s made) (up_to_revision (seen s made) ask.revision)) flags.now ∙ ap (seen s) none in
    let records : records_now (asked_history (seen s made) ask.revision) ask.range ≡ option_to_list (record_held held ask.range.key) =
    ap (λ h. records_now h ask.range) now ∙ records_one s.history ask.range flags.one ∙ ap option_to_list (sym (held_is s held ask.range.key a is)) in (
      same,
      sym (read_is (seen s made) (newest (seen s made)) s.compacted ask b told) ∙ ap (range_body ask) records
          ∙ plain_by ask.limit ask.keys_only ask.count_only (record_held held ask.range.key) flags.keys flags.count,
    )

reads_same : (s : State) (held : Held) (ops : List Op) (made next : List KeyChange) (bodies : List Body) → AreRecordsOf held s → list_all is_plain_read ops ≡ true
    → list_all (is_read_held held) ops ≡ true → made ≡ [] → run_all s ops made ≡ Ok (next, bodies) → bodies ≡ map (snapshot_body held) ops
reads_same s held [] made next bodies a p is none e = sym (ap (λ (x : List KeyChange × List Body). x.1) (same_ok (made, []) (next, bodies) e))
reads_same s held (op.Range ask ∷ ops) made next bodies a p is none e =
    let (mid, b, bs, ran, later, together) = first_then_ok (run_range s ask made) (λ x. run_all s ops x) next bodies e in
    let told = read_same s held ask made mid b a (and_first (is_plain ask) _ p) (and_first (is_some (held ask.range.key)) _ is) none ran in
    let rest = reads_same s held ops mid next bs a (and_second (is_plain ask) _ p) (and_second (is_some (held ask.range.key)) _ is) (sym told.0 ∙ none) later in
    together ∙ (λ i. told.1 i ∷ rest i)
reads_same s held (op.Put ask ∷ ops) made next bodies a p is none e = absurd (cc)
reads_same s held (op.Delete ask ∷ ops) made next bodies a p is none e = absurd (cc)
reads_same s held (op.Txn' compare m success n failure ∷ ops) made next bodies a p is none e = absurd (cc)

-- The whole transaction.

record Known (held : Held) (t : TxnAsk) (b : Body) : Type 0 where
  compares : list_all compares_one t.compare ≡ true
  success : list_all is_plain_read t.success ≡ true
  failure : list_all is_plain_read t.failure ≡ true
  compares_held : list_all (is_compare_held held) t.compare ≡ true
  success_held : list_all (is_read_held held) t.success ≡ true
  failure_held : list_all (is_read_held held) t.failure ≡ true
  body_is : snapshot_by held t (list_all (snapshot_holds held) t.compare) ≡ b

same_some : (x y : Body) → Some x ≡ Some y → x ≡ y
same_some x y e = ap (λ (o : Option Body). unwrap_or o x) e

known : (held : Held) (t : TxnAsk) (b : Body) → snapshot held t ≡ Some b → Known held t b
known held t b e = by_test (is_snapshot t && not (names_nothing t) && all_held held t) refl e
  where
    by_test : (c : Bool) → (is_snapshot t && not (names_nothing t) && all_held held t) ≡ c
        → cond c (Some (snapshot_by held t (list_all (snapshot_holds held) t.compare))) None ≡ Some b → Known held t b
    by_test true f g =
        let form = and_first (is_snapshot t) _ (and_first _ (all_held held t) f) in
        let all = and_second _ (all_held held t) f in
        let to_success = and_first _ (list_all is_plain_read t.failure) form in
        let to_compares = and_first _ (list_all is_plain_read t.success) to_success in
        let held_to_success = and_first _ (list_all (is_read_held held) t.failure) all in
        record {
          compares = and_second _ (list_all compares_one t.compare) to_compares;
          success = and_second _ (list_all is_plain_read t.success) to_success;
          failure = and_second _ (list_all is_plain_read t.failure) form;
          compares_held = and_first (list_all (is_compare_held held) t.compare) _ held_to_success;
          success_held = and_second _ (list_all (is_read_held held) t.success) held_to_success;
          failure_held = and_second _ (list_all (is_read_held held) t.failure) all;
          body_is = same_some _ b g;
        }
    by_test false f g = absurd (cc)

pub snapshots_are_true : SnapshotsAreTrue
snapshots_are_true s member held t b reply a e told =
    let k = known held t b e in
    let (made, bodies, ran) = answer_branch s member t reply told in
    let same = compares_same s held t.compare a k.compares k.compares_held in
    ran.answer ∙ ap (λ (bs : List Body). body.Txn (holds_now s t) bs) (by_branch (holds_now s t) made bodies k ran.ran)
    ∙ ap (λ h. snapshot_by held t h) same ∙ k.body_is
  where
    by_branch : (h : Bool) (made : List KeyChange) (bodies : List Body) → Known held t b → run_all s (cond h t.success t.failure) [] ≡ Ok (made, bodies)
        → bodies ≡ map (snapshot_body held) (cond h t.success t.failure)
    by_branch true made bodies k r = reads_same s held t.success [] made bodies a k.success k.success_held refl r
    by_branch false made bodies k r = reads_same s held t.failure [] made bodies a k.failure k.failure_held refl r
