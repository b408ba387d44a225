-- The fields of replies are read back as they are written, but for transactions.
use Rattle.std.proofs.Common.{◌≡◌, ℕ, zero, suc, ◌<◌, ◌+◌, ◌^◌, ◌==◌, ℤ, pos, negsuc, Bool, true, false, List, [], ◌∷◌, get_or, Option, Some, None, Result, Ok, Err, decimal, refl, ap, ◌∙◌, arith}
use Rattle.std.specs.List.{AllByRecursion}
use Rattle.std.specs.Str.Parse.{starts_with_minus}
use Rattle.std.proofs.lemmas.Bool.Decides.{nat_tests}
use Rattle.std.proofs.lemmas.Fmt.{first_decimal}
use Rattle.base64.specs.GeneralPurpose.{IsBytes}
use Rattle.serde_json.specs.Data.{Data}
use Rattle.etcd_types.specs.declared.record.Header.{Header}
use Rattle.etcd_types.specs.declared.record.Kv.{Kv}
use Rattle.etcd_types.specs.declared.answer.Body.TheVariants as body
use Rattle.json_model.specs.declared.fault.FieldFault.{FieldFault}
use Rattle.json_model.specs.Faults.{◌>>=◌}
use Rattle.json_model.specs.FieldNames as names
use Rattle.json_model.specs.Tables.{header_fields, record_fields, put_reply_fields, delete_reply_fields}
use Rattle.json_model.specs.Known.{once}
use Rattle.json_model.specs.Fields.{present, read_or, signed_from, bytes_from, signed_at, list_at, items_or_none, each}
use Rattle.json_model.specs.Written.{Field, field, flag_value, members_of, number_value, signed_value, list_value, text_of, items_of}
use Rattle.json_model.specs.WrittenReplies.{header_written, header_field, record_written, record_value, prev_value, lease_value}
use Rattle.json_model.specs.Replies.{numbers_in, header_from, header_in, revisions_in, record_from, record_of, records_at, record_or_none, prev_in, range_body, put_body, delete_body, lease_numbers, keys_in, time_to_live_body, lease_of, leases_body}
use Rattle.json_model.specs.Fits.{IsNumber}
use Rattle.json_model.specs.FitReplies.{IsSigned, HeaderFits, RecordFits, PrevFits}
use Rattle.json_laws.proofs.PlainValues.{wide, wide_suc}
use Rattle.json_model.proofs.WrittenObjects.{distinct, one_name, two_names, found_written, once_written}
use Rattle.json_model.proofs.WrittenValues.{Found, number_back, wide_back, bytes_back, flag_back, child_back, no_child, list_back, text_back, decimal_back}

-- ---- numbers with a sign

no_minus : (d : ℕ) → 48 < d → (d == 45) ≡ false
no_minus d h = grind (arith, nat_tests)

minus_later : (ds : List ℕ) → 48 < get_or ds 0 0 → starts_with_minus ds ≡ false
minus_later ds h = no_minus (get_or ds 0 0) h

some_digit : (n : ℕ) → 0 < suc n
some_digit n = omega arith

within_suc : (n : ℕ) → n < 2 ^ 63 → suc n < 2 ^ 63 + 1
within_suc n h = omega arith

signed_again : (z : ℤ) → IsSigned z → read_or (pos 0) (signed_from names.TTL.0) (present (signed_value z)) ≡ Ok z
signed_again (pos zero) h = refl
signed_again (pos (suc n)) h =
    rw (minus_later (decimal (suc n)) (first_decimal (suc n) (some_digit n) (wide (suc n) h)), decimal_back (2 ^ 63) (suc n) h (wide (suc n) h)) refl
signed_again (negsuc n) h = rw (decimal_back (2 ^ 63 + 1) (suc n) (within_suc n h) (wide_suc n h)) refl

signed_back : (fs : List Field) (z : ℤ) → distinct fs ≡ true → Found names.TTL fs (signed_value z) → IsSigned z → signed_at names.TTL (members_of fs) ≡ Ok z
signed_back fs z e is h = ap (read_or (pos 0) (signed_from names.TTL.0)) (found_written names.TTL fs _ e is) ∙ signed_again z h

-- ---- headers and records

header_back : (h : Header) → HeaderFits h → header_from (members_of (header_written h)) ≡ Ok h
unfolding header_from numbers_in header_written header_fields
header_back h f =
    let fs = header_written h in
    rw (
      once_written header_fields fs refl,
      wide_back names.cluster_id fs h.cluster refl (two_names _) f.cluster,
      wide_back names.member_id fs h.member refl (two_names _) f.member,
      number_back names.revision fs h.revision refl (one_name _) f.revision,
      number_back names.raft_term fs h.term refl (two_names _) f.term,
    ) refl

pub header_found : (h : Header) (fs : List Field) → HeaderFits h → distinct fs ≡ true → Found names.header fs (header_field h).1 → header_in (members_of fs) ≡ Ok h
unfolding header_in
header_found h fs f e is = rw (child_back names.header fs (members_of (header_written h)) e is) (header_back h f)

pub record_back : (kv : Kv) → RecordFits kv → record_from (members_of (record_written kv)) ≡ Ok kv
unfolding record_from revisions_in record_written record_fields
record_back kv f =
    let fs = record_written kv in
    rw (
      once_written record_fields fs refl,
      bytes_back names.key fs kv.key refl (one_name _) f.key,
      bytes_back names.value fs kv.value refl (one_name _) f.value,
      number_back names.create_revision fs kv.create refl (two_names _) f.create,
      number_back names.mod_revision fs kv.modified refl (two_names _) f.modified,
      number_back names.version fs kv.version refl (one_name _) f.version,
      number_back names.lease fs kv.lease refl (one_name _) f.lease,
    ) refl

-- each member of a list of values that fit
pub all_back : {A : Type 0} (P : A → Type 0) (read : Data → Result A FieldFault) (write : A → Data) → ((x : A) → P x → read (write x) ≡ Ok x) → (xs : List A) → AllByRecursion P xs
    → each read (items_of write xs) ≡ Ok xs
all_back P read write one [] h = refl
all_back P read write one (x ∷ xs) h = rw (one x h.0, all_back P read write one xs h.1) refl

pub records_back : (name : names.FieldName) (fs : List Field) (kvs : List Kv) → distinct fs ≡ true → Found name fs (list_value (items_of record_value kvs)) → AllByRecursion RecordFits kvs
    → records_at name (members_of fs) ≡ Ok kvs
records_back name fs kvs e is f =
    list_back name fs (record_of name.0) (items_of record_value kvs) kvs e is (all_back RecordFits (record_of name.0) record_value record_back kvs f)

pub prev_back : (fs : List Field) (prev : Option Kv) → distinct fs ≡ true → Found names.prev_kv fs (prev_value prev) → PrevFits prev → prev_in (members_of fs) ≡ Ok prev
prev_back fs None e is f = ap (λ r. r >>= record_or_none) (no_child names.prev_kv fs e is)
prev_back fs (Some kv) e is f =
    ap (λ r. r >>= record_or_none) (child_back names.prev_kv fs (members_of (record_written kv)) e is) ∙ ap (λ r. r >>= λ kv. Ok (Some kv)) (record_back kv f)

-- ---- bodies, among other fields

abbrev pub HasRange : List Field → ℕ → Bool → List Kv → Type 0
HasRange fs count more kvs =
    Found names.kvs fs (list_value (items_of record_value kvs)) × Found names.more fs (flag_value more) × Found names.count fs (number_value count)

pub range_body_back : (fs : List Field) (count : ℕ) (more : Bool) (kvs : List Kv) → distinct fs ≡ true → HasRange fs count more kvs → IsNumber count → AllByRecursion RecordFits kvs
    → range_body (members_of fs) ≡ Ok (body.Range count more kvs)
unfolding range_body
range_body_back fs count more kvs e is f g =
    rw (records_back names.kvs fs kvs e is.0 g, flag_back names.more fs more e is.1, number_back names.count fs count e is.2 f) refl

pub put_body_back : (fs : List Field) (prev : Option Kv) → distinct fs ≡ true → once (members_of fs) put_reply_fields ≡ Ok tt → Found names.prev_kv fs (prev_value prev) → PrevFits prev
    → put_body (members_of fs) ≡ Ok (body.Put prev)
unfolding put_body
put_body_back fs prev e known is f = rw (known, prev_back fs prev e is f) refl

pub delete_body_back : (fs : List Field) (deleted : ℕ) (prevs : List Kv) → distinct fs ≡ true → once (members_of fs) delete_reply_fields ≡ Ok tt → Found names.deleted fs (number_value deleted)
    → Found names.prev_kvs fs (list_value (items_of record_value prevs)) → IsNumber deleted → AllByRecursion RecordFits prevs → delete_body (members_of fs) ≡ Ok (body.Delete deleted prevs)
unfolding delete_body
delete_body_back fs deleted prevs e known is at f g = rw (known, number_back names.deleted fs deleted e is f, records_back names.prev_kvs fs prevs e at g) refl

pub lease_numbers_back : (fs : List Field) (lease ttl : ℕ) → distinct fs ≡ true → Found names.ID fs (number_value lease) → Found names.TTL fs (number_value ttl) → IsNumber lease → IsNumber ttl
    → lease_numbers (members_of fs) ≡ Ok (lease, ttl)
unfolding lease_numbers
lease_numbers_back fs lease ttl e is at f g = rw (number_back names.ID fs lease e is f, number_back names.TTL fs ttl e at g) refl

keys_back : (fs : List Field) (keys : List (List ℕ)) → distinct fs ≡ true → Found names.keys fs (list_value (items_of text_of keys)) → AllByRecursion IsBytes keys → keys_in (members_of fs) ≡ Ok keys
keys_back fs keys e is f =
    list_back names.keys fs (bytes_from names.keys.0) (items_of text_of keys) keys e is (all_back IsBytes (bytes_from names.keys.0) text_of (text_back names.keys.0) keys f)

abbrev pub HasTimes : List Field → ℕ → ℤ → ℕ → List (List ℕ) → Type 0
HasTimes fs lease ttl granted keys =
    Found names.ID fs (number_value lease) × Found names.TTL fs (signed_value ttl) × Found names.grantedTTL fs (number_value granted) × Found names.keys fs (list_value (items_of text_of keys))

pub time_to_live_body_back : (fs : List Field) (lease : ℕ) (ttl : ℤ) (granted : ℕ) (keys : List (List ℕ)) → distinct fs ≡ true → HasTimes fs lease ttl granted keys
    → IsNumber lease → IsSigned ttl → IsNumber granted → AllByRecursion IsBytes keys → time_to_live_body (members_of fs) ≡ Ok (body.TimeToLive lease ttl granted keys)
unfolding time_to_live_body
time_to_live_body_back fs lease ttl granted keys e is f g h k =
    rw (
      number_back names.ID fs lease e is.0 f,
      signed_back fs ttl e is.1 g,
      number_back names.grantedTTL fs granted e is.2 h,
      keys_back fs keys e is.3 k,
    ) refl

lease_back : (lease : ℕ) → IsNumber lease → lease_of (lease_value lease) ≡ Ok lease
unfolding lease_of
lease_back lease f = number_back names.ID (field names.ID (number_value lease) ∷ []) lease refl (one_name _) f

then_last : {A B C : Type 0} (r : Result A FieldFault) (f : A → Result B FieldFault) (g : B → Result C FieldFault) → (r >>= λ x. f x >>= g) ≡ ((r >>= f) >>= g)
then_last (Ok x) f g = refl
then_last (Err e) f g = refl

pub leases_body_back : (fs : List Field) (leases : List ℕ) → distinct fs ≡ true → Found names.leases fs (list_value (items_of lease_value leases)) → AllByRecursion IsNumber leases
    → leases_body (members_of fs) ≡ Ok (body.Leases leases)
leases_body_back fs leases e is f =
    then_last (list_at names.leases (members_of fs)) (λ ds. each lease_of (items_or_none ds)) (λ leases. Ok (body.Leases leases))
    ∙ ap (λ r. r >>= λ leases. Ok (body.Leases leases)) (list_back names.leases fs lease_of (items_of lease_value leases) leases e is (all_back IsNumber lease_of lease_value lease_back leases f))
