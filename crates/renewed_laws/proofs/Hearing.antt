-- Where the keys that an answer shows are made of bytes, so are those that are heard of it: the namespace is off each.
use Rattle.std.proofs.Common.{◌≡◌, ℕ, ◌==◌, Bool, true, false, cond, nat_lt, List, [], ◌∷◌, ◌++◌, Option, None, Some, Ok, Err, refl, sym, ◌∙◌, ap, subst}
use Rattle.std.proofs.lemmas.List.Folds.{list_all-append}
use Rattle.std.specs.Prelude.{flat_map, ok_or}
use Rattle.std.specs.List.{list_all}
use Rattle.etcd_types.specs.declared.answer.Answer.{Answer}
use Rattle.etcd_types.specs.declared.answer.Answer.TheVariants.{Done, Refused}
use Rattle.etcd_types.specs.declared.answer.Body.{Body, Row_of-Body, end_of-Body, more_of-Body}
use Rattle.etcd_types.specs.declared.answer.Body.TheVariants as body
use Rattle.etcd_types.specs.declared.answer.Reply.{Reply}
use Rattle.etcd_types.specs.declared.record.Kv.{Kv}
use Rattle.etcd_types.proofs.Bools.{and_first, and_second, and_both}
use Rattle.proxy_model.specs.Fits.{branch_of, row_bodies}
use Rattle.proxy_model.proofs.FitsLaws.{branch_of-Txn}
use Rattle.proxy_model.specs.Prefixes.{are_bytes, without}
use Rattle.proxy_model.specs.Readings.{records_of}
use Rattle.proxy_model.specs.Unwrapped.{Unwrapped, ◌>>=◌, each, key_without, record_without, prev_without, records_without, body_without, row_without, reply_without}
use Rattle.core_laws.specs.Writes.Laws.{shown_records, shows_bytes}
use Rattle.core_laws.specs.Steps.Kept.{HeardBytes}
use Rattle.core_model.specs.Heard.{is_known, heard_reply, heard}
use Rattle.script_text.specs.declared.item.Item.{Item}
use Rattle.renewed_laws.specs.Renewals.{answer_shows, item_shows, AnswersShowBytes}

bound : {A B : Type 0} (r : Unwrapped A) (g : A → Unwrapped B) (y : B) → (r >>= g) ≡ Ok y → (x : A) × (r ≡ Ok x) × (g x ≡ Ok y)
bound (Ok x) g y e = (x, refl, e)
bound (Err k) g y e = absurd (cc)

all_split : {A : Type 0} (f : A → Bool) (xs ys : List A) → list_all f (xs ++ ys) ≡ true → (list_all f xs ≡ true) × (list_all f ys ≡ true)
all_split f xs ys h = let e = sym (list_all-append f xs ys) ∙ h in (and_first (list_all f xs) (list_all f ys) e, and_second (list_all f xs) (list_all f ys) e)

all_join : {A : Type 0} (f : A → Bool) (xs ys : List A) → list_all f xs ≡ true → list_all f ys ≡ true → list_all f (xs ++ ys) ≡ true
all_join f xs ys h k = list_all-append f xs ys ∙ and_both (list_all f xs) (list_all f ys) h k

-- ---- keys and records

key_bytes : (p k j : List ℕ) → without p k ≡ Some j → are_bytes k ≡ true → are_bytes j ≡ true
key_bytes [] k j e h = subst (λ (x : List ℕ). are_bytes x ≡ true) (same k j e) h
  where
    same : (a b : List ℕ) → Some a ≡ Some b → a ≡ b
    same a b e = cc
key_bytes (b ∷ bs) [] j e h = absurd (cc)
key_bytes (b ∷ bs) (c ∷ cs) j e h = by (b == c) (key_bytes bs cs j) e
  where
    by : (t : Bool) → (without bs cs ≡ Some j → are_bytes cs ≡ true → are_bytes j ≡ true) → cond t (without bs cs) None ≡ Some j → are_bytes j ≡ true
    by true ih e = ih e (and_second (nat_lt c 256) (are_bytes cs) h)
    by false ih e = absurd (cc)

found_key : (o : Option (List ℕ)) (k j : List ℕ) → ok_or o k ≡ Ok j → o ≡ Some j
found_key None k j e = absurd (cc)
found_key (Some x) k j e = ap (λ (y : List ℕ). Some y) (same x j e)
  where
    same : (a b : List ℕ) → ◌≡◌ {A = Unwrapped (List ℕ)} (Ok a) (Ok b) → a ≡ b
    same a b e = cc

abbrev is_made : Kv → Bool
is_made kv = are_bytes kv.key

record_bytes : (p : List ℕ) (kv u : Kv) → record_without p kv ≡ Ok u → is_made kv ≡ true → is_made u ≡ true
record_bytes p kv u e h =
    let a = bound (key_without p kv.key) (λ k. Ok (record kv { key = k })) u e in
    subst (λ (x : Kv). is_made x ≡ true) (same (record kv { key = a.0 }) u a.2) (key_bytes p kv.key a.0 (found_key (without p kv.key) kv.key a.0 a.1) h)
  where
    same : (x y : Kv) → ◌≡◌ {A = Unwrapped Kv} (Ok x) (Ok y) → x ≡ y
    same x y e = cc

same_list : {A : Type 0} (xs ys : List A) → ◌≡◌ {A = Unwrapped (List A)} (Ok xs) (Ok ys) → xs ≡ ys
same_list xs ys e = cc

records_bytes : (p : List ℕ) (kvs us : List Kv) → records_without p kvs ≡ Ok us → list_all is_made kvs ≡ true → list_all is_made us ≡ true
records_bytes p [] us e h = subst (λ (xs : List Kv). list_all is_made xs ≡ true) (same_list [] us e) refl
records_bytes p (kv ∷ kvs) us e h =
    let a = bound (record_without p kv) (λ y. each (record_without p) kvs >>= λ ys. Ok (y ∷ ys)) us e in
    let b = bound (each (record_without p) kvs) (λ ys. Ok (a.0 ∷ ys)) us a.2 in
    subst (λ (xs : List Kv). list_all is_made xs ≡ true) (same_list (a.0 ∷ b.0) us b.2)
    (and_both (is_made a.0) (list_all is_made b.0) (record_bytes p kv a.0 a.1 (and_first (is_made kv) (list_all is_made kvs) h)) (records_bytes p kvs b.0 b.1 (and_second (is_made kv) (list_all is_made kvs) h)))

-- ---- bodies

same_body : (x y : Body) → ◌≡◌ {A = Unwrapped Body} (Ok x) (Ok y) → x ≡ y
same_body x y e = cc

-- a body that shows no records
none_shown : (x u : Body) → records_of x ≡ [] → x ≡ u → list_all is_made (records_of u) ≡ true
none_shown x u e f = ap (list_all is_made) (ap records_of (sym f) ∙ e)

body_bytes : (p : List ℕ) (b u : Body) → body_without p b ≡ Ok u → list_all is_made (records_of b) ≡ true → list_all is_made (records_of u) ≡ true
body_bytes p (body.Range count more kvs) u e h =
    let a = bound (records_without p kvs) (λ kvs. Ok (body.Range count more kvs)) u e in
    subst (λ (x : Body). list_all is_made (records_of x) ≡ true) (same_body (body.Range count more a.0) u a.2) (records_bytes p kvs a.0 a.1 h)
body_bytes p (body.Put prev) u e h = let a = bound (prev_without p prev) (λ prev. Ok (body.Put prev)) u e in none_shown (body.Put a.0) u refl (same_body (body.Put a.0) u a.2)
body_bytes p (body.Delete deleted prevs) u e h =
    let a = bound (records_without p prevs) (λ prevs. Ok (body.Delete deleted prevs)) u e in none_shown (body.Delete deleted a.0) u refl (same_body (body.Delete deleted a.0) u a.2)
body_bytes p (body.Txn' succeeded m bodies) u e h =
    let a = bound (row_without p bodies) (λ bodies. Ok (body.Txn succeeded bodies)) u e in none_shown (body.Txn succeeded a.0) u refl (same_body (body.Txn succeeded a.0) u a.2)
body_bytes p body.Compact u e h = none_shown body.Compact u refl (same_body body.Compact u e)
body_bytes p (body.Grant lease ttl) u e h = none_shown (body.Grant lease ttl) u refl (same_body (body.Grant lease ttl) u e)
body_bytes p body.Revoke u e h = none_shown body.Revoke u refl (same_body body.Revoke u e)
body_bytes p (body.KeepAlive lease ttl) u e h = none_shown (body.KeepAlive lease ttl) u refl (same_body (body.KeepAlive lease ttl) u e)
body_bytes p (body.TimeToLive lease ttl granted keys) u e h = none_shown _ u refl (same_body _ u e)
body_bytes p (body.Leases leases) u e h = none_shown (body.Leases leases) u refl (same_body (body.Leases leases) u e)

rows_bytes : {m : _} (p : List ℕ) (rows : Row_of-Body m) (us : List Body) → row_without p rows ≡ Ok us → list_all is_made (flat_map records_of (row_bodies rows)) ≡ true → list_all is_made (flat_map records_of us) ≡ true
rows_bytes p end_of-Body us e h = subst (λ (xs : List Body). list_all is_made (flat_map records_of xs) ≡ true) (same_list [] us e) refl
rows_bytes p (more_of-Body one rest) us e h =
    let a = bound (body_without p one) (λ x. row_without p rest >>= λ xs. Ok (x ∷ xs)) us e in
    let b = bound (row_without p rest) (λ xs. Ok (a.0 ∷ xs)) us a.2 in
    let k = all_split is_made (records_of one) (flat_map records_of (row_bodies rest)) h in
    subst (λ (xs : List Body). list_all is_made (flat_map records_of xs) ≡ true) (same_list (a.0 ∷ b.0) us b.2)
    (all_join is_made (records_of a.0) (flat_map records_of b.0) (body_bytes p one a.0 a.1 k.0) (rows_bytes p rest b.0 b.1 k.1))

-- ---- answers

-- a body that is no transaction's
nothing_shown : (x u : Body) → branch_of x ≡ None → x ≡ u → shows_bytes u ≡ true
nothing_shown x u e f = ap (λ (o : Option (Bool × List Body)). list_all is_made (shown_records o)) (ap branch_of (sym f) ∙ e)

shown_bytes : (p : List ℕ) (b u : Body) → body_without p b ≡ Ok u → shows_bytes b ≡ true → shows_bytes u ≡ true
shown_bytes p (body.Range count more kvs) u e h = let a = bound (records_without p kvs) (λ kvs. Ok (body.Range count more kvs)) u e in nothing_shown (body.Range count more a.0) u refl (same_body (body.Range count more a.0) u a.2)
shown_bytes p (body.Put prev) u e h = let a = bound (prev_without p prev) (λ prev. Ok (body.Put prev)) u e in nothing_shown (body.Put a.0) u refl (same_body (body.Put a.0) u a.2)
shown_bytes p (body.Delete deleted prevs) u e h =
    let a = bound (records_without p prevs) (λ prevs. Ok (body.Delete deleted prevs)) u e in nothing_shown (body.Delete deleted a.0) u refl (same_body (body.Delete deleted a.0) u a.2)
shown_bytes p (body.Txn' succeeded m bodies) u e h =
    let a = bound (row_without p bodies) (λ bodies. Ok (body.Txn succeeded bodies)) u e in
    subst (λ (x : Body). shows_bytes x ≡ true) (same_body (body.Txn succeeded a.0) u a.2)
    (ap (λ (o : Option (Bool × List Body)). list_all is_made (shown_records o)) (branch_of-Txn succeeded a.0) ∙ rows_bytes p bodies a.0 a.1 h)
shown_bytes p body.Compact u e h = nothing_shown body.Compact u refl (same_body body.Compact u e)
shown_bytes p (body.Grant lease ttl) u e h = nothing_shown (body.Grant lease ttl) u refl (same_body (body.Grant lease ttl) u e)
shown_bytes p body.Revoke u e h = nothing_shown body.Revoke u refl (same_body body.Revoke u e)
shown_bytes p (body.KeepAlive lease ttl) u e h = nothing_shown (body.KeepAlive lease ttl) u refl (same_body (body.KeepAlive lease ttl) u e)
shown_bytes p (body.TimeToLive lease ttl granted keys) u e h = nothing_shown _ u refl (same_body _ u e)
shown_bytes p (body.Leases leases) u e h = nothing_shown (body.Leases leases) u refl (same_body (body.Leases leases) u e)

reply_bytes : (namespace : List ℕ) (reply : Reply) (r : Unwrapped Reply) → reply_without namespace reply ≡ r → shows_bytes reply.body ≡ true → HeardBytes (heard_reply r)
reply_bytes namespace reply (Err k) e h = tt
reply_bytes namespace reply (Ok u) e h =
    let a = bound (body_without namespace reply.body) (λ b. Ok (record reply { body = b })) u e in
    subst (λ (x : Reply). shows_bytes x.body ≡ true) (same (record reply { body = a.0 }) u a.2) (shown_bytes namespace reply.body a.0 a.1 h)
  where
    same : (x y : Reply) → ◌≡◌ {A = Unwrapped Reply} (Ok x) (Ok y) → x ≡ y
    same x y e = cc

pub heard_bytes : (namespace : List ℕ) (a : Answer) → answer_shows a ≡ true → HeardBytes (heard namespace a)
heard_bytes namespace (Done reply) h = reply_bytes namespace reply (reply_without namespace reply) refl h
heard_bytes namespace (Refused r) h = by (is_known r.code)
  where
    by : (b : Bool) → HeardBytes (cond b (Some (Refused r)) None)
    by true = tt
    by false = tt

-- ---- items

pub show-split : (xs ys : List Item) → AnswersShowBytes (xs ++ ys) → AnswersShowBytes xs × AnswersShowBytes ys
show-split xs ys h = all_split item_shows xs ys h

pub show-append : (xs ys : List Item) → AnswersShowBytes xs → AnswersShowBytes ys → AnswersShowBytes (xs ++ ys)
show-append xs ys h k = all_join item_shows xs ys h k
