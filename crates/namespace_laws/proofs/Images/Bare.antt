-- The requests that a proxy makes have no empty key, where leasing is on and what they are made of has none.
use Rattle.std.proofs.Common.{◌≡◌, ℕ, Bool, true, false, not, cond, ◌&&◌, ◌||◌, ◌==◌, ◌+◌, List, [], ◌∷◌, ◌++◌, map, Option, None, Some, refl, ◌∙◌, unwrap_or}
use Rattle.std.specs.List.{list_any, list_all}
use Rattle.etcd_types.specs.Keys.{is_empty, before, is_zero, up_to}
use Rattle.etcd_types.specs.Ranges.{is_one, overlaps}
use Rattle.etcd_types.specs.declared.answer.Refusal.{Refusal}
use Rattle.etcd_types.specs.declared.key_range.KeyRange.{KeyRange}
use Rattle.etcd_types.specs.declared.operation.Op.{Op}
use Rattle.etcd_types.specs.declared.operation.Op.TheVariants as op
use Rattle.etcd_types.specs.declared.request.Request.{Request}
use Rattle.etcd_types.specs.declared.request.Request.TheVariants as request
use Rattle.etcd_types.proofs.Bools.{and_first, and_second, and_both, or_none, not_true, false_not}
use Rattle.store_model.specs.FirstRefusals.{compare_lacks_key, lacks_key}
use Rattle.store_model.specs.Refusals.{key_not_provided}
use Rattle.store_model.proofs.RefusalLemmas.{lacks_key_is_txn}
use Rattle.proxy_model.specs.Acquire.{acquire}
use Rattle.proxy_model.specs.Foreign.{ask_revoke}
use Rattle.proxy_model.specs.Guarded.{delete_part, write_ops, guard, read_owners, guarded}
use Rattle.proxy_model.specs.Leaving.{rescind}
use Rattle.proxy_model.specs.PassingOn.{numbered}
use Rattle.proxy_model.specs.Prefixes.{leasing_range, prefix_end, raised, raised_last}
use Rattle.proxy_model.specs.RequestRefusals.{first_of, given, unserved, unserved_op, unserved_ops, unsupported, op_lacks_key, request_lacks_key}
use Rattle.proxy_model.specs.SeveralKeys.{end_before, part_before, start_behind, part_behind, parts, written_ranges}
use Rattle.core_model.specs.Refusals.{refusal_of}
use Rattle.std.specs.Option.{option_map}
use Rattle.namespace_laws.specs.Stored.Laws.{request_lacks}
use Rattle.namespace_laws.specs.Images.Named.{has_keys, is_leasing}
use Rattle.namespace_laws.proofs.Images.OwnNaming.{either}

-- a key behind a leasing prefix
joined : (p k : List ℕ) → is_leasing p ≡ true → is_empty (p ++ k) ≡ false
joined [] k h = absurd (cc)
joined (b ∷ bs) k h = refl

-- The proxies' own transactions.

pub acquire_bare : (p k : List ℕ) (lease : ℕ) → is_leasing p && not (is_empty k) ≡ true → request_lacks (request.Txn (acquire p k lease)) ≡ false
acquire_bare p k lease h =
    let a = joined p k (and_first (is_leasing p) (not (is_empty k)) h) in
    let b = not_true (is_empty k) (and_second (is_leasing p) (not (is_empty k)) h) in
    lacks_key_is_txn (acquire p k lease)
    ∙ (λ i. (a i || (b i || false)) || (b i || (a i || false)) || (b i || (a i || false)))

pub rescind_bare : (p k : List ℕ) (create : ℕ) → is_leasing p ≡ true → request_lacks (request.Txn (rescind p k create)) ≡ false
rescind_bare p k create h = let a = joined p k h in lacks_key_is_txn (rescind p k create) ∙ (λ i. (a i || false) || (a i || false) || false)

pub revoke_bare : (p k : List ℕ) (create : ℕ) → is_leasing p ≡ true → request_lacks (request.Txn (ask_revoke p k create)) ≡ false
revoke_bare p k create h = let a = joined p k h in lacks_key_is_txn (ask_revoke p k create) ∙ (λ i. (a i || false) || (a i || false) || false)

-- Guarded writes.

guards_bare : (p : List ℕ) (created : List ℕ → ℕ) (rs : List KeyRange) → is_leasing p ≡ true → list_any compare_lacks_key (map (guard p created) rs) ≡ false
guards_bare p created [] h = refl
guards_bare p created (r ∷ rs) h = or_none (is_empty (p ++ r.key)) (list_any compare_lacks_key (map (guard p created) rs)) (joined p r.key h) (guards_bare p created rs h)

owners_bare : (p : List ℕ) (rs : List KeyRange) → is_leasing p ≡ true → list_any lacks_key (map (read_owners p) rs) ≡ false
owners_bare p [] h = refl
owners_bare p (r ∷ rs) h = or_none (is_empty (p ++ r.key)) (list_any lacks_key (map (read_owners p) rs)) (joined p r.key h) (owners_bare p rs h)

abbrev Keys : List KeyRange → Type 0
Keys rs = list_all (λ r. not (is_empty r.key)) rs ≡ true

-- the end of a prefix has a byte
pub prefix_end_is : (p : List ℕ) → is_empty (prefix_end p) ≡ false
prefix_end_is [] = refl
prefix_end_is (b ∷ bs) = by_rest (raised bs)
  where
    by_byte : (t : Bool) → is_empty (unwrap_or (cond t None (Some ((b + 1) ∷ []))) (0 ∷ [])) ≡ false
    by_byte true = refl
    by_byte false = refl

    by_rest : (o : Option (List ℕ)) → is_empty (unwrap_or (raised_last b o) (0 ∷ [])) ≡ false
    by_rest None = by_byte (b == 255)
    by_rest (Some cs) = refl

keys_appended : (rs ss : List KeyRange) → Keys rs → Keys ss → Keys (rs ++ ss)
keys_appended [] ss h k = k
keys_appended (r ∷ rs) ss h k =
    let t = not (is_empty r.key) in
    let all = λ (xs : List KeyRange). list_all (λ (x : KeyRange). not (is_empty x.key)) xs in
    and_both t (all (rs ++ ss)) (and_first t (all rs) h) (keys_appended rs ss (and_second t (all rs) h) k)

start_is : (p : List ℕ) (r : KeyRange) → is_empty r.key ≡ false → not (is_empty (start_behind (prefix_end p) r)) ≡ true
start_is p r h = either (λ (k : List ℕ). not (is_empty k) ≡ true) (up_to r.key (prefix_end p)) (prefix_end p) r.key (false_not (is_empty (prefix_end p)) (prefix_end_is p)) (false_not (is_empty r.key) h)

one_key : (r : KeyRange) → not (is_empty r.key) ≡ true → Keys (r ∷ [])
one_key r h = and_both (not (is_empty r.key)) true h refl

parts_are : (p : List ℕ) (r : KeyRange) → is_empty r.key ≡ false → Keys (parts p r)
parts_are p r h =
    let e = prefix_end p in
    let k = false_not (is_empty r.key) h in
    either Keys (is_one r || not (overlaps r (leasing_range p))) (r ∷ []) (part_before p r ++ part_behind e r) (one_key r k)
    (keys_appended (part_before p r) (part_behind e r)
    (either Keys (before r.key (end_before p r) && not (is_zero (end_before p r))) (record { key = r.key; end = end_before p r } ∷ []) [] (one_key (record { key = r.key; end = end_before p r }) k) refl)
    (either Keys (not (is_zero e) && (is_zero r.end || before (start_behind e r) r.end)) (record { key = start_behind e r; end = r.end } ∷ []) [] (one_key (record { key = start_behind e r; end = r.end }) (start_is p r h)) refl))

deletes_bare : (prev : Bool) (rs : List KeyRange) → Keys rs → list_any lacks_key (map (delete_part prev) rs) ≡ false
deletes_bare prev [] h = refl
deletes_bare prev (r ∷ rs) h =
    let t = not (is_empty r.key) in
    let all = list_all (λ (x : KeyRange). not (is_empty x.key)) rs in
    or_none (is_empty r.key) (list_any lacks_key (map (delete_part prev) rs)) (not_true (is_empty r.key) (and_first t all h)) (deletes_bare prev rs (and_second t all h))

ops_bare : (p : List ℕ) (q : Request) → request_lacks q ≡ false → list_any lacks_key (write_ops p q) ≡ false
ops_bare p (request.Put ask) h = or_none (is_empty ask.key) false h refl
ops_bare p (request.Delete ask) h = deletes_bare ask.prev_kv (parts p ask.range) (parts_are p ask.range h)
ops_bare p (request.Txn t) h = or_none (lacks_key (op.Txn t)) false h refl
ops_bare p (request.Range ask) h = refl
ops_bare p (request.Compact revision physical) h = refl
ops_bare p (request.Grant ttl lease) h = refl
ops_bare p (request.Revoke lease) h = refl
ops_bare p (request.KeepAlive lease) h = refl
ops_bare p (request.TimeToLive lease keys) h = refl
ops_bare p request.Leases h = refl
ops_bare p (request.Watch ask) h = refl

pub guarded_bare : (p : List ℕ) (q : Request) (created : List ℕ → ℕ) → is_leasing p ≡ true → request_lacks q ≡ false → request_lacks (request.Txn (guarded p q created)) ≡ false
guarded_bare p q created l h =
    let rs = written_ranges q in
    lacks_key_is_txn (guarded p q created)
    ∙ or_none (list_any compare_lacks_key (map (guard p created) rs) || list_any lacks_key (write_ops p q)) (list_any lacks_key (map (read_owners p) rs))
    (or_none (list_any compare_lacks_key (map (guard p created) rs)) (list_any lacks_key (write_ops p q)) (guards_bare p created rs l) (ops_bare p q h)) (owners_bare p rs l)

-- A client's request that isn't refused.

first_none : {A : Type 0} (o : Option A) (rest : List (Option A)) → first_of (o ∷ rest) ≡ None → (o ≡ None) × (first_of rest ≡ None)
first_none None rest e = (refl, e)
first_none (Some x) rest e = absurd (cc)

given_none : (b : Bool) (r : Refusal) → given b r ≡ None → b ≡ false
given_none true r e = absurd (cc)
given_none false r e = refl

mapped_none : {A B : Type 0} (f : A → B) (o : Option A) → option_map f o ≡ None → o ≡ None
mapped_none f None e = refl
mapped_none f (Some x) e = absurd (cc)

-- a transaction within a transaction isn't served
op_lacks : (o : Op) → unserved_op o ≡ None → lacks_key o ≡ op_lacks_key o
op_lacks (op.Range ask) e = refl
op_lacks (op.Put ask) e = refl
op_lacks (op.Delete ask) e = refl
op_lacks (op.Txn' compare m success n failure) e = absurd (cc)

ops_lack : (os : List Op) → unserved_ops os ≡ None → list_any lacks_key os ≡ list_any op_lacks_key os
ops_lack [] e = refl
ops_lack (o ∷ os) e =
    let f = first_none (unserved_op o) (unserved_ops os ∷ []) e in
    let g = first_none (unserved_ops os) [] f.1 in
    λ i. op_lacks o f.0 i || ops_lack os g.0 i

same_lacks : (q : Request) → unserved q ≡ None → request_lacks q ≡ request_lacks_key q
same_lacks (request.Txn t) e =
    let f = first_none (unserved_ops t.success) (unserved_ops t.failure ∷ []) e in
    let g = first_none (unserved_ops t.failure) [] f.1 in
    lacks_key_is_txn t ∙ (λ i. list_any compare_lacks_key t.compare || ops_lack t.success f.0 i || ops_lack t.failure g.0 i)
same_lacks (request.Range ask) e = refl
same_lacks (request.Put ask) e = refl
same_lacks (request.Delete ask) e = refl
same_lacks (request.Compact revision physical) e = refl
same_lacks (request.Grant ttl lease) e = refl
same_lacks (request.Revoke lease) e = refl
same_lacks (request.KeepAlive lease) e = refl
same_lacks (request.TimeToLive lease keys) e = refl
same_lacks request.Leases e = refl
same_lacks (request.Watch ask) e = refl

pub served_keys : (p : List ℕ) (q : Request) → refusal_of p q ≡ None → has_keys q ≡ true
served_keys p q e =
    let f = first_none (option_map unsupported (unserved q)) _ e in
    let g = first_none (given (request_lacks_key q) key_not_provided) _ f.1 in
    false_not (request_lacks q) (same_lacks q (mapped_none unsupported (unserved q) f.0) ∙ given_none (request_lacks_key q) key_not_provided g.0)

pub numbered_bare : (word : ℕ) (q : Request) → request_lacks q ≡ false → request_lacks (numbered word q) ≡ false
numbered_bare word (request.Grant ttl lease) h = refl
numbered_bare word (request.Txn t) h = h
numbered_bare word (request.Range ask) h = h
numbered_bare word (request.Put ask) h = h
numbered_bare word (request.Delete ask) h = h
numbered_bare word (request.Compact revision physical) h = h
numbered_bare word (request.Revoke lease) h = h
numbered_bare word (request.KeepAlive lease) h = h
numbered_bare word (request.TimeToLive lease keys) h = h
numbered_bare word request.Leases h = h
numbered_bare word (request.Watch ask) h = h
