-- What is refused is refused by the first foreign key.
use Rattle.std.proofs.Common.{◌≡◌, ℕ, Bool, true, false, cond, List, [], ◌∷◌, ◌++◌, Option, None, Some, is_some, Ok, Err, refl, sym, ◌∙◌, map}
use Rattle.std.specs.Prelude.{flat_map, filter, ok_or}
use Rattle.std.specs.List.{cons_option}
use Rattle.etcd_types.specs.declared.record.Kv.{Kv}
use Rattle.etcd_types.specs.declared.answer.Body.{Body, Row_of-Body, end_of-Body, more_of-Body}
use Rattle.etcd_types.specs.declared.answer.Body.TheVariants as body
use Rattle.etcd_types.specs.declared.watch.Change.{Change}
use Rattle.etcd_types.specs.declared.watch.Change.TheVariants as change
use Rattle.etcd_types.specs.declared.watch.Event.{Event}
use Rattle.etcd_types.specs.declared.watch.WatchItem.TheVariants as item
use Rattle.proxy_model.specs.Prefixes.{without}
use Rattle.proxy_model.specs.Unwrapped.{Unwrapped, ◌>>=◌, each, key_without, record_without, prev_without, records_without, own_keys, body_without, row_without, change_without, event_without, events_without}
use Rattle.namespace_keys.specs.Foreign.{first_foreign, refused, record_keys, prev_keys, body_keys, row_keys, change_keys, event_keys}
use Rattle.namespace_keys.specs.Laws.{RepliesAreRefusedByName, ItemsAreRefusedByName, ForeignLeaseKeysAreLeftOut}
use Rattle.namespace_keys.proofs.Keys.{unwrapped_keys_were_wrapped}

abbrev first_of : Option (List ℕ) → Option (List ℕ) → Option (List ℕ)
first_of None later = later
first_of (Some k) later = Some k

first_of-none : (o : Option (List ℕ)) → first_of o None ≡ o
first_of-none None = refl
first_of-none (Some k) = refl

in_turn : (p : List ℕ) (xs ys : List (List ℕ)) → first_foreign p (xs ++ ys) ≡ first_of (first_foreign p xs) (first_foreign p ys)
in_turn p [] ys = refl
in_turn p (x ∷ xs) ys = by_test (is_some (without p x)) (in_turn p xs ys)
  where
    by_test : (t : Bool) → first_foreign p (xs ++ ys) ≡ first_of (first_foreign p xs) (first_foreign p ys)
        → cond t (first_foreign p (xs ++ ys)) (Some x) ≡ first_of (cond t (first_foreign p xs) (Some x)) (first_foreign p ys)
    by_test true h = h
    by_test false h = refl

-- what comes of a value that is unwrapped refuses nothing, or the same whatever the value is
made : {A B : Type 0} (r : Unwrapped A) (f : A → B) → refused (r >>= λ x. Ok (f x)) ≡ refused r
made (Ok x) f = refl
made (Err k) f = refl

after : {A B : Type 0} (r : Unwrapped A) (f : A → Unwrapped B) (later : Option (List ℕ)) → ((x : A) → refused (f x) ≡ later)
    → refused (r >>= f) ≡ first_of (refused r) later
after (Ok x) f later h = h x
after (Err k) f later h = refl

both : (a b c d : Option (List ℕ)) → a ≡ c → b ≡ d → first_of a b ≡ first_of c d
both a b c d e f = λ i. first_of (e i) (f i)

key_refused : (p k : List ℕ) → refused (key_without p k) ≡ first_foreign p (k ∷ [])
key_refused p k = by_rest (without p k)
  where
    by_rest : (o : Option (List ℕ)) → refused (ok_or o k) ≡ cond (is_some o) None (Some k)
    by_rest None = refl
    by_rest (Some rest) = refl

record_refused : (p : List ℕ) (kv : Kv) → refused (record_without p kv) ≡ first_foreign p (kv.key ∷ [])
record_refused p kv = made (key_without p kv.key) (λ k. record kv { key = k }) ∙ key_refused p kv.key

prev_refused : (p : List ℕ) (prev : Option Kv) → refused (prev_without p prev) ≡ first_foreign p (prev_keys prev)
prev_refused p None = refl
prev_refused p (Some kv) = made (record_without p kv) (λ kv. Some kv) ∙ record_refused p kv

each_refused : {A : Type 0} (p : List ℕ) (f : A → Unwrapped A) (keys : A → List (List ℕ)) → ((x : A) → refused (f x) ≡ first_foreign p (keys x))
    → (xs : List A) → refused (each f xs) ≡ first_foreign p (flat_map keys xs)
each_refused p f keys h [] = refl
each_refused p f keys h (x ∷ xs) =
    after (f x) (λ y. each f xs >>= λ ys. Ok (y ∷ ys)) (first_foreign p (flat_map keys xs)) (λ y. made (each f xs) (λ ys. y ∷ ys) ∙ each_refused p f keys h xs)
    ∙ both _ _ _ _ (h x) refl ∙ sym (in_turn p (keys x) (flat_map keys xs))

records_refused : (p : List ℕ) (kvs : List Kv) → refused (records_without p kvs) ≡ first_foreign p (record_keys kvs)
records_refused p kvs = each_refused p (record_without p) (λ kv. kv.key ∷ []) (record_refused p) kvs

mutual
  body_refused : (p : List ℕ) (b : Body) → refused (body_without p b) ≡ first_foreign p (body_keys b)
  body_refused p (body.Range count more kvs) = made (records_without p kvs) (λ kvs. body.Range count more kvs) ∙ records_refused p kvs
  body_refused p (body.Put prev) = made (prev_without p prev) (λ prev. body.Put prev) ∙ prev_refused p prev
  body_refused p (body.Delete deleted prevs) = made (records_without p prevs) (λ prevs. body.Delete deleted prevs) ∙ records_refused p prevs
  body_refused p (body.Txn' succeeded m bodies) = made (row_without p bodies) (λ bodies. body.Txn succeeded bodies) ∙ row_refused p bodies
  body_refused p body.Compact = refl
  body_refused p (body.Grant lease ttl) = refl
  body_refused p body.Revoke = refl
  body_refused p (body.KeepAlive lease ttl) = refl
  body_refused p (body.TimeToLive lease ttl granted keys) = refl
  body_refused p (body.Leases leases) = refl

  row_refused : {m : _} (p : List ℕ) (row : Row_of-Body m) → refused (row_without p row) ≡ first_foreign p (row_keys row)
  row_refused p end_of-Body = refl
  row_refused p (more_of-Body one rest) =
      after (body_without p one) (λ y. row_without p rest >>= λ ys. Ok (y ∷ ys)) (first_foreign p (row_keys rest)) (λ y. made (row_without p rest) (λ ys. y ∷ ys) ∙ row_refused p rest)
      ∙ both _ _ _ _ (body_refused p one) refl ∙ sym (in_turn p (body_keys one) (row_keys rest))

pub replies_are_refused_by_name : RepliesAreRefusedByName
replies_are_refused_by_name p reply = made (body_without p reply.body) (λ body. record reply { body = body }) ∙ body_refused p reply.body

change_refused : (p : List ℕ) (c : Change) → refused (change_without p c) ≡ first_foreign p (change_keys c)
change_refused p (change.Put kv) = made (record_without p kv) (λ kv. change.Put kv) ∙ record_refused p kv
change_refused p (change.Delete key modified) = made (key_without p key) (λ key. change.Delete key modified) ∙ key_refused p key

event_refused : (p : List ℕ) (e : Event) → refused (event_without p e) ≡ first_foreign p (event_keys e)
event_refused p e =
    after (change_without p e.change) (λ c. prev_without p e.prev >>= λ prev. Ok (record { change = c; prev = prev })) (first_foreign p (prev_keys e.prev))
    (λ c. made (prev_without p e.prev) (λ prev. record { change = c; prev = prev }) ∙ prev_refused p e.prev)
    ∙ both _ _ _ _ (change_refused p e.change) refl ∙ sym (in_turn p (change_keys e.change) (prev_keys e.prev))

pub items_are_refused_by_name : ItemsAreRefusedByName
items_are_refused_by_name p (item.Created header) = refl
items_are_refused_by_name p (item.Events header events) =
    made (events_without p events) (λ events. item.Events header events) ∙ each_refused p (event_without p) event_keys (event_refused p) events
items_are_refused_by_name p (item.Canceled header compact) = refl

pub foreign_lease_keys_are_left_out : ForeignLeaseKeysAreLeftOut
foreign_lease_keys_are_left_out p [] = refl
foreign_lease_keys_are_left_out p (k ∷ ks) = by_rest (without p k) refl (foreign_lease_keys_are_left_out p ks)
  where
    by_rest : (o : Option (List ℕ)) → without p k ≡ o → map (λ x. p ++ x) (own_keys p ks) ≡ filter (λ x. is_some (without p x)) ks
        → map (λ x. p ++ x) (cons_option o (own_keys p ks)) ≡ cond (is_some o) (k ∷ filter (λ x. is_some (without p x)) ks) (filter (λ x. is_some (without p x)) ks)
    by_rest None e h = h
    by_rest (Some rest) e h = let is : p ++ rest ≡ k = sym (unwrapped_keys_were_wrapped p k rest e) in λ i. is i ∷ h i
