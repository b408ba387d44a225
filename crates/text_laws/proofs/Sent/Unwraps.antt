-- What is left of answers and messages without the namespace fits where they do.
use Rattle.std.proofs.Common.{◌≡◌, ℕ, zero, suc, ◌≤◌, ◌==◌, List, [], ◌∷◌, length, Option, None, Some, Ok, Err, refl, sym, ap, subst, arith}
use Rattle.std.specs.Prelude.{ok_or}
use Rattle.std.specs.List.{cons_option}
use Rattle.etcd_types.specs.declared.answer.Answer.{Answer}
use Rattle.etcd_types.specs.declared.answer.Answer.TheVariants as answer
use Rattle.etcd_types.specs.declared.answer.Body.{Body, Row_of-Body, end_of-Body, more_of-Body}
use Rattle.etcd_types.specs.declared.answer.Body.TheVariants as body
use Rattle.etcd_types.specs.declared.answer.Reply.{Reply}
use Rattle.etcd_types.specs.declared.record.Kv.{Kv}
use Rattle.etcd_types.specs.declared.watch.Change.{Change}
use Rattle.etcd_types.specs.declared.watch.Change.TheVariants as change
use Rattle.etcd_types.specs.declared.watch.Event.{Event}
use Rattle.etcd_types.specs.declared.watch.WatchItem.{WatchItem}
use Rattle.etcd_types.specs.declared.watch.WatchItem.TheVariants as item
use Rattle.proxy_model.specs.Prefixes.{without}
use Rattle.proxy_model.specs.Unwrapped.{Unwrapped, ◌>>=◌, each, key_without, record_without, prev_without, records_without, own_keys, body_without, row_without, reply_without, change_without, event_without, events_without, item_without}
use Rattle.core_model.specs.Heard.{is_known, heard_reply, heard}
use Rattle.text_laws.specs.Values.Fits.{AllOf, If, Bytes, Number, KvFits, KvsFit, PrevFits, BodyFits, RowFits, row_length, AnswerFits, ChangeFits, EventFits, EventsFit, MessageFits}
use Rattle.text_laws.proofs.Values.Alls.{either}
use Rattle.text_laws.proofs.Stores.Runs.{txn_fits}

-- what stands, where anything does
abbrev pub Stands : {A : Type 0} → (A → Type 0) → Unwrapped A → Type 0
Stands P (Ok x) = P x
Stands P (Err k) = Unit {0}

bound : {A B : Type 0} (P : A → Type 0) (Q : B → Type 0) (u : Unwrapped A) (f : A → Unwrapped B) → Stands P u → ((x : A) → P x → Stands Q (f x)) → Stands Q (u >>= f)
bound P Q (Ok x) f h k = k x h
bound P Q (Err e) f h k = tt

-- as many as before
record AllSo {A : Type 0} (P : A → Type 0) (n : ℕ) (xs : List A) : Type 0 where
  all : AllOf P xs
  count : length xs ≡ n

all_so : {A : Type 0} (P Q : A → Type 0) (f : A → Unwrapped A) → ((x : A) → P x → Stands Q (f x)) → (xs : List A) → AllOf P xs → Stands (AllSo Q (length xs)) (each f xs)
all_so P Q f g [] h = record { all = tt; count = refl }
all_so P Q f g (x ∷ xs) h =
    bound Q (AllSo Q (length (x ∷ xs))) (f x) _ (g x h.0)
    (λ y k. bound (AllSo Q (length xs)) (AllSo Q (length (x ∷ xs))) (each f xs) _ (all_so P Q f g xs h.1) (λ ys l. record { all = (k, l.all); count = ap suc l.count }))

without_fits : (p k : List ℕ) → Bytes k → If Bytes (without p k)
without_fits [] k h = h
without_fits (b ∷ bs) [] h = tt
without_fits (b ∷ bs) (c ∷ cs) h = either (If Bytes) (b == c) (without bs cs) None (without_fits bs cs h.1) tt

key_fits : (p k : List ℕ) → Bytes k → Stands Bytes (key_without p k)
key_fits p k h = by_rest (without p k) (without_fits p k h)
  where
    by_rest : (o : Option (List ℕ)) → If Bytes o → Stands Bytes (ok_or o k)
    by_rest None f = tt
    by_rest (Some l) f = f

record_fits : (most : ℕ) (p : List ℕ) (kv : Kv) → KvFits most kv → Stands (KvFits most) (record_without p kv)
record_fits most p kv h =
    bound Bytes (KvFits most) (key_without p kv.key) _ (key_fits p kv.key h.key) (λ k b. record { key = b; value = h.value; create = h.create; modified = h.modified; version = h.version; lease = h.lease })

prev_fits : (most : ℕ) (p : List ℕ) (o : Option Kv) → PrevFits most o → Stands (PrevFits most) (prev_without p o)
prev_fits most p None h = tt
prev_fits most p (Some kv) h = bound (KvFits most) (PrevFits most) (record_without p kv) _ (record_fits most p kv h) (λ k f. f)

records_fit : (most : ℕ) (p : List ℕ) (kvs : List Kv) → KvsFit most kvs → Stands (KvsFit most) (records_without p kvs)
records_fit most p kvs h =
    so (records_without p kvs) (all_so (KvFits most) (KvFits most) (record_without p) (record_fits most p) kvs h.all)
  where
    so : (u : Unwrapped (List Kv)) → Stands (AllSo (KvFits most) (length kvs)) u → Stands (KvsFit most) u
    so (Ok xs) k = record { all = k.all; few = subst (λ (n : ℕ). n ≤ most) (sym k.count) h.few }
    so (Err e) k = tt

own_fit : (p : List ℕ) (ks : List (List ℕ)) → AllOf Bytes ks → AllOf Bytes (own_keys p ks)
own_fit p [] h = tt
own_fit p (k ∷ ks) h = shown (without p k) (own_keys p ks) (without_fits p k h.0) (own_fit p ks h.1)
  where
    shown : (o : Option (List ℕ)) (rest : List (List ℕ)) → If Bytes o → AllOf Bytes rest → AllOf Bytes (cons_option o rest)
    shown None rest f g = g
    shown (Some l) rest f g = (f, g)

own_few : (p : List ℕ) (ks : List (List ℕ)) → length (own_keys p ks) ≤ length ks
own_few p [] = omega arith
own_few p (k ∷ ks) = let r = own_few p ks in shown (without p k) (own_keys p ks) r
  where
    shown : (o : Option (List ℕ)) (rest : List (List ℕ)) → length rest ≤ length ks → length (cons_option o rest) ≤ length (k ∷ ks)
    shown None rest f = omega (arith, f)
    shown (Some l) rest f = omega (arith, f)

mutual
  pub body_fits : (most deep : ℕ) (p : List ℕ) (b : Body) → BodyFits most deep b → Stands (BodyFits most deep) (body_without p b)
  body_fits most deep p (body.Range count more kvs) h = bound (KvsFit most) (BodyFits most deep) (records_without p kvs) _ (records_fit most p kvs h.1) (λ xs k. (h.0, k))
  body_fits most deep p (body.Put prev) h = bound (PrevFits most) (BodyFits most deep) (prev_without p prev) _ (prev_fits most p prev h) (λ o k. k)
  body_fits most deep p (body.Delete deleted prevs) h = bound (KvsFit most) (BodyFits most deep) (records_without p prevs) _ (records_fit most p prevs h.1) (λ xs k. (h.0, k))
  body_fits most zero p (body.Txn' succeeded m bodies) h = absurd h.0
  body_fits most (suc n) p (body.Txn' succeeded m bodies) h =
      bound (AllSo (BodyFits most n) (row_length bodies)) (BodyFits most (suc n)) (row_without p bodies) _ (row_fits most n p bodies h.0)
      (λ bs k. txn_fits most n succeeded bs (subst (λ (c : ℕ). c ≤ 128) (sym k.count) h.1) k.all)
  body_fits most deep p body.Compact h = tt
  body_fits most deep p (body.Grant lease ttl) h = h
  body_fits most deep p body.Revoke h = tt
  body_fits most deep p (body.KeepAlive lease ttl) h = h
  body_fits most deep p (body.TimeToLive lease ttl granted keys) h = (h.0, h.1, h.2, own_fit p keys h.3, (let a = own_few p keys in let f = h.4 in omega (arith, a, f)))
  body_fits most deep p (body.Leases leases) h = h

  row_fits : {m : _} (most deep : ℕ) (p : List ℕ) (bodies : Row_of-Body m) → RowFits most deep bodies → Stands (AllSo (BodyFits most deep) (row_length bodies)) (row_without p bodies)
  row_fits most deep p end_of-Body h = record { all = tt; count = refl }
  row_fits most deep p (more_of-Body one rest) h =
      bound (BodyFits most deep) (AllSo (BodyFits most deep) (suc (row_length rest))) (body_without p one) _ (body_fits most deep p one h.0)
      (λ b k. bound (AllSo (BodyFits most deep) (row_length rest)) (AllSo (BodyFits most deep) (suc (row_length rest))) (row_without p rest) _ (row_fits most deep p rest h.1) (λ bs l. record { all = (k, l.all); count = ap suc l.count }))

-- what is heard
pub heard_fits : (most : ℕ) (p : List ℕ) (a : Answer) → AnswerFits most a → If (AnswerFits most) (heard p a)
heard_fits most p (answer.Done reply) h =
    so (reply_without p reply) (bound (BodyFits most 128) (λ r. AnswerFits most (answer.Done r)) (body_without p reply.body) _ (body_fits most 128 p reply.body h.1) (λ b k. (h.0, k)))
  where
    so : (u : Unwrapped Reply) → Stands (λ r. AnswerFits most (answer.Done r)) u → If (AnswerFits most) (heard_reply u)
    so (Ok r) k = k
    so (Err e) k = tt
heard_fits most p (answer.Refused r) h = either (If (AnswerFits most)) (is_known r.code) (Some (answer.Refused r)) None h tt

change_fits : (most : ℕ) (p : List ℕ) (c : Change) → ChangeFits most c → Stands (ChangeFits most) (change_without p c)
change_fits most p (change.Put kv) h = bound (KvFits most) (ChangeFits most) (record_without p kv) _ (record_fits most p kv h) (λ k f. f)
change_fits most p (change.Delete key modified) h = bound Bytes (ChangeFits most) (key_without p key) _ (key_fits p key h.0) (λ k f. (f, h.1))

event_fits : (most : ℕ) (p : List ℕ) (e : Event) → EventFits most e → Stands (EventFits most) (event_without p e)
event_fits most p e h =
    bound (ChangeFits most) (EventFits most) (change_without p e.change) _ (change_fits most p e.change h.0)
    (λ c f. bound (PrevFits most) (EventFits most) (prev_without p e.prev) _ (prev_fits most p e.prev h.1) (λ o g. (f, g)))

events_fit : (most : ℕ) (p : List ℕ) (es : List Event) → EventsFit most es → Stands (EventsFit most) (events_without p es)
events_fit most p es h = so (events_without p es) (all_so (EventFits most) (EventFits most) (event_without p) (event_fits most p) es h.0)
  where
    so : (u : Unwrapped (List Event)) → Stands (AllSo (EventFits most) (length es)) u → Stands (EventsFit most) u
    so (Ok xs) k = (k.all, subst Number (sym k.count) h.1)
    so (Err e) k = tt

pub message_fits : (most : ℕ) (p : List ℕ) (x : WatchItem) → MessageFits most x → Stands (MessageFits most) (item_without p x)
message_fits most p (item.Created header) h = h
message_fits most p (item.Events header events) h = bound (EventsFit most) (MessageFits most) (events_without p events) _ (events_fit most p events h.1) (λ es k. (h.0, k))
message_fits most p (item.Canceled header compact) h = h
