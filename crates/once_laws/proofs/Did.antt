-- Which answers tell that a call did a client's write, and which that it didn't.
use Rattle.std.proofs.Common.{◌≡◌, ℕ, Bool, true, false, cond, List, [], ◌∷◌, ◌++◌, length, map, Option, None, Some, Ok, Err, refl, sym, ◌∙◌, ap, subst}
use Rattle.etcd_types.specs.declared.answer.Answer.{Answer}
use Rattle.etcd_types.specs.declared.answer.Answer.TheVariants.{Done, Refused}
use Rattle.etcd_types.specs.declared.answer.Body.{Body}
use Rattle.etcd_types.specs.declared.answer.Body.TheVariants as body
use Rattle.etcd_types.specs.declared.answer.Refusal.{Refusal}
use Rattle.etcd_types.specs.declared.answer.Reply.{Reply}
use Rattle.etcd_types.specs.declared.key_range.KeyRange.{KeyRange}
use Rattle.etcd_types.specs.declared.operation.Op.{Op}
use Rattle.etcd_types.specs.declared.operation.TxnAsk.{TxnAsk}
use Rattle.etcd_types.specs.declared.record.Kv.{Kv}
use Rattle.etcd_types.specs.declared.request.Request.{Request}
use Rattle.etcd_types.specs.declared.request.Request.TheVariants as request
use Rattle.etcd_types.specs.Keys.{is_empty}
use Rattle.proxy_model.specs.declared.ownership.Owner.{Owner}
use Rattle.proxy_model.specs.declared.ownership.Written.{Written}
use Rattle.proxy_model.specs.declared.ownership.Written.TheVariants.{Wrote, Blocked}
use Rattle.proxy_model.specs.Fits.{branch_of, fits_txn}
use Rattle.proxy_model.specs.Foreign.{ask_revoke}
use Rattle.proxy_model.specs.Guarded.{guarded, read_owners, written, written_of}
use Rattle.proxy_model.specs.Readings.{reading}
use Rattle.proxy_model.specs.SeveralKeys.{written_ranges}
use Rattle.proxy_model.specs.Unwrapped.{Unwrapped, ◌>>=◌, records_without, prev_without, row_without, own_keys, body_without, reply_without}
use Rattle.proxy_model.specs.Wrapped.{operation_under, transaction_under, request_under}
use Rattle.proxy_model.proofs.FitsLaws.{branch_of-Txn}
use Rattle.core_model.specs.Heard.{heard, heard_reply}
use Rattle.core_model.specs.Kinds.{has_some, writes_keys}
use Rattle.executed_laws.proofs.Turns.{IsGuarded}
use Rattle.once_laws.specs.Once.{IsRevokeCall, ran_success, GoesThrough, Did}

-- ---- which branch ran

abbrev flag : Body → Bool
flag b = ran_success (branch_of b)

bound_flag : {A : Type 0} (f : A → Body) (s : Bool) (r : Unwrapped A) (c : Body) → ((x : A) → flag (f x) ≡ s) → (r >>= λ x. Ok (f x)) ≡ Ok c → s ≡ flag c
bound_flag f s (Ok x) c g e = sym (g x) ∙ ap flag (same_body (f x) c e)
  where
    same_body : (b c : Body) → ◌≡◌ {A = Unwrapped Body} (Ok b) (Ok c) → b ≡ c
    same_body b c e = cc
bound_flag f s (Err k) c g e = absurd (cc)

plain_flag : (b c : Body) → ◌≡◌ {A = Unwrapped Body} (Ok b) (Ok c) → flag b ≡ flag c
plain_flag b c e = ap flag (let same : b ≡ c = cc in same)

-- it is the same without the namespace
flag_kept : (p : List ℕ) (b c : Body) → body_without p b ≡ Ok c → flag b ≡ flag c
flag_kept p (body.Range count more kvs) c e = bound_flag (λ (ks : List Kv). body.Range count more ks) false (records_without p kvs) c (λ x. refl) e
flag_kept p (body.Put prev) c e = bound_flag (λ (o : Option Kv). body.Put o) false (prev_without p prev) c (λ x. refl) e
flag_kept p (body.Delete deleted prevs) c e = bound_flag (λ (ks : List Kv). body.Delete deleted ks) false (records_without p prevs) c (λ x. refl) e
flag_kept p (body.Txn' succeeded m bodies) c e = bound_flag (λ (bs : List Body). body.Txn succeeded bs) succeeded (row_without p bodies) c (λ x. ap ran_success (branch_of-Txn succeeded x)) e
flag_kept p body.Compact c e = plain_flag body.Compact c e
flag_kept p (body.Grant lease ttl) c e = plain_flag (body.Grant lease ttl) c e
flag_kept p body.Revoke c e = plain_flag body.Revoke c e
flag_kept p (body.KeepAlive lease ttl) c e = plain_flag (body.KeepAlive lease ttl) c e
flag_kept p (body.TimeToLive lease ttl granted keys) c e = plain_flag (body.TimeToLive lease ttl granted (own_keys p keys)) c e
flag_kept p (body.Leases leases) c e = plain_flag (body.Leases leases) c e

-- what is heard of a reply
pub record Hears (namespace : List ℕ) (a : Answer) (reply : Reply) : Type 0 where
  pub stored : Reply
  pub is : a ≡ Done stored
  pub flag : ran_success (branch_of stored.body) ≡ ran_success (branch_of reply.body)

pub hears_done : (namespace : List ℕ) (a : Answer) (reply : Reply) → heard namespace a ≡ Some (Done reply) → Hears namespace a reply
hears_done namespace (Done stored) reply e = record { stored = stored; is = refl; flag = by_body (body_without namespace stored.body) refl e }
  where
    same_reply : (x : Reply) → Some (Done x) ≡ Some (Done reply) → x ≡ reply
    same_reply x f = cc

    by_body : (r : Unwrapped Body) → body_without namespace stored.body ≡ r → heard_reply (r >>= λ b. Ok (record stored { body = b })) ≡ Some (Done reply) → flag stored.body ≡ flag reply.body
    by_body (Ok b) f g = flag_kept namespace stored.body b f ∙ ap (λ (x : Reply). flag x.body) (same_reply (record stored { body = b }) g)
    by_body (Err k) f g = absurd (cc)
hears_done namespace (Refused r) reply e = absurd (by (Rattle.core_model.specs.Heard.is_known r.code) e)
  where
    by : (b : Bool) → cond b (Some (Refused r)) None ≡ Some (Done reply) → ⊥
    by true f = absurd (cc)
    by false f = absurd (cc)

pub hears_refused : (namespace : List ℕ) (a : Answer) (r : Refusal) → heard namespace a ≡ Some (Refused r) → a ≡ Refused r
hears_refused namespace (Done stored) r e = absurd (by (reply_without namespace stored) e)
  where
    by : (x : Unwrapped Reply) → heard_reply x ≡ Some (Refused r) → ⊥
    by (Ok y) f = absurd (cc)
    by (Err k) f = absurd (cc)
hears_refused namespace (Refused x) r e = by (Rattle.core_model.specs.Heard.is_known x.code) e
  where
    by : (b : Bool) → cond b (Some (Refused x)) None ≡ Some (Refused r) → Refused x ≡ Refused r
    by true f = cc
    by false f = absurd (cc)

-- a guarded write that was blocked ran its other branch
written_flag : (p : List ℕ) (q : Request) (reply : Reply) (fits : Bool) (o : Option (Bool × List Body)) (x : Written) → reading fits o (written_of p q reply.header) ≡ Some x → (b : Bool) × (bs : List Body) × (o ≡ Some (b, bs)) × (written_of p q reply.header b bs ≡ x)
written_flag p q reply fits None x e = absurd (cc)
written_flag p q reply true (Some ran) x e = (ran.0, ran.1, refl, cc)
written_flag p q reply false (Some ran) x e = absurd (cc)

pub blocked_flag : (p : List ℕ) (q : Request) (reply : Reply) (os : List Owner) → written p q reply ≡ Some (Blocked os) → ran_success (branch_of reply.body) ≡ false
blocked_flag p q reply os e =
    let k = written_flag p q reply (fits_txn (guarded p q (λ i. 0)) reply.body) (branch_of reply.body) (Blocked os) e in
    ap ran_success k.2 ∙ by k.0 k.1 k.3
  where
    by : (b : Bool) (bs : List Body) → written_of p q reply.header b bs ≡ Blocked os → b ≡ false
    by true bs f = absurd (cc)
    by false bs f = refl

pub wrote_flag : (p : List ℕ) (q : Request) (reply r : Reply) → written p q reply ≡ Some (Wrote r) → ran_success (branch_of reply.body) ≡ true
wrote_flag p q reply r e =
    let k = written_flag p q reply (fits_txn (guarded p q (λ i. 0)) reply.body) (branch_of reply.body) (Wrote r) e in
    ap ran_success k.2 ∙ by k.0 k.1 k.3
  where
    by : (b : Bool) (bs : List Body) → written_of p q reply.header b bs ≡ Wrote r → b ≡ true
    by true bs f = refl
    by false bs f = absurd (cc)

-- ---- a guarded write is no revoke call: it shows owners where it is blocked

abbrev failing : Request → List Op
failing (request.Txn t) = t.failure
failing _ = []

guarded_fails : (namespace p : List ℕ) (q : Request) (created : List ℕ → ℕ) → writes_keys q ≡ true → has_some (failing (request_under namespace (request.Txn (guarded p q created)))) ≡ true
guarded_fails namespace p q created w = by (written_ranges q) w
  where
    by : (rs : List KeyRange) → has_some rs ≡ true → has_some (map (operation_under namespace) (map (read_owners p) rs)) ≡ true
    by [] f = absurd (cc)
    by (r ∷ rs) f = refl

pub guarded_no_revoke : (namespace p : List ℕ) (q sent : Request) → writes_keys q ≡ true → IsGuarded namespace p q sent → IsRevokeCall namespace p sent → ⊥
guarded_no_revoke namespace p q sent w g r =
    absurd (let e : true ≡ false = sym (guarded_fails namespace p q g.0 w) ∙ ap (λ (s : Request). has_some (failing s)) (sym g.1 ∙ r.2) in cc)

-- ---- what did the write

-- a refused call didn't
pub refused_did_not : (namespace prefix : List ℕ) (q sent : Request) (a : Answer) (r : Refusal) → a ≡ Refused r → Did namespace prefix q sent a → ⊥
refused_did_not namespace prefix q sent a r e d = absurd (let f : Refused r ≡ Done d.reply = sym e ∙ d.done in cc)

-- nor does a revoke call
pub revoke_did_not : (namespace prefix : List ℕ) (q sent : Request) (a : Answer) → is_empty prefix ≡ false → IsRevokeCall namespace prefix sent → Did namespace prefix q sent a → ⊥
revoke_did_not namespace prefix q sent a on is d = (d.through on).other is

same_reply : (x y : Reply) → Done x ≡ Done y → x ≡ y
same_reply x y e = cc

-- nor a guarded write that was blocked
pub blocked_did_not : (namespace prefix p : List ℕ) (q r sent : Request) (a : Answer) (reply : Reply) (os : List Owner) → is_empty prefix ≡ false → IsGuarded namespace prefix q sent → heard namespace a ≡ Some (Done reply) → written p r reply ≡ Some (Blocked os)
    → Did namespace prefix q sent a → ⊥
blocked_did_not namespace prefix p q r sent a reply os on g e b d =
    let h = hears_done namespace a reply e in
    let same : h.stored ≡ d.reply = same_reply h.stored d.reply (sym h.is ∙ d.done) in
    absurd (let f : true ≡ false = sym ((d.through on).held g.0 g.1) ∙ ap (λ (x : Reply). flag x.body) (sym same) ∙ h.flag ∙ blocked_flag p r reply os b in cc)

-- one that wrote did
pub wrote_did : (namespace prefix p : List ℕ) (q r sent : Request) (a : Answer) (reply given : Reply) → writes_keys q ≡ true → IsGuarded namespace prefix q sent → heard namespace a ≡ Some (Done reply) → written p r reply ≡ Some (Wrote given)
    → Did namespace prefix q sent a
wrote_did namespace prefix p q r sent a reply given w g e b =
    let h = hears_done namespace a reply e in
    record {
      reply = h.stored;
      done = h.is;
      through = λ on. record { other = guarded_no_revoke namespace prefix q sent w g; held = λ created is. h.flag ∙ wrote_flag p r reply given b };
    }

-- with leasing off each that was answered with a reply did
pub done_did : (namespace prefix : List ℕ) (q sent : Request) (a : Answer) (reply : Reply) → is_empty prefix ≡ true → heard namespace a ≡ Some (Done reply) → Did namespace prefix q sent a
done_did namespace prefix q sent a reply off e =
    let h = hears_done namespace a reply e in
    record { reply = h.stored; done = h.is; through = λ on. absurd (let f : true ≡ false = sym off ∙ on in cc) }
