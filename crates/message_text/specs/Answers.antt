-- The texts of answers: a header and a body, or a refusal.
use Rattle.std.specs.Prelude.{ℕ, zero, suc, ◌-◌, ◌^◌, Bool, true, false, ◌==◌, nat_le, if◌then◌else◌, ℤ, pos, negsuc, List, [], ◌∷◌, ◌++◌, length, Option, Some, None, ◌⊎◌, codes, bytes_eq, flat_map}
use mathlib.Core.Logic.{inl, inr}
use Rattle.std.specs.Fmt.{signed_decimal}
use Rattle.std.specs.Str.Parse.{digits_value}
use Rattle.text_model.specs.Forms.{Word, Form, one_word, respelled, one_of, nothing, never, allowed, both, via, spelled_as, after, named, listed}
use Rattle.text_model.specs.Texts.{text, text_word}
use Rattle.text_model.specs.Words.{number, number_within, max_number, bytes, any_value, flag}
use Rattle.etcd_types.specs.declared.record.Kv.{Kv}
use Rattle.etcd_types.specs.declared.record.Header.{Header}
use Rattle.etcd_types.specs.declared.answer.Body.{Body, Row_of-Body, end_of-Body, more_of-Body, out-Body, roll-Body}
use Rattle.etcd_types.specs.declared.answer.Body.TheVariants as bodies
use Rattle.etcd_types.specs.declared.answer.Body.TheOpen as layer
use Rattle.etcd_types.specs.declared.answer.Reply.{Reply}
use Rattle.etcd_types.specs.declared.answer.Refusal.{Refusal}
use Rattle.etcd_types.specs.declared.answer.Answer.{Answer}
use Rattle.etcd_types.specs.declared.answer.Answer.TheVariants.{Done, Refused}

-- ---- headers and records

-- cluster, member, revision and term
unfoldable pub header_numbers : Form Header
header_numbers =
    via
    (λ w. record { cluster = w.0; member = w.1.0; revision = w.1.1.0; term = w.1.1.1 })
    (λ h. (h.cluster, (h.member, (h.revision, h.term))))
    (both number (both number (both number number)))

abbrev pub dot : ℕ
dot = 46

-- four numbers with dots between them, in one word
unfoldable pub header : Form Header
header = one_word (text dot header_numbers) (text_word dot header_numbers) header_numbers.fits

-- `K V CREATE MOD VERSION LEASE`
unfoldable pub kv : Form Kv
kv =
    via
    (λ w. record { key = w.0; value = w.1.0; create = w.1.1.0; modified = w.1.1.1.0; version = w.1.1.1.1.0; lease = w.1.1.1.1.1 })
    (λ k. (k.key, (k.value, (k.create, (k.modified, (k.version, k.lease))))))
    (both bytes (both bytes (both number (both number (both number number)))))

abbrev pub prev_to : Kv ⊎ Unit {0} → Option Kv
prev_to (inl k) = Some k
prev_to (inr u) = None

abbrev pub prev_from : Option Kv → Kv ⊎ Unit {0}
prev_from (Some k) = inl k
prev_from None = inr tt

-- `+` and a record, or `-`
unfoldable pub prev : Form (Option Kv)
prev = via prev_to prev_from (named (codes "+") kv (after (codes "-") nothing))

-- ---- bodies

abbrev pub branch_word : Bool → Word
branch_word true = codes "t"
branch_word false = codes "f"

abbrev pub branches : List Bool
branches = true ∷ false ∷ []

abbrev pub branch : Form Bool
branch = one_word branch_word (one_of branch_word branches) any_value

-- a time to live: a number, or -1
abbrev pub is_ttl : ℤ → Bool
is_ttl (pos n) = nat_le n max_number
is_ttl (negsuc n) = n == 0

abbrev pub ttl_guess : Word → ℤ
ttl_guess w = if bytes_eq w (codes "-1") then negsuc 0 else pos (digits_value 10 w)

unfoldable pub ttl : Form ℤ
ttl = one_word signed_decimal (respelled signed_decimal ttl_guess is_ttl) is_ttl

abbrev pub FromLeases : Type 0 → Type 0
FromLeases T = List ℕ ⊎ T

abbrev pub FromTimeToLive : Type 0 → Type 0
FromTimeToLive T = (ℕ × (ℤ × (ℕ × List (List ℕ)))) ⊎ FromLeases T

abbrev pub FromKeepAlive : Type 0 → Type 0
FromKeepAlive T = (ℕ × ℕ) ⊎ FromTimeToLive T

abbrev pub FromRevoke : Type 0 → Type 0
FromRevoke T = Unit {0} ⊎ FromKeepAlive T

abbrev pub FromGrant : Type 0 → Type 0
FromGrant T = (ℕ × ℕ) ⊎ FromRevoke T

abbrev pub FromCompact : Type 0 → Type 0
FromCompact T = Unit {0} ⊎ FromGrant T

abbrev pub FromDelete : Type 0 → Type 0
FromDelete T = (ℕ × List Kv) ⊎ FromCompact T

abbrev pub FromPut : Type 0 → Type 0
FromPut T = Option Kv ⊎ FromDelete T

abbrev pub BodyWords : Type 0 → Type 0
BodyWords T = (ℕ × (Bool × List Kv)) ⊎ FromPut T

-- `COUNT MORE LIST`
unfoldable pub range_body : Form (ℕ × (Bool × List Kv))
range_body = both number (both (flag 109) (listed number kv))

unfoldable pub delete_body : Form (ℕ × List Kv)
delete_body = both number (listed number kv)

-- `ID TTL GRANTED LIST`
unfoldable pub timetolive_body : Form (ℕ × (ℤ × (ℕ × List (List ℕ))))
timetolive_body = both number (both ttl (both number (listed number bytes)))

unfoldable pub leases_body : Form (List ℕ)
leases_body = listed number number

abbrev pub from_leases : {T : Type 0} → Form T → Form (FromLeases T)
from_leases more = named (codes "leases") leases_body more

abbrev pub from_timetolive : {T : Type 0} → Form T → Form (FromTimeToLive T)
from_timetolive more = named (codes "timetolive") timetolive_body (from_leases more)

abbrev pub from_keepalive : {T : Type 0} → Form T → Form (FromKeepAlive T)
from_keepalive more = named (codes "keepalive") (both number number) (from_timetolive more)

abbrev pub from_revoke : {T : Type 0} → Form T → Form (FromRevoke T)
from_revoke more = named (codes "revoke") nothing (from_keepalive more)

abbrev pub from_grant : {T : Type 0} → Form T → Form (FromGrant T)
from_grant more = named (codes "grant") (both number number) (from_revoke more)

abbrev pub from_compact : {T : Type 0} → Form T → Form (FromCompact T)
from_compact more = named (codes "compact") nothing (from_grant more)

abbrev pub from_delete : {T : Type 0} → Form T → Form (FromDelete T)
from_delete more = named (codes "delete") delete_body (from_compact more)

abbrev pub from_put : {T : Type 0} → Form T → Form (FromPut T)
from_put more = named (codes "put") prev (from_delete more)

-- each kind of body, or what else there is
abbrev pub body_words_form : {T : Type 0} → Form T → Form (BodyWords T)
body_words_form more = named (codes "range") range_body (from_put more)

-- `B LIST`, with a form of bodies
abbrev pub txn_body : Form Body → Form (Bool × List Body)
txn_body inner = both branch (listed number inner)

abbrev pub layer_to : BodyWords (Bool × List Body) → layer.Body-F Body
layer_to (inl w) = layer.Range w.0 w.1.0 w.1.1
layer_to (inr (inl o)) = layer.Put o
layer_to (inr (inr (inl w))) = layer.Delete w.0 w.1
layer_to (inr (inr (inr (inl u)))) = layer.Compact
layer_to (inr (inr (inr (inr (inl w))))) = layer.Grant w.0 w.1
layer_to (inr (inr (inr (inr (inr (inl u)))))) = layer.Revoke
layer_to (inr (inr (inr (inr (inr (inr (inl w))))))) = layer.KeepAlive w.0 w.1
layer_to (inr (inr (inr (inr (inr (inr (inr (inl w)))))))) = layer.TimeToLive w.0 w.1.0 w.1.1.0 w.1.1.1
layer_to (inr (inr (inr (inr (inr (inr (inr (inr (inl ns))))))))) = layer.Leases ns
layer_to (inr (inr (inr (inr (inr (inr (inr (inr (inr w))))))))) = layer.Txn w.0 w.1

abbrev pub layer_from : layer.Body-F Body → BodyWords (Bool × List Body)
layer_from (layer.Range count more kvs) = inl (count, (more, kvs))
layer_from (layer.Put o) = inr (inl o)
layer_from (layer.Delete deleted prevs) = inr (inr (inl (deleted, prevs)))
layer_from layer.Compact = inr (inr (inr (inl tt)))
layer_from (layer.Grant lease ttl) = inr (inr (inr (inr (inl (lease, ttl)))))
layer_from layer.Revoke = inr (inr (inr (inr (inr (inl tt)))))
layer_from (layer.KeepAlive lease ttl) = inr (inr (inr (inr (inr (inr (inl (lease, ttl)))))))
layer_from (layer.TimeToLive lease ttl granted keys) =
    inr (inr (inr (inr (inr (inr (inr (inl (lease, (ttl, (granted, keys))))))))))
layer_from (layer.Leases leases) = inr (inr (inr (inr (inr (inr (inr (inr (inl leases))))))))
layer_from (layer.Txn succeeded bodies) = inr (inr (inr (inr (inr (inr (inr (inr (inr (succeeded, bodies)))))))))

abbrev pub body_to : BodyWords (Bool × List Body) → Body
body_to w = roll-Body (layer_to w)

abbrev pub body_from : Body → BodyWords (Bool × List Body)
body_from b = layer_from (out-Body b)

-- a body's words, with its name, however deep transactions nest in it
abbrev mutual
  pub body_words : Body → List Word
  body_words (bodies.Range count more kvs) = codes "range" ∷ range_body.spell (count, (more, kvs))
  body_words (bodies.Put o) = codes "put" ∷ prev.spell o
  body_words (bodies.Delete deleted prevs) = codes "delete" ∷ delete_body.spell (deleted, prevs)
  body_words (bodies.Txn' succeeded m inner) =
      codes "txn" ∷ (branch.spell succeeded ++ (number.spell (row_length inner) ++ row_words inner))
  body_words bodies.Compact = codes "compact" ∷ []
  body_words (bodies.Grant lease ttl) = codes "grant" ∷ (number.spell lease ++ number.spell ttl)
  body_words bodies.Revoke = codes "revoke" ∷ []
  body_words (bodies.KeepAlive lease ttl) = codes "keepalive" ∷ (number.spell lease ++ number.spell ttl)
  body_words (bodies.TimeToLive lease ttl granted keys) =
      codes "timetolive" ∷ timetolive_body.spell (lease, (ttl, (granted, keys)))
  body_words (bodies.Leases leases) = codes "leases" ∷ leases_body.spell leases

  pub row_words : {m : _} → Row_of-Body m → List Word
  row_words end_of-Body = []
  row_words (more_of-Body body rest) = body_words body ++ row_words rest

  pub row_length : {m : _} → Row_of-Body m → ℕ
  row_length end_of-Body = 0
  row_length (more_of-Body body rest) = suc (row_length rest)

-- bodies, each with all that nests in it
abbrev pub body_list : List Body → List Word
body_list inner = number.spell (length inner) ++ flat_map body_words inner

abbrev pub txn_body_words : Bool × List Body → List Word
txn_body_words w = branch.spell w.0 ++ body_list w.1

-- a body; a transaction's only where it may stand
abbrev pub one_body : Bool → Form Body → Form Body
one_body nests inner =
    spelled_as body_words (via body_to body_from (body_words_form (allowed nests (after (codes "txn") (txn_body inner)))))

-- bodies in which at most so many transactions nest
unfoldable pub body_form : ℕ → Form Body
body_form zero = one_body false never
body_form (suc n) = one_body true (body_form n)

abbrev pub max_nesting : ℕ
max_nesting = 128

unfoldable pub body : Form Body
body = body_form max_nesting

-- ---- answers

abbrev pub answer_to : (Header × Body) ⊎ (ℕ × List ℕ) → Answer
answer_to (inl w) = Done (record { header = w.0; body = w.1 })
answer_to (inr w) = Refused (record { code = w.0; text = w.1 })

abbrev pub answer_from : Answer → (Header × Body) ⊎ (ℕ × List ℕ)
answer_from (Done r) = inl (r.header, r.body)
answer_from (Refused r) = inr (r.code, r.text)

-- `CODE TEXT`; a code has 32 bits
unfoldable pub refusal_words : Form (ℕ × List ℕ)
refusal_words = both (number_within 0 (2 ^ 32 - 1)) bytes

-- `ok HEADER BODY` or `err CODE TEXT`
unfoldable pub answer : Form Answer
answer = via answer_to answer_from (named (codes "ok") (both header body) (after (codes "err") refusal_words))
