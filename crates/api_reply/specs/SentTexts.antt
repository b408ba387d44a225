-- The text of a watch's message with events, as etcd's gateway writes it, from left to right: each piece with what follows it. A record's key is
-- there, as etcd has no empty one, so that each later member begins with a comma. Only private clauses cite it.
use Rattle.std.specs.Prelude.{◌≡◌, ℕ, zero, suc, ◌==◌, Bool, true, false, List, [], ◌∷◌, ◌++◌, codes, decimal, Option, None, Some, ⊤}
use Rattle.base64.specs.Engines.{standard}
use Rattle.base64.specs.GeneralPurpose.{encode_of}
use Rattle.etcd_types.specs.Keys.{is_empty}
use Rattle.etcd_types.specs.declared.record.Header.{Header}
use Rattle.etcd_types.specs.declared.record.Kv.{Kv}
use Rattle.etcd_types.specs.declared.watch.Change.{Change}
use Rattle.etcd_types.specs.declared.watch.Change.TheVariants as change
use Rattle.etcd_types.specs.declared.watch.Event.{Event}
use Rattle.json_model.specs.FitReplies.{HeaderFits, RecordFits, ChangeFits}

-- a number's member, and nothing of 0
abbrev pub number_then : List ℕ → ℕ → List ℕ → List ℕ
number_then opening zero rest = rest
number_then opening (suc n) rest = opening ++ (decimal (suc n) ++ 34 ∷ rest)

-- a member of bytes, and nothing of none
abbrev pub bytes_then : List ℕ → List ℕ → List ℕ → List ℕ
bytes_then opening [] rest = rest
bytes_then opening (b ∷ bs) rest = opening ++ (encode_of standard (b ∷ bs) ++ 34 ∷ rest)

-- ---- headers and records

abbrev pub header_then : Header → List ℕ → List ℕ
header_then h rest =
    number_then (codes "{\"result\":{\"header\":{\"cluster_id\":\"") h.cluster
    (number_then (codes ",\"member_id\":\"") h.member
    (number_then (codes ",\"revision\":\"") h.revision
    (number_then (codes ",\"raft_term\":\"") h.term (125 ∷ rest))))

-- the opening is all that stands before the key's text
abbrev pub record_then : List ℕ → Kv → List ℕ → List ℕ
record_then opening kv rest =
    bytes_then opening kv.key
    (number_then (codes ",\"create_revision\":\"") kv.create
    (number_then (codes ",\"mod_revision\":\"") kv.modified
    (number_then (codes ",\"version\":\"") kv.version
    (bytes_then (codes ",\"value\":\"") kv.value
    (number_then (codes ",\"lease\":\"") kv.lease (125 ∷ rest))))))

-- ---- events

abbrev pub deleted_then : List ℕ → ℕ → List ℕ → List ℕ
deleted_then key modified rest =
    bytes_then (codes "{\"type\":\"DELETE\",\"kv\":{\"key\":\"") key (number_then (codes ",\"mod_revision\":\"") modified (125 ∷ rest))

abbrev pub change_then : Change → List ℕ → List ℕ
change_then (change.Put kv) rest = record_then (codes "{\"kv\":{\"key\":\"") kv rest
change_then (change.Delete key modified) rest = deleted_then key modified rest

abbrev pub prev_then : Option Kv → List ℕ → List ℕ
prev_then None rest = rest
prev_then (Some kv) rest = record_then (codes ",\"prev_kv\":{\"key\":\"") kv rest

abbrev pub event_then : Event → List ℕ → List ℕ
event_then e rest = change_then e.change (prev_then e.prev (125 ∷ rest))

-- events behind others
abbrev pub more_then : List Event → List ℕ → List ℕ
more_then [] rest = rest
more_then (e ∷ es) rest = 44 ∷ event_then e (more_then es rest)

-- events with a comma between two
abbrev pub listed_then : List Event → List ℕ → List ℕ
listed_then [] rest = rest
listed_then (e ∷ es) rest = event_then e (more_then es rest)

abbrev pub is_none : List Event → Bool
is_none [] = true
is_none (e ∷ es) = false

abbrev pub events_then : List Event → List ℕ → List ℕ
events_then [] rest = rest
events_then (e ∷ es) rest = codes ",\"events\":[" ++ listed_then (e ∷ es) (93 ∷ rest)

abbrev pub message_text : Header → List Event → List ℕ
message_text h events = header_then h (events_then events (codes "}}"))

-- ---- what has such a text

pub record RecordSent (kv : Kv) : Type 0 where
  pub fits : RecordFits kv
  pub key : is_empty kv.key ≡ false

abbrev pub PrevSent : Option Kv → Type 0
PrevSent None = ⊤
PrevSent (Some kv) = RecordSent kv

abbrev pub ChangeSent : Change → Type 0
ChangeSent (change.Put kv) = RecordSent kv
ChangeSent (change.Delete key modified) = ChangeFits (change.Delete key modified) × (is_empty key ≡ false)

pub record EventSent (e : Event) : Type 0 where
  pub change : ChangeSent e.change
  pub prev : PrevSent e.prev

pub record HeaderSent (h : Header) : Type 0 where
  pub fits : HeaderFits h
  pub cluster : (h.cluster == 0) ≡ false
