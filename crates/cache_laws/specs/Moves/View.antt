-- The view of true caches: for each proxy and key what the proxy has of it, for each call what was asked and what came of it,
-- and for each key what the store has. Keys are bare, and the store is that of the bare keys. Nothing here is kept by a
-- program: the view is what the laws speak of, and whoever steps a proxy or the store shows which of its moves that is.
use Rattle.std.specs.Prelude.{ℕ, ◌==◌, nat_lt, Bool, false, if◌then◌else◌, List, [], Option, None}
use Rattle.etcd_types.specs.declared.record.Kv.{Kv}

-- What a proxy has of a key.

-- an entry of the lease table by its phase, or that there is none
pub data Phase : Type 0 where
  Absent : Phase
  Held : Phase
  Writing : Phase
  Leaving : Phase

pub record Slot : Type 0 where
  pub phase : Phase
  -- the entry's create revision and its record
  pub create : ℕ
  pub kv : Option Kv
  -- the acquire that the proxy waits for, 0 where none is out
  pub acquire : ℕ
  -- that acquire is to make no entry that is held
  pub spoiled : Bool
  -- the owner call that a Writing entry waits for, 0 while that is due
  pub write : ℕ

abbrev pub no_slot : Slot
no_slot = record { phase = Absent; create = 0; kv = None; acquire = 0; spoiled = false; write = 0 }

-- A proxy's session, by its lease number; 0 stands for none.
pub record Term : Type 0 where
  -- the session that was granted, and its deadline by the proxy's clock
  pub number : ℕ
  pub deadline : ℕ
  -- the session that a grant is due or out for
  pub asked : ℕ

abbrev pub no_term : Term
no_term = record { number = 0; deadline = 0; asked = 0 }

-- What the store has of a key's ownership: the create revision of the ownership key and its lease, zeros where there is none.
pub record Owner : Type 0 where
  pub create : ℕ
  pub session : ℕ

abbrev pub nobody : Owner
nobody = record { create = 0; session = 0 }

-- Calls.

pub data Kind : Type 0 where
  -- of a key's ownership
  Acquires : Kind
  -- a guest or an owner write, of one key or of several
  Writes : Kind
  -- of a key that is given up
  Rescinds : Kind
  -- a session's grant and keepalive
  Grants : Kind
  Keeps : Kind
  -- a revoke call, a read, a client's lease, ..
  Other : Kind

-- what was asked
pub record Call : Type 0 where
  pub proxy : ℕ
  -- the sender's clock at the sending
  pub at : ℕ
  pub kind : Kind
  -- an acquire's key
  pub key : List ℕ
  -- the session of an acquire, a grant or a keepalive
  pub session : ℕ
  -- which keys a write writes or a rescind gives up, and the create revision that it compares of each one's ownership key
  pub covers : List ℕ → Bool
  pub guards : List ℕ → ℕ

abbrev pub no_call : Call
no_call = record { proxy = 0; at = 0; kind = Other; key = []; session = 0; covers = λ k. false; guards = λ k. 0 }

-- what came of it
pub record Outcome : Type 0 where
  -- it was executed, also where the store refused it
  pub done : Bool
  -- its compares held and it wasn't refused
  pub ok : Bool
  -- the create revision of the ownership key that an acquire put
  pub create : ℕ
  -- the time to live that a grant or a keepalive was answered, in seconds
  pub ttl : ℕ
  -- the records and the owners that the store then had
  pub kvs : List ℕ → Option Kv
  pub owners : List ℕ → Owner
  -- what the operations that ran leave of a key's record
  pub leaves : List ℕ → Option Kv → Option Kv

abbrev pub no_outcome : Outcome
no_outcome =
    record { done = false; ok = false; create = 0; ttl = 0; kvs = λ k. None; owners = λ k. nobody; leaves = λ k old. old }

-- All proxies, all calls, and the store.
pub record View : Type 0 where
  -- the newest revision, and which session made each create revision of an ownership key
  pub rev : ℕ
  pub made : ℕ → ℕ
  -- the owners and the records, and the owners that the store had at each revision
  pub owners : List ℕ → Owner
  pub kvs : List ℕ → Option Kv
  pub told : ℕ → List ℕ → Owner
  -- the leases that are there; of a session the greatest clock at sending plus time to live of its executed grant and
  -- keepalives, in milliseconds, below which no one lets it expire
  pub leases : ℕ → Bool
  pub floors : ℕ → ℕ
  -- the session numbers that were drawn
  pub drawn : ℕ → Bool
  -- calls are numbered from 1, and so many were sent
  pub sent : ℕ
  pub calls : ℕ → Call
  pub outcomes : ℕ → Outcome
  -- of each proxy its clock, its session, and what it has of each key
  pub clocks : ℕ → ℕ
  pub terms : ℕ → Term
  pub slots : ℕ → List ℕ → Slot

-- before the first line
abbrev pub opening : View
opening =
    record {
      rev = 1;
      made = λ create. 0;
      owners = λ k. nobody;
      kvs = λ k. None;
      told = λ rev k. nobody;
      leases = λ number. false;
      floors = λ number. 0;
      drawn = λ number. false;
      sent = 0;
      calls = λ i. no_call;
      outcomes = λ i. no_outcome;
      clocks = λ p. 0;
      terms = λ p. no_term;
      slots = λ p k. no_slot;
    }

-- a proxy's session where it is live by the proxy's clock, and else 0
abbrev pub live_by : ℕ → Term → ℕ
live_by clock t = if nat_lt clock t.deadline then t.number else 0

abbrev pub live : View → ℕ → ℕ
live v p = live_by (v.clocks p) (v.terms p)

abbrev pub put : {A : Type 0} → (ℕ → A) → ℕ → A → ℕ → A
put m i x = λ j. if j == i then x else m j
