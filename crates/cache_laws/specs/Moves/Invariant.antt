-- What holds of the view at every moment, part by part, each over just what it reads. `holder` says which proxy draws a session
-- number; no move changes it.
use Rattle.std.specs.Prelude.{◌≡◌, ◌≢◌, ℕ, ◌+◌, ◌*◌, ◌<◌, ◌≤◌, Bool, true, false, List, Option}
use Rattle.etcd_types.specs.declared.record.Kv.{Kv}
use Rattle.proxy_model.specs.RequestRefusals.{is_session}
use Rattle.cache_laws.specs.Moves.View.{Absent, Held, Writing, Acquires, Writes, Owner, Slot, Term, Call, Outcome, View, live}
use Rattle.store_model.specs.LeftRecords.{lease_of}

-- a session's number that this proxy drew
pub record Drew (holder : ℕ → ℕ) (drawn : ℕ → Bool) (p number : ℕ) : Type 0 where
  pub by : holder number ≡ p
  pub taken : drawn number ≡ true
  pub reserved : is_session number ≡ true

-- a create revision that an acquire of this proxy made
pub record Mine (holder : ℕ → ℕ) (rev : ℕ) (made : ℕ → ℕ) (p create : ℕ) : Type 0 where
  pub some : create ≢ 0
  pub past : create ≤ rev
  pub own : holder (made create) ≡ p

-- every call that covers the key and compares this create revision was executed
abbrev pub Quiet : (ℕ → Call) → (ℕ → Outcome) → List ℕ → ℕ → Type 0
Quiet calls outcomes k create = (i : ℕ) → (calls i).covers k ≡ true → (calls i).guards k ≡ create → (outcomes i).done ≡ true

abbrev pub QuietBut : (ℕ → Call) → (ℕ → Outcome) → List ℕ → ℕ → ℕ → Type 0
QuietBut calls outcomes k create write = (i : ℕ) → i ≢ write → (calls i).covers k ≡ true → (calls i).guards k ≡ create → (outcomes i).done ≡ true

-- the store has the ownership key with this create revision under this session, the record that the proxy has, and no call that
-- could change them is out
pub record Owned (calls : ℕ → Call) (outcomes : ℕ → Outcome) (session : ℕ) (owner : Owner) (kv : Option Kv) (k : List ℕ) (create : ℕ) (held : Option Kv) : Type 0 where
  pub some : create ≢ 0
  pub created : owner.create ≡ create
  pub under : owner.session ≡ session
  pub same : kv ≡ held
  pub unleased : lease_of kv ≡ 0
  pub quiet : Quiet calls outcomes k create

-- the same with one call out, the owner's own write: until it is executed the record is the old one, from then on the one that it
-- left, which its operations make of the old one where it wasn't refused
pub record Written (calls : ℕ → Call) (outcomes : ℕ → Outcome) (session : ℕ) (owner : Owner) (kv : Option Kv) (k : List ℕ) (create write : ℕ) (held : Option Kv) : Type 0 where
  pub created : owner.create ≡ create
  pub under : owner.session ≡ session
  pub kind : (calls write).kind ≡ Writes
  pub covers : (calls write).covers k ≡ true
  pub guards : (calls write).guards k ≡ create
  pub before : (outcomes write).done ≡ false → kv ≡ held
  pub failed : (outcomes write).done ≡ true → (outcomes write).ok ≡ false → kv ≡ held
  pub after : (outcomes write).done ≡ true → (outcomes write).ok ≡ true → kv ≡ (outcomes write).leaves k held
  pub unleased : lease_of kv ≡ 0
  pub quiet : QuietBut calls outcomes k create write

-- of one proxy and one key, where `session` is the proxy's live one
pub record SlotOk (holder : ℕ → ℕ) (rev sent : ℕ) (made : ℕ → ℕ) (calls : ℕ → Call) (outcomes : ℕ → Outcome) (session : ℕ) (owner : Owner) (kv : Option Kv) (p : ℕ) (k : List ℕ) (x : Slot) : Type 0 where
  pub entry : x.phase ≢ Absent → Mine holder rev made p x.create
  pub held : session ≢ 0 → x.phase ≡ Held → Owned calls outcomes session owner kv k x.create x.kv
  pub due : session ≢ 0 → x.phase ≡ Writing → x.write ≡ 0 → Owned calls outcomes session owner kv k x.create x.kv
  pub out : session ≢ 0 → x.phase ≡ Writing → x.write ≢ 0 → Written calls outcomes session owner kv k x.create x.write x.kv
  pub acquire_sent : x.acquire ≤ sent
  pub write_sent : x.write ≤ sent
  pub asked : x.acquire ≢ 0 → (calls x.acquire).kind ≡ Acquires
  pub asked_key : x.acquire ≢ 0 → (calls x.acquire).key ≡ k
  pub asked_by : x.acquire ≢ 0 → (calls x.acquire).proxy ≡ p
  -- a key whose acquire is out has no entry
  pub apart : x.acquire ≢ 0 → x.phase ≡ Absent
  -- an acquire that was executed as succeeded, isn't spoiled, and names the live session
  pub won : session ≢ 0 → x.acquire ≢ 0 → x.spoiled ≡ false → (calls x.acquire).session ≡ session → (outcomes x.acquire).done ≡ true → (outcomes x.acquire).ok ≡ true
      → Owned calls outcomes session owner kv k (outcomes x.acquire).create ((outcomes x.acquire).kvs k)

-- an ownership key's create revision tells its session
pub record OwnerOk (rev : ℕ) (made : ℕ → ℕ) (owner : Owner) : Type 0 where
  pub past : owner.create ≤ rev
  pub maker : owner.create ≢ 0 → made owner.create ≡ owner.session
  pub none : owner.create ≡ 0 → owner.session ≡ 0

-- what a call compares is nothing, or a create revision that an acquire of its proxy made
pub record CallOk (holder : ℕ → ℕ) (rev : ℕ) (made : ℕ → ℕ) (c : Call) (k : List ℕ) : Type 0 where
  pub past : c.covers k ≡ true → c.guards k ≤ rev
  pub own : c.covers k ≡ true → c.guards k ≢ 0 → holder (made (c.guards k)) ≡ c.proxy

-- an acquire is under a session that its proxy drew, and covers no key
pub record AcquireOk (holder : ℕ → ℕ) (drawn : ℕ → Bool) (c : Call) : Type 0 where
  pub under : c.kind ≡ Acquires → Drew holder drawn c.proxy c.session
  pub uncovered : c.kind ≡ Acquires → (k : List ℕ) → c.covers k ≡ false

-- a call that wasn't sent yet
pub record Unsent (c : Call) (o : Outcome) : Type 0 where
  pub covers : (k : List ℕ) → c.covers k ≡ false
  pub done : o.done ≡ false
  pub still : o.ok ≡ false
  pub untimed : o.ttl ≡ 0

-- what an answer on the way shows: owners that the store had, an acquire's own create revision, a time to live that is in the floor
pub record OutcomeOk (rev : ℕ) (made floors : ℕ → ℕ) (c : Call) (o : Outcome) : Type 0 where
  pub owners : (k : List ℕ) → OwnerOk rev made (o.owners k)
  pub created : c.kind ≡ Acquires → o.ok ≡ true → o.create ≢ 0
  pub past : c.kind ≡ Acquires → o.ok ≡ true → o.create ≤ rev
  pub maker : c.kind ≡ Acquires → o.ok ≡ true → made o.create ≡ c.session
  pub floor : o.ttl ≢ 0 → c.at + 1000 * o.ttl ≤ floors c.session

-- a proxy's session is its own and its deadline is at most the floor; one that is asked for is named by no acquire yet
pub record TermOk (holder : ℕ → ℕ) (drawn : ℕ → Bool) (floors : ℕ → ℕ) (calls : ℕ → Call) (p : ℕ) (t : Term) : Type 0 where
  pub standing : t.number ≢ 0 → Drew holder drawn p t.number
  pub floor : t.number ≢ 0 → t.deadline ≤ floors t.number
  pub drew : t.asked ≢ 0 → Drew holder drawn p t.asked
  pub alone : t.asked ≢ 0 → t.number ≡ 0
  pub unnamed : t.asked ≢ 0 → (i : ℕ) → (calls i).kind ≡ Acquires → (calls i).session ≢ t.asked

-- a session is there while its holder's clock is below its floor
abbrev pub LeaseOk : (ℕ → ℕ) → (ℕ → ℕ) → (ℕ → ℕ) → (ℕ → Bool) → ℕ → Type 0
LeaseOk holder clocks floors leases number = is_session number ≡ true → clocks (holder number) < floors number → leases number ≡ true

pub record Inv (holder : ℕ → ℕ) (v : View) : Type 0 where
  pub unsent : (i : ℕ) → v.sent < i → Unsent (v.calls i) (v.outcomes i)
  pub owners : (k : List ℕ) → OwnerOk v.rev v.made (v.owners k)
  pub told : (rev : ℕ) (k : List ℕ) → rev ≤ v.rev → OwnerOk v.rev v.made (v.told rev k)
  pub calls : (i : ℕ) (k : List ℕ) → CallOk holder v.rev v.made (v.calls i) k
  pub acquires : (i : ℕ) → AcquireOk holder v.drawn (v.calls i)
  pub outcomes : (i : ℕ) → OutcomeOk v.rev v.made v.floors (v.calls i) (v.outcomes i)
  pub terms : (p : ℕ) → TermOk holder v.drawn v.floors v.calls p (v.terms p)
  pub leases : (number : ℕ) → LeaseOk holder v.clocks v.floors v.leases number
  pub slots : (p : ℕ) (k : List ℕ) → SlotOk holder v.rev v.sent v.made v.calls v.outcomes (live v p) (v.owners k) (v.kvs k) p k (v.slots p k)
