-- A proxy sends a call: what it may compare, and what becomes of the proxy's keys with it.
use Rattle.std.specs.Prelude.{◌≡◌, ◌≢◌, ◌+◌, ◌==◌, ℕ, true, false, if◌then◌else◌, List}
use Rattle.cache_laws.specs.Moves.View.{Absent, Writing, Leaving, Acquires, Writes, Slot, Call, View, put}
use Rattle.cache_laws.specs.Moves.Invariant.{Inv}

abbrev pub put_row : (ℕ → List ℕ → Slot) → ℕ → (List ℕ → Slot) → ℕ → List ℕ → Slot
put_row slots p row = λ q. if q == p then row else slots q

-- `row` is what the sender has of each key then
abbrev pub sent_by : View → Call → (List ℕ → Slot) → View
sent_by v c row = record v { sent = v.sent + 1; calls = put v.calls (v.sent + 1) c; slots = put_row v.slots c.proxy row }

-- what becomes of the sender's slot of a key
pub data Becomes (v : View) (c : Call) (k : List ℕ) (x y : Slot) : Type 0 where
  -- it stays, and the call compares 0 for the key, if it covers it, or gives it up
  stays : y ≡ x → (c.covers k ≡ true → c.guards k ≢ 0 → x.phase ≡ Leaving) → Becomes v c k x y
  -- the key's owner call, which was due, is out
  writes : x.phase ≡ Writing → x.write ≡ 0 → c.kind ≡ Writes → c.covers k ≡ true → c.guards k ≡ x.create → y ≡ record x { write = v.sent + 1 } → Becomes v c k x y
  -- the key's acquire, which was due, is out
  acquires : x.phase ≡ Absent → c.kind ≡ Acquires → c.key ≡ k → y ≡ record x { acquire = v.sent + 1; spoiled = false } → Becomes v c k x y

pub record Sends (v : View) (c : Call) (row : List ℕ → Slot) : Type 0 where
  -- what it compares is 0 or the create revision of the sender's own entry
  pub compares : (k : List ℕ) → c.covers k ≡ true → c.guards k ≢ 0 → c.guards k ≡ (v.slots c.proxy k).create
  pub entry : (k : List ℕ) → c.covers k ≡ true → c.guards k ≢ 0 → (v.slots c.proxy k).phase ≢ Absent
  -- an acquire is under the sender's session, and covers no key
  pub under : c.kind ≡ Acquires → c.session ≡ (v.terms c.proxy).number
  pub standing : c.kind ≡ Acquires → (v.terms c.proxy).number ≢ 0
  pub uncovered : c.kind ≡ Acquires → (k : List ℕ) → c.covers k ≡ false
  pub becomes : (k : List ℕ) → Becomes v c k (v.slots c.proxy k) (row k)

abbrev pub SendsKeep : Type 0
SendsKeep = (holder : ℕ → ℕ) (v : View) (c : Call) (row : List ℕ → Slot) → Sends v c row → Inv holder v → Inv holder (sent_by v c row)
