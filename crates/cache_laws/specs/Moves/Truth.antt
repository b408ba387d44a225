-- What the view's invariant is for: what a proxy has of the keys that it holds is what the store has.
use Rattle.std.specs.Prelude.{◌≡◌, ◌≢◌, ℕ, true, List}
use Rattle.cache_laws.specs.Moves.View.{Held, View, opening, live}
use Rattle.cache_laws.specs.Moves.Invariant.{Inv}

-- it holds at the start
abbrev pub OpeningIsTrue : Type 0
OpeningIsTrue = (holder : ℕ → ℕ) → Inv holder opening

-- a held entry of a live session has the store's record
abbrev pub HeldIsTrue : Type 0
HeldIsTrue = (holder : ℕ → ℕ) (v : View) (p : ℕ) (k : List ℕ) → Inv holder v → live v p ≢ 0 → (v.slots p k).phase ≡ Held → (v.slots p k).kv ≡ v.kvs k

-- and the store's ownership key is the entry's, under this session
abbrev pub HeldIsOwned : Type 0
HeldIsOwned =
    (holder : ℕ → ℕ) (v : View) (p : ℕ) (k : List ℕ) → Inv holder v → live v p ≢ 0 → (v.slots p k).phase ≡ Held
    → v.owners k ≡ record { create = (v.slots p k).create; session = live v p }

-- so no two proxies hold a key
abbrev pub HeldByOne : Type 0
HeldByOne =
    (holder : ℕ → ℕ) (v : View) (p q : ℕ) (k : List ℕ) → Inv holder v → live v p ≢ 0 → live v q ≢ 0 → (v.slots p k).phase ≡ Held → (v.slots q k).phase ≡ Held → p ≡ q

-- a session that is live has not expired at the store
abbrev pub LiveSessionsStand : Type 0
LiveSessionsStand = (holder : ℕ → ℕ) (v : View) (p : ℕ) → Inv holder v → live v p ≢ 0 → v.leases (live v p) ≡ true
