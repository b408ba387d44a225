-- A server's whole course, by how it ends.
use Rattle.std.proofs.Common.{◌≡◌, ℕ, ◌≤◌, arith, true, OnOk, OnErr, List, [], ◌∷◌, ◌++◌, map, Option, Result, Ok, Err, refl, sym, ap, ◌∙◌, subst}
use Rattle.std.specs.Io.KnownBytes.{Appends}
use Rattle.outside.specs.Streams.{WritesFront}
use Rattle.outside.specs.Calls.{Adds, Handed, HostCall, Listened}
use Rattle.outside.specs.Faults.{HasCause, Rose}
use Rattle.outside.specs.declared.parts.Part.{Part}
use Rattle.outside.specs.declared.source.Failed.{Failed}
use Rattle.proxy_service.specs.declared.ends.ServeEnd.{ServeEnd}
use Rattle.proxy_service.specs.declared.ends.ServeEnd.TheVariants.{NoMemory, ListenerFault, SpawnerFault}
use Rattle.proxy_service.specs.Announced as written
use Rattle.proxy_service.specs.Announced.{Announces}
use Rattle.proxy_service.specs.Parts.{started, staff}
use Rattle.proxy_service.specs.Serving as way
use Rattle.proxy_service.specs.Serving.{Starts, Tends, Goes}
use Rattle.proxy_service.specs.Told.{Hands, IsStarted, IsTended, IsServed}
use Rattle.proxy_service.proofs.Hands.{adds_then, hands_none, hands_then}
use Rattle.proxy_service.proofs.Starting.{started_all}

starts_heard : {Q : Type 0} (parts : List Q) (handed : List (Handed Q)) (r : Result (Unit {0}) ServeEnd) → Starts parts handed r → r ≡ Err ListenerFault → ⊥
starts_heard _ _ _ (way.all parts) e = cc
starts_heard _ _ _ (way.unstarted front part rest) e = cc
starts_heard _ _ _ (way.unplaced front part rest) e = cc

tends_started : {H C : Type 0} (home : H) (calls : List (HostCall C)) (parts : List (Handed (Part H C))) (end : ServeEnd) → Tends home calls parts end → end ≡ SpawnerFault → ⊥
tends_started home _ _ _ (way.stopped clients) e = cc
tends_started home _ _ _ (way.closed clients why) e = cc
tends_started home _ _ _ (way.unplaced clients last) e = cc

-- the line of a server's start was written, or wasn't
pub announced_by : (line : List ℕ) (old new : Option (List ℕ)) (n m : ℕ) (r : Result (Unit {0}) Failed) → OnOk r (Appends old new line) → OnErr r (WritesFront old new line)
    → HasCause n m r → Announces line old new n m true
announced_by line old new n m (Ok done) a f c = written.whole a
announced_by line old new n m (Err why) a f c = written.front f c.rose

-- of its start this line was told
module _ {P H C : Type 0} (home_of : P → H) (home : H) (address : List ℕ) (workers : ℕ) (line : List ℕ) (told told' : Option (List ℕ)) (tells tells' : ℕ) where
  pub deaf : (a b : Option (List (HostCall C))) (n m : ℕ) (h : Option (List (Handed (Part P C)))) (k : ℕ) (why : Failed)
      → Adds a b (Listened address (Err why) ∷ []) → HasCause {T = Unit {0}} n m (Err why) → told' ≡ told → IsServed home_of home address workers a b n m h h k k line told told' tells tells' ListenerFault
  deaf a b n m h k why t cause e = record {
    calls = Listened address (Err why) ∷ [];
    parts = [];
    goes = way.deaf why;
    asks = t;
    hands = hands_none home_of h;
    announced = written.silent e;
    unheard = λ e. cause.rose;
    unstarted = λ e. cc;
  }

  pub unstaffed : (a b : Option (List (HostCall C))) (n m : ℕ) (h i : Option (List (Handed (Part P C)))) (k l : ℕ) (end : ServeEnd)
      → Adds a b (Listened address (Ok tt) ∷ []) → IsStarted home_of (staff home workers) h i k l (Err end)
      → Announces line told told' tells tells' true → IsServed home_of home address workers a b n m h i k l line told told' tells tells' end
  unstaffed a b n m h i k l end t s w = record {
    calls = Listened address (Ok tt) ∷ [];
    parts = s.handed;
    goes = way.unstaffed s.handed end s.starts;
    asks = t;
    hands = s.hands;
    announced = w;
    unheard = λ e. absurd (starts_heard (staff home workers) s.handed (Err end) s.starts (ap (λ (x : ServeEnd). Err x) e));
    unstarted = λ e. s.caused (ap (λ (x : ServeEnd). Err x) e);
  }

  pub served : (a b c : Option (List (HostCall C))) (n m q : ℕ) (h i j : Option (List (Handed (Part P C)))) (k l r : ℕ) (end : ServeEnd)
      → Adds a b (Listened address (Ok tt) ∷ []) → HasCause {T = Unit {0}} {E = Failed} n m (Ok tt) → IsStarted home_of (staff home workers) h i k l (Ok tt)
      → IsTended home_of home b c i j m q end
      → Announces line told told' tells tells' true → IsServed home_of home address workers a c n q h j k r line told told' tells tells' end
  served a b c n m q h i j k l r end t cause s o w = record {
    calls = Listened address (Ok tt) ∷ o.calls;
    parts = map started (staff home workers) ++ o.parts;
    goes = way.served o.calls o.parts end o.tends;
    asks = adds_then a b c (Listened address (Ok tt) ∷ []) o.calls t o.asks;
    hands = hands_then home_of h i j (map started (staff home workers)) o.parts
        (subst (Hands home_of h i) (started_all (staff home workers) s.handed (Ok tt) s.starts refl) s.hands) o.hands;
    announced = w;
    unheard = λ e. let rose = o.caused e in let kept = cause.kept in omega (arith, rose, kept);
    unstarted = λ e. absurd (tends_started home o.calls o.parts end o.tends e);
  }
