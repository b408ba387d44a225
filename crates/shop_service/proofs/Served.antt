-- A server's whole course, by how it ends.
use Rattle.std.proofs.Common.{◌≡◌, ℕ, ◌≤◌, arith, true, OnOk, OnErr, List, [], ◌∷◌, ◌++◌, Option, Result, Ok, Err}
use Rattle.std.specs.Io.KnownBytes.{Appends}
use Rattle.outside.specs.Streams.{WritesFront}
use Rattle.outside.specs.Calls.{Adds, Handed, HostCall, Listened}
use Rattle.outside.specs.Faults.{HasCause, Rose}
use Rattle.outside.specs.declared.parts.Part.{Part}
use Rattle.outside.specs.declared.source.Failed.{Failed}
use Rattle.proxy_service.specs.declared.ends.ServeEnd.{ServeEnd}
use Rattle.proxy_service.specs.declared.ends.ServeEnd.TheVariants.{ListenerFault}
use Rattle.proxy_service.specs.Announced as written
use Rattle.proxy_service.specs.Announced.{Announces}
use Rattle.proxy_service.proofs.Hands.{adds_then, hands_none}
use Rattle.shop_service.specs.Serving as way
use Rattle.shop_service.specs.Told.{IsTended, IsServed}

-- of its start this line was told
module _ {P H C : Type 0} (home_of : P → H) (home : H) (address line : List ℕ) (told told' : Option (List ℕ)) (tells tells' : ℕ) where
  pub deaf : (a b : Option (List (HostCall C))) (n m : ℕ) (h : Option (List (Handed (Part P C)))) (why : Failed)
      → Adds a b (Listened address (Err why) ∷ []) → HasCause {T = Unit {0}} n m (Err why) → told' ≡ told → IsServed home_of home address a b n m h h line told told' tells tells' ListenerFault
  deaf a b n m h why t cause e = record {
    calls = Listened address (Err why) ∷ [];
    parts = [];
    goes = way.deaf why;
    asks = t;
    hands = hands_none home_of h;
    announced = written.silent e;
    unheard = λ e. cause.rose;
  }

  pub served : (a b c : Option (List (HostCall C))) (n m q : ℕ) (h i : Option (List (Handed (Part P C)))) (end : ServeEnd)
      → Adds a b (Listened address (Ok tt) ∷ []) → HasCause {T = Unit {0}} {E = Failed} n m (Ok tt) → IsTended home_of home b c h i m q end
      → Announces line told told' tells tells' true → IsServed home_of home address a c n q h i line told told' tells tells' end
  served a b c n m q h i end t cause o w = record {
    calls = Listened address (Ok tt) ∷ o.calls;
    parts = o.parts;
    goes = way.served o.calls o.parts end o.tends;
    asks = adds_then a b c (Listened address (Ok tt) ∷ []) o.calls t o.asks;
    hands = o.hands;
    announced = w;
    unheard = λ e. let rose = o.caused e in let kept = cause.kept in omega (arith, rose, kept);
  }
