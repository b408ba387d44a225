-- Clients, one after the other.
use Rattle.std.proofs.Common.{◌≡◌, ℕ, ◌≤◌, arith, Bool, List, [], ◌∷◌, ◌++◌, map, Option, None, Some, Result, Ok, Err, refl, sym, ap, ◌∙◌, subst, append-nil}
use Rattle.std.proofs.lemmas.List.{map-append}
use Rattle.outside.specs.Calls.{Adds, Handed, HostCall, Accepted}
use Rattle.outside.specs.Faults.{HasCause, Rose}
use Rattle.outside.specs.declared.parts.Part.{Part}
use Rattle.outside.specs.declared.parts.Part.TheVariants.{Connection}
use Rattle.outside.specs.declared.parts.TicketRange.{TicketRange}
use Rattle.outside.specs.declared.source.Failed.{Failed}
use Rattle.proxy_service.specs.declared.ends.ServeEnd.{ServeEnd}
use Rattle.proxy_service.specs.declared.ends.ServeEnd.TheVariants.{Stopped, NoMemory, ListenerFault}
use Rattle.proxy_service.specs.Parts.{Client, accepts}
use Rattle.proxy_service.specs.Told.{Hands}
use Rattle.proxy_service.proofs.Hands.{adds_then, adds_none, hands_none, hands_then, hands_one}
use Rattle.shop_service.specs.Serving.{Tends, stopped, closed, unplaced, connection, connections}
use Rattle.shop_service.specs.Told.{TendsOne, IsTendedOne, IsTending, IsTended}
use Rattle.shop_service.specs.Told as one

-- ---- one client

module _ {P H C : Type 0} (home_of : P → H) (home : H) where
  pub one_closed : (a b : Option (List (HostCall C))) (h : Option (List (Handed (Part P C)))) (n m : ℕ) (why : Failed)
      → Adds a b (Accepted (Err why) ∷ []) → HasCause {T = Option C} n m (Err why) → IsTendedOne home_of home a b h h n m (Err ListenerFault)
  one_closed a b h n m why t cause = record {
    calls = Accepted (Err why) ∷ [];
    parts = [];
    tends = one.closed why;
    asks = t;
    hands = hands_none home_of h;
    kept = cause.kept;
    caused = λ e. cause.rose;
  }

  pub one_stopped : (a b : Option (List (HostCall C))) (h : Option (List (Handed (Part P C)))) (n m : ℕ)
      → (came : Option C) → came ≡ None → Adds a b (Accepted (Ok came) ∷ []) → HasCause {T = Option C} {E = Failed} n m (Ok came) → IsTendedOne home_of home a b h h n m (Err Stopped)
  one_stopped a b h n m came is t cause = record {
    calls = Accepted (Ok None) ∷ [];
    parts = [];
    tends = one.stopped;
    asks = subst (λ (x : Option C). Adds a b (Accepted (Ok x) ∷ [])) is t;
    hands = hands_none home_of h;
    kept = cause.kept;
    caused = λ e. cc;
  }

  pub one_unplaced : (a b : Option (List (HostCall C))) (h : Option (List (Handed (Part P C)))) (n m : ℕ) (came : Option C) (last : C) → came ≡ Some last
      → Adds a b (Accepted (Ok came) ∷ []) → HasCause {T = Option C} {E = Failed} n m (Ok came) → IsTendedOne home_of home a b h h n m (Err NoMemory)
  one_unplaced a b h n m came last is t cause = record {
    calls = Accepted (Ok (Some last)) ∷ [];
    parts = [];
    tends = one.unplaced last;
    asks = subst (λ (x : Option C). Adds a b (Accepted (Ok x) ∷ [])) is t;
    hands = hands_none home_of h;
    kept = cause.kept;
    caused = λ e. cc;
  }

  pub one_served : (a b : Option (List (HostCall C))) (h k : Option (List (Handed (Part P C)))) (n m : ℕ) (came : Option C) (client : C) (place : P) (started : Bool)
      → came ≡ Some client → Adds a b (Accepted (Ok came) ∷ []) → HasCause {T = Option C} {E = Failed} n m (Ok came) → home_of place ≡ home
      → Adds h k (record { part = Connection place client (record { next = 1; end = 1 }); started = started } ∷ []) → IsTendedOne home_of home a b h k n m (Ok tt)
  one_served a b h k n m came client place started is t cause at u = record {
    calls = Accepted (Ok (Some client)) ∷ [];
    parts = connection home (record { connection = client; started = started }) ∷ [];
    tends = one.served (record { connection = client; started = started });
    asks = subst (λ (x : Option C). Adds a b (Accepted (Ok x) ∷ [])) is t;
    hands = hands_one home_of (Connection place client (record { next = 1; end = 1 })) (Connection home client (record { next = 1; end = 1 })) started h k
        (λ i. Connection (at i) client (record { next = 1; end = 1 })) u;
    kept = cause.kept;
    caused = λ e. cc;
  }

-- ---- all of them

module _ {P H C : Type 0} (home_of : P → H) (home : H) where
  pub tending_none : (a : Option (List (HostCall C))) (h : Option (List (Handed (Part P C)))) (n : ℕ) → IsTending home_of home a a h h n n
  tending_none a h n = record { clients = []; asks = adds_none a; hands = hands_none home_of h; kept = omega arith }

  more_by : (a b c : Option (List (HostCall C))) (h i k : Option (List (Handed (Part P C)))) (n m l : ℕ) → IsTending home_of home a b h i n m
      → (calls : List (HostCall C)) (parts : List (Handed (Part H C))) (r : Result (Unit {0}) ServeEnd) → TendsOne home calls parts r → r ≡ Ok tt
      → Adds b c calls → Hands home_of i k parts → m ≤ l → IsTending home_of home a c h k n l
  more_by a b c h i k n m l s _ _ _ (one.served client) e t u le = record {
    clients = s.clients ++ (client ∷ []);
    asks = subst (Adds a c) (sym (map-append (λ (x : Client C). Accepted (Ok (Some x.connection))) s.clients (client ∷ [])))
        (adds_then a b c (accepts s.clients) (Accepted (Ok (Some client.connection)) ∷ []) s.asks t);
    hands = subst (Hands home_of h k) (sym (map-append (connection home) s.clients (client ∷ [])))
        (hands_then home_of h i k (connections home s.clients) (connection home client ∷ []) s.hands u);
    kept = let kept = s.kept in omega (arith, kept, le);
  }
  more_by a b c h i k n m l s _ _ _ one.stopped e t u le = cc
  more_by a b c h i k n m l s _ _ _ (one.closed why) e t u le = cc
  more_by a b c h i k n m l s _ _ _ (one.unplaced last) e t u le = cc

  pub tending_more : (a b c : Option (List (HostCall C))) (h i k : Option (List (Handed (Part P C)))) (n m l : ℕ)
      → IsTending home_of home a b h i n m → IsTendedOne home_of home b c i k m l (Ok tt) → IsTending home_of home a c h k n l
  tending_more a b c h i k n m l s o = more_by a b c h i k n m l s o.calls o.parts (Ok tt) o.tends refl o.asks o.hands o.kept

  last_so : (a b c : Option (List (HostCall C))) (h i k : Option (List (Handed (Part P C)))) (n m l : ℕ) (end : ServeEnd) (s : IsTending home_of home a b h i n m) (call : HostCall C)
      → Tends home (accepts s.clients ++ (call ∷ [])) (connections home s.clients) end → Adds b c (call ∷ []) → Hands home_of i k [] → m ≤ l → (end ≡ ListenerFault → Rose m l)
      → IsTended home_of home a c h k n l end
  last_so a b c h i k n m l end s call tends t u le rose = record {
    calls = accepts s.clients ++ (call ∷ []);
    parts = connections home s.clients;
    tends = tends;
    asks = adds_then a b c (accepts s.clients) (call ∷ []) s.asks t;
    hands = subst (Hands home_of h k) (append-nil (connections home s.clients)) (hands_then home_of h i k (connections home s.clients) [] s.hands u);
    kept = let kept = s.kept in omega (arith, kept, le);
    caused = λ x. let kept = s.kept in let r = rose x in omega (arith, kept, le, r);
  }

  last_by : (a b c : Option (List (HostCall C))) (h i k : Option (List (Handed (Part P C)))) (n m l : ℕ) (end : ServeEnd) → IsTending home_of home a b h i n m
      → (calls : List (HostCall C)) (parts : List (Handed (Part H C))) (r : Result (Unit {0}) ServeEnd) → TendsOne home calls parts r → r ≡ Err end
      → Adds b c calls → Hands home_of i k parts → m ≤ l → (end ≡ ListenerFault → Rose m l) → IsTended home_of home a c h k n l end
  last_by a b c h i k n m l end s _ _ _ (one.served client) e t u le rose = cc
  last_by a b c h i k n m l end s _ _ _ one.stopped e t u le rose =
      let is : Stopped ≡ end = cc in
      last_so a b c h i k n m l end s (Accepted (Ok None)) (subst (Tends home (accepts s.clients ++ (Accepted (Ok None) ∷ [])) (connections home s.clients)) is (stopped s.clients)) t u le rose
  last_by a b c h i k n m l end s _ _ _ (one.closed why) e t u le rose =
      let is : ListenerFault ≡ end = cc in
      last_so a b c h i k n m l end s (Accepted (Err why)) (subst (Tends home (accepts s.clients ++ (Accepted (Err why) ∷ [])) (connections home s.clients)) is (closed s.clients why)) t u le rose
  last_by a b c h i k n m l end s _ _ _ (one.unplaced last) e t u le rose =
      let is : NoMemory ≡ end = cc in
      last_so a b c h i k n m l end s (Accepted (Ok (Some last))) (subst (Tends home (accepts s.clients ++ (Accepted (Ok (Some last)) ∷ [])) (connections home s.clients)) is (unplaced s.clients last)) t u le rose

  pub tended : (a b c : Option (List (HostCall C))) (h i k : Option (List (Handed (Part P C)))) (n m l : ℕ) (end : ServeEnd) → IsTending home_of home a b h i n m
      → IsTendedOne home_of home b c i k m l (Err end) → IsTended home_of home a c h k n l end
  tended a b c h i k n m l end s o =
      last_by a b c h i k n m l end s o.calls o.parts (Err end) o.tends refl o.asks o.hands o.kept (λ e. o.caused (ap (λ (w : ServeEnd). Err w) e))

-- the same home under another name
pub one_at : {P H C : Type 0} (home_of : P → H) (home home' : H) (a b : Option (List (HostCall C))) (h i : Option (List (Handed (Part P C)))) (n m : ℕ) (r : Result (Unit {0}) ServeEnd)
    → home ≡ home' → IsTendedOne home_of home a b h i n m r → IsTendedOne home_of home' a b h i n m r
one_at {H = H} home_of home home' a b h i n m r e o = subst (λ (x : H). IsTendedOne home_of x a b h i n m r) e o
