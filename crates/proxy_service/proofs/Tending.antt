-- Clients, one after the other.
use Rattle.std.proofs.Common.{◌≡◌, ℕ, suc, ◌+◌, ◌*◌, ◌^◌, ◌≤◌, min, arith, Bool, true, false, List, [], ◌∷◌, ◌++◌, map, length, Option, None, Some, Result, Ok, Err, refl, sym, ap, ◌∙◌, subst, append_assoc, append-nil, length-append}
use Rattle.std.proofs.lemmas.List.{map-append}
use Rattle.outside.specs.Calls.{Adds, Handed, HostCall, Accepted}
use Rattle.outside.specs.Faults.{HasCause, Rose}
use Rattle.outside.specs.declared.parts.Part.{Part}
use Rattle.outside.specs.declared.parts.Part.TheVariants.{Connection}
use Rattle.outside.specs.declared.parts.TicketRange.{TicketRange}
use Rattle.outside.specs.declared.source.Failed.{Failed}
use Rattle.proxy_service.specs.declared.ends.ServeEnd.{ServeEnd}
use Rattle.proxy_service.specs.declared.ends.ServeEnd.TheVariants.{Stopped, NoMemory, ListenerFault}
use Rattle.proxy_service.specs.Parts.{at_home, Client, accepts, tickets_of, connection, connections}
use Rattle.proxy_service.specs.Serving.{Tends, stopped, closed, unplaced}
use Rattle.proxy_service.specs.Told.{Hands, TendsOne, IsTendedOne, IsTending, IsTended}
use Rattle.proxy_service.specs.Told as one
use Rattle.proxy_service.proofs.Hands.{adds_then, adds_none, hands_none, hands_then, hands_one}

-- ---- of lists

-- numbers from 2^31 on have the same tickets, which are none
tickets_as : (k : ℕ) → tickets_of (min k (2 ^ 31)) ≡ tickets_of k
tickets_as k =
    let e : min (min k (2 ^ 31)) (2 ^ 31) ≡ min k (2 ^ 31) = omega arith in
    let f : min (min k (2 ^ 31) + 1) (2 ^ 31) ≡ min (k + 1) (2 ^ 31) = omega arith in
    λ i. record { next = e i * 2 ^ 32 + 1; end = f i * 2 ^ 32 + 1 }

connection_as : {H C : Type 0} (home : H) (number k : ℕ) (client : Client C) → number ≡ min k (2 ^ 31) → connection home number client ≡ connection home k client
connection_as {H} {C} home number k client e =
    let t = ap tickets_of e ∙ tickets_as k in
    ap (λ (tickets : TicketRange). record { part = Connection home client.connection tickets; started = client.started }) t

connections_more : {H C : Type 0} (home : H) (n : ℕ) (clients : List (Client C)) (client : Client C)
    → connections home n (clients ++ (client ∷ [])) ≡ connections home n clients ++ (connection home (n + length clients) client ∷ [])
connections_more {H} {C} home n [] client = ap (λ (m : ℕ). connection home m client ∷ []) (let e : n ≡ n + 0 = omega arith in e)
connections_more {H} {C} home n (c ∷ cs) client =
    let e : (n + 1) + length cs ≡ n + suc (length cs) = omega arith in
    ap (λ (l : List (Handed (Part H C))). connection home n c ∷ l)
    (connections_more home (n + 1) cs client ∙ ap (λ (m : ℕ). connections home (n + 1) cs ++ (connection home m client ∷ [])) e)

accepts_more : {C : Type 0} (clients : List (Client C)) (client : Client C) → accepts (clients ++ (client ∷ [])) ≡ accepts clients ++ (Accepted (Ok (Some client.connection)) ∷ [])
accepts_more {C} clients client = map-append (λ (c : Client C). Accepted (Ok (Some c.connection))) clients (client ∷ [])

-- ---- one client

module _ {P H C : Type 0} (home_of : P → H) (home : H) where
  pub one_closed : (number : ℕ) (a b : Option (List (HostCall C))) (h : Option (List (Handed (Part P C)))) (n m : ℕ) (why : Failed)
      → Adds a b (Accepted (Err why) ∷ []) → HasCause {T = Option C} n m (Err why) → IsTendedOne home_of home number a b h h n m (Err ListenerFault)
  one_closed number a b h n m why t cause = record {
    calls = Accepted (Err why) ∷ [];
    parts = [];
    tends = one.closed why;
    asks = t;
    hands = hands_none home_of h;
    kept = cause.kept;
    caused = λ e. cause.rose;
  }

  pub one_stopped : (number : ℕ) (a b : Option (List (HostCall C))) (h : Option (List (Handed (Part P C)))) (n m : ℕ)
      → (came : Option C) → came ≡ None → Adds a b (Accepted (Ok came) ∷ []) → HasCause {T = Option C} {E = Failed} n m (Ok came) → IsTendedOne home_of home number a b h h n m (Err Stopped)
  one_stopped number a b h n m came is t cause = record {
    calls = Accepted (Ok None) ∷ [];
    parts = [];
    tends = one.stopped;
    asks = subst (λ (x : Option C). Adds a b (Accepted (Ok x) ∷ [])) is t;
    hands = hands_none home_of h;
    kept = cause.kept;
    caused = λ e. cc;
  }

  pub one_unplaced : (number : ℕ) (a b : Option (List (HostCall C))) (h : Option (List (Handed (Part P C)))) (n m : ℕ) (came : Option C) (last : C) → came ≡ Some last
      → Adds a b (Accepted (Ok came) ∷ []) → HasCause {T = Option C} {E = Failed} n m (Ok came) → IsTendedOne home_of home number a b h h n m (Err NoMemory)
  one_unplaced number a b h n m came last is t cause = record {
    calls = Accepted (Ok (Some last)) ∷ [];
    parts = [];
    tends = one.unplaced last;
    asks = subst (λ (x : Option C). Adds a b (Accepted (Ok x) ∷ [])) is t;
    hands = hands_none home_of h;
    kept = cause.kept;
    caused = λ e. cc;
  }

  pub one_served : (number : ℕ) (a b : Option (List (HostCall C))) (h k : Option (List (Handed (Part P C)))) (n m : ℕ) (came : Option C) (client : C) (place : P) (tickets : TicketRange) (started : Bool)
      → came ≡ Some client → Adds a b (Accepted (Ok came) ∷ []) → HasCause {T = Option C} {E = Failed} n m (Ok came) → home_of place ≡ home → tickets ≡ tickets_of number
      → Adds h k (record { part = Connection place client tickets; started = started } ∷ []) → IsTendedOne home_of home number a b h k n m (Ok tt)
  one_served number a b h k n m came client place tickets started is t cause at numbered u = record {
    calls = Accepted (Ok (Some client)) ∷ [];
    parts = connection home number (record { connection = client; started = started }) ∷ [];
    tends = one.served (record { connection = client; started = started });
    asks = subst (λ (x : Option C). Adds a b (Accepted (Ok x) ∷ [])) is t;
    hands = hands_one home_of (Connection place client tickets) (Connection home client (tickets_of number)) started h k (λ i. Connection (at i) client (numbered i)) u;
    kept = cause.kept;
    caused = λ e. cc;
  }

-- ---- all of them

module _ {P H C : Type 0} (home_of : P → H) (home : H) where
  pub tending_none : (a : Option (List (HostCall C))) (h : Option (List (Handed (Part P C)))) (n : ℕ) → IsTending home_of home 0 a a h h n n
  tending_none a h n = record { clients = []; numbered = refl; asks = adds_none a; hands = hands_none home_of h; kept = omega arith }

  more_by : (number : ℕ) (a b c : Option (List (HostCall C))) (h i k : Option (List (Handed (Part P C)))) (n m l : ℕ) → IsTending home_of home number a b h i n m
      → (calls : List (HostCall C)) (parts : List (Handed (Part H C))) (r : Result (Unit {0}) ServeEnd) → TendsOne home number calls parts r → r ≡ Ok tt
      → Adds b c calls → Hands home_of i k parts → m ≤ l → IsTending home_of home (min (number + 1) (2 ^ 31)) a c h k n l
  more_by number a b c h i k n m l s _ _ _ (one.served client) e t u le =
      let at = connection_as home number (length s.clients) client s.numbered in
      let few = s.numbered in
      let count : length (s.clients ++ (client ∷ [])) ≡ length s.clients + 1 = length-append s.clients (client ∷ []) in
      record {
        clients = s.clients ++ (client ∷ []);
        numbered = omega (arith, few, count);
        asks = subst (Adds a c) (sym (accepts_more s.clients client)) (adds_then a b c (accepts s.clients) (Accepted (Ok (Some client.connection)) ∷ []) s.asks t);
        hands = subst (Hands home_of h k)
            (ap (λ (p : Handed (Part H C)). connections home 0 s.clients ++ (p ∷ [])) (at ∙ ap (λ (q : ℕ). connection home q client) (let z : length s.clients ≡ 0 + length s.clients = omega arith in z))
            ∙ sym (connections_more home 0 s.clients client))
            (hands_then home_of h i k (connections home 0 s.clients) (connection home number client ∷ []) s.hands u);
        kept = let kept = s.kept in omega (arith, kept, le);
      }
  more_by number a b c h i k n m l s _ _ _ one.stopped e t u le = cc
  more_by number a b c h i k n m l s _ _ _ (one.closed why) e t u le = cc
  more_by number a b c h i k n m l s _ _ _ (one.unplaced last) e t u le = cc

  pub tending_more : (number next : ℕ) (a b c : Option (List (HostCall C))) (h i k : Option (List (Handed (Part P C)))) (n m l : ℕ) → next ≡ min (number + 1) (2 ^ 31)
      → IsTending home_of home number a b h i n m → IsTendedOne home_of home number b c i k m l (Ok tt) → IsTending home_of home next a c h k n l
  tending_more number next a b c h i k n m l e s o =
      subst (λ (x : ℕ). IsTending home_of home x a c h k n l) (sym e) (more_by number a b c h i k n m l s o.calls o.parts (Ok tt) o.tends refl o.asks o.hands o.kept)

  last_by : (number : ℕ) (a b c : Option (List (HostCall C))) (h i k : Option (List (Handed (Part P C)))) (n m l : ℕ) (end : ServeEnd) → IsTending home_of home number a b h i n m
      → (calls : List (HostCall C)) (parts : List (Handed (Part H C))) (r : Result (Unit {0}) ServeEnd) → TendsOne home number calls parts r → r ≡ Err end
      → Adds b c calls → Hands home_of i k parts → m ≤ l → (end ≡ ListenerFault → Rose m l) → IsTended home_of home a c h k n l end
  last_by number a b c h i k n m l end s _ _ _ (one.served client) e t u le rose = cc
  last_by number a b c h i k n m l end s _ _ _ one.stopped e t u le rose =
      let is : Stopped ≡ end = cc in record {
        calls = accepts s.clients ++ (Accepted (Ok None) ∷ []);
        parts = connections home 0 s.clients;
        tends = subst (Tends home (accepts s.clients ++ (Accepted (Ok None) ∷ [])) (connections home 0 s.clients)) is (stopped s.clients);
        asks = adds_then a b c (accepts s.clients) (Accepted (Ok None) ∷ []) s.asks t;
        hands = subst (Hands home_of h k) (append-nil (connections home 0 s.clients)) (hands_then home_of h i k (connections home 0 s.clients) [] s.hands u);
        kept = let kept = s.kept in omega (arith, kept, le);
        caused = λ x. let kept = s.kept in let r = rose x in omega (arith, kept, le, r);
      }
  last_by number a b c h i k n m l end s _ _ _ (one.closed why) e t u le rose =
      let is : ListenerFault ≡ end = cc in record {
        calls = accepts s.clients ++ (Accepted (Err why) ∷ []);
        parts = connections home 0 s.clients;
        tends = subst (Tends home (accepts s.clients ++ (Accepted (Err why) ∷ [])) (connections home 0 s.clients)) is (closed s.clients why);
        asks = adds_then a b c (accepts s.clients) (Accepted (Err why) ∷ []) s.asks t;
        hands = subst (Hands home_of h k) (append-nil (connections home 0 s.clients)) (hands_then home_of h i k (connections home 0 s.clients) [] s.hands u);
        kept = let kept = s.kept in omega (arith, kept, le);
        caused = λ x. let kept = s.kept in let r = rose x in omega (arith, kept, le, r);
      }
  last_by number a b c h i k n m l end s _ _ _ (one.unplaced last) e t u le rose =
      let is : NoMemory ≡ end = cc in record {
        calls = accepts s.clients ++ (Accepted (Ok (Some last)) ∷ []);
        parts = connections home 0 s.clients;
        tends = subst (Tends home (accepts s.clients ++ (Accepted (Ok (Some last)) ∷ [])) (connections home 0 s.clients)) is (unplaced s.clients last);
        asks = adds_then a b c (accepts s.clients) (Accepted (Ok (Some last)) ∷ []) s.asks t;
        hands = subst (Hands home_of h k) (append-nil (connections home 0 s.clients)) (hands_then home_of h i k (connections home 0 s.clients) [] s.hands u);
        kept = let kept = s.kept in omega (arith, kept, le);
        caused = λ x. let kept = s.kept in let r = rose x in omega (arith, kept, le, r);
      }

  pub tended : (number : ℕ) (a b c : Option (List (HostCall C))) (h i k : Option (List (Handed (Part P C)))) (n m l : ℕ) (end : ServeEnd) → IsTending home_of home number a b h i n m
      → IsTendedOne home_of home number b c i k m l (Err end) → IsTended home_of home a c h k n l end
  tended number a b c h i k n m l end s o =
      last_by number a b c h i k n m l end s o.calls o.parts (Err end) o.tends refl o.asks o.hands o.kept (λ e. o.caused (ap (λ (w : ServeEnd). Err w) e))

-- the same home under another name
pub one_at : {P H C : Type 0} (home_of : P → H) (home home' : H) (number : ℕ) (a b : Option (List (HostCall C))) (h i : Option (List (Handed (Part P C)))) (n m : ℕ) (r : Result (Unit {0}) ServeEnd)
    → home ≡ home' → IsTendedOne home_of home number a b h i n m r → IsTendedOne home_of home' number a b h i n m r
one_at {H = H} home_of home home' number a b h i n m r e o = subst (λ (x : H). IsTendedOne home_of x number a b h i n m r) e o

pub tended_at : {P H C : Type 0} (home_of : P → H) (home home' : H) (a b : Option (List (HostCall C))) (h i : Option (List (Handed (Part P C)))) (n m : ℕ) (end : ServeEnd)
    → home ≡ home' → IsTended home_of home a b h i n m end → IsTended home_of home' a b h i n m end
tended_at {H = H} home_of home home' a b h i n m end e o = subst (λ (x : H). IsTended home_of x a b h i n m end) e o
