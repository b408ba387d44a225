-- The parts that are started before the first client is accepted, one after the other.
use Rattle.std.proofs.Common.{◌≡◌, ℕ, suc, ◌+◌, ◌-◌, ◌<◌, ◌≤◌, arith, Bool, true, false, List, [], ◌∷◌, ◌++◌, map, replicate, Option, None, Some, Result, Ok, Err, IfErr, refl, sym, ap, ◌∙◌, subst, append_assoc, append-nil}
use Rattle.std.proofs.lemmas.List.{map-append, replicate-append-replicate}
use Rattle.outside.specs.Calls.{Adds, Handed, is_done}
use Rattle.outside.specs.Faults.{HasCause, Rose}
use Rattle.outside.specs.declared.parts.Part.{Part}
use Rattle.outside.specs.declared.parts.Part.TheVariants.{Worker}
use Rattle.proxy_service.specs.declared.ends.ServeEnd.{ServeEnd}
use Rattle.proxy_service.specs.declared.ends.ServeEnd.TheVariants.{NoMemory, SpawnerFault}
use Rattle.proxy_service.specs.Parts.{at_home, handed_at, started, refused, workers}
use Rattle.proxy_service.specs.Serving.{Starts, all, unstarted, unplaced}
use Rattle.proxy_service.specs.Told.{Hands, IsStarted}
use Rattle.proxy_service.proofs.Hands.{hands_none, hands_then, hands_one}

-- ---- of a list

pub started_all : {Q : Type 0} (parts : List Q) (handed : List (Handed Q)) (r : Result (Unit {0}) ServeEnd) → Starts parts handed r → r ≡ Ok tt → handed ≡ map started parts
started_all _ _ _ (all parts) e = refl
started_all _ _ _ (unstarted front part rest) e = cc
started_all _ _ _ (unplaced front part rest) e = cc

wider : {Q : Type 0} (parts more : List Q) (handed : List (Handed Q)) (r : Result (Unit {0}) ServeEnd) → Starts parts handed r → (r ≡ Ok tt → ⊥) → Starts (parts ++ more) handed r
wider _ more _ _ (all parts) n = absurd (n refl)
wider {Q} _ more _ _ (unstarted front part rest) n =
    subst (λ (l : List Q). Starts l (map started front ++ (refused part ∷ [])) (Err SpawnerFault)) (sym (append_assoc front (part ∷ rest) more)) (unstarted front part (rest ++ more))
wider {Q} _ more _ _ (unplaced front part rest) n =
    subst (λ (l : List Q). Starts l (map started front) (Err NoMemory)) (sym (append_assoc front (part ∷ rest) more)) (unplaced front part (rest ++ more))

-- ---- of what is told

module _ {P H C : Type 0} (home_of : P → H) where
  pub started_none : (a : Option (List (Handed (Part P C)))) (n : ℕ) → IsStarted {C = C} home_of [] a a n n (Ok tt)
  started_none a n = record { handed = []; starts = all []; hands = hands_none home_of a; kept = omega arith; caused = λ e. cc }

  next_by : (parts : List (Part H C)) (part : Part P C) (seen : Part H C) (a b c : Option (List (Handed (Part P C)))) (n m k : ℕ) (r : Result (Unit {0}) ServeEnd)
      → (handed : List (Handed (Part H C))) → handed ≡ map started parts → Hands home_of a b handed → n ≤ m → at_home home_of part ≡ seen
      → Adds b c (record { part = part; started = is_done r } ∷ []) → IfErr r (λ e. e ≡ SpawnerFault) → HasCause m k r
      → IsStarted home_of (parts ++ (seen ∷ [])) a c n k r
  next_by parts part seen a b c n m k (Ok done) handed e h le at t f cause = record {
    handed = map started (parts ++ (seen ∷ []));
    starts = all (parts ++ (seen ∷ []));
    hands = subst (Hands home_of a c) (ap (λ (l : List (Handed (Part H C))). l ++ (started seen ∷ [])) e ∙ sym (map-append started parts (seen ∷ [])))
        (hands_then home_of a b c handed (started seen ∷ []) h (hands_one home_of part seen true b c at t));
    kept = let l = cause.kept in omega (arith, le, l);
    caused = λ x. cc;
  }
  next_by parts part seen a b c n m k (Err end) handed e h le at t f cause = record {
    handed = map started parts ++ (refused seen ∷ []);
    starts = subst (λ (w : ServeEnd). Starts (parts ++ (seen ∷ [])) (map started parts ++ (refused seen ∷ [])) (Err w)) (sym f) (unstarted parts seen []);
    hands = subst (Hands home_of a c) (ap (λ (l : List (Handed (Part H C))). l ++ (refused seen ∷ [])) e)
        (hands_then home_of a b c handed (refused seen ∷ []) h (hands_one home_of part seen false b c at t));
    kept = let l = cause.kept in omega (arith, le, l);
    caused = λ x. let rose = cause.rose in omega (arith, le, rose);
  }

  -- one part more, which may be refused
  pub started_next : (parts : List (Part H C)) (part : Part P C) (seen : Part H C) (a b c : Option (List (Handed (Part P C)))) (n m k : ℕ) (r : Result (Unit {0}) ServeEnd)
      → at_home home_of part ≡ seen → IsStarted home_of parts a b n m (Ok tt)
      → Adds b c (record { part = part; started = is_done r } ∷ []) → IfErr r (λ e. e ≡ SpawnerFault) → HasCause m k r
      → IsStarted home_of (parts ++ (seen ∷ [])) a c n k r
  started_next parts part seen a b c n m k r at s t f cause =
      next_by parts part seen a b c n m k r s.handed (started_all parts s.handed (Ok tt) s.starts refl) s.hands s.kept at t f cause

  -- memory was wanting for the next part's place
  pub started_unplaced : (parts : List (Part H C)) (seen : Part H C) (rest : List (Part H C)) (a b : Option (List (Handed (Part P C)))) (n m : ℕ)
      → IsStarted home_of parts a b n m (Ok tt) → IsStarted home_of (parts ++ (seen ∷ rest)) a b n m (Err NoMemory)
  started_unplaced parts seen rest a b n m s = record {
    handed = map started parts;
    starts = unplaced parts seen rest;
    hands = subst (Hands home_of a b) (started_all parts s.handed (Ok tt) s.starts refl) s.hands;
    kept = s.kept;
    caused = λ e. cc;
  }

  -- where it ended early, further parts weren't handed over either
  pub started_wider : (parts more : List (Part H C)) (a b : Option (List (Handed (Part P C)))) (n m : ℕ) (end : ServeEnd)
      → IsStarted home_of parts a b n m (Err end) → IsStarted home_of (parts ++ more) a b n m (Err end)
  started_wider parts more a b n m end s = record {
    handed = s.handed;
    starts = wider parts more s.handed (Err end) s.starts (λ e. cc);
    hands = s.hands;
    kept = s.kept;
    caused = s.caused;
  }

-- ---- workers

one_more : {X : Type 0} (k : ℕ) (x : X) → replicate k x ++ (x ∷ []) ≡ replicate (k + 1) x
one_more k x = replicate-append-replicate k 1 x

cut : {X : Type 0} (k n : ℕ) (x : X) → k < n → replicate n x ≡ replicate k x ++ (x ∷ replicate (n - suc k) x)
cut {X} k n x l =
    let e : n ≡ k + suc (n - suc k) = omega (arith, l) in
    ap (λ (m : ℕ). replicate m x) e ∙ sym (replicate-append-replicate k (suc (n - suc k)) x)

module _ {P H C : Type 0} (home_of : P → H) (home : H) where
  at_worker : (place : P) → home_of place ≡ home → at_home {C = C} home_of (Worker place) ≡ Worker home
  at_worker place e = ap (λ (h : H). Worker h) e

  pub workers_next : (k : ℕ) (place : P) (a b c : Option (List (Handed (Part P C)))) (n m l : ℕ)
      → home_of place ≡ home → IsStarted home_of (workers home k) a b n m (Ok tt)
      → (r : Result (Unit {0}) ServeEnd) → r ≡ Ok tt → Adds b c (record { part = Worker place; started = is_done r } ∷ []) → IfErr r (λ e. e ≡ SpawnerFault) → HasCause m l r
      → IsStarted home_of (workers home (k + 1)) a c n l (Ok tt)
  workers_next k place a b c n m l at s r e t f cause =
      subst (λ (x : Result (Unit {0}) ServeEnd). IsStarted home_of (workers home (k + 1)) a c n l x) e
      (subst (λ (ws : List (Part H C)). IsStarted home_of ws a c n l r) (one_more k (Worker home))
      (started_next home_of (workers home k) (Worker place) (Worker home) a b c n m l r (at_worker place at) s t f cause))

  pub workers_refused : (k count : ℕ) (place : P) (a b c : Option (List (Handed (Part P C)))) (n m l : ℕ) → k < count
      → home_of place ≡ home → IsStarted home_of (workers home k) a b n m (Ok tt)
      → (r : Result (Unit {0}) ServeEnd) (end : ServeEnd) → r ≡ Err end → Adds b c (record { part = Worker place; started = is_done r } ∷ []) → IfErr r (λ e. e ≡ SpawnerFault) → HasCause m l r
      → IsStarted home_of (workers home count) a c n l (Err end)
  workers_refused k count place a b c n m l few at s r end e t f cause =
      let here = started_next home_of (workers home k) (Worker place) (Worker home) a b c n m l r (at_worker place at) s t f cause in
      let ended = subst (λ (x : Result (Unit {0}) ServeEnd). IsStarted home_of (workers home k ++ (Worker home ∷ [])) a c n l x) e here in
      let one : Part H C = Worker home in
      let more = replicate (count - suc k) one in
      subst (λ (ws : List (Part H C)). IsStarted home_of ws a c n l (Err end)) (append_assoc (workers home k) (Worker home ∷ []) more ∙ sym (cut k count (Worker home) few))
      (started_wider home_of (workers home k ++ (Worker home ∷ [])) more a c n l end ended)

  pub workers_unplaced : (k count : ℕ) (a b : Option (List (Handed (Part P C)))) (n m : ℕ) → k < count → IsStarted home_of (workers home k) a b n m (Ok tt)
      → IsStarted home_of (workers home count) a b n m (Err NoMemory)
  workers_unplaced k count a b n m few s =
      subst (λ (ws : List (Part H C)). IsStarted home_of ws a b n m (Err NoMemory)) (sym (cut k count (Worker home) few))
      (started_unplaced home_of (workers home k) (Worker home) (replicate (count - suc k) (Worker home)) a b n m s)
