-- The tickets and words of steps that were made one after the other.
use Rattle.std.proofs.Common.{◌≡◌, ℕ, ◌+◌, ◌<◌, ◌≤◌, true, false, List, [], ◌∷◌, ◌++◌, Option, None, Some, Result, Ok, Err, refl, sym, ap, ◌∙◌, append-nil, append_assoc, subst, map, ◌⊎◌, inl, inr}
use Rattle.std.proofs.lemmas.Grind.{flat_map-append}
use Rattle.std.proofs.lemmas.List.{map-append}
use Rattle.outside.specs.Draw.{Gives}
use Rattle.etcd_types.specs.declared.request.Request.{Request}
use Rattle.core_model.specs.declared.event.CoreEvent.{CoreEvent}
use Rattle.core_model.specs.declared.event.CoreEvent.TheVariants.{Ask, Answer, Lost, Tick, Item, Cut, Take, Leave, Work}
use Rattle.core_model.specs.declared.event.Outcome.{Outcome}
use Rattle.server_model.specs.declared.ends.SessionEnd.{SessionEnd}
use Rattle.server_model.specs.declared.ends.SessionEnd.TheVariants.{Worn, OutOfTickets}
use Rattle.server_model.specs.declared.fault.TurnFault.{TurnFault}
use Rattle.server_model.specs.declared.fault.TurnFault.TheVariants as turn
use Rattle.server_model.specs.Steps.{Step, Every, MadeBy, Rested, is_own}
use Rattle.server_model.specs.Dialog.{end_of, is_in_use}
use Rattle.server_model.specs.Numbers.{ask_of, asks, Asked, Rises, Numbered, LastNumbered, IsElse}
use Rattle.server_model.proofs.Steps.{adds_then, adds_none, every_append}

pub asked_then : (a b c : Option (List Step)) (xs ys : List (ℕ × ℕ)) → Asked a b xs → Asked b c ys → Asked a c (xs ++ ys)
asked_then a b c xs ys p q = record {
  steps = p.steps ++ q.steps;
  adds = adds_then a b c p.steps q.steps p.adds q.adds;
  are = flat_map-append (λ (e : Step). ask_of e.event) p.steps q.steps ∙ (λ i. p.are i ++ q.are i);
}

pub asked_none : (a : Option (List Step)) → Asked a a []
asked_none a = record { steps = []; adds = adds_none a; are = refl }

none_asks : (e : CoreEvent) → is_own e ≡ false → ask_of e ≡ []
none_asks (Ask ticket request word) n = absurd (cc)
none_asks (Answer call answer) n = refl
none_asks (Lost call) n = refl
none_asks (Tick word) n = refl
none_asks (Item stream item) n = refl
none_asks (Cut stream) n = refl
none_asks (Take ticket) n = refl
none_asks (Leave ticket) n = refl
none_asks Work n = refl

no_asks : (steps : List Step) → Every (λ (e : Step). is_own e.event ≡ false) steps → asks steps ≡ []
no_asks [] n = refl
no_asks (e ∷ es) n = λ i. none_asks e.event n.0 i ++ no_asks es n.1 i

pub rest_asks : (rests : CoreEvent → Type 0) (a b : Option (List Step)) → Rested rests a b → Asked a b []
rest_asks rests a b r = record { steps = r.steps; adds = r.adds; are = no_asks r.steps r.none_own }

-- a step on anything asks what its event does, unless the hub is worn
pub turn_asks : (a b : Option (List Step)) (event : CoreEvent) (now : ℕ) (result : Result Outcome TurnFault) → MadeBy a b event now result
    → Asked a b (ask_of event) ⊎ (Asked a b [] × (result ≡ Err turn.Worn))
turn_asks a b event now (Ok outcome) m = inl (record { steps = _; adds = m; are = append-nil (ask_of event) })
turn_asks a b event now (Err turn.Worn) m = inr (record { steps = []; adds = m; are = refl }, refl)
turn_asks a b event now (Err (turn.Core fault)) m = inl (record { steps = _; adds = m; are = append-nil (ask_of event) })

-- a step that asks nothing
pub turn_asks_none : (a b : Option (List Step)) (event : CoreEvent) (now : ℕ) (result : Result Outcome TurnFault) → ask_of event ≡ [] → MadeBy a b event now result → Asked a b []
turn_asks_none a b event now (Ok outcome) e m = record { steps = _; adds = m; are = append-nil (ask_of event) ∙ e }
turn_asks_none a b event now (Err turn.Worn) e m = record { steps = []; adds = m; are = refl }
turn_asks_none a b event now (Err (turn.Core fault)) e m = record { steps = _; adds = m; are = append-nil (ask_of event) ∙ e }

rises_then : (a b c : ℕ) (xs ys : List (ℕ × ℕ)) → Rises a b xs → Rises b c ys → Rises a c (xs ++ ys)
rises_then a b c [] ys p q = subst (λ (n : ℕ). Rises n c ys) (sym p) q
rises_then a b c (x ∷ xs) ys p q = (p.0, rises_then (a + 1) b c xs ys p.1 q)

gives_then : (a b c : Option (List ℕ)) (xs ys : List ℕ) → Gives a b xs → Gives b c ys → Gives a c (xs ++ ys)
gives_then a b None xs ys p q = tt
gives_then a None (Some c) xs ys p q = absurd q
gives_then None (Some b) (Some c) xs ys p q = absurd p
gives_then (Some a) (Some b) (Some c) xs ys p q = q ∙ ap (λ (l : List ℕ). l ++ ys) p ∙ append_assoc a xs ys

gives_none : (a : Option (List ℕ)) → Gives a a []
gives_none None = tt
gives_none (Some a) = sym (append-nil a)

pub numbered_none : (limit n : ℕ) (given : Option (List ℕ)) (made : Option (List Step)) → Numbered limit n n given given made made
numbered_none limit n given made = record { pairs = []; asked = asked_none made; rises = refl; below = tt; drawn = gives_none given }

words_then : (g h k : Option (List ℕ)) (xs ys : List (ℕ × ℕ)) → Gives g h (map (λ x. x.1) xs) → Gives h k (map (λ x. x.1) ys) → Gives g k (map (λ x. x.1) (xs ++ ys))
words_then g h k xs ys p q =
    subst (Gives g k) (sym (map-append (λ (x : ℕ × ℕ). x.1) xs ys)) (gives_then g h k (map (λ x. x.1) xs) (map (λ x. x.1) ys) p q)

pub numbered_then : (limit l m n : ℕ) (g h k : Option (List ℕ)) (a b c : Option (List Step)) → Numbered limit l m g h a b → Numbered limit m n h k b c
    → Numbered limit l n g k a c
numbered_then limit l m n g h k a b c p q = record {
  pairs = p.pairs ++ q.pairs;
  asked = asked_then a b c p.pairs q.pairs p.asked q.asked;
  rises = rises_then l m n p.pairs q.pairs p.rises q.rises;
  below = every_append (λ (x : ℕ × ℕ). x.0 < limit) p.pairs q.pairs p.below q.below;
  drawn = words_then g h k p.pairs q.pairs p.drawn q.drawn;
}

pub numbered_last : (end : SessionEnd) (limit l m : ℕ) (g h k : Option (List ℕ)) (a b c : Option (List Step)) → Numbered limit l m g h a b
    → LastNumbered end limit m h k b c → LastNumbered end limit l g k a c
numbered_last end limit l m g h k a b c p q = record {
  pairs = p.pairs ++ q.pairs;
  to = q.to;
  spare = q.spare;
  asked = asked_then a b c p.pairs q.pairs p.asked q.asked;
  rises = rises_then l m q.to p.pairs q.pairs p.rises q.rises;
  below = every_append (λ (x : ℕ × ℕ). x.0 < limit) p.pairs q.pairs p.below q.below;
  drawn = subst (Gives g k) (sym (append_assoc (map (λ x. x.1) p.pairs) (map (λ x. x.1) q.pairs) q.spare) ∙ (λ i. sym (map-append (λ (x : ℕ × ℕ). x.1) p.pairs q.pairs) i ++ q.spare)) (gives_then g h k (map (λ x. x.1) p.pairs) (map (λ x. x.1) q.pairs ++ q.spare) p.drawn q.drawn);
  none_spare = q.none_spare;
  none_left = q.none_left;
}

-- an end that isn't for want of tickets
pub has_tickets : (end : SessionEnd) (limit to : ℕ) → IsElse end → end ≡ OutOfTickets → limit ≤ to
has_tickets end limit to other e = absurd (subst IsElse e other)

-- no step was made for a request, and nothing was drawn
pub none_last : (end : SessionEnd) (limit n : ℕ) (given : Option (List ℕ)) (made : Option (List Step)) → (end ≡ OutOfTickets → limit ≤ n)
    → LastNumbered end limit n given given made made
none_last end limit n given made out =
    record { pairs = []; to = n; spare = []; asked = asked_none made; rises = refl; below = tt; drawn = gives_none given; none_spare = tt; none_left = out }

-- a request was asked
pub one_asked : (limit n word : ℕ) (given given' : Option (List ℕ)) (made made' : Option (List Step)) → n < limit → Gives given given' (word ∷ []) → Asked made made' ((n, word) ∷ [])
    → Numbered limit n (n + 1) given given' made made'
one_asked limit n word given given' made made' b d a = record { pairs = (n, word) ∷ []; asked = a; rises = (refl, refl); below = (b, tt); drawn = d }

pub one_last : (end : SessionEnd) (limit n word : ℕ) (given given' : Option (List ℕ)) (made made' : Option (List Step)) → n < limit → IsElse end → Gives given given' (word ∷ [])
    → Asked made made' ((n, word) ∷ []) ⊎ (Asked made made' [] × (end ≡ Worn)) → LastNumbered end limit n given given' made made'
one_last end limit n word given given' made made' b other d (inl a) = record {
  pairs = (n, word) ∷ [];
  to = n + 1;
  spare = [];
  asked = a;
  rises = (refl, refl);
  below = (b, tt);
  drawn = d;
  none_spare = tt;
  none_left = has_tickets end limit (n + 1) other;
}
one_last end limit n word given given' made made' b other d (inr a) = record {
  pairs = [];
  to = n;
  spare = word ∷ [];
  asked = a.0;
  rises = refl;
  below = tt;
  drawn = d;
  none_spare = a.1;
  none_left = has_tickets end limit n other;
}

pub quiet_rest : (rests : CoreEvent → Type 0) (a b c : Option (List Step)) → Asked a b [] → Rested rests b c → Asked a c []
quiet_rest rests a b c p r = asked_then a b c [] [] p (rest_asks rests b c r)

pub quiet_take : (rests : CoreEvent → Type 0) (ticket now : ℕ) (a b c d : Option (List Step)) (result : Result Outcome TurnFault) → Asked a b [] → Rested rests b c
    → MadeBy c d (Take ticket) now result → Asked a d []
quiet_take rests ticket now a b c d result p r m = asked_then a c d [] [] (quiet_rest rests a b c p r) (turn_asks_none c d (Take ticket) now result refl m)

pub asked_ok : (a b : Option (List Step)) (ticket word now : ℕ) (request : Request) (outcome : Outcome) → MadeBy a b (Ask ticket request word) now (Ok outcome)
    → Asked a b ((ticket, word) ∷ [])
asked_ok a b ticket word now request outcome m = record { steps = _; adds = m; are = refl }

pub asked_quiet : (a b c : Option (List Step)) (ticket word : ℕ) → Asked a b ((ticket, word) ∷ []) → Asked b c [] → Asked a c ((ticket, word) ∷ [])
asked_quiet a b c ticket word p q = asked_then a b c ((ticket, word) ∷ []) [] p q

pub not_one : (a b : Option (List Step)) (ticket word now : ℕ) (request : Request) (fault : TurnFault) (x : SessionEnd) → x ≡ end_of fault
    → MadeBy a b (Ask ticket request word) now (Err fault) → Asked a b ((ticket, word) ∷ []) ⊎ (Asked a b [] × (x ≡ Worn))
not_one a b ticket word now request turn.Worn x e m = inr (record { steps = []; adds = m; are = refl }, e)
not_one a b ticket word now request (turn.Core fault) x e m = inl (record { steps = _; adds = m; are = refl })

-- all requests have their replies, and the connection ends
pub all_numbered : (end : SessionEnd) (limit n m : ℕ) (g h : Option (List ℕ)) (a b : Option (List Step)) → IsElse end → Numbered limit n m g h a b → LastNumbered end limit n g h a b
all_numbered end limit n m g h a b other p = record {
  pairs = p.pairs;
  to = m;
  spare = [];
  asked = p.asked;
  rises = p.rises;
  below = p.below;
  drawn = subst (Gives g h) (sym (append-nil (map (λ x. x.1) p.pairs))) p.drawn;
  none_spare = tt;
  none_left = has_tickets end limit m other;
}

-- an Ask whose ticket is in use has an entry
pub used_one : (a b : Option (List Step)) (ticket word now : ℕ) (request : Request) (fault : TurnFault) → is_in_use fault ≡ true
    → MadeBy a b (Ask ticket request word) now (Err fault) → Asked a b ((ticket, word) ∷ [])
used_one a b ticket word now request turn.Worn u m = absurd (cc)
used_one a b ticket word now request (turn.Core fault) u m = record { steps = _; adds = m; are = refl }

-- the same by an equal limit
pub numbered_more : (limit limit' l m n : ℕ) (g h k : Option (List ℕ)) (a b c : Option (List Step)) → limit' ≡ limit → Numbered limit l m g h a b
    → Numbered limit' m n h k b c → Numbered limit l n g k a c
numbered_more limit limit' l m n g h k a b c e p q =
    numbered_then limit l m n g h k a b c p (subst (λ (x : ℕ). Numbered x m n h k b c) e q)

pub numbered_end : (end : SessionEnd) (limit limit' l m : ℕ) (g h k : Option (List ℕ)) (a b c : Option (List Step)) → limit' ≡ limit → Numbered limit l m g h a b
    → LastNumbered end limit' m h k b c → LastNumbered end limit l g k a c
numbered_end end limit limit' l m g h k a b c e p q =
    numbered_last end limit l m g h k a b c p (subst (λ (x : ℕ). LastNumbered end x m h k b c) e q)
