-- Replies that stand ready, and how one is taken.
use Rattle.std.proofs.Common.{◌≡◌, ◌⊎◌, inl, inr, ℕ, ◌+◌, ◌==◌, nat_le, Bool, true, false, not, cond, ◌&&◌, List, [], ◌∷◌, length, map, Option, None, Some, Ok, refl, sym, ◌∙◌, ap, subst, arith}
use Rattle.std.specs.List.{list_any}
use Rattle.etcd_types.specs.declared.answer.Answer.{Answer}
use Rattle.etcd_types.proofs.Bools.{and_first, and_second, and_both, or_left, or_right, or_either, or_first, or_second, not_true}
use Rattle.read_model.specs.declared.asked.Asked.{Asked}
use Rattle.read_model.specs.declared.asked.Stage.{Stage}
use Rattle.read_model.specs.declared.asked.Stage.TheVariants as stage
use Rattle.read_model.specs.declared.asked.Verdict.TheVariants as verdict
use Rattle.read_model.specs.PlainRead.{in_stage, called, decided_ask}
use Rattle.read_model.specs.Release.{ask_stands, released_ask, released_ground, released_from}
use Rattle.read_model.specs.State.{Moment, Ground}
use Rattle.core_model.specs.declared.event.CoreEvent.TheVariants as event
use Rattle.core_model.specs.declared.event.Outcome.TheVariants as outcome
use Rattle.core_model.specs.declared.event.StepFault.TheVariants as fault
use Rattle.core_model.specs.ClockWork.{is_replied, times_out, timed_out_ask, begun, clock_work}
use Rattle.core_model.specs.Fits.{has_number, once, ask_tickets, CoreOk}
use Rattle.core_model.specs.Lookups.{has_ticket, ask_at, without_ask}
use Rattle.core_model.specs.Sessions.{seat_is_over, without_session, deadline_passed}
use Rattle.core_model.specs.State.{Core}
use Rattle.core_model.specs.Step.{happened, is_worn, stepped}
use Rattle.core_model.specs.Stepped.{Stepped, faults, counted}
use Rattle.core_model.specs.Takes.{taken_from, taken, on_take, lesser, least_ready, ready}
use Rattle.core_model.specs.Verdicts.{reply_of}
use Rattle.core_laws.proofs.Steps.Comes.{by_test}
use Rattle.core_laws.proofs.Steps.Lists.{same_number, number_itself}
use Rattle.core_laws.proofs.Steps.Middle.{clock_whole}
use Rattle.core_laws.proofs.Steps.Whole.{of_ok}
use Rattle.core_fits.specs.Fits.{EachOf}
use Rattle.core_fits.specs.Ready.{NothingReadyIsNoneReplied, ReadyIsTaken}

-- The least ready ticket.

-- one is ready, whatever comes behind
some_ready : (n : ℕ) (xs : List Asked) → least_ready (Some n) xs ≡ None → ⊥
some_ready n [] h = absurd (cc)
some_ready n (x ∷ xs) h =
    by_test (λ (o : Option ℕ). least_ready o xs ≡ None → ⊥) (is_replied x.stage) (Some (lesser (Some n) x.ticket)) (Some n) (λ t k. some_ready (lesser (Some n) x.ticket) xs k) (λ t k. some_ready n xs k) h

none_replied : (xs : List Asked) → least_ready None xs ≡ None → EachOf (λ (a : Asked). is_replied a.stage ≡ false) xs
none_replied [] h = tt
none_replied (x ∷ xs) h = by_head (λ k. none_replied xs k) (is_replied x.stage) refl h
  where
    by_head : (least_ready None xs ≡ None → EachOf (λ (a : Asked). is_replied a.stage ≡ false) xs) → (b : Bool) → is_replied x.stage ≡ b → least_ready (cond b (Some (lesser None x.ticket)) None) xs ≡ None → EachOf (λ (a : Asked). is_replied a.stage ≡ false) (x ∷ xs)
    by_head more true e k = absurd (some_ready x.ticket xs k)
    by_head more false e k = (e, more k)

pub nothing_ready : NothingReadyIsNoneReplied
nothing_ready c h = none_replied c.asks h

-- it has this ticket, and its reply stands
abbrev Stands : ℕ → Asked → Bool
Stands ticket a = has_ticket ticket a && is_replied a.stage

lesser_is : (o : Option ℕ) (n m : ℕ) → Some (lesser o n) ≡ Some m → (o ≡ Some m) ⊎ (n ≡ m)
lesser_is None n m e = let i : n ≡ m = cc in inr i
lesser_is (Some k) n m e = by_test (λ (j : ℕ). Some j ≡ Some m → (Some k ≡ Some m) ⊎ (n ≡ m)) (nat_le k n) k n (λ t u. inl u) (λ t u. let i : n ≡ m = cc in inr i) e

least_is : (ticket : ℕ) (o : Option ℕ) (xs : List Asked) → least_ready o xs ≡ Some ticket → (o ≡ Some ticket) ⊎ (list_any (Stands ticket) xs ≡ true)
least_is ticket o [] h = inl h
least_is ticket o (x ∷ xs) h = by_head (λ p k. least_is ticket p xs k) (is_replied x.stage) refl h
  where
    later : list_any (Stands ticket) xs ≡ true → list_any (Stands ticket) (x ∷ xs) ≡ true
    later t = or_right (Stands ticket x) (list_any (Stands ticket) xs) t

    here : is_replied x.stage ≡ true → x.ticket ≡ ticket → list_any (Stands ticket) (x ∷ xs) ≡ true
    here e i = or_left (Stands ticket x) (list_any (Stands ticket) xs) (and_both (x.ticket == ticket) (is_replied x.stage) (ap (λ (n : ℕ). x.ticket == n) (sym i) ∙ number_itself x.ticket) e)

    of_lesser : is_replied x.stage ≡ true → (o ≡ Some ticket) ⊎ (x.ticket ≡ ticket) → (o ≡ Some ticket) ⊎ (list_any (Stands ticket) (x ∷ xs) ≡ true)
    of_lesser e (inl t) = inl t
    of_lesser e (inr i) = inr (here e i)

    of_first : is_replied x.stage ≡ true → (Some (lesser o x.ticket) ≡ Some ticket) ⊎ (list_any (Stands ticket) xs ≡ true) → (o ≡ Some ticket) ⊎ (list_any (Stands ticket) (x ∷ xs) ≡ true)
    of_first e (inl t) = of_lesser e (lesser_is o x.ticket ticket t)
    of_first e (inr t) = inr (later t)

    of_rest : (o ≡ Some ticket) ⊎ (list_any (Stands ticket) xs ≡ true) → (o ≡ Some ticket) ⊎ (list_any (Stands ticket) (x ∷ xs) ≡ true)
    of_rest (inl t) = inl t
    of_rest (inr t) = inr (later t)

    by_head : ((p : Option ℕ) → least_ready p xs ≡ Some ticket → (p ≡ Some ticket) ⊎ (list_any (Stands ticket) xs ≡ true)) → (b : Bool) → is_replied x.stage ≡ b → least_ready (cond b (Some (lesser o x.ticket)) o) xs ≡ Some ticket → (o ≡ Some ticket) ⊎ (list_any (Stands ticket) (x ∷ xs) ≡ true)
    by_head more true e k = of_first e (more (Some (lesser o x.ticket)) k)
    by_head more false e k = of_rest (more o k)

ready_stands : (c : Core) (ticket : ℕ) → ready c ≡ Some ticket → list_any (Stands ticket) c.asks ≡ true
ready_stands c ticket h = by_case (least_is ticket None c.asks h)
  where
    by_case : (None ≡ Some ticket) ⊎ (list_any (Stands ticket) c.asks ≡ true) → list_any (Stands ticket) c.asks ≡ true
    by_case (inl t) = absurd (cc)
    by_case (inr t) = t

-- The clock's work leaves it, and as many requests.

-- as many, and one of this ticket whose reply stands
record Alike (ticket : ℕ) (xs ys : List Asked) : Type 0 where
  many : length ys ≡ length xs
  stands : list_any (Stands ticket) xs ≡ true → list_any (Stands ticket) ys ≡ true

alike_on : (ticket : ℕ) (xs ys zs : List Asked) → Alike ticket xs ys → Alike ticket ys zs → Alike ticket xs zs
alike_on ticket xs ys zs g h = record { many = h.many ∙ g.many; stands = λ t. h.stands (g.stands t) }

alike_more : (ticket : ℕ) (x y : Asked) (xs ys : List Asked) → (Stands ticket x ≡ true → Stands ticket y ≡ true) → Alike ticket xs ys → Alike ticket (x ∷ xs) (y ∷ ys)
alike_more ticket x y xs ys f h = record { many = (let e = h.many in grind (arith, e)); stands = λ t. by_case (or_either (Stands ticket x) (list_any (Stands ticket) xs) t) }
  where
    by_case : (Stands ticket x ≡ true) ⊎ (list_any (Stands ticket) xs ≡ true) → list_any (Stands ticket) (y ∷ ys) ≡ true
    by_case (inl t) = or_left (Stands ticket y) (list_any (Stands ticket) ys) (f t)
    by_case (inr t) = or_right (Stands ticket y) (list_any (Stands ticket) ys) (h.stands t)

timed_alike : (ticket now : ℕ) (xs : List Asked) → Alike ticket xs (map (timed_out_ask now) xs)
timed_alike ticket now [] = record { many = refl; stands = λ t. t }
timed_alike ticket now (x ∷ xs) =
    alike_more ticket x (timed_out_ask now x) xs (map (timed_out_ask now) xs)
    (λ t. by_test (λ (y : Asked). Stands ticket y ≡ true) (times_out now x) (in_stage (stage.Replied verdict.TimedOut) x) x (λ e. and_both (x.ticket == ticket) true (and_first (x.ticket == ticket) (is_replied x.stage) t) refl) (λ e. t))
    (timed_alike ticket now xs)

-- a request that was replied waits for nothing, so it isn't released
replied_stays : (again : Bool) (m : Moment) (g : Ground) (x : Asked) → is_replied x.stage ≡ true → released_ask again m g x ≡ x
replied_stays again m g x h = ap (λ b. cond b x (cond again (decided_ask m g x) (in_stage (called g.own.waits.step) x))) (by_stage x.stage refl h)
  where
    by_stage : (s : Stage) → x.stage ≡ s → is_replied s ≡ true → ask_stands g x ≡ true
    by_stage (stage.Replied v) e h = ap (λ (s : Stage). ask_stands g (in_stage s x)) e
    by_stage (stage.Calling s) e h = absurd (cc)
    by_stage stage.Acquiring e h = absurd (cc)
    by_stage stage.Joined e h = absurd (cc)
    by_stage stage.Behind e h = absurd (cc)
    by_stage stage.Writes e h = absurd (cc)
    by_stage (stage.Grouped s) e h = absurd (cc)

released_alike : (ticket : ℕ) (again : Bool) (m : Moment) (g : Ground) (xs : List Asked) → Alike ticket xs (released_from again m g xs).asks
unfolding released_from
released_alike ticket again m g [] = record { many = refl; stands = λ t. t }
released_alike ticket again m g (x ∷ xs) =
    alike_more ticket x (released_ask again m g x) xs (released_from again m (released_ground again m g x) xs).asks
    (λ t. subst (λ (y : Asked). Stands ticket y ≡ true) (sym (replied_stays again m g x (and_second (x.ticket == ticket) (is_replied x.stage) t))) t)
    (released_alike ticket again m (released_ground again m g x) xs)

alike_itself : (ticket : ℕ) (xs : List Asked) → Alike ticket xs xs
alike_itself ticket xs = record { many = refl; stands = λ t. t }

clock_alike : (ticket now : ℕ) (c : Core) → Alike ticket c.asks (clock_work now c).asks
unfolding clock_work
clock_alike ticket now c =
    let d = deadline_passed now (begun c) in
    let timed = map (timed_out_ask now) d.asks in
    alike_on ticket c.asks d.asks (clock_work now c).asks
    (by_test (λ (x : Core). Alike ticket c.asks x.asks) (seat_is_over c.seat now) (without_session now (begun c)) (begun c) (λ t. released_alike ticket false _ _ c.asks) (λ t. alike_itself ticket c.asks))
    (alike_on ticket d.asks timed (clock_work now c).asks (timed_alike ticket now d.asks) (released_alike ticket false _ _ timed))

-- It is found by its ticket, which stands once.

none_stands : (ticket : ℕ) (xs : List Asked) → has_number (ask_tickets xs) ticket ≡ false → list_any (Stands ticket) xs ≡ true → ⊥
none_stands ticket [] n h = absurd (cc)
none_stands ticket (x ∷ xs) n h = by_case (λ t. none_stands ticket xs (or_second (x.ticket == ticket) (has_number (ask_tickets xs) ticket) n) t) (or_either (Stands ticket x) (list_any (Stands ticket) xs) h)
  where
    by_case : (list_any (Stands ticket) xs ≡ true → ⊥) → (Stands ticket x ≡ true) ⊎ (list_any (Stands ticket) xs ≡ true) → ⊥
    by_case more (inl t) = let a = and_first (x.ticket == ticket) (is_replied x.stage) t in let b = or_first (x.ticket == ticket) (has_number (ask_tickets xs) ticket) n in absurd (cc)
    by_case more (inr t) = more t

none_dropped : (ticket : ℕ) (xs : List Asked) → has_number (ask_tickets xs) ticket ≡ false → length (without_ask ticket xs) ≡ length xs
none_dropped ticket [] n = refl
none_dropped ticket (x ∷ xs) n =
    let i = none_dropped ticket xs (or_second (x.ticket == ticket) (has_number (ask_tickets xs) ticket) n) in
    ap (λ b. length (cond (not b) (x ∷ without_ask ticket xs) (without_ask ticket xs))) (or_first (x.ticket == ticket) (has_number (ask_tickets xs) ticket) n) ∙ grind (arith, i)

-- the one that is found, and how many there are without it
record Finds (ticket : ℕ) (xs : List Asked) : Type 0 where
  ask : Asked
  found : ask_at ticket xs ≡ Some ask
  replied : is_replied ask.stage ≡ true
  fewer : length (without_ask ticket xs) + 1 ≡ length xs

finds : (ticket : ℕ) (xs : List Asked) → once (ask_tickets xs) ≡ true → list_any (Stands ticket) xs ≡ true → Finds ticket xs
finds ticket [] u h = absurd (cc)
finds ticket (x ∷ xs) u h = by_head (λ t. finds ticket xs (and_second (not (has_number (ask_tickets xs) x.ticket)) (once (ask_tickets xs)) u) t) (x.ticket == ticket) refl
  where
    alone : has_number (ask_tickets xs) x.ticket ≡ false
    alone = not_true (has_number (ask_tickets xs) x.ticket) (and_first (not (has_number (ask_tickets xs) x.ticket)) (once (ask_tickets xs)) u)

    first : has_number (ask_tickets xs) ticket ≡ false → (Stands ticket x ≡ true) ⊎ (list_any (Stands ticket) xs ≡ true) → is_replied x.stage ≡ true
    first n (inl t) = and_second (x.ticket == ticket) (is_replied x.stage) t
    first n (inr t) = absurd (none_stands ticket xs n t)

    rest : (x.ticket == ticket) ≡ false → (Stands ticket x ≡ true) ⊎ (list_any (Stands ticket) xs ≡ true) → list_any (Stands ticket) xs ≡ true
    rest e (inl t) = let a = and_first (x.ticket == ticket) (is_replied x.stage) t in absurd (cc)
    rest e (inr t) = t

    by_head : (list_any (Stands ticket) xs ≡ true → Finds ticket xs) → (b : Bool) → (x.ticket == ticket) ≡ b → Finds ticket (x ∷ xs)
    by_head more true e =
        let n : has_number (ask_tickets xs) ticket ≡ false = subst (λ (i : ℕ). has_number (ask_tickets xs) i ≡ false) (same_number x.ticket ticket e) alone in
        let l = none_dropped ticket xs n in
        record {
          ask = x;
          found = ap (λ b. cond b (Some x) (ask_at ticket xs)) e;
          replied = first n (or_either (Stands ticket x) (list_any (Stands ticket) xs) h);
          fewer = ap (λ b. length (cond (not b) (x ∷ without_ask ticket xs) (without_ask ticket xs)) + 1) e ∙ grind (arith, l);
        }
    by_head more false e =
        let f = more (rest e (or_either (Stands ticket x) (list_any (Stands ticket) xs) h)) in
        let l = f.fewer in
        record {
          ask = f.ask;
          found = ap (λ b. cond b (Some x) (ask_at ticket xs)) e ∙ f.found;
          replied = f.replied;
          fewer = ap (λ b. length (cond (not b) (x ∷ without_ask ticket xs) (without_ask ticket xs)) + 1) e ∙ grind (arith, l);
        }

-- The step.

-- a reply, and one request fewer
abbrev Takes : ℕ → Stepped → Type 0
Takes n s = (x : Answer) × (s.outcome ≡ Ok (outcome.Replied x)) × (length s.core.asks + 1 ≡ n)

taking : (ticket n : ℕ) (d : Core) (f : Finds ticket d.asks) → length d.asks ≡ n → Takes n (counted (on_take ticket d))
unfolding on_take
taking ticket n d f l = subst (λ (o : Option Asked). Takes n (counted (taken ticket o d))) (sym f.found) (by_stage f.ask.stage f.replied)
  where
    by_stage : (s : Stage) → is_replied s ≡ true → Takes n (counted (taken_from ticket s d))
    by_stage (stage.Replied v) h = (reply_of v, refl, f.fewer ∙ l)
    by_stage (stage.Calling s) h = absurd (cc)
    by_stage stage.Acquiring h = absurd (cc)
    by_stage stage.Joined h = absurd (cc)
    by_stage stage.Behind h = absurd (cc)
    by_stage stage.Writes h = absurd (cc)
    by_stage (stage.Grouped s) h = absurd (cc)

takes_so : (c : Core) (now ticket : ℕ) → CoreOk c → is_worn c ≡ false → ready c ≡ Some ticket → Takes (length c.asks) (stepped c (event.Take ticket) now)
unfolding stepped
takes_so c now ticket k w h =
    let d = clock_work now c in
    let a = clock_alike ticket now c in
    by_test (Takes (length c.asks)) (is_worn c) (faults c fault.Worn) (counted (happened now (event.Take ticket) d)) (λ t. absurd (cc))
    (λ t. taking ticket (length c.asks) d (finds ticket d.asks (clock_whole 0 now c (of_ok c k).mid).mid.agrees.asks.once (a.stands (ready_stands c ticket h))) a.many)

pub ready_is_taken : ReadyIsTaken
ready_is_taken c now ticket k w h = let t = takes_so c now ticket k w h in record { answer = t.0; replied = t.1; fewer = t.2 }
