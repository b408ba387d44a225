-- The steps of one request.
use Rattle.std.proofs.Common.{◌≡◌, ℕ, Bool, true, false, not, ◌||◌, List, [], ◌∷◌, ◌++◌, Option, Result, Ok, Err, IfErr, IsTrue, refl, append-nil, append_assoc, subst, sym, ap, ◌∙◌}
use Rattle.std.proofs.KnownBytes.{Appends-trans}
use Rattle.std.specs.Io.KnownBytes.{Appends}
use Rattle.outside.specs.Streams.{WritesFront}
use Rattle.etcd_types.specs.declared.request.Request.{Request}
use Rattle.etcd_types.specs.declared.answer.Answer.{Answer}
use Rattle.etcd_types.specs.declared.watch.WatchItem.{WatchItem}
use Rattle.turn_hub.specs.History.{entry_of}
use Rattle.core_model.specs.declared.event.CoreEvent.{CoreEvent}
use Rattle.core_model.specs.declared.event.CoreEvent.TheVariants.{Ask, Take, Leave}
use Rattle.core_model.specs.declared.event.Outcome.{Outcome}
use Rattle.core_model.specs.declared.event.Outcome.TheVariants.{Replied, Waiting, Pending, Item}
use Rattle.core_model.specs.declared.event.StepFault.{StepFault}
use Rattle.core_model.specs.declared.event.StepFault.TheVariants as step
use Rattle.server_model.specs.declared.ends.SessionEnd.{SessionEnd}
use Rattle.server_model.specs.declared.ends.SessionEnd.TheVariants as end
use Rattle.server_model.specs.declared.fault.TurnFault.{TurnFault}
use Rattle.server_model.specs.declared.fault.TurnFault.TheVariants as turn
use Rattle.server_model.specs.Steps.{Step, steps_by, MadeBy, Rested, Did, Fits, FitsFault, IsOfRest, is_late}
use Rattle.http_talk.specs.declared.form.RefusalForm.{RefusalForm}
use Rattle.http_talk.specs.Replies.{is_cancel}
use Rattle.server_model.specs.Dialog.{ArePartial, TakesAll, Whole, Stopping, Stops, Gone, Breaks, IsUntold, is_worn, is_in_use, end_of, end_of_step, is_final, goes_on, begins, said_at, said_from}
use Rattle.server_model.proofs.Steps.{did_then, did_nothing, did_rest, did_turn, every_append}
use Rattle.server_model.specs.declared.progress.Attempt.{Attempt}
use Rattle.server_model.specs.declared.progress.Attempt.TheVariants as attempt
use Rattle.server_model.specs.declared.progress.Stop.{Stop}
use Rattle.server_model.specs.declared.progress.Stop.TheVariants as stop
use Rattle.server_model.specs.declared.progress.Taken.{Taken}
use Rattle.server_model.specs.declared.progress.Taken.TheVariants as taken
use Rattle.server_model.specs.Exchanges.{Partly, PassesOn, Took, Takes, FollowsAll, Follows, AskedOnce, Asks, Left, IsOfTicket, begun_by}
use Rattle.http_talk.proofs.Said.{front_all, front_none, front_after, front_more, keeps_itself, appends_nothing}

-- the same result by another name
pub made_as : (a b : Option (List Step)) (event : CoreEvent) (now : ℕ) (x y : Outcome) → x ≡ y → MadeBy a b event now (Ok x) → MadeBy a b event now (Ok y)
made_as a b event now x y e m = subst (λ (o : Outcome). MadeBy a b event now (Ok o)) e m

or_false : (b : Bool) → b ≡ (b || false)
or_false true = refl
or_false false = refl

or_assoc : (a b c : Bool) → ((a || b) || c) ≡ (a || (b || c))
or_assoc true b c = refl
or_assoc false b c = refl

-- what is said goes on where it ended
pub said_append : (form : RefusalForm) (begun : Bool) (xs ys : List Step) → said_from form begun (xs ++ ys) ≡ said_from form begun xs ++ said_from form (begun || begun_by xs) ys
said_append form begun [] ys = ap (λ (b : Bool). said_from form b ys) (or_false begun)
said_append form begun (x ∷ xs) ys =
    let rest = said_append form (begun || begins x.answer) xs ys in
    ap (λ (bytes : List ℕ). said_at form begun x.answer ++ bytes) rest
    ∙ sym (append_assoc (said_at form begun x.answer) (said_from form (begun || begins x.answer) xs) (said_from form ((begun || begins x.answer) || begun_by xs) ys))
    ∙ ap (λ (b : Bool). (said_at form begun x.answer ++ said_from form (begun || begins x.answer) xs) ++ said_from form b ys) (or_assoc begun (begins x.answer) (begun_by xs))

begun_append : (xs ys : List Step) → begun_by (xs ++ ys) ≡ (begun_by xs || begun_by ys)
begun_append [] ys = refl
begun_append (x ∷ xs) ys = ap (λ (b : Bool). begins x.answer || b) (begun_append xs ys) ∙ sym (or_assoc (begins x.answer) (begun_by xs) (begun_by ys))

-- a front of what is said, and of what is said with more steps behind
front_of_more : (form : RefusalForm) (begun : Bool) (a b : Option (List ℕ)) (xs ys : List Step) → WritesFront a b (said_from form begun xs) → WritesFront a b (said_from form begun (xs ++ ys))
front_of_more form begun a b xs ys w =
    subst (WritesFront a b) (sym (said_append form begun xs ys)) (front_more a b (said_from form begun xs) (said_from form (begun || begun_by xs) ys) w)

-- one step alone
one_said : (form : RefusalForm) (begun : Bool) (e : Step) → said_from form begun (e ∷ []) ≡ said_at form begun e.answer
one_said form begun e = append-nil (said_at form begun e.answer)

module _ (form : RefusalForm) (rests : CoreEvent → Type 0) where
  rested : (a b c : Option (List Step)) (takes : List Step) → Did rests a b takes → Rested rests b c → Did rests a c takes
  rested a b c takes d r = subst (Did rests a c) (append-nil takes) (did_then rests a b c takes [] d (did_rest rests b c r))

  -- ---- one take

  pub took_nothing : (ticket now : ℕ) (begun : Bool) (a b : Option (List Step)) (w : Option (List ℕ)) → MadeBy a b (Take ticket) now (Ok Pending)
      → Took form rests ticket begun a b w w taken.Nothing
  took_nothing ticket now begun a b w m =
      (now, Ok Pending, refl, did_turn rests a b (Take ticket) now (Ok Pending) refl m, appends_nothing w)

  pub took_reply : (ticket now : ℕ) (begun : Bool) (a b : Option (List Step)) (w w' : Option (List ℕ)) (answer : Answer) → MadeBy a b (Take ticket) now (Ok (Replied answer))
      → Appends w w' (said_at form begun (Ok (Replied answer))) → Took form rests ticket begun a b w w' taken.Last
  took_reply ticket now begun a b w w' answer m s =
      (now, Ok (Replied answer), refl, did_turn rests a b (Take ticket) now (Ok (Replied answer)) refl m, s)

  took_last : (ticket now : ℕ) (begun : Bool) (a b : Option (List Step)) (w w' : Option (List ℕ)) (item : WatchItem) → MadeBy a b (Take ticket) now (Ok (Item item))
      → is_cancel item ≡ true → Appends w w' (said_at form begun (Ok (Item item))) → Took form rests ticket begun a b w w' taken.Last
  took_last ticket now begun a b w w' item m c s =
      (now, Ok (Item item), c, did_turn rests a b (Take ticket) now (Ok (Item item)) refl m, s)

  took_part : (ticket now : ℕ) (begun : Bool) (a b : Option (List Step)) (w w' : Option (List ℕ)) (item : WatchItem) → MadeBy a b (Take ticket) now (Ok (Item item))
      → is_cancel item ≡ false → Appends w w' (said_at form begun (Ok (Item item))) → Took form rests ticket begun a b w w' taken.Part
  took_part ticket now begun a b w w' item m c s =
      (now, Ok (Item item), (ap not c, refl), did_turn rests a b (Take ticket) now (Ok (Item item)) refl m, s)

  -- it couldn't be written
  pub unsaid_last : (worn : Type 0) (ticket now : ℕ) (begun : Bool) (a b : Option (List Step)) (w w' : Option (List ℕ)) (answer : Outcome) (end : SessionEnd)
      → MadeBy a b (Take ticket) now (Ok answer) → is_final (Ok answer) ≡ true → IsUntold end → WritesFront w w' (said_at form begun (Ok answer))
      → Takes form rests worn ticket begun a b w w' (Err (stop.Answered end))
  unsaid_last worn ticket now begun a b w w' answer end m f u s =
      let e = entry_of (Take ticket) now (Ok answer) in (
        e ∷ [],
        TakesAll.up_to now [] (Ok answer) tt f,
        u,
        did_turn rests a b (Take ticket) now (Ok answer) refl m,
        subst (WritesFront w w') (sym (one_said form begun e)) s,
      )

  unsaid_part : (worn : Type 0) (ticket now : ℕ) (begun : Bool) (a b : Option (List Step)) (w w' : Option (List ℕ)) (item : WatchItem) (end : SessionEnd)
      → MadeBy a b (Take ticket) now (Ok (Item item)) → is_cancel item ≡ false → IsUntold end → WritesFront w w' (said_at form begun (Ok (Item item)))
      → Takes form rests worn ticket begun a b w w' (Err (stop.Unanswered end))
  unsaid_part worn ticket now begun a b w w' item end m c u s =
      let e = entry_of (Take ticket) now (Ok (Item item)) in (
        e ∷ [],
        [],
        ((refl, ap not c), tt),
        Stopping.untold end u,
        did_turn rests a b (Take ticket) now (Ok (Item item)) refl m,
        subst (WritesFront w w') (sym (one_said form begun e)) s,
      )

  -- a message was passed on, or couldn't be
  pub passed_on : (worn : Type 0) (ticket now : ℕ) (begun : Bool) (a b : Option (List Step)) (w w' : Option (List ℕ)) (item : WatchItem) (result : Result Taken Stop)
      → MadeBy a b (Take ticket) now (Ok (Item item)) → PassesOn begun item w w' result → Takes form rests worn ticket begun a b w w' result
  passed_on worn ticket now begun a b w w' item (Ok taken.Nothing) m p = absurd p
  passed_on worn ticket now begun a b w w' item (Ok taken.Part) m p = took_part ticket now begun a b w w' item m p.0 p.1
  passed_on worn ticket now begun a b w w' item (Ok taken.Last) m p = took_last ticket now begun a b w w' item m p.0 p.1
  passed_on worn ticket now begun a b w w' item (Err (stop.Unanswered end)) m p = unsaid_part worn ticket now begun a b w w' item end m p.0 p.1 p.2
  passed_on worn ticket now begun a b w w' item (Err (stop.Answered end)) m p = unsaid_last worn ticket now begun a b w w' (Item item) end m p.0 p.1 p.2

  -- the take failed
  failed_is : (worn : Type 0) (ticket now : ℕ) (fault : TurnFault) → (fault ≡ turn.Worn → worn) → Fits (Take ticket) (Err fault)
      → Stopping worn ticket (end_of fault) (steps_by (Take ticket) now (Err fault))
  failed_is worn ticket now turn.Worn l f = Stopping.late (l refl)
  failed_is worn ticket now (turn.Core fault) l f = Stopping.taking now fault f

  pub take_failed : (worn : Type 0) (ticket now : ℕ) (begun : Bool) (a b : Option (List Step)) (w : Option (List ℕ)) (fault : TurnFault) (last : SessionEnd) → last ≡ end_of fault
      → (fault ≡ turn.Worn → worn) → MadeBy a b (Take ticket) now (Err fault) → Fits (Take ticket) (Err fault) → Takes form rests worn ticket begun a b w w (Err (stop.Unanswered last))
  take_failed worn ticket now begun a b w fault last e l m f = (
    [],
    steps_by (Take ticket) now (Err fault),
    tt,
    subst (λ (x : SessionEnd). Stopping worn ticket x (steps_by (Take ticket) now (Err fault))) (sym e) (failed_is worn ticket now fault l f),
    did_turn rests a b (Take ticket) now (Err fault) refl m,
    front_none w w [] (keeps_itself w),
  )

  -- the same by another name
  pub taken_as : (ticket : ℕ) (begun : Bool) (a b : Option (List Step)) (u v : Option (List ℕ)) (x y : Taken) → x ≡ y → Took form rests ticket begun a b u v x
      → Took form rests ticket begun a b u v y
  taken_as ticket begun a b u v x y e t = subst (λ (z : Taken). Took form rests ticket begun a b u v z) e t

  pub stopped_as : (worn : Type 0) (ticket : ℕ) (a b : Option (List Step)) (u v : Option (List ℕ)) (x y : Stop) → x ≡ y → Follows form rests worn ticket a b u v (Err x)
      → Follows form rests worn ticket a b u v (Err y)
  stopped_as worn ticket a b u v x y e t = subst (λ (z : Stop). Follows form rests worn ticket a b u v (Err z)) e t

  pub asked_as : (request : Request) (a b : Option (List Step)) (u v : Option (List ℕ)) (x y : Attempt) → x ≡ y → AskedOnce form rests request a b u v x
      → AskedOnce form rests request a b u v y
  asked_as request a b u v x y e t = subst (λ (z : Attempt). AskedOnce form rests request a b u v z) e t

  -- ---- rests and takes

  pub nothing_yet : (ticket : ℕ) (a : Option (List Step)) (w : Option (List ℕ)) → Partly form rests ticket false a a w w
  nothing_yet ticket a w = record { takes = []; partial = tt; did = did_nothing rests a; said = appends_nothing w; begun_so = refl }

  said_then : (ticket : ℕ) (begun : Bool) (a b : Option (List Step)) (u v w : Option (List ℕ)) (p : Partly form rests ticket begun a b u v) (e : Step)
      → Appends v w (said_at form begun e.answer) → Appends u w (said_from form false (p.takes ++ e ∷ []))
  said_then ticket begun a b u v w p e s =
      subst (Appends u w) (sym (said_append form false p.takes (e ∷ []))) (Appends-trans u v w (said_from form false p.takes) (said_from form (begun_by p.takes) (e ∷ [])) p.said
      (subst (Appends v w) (ap (λ (b : Bool). said_at form b e.answer) (sym p.begun_so) ∙ sym (one_said form (begun_by p.takes) e)) s))

  more : (ticket now : ℕ) (begun : Bool) (a b c d : Option (List Step)) (u v w : Option (List ℕ)) (answer : Result Outcome StepFault) → (p : Partly form rests ticket begun a b u v)
      → Rested rests b c → goes_on answer ≡ true → Did rests c d (entry_of (Take ticket) now answer ∷ []) → Appends v w (said_at form begun answer)
      → Partly form rests ticket (begun || begins answer) a d u w
  more ticket now begun a b c d u v w answer p r g m s =
      let e = entry_of (Take ticket) now answer in
      record {
        takes = p.takes ++ e ∷ [];
        partial = every_append (λ (x : Step). (x.event ≡ Take ticket) × (goes_on x.answer ≡ true)) p.takes (e ∷ []) p.partial ((refl, g), tt);
        did = did_then rests a c d p.takes (e ∷ []) (rested a b c p.takes p.did r) m;
        said = said_then ticket begun a b u v w p e s;
        begun_so = begun_append p.takes (e ∷ []) ∙ ap (λ (x : Bool). x || (begins answer || false)) p.begun_so ∙ ap (λ (x : Bool). begun || x) (sym (or_false (begins answer)));
      }

  or_true : (b : Bool) → (b || true) ≡ true
  or_true true = refl
  or_true false = refl

  pub part_taken : (ticket : ℕ) (begun : Bool) (a b c d : Option (List Step)) (u v w : Option (List ℕ)) → Partly form rests ticket begun a b u v → Rested rests b c
      → Took form rests ticket begun c d v w taken.Part → Partly form rests ticket true a d u w
  part_taken ticket begun a b c d u v w p r t =
      let all = more ticket t.0 begun a b c d u v w t.1 p r t.2.0 t.3 t.4 in
      subst (λ (x : Bool). Partly form rests ticket x a d u w) (ap (λ (x : Bool). begun || x) t.2.1 ∙ or_true begun) all

  pub nothing_taken : (ticket : ℕ) (begun : Bool) (a b c d : Option (List Step)) (u v w : Option (List ℕ)) → Partly form rests ticket begun a b u v → Rested rests b c
      → Took form rests ticket begun c d v w taken.Nothing → Partly form rests ticket begun a d u w
  nothing_taken ticket begun a b c d u v w p r t =
      let all = more ticket t.0 begun a b c d u v w t.1 p r (ap goes_on t.2) t.3 t.4 in
      subst (λ (x : Bool). Partly form rests ticket x a d u w) (ap (λ (x : Bool). begun || x) (ap begins t.2) ∙ sym (or_false begun)) all

  pub last_taken : (ticket : ℕ) (begun : Bool) (a b c d : Option (List Step)) (u v w : Option (List ℕ)) → Partly form rests ticket begun a b u v → Rested rests b c
      → Took form rests ticket begun c d v w taken.Last → FollowsAll form rests ticket a d u w
  last_taken ticket begun a b c d u v w p r t =
      let e = entry_of (Take ticket) t.0 t.1 in (
        p.takes ++ e ∷ [],
        TakesAll.up_to t.0 p.takes t.1 p.partial t.2,
        did_then rests a c d p.takes (e ∷ []) (rested a b c p.takes p.did r) t.3,
        said_then ticket begun a b u v w p e t.4,
      )

  -- no more is taken, behind what was taken before
  front_behind : (begun : Bool) (u v w : Option (List ℕ)) (xs ys : List Step) → begun_by xs ≡ begun → Appends u v (said_from form false xs) → WritesFront v w (said_from form begun ys)
      → WritesFront u w (said_from form false (xs ++ ys))
  front_behind begun u v w xs ys e a f =
      subst (WritesFront u w) (sym (said_append form false xs ys))
      (front_after u v w (said_from form false xs) (said_from form (begun_by xs) ys) a (subst (λ (b : Bool). WritesFront v w (said_from form b ys)) (sym e) f))

  all_behind : (ticket : ℕ) (xs ys : List Step) → ArePartial ticket xs → TakesAll ticket ys → TakesAll ticket (xs ++ ys)
  all_behind ticket xs _ p (TakesAll.up_to now takes last q f) =
      let e = entry_of (Take ticket) now last in
      subst (TakesAll ticket) (append_assoc xs takes (e ∷ []))
      (TakesAll.up_to now (xs ++ takes) last (every_append (λ (x : Step). (x.event ≡ Take ticket) × (goes_on x.answer ≡ true)) xs takes p q) f)

  pub stopped_then : (worn : Type 0) (ticket : ℕ) (begun : Bool) (a b c d : Option (List Step)) (u v w : Option (List ℕ)) (why : Stop) → Partly form rests ticket begun a b u v → Rested rests b c
      → Takes form rests worn ticket begun c d v w (Err why) → Follows form rests worn ticket a d u w (Err why)
  stopped_then worn ticket begun a b c d u v w (stop.Unanswered end) p r s = (
    p.takes ++ s.0,
    s.1,
    every_append (λ (x : Step). (x.event ≡ Take ticket) × (goes_on x.answer ≡ true)) p.takes s.0 p.partial s.2,
    s.3,
    subst (Did rests a d) (sym (append_assoc p.takes s.0 s.1)) (did_then rests a c d p.takes (s.0 ++ s.1) (rested a b c p.takes p.did r) s.4),
    front_behind begun u v w p.takes s.0 p.begun_so p.said s.5,
  )
  stopped_then worn ticket begun a b c d u v w (stop.Answered end) p r s = (
    p.takes ++ s.0,
    all_behind ticket p.takes s.0 p.partial s.1,
    s.2,
    did_then rests a c d p.takes s.0 (rested a b c p.takes p.did r) s.3,
    front_behind begun u v w p.takes s.0 p.begun_so p.said s.4,
  )

  rest_stops : (worn : Type 0) (ticket : ℕ) (fault : TurnFault) → IsOfRest fault → (IsTrue (is_late fault) → worn) → Stopping worn ticket (end_of fault) []
  rest_stops worn ticket turn.Worn f l = Stopping.late (l refl)
  rest_stops worn ticket (turn.Core step.Worn) f l = Stopping.late (l refl)
  rest_stops worn ticket (turn.Core step.NoMemory) f l = Stopping.untold end.NoMemory tt
  rest_stops worn ticket (turn.Core (step.TicketUsed other)) f l = absurd f
  rest_stops worn ticket (turn.Core (step.NoSuchTicket other)) f l = absurd f
  rest_stops worn ticket (turn.Core (step.NoSuchCall other)) f l = absurd f
  rest_stops worn ticket (turn.Core (step.NoSuchStream other)) f l = absurd f

  pub rest_failed : (worn : Type 0) (ticket : ℕ) (begun : Bool) (a b c : Option (List Step)) (u v : Option (List ℕ)) (fault : TurnFault) (last : SessionEnd) → last ≡ end_of fault
      → Partly form rests ticket begun a b u v → Rested rests b c → IsOfRest fault → (IsTrue (is_late fault) → worn) → Follows form rests worn ticket a c u v (Err (stop.Unanswered last))
  rest_failed worn ticket begun a b c u v fault last e p r f l = (
    p.takes,
    [],
    p.partial,
    subst (λ (x : SessionEnd). Stopping worn ticket x []) (sym e) (rest_stops worn ticket fault f l),
    did_then rests a c c p.takes [] (rested a b c p.takes p.did r) (did_nothing rests c),
    front_all u v (said_from form false p.takes) p.said,
  )

  -- the client went away
  pub client_went : (worn : Type 0) (ticket : ℕ) (begun : Bool) (a b : Option (List Step)) (u v : Option (List ℕ)) → Partly form rests ticket begun a b u v
      → Follows form rests worn ticket a b u v (Err (stop.Unanswered end.ReadFault))
  client_went worn ticket begun a b u v p =
      (p.takes, [], p.partial, Stopping.went, did_then rests a b b p.takes [] p.did (did_nothing rests b), front_all u v (said_from form false p.takes) p.said)

module _ (rests : CoreEvent → Type 0) where
  -- ---- where a ticket is left

  -- a connection that ends while a ticket waits ends for want of no other ticket
  names_it : (ticket : ℕ) (fault : StepFault) → FitsFault (Take ticket) fault → IsOfTicket ticket (end_of_step fault)
  names_it ticket (step.NoSuchTicket other) f = f
  names_it ticket step.Worn f = tt
  names_it ticket step.NoMemory f = tt
  names_it ticket (step.TicketUsed other) f = tt
  names_it ticket (step.NoSuchCall other) f = tt
  names_it ticket (step.NoSuchStream other) f = tt

  untold_names : (ticket : ℕ) (end : SessionEnd) → IsUntold end → IsOfTicket ticket end
  untold_names ticket (end.TicketTaken other) u = absurd u
  untold_names ticket end.Closed u = tt
  untold_names ticket (end.BadRequest fault) u = tt
  untold_names ticket end.ReadFault u = tt
  untold_names ticket end.WriteFault u = tt
  untold_names ticket end.OutOfTickets u = tt
  untold_names ticket end.Worn u = tt
  untold_names ticket end.NoMemory u = tt

  stops_at : (worn : Type 0) (ticket : ℕ) (end : SessionEnd) (steps : List Step) → Stopping worn ticket end steps → IsOfTicket ticket end
  stops_at worn ticket _ _ (Stopping.late l) = tt
  stops_at worn ticket _ _ (Stopping.taking now fault f) = names_it ticket fault f
  stops_at worn ticket _ _ Stopping.went = tt
  stops_at worn ticket _ _ (Stopping.untold end u) = untold_names ticket end u

  -- what holds where the turn is worn holds where it is worn later
  stopping_later : (worn worn' : Type 0) (ticket : ℕ) (end : SessionEnd) (steps : List Step) → (worn → worn') → Stopping worn ticket end steps → Stopping worn' ticket end steps
  stopping_later worn worn' ticket _ _ k (Stopping.late l) = Stopping.late (k l)
  stopping_later worn worn' ticket _ _ k (Stopping.taking now fault f) = Stopping.taking now fault f
  stopping_later worn worn' ticket _ _ k Stopping.went = Stopping.went
  stopping_later worn worn' ticket _ _ k (Stopping.untold end u) = Stopping.untold end u

  pub worn_before : (worn : Type 0) (ticket : ℕ) (first : SessionEnd) (a : Option (List Step)) → first ≡ end.Worn → Left rests worn ticket first end.Worn a a
  worn_before worn ticket first a e = ([], subst (λ (x : SessionEnd). Gone worn ticket x end.Worn []) (sym e) Gone.stands, did_nothing rests a)

  pub taken_before : (worn : Type 0) (ticket other : ℕ) (first : SessionEnd) (a : Option (List Step)) → first ≡ end.TicketTaken other → IsOfTicket ticket first
      → Left rests worn ticket first (end.TicketTaken other) a a
  taken_before worn ticket other first a e n =
      let is : other ≡ ticket = subst (IsOfTicket ticket) e n in
      ([], subst (λ (x : SessionEnd). Gone worn ticket x (end.TicketTaken other) []) (sym e) (subst (λ (t : ℕ). Gone worn ticket (end.TicketTaken t) (end.TicketTaken t) []) (sym is) Gone.taken), did_nothing rests a)

  pub was_left : (worn : Type 0) (ticket now : ℕ) (a b : Option (List Step)) (end : SessionEnd) (result : Result Outcome TurnFault) → MadeBy a b (Leave ticket) now result
      → is_worn result ≡ false → Left rests worn ticket end end a b
  was_left worn ticket now a b end (Ok outcome) m n = (_, Gone.leaves end now (Ok outcome), did_turn rests a b (Leave ticket) now (Ok outcome) refl m)
  was_left worn ticket now a b end (Err (turn.Core fault)) m n = (_, Gone.leaves end now (Err fault), did_turn rests a b (Leave ticket) now (Err (turn.Core fault)) refl m)
  was_left worn ticket now a b end (Err turn.Worn) m n = absurd (cc)

  pub worn_then : (worn : Type 0) (ticket now : ℕ) (a b : Option (List Step)) (first : SessionEnd) (result : Result Outcome TurnFault) → IfErr result (λ why. why ≡ turn.Worn → worn)
      → MadeBy a b (Leave ticket) now result → is_worn result ≡ true → Left rests worn ticket first end.Worn a b
  worn_then worn ticket now a b first (Ok outcome) l m n = absurd (cc)
  worn_then worn ticket now a b first (Err (turn.Core fault)) l m n = absurd (cc)
  worn_then worn ticket now a b first (Err turn.Worn) l m n = ([], Gone.late first (l refl), did_turn rests a b (Leave ticket) now (Err turn.Worn) refl m)

module _ (form : RefusalForm) (rests : CoreEvent → Type 0) where
  -- ---- the kinds of an Ask

  pub replied_at_once : (ticket word now : ℕ) (request : Request) (a b : Option (List Step)) (w w' : Option (List ℕ)) (answer : Answer)
      → MadeBy a b (Ask ticket request word) now (Ok (Replied answer)) → Appends w w' (said_at form false (Ok (Replied answer))) → AskedOnce form rests request a b w w' attempt.Whole
  replied_at_once ticket word now request a b w w' answer m s =
      let e = entry_of (Ask ticket request word) now (Ok (Replied answer)) in (
        e ∷ [],
        Whole.at_once ticket word now answer,
        did_turn rests a b (Ask ticket request word) now (Ok (Replied answer)) refl m,
        subst (Appends w w') (sym (one_said form false e)) s,
      )

  pub reply_unsaid : (worn : Type 0) (ticket word now : ℕ) (request : Request) (a b : Option (List Step)) (w w' : Option (List ℕ)) (answer : Answer) (end : SessionEnd)
      → MadeBy a b (Ask ticket request word) now (Ok (Replied answer)) → IsUntold end → WritesFront w w' (said_at form false (Ok (Replied answer)))
      → Asks form rests worn request a b w w' (Err end)
  reply_unsaid worn ticket word now request a b w w' answer end m u s =
      let e = entry_of (Ask ticket request word) now (Ok (Replied answer)) in (
        e ∷ [],
        Breaks.unsaid ticket word now answer end u,
        did_turn rests a b (Ask ticket request word) now (Ok (Replied answer)) refl m,
        subst (WritesFront w w') (sym (one_said form false e)) s,
      )

  pub ticket_in_use : (ticket word now : ℕ) (request : Request) (a b : Option (List Step)) (w : Option (List ℕ)) (fault : TurnFault) → is_in_use fault ≡ true
      → MadeBy a b (Ask ticket request word) now (Err fault) → Fits (Ask ticket request word) (Err fault) → AskedOnce form rests request a b w w attempt.InUse
  ticket_in_use ticket word now request a b w (turn.Core (step.TicketUsed used)) u m f =
      let e = entry_of (Ask ticket request word) now (Err (step.TicketUsed used)) in
      (e ∷ [], ((ticket, word, refl, ap (λ (n : ℕ). Err (step.TicketUsed n)) f), tt), did_turn rests a b (Ask ticket request word) now (Err (turn.Core (step.TicketUsed used))) refl m, refl)
  ticket_in_use ticket word now request a b w turn.Worn u m f = absurd (cc)
  ticket_in_use ticket word now request a b w (turn.Core (step.NoSuchTicket other)) u m f = absurd f
  ticket_in_use ticket word now request a b w (turn.Core (step.NoSuchCall other)) u m f = absurd f
  ticket_in_use ticket word now request a b w (turn.Core (step.NoSuchStream other)) u m f = absurd f
  ticket_in_use ticket word now request a b w (turn.Core step.Worn) u m f = absurd (cc)
  ticket_in_use ticket word now request a b w (turn.Core step.NoMemory) u m f = absurd (cc)

  -- the Ask failed for another reason than that its ticket was in use
  of_rest : (ticket word : ℕ) (request : Request) (fault : TurnFault) → is_in_use fault ≡ false → Fits (Ask ticket request word) (Err fault) → IsOfRest fault
  of_rest ticket word request turn.Worn u f = tt
  of_rest ticket word request (turn.Core step.Worn) u f = tt
  of_rest ticket word request (turn.Core step.NoMemory) u f = tt
  of_rest ticket word request (turn.Core (step.TicketUsed used)) u f = absurd (cc)
  of_rest ticket word request (turn.Core (step.NoSuchTicket other)) u f = absurd f
  of_rest ticket word request (turn.Core (step.NoSuchCall other)) u f = absurd f
  of_rest ticket word request (turn.Core (step.NoSuchStream other)) u f = absurd f

  pub not_asked : (worn : Type 0) (ticket word now : ℕ) (request : Request) (a b : Option (List Step)) (w : Option (List ℕ)) (fault : TurnFault) (last : SessionEnd) → last ≡ end_of fault
      → is_in_use fault ≡ false → (fault ≡ turn.Worn → worn) → MadeBy a b (Ask ticket request word) now (Err fault) → Fits (Ask ticket request word) (Err fault) → Asks form rests worn request a b w w (Err last)
  not_asked worn ticket word now request a b w turn.Worn last e u l m f = (
    [],
    subst (λ (x : SessionEnd). Breaks worn request x []) (sym e) (Breaks.unasked end.Worn (l refl)),
    did_turn rests a b (Ask ticket request word) now (Err turn.Worn) refl m,
    front_none w w [] (keeps_itself w),
  )
  not_asked worn ticket word now request a b w (turn.Core fault) last e u l m f =
      let steps = steps_by (Ask ticket request word) now (Err (turn.Core fault)) in (
        steps,
        subst (λ (x : SessionEnd). Breaks worn request x steps) (sym e) (Breaks.fails ticket word now fault (of_rest ticket word request (turn.Core fault) u f)),
        did_turn rests a b (Ask ticket request word) now (Err (turn.Core fault)) refl m,
        front_none w w [] (keeps_itself w),
      )

  pub waits_whole : (ticket word at : ℕ) (request : Request) (a b c : Option (List Step)) (w w' : Option (List ℕ)) → MadeBy a b (Ask ticket request word) at (Ok Waiting)
      → FollowsAll form rests ticket b c w w' → AskedOnce form rests request a c w w' attempt.Whole
  waits_whole ticket word at request a b c w w' m f =
      let e = entry_of (Ask ticket request word) at (Ok Waiting) in
      (e ∷ f.0, Whole.waited ticket word at f.0 f.1, did_then rests a b c (e ∷ []) f.0 (did_turn rests a b (Ask ticket request word) at (Ok Waiting) refl m) f.2, f.3)

  pub waits_unsaid : (worn : Type 0) (ticket word at : ℕ) (request : Request) (a b c : Option (List Step)) (w w' : Option (List ℕ)) (end : SessionEnd) → MadeBy a b (Ask ticket request word) at (Ok Waiting)
      → Follows form rests worn ticket b c w w' (Err (stop.Answered end)) → Asks form rests worn request a c w w' (Err end)
  waits_unsaid worn ticket word at request a b c w w' end m f =
      let e = entry_of (Ask ticket request word) at (Ok Waiting) in (
        e ∷ f.0,
        Breaks.waiting ticket word at end f.0 (Stops.unsaid end f.0 f.2 f.1),
        did_then rests a b c (e ∷ []) f.0 (did_turn rests a b (Ask ticket request word) at (Ok Waiting) refl m) f.3,
        f.4,
      )

  pub gave_up : (worn worn' : Type 0) (ticket word at : ℕ) (request : Request) (a b c d : Option (List Step)) (w w' : Option (List ℕ)) (first end : SessionEnd) → (worn → worn')
      → MadeBy a b (Ask ticket request word) at (Ok Waiting) → Follows form rests worn ticket b c w w' (Err (stop.Unanswered first)) → (IsOfTicket ticket first → Left rests worn' ticket first end c d)
      → Asks form rests worn' request a d w w' (Err end)
  gave_up worn worn' ticket word at request a b c d w w' first end k m f left =
      let e = entry_of (Ask ticket request word) at (Ok Waiting) in
      let l = left (stops_at rests worn ticket first f.1 f.3) in
      let steps = f.0 ++ f.1 ++ l.0 in (
        e ∷ steps,
        Breaks.waiting ticket word at end steps (Stops.gone first end f.0 f.1 l.0 f.2 (stopping_later rests worn worn' ticket first f.1 k f.3) l.1),
        did_then rests a b d (e ∷ []) steps (did_turn rests a b (Ask ticket request word) at (Ok Waiting) refl m) (did_then rests b c d (f.0 ++ f.1) l.0 f.4 l.2),
        subst (λ (xs : List Step). WritesFront w w' (said_from form false xs)) (sym (append_assoc f.0 f.1 l.0)) (front_of_more form false w w' f.0 (f.1 ++ l.0) f.5),
      )
