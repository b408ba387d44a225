-- A connection in whose way nothing stood ends with all its requests answered.
use Rattle.std.proofs.Common.{◌≡◌, ℕ, ◌+◌, false, List, [], ◌∷◌, ◌++◌, length, Option, None, Some, IfSome, Result, Ok, Err, refl, sym, ap, ◌∙◌, subst, arith, inl, inr}
use Rattle.std.specs.List.{flat_map}
use Rattle.outside.specs.Faults.{Rose}
use Rattle.etcd_types.specs.declared.request.Request.{Request}
use Rattle.http_wire.specs.declared.fault.WireFault.{WireFault}
use Rattle.http_wire.specs.declared.message.Head.{Head}
use Rattle.core_model.specs.declared.event.CoreEvent.{CoreEvent}
use Rattle.core_model.specs.declared.event.CoreEvent.TheVariants.{Take}
use Rattle.core_model.specs.declared.event.StepFault.{StepFault}
use Rattle.core_model.specs.declared.event.StepFault.TheVariants as step
use Rattle.server_model.specs.declared.ends.SessionEnd.{SessionEnd}
use Rattle.server_model.specs.declared.ends.SessionEnd.TheVariants as end
use Rattle.server_model.specs.declared.fault.TurnFault.TheVariants as turn
use Rattle.http_talk.specs.declared.form.RefusalForm.{RefusalForm}
use Rattle.http_talk.specs.declared.ready.Ready.{Ready}
use Rattle.http_talk.specs.Direct.{Direct, Refuses, Gives, Undecided}
use Rattle.http_talk.specs.Requests.{AreWhole, AreRequests}
use Rattle.server_model.specs.Steps.{Step, Every, FitsFault, IsOfRest}
use Rattle.server_model.specs.Dialog.{Last, IsLast, Suits, SuitsUnread, StopsIn, IsUnsaid, Breaks, Stops, Stopping, Gone, IsUntold, IsUnasked, Exchange, Requests, Dialog, end_of_step, last_steps}
use Rattle.server_model.specs.Numbers.{Rises, LastNumbered, asks}
use Rattle.server_model.specs.Complete.{is_refused, IsUnhindered, Completes}
use Rattle.http_talk.proofs.Whole.{request_ends_once, no_head, no_bad_head, no_bad_body}

-- behind requests that were read, whole ones are left
whole_behind : (ws : List (Head × List ℕ)) (xs : List Exchange) (all mid : List ℕ) → AreRequests ws all → Requests xs all mid
    → (vs : List (Head × List ℕ)) × AreRequests vs mid
whole_behind ws [] all mid a r = (ws, subst (AreRequests ws) r a)
whole_behind [] (x ∷ xs) all mid a r = absurd (no_head all r.1.0 x.head a r.1.1)
whole_behind (w ∷ ws) (x ∷ xs) all mid a r =
    whole_behind ws xs r.0 mid (subst (AreRequests ws) (request_ends_once w.0 x.head w.1 x.body all a.0 r.0 a.1 r.1) a.2) r.2

every_left : {A : Type 0} (P : A → Type 0) (xs ys : List A) → Every P (xs ++ ys) → Every P xs
every_left P [] ys e = tt
every_left P (x ∷ xs) ys e = (e.0, every_left P xs ys e.1)

every_right : {A : Type 0} (P : A → Type 0) (xs ys : List A) → Every P (xs ++ ys) → Every P ys
every_right P [] ys e = e
every_right P (x ∷ xs) ys e = every_right P xs ys e.1

-- none of the steps failed for want of a ticket or of further steps
abbrev NoneRefused : List Step → Type 0
NoneRefused steps = Every (λ (e : Step). is_refused e.answer ≡ false) steps

-- an end that a failed step has no part in
abbrev IsPlain : SessionEnd → Type 0
IsPlain (end.TicketTaken ticket) = ⊥
IsPlain end.Worn = ⊥
IsPlain _ = Unit {0}

untold_plain : (last : SessionEnd) → IsUntold last → IsPlain last
untold_plain end.WriteFault u = tt
untold_plain end.NoMemory u = tt
untold_plain end.Closed u = tt
untold_plain (end.BadRequest fault) u = tt
untold_plain end.ReadFault u = tt
untold_plain end.OutOfTickets u = tt
untold_plain (end.TicketTaken ticket) u = absurd u
untold_plain end.Worn u = absurd u

take_plain : (ticket now : ℕ) (fault : StepFault) → FitsFault (Take ticket) fault → is_refused (Err fault) ≡ false → IsPlain (end_of_step fault)
take_plain ticket now (step.NoSuchTicket other) f n = absurd (cc)
take_plain ticket now step.Worn f n = absurd (cc)
take_plain ticket now step.NoMemory f n = tt
take_plain ticket now (step.TicketUsed other) f n = absurd f
take_plain ticket now (step.NoSuchCall other) f n = absurd f
take_plain ticket now (step.NoSuchStream other) f n = absurd f

ask_plain : (fault : StepFault) → IsOfRest (turn.Core fault) → is_refused (Err fault) ≡ false → IsPlain (end_of_step fault)
ask_plain (step.NoSuchTicket other) f n = absurd f
ask_plain step.Worn f n = absurd (cc)
ask_plain step.NoMemory f n = tt
ask_plain (step.TicketUsed other) f n = absurd f
ask_plain (step.NoSuchCall other) f n = absurd f
ask_plain (step.NoSuchStream other) f n = absurd f

module _ (gives : Head → List ℕ → Option Ready → Type 0) (worn : Type 0) (never : worn → ⊥) where
  stopping_plain : (ticket : ℕ) (last : SessionEnd) (steps : List Step) → Stopping worn ticket last steps → NoneRefused steps → IsPlain last
  stopping_plain ticket _ _ (Stopping.late w) n = absurd (never w)
  stopping_plain ticket _ _ (Stopping.taking now fault f) n = take_plain ticket now fault f n.0
  stopping_plain ticket _ _ Stopping.went n = tt
  stopping_plain ticket _ _ (Stopping.untold last u) n = untold_plain last u

  gone_plain : (ticket : ℕ) (first last : SessionEnd) (steps : List Step) → Gone worn ticket first last steps → IsPlain first → IsPlain last
  gone_plain ticket _ _ _ (Gone.leaves last now answer) p = p
  gone_plain ticket _ _ _ (Gone.late first w) p = absurd (never w)
  gone_plain ticket _ _ _ Gone.stands p = p
  gone_plain ticket _ _ _ Gone.taken p = p

  stops_plain : (ticket : ℕ) (last : SessionEnd) (steps : List Step) → Stops worn ticket last steps → NoneRefused steps → IsPlain last
  stops_plain ticket _ _ (Stops.gone first last takes failed tail p s g) n =
      let P : Step → Type 0 = λ e. is_refused e.answer ≡ false in
      gone_plain ticket first last tail g (stopping_plain ticket first failed s (every_right P takes failed (every_left P (takes ++ failed) tail n)))
  stops_plain ticket _ _ (Stops.unsaid last takes u t) n = untold_plain last u

  unasked_plain : (last : SessionEnd) → IsUnasked worn last → IsPlain last
  unasked_plain end.OutOfTickets u = tt
  unasked_plain end.Worn u = never u
  unasked_plain end.NoMemory u = tt
  unasked_plain end.Closed u = tt
  unasked_plain (end.BadRequest fault) u = tt
  unasked_plain end.ReadFault u = tt
  unasked_plain end.WriteFault u = tt
  unasked_plain (end.TicketTaken ticket) u = absurd u

  breaks_plain : (request : Request) (last : SessionEnd) (steps : List Step) → Breaks worn request last steps → NoneRefused steps → IsPlain last
  breaks_plain request _ _ (Breaks.unasked last u) n = unasked_plain last u
  breaks_plain request _ _ (Breaks.fails ticket word now fault f) n = ask_plain fault f n.0
  breaks_plain request _ _ (Breaks.unsaid ticket word now answer last u) n = untold_plain last u
  breaks_plain request _ _ (Breaks.waiting ticket word at last takes s) n = stops_plain ticket last takes s n.1

  direct_plain : (direct : Direct) (last : SessionEnd) → IsUnsaid direct last → IsPlain last
  direct_plain (Refuses refused) last u = untold_plain last u
  direct_plain (Gives ready) last u = untold_plain last u
  direct_plain Undecided last u = subst IsPlain (sym u) tt

  broken_plain : (asked : Result Request Direct) (last : SessionEnd) (steps : List Step) → StopsIn worn asked last steps → NoneRefused steps → IsPlain last
  broken_plain (Err direct) last steps s n = direct_plain direct last s.1
  broken_plain (Ok request) last steps s n =
      let P : Step → Type 0 = λ e. is_refused e.answer ≡ false in
      breaks_plain request last s.rest s.last (every_right P s.tries s.rest (subst NoneRefused s.parts n))

  unread_plain : (last : SessionEnd) (with_it : Last) → SuitsUnread last with_it → IsPlain last
  unread_plain end.Closed with_it s = tt
  unread_plain (end.BadRequest fault) with_it s = tt
  unread_plain end.ReadFault with_it s = tt
  unread_plain end.WriteFault with_it s = tt
  unread_plain end.OutOfTickets with_it s = tt
  unread_plain (end.TicketTaken ticket) with_it s = absurd s
  unread_plain end.Worn with_it s = absurd s
  unread_plain end.NoMemory with_it s = tt

  last_plain : (last : SessionEnd) (with_it : Last) → Suits gives worn last with_it → NoneRefused (last_steps with_it) → IsPlain last
  last_plain last Last.Ended s n = unread_plain last Last.Ended s
  last_plain last (Last.Closing x) s n = subst IsPlain (sym s.0) tt
  last_plain last (Last.Unread fault) s n = unread_plain last (Last.Unread fault) s
  last_plain last (Last.BadBody head fault) s n = unread_plain last (Last.BadBody head fault) s
  last_plain last Last.Nothing s n = unread_plain last Last.Nothing s
  last_plain last (Last.Announced head) s n = unread_plain last (Last.Announced head) s
  last_plain last (Last.Broken x) s n = broken_plain x.asked last x.steps s.2 n

  not_closed : (fault : WireFault) → end.BadRequest fault ≡ end.Closed → ⊥
  not_closed fault e = cc

  bad_last : (with_it : Last) (fault : WireFault) (ws : List (Head × List ℕ)) (all : List ℕ) → AreRequests ws all → Suits gives worn (end.BadRequest fault) with_it → IsLast with_it all → ⊥
  bad_last Last.Ended fault ws all a s l = s
  bad_last (Last.Closing x) fault ws all a s l = not_closed fault s.0
  bad_last (Last.Unread cause) fault ws all a s l = no_bad_head ws all l.0 cause s.1 a l.1
  bad_last (Last.BadBody head cause) fault ws all a s l = no_bad_body ws all l.0 l.1 head cause s.1 a l.2 l.3
  bad_last Last.Nothing fault ws all a s l = s
  bad_last (Last.Announced head) fault ws all a s l = s
  bad_last (Last.Broken x) fault ws all a s l = s.0

  -- whole requests are read with no fault of their bytes
  reads_well : (whole : List Exchange) (with_it : Last) (fault : WireFault) (left : Option (List ℕ)) → AreWhole left
      → IfSome left (λ (all : List ℕ). (mid : List ℕ) × Requests whole all mid × IsLast with_it mid) → Suits gives worn (end.BadRequest fault) with_it → ⊥
  reads_well whole with_it fault None w r s = w
  reads_well whole with_it fault (Some all) w r s =
      let behind = whole_behind w.0 whole all r.0 w.1 r.1 in
      bad_last with_it fault behind.0 r.0 behind.1 s r.2

-- tickets that rise one by one reach as far as there are
rises_to : (from to : ℕ) (pairs : List (ℕ × ℕ)) → Rises from to pairs → to ≡ from + length pairs
rises_to from to [] r = sym r ∙ omega arith
rises_to from to (p ∷ ps) r = rises_to (from + 1) to ps r.1 ∙ omega arith

module _ (form : RefusalForm) (gives : Head → List ℕ → Option Ready → Type 0) (rests : CoreEvent → Type 0) (worn : Type 0) where
  ends_plain : (left : Option (List ℕ)) (made made' : Option (List Step)) (written written' : Option (List ℕ)) (last : SessionEnd) (limit from reads reads' writes writes' : ℕ)
      → Dialog form gives rests worn left made made' written written' last → IsUnhindered left made made' worn limit from reads reads' writes writes' → IsPlain last
  ends_plain left made made' written written' last limit from reads reads' writes writes' d h =
      let P : Step → Type 0 = λ e. is_refused e.answer ≡ false in
      let all = flat_map (λ (x : Exchange). x.steps) d.whole in
      let none : NoneRefused (all ++ last_steps d.last) = subst NoneRefused d.did.mine_are (h.none_refused d.did.steps d.did.adds) in
      last_plain gives worn h.not_worn last d.last d.suits (every_right P all (last_steps d.last) none)

  pub completes : (left : Option (List ℕ)) (made made' : Option (List Step)) (written written' given given' : Option (List ℕ)) (last : SessionEnd) (limit from reads reads' writes writes' : ℕ)
      → Dialog form gives rests worn left made made' written written' last → LastNumbered last limit from given given' made made' → (last ≡ end.ReadFault → Rose reads reads')
      → (last ≡ end.WriteFault → Rose writes writes') → Completes left made made' worn limit from reads reads' writes writes' last
  completes left made made' written written' given given' end.Closed limit from reads reads' writes writes' d n r w h = inl refl
  completes left made made' written written' given given' end.NoMemory limit from reads reads' writes writes' d n r w h = inr refl
  completes left made made' written written' given given' end.ReadFault limit from reads reads' writes writes' d n r w h = absurd (h.no_read_failed (r refl))
  completes left made made' written written' given given' end.WriteFault limit from reads reads' writes writes' d n r w h = absurd (h.no_write_failed (w refl))
  completes left made made' written written' given given' end.OutOfTickets limit from reads reads' writes writes' d n r w h =
      let enough = h.tickets_left n.asked.steps n.asked.adds in
      let none = n.none_left refl in
      let reach = rises_to from n.to n.pairs n.rises in
      let same : length (asks n.asked.steps) ≡ length n.pairs = ap length n.asked.are in
      absurd (omega arith)
  completes left made made' written written' given given' (end.TicketTaken ticket) limit from reads reads' writes writes' d n r w h =
      absurd (ends_plain left made made' written written' (end.TicketTaken ticket) limit from reads reads' writes writes' d h)
  completes left made made' written written' given given' end.Worn limit from reads reads' writes writes' d n r w h =
      absurd (ends_plain left made made' written written' end.Worn limit from reads reads' writes writes' d h)
  completes left made made' written written' given given' (end.BadRequest fault) limit from reads reads' writes writes' d n r w h =
      absurd (reads_well gives worn h.not_worn d.whole d.last fault left h.whole d.read d.suits)
