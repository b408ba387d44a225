-- One request: what is done and written for it, and how the connection ends in its midst.
use Rattle.std.proofs.Common.{◌≡◌, ℕ, true, false, ◌||◌, List, [], ◌∷◌, ◌++◌, Option, None, Some, Result, Ok, Err, IfSome, refl, sym, ap, ◌∙◌, append-nil, subst}
use Rattle.std.proofs.KnownBytes.{Appends-trans}
use Rattle.std.specs.Io.KnownBytes.{Appends, Keeps}
use Rattle.outside.specs.Streams.{WritesFront}
use Rattle.etcd_types.specs.declared.request.Request.{Request}
use Rattle.http_wire.specs.declared.fault.WireFault.{WireFault}
use Rattle.http_wire.specs.declared.message.Head.{Head}
use Rattle.http_wire.specs.Connections.{WireState, bytes_ahead}
use Rattle.http_wire.specs.Written.{Writes}
use Rattle.json_model.specs.declared.extra.Reading.TheVariants.{Client}
use Rattle.http_talk.specs.declared.form.RefusalForm.{RefusalForm}
use Rattle.http_talk.specs.declared.ready.Ready.{Ready}
use Rattle.http_talk.specs.declared.refused.Refused.{Refused}
use Rattle.http_talk.specs.Direct.{Refuses, Gives, Undecided, Decides, direct_said}
use Rattle.http_talk.specs.Refusals.{refusal_to, reply_to}
use Rattle.http_talk.specs.Replies.{go_on_of}
use Rattle.http_talk.specs.Requests.{Ahead, IsRequest, asked_of}
use Rattle.core_model.specs.declared.event.CoreEvent.{CoreEvent}
use Rattle.core_model.specs.declared.event.CoreEvent.TheVariants.{Ask}
use Rattle.core_model.specs.declared.event.StepFault.TheVariants as step
use Rattle.server_model.specs.declared.ends.SessionEnd.{SessionEnd}
use Rattle.server_model.specs.declared.ends.SessionEnd.TheVariants as end
use Rattle.server_model.specs.declared.progress.Attempt.TheVariants as attempt
use Rattle.server_model.specs.Steps.{Step, Did}
use Rattle.server_model.specs.Dialog.{Last, Suits, SuitsUnread, Said, Exchange, Ends, GoesOn, Breaks, Breaking, IsUntold, AreInUse, begins, said_at, said_from, said_for, said_in}
use Rattle.server_model.specs.Exchanges.{EndsUnasked, AskedOnce, Asks, Directly, Tried, Replies, begun_by}
use Rattle.server_model.proofs.Steps.{did_nothing, did_then, every_append}
use Rattle.http_talk.proofs.Said.{front_none, front_by, front_after, keeps_itself}
use Rattle.server_model.proofs.Asks.{said_append}

-- a look at the source takes no bytes
pub bytes_kept : (left left' : Option (List ℕ)) (wire : WireState) → Keeps left left' → Keeps (bytes_ahead left wire) (bytes_ahead left' wire)
bytes_kept None left' wire k = tt
bytes_kept (Some bytes) None wire k = absurd k
bytes_kept (Some bytes) (Some more) wire k = ap (λ (xs : List ℕ). wire.held ++ xs) k

pub keeps_then : (a b c : Option (List ℕ)) → Keeps a b → Keeps b c → Keeps a c
keeps_then None b c p q = tt
keeps_then (Some x) None c p q = absurd p
keeps_then (Some x) (Some y) None p q = absurd q
keeps_then (Some x) (Some y) (Some z) p q = q ∙ p

pub ahead_kept : (P : List ℕ → List ℕ → Type 0) (a b c : Option (List ℕ)) → Ahead P a b → Keeps b c → Ahead P a c
ahead_kept P None b c p k = tt
ahead_kept P (Some all) None c p k = absurd p
ahead_kept P (Some all) (Some rest) None p k = absurd k
ahead_kept P (Some all) (Some rest) (Some same) p k = subst (P all) (sym k) p

-- a request that was read whole is none that wasn't
never_closing : (end : SessionEnd) (x : Exchange) → SuitsUnread end (Last.Closing x) → ⊥
never_closing end.Closed x s = s
never_closing (end.BadRequest fault) x s = s
never_closing end.ReadFault x s = s
never_closing end.WriteFault x s = s
never_closing end.OutOfTickets x s = s
never_closing (end.TicketTaken ticket) x s = s
never_closing end.Worn x s = s
never_closing end.NoMemory x s = s

never_broken : (end : SessionEnd) (x : Exchange) → SuitsUnread end (Last.Broken x) → ⊥
never_broken end.Closed x s = s
never_broken (end.BadRequest fault) x s = s
never_broken end.ReadFault x s = s
never_broken end.WriteFault x s = s
never_broken end.OutOfTickets x s = s
never_broken (end.TicketTaken ticket) x s = s
never_broken end.Worn x s = s
never_broken end.NoMemory x s = s

-- ---- an answer that needs no step was written, or wasn't

pub was_given : (form : RefusalForm) (gives : Option Ready → Type 0) (method : List ℕ) (refused : Refused) (ready : Ready) (v w : Option (List ℕ)) → gives (Some ready)
    → Appends v w (reply_to method ready.status ready.body) → Directly form gives method refused v w None
was_given form gives method refused ready v w g r = (Gives ready, ((refused, refl), g), tt, r)

pub not_given : (form : RefusalForm) (gives : Option Ready → Type 0) (method : List ℕ) (refused : Refused) (ready : Ready) (v w : Option (List ℕ)) (fault : WireFault) (end : SessionEnd) → gives (Some ready)
    → IsUntold end → Writes v w (reply_to method ready.status ready.body) (Err fault) → Directly form gives method refused v w (Some end)
not_given form gives method refused ready v w fault end g u r = (Gives ready, ((refused, refl), g), u, front_by v w (reply_to method ready.status ready.body) (Err fault) r)

pub was_refused : (form : RefusalForm) (gives : Option Ready → Type 0) (method : List ℕ) (refused : Refused) (v w : Option (List ℕ)) → gives None
    → Appends v w (refusal_to form method refused) → Directly form gives method refused v w None
was_refused form gives method refused v w g r = (Refuses refused, (refl, g), tt, r)

pub not_refused : (form : RefusalForm) (gives : Option Ready → Type 0) (method : List ℕ) (refused : Refused) (v w : Option (List ℕ)) (fault : WireFault) (end : SessionEnd) → gives None
    → IsUntold end → Writes v w (refusal_to form method refused) (Err fault) → Directly form gives method refused v w (Some end)
not_refused form gives method refused v w fault end g u r = (Refuses refused, (refl, g), u, front_by v w (refusal_to form method refused) (Err fault) r)

pub not_known : (form : RefusalForm) (gives : Option Ready → Type 0) (method : List ℕ) (refused : Refused) (w : Option (List ℕ)) → Directly form gives method refused w w (Some end.NoMemory)
not_known form gives method refused w = (Undecided, (refused, refl), refl, front_none w w [] (keeps_itself w))

-- what was given to a body, by other names of both
pub gave : (gives : List ℕ → Option Ready → Type 0) (body body' : List ℕ) (x y : Option Ready) → body ≡ body' → x ≡ y → gives body x → gives body' y
gave gives body body' x y e f g = subst (λ (b : List ℕ). gives b y) e (subst (gives body) f g)

-- the same by what is known for good
pub directly_as : {K : Type 0} (form : RefusalForm) (gives : K → Option Ready → Type 0) (method : List ℕ) (refused : Refused) (v w : Option (List ℕ)) (end : Option SessionEnd) (known known' : K) → known' ≡ known
    → Directly form (gives known') method refused v w end → Directly form (gives known) method refused v w end
directly_as form gives method refused v w end known known' e d = subst (λ k. Directly form (gives k) method refused v w end) e d

module _ (rests : CoreEvent → Type 0) where
  used_begins : (request : Request) (steps : List Step) → AreInUse request steps → begun_by steps ≡ false
  used_begins request [] u = refl
  used_begins request (e ∷ es) u = (λ i. begins (u.0.3 i) || begun_by es) ∙ used_begins request es u.1

  pub none_tried : (asked : Result Request Refused) (made : Option (List Step)) (w : Option (List ℕ)) → Tried rests asked made made w w
  none_tried (Ok request) made w = ([], tt, did_nothing rests made, refl)
  none_tried (Err refused) made w = (refl, refl)

  pub tried_as : (x y : Result Request Refused) (a b : Option (List Step)) (u v : Option (List ℕ)) → x ≡ y → Tried rests x a b u v → Tried rests y a b u v
  tried_as x y a b u v e t = subst (λ (z : Result Request Refused). Tried rests z a b u v) e t

  did_the_same : (a b : Option (List Step)) → b ≡ a → Did rests a b []
  did_the_same a b e = subst (λ (x : Option (List Step)). Did rests a x []) (sym e) (did_nothing rests a)

module _ (form : RefusalForm) (rests : CoreEvent → Type 0) where
  -- ---- what was asked with tickets that were in use

  used_says : (request : Request) (steps : List Step) → AreInUse request steps → said_from form false steps ≡ []
  used_says request [] u = refl
  used_says request (e ∷ es) u = (λ i. said_at form false (u.0.3 i) ++ said_from form (false || begins (u.0.3 i)) es) ∙ used_says request es u.1

  -- tickets that were in use say nothing
  said_after_used : (request : Request) (tries steps : List Step) → AreInUse request tries → said_from form false (tries ++ steps) ≡ said_from form false steps
  said_after_used request tries steps u =
      said_append form false tries steps ∙ (λ i. used_says request tries u i ++ said_from form (used_begins rests request tries u i) steps)

  pub one_more_try : (request : Request) (a b c : Option (List Step)) (u v w : Option (List ℕ)) → Tried rests (Ok request) a b u v
      → AskedOnce form rests request b c v w attempt.InUse → Tried rests (Ok request) a c u w
  one_more_try request a b c u v w t m =
      let Uses : Step → Type 0 = λ e. (ticket : ℕ) × (word : ℕ) × (e.event ≡ Ask ticket request word) × (e.answer ≡ Err (step.TicketUsed ticket)) in
      (t.0 ++ m.0, every_append Uses t.0 m.0 t.1 m.1, did_then rests a b c t.0 m.0 t.2 m.2, m.3 ∙ t.3)

  -- of a request that the mapping knows
  pub was_told : (worn : Type 0) (gives : Option Ready → Type 0) (method : List ℕ) (wanted : Result Request Refused) (request : Request) (a b c : Option (List Step)) (u v w : Option (List ℕ)) → wanted ≡ Ok request
      → Tried rests wanted a b u v → AskedOnce form rests request b c v w attempt.Whole → Replies form rests worn gives method wanted a c u w None
  was_told worn gives method wanted request a b c u v w e tried m =
      let t = tried_as rests wanted (Ok request) a b u v e tried in
      record {
        asked = Ok request;
        decided = e;
        does = (
          t.0 ++ m.0,
          record { tries = t.0; rest = m.0; in_use = t.1; parts = refl; last = m.1 },
          did_then rests a b c t.0 m.0 t.2 m.2,
          subst (Appends u w) (sym (said_after_used request t.0 m.0 t.1)) (subst (λ (x : Option (List ℕ)). Appends x w (said_from form false m.0)) t.3 m.3),
        );
      }

  pub not_told : (worn : Type 0) (gives : Option Ready → Type 0) (method : List ℕ) (wanted : Result Request Refused) (request : Request) (a b c : Option (List Step)) (u v w : Option (List ℕ)) (end : SessionEnd)
      → wanted ≡ Ok request → Tried rests wanted a b u v → Asks form rests worn request b c v w (Err end) → Replies form rests worn gives method wanted a c u w (Some end)
  not_told worn gives method wanted request a b c u v w end e tried m =
      let t = tried_as rests wanted (Ok request) a b u v e tried in
      record {
        asked = Ok request;
        decided = e;
        does = (
          t.0 ++ m.0,
          record { tries = t.0; rest = m.0; in_use = t.1; parts = refl; last = m.1 },
          did_then rests a b c t.0 m.0 t.2 m.2,
          subst (WritesFront u w) (sym (said_after_used request t.0 m.0 t.1)) (subst (λ (x : Option (List ℕ)). WritesFront x w (said_from form false m.0)) t.3 m.3),
        );
      }

  -- no ticket is left
  pub out_of_tickets : (worn : Type 0) (request : Request) (made : Option (List Step)) (w : Option (List ℕ)) → Asks form rests worn request made made w w (Err end.OutOfTickets)
  out_of_tickets worn request made w = ([], Breaks.unasked end.OutOfTickets tt, did_nothing rests made, front_none w w [] (keeps_itself w))

  -- ---- an answer that needs no step, and a request that memory was wanting to decode

  pub was_direct : (worn : Type 0) (gives : Option Ready → Type 0) (method : List ℕ) (wanted : Result Request Refused) (refused : Refused) (a b : Option (List Step)) (u v w : Option (List ℕ))
      → wanted ≡ Err refused → Tried rests wanted a b u v → Directly form gives method refused v w None → Replies form rests worn gives method wanted a b u w None
  was_direct worn gives method wanted refused a b u v w e tried r =
      let t = tried_as rests wanted (Err refused) a b u v e tried in
      record {
        asked = Err r.0;
        decided = subst (λ (x : Result Request Refused). Decides gives x (Err r.0)) (sym e) r.1;
        does = ([], (refl, r.2), did_the_same rests a b t.0, subst (λ (x : Option (List ℕ)). Appends x w (direct_said form method r.0)) t.1 r.3);
      }

  pub not_direct : (worn : Type 0) (gives : Option Ready → Type 0) (method : List ℕ) (wanted : Result Request Refused) (refused : Refused) (a b : Option (List Step)) (u v w : Option (List ℕ)) (end : SessionEnd)
      → wanted ≡ Err refused → Tried rests wanted a b u v → Directly form gives method refused v w (Some end) → Replies form rests worn gives method wanted a b u w (Some end)
  not_direct worn gives method wanted refused a b u v w end e tried r =
      let t = tried_as rests wanted (Err refused) a b u v e tried in
      record {
        asked = Err r.0;
        decided = subst (λ (x : Result Request Refused). Decides gives x (Err r.0)) (sym e) r.1;
        does = ([], (refl, r.2), did_the_same rests a b t.0, subst (λ (x : Option (List ℕ)). WritesFront x w (direct_said form method r.0)) t.1 r.3);
      }

  -- memory was wanting to decode the request, or for an answer that needs no step
  pub not_decoded : (worn : Type 0) (gives : Option Ready → Type 0) (method : List ℕ) (wanted : Result Request Refused) (a b : Option (List Step)) (u v : Option (List ℕ)) → Tried rests wanted a b u v
      → Replies form rests worn gives method wanted a b u v (Some end.NoMemory)
  not_decoded worn gives method (Ok request) a b u v t = record {
    asked = Ok request;
    decided = refl;
    does = (
      t.0,
      record { tries = t.0; rest = []; in_use = t.1; parts = sym (append-nil t.0); last = Breaks.unasked end.NoMemory tt },
      t.2,
      subst (λ (x : Option (List ℕ)). WritesFront u x (said_from form false t.0)) (sym t.3) (front_none u u (said_from form false t.0) (keeps_itself u)),
    );
  }
  not_decoded worn gives method (Err refused) a b u v t = record {
    asked = Err Undecided;
    decided = (refused, refl);
    does = (
      [],
      (refl, refl),
      did_the_same rests a b t.0,
      subst (λ (x : Option (List ℕ)). WritesFront u x []) (sym t.1) (front_none u u [] (keeps_itself u)),
    );
  }

module _ (form : RefusalForm) (gives : Head → List ℕ → Option Ready → Type 0) (rests : CoreEvent → Type 0) where
  -- ---- the whole exchange

  suits_unread : (worn : Type 0) (end : SessionEnd) (last : Last) → SuitsUnread end last → Suits gives worn end last
  suits_unread worn end Last.Ended s = s
  suits_unread worn end (Last.Closing x) s = absurd (never_closing end x s)
  suits_unread worn end (Last.Unread fault) s = s
  suits_unread worn end (Last.BadBody head fault) s = s
  suits_unread worn end Last.Nothing s = s
  suits_unread worn end (Last.Announced head) s = s
  suits_unread worn end (Last.Broken x) s = absurd (never_broken end x s)

  pub unasked : (worn : Type 0) (left : Option (List ℕ)) (made : Option (List Step)) (written written' : Option (List ℕ)) (end : SessionEnd)
      → EndsUnasked form left written written' end → Ends form gives rests worn left made made written written' end
  unasked worn left made written written' end u = record {
    last = u.last;
    suits = suits_unread worn end u.last u.suits;
    is_last = u.is_last;
    did = subst (Did rests made made) (sym u.no_steps) (did_nothing rests made);
    said = u.said;
  }

  front_is_said : (end : SessionEnd) (old new : Option (List ℕ)) (bytes : List ℕ) → Breaking end → WritesFront old new bytes → Said end old new bytes
  front_is_said end.Closed old new bytes b w = absurd b
  front_is_said (end.BadRequest fault) old new bytes b w = absurd b
  front_is_said end.ReadFault old new bytes b w = w
  front_is_said end.WriteFault old new bytes b w = w
  front_is_said end.OutOfTickets old new bytes b w = w
  front_is_said (end.TicketTaken ticket) old new bytes b w = w
  front_is_said end.Worn old new bytes b w = w
  front_is_said end.NoMemory old new bytes b w = w

  at_request : (left rest : Option (List ℕ)) (head : Head) (body : List ℕ) → Ahead (IsRequest head body) left rest → IfSome left (λ all. (after : List ℕ) × IsRequest head body all after)
  at_request None rest head body a = tt
  at_request (Some all) None head body a = absurd a
  at_request (Some all) (Some after) head body a = (after, a)

  pub broken_off : (worn : Type 0) (left rest : Option (List ℕ)) (made made' : Option (List Step)) (old mid new : Option (List ℕ)) (head : Head) (body : List ℕ) (end : SessionEnd)
      → Ahead (IsRequest head body) left rest → Appends old mid (go_on_of head) → Breaking end
      → Replies form rests worn (gives head body) head.method (asked_of Client head body) made made' mid new (Some end) → Ends form gives rests worn left made made' old new end
  broken_off worn left rest made made' old mid new head body end a w b r =
      let x : Exchange = record { head = head; body = body; asked = r.asked; steps = r.does.0 } in
      record {
        last = Last.Broken x;
        suits = (b, r.decided, r.does.1);
        is_last = at_request left rest head body a;
        did = r.does.2;
        said = front_is_said end old new (said_in form x) b (front_after old mid new (go_on_of head) (said_for form head.method r.asked r.does.0) w r.does.3);
      }

  pub exchanged : (worn : Type 0) (left rest : Option (List ℕ)) (made made' : Option (List Step)) (old mid new : Option (List ℕ)) (head : Head) (body : List ℕ)
      → Ahead (IsRequest head body) left rest → Appends old mid (go_on_of head) → Replies form rests worn (gives head body) head.method (asked_of Client head body) made made' mid new None → head.close ≡ false
      → GoesOn form gives rests left rest made made' old new
  exchanged worn left rest made made' old mid new head body a w r c = (
    record { head = head; body = body; asked = r.asked; steps = r.does.0 },
    record { read = a; decided = r.decided; answers = r.does.1; did = r.does.2; said = Appends-trans old mid new (go_on_of head) (said_for form head.method r.asked r.does.0) w r.does.3 },
    c,
  )

  pub closed : (worn : Type 0) (left rest : Option (List ℕ)) (made made' : Option (List Step)) (old mid new : Option (List ℕ)) (head : Head) (body : List ℕ)
      → Ahead (IsRequest head body) left rest → Appends old mid (go_on_of head) → Replies form rests worn (gives head body) head.method (asked_of Client head body) made made' mid new None → head.close ≡ true
      → Ends form gives rests worn left made made' old new end.Closed
  closed worn left rest made made' old mid new head body a w r c = record {
    last = Last.Closing (record { head = head; body = body; asked = r.asked; steps = r.does.0 });
    suits = (refl, r.decided, r.does.1, c);
    is_last = at_request left rest head body a;
    did = r.does.2;
    said = Appends-trans old mid new (go_on_of head) (said_for form head.method r.asked r.does.0) w r.does.3;
  }
