-- One request: what is done and written for it, and how a connection ends in its midst.
use Rattle.std.proofs.Common.{◌≡◌, ℕ, true, false, List, [], ◌∷◌, ◌++◌, Option, None, Some, Result, Ok, Err, IfSome, refl, sym, ap, ◌∙◌, subst}
use Rattle.std.proofs.KnownBytes.{Appends-trans}
use Rattle.std.specs.Io.KnownBytes.{Appends, Keeps}
use Rattle.outside.specs.Streams.{WritesFront}
use Rattle.etcd_types.specs.declared.request.Request.{Request}
use Rattle.etcd_types.specs.declared.request.Request.TheVariants as request
use Rattle.etcd_types.specs.declared.request.WatchAsk.{WatchAsk}
use Rattle.etcd_types.specs.declared.answer.Answer.{Answer}
use Rattle.store_model.specs.Step.{IsExecuted}
use Rattle.http_wire.specs.declared.fault.WireFault.{WireFault}
use Rattle.http_wire.specs.declared.fault.WireFault.TheVariants as wire
use Rattle.http_wire.specs.declared.message.Head.{Head}
use Rattle.http_wire.specs.Connections.{WireState, bytes_ahead}
use Rattle.http_talk.specs.declared.form.RefusalForm.TheVariants.{Mapping}
use Rattle.http_talk.specs.declared.refused.Refused.{Refused}
use Rattle.http_talk.specs.Receiving.{NotReceived, cut_said}
use Rattle.http_talk.specs.Refusals.{refusal_to}
use Rattle.http_talk.specs.Replies.{go_on_of}
use Rattle.http_talk.specs.Requests.{Ahead, IsRequest}
use Rattle.http_talk.proofs.Said.{front_none, front_after, keeps_itself, appends_kept}
use Rattle.turn_hub.specs.History.{entry_of}
use Rattle.shop_model.specs.declared.event.StoreEvent.TheVariants.{Exec, Open}
use Rattle.shop_model.specs.declared.event.StoreOutcome.TheVariants as outcome
use Rattle.shop_model.specs.declared.event.StoreStepFault.{StoreStepFault}
use Rattle.shop_dialog.specs.declared.ends.StoreEnd.{StoreEnd}
use Rattle.shop_dialog.specs.declared.ends.StoreEnd.TheVariants as end
use Rattle.shop_dialog.specs.declared.progress.Stop.{Stop}
use Rattle.shop_dialog.specs.declared.progress.Stop.TheVariants as stop
use Rattle.shop_dialog.specs.Steps.{Step}
use Rattle.shop_dialog.specs.Watching.{Whole, Breaks, Stops, Breaking, IsUntold, IsOfAny, end_of_step}
use Rattle.shop_dialog.specs.Dialog.{Exchange, Last, Said, asked_in, end_by, said_at, said_from, said_in, said_for}
use Rattle.shop_dialog.specs.Exchanges.{Asks, Refuses, FollowsAll, Stopped, Replies, Exchanged, Ends, end_in}
use Rattle.shop_dialog.proofs.Grown.{grows_not, grows_then, one_said, front_of_more}

-- ---- a request that is executed

pub executed : (worn : Type 0) (q : Request) (now : ℕ) (answer : Answer) (a b : List Step) (u v : Option (List ℕ)) → IsExecuted q
    → b ≡ a ++ entry_of (Exec q) now (Ok (outcome.Answer answer)) ∷ [] → Appends u v (said_at false (Ok (outcome.Answer answer))) → Asks worn q a b u v None
executed worn q now answer a b u v is m s =
    let x = entry_of (Exec q) now (Ok (outcome.Answer answer)) in
    (x ∷ [], Whole.executed now answer is, m, subst (Appends u v) (sym (one_said false x)) s)

pub unsaid : (worn : Type 0) (q : Request) (now : ℕ) (answer : Answer) (a b : List Step) (u v : Option (List ℕ)) (e : StoreEnd) → IsUntold e
    → b ≡ a ++ entry_of (Exec q) now (Ok (outcome.Answer answer)) ∷ [] → WritesFront u v (said_at false (Ok (outcome.Answer answer))) → Asks worn q a b u v (Some e)
unsaid worn q now answer a b u v e un m s =
    let x = entry_of (Exec q) now (Ok (outcome.Answer answer)) in
    (x ∷ [], Breaks.unsaid now answer e un, m, subst (WritesFront u v) (sym (one_said false x)) s)

pub unexecuted : (worn : Type 0) (q : Request) (now : ℕ) (fault : StoreStepFault) (a b : List Step) (u : Option (List ℕ)) (e : StoreEnd) → e ≡ end_of_step fault → IsOfAny fault
    → b ≡ a ++ entry_of (Exec q) now (Err fault) ∷ [] → Asks worn q a b u u (Some e)
unexecuted worn q now fault a b u e is f m =
    let x = entry_of (Exec q) now (Err fault) in
    (x ∷ [], subst (λ (y : StoreEnd). Breaks worn q y (x ∷ [])) (sym is) (Breaks.unexecuted now fault f), m, front_none u u (said_from false (x ∷ [])) (keeps_itself u))

pub late : (worn : Type 0) (q : Request) (a b : List Step) (u : Option (List ℕ)) → worn → b ≡ a → Asks worn q a b u u (Some end.Worn)
late worn q a b u l m = ([], Breaks.unasked end.Worn l, m ∙ grows_not a, front_none u u [] (keeps_itself u))

-- ---- a watch

pub unopened : (worn : Type 0) (ask : WatchAsk) (now : ℕ) (fault : StoreStepFault) (a b : List Step) (u : Option (List ℕ)) (e : StoreEnd) → e ≡ end_of_step fault → IsOfAny fault
    → b ≡ a ++ entry_of (Open ask) now (Err fault) ∷ [] → Asks worn (request.Watch ask) a b u u (Some e)
unopened worn ask now fault a b u e is f m =
    let x = entry_of (Open ask) now (Err fault) in
    (x ∷ [], subst (λ (y : StoreEnd). Breaks worn (request.Watch ask) y (x ∷ [])) (sym is) (Breaks.unopened ask now fault refl f), m, front_none u u (said_from false (x ∷ [])) (keeps_itself u))

pub watched : (worn : Type 0) (ask : WatchAsk) (number now : ℕ) (a b c : List Step) (u v : Option (List ℕ)) → b ≡ a ++ entry_of (Open ask) now (Ok (outcome.Opened number)) ∷ []
    → FollowsAll number b c u v → Asks worn (request.Watch ask) a c u v None
watched worn ask number now a b c u v m f =
    let x = entry_of (Open ask) now (Ok (outcome.Opened number)) in
    (x ∷ f.0, Whole.watched ask number now f.0 refl f.1, grows_then a b c (x ∷ []) f.0 m f.2, f.3)

pub unwatched : (worn : Type 0) (ask : WatchAsk) (number now : ℕ) (a b c : List Step) (u v : Option (List ℕ)) (why : Stop) → b ≡ a ++ entry_of (Open ask) now (Ok (outcome.Opened number)) ∷ []
    → Stopped worn number false b c u v why → Asks worn (request.Watch ask) a c u v (Some (end_in why))
unwatched worn ask number now a b c u v (stop.Unanswered e) m s =
    let x = entry_of (Open ask) now (Ok (outcome.Opened number)) in (
      x ∷ (s.0 ++ s.1),
      Breaks.watching ask number now e (s.0 ++ s.1) refl (Stops.broken e s.0 s.1 s.2 s.3),
      grows_then a b c (x ∷ []) (s.0 ++ s.1) m s.4,
      front_of_more false u v s.0 s.1 s.5,
    )
unwatched worn ask number now a b c u v (stop.Answered e) m s =
    let x = entry_of (Open ask) now (Ok (outcome.Opened number)) in
    (x ∷ s.0, Breaks.watching ask number now e s.0 refl (Stops.unsaid e s.0 s.2 s.1), grows_then a b c (x ∷ []) s.0 m s.3, s.4)

-- ---- a request that was read

same_of_asked : (worn : Type 0) (method : List ℕ) (q : Request) (a b : List Step) (u v : Option (List ℕ)) (e : Option StoreEnd) → Asks worn q a b u v e → Replies worn method (Ok q) a b u v e
same_of_asked worn method q a b u v None r = r
same_of_asked worn method q a b u v (Some e) r = r

pub replied : (worn : Type 0) (method : List ℕ) (asked : Result Request Refused) (q : Request) (a b : List Step) (u v : Option (List ℕ)) (e : Option StoreEnd) → asked ≡ Ok q
    → Asks worn q a b u v e → Replies worn method asked a b u v e
replied worn method asked q a b u v e is r =
    subst (λ (x : Result Request Refused). Replies worn method x a b u v e) (sym is) (same_of_asked worn method q a b u v e r)

pub was_refused : (worn : Type 0) (method : List ℕ) (asked : Result Request Refused) (refused : Refused) (a : List Step) (u v : Option (List ℕ)) (e : Option StoreEnd) → asked ≡ Err refused
    → Refuses method refused u v e → Replies worn method asked a a u v e
was_refused worn method asked refused a u v None is s =
    subst (λ (x : Result Request Refused). Replies worn method x a a u v None) (sym is) ([], refl, grows_not a, s)
was_refused worn method asked refused a u v (Some e) is s =
    subst (λ (x : Result Request Refused). Replies worn method x a a u v (Some e)) (sym is) ([], (refl, s.0), grows_not a, s.1)

-- memory was wanting to say what is asked
pub not_decoded : (worn : Type 0) (method : List ℕ) (asked : Result Request Refused) (a : List Step) (u : Option (List ℕ)) → Replies worn method asked a a u u (Some end.NoMemory)
not_decoded worn method (Ok q) a u = ([], Breaks.unasked end.NoMemory tt, grows_not a, front_none u u [] (keeps_itself u))
not_decoded worn method (Err refused) a u = ([], (refl, tt), grows_not a, front_none u u (refusal_to Mapping method refused) (keeps_itself u))

-- ---- the whole exchange

-- a look at the source takes no bytes
pub bytes_kept : (left left' : Option (List ℕ)) (wire : WireState) → Keeps left left' → Keeps (bytes_ahead left wire) (bytes_ahead left' wire)
bytes_kept None left' wire k = tt
bytes_kept (Some bytes) None wire k = absurd k
bytes_kept (Some bytes) (Some more) wire k = ap (λ (xs : List ℕ). wire.held ++ xs) k

pub keeps_then : (a b c : Option (List ℕ)) → Keeps a b → Keeps b c → Keeps a c
keeps_then None b c p q = tt
keeps_then (Some x) None c p q = absurd p
keeps_then (Some x) (Some y) None p q = absurd q
keeps_then (Some x) (Some y) (Some z) p q = q ∙ p

pub ahead_kept : (P : List ℕ → List ℕ → Type 0) (a b c : Option (List ℕ)) → Ahead P a b → Keeps b c → Ahead P a c
ahead_kept P None b c p k = tt
ahead_kept P (Some all) None c p k = absurd p
ahead_kept P (Some all) (Some rest) None p k = absurd k
ahead_kept P (Some all) (Some rest) (Some same) p k = subst (P all) (sym k) p

at_request : (left rest : Option (List ℕ)) (head : Head) (body : List ℕ) → Ahead (IsRequest head body) left rest → IfSome left (λ all. (after : List ℕ) × IsRequest head body all after)
at_request None rest head body a = tt
at_request (Some all) None head body a = absurd a
at_request (Some all) (Some after) head body a = (after, a)

front_is_said : (e : StoreEnd) (old new : Option (List ℕ)) (bytes : List ℕ) → Breaking e → WritesFront old new bytes → Said e old new bytes
front_is_said end.Closed old new bytes b w = absurd b
front_is_said (end.BadRequest fault) old new bytes b w = w
front_is_said end.ReadFault old new bytes b w = w
front_is_said end.WriteFault old new bytes b w = w
front_is_said end.Worn old new bytes b w = w
front_is_said end.NoMemory old new bytes b w = w

pub broken_off : (worn : Type 0) (left rest : Option (List ℕ)) (made made' : List Step) (old mid new : Option (List ℕ)) (head : Head) (body : List ℕ) (e : StoreEnd)
    → Ahead (IsRequest head body) left rest → Appends old mid (go_on_of head) → Breaking e → Replies worn head.method (asked_in head body) made made' mid new (Some e)
    → Ends worn left made made' old new e
broken_off worn left rest made made' old mid new head body e a w b r =
    let x : Exchange = record { head = head; body = body; steps = r.0 } in
    record {
      last = Last.Broken x;
      suits = (b, r.1);
      is_last = at_request left rest head body a;
      did = r.2;
      said = front_is_said e old new (said_in x) b (front_after old mid new (go_on_of head) (said_for head.method (asked_in head body) r.0) w r.3);
    }

pub exchanged : (worn : Type 0) (left rest : Option (List ℕ)) (made made' : List Step) (old mid new : Option (List ℕ)) (head : Head) (body : List ℕ)
    → Ahead (IsRequest head body) left rest → Appends old mid (go_on_of head) → Replies worn head.method (asked_in head body) made made' mid new None → head.close ≡ false
    → Exchanged left rest made made' old new
exchanged worn left rest made made' old mid new head body a w r c = record {
  x = record { head = head; body = body; steps = r.0 };
  read = a;
  answers = r.1;
  stays = c;
  did = r.2;
  said = Appends-trans old mid new (go_on_of head) (said_for head.method (asked_in head body) r.0) w r.3;
}

pub closed : (worn : Type 0) (left rest : Option (List ℕ)) (made made' : List Step) (old mid new : Option (List ℕ)) (head : Head) (body : List ℕ)
    → Ahead (IsRequest head body) left rest → Appends old mid (go_on_of head) → Replies worn head.method (asked_in head body) made made' mid new None → head.close ≡ true
    → Ends worn left made made' old new end.Closed
closed worn left rest made made' old mid new head body a w r c = record {
  last = Last.Closing (record { head = head; body = body; steps = r.0 });
  suits = (refl, r.1, c);
  is_last = at_request left rest head body a;
  did = r.2;
  said = Appends-trans old mid new (go_on_of head) (said_for head.method (asked_in head body) r.0) w r.3;
}

-- no request came, or it wasn't read whole

pub ended : (worn : Type 0) (left : Option (List ℕ)) (made : List Step) (old new : Option (List ℕ)) → IfSome left (λ all. all ≡ []) → new ≡ old → Ends worn left made made old new end.Closed
ended worn left made old new e s = record {
  last = Last.Ended;
  suits = refl;
  is_last = e;
  did = grows_not made;
  said = subst (λ (x : Option (List ℕ)). Appends old x []) (sym s) (appends_kept old old (keeps_itself old));
}

front_of_fault : (fault : WireFault) (old new : Option (List ℕ)) (bytes : List ℕ) → WritesFront old new bytes → Said (end_by fault) old new bytes
front_of_fault wire.ReadFault old new bytes w = w
front_of_fault wire.WriteFault old new bytes w = w
front_of_fault wire.NoMemory old new bytes w = w
front_of_fault wire.BadHead old new bytes w = w
front_of_fault wire.HeadTooLong old new bytes w = w
front_of_fault wire.BodyTooLong old new bytes w = w
front_of_fault wire.BadChunk old new bytes w = w
front_of_fault wire.EndedEarly old new bytes w = w

pub not_read : (worn : Type 0) (left : Option (List ℕ)) (made : List Step) (old new : Option (List ℕ)) (fault : WireFault) (e : StoreEnd) → e ≡ end_by fault → NotReceived Mapping left old new fault
    → Ends worn left made made old new e
not_read worn left made old new fault e is n = record {
  last = Last.NotRead n.cut;
  suits = (fault, is, n.by);
  is_last = n.is_cut;
  did = grows_not made;
  said = subst (λ (x : StoreEnd). Said x old new (cut_said Mapping n.cut)) (sym is) (front_of_fault fault old new (cut_said Mapping n.cut) n.said);
}
