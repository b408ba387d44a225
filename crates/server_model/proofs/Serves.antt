-- A whole connection: one exchange after the other, and its end.
use Rattle.std.proofs.Common.{◌≡◌, ℕ, false, List, [], ◌∷◌, ◌++◌, Option, None, Some, IfSome, refl, sym, ◌∙◌, append-nil, subst}
use Rattle.std.specs.List.{flat_map}
use Rattle.std.proofs.lemmas.Grind.{flat_map-append}
use Rattle.std.proofs.KnownBytes.{Appends-nil, Appends-trans}
use Rattle.std.specs.Io.KnownBytes.{Appends}
use Rattle.http_wire.specs.Connections.{WireState, bytes_ahead}
use Rattle.http_wire.specs.declared.message.Head.{Head}
use Rattle.http_talk.specs.declared.form.RefusalForm.{RefusalForm}
use Rattle.http_talk.specs.declared.ready.Ready.{Ready}
use Rattle.core_model.specs.declared.event.CoreEvent.{CoreEvent}
use Rattle.server_model.specs.declared.ends.SessionEnd.{SessionEnd}
use Rattle.server_model.specs.declared.ends.SessionEnd.TheVariants as end
use Rattle.server_model.specs.Steps.{Step, Did}
use Rattle.http_talk.specs.Requests.{Ahead, IsRequest}
use Rattle.server_model.specs.Dialog.{Last, IsLast, Said, Exchange, Ends, GoesOn, IsDecided, Answers, Requests, Has, Dialog, Turned, said_in}
use Rattle.server_model.proofs.Steps.{did_nothing, did_then, every_append}
use Rattle.http_talk.proofs.Said.{front_none, front_after, keeps_itself}

one_more : {A B : Type 0} (f : A → List B) (xs : List A) (x : A) → flat_map f (xs ++ x ∷ []) ≡ flat_map f xs ++ f x
one_more f xs x = flat_map-append f xs (x ∷ []) ∙ (λ i. flat_map f xs ++ append-nil (f x) i)

-- nothing is held yet
held_none : (left : Option (List ℕ)) (w : WireState) → w.held ≡ [] → bytes_ahead left w ≡ left
held_none None w e = refl
held_none (Some bytes) w e = λ i. Some (e i ++ bytes)

said_after : (end : SessionEnd) (a b c : Option (List ℕ)) (xs ys : List ℕ) → Appends a b xs → Said end b c ys → Said end a c (xs ++ ys)
said_after end.Closed a b c xs ys p q = Appends-trans a b c xs ys p q
said_after (end.BadRequest fault) a b c xs ys p q = front_after a b c xs ys p q
said_after end.ReadFault a b c xs ys p q = front_after a b c xs ys p q
said_after end.WriteFault a b c xs ys p q = front_after a b c xs ys p q
said_after end.OutOfTickets a b c xs ys p q = front_after a b c xs ys p q
said_after (end.TicketTaken ticket) a b c xs ys p q = front_after a b c xs ys p q
said_after end.Worn a b c xs ys p q = front_after a b c xs ys p q
said_after end.NoMemory a b c xs ys p q = front_after a b c xs ys p q

module _ (form : RefusalForm) (gives : Head → List ℕ → Option Ready → Type 0) (rests : CoreEvent → Type 0) where
  none_yet : (left : Option (List ℕ)) → Ahead (Requests []) left left
  none_yet None = tt
  none_yet (Some all) = refl

  pub at_start : (left : Option (List ℕ)) (w : WireState) (made : Option (List Step)) (written : Option (List ℕ)) → w.held ≡ []
      → Has form gives rests left (bytes_ahead left w) made made written written
  at_start left w made written e = record {
    whole = [];
    read = subst (Ahead (Requests []) left) (sym (held_none left w e)) (none_yet left);
    answered = tt;
    did = did_nothing rests made;
    said = Appends-nil written;
  }

  read_more : (xs : List Exchange) (x : Exchange) (all mid rest : List ℕ) → Requests xs all mid → IsRequest x.head x.body mid rest
      → Requests (xs ++ x ∷ []) all rest
  read_more [] x all mid rest r q = (rest, subst (λ (bytes : List ℕ). IsRequest x.head x.body bytes rest) (sym r) q, refl)
  read_more (y ∷ ys) x all mid rest r q = (r.0, r.1, read_more ys x r.0 mid rest r.2 q)

  ahead_more : (xs : List Exchange) (x : Exchange) (left mid rest : Option (List ℕ)) → Ahead (Requests xs) left mid → Ahead (IsRequest x.head x.body) mid rest
      → Ahead (Requests (xs ++ x ∷ [])) left rest
  ahead_more xs x None mid rest r q = tt
  ahead_more xs x (Some all) None rest r q = absurd r
  ahead_more xs x (Some all) (Some bytes) None r q = absurd q
  ahead_more xs x (Some all) (Some bytes) (Some after) r q = read_more xs x all bytes after r q

  -- the connection goes on
  pub goes_on : (left mid rest : Option (List ℕ)) (made made' made'' : Option (List Step)) (written written' written'' : Option (List ℕ))
      → Has form gives rests left mid made made' written written' → GoesOn form gives rests mid rest made' made'' written' written'' → Has form gives rests left rest made made'' written written''
  goes_on left mid rest made made' made'' written written' written'' h t =
      let x = t.0 in
      record {
        whole = h.whole ++ x ∷ [];
        read = ahead_more h.whole x left mid rest h.read t.1.read;
        answered = every_append (λ (y : Exchange). IsDecided gives y × Answers y.asked y.steps × (y.head.close ≡ false)) h.whole (x ∷ []) h.answered ((t.1.decided, t.1.answers, t.2), tt);
        did = subst (Did rests made made'') (sym (one_more (λ (y : Exchange). y.steps) h.whole x)) (did_then rests made made' made'' _ _ h.did t.1.did);
        said = subst (Appends written written'') (sym (one_more (said_in form) h.whole x)) (Appends-trans written written' written'' _ _ h.said t.1.said);
      }

  ends_at : (xs : List Exchange) (last : Last) (left mid : Option (List ℕ)) → Ahead (Requests xs) left mid → IfSome mid (IsLast last)
      → IfSome left (λ (all : List ℕ). (bytes : List ℕ) × Requests xs all bytes × IsLast last bytes)
  ends_at xs last None mid r l = tt
  ends_at xs last (Some all) None r l = absurd r
  ends_at xs last (Some all) (Some bytes) r l = (bytes, r, l)

  -- the connection ends
  pub ends : (worn : Type 0) (left mid : Option (List ℕ)) (made made' made'' : Option (List Step)) (written written' written'' : Option (List ℕ)) (end : SessionEnd)
      → Has form gives rests left mid made made' written written' → Ends form gives rests worn mid made' made'' written' written'' end → Dialog form gives rests worn left made made'' written written'' end
  ends worn left mid made made' made'' written written' written'' end h e = record {
    whole = h.whole;
    last = e.last;
    read = ends_at h.whole e.last left mid h.read e.is_last;
    answered = h.answered;
    suits = e.suits;
    did = did_then rests made made' made'' _ _ h.did e.did;
    said = said_after end written written' written'' _ _ h.said e.said;
  }

  not_begun : (left : Option (List ℕ)) → IfSome left (λ (all : List ℕ). (bytes : List ℕ) × Requests [] all bytes × IsLast Last.Nothing bytes)
  not_begun None = tt
  not_begun (Some all) = (all, refl, tt)

  pub no_wire : (worn : Type 0) (left : Option (List ℕ)) (made : Option (List Step)) (written : Option (List ℕ)) → Dialog form gives rests worn left made made written written end.NoMemory
  no_wire worn left made written = record {
    whole = [];
    last = Last.Nothing;
    read = not_begun left;
    answered = tt;
    suits = tt;
    did = did_nothing rests made;
    said = front_none written written [] (keeps_itself written);
  }

-- what is given for good is given whatever was asked before
pub turned_as : {K : Type 0} (form : RefusalForm) (gives : K → Head → List ℕ → Option Ready → Type 0) (rests : CoreEvent → Type 0) (worn : Type 0) (left left' : Option (List ℕ)) (made made' : Option (List Step))
    (written written' : Option (List ℕ)) (end : Option SessionEnd) (known known' : K) → known' ≡ known
    → Turned form (gives known') rests worn left left' made made' written written' end → Turned form (gives known) rests worn left left' made made' written written' end
turned_as form gives rests worn left left' made made' written written' end known known' e t =
    subst (λ k. Turned form (gives k) rests worn left left' made made' written written' end) e t
