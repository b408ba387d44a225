-- How a connection ends before a request was read whole.
use Rattle.std.proofs.Common.{◌≡◌, ℕ, List, [], Option, None, Some, Ok, Err, IfSome, IsTrue, refl, sym, ap, ◌∙◌, subst}
use Rattle.outside.specs.Streams.{WritesFront}
use Rattle.http_wire.specs.declared.fault.WireFault.{WireFault}
use Rattle.http_wire.specs.declared.fault.WireFault.TheVariants as wire
use Rattle.http_wire.specs.declared.message.Head.{Head}
use Rattle.http_wire.specs.Bodies.{is_of_bytes}
use Rattle.http_talk.specs.declared.form.RefusalForm.{RefusalForm}
use Rattle.http_talk.specs.declared.received.Received as received
use Rattle.http_talk.specs.Receiving.{Cut, IsCut, CutBy, IsOfBytes, NotReceived, Receives, cut_said}
use Rattle.http_talk.proofs.Said.{appends_nothing}
use Rattle.std.specs.Io.KnownBytes.{Appends}
use Rattle.server_model.specs.declared.ends.SessionEnd.{SessionEnd}
use Rattle.server_model.specs.declared.ends.SessionEnd.TheVariants as end
use Rattle.server_model.specs.Dialog.{Last, IsLast, Said, SuitsUnread, last_said, last_steps}
use Rattle.server_model.specs.Exchanges.{EndsUnasked, Received, end_by}

-- the same end by another name
pub ends_as : (form : RefusalForm) (left old new : Option (List ℕ)) (x y : SessionEnd) → x ≡ y → EndsUnasked form left old new y → EndsUnasked form left old new x
ends_as form left old new x y e u = subst (EndsUnasked form left old new) (sym e) u

at_end : (left : Option (List ℕ)) → IfSome left (λ (all : List ℕ). all ≡ []) → IfSome left (IsLast Last.Ended)
at_end None e = tt
at_end (Some all) e = e

none_came : (form : RefusalForm) (left old new : Option (List ℕ)) → IfSome left (λ (all : List ℕ). all ≡ []) → new ≡ old → EndsUnasked form left old new end.Closed
none_came form left old new e w = record {
  last = Last.Ended;
  suits = tt;
  is_last = at_end left e;
  no_steps = refl;
  said = subst (λ (x : Option (List ℕ)). Appends old x []) (sym w) (appends_nothing old);
}

-- ---- what was read of a request, as the last of a connection

abbrev last_of : Cut → Last
last_of (Cut.Unread fault) = Last.Unread fault
last_of (Cut.BadBody head fault) = Last.BadBody head fault
last_of Cut.Nothing = Last.Nothing
last_of (Cut.Announced head) = Last.Announced head

of_bytes : (fault : WireFault) → IsOfBytes fault → (end_by fault ≡ end.BadRequest fault) × IsTrue (is_of_bytes fault)
of_bytes wire.BadHead b = (refl, refl)
of_bytes wire.HeadTooLong b = (refl, refl)
of_bytes wire.BodyTooLong b = (refl, refl)
of_bytes wire.BadChunk b = (refl, refl)
of_bytes wire.EndedEarly b = (refl, refl)
of_bytes wire.ReadFault b = absurd b
of_bytes wire.WriteFault b = absurd b
of_bytes wire.NoMemory b = absurd b

suits_nothing : (fault : WireFault) → CutBy fault Cut.Nothing → SuitsUnread (end_by fault) Last.Nothing
suits_nothing wire.BadHead b = b
suits_nothing wire.HeadTooLong b = b
suits_nothing wire.BodyTooLong b = b
suits_nothing wire.BadChunk b = b
suits_nothing wire.EndedEarly b = b
suits_nothing wire.ReadFault b = tt
suits_nothing wire.WriteFault b = b
suits_nothing wire.NoMemory b = tt

suits_announced : (fault : WireFault) (head : Head) → CutBy fault (Cut.Announced head) → SuitsUnread (end_by fault) (Last.Announced head)
suits_announced wire.BadHead head b = b
suits_announced wire.HeadTooLong head b = b
suits_announced wire.BodyTooLong head b = b
suits_announced wire.BadChunk head b = b
suits_announced wire.EndedEarly head b = b
suits_announced wire.ReadFault head b = b
suits_announced wire.WriteFault head b = b
suits_announced wire.NoMemory head b = b

suits_of : (fault : WireFault) (cut : Cut) → CutBy fault cut → SuitsUnread (end_by fault) (last_of cut)
suits_of fault (Cut.Unread cause) b =
    let is = of_bytes cause b.1 in
    subst (λ (e : SessionEnd). SuitsUnread e (Last.Unread cause)) (sym (ap end_by b.0 ∙ is.0)) (refl, is.1)
suits_of fault (Cut.BadBody head cause) b =
    let is = of_bytes cause b.1 in
    subst (λ (e : SessionEnd). SuitsUnread e (Last.BadBody head cause)) (sym (ap end_by b.0 ∙ is.0)) (refl, is.1)
suits_of fault Cut.Nothing b = suits_nothing fault b
suits_of fault (Cut.Announced head) b = suits_announced fault head b

is_last_of : (cut : Cut) (all : List ℕ) → IsCut cut all → IsLast (last_of cut) all
is_last_of (Cut.Unread fault) all c = c
is_last_of (Cut.BadBody head fault) all c = c
is_last_of Cut.Nothing all c = c
is_last_of (Cut.Announced head) all c = c

is_last_told : (left : Option (List ℕ)) (cut : Cut) → IfSome left (IsCut cut) → IfSome left (IsLast (last_of cut))
is_last_told None cut c = tt
is_last_told (Some all) cut c = is_last_of cut all c

no_steps_of : (cut : Cut) → last_steps (last_of cut) ≡ []
no_steps_of (Cut.Unread fault) = refl
no_steps_of (Cut.BadBody head fault) = refl
no_steps_of Cut.Nothing = refl
no_steps_of (Cut.Announced head) = refl

said_of : (form : RefusalForm) (cut : Cut) → cut_said form cut ≡ last_said form (last_of cut)
said_of form (Cut.Unread fault) = refl
said_of form (Cut.BadBody head fault) = refl
said_of form Cut.Nothing = refl
said_of form (Cut.Announced head) = refl

-- a fault is never the input's end
front_said : (fault : WireFault) (old new : Option (List ℕ)) (bytes : List ℕ) → WritesFront old new bytes → Said (end_by fault) old new bytes
front_said wire.BadHead old new bytes w = w
front_said wire.HeadTooLong old new bytes w = w
front_said wire.BodyTooLong old new bytes w = w
front_said wire.BadChunk old new bytes w = w
front_said wire.EndedEarly old new bytes w = w
front_said wire.ReadFault old new bytes w = w
front_said wire.WriteFault old new bytes w = w
front_said wire.NoMemory old new bytes w = w

pub not_received : (form : RefusalForm) (left old new : Option (List ℕ)) (fault : WireFault) → NotReceived form left old new fault → EndsUnasked form left old new (end_by fault)
not_received form left old new fault r = record {
  last = last_of r.cut;
  suits = suits_of fault r.cut r.by;
  is_last = is_last_told left r.cut r.is_cut;
  no_steps = no_steps_of r.cut;
  said = front_said fault old new (last_said form (last_of r.cut)) (subst (WritesFront old new) (said_of form r.cut) r.said);
}

-- what was read of the next request, by the name of what came
pub was_received : (form : RefusalForm) (left left' old new : Option (List ℕ)) (came : Option received.Received) (r : received.Received) → came ≡ Some r
    → Receives form left left' old new (Ok came) → Received form left left' old new (Ok r)
was_received form left left' old new came r e g = subst (λ (o : Option received.Received). Receives form left left' old new (Ok o)) e g

pub none_received : (form : RefusalForm) (left left' old new : Option (List ℕ)) (came : Option received.Received) → came ≡ None → Receives form left left' old new (Ok came)
    → Received form left left' old new (Err end.Closed)
none_received form left left' old new came e g =
    let none : Receives form left left' old new (Ok None) = subst (λ (o : Option received.Received). Receives form left left' old new (Ok o)) e g in
    none_came form left old new none.0 none.1
