-- A whole connection: one exchange after the other, and its end.
use Rattle.std.proofs.Common.{◌≡◌, ℕ, false, List, [], ◌∷◌, ◌++◌, Option, None, Some, IfSome, refl, sym, ap, ◌∙◌, append-nil, subst}
use Rattle.std.specs.List.{flat_map}
use Rattle.std.proofs.lemmas.Grind.{flat_map-append}
use Rattle.std.proofs.KnownBytes.{Appends-nil, Appends-trans}
use Rattle.std.specs.Io.KnownBytes.{Appends}
use Rattle.http_wire.specs.Connections.{WireState, bytes_ahead}
use Rattle.http_wire.specs.declared.fault.WireFault.TheVariants as wire
use Rattle.http_talk.specs.Receiving.{Cut}
use Rattle.http_talk.specs.Requests.{Ahead, IsRequest}
use Rattle.http_talk.proofs.Said.{front_none, front_after, keeps_itself}
use Rattle.shop_dialog.specs.declared.ends.StoreEnd.{StoreEnd}
use Rattle.shop_dialog.specs.declared.ends.StoreEnd.TheVariants as end
use Rattle.shop_dialog.specs.Steps.{Step}
use Rattle.shop_dialog.specs.Dialog.{Exchange, Last, IsLast, Said, Requests, Answers, Dialog, asked_in, said_in, last_steps}
use Rattle.shop_dialog.specs.Exchanges.{Exchanged, Ends, Has}
use Rattle.shop_dialog.proofs.Grown.{grows_not, grows_then, every_append}

one_more : {A B : Type 0} (f : A → List B) (xs : List A) (x : A) → flat_map f (xs ++ x ∷ []) ≡ flat_map f xs ++ f x
one_more f xs x = flat_map-append f xs (x ∷ []) ∙ (λ i. flat_map f xs ++ append-nil (f x) i)

-- nothing is held yet
held_none : (left : Option (List ℕ)) (w : WireState) → w.held ≡ [] → bytes_ahead left w ≡ left
held_none None w e = refl
held_none (Some bytes) w e = λ i. Some (e i ++ bytes)

said_after : (e : StoreEnd) (a b c : Option (List ℕ)) (xs ys : List ℕ) → Appends a b xs → Said e b c ys → Said e a c (xs ++ ys)
said_after end.Closed a b c xs ys p q = Appends-trans a b c xs ys p q
said_after (end.BadRequest fault) a b c xs ys p q = front_after a b c xs ys p q
said_after end.ReadFault a b c xs ys p q = front_after a b c xs ys p q
said_after end.WriteFault a b c xs ys p q = front_after a b c xs ys p q
said_after end.Worn a b c xs ys p q = front_after a b c xs ys p q
said_after end.NoMemory a b c xs ys p q = front_after a b c xs ys p q

none_yet : (left : Option (List ℕ)) → Ahead (Requests []) left left
none_yet None = tt
none_yet (Some all) = refl

pub at_start : (left : Option (List ℕ)) (w : WireState) (made : List Step) (written : Option (List ℕ)) → w.held ≡ [] → Has left (bytes_ahead left w) made made written written
at_start left w made written e = record {
  whole = [];
  read = subst (Ahead (Requests []) left) (sym (held_none left w e)) (none_yet left);
  answered = tt;
  did = grows_not made;
  said = Appends-nil written;
}

read_more : (xs : List Exchange) (x : Exchange) (all mid rest : List ℕ) → Requests xs all mid → IsRequest x.head x.body mid rest → Requests (xs ++ x ∷ []) all rest
read_more [] x all mid rest r q = (rest, subst (λ (bytes : List ℕ). IsRequest x.head x.body bytes rest) (sym r) q, refl)
read_more (y ∷ ys) x all mid rest r q = (r.0, r.1, read_more ys x r.0 mid rest r.2 q)

ahead_more : (xs : List Exchange) (x : Exchange) (left mid rest : Option (List ℕ)) → Ahead (Requests xs) left mid → Ahead (IsRequest x.head x.body) mid rest
    → Ahead (Requests (xs ++ x ∷ [])) left rest
ahead_more xs x None mid rest r q = tt
ahead_more xs x (Some all) None rest r q = absurd r
ahead_more xs x (Some all) (Some bytes) None r q = absurd q
ahead_more xs x (Some all) (Some bytes) (Some after) r q = read_more xs x all bytes after r q

-- the connection goes on
pub goes_on : (left mid rest : Option (List ℕ)) (made made' made'' : List Step) (written written' written'' : Option (List ℕ)) → Has left mid made made' written written'
    → Exchanged mid rest made' made'' written' written'' → Has left rest made made'' written written''
goes_on left mid rest made made' made'' written written' written'' h t = record {
  whole = h.whole ++ t.x ∷ [];
  read = ahead_more h.whole t.x left mid rest h.read t.read;
  answered = every_append (λ (y : Exchange). Answers (asked_in y.head y.body) y.steps × (y.head.close ≡ false)) h.whole (t.x ∷ []) h.answered ((t.answers, t.stays), tt);
  did = grows_then made made' made'' _ _ h.did t.did ∙ ap (λ (xs : List Step). made ++ xs) (sym (one_more (λ (y : Exchange). y.steps) h.whole t.x));
  said = subst (Appends written written'') (sym (one_more said_in h.whole t.x)) (Appends-trans written written' written'' _ _ h.said t.said);
}

ends_at : (xs : List Exchange) (last : Last) (left mid : Option (List ℕ)) → Ahead (Requests xs) left mid → IfSome mid (IsLast last)
    → IfSome left (λ (all : List ℕ). (bytes : List ℕ) × Requests xs all bytes × IsLast last bytes)
ends_at xs last None mid r l = tt
ends_at xs last (Some all) None r l = absurd r
ends_at xs last (Some all) (Some bytes) r l = (bytes, r, l)

-- the connection ends
pub ends : (worn : Type 0) (left mid : Option (List ℕ)) (made made' made'' : List Step) (written written' written'' : Option (List ℕ)) (e : StoreEnd)
    → Has left mid made made' written written' → Ends worn mid made' made'' written' written'' e → Dialog worn left made made'' written written'' e
ends worn left mid made made' made'' written written' written'' e h x = record {
  whole = h.whole;
  last = x.last;
  read = ends_at h.whole x.last left mid h.read x.is_last;
  answered = h.answered;
  suits = x.suits;
  did = grows_then made made' made'' (flat_map (λ (y : Exchange). y.steps) h.whole) (last_steps x.last) h.did x.did;
  said = said_after e written written' written'' _ _ h.said x.said;
}

not_begun : (left : Option (List ℕ)) → IfSome left (λ (all : List ℕ). (bytes : List ℕ) × Requests [] all bytes × IsLast (Last.NotRead Cut.Nothing) bytes)
not_begun None = tt
not_begun (Some all) = (all, refl, tt)

pub no_wire : (worn : Type 0) (left : Option (List ℕ)) (made : List Step) (written : Option (List ℕ)) → Dialog worn left made made written written end.NoMemory
no_wire worn left made written = record {
  whole = [];
  last = Last.NotRead Cut.Nothing;
  read = not_begun left;
  answered = tt;
  suits = (wire.NoMemory, refl, tt);
  did = grows_not made;
  said = front_none written written [] (keeps_itself written);
}
