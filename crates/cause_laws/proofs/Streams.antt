-- Which proxy opened a stream, as items tell it, is what the world has.
use Rattle.std.proofs.Common.{◌≡◌, ℕ, ◌+◌, ◌==◌, Bool, true, false, ◌&&◌, ◌||◌, List, [], ◌∷◌, ◌++◌, length, Option, None, Some, refl, sym, ◌∙◌, ap, subst}
use Rattle.std.proofs.lemmas.List.Folds.{list_any-append}
use Rattle.etcd_types.proofs.Bools.{or_false}
use Rattle.etcd_types.specs.declared.request.Request.{Request}
use Rattle.core_laws.proofs.Steps.Lists.{number_itself, number_turned, same_number}
use Rattle.script_text.specs.declared.item.Item.{Item}
use Rattle.script_text.specs.declared.item.Item.TheVariants as item
use Rattle.world_model.specs.Lives.{is_stream_of, opened_it}
use Rattle.world_model.specs.Places.{nth, with_nth, ended}
use Rattle.world_model.specs.Sends.{closed_in}
use Rattle.world_model.specs.State.{OpenedStream, World}
use Rattle.held_laws.proofs.Kept.{nth_itself, nth_other}
use Rattle.held_laws.proofs.Opens.{last_nth}
use Rattle.session_laws.proofs.Lists.{nth_next, nth_pushed}

abbrev pub is_opened_by : ℕ → Option OpenedStream → Bool
is_opened_by q None = false
is_opened_by q (Some s) = s.proxy == q

abbrev pub StreamsTold : List Item → List OpenedStream → Type 0
StreamsTold items all = (number q : ℕ) → opened_it q number items ≡ is_opened_by q (nth all number)

-- the same streams are of the same proxies
abbrev pub SameOwners : List OpenedStream → List OpenedStream → Type 0
SameOwners all after = (number q : ℕ) → is_opened_by q (nth after number) ≡ is_opened_by q (nth all number)

pub same_owners : (all : List OpenedStream) → SameOwners all all
same_owners all number q = refl

pub changed_owners : (all : List OpenedStream) (number : ℕ) (s t : OpenedStream) → nth all number ≡ Some s → t.proxy ≡ s.proxy → SameOwners all (with_nth all number t)
changed_owners all number s t at same n q = by (n == number) refl
  where
    by : (b : Bool) → (n == number) ≡ b → is_opened_by q (nth (with_nth all number t) n) ≡ is_opened_by q (nth all n)
    by true e =
        let is = same_number n number e in
        subst (λ (m : ℕ). is_opened_by q (nth (with_nth all number t) m) ≡ is_opened_by q (nth all m)) (sym is)
        (ap (is_opened_by q) (nth_itself all number s t at) ∙ ap (λ (m : ℕ). m == q) same ∙ sym (ap (is_opened_by q) at))
    by false e = ap (is_opened_by q) (nth_other all number n s t at e)

pub closed_owners : (w : World) (number : ℕ) (o : Option OpenedStream) → nth w.streams number ≡ o → SameOwners w.streams (closed_in w number o).streams
closed_owners w number None e = same_owners w.streams
closed_owners w number (Some s) e = changed_owners w.streams number s (ended s) e refl

-- items that open none
abbrev pub OpensNone : List Item → Type 0
OpensNone more = (number q : ℕ) → opened_it q number more ≡ false

pub streams_on : (items more : List Item) (all after : List OpenedStream) → OpensNone more → SameOwners all after → StreamsTold items all → StreamsTold (items ++ more) after
streams_on items more all after none same h number q =
    list_any-append (is_stream_of q number) items more ∙ (λ i. h number q i || none number q i) ∙ or_false (is_opened_by q (nth all number)) ∙ sym (same number q)

-- one is opened
pub streams_opened : (items : List Item) (all : List OpenedStream) (t : OpenedStream) (p member : ℕ) (r : Request) → t.proxy ≡ p → StreamsTold items all → StreamsTold (items ++ item.Opened p (length all + 1) member r ∷ []) (all ++ t ∷ [])
streams_opened items all t p member r mine h n q = by (n == length all + 1) refl
  where
    new : Item
    new = item.Opened p (length all + 1) member r

    by : (b : Bool) → (n == length all + 1) ≡ b → opened_it q n (items ++ item.Opened p (length all + 1) member r ∷ []) ≡ is_opened_by q (nth (all ++ t ∷ []) n)
    by true e =
        let is = same_number n (length all + 1) e in
        subst (λ (m : ℕ). opened_it q m (items ++ item.Opened p (length all + 1) member r ∷ []) ≡ is_opened_by q (nth (all ++ t ∷ []) m)) (sym is)
        (list_any-append (is_stream_of q (length all + 1)) items (new ∷ [])
        ∙ (λ i. (h (length all + 1) q ∙ ap (is_opened_by q) (nth_next all)) i || (((p == q) && number_itself (length all + 1) i) || false))
        ∙ yes (p == q) ∙ ap (λ (m : ℕ). m == q) (sym mine) ∙ sym (ap (is_opened_by q) (last_nth all t)))
      where
        yes : (b : Bool) → false || ((b && true) || false) ≡ b
        yes true = refl
        yes false = refl
    by false e =
        list_any-append (is_stream_of q n) items (new ∷ [])
        ∙ (λ i. h n q i || (((p == q) && number_turned n (length all + 1) e i) || false))
        ∙ no (is_opened_by q (nth all n)) (p == q) ∙ sym (ap (is_opened_by q) (nth_pushed all t n e))
      where
        no : (a b : Bool) → a || ((b && false) || false) ≡ a
        no true b = refl
        no false true = refl
        no false false = refl
