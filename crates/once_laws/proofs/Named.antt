-- The calls that name a ticket, among items: what holds of each.
use Rattle.std.proofs.Common.{◌≡◌, ℕ, ◌==◌, ◌&&◌, ◌||◌, Bool, true, false, List, [], ◌∷◌, ◌++◌, append_assoc, refl, sym, ◌∙◌, ap, subst}
use Rattle.etcd_types.proofs.Bools.{and_both, or_first, or_second}
use Rattle.etcd_types.specs.declared.request.Request.{Request}
use Rattle.etcd_types.specs.declared.request.Request.TheVariants as request
use Rattle.core_laws.proofs.Steps.Lists.{number_itself}
use Rattle.script_text.specs.declared.item.Item.{Item}
use Rattle.script_text.specs.declared.item.Item.TheVariants as item
use Rattle.world_model.specs.Lives.{names, is_named}

-- the call of a sent item, and what was sent
abbrev pub call_of : Item → ℕ × Request
call_of (item.Sent p call member ticket q) = (call, q)
call_of _ = (0, request.Leases)

-- it holds of each call of the proxy that names the ticket
abbrev pub AllNamed : ℕ → ℕ → (ℕ → Request → Type 0) → List Item → Type 0
AllNamed p t P [] = Unit {0}
AllNamed p t P (i ∷ items) = (names p t i ≡ true → P (call_of i).0 (call_of i).1) × AllNamed p t P items

pub named_more : (p t : ℕ) (P Q : ℕ → Request → Type 0) → ((call : ℕ) (q : Request) → P call q → Q call q) → (items : List Item) → AllNamed p t P items → AllNamed p t Q items
named_more p t P Q f [] h = tt
named_more p t P Q f (i ∷ items) h = (λ n. f (call_of i).0 (call_of i).1 (h.0 n), named_more p t P Q f items h.1)

pub all-append : (p t : ℕ) (P : ℕ → Request → Type 0) (xs ys : List Item) → AllNamed p t P xs → AllNamed p t P ys → AllNamed p t P (xs ++ ys)
all-append p t P [] ys h k = k
all-append p t P (x ∷ xs) ys h k = (h.0, all-append p t P xs ys h.1 k)

pub all_front : (p t : ℕ) (P : ℕ → Request → Type 0) (xs ys : List Item) → AllNamed p t P (xs ++ ys) → AllNamed p t P xs
all_front p t P [] ys h = tt
all_front p t P (x ∷ xs) ys h = (h.0, all_front p t P xs ys h.1)

all_back : (p t : ℕ) (P : ℕ → Request → Type 0) (xs ys : List Item) → AllNamed p t P (xs ++ ys) → AllNamed p t P ys
all_back p t P [] ys h = h
all_back p t P (x ∷ xs) ys h = all_back p t P xs ys h.1

-- where none names it
pub none_named : (p t : ℕ) (P : ℕ → Request → Type 0) (items : List Item) → is_named p t items ≡ false → AllNamed p t P items
none_named p t P [] h = tt
none_named p t P (i ∷ items) h = (λ n. absurd (let e : true ≡ false = sym n ∙ or_first (names p t i) (is_named p t items) h in cc), none_named p t P items (or_second (names p t i) (is_named p t items) h))

-- one of them
pub of_named : (p t call member : ℕ) (q : Request) (P : ℕ → Request → Type 0) (items before after : List Item) → items ≡ before ++ item.Sent p call member t q ∷ after → AllNamed p t P items → P call q
of_named p t call member q P items before after e h =
    (all_back p t P before (item.Sent p call member t q ∷ after) (subst (AllNamed p t P) e h)).0 (and_both (p == p) (t == t) (number_itself p) (number_itself t))
