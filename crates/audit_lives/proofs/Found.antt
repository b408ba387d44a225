-- What is looked for among items is what the first item that tells it tells.
use Rattle.std.proofs.Common.{◌≡◌, ℕ, zero, suc, Bool, true, false, cond, ◌==◌, ◌&&◌, ◌||◌, nat_lt, List, [], ◌∷◌, ◌++◌, length, filter, count_by, Option, None, Some, is_some, refl, sym, ◌∙◌, ap, arith}
use Rattle.std.specs.List.{list_any}
use Rattle.std.specs.Prelude.{slice_get}
use Rattle.std.proofs.lemmas.Bool.{lt-ltb, le-ltb}
use Rattle.std.proofs.lemmas.Bool.Decides.{nat_tests}
use Rattle.std.proofs.lemmas.List.Sums.{length-filter}
use Rattle.etcd_types.specs.declared.watch.WatchItem.{WatchItem}
use Rattle.script_text.specs.declared.item.Item.{Item}
use Rattle.script_text.specs.declared.item.Item.TheVariants as item
use Rattle.audit_model.specs.Calls.{sender_of}
use Rattle.audit_model.specs.Order.{members_of}
use Rattle.audit_model.specs.Streams.{opener_of}
use Rattle.audit_lives.specs.Finds.{members_in, asked_in, sender_in, opener_in, executes, pushes_into, found_or}
use Rattle.world_model.specs.Lives.{asked_as, executed_to, pushed_into, delivers, next_message}

-- what the first item tells that tells it
abbrev pub first_found : {A : Type 0} → (Item → Option A) → List Item → Option A
first_found f [] = None
first_found f (i ∷ items) = found_or (f i) (first_found f items)

chosen : {A : Type 0} (b : Bool) (x : A) (later : Option A) → (cond b (Some x) later) ≡ found_or (cond b (Some x) None) later
chosen true x later = refl
chosen false x later = refl

asked_first : (p ticket : ℕ) (i : Item) (items : List Item) → asked_as p ticket (i ∷ items) ≡ found_or (asked_in p ticket i) (asked_as p ticket items)
asked_first p ticket (item.Asked q t r) items = chosen (q == p && t == ticket) r (asked_as p ticket items)
asked_first p ticket i items = refl

pub asked_found : (p ticket : ℕ) (items : List Item) → first_found (asked_in p ticket) items ≡ asked_as p ticket items
asked_found p ticket [] = refl
asked_found p ticket (i ∷ items) = ap (found_or (asked_in p ticket i)) (asked_found p ticket items) ∙ sym (asked_first p ticket i items)

sender_first : (call : ℕ) (i : Item) (items : List Item) → sender_of call (i ∷ items) ≡ found_or (sender_in call i) (sender_of call items)
sender_first call (item.Sent p number member ticket q) items = chosen (number == call) p (sender_of call items)
sender_first call i items = refl

pub sender_found : (call : ℕ) (items : List Item) → first_found (sender_in call) items ≡ sender_of call items
sender_found call [] = refl
sender_found call (i ∷ items) = ap (found_or (sender_in call i)) (sender_found call items) ∙ sym (sender_first call i items)

opener_first : (stream : ℕ) (i : Item) (items : List Item) → opener_of stream (i ∷ items) ≡ found_or (opener_in stream i) (opener_of stream items)
opener_first stream (item.Opened p number member q) items = chosen (number == stream) p (opener_of stream items)
opener_first stream i items = refl

pub opener_found : (stream : ℕ) (items : List Item) → first_found (opener_in stream) items ≡ opener_of stream items
opener_found stream [] = refl
opener_found stream (i ∷ items) = ap (found_or (opener_in stream i)) (opener_found stream items) ∙ sym (opener_first stream i items)

abbrev pub count_or : Option ℕ → ℕ → ℕ
count_or None later = later
count_or (Some n) later = n

members_first : (i : Item) (items : List Item) → members_of (i ∷ items) ≡ count_or (members_in i) (members_of items)
members_first (item.World members namespace leasing) items = refl
members_first i items = refl

pub members_found : (items : List Item) → count_or (first_found members_in items) 0 ≡ members_of items
members_found [] = refl
members_found (i ∷ items) = further (members_in i) (first_found members_in items) ∙ ap (count_or (members_in i)) (members_found items) ∙ sym (members_first i items)
  where
    further : (one later : Option ℕ) → count_or (found_or one later) 0 ≡ count_or one (count_or later 0)
    further None later = refl
    further (Some n) later = refl

either : {A : Type 0} (b : Bool) (x : A) (later : Option A) → is_some (cond b (Some x) later) ≡ b || is_some later
either true x later = refl
either false x later = refl

pub executed_any : (call : ℕ) (items : List Item) → is_some (executed_to call items) ≡ list_any (executes call) items
executed_any call [] = refl
executed_any call (item.Executed number answer ∷ items) =
    either (number == call) answer (executed_to call items) ∙ ap (λ (b : Bool). (number == call) || b) (executed_any call items)
executed_any call (i ∷ items) = executed_any call items

-- a message waits where more were pushed than delivered

there : {A : Type 0} (xs : List A) (n : ℕ) → is_some (slice_get xs n) ≡ nat_lt n (length xs)
there [] n = sym (le-ltb n 0 (omega arith))
there (x ∷ xs) zero = sym (lt-ltb 0 (suc (length xs)) (omega arith))
there (x ∷ xs) (suc n) = there xs n ∙ fewer n (length xs)
  where
    fewer : (m k : ℕ) → nat_lt m k ≡ nat_lt (suc m) (suc k)
    fewer m k = grind (arith, nat_tests)

one_more : (b : Bool) (m : WatchItem) (ms : List WatchItem) (i : Item) (is : List Item) → length ms ≡ length is → length (cond b (m ∷ []) [] ++ ms) ≡ length (cond b (i ∷ is) is)
one_more true m ms i is e = ap suc e
one_more false m ms i is e = e

pushed-count : (stream : ℕ) (items : List Item) → length (pushed_into stream items) ≡ length (filter (pushes_into stream) items)
pushed-count stream [] = refl
pushed-count stream (item.Pushed number message ∷ items) =
    one_more (number == stream) message (pushed_into stream items) (item.Pushed number message) (filter (pushes_into stream) items) (pushed-count stream items)
pushed-count stream (i ∷ items) = pushed-count stream items

pub waiting : (stream : ℕ) (items : List Item) → nat_lt (count_by (delivers stream) items) (count_by (pushes_into stream) items) ≡ is_some (next_message stream items)
waiting stream items =
    (λ i. nat_lt (sym (length-filter (delivers stream) items) i) (sym (length-filter (pushes_into stream) items) i))
    ∙ ap (λ (n : ℕ). nat_lt (length (filter (delivers stream) items)) n) (sym (pushed-count stream items))
    ∙ sym (there (pushed_into stream items) (length (filter (delivers stream) items)))
