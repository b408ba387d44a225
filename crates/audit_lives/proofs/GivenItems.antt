-- What items tell of answers and messages, item by item.
use Rattle.std.proofs.Common.{◌≡◌, ℕ, count_by, Bool, true, false, cond, ◌==◌, List, [], ◌∷◌, Option, None, Some, refl, sym, ◌∙◌, ap}
use Rattle.std.specs.Prelude.{slice_get}
use Rattle.std.proofs.lemmas.List.Sums.{length-filter}
use Rattle.script_text.specs.declared.item.Item.{Item}
use Rattle.script_text.specs.declared.item.Item.TheVariants as item
use Rattle.world_model.specs.Lives.{executed_to, delivers, next_message, pushed_into, namespace_of}
use Rattle.audit_lives.proofs.Found.{first_found}
use Rattle.audit_lives.specs.Finds.{found_or}
use Rattle.audit_lives.specs.Given.{executed_in, namespace_in}

chosen : {A : Type 0} (b : Bool) (x : A) (later : Option A) → (cond b (Some x) later) ≡ found_or (cond b (Some x) None) later
chosen true x later = refl
chosen false x later = refl

executed_first : (call : ℕ) (i : Item) (items : List Item) → executed_to call (i ∷ items) ≡ found_or (executed_in call i) (executed_to call items)
executed_first call (item.Executed number answer) items = chosen (number == call) answer (executed_to call items)
executed_first call i items = refl

pub executed_found : (call : ℕ) (items : List Item) → first_found (executed_in call) items ≡ executed_to call items
executed_found call [] = refl
executed_found call (i ∷ items) = ap (found_or (executed_in call i)) (executed_found call items) ∙ sym (executed_first call i items)

abbrev pub bytes_or : Option (List ℕ) → List ℕ → List ℕ
bytes_or None later = later
bytes_or (Some n) later = n

namespace_first : (i : Item) (items : List Item) → namespace_of (i ∷ items) ≡ bytes_or (namespace_in i) (namespace_of items)
namespace_first (item.World members namespace leasing) items = refl
namespace_first i items = refl

pub namespace_found : (items : List Item) → bytes_or (first_found namespace_in items) [] ≡ namespace_of items
namespace_found [] = refl
namespace_found (i ∷ items) = further (namespace_in i) (first_found namespace_in items) ∙ ap (bytes_or (namespace_in i)) (namespace_found items) ∙ sym (namespace_first i items)
  where
    further : (one later : Option (List ℕ)) → bytes_or (found_or one later) [] ≡ bytes_or one (bytes_or later [])
    further None later = refl
    further (Some n) later = refl

-- ---- messages

pub next_by : (stream : ℕ) (items : List Item) (n : ℕ) → n ≡ count_by (delivers stream) items → slice_get (pushed_into stream items) n ≡ next_message stream items
next_by stream items n e = ap (λ m. slice_get (pushed_into stream items) m) (e ∙ sym (length-filter (delivers stream) items))
