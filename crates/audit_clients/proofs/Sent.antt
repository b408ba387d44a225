-- Calls that were sent, and the floors that answers make, item by item.
use Rattle.std.proofs.Common.{◌≡◌, ℕ, Bool, true, false, cond, ◌==◌, List, [], ◌∷◌, ◌++◌, append-nil, append_assoc, Option, None, Some, refl, sym, ◌∙◌, ap}
use Rattle.script_text.specs.declared.item.Item.{Item}
use Rattle.script_text.specs.declared.item.Item.TheVariants as item
use Rattle.world_model.specs.declared.floor.Floor.{Floor}
use Rattle.world_model.specs.Lives.{clock_of}
use Rattle.world_model.specs.State.{Numbered}
use Rattle.audit_model.specs.Calls.{sent_from}
use Rattle.audit_model.specs.Floors.{floors_by, floors_from, reported_floors}
use Rattle.audit_lives.specs.Finds.{found_or}
use Rattle.audit_clients.specs.Sent.{sent_at, sent_in}

chosen : {A : Type 0} (b : Bool) (x : A) (later : Option A) → (cond b (Some x) later) ≡ found_or (cond b (Some x) None) later
chosen true x later = refl
chosen false x later = refl

-- an item that isn't the call's leaves the rest to look at
pub sent_first : (call : ℕ) (before : List Item) (i : Item) (items : List Item) → sent_from call before (i ∷ items) ≡ found_or (sent_in call before i) (sent_from call (before ++ i ∷ []) items)
sent_first call before (item.Sent p number member ticket q) items =
    chosen (number == call) (sent_at p member (clock_of p before) q) (sent_from call (before ++ item.Sent p number member ticket q ∷ []) items)
sent_first call before i items = refl

-- ---- floors

floors_more : (before : List Item) (floors : Numbered Floor) (xs : List Item) (i : Item) → floors_from before floors (xs ++ i ∷ []) ≡ floors_by (before ++ xs) i (floors_from before floors xs)
floors_more before floors [] i = ap (λ (ys : List Item). floors_by ys i floors) (sym (append-nil before))
floors_more before floors (x ∷ xs) i =
    floors_more (before ++ x ∷ []) (floors_by before x floors) xs i
    ∙ ap (λ (ys : List Item). floors_by ys i (floors_from (before ++ x ∷ []) (floors_by before x floors) xs)) (append_assoc before (x ∷ []) xs)

-- behind one item more
pub floors_next : (items : List Item) (i : Item) → reported_floors (items ++ i ∷ []) ≡ floors_by items i (reported_floors items)
floors_next items i = floors_more [] [] items i
