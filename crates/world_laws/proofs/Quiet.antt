-- Items that tell nothing of the store, as replies are.
use Rattle.std.proofs.Common.{◌≡◌, ℕ, Bool, true, false, List, [], ◌∷◌, ◌++◌, refl, ◌∙◌, Some}
use Rattle.std.specs.Prelude.{flat_map}
use Rattle.std.specs.BTreeSet.{BTreeSet}
use Rattle.etcd_types.specs.declared.answer.Answer.{Answer}
use Rattle.etcd_types.specs.declared.watch.WatchItem.{WatchItem}
use Rattle.script_text.specs.declared.item.Item.{Item}
use Rattle.script_text.specs.declared.item.Item.TheVariants as item
use Rattle.world_model.specs.Answers.{Seen, saw, saw_all, answer_to, message_by, message_of}
use Rattle.world_model.specs.Gains.{Replies, body_if, reply_items, line_if, taken_items}
use Rattle.world_model.specs.Places.{is_among}

-- what an item that tells an answer or a message of the store has to tell
abbrev pub IsTrue : Seen → Item → Type 0
IsTrue s (item.Executed number answer) = answer_to s number ≡ Some answer
IsTrue s (item.Pushed number message) = message_of (message_by s.store number message) ≡ Some message
IsTrue s _ = Unit {0}

-- each item is true, after those before it
abbrev pub AreTrue : Seen → List Item → Type 0
AreTrue s [] = Unit {0}
AreTrue s (i ∷ items) = IsTrue s i × AreTrue (saw s i) items

pub AreTrue-append : (s : Seen) (xs ys : List Item) → AreTrue s xs → AreTrue (saw_all s xs) ys → AreTrue s (xs ++ ys)
AreTrue-append s [] ys a b = b
AreTrue-append s (x ∷ xs) ys a b = (a.0, AreTrue-append (saw s x) xs ys a.1 b)

pub AreTrue-later : (s : Seen) (xs ys : List Item) → AreTrue s (xs ++ ys) → AreTrue (saw_all s xs) ys
AreTrue-later s [] ys a = a
AreTrue-later s (x ∷ xs) ys a = AreTrue-later (saw s x) xs ys a.1

pub saw_all-append : (s : Seen) (xs ys : List Item) → saw_all s (xs ++ ys) ≡ saw_all (saw_all s xs) ys
saw_all-append s [] ys = refl
saw_all-append s (x ∷ xs) ys = saw_all-append (saw s x) xs ys

-- true whatever was seen, and nothing is seen by them
pub record IsQuiet (items : List Item) : Type 0 where
  pub are_true : (s : Seen) → AreTrue s items
  pub tell_nothing : (s : Seen) → saw_all s items ≡ s

pub no_items : IsQuiet []
no_items = record { are_true = λ s. tt; tell_nothing = λ s. refl }

pub both_quiet : (xs ys : List Item) → IsQuiet xs → IsQuiet ys → IsQuiet (xs ++ ys)
both_quiet xs ys p q = record {
  are_true = λ s. AreTrue-append s xs ys (p.are_true s) (q.are_true (saw_all s xs));
  tell_nothing = λ s. saw_all-append s xs ys ∙ q.tell_nothing (saw_all s xs) ∙ p.tell_nothing s;
}

body_quiet : (b : Bool) (p ticket : ℕ) (a : Answer) → IsQuiet (body_if b p ticket a)
body_quiet false p ticket a = no_items
body_quiet true p ticket a = record { are_true = λ s. (tt, tt); tell_nothing = λ s. refl }

reply_is_quiet : (p ticket : ℕ) (a : Answer) → IsQuiet (item.Reply p ticket a ∷ [])
reply_is_quiet p ticket a = record { are_true = λ s. (tt, tt); tell_nothing = λ s. refl }

pub reply_quiet : (p : ℕ) (posted : BTreeSet ℕ) (r : ℕ × Answer) → IsQuiet (reply_items p posted r)
reply_quiet p posted r = both_quiet (item.Reply p r.0 r.1 ∷ []) _ (reply_is_quiet p r.0 r.1) (body_quiet (is_among posted r.0) p r.0 r.1)

pub replies_quiet : (p : ℕ) (posted : BTreeSet ℕ) (got : Replies) → IsQuiet (flat_map (reply_items p posted) got)
replies_quiet p posted [] = no_items
replies_quiet p posted (r ∷ got) = both_quiet (reply_items p posted r) _ (reply_quiet p posted r) (replies_quiet p posted got)

line_quiet : (b : Bool) (p ticket : ℕ) (i : WatchItem) → IsQuiet (line_if b p ticket i)
line_quiet false p ticket i = no_items
line_quiet true p ticket i = record { are_true = λ s. (tt, tt); tell_nothing = λ s. refl }

taken_is_quiet : (p ticket : ℕ) (i : WatchItem) → IsQuiet (item.Taken p ticket i ∷ [])
taken_is_quiet p ticket i = record { are_true = λ s. (tt, tt); tell_nothing = λ s. refl }

pub taken_quiet : (p : ℕ) (posted : BTreeSet ℕ) (ticket : ℕ) (i : WatchItem) → IsQuiet (taken_items p posted ticket i)
taken_quiet p posted ticket i = both_quiet (item.Taken p ticket i ∷ []) _ (taken_is_quiet p ticket i) (line_quiet (is_among posted ticket) p ticket i)
