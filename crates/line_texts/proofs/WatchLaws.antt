-- The forms of watch items keep the laws of forms.
use Rattle.std.proofs.Common.{◌≡◌, ℕ, List, ◌⊎◌, inl, inr, refl}
use Rattle.std.specs.Prelude.{codes}
use Rattle.text_model.specs.Forms.{both, after, listed}
use Rattle.text_model.specs.Words.{number, bytes}
use Rattle.text_model.proofs.Laws.{IsForm, both-IsForm, via-IsForm, listed-IsForm, named-IsForm, named-IsChoice, after-IsChoice}
use Rattle.etcd_types.specs.declared.record.Kv.{Kv}
use Rattle.etcd_types.specs.declared.watch.Change.{Change}
use Rattle.etcd_types.specs.declared.watch.Change.TheVariants.{Put, Delete}
use Rattle.etcd_types.specs.declared.watch.WatchItem.{WatchItem}
use Rattle.etcd_types.specs.declared.watch.WatchItem.TheVariants.{Created, Events, Canceled}
use Rattle.message_text.specs.Answers.{header, kv, prev}
use Rattle.message_text.specs.WatchItems.{change_to, change_from, change, event, ItemWords, item_to, item_from, from_events, watch_item}
use Rattle.line_texts.proofs.RequestLaws.{space, a_number, some_bytes}
use Rattle.line_texts.proofs.AnswerLaws.{header-IsForm, kv-IsForm, prev-IsForm}

change_back : (s : Kv ⊎ (List ℕ × ℕ)) → change_from (change_to s) ≡ s
change_back (inl k) = refl
change_back (inr w) = refl

change_forth : (c : Change) → change_to (change_from c) ≡ c
change_forth (Put k) = refl
change_forth (Delete key modified) = refl

pub change-IsForm : IsForm space change
unfolding change
change-IsForm =
    via-IsForm space change_to change_from _ (λ b fits. change_back b) change_forth
    (named-IsForm space (codes "put") _ kv (after (codes "delete") (both bytes number)) refl refl kv-IsForm (after-IsChoice space (codes "delete") (both bytes number) refl (both-IsForm _ _ _ some_bytes a_number)))

pub event-IsForm : IsForm space event
unfolding event
event-IsForm = via-IsForm _ _ _ _ (λ b fits. refl) (λ a. refl) (both-IsForm space change prev change-IsForm prev-IsForm)

item_back : (s : ItemWords) → item_from (item_to s) ≡ s
item_back (inl h) = refl
item_back (inr (inl w)) = refl
item_back (inr (inr w)) = refl

item_forth : (i : WatchItem) → item_to (item_from i) ≡ i
item_forth (Created h) = refl
item_forth (Events h events) = refl
item_forth (Canceled h compact) = refl

pub watch_item-IsForm : IsForm space watch_item
unfolding watch_item
watch_item-IsForm =
    via-IsForm space item_to item_from _ (λ b fits. item_back b) item_forth
    (named-IsForm space (codes "created") _ header from_events refl refl header-IsForm
    (named-IsChoice space (codes "events") _ (both header (listed number event)) (after (codes "canceled") (both header number)) refl refl (both-IsForm _ _ _ header-IsForm (listed-IsForm space number event a_number event-IsForm))
    (after-IsChoice space (codes "canceled") (both header number) refl (both-IsForm _ _ _ header-IsForm a_number))))
