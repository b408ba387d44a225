-- The texts of the messages of a watch.
use Rattle.std.specs.Prelude.{ℕ, List, [], ◌∷◌, Option, ◌⊎◌, codes}
use mathlib.Core.Logic.{inl, inr}
use Rattle.text_model.specs.Forms.{Form, both, via, after, named, listed}
use Rattle.text_model.specs.Words.{number, bytes}
use Rattle.etcd_types.specs.declared.record.Kv.{Kv}
use Rattle.etcd_types.specs.declared.record.Header.{Header}
use Rattle.etcd_types.specs.declared.watch.Change.{Change}
use Rattle.etcd_types.specs.declared.watch.Change.TheVariants.{Put, Delete}
use Rattle.etcd_types.specs.declared.watch.Event.{Event}
use Rattle.etcd_types.specs.declared.watch.WatchItem.{WatchItem}
use Rattle.etcd_types.specs.declared.watch.WatchItem.TheVariants.{Created, Events, Canceled}
use Rattle.message_text.specs.Answers.{header, kv, prev}

abbrev pub change_to : Kv ⊎ (List ℕ × ℕ) → Change
change_to (inl k) = Put k
change_to (inr w) = Delete w.0 w.1

abbrev pub change_from : Change → Kv ⊎ (List ℕ × ℕ)
change_from (Put k) = inl k
change_from (Delete key modified) = inr (key, modified)

-- `put KV` or `delete K MOD`
unfoldable pub change : Form Change
change = via change_to change_from (named (codes "put") kv (after (codes "delete") (both bytes number)))

-- a change, and the record before it
unfoldable pub event : Form Event
event = via (λ w. record { change = w.0; prev = w.1 }) (λ e. (e.change, e.prev)) (both change prev)

abbrev pub ItemWords : Type 0
ItemWords = Header ⊎ ((Header × List Event) ⊎ (Header × ℕ))

abbrev pub item_to : ItemWords → WatchItem
item_to (inl h) = Created h
item_to (inr (inl w)) = Events w.0 w.1
item_to (inr (inr w)) = Canceled w.0 w.1

abbrev pub item_from : WatchItem → ItemWords
item_from (Created h) = inl h
item_from (Events h events) = inr (inl (h, events))
item_from (Canceled h compact) = inr (inr (h, compact))

abbrev pub from_events : Form ((Header × List Event) ⊎ (Header × ℕ))
from_events = named (codes "events") (both header (listed number event)) (after (codes "canceled") (both header number))

-- `created HEADER`, `events HEADER LIST` or `canceled HEADER COMPACT`
unfoldable pub watch_item : Form WatchItem
watch_item = via item_to item_from (named (codes "created") header from_events)
