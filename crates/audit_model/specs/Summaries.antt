-- What is told of a transcript that keeps the rules: how many items it has, how many reads of it were answered with no call of their
-- own, and how many watches were asked.
use Rattle.std.specs.Prelude.{ℕ, ◌+◌, Bool, true, false, not, ◌&&◌, if◌then◌else◌, List, [], ◌∷◌, ◌++◌, length, filter, Option, Some}
use Rattle.etcd_types.specs.declared.answer.Answer.TheVariants.{Done}
use Rattle.etcd_types.specs.declared.request.Request.{Request}
use Rattle.etcd_types.specs.declared.request.Request.TheVariants as request
use Rattle.script_text.specs.declared.item.Item.{Item}
use Rattle.script_text.specs.declared.item.Item.TheVariants as item
use Rattle.world_model.specs.Lives.{life, rest_of_life, asked_as, is_named}
use Rattle.audit_model.specs.declared.summary.Summary.{Summary}
use Rattle.audit_model.specs.Order.{is_watch}

abbrev pub is_read_of : Option Request → Bool
is_read_of (Some (request.Range ask)) = true
is_read_of _ = false

-- an ok reply of a read whose ticket no call of that life names, before it or behind it
abbrev pub is_unsent_read : List Item → List Item → Item → Bool
is_unsent_read before later (item.Reply p ticket (Done r)) =
    is_read_of (asked_as p ticket (life p before)) && not (is_named p ticket (life p before ++ rest_of_life p later))
is_unsent_read before later _ = false

abbrev pub unsent_from : List Item → List Item → ℕ
unsent_from before [] = 0
unsent_from before (i ∷ items) = (if is_unsent_read before items i then 1 else 0) + unsent_from (before ++ i ∷ []) items

abbrev pub unsent_reads : List Item → ℕ
unsent_reads items = unsent_from [] items

abbrev pub asks_watch : Item → Bool
asks_watch (item.Asked p ticket q) = is_watch q
asks_watch _ = false

abbrev pub watches_asked : List Item → ℕ
watches_asked items = length (filter asks_watch items)

abbrev pub summary : List Item → Summary
summary items = record { items = length items; unsent = unsent_reads items; watches = watches_asked items }
