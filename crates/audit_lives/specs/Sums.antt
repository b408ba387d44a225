-- What is reported of items, counted one by one: each reply to a read that no call of its life names counts, until a call names it.
use Rattle.std.specs.Prelude.{◌≡◌, ℕ, ◌+◌, Bool, false, not, ◌==◌, ◌&&◌, ◌||◌, if◌then◌else◌, List, [], ◌∷◌, ◌++◌, length, Option, None, Some}
use Rattle.std.specs.List.{list_any}
use Rattle.etcd_types.specs.declared.answer.Answer.TheVariants.{Done}
use Rattle.first_places.specs.Counts.{AreBefore, count_at}
use Rattle.script_text.specs.declared.item.Item.{Item}
use Rattle.script_text.specs.declared.item.Item.TheVariants as item
use Rattle.audit_model.specs.Summaries.{is_read_of, is_unsent_read, unsent_reads, watches_asked}
use Rattle.world_model.specs.Lives.{asked_as, begins, is_named, life, names}
use Rattle.audit_lives.specs.declared.sums.Sums.{Sums}

abbrev pub one : Bool → ℕ
one b = if b then 1 else 0

-- the ticket of an ok reply to a read that no call of its life names so far
abbrev pub unsent_now : List Item → Item → Option (ℕ × ℕ)
unsent_now before (item.Reply p ticket (Done r)) =
    if is_read_of (asked_as p ticket (life p before)) && not (is_named p ticket (life p before)) then Some (p, ticket) else None
unsent_now before _ = None

-- the item is a reply under this ticket, and its proxy isn't started in these behind it
abbrev pub is_open_at : ℕ → ℕ → List Item → Item → Bool
is_open_at p ticket later (item.Reply q t answer) = not (list_any (begins q) later) && (q == p && t == ticket)
is_open_at p ticket later _ = false

-- how many of the replies under this ticket, in its proxy's last life, are unsent reads
abbrev pub open_from : ℕ → ℕ → List Item → List Item → ℕ
open_from p ticket before [] = 0
open_from p ticket before (i ∷ items) = one (is_unsent_read before items i && is_open_at p ticket items i) + open_from p ticket (before ++ i ∷ []) items

-- a call names the ticket, or its life ends
abbrev pub closes : ℕ → ℕ → Item → Bool
closes p ticket i = begins p i || names p ticket i

-- these are counted, where each proxy's life begins at its start
pub record TellsSums (s : Sums) (start : ℕ → ℕ) (items : List Item) : Type 0 where
  pub unsent : s.unsent ≡ unsent_reads items
  pub watches : s.watches ≡ watches_asked items
  pub reads : (p ticket : ℕ) → count_at s.reads start p ticket ≡ open_from p ticket [] items
  pub before : AreBefore (length items) s.reads
