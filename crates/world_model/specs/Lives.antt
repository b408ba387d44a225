-- A proxy's life: the part of a transcript since it was started last. What a transcript tells of one proxy is told of its life.
use Rattle.std.specs.Prelude.{ℕ, Bool, false, ◌==◌, ◌&&◌, if◌then◌else◌, List, [], ◌∷◌, ◌++◌, length, slice_get, filter, Option, None, Some}
use Rattle.std.specs.List.{list_any}
use Rattle.etcd_types.specs.declared.answer.Answer.{Answer}
use Rattle.etcd_types.specs.declared.request.Request.{Request}
use Rattle.etcd_types.specs.declared.watch.WatchItem.{WatchItem}
use Rattle.script_text.specs.declared.item.Item.{Item}
use Rattle.script_text.specs.declared.item.Item.TheVariants as item

-- the proxy is started, or started again
abbrev pub begins : ℕ → Item → Bool
begins p (item.Started q) = q == p
begins p (item.Restarted q) = q == p
begins p _ = false

abbrev pub life_from : ℕ → List Item → List Item → List Item
life_from p so_far [] = so_far
life_from p so_far (i ∷ items) = if begins p i then life_from p [] items else life_from p (so_far ++ i ∷ []) items

-- the items since the proxy's last start
abbrev pub life : ℕ → List Item → List Item
life p items = life_from p [] items

-- the items up to its next start
abbrev pub rest_of_life : ℕ → List Item → List Item
rest_of_life p [] = []
rest_of_life p (i ∷ items) = if begins p i then [] else i ∷ rest_of_life p items

-- the namespace and the leasing prefix of the world
abbrev pub world_of : List Item → List ℕ × List ℕ
world_of [] = ([], [])
world_of (item.World members namespace leasing ∷ items) = (namespace, leasing)
world_of (i ∷ items) = world_of items

abbrev pub namespace_of : List Item → List ℕ
namespace_of items = (world_of items).0

-- the clock that a proxy was set to last
abbrev pub clock_by : ℕ → ℕ → Item → ℕ
clock_by p now (item.Clock q millis) = if q == p then millis else now
clock_by p now _ = now

abbrev pub clock_from : ℕ → ℕ → List Item → ℕ
clock_from p now [] = now
clock_from p now (i ∷ items) = clock_from p (clock_by p now i) items

abbrev pub clock_of : ℕ → List Item → ℕ
clock_of p items = clock_from p 0 items

-- ---- requests

-- what was asked at the proxy under this ticket
abbrev pub asked_as : ℕ → ℕ → List Item → Option Request
asked_as p ticket [] = None
asked_as p ticket (item.Asked q t r ∷ items) = if q == p && t == ticket then Some r else asked_as p ticket items
asked_as p ticket (i ∷ items) = asked_as p ticket items

-- a call of the proxy that names the ticket
abbrev pub names : ℕ → ℕ → Item → Bool
names p ticket (item.Sent q call member t r) = q == p && t == ticket
names p ticket _ = false

abbrev pub is_named : ℕ → ℕ → List Item → Bool
is_named p ticket items = list_any (names p ticket) items

-- ---- calls and streams

abbrev pub is_call_of : ℕ → ℕ → Item → Bool
is_call_of p number (item.Sent q call member ticket r) = q == p && call == number
is_call_of p number _ = false

-- the proxy sent this call
abbrev pub sent_it : ℕ → ℕ → List Item → Bool
sent_it p number items = list_any (is_call_of p number) items

-- the answer to which a call was executed
abbrev pub executed_to : ℕ → List Item → Option Answer
executed_to number [] = None
executed_to number (item.Executed call answer ∷ items) = if call == number then Some answer else executed_to number items
executed_to number (i ∷ items) = executed_to number items

abbrev pub is_stream_of : ℕ → ℕ → Item → Bool
is_stream_of p number (item.Opened q stream member r) = q == p && stream == number
is_stream_of p number _ = false

-- the proxy opened this stream
abbrev pub opened_it : ℕ → ℕ → List Item → Bool
opened_it p number items = list_any (is_stream_of p number) items

abbrev pub pushed_by : ℕ → Item → List WatchItem
pushed_by number (item.Pushed stream message) = if stream == number then message ∷ [] else []
pushed_by number _ = []

-- the messages that were pushed into a stream, in order
abbrev pub pushed_into : ℕ → List Item → List WatchItem
pushed_into number [] = []
pushed_into number (i ∷ items) = pushed_by number i ++ pushed_into number items

abbrev pub delivers : ℕ → Item → Bool
delivers number (item.Delivered stream) = stream == number
delivers number _ = false

-- the message that is delivered next: they are delivered in the order in which they were pushed
abbrev pub next_message : ℕ → List Item → Option WatchItem
next_message number items = slice_get (pushed_into number items) (length (filter (delivers number) items))
