-- A key that is new to a proxy: in the proxy's life nothing was asked of it, and no event of its ownership key was delivered.
use Rattle.std.specs.Prelude.{ℕ, Bool, true, false, not, ◌==◌, ◌&&◌, List, Option, None, Some, Ok, Err}
use Rattle.std.specs.List.{list_any}
use Rattle.etcd_types.specs.declared.request.Request.{Request}
use Rattle.etcd_types.specs.declared.request.Request.TheVariants as request
use Rattle.etcd_types.specs.declared.watch.Event.{Event}
use Rattle.etcd_types.specs.declared.watch.WatchItem.{WatchItem}
use Rattle.etcd_types.specs.declared.watch.WatchItem.TheVariants as watch
use Rattle.etcd_types.specs.Keys.{same}
use Rattle.etcd_types.specs.Ranges.{contains}
use Rattle.proxy_model.specs.Prefixes.{leasing_range}
use Rattle.proxy_model.specs.SeveralKeys.{written_ranges}
use Rattle.proxy_model.specs.Unwrapped.{Unwrapped, item_without}
use Rattle.wait_model.specs.Covers.{covered}
use Rattle.wait_model.specs.Notices.{owned_key}
use Rattle.watch_model.specs.Delivery.{changed_key}
use Rattle.script_text.specs.declared.item.Item.{Item}
use Rattle.script_text.specs.declared.item.Item.TheVariants as item
use Rattle.world_model.specs.Lives.{opened_it, next_message}
use Rattle.cached_laws.specs.Folds.{told_of}

-- it reads the key, or writes it
abbrev pub is_of_key : List ℕ → Request → Bool
is_of_key k (request.Range ask) = contains ask.range k
is_of_key k q = covered (written_ranges q) k

-- an event of the ownership key of `k`
abbrev pub names_owner : List ℕ → List ℕ → Event → Bool
names_owner leasing k e = contains (leasing_range leasing) (changed_key e.change) && same (owned_key leasing (changed_key e.change)) k

abbrev pub message_names : List ℕ → List ℕ → WatchItem → Bool
message_names leasing k (watch.Events h events) = list_any (names_owner leasing k) events
message_names leasing k _ = false

abbrev pub read_names : List ℕ → List ℕ → Unwrapped WatchItem → Bool
read_names leasing k (Ok x) = message_names leasing k x
read_names leasing k (Err foreign) = false

abbrev pub told_names : List ℕ → List ℕ → List ℕ → Option WatchItem → Bool
told_names namespace leasing k None = false
told_names namespace leasing k (Some x) = read_names leasing k (item_without namespace x)

-- an item that makes the key known to the proxy
abbrev pub touches : List ℕ → List ℕ → List ℕ → ℕ → List Item → Item → Bool
touches namespace leasing k p before (item.Asked q ticket r) = q == p && is_of_key k r
touches namespace leasing k p before (item.Delivered number) = opened_it p number before && told_names namespace leasing k (next_message number before)
touches namespace leasing k p before _ = false

abbrev pub new_by : List ℕ → List ℕ → List ℕ → ℕ → List Item → Item → Bool → Bool
new_by namespace leasing k p before i so_far = so_far && not (touches namespace leasing k p before i)

-- the key is new to the proxy behind these items
abbrev pub is_new_key : List ℕ → List ℕ → List ℕ → ℕ → List Item → Bool
is_new_key namespace leasing k p items = told_of p true (new_by namespace leasing k p) items
