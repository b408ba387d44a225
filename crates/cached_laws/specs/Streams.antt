-- What a transcript tells of a proxy's leasing stream, by which it hears of the ownership keys: whether it was created and goes on. It
-- breaks off where it is cut or cancelled, and a batch that doesn't go on where the stream stands counts as a cut (a watcher of etcd's
-- clientv3 that resumes).
use Rattle.std.specs.Prelude.{ℕ, Bool, false, not, ◌==◌, ◌&&◌, if◌then◌else◌, List, Option, None, Some, Ok, Err}
use Rattle.etcd_types.specs.declared.request.Request.{Request}
use Rattle.etcd_types.specs.declared.request.Request.TheVariants as request
use Rattle.etcd_types.specs.declared.request.WatchAsk.{WatchAsk}
use Rattle.etcd_types.specs.declared.watch.WatchItem.{WatchItem}
use Rattle.etcd_types.specs.declared.watch.WatchItem.TheVariants as watch
use Rattle.etcd_types.specs.Keys.{same}
use Rattle.proxy_model.specs.Prefixes.{leasing_range, under}
use Rattle.proxy_model.specs.Unwrapped.{Unwrapped, item_without}
use Rattle.proxy_model.specs.Upstream.{Upstream, opened, created, advance}
use Rattle.core_model.specs.LeasingStream.{is_readable, told_revision}
use Rattle.script_text.specs.declared.item.Item.{Item}
use Rattle.script_text.specs.declared.item.Item.TheVariants as item
use Rattle.world_model.specs.Lives.{next_message}
use Rattle.cached_laws.specs.Folds.{told_of}

-- a stream by its number, and how far it came
pub record ToldStream : Type 0 where
  pub number : ℕ
  pub stream : Upstream

-- a watch of all ownership keys, without the records before; clients' streams are opened with them
abbrev pub is_leasing_watch : List ℕ → List ℕ → WatchAsk → Bool
is_leasing_watch namespace leasing ask =
    same ask.range.key (under namespace (leasing_range leasing)).key && same ask.range.end (under namespace (leasing_range leasing)).end && not ask.prev_kv

abbrev pub opened_by : List ℕ → List ℕ → ℕ → Request → Option ToldStream → Option ToldStream
opened_by namespace leasing number (request.Watch ask) s =
    if is_leasing_watch namespace leasing ask then Some (record { number = number; stream = opened (leasing_range leasing) ask.start }) else s
opened_by namespace leasing number q s = s

-- by a message of it
abbrev pub told_by : Upstream → WatchItem → Option Upstream
told_by u (watch.Created h) = Some (if u.created then u else created u h.revision)
told_by u (watch.Events h events) = if is_readable u events then Some (advance u (told_revision h events)) else None
told_by u (watch.Canceled h compaction) = None

abbrev pub told_in : Upstream → Unwrapped WatchItem → Option Upstream
told_in u (Ok x) = told_by u x
told_in u (Err foreign) = None

-- one without a message tells nothing
abbrev pub told_if : List ℕ → Upstream → Option WatchItem → Option Upstream
told_if namespace u None = Some u
told_if namespace u (Some x) = told_in u (item_without namespace x)

abbrev pub numbered : ℕ → Option Upstream → Option ToldStream
numbered number None = None
numbered number (Some u) = Some (record { number = number; stream = u })

abbrev pub delivered_by : List ℕ → ℕ → Option WatchItem → Option ToldStream → Option ToldStream
delivered_by namespace number x None = None
delivered_by namespace number x (Some s) = if s.number == number then numbered number (told_if namespace s.stream x) else Some s

abbrev pub cut_by : ℕ → Option ToldStream → Option ToldStream
cut_by number None = None
cut_by number (Some s) = if s.number == number then None else Some s

-- by an item of the proxy, behind those before it
abbrev pub stream_by : List ℕ → List ℕ → ℕ → List Item → Item → Option ToldStream → Option ToldStream
stream_by namespace leasing p before (item.Opened q number member r) s = if q == p then opened_by namespace leasing number r s else s
stream_by namespace leasing p before (item.Delivered number) s = delivered_by namespace number (next_message number before) s
stream_by namespace leasing p before (item.Cut number) s = cut_by number s
stream_by namespace leasing p before _ s = s

-- the leasing stream that the proxy has open behind these items
abbrev pub leasing_of : List ℕ → List ℕ → ℕ → List Item → Option ToldStream
leasing_of namespace leasing p items = told_of p None (stream_by namespace leasing p) items

abbrev pub is_created : Option ToldStream → Bool
is_created None = false
is_created (Some s) = s.stream.created

-- it was created, and neither cut nor cancelled since
abbrev pub is_up : List ℕ → List ℕ → ℕ → List Item → Bool
is_up namespace leasing p items = is_created (leasing_of namespace leasing p items)
