-- What one item tells of what proxies and watches are given.
use Rattle.std.specs.Prelude.{ℕ, ◌==◌, ◌&&◌, if◌then◌else◌, List, Option, None, Some}
use Rattle.etcd_types.specs.declared.answer.Answer.{Answer}
use Rattle.etcd_types.specs.declared.answer.Answer.TheVariants.{Done, Refused}
use Rattle.etcd_types.specs.declared.watch.WatchItem.{WatchItem}
use Rattle.etcd_types.specs.declared.watch.WatchItem.TheVariants.{Created, Events, Canceled}
use Rattle.script_text.specs.declared.item.Item.{Item}
use Rattle.script_text.specs.declared.item.Item.TheVariants as item

abbrev pub pushed_in : ℕ → Item → Option WatchItem
pushed_in stream (item.Pushed number message) = if number == stream then Some message else None
pushed_in stream _ = None

abbrev pub executed_in : ℕ → Item → Option Answer
executed_in call (item.Executed number answer) = if number == call then Some answer else None
executed_in call _ = None

abbrev pub namespace_in : Item → Option (List ℕ)
namespace_in (item.World members namespace leasing) = Some namespace
namespace_in _ = None

-- the revision of the answer's header, or 0
abbrev pub reply_revision : Answer → ℕ
reply_revision (Done reply) = reply.header.revision
reply_revision (Refused why) = 0

abbrev pub message_revision : WatchItem → ℕ
message_revision (Created h) = h.revision
message_revision (Events h events) = h.revision
message_revision (Canceled h compaction) = h.revision
