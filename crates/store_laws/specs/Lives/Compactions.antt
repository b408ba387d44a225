-- What a compaction does (etcd API reference, `CompactionRequest`): revisions below it can't be read any more, and all else is as it was.
use Rattle.std.specs.Prelude.{◌≡◌, ℕ, ◌<◌, ◌≤◌, Bool, true, false}
use Rattle.etcd_types.specs.declared.request.Request.{Request}
use Rattle.etcd_types.specs.declared.request.Request.TheVariants as request
use Rattle.etcd_types.specs.declared.answer.Answer.TheVariants as answer
use Rattle.etcd_types.specs.declared.answer.Reply.{Reply}
use Rattle.store_model.specs.History.{newest}
use Rattle.store_model.specs.State.{State}
use Rattle.store_model.specs.Step.{exec}

-- the compaction revision rises to the one asked for, which is a past one; the history, leases, members and watches stay
pub record IsCompacted (s t : State) (revision : ℕ) : Type 0 where
  pub only : t ≡ record s { compacted = revision }
  pub rises : s.compacted < revision
  pub past : revision ≤ newest s.history

abbrev pub CompactionsAreExact : Type 0
CompactionsAreExact =
    (s : State) (member revision : ℕ) (physical : Bool) (reply : Reply) → (exec s member (request.Compact revision physical)).1 ≡ answer.Done reply
    → IsCompacted s (exec s member (request.Compact revision physical)).0 revision

abbrev pub is_compaction : Request → Bool
is_compaction (request.Compact revision physical) = true
is_compaction _ = false

-- it never falls, and no other request moves it
abbrev pub CompactionsRise : Type 0
CompactionsRise = (s : State) (member : ℕ) (q : Request) → s.compacted ≤ (exec s member q).0.compacted

abbrev pub OthersDontCompact : Type 0
OthersDontCompact = (s : State) (member : ℕ) (q : Request) → is_compaction q ≡ false → (exec s member q).0.compacted ≡ s.compacted
