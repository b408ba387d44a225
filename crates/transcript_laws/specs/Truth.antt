-- What is true of the transcript of every script, in the words of its items alone: the headline.
use Rattle.std.specs.Prelude.{◌≡◌, ℕ, true, List, Ok}
use Rattle.replay_model.specs.Progress.{Progress, progress, finished}
use Rattle.executed_laws.specs.Executed.{RepliesAreExecuted}
use Rattle.once_laws.specs.Once.{RanOnce}
use Rattle.cached_laws.specs.Reads.{MustAcquire}
use Rattle.cause_laws.specs.Causes.{EachReplyHasACause}
use Rattle.cause_laws.specs.Timeouts.{TimeoutsAreDue, OthersAreInTime, NoneWaitsTooLong}
use Rattle.owned_laws.specs.Caches.{MustCache, SnapshotsAreAnswered}
use Rattle.renewed_laws.specs.Renewals.{KeepalivesRenew}
use Rattle.script_text.specs.declared.item.Item.{Item}
use Rattle.script_text.specs.Items.{item_text, item_at, is_item}
use Rattle.text_laws.specs.Items.Texts.{Each}
use Rattle.truth_laws.specs.Snapshots.{UnsentSnapshotsAreTrue}
use Rattle.prefix_laws.specs.Idle.{NoProxyIsIdle}
use Rattle.prefix_laws.specs.Shared.{EachSharesKeepalives}
use Rattle.watch_stories.specs.Stories.{TakenAreOfStories}
use Rattle.world_model.specs.Answers.{AnswersAreTheStores, MessagesAreTheStores}
use Rattle.world_model.specs.Reads.{UnsentReadsAreTrue}
use Rattle.world_model.specs.Received.{WatchesReceive}
use Rattle.world_model.specs.Transcript.{transcript}

-- the item has a text, and is what is read of it
abbrev pub IsReadBack : Item → Type 0
IsReadBack i = (is_item i ≡ true) × (item_at (item_text i) ≡ Ok i)

-- The items are the transcript of the lines taken. Each of its answers is the store's, and so is each message of a stream; and at each
-- step each watch has received, each once and in order, a front of the history's events that it asked for from its start, then possibly
-- a cancellation naming the compaction; and each message that was taken is of its watch's story, by the streams that it was a member of.
-- Each ok reply to a client's keepalive is the answer of an executed keepalive of that lease that its proxy sent after the request was
-- asked; and each ok reply that a call names comes from an executed call that was sent for its request in this life, after it was asked.
-- Of the calls that name a write's ticket at most one did it, one where the reply is ok, and none where the reply says that nothing was
-- done. Each refusal has its cause in the items before it, and one that says that the time is over comes at the first step that is late;
-- every other reply comes before such a step, and no request waits beyond it.
-- Each read, and each transaction that only reads, which was answered with no call of its own shows exactly what the store has at that
-- step. A plain read of a key that is new to its proxy, where that is live and its leasing stream is up, is first sent as the acquire of
-- that key, while that session lasts; and a plain read of a key that a live proxy owns is replied by its own line, with nothing sent for
-- it, and so is a transaction that only reads and compares keys that it owns. Behind the lines taken no request and no watch of any proxy
-- waits for nothing, and of each lease at most one keepalive is out at a proxy, with none due beside it. Each item is read back from its
-- text.
pub record IsTrueTranscript (p : Progress) : Type 0 where
  pub items : p.items ≡ transcript p.lines
  pub answers : AnswersAreTheStores p.items
  pub messages : MessagesAreTheStores p.items
  pub watches : WatchesReceive p.items
  pub stories : TakenAreOfStories p.items
  pub renewals : KeepalivesRenew p.items
  pub replies : RepliesAreExecuted p.items
  pub once : RanOnce p.items
  pub causes : EachReplyHasACause p.items
  pub timeouts : TimeoutsAreDue p.items
  pub timely : OthersAreInTime p.items
  pub ended : NoneWaitsTooLong p.items
  pub reads : UnsentReadsAreTrue p.items
  pub snapshots : UnsentSnapshotsAreTrue p.items
  pub acquires : MustAcquire p.items
  pub caches : MustCache p.items
  pub answered : SnapshotsAreAnswered p.items
  pub idle : NoProxyIsIdle p.world
  pub shared : EachSharesKeepalives p.world
  pub texts : Each IsReadBack p.items

-- of the bytes of any script, whether a last line without line feed is taken or not
pub record TranscriptIsTrue (bytes : List ℕ) : Type 0 where
  pub whole : IsTrueTranscript (progress bytes)
  pub all : IsTrueTranscript (finished bytes)

abbrev pub EachTranscriptIsTrue : Type 0
EachTranscriptIsTrue = (bytes : List ℕ) → TranscriptIsTrue bytes
