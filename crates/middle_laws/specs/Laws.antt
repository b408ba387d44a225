-- What a proxy answers from its cache is what the store has at that step: on the ground behind its clock work, on which what is asked
-- is decided, and on the ground in the middle of a step on which waiting reads are decided again.
use Rattle.std.specs.Prelude.{◌≡◌, ℕ, true, List, ◌++◌, Option, Ok}
use Rattle.std.specs.List.{list_all}
use Rattle.std.specs.Option.{option_map}
use Rattle.etcd_types.specs.declared.answer.Answer.TheVariants.{Done}
use Rattle.etcd_types.specs.declared.answer.Reply.{Reply}
use Rattle.etcd_types.specs.declared.record.Header.{Header}
use Rattle.etcd_types.specs.declared.record.Kv.{Kv}
use Rattle.etcd_types.specs.declared.request.Request.{Request}
use Rattle.etcd_types.specs.declared.request.Request.TheVariants as request
use Rattle.store_model.specs.Records.{record_now}
use Rattle.store_model.specs.State.{State}
use Rattle.store_model.specs.Step.{exec}
use Rattle.store_laws.specs.Requests.Branches.{Answers}
use Rattle.store_laws.specs.Lives.TestedKeys.{have_keys}
use Rattle.proxy_model.specs.Unwrapped.{reply_without}
use Rattle.proxy_model.specs.Wrapped.{request_under}
use Rattle.read_model.specs.declared.asked.Asked.{Asked}
use Rattle.read_model.specs.State.{Ground, ground_of}
use Rattle.core_model.specs.declared.event.CoreEvent.{CoreEvent}
use Rattle.core_model.specs.ClockWork.{clock_work}
use Rattle.core_model.specs.Lookups.{reads_of}
use Rattle.core_model.specs.State.{Core}
use Rattle.cache_laws.specs.Moves.View.{View}
use Rattle.cache_laws.specs.Store.StoreView.{Shows}
use Rattle.namespace_laws.specs.Stored.Stored.{stored}
use Rattle.reply_laws.specs.Sources.{shows, Decides, Source, Given}
use Rattle.middle_laws.specs.Seen.{IsSeen, HoldsTrue}
use Rattle.middle_laws.specs.Cached.{IsCachedRead, IsCachedSnapshot, TrueSource, TrueGiven}

-- Held records.

abbrev pub KeptRecordsAreTrue : Type 0
KeptRecordsAreTrue =
    (holder : ℕ → ℕ) (v : View) (p now : ℕ) (own : ℕ → ℕ) (c : Core) (e : CoreEvent) → IsSeen holder v p now own c e → HoldsTrue v c.own.waits.prefix (ground_of (reads_of (clock_work now c)))

abbrev pub DecidedRecordsAreTrue : Type 0
DecidedRecordsAreTrue =
    (holder : ℕ → ℕ) (v : View) (p now : ℕ) (own : ℕ → ℕ) (c : Core) (e : CoreEvent) (g : Ground) → IsSeen holder v p now own c e → Decides c e now g → HoldsTrue v c.own.waits.prefix g

-- Replies.

abbrev pub SourcesAreTrue : Type 0
SourcesAreTrue =
    (holder : ℕ → ℕ) (v : View) (p now : ℕ) (own : ℕ → ℕ) (c : Core) (e : CoreEvent) (a : Asked) (reply : Reply) → IsSeen holder v p now own c e → (x : Source c e now a reply) → TrueSource v c e now a reply x

abbrev pub GivenAreTrue : Type 0
GivenAreTrue =
    (holder : ℕ → ℕ) (v : View) (p now : ℕ) (own : ℕ → ℕ) (c : Core) (e : CoreEvent) (reply : Reply) → IsSeen holder v p now own c e → (x : Given c e now reply) → TrueGiven v c e now reply x

-- What that says of a store that the view shows.

abbrev pub CachedReadsShowTheStore : Type 0
CachedReadsShowTheStore =
    (prefix : List ℕ) (s : State) (v : View) (h : Header) (q : Request) (reply : Reply) → Shows prefix s v → (x : IsCachedRead v prefix h q reply) → reply ≡ shows h (record_now s.history x.ask.range.key)

-- the store answers the transaction, at any member, with this very body
abbrev pub CachedSnapshotsShowTheStore : Type 0
CachedSnapshotsShowTheStore =
    (prefix : List ℕ) (s : State) (member : ℕ) (v : View) (h : Header) (q : Request) (reply : Reply) → Shows prefix s v → (x : IsCachedSnapshot v prefix h q reply)
    → (stored : Reply) × Answers s member x.txn stored × (stored.body ≡ reply.body)

-- And of the store under the namespace, to which the proxy speaks.

-- a record told by the client's key
abbrev pub with_key : List ℕ → Option Kv → Option Kv
with_key key o = option_map (λ (kv : Kv). record kv { key = key }) o

abbrev pub CachedReadsUnwrap : Type 0
CachedReadsUnwrap =
    (ns prefix : List ℕ) (s : State) (v : View) (h : Header) (q : Request) (reply : Reply) → Shows prefix s v → (x : IsCachedRead v prefix h q reply)
    → reply ≡ shows h (with_key x.ask.range.key (record_now (stored ns s).history (ns ++ x.ask.range.key)))

-- it answers the transaction under the namespace, and that answer without the namespace has this very body
abbrev pub CachedSnapshotsUnwrap : Type 0
CachedSnapshotsUnwrap =
    (ns prefix : List ℕ) (s : State) (member : ℕ) (v : View) (h : Header) (q : Request) (reply : Reply) → list_all have_keys s.history ≡ true → Shows prefix s v → (x : IsCachedSnapshot v prefix h q reply)
    → (wrapped bare : Reply) × ((exec (stored ns s) member (request_under ns (request.Txn x.txn))).1 ≡ Done wrapped) × (reply_without ns wrapped ≡ Ok bare) × (reply.body ≡ bare.body)
