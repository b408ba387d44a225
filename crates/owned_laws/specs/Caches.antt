-- A proxy must cache: where it is live and owns a key, a plain read of the key is replied by its own line, and nothing is sent for it (the
-- leasing cache of etcd's clientv3).
use Rattle.std.specs.Prelude.{◌≡◌, ◌<◌, ◌^◌, ℕ, Bool, true, false, ◌==◌, List, [], ◌∷◌, ◌++◌, length, Some}
use Rattle.std.specs.List.{list_all}
use Rattle.etcd_types.specs.declared.answer.Answer.TheVariants.{Done}
use Rattle.etcd_types.specs.declared.answer.Reply.{Reply}
use Rattle.etcd_types.specs.declared.operation.Compare.{Compare}
use Rattle.etcd_types.specs.declared.operation.Op.{Op}
use Rattle.etcd_types.specs.declared.operation.Op.TheVariants as op
use Rattle.etcd_types.specs.declared.operation.RangeAsk.{RangeAsk}
use Rattle.etcd_types.specs.declared.operation.TxnAsk.{TxnAsk}
use Rattle.etcd_types.specs.declared.request.Request.TheVariants as request
use Rattle.etcd_types.specs.Keys.{is_empty}
use Rattle.proxy_model.specs.Snapshot.{is_snapshot, names_nothing}
use Rattle.core_model.specs.Asking.{is_leased_read}
use Rattle.core_model.specs.Refusals.{refusal_of}
use Rattle.script_text.specs.declared.item.Item.{Item}
use Rattle.script_text.specs.declared.item.Item.TheVariants as item
use Rattle.script_text.specs.declared.line.Line.{Line}
use Rattle.world_model.specs.Lives.{world_of}
use Rattle.world_model.specs.LiveSessions.{Session, session_of, is_live}
use Rattle.world_model.specs.Transcript.{transcript}
use Rattle.renewed_laws.specs.Renewals.{AnswersShowBytes}
use Rattle.session_laws.specs.Told.{sets_clock_below}
use Rattle.cached_laws.specs.Reads.{is_served}
use Rattle.owned_laws.specs.Owned.{Owns}

-- a reply of the proxy, or its JSON
abbrev pub is_reply_of : ℕ → Item → Bool
is_reply_of p (item.Reply q ticket a) = q == p
is_reply_of p (item.Body q ticket status text) = q == p
is_reply_of p _ = false

-- these items begin with replies of the proxy alone, an ok one of the ticket among them
pub record IsRepliedAtOnce (p ticket : ℕ) (items : List Item) : Type 0 where
  pub before : List Item
  pub reply : Reply
  pub rest : List Item
  pub split : items ≡ before ++ item.Reply p ticket (Done reply) ∷ rest
  pub replies : list_all (is_reply_of p) before ≡ true

abbrev pub MustCache : List Item → Type 0
MustCache items =
    (earlier later : List Item) (p ticket : ℕ) (ask : RangeAsk) (s : Session) → items ≡ earlier ++ item.Asked p ticket (request.Range ask) ∷ later
    → is_leased_read (world_of earlier).1 (request.Range ask) ≡ true → is_served (refusal_of (world_of earlier).1 (request.Range ask)) ≡ true
    → session_of p earlier ≡ Some s → is_live p earlier ≡ true → Owns (world_of earlier).0 (world_of earlier).1 ask.range.key p s.number earlier
    → IsRepliedAtOnce p ticket later

-- A transaction that only reads single keys as they are now, and compares single keys: with leasing on, where the proxy is live and owns
-- each key that it names, it is replied likewise.

-- in this session
module _ (namespace leasing : List ℕ) (p session : ℕ) (items : List Item) where
  abbrev pub OwnsCompared : List Compare → Type 0
  OwnsCompared [] = Unit {0}
  OwnsCompared (c ∷ cs) = Owns namespace leasing c.range.key p session items × OwnsCompared cs

  abbrev pub OwnsRead : Op → Type 0
  OwnsRead (op.Range ask) = Owns namespace leasing ask.range.key p session items
  OwnsRead _ = Unit {0}

  abbrev pub OwnsReads : List Op → Type 0
  OwnsReads [] = Unit {0}
  OwnsReads (o ∷ os) = OwnsRead o × OwnsReads os

  -- each key that a compare or an operation names, in the branch that doesn't run too
  pub record OwnsNamed (t : TxnAsk) : Type 0 where
    pub compared : OwnsCompared t.compare
    pub success : OwnsReads t.success
    pub failure : OwnsReads t.failure

abbrev pub SnapshotsAreAnswered : List Item → Type 0
SnapshotsAreAnswered items =
    (earlier later : List Item) (p ticket : ℕ) (t : TxnAsk) (s : Session) → items ≡ earlier ++ item.Asked p ticket (request.Txn t) ∷ later
    → is_empty (world_of earlier).1 ≡ false → is_served (refusal_of (world_of earlier).1 (request.Txn t)) ≡ true → is_snapshot t ≡ true → names_nothing t ≡ false
    → session_of p earlier ≡ Some s → is_live p earlier ≡ true → OwnsNamed (world_of earlier).0 (world_of earlier).1 p s.number earlier t
    → IsRepliedAtOnce p ticket later

-- Of every script, also of one with a line that can't be taken. The premises: what the answers show is made of bytes; clocks are set below
-- the last number of 64 bits; there are fewer than 2^60 lines.
abbrev pub EachScriptCaches : Type 0
EachScriptCaches = (lines : List Line) → list_all sets_clock_below lines ≡ true → length lines < 2 ^ 60 → AnswersShowBytes (transcript lines) → MustCache (transcript lines)

abbrev pub EachScriptAnswersSnapshots : Type 0
EachScriptAnswersSnapshots = (lines : List Line) → list_all sets_clock_below lines ≡ true → length lines < 2 ^ 60 → AnswersShowBytes (transcript lines) → SnapshotsAreAnswered (transcript lines)
