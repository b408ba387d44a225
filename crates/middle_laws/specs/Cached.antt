-- Replies that a proxy gives from its cache: they show what the store has at that step, by the view's records of it.
use Rattle.std.specs.Prelude.{◌≡◌, ℕ, true, false, if◌then◌else◌, List, None, Some}
use Rattle.etcd_types.specs.declared.answer.Body.{Body}
use Rattle.etcd_types.specs.declared.answer.Reply.{Reply}
use Rattle.etcd_types.specs.declared.operation.RangeAsk.{RangeAsk}
use Rattle.etcd_types.specs.declared.operation.TxnAsk.{TxnAsk}
use Rattle.etcd_types.specs.declared.record.Header.{Header}
use Rattle.etcd_types.specs.declared.request.Request.{Request}
use Rattle.etcd_types.specs.declared.request.Request.TheVariants as request
use Rattle.store_model.specs.FirstRefusals.{txn_lacks_key}
use Rattle.proxy_model.specs.Snapshot.{Held, is_plain, snapshot}
use Rattle.read_model.specs.declared.asked.Asked.{Asked}
use Rattle.core_model.specs.declared.event.CoreEvent.{CoreEvent}
use Rattle.core_model.specs.Kinds.{writes_keys}
use Rattle.core_model.specs.State.{Core}
use Rattle.core_model.specs.Step.{stepped}
use Rattle.cache_laws.specs.Moves.View.{View}
use Rattle.cache_laws.specs.Store.StoreView.{is_client}
use Rattle.reply_laws.specs.Sources.{shows, Source, stood, called, acquired, wrote, shared, cached, Given, taken, held}
use Rattle.reply_laws.specs.Sources as sources

-- under the header that the proxy has behind the step
abbrev pub header_after : Core → CoreEvent → ℕ → Header
header_after c e now = (stepped c e now).core.header

-- A plain read of a key of clients is answered with the store's record of that key.
pub record IsCachedRead (v : View) (prefix : List ℕ) (h : Header) (q : Request) (reply : Reply) : Type 0 where
  pub ask : RangeAsk
  pub range : q ≡ request.Range ask
  pub plain : is_plain ask ≡ true
  pub client : is_client prefix ask.range.key ≡ true
  pub told : reply ≡ shows h (v.kvs ask.range.key)

-- the store's records of the keys of clients, as the view has them
abbrev pub records_in : View → List ℕ → Held
records_in v prefix k = if is_client prefix k then Some (v.kvs k) else None

-- A transaction without writes, which the store doesn't refuse for an empty key, is answered with the body that these records give.
pub record IsCachedSnapshot (v : View) (prefix : List ℕ) (h : Header) (q : Request) (reply : Reply) : Type 0 where
  pub txn : TxnAsk
  pub asked : q ≡ request.Txn txn
  pub reads : writes_keys q ≡ false
  pub named : txn_lacks_key txn ≡ false
  pub body : Body
  pub shown : snapshot (records_in v prefix) txn ≡ Some body
  pub told : reply ≡ record { header = h; body = body }

-- What that says of each source: those of an answer that is heard are the store's by themselves, and one that stood ready came to
-- stand at an earlier step.

abbrev pub TrueSource : (v : View) (c : Core) (e : CoreEvent) (now : ℕ) (a : Asked) (reply : Reply) → Source c e now a reply → Type 0
TrueSource v c e now a reply (cached s g reading before decides is) = IsCachedRead v c.own.waits.prefix (header_after c e now) a.request reply
TrueSource v c e now a reply (stood before) = Unit {0}
TrueSource v c e now a reply (called o kind j before hears) = Unit {0}
TrueSource v c e now a reply (acquired o answer claim j before hears claims told) = Unit {0}
TrueSource v c e now a reply (wrote o answer w j before hears found own done) = Unit {0}
TrueSource v c e now a reply (shared o lease j before hears) = Unit {0}

abbrev pub TrueGiven : (v : View) (c : Core) (e : CoreEvent) (now : ℕ) (reply : Reply) → Given c e now reply → Type 0
TrueGiven v c e now reply (taken a event there ready) = Unit {0}
TrueGiven v c e now reply (held ticket q asked plain owned) = IsCachedRead v c.own.waits.prefix (header_after c e now) q reply
TrueGiven v c e now reply (sources.snapshot ticket q body asked reads live shown told) = IsCachedSnapshot v c.own.waits.prefix (header_after c e now) q reply
