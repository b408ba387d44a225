-- What a proxy answers from its cache is what the store answers at that moment.
use Rattle.std.specs.Prelude.{◌≡◌, ◌≢◌, ℕ, Bool, true, false, if◌then◌else◌, List, None, Some}
use Rattle.std.specs.Option.{option_to_list}
use Rattle.etcd_types.specs.declared.operation.RangeAsk.{RangeAsk}
use Rattle.etcd_types.specs.declared.operation.TxnAsk.{TxnAsk}
use Rattle.etcd_types.specs.declared.answer.Answer.TheVariants as answer
use Rattle.etcd_types.specs.declared.answer.Body.{Body}
use Rattle.etcd_types.specs.declared.answer.Reply.{Reply}
use Rattle.etcd_types.specs.declared.request.Request.TheVariants as request
use Rattle.store_model.specs.FirstRefusals.{txn_lacks_key}
use Rattle.store_model.specs.Records.{record_now}
use Rattle.store_model.specs.State.{State}
use Rattle.store_model.specs.Step.{exec}
use Rattle.proxy_model.specs.Snapshot.{Held, is_plain, plain_body, snapshot}
use Rattle.cache_laws.specs.Moves.View as view
use Rattle.cache_laws.specs.Moves.View.{Phase, Absent, Writing, Leaving, View, live}
use Rattle.cache_laws.specs.Store.StoreView.{is_client, Stands}
use Rattle.store_laws.specs.Requests.Branches.{Answers}

-- a held entry of a live session, of a client key, has the store's record of its key, or its absence
abbrev pub HeldRecordsAreTrue : Type 0
HeldRecordsAreTrue =
    (holder : ℕ → ℕ) (p : List ℕ) (s : State) (v : View) (proxy : ℕ) (k : List ℕ) → Stands holder p s v → live v proxy ≢ 0 → is_client p k ≡ true → (v.slots proxy k).phase ≡ view.Held
    → record_now s.history k ≡ (v.slots proxy k).kv

-- so a plain read that is answered from it has the body that the store gives
abbrev pub CachedReadsAreTrue : Type 0
CachedReadsAreTrue =
    (holder : ℕ → ℕ) (p : List ℕ) (s : State) (member : ℕ) (v : View) (proxy : ℕ) (ask : RangeAsk) (reply : Reply) → Stands holder p s v → live v proxy ≢ 0
    → is_plain ask ≡ true → is_client p ask.range.key ≡ true → (v.slots proxy ask.range.key).phase ≡ view.Held → (exec s member (request.Range ask)).1 ≡ answer.Done reply
    → reply.body ≡ plain_body (option_to_list (v.slots proxy ask.range.key).kv)

-- what a proxy's entries hold
abbrev pub is_held : Phase → Bool
is_held Absent = false
is_held view.Held = true
is_held Writing = false
is_held Leaving = false

abbrev pub held_by : View → ℕ → Held
held_by v proxy k = if is_held (v.slots proxy k).phase then Some (v.slots proxy k).kv else None

-- and all of them are of client keys
abbrev pub HoldsClients : List ℕ → View → ℕ → Type 0
HoldsClients p v proxy = (k : List ℕ) → (v.slots proxy k).phase ≡ view.Held → is_client p k ≡ true

-- a transaction without writes that is answered over several held entries has the body that the store gives, which answers it
abbrev pub CachedSnapshotsAreTrue : Type 0
CachedSnapshotsAreTrue =
    (holder : ℕ → ℕ) (p : List ℕ) (s : State) (member : ℕ) (v : View) (proxy : ℕ) (t : TxnAsk) (body : Body) → Stands holder p s v → live v proxy ≢ 0 → HoldsClients p v proxy
    → txn_lacks_key t ≡ false → snapshot (held_by v proxy) t ≡ Some body
    → (reply : Reply) × Answers s member t reply × (reply.body ≡ body)
