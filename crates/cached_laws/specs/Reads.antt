-- A proxy must acquire: where it is live and its leasing stream is up, a plain read of a key that is new to it is first sent as the acquire of
-- that key, while that session lasts (the leasing cache of etcd's clientv3).
use Rattle.std.specs.Prelude.{◌≡◌, ◌≢◌, ◌<◌, ◌^◌, ℕ, Bool, true, false, ◌==◌, ◌&&◌, if◌then◌else◌, List, ◌∷◌, ◌++◌, length, Option, None, Some}
use Rattle.etcd_types.specs.declared.answer.Refusal.{Refusal}
use Rattle.etcd_types.specs.declared.request.Request.{Request}
use Rattle.etcd_types.specs.declared.request.Request.TheVariants as request
use Rattle.proxy_model.specs.Acquire.{acquire}
use Rattle.proxy_model.specs.Wrapped.{request_under}
use Rattle.read_model.specs.PlainRead.{key_of}
use Rattle.core_model.specs.Asking.{is_leased_read}
use Rattle.core_model.specs.Refusals.{refusal_of}
use Rattle.script_text.specs.declared.item.Item.{Item}
use Rattle.script_text.specs.declared.item.Item.TheVariants as item
use Rattle.world_model.specs.Lives.{world_of}
use Rattle.cached_laws.specs.Folds.{told_of}
use Rattle.world_model.specs.LiveSessions.{Session, session_of, is_live}
use Rattle.cached_laws.specs.NewKeys.{is_new_key}
use Rattle.cached_laws.specs.Streams.{is_up}

-- the key that is to be acquired, and under which session
pub record Awaited : Type 0 where
  pub key : List ℕ
  pub session : ℕ

abbrev pub is_served : Option Refusal → Bool
is_served None = true
is_served (Some r) = false

-- the read may be answered by what the proxy owns, and none of that is there yet
abbrev pub must_acquire : List ℕ → List ℕ → ℕ → List Item → Request → Bool
must_acquire namespace leasing p before q =
    is_leased_read leasing q && is_served (refusal_of leasing q) && is_live p before && is_up namespace leasing p before && is_new_key namespace leasing (key_of q) p before

abbrev pub awaited_under : Request → Option Session → Option Awaited
awaited_under q None = None
awaited_under q (Some s) = Some (record { key = key_of q; session = s.number })

-- of a ticket of the proxy, by an item behind those before it: a call that names it ends that
abbrev pub awaited_by : List ℕ → List ℕ → ℕ → ℕ → List Item → Item → Option Awaited → Option Awaited
awaited_by namespace leasing p ticket before (item.Asked q t r) a =
    if q == p && t == ticket then (if must_acquire namespace leasing p before r then awaited_under r (session_of p before) else None) else a
awaited_by namespace leasing p ticket before (item.Sent q call member t r) a = if q == p && t == ticket then None else a
awaited_by namespace leasing p ticket before _ a = a

-- In this life the ticket's read was asked where its key must be acquired, and no call named the ticket since.
abbrev pub awaited : List ℕ → List ℕ → ℕ → ℕ → List Item → Option Awaited
awaited namespace leasing p ticket items = told_of p None (awaited_by namespace leasing p ticket) items

-- The first call that names it, where that session is live still, is the acquire. No request of a script that is read has ticket 0, which
-- calls name that a proxy makes for itself.
abbrev pub MustAcquire : List Item → Type 0
MustAcquire items =
    (earlier later : List Item) (p call member ticket : ℕ) (q : Request) (a : Awaited) (s : Session) → ticket ≢ 0 → items ≡ earlier ++ item.Sent p call member ticket q ∷ later
    → awaited (world_of earlier).0 (world_of earlier).1 p ticket earlier ≡ Some a → session_of p earlier ≡ Some s → s.number ≡ a.session → is_live p earlier ≡ true
    → q ≡ request_under (world_of earlier).0 (request.Txn (acquire (world_of earlier).1 a.key a.session))
