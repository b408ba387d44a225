-- A key that a proxy has nothing of: no entry, no acquire, no moment of rest, no write over it, and no read that waits there. It is as new
-- to the proxy, which may acquire it (the leasing cache of etcd's clientv3).
use Rattle.std.specs.Prelude.{◌≡◌, ℕ, Bool, true, false, not, ◌&&◌, List, [], ◌∷◌, Option, None, Some, Ok}
use Rattle.std.specs.List.{list_all}
use Rattle.etcd_types.specs.declared.record.Header.{Header}
use Rattle.etcd_types.specs.declared.request.Request.{Request}
use Rattle.etcd_types.specs.declared.watch.Change.{Change}
use Rattle.etcd_types.specs.declared.watch.Change.TheVariants as change
use Rattle.etcd_types.specs.declared.watch.Event.{Event}
use Rattle.etcd_types.specs.declared.watch.WatchItem.{WatchItem}
use Rattle.etcd_types.specs.declared.watch.WatchItem.TheVariants as item
use Rattle.etcd_types.specs.Keys.{same}
use Rattle.proxy_model.specs.Foreign.{revoke_word}
use Rattle.proxy_model.specs.Keyed.{at}
use Rattle.proxy_model.specs.SeveralKeys.{written_ranges}
use Rattle.proxy_model.specs.Unwrapped.{item_without}
use Rattle.wait_model.specs.Covers.{covered}
use Rattle.wait_model.specs.Notices.{owned_key}
use Rattle.read_model.specs.declared.asked.Asked.{Asked}
use Rattle.read_model.specs.PlainRead.{key_of, ask_key, is_written}
use Rattle.core_model.specs.declared.event.CoreEvent.{CoreEvent}
use Rattle.core_model.specs.declared.event.CoreEvent.TheVariants as event
use Rattle.core_model.specs.Asking.{is_leased_read}
use Rattle.core_model.specs.LeasingStream.{is_readable}
use Rattle.core_model.specs.State.{Opening, Core}
use Rattle.core_model.specs.Step.{opening_at}
use Rattle.core_fits.specs.Fits.{is_reading}

-- it doesn't wait for what stands at the key
abbrev pub is_apart : List ℕ → Asked → Bool
is_apart k a = not (is_reading a.stage && same (ask_key a) k)

pub record IsUntouched (k : List ℕ) (c : Core) : Type 0 where
  pub entry : at c.own.entries k ≡ None
  pub acquire : at c.acquires k ≡ None
  pub quiet : at c.own.waits.quiet k ≡ None
  pub unwritten : is_written c.own k ≡ false
  pub unread : list_all (is_apart k) c.asks ≡ true

-- What comes to the proxy passes the key by.

-- a request reads another key, and writes other keys
pub record Misses (k prefix : List ℕ) (q : Request) : Type 0 where
  pub reads : is_leased_read prefix q ≡ true → same (key_of q) k ≡ false
  pub writes : covered (written_ranges q) k ≡ false

-- the revoking word comes for another key
abbrev pub Spares : List ℕ → List ℕ → Change → Type 0
Spares k prefix (change.Put kv) = same kv.value revoke_word ≡ true → same (owned_key prefix kv.key) k ≡ false
Spares k prefix (change.Delete j revision) = Unit {0}

abbrev pub AllSpare : List ℕ → List ℕ → List Event → Type 0
AllSpare k prefix [] = Unit {0}
AllSpare k prefix (e ∷ es) = Spares k prefix e.change × AllSpare k prefix es

-- in each batch of the leasing stream
abbrev pub SparesIn : List ℕ → Core → ℕ → WatchItem → Type 0
SparesIn k c number x =
    (o : Opening) (h : Header) (es : List Event) → opening_at number c.leasing ≡ Some o → item_without c.settings.namespace x ≡ Ok (item.Events h es) → is_readable o.stream es ≡ true
    → AllSpare k c.own.waits.prefix es

abbrev pub Passes : List ℕ → Core → CoreEvent → Type 0
Passes k c (event.Ask ticket q word) = Misses k c.own.waits.prefix q
Passes k c (event.Item number x) = SparesIn k c number x
Passes k c _ = Unit {0}
