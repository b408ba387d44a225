-- What holds of one write by itself, and stays where its stage changes.
use Rattle.std.proofs.Common.{◌≡◌, ℕ, Bool, true, false, not, ◌||◌, refl}
use Rattle.etcd_types.specs.declared.request.Request.{Request}
use Rattle.etcd_types.specs.declared.request.Request.TheVariants as request
use Rattle.etcd_types.proofs.Bools.{and_first, and_second, and_both}
use Rattle.proxy_model.specs.Guarded.{IsWrite}
use Rattle.wait_model.specs.declared.write.Write.{Write}
use Rattle.wait_model.specs.declared.write.WriteStage.{WriteStage}
use Rattle.wait_model.specs.Covers.{is_by_keys}
use Rattle.wait_model.specs.Asked.{new_write}
use Rattle.wait_model.specs.Fits.{is_write, is_proper}
use Rattle.wait_model.specs.Stages.{staged, is_owner}

pub proper-write : (w : Write) → is_proper w ≡ true → is_write w.request ≡ true
proper-write w h = and_first (is_write w.request) (is_by_keys w || not (is_owner w.stage)) h

pub owner-by_keys : (w : Write) → is_proper w ≡ true → is_owner w.stage ≡ true → is_by_keys w ≡ true
owner-by_keys w h o = inner (is_by_keys w) (is_owner w.stage) (and_second (is_write w.request) (is_by_keys w || not (is_owner w.stage)) h) o
  where
    inner : (k o : Bool) → k || not o ≡ true → o ≡ true → k ≡ true
    inner true o h t = refl
    inner false true h t = h
    inner false false h t = t

pub proper-staged : (w : Write) (stage : WriteStage) → is_proper w ≡ true → (is_owner stage ≡ true → is_by_keys w ≡ true) → is_proper (staged w stage) ≡ true
proper-staged w stage h o =
    and_both (is_write w.request) (is_by_keys w || not (is_owner stage)) (proper-write w h) (inner (is_by_keys w) (is_owner stage) o)
  where
    inner : (k o : Bool) → (o ≡ true → k ≡ true) → k || not o ≡ true
    inner true o f = refl
    inner false true f = f refl
    inner false false f = refl

-- no more an owner than before
pub proper-restaged : (w : Write) (stage : WriteStage) → is_proper w ≡ true → (is_owner stage ≡ true → is_owner w.stage ≡ true) → is_proper (staged w stage) ≡ true
proper-restaged w stage h o = proper-staged w stage h (λ t. owner-by_keys w h (o t))

-- one that was handed in
pub proper-new : (ticket : ℕ) (ask : Request) → is_write ask ≡ true → is_proper (new_write ticket ask) ≡ true
proper-new ticket ask h = and_both (is_write ask) (is_by_keys (new_write ticket ask) || true) h (always (is_by_keys (new_write ticket ask)))
  where
    always : (b : Bool) → b || true ≡ true
    always true = refl
    always false = refl

-- it is one that the reader of its answers takes
pub read-write : (ask : Request) → is_write ask ≡ true → IsWrite ask
read-write (request.Put ask) h = tt
read-write (request.Delete ask) h = tt
read-write (request.Txn t) h = tt
read-write (request.Range ask) h = absurd (cc)
read-write (request.Compact revision physical) h = absurd (cc)
read-write (request.Grant ttl lease) h = absurd (cc)
read-write (request.Revoke lease) h = absurd (cc)
read-write (request.KeepAlive lease) h = absurd (cc)
read-write (request.TimeToLive lease keys) h = absurd (cc)
read-write request.Leases h = absurd (cc)
read-write (request.Watch ask) h = absurd (cc)
