-- Must acquire, of one proxy and whatever comes to it: a key that nothing was asked of, and for which no revoking word came, stays new; and where
-- the proxy is live and its leasing stream is up, a plain read of a new key is first sent as the acquire of that key, while that session
-- lasts (the leasing cache of etcd's clientv3).
use Rattle.std.specs.Prelude.{◌≡◌, ◌≢◌, ℕ, true, false, List, [], ◌∷◌, Some}
use Rattle.etcd_types.specs.declared.operation.RangeAsk.{RangeAsk}
use Rattle.etcd_types.specs.declared.request.Request.{Request}
use Rattle.etcd_types.specs.declared.request.Request.TheVariants as request
use Rattle.proxy_model.specs.Acquire.{acquire}
use Rattle.proxy_model.specs.Wrapped.{request_under}
use Rattle.core_model.specs.declared.event.CoreEvent.{CoreEvent}
use Rattle.core_model.specs.declared.event.CoreEvent.TheVariants as event
use Rattle.core_model.specs.declared.settings.Settings.{Settings}
use Rattle.core_model.specs.ClockWork.{clock_work}
use Rattle.core_model.specs.Fits.{CoreOk}
use Rattle.core_model.specs.Lookups.{moment}
use Rattle.core_model.specs.State.{Core}
use Rattle.core_model.specs.Step.{is_worn, stepped}
use Rattle.core_laws.specs.Steps.Kept.{IsHeard, Timed, after, ran, AllHeard}
use Rattle.core_laws.specs.Steps.Laws.{IsLeasedRead}
use Rattle.owner_fits.specs.Laws.{OwnersFit}
use Rattle.cached_laws.specs.Awaited.{IsAwaited, Calls, Leaves, seat_is}
use Rattle.cached_laws.specs.Untouched.{IsUntouched, Passes}

-- Keys that are new.

-- of a proxy at its start every key is
abbrev pub StartsUntouched : Type 0
StartsUntouched = (k : List ℕ) (settings : Settings) → IsUntouched k (Rattle.core_model.specs.State.first_core settings)

abbrev pub NewKeysStayNew : Type 0
NewKeysStayNew = (k : List ℕ) (c : Core) (e : CoreEvent) (now : ℕ) → IsHeard c e → CoreOk c → Passes k c e → IsUntouched k c → IsUntouched k (stepped c e now).core

-- Reads of such keys.

-- a proxy whose clock's work is done may acquire the key, under the live session of this number
pub record IsNewRead (c : Core) (now ticket : ℕ) (ask : RangeAsk) (n : ℕ) : Type 0 where
  pub leased : IsLeasedRead c ticket ask
  pub key : Rattle.etcd_types.specs.Keys.is_empty ask.range.key ≡ false
  pub new : IsUntouched ask.range.key c
  pub live : (moment c now).session ≡ Some n
  pub up : (moment c now).created ≡ true

abbrev pub NewReadsWait : Type 0
NewReadsWait =
    (c : Core) (now ticket word : ℕ) (ask : RangeAsk) (n : ℕ) → is_worn c ≡ false → IsNewRead (clock_work now c) now ticket ask n
    → IsAwaited ticket ask.range.key now n (stepped c (event.Ask ticket (request.Range ask) word) now).core

abbrev pub AwaitedReadsWait : Type 0
AwaitedReadsWait =
    (c : Core) (ticket : ℕ) (k : List ℕ) (since n : ℕ) (e : CoreEvent) (now : ℕ) → CoreOk c → OwnersFit c → Leaves ticket n e (stepped c e now).outcome → IsAwaited ticket k since n c
    → IsAwaited ticket k since n (stepped c e now).core

-- no ticket of a request is 0
abbrev pub AwaitedReadsAcquire : Type 0
AwaitedReadsAcquire =
    (c : Core) (ticket : ℕ) (k : List ℕ) (since n now : ℕ) (q : Request) → ticket ≢ 0 → CoreOk c → OwnersFit c → IsAwaited ticket k since n c → seat_is n (clock_work now c).seat ≡ true
    → Calls (stepped c event.Work now).outcome ticket q → q ≡ request_under c.settings.namespace (request.Txn (acquire c.own.waits.prefix k n))

-- The first call that names the read, whatever came since it was asked.

abbrev pub AllLeave : ℕ → ℕ → Core → List Timed → Type 0
AllLeave ticket n c [] = Unit {0}
AllLeave ticket n c (x ∷ xs) = Leaves ticket n x.event (stepped c x.event x.now).outcome × AllLeave ticket n (after c x) xs

abbrev pub MustAcquire : Type 0
MustAcquire =
    (c : Core) (now ticket word : ℕ) (ask : RangeAsk) (n : ℕ) (xs : List Timed) (then : ℕ) (q : Request) → ticket ≢ 0 → CoreOk c → OwnersFit c → is_worn c ≡ false → IsNewRead (clock_work now c) now ticket ask n
    → let d = (stepped c (event.Ask ticket (request.Range ask) word) now).core in AllHeard d xs → AllLeave ticket n d xs → seat_is n (clock_work then (ran d xs)).seat ≡ true → Calls (stepped (ran d xs) event.Work then).outcome ticket q
    → q ≡ request_under c.settings.namespace (request.Txn (acquire c.own.waits.prefix ask.range.key n))
