-- Of one proxy whose parts agree and fit, no request and no watch waits for nothing.
use Rattle.std.specs.Prelude.{◌≡◌, ℕ, true, List, Some}
use Rattle.proxy_model.specs.declared.lease.Entry.{Entry}
use Rattle.proxy_model.specs.declared.lease.Phase.TheVariants.{Leaving}
use Rattle.proxy_model.specs.Keyed.{at}
use Rattle.core_model.specs.Fits.{CoreOk}
use Rattle.core_model.specs.State.{Core}
use Rattle.core_fits.specs.Fits.{CoreFits}
use Rattle.core_laws.specs.Watches.Laws.{AreWaiting}
use Rattle.waiting_laws.specs.Calls.{is_rescind_out}
use Rattle.waiting_laws.specs.Waiting.{EachRequestWaits, EachWatchWaits}

-- each rescind that was sent and is not answered or lost is out
abbrev pub RescindsAreOut : Core → Type 0
RescindsAreOut c = (k : List ℕ) (e : Entry) → at c.own.entries k ≡ Some e → e.phase ≡ Leaving true → is_rescind_out k e.create c ≡ true

abbrev pub RequestsWait : Type 0
RequestsWait = (c : Core) → CoreOk c → CoreFits c → RescindsAreOut c → EachRequestWaits c

abbrev pub WatchesWait : Type 0
WatchesWait = (c : Core) → AreWaiting c.watches → EachWatchWaits c
