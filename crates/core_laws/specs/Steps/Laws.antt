-- What follows from what holds of one proxy, and what a plain read comes to at its own step.
use Rattle.std.specs.Prelude.{◌≡◌, ℕ, true, false, None, Some}
use Rattle.std.specs.Option.{option_to_list}
use Rattle.etcd_types.specs.declared.answer.Answer.TheVariants.{Done}
use Rattle.etcd_types.specs.declared.operation.RangeAsk.{RangeAsk}
use Rattle.etcd_types.specs.declared.request.Request.TheVariants as request
use Rattle.proxy_model.specs.declared.lease.Entry.{Entry}
use Rattle.proxy_model.specs.declared.lease.Phase.TheVariants.{Held}
use Rattle.proxy_model.specs.Keyed.{at}
use Rattle.proxy_model.specs.Snapshot.{plain_body}
use Rattle.wait_model.specs.declared.sending.Sending.TheVariants as sending
use Rattle.read_model.specs.PlainRead.{acquirable}
use Rattle.core_model.specs.Asking.{on_ask, is_leased_read}
use Rattle.core_model.specs.Fits.{CoreOk}
use Rattle.core_model.specs.Lookups.{is_known, leases, moment}
use Rattle.core_model.specs.Refusals.{refusal_of}
use Rattle.core_model.specs.declared.settings.Settings.{Settings}
use Rattle.core_model.specs.State.{Core, first_core}
use Rattle.core_model.specs.Stepped.{replies}
use Rattle.core_model.specs.WaitsFor.{NoneIsIdle}

abbrev pub NoRequestIsIdle : Type 0
NoRequestIsIdle = (c : Core) → CoreOk c → NoneIsIdle c

-- all that is to hold of a proxy holds at its start
abbrev pub StartFits : Type 0
StartFits = (settings : Settings) → CoreOk (first_core settings)

-- With leasing on, a plain read outside the leasing range, which isn't refused and whose ticket is new.
pub record IsLeasedRead (c : Core) (ticket : ℕ) (ask : RangeAsk) : Type 0 where
  pub unknown : is_known ticket c ≡ false
  pub served : refusal_of c.own.waits.prefix (request.Range ask) ≡ None
  pub leasing : leases c ≡ true
  pub plain : is_leased_read c.own.waits.prefix (request.Range ask) ≡ true

-- of a held key it is answered at its own step, with the entry's record and the cached header, and nothing is sent
abbrev pub HeldReadIsReplied : Type 0
HeldReadIsReplied =
    (c : Core) (now ticket word : ℕ) (ask : RangeAsk) (e : Entry) → IsLeasedRead c ticket ask → at c.own.entries ask.range.key ≡ Some e → e.phase ≡ Held
    → on_ask now ticket (request.Range ask) word c ≡ replies c (Done (record { header = c.header; body = plain_body (option_to_list e.kv) }))

-- of a key that may be acquired it makes an acquire due, at its own step, that names its ticket
abbrev pub AcquirableReadAcquires : Type 0
AcquirableReadAcquires =
    (c : Core) (now ticket word : ℕ) (ask : RangeAsk) (n : ℕ) → IsLeasedRead c ticket ask → at c.own.entries ask.range.key ≡ None → at c.acquires ask.range.key ≡ None
    → acquirable (moment c now) c.own ask.range.key ≡ Some n
    → at (on_ask now ticket (request.Range ask) word c).core.acquires ask.range.key ≡ Some (record { ticket = ticket; session = n; sending = sending.Due c.own.waits.step })
