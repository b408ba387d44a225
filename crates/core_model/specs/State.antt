-- The state of one proxy, as plain lists and what is kept by key. What is due or out stands at the thing that it is about.
use Rattle.std.specs.Prelude.{◌≡◌, ℕ, List, [], Option, None}
use Rattle.etcd_types.specs.declared.record.Header.{Header}
use Rattle.proxy_model.specs.Keyed.{Keyed}
use Rattle.proxy_model.specs.Members.{Members, first_members}
use Rattle.proxy_model.specs.Session.{Session}
use Rattle.proxy_model.specs.Upstream.{Upstream}
use Rattle.wait_model.specs.declared.sending.Sending.{Sending}
use Rattle.wait_model.specs.State.{Ownership, owned, first_waits}
use Rattle.read_model.specs.declared.acquire.Acquire.{Acquire}
use Rattle.read_model.specs.declared.asked.Asked.{Asked}
use Rattle.watch_model.specs.State.{Broadcasts, first_broadcasts}
use Rattle.core_model.specs.declared.out_call.OutCall.{OutCall}
use Rattle.core_model.specs.declared.settings.Settings.{Settings}

-- The session; there is none before the first tick, and after its end.
pub record Seat : Type 0 where
  pub session : Session
  -- its grant where it doesn't stand yet, or else its keepalive, that is due or out
  pub call : Option Sending

-- The leasing stream.
pub record Opening : Type 0 where
  pub number : ℕ
  -- since when its opening is due; nothing once it was sent
  pub due : Option ℕ
  pub stream : Upstream

pub record Core : Type 0 where
  pub settings : Settings
  pub members : Members
  -- the one of the highest revision that was delivered, all zeros before the first
  pub header : Header
  pub seat : Option Seat
  pub leasing : Option Opening
  -- the lease table and the writes
  pub own : Ownership
  -- the acquires, by key
  pub acquires : Keyed Acquire
  -- in order of asking: the unanswered requests, and those whose reply wasn't taken
  pub asks : List Asked
  -- the calls that are out, the last one sent last
  pub out : List OutCall
  -- how many calls were sent
  pub calls : ℕ
  -- how many steps were made that gave an outcome
  pub steps : ℕ
  -- the client streams and watches, and how many stream numbers were given
  pub watches : Broadcasts

abbrev pub no_header : Header
no_header = record { cluster = 0; member = 0; revision = 0; term = 0 }

abbrev pub first_core : Settings → Core
first_core settings =
    record {
      settings = settings;
      members = first_members settings.members;
      header = no_header;
      seat = None;
      leasing = None;
      own = owned [] (first_waits settings.leasing);
      acquires = [];
      asks = [];
      out = [];
      calls = 0;
      steps = 0;
      watches = first_broadcasts;
    }

-- nothing is owned, asked, due or out, and nothing was counted
pub record IsNothing (c : Core) : Type 0 where
  pub entries : c.own.entries ≡ []
  pub writes : c.own.waits.writes ≡ []
  pub seat : c.seat ≡ None
  pub asks : c.asks ≡ []
  pub out : c.out ≡ []
  pub calls : c.calls ≡ 0
  pub steps : c.steps ≡ 0
  pub watches : c.watches ≡ first_broadcasts

abbrev pub BeginsWithNothing : Type 0
BeginsWithNothing = (settings : Settings) → IsNothing (first_core settings)
