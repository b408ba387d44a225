-- Clocks and sessions: a session is the proxy's own from its grant's answer to its deadline, and is live by the proxy's clock.
use Rattle.std.specs.Prelude.{◌≡◌, ◌≢◌, ℕ, ◌+◌, ◌*◌, ◌≤◌, max, true, false, List}
use Rattle.proxy_model.specs.RequestRefusals.{is_session}
use Rattle.cache_laws.specs.Moves.View.{Held, Writing, no_slot, no_term, View, live, put}
use Rattle.cache_laws.specs.Moves.Invariant.{Inv}
use Rattle.cache_laws.specs.Moves.Sends.{put_row}

-- a proxy's clock goes on; its entries may outlive its session until its next step
abbrev pub ClocksKeep : Type 0
ClocksKeep = (holder : ℕ → ℕ) (v : View) (p now : ℕ) → v.clocks p ≤ now → Inv holder v → Inv holder (record v { clocks = put v.clocks p now })

-- a proxy without a session draws a number that nobody drew before, and a grant of it is due
pub record Draws (holder : ℕ → ℕ) (v : View) (p number : ℕ) : Type 0 where
  pub by : holder number ≡ p
  pub reserved : is_session number ≡ true
  pub new : v.drawn number ≡ false

abbrev pub session_drawn : View → ℕ → ℕ → View
session_drawn v p number =
    record v { drawn = put v.drawn number true; terms = put v.terms p (record { number = 0; deadline = 0; asked = number }) }

abbrev pub DrawsKeep : Type 0
DrawsKeep = (holder : ℕ → ℕ) (v : View) (p number : ℕ) → Draws holder v p number → Inv holder v → Inv holder (session_drawn v p number)

-- its grant is answered: the deadline is at most the time to live after the sending, and no entry stands from an earlier session
pub record Begins (v : View) (p i deadline : ℕ) : Type 0 where
  pub asked : (v.terms p).asked ≢ 0
  pub names : (v.calls i).session ≡ (v.terms p).asked
  pub timed : (v.outcomes i).ttl ≢ 0
  pub within : deadline ≤ (v.calls i).at + 1000 * (v.outcomes i).ttl
  pub not_held : (k : List ℕ) → (v.slots p k).phase ≢ Held
  pub not_writing : (k : List ℕ) → (v.slots p k).phase ≢ Writing

abbrev pub session_begun : View → ℕ → ℕ → View
session_begun v p deadline = record v { terms = put v.terms p (record { number = (v.terms p).asked; deadline = deadline; asked = 0 }) }

abbrev pub BeginsKeep : Type 0
BeginsKeep = (holder : ℕ → ℕ) (v : View) (p i deadline : ℕ) → Begins v p i deadline → Inv holder v → Inv holder (session_begun v p deadline)

-- a keepalive of the live session is answered with a time to live above 0
pub record Renews (v : View) (p i deadline : ℕ) : Type 0 where
  pub stands : live v p ≢ 0
  pub names : (v.calls i).session ≡ (v.terms p).number
  pub timed : (v.outcomes i).ttl ≢ 0
  pub within : deadline ≤ max (v.terms p).deadline ((v.calls i).at + 1000 * (v.outcomes i).ttl)

abbrev pub session_renewed : View → ℕ → ℕ → View
session_renewed v p deadline = record v { terms = put v.terms p (record (v.terms p) { deadline = deadline }) }

abbrev pub RenewsKeep : Type 0
RenewsKeep = (holder : ℕ → ℕ) (v : View) (p i deadline : ℕ) → Renews v p i deadline → Inv holder v → Inv holder (session_renewed v p deadline)

-- a session ends, whatever its end is, or its grant was lost or refused; its entries are given up or forgotten by moves of their own
abbrev pub session_ended : View → ℕ → View
session_ended v p = record v { terms = put v.terms p no_term }

abbrev pub SessionEndsKeep : Type 0
SessionEndsKeep = (holder : ℕ → ℕ) (v : View) (p : ℕ) → Inv holder v → Inv holder (session_ended v p)

-- a proxy starts anew, and knows nothing; what it sent goes on
abbrev pub restarted : View → ℕ → View
restarted v p = record v { terms = put v.terms p no_term; slots = put_row v.slots p (λ k. no_slot) }

abbrev pub RestartsKeep : Type 0
RestartsKeep = (holder : ℕ → ℕ) (v : View) (p : ℕ) → Inv holder v → Inv holder (restarted v p)
