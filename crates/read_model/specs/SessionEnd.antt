-- The end of a session, for acquires and reads: a due acquire falls, and what waited for it or for an entry becomes a call.
use Rattle.std.specs.Prelude.{ℕ, Bool, true, false, List, Option, None, Some}
use Rattle.proxy_model.specs.Keyed.{at}
use Rattle.wait_model.specs.declared.sending.Sending.{Sending}
use Rattle.wait_model.specs.declared.sending.Sending.TheVariants as sending
use Rattle.wait_model.specs.Edits.{without}
use Rattle.wait_model.specs.SessionEnd.{session_ended}
use Rattle.read_model.specs.declared.acquire.Acquire.{Acquire}
use Rattle.read_model.specs.Release.{released}
use Rattle.read_model.specs.State.{Reads, Moment, Ground, ground_of, on}

abbrev pub is_due : Sending → Bool
is_due (sending.Due since) = true
is_due (sending.Out call) = false

abbrev pub is_due_acquire : Option Acquire → Bool
is_due_acquire None = false
is_due_acquire (Some c) = is_due c.sending

-- without the acquires of these keys
abbrev pub dropped : (List ℕ → Bool) → Ground → Ground
dropped p g =
    record {
      own = record g.own { waits = record g.own.waits { spoiled = without p g.own.waits.spoiled } };
      acquires = without p g.acquires;
    }

abbrev pub over : Ground → Ground
over g = dropped (λ k. is_due_acquire (at g.acquires k)) (record g { own = session_ended g.own })

abbrev pub session_over : Moment → Reads → Reads
session_over m r = released false m (on (over (ground_of r)) r.asks)
