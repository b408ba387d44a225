-- The first due closing or opening: by the step since when it is due, closings before openings, by number.
use Rattle.std.specs.Prelude.{Bool, true, false, nat_lt, nat_le, if◌then◌else◌, List, [], ◌∷◌, Option, None, Some}
use Rattle.watch_model.specs.declared.stream.StreamPhase.{StreamPhase}
use Rattle.watch_model.specs.declared.stream.StreamPhase.TheVariants as phase
use Rattle.watch_model.specs.declared.stream.StreamJob.{StreamJob}
use Rattle.watch_model.specs.declared.stream.StreamJob.TheVariants as job
use Rattle.watch_model.specs.State.{Stream, Broadcasts}
use Rattle.watch_model.specs.Lookups.{with_stream, without_stream}

-- what is due in this phase comes before what is due in that one, where the numbers don't tell
abbrev pub is_before : StreamPhase → StreamPhase → Bool
is_before (phase.Closing s) (phase.Closing t) = nat_lt s t
is_before (phase.Closing s) (phase.Due t) = nat_le s t
is_before (phase.Closing s) phase.Begun = true
is_before (phase.Due s) (phase.Due t) = nat_lt s t
is_before (phase.Due s) (phase.Closing t) = nat_lt s t
is_before (phase.Due s) phase.Begun = true
is_before phase.Begun p = false

abbrev pub earlier_of : Stream → Option Stream → Option Stream
earlier_of s None = Some s
earlier_of s (Some t) = if is_before s.phase t.phase then Some s else Some t

-- the first of those before it, or this one
abbrev pub earlier : Option Stream → Stream → StreamPhase → Option Stream
earlier o s phase.Begun = o
earlier o s (phase.Due since) = earlier_of s o
earlier o s (phase.Closing since) = earlier_of s o

abbrev pub first_from : Option Stream → List Stream → Option Stream
first_from o [] = o
first_from o (s ∷ ss) = first_from (earlier o s s.phase) ss

abbrev pub first_due : List Stream → Option Stream
first_due ss = first_from None ss

abbrev pub begun : Stream → Stream
begun s = record s { phase = phase.Begun }

abbrev pub sent : Broadcasts → Stream → StreamPhase → Broadcasts × Option StreamJob
sent b s (phase.Closing since) = (record b { streams = without_stream s.number b.streams }, Some (job.Close s.number))
sent b s (phase.Due since) = (record b { streams = with_stream s.number begun b.streams }, Some (job.Open s.number s.stream.range s.stream.next))
sent b s phase.Begun = (b, None)

abbrev pub next_job : Broadcasts → Option Stream → Broadcasts × Option StreamJob
next_job b None = (b, None)
next_job b (Some s) = sent b s s.phase
