-- A watch that is left by its client: it is gone with its queue, and its stream is closed where it was the last member.
use Rattle.std.specs.Prelude.{ℕ, Option, None, Some}
use Rattle.watch_model.specs.State.{Watch, Broadcasts}
use Rattle.watch_model.specs.Lookups.{without_watch}
use Rattle.watch_model.specs.Splitting.{left_place}

abbrev pub removed : Broadcasts → ℕ → Option Watch → Broadcasts
removed b ticket None = b
removed b ticket (Some w) = left_place w.place (record b { watches = without_watch ticket b.watches })
