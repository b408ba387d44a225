-- Marks that end with the number of the request's row, so that of two alike the one that was asked first comes first: by the lease
-- whose next call a keepalive waits for, and by the time of asking of those without a reply.
use Rattle.std.specs.Prelude.{ℕ, Bool, ◌&&◌, ◌==◌, if◌then◌else◌, List, [], ◌∷◌, Some, None}
use Rattle.etcd_types.specs.declared.request.Request.{Request}
use Rattle.etcd_types.specs.declared.request.Request.TheVariants as request
use Rattle.proxy_model.specs.Keyed.{with_at}
use Rattle.wait_model.specs.declared.sending.Sending.TheVariants as sending
use Rattle.read_model.specs.declared.asked.Asked.{Asked}
use Rattle.read_model.specs.declared.asked.Stage.{Stage}
use Rattle.read_model.specs.declared.asked.Stage.TheVariants as stage
use Rattle.core_model.specs.ClockWork.{is_replied}
use Rattle.ask_tables.specs.declared.tables.Tables.{Tables}
use Rattle.ask_tables.specs.declared.row_marks.RowMarks.{RowMarks}
use Rattle.ask_tables.specs.KeyMarks.{by_key, ticket_mark}
use Rattle.ask_tables.specs.Marks.{mark_of}

-- in a group that is due, waiting for the next one, or neither
abbrev pub group_kind : Stage → ℕ
group_kind (stage.Grouped None) = 1
group_kind (stage.Grouped (Some (sending.Due since))) = 0
group_kind _ = 2

abbrev pub group_key : Request → Stage → ℕ × ℕ
group_key (request.KeepAlive lease) s = (group_kind s, lease)
group_key _ s = (2, 0)

abbrev pub by_group : Asked → ℕ × ℕ
by_group a = group_key a.request a.stage

abbrev pub by_time : Asked → ℕ × ℕ
by_time a = if is_replied a.stage then (1, 0) else (0, a.asked)

abbrev pub row_mark : (Asked → ℕ × ℕ) → ℕ → Asked → List ℕ
row_mark f number a = (f a).0 ∷ (f a).1 ∷ number ∷ []

-- what is read off it are these two
abbrev pub has_key : (Asked → ℕ × ℕ) → ℕ → ℕ → Asked → Bool
has_key f kind key a = ((f a).0 == kind) && ((f a).1 == key)

-- The marks of a row together.

abbrev pub marks_of : ℕ → Asked → RowMarks
marks_of number a = record { wait = mark_of a; key = ticket_mark by_key a; group = row_mark by_group number a; time = row_mark by_time number a }

abbrev pub put_at : RowMarks → ℕ → Tables → Tables
put_at m number t = record {
  waits = with_at t.waits m.wait (Some number);
  keys = with_at t.keys m.key (Some number);
  groups = with_at t.groups m.group (Some number);
  times = with_at t.times m.time (Some number);
}

abbrev pub taken_at : RowMarks → Tables → Tables
taken_at m t = record {
  waits = with_at t.waits m.wait None;
  keys = with_at t.keys m.key None;
  groups = with_at t.groups m.group None;
  times = with_at t.times m.time None;
}

-- the number of a row, by its marks, where its request is another one now
abbrev pub moved : Asked → Asked → ℕ → Tables → Tables
moved old new number t = put_at (marks_of number new) number (taken_at (marks_of number old) t)
