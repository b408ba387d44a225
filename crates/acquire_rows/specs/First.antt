-- The due acquire that is sent first.
use Rattle.std.specs.Prelude.{◌≡◌, ℕ, Bool, true, not, ◌||◌, List, Option, None, Some}
use Rattle.std.specs.List.{list_all}
use Rattle.etcd_types.specs.Keys.{up_to}
use Rattle.proxy_model.specs.Keyed.{Keyed, at}
use Rattle.read_model.specs.declared.acquire.Acquire.{Acquire}
use Rattle.read_model.specs.SessionEnd.{is_due}
use Rattle.acquire_rows.specs.declared.acquires.DueAcquire.{DueAcquire}
use Rattle.acquire_rows.specs.Marks.{mark_of}

abbrev pub row_seen : DueAcquire → List ℕ × Acquire
row_seen d = (d.key.now, d.acquire.now)

abbrev pub none_due : Keyed Acquire → Bool
none_due rows = list_all (λ e. not (is_due e.1.sending)) rows

pub record IsFirstDue (r : List ℕ × Acquire) (rows : Keyed Acquire) : Type 0 where
  pub there : at rows r.0 ≡ Some r.1
  pub due : is_due r.1.sending ≡ true
  -- no other that is due stands before it
  pub first : list_all (λ e. not (is_due e.1.sending) || up_to (mark_of r) (mark_of e)) rows ≡ true

abbrev pub IsFirstDueOf : Option (List ℕ × Acquire) → Keyed Acquire → Type 0
IsFirstDueOf None rows = none_due rows ≡ true
IsFirstDueOf (Some r) rows = IsFirstDue r rows
