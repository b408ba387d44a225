-- How far the waiting writes go on: in one pass, in order of asking, each that shares no key with an earlier one has its turn.
use Rattle.std.specs.Prelude.{ℕ, Bool, not, ◌&&◌, if◌then◌else◌, List, [], ◌∷◌}
use Rattle.std.specs.List.{list_any}
use Rattle.proxy_model.specs.declared.lease.Entry.{Entry}
use Rattle.proxy_model.specs.Keyed.{Keyed}
use Rattle.wait_model.specs.declared.write.Write.{Write}
use Rattle.wait_model.specs.State.{Ownership}
use Rattle.wait_model.specs.Covers.{shares, is_by_keys}
use Rattle.wait_model.specs.SeveralKeys.{by_ranges}
use Rattle.wait_model.specs.SingleKeys.{Turn, by_keys}
use Rattle.wait_model.specs.Stages.{is_waiting, staged, stage_on}

abbrev pub goes : ℕ → Keyed Entry → Keyed Bool → Write → Turn
goes step es ss w = if is_by_keys w then by_keys step es ss w else by_ranges step es ss w

-- the turn of a write that earlier ones do or don't hold back
abbrev pub turn_if : ℕ → Bool → Keyed Entry → Keyed Bool → Write → Turn
turn_if step blocked es ss w =
    let v = staged w (stage_on w.stage) in
    if is_waiting v.stage && not blocked then goes step es ss v else record { entries = es; spoiled = ss; write = v }

abbrev pub turn : ℕ → List Write → Keyed Entry → Keyed Bool → Write → Turn
turn step earlier es ss w = turn_if step (list_any (shares w) earlier) es ss w

pub record Pass : Type 0 where
  pub entries : Keyed Entry
  pub spoiled : Keyed Bool
  pub writes : List Write

-- the earlier ones have the last one first
unfoldable pub passed : ℕ → List Write → Keyed Entry → Keyed Bool → List Write → Pass
passed step earlier es ss [] = record { entries = es; spoiled = ss; writes = [] }
passed step earlier es ss (w ∷ ws) =
    let t = turn step earlier es ss w in
    let p = passed step (t.write ∷ earlier) t.entries t.spoiled ws in
    record { entries = p.entries; spoiled = p.spoiled; writes = t.write ∷ p.writes }

abbrev pub after_pass : Ownership → Pass → Ownership
after_pass own p = record { entries = p.entries; waits = record own.waits { writes = p.writes; spoiled = p.spoiled } }

abbrev pub proceeded : Ownership → Ownership
proceeded own = after_pass own (passed own.waits.step [] own.entries own.waits.spoiled own.waits.writes)
