-- Foreign ownership: each ownership key that stood in a write's way is handled by itself. One of this very proxy that it didn't
-- know is given up; the owner of another is asked to give it up, and the write waits until all are gone.
use Rattle.std.specs.Prelude.{ℕ, Bool, true, false, not, ◌&&◌, ◌||◌, if◌then◌else◌, List, [], ◌∷◌, map, filter, Option, Some, is_some}
use Rattle.proxy_model.specs.declared.lease.Entry.{Entry}
use Rattle.proxy_model.specs.declared.ownership.Owner.{Owner}
use Rattle.proxy_model.specs.Keyed.{Keyed, at, with_at}
use Rattle.wait_model.specs.declared.write.Write.{Write}
use Rattle.wait_model.specs.declared.found.Found.{Found}
use Rattle.wait_model.specs.declared.found.Asking.{Asking}
use Rattle.wait_model.specs.declared.found.Asking.TheVariants as asking
use Rattle.wait_model.specs.declared.write.WriteStage.{WriteStage}
use Rattle.wait_model.specs.declared.write.WriteStage.TheVariants.{Waiting, Sends, Finds}
use Rattle.wait_model.specs.State.{Ownership}
use Rattle.wait_model.specs.Phases.{is_session, own_entry}
use Rattle.wait_model.specs.Stages.{staged}
use Rattle.wait_model.specs.Writes.{with_first, is_asked_as}

-- What was found.

-- one found key for each key that the answer shows, in the order of the keys
abbrev pub by_key : Keyed Owner → List Owner → Keyed Owner
by_key found [] = found
by_key found (o ∷ os) = by_key (with_at found o.key (Some o)) os

-- it is under the live session, and there is no entry for it
abbrev pub is_own : Option ℕ → Keyed Entry → List ℕ × Owner → Bool
is_own session es o = is_session session o.1.lease && not (is_some (at es o.0))

abbrev pub owned_left : Option ℕ → Keyed Owner → Keyed Entry → Keyed Entry
owned_left session [] es = es
owned_left session (o ∷ os) es =
    owned_left session os (if is_own session es o then with_at es o.0 (Some (own_entry o.1.create)) else es)

abbrev pub found_of : ℕ → List ℕ × Owner → Found
found_of step o = record { key = o.0; create = o.1.create; gone = false; revoke = asking.Due step }

abbrev pub others : Option ℕ → Keyed Entry → Keyed Owner → Keyed Owner
others session es os = filter (λ o. not (is_own session es o)) os

abbrev pub finding : Option ℕ → (Write → Bool) → Keyed Owner → Ownership → Keyed Entry → Ownership
finding session p os own es =
    record { entries = owned_left session os es; waits = record own.waits { writes = with_first p (Finds (map (found_of own.waits.step) (others session es os))) own.waits.writes } }

-- A revoke call is answered: it succeeded, and the deletion is awaited; or it failed, and that key is gone.

abbrev pub asked_back : ℕ → Bool → Found → Found
asked_back call held f = if is_asked_as call f then record f { gone = f.gone || not held; revoke = asking.Done } else f

abbrev pub stage_asked : ℕ → Bool → WriteStage → WriteStage
stage_asked call held Waiting = Waiting
stage_asked call held (Sends owner s) = Sends owner s
stage_asked call held (Finds found) = Finds (map (asked_back call held) found)

-- An ownership key is deleted.

-- a due revoke call of what is gone is removed; one that is out is awaited
abbrev pub asking_gone : Asking → Asking
asking_gone (asking.Due since) = asking.Done
asking_gone (asking.Out call) = asking.Out call
asking_gone asking.Done = asking.Done

abbrev pub gone_if : Bool → Found → Found
gone_if b f = if b then record f { gone = true; revoke = asking_gone f.revoke } else f

abbrev pub stage_gone : (List ℕ → Bool) → WriteStage → WriteStage
stage_gone p Waiting = Waiting
stage_gone p (Sends owner s) = Sends owner s
stage_gone p (Finds found) = Finds (map (λ f. gone_if (p f.key) f) found)

abbrev pub write_gone : (List ℕ → Bool) → Write → Write
write_gone p w = staged w (stage_gone p w.stage)

-- the found ownership keys of these keys are gone
abbrev pub found_gone : (List ℕ → Bool) → Ownership → Ownership
found_gone p own = record own { waits = record own.waits { writes = map (write_gone p) own.waits.writes } }
