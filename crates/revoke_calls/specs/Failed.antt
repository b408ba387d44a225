-- A write that failed, part by part.
use Rattle.std.specs.Prelude.{ℕ, false, ◌&&◌, if◌then◌else◌, List, [], map, Option}
use Rattle.proxy_model.specs.declared.lease.Entry.{Entry}
use Rattle.proxy_model.specs.declared.ownership.Owner.{Owner}
use Rattle.proxy_model.specs.Keyed.{Keyed}
use Rattle.wait_model.specs.declared.found.Found.{Found}
use Rattle.wait_model.specs.declared.sending.Sending.TheVariants as sending
use Rattle.wait_model.specs.declared.write.Write.{Write}
use Rattle.wait_model.specs.declared.write.WriteStage.{WriteStage}
use Rattle.wait_model.specs.declared.write.WriteStage.TheVariants.{Sends, Finds}
use Rattle.wait_model.specs.Covers.{is_single}
use Rattle.wait_model.specs.Edits.{without}
use Rattle.wait_model.specs.ForeignOwnership.{by_key, found_of, others, owned_left}
use Rattle.wait_model.specs.GuardedAnswers.{owns_at, other_owners, kept_entries}
use Rattle.wait_model.specs.Stages.{is_owner}

abbrev pub found_owners : Write → List Owner → Keyed Entry → Keyed Owner
found_owners w os es = by_key [] (other_owners w es os)

abbrev pub failed_found : Option ℕ → ℕ → Write → List Owner → Keyed Entry → List Found
failed_found session step w os es = map (found_of step) (others session (kept_entries w os es) (found_owners w os es))

abbrev pub found_entries : Option ℕ → Write → List Owner → Keyed Entry → Keyed Entry
found_entries session w os es = owned_left session (found_owners w os es) (kept_entries w os es)

abbrev pub failed_stage : Option ℕ → ℕ → Write → List Owner → Keyed Entry → WriteStage
failed_stage session step w os es =
    if is_owner w.stage && is_single w.request then Sends false (sending.Due step) else Finds (failed_found session step w os es)

abbrev pub failed_entries : Option ℕ → Write → List Owner → Keyed Entry → Keyed Entry
failed_entries session w os es =
    if is_owner w.stage && is_single w.request then without (owns_at w es) es else found_entries session w os es
