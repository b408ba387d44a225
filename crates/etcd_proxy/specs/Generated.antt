-- What `replay --generate` tells of a generated script: the counts of its transcript, and the newest revision of its store.
use Rattle.std.specs.Prelude.{◌≡◌, ℕ, ◌++◌, Bool, true, false, List, Option, Some, Ok, Err, codes}
use Rattle.std.specs.Fmt.{decimal}
use Rattle.world_model.specs.Generated.{summary}
use Rattle.world_model.specs.State.{World}
use Rattle.world_model.specs.Transcript.{transcript, world_behind}
use Rattle.replay_generated.specs.Made.{script}
use Rattle.replay_generated.specs.declared.summary.Summary.{Summary}
use Rattle.replay_input.specs.declared.stop.Stop.TheVariants as stop
use Rattle.etcd_proxy.specs.Run.{Prints, Tells, text_of_status}

-- four lines, a count each
abbrev pub summary_text : Summary → List ℕ
summary_text s =
    codes "asked " ++ decimal s.asked
    ++ codes "\nreplied " ++ decimal s.replied
    ++ codes "\nunsent " ++ decimal s.unsent
    ++ codes "\nrevision " ++ decimal s.revision
    ++ codes "\n"

-- these are the counts of the script's transcript, and the newest revision of the store that it shows; all its lines are taken
pub record IsSummaryOf (number : ℕ) (s : Summary) : Type 0 where
  pub asked : s.asked ≡ (summary (transcript (script number).lines)).asked
  pub replied : s.replied ≡ (summary (transcript (script number).lines)).replied
  pub unsent : s.unsent ≡ (summary (transcript (script number).lines)).unsent
  pub revision : s.revision ≡ (summary (transcript (script number).lines)).revision
  pub world : World
  pub taken : world_behind (script number).lines ≡ Ok (Some world)

-- The summary is written, as texts are; or memory was wanting, which is told with status 5, and nothing is written.
pub record Generates (written written' : Option (List ℕ)) (faults faults' : ℕ) (told told' : Option (List ℕ)) (told_faults told_faults' : ℕ) (number status : ℕ) : Type 0 where
  pub made : Bool
  pub summary : Summary
  pub tells : made ≡ true → IsSummaryOf number summary
  pub prints : made ≡ true → Prints written written' faults faults' told told' told_faults told_faults' (summary_text summary) status
  pub wants : made ≡ false → (status ≡ 5) × (written' ≡ written) × Tells told told' told_faults told_faults' (text_of_status (Err stop.NoMemory))
