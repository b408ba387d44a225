-- What is out at a proxy stays for what it is out for, at its own number; and what its rows read of the numbers of calls.
use Rattle.std.specs.Prelude.{◌≡◌, ◌≢◌, ℕ, ◌<◌, List}
use Rattle.std.specs.List.{Contains}
use Rattle.core_model.specs.declared.event.CoreEvent.{CoreEvent}
use Rattle.core_model.specs.declared.out_call.OutCall.{OutCall}
use Rattle.core_model.specs.Fits.{CoreOk}
use Rattle.core_model.specs.Sending.{next_call}
use Rattle.core_model.specs.State.{Core}
use Rattle.core_model.specs.Step.{stepped}
use Rattle.core_laws.specs.Steps.Kept.{IsHeard}
use Rattle.call_laws.specs.Forms.{Form}
use Rattle.row_laws.specs.Rows.{row_of}
use Rattle.core_moves.specs.Answers.{form_of_job}
use Rattle.core_moves.specs.Sees.{ground_in}
use Rattle.owner_fits.specs.Laws.{OwnersFit}

-- A call that is out behind a step, and isn't the one that the step sends, was out before with the same job, member and moment; and the form
-- that suited what it is out for suits it still.
abbrev pub OutStays : Type 0
OutStays =
    (c : Core) (e : CoreEvent) (now : ℕ) (o : OutCall) (form : Form) → IsHeard c e → CoreOk c → OwnersFit c → Contains (stepped c e now).core.out o → o.call ≢ next_call c
    → Contains c.out o × (form_of_job c o.call form o.job → form_of_job (stepped c e now).core o.call form o.job)

-- What the view has of a proxy's keys reads the numbers of calls that were sent alone, so the number of its next call may be given ahead.
abbrev pub RowsReadSent : Type 0
RowsReadSent =
    (c : Core) (own own' : ℕ → ℕ) → CoreOk c → ((n : ℕ) → n < next_call c → own' n ≡ own n) → (k : List ℕ) → row_of own' (ground_in c) k ≡ row_of own (ground_in c) k
