-- What `audit --explain` answers, and what it tells: all is as with `audit`, but that behind the fault of a refused line more is told, for people.
use Rattle.std.specs.Prelude.{◌≡◌, ℕ, ◌++◌, List, Option, Ok, Err, codes}
use Rattle.audit_model.specs.declared.ending.AuditEnding.TheVariants as ending
use Rattle.audit_input.specs.declared.stop.AuditStop.TheVariants as stop
use Rattle.audit_model.specs.Texts.{summary_text}
use Rattle.etcd_proxy.specs.Audit.{KeepsTheRules, Leaves, Outcome, Refuses, refused_status, refused_text}
use Rattle.etcd_proxy.specs.Run.{Prints}

-- nothing is written, with this status, which is told so, and then more
pub record RefusesAndExplains (written written' told told' : Option (List ℕ)) (faults faults' status due : ℕ) (text : List ℕ) : Type 0 where
  pub more : List ℕ
  pub refuses : Refuses written written' told told' faults faults' status due (text ++ more)

-- as an audit does, but that it says more of a refused line
abbrev pub SaysMore : Option (List ℕ) → Option (List ℕ) → ℕ → ℕ → Option (List ℕ) → Option (List ℕ) → ℕ → ℕ → ℕ → Outcome → Type 0
SaysMore written written' faults faults' told told' told_faults told_faults' status (Ok (ending.Open, counts)) =
    Prints written written' faults faults' told told' told_faults told_faults' (summary_text counts) status
SaysMore written written' faults faults' told told' told_faults told_faults' status (Ok (ending.Refused number why, counts)) =
    RefusesAndExplains written written' told told' told_faults told_faults' status (refused_status why) (refused_text number why)
SaysMore written written' faults faults' told told' told_faults told_faults' status (Ok (ending.PastLimit, counts)) =
    Refuses written written' told told' told_faults told_faults' status 6 (codes "limit\n")
SaysMore written written' faults faults' told told' told_faults told_faults' status (Err stop.ReadFault) =
    Refuses written written' told told' told_faults told_faults' status 3 (codes "read fault\n")
SaysMore written written' faults faults' told told' told_faults told_faults' status (Err stop.NoMemory) =
    Refuses written written' told told' told_faults told_faults' status 5 (codes "no memory\n")

-- An audit that explains ended so: its input was taken so far, and this was written and told.
pub record AuditExplains (left left' written written' : Option (List ℕ)) (faults faults' : ℕ) (told told' : Option (List ℕ)) (told_faults told_faults' status : ℕ) : Type 0 where
  pub outcome : Outcome
  pub leaves : Leaves left left' outcome
  pub says : SaysMore written written' faults faults' told told' told_faults told_faults' status outcome
  pub kept : status ≡ 0 → KeepsTheRules left left' written written'

-- a text that begins with the fault's line
pub record BeginsWith (text front : List ℕ) : Type 0 where
  pub more : List ℕ
  pub parts : text ≡ front ++ more
