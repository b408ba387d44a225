-- How an audit ends that explains: as one that doesn't, but for the text behind a fault.
use Rattle.std.proofs.Common.{◌≡◌, ℕ, List, [], ◌++◌, Ok, Err, sym, ◌∙◌, subst, append-nil}
use Rattle.std.specs.Prelude.{Option}
use Rattle.audit_model.specs.declared.ending.AuditEnding.TheVariants as ending
use Rattle.audit_model.specs.declared.fault.AuditRefusal.{AuditRefusal}
use Rattle.audit_model.specs.declared.summary.Summary.{Summary}
use Rattle.audit_input.specs.Audits.{Audits}
use Rattle.audit_input.specs.declared.stop.AuditStop.TheVariants as stop
use Rattle.etcd_proxy.specs.Audit.{AuditEnds, Outcome, Says, refused_status, refused_text}
use Rattle.etcd_proxy.specs.Explained.{AuditExplains, BeginsWith, SaysMore}
use Rattle.etcd_proxy.specs.Run.{Tells}
use Rattle.etcd_proxy.proofs.AuditEndings.{some_status}

module _ (left left' written written' : Option (List ℕ)) (faults faults' : ℕ) (told told' : Option (List ℕ)) (told_faults told_faults' status : ℕ) where
  says_so : (outcome : Outcome) → Says written written' faults faults' told told' told_faults told_faults' status outcome
      → SaysMore written written' faults faults' told told' told_faults told_faults' status outcome
  says_so (Ok (ending.Open, counts)) s = s
  says_so (Ok (ending.Refused number why, counts)) s = record {
    more = [];
    refuses = record { status_is = s.status_is; nothing = s.nothing; tells = subst (Tells told told' told_faults told_faults') (sym (append-nil (refused_text number why))) s.tells };
  }
  says_so (Ok (ending.PastLimit, counts)) s = s
  says_so (Err stop.ReadFault) s = s
  says_so (Err stop.NoMemory) s = s

  -- what says nothing more
  pub ends_so : AuditEnds left left' written written' faults faults' told told' told_faults told_faults' status
      → AuditExplains left left' written written' faults faults' told told' told_faults told_faults' status
  ends_so a = record { outcome = a.outcome; leaves = a.leaves; says = says_so a.outcome a.says; kept = a.kept }

  pub explains_refused : (number : ℕ) (why : AuditRefusal) (counts : Summary) (text : List ℕ) → Audits left left' (ending.Refused number why) counts → status ≡ refused_status why → written' ≡ written
      → BeginsWith text (refused_text number why) → Tells told told' told_faults told_faults' text → AuditExplains left left' written written' faults faults' told told' told_faults told_faults' status
  explains_refused number why counts text a s n b t = record {
    outcome = Ok (ending.Refused number why, counts);
    leaves = a;
    says = record { more = b.more; refuses = record { status_is = s; nothing = n; tells = subst (Tells told told' told_faults told_faults') b.parts t } };
    kept = λ e. absurd (some_status why (sym s ∙ e));
  }
