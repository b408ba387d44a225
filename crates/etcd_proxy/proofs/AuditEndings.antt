-- How an audit ends, by what was read and what is told.
use Rattle.std.proofs.Common.{◌≡◌, ◌≢◌, ℕ, List, Ok, Err, refl, sym, ◌∙◌, arith}
use Rattle.std.specs.Prelude.{Option, codes}
use Rattle.audit_model.specs.Audited.{audited}
use Rattle.audit_model.specs.Texts.{summary_text}
use Rattle.audit_model.specs.declared.ending.AuditEnding.{AuditEnding}
use Rattle.audit_model.specs.declared.ending.AuditEnding.TheVariants as ending
use Rattle.audit_model.specs.declared.fault.AuditRefusal.{AuditRefusal}
use Rattle.audit_model.specs.declared.fault.AuditRefusal.TheVariants as refusal
use Rattle.audit_model.specs.declared.summary.Summary.{Summary}
use Rattle.audit_input.specs.Audits.{Audits, BreaksOff, Interrupts, ReadsAll}
use Rattle.audit_input.specs.declared.stop.AuditStop.TheVariants as stop
use Rattle.audit_input.proofs.ItemTexts.{audited_keeps}
use Rattle.audit_laws.proofs.Truths.{audited_is_true}
use Rattle.etcd_proxy.specs.Audit.{AuditEnds, KeepsTheRules, Refuses, refused_status, refused_text}
use Rattle.etcd_proxy.specs.Run.{Prints, Tells}

keeps_so : (left left' written written' : Option (List ℕ)) (counts : Summary) → ReadsAll left left' counts → KeepsTheRules left left' written written'
keeps_so left left' written written' counts r =
    let k = audited_keeps r.read r.ended in
    record {
      read = r.read;
      consumed = r.consumed;
      at_end = r.at_end;
      items = (audited r.read).items;
      texts = k.texts;
      meets = k.meets;
      true_so = audited_is_true (audited r.read).items k.meets;
    }

pub some_status : (why : AuditRefusal) → refused_status why ≢ 0
some_status (refusal.BadLine place) e = omega (arith, e)
some_status (refusal.Breaks f) e = omega (arith, e)

module _ (left left' written written' : Option (List ℕ)) (faults faults' : ℕ) (told told' : Option (List ℕ)) (told_faults told_faults' status : ℕ) where
  pub ends_open : (counts : Summary) → Audits left left' ending.Open counts → Prints written written' faults faults' told told' told_faults told_faults' (summary_text counts) status
      → AuditEnds left left' written written' faults faults' told told' told_faults told_faults' status
  ends_open counts a p =
      record { outcome = Ok (ending.Open, counts); leaves = a; says = p; kept = λ e. keeps_so left left' written written' counts a }

  pub ends_refused : (number : ℕ) (why : AuditRefusal) (counts : Summary) → Audits left left' (ending.Refused number why) counts → status ≡ refused_status why → written' ≡ written
      → Tells told told' told_faults told_faults' (refused_text number why) → AuditEnds left left' written written' faults faults' told told' told_faults told_faults' status
  ends_refused number why counts a s n t = record {
    outcome = Ok (ending.Refused number why, counts);
    leaves = a;
    says = record { status_is = s; nothing = n; tells = t };
    kept = λ e. absurd (some_status why (sym s ∙ e));
  }

  pub ends_past : (counts : Summary) → Audits left left' ending.PastLimit counts → status ≡ 6 → written' ≡ written → Tells told told' told_faults told_faults' (codes "limit\n")
      → AuditEnds left left' written written' faults faults' told told' told_faults told_faults' status
  ends_past counts a s n t = record {
    outcome = Ok (ending.PastLimit, counts);
    leaves = a;
    says = record { status_is = s; nothing = n; tells = t };
    kept = λ e. absurd (omega (arith, s, e));
  }

  pub ends_unread : Interrupts left left' → status ≡ 3 → written' ≡ written → Tells told told' told_faults told_faults' (codes "read fault\n")
      → AuditEnds left left' written written' faults faults' told told' told_faults told_faults' status
  ends_unread i s n t = record {
    outcome = Err stop.ReadFault;
    leaves = i;
    says = record { status_is = s; nothing = n; tells = t };
    kept = λ e. absurd (omega (arith, s, e));
  }

  pub ends_wanting : BreaksOff left left' → status ≡ 5 → written' ≡ written → Tells told told' told_faults told_faults' (codes "no memory\n")
      → AuditEnds left left' written written' faults faults' told told' told_faults told_faults' status
  ends_wanting b s n t = record {
    outcome = Err stop.NoMemory;
    leaves = b;
    says = record { status_is = s; nothing = n; tells = t };
    kept = λ e. absurd (omega (arith, s, e));
  }
