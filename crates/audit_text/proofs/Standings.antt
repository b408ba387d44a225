-- What the audit stands for behind one item more, or behind a fault.
use Rattle.std.proofs.Common.{◌≡◌, true, List, [], ◌∷◌, ◌++◌, Option, None, Some, sym, ◌∙◌, subst}
use Rattle.script_text.specs.declared.item.Item.{Item}
use Rattle.audit_clients.specs.declared.given.Given.{Given}
use Rattle.audit_clients.specs.Given.{Gave}
use Rattle.audit_model.specs.Broken.{broken}
use Rattle.audit_model.specs.Order.{in_order}
use Rattle.audit_model.specs.Summaries.{summary}
use Rattle.audit_model.specs.Takes.{takes_so}
use Rattle.audit_model.specs.declared.fault.AuditFault.{AuditFault}
use Rattle.audit_model.specs.declared.fault.AuditFault.TheVariants as fault
use Rattle.audit_text.specs.declared.audit.Audit.{Audit}
use Rattle.audit_text.specs.declared.made.Made.{Made}
use Rattle.audit_text.specs.Standing.{IsFaultOf, MadeBy, Stands}
use Rattle.audit_text.proofs.Kept.{keeps_rules}

-- what is kept of the item, with what was made of it before
pub record Keeps (mid new : Audit) (i : Item) : Type 0 where
  pub made : new.made ≡ mid.made
  pub fault : new.fault ≡ mid.fault
  pub gave : (items : List Item) → in_order items i ≡ true → takes_so items i ≡ true → Gave mid.given items → Gave new.given (items ++ i ∷ []) × (new.report ≡ summary (items ++ i ∷ []))

pub stands_next : (old mid new : Audit) (before : List Item) (i : Item) → Stands old before → mid.given ≡ old.given → mid.fault ≡ old.fault
    → broken before i ≡ None → MadeBy mid.made (before ++ i ∷ []) → Keeps mid new i → Stands new (before ++ i ∷ [])
stands_next old mid new before i st given whole kept made k =
    let rules = keeps_rules before i kept in
    let now = k.gave before rules.0 rules.1 (subst (λ (g : Given). Gave g before) (sym given) st.gave) in
    record {
      made = subst (λ (m : Option Made). MadeBy m (before ++ i ∷ [])) (sym k.made) made;
      gave = now.0;
      whole = k.fault ∙ whole ∙ st.whole;
      report = now.1;
    }

pub out_of_memory : (f : AuditFault) (found : Option AuditFault) → f ≡ fault.NoMemory → IsFaultOf f found
out_of_memory f found e = subst (λ (g : AuditFault). IsFaultOf g found) (sym e) tt

pub not_whole : (old : Audit) (before : List Item) (f : AuditFault) → Stands old before → old.fault ≡ Some f → ⊥
not_whole old before f st e =
    let both : ◌≡◌ {A = Option AuditFault} None (Some f) = sym st.whole ∙ e in
    cc
