-- An item that breaks no rule is in order, and a watch takes what is next for it.
use Rattle.std.proofs.Common.{◌≡◌, Bool, true, false, not, cond, List, Option, None, Some, refl}
use Rattle.script_text.specs.declared.item.Item.{Item}
use Rattle.audit_model.specs.declared.fault.AuditFault.{AuditFault}
use Rattle.audit_model.specs.declared.fault.AuditFault.TheVariants as fault
use Rattle.audit_model.specs.Broken.{breaks_clients, breaks_store, broken, first_of}
use Rattle.audit_model.specs.Order.{about, in_order}
use Rattle.audit_model.specs.Takes.{takes_so}
use Rattle.audit_model.specs.Unsent.{replies_so}

first_none : (f later : Option AuditFault) → first_of f later ≡ None → (f ≡ None) × (later ≡ None)
first_none None later e = (refl, e)
first_none (Some f) later e = absurd (cc)

-- a test that names a fault where it fails
passed : (b : Bool) (f : AuditFault) (later : Option AuditFault) → cond (not b) (Some f) later ≡ None → (b ≡ true) × (later ≡ None)
passed true f later e = (refl, e)
passed false f later e = absurd (cc)

ordered : (before : List Item) (i : Item) → breaks_store before i ≡ None → in_order before i ≡ true
unfolding breaks_store
ordered before i e = (passed (in_order before i) (fault.Order (about i)) _ e).0

taken : (before : List Item) (i : Item) → breaks_clients before i ≡ None → takes_so before i ≡ true
unfolding breaks_clients
taken before i e = (passed (takes_so before i) (fault.Watch (about i)) _ (passed (replies_so before i) (fault.Unsent (about i)) _ e).1).0

pub keeps_rules : (before : List Item) (i : Item) → broken before i ≡ None → (in_order before i ≡ true) × (takes_so before i ≡ true)
keeps_rules before i e =
    let parts = first_none (breaks_store before i) (breaks_clients before i) e in
    (ordered before i parts.0, taken before i parts.1)
