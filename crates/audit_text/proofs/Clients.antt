-- Which rule on what clients and sessions are given is broken first, by what was tested; and which rule of all.
use Rattle.std.proofs.Common.{◌≡◌, ℕ, Bool, true, not, cond, List, Option, None, Some, refl, sym, ◌∙◌, ap, subst}
use Rattle.etcd_types.specs.declared.answer.Answer.{Answer}
use Rattle.etcd_types.specs.declared.watch.WatchItem.{WatchItem}
use Rattle.script_text.specs.declared.item.Item.{Item}
use Rattle.script_text.specs.declared.item.Item.TheVariants as item
use Rattle.audit_model.specs.declared.fault.AuditFault.{AuditFault}
use Rattle.audit_model.specs.declared.fault.AuditFault.TheVariants as fault
use Rattle.audit_model.specs.Broken.{breaks_clients, breaks_store, broken, first_of}
use Rattle.audit_model.specs.Floors.{too_early}
use Rattle.audit_model.specs.Order.{about}
use Rattle.audit_model.specs.Takes.{takes_so}
use Rattle.audit_model.specs.Unsent.{replies_so}
use Rattle.audit_text.proofs.Rules.{named}
use Rattle.audit_text.specs.Standing.{IsFaultOf, Refuses}

-- of the tests, one behind another
abbrev by_tests : Bool → Bool → AuditFault → AuditFault → Option AuditFault → Option AuditFault
by_tests replies takes f g early = cond (not replies) (Some f) (cond (not takes) (Some g) early)

shown : (before : List Item) (i : Item) → breaks_clients before i ≡ by_tests (replies_so before i) (takes_so before i) (fault.Unsent (about i)) (fault.Watch (about i)) (too_early before i)
unfolding breaks_clients
shown before i = refl

pub replied : (before : List Item) (i : Item) (p ticket : ℕ) (a : Answer) → i ≡ item.Reply p ticket a → replies_so before (item.Reply p ticket a) ≡ true → breaks_clients before i ≡ None
replied before i p ticket a e r =
    ap (breaks_clients before) e ∙ shown before (item.Reply p ticket a) ∙ ap (λ (b : Bool). by_tests b true (fault.Unsent ticket) (fault.Watch ticket) None) r

pub not_replied : (before : List Item) (i : Item) (p ticket : ℕ) (a : Answer) (f : AuditFault) → i ≡ item.Reply p ticket a → Refuses f (fault.Unsent ticket) (replies_so before (item.Reply p ticket a)) → IsFaultOf f (breaks_clients before i)
not_replied before i p ticket a f e r =
    named f (fault.Unsent ticket) (replies_so before (item.Reply p ticket a)) (breaks_clients before i) r
    (λ b. ap (breaks_clients before) e ∙ shown before (item.Reply p ticket a) ∙ ap (λ (b : Bool). by_tests b true (fault.Unsent ticket) (fault.Watch ticket) None) b)

pub taken : (before : List Item) (i : Item) (p ticket : ℕ) (m : WatchItem) → i ≡ item.Taken p ticket m → takes_so before (item.Taken p ticket m) ≡ true → breaks_clients before i ≡ None
taken before i p ticket m e r =
    ap (breaks_clients before) e ∙ shown before (item.Taken p ticket m) ∙ ap (λ (b : Bool). by_tests true b (fault.Unsent ticket) (fault.Watch ticket) None) r

pub not_taken : (before : List Item) (i : Item) (p ticket : ℕ) (m : WatchItem) (f : AuditFault) → i ≡ item.Taken p ticket m → Refuses f (fault.Watch ticket) (takes_so before (item.Taken p ticket m)) → IsFaultOf f (breaks_clients before i)
not_taken before i p ticket m f e r =
    named f (fault.Watch ticket) (takes_so before (item.Taken p ticket m)) (breaks_clients before i) r
    (λ b. ap (breaks_clients before) e ∙ shown before (item.Taken p ticket m) ∙ ap (λ (b : Bool). by_tests true b (fault.Unsent ticket) (fault.Watch ticket) None) b)

pub expires : (before : List Item) (i : Item) (lease : ℕ) → i ≡ item.Expired lease → breaks_clients before i ≡ too_early before (item.Expired lease)
expires before i lease e = ap (breaks_clients before) e ∙ shown before (item.Expired lease)

pub early : (before : List Item) (i : Item) (lease : ℕ) (f : AuditFault) → i ≡ item.Expired lease → IsFaultOf f (too_early before (item.Expired lease)) → IsFaultOf f (breaks_clients before i)
early before i lease f e h = subst (IsFaultOf f) (sym (expires before i lease e)) h

pub fault_is : (f : AuditFault) (found : Option AuditFault) → found ≡ Some f → IsFaultOf f found
fault_is fault.NoMemory found e = tt
fault_is f found e = e

-- of no other kind is anything given
pub others : (before : List Item) (i : Item)
    → ((p ticket : ℕ) (a : Answer) → i ≡ item.Reply p ticket a → ⊥)
    → ((p ticket : ℕ) (m : WatchItem) → i ≡ item.Taken p ticket m → ⊥)
    → ((lease : ℕ) → i ≡ item.Expired lease → ⊥)
    → breaks_clients before i ≡ None
others before (item.Reply p ticket a) r t e = absurd (r p ticket a refl)
others before (item.Taken p ticket m) r t e = absurd (t p ticket m refl)
others before (item.Expired lease) r t e = absurd (e lease refl)
others before i r t e = shown before i

-- ---- of all rules

both_none : (a b : Option AuditFault) → a ≡ None → b ≡ None → first_of a b ≡ None
both_none a b e f = λ i. first_of (e i) (f i)

pub keeps_each : (before : List Item) (i : Item) → breaks_store before i ≡ None → breaks_clients before i ≡ None → broken before i ≡ None
keeps_each before i s c = both_none (breaks_store before i) (breaks_clients before i) s c

first_fault : (f : AuditFault) (a b : Option AuditFault) → IsFaultOf f a → IsFaultOf f (first_of a b)
first_fault fault.NoMemory a b h = tt
first_fault f a b h = ap (λ (x : Option AuditFault). first_of x b) h

pub fault_of_store : (before : List Item) (i : Item) (f : AuditFault) → IsFaultOf f (breaks_store before i) → IsFaultOf f (broken before i)
fault_of_store before i f h = first_fault f (breaks_store before i) (breaks_clients before i) h

pub fault_of_clients : (before : List Item) (i : Item) (f : AuditFault) → breaks_store before i ≡ None → IsFaultOf f (breaks_clients before i) → IsFaultOf f (broken before i)
fault_of_clients before i f s h = subst (IsFaultOf f) (sym (ap (λ (x : Option AuditFault). first_of x (breaks_clients before i)) s)) h
