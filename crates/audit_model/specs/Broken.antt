-- The rules that a true transcript keeps: each item is in order, answers and messages are the store's, unsent replies are true, watches
-- take a prefix of what there is for them, and no session expires below its floor.
use Rattle.std.specs.Prelude.{◌≡◌, ℕ, ◌+◌, not, if◌then◌else◌, List, [], ◌∷◌, ◌++◌, Option, None, Some}
use Rattle.script_text.specs.declared.item.Item.{Item}
use Rattle.audit_model.specs.declared.fault.AuditFault.{AuditFault}
use Rattle.audit_model.specs.declared.fault.AuditFault.TheVariants as fault
use Rattle.audit_model.specs.Answers.{answers_so, pushes_so}
use Rattle.audit_model.specs.Floors.{too_early}
use Rattle.audit_model.specs.Order.{about, in_order}
use Rattle.audit_model.specs.Takes.{takes_so}
use Rattle.audit_model.specs.Unsent.{replies_so}

-- of the rules that the store and the order of items decide, the first that the item breaks behind those before it
unfoldable pub breaks_store : List Item → Item → Option AuditFault
breaks_store before i =
    if not (in_order before i) then Some (fault.Order (about i))
    else if not (answers_so before i) then Some (fault.Answer (about i))
    else if not (pushes_so before i) then Some (fault.Push (about i))
    else None

-- of the rules on what clients and sessions are given
unfoldable pub breaks_clients : List Item → Item → Option AuditFault
breaks_clients before i =
    if not (replies_so before i) then Some (fault.Unsent (about i))
    else if not (takes_so before i) then Some (fault.Watch (about i))
    else too_early before i

abbrev pub first_of : Option AuditFault → Option AuditFault → Option AuditFault
first_of None later = later
first_of (Some f) later = Some f

-- the first rule, in this order, that the item breaks behind those before it
abbrev pub broken : List Item → Item → Option AuditFault
broken before i = first_of (breaks_store before i) (breaks_clients before i)

-- with the position of its item, from 1
pub record Found : Type 0 where
  pub position : ℕ
  pub why : AuditFault

abbrev pub found_or : ℕ → Option AuditFault → Option Found → Option Found
found_or position None later = later
found_or position (Some f) later = Some (record { position = position; why = f })

abbrev pub first_broken_from : ℕ → List Item → List Item → Option Found
first_broken_from position before [] = None
first_broken_from position before (i ∷ items) =
    found_or position (broken before i) (first_broken_from (position + 1) (before ++ i ∷ []) items)

-- the first item that breaks a rule
abbrev pub first_broken : List Item → Option Found
first_broken items = first_broken_from 1 [] items

-- no item breaks a rule
abbrev pub Meets : List Item → Type 0
Meets items = first_broken items ≡ None
