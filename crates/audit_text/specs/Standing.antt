-- What the audit keeps stands for the items that it has taken.
use Rattle.std.specs.Prelude.{◌≡◌, Bool, false, List, [], Option, None, Some}
use Rattle.script_text.specs.declared.item.Item.{Item}
use Rattle.audit_clients.specs.Given.{Gave}
use Rattle.audit_store.specs.Store.{Stands as StoreStands}
use Rattle.watch_model.specs.Queues.{is_nil}
use Rattle.world_model.specs.Answers.{Seen, seen}
use Rattle.audit_model.specs.Summaries.{summary}
use Rattle.audit_model.specs.declared.fault.AuditFault.{AuditFault}
use Rattle.audit_model.specs.declared.fault.AuditFault.TheVariants as fault
use Rattle.audit_text.specs.declared.audit.Audit.{Audit}
use Rattle.audit_text.specs.declared.made.Made.{Made}

-- the store is the one that the items make
pub record Makes (made : Made) (s : Seen) : Type 0 where
  pub store : StoreStands made.store s.store

pub record MakesAll (made : Made) (items : List Item) : Type 0 where
  pub some : is_nil items ≡ false
  pub seen : Makes made (seen items)

-- there is a store once there are items
abbrev pub MadeBy : Option Made → List Item → Type 0
MadeBy None items = items ≡ []
MadeBy (Some made) items = MakesAll made items

-- the audit has taken these items, and none of them broke a rule
pub record Stands (audit : Audit) (items : List Item) : Type 0 where
  pub made : MadeBy audit.made items
  pub gave : Gave audit.given items
  pub whole : audit.fault ≡ None
  pub report : audit.report ≡ summary items

-- it has taken these, and the item behind them had this fault
pub record Fails (audit : Audit) (items : List Item) (f : AuditFault) : Type 0 where
  pub fault : audit.fault ≡ Some f
  pub report : audit.report ≡ summary items

-- a fault of a step: it is this one, and the test failed; out of memory says nothing of the test
abbrev pub Refuses : AuditFault → AuditFault → Bool → Type 0
Refuses fault.NoMemory due test = Unit {0}
Refuses f due test = (f ≡ due) × (test ≡ false)

-- this is the fault of the first rule that is broken; out of memory says nothing of the rules
abbrev pub IsFaultOf : AuditFault → Option AuditFault → Type 0
IsFaultOf fault.NoMemory found = Unit {0}
IsFaultOf f found = found ≡ Some f
