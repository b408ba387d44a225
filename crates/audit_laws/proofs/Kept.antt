-- An item that breaks no rule keeps each of them.
use Rattle.std.proofs.Common.{◌≡◌, Bool, true, false, not, cond, List, ◌∷◌, ◌++◌, Option, None, Some, refl, sym, ap}
use Rattle.etcd_types.specs.declared.answer.Answer.{Answer}
use Rattle.etcd_types.specs.declared.watch.WatchItem.{WatchItem}
use Rattle.script_text.specs.declared.item.Item.{Item}
use Rattle.script_text.specs.declared.item.Item.TheVariants as item
use Rattle.world_model.specs.Answers.{seen, answer_to, message_by, message_of, AnswersAreTheStores, MessagesAreTheStores}
use Rattle.audit_model.specs.declared.fault.AuditFault.{AuditFault}
use Rattle.audit_model.specs.declared.fault.AuditFault.TheVariants as fault
use Rattle.audit_model.specs.Answers.{is_due_answer, is_due_message, answers_so, pushes_so}
use Rattle.audit_model.specs.Broken.{breaks_store, breaks_clients, first_of, broken, Meets}
use Rattle.audit_model.specs.Floors.{too_early}
use Rattle.audit_model.specs.Order.{about, in_order}
use Rattle.audit_model.specs.Takes.{takes_so}
use Rattle.audit_model.specs.Unsent.{replies_so}
use Rattle.equal_values.proofs.Compared.{answer-equal}
use Rattle.equal_values.proofs.Values.{message-equal}
use Rattle.audit_laws.proofs.Splits.{meets_at}

pub record Keeps (before : List Item) (i : Item) : Type 0 where
  pub ordered : in_order before i ≡ true
  pub answers : answers_so before i ≡ true
  pub pushes : pushes_so before i ≡ true
  pub replies : replies_so before i ≡ true
  pub takes : takes_so before i ≡ true
  pub in_time : too_early before i ≡ None

first_none : (f later : Option AuditFault) → first_of f later ≡ None → (f ≡ None) × (later ≡ None)
first_none None later e = (refl, e)
first_none (Some f) later e = absurd (cc)

-- a test that names a fault where it fails
passed : (b : Bool) (f : AuditFault) (later : Option AuditFault) → cond (not b) (Some f) later ≡ None → (b ≡ true) × (later ≡ None)
passed true f later e = (refl, e)
passed false f later e = absurd (cc)

store_kept : (before : List Item) (i : Item) → breaks_store before i ≡ None → (in_order before i ≡ true) × (answers_so before i ≡ true) × (pushes_so before i ≡ true)
unfolding breaks_store
store_kept before i e =
    let first = passed (in_order before i) (fault.Order (about i)) _ e in
    let second = passed (answers_so before i) (fault.Answer (about i)) _ first.1 in
    (first.0, second.0, (passed (pushes_so before i) (fault.Push (about i)) None second.1).0)

clients_kept : (before : List Item) (i : Item) → breaks_clients before i ≡ None → (replies_so before i ≡ true) × (takes_so before i ≡ true) × (too_early before i ≡ None)
unfolding breaks_clients
clients_kept before i e =
    let first = passed (replies_so before i) (fault.Unsent (about i)) _ e in
    let second = passed (takes_so before i) (fault.Watch (about i)) (too_early before i) first.1 in
    (first.0, second.0, second.1)

pub keeps : (before : List Item) (i : Item) → broken before i ≡ None → Keeps before i
keeps before i e =
    let parts = first_none (breaks_store before i) (breaks_clients before i) e in
    let store = store_kept before i parts.0 in
    let clients = clients_kept before i parts.1 in
    record { ordered = store.0; answers = store.1; pushes = store.2; replies = clients.0; takes = clients.1; in_time = clients.2 }

-- of each item of a transcript that keeps the rules
pub kept_at : (items : List Item) → Meets items → (earlier later : List Item) (i : Item) → items ≡ earlier ++ i ∷ later → Keeps earlier i
kept_at items m earlier later i split = keeps earlier i (meets_at items m earlier later i split)

-- ---- answers and messages

due_answer : (told : Answer) (due : Option Answer) → is_due_answer told due ≡ true → due ≡ Some told
due_answer told None e = absurd (cc)
due_answer told (Some due) e = ap Some (sym (answer-equal told due e))

due_message : (told : WatchItem) (due : Option WatchItem) → is_due_message told due ≡ true → due ≡ Some told
due_message told None e = absurd (cc)
due_message told (Some due) e = ap Some (sym (message-equal told due e))

pub answers_kept : (items : List Item) → Meets items → AnswersAreTheStores items
answers_kept items m earlier later number answer split =
    due_answer answer (answer_to (seen earlier) number) (kept_at items m earlier later (item.Executed number answer) split).answers

pub messages_kept : (items : List Item) → Meets items → MessagesAreTheStores items
messages_kept items m earlier later number message split =
    due_message message (message_of (message_by (seen earlier).store number message)) (kept_at items m earlier later (item.Pushed number message) split).pushes
