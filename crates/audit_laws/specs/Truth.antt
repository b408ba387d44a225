-- What a transcript that keeps the rules has, together.
use Rattle.std.specs.Prelude.{List}
use Rattle.script_text.specs.declared.item.Item.{Item}
use Rattle.world_model.specs.Answers.{AnswersAreTheStores, MessagesAreTheStores}
use Rattle.world_model.specs.Reads.{UnsentReadsAreTrue}
use Rattle.truth_laws.specs.Snapshots.{UnsentSnapshotsAreTrue}
use Rattle.audit_laws.specs.Takes.{TakesAreTrue}
use Rattle.audit_model.specs.Broken.{Meets}

-- answers and messages are the store's, what was replied with no call of its own is true, and watches take a prefix
pub record AuditedIsTrue (items : List Item) : Type 0 where
  pub answers : AnswersAreTheStores items
  pub messages : MessagesAreTheStores items
  pub reads : UnsentReadsAreTrue items
  pub snapshots : UnsentSnapshotsAreTrue items
  pub takes : TakesAreTrue items

abbrev pub AuditedAreTrue : Type 0
AuditedAreTrue = (items : List Item) → Meets items → AuditedIsTrue items
