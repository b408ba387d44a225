-- What a transcript that keeps the rules has, whoever wrote it.
use Rattle.std.specs.Prelude.{◌≡◌, List, ◌∷◌, ◌++◌, None}
use Rattle.script_text.specs.declared.item.Item.{Item}
use Rattle.world_model.specs.Answers.{AnswersAreTheStores, MessagesAreTheStores}
use Rattle.world_model.specs.Reads.{UnsentReadsAreTrue}
use Rattle.truth_laws.specs.Snapshots.{UnsentSnapshotsAreTrue}
use Rattle.audit_model.specs.Broken.{broken, Meets}

-- no item of it breaks a rule behind those before it
abbrev pub NoneBreaks : List Item → Type 0
NoneBreaks items = (earlier later : List Item) (i : Item) → items ≡ earlier ++ i ∷ later → broken earlier i ≡ None

pub record EachItemKeepsTheRules : Type 0 where
  pub only : (items : List Item) → Meets items → NoneBreaks items
  pub all : (items : List Item) → NoneBreaks items → Meets items

abbrev pub AnswersAreTheirs : Type 0
AnswersAreTheirs = (items : List Item) → Meets items → AnswersAreTheStores items

abbrev pub MessagesAreTheirs : Type 0
MessagesAreTheirs = (items : List Item) → Meets items → MessagesAreTheStores items

abbrev pub ReadsAreTheirs : Type 0
ReadsAreTheirs = (items : List Item) → Meets items → UnsentReadsAreTrue items

abbrev pub SnapshotsAreTheirs : Type 0
SnapshotsAreTheirs = (items : List Item) → Meets items → UnsentSnapshotsAreTrue items
