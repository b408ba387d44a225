-- What a transcript that keeps the rules has.
use Rattle.std.proofs.Common.{List}
use Rattle.script_text.specs.declared.item.Item.{Item}
use Rattle.audit_model.specs.Broken.{Meets}
use Rattle.audit_laws.specs.Truth.{AuditedIsTrue}
use Rattle.audit_laws.proofs.Kept.{answers_kept, messages_kept}
use Rattle.audit_laws.proofs.PlainReads.{reads_kept}
use Rattle.audit_laws.proofs.Snapshots.{snapshots_kept}
use Rattle.audit_laws.proofs.Taken.{takes_kept}

pub audited_is_true : (items : List Item) → Meets items → AuditedIsTrue items
audited_is_true items m = record {
  answers = answers_kept items m;
  messages = messages_kept items m;
  reads = reads_kept items m;
  snapshots = snapshots_kept items m;
  takes = takes_kept items m;
}
