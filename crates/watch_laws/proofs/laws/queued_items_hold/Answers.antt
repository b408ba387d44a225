-- One lemma a call.
use Rattle.std.proofs.Common.{ℕ}
use Rattle.store_model.specs.History.{History}
use Rattle.watch_model.specs.State.{Watch}
use Rattle.watch_model.specs.Story.{Received}
use Rattle.watch_laws.specs.Items.{ItemsOk}
use Rattle.watch_laws.proofs.Steady.{created_steady, merged_steady, cut_steady, cancelled_steady, removed_steady, job_steady}
use Rattle.watch_laws.proofs.Items.{items_steady, joins_keep, deliveries_keep, takes_keep, splits_keep}
use Rattle.watch_laws.proofs.Pushes.{pushes_are_shown}
use Rattle.watch_laws.proofs.laws.queued_items_hold.Goals as goal

pub returns : goal.returns
returns c =
    let P : History → ℕ → Received → Watch → Type 0 = λ h most got w. ItemsOk h most (got w.ticket) w in
    record {
      join = joins_keep;
      creation = λ h most got b s header last. created_steady (P h most got) (items_steady h most got) b s header last;
      delivery = deliveries_keep;
      merge = λ h most got range b. merged_steady (P h most got) (items_steady h most got) range b;
      cut = λ h most got b s. cut_steady (P h most got) (items_steady h most got) b s;
      cancellation = λ h most got b s header compact last. cancelled_steady (P h most got) (items_steady h most got) b s header compact last;
      take = takes_keep;
      leaving = λ h most got b ticket. removed_steady (P h most got) b ticket;
      split = splits_keep;
      job = λ h most got b. job_steady (P h most got) b;
      pushed = pushes_are_shown;
    }
