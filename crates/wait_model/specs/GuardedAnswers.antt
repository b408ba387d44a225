-- Answers to a guarded write: where it was done, the entries that it wrote take the record that it left and are held again;
-- where it was refused they are held again as they were; where it was lost they leave. One that was marked meanwhile leaves.
-- A write that failed goes on: as the owner of one key, as a guest; else by what was found.
use Rattle.std.specs.Prelude.{ℕ, Bool, false, not, ◌&&◌, if◌then◌else◌, List, filter, [], Option, None, Some}
use Rattle.std.specs.List.{list_any}
use Rattle.etcd_types.specs.declared.answer.Answer.{Answer}
use Rattle.etcd_types.specs.declared.answer.Answer.TheVariants as answer
use Rattle.etcd_types.specs.declared.answer.Reply.{Reply}
use Rattle.etcd_types.specs.Keys.{same}
use Rattle.proxy_model.specs.declared.lease.Entry.{Entry}
use Rattle.proxy_model.specs.declared.ownership.Owner.{Owner}
use Rattle.proxy_model.specs.declared.ownership.Written.{Written}
use Rattle.proxy_model.specs.declared.ownership.Written.TheVariants.{Wrote, Blocked}
use Rattle.proxy_model.specs.Guarded.{written}
use Rattle.proxy_model.specs.Keyed.{Keyed, at}
use Rattle.proxy_model.specs.LeaseTable.{is_writing, unwritten, leaving}
use Rattle.proxy_model.specs.LeaseTable as table
use Rattle.wait_model.specs.declared.sending.Sending.TheVariants as sending
use Rattle.wait_model.specs.declared.write.Write.{Write}
use Rattle.wait_model.specs.declared.write.WriteStage.{WriteStage}
use Rattle.wait_model.specs.declared.write.WriteStage.TheVariants.{Sends}
use Rattle.wait_model.specs.declared.wait.Settled.{Settled}
use Rattle.wait_model.specs.declared.wait.Settled.TheVariants as settled
use Rattle.wait_model.specs.State.{Ownership}
use Rattle.wait_model.specs.Covers.{covers, is_single}
use Rattle.wait_model.specs.Edits.{each, without}
use Rattle.wait_model.specs.ForeignOwnership.{by_key, finding}
use Rattle.store_model.specs.LeftRecords.{left_by}
use Rattle.wait_model.specs.Operations.{operations}
use Rattle.wait_model.specs.Phases.{if_written, is_of}
use Rattle.wait_model.specs.Stages.{is_owner}
use Rattle.wait_model.specs.Writes.{without_first, with_first}

-- What an answer or a loss settles, and what stands then.
pub record Ending : Type 0 where
  pub own : Ownership
  pub settled : Settled

-- with these entries, and without the first write that passes
abbrev pub ended_by : Ownership → Keyed Entry → (Write → Bool) → Ownership
ended_by own es p = record { entries = es; waits = record own.waits { writes = without_first p own.waits.writes } }

-- with these entries, and the first write that passes in this stage
abbrev pub staged_by : Ownership → Keyed Entry → (Write → Bool) → WriteStage → Ownership
staged_by own es p stage = record { entries = es; waits = record own.waits { writes = with_first p stage own.waits.writes } }

-- The entries that an owner's call is about: those of its keys that are being written.

abbrev pub owns : Write → List ℕ → Bool
owns w k = is_owner w.stage && covers w k

abbrev pub owns_at : Write → Keyed Entry → List ℕ → Bool
owns_at w es k = owns w k && is_writing (at es k)

abbrev pub change_owned : Write → (List ℕ → Entry → Entry) → Keyed Entry → Keyed Entry
change_owned w f es = each (λ k e. if_written (owns w k) (f k) e) es

abbrev pub wrote_entries : Write → Reply → Keyed Entry → Keyed Entry
wrote_entries w reply es =
    change_owned w (λ k e. table.written (left_by reply.header.revision k (operations w.request reply.body) e.kv) e) es

abbrev pub unwrote_entries : Write → Keyed Entry → Keyed Entry
unwrote_entries w es = change_owned w (λ k e. unwritten e) es

abbrev pub left_entries : Write → Keyed Entry → Keyed Entry
left_entries w es = change_owned w (λ k e. leaving e) es

-- The write failed.

-- the owner found is the entry that the write compared
abbrev pub shows : Keyed Entry → List ℕ → Owner → Bool
shows es k o = same o.key k && is_of o.create (at es k)

abbrev pub is_shown : Keyed Entry → List Owner → List ℕ → Bool
is_shown es os k = list_any (shows es k) os

abbrev pub is_kept : Write → Keyed Entry → List Owner → List ℕ → Bool
is_kept w es os k = owns_at w es k && is_shown es os k

abbrev pub is_gone : Write → Keyed Entry → List Owner → List ℕ → Bool
is_gone w es os k = owns_at w es k && not (is_shown es os k)

-- an entry that was shown is held again, another one is gone
abbrev pub kept_entries : Write → List Owner → Keyed Entry → Keyed Entry
kept_entries w os es = unwrote_entries w (without (is_gone w es os) es)

-- the owners that aren't entries of its own
abbrev pub other_owners : Write → Keyed Entry → List Owner → List Owner
other_owners w es os = filter (λ o. not (is_kept w es os o.key)) os

abbrev pub failed : Option ℕ → (Write → Bool) → Write → List Owner → Ownership → Ownership
failed session p w os own =
    if is_owner w.stage && is_single w.request then staged_by own (without (owns_at w own.entries) own.entries) p (Sends false (sending.Due own.waits.step))
    else finding session p (by_key [] (other_owners w own.entries os)) own (kept_entries w os own.entries)

-- Its own call is answered.

abbrev pub done : Option ℕ → (Write → Bool) → Write → Written → Ownership → Ending
done session p w (Wrote reply) own =
    record { own = ended_by own (wrote_entries w reply own.entries) p; settled = settled.Reply w.ticket (answer.Done reply) }
done session p w (Blocked os) own = record { own = failed session p w os own; settled = settled.Nothing }

-- nothing, where the answer can't be one to this write
abbrev pub done_if : Option ℕ → (Write → Bool) → Write → Option Written → Ownership → Option Ending
done_if session p w None own = None
done_if session p w (Some r) own = Some (done session p w r own)

abbrev pub write_answered : Option ℕ → (Write → Bool) → Option Write → Answer → Ownership → Option Ending
write_answered session p None a own = Some (record { own = own; settled = settled.Nothing })
write_answered session p (Some w) (answer.Done reply) own = done_if session p w (written own.waits.prefix w.request reply) own
write_answered session p (Some w) (answer.Refused r) own =
    Some (record { own = ended_by own (unwrote_entries w own.entries) p; settled = settled.Reply w.ticket (answer.Refused r) })

-- Its call, or its revoke call, is lost.
abbrev pub write_lost : (Write → Bool) → Option Write → Ownership → Ending
write_lost p None own = record { own = own; settled = settled.Nothing }
write_lost p (Some w) own = record { own = ended_by own (left_entries w own.entries) p; settled = settled.Failed w.ticket }
