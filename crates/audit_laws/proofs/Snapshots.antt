-- An unsent transaction that writes nothing, of a transcript that keeps the rules, shows what the store answers to it.
use Rattle.std.proofs.Common.{◌≡◌, ℕ, Bool, true, ◌||◌, List, Result, Ok, Err, refl, subst}
use Rattle.etcd_types.specs.declared.answer.Answer.{Answer}
use Rattle.etcd_types.specs.declared.answer.Answer.TheVariants.{Done, Refused}
use Rattle.etcd_types.specs.declared.answer.Body.{Body}
use Rattle.etcd_types.specs.declared.answer.Reply.{Reply}
use Rattle.etcd_types.specs.declared.operation.TxnAsk.{TxnAsk}
use Rattle.etcd_types.specs.declared.request.Request.TheVariants as request
use Rattle.etcd_types.proofs.Bools.{and_first, and_second}
use Rattle.proxy_model.specs.Unwrapped.{reply_without}
use Rattle.proxy_model.specs.Wrapped.{request_under}
use Rattle.script_text.specs.declared.item.Item.{Item}
use Rattle.store_model.specs.Step.{exec}
use Rattle.world_model.specs.Answers.{seen}
use Rattle.world_model.specs.Lives.{namespace_of}
use Rattle.truth_laws.specs.Snapshots.{TrueSnapshot, UnsentSnapshotsAreTrue}
use Rattle.audit_model.specs.Broken.{Meets}
use Rattle.audit_model.specs.Unsent.{is_body_of, is_bare_body, is_true_header, is_true_snapshot}
use Rattle.equal_values.proofs.Compared.{body-equal}
use Rattle.audit_laws.proofs.PlainReads.{header_true, true_unsent}

record Bare (namespace : List ℕ) (told : Body) (stored : Answer) : Type 0 where
  reply : Reply
  bare : Reply
  done : stored ≡ Done reply
  unwrapped : reply_without namespace reply ≡ Ok bare
  same : told ≡ bare.body

bare_by : (namespace : List ℕ) (told : Body) (reply : Reply) (r : Result Reply (List ℕ)) → reply_without namespace reply ≡ r → is_body_of told r ≡ true → Bare namespace told (Done reply)
bare_by namespace told reply (Ok b) u e = record { reply = reply; bare = b; done = refl; unwrapped = u; same = body-equal told b.body e }
bare_by namespace told reply (Err key) u e = absurd (cc)

bare_of : (namespace : List ℕ) (told : Body) (stored : Answer) → is_bare_body namespace told stored ≡ true → Bare namespace told stored
bare_of namespace told (Done reply) e = bare_by namespace told reply (reply_without namespace reply) refl e
bare_of namespace told (Refused why) e = absurd (cc)

snapshot_true : (items : List Item) (p : ℕ) (t : TxnAsk) (reply : Reply) → is_true_snapshot items p t reply ≡ true → TrueSnapshot items p t reply
snapshot_true items p t reply e =
    let answer : Answer = (exec (seen items).store 1 (request_under (namespace_of items) (request.Txn t))).1 in
    let shown = is_bare_body (namespace_of items) reply.body answer in
    let b = bare_of (namespace_of items) reply.body answer (and_first shown (is_true_header items p reply.header) e) in
    let header = header_true items p reply.header (and_second shown (is_true_header items p reply.header) e) in
    record {
      member = 1;
      stored = b.reply;
      bare = b.bare;
      answered = b.done;
      unwrapped = b.unwrapped;
      body = b.same;
      not_below = header.0;
      not_above = header.1;
    }

pub snapshots_kept : (items : List Item) → Meets items → UnsentSnapshotsAreTrue items
snapshots_kept items m earlier later p ticket t reply split asked reads unsent =
    let kept = true_unsent items m earlier later p ticket (request.Txn t) reply split asked unsent in
    snapshot_true earlier p t reply (subst (λ (b : Bool). b || is_true_snapshot earlier p t reply ≡ true) reads kept)
