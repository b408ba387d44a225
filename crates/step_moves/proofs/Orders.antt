-- Whatever is done to entries, they stand in the order of their keys.
use Rattle.std.proofs.Common.{◌≡◌, ℕ, ◌+◌, Bool, true, false, not, cond, ◌&&◌, List, [], ◌∷◌, Option, None, Some, is_some, refl, ◌∙◌, ap}
use Rattle.std.specs.List.{list_any}
use Rattle.std.specs.Ordering.{nat_cmp, is_lt}
use Rattle.std.specs.Cmp.Lexicographic.{slice_cmp}
use Rattle.std.specs.FinMap.Entries.{below_all, is_sorted-where_key}
use Rattle.etcd_types.specs.Keys.{same}
use Rattle.etcd_types.specs.declared.answer.Answer.{Answer}
use Rattle.etcd_types.specs.declared.answer.Answer.TheVariants as answer
use Rattle.etcd_types.specs.declared.watch.Change.{Change}
use Rattle.etcd_types.specs.declared.watch.Change.TheVariants as change
use Rattle.etcd_types.specs.declared.watch.Event.{Event}
use Rattle.proxy_model.specs.declared.lease.Entry.{Entry}
use Rattle.proxy_model.specs.declared.ownership.Owner.{Owner}
use Rattle.proxy_model.specs.declared.ownership.Written.{Written}
use Rattle.proxy_model.specs.declared.ownership.Written.TheVariants.{Wrote, Blocked}
use Rattle.proxy_model.specs.Foreign.{revoke_word}
use Rattle.proxy_model.specs.Guarded.{written}
use Rattle.proxy_model.specs.Keyed.{Keyed, at, with_at, is_in_order}
use Rattle.proxy_model.specs.Leaving.{guard_held}
use Rattle.proxy_model.specs.Limits.{capped}
use Rattle.proxy_model.proofs.KeyedLaws.{to_T, from_T, in_order-with_at}
use Rattle.wait_model.specs.declared.due.DueCall.{DueCall}
use Rattle.wait_model.specs.declared.sending.Sending.TheVariants as sending
use Rattle.wait_model.specs.declared.wait.WaitJob.{WaitJob}
use Rattle.wait_model.specs.declared.wait.WaitJob.TheVariants as job
use Rattle.wait_model.specs.declared.write.Write.{Write}
use Rattle.wait_model.specs.declared.write.WriteStage.TheVariants.{Sends}
use Rattle.wait_model.specs.Asked.{acquire_spoiled}
use Rattle.wait_model.specs.Covers.{shares, is_by_keys, is_single}
use Rattle.wait_model.specs.DueOrder.{first_call, first_rescind}
use Rattle.wait_model.specs.Edits.{each, without}
use Rattle.wait_model.specs.Endings.{answered, answered_job, lost, lost_job, forgotten, forgotten_by, revoke_answered, revoke_back, without_out}
use Rattle.wait_model.specs.ForeignOwnership.{is_own, owned_left, by_key, finding}
use Rattle.wait_model.specs.GuardedAnswers.{Ending, is_gone, owns_at, other_owners, kept_entries, unwrote_entries, left_entries, done_if, write_answered, write_lost, staged_by}
use Rattle.wait_model.specs.Leaving.{rest, rescinded, if_read, rescind_answered}
use Rattle.wait_model.specs.Notices.{owned_key, put_noticed, noticed, all_noticed, revoked_turn}
use Rattle.wait_model.specs.Passes.{goes, turn, passed, proceeded}
use Rattle.wait_model.specs.Phases.{is_of, is_leaving, own_entry}
use Rattle.wait_model.specs.Sent.{JobSent, is_revoke, revoke_job, write_job, call_of, call_sent, job_sent_after, job_sent}
use Rattle.wait_model.specs.SeveralKeys.{by_ranges, given_up_over}
use Rattle.wait_model.specs.SingleKeys.{Turn, any_key, keys_begun, by_keys, let_go_leased, begun_over}
use Rattle.wait_model.specs.Stages.{staged, gone_on, is_due, is_owner, is_waiting, stage_on}
use Rattle.wait_model.specs.State.{Ownership}
use Rattle.wait_model.specs.Writes.{first_by, has_ticket, sends, asks, job_of}
use Rattle.core_laws.proofs.Steps.Comes.{by_test}

abbrev pub Rises : Keyed Entry → Type 0
Rises es = is_in_order es ≡ true

abbrev pub Ordered : Ownership → Type 0
Ordered own = Rises own.entries

abbrev pub EndOrdered : Option Ending → Type 0
EndOrdered None = Unit {0}
EndOrdered (Some x) = Ordered x.own

abbrev pub SentOrdered : Option JobSent → Type 0
SentOrdered None = Unit {0}
SentOrdered (Some x) = Ordered x.own

either : {A : Type 0} (P : A → Type 0) (b : Bool) (x y : A) → P x → P y → P (cond b x y)
either P b x y h i = by_test P b x y (λ t. h) (λ t. i)

-- Lists.

each_below : (f : List ℕ → Entry → Entry) (k : List ℕ) (es : Keyed Entry) → below_all (slice_cmp nat_cmp) k (each f es) ≡ below_all (slice_cmp nat_cmp) k es
each_below f k [] = refl
each_below f k (e ∷ es) = ap (λ b. is_lt (slice_cmp nat_cmp k e.0) && b) (each_below f k es)

each_same : (f : List ℕ → Entry → Entry) (es : Keyed Entry) → is_in_order (each f es) ≡ is_in_order es
each_same f [] = refl
each_same f (e ∷ es) = λ i. each_below f e.0 es i && each_same f es i

pub each_rises : (f : List ℕ → Entry → Entry) (es : Keyed Entry) → Rises es → Rises (each f es)
each_rises f es h = each_same f es ∙ h

without_rises : (p : List ℕ → Bool) (es : Keyed Entry) → Rises es → Rises (without p es)
without_rises p es h = from_T _ (is_sorted-where_key (slice_cmp nat_cmp) (λ x. not (p x)) es (to_T _ h))

pub at_rises : (k : List ℕ) (o : Option Entry) (es : Keyed Entry) → Rises es → Rises (with_at es k o)
at_rises k o es h = in_order-with_at es k o h

-- A pass.

keys_rise : (step : ℕ) (es : Keyed Entry) (ss : Keyed Bool) (w : Write) → Rises es → Rises (keys_begun step es ss w).entries
keys_rise step es ss w h =
    either (λ (t : Turn). Rises t.entries) (any_key w (λ k. is_leaving (at es k))) (record { entries = es; spoiled = ss; write = w })
    (record { entries = each (begun_over w) es; spoiled = ss; write = gone_on step (any_key w (λ k. is_some (at es k))) w }) h (each_rises (begun_over w) es h)

goes_rise : (step : ℕ) (es : Keyed Entry) (ss : Keyed Bool) (w : Write) → Rises es → Rises (goes step es ss w).entries
goes_rise step es ss w h =
    either (λ (t : Turn). Rises t.entries) (is_by_keys w) (by_keys step es ss w) (by_ranges step es ss w)
    (either (λ (t : Turn). Rises t.entries) (any_key w (λ k. is_some (at ss k))) (record { entries = es; spoiled = ss; write = w }) (keys_begun step (each (let_go_leased w) es) ss w) h
    (keys_rise step (each (let_go_leased w) es) ss w (each_rises (let_go_leased w) es h)))
    (each_rises (given_up_over w) es h)

turn_rises : (step : ℕ) (earlier : List Write) (es : Keyed Entry) (ss : Keyed Bool) (w : Write) → Rises es → Rises (turn step earlier es ss w).entries
turn_rises step earlier es ss w h =
    let v = staged w (stage_on w.stage) in
    either (λ (t : Turn). Rises t.entries) (is_waiting v.stage && not (list_any (shares w) earlier)) (goes step es ss v) (record { entries = es; spoiled = ss; write = v }) (goes_rise step es ss v h) h

passed_rises : (step : ℕ) (earlier : List Write) (es : Keyed Entry) (ss : Keyed Bool) (ws : List Write) → Rises es → Rises (passed step earlier es ss ws).entries
unfolding passed
passed_rises step earlier es ss [] h = h
passed_rises step earlier es ss (w ∷ ws) h =
    let t = turn step earlier es ss w in
    passed_rises step (t.write ∷ earlier) t.entries t.spoiled ws (turn_rises step earlier es ss w h)

pub pass_ordered : (own : Ownership) → Ordered own → Ordered (proceeded own)
pass_ordered own h = passed_rises own.waits.step [] own.entries own.waits.spoiled own.waits.writes h

-- Answers.

left_rises : (session : Option ℕ) (os : Keyed Owner) (es : Keyed Entry) → Rises es → Rises (owned_left session os es)
left_rises session [] es h = h
left_rises session (o ∷ os) es h =
    left_rises session os (cond (is_own session es o) (with_at es o.0 (Some (own_entry o.1.create))) es) (either Rises (is_own session es o) (with_at es o.0 (Some (own_entry o.1.create))) es (at_rises o.0 (Some (own_entry o.1.create)) es h) h)

read_ordered : (o : Option Bool) (own : Ownership) → Ordered own → EndOrdered (if_read o own)
read_ordered None own h = tt
read_ordered (Some held) own h = h

rescind_ordered : (a : Answer) (own : Ownership) → Ordered own → EndOrdered (rescind_answered a own)
rescind_ordered (answer.Done reply) own h = read_ordered (guard_held reply.body) own h
rescind_ordered (answer.Refused r) own h = h

rescinded_ordered : (k : List ℕ) (create now : ℕ) (own : Ownership) → Ordered own → Ordered (rescinded k create now own)
rescinded_ordered k create now own h =
    either Ordered (is_of create (at own.entries k)) (record { entries = with_at own.entries k None; waits = record own.waits { quiet = with_at own.waits.quiet k (Some (capped (now + rest))) } }) own (at_rises k None own.entries h) h

back_ordered : (p : Write → Bool) (call : ℕ) (w : Write) (o : Option Bool) (own : Ownership) → Ordered own → EndOrdered (revoke_back p call w o own)
back_ordered p call w None own h = tt
back_ordered p call w (Some held) own h = h

revoke_ordered : (p : Write → Bool) (call : ℕ) (o : Option Write) (a : Answer) (own : Ownership) → Ordered own → EndOrdered (revoke_answered p call o a own)
revoke_ordered p call None a own h = h
revoke_ordered p call (Some w) (answer.Done reply) own h = back_ordered p call w (guard_held reply.body) own h
revoke_ordered p call (Some w) (answer.Refused r) own h = h

done_ordered : (session : Option ℕ) (p : Write → Bool) (w : Write) (o : Option Written) (own : Ownership) → Ordered own → EndOrdered (done_if session p w o own)
done_ordered session p w None own h = tt
done_ordered session p w (Some (Wrote reply)) own h = each_rises _ own.entries h
done_ordered session p w (Some (Blocked os)) own h =
    either Ordered (is_owner w.stage && is_single w.request) (staged_by own (without (owns_at w own.entries) own.entries) p (Sends false (sending.Due own.waits.step)))
    (finding session p (by_key [] (other_owners w own.entries os)) own (kept_entries w os own.entries)) (without_rises (owns_at w own.entries) own.entries h)
    (left_rises session (by_key [] (other_owners w own.entries os)) (kept_entries w os own.entries) (each_rises _ (without (is_gone w own.entries os) own.entries) (without_rises (is_gone w own.entries os) own.entries h)))

write_ordered : (session : Option ℕ) (p : Write → Bool) (o : Option Write) (a : Answer) (own : Ownership) → Ordered own → EndOrdered (write_answered session p o a own)
write_ordered session p None a own h = h
write_ordered session p (Some w) (answer.Done reply) own h = done_ordered session p w (written own.waits.prefix w.request reply) own h
write_ordered session p (Some w) (answer.Refused r) own h = each_rises _ own.entries h

job_ordered : (call : ℕ) (a : Answer) (session : Option ℕ) (now : ℕ) (o : Option WaitJob) (own : Ownership) → Ordered own → EndOrdered (answered_job call a session now o own)
job_ordered call a session now None own h = h
job_ordered call a session now (Some (job.Rescind k create)) own h = rescind_ordered a (rescinded k create now own) (rescinded_ordered k create now own h)
job_ordered call a session now (Some (job.Revoke k)) own h = revoke_ordered (asks call) call (first_by (asks call) own.waits.writes) a own h
job_ordered call a session now (Some job.Write) own h = write_ordered session (sends call) (first_by (sends call) own.waits.writes) a own h

pub answered_ordered : (call : ℕ) (a : Answer) (session : Option ℕ) (now : ℕ) (own : Ownership) → Ordered own → EndOrdered (answered call a session now own)
unfolding answered
answered_ordered call a session now own h = job_ordered call a session now (job_of call own.waits.out) (without_out call own) h

-- Losses, and what is forgotten.

loss_ordered : (p : Write → Bool) (o : Option Write) (own : Ownership) → Ordered own → Ordered (write_lost p o own).own
loss_ordered p None own h = h
loss_ordered p (Some w) own h = each_rises _ own.entries h

lost_job_ordered : (call : ℕ) (o : Option WaitJob) (own : Ownership) → Ordered own → Ordered (lost_job call o own).own
lost_job_ordered call None own h = h
lost_job_ordered call (Some (job.Rescind k create)) own h = at_rises k _ own.entries h
lost_job_ordered call (Some (job.Revoke k)) own h = loss_ordered (asks call) (first_by (asks call) own.waits.writes) own h
lost_job_ordered call (Some job.Write) own h = loss_ordered (sends call) (first_by (sends call) own.waits.writes) own h

pub lost_ordered : (call : ℕ) (own : Ownership) → Ordered own → Ordered (lost call own).own
unfolding lost
lost_ordered call own h = lost_job_ordered call (job_of call own.waits.out) (without_out call own) h

forget_ordered : (p : Write → Bool) (o : Option Write) (own : Ownership) → Ordered own → Ordered (forgotten_by p o own)
forget_ordered p None own h = h
forget_ordered p (Some w) own h = either Rises (is_due w.stage) (unwrote_entries w own.entries) (left_entries w own.entries) (each_rises _ own.entries h) (each_rises _ own.entries h)

pub forgotten_ordered : (ticket : ℕ) (own : Ownership) → Ordered own → Ordered (forgotten ticket own)
unfolding forgotten
forgotten_ordered ticket own h = forget_ordered (has_ticket ticket) (first_by (has_ticket ticket) own.waits.writes) own h

-- Notices.

notice_ordered : (session : Option ℕ) (c : Change) (own : Ownership) → Ordered own → Ordered (noticed session c own)
notice_ordered session (change.Put kv) own h =
    let k = owned_key own.waits.prefix kv.key in
    either Ordered (same kv.value revoke_word) (put_noticed session k kv.create kv.lease own) own
    (either Ordered (is_some (at own.waits.spoiled k)) (acquire_spoiled k own) (record own { entries = with_at own.entries k (revoked_turn session kv.create kv.lease (at own.entries k)) }) h (at_rises k _ own.entries h)) h
notice_ordered session (change.Delete k revision) own h = at_rises (owned_key own.waits.prefix k) _ own.entries h

pub message_ordered : (session : Option ℕ) (events : List Event) (own : Ownership) → Ordered own → Ordered (all_noticed session events own)
message_ordered session [] own h = h
message_ordered session (e ∷ es) own h = message_ordered session es (noticed session e.change own) (notice_ordered session e.change own h)

-- Sendings.

call_ordered : (call : ℕ) (d : DueCall) (o : Option Write) (own : Ownership) → Ordered own → SentOrdered (call_of call d o own)
call_ordered call d None own h = tt
call_ordered call d (Some w) own h = either (λ (s : JobSent). Ordered s.own) (is_revoke d.place.kind) (revoke_job call d w own) (write_job call d w own) h h

calls_ordered : (call : ℕ) (o : Option DueCall) (own : Ownership) → Ordered own → SentOrdered (call_sent call o own)
calls_ordered call None own h = tt
calls_ordered call (Some d) own h = call_ordered call d (first_by (has_ticket d.place.number) own.waits.writes) own h

after_ordered : (call : ℕ) (o : Option (List ℕ × Entry)) (own : Ownership) → Ordered own → SentOrdered (job_sent_after call o own)
after_ordered call None own h = calls_ordered call (first_call own.waits.writes) own h
after_ordered call (Some e) own h = at_rises e.0 _ own.entries h

pub job_sent_ordered : (call : ℕ) (own : Ownership) → Ordered own → SentOrdered (job_sent call own)
unfolding job_sent
job_sent_ordered call own h = after_ordered call (first_rescind own.entries) own h
