-- What a step makes of the writes: a write whose call is out stays as it is, or goes; any other is at a stage with no call out.
use Rattle.std.proofs.Common.{◌≡◌, ℕ, ◌+◌, Bool, true, false, not, ◌||◌, ◌&&◌, cond, List, [], ◌∷◌, map, Option, None, Some, is_some, refl, subst}
use Rattle.std.specs.List.{list_any}
use Rattle.etcd_types.specs.Keys.{same}
use Rattle.etcd_types.specs.declared.answer.Answer.{Answer}
use Rattle.etcd_types.specs.declared.answer.Answer.TheVariants as answer
use Rattle.etcd_types.specs.declared.watch.Change.{Change}
use Rattle.etcd_types.specs.declared.watch.Change.TheVariants as change
use Rattle.etcd_types.specs.declared.watch.Event.{Event}
use Rattle.proxy_model.specs.declared.lease.Entry.{Entry}
use Rattle.proxy_model.specs.declared.ownership.Written.{Written}
use Rattle.proxy_model.specs.declared.ownership.Written.TheVariants.{Wrote, Blocked}
use Rattle.proxy_model.specs.Foreign.{revoke_word}
use Rattle.proxy_model.specs.Guarded.{written}
use Rattle.proxy_model.specs.Keyed.{Keyed, at, with_at}
use Rattle.proxy_model.specs.Leaving.{guard_held}
use Rattle.proxy_model.specs.Limits.{capped}
use Rattle.wait_model.specs.declared.due.DueCall.{DueCall}
use Rattle.wait_model.specs.declared.sending.Sending.{Sending}
use Rattle.wait_model.specs.declared.sending.Sending.TheVariants as sending
use Rattle.wait_model.specs.declared.wait.WaitJob.{WaitJob}
use Rattle.wait_model.specs.declared.wait.WaitJob.TheVariants as job
use Rattle.wait_model.specs.declared.write.Write.{Write}
use Rattle.wait_model.specs.declared.write.WriteStage.{WriteStage}
use Rattle.wait_model.specs.declared.write.WriteStage.TheVariants.{Waiting, Sends, Finds}
use Rattle.wait_model.specs.Asked.{acquire_spoiled}
use Rattle.wait_model.specs.Covers.{shares, is_by_keys, is_single}
use Rattle.wait_model.specs.DueOrder.{first_call, first_rescind}
use Rattle.wait_model.specs.Edits.{each, without}
use Rattle.wait_model.specs.Endings.{answered, answered_job, revoke_answered, revoke_back, without_out}
use Rattle.wait_model.specs.ForeignOwnership.{by_key, finding, stage_asked, stage_gone}
use Rattle.wait_model.specs.GuardedAnswers.{Ending, owns_at, other_owners, kept_entries, done_if, write_answered, staged_by}
use Rattle.wait_model.specs.Leaving.{rest, rescinded, if_read, rescind_answered}
use Rattle.wait_model.specs.Notices.{owned_key, put_noticed, noticed, all_noticed, revoked_turn}
use Rattle.wait_model.specs.Passes.{goes, turn, passed}
use Rattle.wait_model.specs.Phases.{is_of, is_leaving}
use Rattle.wait_model.specs.Sent.{JobSent, is_revoke, revoke_job, write_job, stage_revoking, stage_sent, call_of, call_sent, job_sent_after, job_sent}
use Rattle.wait_model.specs.SessionEnd.{due_again, stage_ended}
use Rattle.wait_model.specs.SeveralKeys.{any_covered, by_ranges, given_up_over, spoiled_over}
use Rattle.wait_model.specs.SingleKeys.{Turn, any_key, keys_begun, by_keys, let_go_leased, begun_over}
use Rattle.wait_model.specs.Stages.{staged, gone_on, is_found_over, is_waiting, stage_on}
use Rattle.wait_model.specs.State.{Ownership}
use Rattle.wait_model.specs.Writes.{first_by, without_first, with_first, has_ticket, sends, asks, job_of}
use Rattle.core_laws.proofs.Writes.FoundWrite.{head_found, rest_found}
use Rattle.core_laws.proofs.Steps.Comes.{by_test}
use Rattle.core_fits.specs.Fits.{EachOf}

abbrev pub is_sent_out : Sending → Bool
is_sent_out (sending.Due since) = false
is_sent_out (sending.Out call) = true

-- its own call is out
abbrev pub is_sent : WriteStage → Bool
is_sent Waiting = false
is_sent (Sends owner s) = is_sent_out s
is_sent (Finds found) = false

-- of each write: what comes to stand by itself doesn't touch it
abbrev pub Lasts : (Write → Type 0) → Type 0
Lasts W = (w : Write) (s : WriteStage) → is_sent s ≡ false → W (staged w s)

module _ (W : Write → Type 0) (l : Lasts W) where
  abbrev pub OwnHas : Ownership → Type 0
  OwnHas own = EachOf W own.waits.writes

  abbrev pub EndHas : Option Ending → Type 0
  EndHas None = Unit {0}
  EndHas (Some x) = OwnHas x.own

  either : {A : Type 0} (P : A → Type 0) (b : Bool) (x y : A) → P x → P y → P (cond b x y)
  either P b x y h i = by_test P b x y (λ t. h) (λ t. i)

  -- lists

  quiet_first : (p : Write → Bool) (s : WriteStage) → is_sent s ≡ false → (ws : List Write) → EachOf W ws → EachOf W (with_first p s ws)
  quiet_first p s q [] h = h
  quiet_first p s q (w ∷ ws) h = either (EachOf W) (p w) (staged w s ∷ ws) (w ∷ with_first p s ws) (l w s q, h.1) (h.0, quiet_first p s q ws h.1)

  first_goes : (p : Write → Bool) (w : Write) (g : WriteStage → WriteStage) → ((v : Write) → W v → W (staged v (g v.stage))) → (ws : List Write) → first_by p ws ≡ Some w → EachOf W ws → EachOf W (with_first p (g w.stage) ws)
  first_goes p w g t [] f h = absurd (cc)
  first_goes p w g t (v ∷ vs) f h =
      by_test (EachOf W) (p v) (staged v (g w.stage) ∷ vs) (v ∷ with_first p (g w.stage) vs)
      (λ e. (subst (λ (x : Write). W (staged v (g x.stage))) (head_found p v w vs e f) (t v h.0), h.1))
      (λ e. (h.0, first_goes p w g t vs (rest_found p v w vs e f) h.1))

  without_first_has : (p : Write → Bool) (ws : List Write) → EachOf W ws → EachOf W (without_first p ws)
  without_first_has p [] h = h
  without_first_has p (w ∷ ws) h = either (EachOf W) (p w) ws (w ∷ without_first p ws) h.1 (h.0, without_first_has p ws h.1)

  each_goes : (g : Write → WriteStage) → ((w : Write) → W w → W (staged w (g w))) → (ws : List Write) → EachOf W ws → EachOf W (map (λ w. staged w (g w)) ws)
  each_goes g t [] h = h
  each_goes g t (w ∷ ws) h = (t w h.0, each_goes g t ws h.1)

  -- a stage goes on: a call that is out stays out

  on_has : (w : Write) → W w → W (staged w (stage_on w.stage))
  on_has w h = by_test (λ (s : WriteStage). W (staged w s)) (is_found_over w.stage) Waiting w.stage (λ t. l w Waiting refl) (λ t. h)

  gone_has : (p : List ℕ → Bool) (w : Write) → W w → W (staged w (stage_gone p w.stage))
  gone_has p w h = by_stage w.stage h
    where
      by_stage : (s : WriteStage) → W (staged w s) → W (staged w (stage_gone p s))
      by_stage Waiting t = t
      by_stage (Sends owner s) t = t
      by_stage (Finds found) t = l w (stage_gone p (Finds found)) refl

  asked_has : (call : ℕ) (held : Bool) (w : Write) → W w → W (staged w (stage_asked call held w.stage))
  asked_has call held w h = by_stage w.stage h
    where
      by_stage : (s : WriteStage) → W (staged w s) → W (staged w (stage_asked call held s))
      by_stage Waiting t = t
      by_stage (Sends owner s) t = t
      by_stage (Finds found) t = l w (stage_asked call held (Finds found)) refl

  ended_has : (single : Bool) (w : Write) → W w → W (staged w (stage_ended single w.stage))
  ended_has single w h = by_stage w.stage h
    where
      by_sending : (s : Sending) → W (staged w (Sends true s)) → W (staged w (due_again single s))
      by_sending (sending.Due since) t = by_test (λ (x : WriteStage). W (staged w x)) single (Sends false (sending.Due since)) Waiting (λ e. l w (Sends false (sending.Due since)) refl) (λ e. l w Waiting refl)
      by_sending (sending.Out call) t = t

      by_stage : (s : WriteStage) → W (staged w s) → W (staged w (stage_ended single s))
      by_stage Waiting t = t
      by_stage (Sends true s) t = by_sending s t
      by_stage (Sends false s) t = t
      by_stage (Finds found) t = t

  -- a pass

  keys_has : (step : ℕ) (es : Keyed Entry) (ss : Keyed Bool) (w : Write) → W w → W (keys_begun step es ss w).write
  keys_has step es ss w h =
      let owner = any_key w (λ k. is_some (at es k)) in
      either (λ (t : Turn). W t.write) (any_key w (λ k. is_leaving (at es k))) (record { entries = es; spoiled = ss; write = w }) (record { entries = each (begun_over w) es; spoiled = ss; write = gone_on step owner w }) h (l w (Sends owner (sending.Due step)) refl)

  by_keys_has : (step : ℕ) (es : Keyed Entry) (ss : Keyed Bool) (w : Write) → W w → W (by_keys step es ss w).write
  by_keys_has step es ss w h =
      either (λ (t : Turn). W t.write) (any_key w (λ k. is_some (at ss k))) (record { entries = es; spoiled = ss; write = w }) (keys_begun step (each (let_go_leased w) es) ss w) h (keys_has step (each (let_go_leased w) es) ss w h)

  by_ranges_has : (step : ℕ) (es : Keyed Entry) (ss : Keyed Bool) (w : Write) → W w → W (by_ranges step es ss w).write
  by_ranges_has step es ss w h =
      either W (any_covered w (each (given_up_over w) es) || any_covered w (each (spoiled_over w) ss)) w (gone_on step false w) h (l w (Sends false (sending.Due step)) refl)

  turn_has : (step : ℕ) (earlier : List Write) (es : Keyed Entry) (ss : Keyed Bool) (w : Write) → W w → W (turn step earlier es ss w).write
  turn_has step earlier es ss w h =
      let v = staged w (stage_on w.stage) in
      let k = on_has w h in
      either (λ (t : Turn). W t.write) (is_waiting v.stage && not (list_any (shares w) earlier)) (goes step es ss v) (record { entries = es; spoiled = ss; write = v })
      (either (λ (t : Turn). W t.write) (is_by_keys v) (by_keys step es ss v) (by_ranges step es ss v) (by_keys_has step es ss v k) (by_ranges_has step es ss v k)) k

  pub passed_has : (step : ℕ) (earlier : List Write) (es : Keyed Entry) (ss : Keyed Bool) (ws : List Write) → EachOf W ws → EachOf W (passed step earlier es ss ws).writes
  unfolding passed
  passed_has step earlier es ss [] h = h
  passed_has step earlier es ss (w ∷ ws) h =
      let t = turn step earlier es ss w in
      (turn_has step earlier es ss w h.0, passed_has step (t.write ∷ earlier) t.entries t.spoiled ws h.1)

  -- the end of a session

  pub over_has : (ws : List Write) → EachOf W ws → EachOf W (map (λ w. staged w (stage_ended (is_single w.request) w.stage)) ws)
  over_has ws h = each_goes (λ w. stage_ended (is_single w.request) w.stage) (λ w t. ended_has (is_single w.request) w t) ws h

  -- answers

  read_has : (o : Option Bool) (own : Ownership) → OwnHas own → EndHas (if_read o own)
  read_has None own h = tt
  read_has (Some held) own h = h

  rescind_has : (a : Answer) (own : Ownership) → OwnHas own → EndHas (rescind_answered a own)
  rescind_has (answer.Done reply) own h = read_has (guard_held reply.body) own h
  rescind_has (answer.Refused r) own h = h

  rescinded_has : (k : List ℕ) (create now : ℕ) (own : Ownership) → OwnHas own → OwnHas (rescinded k create now own)
  rescinded_has k create now own h =
      either OwnHas (is_of create (at own.entries k)) (record { entries = with_at own.entries k None; waits = record own.waits { quiet = with_at own.waits.quiet k (Some (capped (now + rest))) } }) own h h

  back_has : (p : Write → Bool) (call : ℕ) (w : Write) (o : Option Bool) (own : Ownership) → first_by p own.waits.writes ≡ Some w → OwnHas own → EndHas (revoke_back p call w o own)
  back_has p call w None own f h = tt
  back_has p call w (Some held) own f h = first_goes p w (stage_asked call held) (asked_has call held) own.waits.writes f h

  revoke_has : (p : Write → Bool) (call : ℕ) (o : Option Write) (a : Answer) (own : Ownership) → first_by p own.waits.writes ≡ o → OwnHas own → EndHas (revoke_answered p call o a own)
  revoke_has p call None a own f h = h
  revoke_has p call (Some w) (answer.Done reply) own f h = back_has p call w (guard_held reply.body) own f h
  revoke_has p call (Some w) (answer.Refused r) own f h = without_first_has p own.waits.writes h

  done_has : (session : Option ℕ) (p : Write → Bool) (w : Write) (o : Option Written) (own : Ownership) → OwnHas own → EndHas (done_if session p w o own)
  done_has session p w None own h = tt
  done_has session p w (Some (Wrote reply)) own h = without_first_has p own.waits.writes h
  done_has session p w (Some (Blocked os)) own h =
      either OwnHas _
      (staged_by own (without (owns_at w own.entries) own.entries) p (Sends false (sending.Due own.waits.step)))
      (finding session p (by_key [] (other_owners w own.entries os)) own (kept_entries w os own.entries))
      (quiet_first p _ refl own.waits.writes h) (quiet_first p _ refl own.waits.writes h)

  write_has : (session : Option ℕ) (p : Write → Bool) (o : Option Write) (a : Answer) (own : Ownership) → OwnHas own → EndHas (write_answered session p o a own)
  write_has session p None a own h = h
  write_has session p (Some w) (answer.Done reply) own h = done_has session p w (written own.waits.prefix w.request reply) own h
  write_has session p (Some w) (answer.Refused r) own h = without_first_has p own.waits.writes h

  job_has : (call : ℕ) (a : Answer) (session : Option ℕ) (now : ℕ) (o : Option WaitJob) (own : Ownership) → OwnHas own → EndHas (answered_job call a session now o own)
  job_has call a session now None own h = h
  job_has call a session now (Some (job.Rescind k create)) own h = rescind_has a (rescinded k create now own) (rescinded_has k create now own h)
  job_has call a session now (Some (job.Revoke k)) own h = revoke_has (asks call) call (first_by (asks call) own.waits.writes) a own refl h
  job_has call a session now (Some job.Write) own h = write_has session (sends call) (first_by (sends call) own.waits.writes) a own h

  pub answered_has : (call : ℕ) (a : Answer) (session : Option ℕ) (now : ℕ) (own : Ownership) → OwnHas own → EndHas (answered call a session now own)
  unfolding answered
  answered_has call a session now own h = job_has call a session now (job_of call own.waits.out) (without_out call own) h

  -- notices

  pub gone_all : (p : List ℕ → Bool) (ws : List Write) → EachOf W ws → EachOf W (map (λ w. staged w (stage_gone p w.stage)) ws)
  gone_all p ws h = each_goes (λ w. stage_gone p w.stage) (gone_has p) ws h

  put_has : (session : Option ℕ) (k : List ℕ) (create lease : ℕ) (own : Ownership) → OwnHas own → OwnHas (put_noticed session k create lease own)
  put_has session k create lease own h =
      either OwnHas (is_some (at own.waits.spoiled k)) (acquire_spoiled k own) (record own { entries = with_at own.entries k (revoked_turn session create lease (at own.entries k)) }) h h

  notice_has : (session : Option ℕ) (c : Change) (own : Ownership) → OwnHas own → OwnHas (noticed session c own)
  notice_has session (change.Put kv) own h =
      either OwnHas (same kv.value revoke_word) (put_noticed session (owned_key own.waits.prefix kv.key) kv.create kv.lease own) own (put_has session (owned_key own.waits.prefix kv.key) kv.create kv.lease own h) h
  notice_has session (change.Delete k revision) own h = gone_all (same (owned_key own.waits.prefix k)) own.waits.writes h

  pub message_has : (session : Option ℕ) (events : List Event) (own : Ownership) → OwnHas own → OwnHas (all_noticed session events own)
  message_has session [] own h = h
  message_has session (e ∷ es) own h = message_has session es (noticed session e.change own) (notice_has session e.change own h)

  -- sendings: the one whose call is sent is out under the next number

  abbrev pub SentHas : Option JobSent → Type 0
  SentHas None = Unit {0}
  SentHas (Some x) = OwnHas x.own

  abbrev pub Goes : ℕ → Type 0
  Goes call = (w : Write) (owner : Bool) → W (staged w (Sends owner (sending.Out call)))

  revoking_has : (call : ℕ) (k : List ℕ) (w : Write) → W w → W (staged w (stage_revoking call k w.stage))
  revoking_has call k w h = by_stage w.stage h
    where
      by_stage : (s : WriteStage) → W (staged w s) → W (staged w (stage_revoking call k s))
      by_stage Waiting t = t
      by_stage (Sends owner s) t = t
      by_stage (Finds found) t = l w (stage_revoking call k (Finds found)) refl

  sending_has : (call : ℕ) → Goes call → (w : Write) → W w → W (staged w (stage_sent call w.stage))
  sending_has call g w h = by_stage w.stage h
    where
      by_stage : (s : WriteStage) → W (staged w s) → W (staged w (stage_sent call s))
      by_stage Waiting t = t
      by_stage (Sends owner s) t = g w owner
      by_stage (Finds found) t = t

  call_has : (call : ℕ) → Goes call → (d : DueCall) (o : Option Write) (own : Ownership) → first_by (has_ticket d.place.number) own.waits.writes ≡ o → OwnHas own → SentHas (call_of call d o own)
  call_has call g d None own f h = tt
  call_has call g d (Some w) own f h =
      either (λ (s : JobSent). OwnHas s.own) (is_revoke d.place.kind) (revoke_job call d w own) (write_job call d w own)
      (first_goes (has_ticket d.place.number) w (stage_revoking call d.key) (revoking_has call d.key) own.waits.writes f h)
      (first_goes (has_ticket d.place.number) w (stage_sent call) (sending_has call g) own.waits.writes f h)

  calls_has : (call : ℕ) → Goes call → (o : Option DueCall) (own : Ownership) → OwnHas own → SentHas (call_sent call o own)
  calls_has call g None own h = tt
  calls_has call g (Some d) own h = call_has call g d (first_by (has_ticket d.place.number) own.waits.writes) own refl h

  after_has : (call : ℕ) → Goes call → (o : Option (List ℕ × Entry)) (own : Ownership) → OwnHas own → SentHas (job_sent_after call o own)
  after_has call g None own h = calls_has call g (first_call own.waits.writes) own h
  after_has call g (Some e) own h = h

  pub job_sent_has : (call : ℕ) → Goes call → (own : Ownership) → OwnHas own → SentHas (job_sent call own)
  unfolding job_sent
  job_sent_has call g own h = after_has call g (first_rescind own.entries) own h
