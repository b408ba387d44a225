-- What is known of each write by its stage: while its own call is out, that this call alone may have done the write; else that none did. Each
-- change of the writes keeps it, where the answer to the call that is out tells that it didn't.
use Rattle.std.proofs.Common.{◌≡◌, ℕ, ◌+◌, Bool, true, false, not, ◌&&◌, ◌||◌, List, [], ◌∷◌, map, Option, None, Some, is_some, refl, sym, ap, subst}
use Rattle.std.specs.List.{list_any}
use Rattle.etcd_types.proofs.Bools.{and_first}
use Rattle.etcd_types.specs.declared.answer.Answer.{Answer}
use Rattle.etcd_types.specs.declared.answer.Answer.TheVariants as answer
use Rattle.etcd_types.specs.declared.answer.Refusal.{Refusal}
use Rattle.etcd_types.specs.declared.answer.Reply.{Reply}
use Rattle.etcd_types.specs.declared.request.Request.{Request}
use Rattle.etcd_types.specs.declared.watch.Change.{Change}
use Rattle.etcd_types.specs.declared.watch.Change.TheVariants as change
use Rattle.etcd_types.specs.declared.watch.Event.{Event}
use Rattle.etcd_types.specs.Keys.{same}
use Rattle.proxy_model.specs.declared.lease.Entry.{Entry}
use Rattle.proxy_model.specs.declared.ownership.Owner.{Owner}
use Rattle.proxy_model.specs.declared.ownership.Written.{Written}
use Rattle.proxy_model.specs.declared.ownership.Written.TheVariants.{Wrote, Blocked}
use Rattle.proxy_model.specs.Foreign.{revoke_word}
use Rattle.proxy_model.specs.Guarded.{written}
use Rattle.proxy_model.specs.Keyed.{Keyed, at, with_at}
use Rattle.proxy_model.specs.Leaving.{guard_held}
use Rattle.proxy_model.specs.Limits.{capped}
use Rattle.wait_model.specs.declared.sending.Sending.{Sending}
use Rattle.wait_model.specs.declared.sending.Sending.TheVariants as sending
use Rattle.wait_model.specs.declared.wait.Settled.{Settled}
use Rattle.wait_model.specs.declared.wait.Settled.TheVariants as settled
use Rattle.wait_model.specs.declared.wait.WaitJob.{WaitJob}
use Rattle.wait_model.specs.declared.wait.WaitJob.TheVariants as job
use Rattle.wait_model.specs.declared.write.Write.{Write}
use Rattle.wait_model.specs.declared.write.WriteStage.{WriteStage}
use Rattle.wait_model.specs.declared.write.WriteStage.TheVariants.{Waiting, Sends, Finds}
use Rattle.wait_model.specs.Asked.{acquire_spoiled}
use Rattle.wait_model.specs.Covers.{is_single, shares, is_by_keys}
use Rattle.wait_model.specs.Edits.{each, without}
use Rattle.wait_model.specs.Endings.{revoke_back, revoke_answered, answered_job, without_out, answered, lost_job, lost, forgotten_by, forgotten}
use Rattle.wait_model.specs.ForeignOwnership.{by_key, stage_asked, stage_gone, finding}
use Rattle.wait_model.specs.GuardedAnswers.{Ending, staged_by, owns_at, other_owners, kept_entries, failed, done_if, write_answered, write_lost}
use Rattle.wait_model.specs.Leaving.{rest as quiet_time, rescinded, if_read, rescind_answered}
use Rattle.wait_model.specs.Notices.{owned_key, put_noticed, noticed, all_noticed, revoked_turn}
use Rattle.wait_model.specs.Passes.{goes, turn, passed}
use Rattle.wait_model.specs.Phases.{is_of}
use Rattle.wait_model.specs.SessionEnd.{due_again, stage_ended}
use Rattle.wait_model.specs.SeveralKeys.{by_ranges, given_up_over, spoiled_over, any_covered}
use Rattle.wait_model.specs.SingleKeys.{Turn, any_key, begun_over, let_go_leased, keys_begun, by_keys}
use Rattle.wait_model.specs.Phases.{is_leaving}
use Rattle.wait_model.specs.Stages.{staged, gone_on, is_owner, is_waiting, is_found_over, stage_on}
use Rattle.wait_model.specs.State.{Ownership}
use Rattle.wait_model.specs.Writes.{first_by, without_first, with_first, stage_sends, sends, stage_asks, asks, has_ticket, job_of}
use Rattle.core_laws.proofs.Writes.FoundWrite.{head_found, rest_found}
use Rattle.core_laws.proofs.Writes.Kept.{first_passes}
use Rattle.core_laws.proofs.Steps.Comes.{by_test}
use Rattle.core_laws.proofs.Steps.Lists.{same_number}
use Rattle.core_fits.specs.Fits.{EachOf}
use Rattle.core_fits.proofs.Found.{each_write}

module _ (N D : ℕ → Type 0) (W : ℕ → ℕ → Type 0) where
  abbrev pub StageFree : ℕ → WriteStage → Type 0
  StageFree t Waiting = N t
  StageFree t (Sends owner (sending.Due since)) = N t
  StageFree t (Sends owner (sending.Out call)) = W t call
  StageFree t (Finds found) = N t

  abbrev pub WriteFree : Write → Type 0
  WriteFree w = StageFree w.ticket w.stage

  abbrev pub AreFree : List Write → Type 0
  AreFree ws = EachOf WriteFree ws

  abbrev pub OwnFree : Ownership → Type 0
  OwnFree own = AreFree own.waits.writes

  waiting_free : (t : ℕ) (s : WriteStage) → is_waiting s ≡ true → StageFree t s → N t
  waiting_free t Waiting e h = h
  waiting_free t (Sends owner s) e h = absurd (cc)
  waiting_free t (Finds found) e h = absurd (cc)

  over_free : (t : ℕ) (s : WriteStage) → is_found_over s ≡ true → StageFree t s → N t
  over_free t Waiting e h = absurd (cc)
  over_free t (Sends owner s) e h = absurd (cc)
  over_free t (Finds found) e h = h

  -- the write whose own call this is
  pub out_free : (t call : ℕ) (s : WriteStage) → stage_sends call s ≡ true → StageFree t s → W t call
  out_free t call Waiting e h = absurd (cc)
  out_free t call (Sends owner (sending.Due since)) e h = absurd (cc)
  out_free t call (Sends owner (sending.Out n)) e h = subst (W t) (same_number n call e) h
  out_free t call (Finds found) e h = absurd (cc)

  -- the write for which this revoke call asks
  asks_free : (t call : ℕ) (s : WriteStage) → stage_asks call s ≡ true → StageFree t s → N t
  asks_free t call Waiting e h = absurd (cc)
  asks_free t call (Sends owner s) e h = absurd (cc)
  asks_free t call (Finds found) e h = h

  on_free : (t : ℕ) (s : WriteStage) → StageFree t s → StageFree t (stage_on s)
  on_free t s h = by_test (StageFree t) (is_found_over s) Waiting s (λ e. over_free t s e h) (λ e. h)

  again_free : (t : ℕ) (single : Bool) (s : Sending) → StageFree t (Sends true s) → StageFree t (due_again single s)
  again_free t single (sending.Due since) h = by_test (StageFree t) single (Sends false (sending.Due since)) Waiting (λ e. h) (λ e. h)
  again_free t single (sending.Out call) h = h

  ended_stage : (t : ℕ) (single : Bool) (s : WriteStage) → StageFree t s → StageFree t (stage_ended single s)
  ended_stage t single Waiting h = h
  ended_stage t single (Sends true s) h = again_free t single s h
  ended_stage t single (Sends false s) h = h
  ended_stage t single (Finds found) h = h

  gone_stage : (t : ℕ) (p : List ℕ → Bool) (s : WriteStage) → StageFree t s → StageFree t (stage_gone p s)
  gone_stage t p Waiting h = h
  gone_stage t p (Sends owner s) h = h
  gone_stage t p (Finds found) h = h

  asked_stage : (t call : ℕ) (held : Bool) (s : WriteStage) → StageFree t s → StageFree t (stage_asked call held s)
  asked_stage t call held Waiting h = h
  asked_stage t call held (Sends owner s) h = h
  asked_stage t call held (Finds found) h = h

  staged_free : (g : Write → WriteStage) → ((w : Write) → WriteFree w → StageFree w.ticket (g w)) → (ws : List Write) → AreFree ws → AreFree (map (λ w. staged w (g w)) ws)
  staged_free g c [] h = tt
  staged_free g c (w ∷ ws) h = (c w h.0, staged_free g c ws h.1)

  -- passes

  keys_free : (step : ℕ) (es : Keyed Entry) (ss : Keyed Bool) (w : Write) → N w.ticket → WriteFree w → WriteFree (keys_begun step es ss w).write
  keys_free step es ss w n h =
      by_test (λ (t : Turn). WriteFree t.write) (any_key w (λ k. is_leaving (at es k))) (record { entries = es; spoiled = ss; write = w }) (record { entries = each (begun_over w) es; spoiled = ss; write = gone_on step (any_key w (λ k. is_some (at es k))) w }) (λ e. h) (λ e. n)

  by_keys_free : (step : ℕ) (es : Keyed Entry) (ss : Keyed Bool) (w : Write) → N w.ticket → WriteFree w → WriteFree (by_keys step es ss w).write
  by_keys_free step es ss w n h =
      by_test (λ (t : Turn). WriteFree t.write) (any_key w (λ k. is_some (at ss k))) (record { entries = es; spoiled = ss; write = w }) (keys_begun step (each (let_go_leased w) es) ss w) (λ e. h) (λ e. keys_free step (each (let_go_leased w) es) ss w n h)

  by_ranges_free : (step : ℕ) (es : Keyed Entry) (ss : Keyed Bool) (w : Write) → N w.ticket → WriteFree w → WriteFree (by_ranges step es ss w).write
  by_ranges_free step es ss w n h =
      by_test WriteFree (any_covered w (each (given_up_over w) es) || any_covered w (each (spoiled_over w) ss)) w (gone_on step false w) (λ e. h) (λ e. n)

  goes_free : (step : ℕ) (es : Keyed Entry) (ss : Keyed Bool) (w : Write) → N w.ticket → WriteFree w → WriteFree (goes step es ss w).write
  goes_free step es ss w n h = by_test (λ (t : Turn). WriteFree t.write) (is_by_keys w) (by_keys step es ss w) (by_ranges step es ss w) (λ e. by_keys_free step es ss w n h) (λ e. by_ranges_free step es ss w n h)

  turn_free : (step : ℕ) (earlier : List Write) (es : Keyed Entry) (ss : Keyed Bool) (w : Write) → WriteFree w → WriteFree (turn step earlier es ss w).write
  turn_free step earlier es ss w h =
      let v = staged w (stage_on w.stage) in
      let k : WriteFree v = on_free w.ticket w.stage h in
      by_test (λ (t : Turn). WriteFree t.write) (is_waiting v.stage && not (list_any (shares w) earlier)) (goes step es ss v) (record { entries = es; spoiled = ss; write = v })
      (λ e. goes_free step es ss v (waiting_free v.ticket v.stage (and_first (is_waiting v.stage) (not (list_any (shares w) earlier)) e) k) k) (λ e. k)

  pub passed_free : (step : ℕ) (earlier : List Write) (es : Keyed Entry) (ss : Keyed Bool) (ws : List Write) → AreFree ws → AreFree (passed step earlier es ss ws).writes
  unfolding passed
  passed_free step earlier es ss [] h = tt
  passed_free step earlier es ss (w ∷ ws) h =
      let t = turn step earlier es ss w in
      (turn_free step earlier es ss w h.0, passed_free step (t.write ∷ earlier) t.entries t.spoiled ws h.1)

  -- the first that passes

  without_free : (p : Write → Bool) (ws : List Write) → AreFree ws → AreFree (without_first p ws)
  without_free p [] h = tt
  without_free p (w ∷ ws) h = by_test AreFree (p w) ws (w ∷ without_first p ws) (λ e. h.1) (λ e. (h.0, without_free p ws h.1))

  first_free : (p : Write → Bool) (s : WriteStage) (w : Write) (ws : List Write) → first_by p ws ≡ Some w → StageFree w.ticket s → AreFree ws → AreFree (with_first p s ws)
  first_free p s w [] f g h = tt
  first_free p s w (v ∷ vs) f g h =
      by_test AreFree (p v) (staged v s ∷ vs) (v ∷ with_first p s vs) (λ t. (subst (λ (x : Write). StageFree x.ticket s) (sym (head_found p v w vs t f)) g, h.1)) (λ t. (h.0, first_free p s w vs (rest_found p v w vs t f) g h.1))

  -- answers and losses

  abbrev pub SettledFree : Settled → Type 0
  SettledFree settled.Nothing = Unit {0}
  SettledFree (settled.Reply t (answer.Done reply)) = D t
  SettledFree (settled.Reply t (answer.Refused r)) = N t
  SettledFree (settled.Failed t) = Unit {0}

  abbrev pub EndFree : Option Ending → Type 0
  EndFree None = Unit {0}
  EndFree (Some x) = OwnFree x.own × SettledFree x.settled

  -- what is heard of the call tells that it did the write, or that it didn't
  pub record Settles (call : ℕ) (a : Answer) : Type 0 where
    pub refused : (r : Refusal) → a ≡ answer.Refused r → (t : ℕ) → W t call → N t
    pub blocked : (reply : Reply) → a ≡ answer.Done reply → (prefix : List ℕ) (q : Request) (os : List Owner) → written prefix q reply ≡ Some (Blocked os) → (t : ℕ) → W t call → N t
    pub wrote : (reply : Reply) → a ≡ answer.Done reply → (prefix : List ℕ) (q : Request) (r : Reply) → written prefix q reply ≡ Some (Wrote r) → (t : ℕ) → W t call → D t

  fails_free : (session : Option ℕ) (p : Write → Bool) (w : Write) (os : List Owner) (own : Ownership) → N w.ticket → first_by p own.waits.writes ≡ Some w → OwnFree own → OwnFree (failed session p w os own)
  fails_free session p w os own n f h =
      by_test OwnFree (is_owner w.stage && is_single w.request) (staged_by own (without (owns_at w own.entries) own.entries) p (Sends false (sending.Due own.waits.step)))
      (finding session p (by_key [] (other_owners w own.entries os)) own (kept_entries w os own.entries)) (λ e. first_free p _ w own.waits.writes f n h) (λ e. first_free p _ w own.waits.writes f n h)

  done_free : (session : Option ℕ) (p : Write → Bool) (w : Write) (o : Option Written) (own : Ownership) → ((os : List Owner) → o ≡ Some (Blocked os) → N w.ticket) → ((r : Reply) → o ≡ Some (Wrote r) → D w.ticket) → first_by p own.waits.writes ≡ Some w → OwnFree own → EndFree (done_if session p w o own)
  done_free session p w None own n d f h = tt
  done_free session p w (Some (Wrote reply)) own n d f h = (without_free p own.waits.writes h, d reply refl)
  done_free session p w (Some (Blocked os)) own n d f h = (fails_free session p w os own (n os refl) f h, tt)

  write_free : (session : Option ℕ) (call : ℕ) (o : Option Write) (a : Answer) (own : Ownership) → Settles call a → first_by (sends call) own.waits.writes ≡ o → OwnFree own → EndFree (write_answered session (sends call) o a own)
  write_free session call None a own s f h = (h, tt)
  write_free session call (Some w) (answer.Done reply) own s f h =
      let k = out_free w.ticket call w.stage (first_passes (sends call) own.waits.writes w f) (each_write WriteFree (sends call) own.waits.writes w h f) in
      done_free session (sends call) w (written own.waits.prefix w.request reply) own (λ os e. s.blocked reply refl own.waits.prefix w.request os e w.ticket k) (λ r e. s.wrote reply refl own.waits.prefix w.request r e w.ticket k) f h
  write_free session call (Some w) (answer.Refused r) own s f h =
      (without_free (sends call) own.waits.writes h, s.refused r refl w.ticket (out_free w.ticket call w.stage (first_passes (sends call) own.waits.writes w f) (each_write WriteFree (sends call) own.waits.writes w h f)))

  back_free : (call : ℕ) (w : Write) (o : Option Bool) (own : Ownership) → first_by (asks call) own.waits.writes ≡ Some w → OwnFree own → EndFree (revoke_back (asks call) call w o own)
  back_free call w None own f h = tt
  back_free call w (Some held) own f h = (first_free (asks call) (stage_asked call held w.stage) w own.waits.writes f (asked_stage w.ticket call held w.stage (each_write WriteFree (asks call) own.waits.writes w h f)) h, tt)

  revoke_free : (call : ℕ) (o : Option Write) (a : Answer) (own : Ownership) → first_by (asks call) own.waits.writes ≡ o → OwnFree own → EndFree (revoke_answered (asks call) call o a own)
  revoke_free call None a own f h = (h, tt)
  revoke_free call (Some w) (answer.Done reply) own f h = back_free call w (guard_held reply.body) own f h
  revoke_free call (Some w) (answer.Refused r) own f h =
      (without_free (asks call) own.waits.writes h, asks_free w.ticket call w.stage (first_passes (asks call) own.waits.writes w f) (each_write WriteFree (asks call) own.waits.writes w h f))

  read_free : (o : Option Bool) (own : Ownership) → OwnFree own → EndFree (if_read o own)
  read_free None own h = tt
  read_free (Some held) own h = (h, tt)

  rescind_free : (a : Answer) (own : Ownership) → OwnFree own → EndFree (rescind_answered a own)
  rescind_free (answer.Done reply) own h = read_free (guard_held reply.body) own h
  rescind_free (answer.Refused r) own h = (h, tt)

  rescinded_free : (k : List ℕ) (create now : ℕ) (own : Ownership) → OwnFree own → OwnFree (rescinded k create now own)
  rescinded_free k create now own h =
      by_test OwnFree (is_of create (at own.entries k)) (record { entries = with_at own.entries k None; waits = record own.waits { quiet = with_at own.waits.quiet k (Some (capped (now + quiet_time))) } }) own (λ e. h) (λ e. h)

  pub answered_free : (call : ℕ) (a : Answer) (session : Option ℕ) (now : ℕ) (own : Ownership) → Settles call a → OwnFree own → EndFree (answered call a session now own)
  unfolding answered
  answered_free call a session now own s h = by (job_of call own.waits.out)
    where
      by : (o : Option WaitJob) → EndFree (answered_job call a session now o (without_out call own))
      by None = (h, tt)
      by (Some (job.Rescind k create)) = rescind_free a (rescinded k create now (without_out call own)) (rescinded_free k create now (without_out call own) h)
      by (Some (job.Revoke k)) = revoke_free call (first_by (asks call) own.waits.writes) a (without_out call own) refl h
      by (Some job.Write) = write_free session call (first_by (sends call) own.waits.writes) a (without_out call own) s refl h

  gives_up_free : (p : Write → Bool) (o : Option Write) (own : Ownership) → OwnFree own → EndFree (Some (write_lost p o own))
  gives_up_free p None own h = (h, tt)
  gives_up_free p (Some w) own h = (without_free p own.waits.writes h, tt)

  pub lost_free : (call : ℕ) (own : Ownership) → OwnFree own → EndFree (Some (lost call own))
  unfolding lost
  lost_free call own h = by (job_of call own.waits.out)
    where
      by : (o : Option WaitJob) → EndFree (Some (lost_job call o (without_out call own)))
      by None = (h, tt)
      by (Some (job.Rescind k create)) = (h, tt)
      by (Some (job.Revoke k)) = gives_up_free (asks call) (first_by (asks call) own.waits.writes) (without_out call own) h
      by (Some job.Write) = gives_up_free (sends call) (first_by (sends call) own.waits.writes) (without_out call own) h

  -- what is forgotten

  forget_free : (p : Write → Bool) (o : Option Write) (own : Ownership) → OwnFree own → OwnFree (forgotten_by p o own)
  forget_free p None own h = h
  forget_free p (Some w) own h = without_free p own.waits.writes h

  pub forgotten_free : (ticket : ℕ) (own : Ownership) → OwnFree own → OwnFree (forgotten ticket own)
  unfolding forgotten
  forgotten_free ticket own h = forget_free (has_ticket ticket) (first_by (has_ticket ticket) own.waits.writes) own h

  -- the session's end, and notices

  pub ended_free : (ws : List Write) → AreFree ws → AreFree (map (λ w. staged w (stage_ended (is_single w.request) w.stage)) ws)
  ended_free ws h = staged_free (λ w. stage_ended (is_single w.request) w.stage) (λ w k. ended_stage w.ticket (is_single w.request) w.stage k) ws h

  pub gone_free : (p : List ℕ → Bool) (ws : List Write) → AreFree ws → AreFree (map (λ w. staged w (stage_gone p w.stage)) ws)
  gone_free p ws h = staged_free (λ w. stage_gone p w.stage) (λ w k. gone_stage w.ticket p w.stage k) ws h

  put_free : (session : Option ℕ) (k : List ℕ) (create lease : ℕ) (own : Ownership) → OwnFree own → OwnFree (put_noticed session k create lease own)
  put_free session k create lease own h =
      by_test OwnFree (is_some (at own.waits.spoiled k)) (acquire_spoiled k own) (record own { entries = with_at own.entries k (revoked_turn session create lease (at own.entries k)) }) (λ t. h) (λ t. h)

  notice_free : (session : Option ℕ) (c : Change) (own : Ownership) → OwnFree own → OwnFree (noticed session c own)
  notice_free session (change.Put kv) own h =
      by_test OwnFree (same kv.value revoke_word) (put_noticed session (owned_key own.waits.prefix kv.key) kv.create kv.lease own) own (λ t. put_free session (owned_key own.waits.prefix kv.key) kv.create kv.lease own h) (λ t. h)
  notice_free session (change.Delete k revision) own h = gone_free (same (owned_key own.waits.prefix k)) own.waits.writes h

  pub message_free : (session : Option ℕ) (events : List Event) (own : Ownership) → OwnFree own → OwnFree (all_noticed session events own)
  message_free session [] own h = h
  message_free session (e ∷ es) own h = message_free session es (noticed session e.change own) (notice_free session e.change own h)
