-- What steps on ownership do at each key, as far as reads look at it: no key is owned by them, and no mark comes or goes.
use Rattle.std.proofs.Common.{◌≡◌, ℕ, Bool, true, false, not, cond, nat_lt, ◌&&◌, ◌||◌, ◌==◌, List, [], ◌∷◌, Option, None, Some, is_some, refl, sym, ◌∙◌, ap, subst}
use Rattle.std.specs.List.{list_any}
use Rattle.etcd_types.specs.Keys.{same}
use Rattle.etcd_types.proofs.KeyOrder.{same-equal}
use Rattle.etcd_types.specs.declared.answer.Answer.{Answer}
use Rattle.etcd_types.specs.declared.answer.Answer.TheVariants as answer
use Rattle.proxy_model.specs.declared.lease.Entry.{Entry}
use Rattle.proxy_model.specs.declared.lease.Phase.{Phase}
use Rattle.proxy_model.specs.declared.lease.Phase.TheVariants.{Held, Writing, Leaving}
use Rattle.proxy_model.specs.declared.ownership.Owner.{Owner}
use Rattle.proxy_model.specs.declared.ownership.Written.{Written}
use Rattle.proxy_model.specs.declared.ownership.Written.TheVariants.{Wrote, Blocked}
use Rattle.etcd_types.specs.declared.watch.Change.{Change}
use Rattle.etcd_types.specs.declared.watch.Change.TheVariants as change
use Rattle.etcd_types.specs.declared.watch.Event.{Event}
use Rattle.proxy_model.specs.Foreign.{revoke_word}
use Rattle.proxy_model.specs.Guarded.{written}
use Rattle.proxy_model.specs.Leaving.{guard_held}
use Rattle.proxy_model.proofs.KeyedLaws.{at-with_at}
use Rattle.proxy_model.specs.Keyed.{Keyed, at, with_at, changed_at}
use Rattle.read_model.specs.Fits.{is_owned}
use Rattle.std.specs.Option.{option_map}
use Rattle.core_laws.proofs.Writes.Phases.{some-mapped, if_at}
use Rattle.wait_model.proofs.Tables.{at-each, at-without}
use Rattle.wait_model.specs.Asked.{acquire_spoiled}
use Rattle.wait_model.specs.Covers.{covers, leased, shares, is_by_keys, is_single}
use Rattle.wait_model.specs.Edits.{each, without}
use Rattle.wait_model.specs.Endings.{revoke_back, revoke_answered, answered_job, without_out, answered, lost_job, lost, given_back, forgotten_by, forgotten}
use Rattle.wait_model.specs.ForeignOwnership.{by_key, is_own, owned_left}
use Rattle.wait_model.specs.GuardedAnswers.{Ending, owns, owns_at, change_owned, is_gone, kept_entries, other_owners, failed, done_if, write_answered, write_lost}
use Rattle.wait_model.specs.LeasingStream.{all_given_up}
use Rattle.wait_model.specs.Leaving.{rescinded, if_read, rescind_answered}
use Rattle.wait_model.specs.Notices.{owned_key, noticed, all_noticed, revoked_turn, deleted_turn, deleted_phase, put_noticed, delete_noticed}
use Rattle.wait_model.specs.Passes.{goes, turn, passed, proceeded}
use Rattle.wait_model.specs.Phases.{phase_sent, rescind_sent, phase_let_go, phase_begun, let_go, begun, is_leaving, if_written, own_entry, is_of, is_session}
use Rattle.wait_model.specs.SeveralKeys.{given_up_over, spoiled_over, by_ranges}
use Rattle.wait_model.specs.SingleKeys.{Turn, let_go_leased, begun_over, keys_begun, by_keys, any_key}
use Rattle.wait_model.specs.Stages.{is_due, is_owner, gone_on, is_waiting, staged, stage_on}
use Rattle.wait_model.specs.State.{Ownership}
use Rattle.wait_model.specs.Writes.{first_by, sends, asks, job_of, has_ticket}
use Rattle.proxy_model.specs.LeaseTable.{is_held_phase, is_writing_phase, is_writing, given_up, phase_given_up, unwritten}
use Rattle.wait_model.specs.declared.write.Write.{Write}
use Rattle.wait_model.specs.declared.wait.WaitJob.{WaitJob}
use Rattle.wait_model.specs.declared.wait.WaitJob.TheVariants as job

-- no key becomes owned
abbrev pub Owns : Keyed Entry → Keyed Entry → Type 0
Owns es fs = (k : List ℕ) → is_owned (at fs k) ≡ true → is_owned (at es k) ≡ true

-- one change at each key

changed_owned : (f : Entry → Entry) → ((x : Entry) → is_owned (Some (f x)) ≡ true → is_owned (Some x) ≡ true) → (e : Option Entry) → is_owned (option_map f e) ≡ true → is_owned e ≡ true
changed_owned f g None t = t
changed_owned f g (Some x) t = g x t

pub each_owns : (f : List ℕ → Entry → Entry) (es : Keyed Entry) → ((k : List ℕ) (x : Entry) → is_owned (Some (f k x)) ≡ true → is_owned (Some x) ≡ true) → Owns es (each f es)
each_owns f es g k t = changed_owned (f k) (g k) (at es k) (sym (ap is_owned (at-each f es k)) ∙ t)

if_written_owned : (b : Bool) (f : Entry → Entry) (x : Entry) → is_owned (Some (if_written b f x)) ≡ true → is_owned (Some x) ≡ true
if_written_owned b f x t = by_phase b x.phase refl t
  where
    by_phase : (b : Bool) (p : Phase) → x.phase ≡ p → is_owned (Some (cond (b && is_writing_phase p) (f x) x)) ≡ true → is_held_phase x.phase || is_writing_phase x.phase ≡ true
    by_phase true (Writing revoked) q t = ap (λ (p : Phase). is_held_phase p || is_writing_phase p) q
    by_phase true Held q t = t
    by_phase true (Leaving sent) q t = t
    by_phase false p q t = t

pub change_owns : (w : Write) (f : List ℕ → Entry → Entry) (es : Keyed Entry) → Owns es (change_owned w f es)
change_owns w f es = each_owns (λ k e. if_written (owns w k) (f k) e) es (λ k x t. if_written_owned (owns w k) (f k) x t)

pub without_owns : (p : List ℕ → Bool) (es : Keyed Entry) → Owns es (without p es)
without_owns p es k t = by_test (p k) (sym (ap is_owned (at-without p es k)) ∙ t)
  where
    by_test : (b : Bool) → is_owned (cond b None (at es k)) ≡ true → is_owned (at es k) ≡ true
    by_test true t = absurd (cc)
    by_test false t = t

pub with_owns : (es : Keyed Entry) (k : List ℕ) (o : Option Entry) → (is_owned o ≡ true → is_owned (at es k) ≡ true) → Owns es (with_at es k o)
with_owns es k o g j t = by_test (same k j) refl (sym (ap is_owned (at-with_at es k j o)) ∙ t)
  where
    by_test : (b : Bool) → same k j ≡ b → is_owned (cond b o (at es j)) ≡ true → is_owned (at es j) ≡ true
    by_test true s t = subst (λ (i : List ℕ). is_owned (at es i) ≡ true) (same-equal k j s) (g t)
    by_test false s t = t

pub cond_owns : (b : Bool) (es fs gs : Keyed Entry) → Owns es fs → Owns es gs → Owns es (cond b fs gs)
cond_owns true es fs gs x y = x
cond_owns false es fs gs x y = y

left_owns : (session : Option ℕ) (os : Keyed Owner) (es : Keyed Entry) → Owns es (owned_left session os es)
left_owns session [] es k t = t
left_owns session (o ∷ os) es k t =
    let fs = cond (is_own session es o) (with_at es o.0 (Some (own_entry o.1.create))) es in
    cond_owns (is_own session es o) es (with_at es o.0 (Some (own_entry o.1.create))) es (with_owns es o.0 (Some (own_entry o.1.create)) (λ h. absurd (cc))) (λ j h. h) k (left_owns session os fs k t)

-- What answers do: the marks are as they were.
pub record Calm (own next : Ownership) : Type 0 where
  pub spoiled : next.waits.spoiled ≡ own.waits.spoiled
  pub owns : Owns own.entries next.entries

abbrev pub CalmIf : Ownership → Option Ending → Type 0
CalmIf own None = Unit {0}
CalmIf own (Some x) = Calm own x.own

kept_owns : (w : Write) (os : List Owner) (es : Keyed Entry) → Owns es (kept_entries w os es)
kept_owns w os es k t =
    without_owns (is_gone w es os) es k (change_owns w (λ j e. unwritten e) (without (is_gone w es os) es) k t)

pub by_test : {A : Type 0} (P : A → Type 0) (b : Bool) (x y : A) → P x → P y → P (cond b x y)
by_test P true x y f g = f
by_test P false x y f g = g

failed_calm : (session : Option ℕ) (p : Write → Bool) (w : Write) (os : List Owner) (own : Ownership) → Calm own (failed session p w os own)
failed_calm session p w os own =
    by_test (Calm own) (is_owner w.stage && is_single w.request) _ _
    (record { spoiled = refl; owns = without_owns (owns_at w own.entries) own.entries })
    (record { spoiled = refl; owns = λ k t. kept_owns w os own.entries k (left_owns session (by_key [] (other_owners w own.entries os)) (kept_entries w os own.entries) k t) })

done_calm : (session : Option ℕ) (p : Write → Bool) (w : Write) (o : Option Written) (own : Ownership) → CalmIf own (done_if session p w o own)
done_calm session p w None own = tt
done_calm session p w (Some (Wrote reply)) own = record { spoiled = refl; owns = change_owns w _ own.entries }
done_calm session p w (Some (Blocked os)) own = failed_calm session p w os own

write_calm : (session : Option ℕ) (p : Write → Bool) (o : Option Write) (a : Answer) (own : Ownership) → CalmIf own (write_answered session p o a own)
write_calm session p None a own = record { spoiled = refl; owns = λ k t. t }
write_calm session p (Some w) (answer.Done reply) own = done_calm session p w (written own.waits.prefix w.request reply) own
write_calm session p (Some w) (answer.Refused r) own = record { spoiled = refl; owns = change_owns w _ own.entries }

back_calm : (p : Write → Bool) (call : ℕ) (w : Write) (o : Option Bool) (own : Ownership) → CalmIf own (revoke_back p call w o own)
back_calm p call w None own = tt
back_calm p call w (Some held) own = record { spoiled = refl; owns = λ k t. t }

revoke_calm : (p : Write → Bool) (call : ℕ) (o : Option Write) (a : Answer) (own : Ownership) → CalmIf own (revoke_answered p call o a own)
revoke_calm p call None a own = record { spoiled = refl; owns = λ k t. t }
revoke_calm p call (Some w) (answer.Done reply) own = back_calm p call w (guard_held reply.body) own
revoke_calm p call (Some w) (answer.Refused r) own = record { spoiled = refl; owns = λ k t. t }

rescinded_calm : (k : List ℕ) (create now : ℕ) (own : Ownership) → Calm own (rescinded k create now own)
rescinded_calm k create now own =
    by_test (Calm own) (is_of create (at own.entries k)) _ own (record { spoiled = refl; owns = with_owns own.entries k None (λ h. absurd (cc)) }) (record { spoiled = refl; owns = λ j t. t })

read_calm : (o : Option Bool) (own next : Ownership) → Calm own next → CalmIf own (if_read o next)
read_calm None own next h = tt
read_calm (Some held) own next h = h

rescind_calm : (a : Answer) (own next : Ownership) → Calm own next → CalmIf own (rescind_answered a next)
rescind_calm (answer.Done reply) own next h = read_calm (guard_held reply.body) own next h
rescind_calm (answer.Refused r) own next h = h

job_calm : (call : ℕ) (a : Answer) (session : Option ℕ) (now : ℕ) (o : Option WaitJob) (own : Ownership) → CalmIf own (answered_job call a session now o own)
job_calm call a session now None own = record { spoiled = refl; owns = λ k t. t }
job_calm call a session now (Some (job.Rescind k create)) own = rescind_calm a own (rescinded k create now own) (rescinded_calm k create now own)
job_calm call a session now (Some (job.Revoke k)) own = revoke_calm (asks call) call (first_by (asks call) own.waits.writes) a own
job_calm call a session now (Some job.Write) own = write_calm session (sends call) (first_by (sends call) own.waits.writes) a own

outed : (call : ℕ) (own : Ownership) (o : Option Ending) → CalmIf (without_out call own) o → CalmIf own o
outed call own None h = h
outed call own (Some x) h = record { spoiled = h.spoiled; owns = h.owns }

pub answered_calm : (call : ℕ) (a : Answer) (session : Option ℕ) (now : ℕ) (own : Ownership) → CalmIf own (answered call a session now own)
unfolding answered
answered_calm call a session now own = outed call own (answered_job call a session now (job_of call own.waits.out) (without_out call own)) (job_calm call a session now (job_of call own.waits.out) (without_out call own))

unsent_owned : (p : Phase) → is_held_phase (phase_sent false p) || is_writing_phase (phase_sent false p) ≡ true → is_held_phase p || is_writing_phase p ≡ true
unsent_owned Held t = t
unsent_owned (Writing revoked) t = t
unsent_owned (Leaving sent) t = t

write_lost_calm : (p : Write → Bool) (o : Option Write) (own : Ownership) → Calm own (write_lost p o own).own
write_lost_calm p None own = record { spoiled = refl; owns = λ k t. t }
write_lost_calm p (Some w) own = record { spoiled = refl; owns = change_owns w _ own.entries }

lost_job_calm : (call : ℕ) (o : Option WaitJob) (own : Ownership) → Calm own (lost_job call o own).own
lost_job_calm call None own = record { spoiled = refl; owns = λ k t. t }
lost_job_calm call (Some (job.Rescind k create)) own = record { spoiled = refl; owns = with_owns own.entries k _ (λ t. changed_owned (λ e. cond (e.create == create) (rescind_sent false e) e) (λ x t. by_test (λ (y : Entry). is_owned (Some y) ≡ true → is_owned (Some x) ≡ true) (x.create == create) (rescind_sent false x) x (unsent_owned x.phase) (λ u. u) t) (at own.entries k) t) }
lost_job_calm call (Some (job.Revoke k)) own = write_lost_calm (asks call) (first_by (asks call) own.waits.writes) own
lost_job_calm call (Some job.Write) own = write_lost_calm (sends call) (first_by (sends call) own.waits.writes) own

pub lost_calm : (call : ℕ) (own : Ownership) → Calm own (lost call own).own
unfolding lost
lost_calm call own = let h = lost_job_calm call (job_of call own.waits.out) (without_out call own) in record { spoiled = h.spoiled; owns = h.owns }

given_back_owns : (w : Write) (es : Keyed Entry) → Owns es (given_back w es)
given_back_owns w es = cond_owns (is_due w.stage) es _ _ (change_owns w _ es) (change_owns w _ es)

forgotten_by_calm : (p : Write → Bool) (o : Option Write) (own : Ownership) → Calm own (forgotten_by p o own)
forgotten_by_calm p None own = record { spoiled = refl; owns = λ k t. t }
forgotten_by_calm p (Some w) own = record { spoiled = refl; owns = given_back_owns w own.entries }

pub forgotten_calm : (ticket : ℕ) (own : Ownership) → Calm own (forgotten ticket own)
unfolding forgotten
forgotten_calm ticket own = forgotten_by_calm (has_ticket ticket) (first_by (has_ticket ticket) own.waits.writes) own

-- A pass: what is written stays so, no key becomes owned, no mark comes or goes.

pub record StaysAt (e f : Option Entry) (s t : Option Bool) : Type 0 where
  pub writing : is_writing e ≡ true → is_writing f ≡ true
  pub owned : is_owned f ≡ true → is_owned e ≡ true
  pub mark : is_some t ≡ is_some s

abbrev pub Stays : Keyed Entry → Keyed Bool → Keyed Entry → Keyed Bool → Type 0
Stays es ss fs ts = (k : List ℕ) → StaysAt (at es k) (at fs k) (at ss k) (at ts k)

pub stays_itself : (es : Keyed Entry) (ss : Keyed Bool) → Stays es ss es ss
stays_itself es ss k = record { writing = λ t. t; owned = λ t. t; mark = refl }

stays_on : (es fs gs : Keyed Entry) (ss ts us : Keyed Bool) → Stays es ss fs ts → Stays fs ts gs us → Stays es ss gs us
stays_on es fs gs ss ts us x y k = record { writing = λ t. (y k).writing ((x k).writing t); owned = λ t. (x k).owned ((y k).owned t); mark = (y k).mark ∙ (x k).mark }

-- at one entry, where its phase changes at a test
pub record Gentle (f : Entry → Entry) : Type 0 where
  pub writing : (x : Entry) → is_writing_phase x.phase ≡ true → is_writing_phase (f x).phase ≡ true
  pub owned : (x : Entry) → is_owned (Some (f x)) ≡ true → is_owned (Some x) ≡ true

let_go_gentle : Gentle let_go
let_go_gentle = record { writing = λ x. w x.phase; owned = λ x. o x.phase }
  where
    w : (p : Phase) → is_writing_phase p ≡ true → is_writing_phase (phase_let_go p) ≡ true
    w Held t = absurd (cc)
    w (Writing revoked) t = t
    w (Leaving sent) t = t

    o : (p : Phase) → is_held_phase (phase_let_go p) || is_writing_phase (phase_let_go p) ≡ true → is_held_phase p || is_writing_phase p ≡ true
    o Held t = refl
    o (Writing revoked) t = t
    o (Leaving sent) t = t

begun_gentle : Gentle begun
begun_gentle = record { writing = λ x. w x.phase; owned = λ x. o x.phase }
  where
    w : (p : Phase) → is_writing_phase p ≡ true → is_writing_phase (phase_begun p) ≡ true
    w Held t = refl
    w (Writing revoked) t = t
    w (Leaving sent) t = t

    o : (p : Phase) → is_held_phase (phase_begun p) || is_writing_phase (phase_begun p) ≡ true → is_held_phase p || is_writing_phase p ≡ true
    o Held t = refl
    o (Writing revoked) t = t
    o (Leaving sent) t = t

pub given_up_gentle : Gentle given_up
given_up_gentle = record { writing = λ x. w x.phase; owned = λ x. o x.phase }
  where
    w : (p : Phase) → is_writing_phase p ≡ true → is_writing_phase (phase_given_up p) ≡ true
    w Held t = absurd (cc)
    w (Writing revoked) t = refl
    w (Leaving sent) t = t

    o : (p : Phase) → is_held_phase (phase_given_up p) || is_writing_phase (phase_given_up p) ≡ true → is_held_phase p || is_writing_phase p ≡ true
    o Held t = refl
    o (Writing revoked) t = refl
    o (Leaving sent) t = t

gently : (f : Entry → Entry) (b : Bool) → Gentle f → (e : Option Entry) (s t : Option Bool) → is_some t ≡ is_some s → StaysAt e (option_map (if_at b f) e) s t
gently f b g None s t m = record { writing = λ h. h; owned = λ h. h; mark = m }
gently f true g (Some x) s t m = record { writing = g.writing x; owned = g.owned x; mark = m }
gently f false g (Some x) s t m = record { writing = λ h. h; owned = λ h. h; mark = m }

keys_begun_stays : (step : ℕ) (es : Keyed Entry) (ss : Keyed Bool) (w : Write) → Stays es ss (keys_begun step es ss w).entries (keys_begun step es ss w).spoiled
keys_begun_stays step es ss w =
    by_test (λ (t : Turn). Stays es ss t.entries t.spoiled) (any_key w (λ k. is_leaving (at es k))) (record { entries = es; spoiled = ss; write = w }) (record { entries = each (begun_over w) es; spoiled = ss; write = gone_on step (any_key w (λ k. is_some (at es k))) w })
    (stays_itself es ss)
    (λ k. rw (at-each (begun_over w) es k) (gently begun (covers w k) begun_gentle (at es k) (at ss k) (at ss k) refl))

by_keys_stays : (step : ℕ) (es : Keyed Entry) (ss : Keyed Bool) (w : Write) → Stays es ss (by_keys step es ss w).entries (by_keys step es ss w).spoiled
by_keys_stays step es ss w =
    let fs = each (let_go_leased w) es in
    let t = keys_begun step fs ss w in
    by_test (λ (t : Turn). Stays es ss t.entries t.spoiled) (any_key w (λ k. is_some (at ss k))) (record { entries = es; spoiled = ss; write = w }) t
    (stays_itself es ss)
    (stays_on es fs t.entries ss ss t.spoiled (λ k. rw (at-each (let_go_leased w) es k) (gently let_go (covers w k && leased w.request k) let_go_gentle (at es k) (at ss k) (at ss k) refl)) (keys_begun_stays step fs ss w))

by_ranges_stays : (step : ℕ) (es : Keyed Entry) (ss : Keyed Bool) (w : Write) → Stays es ss (by_ranges step es ss w).entries (by_ranges step es ss w).spoiled
by_ranges_stays step es ss w k =
    rw (at-each (given_up_over w) es k, at-each (spoiled_over w) ss k) (gently given_up (covers w k) given_up_gentle (at es k) (at ss k) (option_map (λ x. covers w k || x) (at ss k)) (some-mapped (λ x. covers w k || x) (at ss k)))

turn_stays : (step : ℕ) (earlier : List Write) (es : Keyed Entry) (ss : Keyed Bool) (w : Write) → Stays es ss (turn step earlier es ss w).entries (turn step earlier es ss w).spoiled
turn_stays step earlier es ss w =
    let v = staged w (stage_on w.stage) in
    let P = λ (t : Turn). Stays es ss t.entries t.spoiled in
    by_test P (is_waiting v.stage && not (list_any (shares w) earlier)) (goes step es ss v) (record { entries = es; spoiled = ss; write = v })
    (by_test P (is_by_keys v) (by_keys step es ss v) (by_ranges step es ss v) (by_keys_stays step es ss v) (by_ranges_stays step es ss v))
    (stays_itself es ss)

pass_stays : (step : ℕ) (earlier : List Write) (es : Keyed Entry) (ss : Keyed Bool) (ws : List Write) → Stays es ss (passed step earlier es ss ws).entries (passed step earlier es ss ws).spoiled
unfolding passed
pass_stays step earlier es ss [] = stays_itself es ss
pass_stays step earlier es ss (w ∷ ws) =
    let t = turn step earlier es ss w in
    let p = passed step (t.write ∷ earlier) t.entries t.spoiled ws in
    stays_on es t.entries p.entries ss t.spoiled p.spoiled (turn_stays step earlier es ss w) (pass_stays step (t.write ∷ earlier) t.entries t.spoiled ws)

pub proceeded_stays : (own : Ownership) → Stays own.entries own.waits.spoiled (proceeded own).entries (proceeded own).waits.spoiled
proceeded_stays own = pass_stays own.waits.step [] own.entries own.waits.spoiled own.waits.writes

-- Notices.

one_stays : (es : Keyed Entry) (ss : Keyed Bool) (k : List ℕ) (o : Option Entry) → StaysAt (at es k) o (at ss k) (at ss k) → Stays es ss (with_at es k o) ss
one_stays es ss k o x j = rw (at-with_at es k j o) (of_test (same k j) refl)
  where
    of_test : (b : Bool) → same k j ≡ b → StaysAt (at es j) (cond b o (at es j)) (at ss j) (at ss j)
    of_test true t = subst (λ (i : List ℕ). StaysAt (at es i) o (at ss i) (at ss i)) (same-equal k j t) x
    of_test false t = record { writing = λ h. h; owned = λ h. h; mark = refl }

revoked_stays : (session : Option ℕ) (create lease : ℕ) (e : Option Entry) (s : Option Bool) → StaysAt e (revoked_turn session create lease e) s s
revoked_stays session create lease None s =
    by_test (λ (f : Option Entry). StaysAt None f s s) (is_session session lease) (Some (own_entry create)) None (record { writing = λ h. absurd (cc); owned = λ h. absurd (cc); mark = refl }) (record { writing = λ h. h; owned = λ h. h; mark = refl })
revoked_stays session create lease (Some e) s =
    by_test (λ (f : Option Entry). StaysAt (Some e) f s s) (e.create == create) (Some (given_up e)) (Some e) (gently given_up true given_up_gentle (Some e) s s refl) (record { writing = λ h. h; owned = λ h. h; mark = refl })

marked_stays : (es : Keyed Entry) (ss : Keyed Bool) (k : List ℕ) → Stays es ss es (changed_at ss k (λ s. true))
marked_stays es ss k j = rw (at-with_at ss k j (option_map (λ s. true) (at ss k))) (record { writing = λ h. h; owned = λ h. h; mark = of_test (same k j) refl })
  where
    of_test : (b : Bool) → same k j ≡ b → is_some (cond b (option_map (λ (s : Bool). true) (at ss k)) (at ss j)) ≡ is_some (at ss j)
    of_test true t = some-mapped (λ s. true) (at ss k) ∙ ap (λ (i : List ℕ). is_some (at ss i)) (same-equal k j t)
    of_test false t = refl

pub put_stays : (session : Option ℕ) (k : List ℕ) (create lease : ℕ) (own : Ownership) → Stays own.entries own.waits.spoiled (put_noticed session k create lease own).entries (put_noticed session k create lease own).waits.spoiled
put_stays session k create lease own =
    by_test (λ (o : Ownership). Stays own.entries own.waits.spoiled o.entries o.waits.spoiled) (is_some (at own.waits.spoiled k)) (acquire_spoiled k own) (record own { entries = with_at own.entries k (revoked_turn session create lease (at own.entries k)) })
    (marked_stays own.entries own.waits.spoiled k)
    (one_stays own.entries own.waits.spoiled k _ (revoked_stays session create lease (at own.entries k) (at own.waits.spoiled k)))

deleted_stays : (revision : ℕ) (e : Option Entry) (s : Option Bool) → StaysAt e (deleted_turn revision e) s s
deleted_stays revision None s = record { writing = λ h. h; owned = λ h. h; mark = refl }
deleted_stays revision (Some e) s =
    by_test (λ (f : Option Entry). StaysAt (Some e) f s s) (nat_lt e.create revision) (deleted_phase e e.phase) (Some e) (of_phase e.phase refl) (record { writing = λ h. h; owned = λ h. h; mark = refl })
  where
    of_phase : (p : Phase) → e.phase ≡ p → StaysAt (Some e) (deleted_phase e p) s s
    of_phase Held q = record { writing = λ h. absurd (let t = ap is_writing_phase q in cc); owned = λ h. absurd (cc); mark = refl }
    of_phase (Writing revoked) q = record { writing = λ h. refl; owned = λ h. ap (λ (p : Phase). is_held_phase p || is_writing_phase p) q; mark = refl }
    of_phase (Leaving sent) q = record { writing = λ h. h; owned = λ h. h; mark = refl }

pub delete_stays : (k : List ℕ) (revision : ℕ) (own : Ownership) → Stays own.entries own.waits.spoiled (delete_noticed k revision own).entries (delete_noticed k revision own).waits.spoiled
delete_stays k revision own = one_stays own.entries own.waits.spoiled k (deleted_turn revision (at own.entries k)) (deleted_stays revision (at own.entries k) (at own.waits.spoiled k))

pub given_up_stays : (own : Ownership) → Stays own.entries own.waits.spoiled (all_given_up own).entries (all_given_up own).waits.spoiled
given_up_stays own k =
    rw (at-each (λ j x. given_up x) own.entries k, at-each (λ j x. true) own.waits.spoiled k) (gently given_up true given_up_gentle (at own.entries k) (at own.waits.spoiled k) (option_map (λ x. true) (at own.waits.spoiled k)) (some-mapped (λ x. true) (at own.waits.spoiled k)))

-- a whole message, event by event

noticed_stays : (session : Option ℕ) (c : Change) (own : Ownership) → Stays own.entries own.waits.spoiled (noticed session c own).entries (noticed session c own).waits.spoiled
noticed_stays session (change.Put kv) own =
    by_test (λ (o : Ownership). Stays own.entries own.waits.spoiled o.entries o.waits.spoiled) (same kv.value revoke_word) (put_noticed session (owned_key own.waits.prefix kv.key) kv.create kv.lease own) own
    (put_stays session (owned_key own.waits.prefix kv.key) kv.create kv.lease own)
    (stays_itself own.entries own.waits.spoiled)
noticed_stays session (change.Delete k revision) own = delete_stays (owned_key own.waits.prefix k) revision own

pub message_stays : (session : Option ℕ) (es : List Event) (own : Ownership) → Stays own.entries own.waits.spoiled (all_noticed session es own).entries (all_noticed session es own).waits.spoiled
message_stays session [] own = stays_itself own.entries own.waits.spoiled
message_stays session (e ∷ es) own =
    let o = noticed session e.change own in
    let next = all_noticed session es o in
    stays_on own.entries o.entries next.entries own.waits.spoiled o.waits.spoiled next.waits.spoiled (noticed_stays session e.change own) (message_stays session es o)
