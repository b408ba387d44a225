-- What answers a write's own call names owners by their keys and create revisions, as the store tells them.
use Rattle.std.proofs.Common.{◌≡◌, ℕ, ◌==◌, nat_lt, Bool, true, false, not, cond, ◌&&◌, ◌||◌, List, [], ◌∷◌, map, filter, flat_map, Option, None, Some, refl, sym, ◌∙◌, ap, subst}
use Rattle.std.specs.List.{list_any, list_all}
use Rattle.etcd_types.proofs.Bools.{and_first, and_second, and_both, or_right}
use Rattle.etcd_types.specs.declared.answer.Answer.{Answer}
use Rattle.etcd_types.specs.declared.answer.Answer.TheVariants as answer
use Rattle.etcd_types.specs.declared.answer.Body.{Body}
use Rattle.etcd_types.specs.declared.answer.Reply.{Reply}
use Rattle.etcd_types.specs.declared.record.Header.{Header}
use Rattle.etcd_types.specs.declared.record.Kv.{Kv}
use Rattle.etcd_types.specs.declared.request.Request.{Request}
use Rattle.etcd_types.specs.Keys.{is_empty}
use Rattle.proxy_model.specs.declared.ownership.Owner.{Owner}
use Rattle.proxy_model.specs.declared.ownership.Written.{Written}
use Rattle.proxy_model.specs.declared.ownership.Written.TheVariants.{Wrote, Blocked}
use Rattle.proxy_model.specs.Fits.{branch_of, fits_txn}
use Rattle.proxy_model.specs.Foreign.{owner_of}
use Rattle.proxy_model.specs.Guarded.{guarded, written, written_of}
use Rattle.proxy_model.specs.Readings.{records_of, reading}
use Rattle.wait_model.specs.declared.sending.Sending.TheVariants as sending
use Rattle.wait_model.specs.declared.wait.WaitCall.{WaitCall}
use Rattle.wait_model.specs.declared.write.Write.{Write}
use Rattle.wait_model.specs.declared.write.WriteStage.{WriteStage}
use Rattle.wait_model.specs.declared.write.WriteStage.TheVariants.{Waiting, Sends, Finds}
use Rattle.wait_model.specs.Writes.{first_by, stage_sends, sends, job_of}
use Rattle.core_laws.specs.Writes.Laws.{shown_records}
use Rattle.core_laws.proofs.Writes.Kept.{first_passes}
use Rattle.core_model.specs.declared.out_call.OutCall.{OutCall}
use Rattle.core_model.specs.declared.out_call.OutJob.{OutJob}
use Rattle.core_model.specs.declared.out_call.OutJob.TheVariants as job
use Rattle.core_model.specs.Fits.{CoreOk, has_number, calls_of, wait_numbers, is_wait, is_write_job, is_write_out, passes}
use Rattle.core_model.specs.Lookups.{out_at}
use Rattle.core_model.specs.State.{Core}
use Rattle.core_laws.proofs.Steps.Calls.{found_is, only_found}
use Rattle.core_laws.proofs.Steps.Lists.{same_number}
use Rattle.owner_fits.specs.Names.{written_named, answer_named, owner_named}
use Rattle.owner_fits.proofs.Hearing.{first_has}
use Rattle.cache_laws.specs.Moves.View.{Outcome}
use Rattle.cache_laws.specs.Store.ToldAnswers.{TellsOwners, TellsWritten}
use Rattle.call_laws.specs.Forms.{Form, Writes, Tells}
use Rattle.core_moves.specs.Answers.{form_of_job}
use Rattle.turn_laws.specs.Known.{is_created, shows_created}

-- ---- the call of a write that is sent is out for it

stage_waits : (call : ℕ) (s : WriteStage) (waiting : List WaitCall) → stage_sends call s ≡ true → is_write_out waiting s ≡ true → passes is_write_job (job_of call waiting) ≡ true
stage_waits call Waiting waiting s h = absurd (cc)
stage_waits call (Finds found) waiting s h = absurd (cc)
stage_waits call (Sends owner (sending.Due since)) waiting s h = absurd (cc)
stage_waits call (Sends owner (sending.Out n)) waiting s h = subst (λ (m : ℕ). passes is_write_job (job_of m waiting) ≡ true) (same_number n call s) h

in_calls : (call : ℕ) (waiting : List WaitCall) → passes is_write_job (job_of call waiting) ≡ true → has_number (calls_of waiting) call ≡ true
in_calls call [] h = absurd (cc)
in_calls call (x ∷ rest) h = by (x.call == call) (in_calls call rest) h
  where
    by : (b : Bool) → (passes is_write_job (job_of call rest) ≡ true → has_number (calls_of rest) call ≡ true) → passes is_write_job (cond b (Some x.job) (job_of call rest)) ≡ true → b || has_number (calls_of rest) call ≡ true
    by true more t = refl
    by false more t = more t

is_wait_of : ℕ → OutCall → Bool
is_wait_of n o = (o.call == n) && is_wait o.job

in_out : (n : ℕ) (out : List OutCall) → has_number (wait_numbers out) n ≡ true → list_any (is_wait_of n) out ≡ true
unfolding is_wait_of
in_out n [] h = absurd (cc)
in_out n (o ∷ out) h = by (is_wait o.job) (in_out n out) h
  where
    by : (b : Bool) → (has_number (wait_numbers out) n ≡ true → list_any (is_wait_of n) out ≡ true) → has_number (map (λ (x : OutCall). x.call) (cond b (o ∷ filter (λ (x : OutCall). is_wait x.job) out) (filter (λ (x : OutCall). is_wait x.job) out))) n ≡ true
        → ((o.call == n) && b) || list_any (is_wait_of n) out ≡ true
    by true more t = by_head (o.call == n) t
      where
        by_head : (d : Bool) → d || has_number (wait_numbers out) n ≡ true → (d && true) || list_any (is_wait_of n) out ≡ true
        by_head true t = refl
        by_head false t = more t
    by false more t = or_right ((o.call == n) && false) (list_any (is_wait_of n) out) (more t)

out_there : (n : ℕ) (out : List OutCall) → list_any (is_wait_of n) out ≡ true → (o : OutCall) × (out_at n out ≡ Some o)
unfolding is_wait_of
out_there n [] h = absurd (cc)
out_there n (x ∷ out) h = by (x.call == n) (out_there n out) h
  where
    by : (b : Bool) → (list_any (is_wait_of n) out ≡ true → (o : OutCall) × (out_at n out ≡ Some o)) → (b && is_wait x.job) || list_any (is_wait_of n) out ≡ true → (o : OutCall) × (cond b (Some x) (out_at n out) ≡ Some o)
    by true more t = (x, refl)
    by false more t = more t

is_waits : (j : OutJob) → is_wait j ≡ true → j ≡ job.Wait
is_waits job.Wait e = refl
is_waits (job.Grant lease) e = absurd (cc)
is_waits (job.Keep lease) e = absurd (cc)
is_waits (job.Acquire k) e = absurd (cc)
is_waits (job.Ask kind) e = absurd (cc)
is_waits (job.Group lease) e = absurd (cc)

record IsOutWait (n : ℕ) (out : List OutCall) : Type 0 where
  out_call : OutCall
  found : out_at n out ≡ Some out_call
  waits : out_call.job ≡ job.Wait

write_waits : (c : Core) (call : ℕ) (w : Write) → CoreOk c → first_by (sends call) c.own.waits.writes ≡ Some w → IsOutWait call c.out
unfolding is_wait_of
write_waits c call w k f =
    let out = c.own.waits.out in
    let is_out : is_write_out out w.stage ≡ true = first_has (sends call) (λ v. is_write_out out v.stage) w c.own.waits.writes k.agrees.writes.out f in
    let waiting = stage_waits call w.stage out (first_passes (sends call) c.own.waits.writes w f) is_out in
    let any = in_out call c.out (ap (λ (ns : List ℕ). has_number ns call) (sym k.agrees.numbers.waits) ∙ in_calls call out waiting) in
    let o = out_there call c.out any in
    record { out_call = o.0; found = o.1; waits = by o.0 o.1 any (is_wait o.0.job) refl }
  where
    two : {A : Type 0} → true ≡ false → A
    two e = absurd (cc)

    by : (o : OutCall) → out_at call c.out ≡ Some o → list_any (is_wait_of call) c.out ≡ true → (b : Bool) → is_wait o.job ≡ b → o.job ≡ job.Wait
    by o f any true e = is_waits o.job e
    by o f any false e = two (sym any ∙ only_found call is_wait o.job c.out k.agrees.numbers.once (found_is call o c.out f).job e)

-- ---- the owners that an answer shows

abbrev has_create : Owner → Bool
has_create o = nat_lt 0 o.create

owners_created : (p : List ℕ) (kvs : List Kv) → list_all is_created kvs ≡ true → list_all has_create (map (owner_of p) kvs) ≡ true
owners_created p [] h = refl
owners_created p (kv ∷ kvs) h = and_both (nat_lt 0 kv.create) _ (and_first (nat_lt 0 kv.create) _ h) (owners_created p kvs (and_second (nat_lt 0 kv.create) _ h))

blocked_is : (os ps : List Owner) → Some (Blocked os) ≡ Some (Blocked ps) → os ≡ ps
blocked_is os ps e = cc

blocked_created : (p : List ℕ) (q : Request) (h : Header) (fits : Bool) (ran : Option (Bool × List Body)) (os : List Owner) → reading fits ran (written_of p q h) ≡ Some (Blocked os) → list_all is_created (shown_records ran) ≡ true
    → list_all has_create os ≡ true
blocked_created p q h fits None os e c = absurd (cc)
blocked_created p q h false (Some ran) os e c = absurd (cc)
blocked_created p q h true (Some (true, bs)) os e c = absurd (cc)
blocked_created p q h true (Some (false, bs)) os e c = subst (λ (xs : List Owner). list_all has_create xs ≡ true) (blocked_is _ os e) (owners_created p (flat_map records_of bs) c)

owners_named : (x : Outcome) (os : List Owner) → TellsOwners x os → list_all has_create os ≡ true → list_all owner_named os ≡ true
owners_named x [] t h = refl
owners_named x (o ∷ os) t h =
    and_both (owner_named o) _ (and_both (nat_lt 0 o.create) (not (is_empty o.key)) (and_first (nat_lt 0 o.create) _ h) (ap not t.0)) (owners_named x os t.2 (and_second (nat_lt 0 o.create) _ h))

-- of a write's answer as the view has it
reply_named : (p : List ℕ) (q : Request) (reply : Reply) (x : Outcome) (r : Option Written) → written p q reply ≡ r → TellsWritten p q x r → list_all is_created (shown_records (branch_of reply.body)) ≡ true → written_named r ≡ true
reply_named p q reply x None e t c = refl
reply_named p q reply x (Some (Wrote r)) e t c = refl
reply_named p q reply x (Some (Blocked os)) e t c = owners_named x os t.1 (blocked_created p q reply.header (fits_txn (guarded p q (λ k. 0)) reply.body) (branch_of reply.body) os e c)

-- ---- the answer to a call that is out

abbrev pub IsCreated : Answer → Type 0
IsCreated (answer.Done reply) = shows_created reply.body ≡ true
IsCreated (answer.Refused r) = Unit {0}

tells_named : (p : List ℕ) (w : Write) (created : List ℕ → ℕ) (x : Outcome) (y : Answer) → Tells p (Writes w.request created) x y → IsCreated y → answer_named p y w ≡ true
tells_named p w created x (answer.Done reply) t c = reply_named p w.request reply x (written p w.request reply) refl t c
tells_named p w created x (answer.Refused r) t c = refl

-- where the form of each call that is out suits it
pub names_answer : (c : Core) (call : ℕ) (form : Form) (x : Outcome) (y : Answer) → CoreOk c → ((o : OutCall) → out_at call c.out ≡ Some o → form_of_job c o.call form o.job) → Tells c.own.waits.prefix form x y → IsCreated y
    → (w : Write) → first_by (sends call) c.own.waits.writes ≡ Some w → answer_named c.own.waits.prefix y w ≡ true
names_answer c call form x y k suits tells created w f =
    let o = write_waits c call w k f in
    let number : o.out_call.call ≡ call = (found_is call o.out_call c.out o.found).number in
    let suit : form_of_job c o.out_call.call form job.Wait = subst (form_of_job c o.out_call.call form) o.waits (suits o.out_call o.found) in
    let is = suit w (ap (λ (n : ℕ). first_by (sends n) c.own.waits.writes) number ∙ f) in
    tells_named c.own.waits.prefix w is.0 x y (subst (λ (g : Form). Tells c.own.waits.prefix g x y) is.1 tells) created
