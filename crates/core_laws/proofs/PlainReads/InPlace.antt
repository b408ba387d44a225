-- The release in place.
use Rattle.std.proofs.Common.{◌≡◌, ℕ, Bool, true, false, not, cond, ◌&&◌, ◌||◌, ◌==◌, List, [], ◌∷◌, map, Option, None, Some, is_some, refl, sym, ◌∙◌, ap}
use Rattle.std.specs.List.{list_all, list_any}
use Rattle.etcd_types.specs.declared.answer.Answer.{Answer}
use Rattle.etcd_types.specs.declared.answer.Answer.TheVariants as answer
use Rattle.etcd_types.specs.declared.record.Header.{Header}
use Rattle.etcd_types.specs.Keys.{same}
use Rattle.proxy_model.specs.declared.lease.Entry.{Entry}
use Rattle.proxy_model.specs.declared.ownership.Owner.{Owner}
use Rattle.proxy_model.specs.declared.ownership.Written.{Written}
use Rattle.proxy_model.specs.declared.ownership.Written.TheVariants.{Wrote, Blocked}
use Rattle.proxy_model.specs.Guarded.{written}
use Rattle.proxy_model.specs.Leaving.{guard_held}
use Rattle.etcd_types.proofs.Bools.{or_left, or_right, and_both, and_first, and_second}
use Rattle.proxy_model.proofs.KeyedLaws.{at-with_at}
use Rattle.proxy_model.specs.Keyed.{Keyed, at}
use Rattle.core_laws.proofs.PlainReads.Owned.{by_test}
use Rattle.core_laws.specs.PlainReads.InPlace.{PlainInPlace, AgainInPlace, placed_by, AnswersInPlace, WinsInPlace}
use Rattle.read_model.specs.Acquires.{acquires_at, told, won, acquired}
use Rattle.read_model.specs.Fits.{ReadsOk}
use Rattle.read_model.specs.PlainRead.{is_ownable, is_restful, ask_key, shown, is_written, acquirable, read_turn, Decision, decision, begun_under, decided_ground, decided_ask, in_stage}
use Rattle.read_model.specs.Release.{stands, ask_stands, released_ground, released_ask, Released, released_from, after_release, in_place, is_taken, makes_none}
use Rattle.read_model.specs.State.{Reads, Moment, Ground, ground_of}
use Rattle.read_model.specs.WriteAnswers.{settled_ask, ending, answered_by}
use Rattle.core_laws.proofs.Writes.Phases.{some-mapped, some-writing}
use Rattle.wait_model.proofs.Tables.{at-each}
use Rattle.wait_model.specs.Covers.{covers, is_single}
use Rattle.wait_model.specs.Endings.{revoke_back, revoke_answered, answered_job, without_out, answered}
use Rattle.wait_model.specs.Fits.{stage_over}
use Rattle.wait_model.specs.ForeignOwnership.{found_of, others, by_key}
use Rattle.wait_model.specs.GuardedAnswers.{kept_entries, other_owners, Ending, owns, change_owned, failed, done_if, write_answered}
use Rattle.wait_model.specs.Leaving.{rescinded, if_read, rescind_answered}
use Rattle.wait_model.specs.Phases.{is_of, if_written}
use Rattle.wait_model.specs.Stages.{is_owner}
use Rattle.wait_model.specs.State.{Ownership}
use Rattle.wait_model.specs.Writes.{first_by, with_first, sends, asks, job_of}
use Rattle.proxy_model.specs.LeaseTable.{is_writing}
use Rattle.wait_model.specs.declared.write.Write.{Write}
use Rattle.wait_model.specs.declared.write.WriteStage.{WriteStage}
use Rattle.wait_model.specs.declared.write.WriteStage.TheVariants.{Sends, Finds}
use Rattle.wait_model.specs.declared.sending.Sending.TheVariants as sending
use Rattle.wait_model.specs.declared.wait.Settled.{Settled}
use Rattle.wait_model.specs.declared.wait.Settled.TheVariants as settled
use Rattle.wait_model.specs.declared.wait.WaitJob.{WaitJob}
use Rattle.wait_model.specs.declared.wait.WaitJob.TheVariants as job
use Rattle.read_model.specs.declared.asked.Asked.{Asked}
use Rattle.read_model.specs.declared.acquire.Acquire.{Acquire}
use Rattle.read_model.specs.declared.asked.Stage.{Stage}
use Rattle.read_model.specs.declared.asked.Stage.TheVariants as stage

-- A read of a taken key makes no acquire.

taken_turn : (h : Header) (step : ℕ) (e : Option Entry) (claimed written : Bool) (under : Option ℕ) → not claimed && (is_some e || written) ≡ true → (written ≡ true → under ≡ None) → read_turn h step e claimed under ≡ read_turn h step e false None
taken_turn h step e true written under t f = absurd (cc)
taken_turn h step (Some e) false written under t f = refl
taken_turn h step None false written under t f = ap (λ (u : Option ℕ). read_turn h step None false u) (f t)

none_under : (h : Header) (step : ℕ) (e : Option Entry) → (read_turn h step e false None).under ≡ None
none_under h step (Some e) = refl
none_under h step None = refl

written_under : (m : Moment) (own : Ownership) (k : List ℕ) → is_written own k ≡ true → acquirable m own k ≡ None
written_under m own k w = ap (λ b. cond (not b && (is_ownable own.waits.prefix k && m.created && is_restful own m.now k)) m.session None) w

taken_decision : (m : Moment) (g : Ground) (k : List ℕ) → is_taken g k ≡ true → decision m g k ≡ read_turn m.header g.own.waits.step (at g.own.entries k) false None
taken_decision m g k t = taken_turn m.header g.own.waits.step (at g.own.entries k) (is_some (at g.acquires k)) (is_written g.own k) (acquirable m g.own k) t (written_under m g.own k)

taken_ground : (m : Moment) (g : Ground) (a : Asked) → is_taken g (ask_key a) ≡ true → decided_ground m g a ≡ g
taken_ground m g a t =
    ap (λ (o : Option ℕ). begun_under a.ticket (ask_key a) o g) (ap (λ (d : Decision). d.under) (taken_decision m g (ask_key a) t) ∙ none_under m.header g.own.waits.step (at g.own.entries (ask_key a)))

-- The fold and the map.

same_ground : (again : Bool) (m : Moment) (g : Ground) (a : Asked) → (again ≡ true → makes_none g a ≡ true) → released_ground again m g a ≡ g
same_ground false m g a f = either (ask_stands g a)
  where
    either : (b : Bool) → cond (b || true) g (decided_ground m g a) ≡ g
    either true = refl
    either false = refl
same_ground true m g a f = either (ask_stands g a) (f refl)
  where
    either : (b : Bool) → b || is_taken g (ask_key a) ≡ true → cond (b || false) g (decided_ground m g a) ≡ g
    either true t = refl
    either false t = taken_ground m g a t

same_ask : (again : Bool) (m : Moment) (g : Ground) (a : Asked) → (again ≡ true → makes_none g a ≡ true) → released_ask again m g a ≡ in_place again m.header g a
same_ask false m g a f = refl
same_ask true m g a f = either (ask_stands g a) (f refl)
  where
    either : (b : Bool) → b || is_taken g (ask_key a) ≡ true → cond b a (decided_ask m g a) ≡ cond b a (in_stage (read_turn m.header g.own.waits.step (at g.own.entries (ask_key a)) false None).stage a)
    either true t = refl
    either false t = ap (λ (d : Decision). in_stage d.stage a) (taken_decision m g (ask_key a) t)

in_place_from : (again : Bool) (m : Moment) (g : Ground) (xs : List Asked) → (again ≡ true → list_all (makes_none g) xs ≡ true) → released_from again m g xs ≡ record { ground = g; asks = map (in_place again m.header g) xs }
unfolding released_from
in_place_from again m g [] f = refl
in_place_from again m g (a ∷ xs) f =
    let one = λ (t : again ≡ true). and_first (makes_none g a) (list_all (makes_none g) xs) (f t) in
    let rest = λ (t : again ≡ true). and_second (makes_none g a) (list_all (makes_none g) xs) (f t) in
    ap (λ (x : Ground). record { ground = (released_from again m x xs).ground; asks = released_ask again m g a ∷ (released_from again m x xs).asks }) (same_ground again m g a one)
    ∙ ap (λ (x : Released). record { ground = x.ground; asks = released_ask again m g a ∷ x.asks }) (in_place_from again m g xs rest)
    ∙ ap (λ (x : Asked). record { ground = g; asks = x ∷ map (in_place again m.header g) xs }) (same_ask again m g a one)

pub plain_in_place : PlainInPlace
plain_in_place m r = ap after_release (in_place_from false m (ground_of r) r.asks (λ t. absurd (cc)))

pub again_in_place : AgainInPlace
again_in_place m r h = ap after_release (in_place_from true m (ground_of r) r.asks (λ _. h))

-- After an answer each read that waits has a taken key.

all_mapped : (P Q : Asked → Bool) (f : Asked → Asked) → ((a : Asked) → P a ≡ true → Q (f a) ≡ true) → (xs : List Asked) → list_all P xs ≡ true → list_all Q (map f xs) ≡ true
all_mapped P Q f g [] h = refl
all_mapped P Q f g (a ∷ xs) h = and_both (Q (f a)) (list_all Q (map f xs)) (g a (and_first (P a) (list_all P xs) h)) (all_mapped P Q f g xs (and_second (P a) (list_all P xs) h))

taken_or : (ticket : ℕ) (e f : Option Entry) (c : Option Acquire) (written : Bool) (s : Stage) → (is_writing e ≡ true → is_some c ≡ false) → (is_writing e ≡ true → is_some f || written ≡ true) → stands ticket e c s ≡ true → stands ticket f c s || (not (is_some c) && (is_some f || written)) ≡ true
taken_or ticket e f c written (stage.Calling s) n t h = refl
taken_or ticket e f c written stage.Acquiring n t h = or_left (stands ticket f c stage.Acquiring) (not (is_some c) && (is_some f || written)) h
taken_or ticket e f c written stage.Joined n t h = or_left (is_some c) (not (is_some c) && (is_some f || written)) h
taken_or ticket e f c written stage.Behind n t h = or_right (is_writing f) (not (is_some c) && (is_some f || written)) (and_both (not (is_some c)) (is_some f || written) (ap not (n h)) (t h))
taken_or ticket e f c written stage.Writes n t h = refl
taken_or ticket e f c written (stage.Grouped s) n t h = refl
taken_or ticket e f c written (stage.Replied v) n t h = refl

-- where there was an entry that was written, there is an entry, or a write is over the key
pub record Takes (own next : Ownership) : Type 0 where
  pub taken : (k : List ℕ) → is_writing (at own.entries k) ≡ true → is_written own k ≡ true → is_some (at next.entries k) || is_written next k ≡ true

abbrev pub TakesIf : Ownership → Option Ending → Type 0
TakesIf own None = Unit {0}
TakesIf own (Some x) = Takes own x.own

takes_itself : (own : Ownership) → Takes own own
takes_itself own = record { taken = λ k t w. or_left (is_some (at own.entries k)) (is_written own k) (some-writing (at own.entries k) t) }

by_entries : (own next : Ownership) → ((k : List ℕ) → is_some (at next.entries k) ≡ is_some (at own.entries k)) → Takes own next
by_entries own next f = record { taken = λ k t w. or_left (is_some (at next.entries k)) (is_written next k) (f k ∙ some-writing (at own.entries k) t) }

by_writes : (own next : Ownership) → ((k : List ℕ) → is_written next k ≡ is_written own k) → Takes own next
by_writes own next f = record { taken = λ k t w. or_right (is_some (at next.entries k)) (is_written next k) (f k ∙ w) }

changed_some : (w : Write) (f : List ℕ → Entry → Entry) (es : Keyed Entry) (k : List ℕ) → is_some (at (change_owned w f es) k) ≡ is_some (at es k)
changed_some w f es k = ap is_some (at-each (λ j e. if_written (owns w j) (f j) e) es k) ∙ some-mapped _ (at es k)

written_with : (p : Write → Bool) (s : WriteStage) (k : List ℕ) (ws : List Write) → list_any (λ w. covers w k) (with_first p s ws) ≡ list_any (λ w. covers w k) ws
written_with p s k [] = refl
written_with p s k (w ∷ ws) = either (p w) (written_with p s k ws)
  where
    either : (b : Bool) → list_any (λ w. covers w k) (with_first p s ws) ≡ list_any (λ w. covers w k) ws → list_any (λ w. covers w k) (cond b (record w { stage = s } ∷ ws) (w ∷ with_first p s ws)) ≡ covers w k || list_any (λ w. covers w k) ws
    either true h = refl
    either false h = ap (λ b. covers w k || b) h

failed_takes : (session : Option ℕ) (p : Write → Bool) (w : Write) (os : List Owner) (own : Ownership) → Takes own (failed session p w os own)
failed_takes session p w os own =
    by_test (Takes own) (is_owner w.stage && is_single w.request) _ _
    (by_writes own _ (λ k. written_with p (Sends false (sending.Due own.waits.step)) k own.waits.writes))
    (by_writes own _ (λ k. written_with p (Finds (map (found_of own.waits.step) (others session (kept_entries w os own.entries) (by_key [] (other_owners w own.entries os))))) k own.waits.writes))

done_takes : (session : Option ℕ) (p : Write → Bool) (w : Write) (o : Option Written) (own : Ownership) → TakesIf own (done_if session p w o own)
done_takes session p w None own = tt
done_takes session p w (Some (Wrote reply)) own = by_entries own _ (changed_some w _ own.entries)
done_takes session p w (Some (Blocked os)) own = failed_takes session p w os own

write_takes : (session : Option ℕ) (p : Write → Bool) (o : Option Write) (a : Answer) (own : Ownership) → TakesIf own (write_answered session p o a own)
write_takes session p None a own = takes_itself own
write_takes session p (Some w) (answer.Done reply) own = done_takes session p w (written own.waits.prefix w.request reply) own
write_takes session p (Some w) (answer.Refused r) own = by_entries own _ (changed_some w _ own.entries)

back_takes : (p : Write → Bool) (call : ℕ) (w : Write) (o : Option Bool) (own : Ownership) → TakesIf own (revoke_back p call w o own)
back_takes p call w None own = tt
back_takes p call w (Some held) own = by_entries own _ (λ k. refl)

revoke_takes : (p : Write → Bool) (call : ℕ) (o : Option Write) (a : Answer) (own : Ownership) → TakesIf own (revoke_answered p call o a own)
revoke_takes p call None a own = takes_itself own
revoke_takes p call (Some w) (answer.Done reply) own = back_takes p call w (guard_held reply.body) own
revoke_takes p call (Some w) (answer.Refused r) own = by_entries own _ (λ k. refl)

read_takes : (o : Option Bool) (own next : Ownership) → Takes own next → TakesIf own (if_read o next)
read_takes None own next h = tt
read_takes (Some held) own next h = h

rescind_takes : (a : Answer) (own next : Ownership) → Takes own next → TakesIf own (rescind_answered a next)
rescind_takes (answer.Done reply) own next h = read_takes (guard_held reply.body) own next h
rescind_takes (answer.Refused r) own next h = h

rescinded_takes : (k : List ℕ) (create now : ℕ) (own : Ownership) → Takes own (rescinded k create now own)
rescinded_takes k create now own = by_test (Takes own) (is_of create (at own.entries k)) _ own (by_writes own _ (λ j. refl)) (takes_itself own)

job_takes : (call : ℕ) (a : Answer) (session : Option ℕ) (now : ℕ) (o : Option WaitJob) (own : Ownership) → TakesIf own (answered_job call a session now o own)
job_takes call a session now None own = takes_itself own
job_takes call a session now (Some (job.Rescind k create)) own = rescind_takes a own (rescinded k create now own) (rescinded_takes k create now own)
job_takes call a session now (Some (job.Revoke k)) own = revoke_takes (asks call) call (first_by (asks call) own.waits.writes) a own
job_takes call a session now (Some job.Write) own = write_takes session (sends call) (first_by (sends call) own.waits.writes) a own

outed : (call : ℕ) (own : Ownership) (o : Option Ending) → TakesIf (without_out call own) o → TakesIf own o
outed call own None h = h
outed call own (Some x) h = record { taken = h.taken }

answered_takes : (call : ℕ) (a : Answer) (session : Option ℕ) (now : ℕ) (own : Ownership) → TakesIf own (answered call a session now own)
unfolding answered
answered_takes call a session now own = outed call own (answered_job call a session now (job_of call own.waits.out) (without_out call own)) (job_takes call a session now (job_of call own.waits.out) (without_out call own))

owner_written : (k : List ℕ) (ws : List Write) → is_owner (stage_over k ws) ≡ true → list_any (λ w. covers w k) ws ≡ true
owner_written k [] o = absurd (cc)
owner_written k (w ∷ ws) o = by_cover (covers w k) o (owner_written k ws)
  where
    by_cover : (b : Bool) → is_owner (cond b w.stage (stage_over k ws)) ≡ true → (is_owner (stage_over k ws) ≡ true → list_any (λ v. covers v k) ws ≡ true) → b || list_any (λ v. covers v k) ws ≡ true
    by_cover true o f = refl
    by_cover false o f = f o

-- no acquire is at a key that is being written
no_claim : (standing : Bool) (r : Reads) → ReadsOk standing r → (k : List ℕ) → is_writing (at r.own.entries k) ≡ true → is_some (at r.acquires k) ≡ false
no_claim standing r h k t = sym (h.ground.marks k) ∙ apart (is_some (at r.own.waits.spoiled k)) (h.ground.keys k).ok.apart
  where
    apart : (b : Bool) → (b ≡ true → is_some (at r.own.entries k) ≡ false) → b ≡ false
    apart true f = absurd (let u = f refl in let v = some-writing (at r.own.entries k) t in cc)
    apart false f = refl

ending_makes_none : (standing : Bool) (r : Reads) (x : Ending) → ReadsOk standing r → Takes r.own x.own → list_all (makes_none (ground_of (ending x r))) (ending x r).asks ≡ true
ending_makes_none standing r x h f = all_mapped (ask_stands (ground_of r)) (makes_none (ground_of (ending x r))) (settled_ask x.settled) one r.asks h.asks
  where
    kept : (a : Asked) → ask_stands (ground_of r) a ≡ true → makes_none (ground_of (ending x r)) a ≡ true
    kept a t =
        let k = ask_key a in
        taken_or a.ticket (at r.own.entries k) (at x.own.entries k) (at r.acquires k) (is_written x.own k) a.stage (no_claim standing r h k) (λ w. f.taken k w (owner_written k r.own.waits.writes ((h.ground.keys k).ok.writer w))) t

    of_settled : (s : Settled) (a : Asked) → ask_stands (ground_of r) a ≡ true → makes_none (ground_of (ending x r)) (settled_ask s a) ≡ true
    of_settled (settled.Reply ticket y) a t = by_test (λ (b : Asked). makes_none (ground_of (ending x r)) b ≡ true) (a.ticket == ticket) _ a refl (kept a t)
    of_settled (settled.Failed ticket) a t = by_test (λ (b : Asked). makes_none (ground_of (ending x r)) b ≡ true) (a.ticket == ticket) _ a refl (kept a t)
    of_settled settled.Nothing a t = kept a t

    one : (a : Asked) → ask_stands (ground_of r) a ≡ true → makes_none (ground_of (ending x r)) (settled_ask x.settled a) ≡ true
    one a t = of_settled x.settled a t

pub answers_in_place : AnswersInPlace
answers_in_place standing m call a r h = of_ending (answered call a m.session m.now r.own) (answered_takes call a m.session m.now r.own)
  where
    of_ending : (x : Option Ending) → TakesIf r.own x → answered_by m x r ≡ placed_by m x r
    of_ending None f = refl
    of_ending (Some x) f = ap Some (again_in_place m (ending x r) (ending_makes_none standing r x h f))

-- An acquire that succeeded: its key has an entry.

pub wins_in_place : WinsInPlace
wins_in_place standing m k h create kv r o = again_in_place m (acquired m k true h create kv r) (all_mapped (ask_stands (ground_of r)) (makes_none (ground_of (acquired m k true h create kv r))) (told k (shown h kv)) one r.asks o.asks)
  where
    at_key : (x : Entry) (a : Asked) (written b : Bool) → ask_stands (ground_of r) a ≡ true → stands a.ticket (cond b (Some x) (at r.own.entries (ask_key a))) (cond b None (at r.acquires (ask_key a))) a.stage || (not (is_some (cond b None (at r.acquires (ask_key a)))) && (is_some (cond b (Some x) (at r.own.entries (ask_key a))) || written)) ≡ true
    at_key x a written true t = or_right (stands a.ticket (Some x) None a.stage) true refl
    at_key x a written false t = or_left (ask_stands (ground_of r) a) (not (is_some (at r.acquires (ask_key a))) && (is_some (at r.own.entries (ask_key a)) || written)) t

    kept : (a : Asked) → ask_stands (ground_of r) a ≡ true → makes_none (ground_of (acquired m k true h create kv r)) a ≡ true
    kept a t =
        let x = won true create kv in
        rw (at-with_at r.own.entries k (ask_key a) (Some x), at-with_at r.acquires k (ask_key a) None) (at_key x a (is_written r.own (ask_key a)) (same k (ask_key a)) t)

    one : (a : Asked) → ask_stands (ground_of r) a ≡ true → makes_none (ground_of (acquired m k true h create kv r)) (told k (shown h kv) a) ≡ true
    one a t = by_test (λ (b : Asked). makes_none (ground_of (acquired m k true h create kv r)) b ≡ true) (acquires_at k a) _ a refl (kept a t)
