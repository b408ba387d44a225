-- Each step keeps what holds of reads.
use Rattle.std.proofs.Common.{◌≡◌, ℕ, Bool, true, false, not, cond, ◌&&◌, ◌||◌, ◌==◌, List, [], ◌∷◌, ◌++◌, Option, None, Some, is_some, refl, sym, ◌∙◌, ap}
use Rattle.std.specs.List.{list_all}
use Rattle.etcd_types.specs.declared.answer.Answer.{Answer}
use Rattle.etcd_types.specs.declared.answer.Answer.TheVariants as answer
use Rattle.etcd_types.specs.declared.code.TheConstants.{NOT_FOUND}
use Rattle.etcd_types.specs.declared.record.Header.{Header}
use Rattle.etcd_types.specs.declared.record.Kv.{Kv}
use Rattle.etcd_types.specs.Keys.{same}
use Rattle.etcd_types.proofs.KeyOrder.{same-equal, same-itself}
use Rattle.proxy_model.specs.declared.lease.Entry.{Entry}
use Rattle.proxy_model.specs.declared.ownership.Owner.{Owner}
use Rattle.proxy_model.specs.declared.ownership.Claim.{Claim}
use Rattle.proxy_model.specs.declared.ownership.Claim.TheVariants.{Acquired, OwnedBy}
use Rattle.proxy_model.specs.Acquire.{claimed}
use Rattle.etcd_types.proofs.Bools.{and_both, and_first, and_second}
use Rattle.proxy_model.proofs.KeyedLaws.{at-with_at}
use Rattle.proxy_model.specs.Keyed.{Keyed, at, changed_at}
use Rattle.core_laws.proofs.PlainReads.Grounds.{grown_stands, decided_grows, decided_stands, decided_ok}
use Rattle.core_laws.proofs.PlainReads.Owned.{by_test, Calm, CalmIf, answered_calm, lost_calm, forgotten_calm, proceeded_stays, Stays, stays_itself, message_stays, given_up_stays}
use Rattle.core_laws.proofs.PlainReads.Releases.{released_ok}
use Rattle.core_laws.specs.PlainReads.Kept.{NoticesKeep, GoingOnKeeps, AsksKeep, SendingKeeps, KeptIf, AnswersKeep, LossesKeep, SessionEndKeeps, KeptAfter, AcquiresKeep, AcquireLossesKeep, TakingOffKeeps}
use Rattle.read_model.specs.Acquires.{acquire_gone, with_entry, won, found_own, done_by, acquire_refused, answered_acquire, sent_out, acquire_sent}
use Rattle.read_model.specs.Fits.{is_owned, GroundOk, ReadsOk}
use Rattle.read_model.specs.PlainRead.{ask_key, decided_ground, decided_ask}
use Rattle.read_model.specs.Release.{stands, ask_stands, names}
use Rattle.read_model.specs.SessionEnd.{dropped, over, is_due_acquire}
use Rattle.read_model.specs.State.{Reads, Ground, ground_of, on}
use Rattle.read_model.specs.TakingOff.{is_writes, forgotten_all, falls}
use Rattle.read_model.specs.WriteAnswers.{ending, answered_by}
use Rattle.std.specs.Option.{option_map}
use Rattle.core_laws.proofs.Writes.Passes.{keeps_keys}
use Rattle.core_laws.proofs.Writes.Phases.{some-mapped}
use Rattle.wait_model.proofs.Tables.{at-without}
use Rattle.wait_model.specs.Asked.{is_spoiled}
use Rattle.wait_model.specs.Endings.{answered, lost, forgotten}
use Rattle.wait_model.specs.Fits.{KeyOk, Fits}
use Rattle.wait_model.specs.GuardedAnswers.{Ending}
use Rattle.wait_model.specs.LeasingStream.{resynced, all_given_up}
use Rattle.wait_model.specs.Notices.{all_noticed}
use Rattle.wait_model.specs.Passes.{proceeded}
use Rattle.wait_model.specs.Phases.{own_entry, is_session}
use Rattle.wait_model.specs.SessionEnd.{session_ended}
use Rattle.wait_model.specs.State.{Ownership}
use Rattle.proxy_model.specs.LeaseTable.{is_held, is_writing}
use Rattle.wait_model.specs.declared.write.Write.{Write}
use Rattle.core_laws.specs.Writes.Laws as waits
use Rattle.core_laws.proofs.Writes.Kept as kept
use Rattle.core_laws.proofs.Writes.Steps as steps
use Rattle.read_model.specs.declared.asked.Asked.{Asked}
use Rattle.read_model.specs.declared.acquire.Acquire.{Acquire}
use Rattle.read_model.specs.declared.asked.Stage.{Stage}
use Rattle.read_model.specs.declared.asked.Stage.TheVariants as stage

-- What stands of requests.

all_kept : (P Q : Asked → Bool) → ((a : Asked) → P a ≡ true → Q a ≡ true) → (xs : List Asked) → list_all P xs ≡ true → list_all Q xs ≡ true
all_kept P Q f [] h = refl
all_kept P Q f (a ∷ xs) h = and_both (Q a) (list_all Q xs) (f a (and_first (P a) (list_all P xs) h)) (all_kept P Q f xs (and_second (P a) (list_all P xs) h))

all_ended : (P : Asked → Bool) (a : Asked) (xs : List Asked) → list_all P xs ≡ true → P a ≡ true → list_all P (xs ++ a ∷ []) ≡ true
all_ended P a [] h p = and_both (P a) true p refl
all_ended P a (x ∷ xs) h p = and_both (P x) (list_all P (xs ++ a ∷ [])) (and_first (P x) (list_all P xs) h) (all_ended P a xs (and_second (P x) (list_all P xs) h) p)

-- another entry and another acquire at its key
moved_stands : (ticket : ℕ) (e f : Option Entry) (c d : Option Acquire) (s : Stage) → (is_writing e ≡ true → is_writing f ≡ true) → is_some d ≡ is_some c → names ticket d ≡ names ticket c → stands ticket e c s ≡ true → stands ticket f d s ≡ true
moved_stands ticket e f c d (stage.Calling s) w p q h = h
moved_stands ticket e f c d stage.Acquiring w p q h = q ∙ h
moved_stands ticket e f c d stage.Joined w p q h = p ∙ h
moved_stands ticket e f c d stage.Behind w p q h = w h
moved_stands ticket e f c d stage.Writes w p q h = h
moved_stands ticket e f c d (stage.Grouped s) w p q h = h
moved_stands ticket e f c d (stage.Replied v) w p q h = h

-- What holds of the ground.

pub calm_ok : (standing : Bool) (own next : Ownership) (cs : Keyed Acquire) → Fits next → Calm own next → GroundOk standing (record { own = own; acquires = cs }) → GroundOk standing (record { own = next; acquires = cs })
calm_ok standing own next cs f c h = record {
  keys = f;
  marks = λ k. ap (λ (ss : Keyed Bool). is_some (at ss k)) c.spoiled ∙ h.marks k;
  owned = λ n k. not_so (is_owned (at next.entries k)) (is_owned (at own.entries k)) (c.owns k) (h.owned n k);
}
  where
    not_so : (a b : Bool) → (a ≡ true → b ≡ true) → b ≡ false → a ≡ false
    not_so true b f e = absurd (let t = f refl in cc)
    not_so false b f e = refl

gone_ok : (standing : Bool) (k : List ℕ) (g : Ground) → GroundOk standing g → GroundOk standing (acquire_gone k g)
gone_ok standing k g h = record {
  keys = (steps.acquires_keep g.own k h.keys).ends;
  marks = λ j. rw (at-with_at g.own.waits.spoiled k j None, at-with_at g.acquires k j None) (by_same (at g.own.waits.spoiled j) (at g.acquires j) (same k j) (h.marks j));
  owned = h.owned;
}
  where
    by_same : {A B : Type 0} (p : Option A) (q : Option B) (b : Bool) → is_some p ≡ is_some q → is_some (cond b None p) ≡ is_some (cond b None q)
    by_same p q true h = refl
    by_same p q false h = h

dropped_ok : (standing : Bool) (p : List ℕ → Bool) (g : Ground) → GroundOk standing g → GroundOk standing (dropped p g)
dropped_ok standing p g h = record {
  keys = λ k. rw (at-without p g.own.waits.spoiled k) (fewer (p k) (at g.own.entries k) (at g.own.waits.spoiled k) g.own.waits.writes k (h.keys k));
  marks = λ k. rw (at-without p g.own.waits.spoiled k, at-without p g.acquires k) (by_test_marks (at g.own.waits.spoiled k) (at g.acquires k) (p k) (h.marks k));
  owned = h.owned;
}
  where
    fewer : (b : Bool) (e : Option Entry) (s : Option Bool) (ws : List Write) (k : List ℕ) → KeyOk e s ws k → KeyOk e (cond b None s) ws k
    fewer true e s ws k h = record { only = h.only; ok = record { apart = λ t. absurd (cc); free = λ t. refl; writer = h.ok.writer } }
    fewer false e s ws k h = h

    by_test_marks : {A B : Type 0} (p : Option A) (q : Option B) (b : Bool) → is_some p ≡ is_some q → is_some (cond b None p) ≡ is_some (cond b None q)
    by_test_marks p q true h = refl
    by_test_marks p q false h = h

over_ok : (standing : Bool) (g : Ground) → GroundOk standing g → GroundOk false (over g)
over_ok standing g h = dropped_ok false (λ k. is_due_acquire (at g.acquires k)) (record g { own = session_ended g.own }) (record { keys = kept.session_end_keeps g.own h.keys; marks = h.marks; owned = λ n k. refl })

-- an entry that isn't being written, at a key without an acquire
entry_ok : (standing : Bool) (k : List ℕ) (e : Option Entry) (g : Ground) → is_writing e ≡ false → is_some (at g.own.waits.spoiled k) ≡ false → (standing ≡ false → is_owned e ≡ false) → GroundOk standing g → GroundOk standing (with_entry k e g)
entry_ok standing k e g w s o h = record {
  keys = λ j. rw (at-with_at g.own.entries k j e) (by_same (same k j) j refl (h.keys j));
  marks = h.marks;
  owned = λ n j. rw (at-with_at g.own.entries k j e) (by_owned (same k j) (at g.own.entries j) (o n) (h.owned n j));
}
  where
    by_same : (b : Bool) (j : List ℕ) → same k j ≡ b → KeyOk (at g.own.entries j) (at g.own.waits.spoiled j) g.own.waits.writes j → KeyOk (cond b e (at g.own.entries j)) (at g.own.waits.spoiled j) g.own.waits.writes j
    by_same true j q h = record { only = h.only; ok = record { apart = λ t. absurd (let u = sym (ap (λ (i : List ℕ). is_some (at g.own.waits.spoiled i)) (same-equal k j q)) ∙ s in cc); free = h.ok.free; writer = λ t. absurd (cc) } }
    by_same false j q h = h

    by_owned : (b : Bool) (f : Option Entry) → is_owned e ≡ false → is_owned f ≡ false → is_owned (cond b e f) ≡ false
    by_owned true f x y = x
    by_owned false f x y = y

forgotten_all_ok : (standing : Bool) (p : Asked → Bool) (xs : List Asked) (own : Ownership) (cs : Keyed Acquire) → GroundOk standing (record { own = own; acquires = cs }) → GroundOk standing (record { own = forgotten_all p xs own; acquires = cs })
forgotten_all_ok standing p [] own cs h = h
forgotten_all_ok standing p (a ∷ xs) own cs h =
    forgotten_all_ok standing p xs (cond (p a && is_writes a.stage) (forgotten a.ticket own) own) cs
    (by_test (λ (o : Ownership). GroundOk standing (record { own = o; acquires = cs })) (p a && is_writes a.stage) (forgotten a.ticket own) own (calm_ok standing own (forgotten a.ticket own) cs (steps.forgetting_keeps own a.ticket h.keys) (forgotten_calm a.ticket own) h) h)

-- The steps with no release.

pub stays_ok : (standing : Bool) (r : Reads) (next : Ownership) → Fits next → Stays r.own.entries r.own.waits.spoiled next.entries next.waits.spoiled → ReadsOk standing r → ReadsOk standing (record r { own = next })
stays_ok standing r next f s h = record {
  ground = record {
    keys = f;
    marks = λ k. (s k).mark ∙ h.ground.marks k;
    owned = λ n k. not_so (is_owned (at next.entries k)) (is_owned (at r.own.entries k)) (s k).owned (h.ground.owned n k);
  };
  asks = all_kept (ask_stands (ground_of r)) (ask_stands (ground_of (record r { own = next }))) (λ a t. let k = ask_key a in moved_stands a.ticket (at r.own.entries k) (at next.entries k) (at r.acquires k) (at r.acquires k) a.stage (s k).writing refl refl t) r.asks h.asks;
}
  where
    not_so : (a b : Bool) → (a ≡ true → b ≡ true) → b ≡ false → a ≡ false
    not_so true b f e = absurd (let t = f refl in cc)
    not_so false b f e = refl

pub going_on_keeps : GoingOnKeeps
going_on_keeps standing r h = stays_ok standing r (proceeded r.own) (keeps_keys r.own h.ground.keys) (proceeded_stays r.own) h

pub notices_keep : NoticesKeep
notices_keep standing r h =
    let f = steps.notices_keep r.own h.ground.keys in
    record {
      message = λ session events. stays_ok standing r (all_noticed session events r.own) (f.message session events) (message_stays session events r.own) h;
      resync = stays_ok standing r (resynced r.own) f.resync (stays_itself r.own.entries r.own.waits.spoiled) h;
      compaction = stays_ok standing r (all_given_up r.own) f.compaction (given_up_stays r.own) h;
    }

pub asks_keep : AsksKeep
asks_keep standing m a r h =
    let g = ground_of r in
    let f = decided_ground m g a in
    record {
      ground = decided_ok standing m g a h.ground;
      asks = all_ended (ask_stands f) (decided_ask m g a) r.asks (all_kept (ask_stands g) (ask_stands f) (λ x t. grown_stands g f (decided_grows m g a) x t) r.asks h.asks) (decided_stands m g a);
    }

pub sending_keeps : SendingKeeps
sending_keeps standing call k r h =
    let o = option_map (sent_out call) (at r.acquires k) in
    record {
      ground = record {
        keys = h.ground.keys;
        marks = λ j. h.ground.marks j ∙ sym (ap is_some (at-with_at r.acquires k j o) ∙ by_same j (same k j) refl);
        owned = h.ground.owned;
      };
      asks = all_kept (ask_stands (ground_of r)) (ask_stands (ground_of (acquire_sent call k r))) (λ a t. let j = ask_key a in moved_stands a.ticket (at r.own.entries j) (at r.own.entries j) (at r.acquires j) (at (changed_at r.acquires k (sent_out call)) j) a.stage (λ w. w) (ap is_some (at-with_at r.acquires k j o) ∙ by_same j (same k j) refl) (ap (names a.ticket) (at-with_at r.acquires k j o) ∙ by_name a.ticket j (same k j) refl) t) r.asks h.asks;
    }
  where
    by_same : (j : List ℕ) (b : Bool) → same k j ≡ b → is_some (cond b (option_map (sent_out call) (at r.acquires k)) (at r.acquires j)) ≡ is_some (at r.acquires j)
    by_same j true q = some-mapped (sent_out call) (at r.acquires k) ∙ ap (λ (i : List ℕ). is_some (at r.acquires i)) (same-equal k j q)
    by_same j false q = refl

    named : (ticket : ℕ) (c : Option Acquire) → names ticket (option_map (sent_out call) c) ≡ names ticket c
    named ticket None = refl
    named ticket (Some c) = refl

    by_name : (ticket : ℕ) (j : List ℕ) (b : Bool) → same k j ≡ b → names ticket (cond b (option_map (sent_out call) (at r.acquires k)) (at r.acquires j)) ≡ names ticket (at r.acquires j)
    by_name ticket j true q = named ticket (at r.acquires k) ∙ ap (λ (i : List ℕ). names ticket (at r.acquires i)) (same-equal k j q)
    by_name ticket j false q = refl

-- Those with one.

pub answers_keep : AnswersKeep
answers_keep standing m call a r o h =
    of_ending (answered call a m.session m.now r.own) (kept.answers_keep r.own call a m.session m.now o h.keys) (answered_calm call a m.session m.now r.own)
  where
    of_ending : (x : Option Ending) → waits.KeptIf x → CalmIf r.own x → KeptIf standing (answered_by m x r)
    of_ending None f c = tt
    of_ending (Some x) f c = released_ok standing true m (ending x r) (calm_ok standing r.own x.own r.acquires f c h)

pub losses_keep : LossesKeep
losses_keep standing m call r h =
    released_ok standing false m (ending (lost call r.own) r) (calm_ok standing r.own (lost call r.own).own r.acquires (kept.losses_keep r.own call h.keys) (lost_calm call r.own) h)

pub session_end_keeps : SessionEndKeeps
session_end_keeps standing m r h = released_ok false false m (on (over (ground_of r)) r.asks) (over_ok standing (ground_of r) h)

pub acquire_losses_keep : AcquireLossesKeep
acquire_losses_keep standing members m k r h = released_ok standing false m _ (gone_ok standing k (ground_of r) h)

pub taking_off_keeps : TakingOffKeeps
taking_off_keeps standing m p xs r h = released_ok standing false m _ (dropped_ok standing (falls p r) (record { own = forgotten_all p r.asks r.own; acquires = r.acquires }) (forgotten_all_ok standing p r.asks r.own r.acquires h))

no_acquire : (k : List ℕ) (g : Ground) → is_some (at (acquire_gone k g).own.waits.spoiled k) ≡ false
no_acquire k g = ap is_some (at-with_at g.own.waits.spoiled k k None) ∙ ap (λ b. is_some (cond b None (at g.own.waits.spoiled k))) (same-itself k)

pub acquires_keep : AcquiresKeep
acquires_keep standing m k a r l h = by_claim (at r.acquires k) refl
  where
    alive : (n : ℕ) (o : Option ℕ) → is_session o n ≡ true → is_some o ≡ true
    alive n None t = absurd (cc)
    alive n (Some x) t = refl

    won_calm : (b : Bool) (create : ℕ) (kv : Option Kv) → is_writing (Some (won b create kv)) ≡ false
    won_calm true create kv = refl
    won_calm false create kv = refl

    won_owned : (b : Bool) (create : ℕ) (kv : Option Kv) → (b ≡ true → standing ≡ true) → standing ≡ false → is_owned (Some (won b create kv)) ≡ false
    won_owned true create kv f n = absurd (let t = f refl in cc)
    won_owned false create kv f n = refl

    -- a waiting acquire is at a key without an entry, and else what was there is no write's
    found_calm : (o : Option Owner) (e : Option Entry) → is_some e ≡ false → is_owned (found_own m.session o e) ≡ false
    found_calm None None n = refl
    found_calm None (Some x) n = absurd (cc)
    found_calm (Some o) (Some x) n = absurd (cc)
    found_calm (Some o) None n = by_test (λ (x : Option Entry). is_owned x ≡ false) (is_session m.session o.lease && true) (Some (own_entry o.create)) None refl refl

    of_owned : (e : Option Entry) → is_owned e ≡ false → is_writing e ≡ false
    of_owned e t = second (is_held e) (is_writing e) t
      where
        second : (a b : Bool) → a || b ≡ false → b ≡ false
        second true b t = absurd (cc)
        second false b t = t

    done : (held : Bool) (d : Header) (c : Option Claim) → (held ≡ true → standing ≡ true) → is_some (at r.own.entries k) ≡ false → KeptAfter standing (done_by m k held d c r)
    done held d None f n = tt
    done held d (Some (Acquired create kv)) f n =
        released_ok standing held m _ (entry_ok standing k (Some (won held create kv)) (acquire_gone k (ground_of r)) (won_calm held create kv) (no_acquire k (ground_of r)) (won_owned held create kv f) (gone_ok standing k (ground_of r) h.ground))
    done held d (Some (OwnedBy kv owner)) f n =
        let e = found_own m.session owner (at r.own.entries k) in
        let q = found_calm owner (at r.own.entries k) n in
        released_ok standing false m _ (entry_ok standing k e (acquire_gone k (ground_of r)) (of_owned e q) (no_acquire k (ground_of r)) (λ _. q) (gone_ok standing k (ground_of r) h.ground))

    refused : (ends : Bool) → KeptAfter standing (Some (acquire_refused m k ends r))
    refused true = session_end_keeps standing m (on (acquire_gone k (ground_of r)) r.asks) (gone_ok standing k (ground_of r) h.ground)
    refused false = released_ok standing false m (on (acquire_gone k (ground_of r)) r.asks) (gone_ok standing k (ground_of r) h.ground)

    with_claim : (c : Acquire) (a : Answer) → is_some (at r.own.entries k) ≡ false → KeptAfter standing (answered_acquire m k (Some c) a r)
    with_claim c (answer.Done reply) n = done (is_session m.session c.session && not (is_spoiled k r.own)) reply.header (claimed r.own.waits.prefix k reply) (λ t. l (alive c.session m.session (and_first (is_session m.session c.session) (not (is_spoiled k r.own)) t))) n
    with_claim c (answer.Refused x) n = refused (is_session m.session c.session && (x.code == NOT_FOUND))

    by_claim : (o : Option Acquire) → at r.acquires k ≡ o → KeptAfter standing (answered_acquire m k o a r)
    by_claim None q = h
    by_claim (Some c) q = with_claim c a ((h.ground.keys k).ok.apart (h.ground.marks k ∙ ap is_some q))
