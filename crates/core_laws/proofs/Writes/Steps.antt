-- What is given up, noticed, asked, begun and sent keeps what holds of each key.
use Rattle.std.proofs.Common.{◌≡◌, ℕ, Bool, true, false, cond, ◌&&◌, ◌==◌, ◌++◌, nat_lt, List, [], ◌∷◌, Option, None, Some, is_some, refl, sym, ◌∙◌, ap, subst}
use Rattle.etcd_types.specs.Keys.{same}
use Rattle.etcd_types.specs.declared.watch.Event.{Event}
use Rattle.etcd_types.specs.declared.watch.Change.{Change}
use Rattle.etcd_types.specs.declared.watch.Change.TheVariants as change
use Rattle.proxy_model.specs.Foreign.{revoke_word}
use Rattle.etcd_types.proofs.KeyOrder.{same-equal}
use Rattle.proxy_model.specs.declared.lease.Entry.{Entry}
use Rattle.proxy_model.specs.declared.lease.Phase.{Phase}
use Rattle.proxy_model.specs.declared.lease.Phase.TheVariants.{Held, Writing, Leaving}
use Rattle.proxy_model.specs.Keyed.{Keyed, at, with_at}
use Rattle.std.specs.Option.{option_map}
use Rattle.proxy_model.specs.LeaseTable.{is_writing, is_writing_phase, unwritten, leaving, given_up}
use Rattle.proxy_model.proofs.KeyedLaws.{at-with_at}
use Rattle.wait_model.specs.declared.write.Write.{Write}
use Rattle.wait_model.specs.declared.write.WriteStage.{WriteStage}
use Rattle.wait_model.specs.declared.write.WriteStage.TheVariants.{Waiting, Sends, Finds}
use Rattle.wait_model.specs.Asked.{new_write, acquire_spoiled}
use Rattle.wait_model.specs.Covers.{covers}
use Rattle.wait_model.specs.Endings.{given_back, forgotten_by, forgotten}
use Rattle.wait_model.specs.Fits.{is_quiet, StageOk, KeyOk, Fits}
use Rattle.wait_model.specs.ForeignOwnership.{stage_gone, found_gone}
use Rattle.wait_model.specs.GuardedAnswers.{ended_by, unwrote_entries, left_entries}
use Rattle.wait_model.specs.LeasingStream.{all_given_up}
use Rattle.wait_model.specs.Notices.{revoked_turn, deleted_turn, deleted_phase, put_noticed, delete_noticed, owned_key, noticed, all_noticed}
use Rattle.wait_model.specs.Phases.{if_written, own_entry, is_session}
use Rattle.wait_model.specs.Stages.{is_waiting, is_due}
use Rattle.wait_model.specs.State.{Ownership}
use Rattle.wait_model.specs.Writes.{first_by, without_first, has_ticket}
use Rattle.wait_model.proofs.Tables.{at-each}
use Rattle.core_laws.specs.Writes.Laws.{ForgettingKeeps, NoticesKeep, AsksKeep, AcquiresKeep}
use Rattle.core_laws.proofs.Writes.Phases.{some-mapped, writing-given_up}
use Rattle.core_laws.proofs.Writes.Passes.{key_first, key_later, first_key, later_key, quiet_first, quiet_later, first_quiet, later_quiet, moved_key}
use Rattle.core_laws.proofs.Writes.FoundWrite.{quiet_key, head_found, rest_found}
use Rattle.core_laws.proofs.Writes.Endings.{change_keeps, unwritten_calms, leaving_calms, unchanged}
use Rattle.core_laws.proofs.Writes.Kept.{Stages, restaged_key}

-- A waiting write is taken away.

as_waiting : (e : Option Entry) (s : Option Bool) (stage : WriteStage) → is_waiting stage ≡ true → StageOk e s stage → StageOk e s Waiting
as_waiting e s Waiting h o = o
as_waiting e s (Sends owner x) h o = absurd (cc)
as_waiting e s (Finds found) h o = absurd (cc)

quiet_without : (p : Write → Bool) (ws : List Write) (k : List ℕ) → is_quiet k ws ≡ true → is_quiet k (without_first p ws) ≡ true
quiet_without p [] k q = q
quiet_without p (v ∷ vs) k q =
    elim (covers v k) as (λ b. covers v k ≡ b → is_quiet k (cond (p v) vs (v ∷ without_first p vs)) ≡ true) [
      | true ↦ λ c. let r = quiet_first v vs k c q in kept (p v) r.1 (first_quiet v (without_first p vs) k c r.0 (quiet_without p vs k r.1))
      | false ↦ λ c. let r = quiet_later v vs k c q in kept (p v) r (later_quiet v (without_first p vs) k c (quiet_without p vs k r))
    ] refl
  where
    kept : (b : Bool) → is_quiet k vs ≡ true → is_quiet k (v ∷ without_first p vs) ≡ true → is_quiet k (cond b vs (v ∷ without_first p vs)) ≡ true
    kept true h i = h
    kept false h i = i

waiting_removed : (p : Write → Bool) (w : Write) (ws : List Write) (e : Option Entry) (s : Option Bool) (k : List ℕ) → first_by p ws ≡ Some w → is_waiting w.stage ≡ true → KeyOk e s ws k → KeyOk e s (without_first p ws) k
waiting_removed p w [] e s k f a h = absurd (cc)
waiting_removed p w (v ∷ vs) e s k f a h =
    elim (p v) as (λ b. p v ≡ b → KeyOk e s (cond b vs (v ∷ without_first p vs)) k) [
      | true ↦ λ t.
          let i = ap (λ (x : Write). is_waiting x.stage) (head_found p v w vs t f) ∙ a in
          elim (covers v k) as (λ b. covers v k ≡ b → KeyOk e s vs k) [
            | true ↦ λ c. let r = key_first e s v vs k c h in quiet_key e s vs k r.0 (as_waiting e s v.stage i r.1)
            | false ↦ λ c. key_later e s v vs k c h
          ] refl
      | false ↦ λ t.
          elim (covers v k) as (λ b. covers v k ≡ b → KeyOk e s (v ∷ without_first p vs) k) [
            | true ↦ λ c. let r = key_first e s v vs k c h in first_key e s v (without_first p vs) k c (quiet_without p vs k r.0) r.1
            | false ↦ λ c. later_key e s v (without_first p vs) k c (waiting_removed p w vs e s k (rest_found p v w vs t f) a (key_later e s v vs k c h))
          ] refl
    ] refl

waiting_gives_nothing : (w : Write) (es : Keyed Entry) (k : List ℕ) → is_waiting w.stage ≡ true → at (given_back w es) k ≡ at es k
waiting_gives_nothing w es k a =
    of_stage w.stage a refl
  where
    of_stage : (stage : WriteStage) → is_waiting stage ≡ true → w.stage ≡ stage → at (given_back w es) k ≡ at es k
    of_stage Waiting a e = rw e (at-each (λ j x. if_written (false && covers w j) leaving x) es k ∙ unchanged false leaving (at es k) refl)
    of_stage (Sends owner s) a e = absurd (cc)
    of_stage (Finds found) a e = absurd (cc)

forgotten_by_keeps : (p : Write → Bool) (own : Ownership) → Fits own → (o : Option Write) → first_by p own.waits.writes ≡ o → Fits (forgotten_by p o own)
forgotten_by_keeps p own h None f = h
forgotten_by_keeps p own h (Some w) f =
    elim (is_waiting w.stage) as (λ b. is_waiting w.stage ≡ b → Fits (ended_by own (given_back w own.entries) p)) [
      | true ↦ λ a k. moved_key (at own.entries k) (at (given_back w own.entries) k) (at own.waits.spoiled k) (at own.waits.spoiled k) (without_first p own.waits.writes) k (waiting_gives_nothing w own.entries k a) refl (waiting_removed p w own.waits.writes (at own.entries k) (at own.waits.spoiled k) k f a (h k))
      | false ↦ λ a.
          by_test (is_due w.stage) (unwrote_entries w own.entries) (left_entries w own.entries) (change_keeps own p w (λ k e. unwritten e) (λ k. unwritten_calms) f a h) (change_keeps own p w (λ k e. leaving e) (λ k. leaving_calms) f a h)
    ] refl
  where
    by_test : (b : Bool) (es fs : Keyed Entry) → Fits (ended_by own es p) → Fits (ended_by own fs p) → Fits (ended_by own (cond b es fs) p)
    by_test true es fs x y = x
    by_test false es fs x y = y

pub forgetting_keeps : ForgettingKeeps
unfolding forgotten
forgetting_keeps own ticket h = forgotten_by_keeps (has_ticket ticket) own h (first_by (has_ticket ticket) own.waits.writes) refl

-- Another entry, another mark.

entry_key : (e f : Option Entry) (s : Option Bool) (ws : List Write) (k : List ℕ) → (is_writing f ≡ true → is_writing e ≡ true) → (is_some s ≡ true → is_some e ≡ false → is_some f ≡ false) → KeyOk e s ws k → KeyOk f s ws k
entry_key e f s ws k w a h = record { only = h.only; ok = record { apart = λ t. a t (h.ok.apart t); free = h.ok.free; writer = λ t. h.ok.writer (w t) } }

mark_key : (e : Option Entry) (s t : Option Bool) (ws : List Write) (k : List ℕ) → is_some t ≡ is_some s → KeyOk e s ws k → KeyOk e t ws k
mark_key e s t ws k q h = record { only = h.only; ok = record { apart = λ x. h.ok.apart (sym q ∙ x); free = λ x. q ∙ h.ok.free x; writer = h.ok.writer } }

-- a change at one key alone
at_one : {A : Type 0} (P : List ℕ → Option A → Type 0) (es : Keyed A) (k : List ℕ) (o : Option A) → P k o → ((j : List ℕ) → P j (at es j)) → (j : List ℕ) → P j (at (with_at es k o) j)
at_one P es k o x h j =
    rw (at-with_at es k j o) (elim (same k j) as (λ b. same k j ≡ b → P j (cond b o (at es j))) [
      | true ↦ λ t. subst (λ (i : List ℕ). P i o) (same-equal k j t) x
      | false ↦ λ t. h j
    ] refl)

pub spoiled_keeps : (k : List ℕ) (own : Ownership) → Fits own → Fits (acquire_spoiled k own)
spoiled_keeps k own h =
    at_one (λ j s. KeyOk (at own.entries j) s own.waits.writes j) own.waits.spoiled k (option_map (λ s. true) (at own.waits.spoiled k)) (mark_key (at own.entries k) (at own.waits.spoiled k) _ own.waits.writes k (some-mapped (λ s. true) (at own.waits.spoiled k)) (h k)) h

revoked_writing : (session : Option ℕ) (create lease : ℕ) (e : Option Entry) → is_writing (revoked_turn session create lease e) ≡ true → is_writing e ≡ true
revoked_writing session create lease None t = by_test (is_session session lease) t
  where
    by_test : (b : Bool) → is_writing (cond b (Some (own_entry create)) None) ≡ true → false ≡ true
    by_test true t = t
    by_test false t = t
revoked_writing session create lease (Some e) t = by_test (e.create == create) t
  where
    by_test : (b : Bool) → is_writing (cond b (Some (given_up e)) (Some e)) ≡ true → is_writing (Some e) ≡ true
    by_test true t = sym (writing-given_up true (Some e)) ∙ t
    by_test false t = t

put_keeps : (session : Option ℕ) (k : List ℕ) (create lease : ℕ) (own : Ownership) → Fits own → Fits (put_noticed session k create lease own)
put_keeps session k create lease own h =
    elim (is_some (at own.waits.spoiled k)) as (λ b. is_some (at own.waits.spoiled k) ≡ b → Fits (cond b (acquire_spoiled k own) (record own { entries = with_at own.entries k (revoked_turn session create lease (at own.entries k)) }))) [
      | true ↦ λ t. spoiled_keeps k own h
      | false ↦ λ t.
          at_one (λ j e. KeyOk e (at own.waits.spoiled j) own.waits.writes j) own.entries k (revoked_turn session create lease (at own.entries k)) (entry_key (at own.entries k) _ (at own.waits.spoiled k) own.waits.writes k (revoked_writing session create lease (at own.entries k)) (λ x y. absurd (cc)) (h k)) h
    ] refl

-- What was found is gone.

gone_stages : (p : List ℕ → Bool) (e : Option Entry) (s : Option Bool) → Stages (λ w. stage_gone p w.stage) e s e
gone_stages p e s = record { waiting = λ w t. waits w.stage t; ok = λ w o. alike w.stage o; none = λ o. o }
  where
    waits : (stage : WriteStage) → is_waiting stage ≡ true → is_waiting (stage_gone p stage) ≡ true
    waits Waiting t = t
    waits (Sends owner x) t = t
    waits (Finds found) t = t

    alike : (stage : WriteStage) → StageOk e s stage → StageOk e s (stage_gone p stage)
    alike Waiting o = o
    alike (Sends owner x) o = o
    alike (Finds found) o = record { apart = o.apart; free = o.free; writer = o.writer }

pub gone_keeps : (p : List ℕ → Bool) (own : Ownership) → Fits own → Fits (found_gone p own)
gone_keeps p own h k =
    restaged_key (λ w. stage_gone p w.stage) (at own.entries k) (at own.waits.spoiled k) (at own.entries k) (gone_stages p (at own.entries k) (at own.waits.spoiled k)) own.waits.writes k (h k)

deleted_writing : (revision : ℕ) (e : Option Entry) → is_writing (deleted_turn revision e) ≡ true → is_writing e ≡ true
deleted_writing revision None t = t
deleted_writing revision (Some e) t = by_test (nat_lt e.create revision) t
  where
    of_phase : (p : Phase) → is_writing (deleted_phase e p) ≡ true → e.phase ≡ p → is_writing_phase e.phase ≡ true
    of_phase Held t q = absurd (cc)
    of_phase (Writing revoked) t q = ap is_writing_phase q
    of_phase (Leaving sent) t q = t

    by_test : (b : Bool) → is_writing (cond b (deleted_phase e e.phase) (Some e)) ≡ true → is_writing_phase e.phase ≡ true
    by_test true t = of_phase e.phase t refl
    by_test false t = t

deleted_none : (revision : ℕ) (e : Option Entry) → is_some e ≡ false → is_some (deleted_turn revision e) ≡ false
deleted_none revision None n = n
deleted_none revision (Some e) n = absurd (cc)

delete_keeps : (k : List ℕ) (revision : ℕ) (own : Ownership) → Fits own → Fits (delete_noticed k revision own)
delete_keeps k revision own h =
    gone_keeps (same k) (record own { entries = with_at own.entries k (deleted_turn revision (at own.entries k)) })
    (at_one (λ j e. KeyOk e (at own.waits.spoiled j) own.waits.writes j) own.entries k (deleted_turn revision (at own.entries k)) (entry_key (at own.entries k) _ (at own.waits.spoiled k) own.waits.writes k (deleted_writing revision (at own.entries k)) (λ x y. deleted_none revision (at own.entries k) y) (h k)) h)

given_up_keeps : (own : Ownership) → Fits own → Fits (all_given_up own)
given_up_keeps own h k =
    let e = at own.entries k in
    let s = at own.waits.spoiled k in
    rw (at-each (λ j x. given_up x) own.entries k, at-each (λ j x. true) own.waits.spoiled k) (mark_key (option_map given_up e) s (option_map (λ x. true) s) own.waits.writes k (some-mapped (λ x. true) s) (entry_key e (option_map given_up e) s own.waits.writes k (λ t. sym (writing-given_up true e) ∙ t) (λ x y. some-mapped given_up e ∙ y) (h k)))

notice_keeps : (session : Option ℕ) (c : Change) (own : Ownership) → Fits own → Fits (noticed session c own)
notice_keeps session (change.Put kv) own h =
    by_test (same kv.value revoke_word) (put_keeps session (owned_key own.waits.prefix kv.key) kv.create kv.lease own h)
  where
    by_test : (b : Bool) → Fits (put_noticed session (owned_key own.waits.prefix kv.key) kv.create kv.lease own) → Fits (cond b (put_noticed session (owned_key own.waits.prefix kv.key) kv.create kv.lease own) own)
    by_test true x = x
    by_test false x = h
notice_keeps session (change.Delete k revision) own h = delete_keeps (owned_key own.waits.prefix k) revision own h

all_keep : (session : Option ℕ) (events : List Event) (own : Ownership) → Fits own → Fits (all_noticed session events own)
all_keep session [] own h = h
all_keep session (e ∷ es) own h = all_keep session es (noticed session e.change own) (notice_keeps session e.change own h)

pub notices_keep : NoticesKeep
notices_keep own h = record {
  message = λ session events. all_keep session events own h;
  resync = gone_keeps (λ k. true) own h;
  compaction = given_up_keeps own h;
}

-- A write is asked.

quiet_asked : (w : Write) (ws : List Write) (k : List ℕ) → is_waiting w.stage ≡ true → is_quiet k ws ≡ true → is_quiet k (ws ++ w ∷ []) ≡ true
quiet_asked w [] k a q =
    elim (covers w k) as (λ b. covers w k ≡ b → is_quiet k (w ∷ []) ≡ true) [ true ↦ λ c. first_quiet w [] k c a refl | false ↦ λ c. later_quiet w [] k c refl ] refl
quiet_asked w (v ∷ vs) k a q =
    elim (covers v k) as (λ b. covers v k ≡ b → is_quiet k (v ∷ vs ++ w ∷ []) ≡ true) [
      | true ↦ λ c. let r = quiet_first v vs k c q in first_quiet v (vs ++ w ∷ []) k c r.0 (quiet_asked w vs k a r.1)
      | false ↦ λ c. later_quiet v (vs ++ w ∷ []) k c (quiet_asked w vs k a (quiet_later v vs k c q))
    ] refl

asked_key : (w : Write) (ws : List Write) (e : Option Entry) (s : Option Bool) (k : List ℕ) → is_waiting w.stage ≡ true → KeyOk e s ws k → KeyOk e s (ws ++ w ∷ []) k
asked_key w [] e s k a h = quiet_key e s (w ∷ []) k (quiet_asked w [] k a refl) h.ok
asked_key w (v ∷ vs) e s k a h =
    elim (covers v k) as (λ b. covers v k ≡ b → KeyOk e s (v ∷ vs ++ w ∷ []) k) [
      | true ↦ λ c. let r = key_first e s v vs k c h in first_key e s v (vs ++ w ∷ []) k c (quiet_asked w vs k a r.0) r.1
      | false ↦ λ c. later_key e s v (vs ++ w ∷ []) k c (asked_key w vs e s k a (key_later e s v vs k c h))
    ] refl

pub asks_keep : AsksKeep
asks_keep own ticket ask h k = asked_key (new_write ticket ask) own.waits.writes (at own.entries k) (at own.waits.spoiled k) k refl (h k)

-- An acquire begins and ends.

pub acquires_keep : AcquiresKeep
acquires_keep own k h = record {
  spoils = spoiled_keeps k own h;
  begins = λ n a. at_one (λ j s. KeyOk (at own.entries j) s own.waits.writes j) own.waits.spoiled k (Some false) (record { only = (h k).only; ok = record { apart = λ _. n; free = λ t. absurd (cc); writer = (h k).ok.writer } }) h;
  ends = at_one (λ j s. KeyOk (at own.entries j) s own.waits.writes j) own.waits.spoiled k None (record { only = (h k).only; ok = record { apart = λ t. absurd (cc); free = λ _. refl; writer = (h k).ok.writer } }) h;
}
