-- A message, notice by notice; and one notice, part by part.
use Rattle.std.proofs.Common.{◌≡◌, ℕ, Bool, true, false, ◌&&◌, cond, nat_lt, ◌==◌, List, [], ◌∷◌, ◌++◌, Option, None, Some, is_some, refl, sym, ap, ◌∙◌}
use Rattle.std.specs.Option.{option_map}
use Rattle.etcd_types.specs.declared.watch.Event.{Event}
use Rattle.etcd_types.specs.declared.watch.Change.{Change}
use Rattle.etcd_types.specs.declared.watch.Change.TheVariants as change
use Rattle.etcd_types.specs.Keys.{same}
use Rattle.etcd_types.proofs.Bools.{and_first, and_second}
use Rattle.proxy_model.specs.declared.lease.Entry.{Entry}
use Rattle.proxy_model.specs.declared.lease.Phase.{Phase}
use Rattle.proxy_model.specs.declared.lease.Phase.TheVariants.{Held, Writing, Leaving}
use Rattle.proxy_model.specs.Foreign.{revoke_word}
use Rattle.proxy_model.specs.Keyed.{Keyed, at, changed_at}
use Rattle.proxy_model.specs.LeaseTable.{marked, given_up, is_held, is_held_phase, is_writing, is_writing_phase}
use Rattle.wait_model.specs.Asked.{acquire_spoiled}
use Rattle.wait_model.specs.Notices.{owned_key, put_noticed, noticed, all_noticed, revoked_turn, deleted_turn, deleted_phase}
use Rattle.wait_model.specs.Phases.{is_session, is_of, own_entry}
use Rattle.wait_model.specs.declared.write.Write.{Write}
use Rattle.wait_model.specs.Fits.{are_proper}
use Rattle.wait_model.specs.State.{Waits, Ownership}
use Rattle.revoke_calls.specs.declared.notices.Notice.{Notice}
use Rattle.revoke_calls.specs.declared.notices.Notice.TheVariants.{Revoked, Deleted}
use Rattle.revoke_calls.specs.Messages.{notice_of, notices_of, is_unknown}
use Rattle.revoke_core.proofs.Proper.{proper-gone}
use Rattle.revoke_core.specs.Told.{Told, told_of, with_told, told_one, told_all, revoked_entry, is_older}

-- The revoking word.

pub revoked_of : (session : Option ℕ) (create lease : ℕ) (o : Option Entry) → is_of create o ≡ true → option_map given_up o ≡ revoked_turn session create lease o
revoked_of session create lease None h = absurd (cc)
revoked_of session create lease (Some e) h = by_test (e.create == create) h
  where
    by_test : (b : Bool) → b ≡ true → Some (given_up e) ≡ cond b (Some (given_up e)) (Some e)
    by_test true i = refl
    by_test false i = absurd (cc)

pub unknown_absent : (session : Option ℕ) (lease : ℕ) (o : Option Entry) → is_unknown session lease o ≡ true → o ≡ None
unknown_absent session lease None h = refl
unknown_absent session lease (Some e) h = let i = and_second (is_session session lease) false h in absurd (cc)

pub revoked_unknown : (session : Option ℕ) (create lease : ℕ) (o : Option Entry) → is_unknown session lease o ≡ true → Some (own_entry create) ≡ revoked_turn session create lease o
revoked_unknown session create lease None h = ap (λ b. cond b (Some (own_entry create)) None) (sym (and_first (is_session session lease) true h))
revoked_unknown session create lease (Some e) h = let i = and_second (is_session session lease) false h in absurd (cc)

pub revoked_other : (session : Option ℕ) (create lease : ℕ) (o : Option Entry) → is_of create o ≡ false → is_unknown session lease o ≡ false → o ≡ revoked_turn session create lease o
revoked_other session create lease None h u = by_test (is_session session lease) u
  where
    by_test : (b : Bool) → b && true ≡ false → None ≡ cond b (Some (own_entry create)) None
    by_test true i = absurd (cc)
    by_test false i = refl
revoked_other session create lease (Some e) h u = ap (λ b. cond b (Some (given_up e)) (Some e)) (sym h)

-- A deletion.

pub deleted_held : (revision : ℕ) (o : Option Entry) → is_older revision o ≡ true → is_held o ≡ true → None ≡ deleted_turn revision o
deleted_held revision None h i = absurd (cc)
deleted_held revision (Some e) h i = of e.phase i ∙ ap (λ b. cond b (deleted_phase e e.phase) (Some e)) (sym h)
  where
    of : (p : Phase) → is_held_phase p ≡ true → None ≡ deleted_phase e p
    of Held j = refl
    of (Writing revoked) j = absurd (cc)
    of (Leaving sent) j = absurd (cc)

pub deleted_writing : (revision : ℕ) (o : Option Entry) → is_older revision o ≡ true → is_writing o ≡ true → option_map marked o ≡ deleted_turn revision o
deleted_writing revision None h i = absurd (cc)
deleted_writing revision (Some e) h i = of e.phase i ∙ ap (λ b. cond b (deleted_phase e e.phase) (Some e)) (sym h)
  where
    of : (p : Phase) → is_writing_phase p ≡ true → Some (marked e) ≡ deleted_phase e p
    of Held j = absurd (cc)
    of (Writing revoked) j = refl
    of (Leaving sent) j = absurd (cc)

pub deleted_leaving : (revision : ℕ) (o : Option Entry) → is_held o ≡ false → is_writing o ≡ false → o ≡ deleted_turn revision o
deleted_leaving revision None i j = refl
deleted_leaving revision (Some e) i j = of e.phase i j (nat_lt e.create revision)
  where
    of : (p : Phase) → is_held_phase p ≡ false → is_writing_phase p ≡ false → (b : Bool) → Some e ≡ cond b (deleted_phase e p) (Some e)
    of Held h w b = absurd (cc)
    of (Writing revoked) h w b = absurd (cc)
    of (Leaving sent) h w true = refl
    of (Leaving sent) h w false = refl

pub deleted_younger : (revision : ℕ) (o : Option Entry) → is_older revision o ≡ false → o ≡ deleted_turn revision o
deleted_younger revision None h = refl
deleted_younger revision (Some e) h = ap (λ b. cond b (deleted_phase e e.phase) (Some e)) (sym h)

-- A message.

put_parts : (session : Option ℕ) (k : List ℕ) (create lease : ℕ) (own : Ownership) → put_noticed session k create lease own ≡ with_told own (told_one session (Revoked k create lease) (told_of own))
put_parts session k create lease own = by_test (is_some (at own.waits.spoiled k))
  where
    by_test : (b : Bool) →
        ◌≡◌ {A = Ownership} (cond b (acquire_spoiled k own) (record own { entries = revoked_entry session k create lease own.entries }))
        (record { entries = cond b own.entries (revoked_entry session k create lease own.entries); waits = record own.waits { spoiled = cond b (changed_at own.waits.spoiled k (λ s. true)) own.waits.spoiled } })
    by_test true = refl
    by_test false = refl

one_told : (session : Option ℕ) (c : Change) (own : Ownership) → noticed session c own ≡ with_told own (told_all session (notice_of own.waits.prefix c) (told_of own))
one_told session (change.Put kv) own = by_test (same kv.value revoke_word)
  where
    k : List ℕ
    k = owned_key own.waits.prefix kv.key

    by_test : (b : Bool) → cond b (put_noticed session k kv.create kv.lease own) own ≡ with_told own (told_all session (cond b (Revoked k kv.create kv.lease ∷ []) []) (told_of own))
    by_test true = put_parts session k kv.create kv.lease own
    by_test false = refl
one_told session (change.Delete k revision) own = refl

pub told_append : (session : Option ℕ) (ns ms : List Notice) (t : Told) → told_all session (ns ++ ms) t ≡ told_all session ms (told_all session ns t)
told_append session [] ms t = refl
told_append session (n ∷ ns) ms t = told_append session ns ms (told_one session n t)

pub message_told : (session : Option ℕ) (events : List Event) (own : Ownership) → all_noticed session events own ≡ with_told own (told_all session (notices_of own.waits.prefix events) (told_of own))
message_told session [] own = refl
message_told session (x ∷ xs) own =
    let ns = notice_of own.waits.prefix x.change in
    let one = one_told session x.change own in
    ap (λ (o : Ownership). all_noticed session xs o) one ∙ message_told session xs (with_told own (told_all session ns (told_of own))) ∙ ap (λ (t : Told). with_told own t) (sym (told_append session ns (notices_of own.waits.prefix xs) (told_of own)))

-- The parts of a message's end are those of the definition.

pub notice_waits : (session : Option ℕ) (events : List Event) (own : Ownership) (es : Keyed Entry) (ns : List Notice) (ss : Keyed Bool) (ws : List Write) → es ≡ own.entries → ns ≡ notices_of own.waits.prefix events → ss ≡ (told_all session ns (record { entries = es; spoiled = own.waits.spoiled; writes = own.waits.writes })).spoiled → ws ≡ (told_all session ns (record { entries = es; spoiled = own.waits.spoiled; writes = own.waits.writes })).writes → ◌≡◌ {A = Waits} (record own.waits { spoiled = ss; writes = ws }) (all_noticed session events own).waits
notice_waits session events own es ns ss ws e n s w =
    (λ i. record own.waits { spoiled = s i; writes = w i }) ∙ (λ i. (with_told own (told_all session (n i) (record { entries = e i; spoiled = own.waits.spoiled; writes = own.waits.writes }))).waits) ∙ sym (ap (λ (o : Ownership). o.waits) (message_told session events own))

pub notice_entries : (session : Option ℕ) (events : List Event) (own : Ownership) (es fs : Keyed Entry) (ns : List Notice) → es ≡ own.entries → ns ≡ notices_of own.waits.prefix events → fs ≡ (told_all session ns (record { entries = es; spoiled = own.waits.spoiled; writes = own.waits.writes })).entries → fs ≡ (all_noticed session events own).entries
notice_entries session events own es fs ns e n f =
    f ∙ (λ i. (told_all session (n i) (record { entries = e i; spoiled = own.waits.spoiled; writes = own.waits.writes })).entries) ∙ sym (ap (λ (o : Ownership). o.entries) (message_told session events own))

-- and the writes stay proper
one_proper : (session : Option ℕ) (n : Notice) (t : Told) → are_proper t.writes ≡ true → are_proper (told_one session n t).writes ≡ true
one_proper session (Revoked k create lease) t h = h
one_proper session (Deleted k revision) t h = proper-gone (same k) t.writes h

pub told_proper : (session : Option ℕ) (ns : List Notice) (t : Told) → are_proper t.writes ≡ true → are_proper (told_all session ns t).writes ≡ true
told_proper session [] t h = h
told_proper session (n ∷ ns) t h = told_proper session ns (told_one session n t) (one_proper session n t h)
