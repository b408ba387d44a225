-- What most steps do to what a proxy owns and to its writes: notices, calls that end, requests that are forgotten, and a session's end.
use Rattle.std.proofs.Common.{◌≡◌, ℕ, Bool, true, false, not, nat_lt, ◌||◌, ◌==◌, List, [], ◌∷◌, map, Option, None, Some, is_some, refl, sym, ◌∙◌, ap}
use Rattle.std.specs.List.{list_all}
use Rattle.etcd_types.specs.declared.watch.Change.{Change}
use Rattle.etcd_types.specs.declared.watch.Change.TheVariants as change
use Rattle.etcd_types.specs.declared.watch.Event.{Event}
use Rattle.etcd_types.specs.Keys.{is_empty, same}
use Rattle.etcd_types.proofs.Bools.{and_first, and_second, not_true}
use Rattle.proxy_model.specs.declared.lease.Entry.{Entry}
use Rattle.proxy_model.specs.declared.lease.Phase.{Phase}
use Rattle.proxy_model.specs.declared.lease.Phase.TheVariants.{Held, Writing, Leaving}
use Rattle.proxy_model.specs.Foreign.{revoke_word}
use Rattle.proxy_model.specs.Keyed.{Keyed, at, with_at}
use Rattle.proxy_model.specs.LeaseTable.{is_writing_phase, given_up, marked}
use Rattle.wait_model.specs.declared.found.Asking.TheVariants as asking
use Rattle.wait_model.specs.declared.found.Found.{Found}
use Rattle.wait_model.specs.declared.sending.Sending.TheVariants as sending
use Rattle.wait_model.specs.declared.write.Write.{Write}
use Rattle.wait_model.specs.declared.write.WriteStage.{WriteStage}
use Rattle.wait_model.specs.declared.write.WriteStage.TheVariants.{Waiting, Sends, Finds}
use Rattle.wait_model.specs.Asked.{acquire_spoiled}
use Rattle.wait_model.specs.Covers.{is_single}
use Rattle.wait_model.specs.Endings.{given_back, forgotten_by, forgotten}
use Rattle.wait_model.specs.ForeignOwnership.{asked_back, stage_asked, gone_if, stage_gone, found_gone}
use Rattle.wait_model.specs.GuardedAnswers.{ended_by, owns, change_owned, unwrote_entries, left_entries}
use Rattle.wait_model.specs.LeasingStream.{resynced, all_given_up}
use Rattle.wait_model.specs.Notices.{owned_key, revoked_turn, put_noticed, deleted_phase, deleted_turn, noticed, all_noticed}
use Rattle.wait_model.specs.Phases.{own_entry, is_session, if_written}
use Rattle.wait_model.specs.SessionEnd.{due_again, stage_ended, session_ended}
use Rattle.wait_model.specs.Stages.{is_due}
use Rattle.wait_model.specs.State.{Ownership}
use Rattle.wait_model.specs.Writes.{first_by, has_ticket, is_asked_as}
use Rattle.core_laws.proofs.Steps.Comes.{by_test, owner_gone, owner_ended}
use Rattle.core_laws.proofs.Steps.Lists.{all_mapped}
use Rattle.owner_fits.specs.Names.{found_named, stage_named, change_named, events_named}
use Rattle.owner_fits.proofs.Going.{EntryGoes, EntriesGo, entries_stay, at_one, at_each, at_none, writing_eases, written_eases, given_up_eases, WritesGo, writes_stay, each_staged, first_gone}

-- of a whole ownership
pub record OwnGoes (named : Bool) (own next : Ownership) : Type 0 where
  pub prefix : next.waits.prefix ≡ own.waits.prefix
  pub entries : EntriesGo named own.entries next.entries
  pub writes : WritesGo named own.waits.writes next.waits.writes

pub goes_nowhere : (named : Bool) (own : Ownership) → OwnGoes named own own
goes_nowhere named own = record { prefix = refl; entries = entries_stay named own.entries; writes = writes_stay named own.waits.writes }

pub goes_further : (named : Bool) (own next last : Ownership) → OwnGoes named own next → OwnGoes named next last → OwnGoes named own last
goes_further named own next last a b = record {
  prefix = b.prefix ∙ a.prefix;
  entries = λ q l h. b.entries q l (a.entries q l h);
  writes = λ p l h. b.writes p l (a.writes p l h);
}

-- What writes found.

mapped_named : (f : Found → Found) → ((x : Found) → found_named (f x) ≡ found_named x) → (found : List Found) → list_all found_named found ≡ true → list_all found_named (map f found) ≡ true
mapped_named f e found h = all_mapped found_named found_named f (λ x t. e x ∙ t) found h

gone_named : (p : List ℕ → Bool) (s : WriteStage) → stage_named s ≡ true → stage_named (stage_gone p s) ≡ true
gone_named p Waiting h = refl
gone_named p (Sends owner s) h = refl
gone_named p (Finds found) h = mapped_named (λ f. gone_if (p f.key) f) (λ f. by_gone (p f.key) f) found h
  where
    by_gone : (b : Bool) (f : Found) → found_named (gone_if b f) ≡ found_named f
    by_gone true f = refl
    by_gone false f = refl

pub asked_named : (call : ℕ) (held : Bool) (s : WriteStage) → stage_named s ≡ true → stage_named (stage_asked call held s) ≡ true
asked_named call held Waiting h = refl
asked_named call held (Sends owner s) h = refl
asked_named call held (Finds found) h = mapped_named (asked_back call held) (λ f. by_test (λ (x : Found). found_named x ≡ found_named f) (is_asked_as call f) (record f { gone = f.gone || not held; revoke = asking.Done }) f (λ t. refl) (λ t. refl)) found h

ended_named : (single : Bool) (s : WriteStage) → stage_named s ≡ true → stage_named (stage_ended single s) ≡ true
ended_named single Waiting h = refl
ended_named single (Finds found) h = h
ended_named single (Sends false s) h = refl
ended_named single (Sends true (sending.Due since)) h = by_single single
  where
    by_single : (b : Bool) → stage_named (due_again b (sending.Due since)) ≡ true
    by_single true = refl
    by_single false = refl
ended_named single (Sends true (sending.Out call)) h = refl

pub found_gone_goes : (named : Bool) (p : List ℕ → Bool) (own : Ownership) → WritesGo named own.waits.writes (found_gone p own).waits.writes
found_gone_goes named p own = each_staged named (λ w. stage_gone p w.stage) own.waits.writes (λ w. record { owner = owner_gone p w.stage; found = λ n h. gone_named p w.stage h })

-- Notices.

revoked_goes : (named : Bool) (session : Option ℕ) (k : List ℕ) (create lease : ℕ) (e : Option Entry) → (named ≡ true → is_empty k ≡ false) → EntryGoes named k e (revoked_turn session create lease e)
revoked_goes named session k create lease None n q l h = by_test (λ (o : Option Entry). q k o ≡ true) (is_session session lease) (Some (own_entry create)) None (λ t. l.left k create n) (λ t. h)
revoked_goes named session k create lease (Some e) n q l h = by_test (λ (o : Option Entry). q k o ≡ true) (e.create == create) (Some (given_up e)) (Some e) (λ t. l.eased k e (given_up e) (given_up_eases e) h) (λ t. h)

deleted_goes : (named : Bool) (k : List ℕ) (revision : ℕ) (e : Option Entry) → EntryGoes named k e (deleted_turn revision e)
deleted_goes named k revision None q l h = h
deleted_goes named k revision (Some e) q l h = by_test (λ (o : Option Entry). q k o ≡ true) (nat_lt e.create revision) (deleted_phase e e.phase) (Some e) (λ t. by_phase e.phase refl) (λ t. h)
  where
    by_phase : (p : Phase) → e.phase ≡ p → q k (deleted_phase e p) ≡ true
    by_phase Held x = l.nothing k
    by_phase (Writing revoked) x = l.eased k e (marked e) (writing_eases e (marked e) (ap is_writing_phase x)) h
    by_phase (Leaving sent) x = h

put_goes : (named : Bool) (session : Option ℕ) (k : List ℕ) (create lease : ℕ) (own : Ownership) → (named ≡ true → is_empty k ≡ false) → OwnGoes named own (put_noticed session k create lease own)
put_goes named session k create lease own n =
    by_test (OwnGoes named own) (is_some (at own.waits.spoiled k)) (acquire_spoiled k own) (record own { entries = with_at own.entries k (revoked_turn session create lease (at own.entries k)) })
    (λ t. record { prefix = refl; entries = entries_stay named own.entries; writes = writes_stay named own.waits.writes })
    (λ t. record { prefix = refl; entries = at_one named own.entries k _ (revoked_goes named session k create lease (at own.entries k) n); writes = writes_stay named own.waits.writes })

notice_goes : (named : Bool) (session : Option ℕ) (x : Change) (own : Ownership) → (named ≡ true → change_named own.waits.prefix x ≡ true) → OwnGoes named own (noticed session x own)
notice_goes named session (change.Put kv) own n =
    let k = owned_key own.waits.prefix kv.key in
    by_test (OwnGoes named own) (same kv.value revoke_word) (put_noticed session k kv.create kv.lease own) own
    (λ t. put_goes named session k kv.create kv.lease own (λ b. not_true (is_empty k) (sym (ap (λ c. not c || not (is_empty k)) t) ∙ n b)))
    (λ t. goes_nowhere named own)
notice_goes named session (change.Delete k revision) own n =
    let i = owned_key own.waits.prefix k in
    let o = record own { entries = with_at own.entries i (deleted_turn revision (at own.entries i)) } in
    record { prefix = refl; entries = at_one named own.entries i _ (deleted_goes named i revision (at own.entries i)); writes = found_gone_goes named (same i) o }

pub message_goes : (named : Bool) (session : Option ℕ) (es : List Event) (own : Ownership) → (named ≡ true → events_named own.waits.prefix es ≡ true) → OwnGoes named own (all_noticed session es own)
message_goes named session [] own n = goes_nowhere named own
message_goes named session (e ∷ es) own n =
    let o = noticed session e.change own in
    let a = notice_goes named session e.change own (λ b. and_first (change_named own.waits.prefix e.change) (events_named own.waits.prefix es) (n b)) in
    goes_further named own o (all_noticed session es o) a
    (message_goes named session es o (λ b. ap (λ (p : List ℕ). events_named p es) a.prefix ∙ and_second (change_named own.waits.prefix e.change) (events_named own.waits.prefix es) (n b)))

pub resync_goes : (named : Bool) (own : Ownership) → OwnGoes named own (resynced own)
resync_goes named own = record { prefix = refl; entries = entries_stay named own.entries; writes = found_gone_goes named (λ k. true) own }

pub given_up_goes : (named : Bool) (own : Ownership) → OwnGoes named own (all_given_up own)
given_up_goes named own = record { prefix = refl; entries = at_each named (λ k e. given_up e) own.entries (λ k e. given_up_eases e); writes = writes_stay named own.waits.writes }

-- A session's end.

pub session_end_goes : (named : Bool) (own : Ownership) → OwnGoes named own (session_ended own)
session_end_goes named own = record {
  prefix = refl;
  entries = at_none named own.entries;
  writes = each_staged named (λ w. stage_ended (is_single w.request) w.stage) own.waits.writes (λ w. record { owner = owner_ended (is_single w.request) w.stage; found = λ n h. ended_named (is_single w.request) w.stage h });
}

-- Requests that are forgotten.

pub owned_eases : (named : Bool) (w : Write) (f : List ℕ → Entry → Entry) (es : Keyed Entry) → EntriesGo named es (change_owned w f es)
owned_eases named w f es = at_each named (λ k e. if_written (owns w k) (f k) e) es (λ k e. written_eases (owns w k) (f k) e)

pub ended_goes : (named : Bool) (p : Write → Bool) (es : Keyed Entry) (own : Ownership) → EntriesGo named own.entries es → OwnGoes named own (ended_by own es p)
ended_goes named p es own e = record { prefix = refl; entries = e; writes = first_gone named p own.waits.writes }

forgotten_by_goes : (named : Bool) (p : Write → Bool) (o : Option Write) (own : Ownership) → OwnGoes named own (forgotten_by p o own)
forgotten_by_goes named p None own = goes_nowhere named own
forgotten_by_goes named p (Some w) own =
    ended_goes named p (given_back w own.entries) own
    (by_test (EntriesGo named own.entries) (is_due w.stage) (unwrote_entries w own.entries) (left_entries w own.entries) (λ t. owned_eases named w _ own.entries) (λ t. owned_eases named w _ own.entries))

pub forgotten_goes : (named : Bool) (ticket : ℕ) (own : Ownership) → OwnGoes named own (forgotten ticket own)
unfolding forgotten
forgotten_goes named ticket own = forgotten_by_goes named (has_ticket ticket) (first_by (has_ticket ticket) own.waits.writes) own
