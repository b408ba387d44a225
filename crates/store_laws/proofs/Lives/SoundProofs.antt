-- Every step of a store keeps it sound.
use Rattle.std.proofs.Common.{◌≡◌, ℕ, zero, suc, ◌+◌, ◌≤◌, ◌-◌, Bool, true, false, cond, not, ◌&&◌, ◌||◌, ◌==◌, nat_lt, List, [], ◌∷◌, length, map, set, replicate, Option, None, Some, Ok, Err, refl, sym, ◌∙◌, ap, subst, arith}
use Rattle.std.specs.List.{list_all}
use Rattle.std.proofs.lemmas.List.{length-append}
use Rattle.std.proofs.lemmas.Bool.Decides.{nat_tests}
use Rattle.etcd_types.specs.declared.record.Kv.{Kv}
use Rattle.etcd_types.specs.declared.operation.PutAsk.{PutAsk}
use Rattle.etcd_types.specs.declared.operation.DeleteAsk.{DeleteAsk}
use Rattle.etcd_types.specs.declared.operation.Op.{Op}
use Rattle.etcd_types.specs.declared.answer.Body.{Body}
use Rattle.etcd_types.specs.Keys.{same}
use Rattle.etcd_types.specs.Records.{after_put}
use Rattle.etcd_types.proofs.Bools.{and_both, and_first, and_second}
use Rattle.store_model.specs.declared.history.KeyChange.{KeyChange}
use Rattle.store_model.specs.declared.history.KeyChange.TheVariants as change
use Rattle.store_model.specs.declared.lease.Lease.{Lease}
use Rattle.store_model.specs.declared.watch.OpenWatch.{OpenWatch}
use Rattle.store_model.specs.declared.store_fault.StoreFault.{StoreFault}
use Rattle.store_model.specs.declared.store_fault.StoreFault.TheVariants as fault
use Rattle.store_model.specs.History.{History, newest, with_revision}
use Rattle.store_model.specs.Records.{record_now}
use Rattle.store_model.specs.Ranges.{records_now}
use Rattle.store_model.specs.State.{State, applied_by}
use Rattle.store_model.specs.Members.{applied, lacks_member}
use Rattle.store_model.specs.Transactions.{seen, run, run_put, run_delete, has_lease, deletion}
use Rattle.store_model.specs.FirstRefusals.{first_refusal}
use Rattle.store_model.specs.Leases.{attached, ended, expired, with_lease, without_lease, granted_lease, granted_ttl, asked_number}
use Rattle.store_model.proofs.RunLemmas.{PutMade, put_ok, delete_ok, seen-record, has_record, deletions-record}
use Rattle.store_laws.proofs.Requests.Deletions.{attached-has, ended-record}
use Rattle.store_laws.proofs.Requests.Lifted.{Keeps, Holds, lifted}
use Rattle.store_laws.proofs.Requests.StepCases.{exec_by}
use Rattle.store_laws.proofs.Events.LeavingProofs.{message_moves}
use Rattle.store_laws.specs.Lives.Sound.{Sound, AreAttached, is_granted, is_revision, is_reached, StartsSound, RequestsKeepSound, ExpiriesKeepSound, AppliesKeepSound, OpeningsKeepSound, MessagesKeepSound}
use Rattle.store_laws.specs.Lives.TestedKeys.{have_keys, is_named, puts_pass, any_delete}
use Rattle.store_laws.proofs.Lives.Histories.{same_some, with_revision-all}
use Rattle.store_laws.proofs.Lives.LeaseLists.{rise-with_lease, rise-without_lease, asked-free, still-with_lease, still-without_lease, granted_both}
use Rattle.store_laws.proofs.Lives.TestedProofs.{keys_are_there, none-lacks_key, keep_keys, passed_attached, expired_by}

-- leases

pub put_lease : (old : Option Kv) (k v : List ℕ) (lease revision : ℕ) → (after_put old k v lease revision).lease ≡ lease
put_lease None k v lease revision = refl
put_lease (Some kv) k v lease revision = refl

known_granted : (none known : Bool) → not none && not known ≡ false → none || known ≡ true
known_granted true known e = refl
known_granted false true e = refl
known_granted false false e = absurd (cc)

lease_granted : (s : State) (ask : PutAsk) (made next : List KeyChange) (b : Body) (m : PutMade s ask made next b) → AreAttached s.leases (seen s made) → is_granted s.leases m.lease ≡ true
lease_granted s ask made next b m h = by_ignored ask.ignore_lease refl
  where
    by_ignored : (i : Bool) → ask.ignore_lease ≡ i → is_granted s.leases m.lease ≡ true
    by_ignored true e =
        let (kv, found, is) = m.kept e in
        subst (λ (n : ℕ). is_granted s.leases n ≡ true) (sym is) (h ask.key kv found)
    by_ignored false e =
        subst (λ (n : ℕ). is_granted s.leases n ≡ true) (sym (m.named e)) (known_granted (ask.lease == 0) (has_lease s.leases ask.lease) m.known)

record_by : (leases : List Lease) (t : Bool) (new kv : Kv) (old : Option Kv) → is_granted leases new.lease ≡ true → ((x : Kv) → old ≡ Some x → is_granted leases x.lease ≡ true)
    → cond t (Some new) old ≡ Some kv → is_granted leases kv.lease ≡ true
record_by leases true new kv old g h e = subst (λ (x : Kv). is_granted leases x.lease ≡ true) (same_some new kv e) g
record_by leases false new kv old g h e = h kv e

pub left_by_none : (t : Bool) (kv : Kv) (old : Option Kv) → cond t None old ≡ Some kv → (t ≡ false) × (old ≡ Some kv)
left_by_none true kv old e = absurd (cc)
left_by_none false kv old e = (refl, e)

keep_attached : (s : State) → Keeps s (λ made. AreAttached s.leases (seen s made)) (puts_pass is_named) any_delete
keep_attached s = record { put = puts; delete = deletes }
  where
    puts : (ask : PutAsk) (made : List KeyChange) → is_named ask.key ≡ true → AreAttached s.leases (seen s made) → Holds (λ made. AreAttached s.leases (seen s made)) (run_put s ask made)
    puts ask made p h next b e k kv f =
        let m = put_ok s ask made next b e in
        let made_at = sym (seen-record s made (change.Put ask.key ask.value m.lease ∷ []) k) ∙ ap (λ (cs : List KeyChange). record_now (seen s cs) k) (sym m.made_so) ∙ f in
        let old = record_now (seen s made) k in
        let new = after_put old k ask.value m.lease (length s.history + 2) in
        record_by s.leases (same ask.key k) new kv old
        (subst (λ (n : ℕ). is_granted s.leases n ≡ true) (sym (put_lease old k ask.value m.lease (length s.history + 2))) (lease_granted s ask made next b m h))
        (λ x g. h k x g) made_at

    deletes : (ask : DeleteAsk) (made : List KeyChange) → any_delete ask ≡ true → AreAttached s.leases (seen s made) → Holds (λ made. AreAttached s.leases (seen s made)) (run_delete s ask made)
    deletes ask made p h next b e k kv f =
        let gone = records_now (seen s made) ask.range in
        let made_at = sym (deletions-record (length s.history + 2) k gone (record_now (seen s made) k)) ∙ sym (seen-record s made (map deletion gone) k) ∙ ap (λ (cs : List KeyChange). record_now (seen s cs) k) (sym (delete_ok s ask made next b e)) ∙ f in
        h k kv (left_by_none (has_record k gone) kv (record_now (seen s made) k) made_at).1

-- one more revision

longer : (h : History) (made : List KeyChange) → length h ≤ length (with_revision h made)
longer h [] = omega arith
longer h (c ∷ cs) = let e = length-append h ((c ∷ cs) ∷ []) in let l : length ((c ∷ cs) ∷ []) ≡ 1 = refl in omega arith

still_reached : (h g : History) (revisions : List ℕ) → length h ≤ length g → list_all (is_reached h) revisions ≡ true → list_all (is_reached g) revisions ≡ true
still_reached h g [] l e = refl
still_reached h g (revision ∷ revisions) l e =
    and_both (is_reached g revision) _ (further (and_first (is_reached h revision) _ e)) (still_reached h g revisions l (and_second (is_reached h revision) _ e))
  where
    further : is_reached h revision ≡ true → is_reached g revision ≡ true
    further f = grind (arith, nat_tests)

sound_with : (s : State) (made : List KeyChange) → Sound s → have_keys made ≡ true → AreAttached s.leases (with_revision s.history made) → Sound (record s { history = with_revision s.history made })
sound_with s made h k a =
    let c = h.compacted in
    let l = longer s.history made in
    record {
      revisions = with_revision-all is_revision s.history made h.revisions (λ c cs e. ap is_revision e);
      keys = with_revision-all have_keys s.history made h.keys (λ c cs e. k);
      leases = h.leases;
      compacted = omega arith;
      applied = still_reached s.history (with_revision s.history made) s.applied l h.applied;
      attached = a;
    }

sound_op : (s : State) (op : Op) (made : List KeyChange) (b : Body) → Sound s → first_refusal op ≡ None → run s op [] ≡ Ok (made, b) → Sound (record s { history = with_revision s.history made })
sound_op s op made b h first ran =
    let k = keys_are_there op (none-lacks_key op first) in
    sound_with s made h
    (lifted s (λ made. have_keys made ≡ true) (puts_pass is_named) any_delete (keep_keys is_named s h.keys) op [] k refl made b ran)
    (lifted s (λ made. AreAttached s.leases (seen s made)) (puts_pass is_named) any_delete (keep_attached s) op [] k h.attached made b ran)

lives : (ttl : ℕ) → 1 ≤ granted_ttl ttl
lives ttl = omega arith

sound_granted : (s : State) (ttl number : ℕ) → Sound s → has_lease s.leases number ≡ false → Sound (record s { leases = with_lease (granted_lease (asked_number s.leases number) ttl) s.leases })
sound_granted s ttl number h e =
    let free = asked-free s.leases number h.leases e in
    let lease = granted_lease (asked_number s.leases number) ttl in
    record {
      revisions = h.revisions;
      keys = h.keys;
      leases = rise-with_lease 0 lease s.leases free.0 (lives ttl) free.1 h.leases;
      compacted = h.compacted;
      applied = h.applied;
      attached = λ k kv f. granted_both s.leases (with_lease lease s.leases) kv.lease (λ g. still-with_lease lease s.leases kv.lease g) (h.attached k kv f);
    }

-- a lease that ends

sound_ended : (s : State) (number : ℕ) → Sound s → Sound (ended s number)
sound_ended s number h =
    let made = map deletion (attached s.history number) in
    let c = h.compacted in
    let l = longer s.history made in
    record {
      revisions = with_revision-all is_revision s.history made h.revisions (λ c cs e. ap is_revision e);
      keys = with_revision-all have_keys s.history made h.keys (λ c cs e. passed_attached is_named s number h.keys);
      leases = rise-without_lease 0 number s.leases h.leases;
      compacted = omega arith;
      applied = still_reached s.history (with_revision s.history made) s.applied l h.applied;
      attached = λ k kv f. still k kv (left_by_none (has_record k (attached s.history number)) kv (record_now s.history k) (sym (ended-record s number k) ∙ f));
    }
  where
    still : (k : List ℕ) (kv : Kv) → (has_record k (attached s.history number) ≡ false) × (record_now s.history k ≡ Some kv) → is_granted (without_lease number s.leases) kv.lease ≡ true
    still k kv found = by_test (kv.lease == number) refl
      where
        by_test : (t : Bool) → (kv.lease == number) ≡ t → is_granted (without_lease number s.leases) kv.lease ≡ true
        by_test true e = absurd (let a = attached-has s.history number k kv found.1 e in let b = found.0 in cc)
        by_test false e = granted_both s.leases (without_lease number s.leases) kv.lease (λ g. still-without_lease number s.leases kv.lease e g) (h.attached k kv found.1)

-- every step

pub requests_keep_sound : RequestsKeepSound
requests_keep_sound s member q h =
    exec_by s member (λ r step. Sound step.0)
    (record {
      refuses = λ r refusal known. h;
      runs = λ r op made b e serializable first ran. sound_op s op made b h first ran;
      reads = λ ask b e. h;
      compacts = λ revision physical above within.
          record { revisions = h.revisions; keys = h.keys; leases = h.leases; compacted = within; applied = h.applied; attached = h.attached };
      grants = λ ttl number e. sound_granted s ttl number h e;
      revokes = λ number e. sound_ended s number h;
      keeps_alive = λ number. h;
      tells = λ number keys. h;
      lists = h;
    })
    q

starts_reached : (members : ℕ) → list_all (is_reached []) (replicate members 1) ≡ true
starts_reached zero = refl
starts_reached (suc n) = starts_reached n

pub starts_sound : StartsSound
starts_sound members =
    record { revisions = refl; keys = refl; leases = refl; compacted = omega arith; applied = starts_reached members; attached = λ k kv e. absurd (cc) }

pub expiries_keep_sound : ExpiriesKeepSound
unfolding expired
expiries_keep_sound s t lease e h = expired_by Sound s t lease (has_lease s.leases lease) e (sound_ended s lease h)

reached_set : (h : History) (revisions : List ℕ) (i revision : ℕ) → is_reached h revision ≡ true → list_all (is_reached h) revisions ≡ true → list_all (is_reached h) (set revisions i revision) ≡ true
reached_set h [] i revision r e = refl
reached_set h (x ∷ xs) zero revision r e = and_both (is_reached h revision) _ r (and_second (is_reached h x) _ e)
reached_set h (x ∷ xs) (suc i) revision r e = and_both (is_reached h x) _ (and_first (is_reached h x) _ e) (reached_set h xs i revision r (and_second (is_reached h x) _ e))

sound_applied : (s t : State) (member revision : ℕ) (lacks low high : Bool) (f g : StoreFault) → nat_lt (newest s.history) revision ≡ high
    → cond lacks (Err f) (cond (low || high) (Err g) (Ok (record s { applied = set s.applied (member - 1) revision }))) ≡ Ok t → Sound s → Sound t
sound_applied s t member revision true low high f g is e h = absurd (cc)
sound_applied s t member revision false true high f g is e h = absurd (cc)
sound_applied s t member revision false false true f g is e h = absurd (cc)
sound_applied s t member revision false false false f g is e h =
    let same_state : record s { applied = set s.applied (member - 1) revision } ≡ t = cc in
    subst Sound same_state
    (record {
      revisions = h.revisions;
      keys = h.keys;
      leases = h.leases;
      compacted = h.compacted;
      applied = reached_set s.history s.applied (member - 1) revision (past is) h.applied;
      attached = h.attached;
    })
  where
    past : nat_lt (newest s.history) revision ≡ false → is_reached s.history revision ≡ true
    past q = grind (arith, nat_tests)

pub applies_keep_sound : AppliesKeepSound
unfolding applied
applies_keep_sound s t member revision e h =
    sound_applied s t member revision (lacks_member s member) (nat_lt revision (applied_by s member)) (nat_lt (newest s.history) revision)
    (fault.NoSuchMember member) (fault.BadApply (applied_by s member) (newest s.history)) refl e h

-- a watch moves, and all else stays
sound_watches : (s : State) (ws : List OpenWatch) → Sound s → Sound (record s { watches = ws })
sound_watches s ws h =
    record { revisions = h.revisions; keys = h.keys; leases = h.leases; compacted = h.compacted; applied = h.applied; attached = h.attached }

pub openings_keep_sound : OpeningsKeepSound
openings_keep_sound s member ask h = sound_watches s _ h

pub messages_keep_sound : MessagesKeepSound
messages_keep_sound s t i number e h =
    let moved = message_moves s t i number e in
    subst Sound moved.1 (sound_watches s moved.0 h)
