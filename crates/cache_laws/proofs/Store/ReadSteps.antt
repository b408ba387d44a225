-- Calls that change no record, refused calls, and steps that the view doesn't see.
use Rattle.std.proofs.Common.{◌≡◌, ◌≢◌, ℕ, ◌-◌, ◌≤◌, nat_lt, nat_le, Bool, true, false, cond, List, [], ◌++◌, Option, None, Some, Result, Ok, Err, refl, sym, ◌∙◌, ap, subst, arith}
use Rattle.std.proofs.lemmas.List.{take_all}
use Rattle.etcd_types.specs.declared.operation.RangeAsk.{RangeAsk}
use Rattle.etcd_types.specs.declared.operation.Op.TheVariants as op
use Rattle.etcd_types.specs.declared.answer.Body.{Body}
use Rattle.etcd_types.specs.declared.answer.Refusal.{Refusal}
use Rattle.etcd_types.specs.declared.request.Request.{Request}
use Rattle.etcd_types.specs.declared.request.Request.TheVariants as request
use Rattle.etcd_types.specs.Keys.{is_empty}
use Rattle.store_model.specs.FirstRefusals.{first_refusal}
use Rattle.store_model.specs.History.{History, newest, up_to_revision}
use Rattle.store_model.specs.Reads.{read}
use Rattle.store_model.specs.State.{State, applied_by}
use Rattle.store_model.specs.Step.{Step, exec, exec_range, told_at, unless, settled}
use Rattle.store_model.specs.Transactions.{has_lease, seen, unchanged}
use Rattle.store_laws.specs.Requests.NamedKeys.{KeepsRecord}
use Rattle.store_laws.proofs.Requests.NamedProofs.{unnamed_keys_stay}
use Rattle.store_laws.proofs.Requests.RequestProofs.{make_one_revision, refusals_change_nothing}
use Rattle.cache_laws.specs.Moves.View.{Kind, Acquires, Writes, Rescinds, Grants, Keeps, Other, View, nobody}
use Rattle.cache_laws.specs.Moves.StoreMoves.{executed}
use Rattle.cache_laws.proofs.Moves.StoreProofs.{acquires_keep}
use Rattle.cache_laws.proofs.Moves.TruthProofs.{opening_is_true}
use Rattle.cache_laws.specs.Store.StoreView.{is_client, owner_at, kv_at, Stands}
use Rattle.cache_laws.specs.Store.CallSteps.{outcome, IsRead, ReadsStep, RefusalsStep, UnseenStep, StartStands}
use Rattle.cache_laws.proofs.Store.Showing.{owner_stays, kv_stays, op_leases, next_shows, ran_of, call_stands}
use Rattle.store_laws.proofs.Lives.SoundProofs.{requests_keep_sound, starts_sound}
use Rattle.store_laws.proofs.Lives.TestedProofs.{keys_stay_tested}
use Rattle.cache_laws.specs.Guards.OwnershipKeys.{has_owner}
use Rattle.cache_laws.proofs.Guards.OwnershipProofs.{reads_put_owned}
use Rattle.store_laws.specs.Lives.TestedKeys.{keys_pass, request_passes}
use Rattle.std.specs.List.{list_all}
use Rattle.cache_laws.specs.Guards.OwnerEvents.{puts_alone, PutAlone}
use Rattle.cache_laws.proofs.Guards.AloneProofs.{reads_put_alone}

-- reads leave the leases

told_leases : (s : State) (member revision : ℕ) (told : Result Body Refusal) → (told_at s member revision told).0.leases ≡ s.leases
told_leases s member revision (Ok b) = refl
told_leases s member revision (Err refusal) = refl

either_leases : (s : State) (b : Bool) (x y : Step) → x.0.leases ≡ s.leases → y.0.leases ≡ s.leases → (cond b x y).0.leases ≡ s.leases
either_leases s true x y e f = e
either_leases s false x y e f = f

unless_leases : (s : State) (found : Option Refusal) (step : Step) → step.0.leases ≡ s.leases → (unless s found step).0.leases ≡ s.leases
unless_leases s None step e = e
unless_leases s (Some refusal) step e = refl

range_leases : (s : State) (member : ℕ) (ask : RangeAsk) → (exec_range s member ask).0.leases ≡ s.leases
range_leases s member ask =
    either_leases s ask.serializable _ _
    (unless_leases s (first_refusal (op.Range ask)) _
    (either_leases s (nat_lt (applied_by s member) s.compacted) _ _ refl (told_leases s member (applied_by s member) (read (up_to_revision s.history (applied_by s member)) (applied_by s member) s.compacted ask))))
    (op_leases s member (op.Range ask))

reads_leave_leases : (s : State) (member : ℕ) (q : Request) → IsRead q → (exec s member q).0.leases ≡ s.leases
unfolding exec
reads_leave_leases s member (request.Range ask) r = range_leases s member ask
reads_leave_leases s member (request.Txn t) r = op_leases s member (op.Txn t)
reads_leave_leases s member (request.Compact revision physical) r = either_leases s (nat_le revision s.compacted) _ _ refl (either_leases s (nat_lt (newest s.history) revision) _ _ refl refl)
reads_leave_leases s member (request.TimeToLive lease keys) r = refl
reads_leave_leases s member request.Leases r = refl
reads_leave_leases s member (request.Put ask) r = absurd r
reads_leave_leases s member (request.Delete ask) r = absurd r
reads_leave_leases s member (request.Grant ttl lease) r = absurd r
reads_leave_leases s member (request.Revoke lease) r = absurd r
reads_leave_leases s member (request.KeepAlive lease) r = absurd r
reads_leave_leases s member (request.Watch ask) r = absurd r

-- a range leaves the history

told_history : (s : State) (member revision : ℕ) (told : Result Body Refusal) → (told_at s member revision told).0.history ≡ s.history
told_history s member revision (Ok b) = refl
told_history s member revision (Err refusal) = refl

either_history : (s : State) (b : Bool) (x y : Step) → x.0.history ≡ s.history → y.0.history ≡ s.history → (cond b x y).0.history ≡ s.history
either_history s true x y e f = e
either_history s false x y e f = f

unless_history : (s : State) (found : Option Refusal) (step : Step) → step.0.history ≡ s.history → (unless s found step).0.history ≡ s.history
unless_history s None step e = e
unless_history s (Some refusal) step e = refl

settled_range : (s : State) (member : ℕ) (told : Result Body Refusal) → (settled s member (unchanged [] told)).0.history ≡ s.history
settled_range s member (Ok b) = refl
settled_range s member (Err refusal) = refl

range_history : (s : State) (member : ℕ) (ask : RangeAsk) → (exec_range s member ask).0.history ≡ s.history
range_history s member ask =
    either_history s ask.serializable _ _
    (unless_history s (first_refusal (op.Range ask)) _
    (either_history s (nat_lt (applied_by s member) s.compacted) _ _ refl (told_history s member (applied_by s member) (read (up_to_revision s.history (applied_by s member)) (applied_by s member) s.compacted ask))))
    (unless_history s (first_refusal (op.Range ask)) _ (settled_range s member (read (seen s []) (newest (seen s [])) s.compacted ask)))

-- and every record

reads_leave_records : (s : State) (member : ℕ) (q : Request) (k : List ℕ) → IsRead q → KeepsRecord s (exec s member q).0 k
reads_leave_records s member (request.Range ask) k r = unnamed_keys_stay s member (request.Range ask) k refl
reads_leave_records s member (request.Txn t) k r = unnamed_keys_stay s member (request.Txn t) k (r k)
reads_leave_records s member (request.Compact revision physical) k r = unnamed_keys_stay s member (request.Compact revision physical) k refl
reads_leave_records s member (request.TimeToLive lease keys) k r = unnamed_keys_stay s member (request.TimeToLive lease keys) k refl
reads_leave_records s member request.Leases k r = unnamed_keys_stay s member request.Leases k refl
reads_leave_records s member (request.Put ask) k r = absurd r
reads_leave_records s member (request.Delete ask) k r = absurd r
reads_leave_records s member (request.Grant ttl lease) k r = absurd r
reads_leave_records s member (request.Revoke lease) k r = absurd r
reads_leave_records s member (request.KeepAlive lease) k r = absurd r
reads_leave_records s member (request.Watch ask) k r = absurd r

reads_pass : (p : List ℕ) (q : Request) → IsRead q → request_passes (has_owner p) q ≡ true
reads_pass p (request.Range ask) r = refl
reads_pass p (request.Txn t) r = reads_put_owned p t r
reads_pass p (request.Compact revision physical) r = refl
reads_pass p (request.TimeToLive lease keys) r = refl
reads_pass p request.Leases r = refl
reads_pass p (request.Put ask) r = absurd r
reads_pass p (request.Delete ask) r = absurd r
reads_pass p (request.Grant ttl lease) r = absurd r
reads_pass p (request.Revoke lease) r = absurd r
reads_pass p (request.KeepAlive lease) r = absurd r
reads_pass p (request.Watch ask) r = absurd r

reads_alone : (s : State) (member : ℕ) (p : List ℕ) (q : Request) → IsRead q → PutAlone p s.history → PutAlone p (exec s member q).0.history
unfolding exec
reads_alone s member p (request.Range ask) r h = ap (list_all (puts_alone p)) (range_history s member ask) ∙ h
reads_alone s member p (request.Txn t) r h = reads_put_alone s member p t r h
reads_alone s member p (request.Compact revision physical) r h =
    ap (list_all (puts_alone p)) (either_history s (nat_le revision s.compacted) _ _ refl (either_history s (nat_lt (newest s.history) revision) _ _ refl refl)) ∙ h
reads_alone s member p (request.TimeToLive lease keys) r h = h
reads_alone s member p request.Leases r h = h
reads_alone s member p (request.Put ask) r h = absurd r
reads_alone s member p (request.Delete ask) r h = absurd r
reads_alone s member p (request.Grant ttl lease) r h = absurd r
reads_alone s member p (request.Revoke lease) r h = absurd r
reads_alone s member p (request.KeepAlive lease) r h = absurd r
reads_alone s member p (request.Watch ask) r h = absurd r

pub reads_step : ReadsStep
reads_step holder s member p q v i r is_out other stands =
    call_stands holder p s (exec s member q).0 v i (outcome (exec s member q).0 p false) stands (record { sound = requests_keep_sound s member q stands.orderly.sound; owned = keys_stay_tested (has_owner p) s member q stands.orderly.owned (reads_pass p q r); alone = reads_alone s member p q r stands.orderly.alone })
    (make_one_revision s member q) (reads_leave_leases s member q r) (λ k. refl) (λ k. refl)
    (record {
      ran = ran_of s (exec s member q).0 (outcome (exec s member q).0 p false) stands.shows (make_one_revision s member q) is_out refl;
      kind = other.kind;
      untimed = refl;
      guarded = λ ok. absurd (cc);
      others = λ k c. same_owner k;
      others_kv = λ k c. same_kv k;
      failed = λ f k. same_owner k;
      failed_kv = λ f k. same_kv k;
      kept = λ n k. same_owner k;
      left = λ ok. absurd (cc);
      unleased = λ ok. absurd (cc);
      gone = λ n k c ok. absurd (cc);
    })
  where
    same_owner : (k : List ℕ) → owner_at (exec s member q).0.history p k ≡ v.owners k
    same_owner k = owner_stays s.history (exec s member q).0.history p k (λ e. reads_leave_records s member q (p ++ k) r) ∙ sym (stands.shows.owners k)

    same_kv : (k : List ℕ) → kv_at (exec s member q).0.history p k ≡ v.kvs k
    same_kv k = kv_stays s.history (exec s member q).0.history p k (λ e. reads_leave_records s member q k r) ∙ sym (stands.shows.kvs k)

-- a refused call

refused_stands : (holder : ℕ → ℕ) (s : State) (p : List ℕ) (v : View) (i : ℕ) → i ≤ v.sent → (v.outcomes i).done ≡ false → Stands holder p s v → Stands holder p s (executed v i (outcome s p false) (newest s.history))
refused_stands holder s p v i sent fresh stands = by_kind (v.calls i).kind refl
  where
    other : (v.calls i).kind ≢ Acquires → Stands holder p s (executed v i (outcome s p false) (newest s.history))
    other kind =
        call_stands holder p s s v i (outcome s p false) stands stands.orderly ([], refl) refl (λ k. refl) (λ k. refl)
        (record {
          ran = ran_of s s (outcome s p false) stands.shows ([], refl) (record { sent = sent; fresh = fresh }) refl;
          kind = kind;
          untimed = refl;
          guarded = λ ok. absurd (cc);
          others = λ k c. sym (stands.shows.owners k);
          others_kv = λ k c. sym (stands.shows.kvs k);
          failed = λ f k. sym (stands.shows.owners k);
          failed_kv = λ f k. sym (stands.shows.kvs k);
          kept = λ n k. sym (stands.shows.owners k);
          left = λ ok. absurd (cc);
          unleased = λ ok. absurd (cc);
          gone = λ n k c ok. absurd (cc);
        })

    acquire : (v.calls i).kind ≡ Acquires → Stands holder p s (executed v i (outcome s p false) (newest s.history))
    acquire kind =
        record {
          shows = next_shows p s s v (executed v i (outcome s p false) (newest s.history)) stands.shows ([], refl) refl (λ k. refl) (λ k. refl) (λ r k. refl) stands.shows.leases;
          inv = acquires_keep holder v i (outcome s p false) (newest s.history)
              (record {
                ran = ran_of s s (outcome s p false) stands.shows ([], refl) (record { sent = sent; fresh = fresh }) refl;
                kind = kind;
                untimed = refl;
                same = λ k. sym (stands.shows.kvs k);
                others = λ k n. sym (stands.shows.owners k);
                failed = λ f k. sym (stands.shows.owners k);
                newer = λ ok. absurd (cc);
                created = λ ok. absurd (cc);
                free = λ ok. absurd (cc);
                unleased = λ ok. absurd (cc);
                owned = λ ok. absurd (cc);
              })
              stands.inv;
          orderly = stands.orderly;
        }

    by_kind : (q : Kind) → (v.calls i).kind ≡ q → Stands holder p s (executed v i (outcome s p false) (newest s.history))
    by_kind Acquires e = acquire e
    by_kind Writes e = other (λ f. cc)
    by_kind Rescinds e = other (λ f. cc)
    by_kind Grants e = other (λ f. cc)
    by_kind Keeps e = other (λ f. cc)
    by_kind Other e = other (λ f. cc)

pub refusals_step : RefusalsStep
refusals_step holder s member p q refusal v i told is_out stands =
    subst (λ (t : State). Stands holder p t (executed v i (outcome s p false) (newest s.history))) (sym (refusals_change_nothing s member q refusal told))
    (refused_stands holder s p v i is_out.sent is_out.fresh stands)

pub unseen_step : UnseenStep
unseen_step holder p s t v history leases sound stands =
    let shows = stands.shows in
    record {
      shows = record {
        rev = shows.rev ∙ ap newest (sym history);
        owners = λ k. shows.owners k ∙ ap (λ (h : History). owner_at h p k) (sym history);
        kvs = λ k. shows.kvs k ∙ ap (λ (h : History). kv_at h p k) (sym history);
        told = λ r k l. shows.told r k (subst (λ (h : History). r ≤ newest h) history l) ∙ ap (λ (h : History). owner_at (up_to_revision h r) p k) (sym history);
        leases = λ n. shows.leases n ∙ ap (λ ls. has_lease ls n) (sym leases);
      };
      inv = stands.inv;
      orderly = record { sound = sound; owned = ap (list_all (keys_pass (has_owner p))) history ∙ stands.orderly.owned; alone = ap (list_all (puts_alone p)) history ∙ stands.orderly.alone };
    }

same_both : {A : Type 0} (t : Bool) (x : A) → x ≡ cond t x x
same_both true x = refl
same_both false x = refl

pub start_stands : StartStands
start_stands holder p members =
    record {
      shows = record {
        rev = refl;
        owners = λ k. same_both (is_empty k) nobody;
        kvs = λ k. same_both (is_client p k) None;
        told = λ r k l. same_both (is_empty k) nobody ∙ ap (λ (h : History). owner_at h p k) (sym (take_all (r - 1) [] (omega arith)));
        leases = λ n. refl;
      };
      inv = opening_is_true holder;
      orderly = record { sound = starts_sound members; owned = refl; alone = refl };
    }
