-- What a proxy reads from the answers to its calls is what the view has of them.
use Rattle.std.proofs.Common.{◌≡◌, ℕ, Bool, true, false, cond, List, [], ◌∷◌, ◌++◌, map, Option, None, Some, Ok, refl, sym, ◌∙◌, ap, subst, arith}
use Rattle.std.specs.List.{list_all, list_any, flat_map}
use Rattle.etcd_types.specs.declared.record.Kv.{Kv}
use Rattle.etcd_types.specs.declared.key_range.KeyRange.{KeyRange}
use Rattle.etcd_types.specs.declared.operation.TxnAsk.{TxnAsk}
use Rattle.etcd_types.specs.declared.operation.Op.{Op}
use Rattle.etcd_types.specs.declared.operation.Op.TheVariants as op
use Rattle.etcd_types.specs.declared.answer.Body.{Body}
use Rattle.etcd_types.specs.declared.answer.Reply.{Reply}
use Rattle.etcd_types.specs.declared.request.Request.{Request}
use Rattle.etcd_types.specs.declared.request.Request.TheVariants as request
use Rattle.etcd_types.specs.Keys.{is_empty}
use Rattle.store_model.specs.declared.history.KeyChange.{KeyChange}
use Rattle.store_model.specs.History.{newest, up_to_revision}
use Rattle.store_model.specs.Records.{record_now, record_at}
use Rattle.store_model.specs.State.{State}
use Rattle.store_model.specs.Transactions.{run, run_all}
use Rattle.store_model.proofs.TransactionLemmas.{run_is_txn}
use Rattle.store_laws.specs.Requests.NamedKeys.{names}
use Rattle.store_laws.proofs.Requests.RangeProofs.{ranges_are_exact}
use Rattle.proxy_model.proofs.FitsLaws.{branch_of-Txn}
use Rattle.proxy_model.specs.declared.ownership.Claim.TheVariants.{Acquired, OwnedBy}
use Rattle.proxy_model.specs.declared.ownership.Written.TheVariants.{Wrote, Blocked}
use Rattle.proxy_model.specs.Acquire.{acquire}
use Rattle.proxy_model.specs.Fits.{branch_of}
use Rattle.proxy_model.specs.Foreign.{owner_of}
use Rattle.proxy_model.specs.Guarded.{guarded, write_ops, answer_of, IsWrite}
use Rattle.std.specs.Option.{option_map}
use Rattle.proxy_model.specs.Prefixes.{under}
use Rattle.proxy_model.specs.Readings.{first_body}
use Rattle.proxy_model.specs.SeveralKeys.{written_ranges}
use Rattle.proxy_laws.specs.Answers.{bodies_in, bodies_now, owned_now, owners_now}
use Rattle.proxy_laws.proofs.Ran.{answer_branch}
use Rattle.proxy_laws.proofs.Told.{claims_are_true, writes_are_true}
use Rattle.cache_laws.proofs.Guards.GuardProofs.{acquires_claim}
use Rattle.cache_laws.specs.Moves.View.{nobody, Outcome, View}
use Rattle.cache_laws.specs.Store.StoreView.{is_client, owner_in, owner_at, kv_at, Stands}
use Rattle.cache_laws.specs.Store.CallSteps.{outcome, write_outcome}
use Rattle.cache_laws.specs.Store.ToldAnswers.{TellsOwner, TellsClaim, ClaimsTell, TellsOwners, told_branch, told_ops, TellsWritten, begins_empty, WritesTell, TellsEvent, EventsTell}
use Rattle.cache_laws.proofs.Store.Showing.{named, at_true, at_false, owner_stays}
use Rattle.cache_laws.proofs.Store.OwnerSteps.{apart_keys}
use Rattle.store_laws.specs.Requests.Branches.{Answers, holds_now, after_txn, branch_now}
use Rattle.store_model.proofs.RunLemmas.{first_then_ok, txn_ran}
use Rattle.store_laws.specs.Lives.TestedKeys.{keys_pass, have_keys, is_named}
use Rattle.store_laws.proofs.Lives.Histories.{passed-now}
use Rattle.cache_laws.specs.Guards.GuardLaw.{running_ops, IsAcquired}
use Rattle.store_model.specs.LeftRecords.{left_by}
use Rattle.cache_laws.specs.Guards.OwnershipKeys.{has_owner}
use Rattle.etcd_types.proofs.Bools.{or_first, or_second, not_true}
use Rattle.store_laws.proofs.Requests.Branches.{branches_are_named}
use Rattle.cache_laws.proofs.Guards.CoversProofs.{reads_name_nothing}
use Rattle.cache_laws.proofs.Guards.OwnershipProofs.{found_owners_are_named}
use Rattle.store_laws.proofs.Requests.AnsweredProofs.{replies_tell_revisions}
use Rattle.cache_laws.proofs.Guards.EventProofs.{owner_events_tell}
use Rattle.cache_laws.specs.Guards.OwnerEvents.{TellsRecord}
use Rattle.etcd_types.specs.declared.watch.Change.{Change}
use Rattle.etcd_types.specs.declared.watch.Change.TheVariants as event
use Rattle.cache_laws.proofs.Guards.Elements.{Each, each_append, each_of}

-- the answer's revision is the newest

told_revision : (s : State) (member : ℕ) (t : TxnAsk) (reply : Reply) → Answers s member t reply → reply.header.revision ≡ newest (after_txn s member t).history
told_revision s member t reply e = (replies_tell_revisions s member (request.Txn t) reply e).0

-- acquires

pub claims_tell : ClaimsTell
claims_tell s member p k lease reply client told =
    subst (TellsClaim (outcome (after_txn s member (acquire p k lease)) p (holds_now s (acquire p k lease))) k) (sym (claims_are_true s member p k lease reply told)) (by_holds (holds_now s (acquire p k lease)) refl)
  where
    law : IsAcquired p k lease s (after_txn s member (acquire p k lease))
    law = acquires_claim s member p k lease reply told

    record_is : record_now s.history k ≡ kv_at (after_txn s member (acquire p k lease)).history p k
    record_is =
        sym (law.others k (apart_keys p k k (named p k client) client)) ∙ sym (at_true (is_client p k) (record_now (after_txn s member (acquire p k lease)).history k) None client)

    owner_is : (o : Option Kv) → record_now (after_txn s member (acquire p k lease)).history (p ++ k) ≡ o → TellsOwner (outcome (after_txn s member (acquire p k lease)) p false) k (option_map (owner_of p) o)
    owner_is None e = at_false (is_empty k) (owner_in (record_now (after_txn s member (acquire p k lease)).history (p ++ k))) nobody (named p k client) ∙ ap owner_in e
    owner_is (Some kv) e = at_false (is_empty k) (owner_in (record_now (after_txn s member (acquire p k lease)).history (p ++ k))) nobody (named p k client) ∙ ap owner_in e

    by_holds : (h : Bool) → holds_now s (acquire p k lease) ≡ h
        → TellsClaim (outcome (after_txn s member (acquire p k lease)) p h) k (Some (cond h (Acquired reply.header.revision (record_now s.history k)) (OwnedBy (record_now s.history k) (option_map (owner_of p) (record_now s.history (p ++ k))))))
    by_holds true h = (refl, told_revision s member (acquire p k lease) reply told, record_is)
    by_holds false h = (refl, record_is, owner_is (record_now s.history (p ++ k)) (law.failed h (p ++ k)))

-- the owners found

record Found (s : State) (p : List ℕ) (kv : Kv) : Type 0 where
  there : record_now s.history kv.key ≡ Some kv
  named : (p ++ (owner_of p kv).key ≡ kv.key) × (is_empty (owner_of p kv).key ≡ false)

found_in : (s : State) (p : List ℕ) (rs : List KeyRange) → is_empty p ≡ false → list_any begins_empty rs ≡ false → list_all have_keys s.history ≡ true → list_all (keys_pass (has_owner p)) s.history ≡ true
    → Each (Found s p) (flat_map (owned_now s p) rs)
unfolding Each
found_in s p [] np ns keys owned = tt
found_in s p (r ∷ rs) np ns keys owned =
    each_append (Found s p) (owned_now s p r) (flat_map (owned_now s p) rs)
    (each_of (Found s p) (owned_now s p r)
    (λ kv c.
    (let (there, inside) = (ranges_are_exact s.history (under p r) kv).0 c in
    record {
      there = there;
      named = found_owners_are_named p s.history r kv owned there (not_true (is_empty kv.key) (passed-now is_named s.history kv.key kv keys there)) np (or_first (is_empty r.key) _ ns) inside;
    })))
    (found_in s p rs np (or_second (is_empty r.key) _ ns) keys owned)

tells_found : (s : State) (p : List ℕ) (o : Outcome) (kvs : List Kv) → ((k : List ℕ) → o.owners k ≡ owner_at s.history p k) → Each (Found s p) kvs → TellsOwners o (map (owner_of p) kvs)
unfolding Each
tells_found s p o [] same e = tt
tells_found s p o (kv ∷ kvs) same e =
    let k = (owner_of p kv).key in (
      e.0.named.1,
      same k ∙ at_false (is_empty k) (owner_in (record_now s.history (p ++ k))) nobody e.0.named.1
          ∙ ap owner_in (ap (record_now s.history) e.0.named.0 ∙ e.0.there),
      tells_found s p o kvs same e.1,
    )

-- the operations that ran

ran_first : (s : State) (t : TxnAsk) (made : List KeyChange) (bodies : List Body) → run_all s (op.Txn t ∷ []) [] ≡ Ok (made, bodies) → told_branch t (branch_of (first_body bodies)) ≡ branch_now s t
ran_first s t made bodies e =
    let (mid, b, others, first, later, is) = first_then_ok (run s (op.Txn t) []) (λ x. run_all s [] x) made bodies e in
    let (inner, all, told) = txn_ran s t [] mid b (sym (run_is_txn s t []) ∙ first) in
    ap (λ (x : List Body). told_branch t (branch_of (first_body x))) is ∙ ap (λ (x : Body). told_branch t (branch_of x)) told ∙ ap (told_branch t) (branch_of-Txn (holds_now s t) inner)

ops_told : (s : State) (p : List ℕ) (write : Request) (made : List KeyChange) (bodies : List Body) → IsWrite write → run_all s (write_ops p write) [] ≡ Ok (made, bodies)
    → told_ops p write (answer_of write bodies) ≡ running_ops s p write
ops_told s p (request.Put ask) made bodies w e = refl
ops_told s p (request.Delete ask) made bodies w e = refl
ops_told s p (request.Txn t) made bodies w e = ran_first s t made bodies e
ops_told s p write made bodies w e = absurd w

pub writes_tell : WritesTell
writes_tell holder s member p write created reply v stands w np ns told =
    subst (TellsWritten p write (write_outcome s t p write (holds_now s u))) (sym (writes_are_true s member p write created reply told)) (by_holds (holds_now s u) refl)
  where
    u : TxnAsk
    u = guarded p write created

    t : State
    t = after_txn s member (guarded p write created)

    done : (made : List KeyChange) (bodies : List Body) → run_all s (write_ops p write) [] ≡ Ok (made, bodies) → (k : List ℕ) (old : Option Kv)
        → left_by (newest (after_txn s member (guarded p write created)).history) k (running_ops s p write) old
        ≡ left_by reply.header.revision k (told_ops p write (answer_of write (bodies_now s (write_ops p write)))) old
    done made bodies e k old =
        ap (λ (n : ℕ). left_by n k (running_ops s p write) old) (sym (told_revision s member (guarded p write created) reply told))
        ∙ ap (λ (ops : List Op). left_by reply.header.revision k ops old) (sym (ops_told s p write made bodies w e))
        ∙ ap (λ r. left_by reply.header.revision k (told_ops p write (answer_of write (bodies_in r))) old) (sym e)

    stays : holds_now s (guarded p write created) ≡ false → (k : List ℕ) → owner_at (after_txn s member (guarded p write created)).history p k ≡ owner_at s.history p k
    stays h k =
        owner_stays s.history (after_txn s member (guarded p write created)).history p k
        (λ e. branches_are_named s member (guarded p write created) (p ++ k) (ap (λ (b : Bool). list_any (names (p ++ k)) (cond b (guarded p write created).success (guarded p write created).failure)) h ∙ reads_name_nothing (p ++ k) p (written_ranges write)))

    by_holds : (h : Bool) → holds_now s (guarded p write created) ≡ h
        → TellsWritten p write (write_outcome s (after_txn s member (guarded p write created)) p write h)
        (Some (cond h (Wrote (record { header = reply.header; body = answer_of write (bodies_now s (write_ops p write)) })) (Blocked (owners_now s p write))))
    by_holds true h =
        (let (made, bodies, known) = answer_branch s member (guarded p write created) reply told in
        (refl, done made bodies (ap (λ (b : Bool). run_all s (cond b (guarded p write created).success (guarded p write created).failure) []) (sym h) ∙ known.ran)))
    by_holds false h =
        (refl, tells_found s p (write_outcome s (after_txn s member (guarded p write created)) p write false) (flat_map (owned_now s p) (written_ranges write)) (stays h) (found_in s p (written_ranges write) np ns stands.orderly.sound.keys stands.orderly.owned))

-- events of the leasing stream

event_told : (holder : ℕ → ℕ) (p : List ℕ) (s : State) (v : View) (c : Change) → Stands holder p s v → TellsRecord s.history c → TellsEvent p v c
event_told holder p s v (event.Put kv) stands t = λ k n is. (
  let past = t.0 in let e = stands.shows.rev in omega arith,
  stands.shows.told kv.modified k t.0 ∙ at_false (is_empty k) (owner_in (record_now (up_to_revision s.history kv.modified) (p ++ k))) nobody n
      ∙ ap owner_in (ap (record_at s.history kv.modified) (sym is) ∙ t.1),
)
event_told holder p s v (event.Delete key modified) stands t = tt

pub events_tell : EventsTell
events_tell holder p s v from e stands c = event_told holder p s v e.change stands (owner_events_tell p s.history from e stands.orderly.alone c)
