-- What the answers to the proxy's own transactions tell.
use Rattle.std.proofs.Common.{◌≡◌, ℕ, Bool, true, false, cond, ◌&&◌, ◌||◌, List, [], ◌∷◌, ◌++◌, map, Option, None, Some, Ok, refl, sym, ◌∙◌, ap, subst}
use Rattle.std.specs.List.{flat_map}
use Rattle.std.specs.Option.{option_to_list, option_map}
use Rattle.etcd_types.specs.declared.record.Kv.{Kv}
use Rattle.etcd_types.specs.declared.key_range.KeyRange.{KeyRange}
use Rattle.etcd_types.specs.declared.operation.Op.{Op}
use Rattle.etcd_types.specs.declared.operation.Op.TheVariants.{Txn}
use Rattle.etcd_types.specs.declared.answer.Body.{Body}
use Rattle.etcd_types.proofs.Bools.{and_first, or_left, or_right}
use Rattle.store_model.specs.declared.history.KeyChange.{KeyChange}
use Rattle.store_model.specs.History.{newest}
use Rattle.store_model.specs.Records.{record_now}
use Rattle.store_model.specs.Ranges.{records_now}
use Rattle.store_model.specs.Reads.{read}
use Rattle.store_model.specs.State.{State}
use Rattle.store_model.specs.Transactions.{seen, run_all, run_range}
use Rattle.store_model.proofs.RunLemmas.{same_ok, unchanged_ok, first_then_ok}
use Rattle.store_model.proofs.TransactionLemmas.{run_is_txn}
use Rattle.proxy_model.specs.declared.ownership.Claim.TheVariants.{Acquired, OwnedBy}
use Rattle.proxy_model.specs.declared.ownership.Written.TheVariants.{Wrote, Blocked}
use Rattle.proxy_model.specs.Acquire.{acquire, claim_of}
use Rattle.proxy_model.specs.Asks.{range_ask, read_op, put_op}
use Rattle.proxy_model.specs.Fits.{branch_of, fits_all, fits_txn, fits_first, fits_branch, is_put, is_delete}
use Rattle.proxy_model.specs.Foreign.{owner_of, ask_revoke}
use Rattle.proxy_model.specs.Guarded.{guarded, write_ops, answer_of, written_of, read_owners}
use Rattle.proxy_model.specs.Leaving.{rescind, held_by, held_in}
use Rattle.proxy_model.specs.Prefixes.{only, under}
use Rattle.proxy_model.specs.Readings.{records_of, first_of, record_of, reading}
use Rattle.proxy_model.specs.SeveralKeys.{written_ranges}
use Rattle.proxy_model.proofs.FitsLaws.{fits_is_txn}
use Rattle.proxy_laws.specs.Answers.{AnswersFit, ClaimsAreTrue, WritesAreTrue, RescindsAreTrue, RevokesAreTrue, holds_now, bodies_in, owned_now, owners_now}
use Rattle.proxy_laws.proofs.Fit.{run_fits, read_is}
use Rattle.proxy_laws.proofs.OneKey.{records_one}
use Rattle.proxy_laws.proofs.Ran.{answer_ran, answer_branch}

pub answers_fit : AnswersFit
answers_fit s member t reply e =
    let (made, ran) = answer_ran s member t reply e in
    sym (fits_is_txn t reply.body) ∙ run_fits s (Txn t) [] made reply.body (run_is_txn s t [] ∙ ran)

-- A read within a transaction shows the records of its range, and changes nothing.

read_shows : (s : State) (r : KeyRange) (made next : List KeyChange) (b : Body) → run_range s (range_ask r) made ≡ Ok (next, b)
    → (made ≡ next) × (records_of b ≡ records_now (seen s made) r)
read_shows s r made next b e =
    let (same, is) = unchanged_ok made (read (seen s made) (newest (seen s made)) s.compacted (range_ask r)) next b e in
    (same, sym (ap records_of (read_is (seen s made) (newest (seen s made)) s.compacted (range_ask r) b is)))

first_of-one : (o : Option Kv) → first_of (option_to_list o) ≡ o
first_of-one None = refl
first_of-one (Some kv) = refl

-- the record of a key, read first
read_key : (s : State) (k : List ℕ) (next : List KeyChange) (b : Body) → run_range s (range_ask (only k)) [] ≡ Ok (next, b) → first_of (records_of b) ≡ record_now s.history k
read_key s k next b e =
    ap first_of ((read_shows s (only k) [] next b e).1 ∙ records_one s.history (only k) refl) ∙ first_of-one (record_now s.history k)

first_read : (s : State) (k : List ℕ) (rest : List Op) (made : List KeyChange) (bodies : List Body) → run_all s (read_op (only k) ∷ rest) [] ≡ Ok (made, bodies)
    → record_of bodies 0 ≡ record_now s.history k
first_read s k rest made bodies e =
    let (next, b, bs, ran, later, is) = first_then_ok (run_range s (range_ask (only k)) []) (λ x. run_all s rest x) made bodies e in
    ap (λ (x : List Body). record_of x 0) is ∙ read_key s k next b ran

second_read : (s : State) (r : KeyRange) (k : List ℕ) (rest : List Op) (made : List KeyChange) (bodies : List Body)
    → run_all s (read_op r ∷ read_op (only k) ∷ rest) [] ≡ Ok (made, bodies) → record_of bodies 1 ≡ record_now s.history k
second_read s r k rest made bodies e =
    let (next, b, bs, ran, later, is) = first_then_ok (run_range s (range_ask r) []) (λ x. run_all s (read_op (only k) ∷ rest) x) made bodies e in
    let same = (read_shows s r [] next b ran).0 in
    let Claim : List KeyChange → Type 0 = λ m. run_all s (read_op (only k) ∷ rest) m ≡ Ok (made, bs) in
    ap (λ (x : List Body). record_of x 1) is ∙ first_read s k rest made bs (subst Claim (sym same) later)

-- what is read, by the branch that ran
read_as : {A : Type 0} (fits : Bool) (branch : Option (Bool × List Body)) (f : Bool → List Body → A) (h : Bool) (bodies : List Body) → fits ≡ true → branch ≡ Some (h, bodies)
    → reading fits branch f ≡ Some (f h bodies)
read_as {A} fits branch f h bodies e is =
    ap (λ b. reading b branch f) e ∙ ap (λ (o : Option (Bool × List Body)). reading true o f) is

pub claims_are_true : ClaimsAreTrue
claims_are_true s member p k lease reply e =
    let t = acquire p k lease in
    let (made, bodies, known) = answer_branch s member t reply e in
    read_as (fits_txn t reply.body) (branch_of reply.body) (claim_of p reply.header.revision) (holds_now s t) bodies (answers_fit s member t reply e) known.branch
    ∙ ap Some (by_branch (holds_now s t) made bodies known.ran)
  where
    by_branch : (h : Bool) (made : List KeyChange) (bodies : List Body) → run_all s (cond h (acquire p k lease).success (acquire p k lease).failure) [] ≡ Ok (made, bodies)
        → claim_of p reply.header.revision h bodies ≡ cond h (Acquired reply.header.revision (record_now s.history k)) (OwnedBy (record_now s.history k) (option_map (owner_of p) (record_now s.history (p ++ k))))
    by_branch true made bodies r = ap (Acquired reply.header.revision) (first_read s k (put_op (p ++ k) [] lease false ∷ []) made bodies r)
    by_branch false made bodies r = λ i. OwnedBy (first_read s k (read_op (only (p ++ k)) ∷ []) made bodies r i) (option_map (owner_of p) (second_read s (only k) (p ++ k) [] made bodies r i))

-- reads of ranges show their records, one after the other
reads_show : (s : State) (p : List ℕ) (rs : List KeyRange) (made : List KeyChange) (bodies : List Body) → run_all s (map (read_owners p) rs) [] ≡ Ok (made, bodies)
    → flat_map records_of bodies ≡ flat_map (owned_now s p) rs
reads_show s p [] made bodies e =
    ap (λ (x : List KeyChange × List Body). flat_map records_of x.1) (sym (same_ok ([], []) (made, bodies) e))
reads_show s p (r ∷ rs) made bodies e =
    let (next, b, bs, ran, later, is) = first_then_ok (run_range s (range_ask (under p r)) []) (λ x. run_all s (map (read_owners p) rs) x) made bodies e in
    let shown = read_shows s (under p r) [] next b ran in
    let Claim : List KeyChange → Type 0 = λ m. run_all s (map (read_owners p) rs) m ≡ Ok (made, bs) in
    let rest = reads_show s p rs made bs (subst Claim (sym shown.0) later) in
    ap (flat_map records_of) is ∙ (λ i. shown.1 i ++ rest i)

pub writes_are_true : WritesAreTrue
writes_are_true s member p write created reply e =
    let t = guarded p write created in
    let (made, bodies, known) = answer_branch s member t reply e in
    read_as (fits_txn t reply.body) (branch_of reply.body) (written_of p write reply.header) (holds_now s t) bodies (answers_fit s member t reply e) known.branch
    ∙ ap Some (by_branch (holds_now s t) made bodies known.ran)
  where
    by_branch : (h : Bool) (made : List KeyChange) (bodies : List Body) → run_all s (cond h (write_ops p write) (map (read_owners p) (written_ranges write))) [] ≡ Ok (made, bodies)
        → written_of p write reply.header h bodies
        ≡ cond h (Wrote (record { header = reply.header; body = answer_of write (bodies_in (run_all s (write_ops p write) [])) })) (Blocked (owners_now s p write))
    by_branch true made bodies r = λ i. Wrote (record { header = reply.header; body = answer_of write (bodies_in (sym r i)) })
    by_branch false made bodies r = ap (λ (kvs : List Kv). Blocked (map (owner_of p) kvs)) (reads_show s p (written_ranges write) made bodies r)

-- Guards.

never_and_false : (a : Bool) → a && false ≡ true → ⊥
never_and_false true e = cc
never_and_false false e = cc

-- a success has one body that passes the test, a failure none
held_told : (test : Body → Bool) → ((b : Body) → test b ≡ true → is_put b || is_delete b ≡ true) → (h : Bool) (bodies : List Body)
    → cond h (fits_first bodies test (fits_all [])) (fits_all [] bodies) ≡ true → held_by h bodies ≡ Some h
held_told test known true [] e = absurd (cc)
held_told test known true (b ∷ []) e = ap (λ c. cond (true && c) (Some true) None) (known b (and_first (test b) _ e))
held_told test known true (b ∷ c ∷ bs) e = absurd (never_and_false (test b) e)
held_told test known false [] e = refl
held_told test known false (b ∷ []) e = absurd (cc)
held_told test known false (b ∷ c ∷ bs) e = absurd (cc)

branch_fits : (branch : Option (Bool × List Body)) (h : Bool) (bodies : List Body) (success failure : List Body → Bool) → branch ≡ Some (h, bodies)
    → fits_branch branch success failure ≡ true → cond h (success bodies) (failure bodies) ≡ true
branch_fits branch h bodies success failure is e =
    subst (λ (o : Option (Bool × List Body)). fits_branch o success failure ≡ true) is e

pub rescinds_are_true : RescindsAreTrue
rescinds_are_true s member p k create reply e =
    let t = rescind p k create in
    let (made, bodies, known) = answer_branch s member t reply e in
    let fit = branch_fits (branch_of reply.body) (holds_now s t) bodies (fits_all t.success) (fits_all t.failure) known.branch (answers_fit s member t reply e) in
    ap held_in known.branch ∙ held_told is_delete (λ b d. or_right (is_put b) (is_delete b) d) (holds_now s t) bodies fit

pub revokes_are_true : RevokesAreTrue
revokes_are_true s member p k create reply e =
    let t = ask_revoke p k create in
    let (made, bodies, known) = answer_branch s member t reply e in
    let fit = branch_fits (branch_of reply.body) (holds_now s t) bodies (fits_all t.success) (fits_all t.failure) known.branch (answers_fit s member t reply e) in
    ap held_in known.branch ∙ held_told is_put (λ b d. or_left (is_put b) (is_delete b) d) (holds_now s t) bodies fit
