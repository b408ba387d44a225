-- What a request can do to a store: whatever holds of these few steps holds of the step of every request.
use Rattle.std.proofs.Common.{◌≡◌, ℕ, ◌≤◌, ◌<◌, Bool, true, false, cond, not, ◌&&◌, ◌==◌, nat_lt, nat_le, List, [], map, Option, None, Some, Result, Ok, Err, refl, ap, arith}
use Rattle.std.proofs.lemmas.Bool.{cond_both}
use Rattle.std.proofs.lemmas.Bool.Decides.{nat_tests}
use Rattle.etcd_types.specs.declared.operation.PutAsk.{PutAsk}
use Rattle.etcd_types.specs.declared.operation.RangeAsk.{RangeAsk}
use Rattle.etcd_types.specs.declared.operation.Op.{Op, Row_of-Op, end_of-Op, more_of-Op}
use Rattle.etcd_types.specs.declared.operation.Op.TheVariants.{Range, Put, Delete, Txn, Txn'}
use Rattle.etcd_types.specs.declared.request.Request.{Request}
use Rattle.etcd_types.specs.declared.request.Request.TheVariants as request
use Rattle.etcd_types.specs.declared.record.Kv.{Kv}
use Rattle.etcd_types.specs.declared.answer.Answer.TheVariants as answer
use Rattle.etcd_types.specs.declared.answer.Body.{Body}
use Rattle.etcd_types.specs.declared.answer.Body.TheVariants as body
use Rattle.etcd_types.specs.declared.answer.Refusal.{Refusal}
use Rattle.store_model.specs.declared.history.KeyChange.{KeyChange}
use Rattle.store_model.specs.History.{History, newest, up_to_revision, with_revision}
use Rattle.store_model.specs.Records.{record_now}
use Rattle.store_model.specs.Refusals.{key_not_provided, duplicate_key, too_many_operations, compacted_revision, future_revision, lease_not_found, lease_exists, unsupported}
use Rattle.store_model.specs.Reads.{read, is_unsupported}
use Rattle.store_model.specs.State.{State, applied_by, header}
use Rattle.store_model.specs.Compares.{all_hold}
use Rattle.store_model.specs.FirstRefusals.{first_refusal, first_of_three, exceeds, lacks_key, repeats_key, operations_limit}
use Rattle.store_model.specs.Leases.{asked_number, granted_lease, granted_ttl, granted, with_lease, ended, lease_number, time_to_live}
use Rattle.store_model.specs.Transactions.{Ran, RanAll, seen, unchanged, run, run_row, put_on, has_lease, answered, with_body, first_then}
use Rattle.store_model.specs.Step.{Step, exec, exec_op, done, refused, unless, settled, told_at, read_applied}
use Rattle.store_laws.specs.Requests.Answered.{is_known, is_serializable}

-- the operation that a request is, if it is one
abbrev pub op_of : Request → Option Op
op_of (request.Range ask) = Some (Range ask)
op_of (request.Put ask) = Some (Put ask)
op_of (request.Delete ask) = Some (Delete ask)
op_of (request.Txn txn) = Some (Txn txn)
op_of _ = None

some_op : Op → Option Op → Op
some_op d None = d
some_op d (Some op) = op

pub same_op : (x y : Op) → Some x ≡ Some y → x ≡ y
unfolding some_op
same_op x y e = ap (some_op x) e

pub record StepCases (s : State) (member : ℕ) (Q : Request → Step → Type 0) : Type 0 where
  -- a refusal
  pub refuses : (q : Request) (refusal : Refusal) → is_known refusal.code ≡ true → Q q (refused s refusal)
  -- an operation that ran
  pub runs : (q : Request) (op : Op) (made : List KeyChange) (b : Body) → op_of q ≡ Some op → is_serializable q ≡ false → first_refusal op ≡ None → run s op [] ≡ Ok (made, b)
      → Q q (done (record s { history = with_revision s.history made }) member b)
  -- a range as the member has it
  pub reads : (ask : RangeAsk) (b : Body) → ask.serializable ≡ true
      → Q (request.Range ask) (s, answer.Done (record { header = header member (applied_by s member); body = b }))
  pub compacts : (revision : ℕ) (physical : Bool) → s.compacted < revision → revision ≤ newest s.history
      → Q (request.Compact revision physical) (done (record s { compacted = revision }) member body.Compact)
  pub grants : (ttl number : ℕ) → has_lease s.leases number ≡ false
      → Q (request.Grant ttl number)
      (done (record s { leases = with_lease (granted_lease (asked_number s.leases number) ttl) s.leases }) member (body.Grant (asked_number s.leases number) (granted_ttl ttl)))
  pub revokes : (number : ℕ) → has_lease s.leases number ≡ true → Q (request.Revoke number) (done (ended s number) member body.Revoke)
  pub keeps_alive : (number : ℕ) → Q (request.KeepAlive number) (done s member (body.KeepAlive number (granted s.leases number)))
  pub tells : (number : ℕ) (keys : Bool) → Q (request.TimeToLive number keys) (done s member (time_to_live s number (has_lease s.leases number) keys))
  pub lists : Q request.Leases (done s member (body.Leases (map lease_number s.leases)))

-- what runs is refused by a known code alone

Known : {A : Type 0} → Result A Refusal → Type 0
Known (Ok x) = Unit {0}
Known (Err refusal) = is_known refusal.code ≡ true

known_either : {A : Type 0} (b : Bool) (x y : Result A Refusal) → Known x → Known y → Known (cond b x y)
known_either true x y h j = h
known_either false x y h j = j

known_unchanged : (made : List KeyChange) (r : Result Body Refusal) → Known r → Known (unchanged made r)
unfolding Known
known_unchanged made (Ok b) h = tt
known_unchanged made (Err refusal) h = h

known_read : (h : History) (latest compacted : ℕ) (ask : RangeAsk) → Known (read h latest compacted ask)
unfolding Known
known_read h latest compacted ask =
    known_either (nat_lt latest ask.revision) _ _ refl
    (known_either (not (ask.revision == 0) && nat_lt ask.revision compacted) _ _ refl (known_either (is_unsupported ask.sort) _ _ refl tt))

known_put_on : (ask : PutAsk) (made : List KeyChange) (old : Option Kv) → Known (put_on ask made old)
unfolding Known
known_put_on ask made None = known_either ask.ignore_lease _ _ refl tt
known_put_on ask made (Some kv) = tt

known_answered : (b : Bool) (r : RanAll) → Known r → Known (answered b r)
unfolding Known
known_answered b (Ok ran) h = tt
known_answered b (Err refusal) h = h

known_with_body : (b : Body) (r : RanAll) → Known r → Known (with_body b r)
unfolding Known
known_with_body b (Ok ran) h = tt
known_with_body b (Err refusal) h = h

known_then : (r : Ran) (rest : List KeyChange → RanAll) → Known r → ((next : List KeyChange) → Known (rest next)) → Known (first_then r rest)
unfolding Known
known_then (Ok ran) rest h j = known_with_body ran.1 (rest ran.0) (j ran.0)
known_then (Err refusal) rest h j = h

mutual
  unfolding Known

  known_run : (s : State) (op : Op) (made : List KeyChange) → Known (run s op made)
  known_run s (Range ask) made =
      known_unchanged made (read (seen s made) (newest (seen s made)) s.compacted ask) (known_read (seen s made) (newest (seen s made)) s.compacted ask)
  known_run s (Put ask) made =
      known_either (not (ask.lease == 0) && not (has_lease s.leases ask.lease)) _ _ refl (known_put_on ask made (record_now (seen s made) ask.key))
  known_run s (Delete ask) made = tt
  known_run s (Txn' compare m success n failure) made =
      known_either (all_hold (seen s made) compare) _ _ (known_answered true (run_row s success made) (known_row s success made)) (known_answered false (run_row s failure made) (known_row s failure made))

  known_row : {m : _} (s : State) (ops : Row_of-Op m) (made : List KeyChange) → Known (run_row s ops made)
  known_row s end_of-Op made = tt
  known_row s (more_of-Op op rest) made = known_then (run s op made) (λ next. run_row s rest next) (known_run s op made) (λ next. known_row s rest next)

-- the step of each request is one of them

abbrev Refuses : State → (Step → Type 0) → Type 0
Refuses s P = (refusal : Refusal) → is_known refusal.code ≡ true → P (refused s refusal)

unless_by : (s : State) (P : Step → Type 0) (many empty twice : Bool) (step : Step) → Refuses s P → (first_of_three many empty twice ≡ None → P step)
    → P (unless s (first_of_three many empty twice) step)
unless_by s P true empty twice step r f = r too_many_operations refl
unless_by s P false true twice step r f = r key_not_provided refl
unless_by s P false false true step r f = r duplicate_key refl
unless_by s P false false false step r f = f refl

settled_by : (s : State) (member : ℕ) (P : Step → Type 0) (ran : Ran) → Known ran → Refuses s P
    → ((made : List KeyChange) (b : Body) → ran ≡ Ok (made, b) → P (done (record s { history = with_revision s.history made }) member b)) → P (settled s member ran)
unfolding Known
settled_by s member P (Ok ran) k r f = f ran.0 ran.1 refl
settled_by s member P (Err refusal) k r f = r refusal k

told_by : (s : State) (member revision : ℕ) (P : Step → Type 0) (told : Result Body Refusal) → Known told → Refuses s P
    → ((b : Body) → P (s, answer.Done (record { header = header member revision; body = b }))) → P (told_at s member revision told)
unfolding Known
told_by s member revision P (Ok b) k r f = f b
told_by s member revision P (Err refusal) k r f = r refusal k

op_by : (s : State) (member : ℕ) (Q : Request → Step → Type 0) → StepCases s member Q → (q : Request) (op : Op) → op_of q ≡ Some op → is_serializable q ≡ false → Q q (exec_op s member op)
op_by s member Q c q op e n =
    unless_by s (Q q) (exceeds operations_limit op) (lacks_key op) (repeats_key op) (settled s member (run s op [])) (λ r k. c.refuses q r k)
    (λ f. settled_by s member (Q q) (run s op []) (known_run s op []) (λ r k. c.refuses q r k) (λ made b g. c.runs q op made b e n f g))

applied_by_member : (s : State) (member : ℕ) (Q : Request → Step → Type 0) → StepCases s member Q → (ask : RangeAsk) → ask.serializable ≡ true
    → Q (request.Range ask) (read_applied s member (applied_by s member) ask)
applied_by_member s member Q c ask e =
    cond_both (nat_lt (applied_by s member) s.compacted) _ _ (Q (request.Range ask)) (λ f. c.refuses (request.Range ask) compacted_revision refl)
    (λ f. told_by s member (applied_by s member) (Q (request.Range ask)) (read (up_to_revision s.history (applied_by s member)) (applied_by s member) s.compacted ask)
    (known_read (up_to_revision s.history (applied_by s member)) (applied_by s member) s.compacted ask)
    (λ r k. c.refuses (request.Range ask) r k) (λ b. c.reads ask b e))

not_above : (a b : ℕ) → nat_lt a b ≡ false → b ≤ a
not_above a b e = grind (arith, nat_tests)

not_up_to : (a b : ℕ) → nat_le a b ≡ false → b < a
not_up_to a b e = grind (arith, nat_tests)

pub exec_by : (s : State) (member : ℕ) (Q : Request → Step → Type 0) → StepCases s member Q → (q : Request) → Q q (exec s member q)
unfolding exec
exec_by s member Q c (request.Range ask) =
    cond_both ask.serializable _ _ (Q (request.Range ask))
    (λ e. unless_by s (Q (request.Range ask)) (exceeds operations_limit (Range ask)) (lacks_key (Range ask)) (repeats_key (Range ask)) (read_applied s member (applied_by s member) ask)
    (λ r k. c.refuses (request.Range ask) r k) (λ f. applied_by_member s member Q c ask e))
    (λ e. op_by s member Q c (request.Range ask) (Range ask) refl e)
exec_by s member Q c (request.Put ask) = op_by s member Q c (request.Put ask) (Put ask) refl refl
exec_by s member Q c (request.Delete ask) = op_by s member Q c (request.Delete ask) (Delete ask) refl refl
exec_by s member Q c (request.Txn txn) = op_by s member Q c (request.Txn txn) (Txn txn) refl refl
exec_by s member Q c (request.Compact revision physical) =
    cond_both (nat_le revision s.compacted) _ _ (Q (request.Compact revision physical)) (λ e. c.refuses (request.Compact revision physical) compacted_revision refl)
    (λ e. cond_both (nat_lt (newest s.history) revision) _ _ (Q (request.Compact revision physical)) (λ f. c.refuses (request.Compact revision physical) future_revision refl)
    (λ f. c.compacts revision physical (not_up_to revision s.compacted e) (not_above (newest s.history) revision f)))
exec_by s member Q c (request.Grant ttl number) =
    cond_both (has_lease s.leases number) _ _ (Q (request.Grant ttl number)) (λ e. c.refuses (request.Grant ttl number) lease_exists refl) (λ e. c.grants ttl number e)
exec_by s member Q c (request.Revoke number) =
    cond_both (has_lease s.leases number) _ _ (Q (request.Revoke number)) (λ e. c.revokes number e) (λ e. c.refuses (request.Revoke number) lease_not_found refl)
exec_by s member Q c (request.KeepAlive number) = c.keeps_alive number
exec_by s member Q c (request.TimeToLive number keys) = c.tells number keys
exec_by s member Q c request.Leases = c.lists
exec_by s member Q c (request.Watch ask) = c.refuses (request.Watch ask) unsupported refl
