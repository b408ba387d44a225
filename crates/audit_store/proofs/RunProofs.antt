-- A read of the newest revision reads the whole history, and leaves the changes as they are.
use Rattle.std.proofs.Common.{◌≡◌, ℕ, ◌+◌, ◌-◌, nat_lt, Bool, false, cond, List, [], Result, Ok, Err, length, take, refl, sym, ◌∙◌, ap, subst, arith}
use Rattle.std.proofs.Math.Seq.{take-length}
use Rattle.etcd_types.specs.declared.answer.Body.{Body}
use Rattle.etcd_types.specs.declared.answer.Refusal.{Refusal}
use Rattle.etcd_types.specs.declared.answer.Answer.TheVariants as answer
use Rattle.etcd_types.specs.declared.record.Header.{Header}
use Rattle.etcd_types.specs.declared.operation.RangeAsk.{RangeAsk}
use Rattle.etcd_types.specs.declared.operation.Op.TheVariants.{Range}
use Rattle.etcd_types.specs.Keys.{is_empty}
use Rattle.store_model.specs.declared.history.KeyChange.{KeyChange}
use Rattle.store_model.specs.History.{History, newest, with_revision, up_to_revision}
use Rattle.store_model.specs.State.{State, applied_by, header}
use Rattle.store_model.specs.Reads.{read}
use Rattle.store_model.specs.Transactions.{Ran, unchanged, run_range}
use Rattle.store_model.specs.Refusals.{compacted_revision}
use Rattle.store_model.specs.FirstRefusals.{first_of_three, first_refusal}
use Rattle.store_model.specs.Step.{Step, exec_range, exec_op, unless, settled, refused, told_at, read_applied}
use Rattle.store_index.specs.Index.{HoldsKept}
use Rattle.audit_store.specs.declared.store.Store.{Store}
use Rattle.audit_store.specs.Store.{state_of, Takes}
use Rattle.audit_store.specs.Running.{Runs, ran_of}

whole : (h : History) → up_to_revision h (newest h) ≡ h
whole h = let e : length h + 1 - 1 ≡ length h = omega arith in ap (λ n. take n h) e ∙ take-length h

runs_unchanged : (told : Result Body Refusal) (made : List KeyChange) → Runs told made (unchanged made told)
runs_unchanged (Ok body) made = refl
runs_unchanged (Err refusal) made = refl

pub newest_read : (h : History) (made changes : List KeyChange) (latest compacted : ℕ) (ask : RangeAsk) (told : Result Body Refusal) → changes ≡ made
    → latest ≡ newest (with_revision h changes) → told ≡ read (up_to_revision (with_revision h changes) latest) latest compacted ask
    → Runs told made (unchanged made (read (with_revision h made) (newest (with_revision h made)) compacted ask))
newest_read h made changes latest compacted ask told alike same is =
    subst (λ (r : Result Body Refusal). Runs told made (unchanged made r))
    (is ∙ ap (λ n. read (up_to_revision (with_revision h changes) n) n compacted ask) same
    ∙ ap (λ (g : History). read g (newest (with_revision h changes)) compacted ask) (whole (with_revision h changes))
    ∙ ap (λ (cs : List KeyChange). read (with_revision h cs) (newest (with_revision h cs)) compacted ask) alike)
    (runs_unchanged told made)

-- a range that is read on the newest state

ran_is : (told : Result Body Refusal) (made : List KeyChange) (ran : Ran) → Runs told made ran → ran ≡ ran_of made told
ran_is (Ok body) made ran runs = runs
ran_is (Err refusal) made ran runs = runs

pub range_settled : (s : State) (member : ℕ) (ask : RangeAsk) (made : List KeyChange) (told : Result Body Refusal) → made ≡ [] → ask.serializable ≡ false
    → is_empty ask.range.key ≡ false → Runs told made (run_range s ask made) → exec_range s member ask ≡ settled s member (ran_of made told)
range_settled s member ask made told none newest there runs =
    ap (λ (b : Bool). cond b (unless s (first_refusal (Range ask)) (read_applied s member (applied_by s member) ask)) (exec_op s member (Range ask))) newest
    ∙ ap (λ (b : Bool). unless s (first_of_three false b false) (settled s member (run_range s ask []))) there
    ∙ ap (λ (cs : List KeyChange). settled s member (run_range s ask cs)) (sym none)
    ∙ ap (λ (ran : Ran). settled s member ran) (ran_is told made (run_range s ask made) runs)

-- a range that is read as a member has it

pub applied_read : (store : Store) (h : History) (member applied : ℕ) (ask : RangeAsk) (told : Result Body Refusal) (body : Body) (head : Header) → HoldsKept store.index h
    → applied ≡ applied_by (state_of store h) member → nat_lt applied store.compacted ≡ false
    → told ≡ read (up_to_revision h applied) applied store.compacted ask → told ≡ Ok body → head ≡ header member applied
    → Takes store (answer.Done (record { header = head; body = body })) (read_applied (state_of store h) member (applied_by (state_of store h) member) ask)
applied_read store h member applied ask told body head holds by_member late is ok heads =
    let s : State = state_of store h in
    let step : read_applied s member (applied_by s member) ask ≡ (s, answer.Done (record { header = header member applied; body = body })) =
    ap (λ n. read_applied s member n ask) (sym by_member)
    ∙ ap (λ (b : Bool). cond b (refused s compacted_revision) (told_at s member applied (read (up_to_revision h applied) applied store.compacted ask))) late
    ∙ ap (λ (r : Result Body Refusal). told_at s member applied r) (sym is ∙ ok) in
    subst (λ (taken : Step). Takes store (answer.Done (record { header = head; body = body })) taken) (sym step)
    (record { state = record { history = holds; rest = refl }; answered = λ i. answer.Done (record { header = heads i; body = body }) })
