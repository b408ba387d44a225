-- A range at a compaction, from one with nothing compacted.
use Rattle.std.proofs.Common.{◌≡◌, ℕ, Bool, true, false, not, cond, ◌==◌, ◌&&◌, nat_lt, Result, Ok, Err, refl, sym, ◌∙◌, ap, arith}
use Rattle.std.proofs.lemmas.Bool.Decides.{nat_tests}
use Rattle.etcd_types.specs.declared.answer.Body.{Body}
use Rattle.etcd_types.specs.declared.answer.Refusal.{Refusal}
use Rattle.etcd_types.specs.declared.operation.RangeAsk.{RangeAsk}
use Rattle.etcd_types.proofs.Bools.{and_false}
use Rattle.store_model.specs.History.{History}
use Rattle.store_model.specs.Reads.{is_unsupported, read}
use Rattle.store_model.specs.Refusals.{compacted_revision}
use Rattle.audit_store.specs.Visible.{is_dropped}

none_below : (r : ℕ) → nat_lt r 0 ≡ false
none_below r = grind (arith, nat_tests)

seen : {A : Type 0} (a b d : Bool) (f e x : A) → d ≡ false → not a && b ≡ false → cond a f (cond d e x) ≡ cond a f (cond b e x)
seen true b d f e x n h = refl
seen false true d f e x n h = absurd (cc)
seen false false d f e x n h = ap (λ (t : Bool). cond t e x) n

unseen : {A : Type 0} (a b : Bool) (f e x : A) → not a && b ≡ true → e ≡ cond a f (cond b e x)
unseen true b f e x h = absurd (cc)
unseen false true f e x h = refl
unseen false false f e x h = absurd (cc)

pub read_seen : (h : History) (latest none compacted : ℕ) (ask : RangeAsk) → none ≡ 0 → is_dropped compacted latest ask ≡ false → read h latest none ask ≡ read h latest compacted ask
read_seen h latest none compacted ask z n =
    seen (nat_lt latest ask.revision) (not (ask.revision == 0) && nat_lt ask.revision compacted) (not (ask.revision == 0) && nat_lt ask.revision none) _ (Err compacted_revision) _
    (ap (λ (b : Bool). not (ask.revision == 0) && b) (ap (nat_lt ask.revision) z ∙ none_below ask.revision) ∙ and_false (not (ask.revision == 0))) n

pub read_dropped : (h : History) (latest compacted : ℕ) (ask : RangeAsk) → is_dropped compacted latest ask ≡ true → Err compacted_revision ≡ read h latest compacted ask
read_dropped h latest compacted ask n =
    unseen (nat_lt latest ask.revision) (not (ask.revision == 0) && nat_lt ask.revision compacted) _ (Err compacted_revision) _ n
