-- The key's mark comes with its acquire, and is taken back where that found no memory.
use Rattle.std.proofs.Common.{◌≡◌, List, ℕ, ◌∷◌, None, Some, sym, ap, subst, refl, ◌∙◌}
use Rattle.proxy_model.specs.Keyed.{Keyed, at, with_at}
use Rattle.wait_model.specs.declared.sending.Sending.TheVariants as sending
use Rattle.read_model.specs.declared.acquire.Acquire.{Acquire}
use Rattle.acquire_rows.specs.Marks.{AreMarked}
use Rattle.acquire_rows.proofs.Marking.{begun, taken_back}
use Rattle.acquire_rows.proofs.acquires.Acquires.begin.Goals as goal

abbrev marked : Keyed (List ℕ) → ℕ → ℕ → List ℕ → Keyed (List ℕ)
marked marks since ticket k = with_at marks (since ∷ ticket ∷ k) (Some k)

pub invariant_of-self-in-Ok : goal.invariant_of-self-in-Ok
invariant_of-self-in-Ok c =
    let k = c.args.key.now in
    let a : Acquire = record { ticket = c.args.ticket; session = c.args.session; sending = sending.Due c.args.since } in
    let none : at c.self.inside.rows k ≡ None = ap (λ (t : Keyed Acquire). at t k) c.self.view_is ∙ c.requires in
    let marks : c.add.new.self ≡ marked c.self.inside.dues c.args.since c.args.ticket k = c.in_ok-add.ensures.ok ∙ ap (marked c.self.inside.dues c.args.since c.args.ticket) c.in_ok-copy.ensures in
    let rows : c.put.new.self ≡ with_at c.self.inside.rows k (Some a) = c.in-Ok.ensures.ok ∙ ap (λ (j : List ℕ). with_at c.self.inside.rows j (Some a)) c.in_ok-own.ensures in
    subst (λ (m : Keyed (List ℕ)). AreMarked m c.put.new.self) (sym marks)
    (subst (λ (r : Keyed Acquire). AreMarked (marked c.self.inside.dues c.args.since c.args.ticket k) r) (sym rows)
    (begun c.self.inside.dues c.self.inside.rows k a c.args.since refl none c.self.invariant))

pub invariant_of-self-in-Err : goal.invariant_of-self-in-Err
invariant_of-self-in-Err c =
    let k = c.args.key.now in
    let mark = c.args.since ∷ c.args.ticket ∷ k in
    let none : at c.self.inside.rows k ≡ None = ap (λ (t : Keyed Acquire). at t k) c.self.view_is ∙ c.requires in
    let marks : c.remove.new.self ≡ with_at (marked c.self.inside.dues c.args.since c.args.ticket k) mark None = c.remove.ensures ∙ ap (λ (m : Keyed (List ℕ)). with_at m mark None) (c.in_ok-add.ensures.ok ∙ ap (marked c.self.inside.dues c.args.since c.args.ticket) c.in_ok-copy.ensures) in
    subst (λ (m : Keyed (List ℕ)). AreMarked m c.put.new.self) (sym marks)
    (subst (λ (r : Keyed Acquire). AreMarked (with_at (marked c.self.inside.dues c.args.since c.args.ticket k) mark None) r) (sym c.in-Err.ensures.err)
    (taken_back c.self.inside.dues c.self.inside.rows k c.args.ticket c.args.since none c.self.invariant))
