use Rattle.std.proofs.Common.{ℕ, List, [], true, cond, Option, IsSome, refl, sym, ◌∙◌, ap, subst}
use Rattle.std.specs.Option.{unwrap_or}
use Rattle.etcd_types.specs.Keys.{same}
use Rattle.store_index.specs.Leases.{has_key}
use Rattle.store_index.proofs.LeaseLemmas.{linked_in, key_in}
use Rattle.store_index.proofs.lease_keys.LeaseKeys.link.Goals as goal

pub returns-in-Some-clause-linked : goal.returns-in-Some-clause-linked
returns-in-Some-clause-linked c =
    let written = c.get_mut.follows.holds c.add.new.self in
    let there = subst (λ (o : Option (List (List ℕ))). IsSome o) c.in-Some.ensures.value refl in
    (linked_in c.self.inside.map.entries (c.get_mut.follows.lender c.add.new.self).entries c.args.lease c.args.key.now c.in-Some.keys.now c.add.new.self
    (written.3 there).0
    (ap (λ (o : Option (List (List ℕ))). unwrap_or o []) (sym c.in-Some.ensures.value))
    (λ k. c.in_ok-add.ensures.ok k ∙ ap (λ (j : List ℕ). cond (same j k) true (has_key k c.in-Some.keys.now)) c.in_ok-key.ensures)).0

pub returns-clause-linked : goal.returns-clause-linked
returns-clause-linked c =
    ap (λ (o : Option (List (List ℕ))). has_key c.args.key.now (unwrap_or o [])) c.in_ok-insert.ensures.updates.1
    ∙ key_in c.args.key.now [] c.add-2.new.self
    (λ k. c.in_ok-add-2.ensures.ok k ∙ (λ i. cond (same (c.in_ok-key.ensures i) k) true (has_key k (c.new-keys.ensures i))))
