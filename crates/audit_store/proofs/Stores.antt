-- What is known of the states that a store stands for, though they may be many.
use Rattle.std.proofs.Common.{ℕ, ◌<◌, ◌≤◌, ◌^◌, [], arith, refl, sym, ◌∙◌, ap, subst, length}
use Rattle.std.proofs.Math.Bridge.{le_prop}
use Rattle.std.proofs.Math.Logic.{∥∥₁_map, ∥∥₁_elim}
use Rattle.store_model.specs.History.{newest}
use Rattle.store_model.specs.State.{State, HasMember}
use Rattle.audit_store.specs.Store.{state_of, Stands, StandForStates, StatesAgree}
use Rattle.audit_store.specs.declared.store.Store.{Store}

pub stand_for_states : StandForStates
stand_for_states store = ∥∥₁_map store.index.of_a_history (λ x. (state_of store x.0, record { history = x.1; rest = refl }))

pub states_agree : StatesAgree
states_agree store s t a b = record {
  newest = sym a.history.same_newest ∙ b.history.same_newest;
  members = ap (λ (r : State). length r.applied) a.rest ∙ sym (ap (λ (r : State). length r.applied) b.rest);
  some = subst (λ (r : State). 0 < length r.applied) (sym a.rest) store.has_a_member;
}

-- what is asked of each of them holds, as there is one

pub has_room : (store : Store) → ((s : State) → Stands store s → newest s.history < 2 ^ 63) → store.index.newest < 2 ^ 63
has_room store each =
    ∥∥₁_elim (stand_for_states store) le_prop (λ x. let few = each x.0 x.1 in let same = x.1.history.same_newest in omega (arith, few, same))

pub has_member : (store : Store) (member : ℕ) → ((s : State) → Stands store s → HasMember s member) → HasMember (state_of store []) member
has_member store member each = (
  ∥∥₁_elim (stand_for_states store) le_prop (λ x. (each x.0 x.1).0),
  ∥∥₁_elim (stand_for_states store) le_prop (λ x. subst (λ (s : State). member ≤ length s.applied) x.1.rest (each x.0 x.1).1),
)
