-- How many revisions and leases there are together: all states of a store agree on it, and neither a lease's end nor an applied revision
-- makes it more.
use Rattle.std.proofs.Common.{◌≡◌, ℕ, ◌+◌, ◌-◌, ◌==◌, ◌≤◌, ◌<◌, ◌^◌, ◌||◌, nat_le, nat_lt, Bool, true, false, cond, List, [], ◌∷◌, length, map, set, Ok, Err, refl, sym, ap, ◌∙◌, arith, length-append}
use Rattle.std.proofs.lemmas.List.{length-map}
use Rattle.std.proofs.Math.Bridge.{le_prop}
use Rattle.std.proofs.Math.Logic.{∥∥₁_elim}
use Rattle.std.proofs.lemmas.Bool.Decides.{nat_tests}
use Rattle.store_model.specs.declared.history.KeyChange.{KeyChange}
use Rattle.store_model.specs.declared.lease.Lease.{Lease}
use Rattle.store_model.specs.declared.store_fault.StoreFault.{StoreFault}
use Rattle.store_model.specs.declared.store_fault.StoreFault.TheVariants as fault
use Rattle.store_model.specs.History.{History, newest, with_revision}
use Rattle.store_model.specs.State.{State, applied_by}
use Rattle.store_model.specs.Leases.{expired, ended, attached, without_lease, lease_number}
use Rattle.store_model.specs.Members.{applied, lacks_member}
use Rattle.store_model.specs.Transactions.{has_lease, deletion}
use Rattle.store_world.specs.declared.store.Store.{Store}
use Rattle.store_world.specs.Store.{Stands}
use Rattle.store_world.proofs.Stores.{stand_for_states, states_agree}
use Rattle.shop_model.specs.Deadlines.{deadline_number}
use Rattle.shop_model.specs.Shop.{Shop, taken}
use Rattle.shop_model.specs.Steps.{spent, is_worn}
use Rattle.shop_model.specs.Timed.{AreTimed, IsTimed}
use Rattle.store_machine.specs.declared.kept.Kept.{Kept}
use Rattle.store_machine.specs.Rows.{rows}
use Rattle.store_machine.specs.Holding.{Holds, Timed, HasRoom}

pub same_leases : (store : Store) (s t : State) → Stands store s → Stands store t → s.leases ≡ t.leases
same_leases store s t a b = ap (λ (r : State). r.leases) a.rest ∙ sym (ap (λ (r : State). r.leases) b.rest)

same_spent : (store : Store) (s t : State) → Stands store s → Stands store t → spent s ≡ spent t
same_spent store s t a b =
    let n = (states_agree store s t a b).newest in let l = same_leases store s t a b in λ i. n i + length (l i)

-- ---- a lease's end

one_newer : (h : History) (cs : List KeyChange) → newest (with_revision h cs) ≤ newest h + 1
one_newer h [] = omega arith
one_newer h (c ∷ cs) = let l = length-append h ((c ∷ cs) ∷ []) in omega (arith, l)

one_fewer_by : (b : Bool) (lease : Lease) (leases rest : List Lease) → (b ≡ false → length rest + 1 ≡ length leases) → length (cond b leases (lease ∷ rest)) + 1 ≡ length (lease ∷ leases)
one_fewer_by true lease leases rest f = omega arith
one_fewer_by false lease leases rest f = let e = f refl in omega (arith, e)

one_fewer : (n : ℕ) (leases : List Lease) → has_lease leases n ≡ true → length (without_lease n leases) + 1 ≡ length leases
one_fewer n [] e = absurd (cc)
one_fewer n (lease ∷ leases) e =
    one_fewer_by (lease.number == n) lease leases (without_lease n leases)
    (λ f. one_fewer n leases (sym (ap (λ (a : Bool). a || has_lease leases n) f) ∙ e))

expired_by : (s : State) (n : ℕ) (b : Bool) (e : StoreFault) → has_lease s.leases n ≡ b → spent (taken s (cond b (Ok (ended s n)) (Err e))) ≤ spent s
expired_by s n true e h =
    let newer = one_newer s.history (map deletion (attached s.history n)) in let fewer = one_fewer n s.leases h in omega (arith, newer, fewer)
expired_by s n false e h = omega arith

pub expired_spends : (n : ℕ) (s : State) → spent (taken s (expired s n)) ≤ spent s
unfolding expired
expired_spends n s = expired_by s n (has_lease s.leases n) (fault.NoSuchLease n) refl

-- ---- an applied revision

applied_or : (s t : State) (b c : Bool) (e f : StoreFault) → spent t ≡ spent s → spent (taken s (cond b (Err e) (cond c (Err f) (Ok t)))) ≤ spent s
applied_or s t true c e f h = omega arith
applied_or s t false true e f h = omega arith
applied_or s t false false e f h = omega (arith, h)

pub applied_spends : (s : State) → spent (taken s (applied s 1 (newest s.history))) ≤ spent s
unfolding applied
applied_spends s =
    applied_or s (record s { applied = set s.applied (1 - 1) (newest s.history) })
    (lacks_member s 1) (nat_lt (newest s.history) (applied_by s 1) || nat_lt (newest s.history) (newest s.history))
    (fault.NoSuchMember 1) (fault.BadApply (applied_by s 1) (newest s.history)) refl

-- ---- room

-- what leads each state of one store to one of another, and spends nothing, leaves room
pub room_after : (store store' : Store) (f : State → State) → HasRoom store → ((s : State) → Stands store s → Stands store' (f s)) → ((s : State) → spent (f s) ≤ spent s) → HasRoom store'
room_after store store' f room leads less =
    λ t stands. ∥∥₁_elim (stand_for_states store) le_prop
    (λ x. let before = room x.0 x.1 in let no_more = less x.0 in let same = same_spent store' (f x.0) t (leads x.0 x.1) stands in omega (arith, before, no_more, same))

rows_length : (kept : Kept) (s : State) → AreTimed s.leases (rows kept.deadlines) → length (rows kept.deadlines) ≡ length s.leases
rows_length kept s t = sym (length-map (rows kept.deadlines) deadline_number) ∙ ap length t ∙ length-map s.leases lease_number

pub worn_so : (kept : Kept) (s : Shop) (n l : ℕ) → Holds kept s → IsTimed s → n ≡ newest s.store.history → l ≡ length (rows kept.deadlines) → nat_le (2 ^ 62) (n + l) ≡ is_worn s
worn_so kept s n l h t a b =
    let timed : AreTimed s.store.leases (rows kept.deadlines) = sym (ap (map deadline_number) h.deadlines) ∙ t in
    let c = b ∙ rows_length kept s.store timed in λ i. nat_le (2 ^ 62) (a i + c i)

below : (a b : ℕ) → nat_le a b ≡ false → b < a
below a b e = grind (arith, nat_tests)

pub room_so : (kept : Kept) (n l : ℕ) → ((s : State) → Stands kept.store s → n ≡ newest s.history) → l ≡ length (rows kept.deadlines) → nat_le (2 ^ 62) (n + l) ≡ false → ∥ Timed kept ∥₁ → HasRoom kept.store
room_so kept n l newest_is b e timed =
    λ s stands. ∥∥₁_elim timed le_prop
    (λ t. let a = newest_is s stands in let c = b ∙ rows_length kept s (t s stands) in let few = below (2 ^ 62) (n + l) e in omega (arith, a, c, few))
