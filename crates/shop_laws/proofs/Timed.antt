-- Leases and deadlines stay side by side where one of each is added or taken away.
use Rattle.std.proofs.Common.{◌≡◌, ℕ, ◌==◌, nat_lt, max, Bool, true, false, cond, List, [], ◌∷◌, map, refl, sym, ap, ◌∙◌}
use Rattle.etcd_types.proofs.Bools.{or_first, or_second}
use Rattle.store_model.specs.declared.lease.Lease.{Lease}
use Rattle.store_model.specs.Leases.{with_lease, without_lease, lease_number}
use Rattle.store_model.specs.Transactions.{has_lease}
use Rattle.shop_model.specs.declared.deadline.Deadline.{Deadline}
use Rattle.shop_model.specs.Deadlines.{deadline_number, with_deadline, without_deadline, put_off}
use Rattle.shop_model.specs.Timed.{AreTimed}

-- the same on numbers alone

placed : ℕ → List ℕ → List ℕ
placed n [] = n ∷ []
placed n (m ∷ ms) = cond (nat_lt m n) (m ∷ placed n ms) (n ∷ m ∷ ms)

dropped : ℕ → List ℕ → List ℕ
dropped n [] = []
dropped n (m ∷ ms) = cond (m == n) ms (m ∷ dropped n ms)

either_maps : {A : Type 0} (f : A → ℕ) (b : Bool) (xs ys : List A) (ms ns : List ℕ) → map f xs ≡ ms → map f ys ≡ ns → map f (cond b xs ys) ≡ cond b ms ns
either_maps f true xs ys ms ns p q = p
either_maps f false xs ys ms ns p q = q

leases_placed : (lease : Lease) (leases : List Lease) → map lease_number (with_lease lease leases) ≡ placed lease.number (map lease_number leases)
unfolding placed
leases_placed lease [] = refl
leases_placed lease (other ∷ others) =
    either_maps lease_number (nat_lt other.number lease.number) (other ∷ with_lease lease others) (lease ∷ other ∷ others)
    (other.number ∷ placed lease.number (map lease_number others)) (lease.number ∷ other.number ∷ map lease_number others)
    (ap (λ (ms : List ℕ). other.number ∷ ms) (leases_placed lease others)) refl

deadlines_placed : (d : Deadline) (ds : List Deadline) → map deadline_number (with_deadline d ds) ≡ placed d.number (map deadline_number ds)
unfolding placed
deadlines_placed d [] = refl
deadlines_placed d (other ∷ others) =
    either_maps deadline_number (nat_lt other.number d.number) (other ∷ with_deadline d others) (d ∷ other ∷ others)
    (other.number ∷ placed d.number (map deadline_number others)) (d.number ∷ other.number ∷ map deadline_number others)
    (ap (λ (ms : List ℕ). other.number ∷ ms) (deadlines_placed d others)) refl

leases_dropped : (n : ℕ) (leases : List Lease) → map lease_number (without_lease n leases) ≡ dropped n (map lease_number leases)
unfolding dropped
leases_dropped n [] = refl
leases_dropped n (lease ∷ leases) =
    either_maps lease_number (lease.number == n) leases (lease ∷ without_lease n leases)
    (map lease_number leases) (lease.number ∷ dropped n (map lease_number leases))
    refl (ap (λ (ms : List ℕ). lease.number ∷ ms) (leases_dropped n leases))

deadlines_dropped : (n : ℕ) (ds : List Deadline) → map deadline_number (without_deadline n ds) ≡ dropped n (map deadline_number ds)
unfolding dropped
deadlines_dropped n [] = refl
deadlines_dropped n (d ∷ ds) =
    either_maps deadline_number (d.number == n) ds (d ∷ without_deadline n ds)
    (map deadline_number ds) (d.number ∷ dropped n (map deadline_number ds))
    refl (ap (λ (ms : List ℕ). d.number ∷ ms) (deadlines_dropped n ds))

-- a lease that is granted, one that is kept alive, one that ends, and one that isn't there

pub grant_timed : (lease : Lease) (d : Deadline) (leases : List Lease) (ds : List Deadline) → d.number ≡ lease.number → AreTimed leases ds → AreTimed (with_lease lease leases) (with_deadline d ds)
grant_timed lease d leases ds e t = deadlines_placed d ds ∙ (λ i. placed (e i) (t i)) ∙ sym (leases_placed lease leases)

pub end_timed : (n : ℕ) (leases : List Lease) (ds : List Deadline) → AreTimed leases ds → AreTimed (without_lease n leases) (without_deadline n ds)
end_timed n leases ds t = deadlines_dropped n ds ∙ ap (dropped n) t ∙ sym (leases_dropped n leases)

put_off_number : (n at : ℕ) (d : Deadline) (b : Bool) → deadline_number (cond b (record d { at = max d.at at }) d) ≡ d.number
put_off_number n at d true = refl
put_off_number n at d false = refl

put_off_numbers : (n at : ℕ) (ds : List Deadline) → map deadline_number (map (put_off n at) ds) ≡ map deadline_number ds
put_off_numbers n at [] = refl
put_off_numbers n at (d ∷ ds) = λ i. put_off_number n at d (d.number == n) i ∷ put_off_numbers n at ds i

keep_timed : (b : Bool) (n at : ℕ) (leases : List Lease) (ds : List Deadline) → AreTimed leases ds → AreTimed leases (cond b ds (map (put_off n at) ds))
keep_timed true n at leases ds t = t
keep_timed false n at leases ds t = put_off_numbers n at ds ∙ t

pub keepalive_timed : (n at ttl : ℕ) (leases : List Lease) (ds : List Deadline) → AreTimed leases ds → AreTimed leases (cond (ttl == 0) ds (map (put_off n at) ds))
keepalive_timed n at ttl leases ds t = keep_timed (ttl == 0) n at leases ds t

pub none_taken : (n : ℕ) (leases : List Lease) → has_lease leases n ≡ false → without_lease n leases ≡ leases
none_taken n [] e = refl
none_taken n (lease ∷ leases) e =
    let other = or_first (lease.number == n) (has_lease leases n) e in
    let rest = none_taken n leases (or_second (lease.number == n) (has_lease leases n) e) in
    λ i. cond (other i) leases (lease ∷ rest i)
