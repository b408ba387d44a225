-- Each change of the list of watches keeps that their tickets rise, and a watch is found by its ticket.
use Rattle.std.proofs.Common.{◌≡◌, ℕ, zero, suc, ◌+◌, ◌≤◌, ◌<◌, true, false, not, cond, ◌&&◌, ◌==◌, nat_le, nat_lt, List, [], ◌∷◌, map, get_or, set, length, None, Some, refl, ap, sym, subst, arith}
use Rattle.std.proofs.lemmas.Bool.Decides.{nat_tests}
use Rattle.watch_model.specs.State.{Watch}
use Rattle.watch_model.specs.Lookups.{is_in, member_changed, watch_at, without_watch, watch_changed, with_new_watch, tickets_from}

abbrev pub KeepsTicket : (Watch → Watch) → Type 0
KeepsTicket f = (w : Watch) → (f w).ticket ≡ w.ticket

pub rest_from : (low : ℕ) (w : Watch) (ws : List Watch) → tickets_from low (w ∷ ws) ≡ true → (low ≤ w.ticket) × (tickets_from (w.ticket + 1) ws ≡ true)
rest_from low w ws h = (grind (arith, nat_tests), grind (arith, nat_tests))

pub first_from : (low t : ℕ) (ws : List Watch) → low ≤ t → tickets_from (t + 1) ws ≡ true → (nat_le low t && tickets_from (t + 1) ws) ≡ true
first_from low t ws l h = grind (arith, nat_tests)

pub tickets-map : (f : Watch → Watch) → KeepsTicket f → (low : ℕ) (ws : List Watch) → tickets_from low ws ≡ true → tickets_from low (map f ws) ≡ true
tickets-map f k low [] h = refl
tickets-map f k low (w ∷ ws) h =
    let p = rest_from low w ws h in
    subst (λ (t : ℕ). (nat_le low t && tickets_from (t + 1) (map f ws)) ≡ true) (sym (k w)) (first_from low w.ticket (map f ws) p.0 (tickets-map f k (w.ticket + 1) ws p.1))

sooner : (low least : ℕ) (ws : List Watch) → low ≤ least → tickets_from least ws ≡ true → tickets_from low ws ≡ true
sooner low least [] l h = refl
sooner low least (w ∷ ws) l h = let p = rest_from least w ws h in first_from low w.ticket ws (let m = p.0 in omega (arith, l, m)) p.1

pub tickets-without : (t low : ℕ) (ws : List Watch) → tickets_from low ws ≡ true → tickets_from low (without_watch t ws) ≡ true
tickets-without t low [] h = refl
tickets-without t low (w ∷ ws) h =
    let p = rest_from low w ws h in
    let r = tickets-without t (w.ticket + 1) ws p.1 in
    elim (w.ticket == t) as (λ b. tickets_from low (cond (not b) (w ∷ without_watch t ws) (without_watch t ws)) ≡ true) [
      | true ↦ sooner low (w.ticket + 1) (without_watch t ws) (let m = p.0 in omega (arith, m)) r
      | false ↦ first_from low w.ticket (without_watch t ws) p.0 r
    ]

differs : (a b : ℕ) → (a == b) ≡ false → nat_lt a b ≡ false → b + 1 ≤ a
differs a b e f = grind (arith, nat_tests)

above : (a b : ℕ) → nat_lt a b ≡ true → a + 1 ≤ b
above a b e = grind (arith, nat_tests)

absent_later : (t : ℕ) (w : Watch) (ws : List Watch) → watch_at t (w ∷ ws) ≡ None → ((w.ticket == t) ≡ false) × (watch_at t ws ≡ None)
absent_later t w ws e =
    elim (w.ticket == t) as (λ b. (w.ticket == t) ≡ b → cond b (Some w) (watch_at t ws) ≡ None → ((w.ticket == t) ≡ false) × (watch_at t ws ≡ None)) [
      | true ↦ λ q f. absurd (cc)
      | false ↦ λ q f. (q, f)
    ] refl e

pub tickets-new : (v : Watch) (low : ℕ) (ws : List Watch) → low ≤ v.ticket → watch_at v.ticket ws ≡ None → tickets_from low ws ≡ true → tickets_from low (with_new_watch v ws) ≡ true
tickets-new v low [] l a h = first_from low v.ticket [] l refl
tickets-new v low (w ∷ ws) l a h =
    let p = rest_from low w ws h in
    let q = absent_later v.ticket w ws a in
    elim (nat_lt w.ticket v.ticket) as (λ b. nat_lt w.ticket v.ticket ≡ b → tickets_from low (cond b (w ∷ with_new_watch v ws) (v ∷ w ∷ ws)) ≡ true) [
      | true ↦ λ e. first_from low w.ticket (with_new_watch v ws) p.0 (tickets-new v (w.ticket + 1) ws (above w.ticket v.ticket e) q.1 p.1)
      | false ↦ λ e. first_from low v.ticket (w ∷ ws) l (first_from (v.ticket + 1) w.ticket ws (differs w.ticket v.ticket q.0 e) p.1)
    ] refl

-- A watch at its place.

pub ticket_itself : (n : ℕ) → (n == n) ≡ true
ticket_itself n = grind (arith, nat_tests)

other_ticket : (a b : ℕ) → a + 1 ≤ b → (b == a) ≡ false
other_ticket a b l = grind (arith, nat_tests)

other_before : (a b : ℕ) → a + 1 ≤ b → (a == b) ≡ false
other_before a b l = grind (arith, nat_tests)

pub unchanged : (t low : ℕ) (f : Watch → Watch) (ws : List Watch) → t + 1 ≤ low → tickets_from low ws ≡ true → map (watch_changed t f) ws ≡ ws
unchanged t low f [] l h = refl
unchanged t low f (w ∷ ws) l h =
    let p = rest_from low w ws h in
    let e : (w.ticket == t) ≡ false = other_ticket t w.ticket (let m = p.0 in omega (arith, l, m)) in
    λ i. ap (λ b. cond b (f w) w) e i ∷ unchanged t (w.ticket + 1) f ws (let m = p.0 in omega (arith, l, m)) p.1 i

from_get : (low i : ℕ) (ws : List Watch) (d : Watch) → tickets_from low ws ≡ true → i < length ws → low ≤ (get_or ws i d).ticket
from_get low i [] d h l = absurd (omega arith)
from_get low zero (w ∷ ws) d h l = (rest_from low w ws h).0
from_get low (suc i) (w ∷ ws) d h l =
    let p = rest_from low w ws h in
    let r = from_get (w.ticket + 1) i ws d p.1 (omega arith) in
    let m = p.0 in omega (arith, r, m)

-- the watch at a place alone has its ticket
pub changed_at : (f : Watch → Watch) (low i : ℕ) (ws : List Watch) (d : Watch) → tickets_from low ws ≡ true → i < length ws
    → set ws i (f (get_or ws i d)) ≡ map (watch_changed (get_or ws i d).ticket f) ws
changed_at f low i [] d h l = absurd (omega arith)
changed_at f low zero (w ∷ ws) d h l =
    let p = rest_from low w ws h in
    λ j. sym (ap (λ b. cond b (f w) w) (ticket_itself w.ticket)) j ∷ sym (unchanged w.ticket (w.ticket + 1) f ws (omega arith) p.1) j
changed_at f low (suc i) (w ∷ ws) d h l =
    let p = rest_from low w ws h in
    let m : i < length ws = omega arith in
    let t = (get_or ws i d).ticket in
    let e : (w.ticket == t) ≡ false = other_before w.ticket t (from_get (w.ticket + 1) i ws d p.1 m) in
    λ j. sym (ap (λ b. cond b (f w) w) e) j ∷ changed_at f (w.ticket + 1) i ws d p.1 m j

pub member-keeps : (n : ℕ) (f : Watch → Watch) → KeepsTicket f → KeepsTicket (member_changed n f)
member-keeps n f k w = elim (is_in n w.place) as (λ b. (cond b (f w) w).ticket ≡ w.ticket) [ true ↦ k w | false ↦ refl ]

pub changed-keeps_ticket : (t : ℕ) (f : Watch → Watch) → KeepsTicket f → KeepsTicket (watch_changed t f)
changed-keeps_ticket t f k w = elim (w.ticket == t) as (λ b. (cond b (f w) w).ticket ≡ w.ticket) [ true ↦ k w | false ↦ refl ]
