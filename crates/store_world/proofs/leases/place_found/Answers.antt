-- The lease at the number's place is the one, or there is none.
use Rattle.std.proofs.Common.{◌≡◌, ◌<◌, ℕ, Some, length, refl, sym, ◌∙◌, ap, arith, rules}
use Rattle.std.specs.List.{remove, slice_get}
use Rattle.std.proofs.lemmas.Option.{slice_get_read, slice_get_within}
use Rattle.store_model.specs.Leases.{lease_number}
use Rattle.store_world.proofs.RisingLemmas.{first_is}
use Rattle.store_world.proofs.LeaseLemmas.{taken_at, none_at}
use Rattle.store_world.proofs.leases.place_found.Goals as goal

pub returns-in_default-clause-none : goal.returns-in_default-clause-none
returns-in_default-clause-none c =
    let xs = c.args.leases.now in
    let past = c.in_default.ensures.lookup.3 in
    none_at c.args.number xs c.requires
    (λ x there k.
    let within : c.place_of-place.result < length xs = slice_get_within xs c.place_of-place.result x (ap (slice_get xs) c.place_of-place.ensures.place ∙ there) in
    absurd (omega (arith, past, within)))

pub returns-then-found-number-clause-none : goal.returns-then-found-number-clause-none
returns-then-found-number-clause-none c =
    let xs = c.args.leases.now in
    let a = c.in-Some.ensures.lookup in
    let here : slice_get xs c.place_of-place.result ≡ Some c.in-Some.found.now = slice_get_read xs (length xs) c.place_of-place.result c.in-Some.found.now refl a.3.0 a.1 in
    none_at c.args.number xs c.requires
    (λ x there k.
    let q = first_is lease_number c.in-Some.found.now x (sym here ∙ ap (slice_get xs) c.place_of-place.ensures.place ∙ there) ∙ k in
    let e = c.if-found-number.true in search (q, e, rules))

pub returns-clause-found : goal.returns-clause-found
returns-clause-found c =
    let xs = c.args.leases.now in
    let a = c.in-Some.ensures.lookup in
    let here : slice_get xs c.place_of-place.result ≡ Some c.in-Some.found.now = slice_get_read xs (length xs) c.place_of-place.result c.in-Some.found.now refl a.3.0 a.1 in
    let k : c.in-Some.found.now.number ≡ c.args.number = let e = c.if-found-number.false in search (e, rules) in
    taken_at c.args.number xs c.in-Some.found.now (ap (slice_get xs) (sym c.place_of-place.ensures.place) ∙ here) k
    ∙ ap (λ (i : ℕ). remove xs i) (sym c.place_of-place.ensures.place)
