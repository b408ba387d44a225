-- The lease at the number's place is the one, or there is none.
use Rattle.std.proofs.Common.{◌≡◌, ◌<◌, Some, length, refl, sym, ◌∙◌, ap, arith, rules}
use Rattle.std.specs.List.{slice_get}
use Rattle.std.proofs.lemmas.Option.{slice_get_read, slice_get_within}
use Rattle.store_model.specs.Leases.{lease_number}
use Rattle.store_world.proofs.RisingLemmas.{first_is, found}
use Rattle.store_world.proofs.LeaseLemmas.{none_of}
use Rattle.store_world.proofs.leases.lease_found.Goals as goal

pub returns-in_default : goal.returns-in_default
returns-in_default c =
    let ls = c.args.leases.now in
    let past = c.in_default.ensures.lookup.3 in
    sym (none_of c.args.number ls c.requires
    (λ lease there k.
    let within : c.place_of-place.result < length ls = slice_get_within ls c.place_of-place.result lease (ap (slice_get ls) c.place_of-place.ensures.place ∙ there) in
    absurd (omega (arith, past, within))))

pub returns-then-found-number : goal.returns-then-found-number
returns-then-found-number c =
    let ls = c.args.leases.now in
    let a = c.in-Some.ensures.lookup in
    let here : slice_get ls c.place_of-place.result ≡ Some c.in-Some.found.now = slice_get_read ls (length ls) c.place_of-place.result c.in-Some.found.now refl a.3.0 a.1 in
    sym (none_of c.args.number ls c.requires
    (λ lease there k.
    let q = first_is lease_number c.in-Some.found.now lease (sym here ∙ ap (slice_get ls) c.place_of-place.ensures.place ∙ there) ∙ k in
    let e = c.if-found-number.true in search (q, e, rules)))

pub returns : goal.returns
returns c =
    let ls = c.args.leases.now in
    let a = c.in-Some.ensures.lookup in
    let here : slice_get ls c.place_of-place.result ≡ Some c.in-Some.found.now = slice_get_read ls (length ls) c.place_of-place.result c.in-Some.found.now refl a.3.0 a.1 in
    let k : c.in-Some.found.now.number ≡ c.args.number = let e = c.if-found-number.false in search (e, rules) in
    sym (found lease_number c.args.number ls c.in-Some.found.now (ap (slice_get ls) (sym c.place_of-place.ensures.place) ∙ here) k)
