-- The texts of a proxy's own refusals are bytes.
use Rattle.std.proofs.Common.{ℕ, Bool, true, false, not, ◌&&◌, List, [], ◌∷◌, Option, None, Some, refl}
use Rattle.std.specs.Option.{option_map}
use Rattle.text_model.specs.Words.{max_number}
use Rattle.etcd_types.specs.Keys.{is_empty}
use Rattle.etcd_types.specs.declared.answer.Refusal.{Refusal}
use Rattle.etcd_types.specs.declared.request.Request.{Request}
use Rattle.store_model.specs.Refusals.{too_many_operations, key_not_provided}
use Rattle.proxy_model.specs.declared.unserved.Unserved.{Unserved}
use Rattle.proxy_model.specs.declared.unserved.Unserved.TheVariants.{IgnoreLease, NestedTxn}
use Rattle.proxy_model.specs.PassingOn.{call_lost}
use Rattle.proxy_model.specs.Prefixes.{leasing_range}
use Rattle.proxy_model.specs.RequestRefusals.{first_of, unserved, unsupported, request_lacks_key, names_session, reserved_lease, given}
use Rattle.read_model.specs.declared.asked.Verdict.{Verdict}
use Rattle.read_model.specs.declared.asked.Verdict.TheVariants as verdict
use Rattle.core_model.specs.Refusals.{touches, reserved_range, writes_too_much, refusals, refusal_of}
use Rattle.core_model.specs.Verdicts.{timed_out, no_greater_revision, reply_of}
use Rattle.text_laws.specs.Values.Fits.{AllOf, If, RefusalFits, AnswerFits}
use Rattle.text_laws.proofs.Values.Alls.{bytes_are}
use Rattle.text_laws.proofs.Stores.Runs.{refusal}
use Rattle.text_laws.specs.Replied.Holds.{VerdictHolds}

-- ---- of a request

unserved_fits : (u : Unserved) → RefusalFits (unsupported u)
unserved_fits IgnoreLease = refusal (unsupported IgnoreLease) refl (bytes_are (unsupported IgnoreLease).text refl)
unserved_fits NestedTxn = refusal (unsupported NestedTxn) refl (bytes_are (unsupported NestedTxn).text refl)

many_fits : RefusalFits too_many_operations
many_fits = refusal too_many_operations refl (bytes_are too_many_operations.text refl)

lacks_fits : RefusalFits key_not_provided
lacks_fits = refusal key_not_provided refl (bytes_are key_not_provided.text refl)

range_fits : RefusalFits reserved_range
range_fits = refusal reserved_range refl (bytes_are reserved_range.text refl)

lease_fits : RefusalFits reserved_lease
lease_fits = refusal reserved_lease refl (bytes_are reserved_lease.text refl)

first_fits : (xs : List (Option Refusal)) → AllOf (If RefusalFits) xs → If RefusalFits (first_of xs)
first_fits [] h = tt
first_fits (None ∷ xs) h = first_fits xs h.1
first_fits (Some r ∷ xs) h = h.0

given_fits : (b : Bool) (r : Refusal) → RefusalFits r → If RefusalFits (given b r)
given_fits true r h = h
given_fits false r h = tt

mapped_fits : (o : Option Unserved) → If RefusalFits (option_map unsupported o)
mapped_fits None = tt
mapped_fits (Some u) = unserved_fits u

pub refusals_fit : (p : List ℕ) (q : Request) → If RefusalFits (refusal_of p q)
refusals_fit p q =
    first_fits (refusals p q) (
      mapped_fits (unserved q),
      (
        given_fits (request_lacks_key q) key_not_provided lacks_fits,
        (
          given_fits (not (is_empty p) && touches (leasing_range p) q) reserved_range range_fits,
          (given_fits (names_session q) reserved_lease lease_fits, (given_fits (not (is_empty p) && writes_too_much q) too_many_operations many_fits, tt)),
        ),
      ),
    )

-- ---- of what went wrong

pub reply_fits : (v : Verdict) → VerdictHolds v → AnswerFits max_number (reply_of v)
reply_fits (verdict.Said a) h = h
reply_fits verdict.TimedOut h = refusal timed_out refl (bytes_are timed_out.text refl)
reply_fits verdict.Lost h = refusal call_lost refl (bytes_are call_lost.text refl)
reply_fits verdict.Stale h = refusal no_greater_revision refl (bytes_are no_greater_revision.text refl)
