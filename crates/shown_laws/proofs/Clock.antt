-- What clock work leaves of a proxy, and that what the sending of a job asks for holds behind it.
use Rattle.std.proofs.Common.{◌≡◌, ℕ, ◌≤◌, nat_le, true, false, List, [], ◌∷◌, refl, subst, arith}
use Rattle.std.specs.List.{list_all}
use Rattle.std.proofs.lemmas.Bool.Decides.{nat_tests}
use Rattle.etcd_types.proofs.Bools.{and_first, and_second}
use Rattle.core_model.specs.declared.event.CoreEvent.TheVariants as event
use Rattle.core_model.specs.declared.out_call.OutCall.{OutCall}
use Rattle.core_model.specs.ClockWork.{begun, clock_work}
use Rattle.core_model.specs.Fits.{numbers_of}
use Rattle.core_model.specs.Sending.{next_call}
use Rattle.core_model.specs.Sessions.{without_session, seat_is_over}
use Rattle.core_model.specs.State.{Core}
use Rattle.core_model.specs.Step.{is_worn}
use Rattle.core_laws.proofs.Steps.Comes.{by_test}
use Rattle.core_fits.specs.Fits.{EachOf}
use Rattle.core_fits.proofs.Prefix.{clock_prefix}
use Rattle.step_moves.specs.Work.{MaySend}
use Rattle.bridge_laws.proofs.Senders.{senders_last}
use Rattle.turn_laws.proofs.Clocked.{clock_out, clock_steps, clock_leasing, clock_settings}

-- its calls, what is out, the settings, the leasing prefix and the leasing stream
pub record Leaves (c d : Core) : Type 0 where
  pub calls : d.calls ≡ c.calls
  pub out : d.out ≡ c.out
  pub settings : d.settings ≡ c.settings
  pub leasing : d.leasing ≡ c.leasing
  pub prefix : d.own.waits.prefix ≡ c.own.waits.prefix

clock_calls : (now : ℕ) (c : Core) → (clock_work now c).calls ≡ c.calls
unfolding clock_work
clock_calls now c = by_test (λ (d : Core). d.calls ≡ c.calls) (seat_is_over c.seat now) (without_session now (begun c)) (begun c) (λ t. refl) (λ t. refl)

pub clock_leaves : (now : ℕ) (c : Core) → Leaves c (clock_work now c)
clock_leaves now c = record { calls = clock_calls now c; out = clock_out now c; settings = clock_settings now c; leasing = clock_leasing now c; prefix = clock_prefix now c }

-- it is what a step does that is of a call which isn't out
pub clock_may : (now : ℕ) (c : Core) → is_worn c ≡ false → MaySend c → MaySend (clock_work now c)
clock_may now c fresh m = subst MaySend (clock_steps c now m.ok fresh) (senders_last c (event.Lost (next_call c)) now tt tt m)

-- calls that are out were given
pub given_each : (calls : ℕ) (out : List OutCall) → list_all (λ n. nat_le n calls) (numbers_of out) ≡ true → EachOf (λ o. o.call ≤ calls) out
given_each calls [] h = tt
given_each calls (o ∷ rest) h =
    (below o.call calls (and_first (nat_le o.call calls) (list_all (λ n. nat_le n calls) (numbers_of rest)) h), given_each calls rest (and_second (nat_le o.call calls) (list_all (λ n. nat_le n calls) (numbers_of rest)) h))
  where
    below : (a b : ℕ) → nat_le a b ≡ true → a ≤ b
    below a b e = grind (arith, nat_tests)
