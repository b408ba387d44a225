-- A client's call is sent, or the keepalives of a lease: no key is written.
use Rattle.std.proofs.Common.{◌≡◌, ◌≢◌, ℕ, ◌+◌, ◌-◌, ◌%◌, ◌==◌, Bool, true, false, not, ◌&&◌, cond, List, [], ◌∷◌, map, Option, None, Some, refl, sym, ◌∙◌, ap, arith}
use Rattle.std.specs.List.{list_any}
use Rattle.std.specs.Option.{option_map}
use Rattle.etcd_types.specs.declared.answer.Refusal.{Refusal}
use Rattle.etcd_types.specs.declared.key_range.KeyRange.{KeyRange}
use Rattle.etcd_types.specs.declared.request.Request.{Request}
use Rattle.etcd_types.specs.declared.request.Request.TheVariants as request
use Rattle.etcd_types.specs.Keys.{is_empty}
use Rattle.etcd_types.specs.Ranges.{contains}
use Rattle.etcd_types.proofs.Bools.{not_true}
use Rattle.store_model.specs.Refusals.{key_not_provided, too_many_operations}
use Rattle.proxy_model.specs.declared.session.TheConstants.{FIRST_SESSION}
use Rattle.proxy_model.specs.PassingOn.{chosen_lease, numbered}
use Rattle.proxy_model.specs.Prefixes.{leasing_range}
use Rattle.proxy_model.specs.RequestRefusals.{first_of, given, unserved, unsupported, request_lacks_key, names_session, reserved_lease}
use Rattle.proxy_model.specs.SeveralKeys.{written_ranges}
use Rattle.read_model.specs.declared.asked.Asked.{Asked}
use Rattle.core_model.specs.declared.out_call.OutJob.TheVariants as job
use Rattle.core_model.specs.DueJobs.{DueJob, ForSession, ForWrites, ForAcquire, ForAsk, ForGroup, ToOpen, ForStream, first_job}
use Rattle.core_model.specs.Groups.{group_sent}
use Rattle.core_model.specs.Kinds.{has_some, writes_keys, kind_of}
use Rattle.core_model.specs.Refusals.{touches, reserved_range, writes_too_much, refusal_of}
use Rattle.core_model.specs.Sending.{next_call, called_as, ask_sent, keeps_sent, goes_out}
use Rattle.core_model.specs.State.{Core}
use Rattle.cache_laws.specs.Moves.View.{View, no_call}
use Rattle.cache_laws.specs.Moves.Invariant.{Inv}
use Rattle.cache_laws.proofs.Moves.Numbers.{other_number}
use Rattle.cache_laws.proofs.Guards.CoversProofs.{covers_is_names}
use Rattle.cache_laws.specs.Store.CallSteps.{IsOther}
use Rattle.call_laws.specs.Forms.{Form, Grants, Keeps, Ends, Reads, asked_by, IsFormed}
use Rattle.core_fits.specs.Fits.{EachOf, CoreFits}
use Rattle.core_moves.specs.Sees.{Sees}
use Rattle.step_moves.specs.Work.{is_calling, is_called, ClientsFit, Worked}
use Rattle.step_moves.proofs.Calls.{mine, goes_unseen}
use Rattle.step_moves.proofs.Dues.{DueAsk, first_is}

-- Which request it is: it isn't refused, and writes nothing.

abbrev pub AskFits : List ℕ → DueJob → Type 0
AskFits prefix (ForAsk a) = (refusal_of prefix a.request ≡ None) × (is_called a.request ≡ true)
AskFits prefix (ForSession x) = Unit {0}
AskFits prefix ForWrites = Unit {0}
AskFits prefix (ForAcquire k x) = Unit {0}
AskFits prefix (ForGroup lease ticket) = Unit {0}
AskFits prefix (ToOpen o) = Unit {0}
AskFits prefix (ForStream s) = Unit {0}

pub due_ask_fits : (c : Core) (a : Asked) → CoreFits c → ClientsFit c → first_job c ≡ Some (ForAsk a) → (refusal_of c.own.waits.prefix a.request ≡ None) × (is_called a.request ≡ true)
due_ask_fits c a fits clients e = first_is (AskFits c.own.waits.prefix) (record { session = λ x. tt; writes = tt; acquire = λ k x. tt; group = λ l t. tt; opening = λ o. tt; stream = λ s. tt }) c (ForAsk a) (both c.asks fits.served.asks clients) e
  where
    both : (xs : List Asked) → EachOf (λ a. refusal_of c.own.waits.prefix a.request ≡ None) xs → EachOf (λ a. is_calling a.stage ≡ true → is_called a.request ≡ true) xs → EachOf (DueAsk (AskFits c.own.waits.prefix)) xs
    both [] s t = tt
    both (x ∷ xs) s t = ((λ since i. (s.0, t.0 (ap is_calling i))), both xs s.1 t.1)

-- What isn't refused of it.

fourth_none : (a b c d e : Option Refusal) → first_of (a ∷ b ∷ c ∷ d ∷ e ∷ []) ≡ None → d ≡ None
fourth_none None None None None e h = refl
fourth_none None None None (Some x) e h = absurd (cc)
fourth_none None None (Some x) d e h = absurd (cc)
fourth_none None (Some x) c d e h = absurd (cc)
fourth_none (Some x) b c d e h = absurd (cc)

names_none : (p : List ℕ) (q : Request) → refusal_of p q ≡ None → names_session q ≡ false
names_none p q e =
    not_given (names_session q)
    (fourth_none (option_map unsupported (unserved q)) (given (request_lacks_key q) key_not_provided) (given (not (is_empty p) && touches (leasing_range p) q) reserved_range) (given (names_session q) reserved_lease) (given (not (is_empty p) && writes_too_much q) too_many_operations) e)
  where
    not_given : (b : Bool) → given b reserved_lease ≡ None → b ≡ false
    not_given true e = absurd (cc)
    not_given false e = refl

nothing : {A : Type 0} (xs : List A) → has_some xs ≡ false → xs ≡ []
nothing [] e = refl
nothing (x ∷ xs) e = absurd (cc)

one_more : (m : ℕ) → 1 + m ≢ 0
one_more m z = absurd (omega arith)

-- a grant that leaves its number open goes out with one above 0
some_lease : (lease word : ℕ) → cond (lease == 0) (chosen_lease word) lease ≢ 0
some_lease lease word = by (lease == 0) refl
  where
    by : (b : Bool) → (lease == 0) ≡ b → cond b (chosen_lease word) lease ≢ 0
    by true e = one_more (word % (FIRST_SESSION - 1))
    by false e = other_number lease 0 e

module _ (holder : ℕ → ℕ) (v : View) (p now : ℕ) (own : ℕ → ℕ) (c : Core) (s : Sees v p now own c) (h : Inv holder v) where
  -- it covers no key
  other : (session : ℕ) → IsOther (mine holder v p now own c s h (record no_call { session = session }))
  other session = record { kind = λ e. absurd (cc); uncovered = λ k. refl }

  pub ask_moves : (a : Asked) → refusal_of c.own.waits.prefix a.request ≡ None → is_called a.request ≡ true → Worked holder v p now own c (ask_sent now a c)
  ask_moves a served called = by a.request served called
    where
      -- a call of no key, in this form
      goes_as : (q : Request) (form : Form) (session : ℕ) → numbered a.word q ≡ asked_by c.own.waits.prefix form → IsFormed c.own.waits.prefix form (mine holder v p now own c s h (record no_call { session = session })) → Worked holder v p now own c (goes_out now (job.Ask (kind_of a.request)) a.ticket (numbered a.word q) c (record c { asks = map (called_as (next_call c) a.ticket) c.asks }))
      goes_as q form session e f = goes_unseen holder v p now own c s h (job.Ask (kind_of a.request)) a.ticket (numbered a.word q) (record c { asks = map (called_as (next_call c) a.ticket) c.asks }) form (record no_call { session = session }) e f tt (λ i. absurd (cc)) (λ k. refl) refl (λ k. refl)

      by : (q : Request) → refusal_of c.own.waits.prefix q ≡ None → is_called q ≡ true → Worked holder v p now own c (goes_out now (job.Ask (kind_of a.request)) a.ticket (numbered a.word q) c (record c { asks = map (called_as (next_call c) a.ticket) c.asks }))
      by (request.Range ask) e t = goes_as (request.Range ask) (Reads (request.Range ask)) 0 refl (tt, other 0)
      by (request.Put ask) e t = absurd (cc)
      by (request.Delete ask) e t = absurd (cc)
      by (request.Txn x) e t =
          let none = nothing (written_ranges (request.Txn x)) (not_true (writes_keys (request.Txn x)) t) in
          goes_as (request.Txn x) (Reads (request.Txn x)) 0 refl ((λ k. sym (covers_is_names k x) ∙ ap (λ (rs : List KeyRange). list_any (λ r. contains r k) rs) none), other 0)
      by (request.Compact revision physical) e t = goes_as (request.Compact revision physical) (Reads (request.Compact revision physical)) 0 refl (tt, other 0)
      by (request.Grant ttl lease) e t =
          let n = cond (lease == 0) (chosen_lease a.word) lease in
          goes_as (request.Grant ttl lease) (Grants ttl n) n refl (some_lease lease a.word, other n, refl)
      by (request.Revoke lease) e t = goes_as (request.Revoke lease) (Ends lease) 0 refl (names_none c.own.waits.prefix (request.Revoke lease) e, other 0)
      by (request.KeepAlive lease) e t = goes_as (request.KeepAlive lease) (Keeps lease) lease refl (other lease, refl)
      by (request.TimeToLive lease keys) e t = goes_as (request.TimeToLive lease keys) (Reads (request.TimeToLive lease keys)) 0 refl (tt, other 0)
      by request.Leases e t = goes_as request.Leases (Reads request.Leases) 0 refl (tt, other 0)
      by (request.Watch ask) e t = absurd (cc)

  pub group_moves : (lease ticket : ℕ) → Worked holder v p now own c (keeps_sent now lease ticket c)
  group_moves lease ticket = goes_unseen holder v p now own c s h (job.Group lease) ticket (request.KeepAlive lease) (record c { asks = map (group_sent (next_call c) lease) c.asks }) (Keeps lease) (record no_call { session = lease }) refl (other lease, refl) tt (λ i. absurd (cc)) (λ k. refl) refl (λ k. refl)
