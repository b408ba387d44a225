-- An acquire is sent: it is under the session that stands, and where it was spoiled while it was due, that is a turn behind it.
use Rattle.std.proofs.Common.{◌≡◌, ◌≢◌, ℕ, ◌+◌, true, false, not, cond, ◌&&◌, List, Option, None, Some, unwrap_or, refl, sym, ◌∙◌, ap}
use Rattle.std.specs.Option.{option_map}
use Rattle.etcd_types.specs.declared.request.Request.TheVariants as request
use Rattle.etcd_types.specs.Keys.{is_empty}
use Rattle.etcd_types.specs.Ranges.{contains}
use Rattle.etcd_types.proofs.Bools.{and_first, and_second, and_both}
use Rattle.etcd_types.proofs.KeyOrder.{same-itself}
use Rattle.proxy_model.specs.declared.session.Standing.{Standing}
use Rattle.proxy_model.specs.Acquire.{acquire}
use Rattle.proxy_model.specs.Prefixes.{leasing_range}
use Rattle.proxy_model.specs.Keyed.{at, changed_at}
use Rattle.proxy_model.proofs.KeyedLaws.{at-with_at}
use Rattle.wait_model.specs.declared.sending.Sending.{Sending}
use Rattle.wait_model.specs.declared.sending.Sending.TheVariants as sending
use Rattle.read_model.specs.declared.acquire.Acquire.{Acquire}
use Rattle.read_model.specs.Acquires.{sent_out, acquire_sent}
use Rattle.read_model.specs.PlainRead.{is_ownable}
use Rattle.read_model.specs.SessionEnd.{is_due}
use Rattle.core_model.specs.declared.out_call.OutJob.TheVariants as job
use Rattle.core_model.specs.Lookups.{reads_of, with_reads}
use Rattle.core_model.specs.Sending.{next_call, acquires_sent}
use Rattle.core_model.specs.State.{Seat, Core}
use Rattle.cache_laws.specs.Moves.View as view
use Rattle.cache_laws.specs.Moves.View.{Term, View, no_call}
use Rattle.cache_laws.specs.Moves.Invariant.{Inv}
use Rattle.row_laws.proofs.JobRows.{acquire_sends, spoiled_turns}
use Rattle.cache_laws.specs.Store.StoreView.{is_client}
use Rattle.call_laws.specs.Forms.{Acquires}
use Rattle.core_fits.specs.Fits.{SeatIsNumbered}
use Rattle.owner_fits.specs.Acquires.{number_by, standing_number, IsDueAt}
use Rattle.core_moves.specs.Sees.{term_by, term_of, ground_in, Sees}
use Rattle.core_moves.proofs.Clocks.{rows_move, moves_on}
use Rattle.step_moves.specs.Work.{MaySend, with_call, Worked}
use Rattle.step_moves.proofs.Calls.{MayAcquire, mine, behind, sent_moves, goes}
use Rattle.step_moves.proofs.Sessions.{not_zero}

-- the session that stands is the term's, and isn't 0

standing_term : (number n : ℕ) (t : Option Standing) → number_by number t ≡ Some n → ((term_by number t).number ≡ n) × (number ≡ n)
standing_term number n None e = absurd (cc)
standing_term number n (Some x) e = let m = ap (λ (o : Option ℕ). unwrap_or o 0) e in (m, m)

seat_term : (seat : Option Seat) (n : ℕ) → SeatIsNumbered seat → standing_number seat ≡ Some n → ((term_of seat).number ≡ n) × (n ≢ 0)
seat_term None n h e = absurd (cc)
seat_term (Some x) n h e =
    let t = standing_term x.session.number n x.session.standing e in (t.0, (λ z. not_zero x.session.number h (t.1 ∙ z)))

-- a key that may be owned is a client's
pub owned_client : (prefix k : List ℕ) → is_ownable prefix k ≡ true → is_client prefix k ≡ true
owned_client prefix k h =
    let a = not (is_empty prefix) in
    let b = not (is_empty k) in
    let d = not (contains (leasing_range prefix) k) in
    and_both b d (and_second a b (and_first (a && b) d h)) (and_second (a && b) d h)

abbrev session_in : Option Acquire → ℕ
session_in None = 0
session_in (Some a) = a.session

module _ (holder : ℕ → ℕ) (v : View) (p now : ℕ) (own : ℕ → ℕ) (c : Core) (s : Sees v p now own c) (h : Inv holder v) (r : MaySend c) (number : own (next_call c) ≡ v.sent + 1) where
  pub acquire_moves : (k : List ℕ) (a : Acquire) → IsDueAt c.acquires k a → Worked holder v p now own c (acquires_sent now k a c)
  acquire_moves k a at_key = by a.sending refl at_key.due
    where
      d : Core
      d = with_reads c (acquire_sent (next_call c) k (reads_of c))

      e : Core
      e = behind holder v p now own c s h (job.Acquire k) d

      -- the proxy as if the acquire hadn't been spoiled
      unspoiled_core : Core
      unspoiled_core = record e { own = record e.own { waits = record e.own.waits { spoiled = changed_at e.own.waits.spoiled k (λ b. false) } } }

      x : view.Call
      x = record no_call { kind = view.Acquires; key = k; session = a.session }

      session : ((term_of c.seat).number ≡ a.session) × (a.session ≢ 0)
      session = seat_term c.seat a.session r.fits.numbered (r.owners.acquires.under k a at_key.stands at_key.due)

      number_is : (v.terms p).number ≡ a.session
      number_is = ap (λ (t : Term). t.number) s.term ∙ session.0

      may : MayAcquire v p x
      may = record { under = λ i. sym number_is; standing = λ i z. session.1 (sym number_is ∙ z); uncovered = λ i j. refl }

      is_out : at (changed_at c.acquires k (sent_out (next_call c))) k ≡ Some (sent_out (next_call c) a)
      is_out = at-with_at c.acquires k k (option_map (sent_out (next_call c)) (at c.acquires k)) ∙ ap (λ b. cond b (option_map (sent_out (next_call c)) (at c.acquires k)) (at c.acquires k)) (same-itself k) ∙ ap (option_map (sent_out (next_call c))) at_key.stands

      by : (t : Sending) → a.sending ≡ t → is_due t ≡ true → Worked holder v p now own c (acquires_sent now k a c)
      by (sending.Out call) i t = absurd (cc)
      by (sending.Due since) i t =
          let m = sent_moves holder v p now own c s h x unspoiled_core may refl
          (acquire_sends v own (mine holder v p now own c s h x) k (next_call c) since a (ground_in c) r.ok.reads.ground.marks r.ok.reads.ground.keys at_key.stands i (record { kind = refl; key = refl; covers = λ j. refl }) number) in
          let w = with_call v (mine holder v p now own c s h x) in
          goes holder v p now own c s h (job.Acquire k) a.ticket (request.Txn (acquire c.own.waits.prefix k a.session)) d (Acquires k a.session) x refl
          (owned_client c.own.waits.prefix k (r.owners.acquires.acquired k a at_key.stands), record { kind = refl; key = refl; session = refl })
          (λ b f. ap (Acquires k) (ap session_in (sym is_out ∙ f)))
          (moves_on holder w p now own unspoiled_core e m (rows_move holder m.after p now own unspoiled_core e m.sees m.inv refl (spoiled_turns m.after p own k (ground_in e))))
