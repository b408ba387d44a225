-- What most steps do to entries whose rescind was sent: they leave them, or take them away. They stand by rising keys.
use Rattle.std.proofs.Common.{◌≡◌, ℕ, Bool, true, false, not, cond, ◌&&◌, ◌||◌, List, [], ◌∷◌, Option, None, Some, is_some, refl, ◌∙◌, ap, subst}
use Rattle.std.specs.List.{list_any}
use Rattle.std.specs.Option.{option_map}
use Rattle.std.specs.Ordering.{nat_cmp}
use Rattle.std.specs.Cmp.Lexicographic.{slice_cmp}
use Rattle.std.specs.FinMap.Entries.{is_sorted-where_key}
use Rattle.etcd_types.specs.declared.record.Kv.{Kv}
use Rattle.etcd_types.specs.Keys.{same}
use Rattle.etcd_types.proofs.KeyOrder.{same-equal}
use Rattle.proxy_model.specs.declared.lease.Entry.{Entry}
use Rattle.proxy_model.specs.declared.lease.Phase.{Phase}
use Rattle.proxy_model.specs.declared.lease.Phase.TheVariants.{Held, Writing, Leaving}
use Rattle.proxy_model.specs.Keyed.{Keyed, at, with_at, is_in_order}
use Rattle.proxy_model.specs.LeaseTable.{is_writing_phase, phase_after_write, phase_left, phase_given_up, given_up}
use Rattle.proxy_model.proofs.KeyedLaws.{to_T, from_T, at-with_at, in_order-with_at}
use Rattle.wait_model.specs.declared.wait.WaitCall.{WaitCall}
use Rattle.wait_model.specs.declared.write.Write.{Write}
use Rattle.wait_model.specs.Covers.{covers, shares, is_by_keys, leased}
use Rattle.wait_model.specs.Edits.{each, without}
use Rattle.wait_model.specs.GuardedAnswers.{owns, change_owned}
use Rattle.wait_model.specs.Passes.{goes, turn, passed}
use Rattle.wait_model.specs.Phases.{phase_let_go, phase_begun, phase_sent, let_go, begun, is_leaving, if_written}
use Rattle.wait_model.specs.SeveralKeys.{given_up_over, by_ranges}
use Rattle.wait_model.specs.SingleKeys.{Turn, let_go_leased, begun_over, any_key, keys_begun, by_keys}
use Rattle.wait_model.specs.Stages.{staged, gone_on, is_waiting, stage_on}
use Rattle.wait_model.proofs.Tables.{at-each, at-without}
use Rattle.core_laws.proofs.Steps.Comes.{by_test}
use Rattle.waiting_laws.specs.Calls.{is_rescind_of}

-- where this tells whether the rescind is out
abbrev pub phase_fits : Bool → Phase → Bool
phase_fits out Held = true
phase_fits out (Writing revoked) = true
phase_fits out (Leaving sent) = not sent || out

abbrev pub is_among : List WaitCall → List ℕ → ℕ → Bool
is_among out k create = list_any (λ o. is_rescind_of k create o.job) out

abbrev pub entry_fits : List WaitCall → List ℕ → Option Entry → Bool
entry_fits out k None = true
entry_fits out k (Some e) = phase_fits (is_among out k e.create) e.phase

pub record AreOut (out : List WaitCall) (es : Keyed Entry) : Type 0 where
  pub order : is_in_order es ≡ true
  pub sent : (k : List ℕ) → entry_fits out k (at es k) ≡ true

-- ---- phases that a rescind isn't sent for

abbrev pub Tame : (Phase → Phase) → Type 0
Tame g = (b : Bool) (p : Phase) → phase_fits b p ≡ true → phase_fits b (g p) ≡ true

given_up_tame : Tame phase_given_up
given_up_tame b Held h = refl
given_up_tame b (Writing revoked) h = refl
given_up_tame b (Leaving sent) h = h

after_write_tame : Tame phase_after_write
after_write_tame b Held h = refl
after_write_tame b (Writing true) h = refl
after_write_tame b (Writing false) h = refl
after_write_tame b (Leaving sent) h = h

left_tame : Tame phase_left
left_tame b Held h = refl
left_tame b (Writing revoked) h = refl
left_tame b (Leaving sent) h = h

let_go_tame : Tame phase_let_go
let_go_tame b Held h = refl
let_go_tame b (Writing revoked) h = refl
let_go_tame b (Leaving sent) h = h

begun_tame : Tame phase_begun
begun_tame b Held h = refl
begun_tame b (Writing revoked) h = refl
begun_tame b (Leaving sent) h = h

pub unsent_fits : (b : Bool) (p : Phase) → phase_fits b (phase_sent false p) ≡ true
unsent_fits b Held = refl
unsent_fits b (Writing revoked) = refl
unsent_fits b (Leaving sent) = refl

module _ (out : List WaitCall) where
  -- what an entry becomes
  abbrev pub Keeps : List ℕ → Entry → Entry → Type 0
  Keeps k e f = entry_fits out k (Some e) ≡ true → entry_fits out k (Some f) ≡ true

  pub given_up_keeps : (k : List ℕ) (e : Entry) → Keeps k e (given_up e)
  given_up_keeps k e h = given_up_tame (is_among out k e.create) e.phase h

  keeps_if : (b : Bool) (k : List ℕ) (e f : Entry) → Keeps k e f → Keeps k e (cond b f e)
  keeps_if true k e f h t = h t
  keeps_if false k e f h t = t

  -- ---- one key, each, none

  pub put_out : (es : Keyed Entry) (k : List ℕ) (o : Option Entry) → entry_fits out k o ≡ true → AreOut out es → AreOut out (with_at es k o)
  put_out es k o f h = record { order = in_order-with_at es k o h.order; sent = λ j. ap (entry_fits out j) (at-with_at es k j o) ∙ by j (same k j) refl }
    where
      by : (j : List ℕ) (b : Bool) → same k j ≡ b → entry_fits out j (cond b o (at es j)) ≡ true
      by j true q = subst (λ (i : List ℕ). entry_fits out i o ≡ true) (same-equal k j q) f
      by j false q = h.sent j

  pub each_out : (f : List ℕ → Entry → Entry) (es : Keyed Entry) → ((k : List ℕ) (e : Entry) → Keeps k e (f k e)) → AreOut out es → AreOut out (each f es)
  each_out f es g h = record { order = Rattle.wait_model.proofs.Tables.in_order-each f es ∙ h.order; sent = λ k. ap (entry_fits out k) (at-each f es k) ∙ by k (at es k) (h.sent k) }
    where
      by : (k : List ℕ) (o : Option Entry) → entry_fits out k o ≡ true → entry_fits out k (option_map (f k) o) ≡ true
      by k None t = refl
      by k (Some e) t = g k e t

  pub without_out : (p : List ℕ → Bool) (es : Keyed Entry) → AreOut out es → AreOut out (without p es)
  without_out p es h = record {
    order = from_T _ (is_sorted-where_key (slice_cmp nat_cmp) (λ x. not (p x)) es (to_T _ h.order));
    sent = λ k. ap (entry_fits out k) (at-without p es k) ∙ by_test (λ (o : Option Entry). entry_fits out k o ≡ true) (p k) None (at es k) (λ t. refl) (λ t. h.sent k);
  }

  pub none_out : AreOut out []
  none_out = record { order = refl; sent = λ k. refl }

  -- ---- the entries of an owner's write

  written_keeps : (b : Bool) (k : List ℕ) (e f : Entry) → Keeps k e f → Keeps k e (if_written b (λ x. f) e)
  written_keeps b k e f h = keeps_if (b && is_writing_phase e.phase) k e f h

  pub wrote_out : (w : Write) (kv : List ℕ → Entry → Option Kv) (es : Keyed Entry) → AreOut out es → AreOut out (change_owned w (λ k e. record e { kv = kv k e; phase = phase_after_write e.phase }) es)
  wrote_out w kv es h = each_out _ es (λ k e. written_keeps (owns w k) k e (record e { kv = kv k e; phase = phase_after_write e.phase }) (λ t. after_write_tame (is_among out k e.create) e.phase t)) h

  pub unwrote_out : (w : Write) (es : Keyed Entry) → AreOut out es → AreOut out (change_owned w (λ k e. record e { phase = phase_after_write e.phase }) es)
  unwrote_out w es h = each_out _ es (λ k e. written_keeps (owns w k) k e (record e { phase = phase_after_write e.phase }) (λ t. after_write_tame (is_among out k e.create) e.phase t)) h

  pub left_out : (w : Write) (es : Keyed Entry) → AreOut out es → AreOut out (change_owned w (λ k e. record e { phase = phase_left e.phase }) es)
  left_out w es h = each_out _ es (λ k e. written_keeps (owns w k) k e (record e { phase = phase_left e.phase }) (λ t. left_tame (is_among out k e.create) e.phase t)) h

  -- ---- a pass over the waiting writes

  turn_out : (step : ℕ) (earlier : List Write) (es : Keyed Entry) (ss : Keyed Bool) (w : Write) → AreOut out es → AreOut out (turn step earlier es ss w).entries
  turn_out step earlier es ss w h =
      let v = staged w (stage_on w.stage) in
      let P = λ (t : Turn). AreOut out t.entries in
      let fs = each (let_go_leased v) es in
      let g : AreOut out fs = each_out (let_go_leased v) es (λ k e. keeps_if (covers v k && leased v.request k) k e (let_go e) (λ t. let_go_tame (is_among out k e.create) e.phase t)) h in
      by_test P (is_waiting v.stage && not (list_any (shares w) earlier)) (goes step es ss v) (record { entries = es; spoiled = ss; write = v })
      (λ t. by_test P (is_by_keys v) (by_keys step es ss v) (by_ranges step es ss v)
      (λ a. by_test P (any_key v (λ j. is_some (at ss j))) (record { entries = es; spoiled = ss; write = v }) (keys_begun step fs ss v)
      (λ b. h)
      (λ b. by_test P (any_key v (λ j. is_leaving (at fs j))) (record { entries = fs; spoiled = ss; write = v }) (record { entries = each (begun_over v) fs; spoiled = ss; write = gone_on step (any_key v (λ j. is_some (at fs j))) v })
      (λ d. g)
      (λ d. each_out (begun_over v) fs (λ k e. keeps_if (covers v k) k e (begun e) (λ t. begun_tame (is_among out k e.create) e.phase t)) g)))
      (λ a. each_out (given_up_over v) es (λ k e. keeps_if (covers v k) k e (given_up e) (given_up_keeps k e)) h))
      (λ t. h)

  pub passed_out : (step : ℕ) (earlier : List Write) (es : Keyed Entry) (ss : Keyed Bool) (ws : List Write) → AreOut out es → AreOut out (passed step earlier es ss ws).entries
  unfolding passed
  passed_out step earlier es ss [] h = h
  passed_out step earlier es ss (w ∷ ws) h = let t = turn step earlier es ss w in passed_out step (t.write ∷ earlier) t.entries t.spoiled ws (turn_out step earlier es ss w h)
