-- A call goes out: the view gains it, and the proxy's keys are what the sending makes of them.
use Rattle.std.proofs.Common.{◌≡◌, ◌≢◌, ℕ, false, ◌++◌, List, [], ◌∷◌, refl, sym, ◌∙◌, ap, subst}
use Rattle.etcd_types.specs.declared.request.Request.{Request}
use Rattle.proxy_model.specs.Wrapped.{request_under}
use Rattle.core_model.specs.declared.out_call.OutJob.{OutJob}
use Rattle.core_model.specs.Sending.{next_call, out_call, goes_out}
use Rattle.core_model.specs.State.{Core}
use Rattle.cache_laws.specs.Moves.View.{Acquires, Slot, Call, View}
use Rattle.cache_laws.specs.Moves.Invariant.{Inv}
use Rattle.cache_laws.specs.Moves.Sends.{sent_by}
use Rattle.cache_laws.proofs.Moves.SendProofs.{sends_keep}
use Rattle.row_laws.specs.Laws.{SendsAt}
use Rattle.row_laws.specs.Rows.{row_of}
use Rattle.row_laws.proofs.SendRows.{uncompared}
use Rattle.call_laws.specs.Forms.{Form, asked_by, IsFormed}
use Rattle.core_moves.specs.Answers.{form_of_job}
use Rattle.core_moves.specs.Sees.{term_of, ground_in, Sees, Moves}
use Rattle.core_moves.proofs.Clocks.{put_here, put_there}
use Rattle.step_moves.specs.Work.{with_call, Worked}

-- where the call is an acquire it is under the proxy's session, and covers no key
pub record MayAcquire (v : View) (p : ℕ) (x : Call) : Type 0 where
  pub under : x.kind ≡ Acquires → x.session ≡ (v.terms p).number
  pub standing : x.kind ≡ Acquires → (v.terms p).number ≢ 0
  pub uncovered : x.kind ≡ Acquires → (k : List ℕ) → x.covers k ≡ false

pub no_acquire : (v : View) (p : ℕ) (x : Call) → x.kind ≢ Acquires → MayAcquire v p x
no_acquire v p x n = record { under = λ e. absurd (n e); standing = λ e. absurd (n e); uncovered = λ e. absurd (n e) }

module _ (holder : ℕ → ℕ) (v : View) (p now : ℕ) (own : ℕ → ℕ) (c : Core) (s : Sees v p now own c) (h : Inv holder v) where
  -- a call of this proxy at this moment
  abbrev pub mine : Call → Call
  mine x = record x { proxy = p; at = now }

  pub sent_moves : (x : Call) (d : Core) → MayAcquire v p x → term_of d.seat ≡ term_of c.seat → ((k : List ℕ) → SendsAt v (mine x) k (row_of own (ground_in c) k) (row_of own (ground_in d) k)) → Moves holder (with_call v (mine x)) p now own d
  sent_moves x d may seat rows =
      let row : List ℕ → Slot = row_of own (ground_in d) in
      let at : (k : List ℕ) → SendsAt v (mine x) k (v.slots p k) (row k) = λ k. subst (λ (y : Slot). SendsAt v (mine x) k y (row k)) (sym (s.row k)) (rows k) in
      record {
        after = sent_by v (mine x) row;
        inv =
            sends_keep holder v (mine x) row
            (record { compares = λ k. (at k).compares; entry = λ k. (at k).entry; under = may.under; standing = may.standing; uncovered = may.uncovered; becomes = λ k. (at k).becomes }) h;
        sees = record { clock = s.clock; term = s.term ∙ sym seat; row = λ k. ap (λ (r : List ℕ → Slot). r k) (put_here v.slots p row) };
        alike = record { rev = refl; made = refl; owners = refl; kvs = refl; told = refl; leases = refl; floors = refl; drawn = refl; sent = refl; calls = refl; outcomes = refl; clocks = refl; terms = λ q n. refl; slots = λ q n. put_there v.slots p row q n };
      }

  -- `d` is what becomes of the proxy beside
  abbrev pub behind : OutJob → Core → Core
  behind j d = record d { calls = next_call c; out = c.out ++ out_call now j c ∷ [] }

  pub goes : (j : OutJob) (ticket : ℕ) (q : Request) (d : Core) (form : Form) (x : Call) → q ≡ asked_by c.own.waits.prefix form → IsFormed c.own.waits.prefix form (mine x) → form_of_job (behind j d) (next_call c) form j
      → Moves holder (with_call v (mine x)) p now own (behind j d) → Worked holder v p now own c (goes_out now j ticket q c d)
  goes j ticket q d form x asked formed suits m =
      record {
        form = form;
        call = mine x;
        after = m.after;
        asked = ap (request_under c.settings.namespace) asked;
        formed = formed;
        by = refl;
        at = refl;
        inv = m.inv;
        sees = m.sees;
        alike = m.alike;
        job = j;
        out = refl;
        suits = suits;
      }

  -- a call that isn't seen at any key
  pub goes_unseen : (j : OutJob) (ticket : ℕ) (q : Request) (d : Core) (form : Form) (x : Call) → q ≡ asked_by c.own.waits.prefix form → IsFormed c.own.waits.prefix form (mine x) → form_of_job (behind j d) (next_call c) form j
      → x.kind ≢ Acquires → ((k : List ℕ) → x.guards k ≡ 0) → term_of d.seat ≡ term_of c.seat → ((k : List ℕ) → row_of own (ground_in d) k ≡ row_of own (ground_in c) k) → Worked holder v p now own c (goes_out now j ticket q c d)
  goes_unseen j ticket q d form x asked formed suits kind none seat rows =
      goes j ticket q d form x asked formed suits (sent_moves x (behind j d) (no_acquire v p x kind) seat (λ k. uncompared v (mine x) k _ _ (rows k) (λ o. none k)))
