-- What is held on a ground that the view's rows are of is what the view has of the store, under a live session.
use Rattle.std.proofs.Common.{◌≡◌, ◌≢◌, ℕ, Bool, true, false, not, ◌&&◌, ◌||◌, cond, List, Option, None, Some, is_some, refl, sym, ◌∙◌, ap, subst}
use Rattle.etcd_types.specs.Keys.{is_empty}
use Rattle.etcd_types.specs.Ranges.{contains}
use Rattle.proxy_model.specs.declared.lease.Entry.{Entry}
use Rattle.proxy_model.specs.declared.lease.Phase.{Phase}
use Rattle.proxy_model.specs.declared.lease.Phase.TheVariants.{Held}
use Rattle.proxy_model.specs.declared.session.Standing.{Standing}
use Rattle.proxy_model.specs.Keyed.{Keyed, at}
use Rattle.proxy_model.specs.LeaseTable.{is_held_phase, is_writing_phase}
use Rattle.proxy_model.specs.Prefixes.{leasing_range}
use Rattle.proxy_model.specs.Session.{is_live}
use Rattle.read_model.specs.Fits.{is_owned}
use Rattle.read_model.specs.PlainRead.{is_ownable}
use Rattle.read_model.specs.State.{Ground}
use Rattle.core_model.specs.Fits.{has_standing, is_standing}
use Rattle.core_model.specs.Lookups.{number_if, live_number}
use Rattle.core_model.specs.Sessions.{is_over, seat_is_over}
use Rattle.core_model.specs.State.{Seat}
use Rattle.cache_laws.specs.Moves.View as view
use Rattle.cache_laws.specs.Moves.View.{Slot, View, live}
use Rattle.cache_laws.specs.Moves.Answers.{Reaches, turned}
use Rattle.cache_laws.specs.Moves.Invariant.{Inv}
use Rattle.cache_laws.proofs.Moves.AnswerProofs.{reaches_keep}
use Rattle.cache_laws.proofs.Moves.TruthProofs.{held_is_true}
use Rattle.row_laws.specs.Laws.{Rows, IsLive}
use Rattle.row_laws.specs.Rows.{phase_in, phase_of, record_of, row_of}
use Rattle.cache_laws.specs.Store.StoreView.{is_client}
use Rattle.core_moves.proofs.Clocks.{put_here}

-- the view's rows of this proxy are of this ground
abbrev pub IsOf : View → ℕ → (ℕ → ℕ) → Ground → Type 0
IsOf v p own g = (k : List ℕ) → v.slots p k ≡ row_of own g k

pub held_same : (holder : ℕ → ℕ) (v : View) (p : ℕ) (own : ℕ → ℕ) (g : Ground) → Inv holder v → IsOf v p own g → live v p ≢ 0 → (k : List ℕ) (x : Entry) → at g.own.entries k ≡ Some x → x.phase ≡ Held → v.kvs k ≡ x.kv
held_same holder v p own g inv row lives k x f h =
    let is : (v.slots p k).phase ≡ view.Held = ap (λ (y : Slot). y.phase) (row k) ∙ ap phase_of f ∙ ap phase_in h in
    sym (held_is_true holder v p k inv lives is) ∙ ap (λ (y : Slot). y.kv) (row k) ∙ ap record_of f

-- also where the rows come to be of another ground by turns: the store stands still meanwhile
pub turned_same : (holder : ℕ → ℕ) (v : View) (p : ℕ) (own : ℕ → ℕ) (g h : Ground) → Inv holder v → IsOf v p own g → Rows v p own g h → live v p ≢ 0 → (k : List ℕ) (x : Entry) → at h.own.entries k ≡ Some x → x.phase ≡ Held → v.kvs k ≡ x.kv
turned_same holder v p own g h inv row rows lives k x f held =
    let after : List ℕ → Slot = row_of own h in
    held_same holder (turned v p after) p own h (reaches_keep holder v p after (λ j. subst (λ (y : Slot). Reaches v p j y (after j)) (sym (row j)) (rows j)) inv)
    (λ j. ap (λ (r : List ℕ → Slot). r j) (put_here v.slots p after)) lives k x f held

-- When the session is live.

pub is_live_in : (v : View) (p : ℕ) (o : Option ℕ) → IsLive v p o → is_some o ≡ true → live v p ≢ 0
is_live_in v p None l s = absurd (cc)
is_live_in v p (Some n) l s = λ z. l.not_none n refl (sym (l.some n refl) ∙ z)

-- one that stands and isn't over is live
pub standing_lives : (s : Option Seat) (now : ℕ) → is_standing s ≡ true → seat_is_over s now ≡ false → is_some (live_number s now) ≡ true
standing_lives None now t o = absurd (cc)
standing_lives (Some s) now t o = by s.session.standing t o
  where
    by_live : (b : Bool) → cond b false true ≡ false → is_some (number_if b s.session.number) ≡ true
    by_live true e = refl
    by_live false e = absurd (cc)

    by : (x : Option Standing) → has_standing x ≡ true → is_over x now s.session ≡ false → is_some (number_if (is_live s.session now) s.session.number) ≡ true
    by None t o = absurd (cc)
    by (Some y) t o = by_live (is_live s.session now) o

-- What is held.

pub held_owned : (e : Option Entry) (x : Entry) → e ≡ Some x → x.phase ≡ Held → is_owned e ≡ true
held_owned e x f h = ap is_owned f ∙ ap (λ (q : Phase). is_held_phase q || is_writing_phase q) h

-- where nothing is owned without a session, one stands
pub owned_stands : (standing : Bool) (es : Keyed Entry) → (standing ≡ false → (k : List ℕ) → is_owned (at es k) ≡ false) → (k : List ℕ) → is_owned (at es k) ≡ true → standing ≡ true
owned_stands true es n k t = refl
owned_stands false es n k t = absurd (let s : true ≡ false = sym t ∙ n refl k in cc)

pub ownable_client : (prefix k : List ℕ) → is_ownable prefix k ≡ true → is_client prefix k ≡ true
ownable_client prefix k h = by (not (is_empty prefix)) (not (is_empty k)) (not (contains (leasing_range prefix) k)) h
  where
    by : (a b c : Bool) → a && b && c ≡ true → b && c ≡ true
    by true b c h = h
    by false b c h = absurd (cc)
