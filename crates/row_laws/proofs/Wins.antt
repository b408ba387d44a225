-- An acquire that succeeded.
use Rattle.std.proofs.Common.{◌≡◌, ℕ, Bool, true, false, cond, List, Option, None, Some, is_some, refl, sym, ◌∙◌, ap, subst}
use Rattle.etcd_types.specs.Keys.{same}
use Rattle.etcd_types.specs.declared.record.Kv.{Kv}
use Rattle.etcd_types.proofs.KeyOrder.{same-equal}
use Rattle.proxy_model.specs.declared.lease.Entry.{Entry}
use Rattle.proxy_model.specs.Keyed.{at}
use Rattle.proxy_model.proofs.KeyedLaws.{at-with_at}
use Rattle.wait_model.specs.declared.sending.Sending.{Sending}
use Rattle.wait_model.specs.declared.sending.Sending.TheVariants as sending
use Rattle.wait_model.specs.declared.write.WriteStage.{WriteStage}
use Rattle.wait_model.specs.Asked.{is_true, is_spoiled}
use Rattle.wait_model.specs.Fits.{stage_over}
use Rattle.wait_model.specs.Phases.{is_session}
use Rattle.core_laws.proofs.Writes.Phases.{not_some}
use Rattle.read_model.specs.declared.acquire.Acquire.{Acquire}
use Rattle.read_model.specs.Acquires.{won}
use Rattle.cache_laws.specs.Moves.View as view
use Rattle.cache_laws.specs.Moves.View.{Slot, View, live}
use Rattle.cache_laws.specs.Moves.Answers.{holds, gives_back, Reaches}
use Rattle.cache_laws.proofs.Moves.Numbers.{same_number}
use Rattle.row_laws.specs.Rows.{number_of, spoiled_in, slot_of, row_of}
use Rattle.row_laws.specs.Laws.{IsLive, Won, is_held_then, WinsTurn}
use Rattle.row_laws.proofs.Reaching.{same_slot, one_turn}
use Rattle.row_laws.proofs.Notices.{session_is}

-- of a key with an acquire that is out
abbrev pub asking : (ℕ → ℕ) → Option Bool → Sending → Slot
asking own s x = record { phase = view.Absent; create = 0; kv = None; acquire = number_of own x; spoiled = spoiled_in s x; write = 0 }

held_reach : (v : View) (p : ℕ) (own : ℕ → ℕ) (session : Option ℕ) (k : List ℕ) (call create : ℕ) (kv : Option Kv) (a : Acquire) (s : Option Bool) (stage : WriteStage) → IsLive v p session → is_session session a.session ≡ true → is_true s ≡ false
    → Won v p (own call) a.session k create kv → Reaches v p k (asking own s (sending.Out call)) (slot_of own (Some (won true create kv)) None None stage)
held_reach v p own session k call create kv a s stage live under u w =
    let n = session_is session a.session under in
    let lives = live.some a.session n in
    one_turn (holds (λ z. live.not_none a.session n (sym lives ∙ z)) w.some u (w.under ∙ sym lives) w.done w.ok (λ i. record { phase = view.Held; create = sym w.created i; kv = sym w.same i; acquire = 0; spoiled = sym u i; write = 0 }))

back_reach : (v : View) (p : ℕ) (own : ℕ → ℕ) (k : List ℕ) (call create : ℕ) (kv : Option Kv) (a : Acquire) (s : Option Bool) (stage : WriteStage) → Won v p (own call) a.session k create kv
    → Reaches v p k (asking own s (sending.Out call)) (slot_of own (Some (won false create kv)) None None stage)
back_reach v p own k call create kv a s stage w = one_turn (gives_back w.some w.ok (λ i. record { phase = view.Leaving; create = sym w.created i; kv = None; acquire = 0; spoiled = false; write = 0 }))

won_reach : (v : View) (p : ℕ) (own : ℕ → ℕ) (session : Option ℕ) (k : List ℕ) (call create : ℕ) (kv : Option Kv) (a : Acquire) (s : Option Bool) (stage : WriteStage) (spoiled : Bool) → spoiled ≡ is_true s → IsLive v p session → Won v p (own call) a.session k create kv
    → Reaches v p k (asking own s (sending.Out call)) (slot_of own (Some (won (cond (is_session session a.session) (cond spoiled false true) false) create kv)) None None stage)
won_reach v p own session k call create kv a s stage spoiled is live w =
    elim (is_session session a.session) as (λ b. is_session session a.session ≡ b → Reaches v p k (asking own s (sending.Out call)) (slot_of own (Some (won (cond b (cond spoiled false true) false) create kv)) None None stage)) [
      | true ↦ λ t. by spoiled t is
      | false ↦ λ t. back_reach v p own k call create kv a s stage w
    ] refl
  where
    by : (b : Bool) → is_session session a.session ≡ true → b ≡ is_true s → Reaches v p k (asking own s (sending.Out call)) (slot_of own (Some (won (cond b false true) create kv)) None None stage)
    by true t e = back_reach v p own k call create kv a s stage w
    by false t e = held_reach v p own session k call create kv a s stage live t (sym e) w

-- what stood at the key was an acquire that is out, and no entry
pub stood : (own : ℕ → ℕ) (e : Option Entry) (o : Option Acquire) (s : Option Bool) (stage : WriteStage) (a : Acquire) (call : ℕ) → e ≡ None → o ≡ Some a → a.sending ≡ sending.Out call → slot_of own e o s stage ≡ asking own s (sending.Out call)
stood own e o s stage a call none some out =
    (λ i. slot_of own (none i) (some i) s stage) ∙ (λ i. asking own s (out i))

pub wins_turn : WinsTurn
wins_turn v p own session k call create kv a g live marked fits stands out w j =
    let held = is_held_then session a k g in
    let after = λ (i : List ℕ) (b : Bool). slot_of own (cond b (Some (won held create kv)) (at g.own.entries i)) (cond b None (at g.acquires i)) (cond b None (at g.own.waits.spoiled i)) (stage_over i g.own.waits.writes) in
    let none = not_some (at g.own.entries k) ((fits k).ok.apart (marked k ∙ ap is_some stands)) in
    let here : Reaches v p k (row_of own g k) (after k true) =
    subst (λ (x : Slot). Reaches v p k x (after k true)) (sym (stood own (at g.own.entries k) (at g.acquires k) (at g.own.waits.spoiled k) (stage_over k g.own.waits.writes) a call none stands out))
    (won_reach v p own session k call create kv a (at g.own.waits.spoiled k) (stage_over k g.own.waits.writes) (is_spoiled k g.own) refl live w) in
    subst (λ (y : Slot). Reaches v p j (row_of own g j) y)
    (λ i. slot_of own (sym (at-with_at g.own.entries k j (Some (won held create kv))) i) (sym (at-with_at g.acquires k j None) i) (sym (at-with_at g.own.waits.spoiled k j None) i) (stage_over j g.own.waits.writes))
    (elim (same k j) as (λ b. same k j ≡ b → Reaches v p j (row_of own g j) (after j b)) [
      | true ↦ λ t. subst (λ (i : List ℕ). Reaches v p i (row_of own g i) (after i true)) (same-equal k j t) here
      | false ↦ λ t. same_slot refl
    ] refl)
