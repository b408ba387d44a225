-- An acquire that failed, was refused or was lost.
use Rattle.std.proofs.Common.{◌≡◌, ℕ, Bool, true, false, cond, ◌&&◌, not, List, Option, None, Some, is_some, refl, sym, ◌∙◌, ap, subst}
use Rattle.etcd_types.specs.Keys.{same}
use Rattle.etcd_types.proofs.KeyOrder.{same-equal}
use Rattle.proxy_model.specs.declared.lease.Entry.{Entry}
use Rattle.proxy_model.specs.declared.ownership.Owner.{Owner}
use Rattle.proxy_model.specs.Keyed.{at}
use Rattle.proxy_model.proofs.KeyedLaws.{at-with_at}
use Rattle.wait_model.specs.declared.sending.Sending.{Sending}
use Rattle.wait_model.specs.declared.sending.Sending.TheVariants as sending
use Rattle.wait_model.specs.declared.write.WriteStage.{WriteStage}
use Rattle.wait_model.specs.Fits.{stage_over}
use Rattle.wait_model.specs.Phases.{is_session, own_entry}
use Rattle.core_laws.proofs.Writes.Phases.{not_some}
use Rattle.read_model.specs.declared.acquire.Acquire.{Acquire}
use Rattle.read_model.specs.Acquires.{found_own}
use Rattle.read_model.specs.State.{Ground}
use Rattle.cache_laws.specs.Moves.View.{Slot, View}
use Rattle.cache_laws.specs.Moves.Answers.{IsShown, ends_acquire, finds, Reaches}
use Rattle.row_laws.specs.Rows.{slot_of, row_of}
use Rattle.row_laws.specs.Laws.{IsLive}
use Rattle.row_laws.specs.Endings.{ShowsOwner, FailsTurn, AcquireEndsTurn}
use Rattle.row_laws.proofs.Reaching.{same_slot, one_turn}
use Rattle.row_laws.proofs.Notices.{session_is}
use Rattle.row_laws.proofs.Wins.{asking, stood}

-- the key is free again, or its owner is this very proxy, which didn't know of it
failed_reach : (v : View) (p : ℕ) (own : ℕ → ℕ) (session : Option ℕ) (k : List ℕ) (call : ℕ) (owner : Option Owner) (s : Option Bool) (stage : WriteStage) → IsLive v p session → ShowsOwner v k owner
    → Reaches v p k (asking own s (sending.Out call)) (slot_of own (found_own session owner None) None None stage)
failed_reach v p own session k call None s stage live shown = one_turn (ends_acquire refl)
failed_reach v p own session k call (Some o) s stage live shown = by (is_session session o.lease) refl
  where
    by : (b : Bool) → is_session session o.lease ≡ b → Reaches v p k (asking own s (sending.Out call)) (slot_of own (cond (b && true) (Some (own_entry o.create)) None) None None stage)
    by true t =
        let n = session_is session o.lease t in
        one_turn (finds (record { create = o.create; session = o.lease }) shown (λ z. live.not_none o.lease n (sym (live.number o.lease n) ∙ z)) (sym (live.number o.lease n)) refl)
    by false t = one_turn (ends_acquire refl)

pub fails_turn : FailsTurn
fails_turn v p own session k call owner a g live marked fits stands out shown j =
    let after = λ (i : List ℕ) (b : Bool). slot_of own (cond b (found_own session owner (at g.own.entries k)) (at g.own.entries i)) (cond b None (at g.acquires i)) (cond b None (at g.own.waits.spoiled i)) (stage_over i g.own.waits.writes) in
    let none = not_some (at g.own.entries k) ((fits k).ok.apart (marked k ∙ ap is_some stands)) in
    let here : Reaches v p k (row_of own g k) (after k true) =
    subst (λ (x : Slot). Reaches v p k x (after k true)) (sym (stood own (at g.own.entries k) (at g.acquires k) (at g.own.waits.spoiled k) (stage_over k g.own.waits.writes) a call none stands out))
    (subst (λ (e : Option Entry). Reaches v p k (asking own (at g.own.waits.spoiled k) (sending.Out call)) (slot_of own (found_own session owner e) None None (stage_over k g.own.waits.writes))) (sym none)
    (failed_reach v p own session k call owner (at g.own.waits.spoiled k) (stage_over k g.own.waits.writes) live shown)) in
    subst (λ (y : Slot). Reaches v p j (row_of own g j) y)
    (λ i. slot_of own (sym (at-with_at g.own.entries k j (found_own session owner (at g.own.entries k))) i) (sym (at-with_at g.acquires k j None) i) (sym (at-with_at g.own.waits.spoiled k j None) i) (stage_over j g.own.waits.writes))
    (elim (same k j) as (λ b. same k j ≡ b → Reaches v p j (row_of own g j) (after j b)) [
      | true ↦ λ t. subst (λ (i : List ℕ). Reaches v p i (row_of own g i) (after i true)) (same-equal k j t) here
      | false ↦ λ t. same_slot refl
    ] refl)

-- it is refused or lost: the entries stay
ended_reach : (v : View) (p : ℕ) (own : ℕ → ℕ) (k : List ℕ) (call : ℕ) (e : Option Entry) (o : Option Acquire) (s : Option Bool) (stage : WriteStage) (a : Acquire) → o ≡ Some a → a.sending ≡ sending.Out call
    → Reaches v p k (slot_of own e o s stage) (slot_of own e None None stage)
ended_reach v p own k call e o s stage a some out =
    subst (λ (x : Slot). Reaches v p k x (slot_of own e None None stage)) ((λ i. slot_at (sym out i)) ∙ (λ i. slot_of own e (sym some i) s stage)) (one_turn (ends_acquire refl))
  where
    slot_at : Sending → Slot
    slot_at x = slot_of own e (Some (record a { sending = x })) s stage

pub acquire_ends_turn : AcquireEndsTurn
acquire_ends_turn v p own k call a g stands out j =
    let after = λ (i : List ℕ) (b : Bool). slot_of own (at g.own.entries i) (cond b None (at g.acquires i)) (cond b None (at g.own.waits.spoiled i)) (stage_over i g.own.waits.writes) in
    let here : Reaches v p k (row_of own g k) (after k true) = ended_reach v p own k call (at g.own.entries k) (at g.acquires k) (at g.own.waits.spoiled k) (stage_over k g.own.waits.writes) a stands out in
    subst (λ (y : Slot). Reaches v p j (row_of own g j) y)
    (λ i. slot_of own (at g.own.entries j) (sym (at-with_at g.acquires k j None) i) (sym (at-with_at g.own.waits.spoiled k j None) i) (stage_over j g.own.waits.writes))
    (elim (same k j) as (λ b. same k j ≡ b → Reaches v p j (row_of own g j) (after j b)) [
      | true ↦ λ t. subst (λ (i : List ℕ). Reaches v p i (row_of own g i) (after i true)) (same-equal k j t) here
      | false ↦ λ t. same_slot refl
    ] refl)
