-- The items of a transcript tell the store of its world: behind each line it is the store that they made.
use Rattle.std.proofs.Common.{◌≡◌, inl, inr, ℕ, zero, suc, ◌-◌, ◌==◌, Bool, true, false, cond, List, [], ◌∷◌, ◌++◌, map, set, slice_get, option_map, Option, None, Some, Ok, refl, ap, sym, ◌∙◌}
use Rattle.std.proofs.lemmas.List.{map-append}
use Rattle.std.proofs.lemmas.Option.{slice_get-map}
use Rattle.std.specs.Prelude.{flat_map}
use Rattle.etcd_types.specs.declared.request.Request.{Request}
use Rattle.etcd_types.specs.declared.watch.WatchItem.{WatchItem}
use Rattle.store_model.specs.Leases.{expired}
use Rattle.store_model.specs.Members.{applied}
use Rattle.store_model.specs.State.{State}
use Rattle.store_model.specs.Step.{exec}
use Rattle.store_model.specs.Watches.{opened}
use Rattle.core_model.specs.declared.event.CoreEvent.{CoreEvent}
use Rattle.core_model.specs.declared.event.Outcome.{Outcome}
use Rattle.script_text.specs.declared.item.Item.{Item}
use Rattle.world_model.specs.declared.sent_call.SentCall.{SentCall}
use Rattle.world_model.specs.Answers.{Seen, sent_call, after_call, after_step, after_push, saw, saw_all, message_by}
use Rattle.world_model.specs.Gains.{Replies, all_fetched, reply_items}
use Rattle.world_model.specs.Places.{nth, with_nth, with_place, with_posted}
use Rattle.world_model.specs.Sends.{closed_in}
use Rattle.world_model.specs.State.{Place, OpenedStream, World}
use Rattle.world_laws.proofs.Pushing.{pushed_so, progressed_so}
use Rattle.world_laws.proofs.Quiet.{saw_all-append, reply_quiet, replies_quiet, taken_quiet}
use Rattle.world_laws.proofs.TrueAnswers.{member_and_request}
use Rattle.world_laws.proofs.Effects.{Turn, ticks, asks_it, posts_it, calls, opens, closes, answers, loses, delivers, cuts, takes, waits, leaves, Begins, first, again, IsPushed, Effect, starts, sets, refuses_post, executes, expires, applies, pushes, turns}

pub record SeenOk (s : Seen) (w : World) : Type 0 where
  pub store : s.store ≡ w.store
  pub calls : s.calls ≡ map member_and_request w.calls

set_same : (cs : List SentCall) (i : ℕ) (old new : SentCall) → slice_get cs i ≡ Some old → member_and_request new ≡ member_and_request old → map member_and_request (set cs i new) ≡ map member_and_request cs
set_same [] i old new e same = refl
set_same (c ∷ cs) zero old new e same = ap (λ (x : ℕ × Request). x ∷ map member_and_request cs) (same ∙ sym (ap member_and_request (one c old e)))
  where
    one : (a b : SentCall) → Some a ≡ Some b → a ≡ b
    one a b e = cc
set_same (c ∷ cs) (suc i) old new e same = ap (λ (xs : List (ℕ × Request)). member_and_request c ∷ xs) (set_same cs i old new e same)

call_same : (cs : List SentCall) (number : ℕ) (old new : SentCall) → nth cs number ≡ Some old → member_and_request new ≡ member_and_request old → map member_and_request (with_nth cs number new) ≡ map member_and_request cs
call_same cs number old new e same = by (number == 0) e
  where
    by : (b : Bool) → cond b None (slice_get cs (number - 1)) ≡ Some old → map member_and_request (set cs (number - 1) new) ≡ map member_and_request cs
    by true e = absurd (cc)
    by false e = set_same cs (number - 1) old new e same

call_seen : (s : Seen) (w : World) (number : ℕ) (call : SentCall) → SeenOk s w → nth w.calls number ≡ Some call → sent_call s number ≡ Some (member_and_request call)
call_seen s w number call h e = by (number == 0) e
  where
    by : (b : Bool) → cond b None (slice_get w.calls (number - 1)) ≡ Some call → cond b None (slice_get s.calls (number - 1)) ≡ Some (member_and_request call)
    by true e = absurd (cc)
    by false e = ap (λ (cs : List (ℕ × Request)). slice_get cs (number - 1)) h.calls ∙ slice_get-map member_and_request w.calls (number - 1) ∙ ap (option_map member_and_request) e

-- behind replies, too
replied : (s : Seen) (w : World) (p : ℕ) (own : List Item) (z : Place) (got : Replies) → SeenOk (saw_all s own) w → SeenOk (saw_all s (own ++ flat_map (reply_items p z.posted) got)) w
replied s w p own z got h =
    let same = saw_all-append s own (flat_map (reply_items p z.posted) got) ∙ (replies_quiet p z.posted got).tell_nothing (saw_all s own) in
    record { store = ap (λ (t : Seen). t.store) same ∙ h.store; calls = ap (λ (t : Seen). t.calls) same ∙ h.calls }

closed_seen : (s : Seen) (w : World) (number : ℕ) (o : Option OpenedStream) → SeenOk s w → SeenOk s (closed_in w number o)
closed_seen s w number None h = h
closed_seen s w number (Some stream) h = record { store = h.store; calls = h.calls }

turn_seen : (s : Seen) (w : World) (p : ℕ) (x : Place) (e : CoreEvent) (o : Outcome) (v : World) (y : Place) (own : List Item) (told : Replies) → SeenOk s w → Turn w p x e o v y own told → SeenOk (saw_all s own) v
turn_seen s w p x _ _ _ _ _ _ h (ticks o) = h
turn_seen s w p x _ _ _ _ _ _ h (asks_it ticket q o n) = h
turn_seen s w p x _ _ _ _ _ _ h (posts_it ticket path body q o n) = h
turn_seen s w p x _ _ _ _ _ _ h (calls own member ticket q) =
    record { store = h.store; calls = ap (λ (cs : List (ℕ × Request)). cs ++ (member, q) ∷ []) h.calls ∙ sym (map-append member_and_request w.calls _) }
turn_seen s w p x _ _ _ _ _ _ h (opens own member ask) = record { store = ap (λ (t : State). (opened t member ask).0) h.store; calls = h.calls }
turn_seen s w p x _ _ _ _ _ _ h (closes own number e) = closed_seen s w number (nth w.streams number) h
turn_seen s w p x _ _ _ _ _ _ h (answers number call a o e f) = record { store = h.store; calls = h.calls ∙ sym (call_same w.calls number call (record call { settled = true }) e refl) }
turn_seen s w p x _ _ _ _ _ _ h (loses number call o e) = record { store = h.store; calls = h.calls ∙ sym (call_same w.calls number call (record call { settled = true }) e refl) }
turn_seen s w p x _ _ _ _ _ _ h (delivers number t i rest o e f g j k) = record { store = h.store; calls = h.calls }
turn_seen s w p x _ _ _ _ _ _ h (cuts number t o e f g j) = record { store = h.store; calls = h.calls }
turn_seen s w p x _ _ _ _ _ _ h (takes ticket i) =
    let same = (taken_quiet p x.posted ticket i).tell_nothing s in
    record { store = ap (λ (t : Seen). t.store) same ∙ h.store; calls = ap (λ (t : Seen). t.calls) same ∙ h.calls }
turn_seen s w p x _ _ _ _ _ _ h (waits ticket o n) = h
turn_seen s w p x _ _ _ _ _ _ h (leaves ticket o) = h

message_seen : (s : State) (number : ℕ) (t : State) (i : WatchItem) → IsPushed s number t i → message_by s number i ≡ Ok (t, i)
message_seen s number t i (inl e) = pushed_so s t number i e
message_seen s number t i (inr e) = progressed_so s t number i e

started_seen : (s : Seen) (w : World) (p clock life' : ℕ) (i : Item) → Begins w p clock life' i → saw s i ≡ s
started_seen s w p _ _ _ (first e) = refl
started_seen s w p _ _ _ (again x e) = refl

pub effect_seen : (s : Seen) (w after : World) (gained : List Item) → SeenOk s w → Effect w after gained → SeenOk (saw_all s gained) after
effect_seen s w _ _ h (starts p clock life' i b) =
    let same = started_seen s w p clock life' i b in record { store = ap (λ (t : Seen). t.store) same ∙ h.store; calls = ap (λ (t : Seen). t.calls) same ∙ h.calls }
effect_seen s w _ _ h (sets p millis x at forward) = record { store = h.store; calls = h.calls }
effect_seen s w _ _ h (refuses_post p ticket path body a x at) =
    let same = (reply_quiet p (with_posted ticket x).posted (ticket, a)).tell_nothing s in
    record { store = ap (λ (t : Seen). t.store) same ∙ h.store; calls = ap (λ (t : Seen). t.calls) same ∙ h.calls }
effect_seen s w _ _ h (executes number call e fresh) = record {
  store = ap (after_call s.store) (call_seen s w number call h e) ∙ ap (λ (t : State). (exec t call.member call.request).0) h.store;
  calls = h.calls ∙ sym (call_same w.calls number call _ e refl);
}
effect_seen s w _ _ h (expires lease t e due) = record { store = ap (λ (u : State). after_step u (expired u lease)) h.store ∙ ap (after_step w.store) e; calls = h.calls }
effect_seen s w _ _ h (applies member revision t e) = record { store = ap (λ (u : State). after_step u (applied u member revision)) h.store ∙ ap (after_step w.store) e; calls = h.calls }
effect_seen s w _ _ h (pushes number u t i e a b k) = record { store = ap (λ (v : State). after_push v (message_by v number i)) h.store ∙ ap (after_push w.store) (message_seen w.store number t i k); calls = h.calls }
effect_seen s w _ _ h (turns p x e o v y own told at out t) =
    let k = turn_seen s w p _ e o v y own told h t in
    let placed : SeenOk (saw_all s own) (with_place v p (all_fetched y told).place) = record { store = k.store; calls = k.calls } in
    replied s (with_place v p (all_fetched y told).place) p own (all_fetched y told).place (all_fetched y told).replies placed
