-- What each executed call was answered is the image of what the bare store answers.
use Rattle.std.proofs.Common.{◌≡◌, ℕ, true, not, List, Option, None, Some, ◌∙◌, ap}
use Rattle.std.specs.List.{list_all}
use Rattle.etcd_types.specs.declared.answer.Answer.{Answer}
use Rattle.etcd_types.specs.declared.answer.Reply.{Reply}
use Rattle.etcd_types.specs.declared.request.Request.{Request}
use Rattle.proxy_model.specs.Unwrapped.{Unwrapped}
use Rattle.proxy_model.specs.Wrapped.{request_under}
use Rattle.script_text.specs.declared.item.Item.{Item}
use Rattle.store_model.specs.State.{starting}
use Rattle.store_model.specs.Step.{Step, exec}
use Rattle.store_laws.specs.Lives.Lives.{StoreStep, lived}
use Rattle.store_laws.proofs.Lives.LifeProofs.{lives_are_sound}
use Rattle.namespace_laws.specs.Stored.Lives.{step_lacks}
use Rattle.namespace_laws.specs.Stored.Stored.{stored, stored_answer, stored_step}
use Rattle.namespace_laws.proofs.Stored.Back.{replies_unwrap}
use Rattle.namespace_laws.proofs.Stored.Lives.{lives_are_stored}
use Rattle.namespace_laws.proofs.Stored.Steps.{stored_stores_answer}
use Rattle.core_model.specs.declared.event.CoreEvent.{CoreEvent}
use Rattle.core_model.specs.declared.event.Outcome.{Outcome}
use Rattle.core_model.specs.Heard.{heard_reply}
use Rattle.core_model.specs.Step.{stepped}
use Rattle.world_model.specs.declared.sent_call.SentCall.{SentCall}
use Rattle.world_model.specs.Gains.{Replies}
use Rattle.world_model.specs.Places.{nth, with_call, with_core}
use Rattle.world_model.specs.Sends.{new_call, closed_in}
use Rattle.world_model.specs.State.{Place, OpenedStream, World}
use Rattle.world_laws.proofs.Effects.{Turn, ticks, asks_it, posts_it, calls, opens, closes, answers, loses, delivers, cuts, takes, waits, leaves, Effect, starts, sets, refuses_post, executes, expires, applies, pushes, turns}
use Rattle.namespace_laws.specs.Images.Worlds.{AnswersAreImages, RepliesAreHeardBare}
use Rattle.namespace_laws.proofs.Images.Alls.{all_if, AllOf, nth_all, with_nth_all, append_all}
use Rattle.namespace_laws.proofs.Images.Inductions.{IsKept, every_world}
use Rattle.namespace_laws.proofs.Images.WorldsUnder as worlds
use Rattle.namespace_laws.proofs.Images.WorldsUnder.{SentUnder, LivesUnder, WorldUnder, call_under}

-- of one call of a world with this namespace and so many members
pub record Answered (ns : List ℕ) (members : ℕ) (call : SentCall) (a : Answer) : Type 0 where
  pub bare : Request
  pub under : call.request ≡ request_under ns bare
  pub before : List StoreStep
  pub keys : list_all (λ e. not (step_lacks e)) before ≡ true
  pub answer : a ≡ stored_answer ns (exec (lived (starting members) before) call.member bare).1

abbrev IfAnswered : List ℕ → ℕ → SentCall → Type 0
IfAnswered ns members call = (a : Answer) → call.executed ≡ Some a → Answered ns members call a

abbrev Heard : World → Type 0
Heard w = AllOf (IfAnswered w.namespace w.members) w.calls

-- it is answered now
executed_now : (w : World) (call : SentCall) → SentUnder w.namespace call → LivesUnder w.namespace w.members w.store
    → IfAnswered w.namespace w.members (record call { executed = Some (exec w.store call.member call.request).1 })
executed_now w call u h a e =
    let c = lived (starting w.members) h.steps in
    let is : w.store ≡ stored w.namespace c = h.store ∙ lives_are_stored w.namespace w.members h.steps h.keys in
    let so : exec w.store call.member call.request ≡ stored_step w.namespace (exec c call.member u.bare) =
    (λ i. exec (is i) call.member (u.under i)) ∙ stored_stores_answer w.namespace c call.member u.bare (lives_are_sound w.members h.steps).keys u.keys in
    let same : a ≡ (exec w.store call.member call.request).1 = cc in
    record { bare = u.bare; under = u.under; before = h.steps; keys = h.keys; answer = same ∙ ap (λ (s : Step). s.1) so }

-- a call that was answered before stays so
still_answered : (ns : List ℕ) (members : ℕ) (call : SentCall) (settled : _) → IfAnswered ns members call → IfAnswered ns members (record call { settled = settled })
still_answered ns members call settled h a e = let k = h a e in record { bare = k.bare; under = k.under; before = k.before; keys = k.keys; answer = k.answer }

not_yet : (ns : List ℕ) (members : ℕ) (p : ℕ) (x : Place) (own member : ℕ) (q : Request) → IfAnswered ns members (new_call p x own member q)
not_yet ns members p x own member q a e = absurd (cc)

call_heard : (w : World) (number : ℕ) (call : SentCall) → nth w.calls number ≡ Some call → Heard w → IfAnswered w.namespace w.members call
call_heard w number call e h = all_if (IfAnswered w.namespace w.members) (nth w.calls number) call e (nth_all (IfAnswered w.namespace w.members) w.calls number h)

settles : (w : World) (number : ℕ) (call : SentCall) → nth w.calls number ≡ Some call → Heard w → Heard (with_call w number (record call { settled = true }))
settles w number call e h =
    with_nth_all (IfAnswered w.namespace w.members) w.calls number (record call { settled = true }) (still_answered w.namespace w.members call true (call_heard w number call e h)) h

closed_heard : (w : World) (number : ℕ) (o : Option OpenedStream) → Heard w → Heard (closed_in w number o)
closed_heard w number None h = h
closed_heard w number (Some s) h = h

turn_heard : (w v : World) (p : ℕ) (x y : Place) (e : CoreEvent) (o : Outcome) (own : List Item) (told : Replies) → Turn w p x e o v y own told → Heard w → Heard v
turn_heard w v p x y e o own told (ticks z) h = h
turn_heard w v p x y e o own told (asks_it ticket q z f) h = h
turn_heard w v p x y e o own told (posts_it ticket path body q z f) h = h
turn_heard w v p x y e o own told (calls number member ticket q) h =
    append_all (IfAnswered w.namespace w.members) w.calls (new_call p x number member q) (not_yet w.namespace w.members p x number member q) h
turn_heard w v p x y e o own told (opens number member ask) h = h
turn_heard w v p x y e o own told (closes number stream f) h = closed_heard w stream (nth w.streams stream) h
turn_heard w v p x y e o own told (answers number call a z f g) h = settles w number call f h
turn_heard w v p x y e o own told (loses number call z f) h = settles w number call f h
turn_heard w v p x y e o own told (delivers number s i rest z f g a b r) h = h
turn_heard w v p x y e o own told (cuts number s z f g a b) h = h
turn_heard w v p x y e o own told (takes ticket i) h = h
turn_heard w v p x y e o own told (waits ticket z f) h = h
turn_heard w v p x y e o own told (leaves ticket z) h = h

effect_heard : (w after : World) (items : List Item) → Effect w after items → WorldUnder w → Heard w → Heard after
effect_heard w after items (starts p clock life i b) k h = h
effect_heard w after items (sets p millis x e forward) k h = h
effect_heard w after items (refuses_post p ticket path body a x e) k h = h
effect_heard w after items (executes number call e fresh) k h =
    with_nth_all (IfAnswered w.namespace w.members) w.calls number _ (executed_now w call (call_under w number call e k) k.store) h
effect_heard w after items (expires lease t e due) k h = h
effect_heard w after items (applies member revision t e) k h = h
effect_heard w after items (pushes number s t i e a b f) k h = h
effect_heard w after items (turns p x e o v y own told at is t) k h = turn_heard w v p (with_core x (stepped x.core e x.clock).core) y e o own told t h

record BothSo (w : World) : Type 0 where
  under : WorldUnder w
  heard : Heard w

both_kept : IsKept BothSo
both_kept = record {
  begins = λ members namespace leasing. record { under = worlds.is_kept.begins members namespace leasing; heard = tt };
  goes_on = λ w after items e h. record { under = worlds.is_kept.goes_on w after items e h.under; heard = effect_heard w after items e h.under h.heard };
  counts = λ w n h. record { under = worlds.is_kept.counts w n h.under; heard = h.heard };
}

pub answers_are_images : AnswersAreImages
answers_are_images lines w number call a e at is =
    let k = call_heard w number call at (every_world BothSo both_kept lines w e).heard a is in
    record { bare = k.bare; under = k.under; before = k.before; keys = k.keys; answer = k.answer }

pub replies_are_heard_bare : RepliesAreHeardBare
replies_are_heard_bare namespace reply = ap (λ (r : Unwrapped Reply). heard_reply r) (replies_unwrap namespace reply)
