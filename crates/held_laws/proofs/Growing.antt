-- What each line leaves of the store: its history grows, and its watches stay, but for the one that a message is pushed to.
use Rattle.std.proofs.Common.{◌≡◌, inl, inr, ℕ, List, [], ◌++◌, length, append-nil, Option, None, Some, Result, Ok, refl, ap, sym, subst, ◌∙◌}
use Rattle.etcd_types.specs.declared.request.Request.{Request}
use Rattle.store_model.specs.declared.store_fault.StoreFault.{StoreFault}
use Rattle.etcd_types.specs.declared.watch.WatchItem.{WatchItem}
use Rattle.store_model.specs.History.{History}
use Rattle.store_model.specs.State.{State}
use Rattle.store_model.specs.Step.{exec}
use Rattle.store_model.specs.Leases.{expired}
use Rattle.store_model.specs.Members.{applied}
use Rattle.store_model.specs.Watches.{Pushed, watch_of, pushed, progressed}
use Rattle.store_laws.proofs.Requests.RequestProofs.{whole-exec}
use Rattle.store_laws.proofs.Events.LeavingProofs.{requests_leave_watches, expiries_leave_watches, applies_leave_watches, message_moves, messages_leave_other_watches}
use Rattle.world_laws.proofs.Watches.{KeepsStore, pushes_keep, progress_keeps, LeavesStore, expiries_leave, applies_leave}
use Rattle.core_model.specs.declared.event.CoreEvent.{CoreEvent}
use Rattle.core_model.specs.declared.event.Outcome.{Outcome}
use Rattle.script_text.specs.declared.item.Item.{Item}
use Rattle.world_model.specs.Places.{nth}
use Rattle.world_model.specs.Gains.{Replies}
use Rattle.world_model.specs.Sends.{closed_in}
use Rattle.world_model.specs.State.{Place, OpenedStream, World}
use Rattle.world_laws.proofs.Effects.{Turn, ticks, asks_it, posts_it, calls, opens, closes, answers, loses, delivers, cuts, takes, waits, leaves, IsPushed, Effect, starts, sets, refuses_post, executes, expires, applies, pushes, turns}

-- the one history goes on to the other
abbrev pub Grows : State → State → Type 0
Grows s t = (more : History) × (t.history ≡ s.history ++ more)

same_grows : (s : State) → Grows s s
same_grows s = ([], sym (append-nil s.history))

-- the store and its watches, but for what is told
pub record Leaves (s t : State) : Type 0 where
  pub grown : Grows s t
  pub same : (number : ℕ) → watch_of t number ≡ watch_of s number
  pub many : length t.watches ≡ length s.watches

pub exec_leaves : (s : State) (member : ℕ) (q : Request) → Leaves s (exec s member q).0
exec_leaves s member q = record {
  grown = (requests_leave_watches s member q 0).grown;
  same = λ n. (requests_leave_watches s member q n).same_watch;
  many = ap length (whole-exec s member q).watches;
}

many_of : (s t : State) (r : Result State StoreFault) → r ≡ Ok t → LeavesStore s r → length t.watches ≡ length s.watches
many_of s t r e h = let k : LeavesStore s (Ok t) = subst (LeavesStore s) e h in ap length k.0

pub expired_leaves : (s t : State) (lease : ℕ) → expired s lease ≡ Ok t → Leaves s t
expired_leaves s t lease e = record {
  grown = (expiries_leave_watches s t lease 0 e).grown;
  same = λ n. (expiries_leave_watches s t lease n e).same_watch;
  many = many_of s t (expired s lease) e (expiries_leave s lease);
}

pub applied_leaves : (s t : State) (member revision : ℕ) → applied s member revision ≡ Ok t → Leaves s t
applied_leaves s t member revision e = record {
  grown = (applies_leave_watches s t member revision 0 e).grown;
  same = λ n. (applies_leave_watches s t member revision n e).same_watch;
  many = many_of s t (applied s member revision) e (applies_leave s member revision);
}

-- a message leaves the history and the other watches
pub record LeavesOthers (s t : State) (number : ℕ) : Type 0 where
  pub history : t.history ≡ s.history
  pub same : (n : ℕ) → (number ≡ n → ⊥) → watch_of t n ≡ watch_of s n
  pub many : length t.watches ≡ length s.watches

pushed_many : (s t : State) (i : WatchItem) (k : Pushed) → k ≡ Ok (t, i) → KeepsStore s k → length t.watches ≡ length s.watches
pushed_many s t i k e h = let x : KeepsStore s (Ok (t, i)) = subst (KeepsStore s) e h in x.0

message_many : (s t : State) (i : WatchItem) (number : ℕ) → IsPushed s number t i → length t.watches ≡ length s.watches
message_many s t i number (inl e) = pushed_many s t i (pushed s number) e (pushes_keep s number)
message_many s t i number (inr e) = pushed_many s t i (progressed s number) e (progress_keeps s number)

pub message_leaves : (s t : State) (i : WatchItem) (number : ℕ) → IsPushed s number t i → LeavesOthers s t number
message_leaves s t i number e = record {
  history = (let m = message_moves s t i number e in sym (ap (λ (x : State). x.history) m.1));
  same = λ n d. (messages_leave_other_watches s t i number n d e).same_watch;
  many = message_many s t i number e;
}

pub closed_store : (w : World) (number : ℕ) (o : Option OpenedStream) → (closed_in w number o).store ≡ w.store
closed_store w number None = refl
closed_store w number (Some s) = refl

pub turn_grows : (w : World) (p : ℕ) (x : Place) (e : CoreEvent) (o : Outcome) (v : World) (y : Place) (own : List Item) (told : Replies) → Turn w p x e o v y own told → Grows w.store v.store
turn_grows w p x _ _ _ _ _ _ (ticks o) = same_grows w.store
turn_grows w p x _ _ _ _ _ _ (asks_it ticket q o n) = same_grows w.store
turn_grows w p x _ _ _ _ _ _ (posts_it ticket path body q o n) = same_grows w.store
turn_grows w p x _ _ _ _ _ _ (calls own member ticket q) = same_grows w.store
turn_grows w p x _ _ _ _ _ _ (opens own member ask) = same_grows w.store
turn_grows w p x _ _ _ _ _ _ (closes own number e) = subst (Grows w.store) (sym (closed_store w number (nth w.streams number))) (same_grows w.store)
turn_grows w p x _ _ _ _ _ _ (answers number call a o e f) = same_grows w.store
turn_grows w p x _ _ _ _ _ _ (loses number call o e) = same_grows w.store
turn_grows w p x _ _ _ _ _ _ (delivers number s i rest o e f g h k) = same_grows w.store
turn_grows w p x _ _ _ _ _ _ (cuts number s o e f g h) = same_grows w.store
turn_grows w p x _ _ _ _ _ _ (takes ticket i) = same_grows w.store
turn_grows w p x _ _ _ _ _ _ (waits ticket o n) = same_grows w.store
turn_grows w p x _ _ _ _ _ _ (leaves ticket o) = same_grows w.store

pub effect_grows : (w after : World) (items : List Item) → Effect w after items → Grows w.store after.store
effect_grows w _ _ (starts p clock life i b) = same_grows w.store
effect_grows w _ _ (sets p millis x e forward) = same_grows w.store
effect_grows w _ _ (refuses_post p ticket path body a x e) = same_grows w.store
effect_grows w _ _ (executes number call e fresh) = (exec_leaves w.store call.member call.request).grown
effect_grows w _ _ (expires lease t e due) = (expired_leaves w.store t lease e).grown
effect_grows w _ _ (applies member revision t e) = (applied_leaves w.store t member revision e).grown
effect_grows w _ _ (pushes number s t i e a b k) = ([], (message_leaves w.store t i number k).history ∙ sym (append-nil w.store.history))
effect_grows w _ _ (turns p x e o v y own told at out t) = turn_grows w p _ e o v y own told t
