-- What the items of a line tell of the store's history: it only grows.
use Rattle.std.proofs.Common.{◌≡◌, inl, inr, ℕ, ◌≤◌, Bool, true, false, List, [], ◌∷◌, ◌++◌, Option, None, Some, Result, Ok, Err, refl, ap, arith}
use Rattle.std.specs.Prelude.{flat_map}
use Rattle.std.specs.BTreeSet.{BTreeSet}
use Rattle.etcd_types.specs.declared.answer.Answer.{Answer}
use Rattle.etcd_types.specs.declared.request.Request.{Request}
use Rattle.etcd_types.specs.declared.request.Request.TheVariants as request
use Rattle.etcd_types.specs.declared.watch.WatchItem.{WatchItem}
use Rattle.etcd_types.specs.declared.watch.WatchItem.TheVariants as message
use Rattle.store_model.specs.declared.store_fault.StoreFault.{StoreFault}
use Rattle.store_model.specs.History.{newest}
use Rattle.store_model.specs.Leases.{expired}
use Rattle.store_model.specs.Members.{applied}
use Rattle.store_model.specs.State.{State}
use Rattle.store_model.specs.Step.{exec}
use Rattle.store_model.specs.Watches.{Pushed, pushed, progressed}
use Rattle.core_model.specs.declared.event.CoreEvent.{CoreEvent}
use Rattle.core_model.specs.declared.event.Outcome.{Outcome}
use Rattle.script_text.specs.declared.item.Item.{Item}
use Rattle.script_text.specs.declared.item.Item.TheVariants as item
use Rattle.world_model.specs.Answers.{Seen, seen, saw, saw_all, sent_call, after_call, after_step, after_opening, after_push, message_by}
use Rattle.world_model.specs.Gains.{Replies, body_if, line_if, reply_items, taken_items, all_fetched}
use Rattle.world_model.specs.Places.{is_among}
use Rattle.world_model.specs.State.{Place, World}
use Rattle.world_laws.proofs.Effects.{Turn, ticks, asks_it, posts_it, calls, opens, closes, answers, loses, delivers, cuts, takes, waits, leaves, Begins, first, again, Effect, starts, sets, refuses_post, executes, expires, applies, pushes, turns}
use Rattle.held_laws.proofs.Growing.{exec_leaves, expired_leaves, applied_leaves, message_leaves}
use Rattle.received_laws.proofs.Newest.{grown_newest}
use Rattle.held_laws.proofs.Runs.{seen-append}

-- ---- no item of a line makes a world

abbrev is_line : Item → Bool
is_line (item.World members namespace leasing) = false
is_line _ = true

abbrev pub AreOfLines : List Item → Type 0
AreOfLines [] = Unit {0}
AreOfLines (i ∷ items) = (is_line i ≡ true) × AreOfLines items

lines-append : (xs ys : List Item) → AreOfLines xs → AreOfLines ys → AreOfLines (xs ++ ys)
lines-append [] ys h k = k
lines-append (x ∷ xs) ys h k = (h.0, lines-append xs ys h.1 k)

pub lines_front : (xs ys : List Item) → AreOfLines (xs ++ ys) → AreOfLines xs
lines_front [] ys h = tt
lines_front (x ∷ xs) ys h = (h.0, lines_front xs ys h.1)

reply_lines : (p : ℕ) (posted : BTreeSet ℕ) (r : ℕ × Answer) → AreOfLines (reply_items p posted r)
reply_lines p posted r = (refl, body (is_among posted r.0))
  where
    body : (b : Bool) → AreOfLines (body_if b p r.0 r.1)
    body true = (refl, tt)
    body false = tt

replies_lines : (p : ℕ) (posted : BTreeSet ℕ) (got : Replies) → AreOfLines (flat_map (reply_items p posted) got)
replies_lines p posted [] = tt
replies_lines p posted (r ∷ got) = lines-append (reply_items p posted r) (flat_map (reply_items p posted) got) (reply_lines p posted r) (replies_lines p posted got)

taken_lines : (p : ℕ) (posted : BTreeSet ℕ) (ticket : ℕ) (i : WatchItem) → AreOfLines (taken_items p posted ticket i)
taken_lines p posted ticket i = (refl, body (is_among posted ticket))
  where
    body : (b : Bool) → AreOfLines (line_if b p ticket i)
    body true = (refl, tt)
    body false = tt

turn_lines : (w : World) (p : ℕ) (x : Place) (e : CoreEvent) (o : Outcome) (v : World) (y : Place) (own : List Item) (told : Replies) → Turn w p x e o v y own told → AreOfLines own
turn_lines w p x _ _ _ _ _ _ (ticks o) = (refl, tt)
turn_lines w p x _ _ _ _ _ _ (asks_it ticket q o n) = (refl, tt)
turn_lines w p x _ _ _ _ _ _ (posts_it ticket path body q o n) = (refl, (refl, tt))
turn_lines w p x _ _ _ _ _ _ (calls own member ticket q) = (refl, tt)
turn_lines w p x _ _ _ _ _ _ (opens own member ask) = (refl, tt)
turn_lines w p x _ _ _ _ _ _ (closes own number e) = (refl, tt)
turn_lines w p x _ _ _ _ _ _ (answers number call a o e f) = (refl, tt)
turn_lines w p x _ _ _ _ _ _ (loses number call o e) = (refl, tt)
turn_lines w p x _ _ _ _ _ _ (delivers number s i rest o e f g h k) = (refl, tt)
turn_lines w p x _ _ _ _ _ _ (cuts number s o e f g h) = (refl, tt)
turn_lines w p x _ _ _ _ _ _ (takes ticket i) = taken_lines p x.posted ticket i
turn_lines w p x _ _ _ _ _ _ (waits ticket o n) = (refl, tt)
turn_lines w p x _ _ _ _ _ _ (leaves ticket o) = (refl, tt)

begins_line : (w : World) (p clock life : ℕ) (i : Item) → Begins w p clock life i → is_line i ≡ true
begins_line w p _ _ _ (first e) = refl
begins_line w p _ _ _ (again x e) = refl

pub effect_lines : (w after : World) (gained : List Item) → Effect w after gained → AreOfLines gained
effect_lines w _ _ (starts p clock life i b) = (begins_line w p clock life i b, tt)
effect_lines w _ _ (sets p millis x e forward) = (refl, tt)
effect_lines w _ _ (refuses_post p ticket path body a x e) = (refl, reply_lines p _ (ticket, a))
effect_lines w _ _ (executes number call e fresh) = (refl, tt)
effect_lines w _ _ (expires lease t e due) = (refl, tt)
effect_lines w _ _ (applies member revision t e) = (refl, tt)
effect_lines w _ _ (pushes number s t i e a b k) = (refl, tt)
effect_lines w _ _ (turns p x e o v y own told at out t) = lines-append own _ (turn_lines w p _ e o v y own told t) (replies_lines p _ (all_fetched y told).replies)

-- ---- each of them

abbrev Grown : State → State → Type 0
Grown s t = newest s.history ≤ newest t.history

same_grown : (s : State) → Grown s s
same_grown s = omega arith

called_grown : (s : State) (o : Option (ℕ × Request)) → Grown s (after_call s o)
called_grown s None = same_grown s
called_grown s (Some call) = grown_newest s (exec s call.0 call.1).0 (exec_leaves s call.0 call.1).grown

opened_grown : (s : State) (member : ℕ) (q : Request) → Grown s (after_opening s member q)
opened_grown s member (request.Watch ask) = same_grown s
opened_grown s member (request.Range ask) = same_grown s
opened_grown s member (request.Put ask) = same_grown s
opened_grown s member (request.Delete ask) = same_grown s
opened_grown s member (request.Txn ask) = same_grown s
opened_grown s member (request.Compact revision physical) = same_grown s
opened_grown s member (request.Grant ttl number) = same_grown s
opened_grown s member (request.Revoke number) = same_grown s
opened_grown s member (request.KeepAlive number) = same_grown s
opened_grown s member (request.TimeToLive number keys) = same_grown s
opened_grown s member request.Leases = same_grown s

expired_grown : (s : State) (lease : ℕ) (r : Result State StoreFault) → expired s lease ≡ r → Grown s (after_step s r)
expired_grown s lease (Ok t) e = grown_newest s t (expired_leaves s t lease e).grown
expired_grown s lease (Err why) e = same_grown s

applied_grown : (s : State) (member revision : ℕ) (r : Result State StoreFault) → applied s member revision ≡ r → Grown s (after_step s r)
applied_grown s member revision (Ok t) e = grown_newest s t (applied_leaves s t member revision e).grown
applied_grown s member revision (Err why) e = same_grown s

pushed_grown : (s : State) (number : ℕ) (r : Pushed) → pushed s number ≡ r → Grown s (after_push s r)
pushed_grown s number (Ok p) e = let same : newest p.0.history ≡ newest s.history = ap newest (message_leaves s p.0 p.1 number (inl e)).history in omega (arith, same)
pushed_grown s number (Err why) e = same_grown s

progressed_grown : (s : State) (number : ℕ) (r : Pushed) → progressed s number ≡ r → Grown s (after_push s r)
progressed_grown s number (Ok p) e = let same : newest p.0.history ≡ newest s.history = ap newest (message_leaves s p.0 p.1 number (inr e)).history in omega (arith, same)
progressed_grown s number (Err why) e = same_grown s

message_grown : (s : State) (number : ℕ) (i : WatchItem) → Grown s (after_push s (message_by s number i))
message_grown s number (message.Created h) = pushed_grown s number (pushed s number) refl
message_grown s number (message.Events h []) = progressed_grown s number (progressed s number) refl
message_grown s number (message.Events h (e ∷ es)) = pushed_grown s number (pushed s number) refl
message_grown s number (message.Canceled h compaction) = pushed_grown s number (pushed s number) refl

saw_grown : (s : Seen) (i : Item) → is_line i ≡ true → Grown s.store (saw s i).store
saw_grown s (item.World members namespace leasing) l = absurd (cc)
saw_grown s (item.Executed number answer) l = called_grown s.store (sent_call s number)
saw_grown s (item.Opened p number member q) l = opened_grown s.store member q
saw_grown s (item.Pushed number i) l = message_grown s.store number i
saw_grown s (item.Expired lease) l = expired_grown s.store lease (expired s.store lease) refl
saw_grown s (item.Applied member revision) l = applied_grown s.store member revision (applied s.store member revision) refl
saw_grown s (item.Sent p number member ticket q) l = same_grown s.store
saw_grown s (item.Started q) l = same_grown s.store
saw_grown s (item.Restarted q) l = same_grown s.store
saw_grown s (item.Clock q m) l = same_grown s.store
saw_grown s (item.Asked q t r) l = same_grown s.store
saw_grown s (item.Posted q t a b) l = same_grown s.store
saw_grown s (item.Ticked q) l = same_grown s.store
saw_grown s (item.Closed q c) l = same_grown s.store
saw_grown s (item.Answered c) l = same_grown s.store
saw_grown s (item.Lost c) l = same_grown s.store
saw_grown s (item.Reply q t a) l = same_grown s.store
saw_grown s (item.Body q t u b) l = same_grown s.store
saw_grown s (item.Delivered number) l = same_grown s.store
saw_grown s (item.Cut number) l = same_grown s.store
saw_grown s (item.Taken q t i) l = same_grown s.store
saw_grown s (item.Pending q t) l = same_grown s.store
saw_grown s (item.Left q t) l = same_grown s.store

all_grown : (s : Seen) (items : List Item) → AreOfLines items → Grown s.store (saw_all s items).store
all_grown s [] h = same_grown s.store
all_grown s (i ∷ items) h = let a = saw_grown s i h.0 in let b = all_grown (saw s i) items h.1 in omega (arith, a, b)

-- behind more items of lines the newest revision is no lower
pub seen_grown : (items more : List Item) → AreOfLines more → newest (seen items).store.history ≤ newest (seen (items ++ more)).store.history
seen_grown items more h = let a = all_grown (seen items) more h in let e : newest (saw_all (seen items) more).store.history ≡ newest (seen (items ++ more)).store.history = ap (λ (s : Seen). newest s.store.history) (seen-append items more) in omega (arith, a, e)
