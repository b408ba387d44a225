-- No line but the first makes a world, and what a store compacted stays so.
use Rattle.std.proofs.Common.{◌≡◌, ℕ, ◌+◌, ◌≤◌, ◌==◌, nat_lt, Bool, true, false, not, cond, ◌&&◌, ◌||◌, List, [], ◌∷◌, ◌++◌, Option, None, Some, Result, Ok, Err, refl, sym, ◌∙◌, ap, arith}
use Rattle.std.specs.Prelude.{flat_map}
use Rattle.std.specs.List.{list_all}
use Rattle.std.specs.BTreeSet.{BTreeSet}
use Rattle.std.proofs.lemmas.List.Folds.{list_all-append}
use Rattle.etcd_types.proofs.Bools.{and_first, and_second, and_both}
use Rattle.etcd_types.specs.declared.answer.Answer.{Answer}
use Rattle.etcd_types.specs.declared.request.Request.{Request}
use Rattle.etcd_types.specs.declared.request.Request.TheVariants as request
use Rattle.etcd_types.specs.declared.watch.Event.{Event}
use Rattle.etcd_types.specs.declared.watch.WatchItem.{WatchItem}
use Rattle.etcd_types.specs.declared.watch.WatchItem.TheVariants as message
use Rattle.core_model.specs.declared.event.CoreEvent.{CoreEvent}
use Rattle.core_model.specs.declared.event.Outcome.{Outcome}
use Rattle.renewed_laws.proofs.Gains.{stepped_to}
use Rattle.script_text.specs.declared.item.Item.{Item}
use Rattle.script_text.specs.declared.item.Item.TheVariants as item
use Rattle.script_text.specs.declared.line.Line.{Line}
use Rattle.script_text.specs.declared.line.Line.TheVariants as line
use Rattle.store_laws.proofs.Lives.CompactionProofs.{compactions_rise}
use Rattle.store_model.specs.declared.store_fault.StoreFault.{StoreFault}
use Rattle.store_model.specs.declared.watch.OpenWatch.{OpenWatch}
use Rattle.store_model.specs.Leases.{expired}
use Rattle.store_model.specs.Members.{lacks_member, applied}
use Rattle.store_model.specs.State.{State, applied_by}
use Rattle.store_model.specs.Transactions.{has_lease}
use Rattle.store_model.specs.History.{newest}
use Rattle.store_model.specs.Watches.{watch_of, events_for, Pushed, push_events, push_to, for_watch, pushed, is_synced, progress_to, progressed}
use Rattle.world_laws.proofs.Effects.{Turn, ticks, asks_it, posts_it, calls, opens, closes, answers, loses, delivers, cuts, takes, waits, leaves, Begins, first, again, Effect, starts, sets, refuses_post, executes, expires, applies, pushes, turns, effect}
use Rattle.world_model.specs.declared.fault.LineRefusal.{LineRefusal}
use Rattle.world_model.specs.Answers.{Seen, sent_call, after_call, after_step, after_opening, message_by, after_push, saw, saw_all}
use Rattle.world_model.specs.Gains.{Replies, all_fetched, body_if, reply_items, line_if}
use Rattle.world_model.specs.Places.{is_among, with_posted}
use Rattle.world_model.specs.State.{Place, World, starting_world}
use Rattle.world_model.specs.Transcript.{done, counted_as, items_and_then, transcript_from, transcript}

-- ---- worlds

abbrev pub is_no_world : Item → Bool
is_no_world (item.World members namespace leasing) = false
is_no_world _ = true

reply_no_world : (p : ℕ) (posted : BTreeSet ℕ) (r : ℕ × Answer) → list_all is_no_world (reply_items p posted r) ≡ true
reply_no_world p posted r = by (is_among posted r.0)
  where
    by : (b : Bool) → list_all is_no_world (item.Reply p r.0 r.1 ∷ body_if b p r.0 r.1) ≡ true
    by true = refl
    by false = refl

replies_no_world : (p : ℕ) (posted : BTreeSet ℕ) (rs : Replies) → list_all is_no_world (flat_map (reply_items p posted) rs) ≡ true
replies_no_world p posted [] = refl
replies_no_world p posted (r ∷ rs) =
    list_all-append is_no_world (reply_items p posted r) (flat_map (reply_items p posted) rs)
    ∙ and_both (list_all is_no_world (reply_items p posted r)) (list_all is_no_world (flat_map (reply_items p posted) rs)) (reply_no_world p posted r) (replies_no_world p posted rs)

turn_no_world : (w : World) (p : ℕ) (x : Place) (e : CoreEvent) (o : Outcome) (v : World) (y : Place) (own : List Item) (told : Replies) → Turn w p x e o v y own told → list_all is_no_world own ≡ true
turn_no_world w p x _ _ _ _ _ _ (takes ticket i) = by (is_among x.posted ticket)
  where
    by : (b : Bool) → list_all is_no_world (item.Taken p ticket i ∷ line_if b p ticket i) ≡ true
    by true = refl
    by false = refl
turn_no_world w p x _ _ _ _ _ _ (ticks o) = refl
turn_no_world w p x _ _ _ _ _ _ (asks_it ticket q o u) = refl
turn_no_world w p x _ _ _ _ _ _ (posts_it ticket path body q o u) = refl
turn_no_world w p x _ _ _ _ _ _ (calls own member ticket q) = refl
turn_no_world w p x _ _ _ _ _ _ (opens own member ask) = refl
turn_no_world w p x _ _ _ _ _ _ (closes own number e) = refl
turn_no_world w p x _ _ _ _ _ _ (answers number call a o e g) = refl
turn_no_world w p x _ _ _ _ _ _ (loses number call o e) = refl
turn_no_world w p x _ _ _ _ _ _ (delivers number s i rest o a c d g k) = refl
turn_no_world w p x _ _ _ _ _ _ (cuts number s o a c d g) = refl
turn_no_world w p x _ _ _ _ _ _ (waits ticket o u) = refl
turn_no_world w p x _ _ _ _ _ _ (leaves ticket o) = refl

begun_no_world : (w : World) (p clock life' : ℕ) (i : Item) → Begins w p clock life' i → is_no_world i ≡ true
begun_no_world w p _ _ _ (first e) = refl
begun_no_world w p _ _ _ (again x e) = refl

effect_no_world : (w after : World) (gained : List Item) → Effect w after gained → list_all is_no_world gained ≡ true
effect_no_world w _ _ (starts p clock life' i k) = ap (λ b. b && true) (begun_no_world w p clock life' i k)
effect_no_world w _ _ (sets p millis x at forward) = refl
effect_no_world w _ _ (refuses_post p ticket path body a x at) = reply_no_world p (with_posted ticket x).posted (ticket, a)
effect_no_world w _ _ (executes number call at fresh) = refl
effect_no_world w _ _ (expires lease t at due) = refl
effect_no_world w _ _ (applies member revision t at) = refl
effect_no_world w _ _ (pushes number s t i at a c k) = refl
effect_no_world w _ _ (turns p x ev o v y own told at out t) =
    let fetched = all_fetched y told in
    let rest = flat_map (reply_items p fetched.place.posted) fetched.replies in
    list_all-append is_no_world own rest ∙ and_both (list_all is_no_world own) (list_all is_no_world rest) (turn_no_world w p (stepped_to x ev) ev o v y own told t) (replies_no_world p fetched.place.posted fetched.replies)

no_worlds_from : (lines : List Line) (w : World) → list_all is_no_world (transcript_from (Some w) lines) ≡ true
no_worlds_from [] w = refl
no_worlds_from (l ∷ lines) w = by (done w l).gained refl (λ after. no_worlds_from lines after)
  where
    by : (r : Result (List Item) LineRefusal) → (done w l).gained ≡ r → ((after : World) → list_all is_no_world (transcript_from (Some after) lines) ≡ true)
        → list_all is_no_world (items_and_then (counted_as (done w l).world r) (λ after. transcript_from (Some after) lines)) ≡ true
    by (Ok gained) e more =
        let after = record (done w l).world { lines = (done w l).world.lines + 1 } in
        list_all-append is_no_world gained (transcript_from (Some after) lines)
        ∙ and_both (list_all is_no_world gained) (list_all is_no_world (transcript_from (Some after) lines)) (effect_no_world w (done w l).world gained (effect w l gained e)) (more after)
    by (Err why) e more = refl

tail_is : (i j : Item) (xs ys : List Item) → i ∷ xs ≡ j ∷ ys → xs ≡ ys
tail_is i j xs ys e = cc

nothing_in : {A : Type 0} (earlier later : List Item) (i : Item) → [] ≡ earlier ++ i ∷ later → A
nothing_in [] later i e = absurd (cc)
nothing_in (j ∷ earlier) later i e = absurd (cc)

behind : (one : Item) (rest earlier later : List Item) (i : Item) → list_all is_no_world rest ≡ true → one ∷ rest ≡ earlier ++ i ∷ later → list_all is_no_world later ≡ true
behind one rest [] later i h e = ap (list_all is_no_world) (sym (tail_is one i rest later e)) ∙ h
behind one rest (j ∷ earlier) later i h e =
    let all = sym (list_all-append is_no_world earlier (i ∷ later)) ∙ ap (list_all is_no_world) (sym (tail_is one j rest (earlier ++ i ∷ later) e)) ∙ h in
    and_second (is_no_world i) (list_all is_no_world later) (and_second (list_all is_no_world earlier) (list_all is_no_world (i ∷ later)) all)

pub no_later_world : (lines : List Line) (earlier later : List Item) (i : Item) → transcript lines ≡ earlier ++ i ∷ later → list_all is_no_world later ≡ true
no_later_world [] earlier later i e = nothing_in earlier later i e
no_later_world (line.World members namespace leasing ∷ lines) earlier later i e =
    behind (item.World members namespace leasing) (transcript_from (Some (starting_world members namespace leasing)) lines) earlier later i (no_worlds_from lines (starting_world members namespace leasing)) e
no_later_world (line.Start p ∷ lines) earlier later i e = nothing_in earlier later i e
no_later_world (line.Clock p millis ∷ lines) earlier later i e = nothing_in earlier later i e
no_later_world (line.Ask p ticket q ∷ lines) earlier later i e = nothing_in earlier later i e
no_later_world (line.Post p ticket path body ∷ lines) earlier later i e = nothing_in earlier later i e
no_later_world (line.Tick p ∷ lines) earlier later i e = nothing_in earlier later i e
no_later_world (line.Send p ∷ lines) earlier later i e = nothing_in earlier later i e
no_later_world (line.Exec number ∷ lines) earlier later i e = nothing_in earlier later i e
no_later_world (line.Answer number ∷ lines) earlier later i e = nothing_in earlier later i e
no_later_world (line.Lose number ∷ lines) earlier later i e = nothing_in earlier later i e
no_later_world (line.Push number ∷ lines) earlier later i e = nothing_in earlier later i e
no_later_world (line.Progress number ∷ lines) earlier later i e = nothing_in earlier later i e
no_later_world (line.Deliver number ∷ lines) earlier later i e = nothing_in earlier later i e
no_later_world (line.Cut number ∷ lines) earlier later i e = nothing_in earlier later i e
no_later_world (line.Take p ticket ∷ lines) earlier later i e = nothing_in earlier later i e
no_later_world (line.Leave p ticket ∷ lines) earlier later i e = nothing_in earlier later i e
no_later_world (line.Expire lease ∷ lines) earlier later i e = nothing_in earlier later i e
no_later_world (line.Apply member revision ∷ lines) earlier later i e = nothing_in earlier later i e

-- ---- the compaction revision rises

choice : {A : Type 0} (P : A → Type 0) (b : Bool) (x y : A) → P x → P y → P (cond b x y)
choice P true x y f g = f
choice P false x y f g = g

abbrev PushKeeps : State → Pushed → Type 0
PushKeeps s k = s.compacted ≤ (after_push s k).compacted

itself : (n : ℕ) → n ≤ n
itself n = omega arith

pushed_rises : (s : State) (number : ℕ) → PushKeeps s (pushed s number)
unfolding pushed
pushed_rises s number = by (watch_of s number)
  where
    events : (w : OpenWatch) (es : List Event) → PushKeeps s (push_events s number w es)
    events w [] = itself s.compacted
    events w (e ∷ es) = itself s.compacted

    by : (o : Option OpenWatch) → PushKeeps s (for_watch number o (push_to s number))
    by None = itself s.compacted
    by (Some w) = choice (PushKeeps s) (w.next == 0) _ _ (itself s.compacted) (choice (PushKeeps s) (nat_lt w.next s.compacted) _ _ (itself s.compacted) (events w (events_for s w)))

progressed_rises : (s : State) (number : ℕ) → PushKeeps s (progressed s number)
unfolding progressed
progressed_rises s number = by (watch_of s number)
  where
    by : (o : Option OpenWatch) → PushKeeps s (for_watch number o (progress_to s number))
    by None = itself s.compacted
    by (Some w) = choice (PushKeeps s) (not w.ask.progress) _ _ (itself s.compacted) (choice (PushKeeps s) (is_synced s w) _ _ (itself s.compacted) (itself s.compacted))

message_rises : (s : State) (number : ℕ) (i : WatchItem) → PushKeeps s (message_by s number i)
message_rises s number (message.Created h) = pushed_rises s number
message_rises s number (message.Events h []) = progressed_rises s number
message_rises s number (message.Events h (e ∷ es)) = pushed_rises s number
message_rises s number (message.Canceled h compaction) = pushed_rises s number

expired_rises : (s : State) (lease : ℕ) → s.compacted ≤ (after_step s (expired s lease)).compacted
unfolding expired
expired_rises s lease = choice (λ (r : Result State StoreFault). s.compacted ≤ (after_step s r).compacted) (has_lease s.leases lease) _ _ (itself s.compacted) (itself s.compacted)

applied_rises : (s : State) (member revision : ℕ) → s.compacted ≤ (after_step s (applied s member revision)).compacted
unfolding applied
applied_rises s member revision =
    let P : Result State StoreFault → Type 0 = λ r. s.compacted ≤ (after_step s r).compacted in
    choice P (lacks_member s member) _ _ (itself s.compacted) (choice P (nat_lt revision (applied_by s member) || nat_lt (newest s.history) revision) _ _ (itself s.compacted) (itself s.compacted))

opened_rises : (s : State) (member : ℕ) (q : Request) → s.compacted ≤ (after_opening s member q).compacted
opened_rises s member (request.Watch ask) = itself s.compacted
opened_rises s member (request.Range ask) = itself s.compacted
opened_rises s member (request.Put ask) = itself s.compacted
opened_rises s member (request.Delete ask) = itself s.compacted
opened_rises s member (request.Txn ask) = itself s.compacted
opened_rises s member (request.Compact revision physical) = itself s.compacted
opened_rises s member (request.Grant ttl lease) = itself s.compacted
opened_rises s member (request.Revoke lease) = itself s.compacted
opened_rises s member (request.KeepAlive lease) = itself s.compacted
opened_rises s member (request.TimeToLive lease keys) = itself s.compacted
opened_rises s member request.Leases = itself s.compacted

called_rises : (s : State) (o : Option (ℕ × Request)) → s.compacted ≤ (after_call s o).compacted
called_rises s None = itself s.compacted
called_rises s (Some call) = compactions_rise s call.0 call.1

saw_rises : (s : Seen) (i : Item) → is_no_world i ≡ true → s.store.compacted ≤ (saw s i).store.compacted
saw_rises s (item.World members namespace leasing) e = absurd (cc)
saw_rises s (item.Sent p number member ticket q) e = itself s.store.compacted
saw_rises s (item.Executed number answer) e = called_rises s.store (sent_call s number)
saw_rises s (item.Opened p number member q) e = opened_rises s.store member q
saw_rises s (item.Pushed number i) e = message_rises s.store number i
saw_rises s (item.Expired lease) e = expired_rises s.store lease
saw_rises s (item.Applied member revision) e = applied_rises s.store member revision
saw_rises s _ e = itself s.store.compacted

pub all_rises : (s : Seen) (items : List Item) → list_all is_no_world items ≡ true → s.store.compacted ≤ (saw_all s items).store.compacted
all_rises s [] e = itself s.store.compacted
all_rises s (i ∷ items) e =
    let a = saw_rises s i (and_first (is_no_world i) (list_all is_no_world items) e) in
    let b = all_rises (saw s i) items (and_second (is_no_world i) (list_all is_no_world items) e) in
    omega (arith, a, b)
