-- The headers that the store gives, of its answers and of its messages, are no newer than it is; and it stays sound.
use Rattle.std.proofs.Common.{◌≡◌, inl, inr, ℕ, zero, suc, ◌-◌, ◌≤◌, Bool, true, false, not, cond, ◌==◌, nat_le, nat_lt, List, [], ◌∷◌, ◌++◌, get_or, Option, None, Some, Ok, Err, refl, ap, subst, arith}
use Rattle.std.specs.List.{list_all}
use Rattle.std.proofs.lemmas.Bool.Decides.{nat_tests}
use Rattle.etcd_types.proofs.Bools.{and_first, and_second}
use Rattle.etcd_types.specs.declared.answer.Answer.TheVariants.{Done}
use Rattle.etcd_types.specs.declared.answer.Reply.{Reply}
use Rattle.etcd_types.specs.declared.request.Request.{Request}
use Rattle.etcd_types.specs.declared.watch.Event.{Event}
use Rattle.etcd_types.specs.declared.watch.WatchItem.{WatchItem}
use Rattle.core_model.specs.LeasingStream.{item_header}
use Rattle.core_model.specs.declared.event.CoreEvent.{CoreEvent}
use Rattle.core_model.specs.declared.event.Outcome.{Outcome}
use Rattle.script_text.specs.declared.item.Item.{Item}
use Rattle.store_model.specs.declared.watch.OpenWatch.{OpenWatch}
use Rattle.store_model.specs.History.{newest}
use Rattle.store_model.specs.State.{State, applied_by}
use Rattle.store_model.specs.Step.{exec}
use Rattle.store_model.specs.Watches.{Pushed, watch_of, for_watch, push_events, push_to, pushed as push_of, is_synced, progress_to, progressed, events_for}
use Rattle.store_laws.specs.Requests.Answered.{is_serializable}
use Rattle.store_laws.proofs.Requests.AnsweredProofs.{replies_tell_revisions}
use Rattle.store_laws.specs.Lives.Sound.{Sound}
use Rattle.store_laws.proofs.Lives.SoundProofs.{openings_keep_sound}
use Rattle.held_laws.proofs.Growing.{Grows, exec_leaves}
use Rattle.held_laws.proofs.Stories.{newest_front}
use Rattle.world_model.specs.Gains.{Replies}
use Rattle.world_model.specs.Places.{nth}
use Rattle.world_model.specs.Sends.{closed_in}
use Rattle.world_model.specs.State.{Place, OpenedStream, World}
use Rattle.world_laws.proofs.Effects.{Turn, ticks, asks_it, posts_it, calls, opens, closes, answers, loses, delivers, cuts, takes, waits, leaves, IsPushed}

-- ---- the history grows

pub grown : (s t : State) → Grows s t → newest s.history ≤ newest t.history
grown s t g = let l = newest_front s.history g.0 in let e : newest t.history ≡ newest (s.history ++ g.0) = ap newest g.1 in omega (arith, l, e)

-- ---- answers

each_up_to : (most : ℕ) (xs : List ℕ) (i : ℕ) → list_all (λ r. nat_le r most) xs ≡ true → get_or xs i 0 ≤ most
each_up_to most [] i h = omega arith
each_up_to most (x ∷ xs) zero h = let k = and_first (nat_le x most) (list_all (λ r. nat_le r most) xs) h in grind (arith, nat_tests, k)
each_up_to most (x ∷ xs) (suc i) h = each_up_to most xs i (and_second (nat_le x most) (list_all (λ r. nat_le r most) xs) h)

pub answer_up_to : (s : State) (member : ℕ) (q : Request) (reply : Reply) → Sound s → (exec s member q).1 ≡ Done reply → reply.header.revision ≤ newest (exec s member q).0.history
answer_up_to s member q reply h e = by (is_serializable q) (replies_tell_revisions s member q reply e).0
  where
    by : (b : Bool) → reply.header.revision ≡ cond b (applied_by s member) (newest (exec s member q).0.history) → reply.header.revision ≤ newest (exec s member q).0.history
    by true r =
        let k = each_up_to (newest s.history) s.applied (member - 1) h.applied in
        let g = grown s (exec s member q).0 (exec_leaves s member q).grown in
        omega (arith, k, g, r)
    by false r = omega (arith, r)

-- ---- messages

-- such a message's header is of the newest revision
abbrev IsNewest : State → Pushed → Type 0
IsNewest s (Ok p) = (item_header p.1).revision ≡ newest s.history
IsNewest s (Err why) = Unit {0}

either : (s : State) (b : Bool) (x y : Pushed) → IsNewest s x → IsNewest s y → IsNewest s (cond b x y)
either s true x y f g = f
either s false x y f g = g

events_newest : (s : State) (number : ℕ) (w : OpenWatch) (es : List Event) → IsNewest s (push_events s number w es)
events_newest s number w [] = tt
events_newest s number w (e ∷ es) = refl

push_newest : (s : State) (number : ℕ) (o : Option OpenWatch) → IsNewest s (for_watch number o (push_to s number))
push_newest s number None = tt
push_newest s number (Some w) = either s (w.next == 0) _ _ refl (either s (nat_lt w.next s.compacted) _ _ refl (events_newest s number w (events_for s w)))

progress_newest : (s : State) (number : ℕ) (o : Option OpenWatch) → IsNewest s (for_watch number o (progress_to s number))
progress_newest s number None = tt
progress_newest s number (Some w) = either s (not w.ask.progress) _ _ tt (either s (is_synced s w) _ _ refl tt)

pushed_newest : (s : State) (number : ℕ) → IsNewest s (push_of s number)
unfolding push_of
pushed_newest s number = push_newest s number (watch_of s number)

progressed_newest : (s : State) (number : ℕ) → IsNewest s (progressed s number)
unfolding progressed
progressed_newest s number = progress_newest s number (watch_of s number)

pub message_is_newest : (s t : State) (number : ℕ) (i : WatchItem) → IsPushed s number t i → (item_header i).revision ≡ newest s.history
message_is_newest s t number i (inl e) = subst (IsNewest s) e (pushed_newest s number)
message_is_newest s t number i (inr e) = subst (IsNewest s) e (progressed_newest s number)

-- ---- sound stores

closed_sound : (w : World) (number : ℕ) (o : Option OpenedStream) → Sound w.store → Sound (closed_in w number o).store
closed_sound w number None h = h
closed_sound w number (Some s) h = h

pub turn_sound : (w : World) (p : ℕ) (x : Place) (e : CoreEvent) (o : Outcome) (v : World) (y : Place) (own : List Item) (told : Replies) → Turn w p x e o v y own told → Sound w.store → Sound v.store
turn_sound w p x _ _ _ _ _ _ (ticks o) h = h
turn_sound w p x _ _ _ _ _ _ (asks_it ticket q o n) h = h
turn_sound w p x _ _ _ _ _ _ (posts_it ticket path body q o n) h = h
turn_sound w p x _ _ _ _ _ _ (calls own member ticket q) h = h
turn_sound w p x _ _ _ _ _ _ (opens own member ask) h = openings_keep_sound w.store member ask h
turn_sound w p x _ _ _ _ _ _ (closes own number e) h = closed_sound w number (nth w.streams number) h
turn_sound w p x _ _ _ _ _ _ (answers number call a o e f) h = h
turn_sound w p x _ _ _ _ _ _ (loses number call o e) h = h
turn_sound w p x _ _ _ _ _ _ (delivers number s i rest o e f g k l) h = h
turn_sound w p x _ _ _ _ _ _ (cuts number s o e f g k) h = h
turn_sound w p x _ _ _ _ _ _ (takes ticket i) h = h
turn_sound w p x _ _ _ _ _ _ (waits ticket o n) h = h
turn_sound w p x _ _ _ _ _ _ (leaves ticket o) h = h
