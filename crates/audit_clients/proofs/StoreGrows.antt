-- What an item makes of the store: its history goes on, and its compaction revision doesn't fall.
use Rattle.std.proofs.Common.{◌≡◌, inl, inr, ℕ, ◌≤◌, nat_lt, Bool, true, false, cond, ◌||◌, List, [], ◌∷◌, ◌++◌, append-nil, Option, None, Some, Result, Ok, Err, refl, sym, ap, subst, arith}
use Rattle.etcd_types.specs.declared.request.Request.{Request}
use Rattle.etcd_types.specs.declared.request.Request.TheVariants as request
use Rattle.etcd_types.specs.declared.watch.WatchItem.{WatchItem}
use Rattle.etcd_types.specs.declared.watch.WatchItem.TheVariants as message
use Rattle.script_text.specs.declared.item.Item.{Item}
use Rattle.script_text.specs.declared.item.Item.TheVariants as item
use Rattle.store_laws.proofs.Events.LeavingProofs.{requests_leave_watches, expiries_leave_watches, applies_leave_watches, message_moves}
use Rattle.store_laws.proofs.Lives.CompactionProofs.{compactions_rise}
use Rattle.store_model.specs.declared.store_fault.StoreFault.{StoreFault}
use Rattle.store_model.specs.History.{History, newest}
use Rattle.store_model.specs.Leases.{expired}
use Rattle.store_model.specs.Members.{lacks_member, applied}
use Rattle.store_model.specs.State.{State, applied_by}
use Rattle.store_model.specs.Transactions.{has_lease}
use Rattle.store_model.specs.Watches.{Pushed, pushed, progressed}
use Rattle.world_model.specs.Answers.{Seen, after_call, after_opening, after_push, after_step, message_by, saw, saw_all, seen, sent_call}

pub record GoesOn (s t : State) : Type 0 where
  pub more : History
  pub history : t.history ≡ s.history ++ more
  pub compacted : s.compacted ≤ t.compacted

alike : (s t : State) → t.history ≡ s.history → t.compacted ≡ s.compacted → GoesOn s t
alike s t h c = record { more = []; history = subst (λ (x : History). t.history ≡ x) (sym (append-nil s.history)) h; compacted = omega (arith, c) }

itself : (s : State) → GoesOn s s
itself s = alike s s refl refl

choice : {A : Type 0} (P : A → Type 0) (b : Bool) (x y : A) → P x → P y → P (cond b x y)
choice P true x y p q = p
choice P false x y p q = q

called : (s : State) (o : Option (ℕ × Request)) → GoesOn s (after_call s o)
called s None = itself s
called s (Some call) =
    let g = (requests_leave_watches s call.0 call.1 0).grown in
    record { more = g.0; history = g.1; compacted = compactions_rise s call.0 call.1 }

opened : (s : State) (member : ℕ) (q : Request) → GoesOn s (after_opening s member q)
opened s member (request.Watch ask) = alike s _ refl refl
opened s member (request.Range ask) = itself s
opened s member (request.Put ask) = itself s
opened s member (request.Delete ask) = itself s
opened s member (request.Txn ask) = itself s
opened s member (request.Compact revision physical) = itself s
opened s member (request.Grant ttl lease) = itself s
opened s member (request.Revoke lease) = itself s
opened s member (request.KeepAlive lease) = itself s
opened s member (request.TimeToLive lease keys) = itself s
opened s member request.Leases = itself s

pushed_on : (s : State) (number : ℕ) (r : Pushed) → pushed s number ≡ r → GoesOn s (after_push s r)
pushed_on s number (Ok p) e =
    let m = message_moves s p.0 p.1 number (inl e) in
    alike s p.0 (sym (ap (λ (x : State). x.history) m.1)) (sym (ap (λ (x : State). x.compacted) m.1))
pushed_on s number (Err why) e = itself s

progressed_on : (s : State) (number : ℕ) (r : Pushed) → progressed s number ≡ r → GoesOn s (after_push s r)
progressed_on s number (Ok p) e =
    let m = message_moves s p.0 p.1 number (inr e) in
    alike s p.0 (sym (ap (λ (x : State). x.history) m.1)) (sym (ap (λ (x : State). x.compacted) m.1))
progressed_on s number (Err why) e = itself s

told_on : (s : State) (number : ℕ) (i : WatchItem) → GoesOn s (after_push s (message_by s number i))
told_on s number (message.Created h) = pushed_on s number (pushed s number) refl
told_on s number (message.Events h []) = progressed_on s number (progressed s number) refl
told_on s number (message.Events h (e ∷ es)) = pushed_on s number (pushed s number) refl
told_on s number (message.Canceled h compaction) = pushed_on s number (pushed s number) refl

expired_rises : (s : State) (lease : ℕ) → s.compacted ≤ (after_step s (expired s lease)).compacted
unfolding expired
expired_rises s lease = choice (λ (r : Result State StoreFault). s.compacted ≤ (after_step s r).compacted) (has_lease s.leases lease) _ _ (omega arith) (omega arith)

applied_rises : (s : State) (member revision : ℕ) → s.compacted ≤ (after_step s (applied s member revision)).compacted
unfolding applied
applied_rises s member revision =
    let P : Result State StoreFault → Type 0 = λ r. s.compacted ≤ (after_step s r).compacted in
    choice P (lacks_member s member) _ _ (omega arith) (choice P (nat_lt revision (applied_by s member) || nat_lt (newest s.history) revision) _ _ (omega arith) (omega arith))

expired_on : (s : State) (lease : ℕ) (r : Result State StoreFault) → expired s lease ≡ r → GoesOn s (after_step s r)
expired_on s lease (Ok t) e =
    let g = (expiries_leave_watches s t lease 0 e).grown in
    record { more = g.0; history = g.1; compacted = subst (λ (r : Result State StoreFault). s.compacted ≤ (after_step s r).compacted) e (expired_rises s lease) }
expired_on s lease (Err why) e = itself s

applied_on : (s : State) (member revision : ℕ) (r : Result State StoreFault) → applied s member revision ≡ r → GoesOn s (after_step s r)
applied_on s member revision (Ok t) e =
    let g = (applies_leave_watches s t member revision 0 e).grown in
    record { more = g.0; history = g.1; compacted = subst (λ (r : Result State StoreFault). s.compacted ≤ (after_step s r).compacted) e (applied_rises s member revision) }
applied_on s member revision (Err why) e = itself s

abbrev pub is_no_world : Item → Bool
is_no_world (item.World members namespace leasing) = false
is_no_world _ = true

pub saw_on : (s : Seen) (i : Item) → is_no_world i ≡ true → GoesOn s.store (saw s i).store
saw_on s (item.World members namespace leasing) l = absurd (cc)
saw_on s (item.Executed number answer) l = called s.store (sent_call s number)
saw_on s (item.Opened p number member q) l = opened s.store member q
saw_on s (item.Pushed number i) l = told_on s.store number i
saw_on s (item.Expired lease) l = expired_on s.store lease (expired s.store lease) refl
saw_on s (item.Applied member revision) l = applied_on s.store member revision (applied s.store member revision) refl
saw_on s i l = itself s.store

-- ---- the items

saw_more : (s : Seen) (items : List Item) (x : Item) → saw_all s (items ++ x ∷ []) ≡ saw (saw_all s items) x
saw_more s [] x = refl
saw_more s (i ∷ items) x = saw_more (saw s i) items x

pub seen_next : (items : List Item) (x : Item) → seen (items ++ x ∷ []) ≡ saw (seen items) x
seen_next items x = saw_more _ items x
