-- What each part of a step leaves, put together from what its calls tell.
use Rattle.std.proofs.Common.{◌≡◌, ℕ, ◌+◌, ◌<◌, ◌^◌, ◌++◌, false, List, [], ◌∷◌, take, length, Result, Ok, refl, sym, ap, ◌∙◌, subst, arith}
use Rattle.etcd_types.specs.declared.request.Request.{Request}
use Rattle.etcd_types.specs.declared.request.WatchAsk.{WatchAsk}
use Rattle.etcd_types.specs.declared.answer.Answer.{Answer}
use Rattle.etcd_types.specs.declared.watch.WatchItem.{WatchItem}
use Rattle.store_model.specs.declared.store_fault.StoreFault.{StoreFault}
use Rattle.store_model.specs.History.{newest}
use Rattle.store_model.specs.State.{State, HasMember}
use Rattle.store_model.specs.Leases.{expired}
use Rattle.store_model.specs.Members.{applied}
use Rattle.store_model.specs.Step.{exec}
use Rattle.store_model.specs.Watches.{Pushed, opened, pushed}
use Rattle.store_world.specs.declared.store.Store.{Store}
use Rattle.store_world.specs.Store.{Stands, Takes, Opens}
use Rattle.store_world.specs.Faults.{StepsTo as Leads, Gives, IsFault}
use Rattle.store_world.proofs.Stores.{states_agree}
use Rattle.shop_model.specs.declared.event.StoreOutcome.{StoreOutcome}
use Rattle.shop_model.specs.declared.event.StoreOutcome.TheVariants as outcome
use Rattle.shop_model.specs.declared.event.StoreStepFault.{StoreStepFault}
use Rattle.shop_model.specs.Deadlines.{without_deadline, due}
use Rattle.shop_model.specs.Shop.{Shop, taken, lease_ended, all_ended, caught_up}
use Rattle.shop_model.specs.Steps.{deadlines_after, with_answer, with_opened, with_pushed}
use Rattle.store_machine.specs.declared.deadlines.Deadlines.{Deadlines}
use Rattle.store_machine.specs.declared.kept.Kept.{Kept}
use Rattle.store_machine.specs.Rows.{rows}
use Rattle.store_machine.specs.Holding.{Holds, HasRoom, EndedSome, Acts, is_wanting, answer_to}
use Rattle.store_machine.proofs.Room.{room_after, expired_spends, applied_spends}
use Rattle.store_machine.proofs.Steps.{taken_so, refused_so, unpushed_so, acts_as, ends_one_more, ended_front, due_of}

-- ---- room

pub few_revisions : (store : Store) → HasRoom store → (s : State) → Stands store s → newest s.history < 2 ^ 63
few_revisions store room s stands = let few = room s stands in omega (arith, few)

pub first_member : (store : Store) (s : State) → Stands store s → HasMember s 1
first_member store s stands = let some = (states_agree store s s stands stands).some in (omega arith, omega (arith, some))

-- the same store by another name
pub room_of : (store store' : Store) → store' ≡ store → HasRoom store → HasRoom store'
room_of store store' e room = subst HasRoom (sym e) room

-- ---- a lease's end, and an applied revision

pub expiry_took : (store store' : Store) (lease : ℕ) → ((s : State) → Stands store s → Leads store' (expired s lease)) → (s : State) → Stands store s → Stands store' (taken s (expired s lease))
expiry_took store store' lease leads s stands = taken_so store' s (expired s lease) (leads s stands)

pub expiry_refused : (store store' : Store) (lease : ℕ) (fault : StoreFault) → store' ≡ store → is_wanting fault ≡ false → ((s : State) → Stands store s → IsFault fault (expired s lease))
    → (s : State) → Stands store s → Stands store' (taken s (expired s lease))
expiry_refused store store' lease fault e known is s stands =
    subst (λ (x : Store). Stands x (taken s (expired s lease))) (sym e) (refused_so store s fault (expired s lease) known (is s stands) stands)

pub expiry_room : (store store' : Store) (lease : ℕ) → HasRoom store → ((s : State) → Stands store s → Stands store' (taken s (expired s lease))) → HasRoom store'
expiry_room store store' lease room leads = room_after store store' (λ s. taken s (expired s lease)) room leads (expired_spends lease)

pub apply_took : (store store' : Store) (revision : ℕ) → ((s : State) → Stands store s → revision ≡ newest s.history) → ((s : State) → Stands store s → Leads store' (applied s 1 revision))
    → (s : State) → Stands store s → Stands store' (taken s (applied s 1 (newest s.history)))
apply_took store store' revision is leads s stands =
    subst (λ (r : ℕ). Stands store' (taken s (applied s 1 r))) (is s stands) (taken_so store' s (applied s 1 revision) (leads s stands))

pub apply_refused : (store store' : Store) (revision : ℕ) (fault : StoreFault) → store' ≡ store → is_wanting fault ≡ false → ((s : State) → Stands store s → revision ≡ newest s.history)
    → ((s : State) → Stands store s → IsFault fault (applied s 1 revision)) → (s : State) → Stands store s → Stands store' (taken s (applied s 1 (newest s.history)))
apply_refused store store' revision fault e known newest_is is s stands =
    subst (λ (r : ℕ). Stands store' (taken s (applied s 1 r))) (newest_is s stands)
    (subst (λ (x : Store). Stands x (taken s (applied s 1 revision))) (sym e) (refused_so store s fault (applied s 1 revision) known (is s stands) stands))

pub apply_room : (store store' : Store) → HasRoom store → ((s : State) → Stands store s → Stands store' (taken s (applied s 1 (newest s.history)))) → HasRoom store'
apply_room store store' room leads = room_after store store' (λ s. taken s (applied s 1 (newest s.history))) room leads applied_spends

-- ---- the parts

-- with the same store and the same deadlines by other names
pub holds_with : (kept : Kept) (store : Store) (ds : Deadlines) (s : Shop) → store ≡ kept.store → rows ds ≡ rows kept.deadlines → Holds kept s → Holds (record kept { store = store; deadlines = ds }) s
holds_with kept store ds s e f h = record { store = subst (λ (x : Store). Stands x s.store) (sym e) h.store; deadlines = h.deadlines ∙ sym f }

pub lease_end : (kept : Kept) (store : Store) (ds : Deadlines) (n : ℕ) (s : Shop) → ((t : State) → Stands kept.store t → Stands store (taken t (expired t n))) → rows ds ≡ without_deadline n (rows kept.deadlines)
    → Holds kept s → Holds (record kept { store = store; deadlines = ds }) (lease_ended n s)
lease_end kept store ds n s leads e h = record { store = leads s.store h.store; deadlines = ap (without_deadline n) h.deadlines ∙ sym e }

pub caught : (kept : Kept) (store : Store) (s : Shop) → ((t : State) → Stands kept.store t → Stands store (taken t (applied t 1 (newest t.history)))) → Holds kept s
    → Holds (record kept { store = store }) (caught_up s)
caught kept store s leads h = record { store = leads s.store h.store; deadlines = h.deadlines }

-- one more of the leases that are due has ended
pub one_more_ended : (kept : Kept) (numbers : List ℕ) (i n : ℕ) (s : Shop) → i < length numbers → take (i + 1) numbers ≡ take i numbers ++ n ∷ [] → Holds kept (lease_ended n (all_ended (take i numbers) s))
    → Holds kept (all_ended (take (i + 1) numbers) s)
one_more_ended kept numbers i n s few e h = subst (λ (l : List ℕ). Holds kept (all_ended l s)) (sym e) (ends_one_more kept (take i numbers) n s h)

pub ended_up_to : (now : ℕ) (s : Shop) (first kept : Kept) (i : ℕ) (numbers : List ℕ) → numbers ≡ due now (rows first.deadlines) → Holds first s → Holds kept (all_ended (take i numbers) s) → EndedSome now s kept
ended_up_to now s first kept i numbers e h all = ended_front now s kept i numbers (e ∙ due_of now s first h) all

pub ended_each : (now : ℕ) (s : Shop) (first kept : Kept) (numbers some : List ℕ) → numbers ≡ due now (rows first.deadlines) → some ≡ numbers → Holds first s → Holds kept (all_ended some s)
    → Holds kept (all_ended (due now s.deadlines) s)
ended_each now s first kept numbers some e f h all = subst (λ (l : List ℕ). Holds kept (all_ended l s)) (f ∙ e ∙ due_of now s first h) all

pub executed_so : (kept : Kept) (store : Store) (ds ds' : Deadlines) (now : ℕ) (q : Request) (answer : Answer) (s : Shop) → ((t : State) → Stands kept.store t → Takes store answer (exec t 1 q))
    → rows ds ≡ rows kept.deadlines → rows ds' ≡ deadlines_after now q answer (rows ds) → Holds kept s
    → Acts (record kept { store = store; deadlines = ds' }) (Ok (outcome.Answer answer)) (with_answer now q s (exec s.store 1 q))
executed_so kept store ds ds' now q answer s takes e f h =
    let t = takes s.store h.store in
    let same : s.deadlines ≡ rows ds = h.deadlines ∙ sym e in (
      record {
        store = t.state;
        deadlines = ap (λ (a : Answer). deadlines_after now q a s.deadlines) (sym t.answered) ∙ ap (deadlines_after now q answer) same ∙ sym f;
      },
      ap (λ (a : Answer). Ok (outcome.Answer a)) t.answered,
    )

pub opened_so : (kept : Kept) (store : Store) (ask : WatchAsk) (n : ℕ) (s : Shop) → ((t : State) → Stands kept.store t → Opens store n (opened t 1 ask)) → Holds kept s
    → Acts (record kept { store = store }) (Ok (outcome.Opened n)) (with_opened s (opened s.store 1 ask))
opened_so kept store ask n s opens h =
    let t = opens s.store h.store in
    (record { store = t.state; deadlines = h.deadlines }, ap (λ (m : ℕ). Ok (outcome.Opened m)) t.numbered)

given_so : (kept : Kept) (n : ℕ) (s : Shop) (item : WatchItem) (p : Pushed) (a : Result StoreOutcome StoreStepFault) (t : State) → p ≡ Ok (t, item) → a ≡ Ok (outcome.Item item)
    → Holds kept (record { store = t; deadlines = s.deadlines }) → Acts kept a (with_pushed n s p)
given_so kept n s item p a t e b h = subst (λ (x : Pushed). Acts kept a (with_pushed n s x)) (sym e) (h, b)

pub pushed_so : (kept : Kept) (store : Store) (n : ℕ) (item : WatchItem) (s : Shop) → ((t : State) → Stands kept.store t → Gives store item (pushed t n)) → Holds kept s
    → Acts (record kept { store = store }) (Ok (outcome.Item item)) (with_pushed n s (pushed s.store n))
pushed_so kept store n item s gives h =
    let t = gives s.store h.store in
    given_so (record kept { store = store }) n s item (pushed s.store n) (Ok (outcome.Item item)) t.0 t.1 refl (record { store = t.2; deadlines = h.deadlines })

pub not_pushed_so : (kept : Kept) (store : Store) (n : ℕ) (fault : StoreFault) (a : Result StoreOutcome StoreStepFault) (s : Shop) → store ≡ kept.store → is_wanting fault ≡ false
    → ((t : State) → Stands kept.store t → IsFault fault (pushed t n)) → a ≡ answer_to n fault → Holds kept s → Acts (record kept { store = store }) a (with_pushed n s (pushed s.store n))
not_pushed_so kept store n fault a s e known is b h =
    acts_as (record kept { store = store }) s a (with_pushed n s (pushed s.store n)) (unpushed_so n s (pushed s.store n) fault a known (is s.store h.store) b)
    (holds_with kept store kept.deadlines s e refl h)
