-- What a step of a proxy gives to it: header revisions that are at most that of its cached header behind the step; and the header that it
-- takes in is no newer than the store.
use Rattle.std.proofs.Common.{◌≡◌, ℕ, ◌≤◌, Bool, true, false, cond, ◌==◌, nat_le, List, [], ◌∷◌, ◌++◌, append-nil, length, slice_get, filter, Option, None, Some, Ok, refl, sym, ◌∙◌, ap, subst, arith}
use Rattle.std.specs.List.{list_all}
use Rattle.std.proofs.lemmas.Bool.Decides.{nat_tests}
use Rattle.std.proofs.lemmas.List.Folds.{list_all-append}
use Rattle.etcd_types.proofs.Bools.{and_both}
use Rattle.etcd_types.specs.declared.answer.Answer.{Answer}
use Rattle.etcd_types.specs.declared.answer.Answer.TheVariants.{Done, Refused}
use Rattle.etcd_types.specs.declared.request.Request.TheVariants as request
use Rattle.etcd_types.specs.declared.watch.WatchItem.{WatchItem}
use Rattle.core_model.specs.declared.event.CoreEvent.{CoreEvent}
use Rattle.core_model.specs.declared.event.CoreEvent.TheVariants as event
use Rattle.core_model.specs.declared.event.Outcome.{Outcome}
use Rattle.core_model.specs.LeasingStream.{item_header}
use Rattle.core_model.specs.Step.{stepped}
use Rattle.core_laws.proofs.Steps.Lists.{all_kept, number_itself}
use Rattle.script_text.specs.declared.item.Item.{Item}
use Rattle.script_text.specs.declared.item.Item.TheVariants as item
use Rattle.store_model.specs.History.{newest}
use Rattle.world_model.specs.declared.sent_call.SentCall.{SentCall}
use Rattle.world_model.specs.Gains.{Replies}
use Rattle.world_model.specs.Lives.{begins, sent_it, executed_to, opened_it, next_message, delivers}
use Rattle.world_model.specs.Places.{nth}
use Rattle.world_model.specs.Reads.{answer_revisions, message_revisions, given_by, given}
use Rattle.world_model.specs.Sends.{next_call, next_stream}
use Rattle.world_model.specs.State.{Place, OpenedStream, World}
use Rattle.world_laws.proofs.Effects.{Turn, ticks, asks_it, posts_it, calls, opens, closes, answers, loses, delivers as delivers_it, cuts, takes, waits, leaves}
use Rattle.renewed_laws.proofs.Gains.{is_other, stepped_to}
use Rattle.renewed_laws.proofs.Worlds.{answer_by}
use Rattle.truth_laws.proofs.Facts.{told_of, opener_of, sender_of, waits_in, Facts}
use Rattle.truth_laws.proofs.Headers.{revision_of, TakesIn, header_taken_in}
use Rattle.truth_laws.proofs.Telling.{given-append, TellsNothing, nothing-append, ticked_nothing, asked_nothing, posted_nothing, lost_nothing, cut_nothing, closed_nothing, pending_nothing, left_nothing, taken_nothing}

-- ---- lists of revisions

abbrev pub AreUpTo : ℕ → List ℕ → Type 0
AreUpTo most rs = list_all (λ r. nat_le r most) rs ≡ true

le_test : (r most : ℕ) → r ≤ most → nat_le r most ≡ true
le_test r most l = grind (arith, nat_tests, l)

test_le : (r most : ℕ) → nat_le r most ≡ true → r ≤ most
test_le r most l = grind (arith, nat_tests, l)

pub up_to_more : (most more : ℕ) (rs : List ℕ) → most ≤ more → AreUpTo most rs → AreUpTo more rs
up_to_more most more rs l h = all_kept (λ r. nat_le r most) (λ r. nat_le r more) (λ r e. le_test r more (let k = test_le r most e in omega (arith, k, l))) rs h

pub up_to-append : (most : ℕ) (rs qs : List ℕ) → AreUpTo most rs → AreUpTo most qs → AreUpTo most (rs ++ qs)
up_to-append most rs qs h k = list_all-append (λ r. nat_le r most) rs qs ∙ and_both (list_all (λ r. nat_le r most) rs) (list_all (λ r. nat_le r most) qs) h k

-- ---- what a step of a proxy gives

-- the items give nothing to another proxy, and to this one nothing above `most`
pub record Gives (p most : ℕ) (items own : List Item) : Type 0 where
  pub others : (q : ℕ) → (q == p) ≡ false → given q (items ++ own) ≡ given q items
  pub more : List ℕ
  pub itself : given p (items ++ own) ≡ given p items ++ more
  pub few : AreUpTo most more

pub nothing_given : (q : ℕ) (items own : List Item) → TellsNothing own → given q (items ++ own) ≡ given q items
nothing_given q items own n = given-append q [] items own [] ∙ n.gives q items (given q items)

nothing_gives : (p most : ℕ) (items own : List Item) → TellsNothing own → Gives p most items own
nothing_gives p most items own n = record { others = λ q d. nothing_given q items own n; more = []; itself = nothing_given p items own n ∙ sym (append-nil (given p items)); few = refl }

-- by one item that begins no life
nothing_givene : (q : ℕ) (items : List Item) (i : Item) → begins q i ≡ false → given q (items ++ i ∷ []) ≡ given q items ++ given_by q items i
nothing_givene q items i b = given-append q [] items (i ∷ []) [] ∙ ap (λ c. cond c [] (given q items ++ given_by q items i)) b

-- where it gives nothing to others
one_gives : (p most : ℕ) (items : List Item) (i : Item) → ((q : ℕ) → begins q i ≡ false) → ((q : ℕ) → (q == p) ≡ false → given_by q items i ≡ []) → AreUpTo most (given_by p items i) → Gives p most items (i ∷ [])
one_gives p most items i b n h = record {
  others = λ q d. nothing_givene q items i (b q) ∙ ap (λ (rs : List ℕ). given q items ++ rs) (n q d) ∙ append-nil (given q items);
  more = given_by p items i;
  itself = nothing_givene p items i (b p);
  few = h;
}

same_number_as : (p q : ℕ) → Some p ≡ Some q → p ≡ q
same_number_as p q e = cc

not_other : {A : Type 0} (p q : ℕ) → (q == p) ≡ false → p ≡ q → A
not_other p q n e = absurd (let t : (q == p) ≡ true = ap (λ (k : ℕ). q == k) e ∙ number_itself q in let no_way : true ≡ false = sym t ∙ n in cc)

-- an answer is heard
pub answered_gives : (w : World) (items : List Item) (number : ℕ) (call : SentCall) (a : Answer) (most : ℕ) → Facts items (told_of w) → nth w.calls number ≡ Some call → call.executed ≡ Some a → TakesIn most (event.Answer call.own a)
    → Gives call.proxy most items (item.Answered number ∷ [])
answered_gives w items number call a most h at there taken = one_gives call.proxy most items (item.Answered number) (λ q. refl) (λ q d. by_other q d (sent_it q number items) refl) (by_itself (sent_it call.proxy number items))
  where
    sender : sender_of (nth w.calls number) ≡ Some call.proxy
    sender = ap sender_of at

    by_other : (q : ℕ) → (q == call.proxy) ≡ false → (b : Bool) → sent_it q number items ≡ b → cond b (answer_revisions (executed_to number items)) [] ≡ []
    by_other q d false s = refl
    by_other q d true s = not_other call.proxy q d (same_number_as call.proxy q (sym sender ∙ h.sent q number s))

    by_answer : (x : Answer) → Some a ≡ Some x → TakesIn most (event.Answer call.own x) → AreUpTo most (answer_revisions (Some x))
    by_answer (Done reply) e t = and_both (nat_le reply.header.revision most) true (le_test reply.header.revision most t) refl
    by_answer (Refused r) e t = refl

    same_answer : (x y : Answer) → Some x ≡ Some y → x ≡ y
    same_answer x y e = cc

    by_executed : (o : Option Answer) → executed_to number items ≡ o → AreUpTo most (answer_revisions o)
    by_executed None e = refl
    by_executed (Some x) e =
        let same : Some a ≡ Some x = sym there ∙ sym (ap answer_by at) ∙ h.executed number x e in
        by_answer x same (subst (λ (z : Answer). TakesIn most (event.Answer call.own z)) (same_answer a x same) taken)

    by_itself : (b : Bool) → AreUpTo most (cond b (answer_revisions (executed_to number items)) [])
    by_itself false = refl
    by_itself true = by_executed (executed_to number items) refl

-- a message is heard

get_behind : {A : Type 0} (xs ys : List A) (y : A) (k : ℕ) → length xs ≡ k → slice_get (xs ++ y ∷ ys) k ≡ Some y
get_behind xs ys y k e = ap (slice_get (xs ++ y ∷ ys)) (sym e) ∙ by xs
  where
    by : (zs : List _) → slice_get (zs ++ y ∷ ys) (length zs) ≡ Some y
    by [] = refl
    by (z ∷ zs) = by zs

delivered_gives : (w : World) (items : List Item) (p number : ℕ) (s : OpenedStream) (i : WatchItem) (rest : List WatchItem) (most : ℕ) → Facts items (told_of w) → nth w.streams number ≡ Some s → s.proxy ≡ p → s.ended ≡ false
    → s.waiting ≡ i ∷ rest → (item_header i).revision ≤ most → Gives p most items (item.Delivered number ∷ [])
delivered_gives w items p number s i rest most h at own goes_on there l = one_gives p most items (item.Delivered number) (λ q. refl) (λ q d. by_other q d (opened_it q number items) refl) (by_itself (opened_it p number items))
  where
    opener : opener_of (nth w.streams number) ≡ Some p
    opener = ap opener_of at ∙ ap (λ (k : ℕ). Some k) own

    by_other : (q : ℕ) → (q == p) ≡ false → (b : Bool) → opened_it q number items ≡ b → cond b (message_revisions (next_message number items)) [] ≡ []
    by_other q d false o = refl
    by_other q d true o = not_other p q d (same_number_as p q (sym opener ∙ h.opened q number o))

    next_is : next_message number items ≡ Some i
    next_is =
        let q = h.queued number (i ∷ rest) (ap waits_in at ∙ ap (λ b. cond b None (Some s.waiting)) goes_on ∙ ap (λ (l : List WatchItem). Some l) there) in
        ap (λ (l : List WatchItem). slice_get l (length (filter (delivers number) items))) q.pushed ∙ get_behind q.taken rest i (length (filter (delivers number) items)) q.count

    by_itself : (b : Bool) → AreUpTo most (cond b (message_revisions (next_message number items)) [])
    by_itself false = refl
    by_itself true = subst (λ (o : Option WatchItem). AreUpTo most (message_revisions o)) (sym next_is) (and_both (nat_le (item_header i).revision most) true (le_test (item_header i).revision most l) refl)

-- these give nothing, though they tell of calls and streams
pub other_given : (q : ℕ) (items : List Item) (i : Item) → begins q i ≡ false → given_by q items i ≡ [] → given q (items ++ i ∷ []) ≡ given q items
other_given q items i b n = nothing_givene q items i b ∙ ap (λ (rs : List ℕ). given q items ++ rs) n ∙ append-nil (given q items)

-- ---- each step of a proxy, but for an answer

-- the answer that is heard is no newer than the store
pub answer_takes : (w : World) (items : List Item) (number : ℕ) (call : SentCall) (a : Answer) → Facts items (told_of w) → nth w.calls number ≡ Some call → call.executed ≡ Some a → TakesIn (newest w.store.history) (event.Answer call.own a)
answer_takes w items number call (Done reply) h at there = h.answers number reply (ap answer_by at ∙ there)
answer_takes w items number call (Refused r) h at there = tt

pub turn_gives : (w : World) (items rest : List Item) (p : ℕ) (x : Place) (e : CoreEvent) (o : Outcome) (v : World) (y : Place) (own : List Item) (told : Replies) → Facts items (told_of w) → (stepped x.core e x.clock).outcome ≡ Ok o
    → Turn w p (stepped_to x e) e o v y own told → is_other (own ++ rest) ≡ true → Gives p (revision_of (stepped x.core e x.clock).core) items own
turn_gives w items rest p x _ _ _ _ _ _ h is (ticks o) other = nothing_gives p _ items _ (ticked_nothing p)
turn_gives w items rest p x _ _ _ _ _ _ h is (asks_it ticket q o n) other = nothing_gives p _ items _ (asked_nothing p ticket q)
turn_gives w items rest p x _ _ _ _ _ _ h is (posts_it ticket path body q o n) other =
    nothing_gives p _ items _ (nothing-append (item.Posted p ticket path body ∷ []) (item.Asked p ticket q ∷ []) (posted_nothing p ticket path body) (asked_nothing p ticket q))
turn_gives w items rest p x _ _ _ _ _ _ h is (calls own member ticket q) other = one_gives p _ items (item.Sent p (next_call w) member ticket q) (λ r. refl) (λ r d. refl) refl
turn_gives w items rest p x _ _ _ _ _ _ h is (opens own member ask) other = one_gives p _ items (item.Opened p (next_stream w) member (request.Watch ask)) (λ r. refl) (λ r d. refl) refl
turn_gives w items rest p x _ _ _ _ _ _ h is (closes own number e) other = nothing_gives p _ items _ (closed_nothing p number)
turn_gives w items rest p x _ _ _ _ _ _ h is (answers number call a o e f) other = absurd (cc)
turn_gives w items rest p x _ _ _ _ _ _ h is (loses number call o e) other = nothing_gives p _ items _ (lost_nothing number)
turn_gives w items rest p x _ _ _ _ _ _ h is (delivers_it number s i more o at own goes_on lived there) other =
    delivered_gives w items p number s i more _ h at own goes_on there (header_taken_in x.core (event.Item s.own i) x.clock o is)
turn_gives w items rest p x _ _ _ _ _ _ h is (cuts number s o at own goes_on lived) other = nothing_gives p _ items _ (cut_nothing number)
turn_gives w items rest p x _ _ _ _ _ _ h is (takes ticket i) other = nothing_gives p _ items _ (taken_nothing p x.posted ticket i)
turn_gives w items rest p x _ _ _ _ _ _ h is (waits ticket o n) other = nothing_gives p _ items _ (pending_nothing p ticket)
turn_gives w items rest p x _ _ _ _ _ _ h is (leaves ticket o) other = nothing_gives p _ items _ (left_nothing p ticket)

-- and takes in no header that is newer than the store
pub turn_takes : (w : World) (items : List Item) (p : ℕ) (x : Place) (e : CoreEvent) (o : Outcome) (v : World) (y : Place) (own : List Item) (told : Replies) → Facts items (told_of w) → Turn w p x e o v y own told
    → TakesIn (newest w.store.history) e
turn_takes w items p x _ _ _ _ _ _ h (ticks o) = tt
turn_takes w items p x _ _ _ _ _ _ h (asks_it ticket q o n) = tt
turn_takes w items p x _ _ _ _ _ _ h (posts_it ticket path body q o n) = tt
turn_takes w items p x _ _ _ _ _ _ h (calls own member ticket q) = tt
turn_takes w items p x _ _ _ _ _ _ h (opens own member ask) = tt
turn_takes w items p x _ _ _ _ _ _ h (closes own number e) = tt
turn_takes w items p x _ _ _ _ _ _ h (answers number call a o at there) = answer_takes w items number call a h at there
turn_takes w items p x _ _ _ _ _ _ h (loses number call o e) = tt
turn_takes w items p x _ _ _ _ _ _ h (delivers_it number s i more o at own goes_on lived there) =
    (h.messages number (i ∷ more) (ap waits_in at ∙ ap (λ b. cond b None (Some s.waiting)) goes_on ∙ ap (λ (l : List WatchItem). Some l) there)).0
turn_takes w items p x _ _ _ _ _ _ h (cuts number s o at own goes_on lived) = tt
turn_takes w items p x _ _ _ _ _ _ h (takes ticket i) = tt
turn_takes w items p x _ _ _ _ _ _ h (waits ticket o n) = tt
turn_takes w items p x _ _ _ _ _ _ h (leaves ticket o) = tt
