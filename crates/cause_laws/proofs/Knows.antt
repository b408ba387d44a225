-- What is known of a proxy by the items and by the numbers that its calls have among all: each revoke call that is out for a write names the
-- write's ticket; what the proxy has seen it was given, and each call that is out was sent behind what it had seen. Each step of the proxy keeps
-- it, and each fetch.
use Rattle.std.proofs.Common.{◌≡◌, ◌⊎◌, inl, inr, ℕ, zero, suc, ◌+◌, ◌≤◌, ◌==◌, nat_lt, Bool, true, false, cond, ◌&&◌, ◌||◌, List, [], ◌∷◌, ◌++◌, append-nil, length, slice_get, filter, Option, None, Some, Result, Ok, Err, refl, sym, ◌∙◌, ap, subst, arith}
use Rattle.std.specs.List.{list_any}
use Rattle.std.proofs.lemmas.Bool.Decides.{nat_tests}
use Rattle.std.proofs.lemmas.List.Folds.{list_any-append}
use Rattle.etcd_types.specs.declared.answer.Answer.{Answer}
use Rattle.etcd_types.specs.declared.answer.Answer.TheVariants.{Done, Refused}
use Rattle.etcd_types.specs.declared.watch.WatchItem.{WatchItem}
use Rattle.etcd_types.specs.declared.request.Request.{Request}
use Rattle.etcd_types.specs.declared.request.Request.TheVariants as request
use Rattle.proxy_model.specs.Wrapped.{request_under}
use Rattle.core_model.specs.declared.event.CoreEvent.{CoreEvent}
use Rattle.core_model.specs.declared.event.CoreEvent.TheVariants as event
use Rattle.core_model.specs.declared.event.Job.TheVariants as job
use Rattle.core_model.specs.declared.event.Outcome.{Outcome}
use Rattle.core_model.specs.declared.event.Outcome.TheVariants as outcome
use Rattle.core_model.specs.declared.event.StepFault.{StepFault}
use Rattle.core_model.specs.declared.settings.Settings.{Settings}
use Rattle.core_model.specs.declared.out_call.OutCall.{OutCall}
use Rattle.core_model.specs.ClockWork.{clock_work}
use Rattle.core_model.specs.LeasingStream.{item_header}
use Rattle.core_model.specs.Sending as sending
use Rattle.core_model.specs.State.{Core, first_core}
use Rattle.core_model.specs.Step.{stepped}
use Rattle.core_model.specs.Takes.{ready}
use Rattle.core_laws.specs.Steps.Kept.{IsHeard}
use Rattle.core_laws.proofs.Steps.Lists.{number_itself}
use Rattle.core_laws.proofs.Steps.Stepping.{steps_keep}
use Rattle.core_fits.specs.Fits.{EachOf}
use Rattle.core_fits.proofs.Eachs.{each_kept}
use Rattle.core_fits.proofs.Fit.{fits_step}
use Rattle.owner_fits.proofs.Runs.{steps_fit}
use Rattle.out_laws.proofs.Lists.{of_each}
use Rattle.script_text.specs.declared.item.Item.{Item}
use Rattle.script_text.specs.declared.item.Item.TheVariants as item
use Rattle.world_model.specs.Gains.{Replies, with_reply, fetched_as, fetched_if, fetched, all_fetched}
use Rattle.world_model.specs.Lives.{begins, is_call_of, sent_it, executed_to, opened_it, next_message}
use Rattle.world_model.specs.Lives as lives
use Rattle.world_model.specs.Places.{nth, with_core}
use Rattle.world_model.specs.Reads.{answer_revisions, message_revisions, given_by, given}
use Rattle.world_model.specs.Sends.{next_call}
use Rattle.world_model.specs.State.{Place, OpenedStream, World}
use Rattle.world_laws.proofs.Effects.{Turn, ticks, asks_it, posts_it, calls, opens, closes, answers, loses, delivers, cuts, takes, waits, leaves}
use Rattle.held_laws.proofs.Opens.{last_nth}
use Rattle.prefix_laws.proofs.Places.{fetched_so}
use Rattle.renewed_laws.proofs.Calls.{Counts, work_counts, other_counts}
use Rattle.renewed_laws.proofs.Gains.{is_other, stepped_to}
use Rattle.session_laws.proofs.Calls.{is_sent_by}
use Rattle.session_laws.proofs.Worlds.{CallsTold}
use Rattle.truth_laws.proofs.Facts.{told_of, waits_in, Facts}
use Rattle.truth_laws.proofs.Telling.{given-append}
use Rattle.executed_laws.proofs.OwnSends.{IsAsking}
use Rattle.executed_laws.proofs.Turns.{begin_no_call, close_no_call}
use Rattle.cause_laws.specs.Causes.{is_call_for}
use Rattle.cause_laws.proofs.Asking.{AllAsking, asks_stepped}
use Rattle.cause_laws.proofs.Items.{or_true, any_front, any_behind}
use Rattle.cause_laws.proofs.Seen.{Reaches, reaches_on, before_new, Grow, IsGiven, given_on, GivesIt, Fit, seen_step, out_quiet, out_sent, new_sees, nth_end}

-- this call of the proxy names this ticket
abbrev pub NamesIt : List Item → ℕ → List ℕ → ℕ → ℕ → Type 0
NamesIt items p numbers ticket call = (number : ℕ) × (nth numbers call ≡ Some number) × (list_any (is_call_for p ticket number) items ≡ true)

pub record Knows (items : List Item) (p : ℕ) (numbers : List ℕ) (c : Core) : Type 0 where
  pub asking : AllAsking (NamesIt items p numbers) c
  pub seen : Reaches (given p items) c.members.seen
  pub out : EachOf (IsGiven items p numbers) c.out

asking_on : (items more : List Item) (p : ℕ) (numbers later : List ℕ) (c : Core) → Grow numbers later → AllAsking (NamesIt items p numbers) c → AllAsking (NamesIt (items ++ more) p later) c
asking_on items more p numbers later c g h =
    each_kept (IsAsking (NamesIt items p numbers)) (IsAsking (NamesIt (items ++ more) p later))
    (λ w t call e. let s = t call e in (s.0, g call s.0 s.1, any_front (is_call_for p w.ticket s.0) items more s.2)) c.own.waits.writes h

-- where more is told, and the proxy isn't started
pub knows_on : (items more : List Item) (p : ℕ) (numbers : List ℕ) (c : Core) → list_any (begins p) more ≡ false → Knows items p numbers c → Knows (items ++ more) p numbers c
knows_on items more p numbers c lives k = record {
  asking = asking_on items more p numbers numbers c (λ n m g. g) k.asking;
  seen = reaches_on p items more c.members.seen lives k.seen;
  out = each_kept (IsGiven items p numbers) (IsGiven (items ++ more) p numbers) (λ o h. given_on items more p numbers numbers o (λ n m g. g) h) c.out k.out;
}

pub knows_start : (items : List Item) (p : ℕ) (numbers : List ℕ) (s : Settings) → Knows items p numbers (first_core s)
knows_start items p numbers s = record { asking = tt; seen = λ m l. absurd (no_less m l); out = tt }
  where
    no_less : (m : ℕ) → nat_lt m 0 ≡ true → ⊥
    no_less m l = grind (arith, nat_tests)

-- ---- a fetch

pub fit_step : (c : Core) (e : CoreEvent) (now : ℕ) → IsHeard c e → Fit c → Fit (stepped c e now).core
fit_step c e now b h = ((steps_keep c e now b h.0.0, steps_fit c e now b h.0.0 h.0.1), fits_step c e now h.0.0 h.1)

take_no_work : (ticket : ℕ) → event.Take ticket ≡ event.Work → ⊥
take_no_work ticket e = absurd (cc)

knows_fetched : (items : List Item) (p : ℕ) (numbers : List ℕ) (c : Core) (ticket now : ℕ) → Fit c × Knows items p numbers c → Fit (stepped c (event.Take ticket) now).core × Knows items p numbers (stepped c (event.Take ticket) now).core
knows_fetched items p numbers c ticket now h =
    let e = event.Take ticket in
    let same : items ++ [] ≡ items = append-nil items in (
      fit_step c e now tt h.0,
      record {
        asking = asks_stepped (NamesIt items p numbers) c e now h.0.0.0 (λ f. absurd (take_no_work ticket f)) h.1.asking;
        seen = subst (λ (xs : List Item). Reaches (given p xs) (stepped c e now).core.members.seen) same (seen_step items [] p now c e h.0 refl (λ m. inl tt) h.1.seen);
        out = subst (λ (xs : List Item). EachOf (IsGiven xs p numbers) (stepped c e now).core.out) same (out_quiet items [] p now numbers numbers c e h.0 tt (λ n m g. g) h.1.out (other_counts c e now refl));
      },
    )

fetched_calls : (n : ℕ) (x : Place) (got : Replies) → (fetched n x got).place.calls ≡ x.calls
fetched_calls zero x got = refl
fetched_calls (suc n) x got = by (ready x.core) (λ y g. fetched_calls n y g)
  where
    by_outcome : (ticket : ℕ) (y : Place) (r : Result Outcome StepFault) → ((y : Place) (g : Replies) → (fetched n y g).place.calls ≡ y.calls) → (fetched_as (fetched n) y ticket got r).place.calls ≡ y.calls
    by_outcome ticket y (Ok (outcome.Replied a)) more = more y (with_reply ticket a got)
    by_outcome ticket y (Ok outcome.Waiting) more = refl
    by_outcome ticket y (Ok outcome.Pending) more = refl
    by_outcome ticket y (Ok outcome.Noted) more = refl
    by_outcome ticket y (Ok (outcome.Item i)) more = refl
    by_outcome ticket y (Ok (outcome.Job j)) more = refl
    by_outcome ticket y (Err f) more = refl

    by : (o : Option ℕ) → ((y : Place) (g : Replies) → (fetched n y g).place.calls ≡ y.calls) → (fetched_if (fetched n) x got o).place.calls ≡ x.calls
    by None more = refl
    by (Some ticket) more = by_outcome ticket (with_core x (stepped x.core (event.Take ticket) x.clock).core) (stepped x.core (event.Take ticket) x.clock).outcome more

-- all of them
pub all_fetched_known : (items : List Item) (p : ℕ) (y : Place) (told : Replies) → Fit y.core → Knows items p y.calls y.core → let z = (all_fetched y told).place in Knows items p z.calls z.core
all_fetched_known items p y told fit k =
    let z = (all_fetched y told).place in
    let both = fetched_so (λ c. Fit c × Knows items p y.calls c) (λ c ticket now b. knows_fetched items p y.calls c ticket now b) (length y.core.asks) y told (fit, k) in
    subst (λ (ns : List ℕ). Knows items p ns z.core) (sym (fetched_calls (length y.core.asks) y told)) both.1

-- ---- a turn of the proxy

same_call : (n m t n' m' t' : ℕ) (q q' : Request) → ◌≡◌ {A = Result Outcome StepFault} (Ok (outcome.Job (Some (job.Call n m t q)))) (Ok (outcome.Job (Some (job.Call n' m' t' q')))) → (n ≡ n') × (t ≡ t')
same_call n m t n' m' t' q q' e = (cc, cc)

is_number : (a b : ℕ) → a ≡ b → (a == b) ≡ true
is_number a b e = ap (λ (m : ℕ). m == b) e ∙ number_itself b

-- what the turn brings
pub record Brings (items own : List Item) (p : ℕ) (x : Place) (e : CoreEvent) : Type 0 where
  pub heard : IsHeard x.core e
  pub lives : list_any (begins p) own ≡ false
  pub gives : GivesIt items own p e

module _ (items : List Item) (w : World) (p : ℕ) (x : Place) (fit : Fit x.core) (count : length x.calls ≡ x.core.calls) (k : Knows items p x.calls x.core) where
  -- where no call is sent
  abbrev SendsNone : CoreEvent → Type 0
  SendsNone e = e ≡ event.Work → (n m t : ℕ) (q : Request) → (stepped x.core e x.clock).outcome ≡ Ok (outcome.Job (Some (job.Call n m t q))) → ⊥

  pub quiet_known : (own : List Item) (e : CoreEvent) → Brings items own p x e → SendsNone e → (stepped x.core e x.clock).core.calls ≡ x.core.calls → Knows (items ++ own) p x.calls (stepped x.core e x.clock).core
  quiet_known own e b none same = record {
    asking = asks_stepped (NamesIt (items ++ own) p x.calls) x.core e x.clock fit.0.0 (λ f n v q first s. absurd (none f _ _ _ _ s)) (asking_on items own p x.calls x.calls x.core (λ n m g. g) k.asking);
    seen = seen_step items own p x.clock x.core e fit b.lives b.gives k.seen;
    out = out_quiet items own p x.clock x.calls x.calls x.core e fit b.heard (λ n m g. g) k.out same;
  }

  -- where one is
  sent_known : (own member ticket : ℕ) (q : Request) → Brings items (item.Sent p (next_call w) member ticket q ∷ []) p x event.Work → Grow x.calls (x.calls ++ next_call w ∷ []) → sent_it p (next_call w) items ≡ false
      → (stepped x.core event.Work x.clock).outcome ≡ Ok (outcome.Job (Some (job.Call own member ticket q))) → Knows (items ++ item.Sent p (next_call w) member ticket q ∷ []) p (x.calls ++ next_call w ∷ []) (stepped x.core event.Work x.clock).core
  sent_known own member ticket q b grows unsent is =
      let told = item.Sent p (next_call w) member ticket q ∷ [] in
      let after = x.calls ++ next_call w ∷ [] in
      let counts : Counts x.core (stepped x.core event.Work x.clock).core (Ok (outcome.Job (Some (job.Call own member ticket q)))) = subst (Counts x.core (stepped x.core event.Work x.clock).core) is (work_counts x.core x.clock) in
      let own_is : own ≡ length x.calls + 1 = counts.0 ∙ ap (λ (i : ℕ). i + 1) (sym count) in
      let placed : nth after own ≡ Some (next_call w) = ap (nth after) own_is ∙ last_nth x.calls (next_call w) in
      let itself : is_call_of p (next_call w) (item.Sent p (next_call w) member ticket q) ≡ true = (λ i. number_itself p i && number_itself (next_call w) i) in
      record {
        asking = asks_stepped (NamesIt (items ++ told) p after) x.core event.Work x.clock fit.0.0
            (λ f n v r first s.
            let same = same_call own member ticket (sending.next_call (clock_work x.clock x.core)) (clock_work x.clock x.core).members.current v.ticket q (request_under (clock_work x.clock x.core).settings.namespace r) (sym is ∙ s) in (
              next_call w,
              ap (nth after) (sym same.0) ∙ placed,
              any_behind (is_call_for p v.ticket (next_call w)) items told (λ i. (number_itself p i && (number_itself (next_call w) i && is_number ticket v.ticket same.1 i)) || false),
            )) (asking_on items told p x.calls after x.core grows k.asking);
        seen = seen_step items told p x.clock x.core event.Work fit b.lives b.gives k.seen;
        out = out_sent items told p x.clock x.calls after x.core event.Work fit b.heard grows k.out
            (λ o i same.
            let seen : o.seen ≡ x.core.members.seen = of_each (λ (c : OutCall). c.call ≡ sending.next_call x.core → c.seen ≡ x.core.members.seen) (stepped x.core event.Work x.clock).core.out o (new_sees x.clock x.core fit.0.0) i same in
            record {
              number = next_call w;
              numbered = ap (nth after) (same ∙ sym counts.0) ∙ placed;
              sent = any_behind (is_call_of p (next_call w)) items told (λ i. itself i || false);
              seen = subst (λ (xs : List Item). Reaches (given p xs) o.seen) (sym (before_new p (next_call w) items (item.Sent p (next_call w) member ticket q) unsent itself)) (subst (Reaches (given p items)) (sym seen) k.seen);
            });
      }

  -- the number of the next call is new
  pub turn_known : (e : CoreEvent) (o : Outcome) (v : World) (y : Place) (own : List Item) (told : Replies) → Brings items own p x e → Grow x.calls y.calls → sent_it p (next_call w) items ≡ false → (stepped x.core e x.clock).outcome ≡ Ok o → Turn w p (stepped_to x e) e o v y own told
      → Knows (items ++ own) p y.calls (stepped x.core e x.clock).core
  turn_known _ _ _ _ _ _ b g u is (ticks o) = quiet_known _ _ b (λ f. absurd (cc)) (other_counts _ _ _ refl)
  turn_known _ _ _ _ _ _ b g u is (asks_it ticket q o n) = quiet_known _ _ b (λ f. absurd (cc)) (other_counts _ _ _ refl)
  turn_known _ _ _ _ _ _ b g u is (posts_it ticket path body q o n) = quiet_known _ _ b (λ f. absurd (cc)) (other_counts _ _ _ refl)
  turn_known _ _ _ _ _ _ b g u is (calls own member ticket q) = sent_known own member ticket q b g u is
  turn_known _ _ _ _ _ _ b g u is (opens own member ask) =
      quiet_known _ _ b (λ f n m t q s. begin_no_call own member (request.Watch ask) n m t q (sym is ∙ s))
      (subst (Counts x.core (stepped x.core event.Work x.clock).core) is (work_counts x.core x.clock))
  turn_known _ _ _ _ _ _ b g u is (closes own number e) =
      quiet_known _ _ b (λ f n m t q s. close_no_call own n m t q (sym is ∙ s)) (subst (Counts x.core (stepped x.core event.Work x.clock).core) is (work_counts x.core x.clock))
  turn_known _ _ _ _ _ _ b g u is (answers number call a o e f) = quiet_known _ _ b (λ f. absurd (cc)) (other_counts _ _ _ refl)
  turn_known _ _ _ _ _ _ b g u is (loses number call o e) = quiet_known _ _ b (λ f. absurd (cc)) (other_counts _ _ _ refl)
  turn_known _ _ _ _ _ _ b g u is (delivers number s i more o a c d f h) = quiet_known _ _ b (λ f. absurd (cc)) (other_counts _ _ _ refl)
  turn_known _ _ _ _ _ _ b g u is (cuts number s o a c d f) = quiet_known _ _ b (λ f. absurd (cc)) (other_counts _ _ _ refl)
  turn_known _ _ _ _ _ _ b g u is (takes ticket i) = quiet_known _ _ b (λ f. absurd (cc)) (other_counts _ _ _ refl)
  turn_known _ _ _ _ _ _ b g u is (waits ticket o n) = quiet_known _ _ b (λ f. absurd (cc)) (other_counts _ _ _ refl)
  turn_known _ _ _ _ _ _ b g u is (leaves ticket o) = quiet_known _ _ b (λ f. absurd (cc)) (other_counts _ _ _ refl)

-- ---- what is given

test : (m n : ℕ) → nat_lt m n ≡ false → n ≤ m
test m n h = grind (arith, nat_tests)

-- a header that is told by an item of the proxy
given_one : (items : List Item) (p m revision : ℕ) (i : Item) → begins p i ≡ false → given_by p items i ≡ revision ∷ [] → nat_lt m revision ≡ true → list_any (λ r. nat_lt m r) (given p (items ++ i ∷ [])) ≡ true
given_one items p m revision i lives is t =
    ap (list_any (λ r. nat_lt m r)) (given-append p [] items (i ∷ []) [] ∙ ap (λ c. cond c [] (given p items ++ given_by p items i)) lives ∙ ap (λ (rs : List ℕ). given p items ++ rs) is)
    ∙ list_any-append (λ r. nat_lt m r) (given p items) (revision ∷ []) ∙ (λ i. list_any (λ r. nat_lt m r) (given p items) || (t i || false)) ∙ or_true (list_any (λ r. nat_lt m r) (given p items))

pub answer_gives : (items : List Item) (p number call : ℕ) (a : Answer) → sent_it p number items ≡ true → executed_to number items ≡ Some a → GivesIt items (item.Answered number ∷ []) p (event.Answer call a)
answer_gives items p number call (Refused r) sent ran m = inl tt
answer_gives items p number call (Done reply) sent ran m = by (nat_lt m reply.header.revision) refl
  where
    by : (b : Bool) → nat_lt m reply.header.revision ≡ b → (reply.header.revision ≤ m) ⊎ (list_any (λ r. nat_lt m r) (given p (items ++ item.Answered number ∷ [])) ≡ true)
    by false t = inl (test m reply.header.revision t)
    by true t = inr (given_one items p m reply.header.revision (item.Answered number) refl ((λ i. cond (sent i) (answer_revisions (executed_to number items)) []) ∙ ap answer_revisions ran) t)

message_gives : (items : List Item) (p number own : ℕ) (x : WatchItem) → opened_it p number items ≡ true → next_message number items ≡ Some x → GivesIt items (item.Delivered number ∷ []) p (event.Item own x)
message_gives items p number own x opened next m = by (nat_lt m (item_header x).revision) refl
  where
    by : (b : Bool) → nat_lt m (item_header x).revision ≡ b → ((item_header x).revision ≤ m) ⊎ (list_any (λ r. nat_lt m r) (given p (items ++ item.Delivered number ∷ [])) ≡ true)
    by false t = inl (test m (item_header x).revision t)
    by true t = inr (given_one items p m (item_header x).revision (item.Delivered number) refl ((λ i. cond (opened i) (message_revisions (next_message number items)) []) ∙ ap message_revisions next) t)

get_behind : (xs ys : List WatchItem) (y : WatchItem) (k : ℕ) → length xs ≡ k → slice_get (xs ++ y ∷ ys) k ≡ Some y
get_behind xs ys y k e = ap (slice_get (xs ++ y ∷ ys)) (sym e) ∙ by xs
  where
    by : (zs : List WatchItem) → slice_get (zs ++ y ∷ ys) (length zs) ≡ Some y
    by [] = refl
    by (z ∷ zs) = by zs

pub turn_gives : (items : List Item) (w : World) (p : ℕ) (x : Place) (e : CoreEvent) (o : Outcome) (v : World) (y : Place) (own rest : List Item) (told : Replies) → Facts items (told_of w) → ((number : ℕ) (s : OpenedStream) → nth w.streams number ≡ Some s → s.proxy ≡ p → opened_it p number items ≡ true)
    → is_other (own ++ rest) ≡ true → Turn w p x e o v y own told → GivesIt items own p e
turn_gives items w p x _ _ _ _ _ rest _ h s other (ticks o) m = inl tt
turn_gives items w p x _ _ _ _ _ rest _ h s other (asks_it ticket q o n) m = inl tt
turn_gives items w p x _ _ _ _ _ rest _ h s other (posts_it ticket path body q o n) m = inl tt
turn_gives items w p x _ _ _ _ _ rest _ h s other (calls own member ticket q) m = inl tt
turn_gives items w p x _ _ _ _ _ rest _ h s other (opens own member ask) m = inl tt
turn_gives items w p x _ _ _ _ _ rest _ h s other (closes own number e) m = inl tt
turn_gives items w p x _ _ _ _ _ rest _ h s other (answers number call a o e f) m = absurd (cc)
turn_gives items w p x _ _ _ _ _ rest _ h s other (loses number call o e) m = inl tt
turn_gives items w p x _ _ _ _ _ rest _ h s other (delivers number st i more o at own goes_on lived there) m =
    let q = h.queued number (i ∷ more) (ap waits_in at ∙ ap (λ b. cond b None (Some st.waiting)) goes_on ∙ ap (λ (l : List WatchItem). Some l) there) in
    let next : next_message number items ≡ Some i = ap (λ (l : List WatchItem). slice_get l (length (filter (lives.delivers number) items))) q.pushed ∙ get_behind q.taken more i (length (filter (lives.delivers number) items)) q.count in
    message_gives items p number st.own i (s number st at own) next m
turn_gives items w p x _ _ _ _ _ rest _ h s other (cuts number st o a c d f) m = inl tt
turn_gives items w p x _ _ _ _ _ rest _ h s other (takes ticket i) m = inl tt
turn_gives items w p x _ _ _ _ _ rest _ h s other (waits ticket o n) m = inl tt
turn_gives items w p x _ _ _ _ _ rest _ h s other (leaves ticket o) m = inl tt

-- the number of the next call names none
pub next_unsent : (items : List Item) (w : World) (p : ℕ) → CallsTold items w.calls → sent_it p (next_call w) items ≡ false
next_unsent items w p told = (told (next_call w)).sent p ∙ ap (is_sent_by p) (nth_end w.calls)
