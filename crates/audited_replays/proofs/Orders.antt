-- The first item that a line gains is in order.
use Rattle.std.proofs.Common.{◌≡◌, ℕ, ◌+◌, ◌==◌, nat_le, nat_lt, Bool, true, false, not, cond, ◌&&◌, ◌||◌, List, [], ◌∷◌, ◌++◌, length, slice_get, Option, None, Some, is_some, Result, Ok, Err, refl, sym, ◌∙◌, ap, subst, arith}
use Rattle.std.proofs.lemmas.Bool.Decides.{nat_tests}
use Rattle.etcd_types.proofs.Bools.{and_both}
use Rattle.etcd_types.specs.declared.answer.Answer.{Answer}
use Rattle.etcd_types.specs.declared.request.Request.{Request}
use Rattle.etcd_types.specs.declared.request.Request.TheVariants as request
use Rattle.etcd_types.specs.declared.watch.WatchItem.{WatchItem}
use Rattle.json_model.specs.declared.extra.Reading.TheVariants.{Client}
use Rattle.json_model.specs.declared.fault.ApiFault.{ApiFault}
use Rattle.json_model.specs.Mapping.{request_of}
use Rattle.core_laws.proofs.Steps.Lists.{number_itself, same_number}
use Rattle.core_model.specs.declared.event.CoreEvent.{CoreEvent}
use Rattle.core_model.specs.declared.event.CoreEvent.TheVariants as event
use Rattle.core_model.specs.declared.event.Job.{Job}
use Rattle.core_model.specs.declared.event.Job.TheVariants as job
use Rattle.core_model.specs.declared.event.Outcome.{Outcome}
use Rattle.core_model.specs.declared.event.Outcome.TheVariants as outcome
use Rattle.core_model.specs.declared.event.StepFault.{StepFault}
use Rattle.core_model.specs.Lookups.{ask_at, is_known}
use Rattle.core_model.specs.Step.{stepped}
use Rattle.core_laws.proofs.Watches.Holding.{watch_itself}
use Rattle.core_laws.proofs.Watches.Touches.{side}
use Rattle.held_laws.proofs.Places.{counted_side, stepping}
use Rattle.keep_laws.proofs.Runs.{found as ask_found}
use Rattle.renewed_laws.proofs.Rows.{Row}
use Rattle.renewed_laws.proofs.Worlds.{life_of, WorldOk}
use Rattle.script_text.specs.declared.item.Item.{Item}
use Rattle.script_text.specs.declared.item.Item.TheVariants as item
use Rattle.script_text.specs.declared.line.Line.{Line}
use Rattle.script_text.specs.declared.line.Line.TheVariants as line
use Rattle.store_model.specs.declared.store_fault.StoreFault.{StoreFault}
use Rattle.store_model.specs.Leases.{expired}
use Rattle.store_model.specs.Members.{applied}
use Rattle.store_model.specs.State.{State}
use Rattle.store_model.specs.Step.{exec}
use Rattle.store_model.specs.Watches.{Pushed, pushed as push_of, progressed}
use Rattle.truth_laws.proofs.Facts.{Facts, told_of, waits_in}
use Rattle.watch_laws.proofs.Seating.{found as watch_found}
use Rattle.watch_model.specs.Lookups.{stream_at, watch_at}
use Rattle.watch_model.specs.State.{Stream, Watch}
use Rattle.read_model.specs.declared.asked.Asked.{Asked}
use Rattle.world_laws.proofs.Effects.{unless_is, life_is}
use Rattle.world_model.specs.declared.fault.LineRefusal.{LineRefusal}
use Rattle.world_model.specs.declared.fault.WorldFault.{WorldFault}
use Rattle.world_model.specs.declared.sent_call.SentCall.{SentCall}
use Rattle.world_model.specs.Answers.{seen}
use Rattle.world_model.specs.Asks.{was_asked, asked_at, asked, posted_as, posted_at, posted}
use Rattle.world_model.specs.Calls.{executed_if, executed_of, executed, was_answered, answered_as, answered_at, answered_of, answered, was_lost, lost_at, lost_of, lost}
use Rattle.world_model.specs.Lives.{clock_of, life, asked_as, executed_to, next_message, pushed_into, opened_it}
use Rattle.world_model.specs.Places.{nth, kept_at, place_at, place_in, call_place, stream_place, is_among, with_core, with_ticket, with_posted}
use Rattle.world_model.specs.Sends.{next_call, next_stream, stream_opened, stream_closed, job_done, worked, sent_at, sent}
use Rattle.world_model.specs.Starts.{started_over, started, clock_set_at, clock_set, looked, ticked_at, ticked}
use Rattle.world_model.specs.State.{Place, OpenedStream, World}
use Rattle.world_model.specs.Steps.{Step, at_place_of, by_outcome, steps}
use Rattle.world_model.specs.StoreLines.{not_due, expired_if, expired_by, lease_expired, store_stepped, member_applied}
use Rattle.world_model.specs.Streams.{pushed_as, pushed_at, pushed_of, message_pushed, progress_pushed, open_place, was_delivered, delivered_as, delivered_at, delivered_of, delivered, was_cut, cut_at, cut_of, cut}
use Rattle.world_model.specs.Takes.{is_watch, took, taken_if, taken_at, message_taken, has_left, left_if, left_at, left}
use Rattle.world_model.specs.Transcript.{refused_so, step, done}
use Rattle.audit_model.specs.Calls.{calls_sent, sender_of, is_own_call, is_settled}
use Rattle.audit_model.specs.Order.{has_started, is_given_ticket, is_watch_of, knows_watch, members_of, is_member, can_settle, is_open_stream, fits_behind, is_ok, store_takes}
use Rattle.audit_model.specs.Order as order
use Rattle.audit_model.specs.Streams.{streams_opened, opener_of, is_own_stream, has_ended, has_cancelled}
use Rattle.ledger_laws.proofs.Calls.{CallSays}
use Rattle.ledger_laws.proofs.Lives.{LifeSays}
use Rattle.ledger_laws.proofs.Starts.{StartSays}
use Rattle.ledger_laws.proofs.Streaming.{closing_gone}
use Rattle.ledger_laws.proofs.Streams.{StreamSays}
use Rattle.ledger_laws.proofs.Told.{asked_given}
use Rattle.ledger_laws.proofs.Worlds.{Ledger}

-- what a proxy sends goes to one of the members, and is no watch
pub record SendsSo (members : ℕ) (x : Place) : Type 0 where
  pub calls : (own member ticket : ℕ) (q : Request) → (stepped x.core event.Work x.clock).outcome ≡ Ok (outcome.Job (Some (job.Call own member ticket q))) → (nat_le 1 member && nat_le member members ≡ true) × (order.is_watch q ≡ false)
  pub opens : (own member : ℕ) (q : Request) → (stepped x.core event.Work x.clock).outcome ≡ Ok (outcome.Job (Some (job.Begin own member q))) → nat_le 1 member && nat_le member members ≡ true

pub record Behind (items : List Item) (w : World) : Type 0 where
  pub ledger : Ledger items w
  pub store : (seen items).store ≡ w.store
  pub facts : Facts items (told_of w)
  pub sends : (p : ℕ) (x : Place) → place_at w p ≡ Some x → SendsSo w.members x

-- of several tests
three : (a b c : Bool) → a ≡ true → b ≡ true → c ≡ true → a && b && c ≡ true
three a b c e f g = and_both (a && b) c (and_both a b e f) g

four : (a b c d : Bool) → a ≡ true → b ≡ true → c ≡ true → d ≡ true → a && b && c && d ≡ true
four a b c d e f g h = and_both (a && b && c) d (three a b c e f g) h

-- a stream that goes on is one of its proxy's life
same_number_is : (a b : ℕ) → (a == b) ≡ true → b ≡ a
same_number_is a b e = grind (arith, nat_tests)

stream_is : (w : World) (s : OpenedStream) (x : Place) → stream_place w s ≡ Some x → (place_at w s.proxy ≡ Some x) × (s.ended ≡ false) × (s.life ≡ x.life)
stream_is w s x e =
    let a = unless_is s.ended _ x e in
    let b = life_is s.life (place_at w s.proxy) x a.1 in
    (b.1, a.0, same_number_is x.life s.life b.0)

-- of the first of these items
abbrev Heads : (Item → Type 0) → Result (List Item) WorldFault → Type 0
Heads F r = (i : Item) (rest : List Item) → r ≡ Ok (i ∷ rest) → F i

module _ (namespace : List ℕ) (items : List Item) (w : World) (ok : WorldOk namespace items w) (b : Behind items w) where
  abbrev pub Fits : Item → Type 0
  Fits i = (fits_behind items i ≡ true) × (store_takes (seen items).store i ≡ true)

  abbrev So : Step → Type 0
  So s = Heads Fits s.gained

  -- ---- what all lines have in common

  refused : (why : WorldFault) → Heads Fits (Err why)
  refused why i rest e = absurd (cc)

  first_is : (j i : Item) (more rest : List Item) → ◌≡◌ {A = Result (List Item) WorldFault} (Ok (j ∷ more)) (Ok (i ∷ rest)) → j ≡ i
  first_is j i more rest e = cc

  one : (j : Item) (more : List Item) → Fits j → Heads Fits (Ok (j ∷ more))
  one j more f i rest e = subst Fits (first_is j i more rest e) f

  steps_so : (p : ℕ) (x : Place) (e : CoreEvent) (why : WorldFault) (next : Place → Outcome → Step) → ((o : Outcome) → (stepped x.core e x.clock).outcome ≡ Ok o → So (next (with_core x (stepped x.core e x.clock).core) o)) → So (steps w p x e why next)
  steps_so p x e why next h = by (stepped x.core e x.clock).outcome refl
    where
      by : (r : Result Outcome StepFault) → (stepped x.core e x.clock).outcome ≡ r → So (by_outcome w p (with_core x (stepped x.core e x.clock).core) why next r)
      by (Ok o) f = h o f
      by (Err g) f = λ i rest e. absurd (cc)

  at_so : (p : ℕ) (o : Option Place) (f : Place → Step) → place_at w p ≡ o → ((x : Place) → place_at w p ≡ Some x → So (f x)) → So (at_place_of w p o f)
  at_so p None f e h = λ i rest e. absurd (cc)
  at_so p (Some x) f e h = h x e

  choice_so : (c : Bool) (x y : Step) → (c ≡ true → So x) → (c ≡ false → So y) → So (cond c x y)
  choice_so true x y f g = f refl
  choice_so false x y f g = g refl

  -- ---- what is known

  started_at : (p : ℕ) (x : Place) → place_at w p ≡ Some x → has_started p items ≡ true
  started_at p x at = (b.ledger.starts_say p).started ∙ ap is_some at

  clock_is : (p : ℕ) (x : Place) → place_at w p ≡ Some x → clock_of p items ≡ x.clock
  clock_is p x at = (subst (StartSays items p) at (b.ledger.starts_say p)).clock

  life_so : (p : ℕ) (x : Place) → place_at w p ≡ Some x → LifeSays w.calls w.streams items p x
  life_so p x at = b.ledger.lives p x at

  members_is : members_of items ≡ w.members
  members_is = ap members_of b.ledger.begun.is

  member_so : (member : ℕ) → nat_le 1 member && nat_le member w.members ≡ true → is_member items member ≡ true
  member_so member e = ap (λ (n : ℕ). nat_le 1 member && nat_le member n) members_is ∙ e

  next_is : (a c : ℕ) → a ≡ c → (c + 1 == a + 1) ≡ true
  next_is a c e = ap (λ (n : ℕ). c + 1 == n + 1) e ∙ number_itself (c + 1)

  no_such : {A : Type 0} (o : Option A) → o ≡ None → not (is_some o) ≡ true
  no_such None e = refl
  no_such (Some x) e = absurd (cc)

  ungiven : (p : ℕ) (x : Place) (t : ℕ) → place_at w p ≡ Some x → is_among x.tickets t ≡ false → is_given_ticket p t (life p items) ≡ false
  ungiven p x t at free = by (is_given_ticket p t (life p items)) refl
    where
      by : (c : Bool) → is_given_ticket p t (life p items) ≡ c → c ≡ false
      by false e = refl
      by true e = absurd (let no_way : true ≡ false = sym ((life_so p x at).tickets t e) ∙ free in cc)

  -- a call of the life that its proxy has
  own_call : (number : ℕ) (call : SentCall) (x : Place) → nth w.calls number ≡ Some call → place_at w call.proxy ≡ Some x → call.life ≡ x.life → is_own_call number (sender_of number items) items ≡ true
  own_call number call x there at lived =
      ap (λ (o : Option ℕ). is_own_call number o items) (subst (CallSays items number) there (b.ledger.calls_say.each number)).sender ∙ (life_so call.proxy x at).sent number call there refl lived

  -- a stream of the life that its proxy has
  own_stream : (number : ℕ) (s : OpenedStream) (x : Place) → nth w.streams number ≡ Some s → place_at w s.proxy ≡ Some x → s.life ≡ x.life → is_own_stream number (opener_of number items) items ≡ true
  own_stream number s x there at lived =
      ap (λ (o : Option ℕ). is_own_stream number o items) (subst (StreamSays items number) there (b.ledger.streams_say.each number)).opener ∙ (life_so s.proxy x at).opened number s there refl lived

  open_stream : (number : ℕ) (s : OpenedStream) (x : Place) → nth w.streams number ≡ Some s → place_at w s.proxy ≡ Some x → s.life ≡ x.life → s.ended ≡ false → is_open_stream number items ≡ true
  open_stream number s x there at lived unended =
      and_both (is_own_stream number (opener_of number items) items) (not (has_ended number items)) (own_stream number s x there at lived)
      (ap not ((subst (StreamSays items number) there (b.ledger.streams_say.each number)).ended ∙ unended))

  same_life : (a c : ℕ) → (a == c) ≡ true → c ≡ a
  same_life a c e = grind (arith, nat_tests)

  -- ---- starts, clocks and ticks

  started_so : (p : ℕ) (o : Option Place) → place_at w p ≡ o → So (started_over w p o)
  started_so p None e = one (item.Started p) [] (ap not ((b.ledger.starts_say p).started ∙ ap is_some e), refl)
  started_so p (Some x) e = one (item.Restarted p) [] (started_at p x e, refl)

  clock_so : (p millis : ℕ) → So (clock_set w p millis)
  clock_so p millis =
      at_so p (place_at w p) (clock_set_at w p millis) refl
      (λ x at. choice_so (nat_lt millis x.clock) _ _ (λ e. refused _)
      (λ e. one (item.Clock p millis) [] (and_both (has_started p items) (nat_le (clock_of p items) millis) (started_at p x at) (ap (λ (n : ℕ). nat_le n millis) (clock_is p x at) ∙ up x.clock millis e), refl)))
    where
      up : (n m : ℕ) → nat_lt m n ≡ false → nat_le n m ≡ true
      up n m e = grind (arith, nat_tests)

  ticked_so : (p : ℕ) → So (ticked w p)
  ticked_so p = at_so p (place_at w p) (ticked_at w p) refl (λ x at. steps_so p x _ _ (looked w p) (λ o out. one (item.Ticked p) _ (started_at p x at, refl)))

  -- ---- requests

  asked_so : (p ticket : ℕ) (q : Request) → So (asked w p ticket q)
  asked_so p ticket q =
      at_so p (place_at w p) (asked_at w p ticket q) refl
      (λ x at. choice_so (is_among x.tickets ticket) _ _ (λ e. refused _)
      (λ e. steps_so p x _ _ (was_asked w p ticket q [] (with_ticket ticket))
      (λ o out. one (item.Asked p ticket q) _
      (and_both (has_started p items) (not (is_some (asked_as p ticket (life p items)))) (started_at p x at) (no_such (asked_as p ticket (life p items)) ((ok.places p x at).unasked ticket e)), refl))))

  post_fits : (p ticket : ℕ) (path text : List ℕ) (x : Place) → place_at w p ≡ Some x → is_among x.tickets ticket ≡ false → Fits (item.Posted p ticket path text)
  post_fits p ticket path text x at free = (and_both (has_started p items) (not (is_given_ticket p ticket (life p items))) (started_at p x at) (ap not (ungiven p x ticket at free)), refl)

  posted_by : (p ticket : ℕ) (path text : List ℕ) (x : Place) (r : Result Request ApiFault) → place_at w p ≡ Some x → is_among x.tickets ticket ≡ false → So (posted_as w p ticket (item.Posted p ticket path text ∷ []) x r)
  posted_by p ticket path text x (Ok q) at free =
      steps_so p x _ _ (was_asked w p ticket q (item.Posted p ticket path text ∷ []) (with_posted ticket)) (λ o out. one (item.Posted p ticket path text) _ (post_fits p ticket path text x at free))
  posted_by p ticket path text x (Err why) at free = one (item.Posted p ticket path text) _ (post_fits p ticket path text x at free)

  posted_so : (p ticket : ℕ) (path text : List ℕ) → So (posted w p ticket path text)
  posted_so p ticket path text =
      at_so p (place_at w p) (posted_at w p ticket path text) refl
      (λ x at. choice_so (is_among x.tickets ticket) _ _ (λ e. refused _) (λ e. posted_by p ticket path text x (request_of Client path text) at e))

  -- ---- what is sent

  call_fits : (p own member ticket : ℕ) (q : Request) (x : Place) → place_at w p ≡ Some x → (stepped x.core event.Work x.clock).outcome ≡ Ok (outcome.Job (Some (job.Call own member ticket q))) → Fits (item.Sent p (next_call w) member ticket q)
  call_fits p own member ticket q x at out =
      let s = (b.sends p x at).calls own member ticket q out in (
        four (has_started p items) (next_call w == calls_sent items + 1) (is_member items member) (not (order.is_watch q))
            (started_at p x at) (next_is (calls_sent items) (length w.calls) b.ledger.calls_say.count) (member_so member s.0) (ap not s.1),
        refl,
      )

  opened_fits : (p own member : ℕ) (q : Request) (x y : Place) → place_at w p ≡ Some x → (stepped x.core event.Work x.clock).outcome ≡ Ok (outcome.Job (Some (job.Begin own member q))) → So (stream_opened w p y own member q)
  opened_fits p own member (request.Watch ask) x y at out =
      one (item.Opened p (next_stream w) member (request.Watch ask)) _ (
        four (has_started p items) (next_stream w == streams_opened items + 1) (is_member items member) true
            (started_at p x at) (next_is (streams_opened items) (length w.streams) b.ledger.streams_say.count) (member_so member ((b.sends p x at).opens own member (request.Watch ask) out)) refl,
        refl,
      )
  opened_fits p own member (request.Range ask) x y at out = refused _
  opened_fits p own member (request.Put ask) x y at out = refused _
  opened_fits p own member (request.Delete ask) x y at out = refused _
  opened_fits p own member (request.Txn ask) x y at out = refused _
  opened_fits p own member (request.Compact revision physical) x y at out = refused _
  opened_fits p own member (request.Grant ttl lease) x y at out = refused _
  opened_fits p own member (request.Revoke lease) x y at out = refused _
  opened_fits p own member (request.KeepAlive lease) x y at out = refused _
  opened_fits p own member (request.TimeToLive lease keys) x y at out = refused _
  opened_fits p own member request.Leases x y at out = refused _

  closed_fits : (p own number : ℕ) (x : Place) → place_at w p ≡ Some x → (stepped x.core event.Work x.clock).outcome ≡ Ok (outcome.Job (Some (job.Close own))) → kept_at x.streams own ≡ Some number → Fits (item.Closed p number)
  closed_fits p own number x at out e =
      let h = life_so p x at in
      let k = h.kept own number e in
      let g = h.gone number k.stream k.there k.proxy k.lived in
      let touch = (stepping x.core.settings.namespace x.core event.Work x.clock _ refl out).touch in
      let c = closing_gone x.core.settings.namespace (counted_side x.core) (side (stepped x.core event.Work x.clock).core) own _ refl h.waiting.numbers touch in
      let there : stream_at k.stream.own x.core.watches.streams ≡ Some c.stream = ap (λ (n : ℕ). stream_at n x.core.watches.streams) k.number ∙ c.there in (
        three (has_started p items) (opened_it p number (life p items)) (not (has_ended number items)) (started_at p x at) (h.opened number k.stream k.there k.proxy k.lived)
            (ap not ((subst (StreamSays items number) k.there (b.ledger.streams_say.each number)).ended ∙ unended k.stream.ended c.stream (stream_at k.stream.own x.core.watches.streams) g.none there)),
        refl,
      )
    where
      unended : (c : Bool) (t : Stream) (o : Option Stream) → (c ≡ true → o ≡ None) → o ≡ Some t → c ≡ false
      unended false t o f e = refl
      unended true t o f e = absurd (let no_way : None ≡ Some t = sym (f refl) ∙ e in cc)

  closed_so : (p own : ℕ) (x y : Place) (o : Option ℕ) → place_at w p ≡ Some x → (stepped x.core event.Work x.clock).outcome ≡ Ok (outcome.Job (Some (job.Close own))) → kept_at x.streams own ≡ o → So (stream_closed w p y o)
  closed_so p own x y None at out e = refused _
  closed_so p own x y (Some number) at out e = one (item.Closed p number) _ (closed_fits p own number x at out e)

  job_so : (p : ℕ) (x : Place) (j : Job) → place_at w p ≡ Some x → (stepped x.core event.Work x.clock).outcome ≡ Ok (outcome.Job (Some j)) → So (job_done w p (with_core x (stepped x.core event.Work x.clock).core) j)
  job_so p x (job.Call own member ticket q) at out = one (item.Sent p (next_call w) member ticket q) _ (call_fits p own member ticket q x at out)
  job_so p x (job.Begin own member q) at out = opened_fits p own member q x _ at out
  job_so p x (job.Close own) at out = closed_so p own x _ (kept_at x.streams own) at out refl

  worked_so : (p : ℕ) (x : Place) (o : Outcome) → place_at w p ≡ Some x → (stepped x.core event.Work x.clock).outcome ≡ Ok o → So (worked w p (with_core x (stepped x.core event.Work x.clock).core) o)
  worked_so p x (outcome.Job (Some j)) at out = job_so p x j at out
  worked_so p x (outcome.Job None) at out = refused _
  worked_so p x (outcome.Replied a) at out = refused _
  worked_so p x outcome.Waiting at out = refused _
  worked_so p x outcome.Pending at out = refused _
  worked_so p x (outcome.Item i) at out = refused _
  worked_so p x outcome.Noted at out = refused _

  sent_so : (p : ℕ) → So (sent w p)
  sent_so p = at_so p (place_at w p) (sent_at w p) refl (λ x at. steps_so p x event.Work _ (worked w p) (λ o out. worked_so p x o at out))

  -- ---- calls

  call_says : (number : ℕ) (call : SentCall) → nth w.calls number ≡ Some call → CallSays items number (Some call)
  call_says number call there = subst (CallSays items number) there (b.ledger.calls_say.each number)

  executed_by : (number : ℕ) (call : SentCall) (o : Option Answer) → nth w.calls number ≡ Some call → call.executed ≡ o → So (executed_if w number call o)
  executed_by number call (Some a) there e = refused _
  executed_by number call None there e =
      let k = call_says number call there in
      one (item.Executed number (exec w.store call.member call.request).1) []
      (and_both (is_some (sender_of number items)) (not (is_some (executed_to number items))) (ap is_some k.sender) (ap (λ (o : Option Answer). not (is_some o)) (k.ran ∙ e)), refl)

  executed_so : (number : ℕ) (o : Option SentCall) → nth w.calls number ≡ o → So (executed_of w number o)
  executed_so number None e = refused _
  executed_so number (Some call) e = executed_by number call call.executed e refl

  settles_so : (number : ℕ) (call : SentCall) (x : Place) → nth w.calls number ≡ Some call → call_place w call ≡ Some x → can_settle number items ≡ true
  settles_so number call x there e =
      let a = unless_is call.settled (place_in w call.proxy call.life) x e in
      let l = life_is call.life (place_at w call.proxy) x a.1 in
      and_both (is_own_call number (sender_of number items) items) (not (is_settled number items)) (own_call number call x there l.1 (same_life x.life call.life l.0)) (ap not ((call_says number call there).settled ∙ a.0))

  answered_by : (number : ℕ) (call : SentCall) (x : Place) (o : Option Answer) → nth w.calls number ≡ Some call → call_place w call ≡ Some x → call.executed ≡ o → So (answered_as w number call x o)
  answered_by number call x None there e f = refused _
  answered_by number call x (Some a) there e f =
      steps_so call.proxy x (event.Answer call.own a) _ (was_answered w number call)
      (λ o out. one (item.Answered number) _
      (and_both (can_settle number items) (is_some (executed_to number items)) (settles_so number call x there e) (ap is_some ((call_says number call there).ran ∙ f)), refl))

  answered_in : (number : ℕ) (call : SentCall) (o : Option Place) → nth w.calls number ≡ Some call → call_place w call ≡ o → So (answered_at w number call o)
  answered_in number call None there e = refused _
  answered_in number call (Some x) there e = answered_by number call x call.executed there e refl

  answered_so : (number : ℕ) (o : Option SentCall) → nth w.calls number ≡ o → So (answered_of w number o)
  answered_so number None e = refused _
  answered_so number (Some call) e = answered_in number call (call_place w call) e refl

  lost_in : (number : ℕ) (call : SentCall) (o : Option Place) → nth w.calls number ≡ Some call → call_place w call ≡ o → So (lost_at w number call o)
  lost_in number call None there e = refused _
  lost_in number call (Some x) there e = steps_so call.proxy x (event.Lost call.own) _ (was_lost w number call) (λ o out. one (item.Lost number) _ (settles_so number call x there e, refl))

  lost_so : (number : ℕ) (o : Option SentCall) → nth w.calls number ≡ o → So (lost_of w number o)
  lost_so number None e = refused _
  lost_so number (Some call) e = lost_in number call (call_place w call) e refl

  -- ---- streams

  stream_says : (number : ℕ) (s : OpenedStream) → nth w.streams number ≡ Some s → StreamSays items number (Some s)
  stream_says number s there = subst (StreamSays items number) there (b.ledger.streams_say.each number)

  -- it is open, and wasn't cancelled
  going : (number : ℕ) (s : OpenedStream) (x : Place) → nth w.streams number ≡ Some s → open_place w s ≡ Some x → (is_open_stream number items ≡ true) × (not (has_cancelled number items) ≡ true)
  going number s x there e =
      let a = unless_is s.cancelled (stream_place w s) x e in
      let at = stream_is w s x a.1 in
      (open_stream number s x there at.0 at.2 at.1, ap not ((stream_says number s there).cancelled ∙ a.0))

  pushed_by : (number : ℕ) (s : OpenedStream) (x : Place) (r : Pushed) → nth w.streams number ≡ Some s → open_place w s ≡ Some x → So (pushed_as w number s r)
  pushed_by number s x (Err why) there e = refused _
  pushed_by number s x (Ok p) there e = let g = going number s x there e in one (item.Pushed number p.1) [] (and_both (is_open_stream number items) (not (has_cancelled number items)) g.0 g.1, refl)

  pushed_in : (number : ℕ) (message : ℕ → Pushed) (s : OpenedStream) (o : Option Place) → nth w.streams number ≡ Some s → open_place w s ≡ o → So (pushed_at w number message s o)
  pushed_in number message s None there e = refused _
  pushed_in number message s (Some x) there e = pushed_by number s x (message number) there e

  pushed_so : (number : ℕ) (message : ℕ → Pushed) (o : Option OpenedStream) → nth w.streams number ≡ o → So (pushed_of w number message o)
  pushed_so number message None e = refused _
  pushed_so number message (Some s) e = pushed_in number message s (open_place w s) e refl

  -- the message that waits first is the next one
  waits_next : (number : ℕ) (s : OpenedStream) (i : WatchItem) (rest : List WatchItem) → nth w.streams number ≡ Some s → s.ended ≡ false → s.waiting ≡ i ∷ rest → is_some (next_message number items) ≡ true
  waits_next number s i rest there unended waiting =
      let q = b.facts.queued number (i ∷ rest) (ap waits_in there ∙ ap (λ c. cond c None (Some s.waiting)) unended ∙ ap (λ (l : List WatchItem). Some l) waiting) in
      ap is_some (ap (λ (n : ℕ). slice_get (pushed_into number items) n) (sym q.count) ∙ ap (λ (l : List WatchItem). slice_get l (length q.taken)) q.pushed ∙ get_behind q.taken i rest)
    where
      get_behind : (xs : List WatchItem) (y : WatchItem) (ys : List WatchItem) → slice_get (xs ++ y ∷ ys) (length xs) ≡ Some y
      get_behind [] y ys = refl
      get_behind (x ∷ xs) y ys = get_behind xs y ys

  delivered_by : (number : ℕ) (s : OpenedStream) (x : Place) (waiting : List WatchItem) → nth w.streams number ≡ Some s → stream_place w s ≡ Some x → s.waiting ≡ waiting → So (delivered_as w number s x waiting)
  delivered_by number s x [] there e f = refused _
  delivered_by number s x (i ∷ rest) there e f =
      let at = stream_is w s x e in
      steps_so s.proxy x (event.Item s.own i) _ (was_delivered w number s rest)
      (λ o out. one (item.Delivered number) _
      (and_both (is_open_stream number items) (is_some (next_message number items)) (open_stream number s x there at.0 at.2 at.1) (waits_next number s i rest there at.1 f), refl))

  delivered_in : (number : ℕ) (s : OpenedStream) (o : Option Place) → nth w.streams number ≡ Some s → stream_place w s ≡ o → So (delivered_at w number s o)
  delivered_in number s None there e = refused _
  delivered_in number s (Some x) there e = delivered_by number s x s.waiting there e refl

  delivered_so : (number : ℕ) (o : Option OpenedStream) → nth w.streams number ≡ o → So (delivered_of w number o)
  delivered_so number None e = refused _
  delivered_so number (Some s) e = delivered_in number s (stream_place w s) e refl

  cut_in : (number : ℕ) (s : OpenedStream) (o : Option Place) → nth w.streams number ≡ Some s → open_place w s ≡ o → So (cut_at w number s o)
  cut_in number s None there e = refused _
  cut_in number s (Some x) there e =
      let g = going number s x there e in
      steps_so s.proxy x (event.Cut s.own) _ (was_cut w number s) (λ o out. one (item.Cut number) _ (and_both (is_open_stream number items) (not (has_cancelled number items)) g.0 g.1, refl))

  cut_so : (number : ℕ) (o : Option OpenedStream) → nth w.streams number ≡ o → So (cut_of w number o)
  cut_so number None e = refused _
  cut_so number (Some s) e = cut_in number s (open_place w s) e refl

  -- ---- takes and leaves

  -- a watch that the proxy has was asked
  watch_known : (p ticket : ℕ) (x : Place) (o : Option Watch) → place_at w p ≡ Some x → watch_at ticket x.core.watches.watches ≡ o → is_some o ≡ true → is_watch_of (asked_as p ticket (life p items)) ≡ true
  watch_known p ticket x None at e f = absurd (cc)
  watch_known p ticket x (Some v) at e f =
      let k = watch_found (λ u. is_watch_of (asked_as p u.ticket (life p items)) ≡ true) ticket x.core.watches.watches v e (life_so p x at).watches in
      subst (λ (n : ℕ). is_watch_of (asked_as p n (life p items)) ≡ true) (watch_itself ticket x.core.watches.watches v e) k

  knows_it : (p ticket : ℕ) (x : Place) → place_at w p ≡ Some x → is_watch_of (asked_as p ticket (life p items)) ≡ true → knows_watch p ticket items ≡ true
  knows_it p ticket x at e = and_both (has_started p items) (is_watch_of (asked_as p ticket (life p items))) (started_at p x at) e

  took_so : (p ticket : ℕ) (x y : Place) (o : Outcome) → knows_watch p ticket items ≡ true → So (took w p ticket y o)
  took_so p ticket x y (outcome.Item i) k = one (item.Taken p ticket i) _ (k, refl)
  took_so p ticket x y (outcome.Job j) k = one (item.Pending p ticket) _ (k, refl)
  took_so p ticket x y (outcome.Replied a) k = one (item.Pending p ticket) _ (k, refl)
  took_so p ticket x y outcome.Waiting k = one (item.Pending p ticket) _ (k, refl)
  took_so p ticket x y outcome.Pending k = one (item.Pending p ticket) _ (k, refl)
  took_so p ticket x y outcome.Noted k = one (item.Pending p ticket) _ (k, refl)

  taken_by : (p ticket : ℕ) (x : Place) (c : Bool) → place_at w p ≡ Some x → is_watch ticket x ≡ c → So (taken_if w p ticket x c)
  taken_by p ticket x false at e = refused _
  taken_by p ticket x true at e =
      steps_so p x (event.Take ticket) _ (took w p ticket)
      (λ o out. took_so p ticket x (with_core x (stepped x.core (event.Take ticket) x.clock).core) o (knows_it p ticket x at (watch_known p ticket x (watch_at ticket x.core.watches.watches) at refl e)))

  taken_so : (p ticket : ℕ) → So (message_taken w p ticket)
  taken_so p ticket = at_so p (place_at w p) (taken_at w p ticket) refl (λ x at. taken_by p ticket x (is_watch ticket x) at refl)

  -- what was asked as a watch was given
  watch_given : (p ticket : ℕ) (o : Option Request) → asked_as p ticket (life p items) ≡ o → is_watch_of o ≡ true → is_given_ticket p ticket (life p items) ≡ true
  watch_given p ticket None e f = absurd (cc)
  watch_given p ticket (Some q) e f = asked_given p ticket (life p items) q e

  -- so was each ticket that the proxy knows
  ticket_known : (p ticket : ℕ) (x : Place) (o : Option Asked) (v : Option Watch) → place_at w p ≡ Some x → ask_at ticket x.core.asks ≡ o → watch_at ticket x.core.watches.watches ≡ v → is_some o || is_some v ≡ true → is_given_ticket p ticket (life p items) ≡ true
  ticket_known p ticket x (Some a) v at e f k =
      let r = ask_found (Row (life_of namespace w.calls items p x)) ticket x.core.asks a e (ok.places p x at).rows in
      asked_given p ticket (life p items) a.request (ap (λ (n : ℕ). asked_as p n (life p items)) (sym (same_number a.ticket ticket r.1)) ∙ r.0.asked)
  ticket_known p ticket x None (Some v) at e f k = watch_given p ticket (asked_as p ticket (life p items)) refl (watch_known p ticket x (Some v) at f refl)
  ticket_known p ticket x None None at e f k = absurd (cc)

  left_by : (p ticket : ℕ) (x : Place) (c : Bool) → place_at w p ≡ Some x → is_known ticket x.core ≡ c → So (left_if w p ticket x c)
  left_by p ticket x false at e = refused _
  left_by p ticket x true at e =
      steps_so p x (event.Leave ticket) _ (has_left w p ticket)
      (λ o out. one (item.Left p ticket) _
      (and_both (has_started p items) (is_given_ticket p ticket (life p items)) (started_at p x at) (ticket_known p ticket x (ask_at ticket x.core.asks) (watch_at ticket x.core.watches.watches) at refl refl e), refl))

  left_so : (p ticket : ℕ) → So (left w p ticket)
  left_so p ticket = at_so p (place_at w p) (left_at w p ticket) refl (λ x at. left_by p ticket x (is_known ticket x.core) at refl)

  -- ---- the store

  due_so : (lease : ℕ) (o : Option WorldFault) (t : State) → expired w.store lease ≡ Ok t → So (expired_if w lease o t)
  due_so lease (Some why) t e = refused _
  due_so lease None t e = one (item.Expired lease) [] (refl, ap (λ (s : State). is_ok (expired s lease)) b.store ∙ ap is_ok e)

  expired_so : (lease : ℕ) (r : Result State StoreFault) → expired w.store lease ≡ r → So (expired_by w lease r)
  expired_so lease (Err why) e = refused _
  expired_so lease (Ok t) e = due_so lease (not_due w lease) t e

  applied_so : (member revision : ℕ) (r : Result State StoreFault) → applied w.store member revision ≡ r → So (store_stepped w (item.Applied member revision) r)
  applied_so member revision (Err why) e = refused _
  applied_so member revision (Ok t) e = one (item.Applied member revision) [] (refl, ap (λ (s : State). is_ok (applied s member revision)) b.store ∙ ap is_ok e)

  -- ---- all lines

  lift : (s : Step) → So s → (i : Item) (rest : List Item) → (step s).gained ≡ Ok (i ∷ rest) → Fits i
  lift s h i rest e = by s.gained refl e
    where
      tails : (is : List Item) → ◌≡◌ {A = Result (List Item) LineRefusal} (Ok is) (Ok (i ∷ rest)) → is ≡ i ∷ rest
      tails is e = cc

      by : (r : Result (List Item) WorldFault) → s.gained ≡ r → refused_so r ≡ Ok (i ∷ rest) → Fits i
      by (Ok is) f g = h i rest (f ∙ ap (λ (l : List Item). Ok l) (tails is g))
      by (Err why) f g = absurd (cc)

  pub line_fits : (l : Line) (i : Item) (rest : List Item) → (done w l).gained ≡ Ok (i ∷ rest) → Fits i
  line_fits (line.World members namespace leasing) i rest e = absurd (cc)
  line_fits (line.Start p) i rest e = lift (started w p) (started_so p (place_at w p) refl) i rest e
  line_fits (line.Clock p millis) i rest e = lift (clock_set w p millis) (clock_so p millis) i rest e
  line_fits (line.Ask p t q) i rest e = lift (asked w p t q) (asked_so p t q) i rest e
  line_fits (line.Post p t path text) i rest e = lift (posted w p t path text) (posted_so p t path text) i rest e
  line_fits (line.Tick p) i rest e = lift (ticked w p) (ticked_so p) i rest e
  line_fits (line.Send p) i rest e = lift (sent w p) (sent_so p) i rest e
  line_fits (line.Exec number) i rest e = lift (executed w number) (executed_so number (nth w.calls number) refl) i rest e
  line_fits (line.Answer number) i rest e = lift (answered w number) (answered_so number (nth w.calls number) refl) i rest e
  line_fits (line.Lose number) i rest e = lift (lost w number) (lost_so number (nth w.calls number) refl) i rest e
  line_fits (line.Push number) i rest e = lift (message_pushed w number) (pushed_so number (push_of w.store) (nth w.streams number) refl) i rest e
  line_fits (line.Progress number) i rest e = lift (progress_pushed w number) (pushed_so number (progressed w.store) (nth w.streams number) refl) i rest e
  line_fits (line.Deliver number) i rest e = lift (delivered w number) (delivered_so number (nth w.streams number) refl) i rest e
  line_fits (line.Cut number) i rest e = lift (cut w number) (cut_so number (nth w.streams number) refl) i rest e
  line_fits (line.Take p t) i rest e = lift (message_taken w p t) (taken_so p t) i rest e
  line_fits (line.Leave p t) i rest e = lift (left w p t) (left_so p t) i rest e
  line_fits (line.Expire lease) i rest e = lift (lease_expired w lease) (expired_so lease (expired w.store lease) refl) i rest e
  line_fits (line.Apply member revision) i rest e = lift (member_applied w member revision) (applied_so member revision (applied w.store member revision) refl) i rest e
