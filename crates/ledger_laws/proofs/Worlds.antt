-- The world of a script is told by its items: its proxies with their clocks, its calls, its streams, and its floors.
use Rattle.std.proofs.Common.{◌≡◌, inl, inr, ℕ, zero, suc, ◌+◌, ◌-◌, ◌≤◌, ◌==◌, Bool, true, false, cond, ◌&&◌, List, [], ◌∷◌, ◌++◌, append_assoc, append-nil, length, Option, None, Some, Result, Ok, Err, refl, sym, ◌∙◌, ap, subst, slice_get, arith}
use Rattle.std.specs.Prelude.{flat_map}
use Rattle.std.specs.List.{list_all}
use Rattle.std.specs.BTreeSet.{BTreeSet}
use Rattle.std.proofs.lemmas.List.Folds.{list_all-append}
use Rattle.etcd_types.proofs.Bools.{and_first, and_second, and_both}
use Rattle.etcd_types.specs.declared.request.Request.TheVariants as request
use Rattle.etcd_types.specs.declared.watch.WatchItem.{WatchItem}
use Rattle.etcd_types.specs.declared.answer.Answer.{Answer}
use Rattle.core_laws.proofs.Watches.Touches.{side, aged_itself}
use Rattle.core_model.specs.declared.event.CoreEvent.TheVariants as event
use Rattle.core_model.specs.declared.event.Outcome.TheVariants as outcome
use Rattle.core_model.specs.declared.event.StepFault.{StepFault}
use Rattle.core_model.specs.Takes.{ready}
use Rattle.world_model.specs.declared.floor.Floor.{Floor}
use Rattle.audit_model.specs.Order.{is_given_ticket}
use Rattle.held_laws.proofs.Items.{reply_silent, replies_silent}
use Rattle.held_laws.proofs.Kept.{among_still}
use Rattle.held_laws.proofs.Opens.{nth_push}
use Rattle.renewed_laws.proofs.Lives.{Lives, lives-append, taken_lives}
use Rattle.store_model.specs.Step.{exec}
use Rattle.core_laws.proofs.Watches.Runs.{start_waits}
use Rattle.core_model.specs.declared.event.CoreEvent.{CoreEvent}
use Rattle.core_model.specs.declared.event.Outcome.{Outcome}
use Rattle.core_model.specs.Step.{stepped}
use Rattle.held_laws.proofs.Lines.{started_life}
use Rattle.held_laws.proofs.Places.{IsFetched, all_so}
use Rattle.held_laws.proofs.Worlds.{equal, no_place, one_place, nth_changed, placed_itself, placed_other}
use Rattle.prefix_laws.proofs.Prefixes.{IsKept}
use Rattle.renewed_laws.proofs.Gains.{stepped_to}
use Rattle.renewed_laws.proofs.Worlds.{WorldOk}
use Rattle.script_text.specs.declared.item.Item.{Item}
use Rattle.script_text.specs.declared.item.Item.TheVariants as item
use Rattle.script_text.specs.declared.line.Line.{Line}
use Rattle.world_laws.proofs.Effects.{Turn, ticks, asks_it, posts_it, calls, opens, closes, answers, loses, delivers, cuts, takes, waits, leaves, Begins, first, again, Effect, starts, sets, refuses_post, executes, expires, applies, pushes, turns, effect}
use Rattle.world_model.specs.declared.sent_call.SentCall.{SentCall}
use Rattle.world_model.specs.Gains.{Replies, with_reply, fetched_as, fetched_if, fetched, all_fetched, body_if, reply_items, line_if, taken_items}
use Rattle.world_model.specs.Lives.{life, clock_of}
use Rattle.world_model.specs.Places.{nth, with_nth, kept_at, place_at, is_among, with_number, ended, with_core, with_place, with_posted}
use Rattle.world_model.specs.Sends.{next_call, next_stream, closed_in, new_call, new_stream}
use Rattle.world_model.specs.Starts.{settings, new_place}
use Rattle.world_model.specs.Streams.{with_message}
use Rattle.world_model.specs.State.{Numbered, Place, OpenedStream, World, starting_world}
use Rattle.world_model.specs.Transcript.{done}
use Rattle.audit_model.specs.Floors.{reported_floors}
use Rattle.ledger_laws.proofs.Calls.{bare_of, CallsSay, is_no_call, calls_on, calls_sent_on, calls_executed_on, calls_settled_on}
use Rattle.ledger_laws.proofs.Calls as told
use Rattle.ledger_laws.proofs.Floors.{is_no_execution, floors_on, floors_executed, AreOf, floors_are_of}
use Rattle.ledger_laws.proofs.Lives.{LifeSays, SamePlace, beside_itself, given_either, life_later, none_given}
use Rattle.ledger_laws.proofs.Places.{Stepped, PlaceAfter, stays, sets_it, marks, begins_it, steps_it, BesideIn, effect_places, closed_calls, turn_places}
use Rattle.ledger_laws.proofs.Quiet.{Quiet, reply_ungiven, replies_ungiven}
use Rattle.ledger_laws.proofs.Starts.{StartsSay, StartSays, is_no_start, starts_on, starts_same, starts_set, starts_first, starts_again}
use Rattle.ledger_laws.proofs.Streams.{StreamsSay, is_no_stream, streams_on, streams_opened_on, streams_moved_on, streams_ended_on, streams_pushed_on}
use Rattle.ledger_laws.proofs.Streams as heard
use Rattle.ledger_laws.proofs.Turning.{given_new, turn_lives, turn_facts}

-- the first item makes the world
pub record Begun (items : List Item) (w : World) : Type 0 where
  pub rest : List Item
  pub is : items ≡ item.World w.members w.namespace w.leasing ∷ rest

-- the proxy of a stream stands, and it is of no later life
pub record Placed (w : World) (s : OpenedStream) : Type 0 where
  pub place : Place
  pub at : place_at w s.proxy ≡ Some place
  pub older : s.life ≤ place.life

pub record Ledger (items : List Item) (w : World) : Type 0 where
  pub begun : Begun items w
  pub starts_say : StartsSay items w.places
  pub calls_say : CallsSay items w.calls
  pub streams_say : StreamsSay items w.streams
  pub floors_say : reported_floors items ≡ w.floors
  pub floors_of : AreOf (λ p. (x : Place) × (place_at w p ≡ Some x)) w.floors
  pub placed : (n : ℕ) (s : OpenedStream) → nth w.streams n ≡ Some s → Placed w s
  pub lives : (p : ℕ) (x : Place) → place_at w p ≡ Some x → LifeSays w.calls w.streams items p x

-- ---- items that tell nothing of the world's calls, streams and floors, and start nothing

abbrev pub is_idle : Item → Bool
is_idle i = is_no_call i && (is_no_stream i && (is_no_start i && is_no_execution i))

pub record Parts (items : List Item) (places : Numbered Place) (calls : List SentCall) (streams : List OpenedStream) (floors : Numbered Floor) : Type 0 where
  pub starts_say : StartsSay items places
  pub calls_say : CallsSay items calls
  pub streams_say : StreamsSay items streams
  pub floors_say : reported_floors items ≡ floors

idle_on : (items : List Item) (i : Item) (places : Numbered Place) (calls : List SentCall) (streams : List OpenedStream) (floors : Numbered Floor) → is_idle i ≡ true
    → Parts items places calls streams floors → Parts (items ++ i ∷ []) places calls streams floors
idle_on items i places cs streams floors e h =
    let a = and_second (is_no_call i) (is_no_stream i && (is_no_start i && is_no_execution i)) e in
    let b = and_second (is_no_stream i) (is_no_start i && is_no_execution i) a in
    record {
      starts_say = starts_on items i places (and_first (is_no_start i) (is_no_execution i) b) h.starts_say;
      calls_say = calls_on items i cs (and_first (is_no_call i) (is_no_stream i && (is_no_start i && is_no_execution i)) e) h.calls_say;
      streams_say = streams_on items i streams (and_first (is_no_stream i) (is_no_start i && is_no_execution i) a) h.streams_say;
      floors_say = floors_on items i floors (and_second (is_no_start i) (is_no_execution i) b) h.floors_say;
    }

pub idles_on : (items more : List Item) (places : Numbered Place) (calls : List SentCall) (streams : List OpenedStream) (floors : Numbered Floor) → list_all is_idle more ≡ true
    → Parts items places calls streams floors → Parts (items ++ more) places calls streams floors
idles_on items [] places cs streams floors e h = subst (λ (xs : List Item). Parts xs places cs streams floors) (sym (append-nil items)) h
idles_on items (i ∷ more) places cs streams floors e h =
    subst (λ (xs : List Item). Parts xs places cs streams floors) (append_assoc items (i ∷ []) more)
    (idles_on (items ++ i ∷ []) more places cs streams floors (and_second (is_idle i) (list_all is_idle more) e) (idle_on items i places cs streams floors (and_first (is_idle i) (list_all is_idle more) e) h))

replies_idle : (p : ℕ) (posted : BTreeSet ℕ) (rs : Replies) → list_all is_idle (flat_map (reply_items p posted) rs) ≡ true
replies_idle p posted [] = refl
replies_idle p posted (r ∷ rs) =
    list_all-append is_idle (reply_items p posted r) (flat_map (reply_items p posted) rs)
    ∙ and_both (list_all is_idle (reply_items p posted r)) (list_all is_idle (flat_map (reply_items p posted) rs)) (one (is_among posted r.0)) (replies_idle p posted rs)
  where
    one : (b : Bool) → list_all is_idle (item.Reply p r.0 r.1 ∷ body_if b p r.0 r.1) ≡ true
    one true = refl
    one false = refl

reply_idle : (p ticket : ℕ) (path body : List ℕ) (a : Answer) (b : Bool) → list_all is_idle (item.Posted p ticket path body ∷ item.Reply p ticket a ∷ body_if b p ticket a) ≡ true
reply_idle p ticket path body a true = refl
reply_idle p ticket path body a false = refl

taken_idle : (p : ℕ) (posted : BTreeSet ℕ) (ticket : ℕ) (i : WatchItem) → list_all is_idle (taken_items p posted ticket i) ≡ true
taken_idle p posted ticket i = by (is_among posted ticket)
  where
    by : (b : Bool) → list_all is_idle (item.Taken p ticket i ∷ line_if b p ticket i) ≡ true
    by true = refl
    by false = refl

-- ---- a turn

abbrev PartsOf : List Item → World → Type 0
PartsOf items w = Parts items w.places w.calls w.streams w.floors

parts_of : (items : List Item) (w : World) → Ledger items w → PartsOf items w
parts_of items w h = record { starts_say = h.starts_say; calls_say = h.calls_say; streams_say = h.streams_say; floors_say = h.floors_say }

-- the proxy's own items
turn_parts : (items : List Item) (w : World) (p : ℕ) (x : Place) (e : CoreEvent) (o : Outcome) (v : World) (z : Place) (own : List Item) (told : Replies) → Ledger items w → place_at w p ≡ Some x
    → Turn w p (stepped_to x e) e o v z own told → PartsOf (items ++ own) v
turn_parts items w p x _ _ _ _ _ _ h at (ticks o) = idles_on items _ w.places w.calls w.streams w.floors refl (parts_of items w h)
turn_parts items w p x _ _ _ _ _ _ h at (asks_it ticket q o u) = idles_on items _ w.places w.calls w.streams w.floors refl (parts_of items w h)
turn_parts items w p x _ _ _ _ _ _ h at (posts_it ticket path body q o u) = idles_on items _ w.places w.calls w.streams w.floors refl (parts_of items w h)
turn_parts items w p x _ _ _ _ _ _ h at (calls own member ticket q) =
    let i = item.Sent p (next_call w) member ticket q in
    let reading : clock_of p items ≡ x.clock = (subst (StartSays items p) at (h.starts_say p)).clock in
    record {
      starts_say = starts_on items i w.places refl h.starts_say;
      calls_say = calls_sent_on items w.calls (new_call p (stepped_to x event.Work) own member q) ticket refl refl reading h.calls_say;
      streams_say = streams_on items i w.streams refl h.streams_say;
      floors_say = floors_on items i w.floors refl h.floors_say;
    }
turn_parts items w p x _ _ _ _ _ _ h at (opens own member ask) =
    let i = item.Opened p (next_stream w) member (request.Watch ask) in
    record {
      starts_say = starts_on items i w.places refl h.starts_say;
      calls_say = calls_on items i w.calls refl h.calls_say;
      streams_say = streams_opened_on items w.streams (new_stream p (stepped_to x event.Work) own) member (request.Watch ask) refl refl h.streams_say;
      floors_say = floors_on items i w.floors refl h.floors_say;
    }
turn_parts items w p x _ _ _ _ _ _ h at (closes own number e) =
    let k = (h.lives p x at).kept own number e in
    let i = item.Closed p number in
    let v = closed_in w number (nth w.streams number) in
    record {
      starts_say = subst (StartsSay (items ++ i ∷ [])) (sym (closed_places w number (nth w.streams number))) (starts_on items i w.places refl h.starts_say);
      calls_say = subst (CallsSay (items ++ i ∷ [])) (sym (closed_calls w number (nth w.streams number))) (calls_on items i w.calls refl h.calls_say);
      streams_say = subst (StreamsSay (items ++ i ∷ [])) (sym (ap (λ (o : Option OpenedStream). (closed_in w number o).streams) k.there)) (streams_ended_on items w.streams number k.stream i (heard.closes p) k.there h.streams_say);
      floors_say = floors_on items i w.floors refl h.floors_say ∙ sym (closed_floors w number (nth w.streams number));
    }
  where
    closed_places : (w : World) (number : ℕ) (o : Option OpenedStream) → (closed_in w number o).places ≡ w.places
    closed_places w number None = refl
    closed_places w number (Some s) = refl

    closed_floors : (w : World) (number : ℕ) (o : Option OpenedStream) → (closed_in w number o).floors ≡ w.floors
    closed_floors w number None = refl
    closed_floors w number (Some s) = refl
turn_parts items w p x _ _ _ _ _ _ h at (answers number call a o e f) =
    let i = item.Answered number in
    record {
      starts_say = starts_on items i w.places refl h.starts_say;
      calls_say = calls_settled_on items w.calls number call i told.answers e h.calls_say;
      streams_say = streams_on items i w.streams refl h.streams_say;
      floors_say = floors_on items i w.floors refl h.floors_say;
    }
turn_parts items w p x _ _ _ _ _ _ h at (loses number call o e) =
    let i = item.Lost number in
    record {
      starts_say = starts_on items i w.places refl h.starts_say;
      calls_say = calls_settled_on items w.calls number call i told.loses e h.calls_say;
      streams_say = streams_on items i w.streams refl h.streams_say;
      floors_say = floors_on items i w.floors refl h.floors_say;
    }
turn_parts items w p x _ _ _ _ _ _ h at (delivers number s i rest o a b c f g) =
    let j = item.Delivered number in
    record {
      starts_say = starts_on items j w.places refl h.starts_say;
      calls_say = calls_on items j w.calls refl h.calls_say;
      streams_say = streams_moved_on items j w.streams number s (record s { waiting = rest }) refl a refl refl refl h.streams_say;
      floors_say = floors_on items j w.floors refl h.floors_say;
    }
turn_parts items w p x _ _ _ _ _ _ h at (cuts number s o a b c f) =
    let i = item.Cut number in
    record {
      starts_say = starts_on items i w.places refl h.starts_say;
      calls_say = calls_on items i w.calls refl h.calls_say;
      streams_say = streams_ended_on items w.streams number s i heard.cuts a h.streams_say;
      floors_say = floors_on items i w.floors refl h.floors_say;
    }
turn_parts items w p x _ _ _ _ _ _ h at (takes ticket i) = idles_on items _ w.places w.calls w.streams w.floors (taken_idle p x.posted ticket i) (parts_of items w h)
turn_parts items w p x _ _ _ _ _ _ h at (waits ticket o u) = idles_on items _ w.places w.calls w.streams w.floors refl (parts_of items w h)
turn_parts items w p x _ _ _ _ _ _ h at (leaves ticket o) = idles_on items _ w.places w.calls w.streams w.floors refl (parts_of items w h)

-- ---- each life

same_place : (x : Place) → SamePlace x x
same_place x = record { lived = refl; streams = refl; aged = aged_itself (side x.core) }

fetched_place : (x y : Place) → IsFetched x y → SamePlace x y
fetched_place x y f = record { lived = f.life; streams = f.streams; aged = f.aged }

-- one that is new: calls and streams of its proxy are of earlier lives
module _ (namespace : List ℕ) (items : List Item) (w : World) (p : ℕ) (ok : WorldOk namespace items w) (h : Ledger items w) where
  call_before : {A : Type 0} (n : ℕ) (c : SentCall) (clock life' : ℕ) (i : Item) → nth w.calls n ≡ Some c → c.proxy ≡ p → c.life ≡ life' → Begins w p clock life' i → A
  call_before n c _ _ _ e q l (first none) = let k = ok.calls n c e in no_place k.place (sym none ∙ sym (ap (place_at w) q) ∙ k.at)
  call_before n c _ _ _ e q l (again x at) =
      let k = ok.calls n c e in
      let one : k.place ≡ x = one_place k.place x (sym k.at ∙ ap (place_at w) q ∙ at) in
      let low : c.life ≤ x.life = subst (λ (y : Place). c.life ≤ y.life) one k.life in
      absurd (omega (arith, low, l))

  stream_before : {A : Type 0} (n : ℕ) (s : OpenedStream) (clock life' : ℕ) (i : Item) → nth w.streams n ≡ Some s → s.proxy ≡ p → s.life ≡ life' → Begins w p clock life' i → A
  stream_before n s _ _ _ e q l (first none) = let k = h.placed n s e in no_place k.place (sym none ∙ sym (ap (place_at w) q) ∙ k.at)
  stream_before n s _ _ _ e q l (again x at) =
      let k = h.placed n s e in
      let one : k.place ≡ x = one_place k.place x (sym k.at ∙ ap (place_at w) q ∙ at) in
      let low : s.life ≤ x.life = subst (λ (y : Place). s.life ≤ y.life) one k.older in
      absurd (omega (arith, low, l))

  new_life : (clock life' : ℕ) (i : Item) → Begins w p clock life' i → LifeSays w.calls w.streams (items ++ i ∷ []) p (new_place w clock life')
  new_life clock life' i b = record {
    tickets = λ t e. absurd (let no_way : false ≡ true = sym (ap (is_given_ticket p t) (started_life items p clock life' w i b)) ∙ e in cc);
    sent = λ n c e q l. call_before n c clock life' i e q l b;
    opened = λ n s e q l. stream_before n s clock life' i e q l b;
    kept = λ own n e. absurd (cc);
    gone = λ n s e q l. stream_before n s clock life' i e q l b;
    apart = tt;
    waiting = start_waits (settings w);
    watches = tt;
  }

-- a turn's own items start nothing
pub turn_live : (w : World) (p : ℕ) (x : Place) (e : CoreEvent) (o : Outcome) (v : World) (y : Place) (own : List Item) (told : Replies) → Turn w p x e o v y own told → (q : ℕ) → Lives q own
turn_live w p x _ _ _ _ _ _ (ticks o) q = λ l. refl
turn_live w p x _ _ _ _ _ _ (asks_it ticket r o u) q = λ l. refl
turn_live w p x _ _ _ _ _ _ (posts_it ticket path body r o u) q = λ l. append_assoc l (item.Posted p ticket path body ∷ []) (item.Asked p ticket r ∷ [])
turn_live w p x _ _ _ _ _ _ (calls own member ticket r) q = λ l. refl
turn_live w p x _ _ _ _ _ _ (opens own member ask) q = λ l. refl
turn_live w p x _ _ _ _ _ _ (closes own number e) q = λ l. refl
turn_live w p x _ _ _ _ _ _ (answers number call a o e f) q = λ l. refl
turn_live w p x _ _ _ _ _ _ (loses number call o e) q = λ l. refl
turn_live w p x _ _ _ _ _ _ (delivers number s i rest o a b c f g) q = λ l. refl
turn_live w p x _ _ _ _ _ _ (cuts number s o a b c f) q = λ l. refl
turn_live w p x _ _ _ _ _ _ (takes ticket i) q = taken_lives q p x.posted ticket i
turn_live w p x _ _ _ _ _ _ (waits ticket o u) q = λ l. refl
turn_live w p x _ _ _ _ _ _ (leaves ticket o) q = λ l. refl

-- what a line does to each life
module _ (namespace : List ℕ) (items gained : List Item) (w after : World) (ok : WorldOk namespace items w) (h : Ledger items w) where
  -- behind a step, before its replies are fetched
  stepped_life : (q : ℕ) (y : Place) (s : Stepped w gained q y) → LifeSays s.world.calls s.world.streams (items ++ s.own) q s.behind
  stepped_life q y s =
      turn_lives w.calls s.world.calls w.streams s.world.streams items s.own q s.place s.behind s.event s.outcome s.out (turn_live w q (stepped_to s.place s.event) s.event s.outcome s.world s.behind s.own s.told s.turn q)
      (turn_facts items w q s.place s.event s.outcome s.world s.behind s.own s.told (ok.places q s.place s.at).unasked s.out (h.lives q s.place s.at) s.turn) (h.lives q s.place s.at)

  -- with them
  fetched_life : (q : ℕ) (y : Place) (s : Stepped w gained q y) → LifeSays s.world.calls s.world.streams (items ++ gained) q y
  fetched_life q y s =
      let f = all_fetched s.behind s.told in
      let rest = flat_map (reply_items q f.place.posted) f.replies in
      let fetched = all_so s.behind s.told in
      let k = stepped_life q y s in
      let lives = (replies_silent q q f.place.posted f.replies).lives in
      subst (λ (z : Place). LifeSays s.world.calls s.world.streams (items ++ gained) q z) (sym s.is)
      (subst (λ (xs : List Item). LifeSays s.world.calls s.world.streams xs q f.place) (append_assoc items s.own rest ∙ ap (λ (xs : List Item). items ++ xs) (sym s.gains))
      (life_later s.world.calls s.world.calls s.world.streams s.world.streams (items ++ s.own) rest q s.behind f.place lives
      (none_given (items ++ s.own) rest q s.behind f.place lives (replies_ungiven q q f.place.posted f.replies) fetched.tickets k.tickets)
      (beside_itself q s.world.calls s.world.streams) (fetched_place s.behind f.place fetched) k))

  quiet_life : (q : ℕ) (x y : Place) → SamePlace x y → y.tickets ≡ x.tickets → Quiet q gained → BesideIn q w after → LifeSays w.calls w.streams items q x → LifeSays after.calls after.streams (items ++ gained) q y
  quiet_life q x y same tickets u b k = life_later w.calls after.calls w.streams after.streams items gained q x y u.lives (none_given items gained q x y u.lives u.given tickets k.tickets) b same k

  marked_life : (q : ℕ) (x : Place) (ticket : ℕ) (path body : List ℕ) (a : Answer) → gained ≡ item.Posted q ticket path body ∷ reply_items q (with_posted ticket x).posted (ticket, a) → BesideIn q w after
      → LifeSays w.calls w.streams items q x → LifeSays after.calls after.streams (items ++ gained) q (with_posted ticket x)
  marked_life q x ticket path body a g b k =
      let rest = reply_items q (with_posted ticket x).posted (ticket, a) in
      let more = item.Posted q ticket path body ∷ rest in
      let lives = lives-append q (item.Posted q ticket path body ∷ []) rest (λ l. refl) (reply_silent q q (with_posted ticket x).posted (ticket, a)).lives in
      subst (λ (xs : List Item). LifeSays after.calls after.streams (items ++ xs) q (with_posted ticket x)) (sym g)
      (life_later w.calls after.calls w.streams after.streams items more q x (with_posted ticket x) lives
      (λ t e. given_either items more q (is_among (with_number x.tickets ticket) t ≡ true) t lives (λ f. among_still x.tickets ticket t (k.tickets t f))
      (λ f. given_new x.tickets q ticket t (is_given_ticket q t rest) f (λ c. absurd (let no_way : true ≡ false = sym c ∙ reply_ungiven q q (with_posted ticket x).posted (ticket, a) t in cc))) e)
      b (record { lived = refl; streams = refl; aged = aged_itself (side x.core) }) k)

  life_after : (q : ℕ) (y : Place) → PlaceAfter w after gained q y → LifeSays after.calls after.streams (items ++ gained) q y
  life_after q y (stays at u b) = quiet_life q y y (same_place y) refl u b (h.lives q y at)
  life_after q y (sets_it x millis at e u b) =
      subst (λ (z : Place). LifeSays after.calls after.streams (items ++ gained) q z) (sym e)
      (quiet_life q x (record x { clock = millis }) (record { lived = refl; streams = refl; aged = aged_itself (side x.core) }) refl u b (h.lives q x at))
  life_after q y (marks x ticket path body a at e g b) = subst (λ (z : Place). LifeSays after.calls after.streams (items ++ gained) q z) (sym e) (marked_life q x ticket path body a g b (h.lives q x at))
  life_after q y (begins_it clock life' i b e g same kept) =
      subst (λ (z : Place). LifeSays after.calls after.streams (items ++ gained) q z) (sym e)
      (subst (λ (xs : List Item). LifeSays after.calls after.streams (items ++ xs) q (new_place w clock life')) (sym g)
      (subst (λ (cs : List SentCall). LifeSays cs after.streams (items ++ i ∷ []) q (new_place w clock life')) (sym same)
      (subst (λ (ss : List OpenedStream). LifeSays w.calls ss (items ++ i ∷ []) q (new_place w clock life')) (sym kept) (new_life namespace items w q ok h clock life' i b))))
  life_after q y (steps_it s same kept) =
      subst (λ (cs : List SentCall). LifeSays cs after.streams (items ++ gained) q y) (sym same)
      (subst (λ (ss : List OpenedStream). LifeSays s.world.calls ss (items ++ gained) q y) (sym kept) (fetched_life q y s))

-- ---- places last

-- a proxy that was started stands
pub record Lasts (after : World) (q : ℕ) (x : Place) : Type 0 where
  pub place : Place
  pub at : place_at after q ≡ Some place
  pub older : x.life ≤ place.life

put_lasts : (w v : World) (p : ℕ) (z : Place) → v.places ≡ w.places → ((x : Place) → place_at w p ≡ Some x → x.life ≤ z.life) → (q : ℕ) (x : Place) → place_at w q ≡ Some x → Lasts (with_place v p z) q x
put_lasts w v p z same older q x at = by (q == p) refl
  where
    by : (b : Bool) → (q == p) ≡ b → Lasts (with_place v p z) q x
    by true n =
        let there = equal q p n in
        record { place = z; at = ap (place_at (with_place v p z)) there ∙ placed_itself w v p z; older = older x (ap (place_at w) (sym there) ∙ at) }
    by false n = record { place = x; at = placed_other w v p q z same n ∙ at; older = omega arith }

one_older : (w : World) (p : ℕ) (x z : Place) → place_at w p ≡ Some x → x.life ≤ z.life → (y : Place) → place_at w p ≡ Some y → y.life ≤ z.life
one_older w p x z at l y e = subst (λ (u : Place). u.life ≤ z.life) (one_place x y (sym at ∙ e)) l

begun_older : (w : World) (p clock life' : ℕ) (i : Item) → Begins w p clock life' i → (x : Place) → place_at w p ≡ Some x → x.life ≤ life'
begun_older w p _ _ _ (first none) x e = no_place x (sym none ∙ e)
begun_older w p _ _ _ (again y at) x e = one_older w p y (record y { life = y.life + 1 }) at (omega arith) x e

-- a turn's place is of the same life
turn_lived : (w : World) (p : ℕ) (x : Place) (e : CoreEvent) (o : Outcome) (v : World) (y : Place) (own : List Item) (told : Replies) → Turn w p x e o v y own told → y.life ≡ x.life
turn_lived w p x _ _ _ _ _ _ (ticks o) = refl
turn_lived w p x _ _ _ _ _ _ (asks_it ticket q o u) = refl
turn_lived w p x _ _ _ _ _ _ (posts_it ticket path body q o u) = refl
turn_lived w p x _ _ _ _ _ _ (calls own member ticket q) = refl
turn_lived w p x _ _ _ _ _ _ (opens own member ask) = refl
turn_lived w p x _ _ _ _ _ _ (closes own number e) = refl
turn_lived w p x _ _ _ _ _ _ (answers number call a o e f) = refl
turn_lived w p x _ _ _ _ _ _ (loses number call o e) = refl
turn_lived w p x _ _ _ _ _ _ (delivers number s i rest o a b c f g) = refl
turn_lived w p x _ _ _ _ _ _ (cuts number s o a b c f) = refl
turn_lived w p x _ _ _ _ _ _ (takes ticket i) = refl
turn_lived w p x _ _ _ _ _ _ (waits ticket o u) = refl
turn_lived w p x _ _ _ _ _ _ (leaves ticket o) = refl

pub places_last : (w after : World) (gained : List Item) → Effect w after gained → (q : ℕ) (x : Place) → place_at w q ≡ Some x → Lasts after q x
places_last w _ _ (starts p clock life' i b) = put_lasts w w p (new_place w clock life') refl (begun_older w p clock life' i b)
places_last w _ _ (sets p millis x e forward) = put_lasts w w p (record x { clock = millis }) refl (one_older w p x (record x { clock = millis }) e (omega arith))
places_last w _ _ (refuses_post p ticket path body a x e) = put_lasts w w p (with_posted ticket x) refl (one_older w p x (with_posted ticket x) e (omega arith))
places_last w _ _ (executes number call e fresh) = λ q x at. record { place = x; at = at; older = omega arith }
places_last w _ _ (expires lease t e due) = λ q x at. record { place = x; at = at; older = omega arith }
places_last w _ _ (applies member revision t e) = λ q x at. record { place = x; at = at; older = omega arith }
places_last w _ _ (pushes number s t i e a b k) = λ q x at. record { place = x; at = at; older = omega arith }
places_last w _ _ (turns p x e o v y own told at out t) =
    let f = all_fetched y told in
    let same : f.place.life ≡ x.life = (all_so y told).life ∙ turn_lived w p (stepped_to x e) e o v y own told t in
    put_lasts w v p f.place (turn_places w p (stepped_to x e) e o v y own told t) (one_older w p x f.place at (omega (arith, same)))

-- each stream's proxy stands
lasting_placed : (w after : World) (s u : OpenedStream) → ((q : ℕ) (x : Place) → place_at w q ≡ Some x → Lasts after q x) → u.proxy ≡ s.proxy → u.life ≡ s.life → Placed w s → Placed after u
lasting_placed w after s u lasts proxy lived k =
    let l = lasts s.proxy k.place k.at in
    let low = k.older in
    let up = l.older in
    record { place = l.place; at = ap (place_at after) proxy ∙ l.at; older = omega (arith, low, up, lived) }

changed_placed : (w after : World) (number : ℕ) (s t : OpenedStream) → ((q : ℕ) (x : Place) → place_at w q ≡ Some x → Lasts after q x) → nth w.streams number ≡ Some s → t.proxy ≡ s.proxy → t.life ≡ s.life
    → ((n : ℕ) (u : OpenedStream) → nth w.streams n ≡ Some u → Placed w u) → (n : ℕ) (u : OpenedStream) → nth (with_nth w.streams number t) n ≡ Some u → Placed after u
changed_placed w after number s t lasts at proxy lived h n u e = elim (nth_changed w.streams number n s t u at e) [
  | inl k ↦ lasting_placed w after s u lasts (sym (ap (λ (x : OpenedStream). x.proxy) k.1) ∙ proxy) (sym (ap (λ (x : OpenedStream). x.life) k.1) ∙ lived) (h number s at)
  | inr k ↦ lasting_placed w after u u lasts refl refl (h n u k.1)
]

pushed_placed : (w after : World) (p : ℕ) (x : Place) (new : OpenedStream) → ((q : ℕ) (x : Place) → place_at w q ≡ Some x → Lasts after q x) → place_at w p ≡ Some x → new.proxy ≡ p → new.life ≡ x.life
    → ((n : ℕ) (u : OpenedStream) → nth w.streams n ≡ Some u → Placed w u) → (n : ℕ) (u : OpenedStream) → nth (w.streams ++ new ∷ []) n ≡ Some u → Placed after u
pushed_placed w after p x new lasts at proxy lived h n u e = elim (nth_push w.streams new n u e) [
  | inl k ↦ lasting_placed w after u u lasts refl refl (h n u k)
  | inr k ↦ lasting_placed w after new u lasts (sym (ap (λ (s : OpenedStream). s.proxy) k.1)) (sym (ap (λ (s : OpenedStream). s.life) k.1))
      (record { place = x; at = ap (place_at w) proxy ∙ at; older = omega (arith, lived) })
]

turn_placed : (items : List Item) (w : World) (p : ℕ) (x : Place) (e : CoreEvent) (o : Outcome) (v : World) (y : Place) (own : List Item) (told : Replies) (after : World) → Ledger items w → place_at w p ≡ Some x
    → ((q : ℕ) (x : Place) → place_at w q ≡ Some x → Lasts after q x) → Turn w p (stepped_to x e) e o v y own told → (n : ℕ) (u : OpenedStream) → nth v.streams n ≡ Some u → Placed after u
turn_placed items w p x _ _ _ _ _ _ after h at lasts (opens own member ask) n u e = pushed_placed w after p x (new_stream p (stepped_to x event.Work) own) lasts at refl refl h.placed n u e
turn_placed items w p x _ _ _ _ _ _ after h at lasts (closes own number k) n u e =
    let s = (h.lives p x at).kept own number k in
    changed_placed w after number s.stream (ended s.stream) lasts s.there refl refl h.placed n u (sym (ap (λ (o : Option OpenedStream). nth (closed_in w number o).streams n) s.there) ∙ e)
turn_placed items w p x _ _ _ _ _ _ after h at lasts (delivers number s i rest o a b c f g) n u e = changed_placed w after number s (record s { waiting = rest }) lasts a refl refl h.placed n u e
turn_placed items w p x _ _ _ _ _ _ after h at lasts (cuts number s o a b c f) n u e = changed_placed w after number s (ended s) lasts a refl refl h.placed n u e
turn_placed items w p x _ _ _ _ _ _ after h at lasts (ticks o) n u e = lasting_placed w after u u lasts refl refl (h.placed n u e)
turn_placed items w p x _ _ _ _ _ _ after h at lasts (asks_it ticket q o k) n u e = lasting_placed w after u u lasts refl refl (h.placed n u e)
turn_placed items w p x _ _ _ _ _ _ after h at lasts (posts_it ticket path body q o k) n u e = lasting_placed w after u u lasts refl refl (h.placed n u e)
turn_placed items w p x _ _ _ _ _ _ after h at lasts (calls own member ticket q) n u e = lasting_placed w after u u lasts refl refl (h.placed n u e)
turn_placed items w p x _ _ _ _ _ _ after h at lasts (answers number call a o c f) n u e = lasting_placed w after u u lasts refl refl (h.placed n u e)
turn_placed items w p x _ _ _ _ _ _ after h at lasts (loses number call o c) n u e = lasting_placed w after u u lasts refl refl (h.placed n u e)
turn_placed items w p x _ _ _ _ _ _ after h at lasts (takes ticket i) n u e = lasting_placed w after u u lasts refl refl (h.placed n u e)
turn_placed items w p x _ _ _ _ _ _ after h at lasts (waits ticket o k) n u e = lasting_placed w after u u lasts refl refl (h.placed n u e)
turn_placed items w p x _ _ _ _ _ _ after h at lasts (leaves ticket o) n u e = lasting_placed w after u u lasts refl refl (h.placed n u e)

effect_placed : (items : List Item) (w after : World) (gained : List Item) → Ledger items w → ((q : ℕ) (x : Place) → place_at w q ≡ Some x → Lasts after q x) → Effect w after gained → (n : ℕ) (u : OpenedStream) → nth after.streams n ≡ Some u → Placed after u
effect_placed items w _ _ h lasts (starts p clock life' i b) n u e = lasting_placed w _ u u lasts refl refl (h.placed n u e)
effect_placed items w _ _ h lasts (sets p millis x at forward) n u e = lasting_placed w _ u u lasts refl refl (h.placed n u e)
effect_placed items w _ _ h lasts (refuses_post p ticket path body a x at) n u e = lasting_placed w _ u u lasts refl refl (h.placed n u e)
effect_placed items w _ _ h lasts (executes number call at fresh) n u e = lasting_placed w _ u u lasts refl refl (h.placed n u e)
effect_placed items w _ _ h lasts (expires lease t at due) n u e = lasting_placed w _ u u lasts refl refl (h.placed n u e)
effect_placed items w _ _ h lasts (applies member revision t at) n u e = lasting_placed w _ u u lasts refl refl (h.placed n u e)
effect_placed items w _ _ h lasts (pushes number s t i at a b k) n u e = changed_placed w _ number s (with_message i s) lasts at refl refl h.placed n u e
effect_placed items w _ _ h lasts (turns p x ev o v y own told at out t) n u e =
    turn_placed items w p x ev o v y own told (with_place v p (all_fetched y told).place) h at lasts t n u e

-- ---- floors are of proxies that stand

lasting_floors : (w after : World) (floors : Numbered Floor) → ((q : ℕ) (x : Place) → place_at w q ≡ Some x → Lasts after q x) → AreOf (λ p. (x : Place) × (place_at w p ≡ Some x)) floors → AreOf (λ p. (x : Place) × (place_at after p ≡ Some x)) floors
lasting_floors w after floors lasts h lease f e = let k = h lease f e in let l = lasts f.proxy k.0 k.1 in (l.place, l.at)

turn_floors : (w : World) (p : ℕ) (x : Place) (e : CoreEvent) (o : Outcome) (v : World) (y : Place) (own : List Item) (told : Replies) → Turn w p x e o v y own told → v.floors ≡ w.floors
turn_floors w p x _ _ _ _ _ _ (closes own number e) = by (nth w.streams number)
  where
    by : (o : Option OpenedStream) → (closed_in w number o).floors ≡ w.floors
    by None = refl
    by (Some s) = refl
turn_floors w p x _ _ _ _ _ _ (ticks o) = refl
turn_floors w p x _ _ _ _ _ _ (asks_it ticket q o u) = refl
turn_floors w p x _ _ _ _ _ _ (posts_it ticket path body q o u) = refl
turn_floors w p x _ _ _ _ _ _ (calls own member ticket q) = refl
turn_floors w p x _ _ _ _ _ _ (opens own member ask) = refl
turn_floors w p x _ _ _ _ _ _ (answers number call a o e f) = refl
turn_floors w p x _ _ _ _ _ _ (loses number call o e) = refl
turn_floors w p x _ _ _ _ _ _ (delivers number s i rest o a b c f g) = refl
turn_floors w p x _ _ _ _ _ _ (cuts number s o a b c f) = refl
turn_floors w p x _ _ _ _ _ _ (takes ticket i) = refl
turn_floors w p x _ _ _ _ _ _ (waits ticket o u) = refl
turn_floors w p x _ _ _ _ _ _ (leaves ticket o) = refl

effect_floors : (namespace : List ℕ) (items : List Item) (w after : World) (gained : List Item) → WorldOk namespace items w → Ledger items w → ((q : ℕ) (x : Place) → place_at w q ≡ Some x → Lasts after q x) → Effect w after gained
    → AreOf (λ p. (x : Place) × (place_at after p ≡ Some x)) after.floors
effect_floors namespace items w _ _ ok h lasts (starts p clock life' i b) = lasting_floors w _ w.floors lasts h.floors_of
effect_floors namespace items w _ _ ok h lasts (sets p millis x at forward) = lasting_floors w _ w.floors lasts h.floors_of
effect_floors namespace items w _ _ ok h lasts (refuses_post p ticket path body a x at) = lasting_floors w _ w.floors lasts h.floors_of
effect_floors namespace items w _ _ ok h lasts (executes number call at fresh) =
    let k = ok.calls number call at in
    floors_are_of (λ p. (x : Place) × (place_at w p ≡ Some x)) call (exec w.store call.member call.request).1 w.floors (k.place, k.at) h.floors_of
effect_floors namespace items w _ _ ok h lasts (expires lease t at due) = lasting_floors w _ w.floors lasts h.floors_of
effect_floors namespace items w _ _ ok h lasts (applies member revision t at) = lasting_floors w _ w.floors lasts h.floors_of
effect_floors namespace items w _ _ ok h lasts (pushes number s t i at a b k) = lasting_floors w _ w.floors lasts h.floors_of
effect_floors namespace items w _ _ ok h lasts (turns p x e o v y own told at out t) =
    subst (AreOf (λ q. (x : Place) × (place_at (with_place v p (all_fetched y told).place) q ≡ Some x))) (sym (turn_floors w p (stepped_to x e) e o v y own told t)) (lasting_floors w _ w.floors lasts h.floors_of)

-- ---- the world's parts

begun_parts : (items : List Item) (w : World) (p clock life' : ℕ) (i : Item) → Ledger items w → Begins w p clock life' i → PartsOf (items ++ i ∷ []) (with_place w p (new_place w clock life'))
begun_parts items w p _ _ _ h (first none) = record {
  starts_say = starts_first items w.places p (new_place w 0 1) none refl h.starts_say;
  calls_say = calls_on items (item.Started p) w.calls refl h.calls_say;
  streams_say = streams_on items (item.Started p) w.streams refl h.streams_say;
  floors_say = floors_on items (item.Started p) w.floors refl h.floors_say;
}
begun_parts items w p _ _ _ h (again x at) = record {
  starts_say = starts_again items w.places p x (new_place w x.clock (x.life + 1)) at refl h.starts_say;
  calls_say = calls_on items (item.Restarted p) w.calls refl h.calls_say;
  streams_say = streams_on items (item.Restarted p) w.streams refl h.streams_say;
  floors_say = floors_on items (item.Restarted p) w.floors refl h.floors_say;
}

-- a proxy's place is put anew, at the same reading
put_parts : (items : List Item) (v : World) (p : ℕ) (x z : Place) → kept_at v.places p ≡ Some x → z.clock ≡ x.clock → PartsOf items v → PartsOf items (with_place v p z)
put_parts items v p x z at same k = record { starts_say = starts_same items v.places p x z at same k.starts_say; calls_say = k.calls_say; streams_say = k.streams_say; floors_say = k.floors_say }

turn_clock : (w : World) (p : ℕ) (x : Place) (e : CoreEvent) (o : Outcome) (v : World) (y : Place) (own : List Item) (told : Replies) → Turn w p x e o v y own told → y.clock ≡ x.clock
turn_clock w p x _ _ _ _ _ _ (ticks o) = refl
turn_clock w p x _ _ _ _ _ _ (asks_it ticket q o u) = refl
turn_clock w p x _ _ _ _ _ _ (posts_it ticket path body q o u) = refl
turn_clock w p x _ _ _ _ _ _ (calls own member ticket q) = refl
turn_clock w p x _ _ _ _ _ _ (opens own member ask) = refl
turn_clock w p x _ _ _ _ _ _ (closes own number e) = refl
turn_clock w p x _ _ _ _ _ _ (answers number call a o e f) = refl
turn_clock w p x _ _ _ _ _ _ (loses number call o e) = refl
turn_clock w p x _ _ _ _ _ _ (delivers number s i rest o a b c f g) = refl
turn_clock w p x _ _ _ _ _ _ (cuts number s o a b c f) = refl
turn_clock w p x _ _ _ _ _ _ (takes ticket i) = refl
turn_clock w p x _ _ _ _ _ _ (waits ticket o u) = refl
turn_clock w p x _ _ _ _ _ _ (leaves ticket o) = refl

-- fetching sets no clock
fetched_clock : (n : ℕ) (x : Place) (got : Replies) → (fetched n x got).place.clock ≡ x.clock
fetched_clock zero x got = refl
fetched_clock (suc n) x got = by (ready x.core) (λ y g. fetched_clock n y g)
  where
    by_outcome : (ticket : ℕ) (y : Place) (r : Result Outcome StepFault) → y.clock ≡ x.clock → ((y : Place) (g : Replies) → (fetched n y g).place.clock ≡ y.clock) → (fetched_as (fetched n) y ticket got r).place.clock ≡ x.clock
    by_outcome ticket y (Ok (outcome.Replied a)) e more = more y (with_reply ticket a got) ∙ e
    by_outcome ticket y (Ok outcome.Waiting) e more = e
    by_outcome ticket y (Ok outcome.Pending) e more = e
    by_outcome ticket y (Ok outcome.Noted) e more = e
    by_outcome ticket y (Ok (outcome.Item i)) e more = e
    by_outcome ticket y (Ok (outcome.Job j)) e more = e
    by_outcome ticket y (Err f) e more = e

    by : (o : Option ℕ) → ((y : Place) (g : Replies) → (fetched n y g).place.clock ≡ y.clock) → (fetched_if (fetched n) x got o).place.clock ≡ x.clock
    by None more = refl
    by (Some ticket) more = by_outcome ticket (with_core x (stepped x.core (event.Take ticket) x.clock).core) (stepped x.core (event.Take ticket) x.clock).outcome refl more

effect_parts : (items : List Item) (w after : World) (gained : List Item) → Ledger items w → Effect w after gained → PartsOf (items ++ gained) after
effect_parts items w _ _ h (starts p clock life' i b) = begun_parts items w p clock life' i h b
effect_parts items w _ _ h (sets p millis x at forward) = record {
  starts_say = starts_set items w.places p millis x at h.starts_say;
  calls_say = calls_on items (item.Clock p millis) w.calls refl h.calls_say;
  streams_say = streams_on items (item.Clock p millis) w.streams refl h.streams_say;
  floors_say = floors_on items (item.Clock p millis) w.floors refl h.floors_say;
}
effect_parts items w _ _ h (refuses_post p ticket path body a x at) =
    put_parts _ w p x (with_posted ticket x) at refl (idles_on items _ w.places w.calls w.streams w.floors (reply_idle p ticket path body a (is_among (with_posted ticket x).posted ticket)) (parts_of items w h))
effect_parts items w _ _ h (executes number call at fresh) =
    let a = (exec w.store call.member call.request).1 in
    let i = item.Executed number a in
    record {
      starts_say = starts_on items i w.places refl h.starts_say;
      calls_say = calls_executed_on items w.calls number call a at fresh h.calls_say;
      streams_say = streams_on items i w.streams refl h.streams_say;
      floors_say = floors_executed items number call a w.floors ((h.calls_say.each number).sent ∙ ap bare_of at) h.floors_say;
    }
effect_parts items w _ _ h (expires lease t at due) = let k = idles_on items (item.Expired lease ∷ []) w.places w.calls w.streams w.floors refl (parts_of items w h) in
    record { starts_say = k.starts_say; calls_say = k.calls_say; streams_say = k.streams_say; floors_say = k.floors_say }
effect_parts items w _ _ h (applies member revision t at) = let k = idles_on items (item.Applied member revision ∷ []) w.places w.calls w.streams w.floors refl (parts_of items w h) in
    record { starts_say = k.starts_say; calls_say = k.calls_say; streams_say = k.streams_say; floors_say = k.floors_say }
effect_parts items w _ _ h (pushes number s t i at a b k) =
    let j = item.Pushed number i in
    record {
      starts_say = starts_on items j w.places refl h.starts_say;
      calls_say = calls_on items j w.calls refl h.calls_say;
      streams_say = streams_pushed_on items w.streams number s i at b h.streams_say;
      floors_say = floors_on items j w.floors refl h.floors_say;
    }
effect_parts items w _ _ h (turns p x e o v y own told at out t) =
    let f = all_fetched y told in
    let rest = flat_map (reply_items p f.place.posted) f.replies in
    let k = idles_on (items ++ own) rest v.places v.calls v.streams v.floors (replies_idle p f.place.posted f.replies) (turn_parts items w p x e o v y own told h at t) in
    let same : f.place.clock ≡ x.clock = fetched_clock (length y.core.asks) y told ∙ turn_clock w p (stepped_to x e) e o v y own told t in
    subst (λ (xs : List Item). PartsOf xs (with_place v p f.place)) (append_assoc items own rest)
    (put_parts ((items ++ own) ++ rest) v p x f.place (ap (λ (ps : Numbered Place). kept_at ps p) (turn_places w p (stepped_to x e) e o v y own told t) ∙ at) same k)

-- ---- the whole

-- the world's first words stay
record SameFirst (w after : World) : Type 0 where
  members : after.members ≡ w.members
  namespace : after.namespace ≡ w.namespace
  leasing : after.leasing ≡ w.leasing

first_same : (w : World) → SameFirst w w
first_same w = record { members = refl; namespace = refl; leasing = refl }

turn_first : (w : World) (p : ℕ) (x : Place) (e : CoreEvent) (o : Outcome) (v : World) (y : Place) (own : List Item) (told : Replies) → Turn w p x e o v y own told → SameFirst w v
turn_first w p x _ _ _ _ _ _ (closes own number e) = by (nth w.streams number)
  where
    by : (o : Option OpenedStream) → SameFirst w (closed_in w number o)
    by None = first_same w
    by (Some s) = record { members = refl; namespace = refl; leasing = refl }
turn_first w p x _ _ _ _ _ _ (ticks o) = first_same w
turn_first w p x _ _ _ _ _ _ (asks_it ticket q o u) = first_same w
turn_first w p x _ _ _ _ _ _ (posts_it ticket path body q o u) = first_same w
turn_first w p x _ _ _ _ _ _ (calls own member ticket q) = record { members = refl; namespace = refl; leasing = refl }
turn_first w p x _ _ _ _ _ _ (opens own member ask) = record { members = refl; namespace = refl; leasing = refl }
turn_first w p x _ _ _ _ _ _ (answers number call a o e f) = record { members = refl; namespace = refl; leasing = refl }
turn_first w p x _ _ _ _ _ _ (loses number call o e) = record { members = refl; namespace = refl; leasing = refl }
turn_first w p x _ _ _ _ _ _ (delivers number s i rest o a b c f g) = record { members = refl; namespace = refl; leasing = refl }
turn_first w p x _ _ _ _ _ _ (cuts number s o a b c f) = record { members = refl; namespace = refl; leasing = refl }
turn_first w p x _ _ _ _ _ _ (takes ticket i) = first_same w
turn_first w p x _ _ _ _ _ _ (waits ticket o u) = first_same w
turn_first w p x _ _ _ _ _ _ (leaves ticket o) = first_same w

effect_same : (w after : World) (gained : List Item) → Effect w after gained → SameFirst w after
effect_same w _ _ (starts p clock life' i b) = record { members = refl; namespace = refl; leasing = refl }
effect_same w _ _ (sets p millis x at forward) = record { members = refl; namespace = refl; leasing = refl }
effect_same w _ _ (refuses_post p ticket path body a x at) = record { members = refl; namespace = refl; leasing = refl }
effect_same w _ _ (executes number call at fresh) = record { members = refl; namespace = refl; leasing = refl }
effect_same w _ _ (expires lease t at due) = record { members = refl; namespace = refl; leasing = refl }
effect_same w _ _ (applies member revision t at) = record { members = refl; namespace = refl; leasing = refl }
effect_same w _ _ (pushes number s t i at a b k) = record { members = refl; namespace = refl; leasing = refl }
effect_same w _ _ (turns p x e o v y own told at out t) = let s = turn_first w p (stepped_to x e) e o v y own told t in record { members = s.members; namespace = s.namespace; leasing = s.leasing }

effect_begun : (items : List Item) (w after : World) (gained : List Item) → Begun items w → Effect w after gained → Begun (items ++ gained) after
effect_begun items w after gained h f = let s = effect_same w after gained f in record {
  rest = h.rest ++ gained;
  is = ap (λ (xs : List Item). xs ++ gained) h.is ∙ (λ j. item.World (sym s.members j) (sym s.namespace j) (sym s.leasing j) ∷ (h.rest ++ gained));
}

pub ledger_on : (namespace : List ℕ) (items : List Item) (w after : World) (gained : List Item) → WorldOk namespace items w → Ledger items w → Effect w after gained → Ledger (items ++ gained) after
ledger_on namespace items w after gained ok h f =
    let parts = effect_parts items w after gained h f in
    let lasts = places_last w after gained f in
    record {
      begun = effect_begun items w after gained h.begun f;
      starts_say = parts.starts_say;
      calls_say = parts.calls_say;
      streams_say = parts.streams_say;
      floors_say = parts.floors_say;
      floors_of = effect_floors namespace items w after gained ok h lasts f;
      placed = effect_placed items w after gained h lasts f;
      lives = λ q y at. life_after namespace items gained w after ok h q y (effect_places w after gained (λ p x e. (h.lives p x e).kept) f q y at);
    }

none_nth : {A X : Type 0} (x : X) (number : ℕ) → nth [] number ≡ Some x → A
none_nth {A} {X} x number e = by (number == 0) e
  where
    by : (b : Bool) → ◌≡◌ {A = Option X} (cond b None (slice_get [] (number - 1))) (Some x) → A
    by true e = absurd (cc)
    by false e = absurd (cc)

nothing_at : {A : Type 0} (n : ℕ) → nth {A = A} [] n ≡ None
nothing_at {A} n = by (n == 0)
  where
    by : (b : Bool) → ◌≡◌ {A = Option A} (cond b None (slice_get [] (n - 1))) None
    by true = refl
    by false = refl

starting : (members : ℕ) (namespace leasing : List ℕ) → Ledger (item.World members namespace leasing ∷ []) (starting_world members namespace leasing)
starting members namespace leasing = record {
  begun = record { rest = []; is = refl };
  starts_say = λ p. record { started = refl; clock = refl };
  calls_say = record { count = refl; each = λ n. subst (told.CallSays (item.World members namespace leasing ∷ []) n) (sym (nothing_at n)) (record { sender = refl; ran = refl; settled = refl; sent = refl }) };
  streams_say = record { count = refl; each = λ n. subst (heard.StreamSays (item.World members namespace leasing ∷ []) n) (sym (nothing_at n)) (record { opener = refl; ended = refl; cancelled = refl }) };
  floors_say = refl;
  floors_of = λ lease f e. absurd (cc);
  placed = λ n s e. none_nth s n e;
  lives = λ p x e. no_place x e;
}

pub ledger_kept : (script : List Line) → IsKept script Ledger
ledger_kept script = record {
  begins = starting;
  goes_on = λ namespace items w l gained n e ok h. let k = ledger_on namespace items w (done w l).world gained ok h (effect w l gained e) in record {
    begun = record { rest = k.begun.rest; is = k.begun.is };
    starts_say = k.starts_say;
    calls_say = k.calls_say;
    streams_say = k.streams_say;
    floors_say = k.floors_say;
    floors_of = k.floors_of;
    placed = λ m s at. let q = k.placed m s at in record { place = q.place; at = q.at; older = q.older };
    lives = k.lives;
  };
}
