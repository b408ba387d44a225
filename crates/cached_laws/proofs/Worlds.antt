-- Behind each prefix of a script: what items tell of new keys, awaited reads and leasing streams is so at every proxy.
use Rattle.std.proofs.Common.{◌≡◌, ◌⊎◌, inl, inr, ℕ, ◌+◌, ◌==◌, ◌≤◌, ◌<◌, ◌^◌, Bool, true, false, cond, not, ◌&&◌, ◌||◌, List, [], ◌∷◌, ◌++◌, append_assoc, length, Option, None, Some, is_some, Result, Ok, Err, refl, sym, ◌∙◌, ap, subst, arith}
use Rattle.std.proofs.lemmas.List.Folds.{list_all-append}
use Rattle.std.specs.Prelude.{flat_map}
use Rattle.std.specs.List.{list_all, list_any}
use Rattle.std.specs.BTreeSet.{BTreeSet}
use Rattle.etcd_types.specs.declared.answer.Answer.{Answer}
use Rattle.etcd_types.specs.declared.request.Request.TheVariants as request
use Rattle.etcd_types.specs.declared.watch.WatchItem.{WatchItem}
use Rattle.etcd_types.proofs.Bools.{and_first, and_second, and_both}
use Rattle.proxy_model.specs.declared.session.TheConstants.{FIRST_SESSION}
use Rattle.store_model.specs.Step.{exec}
use Rattle.watch_model.specs.Lookups.{stream_at}
use Rattle.core_model.specs.declared.event.CoreEvent.{CoreEvent}
use Rattle.core_model.specs.declared.event.CoreEvent.TheVariants as event
use Rattle.core_model.specs.declared.event.Job.TheVariants as job
use Rattle.core_model.specs.declared.event.Outcome.{Outcome}
use Rattle.core_model.specs.declared.event.Outcome.TheVariants as outcome
use Rattle.core_model.specs.Fits.{CoreOk}
use Rattle.core_model.specs.State.{Opening, Core, first_core}
use Rattle.core_model.specs.Step.{stepped, is_worn}
use Rattle.core_laws.specs.Steps.Kept.{IsHeard}
use Rattle.core_laws.proofs.Steps.Lists.{same_number, number_itself, number_turned}
use Rattle.core_laws.proofs.Steps.Stepping.{steps_keep}
use Rattle.core_laws.proofs.Steps.Staying.{steps_stay}
use Rattle.core_laws.proofs.Steps.Outcomes.{worn_does_nothing}
use Rattle.core_fits.specs.Fits.{CoreFits}
use Rattle.owner_fits.specs.Laws.{OwnersFit}
use Rattle.owner_fits.proofs.Runs.{steps_fit}
use Rattle.script_text.specs.declared.item.Item.{Item}
use Rattle.script_text.specs.declared.item.Item.TheVariants as item
use Rattle.script_text.specs.declared.line.Line.{Line}
use Rattle.world_model.specs.declared.sent_call.SentCall.{SentCall}
use Rattle.world_model.specs.Gains.{Replies, all_fetched, fetched, body_if, reply_items, line_if}
use Rattle.world_model.specs.Lives.{begins, world_of, opened_it, is_stream_of}
use Rattle.world_model.specs.Places.{nth, with_nth, place_at, with_place, with_posted, with_call, with_stream, ended, is_among}
use Rattle.world_model.specs.Sends.{next_stream, new_stream, closed_in}
use Rattle.world_model.specs.Starts.{settings, new_place}
use Rattle.world_model.specs.State.{Place, OpenedStream, World, word}
use Rattle.world_model.specs.Transcript.{done}
use Rattle.world_laws.proofs.Effects.{Turn, ticks, asks_it, posts_it, calls, opens, closes, answers, loses, delivers, cuts, takes, waits, leaves, Begins, first, again, Effect, starts, sets, executes, expires, applies, pushes, turns}
use Rattle.world_laws.proofs.Effects as effects
use Rattle.world_laws.proofs.Lines.{taken_keeps}
use Rattle.held_laws.proofs.Places.{all_so}
use Rattle.held_laws.proofs.Worlds.{equal, one_place, no_place, placed_itself, placed_other}
use Rattle.held_laws.proofs.Opens.{last_nth}
use Rattle.renewed_laws.proofs.Gains.{is_other, stepped_to, Gain, gain}
use Rattle.renewed_laws.proofs.Gains as gains
use Rattle.renewed_laws.proofs.Worlds.{WorldOk}
use Rattle.prefix_laws.proofs.Fetched.{turn_heard}
use Rattle.prefix_laws.proofs.Places.{OfPlaces, fetched_so}
use Rattle.prefix_laws.proofs.Prefixes.{IsNext}
use Rattle.turn_laws.specs.Known.{StreamsKnown}
use Rattle.truth_laws.proofs.Facts.{told_of as facts_of, Facts}
use Rattle.session_laws.proofs.Lists.{nth_pushed}
use Rattle.session_laws.proofs.Places.{PlaceTold}
use Rattle.session_laws.proofs.Turns.{bound_of}
use Rattle.session_laws.proofs.Worlds.{WorldTold}
use Rattle.cached_laws.specs.NewKeys.{is_new_key}
use Rattle.cached_laws.specs.Reads.{awaited}
use Rattle.cached_laws.specs.Streams.{ToldStream, stream_by, leasing_of, opened_by, is_up}
use Rattle.cached_laws.proofs.Folds.{told_next}
use Rattle.cached_laws.proofs.NewTold.{NewOk, new_more, Turning, turn_going, new_turn}
use Rattle.cached_laws.proofs.Steps.{starts_untouched, new_keys_stay_new}
use Rattle.cached_laws.proofs.StreamTold.{Its, StreamTold, Forth, Back, forth_itself, forth_changed, back_changed, keeps, dry_told, is_dry, delivered_other, cut_other, not_told, stands}
use Rattle.cached_laws.proofs.StreamTurns as streams
use Rattle.cached_laws.proofs.Telling.{is_going, is_aside, waited_started}
use Rattle.cached_laws.proofs.WaitTold.{WaitOk, wait_more, AtAsk, wait_turn, fetch_waits}
use Rattle.cached_laws.proofs.Openings as openings

-- ---- what is told

pub record ProxyTold (namespace leasing : List ℕ) (bound : ℕ) (items : List Item) (all : List OpenedStream) (p : ℕ) (x : Place) : Type 0 where
  pub prefix : x.core.own.waits.prefix ≡ leasing
  pub new : NewOk namespace leasing items p x.core
  pub waits : WaitOk namespace leasing bound items p x.core
  pub stream : StreamTold (leasing_of namespace leasing p items) all p x.life x.core.leasing

pub record AllTold (items : List Item) (w : World) (bound : ℕ) : Type 0 where
  pub names : (members : ℕ) × (rest : List Item) × (items ≡ item.World members w.namespace w.leasing ∷ rest)
  pub opened : (number : ℕ) (s : OpenedStream) → nth w.streams number ≡ Some s → opened_it s.proxy number items ≡ true
  pub places : (p : ℕ) (x : Place) → place_at w p ≡ Some x → ProxyTold w.namespace w.leasing bound items w.streams p x

-- what is known beside
pub record Beside (namespace : List ℕ) (items : List Item) (w : World) : Type 0 where
  pub ok : WorldOk namespace items w
  pub sessions : WorldTold items w (bound_of w)
  pub facts : Facts items (facts_of w)
  pub owners : OfPlaces OwnersFit items w
  pub fits : OfPlaces CoreFits items w
  pub streams : StreamsKnown w
  pub small : word w < FIRST_SESSION

-- ---- items of a line

pub replies_plain : (f : Item → Bool) → ((p t : ℕ) (a : Answer) → f (item.Reply p t a) ≡ true) → ((p t status : ℕ) (text : List ℕ) → f (item.Body p t status text) ≡ true) → (p : ℕ) (posted : BTreeSet ℕ) (rs : Replies) → list_all f (flat_map (reply_items p posted) rs) ≡ true
replies_plain f r b p posted [] = refl
replies_plain f r b p posted (x ∷ rs) =
    list_all-append f (reply_items p posted x) (flat_map (reply_items p posted) rs)
    ∙ and_both (list_all f (reply_items p posted x)) (list_all f (flat_map (reply_items p posted) rs)) (one (is_among posted x.0)) (replies_plain f r b p posted rs)
  where
    one : (c : Bool) → list_all f (item.Reply p x.0 x.1 ∷ body_if c p x.0 x.1) ≡ true
    one true = and_both (f (item.Reply p x.0 x.1)) (f (item.Body p x.0 _ _) && true) (r p x.0 x.1) (and_both (f (item.Body p x.0 _ _)) true (b p x.0 _ _) refl)
    one false = and_both (f (item.Reply p x.0 x.1)) true (r p x.0 x.1) refl

pub opened_front : (p number : ℕ) (xs ys : List Item) → opened_it p number xs ≡ true → opened_it p number (xs ++ ys) ≡ true
opened_front p number [] ys h = absurd (cc)
opened_front p number (x ∷ xs) ys h = by (is_stream_of p number x) h (opened_front p number xs ys)
  where
    by : (b : Bool) → b || opened_it p number xs ≡ true → (opened_it p number xs ≡ true → opened_it p number (xs ++ ys) ≡ true) → b || opened_it p number (xs ++ ys) ≡ true
    by true h f = refl
    by false h f = f h

opened_back : (p number : ℕ) (xs ys : List Item) → opened_it p number ys ≡ true → opened_it p number (xs ++ ys) ≡ true
opened_back p number [] ys h = h
opened_back p number (x ∷ xs) ys h = by (is_stream_of p number x) (opened_back p number xs ys h)
  where
    by : (b : Bool) → opened_it p number (xs ++ ys) ≡ true → b || opened_it p number (xs ++ ys) ≡ true
    by true h = refl
    by false h = h

-- each stream was there before, of the same proxy, or these items open it
abbrev pub OpenedBy : List OpenedStream → List OpenedStream → List Item → Type 0
OpenedBy before after own = (number : ℕ) (s : OpenedStream) → nth after number ≡ Some s → ((t : OpenedStream) × (nth before number ≡ Some t) × (t.proxy ≡ s.proxy)) ⊎ (opened_it s.proxy number own ≡ true)

pub opened_on : (items own rest : List Item) (before after : List OpenedStream) → OpenedBy before after own → ((number : ℕ) (s : OpenedStream) → nth before number ≡ Some s → opened_it s.proxy number items ≡ true)
    → (number : ℕ) (s : OpenedStream) → nth after number ≡ Some s → opened_it s.proxy number (items ++ (own ++ rest)) ≡ true
opened_on items own rest before after b h number s at = by (b number s at)
  where
    by : ((t : OpenedStream) × (nth before number ≡ Some t) × (t.proxy ≡ s.proxy)) ⊎ (opened_it s.proxy number own ≡ true) → opened_it s.proxy number (items ++ (own ++ rest)) ≡ true
    by (inl t) = opened_front s.proxy number items (own ++ rest) (ap (λ (p : ℕ). opened_it p number items) (sym t.2) ∙ h number t.0 t.1)
    by (inr e) = opened_back s.proxy number items (own ++ rest) (opened_front s.proxy number own rest e)

some_stream : (a b : OpenedStream) → Some a ≡ Some b → a ≡ b
some_stream a b e = cc

pub same_opened : (all : List OpenedStream) (own : List Item) → OpenedBy all all own
same_opened all own number s at = inl (s, at, refl)

pub changed_opened : (all : List OpenedStream) (number : ℕ) (s t : OpenedStream) (own : List Item) → nth all number ≡ Some s → t.proxy ≡ s.proxy → OpenedBy all (with_nth all number t) own
changed_opened all number s t own there same n u at = by (n == number) refl
  where
    by : (b : Bool) → (n == number) ≡ b → ((y : OpenedStream) × (nth all n ≡ Some y) × (y.proxy ≡ u.proxy)) ⊎ (opened_it u.proxy n own ≡ true)
    by true e =
        let is = same_number n number e in
        let one : t ≡ u = some_stream t u (sym (Rattle.held_laws.proofs.Kept.nth_itself all number s t there) ∙ ap (nth (with_nth all number t)) (sym is) ∙ at) in
        inl (s, ap (nth all) is ∙ there, sym same ∙ ap (λ (y : OpenedStream). y.proxy) one)
    by false e = inl (u, sym (Rattle.held_laws.proofs.Kept.nth_other all number n s t there e) ∙ at, refl)

-- ---- what a turn does beside

pub record TurnGoes (w v : World) (p : ℕ) (z y : Place) (own : List Item) : Type 0 where
  pub core : y.core ≡ z.core
  pub life : y.life ≡ z.life
  pub places : v.places ≡ w.places
  pub namespace : v.namespace ≡ w.namespace
  pub leasing : v.leasing ≡ w.leasing
  pub forth : Forth w.streams v.streams
  pub back : (q life m : ℕ) → (q == p) ≡ false → Back w.streams v.streams q life m
  pub opened : OpenedBy w.streams v.streams own

plain_goes : (w v : World) (p : ℕ) (z y : Place) (own : List Item) → y.core ≡ z.core → y.life ≡ z.life → v.places ≡ w.places → v.namespace ≡ w.namespace → v.leasing ≡ w.leasing → v.streams ≡ w.streams → TurnGoes w v p z y own
plain_goes w v p z y own a b c d e f = record {
  core = a;
  life = b;
  places = c;
  namespace = d;
  leasing = e;
  forth = subst (Forth w.streams) (sym f) (forth_itself w.streams);
  back = λ q life m n. subst (λ (s : List OpenedStream). Back w.streams s q life m) (sym f) (λ k t. t);
  opened = subst (λ (s : List OpenedStream). OpenedBy w.streams s own) (sym f) (same_opened w.streams own);
}

changed_goes : (w v : World) (p number : ℕ) (z y : Place) (own : List Item) (s t : OpenedStream) → nth w.streams number ≡ Some s → t.proxy ≡ s.proxy → t.life ≡ s.life → t.own ≡ s.own → y.core ≡ z.core → y.life ≡ z.life → v.places ≡ w.places → v.namespace ≡ w.namespace → v.leasing ≡ w.leasing
    → v.streams ≡ with_nth w.streams number t → TurnGoes w v p z y own
changed_goes w v p number z y own s t at i j k a b c d e f = record {
  core = a;
  life = b;
  places = c;
  namespace = d;
  leasing = e;
  forth = subst (Forth w.streams) (sym f) (forth_changed w.streams number s t at i j k);
  back = λ q life m n. subst (λ (x : List OpenedStream). Back w.streams x q life m) (sym f) (back_changed w.streams number s t at i j k q life m);
  opened = subst (λ (x : List OpenedStream). OpenedBy w.streams x own) (sym f) (changed_opened w.streams number s t own at i);
}

closed_goes : (w : World) (p number : ℕ) (z : Place) (own : List Item) (o : Option OpenedStream) → nth w.streams number ≡ o → TurnGoes w (closed_in w number o) p z z own
closed_goes w p number z own None e = plain_goes w w p z z own refl refl refl refl refl refl
closed_goes w p number z own (Some s) e = changed_goes w (with_stream w number (ended s)) p number z z own s (ended s) e refl refl refl refl refl refl refl refl refl

not_same : {A : Type 0} (q p : ℕ) → (q == p) ≡ false → p ≡ q → A
not_same q p n e = absurd (let f : true ≡ false = sym (number_itself q) ∙ ap (λ (m : ℕ). q == m) (sym e) ∙ n in cc)

opens_goes : (w v : World) (p : ℕ) (z y : Place) (t : OpenedStream) (member : ℕ) (r : Rattle.etcd_types.specs.declared.request.Request.Request) → t.proxy ≡ p → y.core ≡ z.core → y.life ≡ z.life → v.places ≡ w.places → v.namespace ≡ w.namespace → v.leasing ≡ w.leasing → v.streams ≡ w.streams ++ t ∷ []
    → TurnGoes w v p z y (item.Opened p (length w.streams + 1) member r ∷ [])
opens_goes w v p z y t member r mine a b c d e f = record {
  core = a;
  life = b;
  places = c;
  namespace = d;
  leasing = e;
  forth = subst (Forth w.streams) (sym f) (streams.pushed_forth w.streams t);
  back = λ q life m n. subst (λ (x : List OpenedStream). Back w.streams x q life m) (sym f) (λ k h. streams.pushed_back w.streams t q life m k h (λ i j o. not_same q p n (sym mine ∙ j)));
  opened = subst (λ (x : List OpenedStream). OpenedBy w.streams x (item.Opened p (length w.streams + 1) member r ∷ [])) (sym f) (λ n s at. by n s at (n == length w.streams + 1) refl);
}
  where
    by : (n : ℕ) (s : OpenedStream) → nth (w.streams ++ t ∷ []) n ≡ Some s → (b : Bool) → (n == length w.streams + 1) ≡ b
        → ((y : OpenedStream) × (nth w.streams n ≡ Some y) × (y.proxy ≡ s.proxy)) ⊎ (opened_it s.proxy n (item.Opened p (length w.streams + 1) member r ∷ []) ≡ true)
    by n s at true e =
        let is = same_number n (length w.streams + 1) e in
        let one : t ≡ s = some_stream t s (sym (last_nth w.streams t) ∙ ap (nth (w.streams ++ t ∷ [])) (sym is) ∙ at) in
        let its : p ≡ s.proxy = sym mine ∙ ap (λ (x : OpenedStream). x.proxy) one in
        inr (ap (λ (b : Bool). (b && (length w.streams + 1 == n)) || false) (ap (λ (m : ℕ). p == m) (sym its) ∙ number_itself p) ∙ ap (λ (b : Bool). b || false) (ap (λ (m : ℕ). m == n) (sym is) ∙ number_itself n))
    by n s at false e = inl (s, sym (nth_pushed w.streams t n e) ∙ at, refl)

pub turn_goes : (w : World) (p : ℕ) (z : Place) (e : CoreEvent) (o : Outcome) (v : World) (y : Place) (own : List Item) (told : Replies) → Turn w p z e o v y own told → TurnGoes w v p z y own
turn_goes w p z _ _ _ _ _ _ (ticks o) = plain_goes w w p z z (item.Ticked p ∷ []) refl refl refl refl refl refl
turn_goes w p z _ _ _ _ _ _ (asks_it ticket q o n) = plain_goes w w p z _ (item.Asked p ticket q ∷ []) refl refl refl refl refl refl
turn_goes w p z _ _ _ _ _ _ (posts_it ticket path body q o n) = plain_goes w w p z _ (item.Posted p ticket path body ∷ item.Asked p ticket q ∷ []) refl refl refl refl refl refl
turn_goes w p z _ _ _ _ _ _ (calls own member ticket q) = plain_goes w _ p z _ _ refl refl refl refl refl refl
turn_goes w p z _ _ _ _ _ _ (opens own member ask) = opens_goes w _ p z _ (new_stream p z own) member (request.Watch ask) refl refl refl refl refl refl refl
turn_goes w p z _ _ _ _ _ _ (closes own number e) = closed_goes w p number z (item.Closed p number ∷ []) (nth w.streams number) refl
turn_goes w p z _ _ _ _ _ _ (answers number call a o e f) = plain_goes w _ p z z (item.Answered number ∷ []) refl refl refl refl refl refl
turn_goes w p z _ _ _ _ _ _ (loses number call o e) = plain_goes w _ p z z (item.Lost number ∷ []) refl refl refl refl refl refl
turn_goes w p z _ _ _ _ _ _ (delivers number s i rest o a b c d e) = changed_goes w _ p number z z (item.Delivered number ∷ []) s (record s { waiting = rest }) a refl refl refl refl refl refl refl refl refl
turn_goes w p z _ _ _ _ _ _ (cuts number s o a b c d) = changed_goes w _ p number z z (item.Cut number ∷ []) s (ended s) a refl refl refl refl refl refl refl refl refl
turn_goes w p z _ _ _ _ _ _ (takes ticket i) = plain_goes w w p z z _ refl refl refl refl refl refl
turn_goes w p z _ _ _ _ _ _ (waits ticket o n) = plain_goes w w p z z (item.Pending p ticket ∷ []) refl refl refl refl refl refl
turn_goes w p z _ _ _ _ _ _ (leaves ticket o) = plain_goes w w p z z (item.Left p ticket ∷ []) refl refl refl refl refl refl

-- ---- another proxy

pub turn_aside : (namespace leasing : List ℕ) (w : World) (p : ℕ) (z : Place) (e : CoreEvent) (o : Outcome) (v : World) (y : Place) (own : List Item) (told : Replies) (q : ℕ) → (q == p) ≡ false → Turn w p z e o v y own told → list_all (is_aside namespace leasing q) own ≡ true
turn_aside ns l w p z _ _ _ _ _ _ q n (ticks o) = refl
turn_aside ns l w p z _ _ _ _ _ _ q n (asks_it ticket r o f) = ap (λ (b : Bool). not b && true) (number_turned q p n)
turn_aside ns l w p z _ _ _ _ _ _ q n (posts_it ticket path body r o f) = ap (λ (b : Bool). not b && true) (number_turned q p n)
turn_aside ns l w p z _ _ _ _ _ _ q n (calls own member ticket r) = ap (λ (b : Bool). not b && true) (number_turned q p n)
turn_aside ns l w p z _ _ _ _ _ _ q n (opens own member ask) = refl
turn_aside ns l w p z _ _ _ _ _ _ q n (closes own number e) = refl
turn_aside ns l w p z _ _ _ _ _ _ q n (answers number call a o e f) = refl
turn_aside ns l w p z _ _ _ _ _ _ q n (loses number call o e) = refl
turn_aside ns l w p z _ _ _ _ _ _ q n (delivers number s i rest o a b c d e) = refl
turn_aside ns l w p z _ _ _ _ _ _ q n (cuts number s o a b c d) = refl
turn_aside ns l w p z _ _ _ _ _ _ q n (takes ticket i) = by (is_among z.posted ticket)
  where
    by : (b : Bool) → list_all (is_aside ns l q) (item.Taken p ticket i ∷ line_if b p ticket i) ≡ true
    by true = refl
    by false = refl
turn_aside ns l w p z _ _ _ _ _ _ q n (waits ticket o f) = refl
turn_aside ns l w p z _ _ _ _ _ _ q n (leaves ticket o) = refl

pub taken_dry : (q p : ℕ) (b : Bool) (ticket : ℕ) (i : WatchItem) → list_all (is_dry q) (item.Taken p ticket i ∷ line_if b p ticket i) ≡ true
taken_dry q p true ticket i = refl
taken_dry q p false ticket i = refl

pub other_stream : (namespace leasing : List ℕ) (items : List Item) (w : World) (p : ℕ) (z : Place) (e : CoreEvent) (o : Outcome) (v : World) (y : Place) (own : List Item) (told : Replies) (q life : ℕ) (l : Option Opening) → (q == p) ≡ false → Turn w p z e o v y own told
    → StreamTold (leasing_of namespace leasing q items) w.streams q life l → leasing_of namespace leasing q (items ++ own) ≡ leasing_of namespace leasing q items
other_stream ns lea items w p z _ _ _ _ _ _ q life l n (ticks o) h = dry_told ns lea q items (item.Ticked p ∷ []) refl
other_stream ns lea items w p z _ _ _ _ _ _ q life l n (asks_it ticket r o f) h = dry_told ns lea q items (item.Asked p ticket r ∷ []) refl
other_stream ns lea items w p z _ _ _ _ _ _ q life l n (posts_it ticket path body r o f) h = dry_told ns lea q items (item.Posted p ticket path body ∷ item.Asked p ticket r ∷ []) refl
other_stream ns lea items w p z _ _ _ _ _ _ q life l n (calls own member ticket r) h = dry_told ns lea q items _ refl
other_stream ns lea items w p z _ _ _ _ _ _ q life l n (opens own member ask) h =
    told_next q None (stream_by ns lea q) items (item.Opened p (length w.streams + 1) member (request.Watch ask)) ∙ ap (λ (b : Bool). cond b (opened_by ns lea (length w.streams + 1) (request.Watch ask) (leasing_of ns lea q items)) (leasing_of ns lea q items)) (number_turned q p n)
other_stream ns lea items w p z _ _ _ _ _ _ q life l n (closes own number e) h = dry_told ns lea q items (item.Closed p number ∷ []) refl
other_stream ns lea items w p z _ _ _ _ _ _ q life l n (answers number call a o e f) h = dry_told ns lea q items (item.Answered number ∷ []) refl
other_stream ns lea items w p z _ _ _ _ _ _ q life l n (loses number call o e) h = dry_told ns lea q items (item.Lost number ∷ []) refl
other_stream ns lea items w p z _ _ _ _ _ _ q life l n (delivers number s i rest o a b c d e) h =
    told_next q None (stream_by ns lea q) items (item.Delivered number)
    ∙ delivered_other ns number _ (leasing_of ns lea q items) (not_told (leasing_of ns lea q items) w.streams q life number l s a h (λ y f g k m. not_same q p n (sym b ∙ k)))
other_stream ns lea items w p z _ _ _ _ _ _ q life l n (cuts number s o a b c d) h =
    told_next q None (stream_by ns lea q) items (item.Cut number) ∙ cut_other number (leasing_of ns lea q items) (not_told (leasing_of ns lea q items) w.streams q life number l s a h (λ y f g k m. not_same q p n (sym b ∙ k)))
other_stream ns lea items w p z _ _ _ _ _ _ q life l n (takes ticket i) h = dry_told ns lea q items _ (taken_dry q p (is_among z.posted ticket) ticket i)
other_stream ns lea items w p z _ _ _ _ _ _ q life l n (waits ticket o f) h = dry_told ns lea q items (item.Pending p ticket ∷ []) refl
other_stream ns lea items w p z _ _ _ _ _ _ q life l n (leaves ticket o) h = dry_told ns lea q items (item.Left p ticket ∷ []) refl
