-- Every read that was answered with no call of its own is true, line by line of each script.
use Rattle.std.proofs.Common.{◌≡◌, ℕ, ◌<◌, ◌^◌, Bool, true, false, List, [], ◌∷◌, ◌++◌, append_assoc, append-nil, length, Some, Ok, refl, sym, ◌∙◌, ap, subst, arith}
use Rattle.std.specs.Prelude.{flat_map}
use Rattle.std.specs.List.{list_all}
use Rattle.std.proofs.lemmas.List.{length-append}
use Rattle.etcd_types.specs.Keys.{is_empty}
use Rattle.etcd_types.specs.declared.answer.Answer.{Answer}
use Rattle.etcd_types.specs.declared.answer.Answer.TheVariants.{Done, Refused}
use Rattle.etcd_types.specs.declared.answer.Refusal.{Refusal}
use Rattle.etcd_types.specs.declared.answer.Reply.{Reply}
use Rattle.etcd_types.specs.declared.request.Request.{Request}
use Rattle.read_model.specs.declared.asked.Asked.{Asked}
use Rattle.core_model.specs.declared.event.CoreEvent.{CoreEvent}
use Rattle.core_model.specs.declared.event.CoreEvent.TheVariants as event
use Rattle.core_model.specs.declared.event.Outcome.{Outcome}
use Rattle.core_model.specs.ClockWork.{clock_work}
use Rattle.core_model.specs.Lookups.{ask_at}
use Rattle.core_model.specs.Step.{is_worn, stepped}
use Rattle.core_laws.proofs.Steps.Lists.{same_number}
use Rattle.script_text.specs.declared.item.Item.{Item}
use Rattle.script_text.specs.declared.item.Item.TheVariants as item
use Rattle.script_text.specs.declared.line.Line.{Line}
use Rattle.event_moves.specs.Events.{HasEvent}
use Rattle.held_laws.proofs.Items.{asked_still}
use Rattle.held_laws.proofs.Worlds.{one_place}
use Rattle.keep_laws.proofs.Runs.{found}
use Rattle.middle_laws.specs.Seen.{IsSeen}
use Rattle.store_model.specs.History.{newest}
use Rattle.world_model.specs.Gains.{Replies, body_if, all_fetched, reply_items, line_if}
use Rattle.world_model.specs.Lives.{life, world_of, asked_as}
use Rattle.world_model.specs.Places.{nth, is_among, place_at, with_posted}
use Rattle.world_model.specs.State.{Place, World, word}
use Rattle.world_model.specs.Transcript.{done, transcript}
use Rattle.world_laws.proofs.Counting.{words_are}
use Rattle.world_laws.proofs.Effects.{Turn, ticks, asks_it, posts_it, calls, opens, closes, answers, loses, delivers, cuts, takes, waits, leaves, Begins, first, again, Effect, starts, sets, executes, expires, applies, pushes, turns}
use Rattle.world_laws.proofs.Effects as effects
use Rattle.renewed_laws.specs.Renewals.{AnswersShowBytes}
use Rattle.renewed_laws.proofs.Gains.{is_other, stepped_to, Gain, gain}
use Rattle.renewed_laws.proofs.Gains as gains
use Rattle.renewed_laws.proofs.Hearing.{show-split}
use Rattle.renewed_laws.proofs.Lives.{Lives}
use Rattle.renewed_laws.proofs.Replies.{Each}
use Rattle.renewed_laws.proofs.Rows.{Row}
use Rattle.renewed_laws.proofs.Turns.{answer_turned, turned}
use Rattle.renewed_laws.proofs.Worlds.{WorldOk, life_of}
use Rattle.reply_laws.specs.Named.{AreNamed}
use Rattle.prefix_laws.specs.Comes.{Comes, at_once, fetched, AllCome}
use Rattle.prefix_laws.proofs.Fetched.{turn_heard, turn_comes}
use Rattle.prefix_laws.proofs.Places.{OfPlaces, places_kept, each_fits, out_is_named, none_is_left}
use Rattle.prefix_laws.proofs.Prefixes.{IsNext, every_told}
use Rattle.prefix_laws.proofs.Told.{AllItems, items-append, IsTold, every_item, is_told, replies_told}
use Rattle.prefix_laws.proofs.Turning.{named_by}
use Rattle.truth_laws.proofs.Giving.{Gives, turn_gives, turn_takes, answered_gives, answer_takes}
use Rattle.truth_laws.proofs.Heads.{HeadsOk, heads_kept, head_behind}
use Rattle.truth_laws.proofs.Headers.{revision_of, TakesIn, header_taken_in}
use Rattle.truth_laws.proofs.Reached.{Reached, reached_kept}
use Rattle.truth_laws.proofs.Replies.{TrueAt, Stepping, reply_true}
use Rattle.truth_laws.proofs.Showing.{WorldSeen, EachWorldIsSeen}
use Rattle.truth_laws.proofs.Turns.{gave_unworn, turn_event, turn_store, turn_asks}
use Rattle.truth_laws.proofs.Unsent.{decides, Before, from_ready, ready_asked, from_at_once}
use Rattle.truth_laws.proofs.Writing.{EachWrites, step_writes, starts_writes}

-- ---- what an item is to tell

-- leasing is on, by the items
abbrev pub IsOn : List Item → Type 0
IsOn items = is_empty (world_of items).1 ≡ false

abbrev IsTrueItem : List Item → Item → Type 0
IsTrueItem earlier (item.Reply p ticket (Done reply)) = (more : List Item) → IsOn (earlier ++ more) → AnswersShowBytes earlier → TrueAt earlier p ticket reply
IsTrueItem earlier _ = Unit {0}

-- a line's own items are no replies
own_true : (items : List Item) (w : World) (p : ℕ) (x : Place) (e : CoreEvent) (o : Outcome) (v : World) (y : Place) (own : List Item) (told : Replies) → Turn w p x e o v y own told → AllItems IsTrueItem items own
own_true items w p x _ _ _ _ _ _ (ticks o) = (tt, tt)
own_true items w p x _ _ _ _ _ _ (asks_it ticket q o n) = (tt, tt)
own_true items w p x _ _ _ _ _ _ (posts_it ticket path body q o n) = (tt, (tt, tt))
own_true items w p x _ _ _ _ _ _ (calls own member ticket q) = (tt, tt)
own_true items w p x _ _ _ _ _ _ (opens own member ask) = (tt, tt)
own_true items w p x _ _ _ _ _ _ (closes own number e) = (tt, tt)
own_true items w p x _ _ _ _ _ _ (answers number call a o e f) = (tt, tt)
own_true items w p x _ _ _ _ _ _ (loses number call o e) = (tt, tt)
own_true items w p x _ _ _ _ _ _ (delivers number s i more o a b c f g) = (tt, tt)
own_true items w p x _ _ _ _ _ _ (cuts number s o a b c f) = (tt, tt)
own_true items w p x _ _ _ _ _ _ (takes ticket i) = (tt, by (is_among x.posted ticket))
  where
    by : (b : Bool) → AllItems IsTrueItem (items ++ item.Taken p ticket i ∷ []) (line_if b p ticket i)
    by false = tt
    by true = (tt, tt)
own_true items w p x _ _ _ _ _ _ (waits ticket o n) = (tt, tt)
own_true items w p x _ _ _ _ _ _ (leaves ticket o) = (tt, tt)

-- ---- what is known behind a prefix

module _ (shown : EachWorldIsSeen) (script : List Line) (few : length script < 2 ^ 60) where
  module _ (namespace : List ℕ) (items : List Item) (w : World) (l : Line) (n : IsNext script w l) (ok : WorldOk namespace items w) (r : Reached items w) where
    short : length r.front < 2 ^ 60
    short =
        let a = words_are r.front w r.behind in
        let b = words_are n.before w n.behind in
        let c = ap length n.split ∙ length-append n.before (l ∷ n.after) in
        omega (arith, a, b, c, few)

    bytes : AnswersShowBytes items → AnswersShowBytes (transcript r.front)
    bytes s = subst AnswersShowBytes (sym r.told) s

    -- leasing is on, by the world
    on : (more : List Item) → IsOn (items ++ more) → is_empty w.leasing ≡ false
    on more i = ap (λ (x : List ℕ × List ℕ). is_empty x.1) (sym (r.world more)) ∙ i

    world_seen : AnswersShowBytes items → is_empty w.leasing ≡ false → WorldSeen w
    world_seen s i = shown r.front w short (bytes s) r.behind i

    heads : AnswersShowBytes items → HeadsOk items w
    heads s = subst (λ (xs : List Item). HeadsOk xs w) r.told (every_told HeadsOk r.front (heads_kept r.front) w (bytes s) r.behind).so

    before : AnswersShowBytes items → (p : ℕ) (x : Place) → place_at w p ≡ Some x → is_worn x.core ≡ false → (k : WorldSeen w) → Before (named_by p (life p items)) x.core
    before s p x at worn k =
        let b = bytes s in
        record {
          ok = (ok.places p x at).core;
          fits = each_fits r.front w p x b r.behind at;
          owners = (k.places p x at).owners;
          none = none_is_left r.front w p x b r.behind at worn;
          writes = (every_told (OfPlaces EachWrites) r.front (places_kept EachWrites (record { start = starts_writes; step = λ c e now hd o h. step_writes c e now h }) r.front) w b r.behind).so p x at;
          names = subst (λ (xs : List Item). AreNamed (named_by p (life p xs)) x.core) r.told (out_is_named r.front w p x b r.behind at);
        }

    -- ---- a step of a proxy and the replies behind it

    module _ (p : ℕ) (x : Place) (e : CoreEvent) (o : Outcome) (v : World) (y : Place) (own : List Item) (told : Replies) (at : place_at w p ≡ Some x) (is : (stepped x.core e x.clock).outcome ≡ Ok o)
        (t : Turn w p (stepped_to x e) e o v y own told) (lives : Lives p own) where
      -- of the event, and what it gives
      record Extra : Type 0 where
        event : (k : WorldSeen w) → decides e ≡ true → HasEvent k.holder k.view p (k.places p x at).own (clock_work x.clock x.core) e
        gives : (s : AnswersShowBytes items) → Gives p (revision_of (stepped x.core e x.clock).core) items own
        takes : (s : AnswersShowBytes items) → TakesIn (newest w.store.history) e

      asked_row : (ticket : ℕ) (a : Asked) → ask_at ticket x.core.asks ≡ Some a → asked_as p ticket (life p items) ≡ Some a.request
      asked_row ticket a f =
          let k = found (Row (life_of namespace w.calls items p x)) ticket x.core.asks a f (ok.places p x at).rows in
          ap (λ (m : ℕ). asked_as p m (life p items)) (sym (same_number a.ticket ticket k.1)) ∙ k.0.asked

      reply_so : Extra → (ticket : ℕ) (reply : Reply) → Comes x.core e x.clock ticket reply → (before' : List Item) → list_all is_told before' ≡ true → IsTrueItem ((items ++ own) ++ before') (item.Reply p ticket (Done reply))
      reply_so extra ticket reply comes before' tells more i s =
          let both = show-split items (own ++ before') (subst AnswersShowBytes (append_assoc items own before') s) in
          let leases = on ((own ++ before') ++ more) (ap (λ (xs : List Item). is_empty (world_of xs).1) (sym (append_assoc items (own ++ before') more) ∙ ap (λ (xs : List Item). xs ++ more) (sym (append_assoc items own before'))) ∙ i) in
          let k = world_seen both.0 leases in
          let q = k.places p x at in
          let b = before both.0 p x at (gave_unworn x e o is) k in
          let h = heads both.0 in
          let seen' : decides e ≡ true → IsSeen k.holder k.view p x.clock q.own x.core e = λ d. record {
            heard = turn_heard namespace items w p x e o v y own told ok at t;
            ok = b.ok;
            fits = b.fits;
            owners = b.owners;
            event = extra.event k d;
            sees = q.sees;
            inv = k.stands.inv;
          } in
          let step : Stepping items own w p x e k = record {
            lives = lives;
            place = q;
            head = head_behind items own w p x e (h.places p x at) (extra.gives both.0) (extra.takes both.0);
            store = λ d. turn_store items w p (stepped_to x e) e o v y own told r.seen t d;
            namespace = λ more. ap (λ (z : List ℕ × List ℕ). z.0) (r.world more);
          } in
          by k step seen' b comes
        where
          by : (k : WorldSeen w) → Stepping items own w p x e k → (decides e ≡ true → IsSeen k.holder k.view p x.clock (k.places p x at).own x.core e) → Before (named_by p (life p items)) x.core
              → Comes x.core e x.clock ticket reply → TrueAt ((items ++ own) ++ before') p ticket reply
          by k step seen' b (at_once q word f g) =
              reply_true items own w p x e k step before' tells ticket q reply (turn_asks namespace items w p x e o v y own told (ok.places p x at) t ticket q word f)
              (from_at_once (named_by p (life p items)) x.core b k.holder k.view p x.clock (k.places p x at).own e seen' ticket q word reply f g)
          by k step seen' b (fetched f) =
              let a = ready_asked (named_by p (life p items)) x.core b k.holder k.view p x.clock (k.places p x at).own e seen' ticket reply f in
              reply_true items own w p x e k step before' tells ticket f.ask.request reply (asked_still p ticket (life p items) own f.ask.request (asked_row ticket a.0 a.1 ∙ ap (λ (z : Request). Some z) a.2))
              (from_ready (named_by p (life p items)) x.core b k.holder k.view p x.clock (k.places p x at).own e seen' ticket reply f)

      each_so : Extra → (rs : Replies) → AllCome x.core e x.clock rs → Each (λ a. (before' : List Item) → list_all is_told before' ≡ true → IsTrueItem ((items ++ own) ++ before') (item.Reply p a.0 a.1)) rs
      each_so extra [] c = tt
      each_so extra (a ∷ rs) c = (by a.1 refl, each_so extra rs c.1)
        where
          by : (z : Answer) → a.1 ≡ z → (before' : List Item) → list_all is_told before' ≡ true → IsTrueItem ((items ++ own) ++ before') (item.Reply p a.0 z)
          by (Done reply) i before' tells = reply_so extra a.0 reply (c.0 reply i) before' tells
          by (Refused why) i before' tells = tt

      turn_so : Extra → AllItems IsTrueItem items (own ++ flat_map (reply_items p (all_fetched y told).place.posted) (all_fetched y told).replies)
      turn_so extra =
          let f = all_fetched y told in
          items-append IsTrueItem items own (flat_map (reply_items p f.place.posted) f.replies) (own_true items w p (stepped_to x e) e o v y own told t)
          (subst (λ (b : List Item). AllItems IsTrueItem b (flat_map (reply_items p f.place.posted) f.replies)) (append-nil (items ++ own))
          (replies_told IsTrueItem (items ++ own) p f.place.posted (λ before' ticket status text tells. tt) [] f.replies refl
          (each_so extra f.replies (turn_comes namespace items w p x e o v y own told ok at is t))))

    -- ---- all lines

    posted_so : (p ticket : ℕ) (path text : List ℕ) (x : Place) (why : Refusal) → AllItems IsTrueItem items (item.Posted p ticket path text ∷ reply_items p (with_posted ticket x).posted (ticket, Refused why))
    posted_so p ticket path text x why = (tt, (tt, by (is_among (with_posted ticket x).posted ticket)))
      where
        by : (b : Bool) → AllItems IsTrueItem ((items ++ item.Posted p ticket path text ∷ []) ++ item.Reply p ticket (Refused why) ∷ []) (body_if b p ticket (Refused why))
        by false = tt
        by true = (tt, tt)

    begun_so : (p clock life' : ℕ) (i : Item) → Begins w p clock life' i → AllItems IsTrueItem items (i ∷ [])
    begun_so p _ _ _ (first e) = (tt, tt)
    begun_so p _ _ _ (again x e) = (tt, tt)

    effect_so : (after : World) (gained : List Item) → Effect w after gained → is_other gained ≡ true → AllItems IsTrueItem items gained
    effect_so _ _ (starts p clock life' i b) other = begun_so p clock life' i b
    effect_so _ _ (sets p millis x e forward) other = (tt, tt)
    effect_so _ _ (effects.refuses_post p ticket path body a x e) other = absurd (cc)
    effect_so _ _ (executes number call e fresh) other = (tt, tt)
    effect_so _ _ (expires lease t e due) other = (tt, tt)
    effect_so _ _ (applies member revision t e) other = (tt, tt)
    effect_so _ _ (pushes number s t i e a b k) other = (tt, tt)
    effect_so _ _ (turns p x e o v y own told at is t) other =
        let f = all_fetched y told in
        let rest = flat_map (reply_items p f.place.posted) f.replies in
        turn_so p x e o v y own told at is t ((turned namespace items rest w p x e o v y own told ok at is t other).lives p) (record {
          event = λ k d. turn_event k.holder w.leasing w p x e o v y own rest told k.view t other (k.places p x at) d;
          gives = λ s. turn_gives w items rest p x e o v y own told (heads s).facts is t other;
          takes = λ s. turn_takes w items p (stepped_to x e) e o v y own told (heads s).facts t;
        })

    gain_so : (after : World) (gained : List Item) → Gain w after gained → AllItems IsTrueItem items gained
    gain_so _ _ (gains.answers number call x a o there is at lived out) =
        let e = event.Answer call.own a in
        let known = ok.calls number call there in
        let one : known.place ≡ x = one_place known.place x (sym known.at ∙ at) in
        let mine : nth x.calls call.own ≡ Some number = ap (λ (y : Place). nth y.calls call.own) (sym one) ∙ known.own (lived ∙ ap (λ (y : Place). y.life) (sym one)) in
        turn_so call.proxy x e o _ (stepped_to x e) (item.Answered number ∷ []) [] at out (answers number call a o there is) ((answer_turned namespace items w number call x a ok there is at lived).lives call.proxy) (record {
          event = λ k d. (k.places call.proxy x at).answered (gave_unworn x e o out) number call a there is mine;
          gives = λ s. answered_gives w items number call a _ (heads s).facts there is (header_taken_in x.core e x.clock o out);
          takes = λ s. answer_takes w items number call a (heads s).facts there is;
        })
    gain_so _ _ (gains.refuses_post p ticket path body why x e) = posted_so p ticket path body x why
    gain_so _ _ (gains.other after gained e o) = effect_so after gained e o

  lines_true : IsTold script Reached IsTrueItem
  lines_true = record {
    first = λ members namespace leasing. tt;
    line = λ namespace items w l gained n e ok r. gain_so namespace items w l n ok r (done w l).world gained (gain w l gained e);
  }

  pub each_true : AnswersShowBytes (transcript script) → (earlier later : List Item) (p ticket : ℕ) (reply : Reply) → transcript script ≡ earlier ++ item.Reply p ticket (Done reply) ∷ later → IsOn (transcript script) → TrueAt earlier p ticket reply
  each_true s earlier later p ticket reply e i =
      every_item Reached IsTrueItem script (reached_kept script) lines_true s earlier later (item.Reply p ticket (Done reply)) e (item.Reply p ticket (Done reply) ∷ later) (subst IsOn e i)
      (show-split earlier (item.Reply p ticket (Done reply) ∷ later) (subst AnswersShowBytes e s)).0
