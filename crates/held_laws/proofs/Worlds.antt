-- What holds of the world is kept by each line: its streams fit those of its proxies, and of no watch anything is held back.
use Rattle.std.proofs.Common.{◌≡◌, ◌⊎◌, inl, inr, ℕ, ◌-◌, ◌≤◌, Bool, true, false, cond, ◌&&◌, ◌==◌, List, [], ◌∷◌, ◌++◌, append_assoc, length, Option, None, Some, Result, Ok, refl, ap, sym, subst, ◌∙◌, arith}
use Rattle.std.proofs.lemmas.Bool.Decides.{nat_tests}
use Rattle.std.proofs.lemmas.List.{length-set}
use Rattle.std.specs.Prelude.{flat_map}
use Rattle.std.specs.BTreeSet.{BTreeSet}
use Rattle.core_model.specs.declared.event.StepFault.{StepFault}
use Rattle.etcd_types.specs.declared.request.Request.{Request}
use Rattle.etcd_types.specs.declared.watch.Change.{Change}
use Rattle.etcd_types.specs.declared.watch.WatchItem.{WatchItem}
use Rattle.store_model.specs.declared.watch.OpenWatch.{OpenWatch}
use Rattle.store_model.specs.State.{State}
use Rattle.store_model.specs.Watches.{watch_of}
use Rattle.core_model.specs.declared.event.CoreEvent.{CoreEvent}
use Rattle.core_model.specs.declared.event.CoreEvent.TheVariants as event
use Rattle.core_model.specs.declared.event.Outcome.{Outcome}
use Rattle.core_model.specs.declared.event.Outcome.TheVariants as outcome
use Rattle.core_model.specs.declared.event.Job.TheVariants as job
use Rattle.core_model.specs.State.{Core}
use Rattle.core_model.specs.Step.{stepped}
use Rattle.script_text.specs.declared.item.Item.{Item}
use Rattle.script_text.specs.declared.item.Item.TheVariants as item
use Rattle.world_model.specs.Gains.{Replies, all_fetched, reply_items, taken_items, line_if}
use Rattle.world_model.specs.Lives.{life_from, life, asked_as}
use Rattle.world_model.specs.Places.{nth, with_nth, kept_at, place_at, ended, is_among, with_core, with_place, with_stream, with_number}
use Rattle.world_model.specs.Received.{taken_by, taken_for}
use Rattle.world_model.specs.Sends.{closed_in}
use Rattle.world_model.specs.State.{Place, OpenedStream, World, Numbered}
use Rattle.held_laws.proofs.Pushes.{Whole}
use Rattle.held_laws.proofs.Holding.{IsApart}
use Rattle.held_laws.proofs.Items.{IsSilent, IsUnasking, silent-append, unasking-append, replies_silent, replies_unasking, line_silent, line_unasking, life-append, taken-append, or_later, asked-append}
use Rattle.held_laws.proofs.Kept.{kept_itself, kept_other, nth_itself, nth_other}
use Rattle.held_laws.proofs.Links.{StreamOk, restored}
use Rattle.held_laws.proofs.Places.{Truth, PlaceOk, later_ok, counted_side, Stepping, stepping, IsFetched, all_so, Turned, is_ask, NoItem, quiet_turn, Asking, asked_turn, taken_turn, taken_among}
use Rattle.held_laws.proofs.Stories.{Strips, IsShort}
use Rattle.held_laws.proofs.Streams.{aged_ok, touch_streams, delivered_itself, delivered_others, delivered_tells, delivered_batch, delivered_said, cut_itself, cut_others}
use Rattle.core_laws.proofs.Watches.Touches.{Side, side, with_step, Aged, is_other}
use Rattle.held_laws.proofs.NoItem.{is_take, no_item}

-- of a stream: its proxy stands, and where it wasn't started since, they fit
pub record StreamKnown (namespace : List ℕ) (whole : Whole) (w : World) (number : ℕ) (s : OpenedStream) : Type 0 where
  pub place : Place
  pub at : place_at w s.proxy ≡ Some place
  pub life : s.life ≤ place.life
  pub ok : s.life ≡ place.life → StreamOk namespace whole w.store number s (side place.core) place.streams
  pub watched : (watch : OpenWatch) × (watch_of w.store number ≡ Some watch)

-- in a history that goes on to `whole`, by the items so far
pub record WorldOk (namespace : List ℕ) (whole : Whole) (f : Change → Option Change) (items : List Item) (w : World) : Type 0 where
  pub namespace_is : w.namespace ≡ namespace
  pub many : length w.store.watches ≡ length w.streams
  pub streams : (number : ℕ) (s : OpenedStream) → nth w.streams number ≡ Some s → StreamKnown namespace whole w number s
  pub places : (p : ℕ) (x : Place) → place_at w p ≡ Some x → PlaceOk namespace whole f items p x

same_number : (n : ℕ) → (n == n) ≡ true
same_number n = grind (arith, nat_tests)

pub equal : (a b : ℕ) → (a == b) ≡ true → a ≡ b
equal a b e = grind (arith, nat_tests)

pub not_equal : (a b : ℕ) → (a == b) ≡ false → a ≡ b → ⊥
not_equal a b e f = let t : (a == b) ≡ true = ap (λ (n : ℕ). n == b) f ∙ same_number b in absurd (let no' : true ≡ false = sym t ∙ e in cc)

pub one_place : (x y : Place) → Some x ≡ Some y → x ≡ y
one_place x y e = cc

one_stream : (s t : OpenedStream) → Some s ≡ Some t → s ≡ t
one_stream s t e = cc

pub no_place : {A : Type 0} (x : Place) → ◌≡◌ {A = Option Place} None (Some x) → A
no_place x e = absurd (cc)

-- ---- the places, where one of them is put anew

pub placed_itself : (w v : World) (p : ℕ) (z : Place) → place_at (with_place v p z) p ≡ Some z
placed_itself w v p z = kept_itself v.places p z

pub placed_other : (w v : World) (p q : ℕ) (z : Place) → v.places ≡ w.places → (q == p) ≡ false → place_at (with_place v p z) q ≡ place_at w q
placed_other w v p q z e n = kept_other v.places q p z n ∙ ap (λ (ps : Numbered Place). kept_at ps q) e

pub places_after : (namespace : List ℕ) (whole : Whole) (f : Change → Option Change) (items more : List Item) (w v : World) (p : ℕ) (z : Place) → v.places ≡ w.places
    → ((q : ℕ) → (q == p) ≡ false → IsSilent q more × IsUnasking q more) → WorldOk namespace whole f items w → PlaceOk namespace whole f (items ++ more) p z
    → (q : ℕ) (y : Place) → place_at (with_place v p z) q ≡ Some y → PlaceOk namespace whole f (items ++ more) q y
places_after namespace whole f items more w v p z same quiet h k q y e = by (q == p) refl
  where
    by : (b : Bool) → (q == p) ≡ b → PlaceOk namespace whole f (items ++ more) q y
    by true n =
        let there : q ≡ p = equal q p n in
        let one : z ≡ y = one_place z y (sym (placed_itself w v p z) ∙ ap (place_at (with_place v p z)) (sym there) ∙ e) in
        subst (λ (j : ℕ). PlaceOk namespace whole f (items ++ more) j y) (sym there) (subst (PlaceOk namespace whole f (items ++ more) p) one k)
    by false n =
        let s = quiet q n in
        later_ok namespace whole f items more q y s.0 s.1 (h.places q y (sym (placed_other w v p q z same n) ∙ e))

-- ---- the streams, where one of the places is put anew

pub known_after : (namespace : List ℕ) (whole : Whole) (w v : World) (p : ℕ) (x z : Place) (number : ℕ) (s t : OpenedStream) → place_at w p ≡ Some x → x.life ≤ z.life → v.places ≡ w.places → t.proxy ≡ s.proxy → t.life ≡ s.life
    → (watch : OpenWatch) × (watch_of v.store number ≡ Some watch)
    → ((a : Side) (kept : Numbered ℕ) → (s.proxy == p) ≡ false → StreamOk namespace whole w.store number s a kept → StreamOk namespace whole v.store number t a kept)
    → (s.proxy ≡ p → s.life ≡ z.life → (s.life ≡ x.life → StreamOk namespace whole w.store number s (side x.core) x.streams) → s.life ≤ x.life → StreamOk namespace whole v.store number t (side z.core) z.streams)
    → StreamKnown namespace whole w number s → StreamKnown namespace whole (with_place v p z) number t
known_after namespace whole w v p x z number s t at older same proxy life watched others own h = by (s.proxy == p) refl
  where
    by : (b : Bool) → (s.proxy == p) ≡ b → StreamKnown namespace whole (with_place v p z) number t
    by true n =
        let there : s.proxy ≡ p = equal s.proxy p n in
        let one : h.place ≡ x = one_place h.place x (sym h.at ∙ ap (place_at w) there ∙ at) in
        let le : s.life ≤ x.life = subst (λ (y : Place). s.life ≤ y.life) one h.life in record {
          place = z;
          at = ap (place_at (with_place v p z)) (proxy ∙ there) ∙ placed_itself w v p z;
          life = omega (arith, le, older, life);
          ok = λ e. own there (sym life ∙ e) (λ d. subst (λ (y : Place). StreamOk namespace whole w.store number s (side y.core) y.streams) one (h.ok (d ∙ ap (λ (y : Place). y.life) (sym one)))) le;
          watched = watched;
        }
    by false n = record {
      place = h.place;
      at = ap (place_at (with_place v p z)) proxy ∙ placed_other w v p s.proxy z same n ∙ h.at;
      life = (let l = h.life in omega (arith, l, life));
      ok = λ e. others (side h.place.core) h.place.streams n (h.ok (sym life ∙ e));
      watched = watched;
    }

-- ---- a turn of a proxy

-- the proxy `p` stood at `x`, and made a step that gave this
pub record Turning (namespace : List ℕ) (whole : Whole) (f : Change → Option Change) (items : List Item) (w : World) (p : ℕ) (x : Place) (e : CoreEvent) (o : Outcome) : Type 0 where
  pub strips : Strips namespace f
  pub short : IsShort whole
  pub ok : WorldOk namespace whole f items w
  pub at : place_at w p ≡ Some x
  pub out : (stepped x.core e x.clock).outcome ≡ Ok o

abbrev pub behind : Place → CoreEvent → Core
behind x e = (stepped x.core e x.clock).core

pub place_ok : (namespace : List ℕ) (whole : Whole) (f : Change → Option Change) (items : List Item) (w : World) (p : ℕ) (x : Place) (e : CoreEvent) (o : Outcome) → Turning namespace whole f items w p x e o → PlaceOk namespace whole f items p x
place_ok namespace whole f items w p x e o c = c.ok.places p x c.at

pub step_of : (namespace : List ℕ) (whole : Whole) (f : Change → Option Change) (items : List Item) (w : World) (p : ℕ) (x : Place) (e : CoreEvent) (o : Outcome) → Turning namespace whole f items w p x e o → Stepping namespace x.core (behind x e) e o
step_of namespace whole f items w p x e o c = stepping namespace x.core e x.clock o (place_ok namespace whole f items w p x e o c).namespace_is c.out

some_item : (o : Outcome) (i : WatchItem) → o ≡ outcome.Item i → ◌≡◌ {A = Result Outcome StepFault} (Ok o) (Ok (outcome.Item i))
some_item o i e = ap (λ (x : Outcome). Ok x) e

pub gives_none : (namespace : List ℕ) (whole : Whole) (f : Change → Option Change) (items : List Item) (w : World) (p : ℕ) (x : Place) (e : CoreEvent) (o : Outcome) → is_take e ≡ false → Turning namespace whole f items w p x e o → NoItem o
gives_none namespace whole f items w p x e o n c i q =
    no_item namespace (counted_side x.core) (side (behind x e)) e (Ok o) i (some_item o i q) n (step_of namespace whole f items w p x e o c).touch

-- own items, and the replies
pub silent_all : (q p : ℕ) (own : List Item) (posted : BTreeSet ℕ) (got : Replies) → IsSilent q own → IsSilent q (own ++ flat_map (reply_items p posted) got)
silent_all q p own posted got h = silent-append q own (flat_map (reply_items p posted) got) h (replies_silent q p posted got)

pub unasking_all : (q p : ℕ) (own : List Item) (posted : BTreeSet ℕ) (got : Replies) → IsUnasking q own → IsUnasking q (own ++ flat_map (reply_items p posted) got)
unasking_all q p own posted got h = unasking-append q own (flat_map (reply_items p posted) got) h (replies_unasking q p posted got)

-- a stream's proxy behind the fetched replies
pub fetched_stream : (namespace : List ℕ) (whole : Whole) (store : State) (number : ℕ) (s : OpenedStream) (d : Core) (z : Place) (kept : Numbered ℕ) → Aged (side d) (side z.core) → z.streams ≡ kept → StreamOk namespace whole store number s (side d) kept
    → StreamOk namespace whole store number s (side z.core) z.streams
fetched_stream namespace whole store number s d z kept h e k =
    subst (λ (a : Side). StreamOk namespace whole store number s a z.streams) (sym h.1)
    (subst (λ (n : Numbered ℕ). StreamOk namespace whole store number s (record (side d) { broadcasts = with_step d.watches h.0 }) n) (sym e) (aged_ok namespace whole store number s (side d) h.0 kept k))

pub counted_ok : (namespace : List ℕ) (whole : Whole) (store : State) (number : ℕ) (s : OpenedStream) (c : Core) (kept : Numbered ℕ) → StreamOk namespace whole store number s (side c) kept → StreamOk namespace whole store number s (counted_side c) kept
counted_ok namespace whole store number s c kept h = aged_ok namespace whole store number s (side c) c.steps kept h

-- an event that is of no stream
pub touched_stream : (namespace : List ℕ) (whole : Whole) (f : Change → Option Change) (items : List Item) (w : World) (p : ℕ) (x : Place) (e : CoreEvent) (o : Outcome) → Turning namespace whole f items w p x e o → is_other e ≡ true
    → (store : State) (number : ℕ) (s : OpenedStream) (kept : Numbered ℕ) → StreamOk namespace whole store number s (side x.core) kept → StreamOk namespace whole store number s (side (behind x e)) kept
touched_stream namespace whole f items w p x e o c q store number s kept h =
    touch_streams namespace whole store number s (counted_side x.core) (side (behind x e)) kept e (Ok o) q (place_ok namespace whole f items w p x e o c).holds.holds.numbers (step_of namespace whole f items w p x e o c).touch
    (counted_ok namespace whole store number s x.core kept h)

-- the places, where only this proxy asked or took
pub others_quiet : (p : ℕ) (own : List Item) (posted : BTreeSet ℕ) (got : Replies) → ((q : ℕ) → (q == p) ≡ false → IsSilent q own × IsUnasking q own) → (q : ℕ) → (q == p) ≡ false
    → IsSilent q (own ++ flat_map (reply_items p posted) got) × IsUnasking q (own ++ flat_map (reply_items p posted) got)
others_quiet p own posted got h q n = (silent_all q p own posted got (h q n).0, unasking_all q p own posted got (h q n).1)

-- the world of a turn by which no stream changes at the store or in the world
still_streams : (namespace : List ℕ) (whole : Whole) (f : Change → Option Change) (items : List Item) (w v : World) (p : ℕ) (x : Place) (e : CoreEvent) (o : Outcome) (y z : Place) → Turning namespace whole f items w p x e o → is_other e ≡ true
    → v.places ≡ w.places → v.store ≡ w.store → v.streams ≡ w.streams → y.core ≡ behind x e → y.life ≡ x.life → y.streams ≡ x.streams → IsFetched y z
    → (number : ℕ) (s : OpenedStream) → nth (with_place v p z).streams number ≡ Some s → StreamKnown namespace whole (with_place v p z) number s
still_streams namespace whole f items w v p x e o y z c q places store streams core lived kept fetched number s there =
    let old = c.ok.streams number s (ap (λ (ss : List OpenedStream). nth ss number) (sym streams) ∙ there) in
    let stored : (number : ℕ) → watch_of v.store number ≡ watch_of w.store number = λ n. ap (λ (t : State). watch_of t n) store in
    let fetched_life : z.life ≡ x.life = fetched.life ∙ lived in
    let aged : Aged (side (behind x e)) (side z.core) = subst (λ (d : Core). Aged (side d) (side z.core)) core fetched.aged in
    known_after namespace whole w v p x z number s s c.at (omega (arith, fetched_life)) places refl refl (old.watched.0, stored number ∙ old.watched.1)
    (λ a n d h. restored namespace whole w.store v.store number s a n (stored number) h)
    (λ there l h le. fetched_stream namespace whole v.store number s (behind x e) z x.streams aged (fetched.streams ∙ kept)
    (restored namespace whole w.store v.store number s (side (behind x e)) x.streams (stored number) (touched_stream namespace whole f items w p x e o c q w.store number s x.streams (h (l ∙ fetched_life)))))
    old

pub quiet_world : (namespace : List ℕ) (whole : Whole) (f : Change → Option Change) (items : List Item) (w v : World) (p : ℕ) (x : Place) (e : CoreEvent) (o : Outcome) (y : Place) (own : List Item) (told : Replies)
    → Turning namespace whole f items w p x e o → is_other e ≡ true → is_ask e ≡ false → Truth namespace f whole (counted_side x.core) e → NoItem o
    → v.namespace ≡ w.namespace → v.places ≡ w.places → v.store ≡ w.store → v.streams ≡ w.streams → y.core ≡ behind x e → y.life ≡ x.life → y.streams ≡ x.streams → y.tickets ≡ x.tickets
    → ((q : ℕ) → IsSilent q own × IsUnasking q own)
    → let z = (all_fetched y told).place in WorldOk namespace whole f (items ++ (own ++ flat_map (reply_items p z.posted) (all_fetched y told).replies)) (with_place v p z)
quiet_world namespace whole f items w v p x e o y own told c other ask is_told none name places store streams core lived kept tickets quiet =
    let z = (all_fetched y told).place in
    let replies = (all_fetched y told).replies in
    let fetched = all_so y told in
    let more = own ++ flat_map (reply_items p z.posted) replies in
    let turned : Turned namespace x (behind x e) y z e o = record { stepping = step_of namespace whole f items w p x e o c; core = core; fetched = fetched } in
    record {
      namespace_is = name ∙ c.ok.namespace_is;
      many = ap (λ (t : State). length t.watches) store ∙ c.ok.many ∙ ap length (sym streams);
      streams = still_streams namespace whole f items w v p x e o y z c other places store streams core lived kept fetched;
      places = places_after namespace whole f items more w v p z places (λ q n. others_quiet p own z.posted replies (λ q n. quiet q) q n) c.ok
          (quiet_turn namespace f c.strips whole items more p x (behind x e) y z e o ask none (silent_all p p own z.posted replies (quiet p).0) (unasking_all p p own z.posted replies (quiet p).1) tickets is_told (place_ok namespace whole f items w p x e o c) turned);
    }

-- ---- a request is asked

pub ask_world : (namespace : List ℕ) (whole : Whole) (f : Change → Option Change) (items : List Item) (w : World) (p : ℕ) (x : Place) (ticket : ℕ) (q : Request) (number : ℕ) (o : Outcome) (y : Place) (own : List Item) (told : Replies)
    → Turning namespace whole f items w p x (event.Ask ticket q number) o → is_among x.tickets ticket ≡ false
    → y.core ≡ behind x (event.Ask ticket q number) → y.life ≡ x.life → y.streams ≡ x.streams → y.tickets ≡ with_number x.tickets ticket
    → ((n : ℕ) → IsSilent n own) → ((n : ℕ) → (n == p) ≡ false → IsUnasking n own) → Asking p ticket q own
    → let z = (all_fetched y told).place in WorldOk namespace whole f (items ++ (own ++ flat_map (reply_items p z.posted) (all_fetched y told).replies)) (with_place w p z)
ask_world namespace whole f items w p x ticket q number o y own told c free core lived kept tickets silent unasking asks =
    let e = event.Ask ticket q number in
    let z = (all_fetched y told).place in
    let replies = (all_fetched y told).replies in
    let fetched = all_so y told in
    let more = own ++ flat_map (reply_items p z.posted) replies in
    let turned : Turned namespace x (behind x e) y z e o = record { stepping = step_of namespace whole f items w p x e o c; core = core; fetched = fetched } in
    record {
      namespace_is = c.ok.namespace_is;
      many = c.ok.many;
      streams = still_streams namespace whole f items w w p x e o y z c refl refl refl refl core lived kept fetched;
      places = places_after namespace whole f items more w w p z refl (λ n d. others_quiet p own z.posted replies (λ n d. (silent n, unasking n d)) n d) c.ok
          (asked_turn namespace f c.strips whole items more p x (behind x e) y z ticket q number o free (gives_none namespace whole f items w p x e o refl c) (silent_all p p own z.posted replies (silent p))
          (record {
            asks = asked-append p ticket own (flat_map (reply_items p z.posted) replies) ∙ ap (λ r. or_later r (asked_as p ticket (flat_map (reply_items p z.posted) replies))) asks.asks;
            only = λ t d. asked-append p t own (flat_map (reply_items p z.posted) replies) ∙ ap (λ r. or_later r (asked_as p t (flat_map (reply_items p z.posted) replies))) (asks.only t d) ∙ replies_unasking p p z.posted replies t;
          }) tickets (place_ok namespace whole f items w p x e o c) turned);
    }

both_same : (p ticket : ℕ) → (p == p && ticket == ticket) ≡ true
both_same p ticket = grind (arith, nat_tests)

other_proxy : (p n ticket t : ℕ) → (n == p) ≡ false → (p == n && ticket == t) ≡ false
other_proxy p n ticket t e = grind (arith, nat_tests)

other_ticket : (p ticket t : ℕ) → (ticket == t) ≡ false → (p == p && ticket == t) ≡ false
other_ticket p ticket t e = grind (arith, nat_tests)

-- an asked item, behind the one by which it may have been posted
pub asked_unasking : (p ticket : ℕ) (q : Request) (n : ℕ) → (n == p) ≡ false → IsUnasking n (item.Asked p ticket q ∷ [])
asked_unasking p ticket q n e t = ap (λ b. cond b (Some q) None) (other_proxy p n ticket t e)

pub asked_asks : (p ticket : ℕ) (q : Request) → Asking p ticket q (item.Asked p ticket q ∷ [])
asked_asks p ticket q = record { asks = ap (λ b. cond b (Some q) None) (both_same p ticket); only = λ t d. ap (λ b. cond b (Some q) None) (other_ticket p ticket t d) }

pub posted_asks : (p ticket : ℕ) (path body : List ℕ) (q : Request) → Asking p ticket q (item.Posted p ticket path body ∷ item.Asked p ticket q ∷ [])
posted_asks p ticket path body q = record { asks = ap (λ b. cond b (Some q) None) (both_same p ticket); only = λ t d. ap (λ b. cond b (Some q) None) (other_ticket p ticket t d) }

-- ---- a message is taken

no_life : (p : ℕ) (so_far own : List Item) (rest : List Item) → IsSilent p rest → life_from p so_far own ≡ so_far ++ own → life_from p so_far (own ++ rest) ≡ so_far ++ (own ++ rest)
no_life p so_far own rest s e = life-append p so_far own rest ∙ ap (λ (l : List Item). life_from p l rest) e ∙ s.lives (so_far ++ own) ∙ append_assoc so_far own rest

pub take_unasking : (p : ℕ) (posted : BTreeSet ℕ) (ticket : ℕ) (i : WatchItem) (n : ℕ) → IsUnasking n (taken_items p posted ticket i)
take_unasking p posted ticket i n t = line_unasking n (is_among posted ticket) p ticket i t

pub take_silent : (p : ℕ) (posted : BTreeSet ℕ) (ticket : ℕ) (i : WatchItem) (n : ℕ) → (n == p) ≡ false → IsSilent n (taken_items p posted ticket i)
take_silent p posted ticket i n d =
    silent-append n (item.Taken p ticket i ∷ []) (line_if (is_among posted ticket) p ticket i)
    (record { takes = λ t. ap (λ b. cond b (i ∷ []) [] ++ []) (other_proxy p n ticket t d); lives = λ l. refl }) (line_silent n (is_among posted ticket) p ticket i)

pub take_takes : (p : ℕ) (posted : BTreeSet ℕ) (ticket : ℕ) (i : WatchItem) (rest : List Item) → IsSilent p rest → (t : ℕ) → taken_for p t (taken_items p posted ticket i ++ rest) ≡ cond (t == ticket) (i ∷ []) []
take_takes p posted ticket i rest s t =
    let line = line_silent p (is_among posted ticket) p ticket i in
    taken-append p t (taken_items p posted ticket i) rest
    ∙ ap (λ (l : List WatchItem). (taken_by p t (item.Taken p ticket i) ++ l) ++ taken_for p t rest) (line.takes t) ∙ ap (λ (l : List WatchItem). (taken_by p t (item.Taken p ticket i) ++ []) ++ l) (s.takes t)
    ∙ by (t == ticket) refl
  where
    test : (b : Bool) → (t == ticket) ≡ b → (p == p && ticket == t) ≡ b
    test true e = grind (arith, nat_tests)
    test false e = grind (arith, nat_tests)

    by : (b : Bool) → (t == ticket) ≡ b → (taken_by p t (item.Taken p ticket i) ++ []) ++ [] ≡ cond b (i ∷ []) []
    by true e = ap (λ b. (cond b (i ∷ []) [] ++ []) ++ []) (test true e)
    by false e = ap (λ b. (cond b (i ∷ []) [] ++ []) ++ []) (test false e)

pub take_lives : (items : List Item) (p : ℕ) (posted : BTreeSet ℕ) (ticket : ℕ) (i : WatchItem) (rest : List Item) → IsSilent p rest → life p (items ++ (taken_items p posted ticket i ++ rest)) ≡ life p items ++ (taken_items p posted ticket i ++ rest)
take_lives items p posted ticket i rest s =
    let line = line_silent p (is_among posted ticket) p ticket i in
    life-append p [] items (taken_items p posted ticket i ++ rest)
    ∙ no_life p (life p items) (taken_items p posted ticket i) rest s
    (line.lives (life p items ++ item.Taken p ticket i ∷ []) ∙ append_assoc (life p items) (item.Taken p ticket i ∷ []) (line_if (is_among posted ticket) p ticket i))

pub take_world : (namespace : List ℕ) (whole : Whole) (f : Change → Option Change) (items : List Item) (w : World) (p : ℕ) (x : Place) (ticket : ℕ) (i : WatchItem) (y : Place) (posted : BTreeSet ℕ) (told : Replies)
    → Turning namespace whole f items w p x (event.Take ticket) (outcome.Item i)
    → y.core ≡ behind x (event.Take ticket) → y.life ≡ x.life → y.streams ≡ x.streams → y.tickets ≡ x.tickets
    → let z = (all_fetched y told).place in WorldOk namespace whole f (items ++ (taken_items p posted ticket i ++ flat_map (reply_items p z.posted) (all_fetched y told).replies)) (with_place w p z)
take_world namespace whole f items w p x ticket i y posted told c core lived kept tickets =
    let e = event.Take ticket in
    let o = outcome.Item i in
    let own = taken_items p posted ticket i in
    let line = line_if (is_among posted ticket) p ticket i in
    let z = (all_fetched y told).place in
    let replies = (all_fetched y told).replies in
    let fetched = all_so y told in
    let rest = flat_map (reply_items p z.posted) replies in
    let more = own ++ rest in
    let turned : Turned namespace x (behind x e) y z e o = record { stepping = step_of namespace whole f items w p x e o c; core = core; fetched = fetched } in
    let k = place_ok namespace whole f items w p x e o c in
    record {
      namespace_is = c.ok.namespace_is;
      many = c.ok.many;
      streams = still_streams namespace whole f items w w p x e o y z c refl refl refl refl core lived kept fetched;
      places = places_after namespace whole f items more w w p z refl (λ n d. others_quiet p own z.posted replies (λ n d. (take_silent p posted ticket i n d, take_unasking p posted ticket i n)) n d) c.ok
          (taken_turn namespace f c.strips whole items more p x (behind x e) y z ticket i (λ l. take_lives items p posted ticket i rest (replies_silent p p z.posted replies)) (λ t. take_takes p posted ticket i rest (replies_silent p p z.posted replies) t)
          (unasking_all p p own z.posted replies (take_unasking p posted ticket i p)) (taken_among namespace whole f items p x (side (behind x e)) ticket i k (step_of namespace whole f items w p x e o c).touch) tickets k turned);
    }

-- ---- streams of the world that change

one_of : {A : Type 0} (y z : A) → Some y ≡ Some z → y ≡ z
one_of y z e = cc

-- one of them changed
pub nth_changed : {A : Type 0} (xs : List A) (number q : ℕ) (x y z : A) → nth xs number ≡ Some x → nth (with_nth xs number y) q ≡ Some z → ((q ≡ number) × (y ≡ z)) ⊎ (((q == number) ≡ false) × (nth xs q ≡ Some z))
nth_changed xs number q x y z e f = by (q == number) refl
  where
    by : (b : Bool) → (q == number) ≡ b → ((q ≡ number) × (y ≡ z)) ⊎ (((q == number) ≡ false) × (nth xs q ≡ Some z))
    by true d = inl (equal q number d, one_of y z (sym (nth_itself xs number x y e) ∙ ap (nth (with_nth xs number y)) (sym (equal q number d)) ∙ f))
    by false d = inr (d, sym (nth_other xs number q x y e d) ∙ f)

ended_ok : (namespace : List ℕ) (whole : Whole) (store : State) (number : ℕ) (s : OpenedStream) (a : Side) (kept : Numbered ℕ) → StreamOk namespace whole store number s a kept → StreamOk namespace whole store number (ended s) a kept
ended_ok namespace whole store number s a kept h = record { given = h.given; mine = h.mine; begun = h.begun; link = λ e. absurd (cc) }

pub set_many : (w : World) (number : ℕ) (t : OpenedStream) → length (with_nth w.streams number t) ≡ length w.streams
set_many w number t = length-set w.streams (number - 1) t

pub apart_counted : (c : Core) → IsApart (side c).leasing (side c).broadcasts → IsApart (side c).leasing (counted_side c).broadcasts
apart_counted c = by (side c).leasing
  where
    by : (l : Option ℕ) → IsApart l (side c).broadcasts → IsApart l (counted_side c).broadcasts
    by None i = tt
    by (Some n) i = i

-- ---- a message is delivered, a stream is cut or closed: one stream of the world changes, and nothing at the store

-- what each of them does to the stream itself, and to the others of its proxy
change_world : (namespace : List ℕ) (whole : Whole) (f : Change → Option Change) (items : List Item) (w : World) (p : ℕ) (x : Place) (e : CoreEvent) (o : Outcome) (number : ℕ) (s t : OpenedStream) (own : List Item)
    → Turning namespace whole f items w p x e o → is_ask e ≡ false → Truth namespace f whole (counted_side x.core) e → NoItem o
    → nth w.streams number ≡ Some s → t.proxy ≡ s.proxy → t.life ≡ s.life
    → ((q : ℕ) → IsSilent q own × IsUnasking q own)
    → ((a : Side) (kept : Numbered ℕ) → (s.proxy == p) ≡ false → StreamOk namespace whole w.store number s a kept → StreamOk namespace whole w.store number t a kept)
    → ((kept : Numbered ℕ) → s.proxy ≡ p → s.life ≡ x.life → StreamOk namespace whole w.store number s (counted_side x.core) kept → StreamOk namespace whole w.store number t (side (behind x e)) kept)
    → ((other : ℕ) (u : OpenedStream) → (other == number) ≡ false → u.proxy ≡ p → u.life ≡ x.life → StreamOk namespace whole w.store other u (counted_side x.core) x.streams → StreamOk namespace whole w.store other u (side (behind x e)) x.streams)
    → let y = with_core x (behind x e) in let z = (all_fetched y []).place in
    WorldOk namespace whole f (items ++ (own ++ flat_map (reply_items p z.posted) (all_fetched y []).replies)) (with_place (record w { streams = with_nth w.streams number t }) p z)
change_world namespace whole f items w p x e o number s t own c ask is_told none there proxy lived quiet others itself beside =
    let y = with_core x (behind x e) in
    let z = (all_fetched y []).place in
    let replies = (all_fetched y []).replies in
    let fetched = all_so y [] in
    let more = own ++ flat_map (reply_items p z.posted) replies in
    let v : World = record w { streams = with_nth w.streams number t } in
    let turned : Turned namespace x (behind x e) y z e o = record { stepping = step_of namespace whole f items w p x e o c; core = refl; fetched = fetched } in
    let aged : Aged (side (behind x e)) (side z.core) = fetched.aged in
    let back : z.life ≡ x.life = fetched.life in
    record {
      namespace_is = c.ok.namespace_is;
      many = c.ok.many ∙ sym (set_many w number t);
      streams = λ q u g. elim (nth_changed w.streams number q s t u there g) [
        | inl h ↦
            subst (λ (u : OpenedStream). StreamKnown namespace whole (with_place v p z) q u) h.1
            (subst (λ (j : ℕ). StreamKnown namespace whole (with_place v p z) j t) (sym h.0)
            (known_after namespace whole w v p x z number s t c.at (omega (arith, back)) refl proxy lived (c.ok.streams number s there).watched others
            (λ at l k le. fetched_stream namespace whole w.store number t (behind x e) z x.streams aged fetched.streams (itself x.streams at (l ∙ back) (counted_ok namespace whole w.store number s x.core x.streams (k (l ∙ back)))))
            (c.ok.streams number s there)))
        | inr h ↦
            known_after namespace whole w v p x z q u u c.at (omega (arith, back)) refl refl refl (c.ok.streams q u h.1).watched (λ a n d k. k)
            (λ at l k le. fetched_stream namespace whole w.store q u (behind x e) z x.streams aged fetched.streams (beside q u h.0 at (l ∙ back) (counted_ok namespace whole w.store q u x.core x.streams (k (l ∙ back)))))
            (c.ok.streams q u h.1)
      ];
      places = places_after namespace whole f items more w v p z refl (λ n d. others_quiet p own z.posted replies (λ n d. quiet n) n d) c.ok
          (quiet_turn namespace f c.strips whole items more p x (behind x e) y z e o ask none (silent_all p p own z.posted replies (quiet p).0) (unasking_all p p own z.posted replies (quiet p).1) refl is_told (place_ok namespace whole f items w p x e o c) turned);
    }

not_itself : (number other : ℕ) → (other == number) ≡ false → number ≡ other → ⊥
not_itself number other e f = not_equal other number e (sym f)

pub deliver_world : (namespace : List ℕ) (whole : Whole) (f : Change → Option Change) (items : List Item) (w : World) (p : ℕ) (x : Place) (number : ℕ) (s : OpenedStream) (i : WatchItem) (rest : List WatchItem) (o : Outcome)
    → Turning namespace whole f items w p x (event.Item s.own i) o → nth w.streams number ≡ Some s → s.proxy ≡ p → s.ended ≡ false → s.life ≡ x.life → s.waiting ≡ i ∷ rest
    → let y = with_core x (behind x (event.Item s.own i)) in let z = (all_fetched y []).place in
    WorldOk namespace whole f (items ++ ((item.Delivered number ∷ []) ++ flat_map (reply_items p z.posted) (all_fetched y []).replies)) (with_place (with_stream w number (record s { waiting = rest })) p z)
deliver_world namespace whole f items w p x number s i rest o c there proxy live lived waiting =
    let e = event.Item s.own i in
    let k = place_ok namespace whole f items w p x e o c in
    let mine : StreamOk namespace whole w.store number s (counted_side x.core) x.streams = counted_ok namespace whole w.store number s x.core x.streams old in
    let st = step_of namespace whole f items w p x e o c in
    change_world namespace whole f items w p x e o number s (record s { waiting = rest }) (item.Delivered number ∷ []) c refl (
      delivered_tells namespace f c.strips whole w.store number s i rest (counted_side x.core) x.streams c.short live waiting mine,
      delivered_batch namespace whole w.store number s i rest (counted_side x.core) x.streams live waiting mine,
      delivered_said namespace whole w.store number s i rest (counted_side x.core) x.streams c.short live waiting mine,
    )
    (gives_none namespace whole f items w p x e o refl c) there refl refl (λ q. (record { takes = λ t. refl; lives = λ l. refl }, λ t. refl))
    (λ a n d h. absurd (not_equal s.proxy p d proxy))
    (λ n a l h. delivered_itself namespace f c.strips whole w.store number s i rest (counted_side x.core) (side (behind x e)) n s.own o c.short refl live waiting (apart_counted x.core k.holds.apart) st.touch h)
    (λ other u d a l h. delivered_others namespace whole w.store number other u i (counted_side x.core) (side (behind x e)) x.streams s.own o mine.mine (not_itself number other d) st.touch h)
  where
    known : StreamKnown namespace whole w number s
    known = c.ok.streams number s there

    here : known.place ≡ x
    here = one_place known.place x (sym known.at ∙ ap (place_at w) proxy ∙ c.at)

    old : StreamOk namespace whole w.store number s (side x.core) x.streams
    old = subst (λ (y : Place). StreamOk namespace whole w.store number s (side y.core) y.streams) here (known.ok (lived ∙ ap (λ (y : Place). y.life) (sym here)))

pub cut_world : (namespace : List ℕ) (whole : Whole) (f : Change → Option Change) (items : List Item) (w : World) (p : ℕ) (x : Place) (number : ℕ) (s : OpenedStream) (o : Outcome)
    → Turning namespace whole f items w p x (event.Cut s.own) o → nth w.streams number ≡ Some s → s.proxy ≡ p
    → let y = with_core x (behind x (event.Cut s.own)) in let z = (all_fetched y []).place in
    WorldOk namespace whole f (items ++ ((item.Cut number ∷ []) ++ flat_map (reply_items p z.posted) (all_fetched y []).replies)) (with_place (with_stream w number (ended s)) p z)
cut_world namespace whole f items w p x number s o c there proxy =
    let e = event.Cut s.own in
    let st = step_of namespace whole f items w p x e o c in
    change_world namespace whole f items w p x e o number s (ended s) (item.Cut number ∷ []) c refl (tt, tt, tt)
    (gives_none namespace whole f items w p x e o refl c) there refl refl (λ q. (record { takes = λ t. refl; lives = λ l. refl }, λ t. refl))
    (λ a n d h. ended_ok namespace whole w.store number s a n h)
    (λ n a l h. cut_itself namespace whole w.store number s (counted_side x.core) (side (behind x e)) n s.own o refl (apart_counted x.core (place_ok namespace whole f items w p x e o c).holds.apart) st.touch h)
    (λ other u d a l h. cut_others namespace whole w.store other u (counted_side x.core) (side (behind x e)) x.streams s.own o st.touch h)

pub close_world : (namespace : List ℕ) (whole : Whole) (f : Change → Option Change) (items : List Item) (w : World) (p : ℕ) (x : Place) (own number : ℕ) (q : Option OpenedStream) → nth w.streams number ≡ q
    → Turning namespace whole f items w p x event.Work (outcome.Job (Some (job.Close own)))
    → let y = with_core x (behind x event.Work) in let z = (all_fetched y []).place in
    WorldOk namespace whole f (items ++ ((item.Closed p number ∷ []) ++ flat_map (reply_items p z.posted) (all_fetched y []).replies)) (with_place (closed_in w number q) p z)
close_world namespace whole f items w p x own number None there c =
    quiet_world namespace whole f items w w p x event.Work _ (with_core x (behind x event.Work)) (item.Closed p number ∷ []) [] c refl refl (tt, tt, tt) (gives_none namespace whole f items w p x event.Work _ refl c)
    refl refl refl refl refl refl refl refl (λ q. (record { takes = λ t. refl; lives = λ l. refl }, λ t. refl))
close_world namespace whole f items w p x own number (Some s) there c =
    let o = outcome.Job (Some (job.Close own)) in
    change_world namespace whole f items w p x event.Work o number s (ended s) (item.Closed p number ∷ []) c refl (tt, tt, tt)
    (gives_none namespace whole f items w p x event.Work o refl c) there refl refl (λ q. (record { takes = λ t. refl; lives = λ l. refl }, λ t. refl))
    (λ a n d h. ended_ok namespace whole w.store number s a n h)
    (λ n a l h. ended_ok namespace whole w.store number s (side (behind x event.Work)) n (worked number s n h))
    (λ other u d a l h. worked other u x.streams h)
  where
    worked : (number : ℕ) (s : OpenedStream) (n : Numbered ℕ) → StreamOk namespace whole w.store number s (counted_side x.core) n → StreamOk namespace whole w.store number s (side (behind x event.Work)) n
    worked number s n h =
        touch_streams namespace whole w.store number s (counted_side x.core) (side (behind x event.Work)) n event.Work (Ok (outcome.Job (Some (job.Close own)))) refl
        (place_ok namespace whole f items w p x event.Work (outcome.Job (Some (job.Close own))) c).holds.holds.numbers (step_of namespace whole f items w p x event.Work (outcome.Job (Some (job.Close own))) c).touch h
