-- What an index tells behind one item more, from what each of its parts does.
use Rattle.std.proofs.Common.{◌≡◌, ℕ, ◌<◌, ◌≤◌, ◌+◌, nat_lt, arith, ◌^◌, ◌||◌, Bool, true, false, cond, min, List, [], ◌∷◌, ◌++◌, length, Option, None, Some, refl, sym, ◌∙◌, ap, subst}
use Rattle.std.proofs.lemmas.List.{drop_all}
use Rattle.first_places.specs.Firsts.{Firsts, Tells, first_place, tells}
use Rattle.first_places.specs.Places.{from_start, is_number, place_at, value_at}
use Rattle.script_text.specs.declared.item.Item.{Item}
use Rattle.script_text.specs.declared.item.Item.TheVariants as item
use Rattle.audit_model.specs.Calls.{is_sending}
use Rattle.audit_model.specs.Streams.{is_opening}
use Rattle.world_model.specs.Lives.{begins, clock_by, delivers}
use Rattle.audit_lives.specs.Finds.{opened_again, pushes_into, sent_again}
use Rattle.audit_lives.specs.Index.{TellsCalls, TellsLives, TellsStreams}
use Rattle.audit_lives.specs.Pairs.{asked, given, replied, named, sent_own, opened_own, sent, executed, settled, opened, ended, cancelled, compacted, pushed, delivered}
use Rattle.audit_lives.specs.declared.calls_told.CallsTold.{CallsTold}
use Rattle.audit_lives.specs.declared.lives_told.LivesTold.{LivesTold}
use Rattle.audit_lives.specs.declared.streams_told.StreamsTold.{StreamsTold}
use Rattle.audit_lives.specs.Messages.{Sets, next_key}
use Rattle.audit_lives.specs.Orders.{Order, places_behind}
use Rattle.audit_lives.proofs.Orders.{order_more, order_none}
use Rattle.audit_lives.proofs.Messages.{messages_more, messages_none}
use Rattle.audit_lives.proofs.Openers.{single_more as opener_single}
use Rattle.audit_lives.proofs.Senders.{single_more}
use Rattle.audit_lives.proofs.Growing.{all_place, clocks_more, count_more, counted_more, life_place, starts_more}

-- ---- of no items

none_first : (kept : List ((ℕ × ℕ) × ℕ)) (pair : Item → Option (ℕ × ℕ)) (start : ℕ → ℕ) → ((a b : ℕ) → place_at kept a b ≡ None) → Firsts kept pair start []
none_first kept pair start e = record {
  first = λ a b. ap (from_start (start a)) (e a b) ∙ sym (ap (λ (xs : List Item). first_place (tells pair a b) (start a) xs) (drop_all (start a) [] (omega arith)));
  within = λ a b n h. absurd (none_some n (sym (e a b) ∙ h));
}
  where
    none_some : (n : ℕ) → ◌≡◌ {A = Option ℕ} None (Some n) → ⊥
    none_some n h = cc

pub lives_none : (l : LivesTold) → ((k : ℕ) → value_at l.starts k ≡ 0) → ((k : ℕ) → value_at l.clocks k ≡ 0) → ((a b : ℕ) → place_at l.asked a b ≡ None) → ((a b : ℕ) → place_at l.given a b ≡ None)
    → ((a b : ℕ) → place_at l.replied a b ≡ None) → ((a b : ℕ) → place_at l.named a b ≡ None) → ((a b : ℕ) → place_at l.sent a b ≡ None) → ((a b : ℕ) → place_at l.opened a b ≡ None) → TellsLives l []
lives_none l z k a g r n s o = record {
  starts = record {
    life = λ p. sym (drop_all (value_at l.starts p) [] (omega arith));
    low = λ p. none_below (z p);
    started = λ p. ap (nat_lt 0) (z p);
  };
  clocks = k;
  asked = none_first l.asked asked (value_at l.starts) a;
  given = none_first l.given given (value_at l.starts) g;
  replied = none_first l.replied replied (value_at l.starts) r;
  named = none_first l.named named (value_at l.starts) n;
  sent = none_first l.sent sent_own (value_at l.starts) s;
  opened = none_first l.opened opened_own (value_at l.starts) o;
}
  where
    none_below : {m : ℕ} → m ≡ 0 → m ≤ length {A = Item} []
    none_below e = omega (arith, e)

pub calls_none : (c : CallsTold) → ((k : ℕ) → value_at c.none k ≡ 0) → ((a b : ℕ) → place_at c.sent a b ≡ None) → ((a b : ℕ) → place_at c.executed a b ≡ None) → ((a b : ℕ) → place_at c.settled a b ≡ None)
    → c.count ≡ 0 → c.order ≡ [] → TellsCalls c []
calls_none c z s x e n r = record {
  none = z;
  sent = none_first c.sent sent (value_at c.none) s;
  executed = none_first c.executed executed (value_at c.none) x;
  settled = none_first c.settled settled (value_at c.none) e;
  count = n;
  order = subst (λ (places : List ℕ). Order places []) (sym r) order_none;
  single = λ f k p. refl;
}

pub streams_none : (s : StreamsTold) → ((k : ℕ) → value_at s.none k ≡ 0) → ((a b : ℕ) → place_at s.opened a b ≡ None) → ((a b : ℕ) → place_at s.ended a b ≡ None) → ((a b : ℕ) → place_at s.cancelled a b ≡ None)
    → ((a b : ℕ) → place_at s.compacted a b ≡ None) → s.count ≡ 0 → ((k : ℕ) → value_at s.pushed k ≡ 0) → ((k : ℕ) → value_at s.delivered k ≡ 0) → ((a b : ℕ) → place_at s.messages a b ≡ None) → TellsStreams s []
streams_none s z o e c k n p d m = record {
  none = z;
  opened = none_first s.opened opened (value_at s.none) o;
  ended = none_first s.ended ended (value_at s.none) e;
  cancelled = none_first s.cancelled cancelled (value_at s.none) c;
  compacted = none_first s.compacted compacted (value_at s.none) k;
  count = n;
  pushed = p;
  delivered = d;
  single = λ f n p. refl;
  messages = messages_none s.messages m;
}

-- ---- lives

pub record LivesGo (old new : LivesTold) (i : Item) (place : ℕ) : Type 0 where
  pub starts : (p : ℕ) → value_at new.starts p ≡ cond (begins p i) (place + 1) (value_at old.starts p)
  pub clocks : (p : ℕ) → value_at new.clocks p ≡ clock_by p (value_at old.clocks p) i
  pub asked : Tells (asked i) (value_at old.starts) place old.asked new.asked
  pub given : Tells (given i) (value_at old.starts) place old.given new.given
  pub replied : Tells (replied i) (value_at old.starts) place old.replied new.replied
  pub named : Tells (named i) (value_at old.starts) place old.named new.named
  pub sent : Tells (sent_own i) (value_at old.starts) place old.sent new.sent
  pub opened : Tells (opened_own i) (value_at old.starts) place old.opened new.opened

lives_at : (old new : LivesTold) (i : Item) (items : List Item) → TellsLives old items → LivesGo old new i (length items) → TellsLives new (items ++ i ∷ [])
lives_at old new i items t g = record {
  starts = starts_more old.starts new.starts items i t.starts g.starts;
  clocks = clocks_more old.clocks new.clocks items i t.clocks g.clocks;
  asked = life_place asked (λ q. refl) (λ q. refl) old.starts new.starts items i old.asked new.asked t.starts g.starts t.asked g.asked;
  given = life_place given (λ q. refl) (λ q. refl) old.starts new.starts items i old.given new.given t.starts g.starts t.given g.given;
  replied = life_place replied (λ q. refl) (λ q. refl) old.starts new.starts items i old.replied new.replied t.starts g.starts t.replied g.replied;
  named = life_place named (λ q. refl) (λ q. refl) old.starts new.starts items i old.named new.named t.starts g.starts t.named g.named;
  sent = life_place sent_own (λ q. refl) (λ q. refl) old.starts new.starts items i old.sent new.sent t.starts g.starts t.sent g.sent;
  opened = life_place opened_own (λ q. refl) (λ q. refl) old.starts new.starts items i old.opened new.opened t.starts g.starts t.opened g.opened;
}

pub lives_more : (old new : LivesTold) (i : Item) (items : List Item) (place : ℕ) → place ≡ length items → TellsLives old items → LivesGo old new i place → TellsLives new (items ++ i ∷ [])
lives_more old new i items place e t g = lives_at old new i items t (subst (λ (n : ℕ). LivesGo old new i n) e g)

-- ---- calls

pub record CallsGo (old new : CallsTold) (i : Item) (place : ℕ) : Type 0 where
  pub none : new.none ≡ old.none
  pub sent : Tells (sent i) (value_at old.none) place old.sent new.sent
  pub executed : Tells (executed i) (value_at old.none) place old.executed new.executed
  pub settled : Tells (settled i) (value_at old.none) place old.settled new.settled
  pub count : new.count ≡ cond (is_sending i) (min (old.count + 1) 0xffff_ffff_ffff_ffff) old.count
  pub order : new.order ≡ places_behind old.order place i

neither : (a b : Bool) → a || b ≡ false → (a ≡ false) × (b ≡ false)
neither true b e = absurd cc
neither false b e = (refl, e)

calls_at : (old new : CallsTold) (i : Item) (items : List Item) → length items < 2 ^ 63 → TellsCalls old items → CallsGo old new i (length items) → new.doubled ≡ old.doubled || sent_again items i → TellsCalls new (items ++ i ∷ [])
calls_at old new i items l t g a = record {
  none = λ a. ap (λ (xs : List (ℕ × ℕ)). value_at xs a) g.none ∙ t.none a;
  sent = subst (λ (xs : List (ℕ × ℕ)). Firsts new.sent sent (value_at xs) (items ++ i ∷ [])) (sym g.none) (all_place sent old.none items i old.sent new.sent t.none t.sent g.sent);
  executed = subst (λ (xs : List (ℕ × ℕ)). Firsts new.executed executed (value_at xs) (items ++ i ∷ [])) (sym g.none) (all_place executed old.none items i old.executed new.executed t.none t.executed g.executed);
  settled = subst (λ (xs : List (ℕ × ℕ)). Firsts new.settled settled (value_at xs) (items ++ i ∷ [])) (sym g.none) (all_place settled old.none items i old.settled new.settled t.none t.settled g.settled);
  count = count_more is_sending items i old.count new.count l t.count g.count;
  order = order_more old.order new.order items i g.order t.order;
  single = λ e.
      let n = neither old.doubled (sent_again items i) (sym a ∙ e) in
      single_more items i (t.single n.0) n.1;
}

pub calls_more : (old new : CallsTold) (i : Item) (items : List Item) (place : ℕ) → place < 2 ^ 63 → place ≡ length items → TellsCalls old items → CallsGo old new i place → new.doubled ≡ old.doubled || sent_again items i
    → TellsCalls new (items ++ i ∷ [])
calls_more old new i items place l e t g a =
    calls_at old new i items (subst (λ (n : ℕ). n < 2 ^ 63) e l) t (subst (λ (n : ℕ). CallsGo old new i n) e g) a

-- ---- streams

pub record StreamsGo (old new : StreamsTold) (i : Item) (place : ℕ) : Type 0 where
  pub none : new.none ≡ old.none
  pub opened : Tells (opened i) (value_at old.none) place old.opened new.opened
  pub ended : Tells (ended i) (value_at old.none) place old.ended new.ended
  pub cancelled : Tells (cancelled i) (value_at old.none) place old.cancelled new.cancelled
  pub compacted : Tells (compacted i) (value_at old.none) place old.compacted new.compacted
  pub count : new.count ≡ cond (is_opening i) (min (old.count + 1) 0xffff_ffff_ffff_ffff) old.count
  pub messages : Sets (next_key (pushed i) (value_at old.pushed)) place old.messages new.messages
  pub pushed : (k : ℕ) → value_at new.pushed k ≡ cond (is_number (pushed i) k) (min (value_at old.pushed k + 1) 0xffff_ffff_ffff_ffff) (value_at old.pushed k)
  pub delivered : (k : ℕ) → value_at new.delivered k ≡ cond (is_number (delivered i) k) (min (value_at old.delivered k + 1) 0xffff_ffff_ffff_ffff) (value_at old.delivered k)

pushes : (k : ℕ) (i : Item) → is_number (pushed i) k ≡ pushes_into k i
pushes k (item.Pushed stream message) = refl
pushes k i = refl

delivers_to : (k : ℕ) (i : Item) → is_number (delivered i) k ≡ delivers k i
delivers_to k (item.Delivered stream) = refl
delivers_to k i = refl

streams_at : (old new : StreamsTold) (i : Item) (items : List Item) → length items < 2 ^ 63 → TellsStreams old items → StreamsGo old new i (length items) → new.doubled ≡ old.doubled || opened_again items i → TellsStreams new (items ++ i ∷ [])
streams_at old new i items l t g a = record {
  none = λ a. ap (λ (xs : List (ℕ × ℕ)). value_at xs a) g.none ∙ t.none a;
  opened = subst (λ (xs : List (ℕ × ℕ)). Firsts new.opened opened (value_at xs) (items ++ i ∷ [])) (sym g.none) (all_place opened old.none items i old.opened new.opened t.none t.opened g.opened);
  ended = subst (λ (xs : List (ℕ × ℕ)). Firsts new.ended ended (value_at xs) (items ++ i ∷ [])) (sym g.none) (all_place ended old.none items i old.ended new.ended t.none t.ended g.ended);
  cancelled = subst (λ (xs : List (ℕ × ℕ)). Firsts new.cancelled cancelled (value_at xs) (items ++ i ∷ [])) (sym g.none) (all_place cancelled old.none items i old.cancelled new.cancelled t.none t.cancelled g.cancelled);
  compacted = subst (λ (xs : List (ℕ × ℕ)). Firsts new.compacted compacted (value_at xs) (items ++ i ∷ [])) (sym g.none) (all_place compacted old.none items i old.compacted new.compacted t.none t.compacted g.compacted);
  count = count_more is_opening items i old.count new.count l t.count g.count;
  pushed = λ k. counted_more (pushes_into k) (pushed i) items i k (value_at old.pushed k) (value_at new.pushed k) l (pushes k i) (t.pushed k) (g.pushed k);
  delivered = λ k. counted_more (delivers k) (delivered i) items i k (value_at old.delivered k) (value_at new.delivered k) l (delivers_to k i) (t.delivered k) (g.delivered k);
  single = λ e.
      let n = neither old.doubled (opened_again items i) (sym a ∙ e) in
      opener_single items i (t.single n.0) n.1;
  messages = messages_more items i old.messages new.messages (value_at old.pushed) t.pushed t.messages g.messages;
}

pub streams_more : (old new : StreamsTold) (i : Item) (items : List Item) (place : ℕ) → place < 2 ^ 63 → place ≡ length items → TellsStreams old items → StreamsGo old new i place → new.doubled ≡ old.doubled || opened_again items i → TellsStreams new (items ++ i ∷ [])
streams_more old new i items place l e t g a =
    streams_at old new i items (subst (λ (n : ℕ). n < 2 ^ 63) e l) t (subst (λ (n : ℕ). StreamsGo old new i n) e g) a
