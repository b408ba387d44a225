-- Clocks that are set, ticks and requests of a generated script are taken.
use Rattle.std.proofs.Common.{◌≡◌, ℕ, ◌+◌, ◌≤◌, ◌==◌, nat_lt, Bool, true, false, cond, List, [], ◌∷◌, length, Option, None, Some, Ok, refl, sym, ◌∙◌, ap, subst, arith}
use Rattle.std.proofs.lemmas.Bool.Decides.{nat_tests}
use Rattle.etcd_types.specs.declared.request.Request.{Request}
use Rattle.store_model.specs.State.{State}
use Rattle.store_model.specs.Watches.{watch_of}
use Rattle.script_text.specs.declared.item.Item.{Item}
use Rattle.script_text.specs.declared.item.Item.TheVariants as item
use Rattle.script_text.specs.declared.line.Line.{Line}
use Rattle.script_text.specs.declared.line.Line.TheVariants as line
use Rattle.core_model.specs.State.{Opening}
use Rattle.world_model.specs.declared.fault.WorldFault.TheVariants as fault
use Rattle.world_model.specs.Asks.{told_at_once, was_asked, asks, asked_at, asked}
use Rattle.world_model.specs.Gains.{all_fetched}
use Rattle.world_model.specs.Places.{is_among, with_number, nth, place_at, with_place, with_core, with_ticket}
use Rattle.world_model.specs.Starts.{clock_set_at, looked, ticked_at, ticked}
use Rattle.world_model.specs.State.{Place, OpenedStream, World, word}
use Rattle.world_model.specs.Steps.{Step, gains, refuses, at_place_of, after_core}
use Rattle.world_model.specs.Transcript.{taken, counted, step}
use Rattle.generated_laws.proofs.Asking.{IsNoWatch}
use Rattle.generated_laws.proofs.Numbers.{among_other}
use Rattle.held_laws.proofs.Worlds.{placed_itself, placed_other}
use Rattle.generated_laws.proofs.Stepping.{IsSmall, Opens, kept, fresh, Ticked, tick_step, Joined, ask_step}
use Rattle.generated_laws.proofs.Worlds.{more_place, next_place, FetchedSo, fetched_so, fetched_place, but_one, more_but, replaced, same_streams, LineTaken, takes_line, runs_counted}
use Rattle.generated_laws.specs.Worlds.{All, But, Held, Linked, PlaceRests, PlaceStands, Running, Runs, StreamStands, held_of}

pub small : (most n : ℕ) → IsSmall (most + n) → IsSmall most
small most n h = omega (arith, h)

same_many : (n m : ℕ) → n ≡ m → n ≤ m + 1
same_many n m e = omega (arith, e)

-- ---- ticks

abbrev leasing_in : Option Held → Option Opening
leasing_in None = None
leasing_in (Some h) = h.leasing

no_opening : {A : Type 0} (o : Opening) → ◌≡◌ {A = Option Opening} None (Some o) → A
no_opening o e = absurd (cc)

not_back : (a b c : ℕ) → a ≤ c → c ≤ b → nat_lt b a ≡ false
not_back a b c k l = grind (arith, nat_tests, k, l)

tied : (n : ℕ) → (n == n) ≡ true
tied n = grind (arith, nat_tests)

pub itself : (n : ℕ) → (n == n) ≡ false → ⊥
itself n e = let t : true ≡ false = sym (tied n) ∙ e in cc

above : (next n : ℕ) → next + 1 ≤ n → (n == next) ≡ false
above next n l = grind (arith, nat_tests, l)

-- the streams of a proxy that had no leasing stream are all cancelled
fresh_streams : (P : ℕ → Place → Type 0) (most : ℕ) (w v : World) (q : ℕ) (x z : Place) → Runs P most w → place_at w q ≡ Some x → v.places ≡ w.places → x.core.leasing ≡ None → v.streams ≡ w.streams → v.store ≡ w.store
    → (number : ℕ) (s : OpenedStream) → nth v.streams number ≡ Some s → StreamStands (held_of (place_at (with_place v q z) s.proxy)) (watch_of v.store number) s
fresh_streams P most w v q x z h at same none streams store number s e c = by (s.proxy == q) refl
  where
    l : Linked (held_of (place_at w s.proxy)) (watch_of w.store number) s
    l = h.streams number s (ap (λ (ss : List OpenedStream). nth ss number) (sym streams) ∙ e) c

    equal : (a b : ℕ) → (a == b) ≡ true → a ≡ b
    equal a b e = grind (arith, nat_tests)

    by : (b : Bool) → (s.proxy == q) ≡ b → Linked (held_of (place_at (with_place v q z) s.proxy)) (watch_of v.store number) s
    by true n =
        let there : held_of (place_at w s.proxy) ≡ held_of (Some x) = ap (λ (i : ℕ). held_of (place_at w i)) (equal s.proxy q n) ∙ ap held_of at in
        no_opening l.opening (sym none ∙ ap leasing_in (sym there ∙ l.stands))
    by false n =
        subst (λ (k : Option Held). Linked k (watch_of v.store number) s) (ap held_of (sym (placed_other w v q s.proxy z same n)))
        (subst (λ (t : State). Linked (held_of (place_at w s.proxy)) (watch_of t number) s) (sym store) l)

pub tick_line : (next most clock p : ℕ) (w : World) (x : Place) → IsSmall (most + 3) → Runs (But p next most clock) most w → place_at w p ≡ Some x → PlaceRests next most clock [] x → LineTaken (All next (most + 3) clock) (most + 3) w (line.Tick p)
tick_line next most clock p w x s h at r =
    takes_line (All next (most + 3) clock) (most + 3) w (line.Tick p) (ticked w p) (with_place w p z) _ refl
    (ap (λ o. at_place_of w p o (ticked_at w p)) at ∙ ap (after_core w p x (fault.NoSuchProxy p) (looked w p)) t.step.step)
    (replaced (All next (most + 3) clock) p next (most + 3) clock w w z (more_but p next most (most + 3) clock clock w (omega (arith)) (omega (arith)) h) refl
    (more_place next (most + 2 + 1) (most + 3) clock clock [] z (omega (arith)) (omega (arith)) (fetched_place next (most + 2) clock [] y [] (small (most + 2) 1 (omega (arith, s))) r.reads r.tickets t.step.stands))
    (λ q i n k. k) (streams t.leasing) h.one h.many (let m = h.short in omega (arith, m)))
    (omega (arith))
  where
    t : Ticked x.clock next (most + 2) x.core (word w)
    t = tick_step x.clock (word w) next most x.core (small most 3 s) r.core

    y : Place
    y = with_core x t.core

    z : Place
    z = (all_fetched y []).place

    f : FetchedSo next (most + 2) [] y z
    f = fetched_so next (most + 2) [] (length y.core.asks) y [] (small (most + 2) 1 (omega (arith, s))) t.step.stands

    streams : Opens x.core t.core → (number : ℕ) (i : OpenedStream) → nth w.streams number ≡ Some i → StreamStands (held_of (place_at (with_place w p z) i.proxy)) (watch_of w.store number) i
    streams (kept l) = same_streams (But p next most clock) most w w p x z h at refl f.life (f.leasing ∙ l) refl refl
    streams (fresh n o l) = fresh_streams (But p next most clock) most w w p x z h at refl n refl refl

-- ---- a clock is set, and its proxy looks at it

-- the world takes both
pub record Both (P : ℕ → Place → Type 0) (most : ℕ) (w : World) (first second : Line) : Type 0 where
  pub between : World
  pub items : List Item
  pub taken : taken w first ≡ Ok (between, items)
  pub then : LineTaken P most between second
  pub streams : length then.after.streams ≤ length w.streams + 1

pub clock_tick : (next most clock later p : ℕ) (w : World) (x : Place) → IsSmall (most + 3) → clock ≤ later → Running next most clock w → place_at w p ≡ Some x → Both (All next (most + 3) later) (most + 3) w (line.Clock p later) (line.Tick p)
clock_tick next most clock later p w x s le h at = record {
  between = record v { lines = v.lines + 1 };
  items = item.Clock p later ∷ [];
  taken = ap (λ (t : Step). counted (step t)) (ap (λ o. at_place_of w p o (clock_set_at w p later)) at ∙ ap (λ b. cond b (refuses w (fault.ClockBack x.clock later)) (gains v (item.Clock p later ∷ []))) ahead);
  then = then;
  streams = (let n = then.streams in n);
}
  where
    r : PlaceStands next most clock [] x
    r = h.places p x at

    ahead : nat_lt later x.clock ≡ false
    ahead = not_back x.clock later clock r.rests.reads le

    y : Place
    y = record x { clock = later }

    v : World
    v = with_place w p y

    runs : Runs (But p next most later) most v
    runs = replaced (But p next most later) p next most later w w y (more_but p next most most clock later w (omega (arith)) le (but_one p next most clock w h)) refl (λ n. absurd (itself p n))
        (λ q i n k m. k) (same_streams (All next most clock) most w w p x y h at refl refl refl refl refl) h.one h.many h.short

    then : LineTaken (All next (most + 3) later) (most + 3) (record v { lines = v.lines + 1 }) (line.Tick p)
    then = tick_line next most later p (record v { lines = v.lines + 1 }) y s (runs_counted (But p next most later) most v runs) (placed_itself w w p y) (record { core = r.rests.core; reads = omega (arith); tickets = r.rests.tickets })

-- ---- a request is asked

pub ask_line : (next most clock p : ℕ) (q : Request) (w : World) (x : Place) → IsSmall (most + 3) → IsNoWatch q → Running next most clock w → place_at w p ≡ Some x → LineTaken (All (next + 1) (most + 3) clock) (most + 3) w (line.Ask p next q)
ask_line next most clock p q w x s k h at =
    takes_line (All (next + 1) (most + 3) clock) (most + 3) w (line.Ask p next q) (asked w p next q) (with_place w p z) _ refl
    (ap (λ o. at_place_of w p o (asked_at w p next q)) at ∙ ap (λ b. cond b (refuses w (fault.TicketUsed next)) (asks w p next q [] (with_ticket next) x)) (r.rests.tickets next (omega (arith)))
    ∙ ap (after_core w p x (fault.TicketUsed next) (was_asked w p next q [] (with_ticket next))) t.step.step)
    (replaced (All (next + 1) (most + 3) clock) p next (most + 3) clock w w z (more_but p next most (most + 3) clock clock w (omega (arith)) (omega (arith)) (but_one p next most clock w h)) refl
    (more_place (next + 1) (most + 2 + 1) (most + 3) clock clock [] z (omega (arith)) (omega (arith)) (fetched_place (next + 1) (most + 2) clock [] y (told_at_once next t.given) (small (most + 2) 1 (omega (arith, s))) r.rests.reads tickets t.step.stands))
    (λ i j n m. next_place next (most + 3) clock [] j m) (same_streams (All next most clock) most w w p x z h at refl f.life (f.leasing ∙ t.leasing) refl refl) h.one h.many (let m = h.short in omega (arith, m)))
    (omega (arith))
  where
    r : PlaceStands next most clock [] x
    r = h.places p x at

    t : Joined x.clock next (most + 2) x.core q (word w)
    t = ask_step x.clock next most q (word w) x.core (small most 3 s) k r.rests.core

    y : Place
    y = with_ticket next (with_core x t.core)

    z : Place
    z = (all_fetched y (told_at_once next t.given)).place

    f : FetchedSo (next + 1) (most + 2) [] y z
    f = fetched_so (next + 1) (most + 2) [] (length y.core.asks) y (told_at_once next t.given) (small (most + 2) 1 (omega (arith, s))) t.step.stands

    tickets : (n : ℕ) → next + 1 ≤ n → is_among (with_number x.tickets next) n ≡ false
    tickets n l = among_other x.tickets next n (above next n l) ∙ r.rests.tickets n (omega (arith, l))
