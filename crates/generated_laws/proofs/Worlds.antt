-- What is to hold of the world between the lines of a generated script, and how a step of one proxy leaves it.
use Rattle.std.proofs.Common.{◌≡◌, ℕ, zero, suc, ◌+◌, ◌-◌, ◌≤◌, ◌==◌, Bool, true, false, cond, List, [], length, slice_get, Option, None, Some, is_some, Result, Ok, Err, refl, sym, ◌∙◌, ap, subst, arith}
use Rattle.etcd_types.specs.declared.answer.Answer.{Answer}
use Rattle.store_model.specs.declared.watch.OpenWatch.{OpenWatch}
use Rattle.store_model.specs.History.{newest}
use Rattle.store_model.specs.Watches.{watch_of}
use Rattle.script_text.specs.declared.item.Item.{Item}
use Rattle.script_text.specs.declared.line.Line.{Line}
use Rattle.core_model.specs.declared.event.CoreEvent.TheVariants as event
use Rattle.core_model.specs.declared.event.Outcome.{Outcome}
use Rattle.core_model.specs.declared.event.Outcome.TheVariants as outcome
use Rattle.core_model.specs.declared.event.StepFault.{StepFault}
use Rattle.core_model.specs.declared.out_call.OutCall.{OutCall}
use Rattle.core_model.specs.State.{Core}
use Rattle.core_model.specs.Step.{stepped}
use Rattle.core_model.specs.Stepped.{Stepped}
use Rattle.core_model.specs.Takes.{ready}
use Rattle.world_model.specs.Gains.{Replies, with_reply, fetched_as, fetched_by, fetched_if, fetched, all_fetched}
use Rattle.world_model.specs.Places.{is_among, nth, place_at, with_place, with_core}
use Rattle.world_model.specs.State.{Place, OpenedStream, World}
use Rattle.world_model.specs.Steps.{Step as Done, gains}
use Rattle.world_model.specs.Transcript.{taken, counted, step, done}
use Rattle.generated_laws.specs.OnTime.{IsOnTime}
use Rattle.generated_laws.proofs.Events.{Took, a_reply, nothing, take_step}
use Rattle.generated_laws.proofs.Requests.{few_more}
use Rattle.held_laws.proofs.Worlds.{equal, one_place, placed_itself, placed_other}
use Rattle.generated_laws.proofs.Stepping.{more_rests, more_stands, IsSmall}
use Rattle.generated_laws.specs.Proxies.{Rests, Stands}
use Rattle.generated_laws.specs.Worlds.{But, Held, Linked, OneEach, PlaceStands, Running, Runs, StreamStands, held_of}

-- ---- a proxy's place

pub stands_core : (next most clock : ℕ) (out : List OutCall) (x : Place) → PlaceStands next most clock out x → Stands x.clock next most out x.core
stands_core next most clock out x h = record { rests = h.rests.core; on_time = h.on_time }

pub more_place : (next most more clock later : ℕ) (out : List OutCall) (x : Place) → most ≤ more → clock ≤ later → PlaceStands next most clock out x → PlaceStands next more later out x
more_place next most more clock later out x h k p = record {
  rests = record { core = more_rests next most more out x.core h p.rests.core; reads = (let c = p.rests.reads in omega (arith, c, k)); tickets = p.rests.tickets };
  on_time = p.on_time;
}

next_rests : (next most : ℕ) (out : List OutCall) (c : Core) → Rests next most out c → Rests (next + 1) most out c
next_rests next most out c h = record { asks = few_more next c.asks h.asks; out = h.out; streams = h.streams; watches = h.watches; steps = h.steps; given = h.given; namespace = h.namespace; fresh = h.fresh }

pub next_place : (next most clock : ℕ) (out : List OutCall) (x : Place) → PlaceStands next most clock out x → PlaceStands (next + 1) most clock out x
next_place next most clock out x p = record {
  rests = record { core = next_rests next most out x.core p.rests.core; reads = p.rests.reads; tickets = λ t l. p.rests.tickets t (omega (arith, l)) };
  on_time = p.on_time;
}

-- ---- the replies that stand ready are fetched

pub record FetchedSo (next most : ℕ) (out : List OutCall) (x z : Place) : Type 0 where
  pub clock : z.clock ≡ x.clock
  pub life : z.life ≡ x.life
  pub tickets : z.tickets ≡ x.tickets
  pub leasing : z.core.leasing ≡ x.core.leasing
  pub stands : Stands x.clock next (most + 1) out z.core

fetched_core : (next most : ℕ) (out : List OutCall) (x : Place) (d : Core) (z : Place) → d.leasing ≡ x.core.leasing → FetchedSo next most out (with_core x d) z → FetchedSo next most out x z
fetched_core next most out x d z l h = record { clock = h.clock; life = h.life; tickets = h.tickets; leasing = h.leasing ∙ l; stands = h.stands }

pub fetched_so : (next most : ℕ) (out : List OutCall) (n : ℕ) (x : Place) (got : Replies) → IsSmall most → Stands x.clock next most out x.core → FetchedSo next most out x (fetched n x got).place
fetched_so next most out zero x got s h = record { clock = refl; life = refl; tickets = refl; leasing = refl; stands = more_stands x.clock next most (most + 1) out x.core (omega (arith)) h }
fetched_so next most out (suc n) x got s h = by_ready (λ y g k. fetched_so next most out n y g s k) (ready x.core)
  where
    stopped : (d : Core) (o : Result Outcome StepFault) → ((a : Answer) → o ≡ Ok (outcome.Replied a) → ⊥) → Stands x.clock next (most + 1) out d → d.leasing ≡ x.core.leasing → (ticket : ℕ) → FetchedSo next most out x (fetched_as (fetched n) (with_core x d) ticket got o).place
    stopped d (Ok (outcome.Replied a)) never st l ticket = absurd (never a refl)
    stopped d (Ok outcome.Waiting) never st l ticket = record { clock = refl; life = refl; tickets = refl; leasing = l; stands = st }
    stopped d (Ok outcome.Pending) never st l ticket = record { clock = refl; life = refl; tickets = refl; leasing = l; stands = st }
    stopped d (Ok (outcome.Item i)) never st l ticket = record { clock = refl; life = refl; tickets = refl; leasing = l; stands = st }
    stopped d (Ok outcome.Noted) never st l ticket = record { clock = refl; life = refl; tickets = refl; leasing = l; stands = st }
    stopped d (Ok (outcome.Job j)) never st l ticket = record { clock = refl; life = refl; tickets = refl; leasing = l; stands = st }
    stopped d (Err f) never st l ticket = record { clock = refl; life = refl; tickets = refl; leasing = l; stands = st }

    by_took : ((y : Place) (g : Replies) → Stands y.clock next most out y.core → FetchedSo next most out y (fetched n y g).place) → (ticket : ℕ) (t : Stepped) → Took x.clock next most out x.core t → FetchedSo next most out x (fetched_by (fetched n) x ticket got t).place
    by_took more ticket t (a_reply a d e st l) =
        subst (λ (u : Stepped). FetchedSo next most out x (fetched_by (fetched n) x ticket got u).place) (sym e) (fetched_core next most out x d _ l (more (with_core x d) (with_reply ticket a got) st))
    by_took more ticket t (nothing d o never e st l) =
        subst (λ (u : Stepped). FetchedSo next most out x (fetched_by (fetched n) x ticket got u).place) (sym e) (stopped d o never st l ticket)

    by_ready : ((y : Place) (g : Replies) → Stands y.clock next most out y.core → FetchedSo next most out y (fetched n y g).place) → (o : Option ℕ) → FetchedSo next most out x (fetched_if (fetched n) x got o).place
    by_ready more None = record { clock = refl; life = refl; tickets = refl; leasing = refl; stands = more_stands x.clock next most (most + 1) out x.core (omega (arith)) h }
    by_ready more (Some ticket) = by_took more ticket (stepped x.core (event.Take ticket) x.clock) (take_step x.clock next most out ticket x.core s h.rests)

-- the place once they were fetched
pub fetched_place : (next most clock : ℕ) (out : List OutCall) (y : Place) (told : Replies) → IsSmall most → y.clock ≤ clock → ((t : ℕ) → next ≤ t → is_among y.tickets t ≡ false) → Stands y.clock next most out y.core
    → PlaceStands next (most + 1) clock out (all_fetched y told).place
fetched_place next most clock out y told s c t h =
    let f = fetched_so next most out (length y.core.asks) y told s h in
    record {
      rests = record {
        core = f.stands.rests;
        reads = (let e = f.clock in omega (arith, e, c));
        tickets = λ n l. ap (λ ns. is_among ns n) f.tickets ∙ t n l;
      };
      on_time = subst (λ (n : ℕ). IsOnTime n (all_fetched y told).place.core) (sym f.clock) f.stands.on_time;
    }

-- ---- streams

-- ---- the world

pub but_one : (q next most clock : ℕ) (w : World) → Running next most clock w → Runs (But q next most clock) most w
but_one q next most clock w h = record { places = λ p x e n. h.places p x e; there = h.there; streams = h.streams; one = h.one; many = h.many; short = h.short }

pub more_running : (next most more clock later : ℕ) (w : World) → most ≤ more → clock ≤ later → Running next most clock w → Running next more later w
more_running next most more clock later w h k r = record {
  places = λ p x e. more_place next most more clock later [] x h k (r.places p x e);
  there = r.there;
  streams = r.streams;
  one = r.one;
  many = r.many;
  short = (let s = r.short in omega (arith, s, h));
}

pub more_but : (q next most more clock later : ℕ) (w : World) → most ≤ more → clock ≤ later → Runs (But q next most clock) most w → Runs (But q next more later) more w
more_but q next most more clock later w h k r = record {
  places = λ p x e n. more_place next most more clock later [] x h k (r.places p x e n);
  there = r.there;
  streams = r.streams;
  one = r.one;
  many = r.many;
  short = (let s = r.short in omega (arith, s, h));
}

pub next_but : (q next most clock : ℕ) (w : World) → Runs (But q next most clock) most w → Runs (But q (next + 1) most clock) most w
next_but q next most clock w r = record { places = λ p x e n. next_place next most clock [] x (r.places p x e n); there = r.there; streams = r.streams; one = r.one; many = r.many; short = r.short }

-- the count of lines is none of these
pub runs_counted : (P : ℕ → Place → Type 0) (most : ℕ) (w : World) → Runs P most w → Runs P most (record w { lines = w.lines + 1 })
runs_counted P most w h = record { places = h.places; there = h.there; streams = h.streams; one = h.one; many = h.many; short = h.short }

-- ---- one place is put anew

pub held_same : (w v : World) (p : ℕ) (x z : Place) → place_at w p ≡ Some x → v.places ≡ w.places → z.life ≡ x.life → z.core.leasing ≡ x.core.leasing → (q : ℕ) → held_of (place_at (with_place v p z) q) ≡ held_of (place_at w q)
held_same w v p x z at same life leasing q = by (q == p) refl
  where
    by : (b : Bool) → (q == p) ≡ b → held_of (place_at (with_place v p z) q) ≡ held_of (place_at w q)
    by true e =
        let there = equal q p e in
        ap (λ (n : ℕ). held_of (place_at (with_place v p z) n)) there ∙ ap held_of (placed_itself v v p z) ∙ (λ i. Some (record { life = life i; leasing = leasing i })) ∙ sym (ap held_of at) ∙ ap (λ (n : ℕ). held_of (place_at w n)) (sym there)
    by false e = ap held_of (placed_other w v p q z same e)

-- the world behind a step of the proxy `p`, as `P` says of all places
pub replaced : (P : ℕ → Place → Type 0) (q next most clock : ℕ) (w v : World) (z : Place) → Runs (But q next most clock) most w → v.places ≡ w.places → P q z → ((p : ℕ) (x : Place) → (p == q) ≡ false → PlaceStands next most clock [] x → P p x)
    → ((number : ℕ) (s : OpenedStream) → nth v.streams number ≡ Some s → StreamStands (held_of (place_at (with_place v q z) s.proxy)) (watch_of v.store number) s)
    → OneEach v.streams → length v.store.watches ≡ length v.streams → newest v.store.history ≤ most → Runs P most (with_place v q z)
replaced P q next most clock w v z h same here others streams one many short = record {
  places = λ p x e. place p x e (p == q) refl;
  there = λ p i. stands p (h.there p i) (p == q) refl;
  streams = streams;
  one = one;
  many = many;
  short = short;
}
  where
    place : (p : ℕ) (x : Place) → place_at (with_place v q z) p ≡ Some x → (b : Bool) → (p == q) ≡ b → P p x
    place p x e true n =
        let there = equal p q n in
        let one = one_place z x (sym (placed_itself v v q z) ∙ ap (place_at (with_place v q z)) (sym there) ∙ e) in
        subst (λ (i : ℕ). P i x) (sym there) (subst (P q) one here)
    place p x e false n = others p x n (h.places p x (sym (placed_other w v q p z same n) ∙ e) n)

    stands : (p : ℕ) → is_some (place_at w p) ≡ true → (b : Bool) → (p == q) ≡ b → is_some (place_at (with_place v q z) p) ≡ true
    stands p i true n = ap (λ (m : ℕ). is_some (place_at (with_place v q z) m)) (equal p q n) ∙ ap is_some (placed_itself v v q z)
    stands p i false n = ap is_some (placed_other w v q p z same n) ∙ i

-- the streams, where nothing of them changes
pub same_streams : (P : ℕ → Place → Type 0) (most : ℕ) (w v : World) (q : ℕ) (x z : Place) → Runs P most w → place_at w q ≡ Some x → v.places ≡ w.places → z.life ≡ x.life → z.core.leasing ≡ x.core.leasing → v.streams ≡ w.streams → v.store.watches ≡ w.store.watches
    → (number : ℕ) (s : OpenedStream) → nth v.streams number ≡ Some s → StreamStands (held_of (place_at (with_place v q z) s.proxy)) (watch_of v.store number) s
same_streams P most w v q x z h at same life leasing streams watches number s e c =
    let l = h.streams number s (ap (λ (ss : List OpenedStream). nth ss number) (sym streams) ∙ e) c in
    subst (λ (k : Option Held). Linked k (watch_of v.store number) s) (sym (held_same w v q x z at same life leasing s.proxy))
    (subst (λ (k : Option OpenWatch). Linked (held_of (place_at w s.proxy)) k s) (ap (λ (ws : List OpenWatch). cond (number == 0) None (slice_get ws (number - 1))) (sym watches)) l)

-- ---- lines

-- the world takes the line, and runs on so
pub record LineTaken (P : ℕ → Place → Type 0) (most : ℕ) (w : World) (l : Line) : Type 0 where
  pub after : World
  pub items : List Item
  pub taken : taken w l ≡ Ok (after, items)
  pub runs : Runs P most after
  pub streams : length after.streams ≤ length w.streams + 1

abbrev pub takes_line : (P : ℕ → Place → Type 0) (most : ℕ) (w : World) (l : Line) (s : Done) (v : World) (items : List Item) → done w l ≡ step s → s ≡ gains v items → Runs P most v → length v.streams ≤ length w.streams + 1 → LineTaken P most w l
takes_line P most w l s v items d e h n = record {
  after = record v { lines = v.lines + 1 };
  items = items;
  taken = ap counted d ∙ ap (λ (t : Done). counted (step t)) e;
  runs = runs_counted P most v h;
  streams = n;
}
