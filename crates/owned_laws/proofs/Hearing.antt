-- What a proxy hears lets its owned keys be: ticks, requests that write other keys, and messages that tell of no revocation.
use Rattle.std.proofs.Common.{◌≡◌, ℕ, ◌+◌, ◌==◌, ◌<◌, Bool, true, false, cond, not, ◌&&◌, ◌||◌, List, [], ◌∷◌, ◌++◌, Option, None, Some, Ok, refl, sym, ◌∙◌, ap, subst, arith}
use Rattle.std.specs.List.{list_any}
use Rattle.etcd_types.specs.declared.request.Request.{Request}
use Rattle.etcd_types.specs.declared.watch.WatchItem.{WatchItem}
use Rattle.etcd_types.specs.declared.watch.WatchItem.TheVariants as watch
use Rattle.etcd_types.specs.Keys.{same}
use Rattle.etcd_types.proofs.Bools.{and_first, and_second}
use Rattle.proxy_model.specs.declared.session.TheConstants.{FIRST_SESSION}
use Rattle.proxy_model.specs.SeveralKeys.{written_ranges}
use Rattle.proxy_model.specs.Unwrapped.{item_without}
use Rattle.wait_model.specs.Covers.{covered}
use Rattle.core_model.specs.declared.event.CoreEvent.TheVariants as event
use Rattle.core_model.specs.declared.event.Outcome.{Outcome}
use Rattle.core_model.specs.ClockWork.{clock_work}
use Rattle.core_model.specs.Refusals.{refusal_of}
use Rattle.core_model.specs.Sessions.{drawn_session}
use Rattle.core_model.specs.State.{Opening, Core}
use Rattle.core_model.specs.Step.{opening_at, happened, stepped}
use Rattle.core_model.specs.Stepped.{Stepped}
use Rattle.core_laws.proofs.Steps.Lists.{same_number, number_itself}
use Rattle.script_text.specs.declared.item.Item.{Item}
use Rattle.script_text.specs.declared.item.Item.TheVariants as item
use Rattle.world_model.specs.Lives.{clock_of, next_message}
use Rattle.world_model.specs.Places.{nth}
use Rattle.world_model.specs.State.{Place, OpenedStream, World, word}
use Rattle.session_laws.proofs.Steps.{gave}
use Rattle.session_laws.proofs.Turns.{bound_of}
use Rattle.cached_laws.specs.Reads.{is_served}
use Rattle.cached_laws.specs.Streams.{leasing_of}
use Rattle.cached_laws.proofs.NewTold.{next_is}
use Rattle.cached_laws.proofs.Steps.{stepped_is, clock_leasing}
use Rattle.owned_laws.specs.OwnWrites.{OwnWrite, keeps_over}
use Rattle.owned_laws.specs.Owned.{Owning, asks, sends, owns, write_asked, write_sent, message_revokes, told_revokes, is_stream, writes_over, has_write, create_of, owned}
use Rattle.owned_laws.specs.Watched.{AllSpare}
use Rattle.owned_laws.proofs.Carrying.{no_true, carry_itself, unwatched}
use Rattle.owned_laws.proofs.Standing.{Before, here, mine, agrees, due, prefix_is, named, Lets, keep}
use Rattle.owned_laws.proofs.Cores.{CoreSo, PassesIn, Passes}
use Rattle.owned_laws.proofs.Modes.{Mode}
use Rattle.owned_laws.proofs.Steps.{happened_so, counted_so, unasked_so}
use Rattle.owned_laws.proofs.Kept.{IsAsking, Kept, KeysOk}
use Rattle.owned_laws.proofs.Late.{AllOther, all_other}
use Rattle.owned_laws.proofs.OwnKept.{unknown_gives, joined_kept}
use Rattle.owned_laws.proofs.Told.{AskedAs, begins_it, writes_it, asks_other, told_asked, told_delivered, all_spare}
use Rattle.owned_laws.proofs.Ways.{OfRescind, plain, present, asking, sending_as, holds, writes_own}

or_none : (a b : Bool) → a || b ≡ false → (a ≡ false) × (b ≡ false)
or_none true b h = absurd (cc)
or_none false b h = (refl, h)

off_it : (b : Bool) → not b ≡ true → b ≡ false
off_it true e = absurd (cc)
off_it false e = refl

module _ {namespace : List ℕ} {items : List Item} {w : World} {p : ℕ} {x : Place} (known : Before namespace items w p x) where
  abbrev next : ℕ
  next = bound_of w + 1

  abbrev lea : List ℕ
  lea = w.leasing

  abbrev nsp : List ℕ
  nsp = w.namespace

  abbrev d : Core
  d = clock_work x.clock x.core

  -- ---- ticks

  drawn : (n : ℕ) → n < bound_of w → (drawn_session (word w) == n) ≡ false
  drawn n l = apart (drawn_session (word w)) n (is (word w) known.beside.small) l
    where
      is : (m : ℕ) → m < FIRST_SESSION → drawn_session m ≡ FIRST_SESSION + m
      is m k = omega (arith, k)

      apart : (s n : ℕ) → s ≡ FIRST_SESSION + word w → n < bound_of w → (s == n) ≡ false
      apart s n e k = by (s == n) refl
        where
          none : s ≡ n → ⊥
          none f = absurd (omega (arith, e, k, f))

          by : (b : Bool) → (s == n) ≡ b → b ≡ false
          by true f = absurd (none (same_number s n f))
          by false f = refl

  pub tick_lets : (k : List ℕ) (t : ℕ) (o : Owning) → Lets known (event.Tick (word w)) k t o
  tick_lets k t (asks vs) = (all_other (event.Tick (word w)) (λ i. tt) vs, ((λ a s. tt), (λ s. tt)))
  tick_lets k t (sends number n vs) = (all_other (event.Tick (word w)) (λ i. tt) vs, λ m c a s. tt)
  tick_lets k t (owns n create) = λ e f c l s. drawn n l
  tick_lets k t (write_asked n create v vs) = (all_other (event.Tick (word w)) (λ i. tt) (v ∷ vs), λ l a e c s. drawn n l)
  tick_lets k t (write_sent n create v vs number) = (all_other (event.Tick (word w)) (λ i. tt) (v ∷ vs), λ m c l a e g s. drawn n l)

  -- ---- requests

  misses : (k : List ℕ) (over : Bool) (q : Request) → writes_over lea k q ≡ false → refusal_of d.own.waits.prefix q ≡ None → over ≡ true → covered (written_ranges q) k ≡ false
  misses k over q n r y = by (refusal_of lea q) (ap (λ (l : List ℕ). refusal_of l q) (sym (prefix_is known)) ∙ r) n
    where
      by : (o : Option Rattle.etcd_types.specs.declared.answer.Refusal.Refusal) → o ≡ None → is_served o && covered (written_ranges q) k ≡ false → covered (written_ranges q) k ≡ false
      by None f g = g
      by (Some r) f g = absurd (cc)

  others : (ticket draw : ℕ) (q : Request) (vs : List OwnWrite) → list_any (λ v. ticket == v.ticket) vs ≡ false → AllOther (event.Ask ticket q draw) vs
  others ticket draw q [] n = tt
  others ticket draw q (v ∷ vs) n = let r = or_none (ticket == v.ticket) (list_any (λ v. ticket == v.ticket) vs) n in (r.0, others ticket draw q vs r.1)

  ask_lets : (k : List ℕ) (t : ℕ) (o : Owning) (ticket draw : ℕ) (q : Request) → writes_over lea k q ≡ false → has_write ticket o ≡ false → Lets known (event.Ask ticket q draw) k t o
  ask_lets k t (asks vs) ticket draw q n h = (others ticket draw q vs h, ((λ a s. misses k true q n), (λ s. misses k false q n)))
  ask_lets k t (sends number m vs) ticket draw q n h = (others ticket draw q vs h, λ i c a s. misses k true q n)
  ask_lets k t (owns m create) ticket draw q n h = λ e f c l s. misses k true q n
  ask_lets k t (write_asked m create v vs) ticket draw q n h = (others ticket draw q (v ∷ vs) h, λ l a e c s. misses k true q n)
  ask_lets k t (write_sent m create v vs number) ticket draw q n h = (others ticket draw q (v ∷ vs) h, λ i j l a e c s. misses k true q n)

  -- the ticket is asked here
  begun_so : (k : List ℕ) (ticket draw : ℕ) (q : Request) (o : Outcome) → writes_over lea k q ≡ false → (stepped x.core (event.Ask ticket q draw) x.clock).outcome ≡ Ok o → IsAsking k x.clock ticket [] (stepped x.core (event.Ask ticket q draw) x.clock).core
  begun_so k ticket draw q o n is =
      let e = event.Ask ticket q draw in
      let gave' = gave x.core e x.clock o is in
      let M = asking k ticket [] tt in
      record {
        clients = refl;
        so = λ early. record {
          alone = tt;
          asked = tt;
          so = subst (λ (s : Stepped). CoreSo M s.core) (sym (stepped_is x.core e x.clock gave'.0))
              (counted_so M (happened x.clock e d) (happened_so M x.clock e d (due known) (misses k true q n) (unasked_so k ticket d (agrees known) (unknown_gives d x.clock ticket draw q o gave'.1))));
          there = λ s i. (record { case = tt; outs = tt; there = tt; over = λ y. no_true y; mark = λ y. no_true y; entry = λ y. no_true y }, tt);
        };
      }

  pub ask_keys : (before : List Item) (ticket draw : ℕ) (q : Request) (o : Outcome) → ((k : List ℕ) (t : ℕ) → owned nsp lea k p t before ≡ owned nsp lea k p t items) → clock_of p before ≡ clock_of p items → (stepped x.core (event.Ask ticket q draw) x.clock).outcome ≡ Ok o
      → KeysOk nsp lea next w.calls (before ++ item.Asked p ticket q ∷ []) p x.life x.clock (stepped x.core (event.Ask ticket q draw) x.clock).core
  ask_keys before ticket draw q o same clock is k t own f = by (told_asked nsp lea k p t before ticket q own f)
    where
      by : AskedAs nsp lea k p t before ticket q own → Kept w.calls next p x.life x.clock k t own (stepped x.core (event.Ask ticket q draw) x.clock).core
      by (begins_it n i j) =
          subst (λ (y : Owning). Kept w.calls next p x.life x.clock k t y (stepped x.core (event.Ask ticket q draw) x.clock).core) (sym j)
          (subst (λ (m : ℕ). IsAsking k x.clock m [] (stepped x.core (event.Ask ticket q draw) x.clock).core) i (begun_so k ticket draw q o n is))
      by (writes_it y u over may j) =
          let parts = and_first (keeps_over lea k q && not (ticket == 0)) (not (has_write ticket y)) may in
          joined_kept known k t draw (record { ticket = ticket; request = q; since = clock_of p before }) o over (and_first (keeps_over lea k q) (not (ticket == 0)) parts) (off_it (ticket == 0) (and_second (keeps_over lea k q) (not (ticket == 0)) parts))
          (clock ∙ (known.beside.sessions.places p x known.there).clock) is y own (sym (same k t) ∙ u) (off_it (has_write ticket y) (and_second (keeps_over lea k q && not (ticket == 0)) (not (has_write ticket y)) may)) j
      by (asks_other n e h) = keep known (event.Ask ticket q draw) k t own w.calls (carry_itself w.calls) (ask_lets k t own ticket draw q n h) ((mine known).keys k t own (sym (same k t) ∙ e))

  -- ---- messages

  some_opening : (a b : Opening) → Some a ≡ Some b → a ≡ b
  some_opening a b e = cc

  opening_is : (number : ℕ) (l : Option Opening) (o : Opening) → opening_at number l ≡ Some o → (l ≡ Some o) × (number ≡ o.number)
  opening_is number None o e = absurd (cc)
  opening_is number (Some y) o e = by (y.number == number) refl e
    where
      by : (c : Bool) → (y.number == number) ≡ c → cond c (Some y) None ≡ Some o → (Some y ≡ Some o) × (number ≡ o.number)
      by true f k = (k, sym (same_number y.number number f) ∙ ap (λ (z : Opening). z.number) (some_opening y o k))
      by false f k = absurd (cc)

  module _ (number : ℕ) (s : OpenedStream) (i : WatchItem) (rest : List WatchItem) (there : nth w.streams number ≡ Some s) (its : s.proxy ≡ p) (going : s.ended ≡ false) (lived : s.life ≡ x.life) (queued : s.waiting ≡ i ∷ rest) where
    by_message : (k : List ℕ) (create : Option ℕ) (M : Mode) (y : WatchItem) (o : Opening) → M.key ≡ k → (M.hold ≡ true → create ≡ Some M.entry.create) → message_revokes lea k create y ≡ false → Passes M d o y
    by_message k create M (watch.Created hd) o e f n = tt
    by_message k create M (watch.Events hd es) o e f n = λ r.
        subst (λ (l : List ℕ). AllSpare M.key M.over M.hold M.entry.create l es) (sym (prefix_is known))
        (subst (λ (l : List ℕ). AllSpare l M.over M.hold M.entry.create lea es) (sym e) (all_spare k lea M.over M.hold M.entry.create create es f n))
    by_message k create M (watch.Canceled hd compaction) o e f n = λ z y. by (compaction == 0) z n
      where
        by : (c : Bool) → c ≡ false → not c ≡ false → ⊥
        by true z n = absurd (cc)
        by false z n = absurd (cc)

    off : (a c : Bool) → a ≡ true → a && c ≡ false → c ≡ false
    off true c e f = f
    off false c e f = absurd (cc)

    passes_in : (k : List ℕ) (create : Option ℕ) (M : Mode) → M.key ≡ k → (M.hold ≡ true → create ≡ Some M.entry.create) → is_stream number (leasing_of nsp lea p items) && told_revokes nsp lea k create (next_message number items) ≡ false
        → PassesIn M d s.own i
    passes_in k create M e f n o y opened sent read =
        let l = opening_is s.own x.core.leasing o (ap (opening_at s.own) (sym (clock_leasing x.clock x.core)) ∙ opened) in
        let t = (here known).stream.single o number l.0 (record { at = s; there = there; mine = its; lives = lived; own = l.1 }) in
        let stream : is_stream number (leasing_of nsp lea p items) ≡ true = ap (is_stream number) t.1 ∙ number_itself number in
        let told_it : told_revokes nsp lea k create (Some i) ≡ false = ap (told_revokes nsp lea k create) (sym (next_is items w number s i rest known.beside.facts there going queued)) ∙ off (is_stream number (leasing_of nsp lea p items)) (told_revokes nsp lea k create (next_message number items)) stream n in
        by_message k create M y o e f (ap (Rattle.owned_laws.specs.Owned.read_revokes lea k create) (sym (ap (λ (l : List ℕ). item_without l i) (sym (named known)) ∙ read)) ∙ told_it)

    no_some : (a c : ℕ) → a ≡ c → Some c ≡ Some a
    no_some a c e = ap (λ (m : ℕ). Some m) (sym e)

    present_passes : (k : List ℕ) (vs : List OwnWrite) → PassesIn (present k vs) d s.own i
    present_passes k vs o (watch.Created hd) a c e = tt
    present_passes k vs o (watch.Events hd es) a c e = λ r. unwatched k d.own.waits.prefix es
    present_passes k vs o (watch.Canceled hd compaction) a c e = λ n y. no_true y

    item_lets : (k : List ℕ) (t : ℕ) (o : Owning) → is_stream number (leasing_of nsp lea p items) && told_revokes nsp lea k (create_of o) (next_message number items) ≡ false → Lets known (event.Item s.own i) k t o
    item_lets k t (asks vs) n = (all_other (event.Item s.own i) (λ j. tt) vs, ((λ a u. passes_in k None (asking k t vs a) refl (λ y. no_true y) n), (λ u. present_passes k vs)))
    item_lets k t (sends c m vs) n = (all_other (event.Item s.own i) (λ j. tt) vs, λ j v a u. passes_in k None (sending_as k j m vs a) refl (λ y. no_true y) n)
    item_lets k t (owns m create) n = λ e f c l u. passes_in k (Some create) (holds k m e f) refl (λ y. no_some e.create create c) n
    item_lets k t (write_asked m create v vs) n = (all_other (event.Item s.own i) (λ j. tt) (v ∷ vs), λ l a e c u. passes_in k (Some create) (writes_own k m v vs None a e) refl (λ y. no_some e.create create c) n)
    item_lets k t (write_sent m create v vs sent) n = (all_other (event.Item s.own i) (λ j. tt) (v ∷ vs), λ j g l a e c u. passes_in k (Some create) (writes_own k m v vs (Some j) a e) refl (λ y. no_some e.create create c) n)

    pub item_keys : KeysOk nsp lea next w.calls (items ++ item.Delivered number ∷ []) p x.life x.clock (stepped x.core (event.Item s.own i) x.clock).core
    item_keys k t o f = let u = told_delivered nsp lea k p t items number o f in keep known (event.Item s.own i) k t o w.calls (carry_itself w.calls) (item_lets k t o u.1) ((mine known).keys k t o u.0)

    pub plain_passes : (T : OfRescind) → PassesIn (plain [] T) d s.own i
    plain_passes T o (watch.Created hd) a c e = tt
    plain_passes T o (watch.Events hd es) a c e = λ r. unwatched [] d.own.waits.prefix es
    plain_passes T o (watch.Canceled hd compaction) a c e = λ n y. no_true y
