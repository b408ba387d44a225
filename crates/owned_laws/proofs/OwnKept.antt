-- A write of the key alone is asked, where the key is owned or about to be: its call is due as the owner's, or it waits, and what items tell
-- of it is so.
use Rattle.std.proofs.Common.{◌≡◌, ℕ, ◌+◌, ◌==◌, Bool, true, false, not, ◌&&◌, ◌||◌, List, [], ◌∷◌, ◌++◌, Option, None, Some, is_some, Ok, refl, sym, ◌∙◌, ap, subst}
use Rattle.std.specs.List.{list_all, list_any}
use Rattle.etcd_types.specs.declared.answer.Refusal.{Refusal}
use Rattle.etcd_types.specs.declared.key_range.KeyRange.{KeyRange}
use Rattle.etcd_types.specs.declared.request.Request.{Request}
use Rattle.etcd_types.specs.Keys.{is_empty}
use Rattle.etcd_types.proofs.Bools.{and_first, and_second, and_both, or_first}
use Rattle.etcd_types.specs.Ranges.{is_one}
use Rattle.proxy_model.specs.SeveralKeys.{written_ranges}
use Rattle.wait_model.specs.Covers.{covered, leased}
use Rattle.core_model.specs.declared.event.CoreEvent.{CoreEvent}
use Rattle.core_model.specs.declared.event.CoreEvent.TheVariants as event
use Rattle.core_model.specs.declared.event.Outcome.{Outcome}
use Rattle.core_model.specs.Asking.{asked_at, write_is_asked, refused_or_taken, if_unknown, on_ask}
use Rattle.core_model.specs.ClockWork.{clock_work}
use Rattle.core_model.specs.Kinds.{has_some}
use Rattle.core_model.specs.Lookups.{ask_at, is_known, moment}
use Rattle.core_model.specs.Refusals.{refusal_of}
use Rattle.core_model.specs.State.{Core}
use Rattle.core_model.specs.Step.{happened, is_worn, stepped}
use Rattle.core_model.specs.Stepped.{Stepped, counted}
use Rattle.watch_model.specs.Lookups.{watch_at}
use Rattle.script_text.specs.declared.item.Item.{Item}
use Rattle.world_model.specs.State.{Place, World}
use Rattle.session_laws.proofs.Steps.{gave}
use Rattle.session_laws.proofs.Turns.{bound_of}
use Rattle.cached_laws.specs.Reads.{is_served}
use Rattle.cached_laws.proofs.Steps.{stepped_is}
use Rattle.owned_laws.specs.OwnWrites.{OwnWrite, keeps_over}
use Rattle.owned_laws.specs.Owned.{Owning, asks, sends, owns, write_asked, write_sent, writes_over, has_write, joined, owned}
use Rattle.owned_laws.proofs.Carrying.{less_later}
use Rattle.owned_laws.proofs.Cores as cores
use Rattle.owned_laws.proofs.Cores.{CoreSo}
use Rattle.owned_laws.proofs.Joining.{alone_joined}
use Rattle.owned_laws.proofs.Kept.{are_clients, Writes, Kept}
use Rattle.owned_laws.proofs.Late.{AskedAt, AllOther, begins_at, all_front, all_joined, all_stay, on_time, waits_on_time, asking_on_time, present_on_time}
use Rattle.owned_laws.proofs.Modes.{IsAlone, AllAlone, behind_as}
use Rattle.owned_laws.proofs.OwnSteps.{write_taken, write_begins, write_waits, write_asking, write_present, write_follows}
use Rattle.owned_laws.proofs.Standing.{Before, later, mine, core_ok, prefix_is}
use Rattle.owned_laws.proofs.Steps.{counted_so}
use Rattle.owned_laws.proofs.Ways.{present, asking, holds, sending_as, writes_own}

pub unknown_gives : (c : Core) (now ticket draw : ℕ) (q : Request) (o : Outcome) → (on_ask now ticket q draw c).outcome ≡ Ok o → is_known ticket c ≡ false
unfolding on_ask
unknown_gives c now ticket draw q o e = by (is_known ticket c) e
  where
    by : (b : Bool) → (if_unknown b ticket c (refused_or_taken (refusal_of c.own.waits.prefix q) (moment c now) (asked_at now ticket q draw) c)).outcome ≡ Ok o → b ≡ false
    by true f = absurd (cc)
    by false f = refl

served_none : (o : Option Refusal) → is_served o ≡ true → o ≡ None
served_none None e = refl
served_none (Some r) e = absurd (cc)

or_none : (a b : Bool) → a || b ≡ false → (a ≡ false) × (b ≡ false)
or_none true b h = absurd (cc)
or_none false b h = (refl, h)

off_it : (b : Bool) → not b ≡ true → b ≡ false
off_it true e = absurd (cc)
off_it false e = refl

module _ {namespace : List ℕ} {items : List Item} {w : World} {p : ℕ} {x : Place} (known : Before namespace items w p x) where
  abbrev lea : List ℕ
  lea = w.leasing

  abbrev nsp : List ℕ
  nsp = w.namespace

  abbrev d : Core
  d = clock_work x.clock x.core

  -- of one that is asked and joins
  module _ (k : List ℕ) (t draw : ℕ) (v : OwnWrite) (o : Outcome) (over : writes_over lea k v.request ≡ true) (keeps : keeps_over lea k v.request ≡ true) (client : (v.ticket == 0) ≡ false) (reads : v.since ≡ x.clock) (is : (stepped x.core (event.Ask v.ticket v.request draw) x.clock).outcome ≡ Ok o) where
    abbrev q : Request
    q = v.request

    abbrev e : CoreEvent
    e = event.Ask v.ticket q draw

    abbrev after : Core
    after = (stepped x.core e x.clock).core

    abbrev Told : Owning → Type 0
    Told y = owned nsp lea k p t items ≡ Some y

    abbrev Still : Owning → Type 0
    Still y = Kept w.calls (bound_of w + 1) p x.life x.clock k t y after

    gave' : (is_worn x.core ≡ false) × ((happened x.clock e d).outcome ≡ Ok o)
    gave' = gave x.core e x.clock o is

    new : is_known v.ticket d ≡ false
    new = unknown_gives d x.clock v.ticket draw q o gave'.1

    one : list_all is_one (written_ranges q) && not (leased q k) ≡ true
    one = and_second (not (is_empty lea)) (list_all is_one (written_ranges q) && not (leased q k)) keeps

    covers_it : covered (written_ranges q) k ≡ true
    covers_it = and_second (is_served (refusal_of lea q)) (covered (written_ranges q) k) over

    alone : IsAlone k q
    alone = record { singles = and_first (list_all is_one (written_ranges q)) (not (leased q k)) one; over = covers_it; unleased = off_it (leased q k) (and_second (list_all is_one (written_ranges q)) (not (leased q k)) one) }

    has_some_key : (rs : List KeyRange) → covered rs k ≡ true → has_some rs ≡ true
    has_some_key [] e = absurd (cc)
    has_some_key (r ∷ rs) e = refl

    -- what holds where it is taken in as a write holds behind the step, but for counts
    taken_in : (P : Core → Type 0) → ((s : Stepped) → P s.core → P (counted s).core) → P (write_is_asked (asked_at x.clock v.ticket q draw) d).core → P after
    taken_in P c h =
        subst (λ (s : Stepped). P s.core) (sym (stepped_is x.core e x.clock gave'.0))
        (c (happened x.clock e d)
        (write_taken x.clock v.ticket draw q (λ s. P s.core) d (ap (λ (l : List ℕ). not (is_empty l)) (prefix_is known) ∙ and_first (not (is_empty lea)) (list_all is_one (written_ranges q) && not (leased q k)) keeps) h
        (has_some_key (written_ranges q) covers_it) new
        (ap (λ (l : List ℕ). refusal_of l q) (prefix_is known) ∙ served_none (refusal_of lea q) (and_first (is_served (refusal_of lea q)) (covered (written_ranges q) k) over))))

    asked_new : AskedAt v.ticket v.since after.asks
    asked_new =
        subst (λ (z : Stepped). AskedAt v.ticket v.since z.core.asks) (sym (stepped_is x.core e x.clock gave'.0))
        (begins_at v.ticket v.since x.clock draw q d (sym reads) (or_first (is_some (ask_at v.ticket d.asks)) (is_some (watch_at v.ticket d.watches.watches)) new))

    other : (vs : List OwnWrite) → list_any (λ w. v.ticket == w.ticket) vs ≡ false → AllOther e vs
    other [] n = tt
    other (w ∷ ws) n = let r = or_none (v.ticket == w.ticket) (list_any (λ w. v.ticket == w.ticket) ws) n in (r.0, other ws r.1)

    clients : (vs : List OwnWrite) → are_clients vs ≡ true → are_clients (vs ++ v ∷ []) ≡ true
    clients [] h = ap (λ (b : Bool). not b && true) client
    clients (w ∷ ws) h = and_both (not (w.ticket == 0)) (are_clients (ws ++ v ∷ [])) (and_first (not (w.ticket == 0)) (are_clients ws) h) (clients ws (and_second (not (w.ticket == 0)) (are_clients ws) h))

    begins : (n create : ℕ) → Told (owns n create) → Still (write_asked n create v [])
    begins n create told =
        let s = (mine known).keys k t (owns n create) told in
        let h = s.1 in
        let r = write_begins k n h.entry h.held x.clock draw v alone d (cores.clock_so (holds k n h.entry h.held) ((λ c. refl), refl) x.clock x.core h.so) in
        record {
          below = less_later n (bound_of w) (bound_of w + 1) s.0 (later known);
          clients = clients [] refl;
          so = λ early. record {
            begun = record { entry = r.entry; created = r.created ∙ h.created; alone = r.alone; so = taken_in (CoreSo (writes_own k n v [] None r.alone r.entry)) (λ z. counted_so (writes_own k n v [] None r.alone r.entry) z) r.so };
            asked = (asked_new, tt);
          };
        }

    joins_asking : (vs : List OwnWrite) → Told (asks vs) → list_any (λ w. v.ticket == w.ticket) vs ≡ false → Still (asks (vs ++ v ∷ []))
    joins_asking vs told fresh =
        let s = (mine known).keys k t (asks vs) told in
        record {
          clients = clients vs s.clients;
          so = λ early.
              let soon = all_front x.clock vs v early in
              let u = s.so soon in
              let b = alone_joined k vs v u.alone alone in
              record {
                alone = b;
                asked = all_joined vs v after.asks (all_stay vs x.core e x.clock (core_ok known) (other vs fresh) u.asked) asked_new;
                so = taken_in (CoreSo (asking k t (vs ++ v ∷ []) b)) (λ z. counted_so (asking k t (vs ++ v ∷ []) b) z)
                    (write_asking k 0 x.clock draw v alone vs t u.alone b d (cores.clock_by (asking k t vs u.alone) x.clock x.core (asking_on_time x.clock k t vs u.alone soon x.core u.asked) u.so));
                there = taken_in (CoreSo (present k (vs ++ v ∷ []))) (λ z. counted_so (present k (vs ++ v ∷ [])) z)
                    (write_present k 0 x.clock draw v alone vs d (cores.clock_by (present k vs) x.clock x.core (present_on_time x.clock k vs soon x.core u.asked) u.there));
              };
        }

    joins_sending : (number n : ℕ) (vs : List OwnWrite) → Told (sends number n vs) → list_any (λ w. v.ticket == w.ticket) vs ≡ false → Still (sends number n (vs ++ v ∷ []))
    joins_sending number n vs told fresh =
        let s = (mine known).keys k t (sends number n vs) told in
        record {
          own = s.own;
          call = s.call;
          below = less_later n (bound_of w) (bound_of w + 1) s.below (later known);
          clients = clients vs s.clients;
          so = λ early.
              let soon = all_front x.clock vs v early in
              let u = s.so soon in
              let b = alone_joined k vs v u.alone alone in
              let M = sending_as k s.own n (vs ++ v ∷ []) b in
              record {
                alone = b;
                asked = all_joined vs v after.asks (all_stay vs x.core e x.clock (core_ok known) (other vs fresh) u.asked) asked_new;
                so = taken_in (CoreSo M) (λ z. counted_so M z) (write_waits k n x.clock draw v alone vs s.own u.alone b d (cores.clock_by (sending_as k s.own n vs u.alone) x.clock x.core (waits_on_time x.clock k s.own n vs u.alone soon x.core u.asked) u.so));
              };
        }

    -- behind a write that has begun, or is to begin
    joins_writing : (n create : ℕ) (u : OwnWrite) (vs : List OwnWrite) (call : Option ℕ) → list_any (λ w. v.ticket == w.ticket) (u ∷ vs) ≡ false → Writes k x.clock n create u vs call x.core → Writes k x.clock n create u (vs ++ v ∷ []) call after
    joins_writing n create u vs call fresh s early =
        let soon = all_front x.clock (u ∷ vs) v early in
        let h = s soon in
        let g = h.begun in
        let b : AllAlone k (behind_as (u ∷ (vs ++ v ∷ []))) = (g.alone.0, alone_joined k vs v g.alone.1 alone) in
        let M = writes_own k n u (vs ++ v ∷ []) call b g.entry in
        record {
          begun = record {
            entry = g.entry;
            created = g.created;
            alone = b;
            so = taken_in (CoreSo M) (λ z. counted_so M z)
                (write_follows k n x.clock draw v alone vs u call g.alone b g.entry d (cores.clock_by (writes_own k n u vs call g.alone g.entry) x.clock x.core (on_time x.clock k n u vs call g.alone g.entry soon x.core h.asked) g.so));
          };
          asked = all_joined (u ∷ vs) v after.asks (all_stay (u ∷ vs) x.core e x.clock (core_ok known) (other (u ∷ vs) fresh) h.asked) asked_new;
        }

    some_owning : (a b : Owning) → Some a ≡ Some b → a ≡ b
    some_owning a b e = cc

    pub joined_kept : (y z : Owning) → Told y → has_write v.ticket y ≡ false → joined v y ≡ Some z → Still z
    joined_kept (asks vs) z told fresh j = subst Still (some_owning (asks (vs ++ v ∷ [])) z j) (joins_asking vs told fresh)
    joined_kept (sends number n vs) z told fresh j = subst Still (some_owning (sends number n (vs ++ v ∷ [])) z j) (joins_sending number n vs told fresh)
    joined_kept (owns n create) z told fresh j = subst Still (some_owning (write_asked n create v []) z j) (begins n create told)
    joined_kept (write_asked n create u vs) z told fresh j =
        let s = (mine known).keys k t (write_asked n create u vs) told in
        subst Still (some_owning (write_asked n create u (vs ++ v ∷ [])) z j)
        (record { below = less_later n (bound_of w) (bound_of w + 1) s.below (later known); clients = clients (u ∷ vs) s.clients; so = joins_writing n create u vs None fresh s.so })
    joined_kept (write_sent n create u vs number) z told fresh j =
        let s = (mine known).keys k t (write_sent n create u vs number) told in
        subst Still (some_owning (write_sent n create u (vs ++ v ∷ []) number) z j)
        (record { own = s.own; call = s.call; below = less_later n (bound_of w) (bound_of w + 1) s.below (later known); clients = clients (u ∷ vs) s.clients; so = joins_writing n create u vs (Some s.own) fresh s.so })
