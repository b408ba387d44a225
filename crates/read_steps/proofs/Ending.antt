-- Requests that end without an answer: where none passes nothing changes, and where one does by its ticket, what ends is its own.
use Rattle.std.proofs.Common.{◌≡◌, ℕ, Bool, true, false, not, cond, ◌&&◌, ◌||◌, ◌==◌, List, [], ◌∷◌, map, None, Some, refl, sym, ◌∙◌, ap, arith}
use Rattle.std.specs.List.{list_any, list_all}
use Rattle.std.proofs.lemmas.Bool.Decides.{nat_tests}
use Rattle.etcd_types.specs.Keys.{same}
use Rattle.etcd_types.proofs.Bools.{and_first, and_second, and_both, or_first, or_second}
use Rattle.proxy_model.specs.Keyed.{at}
use Rattle.wait_model.specs.Endings.{forgotten}
use Rattle.wait_model.specs.State.{Ownership}
use Rattle.read_model.specs.declared.asked.Asked.{Asked}
use Rattle.read_model.specs.declared.asked.Stage.TheVariants as stage
use Rattle.read_model.specs.declared.asked.Verdict.TheVariants as verdict
use Rattle.read_model.specs.Acquires.{is_acquiring, acquires_at}
use Rattle.read_model.specs.Fits.{AllStand}
use Rattle.read_model.specs.PlainRead.{ask_key, in_stage}
use Rattle.read_model.specs.Release.{ask_stands, released}
use Rattle.read_model.specs.SessionEnd.{is_due_acquire, dropped}
use Rattle.read_model.specs.State.{Reads, Moment, Ground, ground_of, on}
use Rattle.read_model.specs.TakingOff.{is_writes, forgotten_all, falls, taken_off}
use Rattle.core_model.specs.ClockWork.{times_out, timed_out_ask}
use Rattle.core_model.specs.Fits.{once, has_number, ask_tickets}
use Rattle.core_model.specs.Lookups.{has_ticket, ask_at, without_ask}
use Rattle.known_asks.specs.Asks.{none_times_out}
use Rattle.read_steps.specs.Over.{forgot, falls_with, ended, ended_with}
use Rattle.read_steps.proofs.Standing.{none_released, fewer_stand}
use Rattle.read_steps.proofs.Without.{without_none, without_same}

pub not_true : (b : Bool) → not b ≡ true → b ≡ false
not_true true e = sym e
not_true false e = refl

pub not_false : (b : Bool) → not b ≡ false → b ≡ true
not_false true e = refl
not_false false e = sym e

-- none passes
abbrev pub NonePass : (Asked → Bool) → List Asked → Type 0
NonePass p [] = Unit {0}
NonePass p (a ∷ rest) = (p a ≡ false) × NonePass p rest

pub none_forgotten : (p : Asked → Bool) (xs : List Asked) (own : Ownership) → NonePass p xs → forgotten_all p xs own ≡ own
none_forgotten p [] own h = refl
none_forgotten p (a ∷ rest) own h =
    ap (λ b. forgotten_all p rest (cond (b && is_writes a.stage) (forgotten a.ticket own) own)) h.0 ∙ none_forgotten p rest own h.1

none_acquires : (p : Asked → Bool) (xs : List Asked) (k : List ℕ) → NonePass p xs → list_any (λ a. p a && acquires_at k a) xs ≡ false
none_acquires p [] k h = refl
none_acquires p (a ∷ rest) k h =
    ap (λ b. (b && acquires_at k a) || list_any (λ a. p a && acquires_at k a) rest) h.0 ∙ none_acquires p rest k h.1

pub none_fall : (p : Asked → Bool) (r : Reads) → NonePass p r.asks → (k : List ℕ) → falls p r k ≡ false
none_fall p r h k = ap (λ b. b && is_due_acquire (at r.acquires k)) (none_acquires p r.asks k h)

-- the ground is as it was where no acquire falls
pub none_dropped : (p : List ℕ → Bool) (g : Ground) → ((k : List ℕ) → p k ≡ false) → dropped p g ≡ g
none_dropped p g h = λ i. record {
  own = record g.own { waits = record g.own.waits { spoiled = without_none p g.own.waits.spoiled h i } };
  acquires = without_none p g.acquires h i;
}

pub none_ended : (p : Asked → Bool) (r : Reads) → NonePass p r.asks → ended p r ≡ ground_of r
none_ended p r h =
    ap (λ (o : Ownership). dropped (falls p r) (record (ground_of r) { own = o })) (none_forgotten p r.asks r.own h) ∙ none_dropped (falls p r) (ground_of r) (none_fall p r h)

-- None is late.

pub none_pass : (now : ℕ) (xs : List Asked) → none_times_out now xs ≡ true → NonePass (times_out now) xs
none_pass now [] h = tt
none_pass now (a ∷ rest) h =
    (not_true (times_out now a) (and_first (not (times_out now a)) (none_times_out now rest) h), none_pass now rest (and_second (not (times_out now a)) (none_times_out now rest) h))

none_changed : (now : ℕ) (xs : List Asked) → NonePass (times_out now) xs → map (timed_out_ask now) xs ≡ xs
none_changed now [] h = refl
none_changed now (a ∷ rest) h = λ i. cond (h.0 i) (in_stage (stage.Replied verdict.TimedOut) a) a ∷ none_changed now rest h.1 i

pub none_late : (m : Moment) (r : Reads) → none_times_out m.now r.asks ≡ true → AllStand (ground_of r) r.asks → r ≡ taken_off m (times_out m.now) (map (timed_out_ask m.now) r.asks) r
none_late m r h s =
    let n = none_pass m.now r.asks h in
    sym ((λ i. released false m (on (none_ended (times_out m.now) r n i) (none_changed m.now r.asks n i))) ∙ none_released m (ground_of r) r.asks s)

-- One leaves.

pub others_pass : (t u : ℕ) (xs : List Asked) → (u == t) ≡ true → has_number (ask_tickets xs) u ≡ false → NonePass (has_ticket t) xs
others_pass t u [] e h = tt
others_pass t u (a ∷ rest) e h = (other (a.ticket == u) (has_number (ask_tickets rest) u) h, others_pass t u rest e (later (a.ticket == u) (has_number (ask_tickets rest) u) h))
  where
    differ : (m n k : ℕ) → (m == n) ≡ true → (k == m) ≡ false → (k == n) ≡ false
    differ m n k e f = grind (arith, nat_tests)

    other : (b c : Bool) → (a.ticket == u) || c ≡ false → (a.ticket == t) ≡ false
    other b c f = differ u t a.ticket e (first (a.ticket == u) c f)
      where
        first : (b c : Bool) → b || c ≡ false → b ≡ false
        first true c f = f
        first false c f = refl

    later : (b c : Bool) → b || c ≡ false → c ≡ false
    later true c f = absurd (cc)
    later false c f = f

pub none_has : (t : ℕ) (xs : List Asked) → ask_at t xs ≡ None → NonePass (has_ticket t) xs
none_has t [] h = tt
none_has t (a ∷ rest) h = one (has_ticket t a) refl h (none_has t rest)
  where
    one : (b : Bool) → has_ticket t a ≡ b → cond b (Some a) (ask_at t rest) ≡ None → (ask_at t rest ≡ None → NonePass (has_ticket t) rest) → (has_ticket t a ≡ false) × NonePass (has_ticket t) rest
    one true e f k = absurd (cc)
    one false e f k = (e, k f)

-- what the one of this ticket ends is its own
record IsAlone (t : ℕ) (a : Asked) (xs : List Asked) : Type 0 where
  pub forgets : (own : Ownership) → forgotten_all (has_ticket t) xs own ≡ forgot a own
  pub acquires : (k : List ℕ) → list_any (λ b. has_ticket t b && acquires_at k b) xs ≡ acquires_at k a

alone : (t : ℕ) (a : Asked) (xs : List Asked) → once (ask_tickets xs) ≡ true → ask_at t xs ≡ Some a → IsAlone t a xs
alone t a [] o h = absurd (cc)
alone t a (x ∷ rest) o h = one (has_ticket t x) refl h (alone t a rest (and_second (not (has_number (ask_tickets rest) x.ticket)) (once (ask_tickets rest)) o))
  where
    first : has_number (ask_tickets rest) x.ticket ≡ false
    first = not_true (has_number (ask_tickets rest) x.ticket) (and_first (not (has_number (ask_tickets rest) x.ticket)) (once (ask_tickets rest)) o)

    no_more : (b : Bool) → b || false ≡ b
    no_more true = refl
    no_more false = refl

    one : (b : Bool) → has_ticket t x ≡ b → cond b (Some x) (ask_at t rest) ≡ Some a → (ask_at t rest ≡ Some a → IsAlone t a rest) → IsAlone t a (x ∷ rest)
    one true e f k =
        let n = others_pass t x.ticket rest e first in
        let same : x ≡ a = cc in
        record {
          forgets = λ own. ap (λ b. forgotten_all (has_ticket t) rest (cond (b && is_writes x.stage) (forgotten x.ticket own) own)) e ∙ none_forgotten (has_ticket t) rest (forgot x own) n ∙ ap (λ (y : Asked). forgot y own) same;
          acquires = λ j. ap (λ b. (b && acquires_at j x) || list_any (λ b. has_ticket t b && acquires_at j b) rest) e ∙ ap (λ b. acquires_at j x || b) (none_acquires (has_ticket t) rest j n) ∙ no_more (acquires_at j x) ∙ ap (acquires_at j) same;
        }
    one false e f k =
        let r = k f in
        record {
          forgets = λ own. ap (λ b. forgotten_all (has_ticket t) rest (cond (b && is_writes x.stage) (forgotten x.ticket own) own)) e ∙ r.forgets own;
          acquires = λ j. ap (λ b. (b && acquires_at j x) || list_any (λ b. has_ticket t b && acquires_at j b) rest) e ∙ r.acquires j;
        }

pub one_ended : (t : ℕ) (a : Asked) (r : Reads) → once (ask_tickets r.asks) ≡ true → ask_at t r.asks ≡ Some a → ended (has_ticket t) r ≡ ended_with a (ground_of r)
one_ended t a r o h =
    let x = alone t a r.asks o h in
    ap (λ (own : Ownership). dropped (falls (has_ticket t) r) (record (ground_of r) { own = own })) (x.forgets r.own) ∙ same_dropped x
  where
    same_dropped : IsAlone t a r.asks → dropped (falls (has_ticket t) r) (record (ground_of r) { own = forgot a r.own }) ≡ ended_with a (ground_of r)
    same_dropped x = λ i. record {
      own = record (forgot a r.own) { waits = record (forgot a r.own).waits { spoiled = without_same (falls (has_ticket t) r) (falls_with a r.acquires) (forgot a r.own).waits.spoiled (λ k. ap (λ b. b && is_due_acquire (at r.acquires k)) (x.acquires k)) i } };
      acquires = without_same (falls (has_ticket t) r) (falls_with a r.acquires) r.acquires (λ k. ap (λ b. b && is_due_acquire (at r.acquires k)) (x.acquires k)) i;
    }

-- one that neither writes nor acquires ends nothing else
pub nothing_ended : (a : Asked) (g : Ground) → is_acquiring a.stage || is_writes a.stage ≡ false → ended_with a g ≡ g
nothing_ended a g n =
    ap (λ b. dropped (falls_with a g.acquires) (record g { own = cond b (forgotten a.ticket g.own) g.own })) (or_second (is_acquiring a.stage) (is_writes a.stage) n)
    ∙ none_dropped (falls_with a g.acquires) g (λ k. ap (λ b. (b && same (ask_key a) k) && is_due_acquire (at g.acquires k)) (or_first (is_acquiring a.stage) (is_writes a.stage) n))

-- one that isn't known ends nothing
pub nobody_ended : (t : ℕ) (r : Reads) → ask_at t r.asks ≡ None → ended (has_ticket t) r ≡ ground_of r
nobody_ended t r h = none_ended (has_ticket t) r (none_has t r.asks h)

-- where nothing ended but its own row, that is all
pub just_left : (m : Moment) (t : ℕ) (r : Reads) → AllStand (ground_of r) r.asks → ended (has_ticket t) r ≡ ground_of r → on (ended (has_ticket t) r) (without_ask t r.asks) ≡ taken_off m (has_ticket t) (without_ask t r.asks) r
just_left m t r s n =
    ap (λ (g : Ground). on g (without_ask t r.asks)) n
    ∙ sym (none_released m (ground_of r) (without_ask t r.asks) (fewer_stand (ground_of r) (λ b. not (has_ticket t b)) r.asks s))
    ∙ ap (λ (g : Ground). released false m (on g (without_ask t r.asks))) (sym n)

-- where nothing ended but the rows of those that are late, each has its reply, and that is all
timed_out_stands : (now : ℕ) (g : Ground) (a : Asked) → ask_stands g a ≡ true → ask_stands g (timed_out_ask now a) ≡ true
timed_out_stands now g a h = one (times_out now a)
  where
    one : (b : Bool) → ask_stands g (cond b (in_stage (stage.Replied verdict.TimedOut) a) a) ≡ true
    one true = refl
    one false = h

timed_out_stand : (now : ℕ) (g : Ground) (xs : List Asked) → AllStand g xs → AllStand g (map (timed_out_ask now) xs)
timed_out_stand now g [] h = refl
timed_out_stand now g (a ∷ xs) h =
    and_both (ask_stands g (timed_out_ask now a)) (list_all (ask_stands g) (map (timed_out_ask now) xs)) (timed_out_stands now g a (and_first (ask_stands g a) (list_all (ask_stands g) xs) h)) (timed_out_stand now g xs (and_second (ask_stands g a) (list_all (ask_stands g) xs) h))

pub just_late : (m : Moment) (r : Reads) → AllStand (ground_of r) r.asks → ended (times_out m.now) r ≡ ground_of r → on (ended (times_out m.now) r) (map (timed_out_ask m.now) r.asks) ≡ taken_off m (times_out m.now) (map (timed_out_ask m.now) r.asks) r
just_late m r s n =
    ap (λ (g : Ground). on g (map (timed_out_ask m.now) r.asks)) n
    ∙ sym (none_released m (ground_of r) (map (timed_out_ask m.now) r.asks) (timed_out_stand m.now (ground_of r) r.asks s))
    ∙ ap (λ (g : Ground). released false m (on g (map (timed_out_ask m.now) r.asks))) (sym n)
