-- A held key as it is between the answer by which it is held and the going on of writes: reads that are released leave it so, and then the
-- first of the writes that wait for it may begin.
use Rattle.std.proofs.Common.{◌≡◌, ℕ, Bool, true, false, cond, not, ◌||◌, List, [], ◌∷◌, Option, None, Some, Result, Ok, Err, refl, sym, ◌∙◌, ap}
use Rattle.etcd_types.specs.Keys.{same}
use Rattle.etcd_types.proofs.KeyOrder.{same-equal}
use Rattle.proxy_model.specs.declared.lease.Entry.{Entry}
use Rattle.proxy_model.specs.declared.lease.Phase.TheVariants.{Held}
use Rattle.proxy_model.specs.Keyed.{at}
use Rattle.wait_model.specs.declared.sending.Sending.TheVariants as sending
use Rattle.wait_model.specs.State.{Ownership}
use Rattle.read_model.specs.declared.asked.Asked.{Asked}
use Rattle.read_model.specs.PlainRead.{ask_key, decision, begun_under, decided_ground}
use Rattle.read_model.specs.Release.{ask_stands, released_ground, released_from, released}
use Rattle.read_model.specs.State.{Reads, Moment, Ground, ground_of}
use Rattle.core_model.specs.declared.event.Outcome.{Outcome}
use Rattle.core_model.specs.declared.event.StepFault.{StepFault}
use Rattle.core_model.specs.ClockWork.{writes_go_on}
use Rattle.core_model.specs.Lookups.{reads_of}
use Rattle.core_model.specs.State.{Core}
use Rattle.core_model.specs.Stepped.{Stepped, counted, counted_by}
use Rattle.core_fits.specs.Fits.{EachOf}
use Rattle.owned_laws.specs.OwnWrites.{OwnWrite}
use Rattle.owned_laws.specs.Watched.{seat_is}
use Rattle.owned_laws.proofs.Cores as cores
use Rattle.owned_laws.proofs.Cores.{CoreSo}
use Rattle.owned_laws.proofs.Grounds.{IsFree, under_free}
use Rattle.owned_laws.proofs.Modes.{AllAlone, behind_as, Mode}
use Rattle.owned_laws.proofs.Own.{OverOf, at_other}
use Rattle.owned_laws.proofs.Ways.{no_true, CallSo, NotOf, holds, writes_own}

either : {A : Type 0} (P : A → Type 0) (b : Bool) (x y : A) → P x → P y → P (cond b x y)
either P true x y h i = h
either P false x y h i = i

-- no acquire of it is due or out, and the writes over it are these, which wait
pub record ReadyIn (k : List ℕ) (e : Entry) (vs : List OwnWrite) (own : Ownership) : Type 0 where
  pub entry : at own.entries k ≡ Some e
  pub over : OverOf k (behind_as vs) own.waits.writes
  pub outs : EachOf (CallSo (NotOf k e.create)) own.waits.out

abbrev pub Ready : List ℕ → Entry → List OwnWrite → Ground → Type 0
Ready k e vs g = ReadyIn k e vs g.own × (at g.acquires k ≡ None)

module _ (k : List ℕ) (e : Entry) (vs : List OwnWrite) where
  abbrev So : Ground → Type 0
  So g = Ready k e vs g

  begun_ready : (ticket : ℕ) (j : List ℕ) (o : Option ℕ) (g : Ground) → ((n : ℕ) → o ≡ Some n → IsFree g j) → So g → So (begun_under ticket j o g)
  begun_ready ticket j None g f t = t
  begun_ready ticket j (Some n) g f t = by (same j k) refl
    where
      none : {A : Type 0} (x : Entry) → ◌≡◌ {A = Option Entry} (Some x) None → A
      none x e = absurd (cc)

      by : (b : Bool) → same j k ≡ b → So (begun_under ticket j (Some n) g)
      by true s = none e (sym t.0.entry ∙ ap (at g.own.entries) (sym (same-equal j k s)) ∙ (f n refl).entry)
      by false s = (
        record { entry = t.0.entry; over = t.0.over; outs = t.0.outs },
        at_other k j (Some (record { ticket = ticket; session = n; sending = sending.Due g.own.waits.step })) g.acquires s ∙ t.1,
      )

  released_one : (again : Bool) (m : Moment) (g : Ground) (a : Asked) → So g → So (released_ground again m g a)
  released_one again m g a t =
      either So (ask_stands g a || not again) g (decided_ground m g a) t (begun_ready a.ticket (ask_key a) (decision m g (ask_key a)).under g (λ n e. under_free m g (ask_key a) n e) t)

  released_all : (again : Bool) (m : Moment) (g : Ground) (xs : List Asked) → So g → So (released_from again m g xs).ground
  unfolding released_from
  released_all again m g [] t = t
  released_all again m g (a ∷ rest) t = released_all again m (released_ground again m g a) rest (released_one again m g a t)

  pub released_ready : (again : Bool) (m : Moment) (r : Reads) → So (ground_of r) → So (ground_of (released again m r))
  released_ready again m r t = released_all again m (ground_of r) r.asks t

-- ---- behind it

pub record IsHeldIn (k : List ℕ) (n create : ℕ) (c : Core) : Type 0 where
  pub entry : Entry
  pub held : entry.phase ≡ Held
  pub created : entry.create ≡ create
  pub so : CoreSo (holds k n entry held) c

-- written by its owner: the first of these writes has begun or is to begin, the others wait
pub record IsBegunIn (k : List ℕ) (n create : ℕ) (v : OwnWrite) (vs : List OwnWrite) (own : Option ℕ) (c : Core) : Type 0 where
  pub entry : Entry
  pub created : entry.create ≡ create
  pub alone : AllAlone k (behind_as (v ∷ vs))
  pub so : CoreSo (writes_own k n v vs own alone entry) c

abbrev pub IsKeptIn : List ℕ → ℕ → ℕ → List OwnWrite → Core → Type 0
IsKeptIn k n create [] c = IsHeldIn k n create c
IsKeptIn k n create (v ∷ vs) c = IsBegunIn k n create v vs None c

module _ (k : List ℕ) (n create : ℕ) where
  pub ready_goes_on : (vs : List OwnWrite) (e : Entry) (held : e.phase ≡ Held) → e.create ≡ create → AllAlone k (behind_as vs) → (c : Core) → Ready k e vs (ground_of (reads_of c)) → IsKeptIn k n create vs (writes_go_on c)
  ready_goes_on [] e held same alone c t = record {
    entry = e;
    held = held;
    created = same;
    so = cores.go_on (holds k n e held) c (λ s i. (record { case = tt; outs = t.0.outs; there = tt; over = λ y. t.0.over; mark = λ y. no_true y; entry = λ y. t.0.entry }, t.1));
  }
  ready_goes_on (v ∷ vs) e held same alone c t = record {
    entry = e;
    created = same;
    alone = alone;
    so = cores.go_on (writes_own k n v vs None alone e) c
        (λ s i. (record { case = false; outs = t.0.outs; there = tt; over = λ y. t.0.over; mark = λ y. no_true y; entry = λ y. t.0.entry ∙ (λ i. Some (record e { phase = held i })) }, t.1));
  }

  -- where the session isn't there
  pub unseated_kept : (vs : List OwnWrite) → AllAlone k (behind_as vs) → (c : Core) → (seat_is n c.seat ≡ true → ⊥) → IsKeptIn k n create vs c
  unseated_kept [] alone c f = record { entry = record { create = create; kv = None; phase = Held }; held = refl; created = refl; so = λ s i. absurd (f s) }
  unseated_kept (v ∷ vs) alone c f = record { entry = record { create = create; kv = None; phase = Held }; created = refl; alone = alone; so = λ s i. absurd (f s) }

  -- where all that it is about stays
  same_seat : (vs : List OwnWrite) (c d : Core) → ((M : Mode) → CoreSo M c → CoreSo M d) → IsKeptIn k n create vs c → IsKeptIn k n create vs d
  same_seat [] c d f h = record { entry = h.entry; held = h.held; created = h.created; so = f (holds k n h.entry h.held) h.so }
  same_seat (v ∷ vs) c d f h = record { entry = h.entry; created = h.created; alone = h.alone; so = f (writes_own k n v vs None h.alone h.entry) h.so }

  pub counted_kept : (vs : List OwnWrite) (s : Stepped) → IsKeptIn k n create vs s.core → IsKeptIn k n create vs (counted s).core
  counted_kept vs s h = by s.outcome
    where
      by : (r : Result Outcome StepFault) → IsKeptIn k n create vs (counted_by s.core r).core
      by (Ok o) = same_seat vs s.core (counted_by s.core (Ok o)).core (λ M t. t) h
      by (Err f) = same_seat vs s.core (counted_by s.core (Err f)).core (λ M t. t) h
