-- A read that is decided: it has what it waits for, and all that other reads wait for stays.
use Rattle.std.proofs.Common.{◌≡◌, ℕ, Bool, true, false, not, cond, ◌&&◌, ◌==◌, List, [], ◌∷◌, Option, None, Some, is_some, refl, arith, ◌∙◌, ap}
use Rattle.std.specs.List.{list_any}
use Rattle.etcd_types.specs.declared.record.Header.{Header}
use Rattle.etcd_types.specs.Keys.{same}
use Rattle.etcd_types.proofs.KeyOrder.{same-equal, same-itself}
use Rattle.proxy_model.specs.declared.lease.Entry.{Entry}
use Rattle.proxy_model.specs.declared.lease.Phase.{Phase}
use Rattle.proxy_model.specs.declared.lease.Phase.TheVariants.{Held, Writing, Leaving}
use Rattle.etcd_types.proofs.Bools.{or_first, or_second, and_first, not_true}
use Rattle.proxy_model.proofs.KeyedLaws.{at-with_at}
use Rattle.proxy_model.specs.Keyed.{Keyed, at}
use Rattle.read_model.specs.Fits.{GroundOk}
use Rattle.read_model.specs.PlainRead.{ask_key, is_free, is_written, is_ownable, is_restful, acquirable, held_turn, read_turn, decision, begun_under, decided_ground, decided_ask}
use Rattle.read_model.specs.Release.{names, stands, ask_stands}
use Rattle.read_model.specs.State.{Moment, Ground}
use Rattle.core_laws.proofs.Writes.Steps.{acquires_keep}
use Rattle.wait_model.specs.Covers.{covers}
use Rattle.wait_model.specs.Fits.{stage_over}
use Rattle.wait_model.specs.Stages.{is_waiting}
use Rattle.wait_model.specs.State.{Ownership}
use Rattle.proxy_model.specs.LeaseTable.{is_writing_phase}
use Rattle.wait_model.specs.declared.sending.Sending.TheVariants as sending
use Rattle.wait_model.specs.declared.write.Write.{Write}
use Rattle.read_model.specs.declared.asked.Asked.{Asked}
use Rattle.read_model.specs.declared.acquire.Acquire.{Acquire}
use Rattle.read_model.specs.declared.asked.Stage.{Stage}
use Rattle.read_model.specs.declared.asked.Stage.TheVariants as stage

-- the entries are the same, and no acquire is gone
pub record Grows (g h : Ground) : Type 0 where
  pub entries : h.own.entries ≡ g.own.entries
  pub acquires : (k : List ℕ) → is_some (at g.acquires k) ≡ true → at h.acquires k ≡ at g.acquires k

pub grows_itself : (g : Ground) → Grows g g
grows_itself g = record { entries = refl; acquires = λ k h. refl }

pub grows_on : (f g h : Ground) → Grows f g → Grows g h → Grows f h
grows_on f g h x y = record { entries = y.entries ∙ x.entries; acquires = λ k s. y.acquires k (ap is_some (x.acquires k s) ∙ s) ∙ x.acquires k s }

-- What a read waits for stays.

still_stands : (ticket : ℕ) (e : Option Entry) (c d : Option Acquire) (s : Stage) → (is_some c ≡ true → d ≡ c) → stands ticket e c s ≡ true → stands ticket e d s ≡ true
still_stands ticket e c d (stage.Calling s) f h = h
still_stands ticket e None d stage.Acquiring f h = absurd (cc)
still_stands ticket e (Some c) d stage.Acquiring f h = ap (names ticket) (f refl) ∙ h
still_stands ticket e c d stage.Joined f h = ap is_some (f h) ∙ h
still_stands ticket e c d stage.Behind f h = h
still_stands ticket e c d stage.Writes f h = h
still_stands ticket e c d (stage.Grouped s) f h = h
still_stands ticket e c d (stage.Replied v) f h = h

pub grown_stands : (g h : Ground) → Grows g h → (a : Asked) → ask_stands g a ≡ true → ask_stands h a ≡ true
grown_stands g h x a s =
    let k = ask_key a in
    ap (λ (es : Keyed Entry). stands a.ticket (at es k) (at h.acquires k) a.stage) x.entries ∙ still_stands a.ticket (at g.own.entries k) (at g.acquires k) (at h.acquires k) a.stage (x.acquires k) s

-- An acquire becomes due only where there is no entry and no acquire, and the key is acquirable.

pub record Free (e : Option Entry) (claimed : Bool) (under : Option ℕ) : Type 0 where
  pub entry : is_some e ≡ false
  pub claim : claimed ≡ false
  pub session : is_some under ≡ true

pub frees : (h : Header) (step : ℕ) (e : Option Entry) (claimed : Bool) (under : Option ℕ) → is_some (read_turn h step e claimed under).under ≡ true → Free e claimed under
frees h step (Some e) claimed under s = absurd (cc)
frees h step None true under s = absurd (cc)
frees h step None false None s = absurd (cc)
frees h step None false (Some n) s = record { entry = refl; claim = refl; session = refl }

begun_grows : (ticket : ℕ) (k : List ℕ) (o : Option ℕ) (g : Ground) → (is_some o ≡ true → is_some (at g.acquires k) ≡ false) → Grows g (begun_under ticket k o g)
begun_grows ticket k None g n = grows_itself g
begun_grows ticket k (Some x) g n = record { entries = refl; acquires = λ j s. at-with_at g.acquires k j _ ∙ kept j (same k j) s refl }
  where
    kept : (j : List ℕ) (b : Bool) → is_some (at g.acquires j) ≡ true → same k j ≡ b → cond b (Some (record { ticket = ticket; session = x; sending = sending.Due g.own.waits.step })) (at g.acquires j) ≡ at g.acquires j
    kept j true s t = absurd (let q = n refl in let p = ap (λ (i : List ℕ). is_some (at g.acquires i)) (same-equal k j t) in cc)
    kept j false s t = refl

pub decided_grows : (m : Moment) (g : Ground) (a : Asked) → Grows g (decided_ground m g a)
decided_grows m g a =
    let k = ask_key a in
    begun_grows a.ticket k (decision m g k).under g (λ s. (frees m.header g.own.waits.step (at g.own.entries k) (is_some (at g.acquires k)) (acquirable m g.own k) s).claim)

-- It has what it waits for.

abbrev claim_after : ℕ → ℕ → Option Acquire → Option ℕ → Option Acquire
claim_after ticket step c None = c
claim_after ticket step c (Some n) = Some (record { ticket = ticket; session = n; sending = sending.Due step })

claims_after : (ticket : ℕ) (k : List ℕ) (o : Option ℕ) (g : Ground) → at (begun_under ticket k o g).acquires k ≡ claim_after ticket g.own.waits.step (at g.acquires k) o
claims_after ticket k None g = refl
claims_after ticket k (Some n) g = at-with_at g.acquires k k _ ∙ ap (λ b. cond b (Some (record { ticket = ticket; session = n; sending = sending.Due g.own.waits.step })) (at g.acquires k)) (same-itself k)

own_after : (ticket : ℕ) (k : List ℕ) (o : Option ℕ) (g : Ground) → (begun_under ticket k o g).own.entries ≡ g.own.entries
own_after ticket k None g = refl
own_after ticket k (Some n) g = refl

equal_itself : (n : ℕ) → (n == n) ≡ true
equal_itself n = grind arith

held_stands : (h : Header) (step ticket : ℕ) (e : Entry) (c : Option Acquire) (p : Phase) → e.phase ≡ p → stands ticket (Some e) c (held_turn h step e.kv p) ≡ true
held_stands h step ticket e c Held q = refl
held_stands h step ticket e c (Writing revoked) q = ap is_writing_phase q
held_stands h step ticket e c (Leaving sent) q = refl

turn_stands : (h : Header) (step ticket : ℕ) (e : Option Entry) (c : Option Acquire) (under : Option ℕ) → stands ticket e (claim_after ticket step c (read_turn h step e (is_some c) under).under) (read_turn h step e (is_some c) under).stage ≡ true
turn_stands h step ticket (Some e) c under = held_stands h step ticket e c e.phase refl
turn_stands h step ticket None (Some c) under = refl
turn_stands h step ticket None None None = refl
turn_stands h step ticket None None (Some n) = equal_itself ticket

pub decided_stands : (m : Moment) (g : Ground) (a : Asked) → ask_stands (decided_ground m g a) (decided_ask m g a) ≡ true
decided_stands m g a =
    let k = ask_key a in
    let d = decision m g k in
    ap (λ (es : Keyed Entry). stands a.ticket (at es k) (at (begun_under a.ticket k d.under g).acquires k) d.stage) (own_after a.ticket k d.under g)
    ∙ ap (λ c. stands a.ticket (at g.own.entries k) c d.stage) (claims_after a.ticket k d.under g)
    ∙ turn_stands m.header g.own.waits.step a.ticket (at g.own.entries k) (at g.acquires k) (acquirable m g.own k)

-- What holds of each key is kept.

nothing_over : (k : List ℕ) (ws : List Write) → list_any (λ w. covers w k) ws ≡ false → is_waiting (stage_over k ws) ≡ true
nothing_over k [] n = refl
nothing_over k (w ∷ ws) n =
    rw (or_first (covers w k) (list_any (λ v. covers v k) ws) n) (nothing_over k ws (or_second (covers w k) (list_any (λ v. covers v k) ws) n))

unwritten : (m : Moment) (own : Ownership) (k : List ℕ) → is_some (acquirable m own k) ≡ true → is_written own k ≡ false
unwritten m own k s =
    not_true (is_written own k) (and_first (not (is_written own k)) (is_ownable own.waits.prefix k && m.created && is_restful own m.now k) (by_test (is_free m own k) s))
  where
    by_test : (b : Bool) → is_some (cond b m.session None) ≡ true → b ≡ true
    by_test true s = refl
    by_test false s = absurd (cc)

begun_ok : (standing : Bool) (ticket : ℕ) (k : List ℕ) (o : Option ℕ) (g : Ground) → (is_some o ≡ true → is_some (at g.own.entries k) ≡ false) → (is_some o ≡ true → is_waiting (stage_over k g.own.waits.writes) ≡ true) → GroundOk standing g → GroundOk standing (begun_under ticket k o g)
begun_ok standing ticket k None g n w h = h
begun_ok standing ticket k (Some x) g n w h = record {
  keys = (acquires_keep g.own k h.keys).begins (n refl) (w refl);
  marks = λ j. rw (at-with_at g.own.waits.spoiled k j (Some false), at-with_at g.acquires k j (Some (record { ticket = ticket; session = x; sending = sending.Due g.own.waits.step }))) (by_same false _ (at g.own.waits.spoiled j) (at g.acquires j) (same k j) (h.marks j));
  owned = h.owned;
}
  where
    by_same : {A B : Type 0} (x : A) (y : B) (p : Option A) (q : Option B) (b : Bool) → is_some p ≡ is_some q → is_some (cond b (Some x) p) ≡ is_some (cond b (Some y) q)
    by_same x y p q true h = refl
    by_same x y p q false h = h

pub decided_ok : (standing : Bool) (m : Moment) (g : Ground) (a : Asked) → GroundOk standing g → GroundOk standing (decided_ground m g a)
decided_ok standing m g a h =
    let k = ask_key a in
    let f = frees m.header g.own.waits.step (at g.own.entries k) (is_some (at g.acquires k)) (acquirable m g.own k) in
    begun_ok standing a.ticket k (decision m g k).under g (λ s. (f s).entry) (λ s. nothing_over k g.own.waits.writes (unwritten m g.own k (f s).session)) h
