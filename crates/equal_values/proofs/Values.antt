-- Records, events and messages that compare as the same are one, and each compares as the same with itself.
use Rattle.std.proofs.Common.{◌≡◌, ℕ, Bool, true, false, ◌&&◌, ◌==◌, Option, None, Some, refl, ap}
use Rattle.std.proofs.lemmas.Bool.{eqb-true, eq-eqb}
use Rattle.etcd_types.specs.declared.record.Header.{Header}
use Rattle.etcd_types.specs.declared.record.Kv.{Kv}
use Rattle.etcd_types.specs.declared.watch.Change.{Change}
use Rattle.etcd_types.specs.declared.watch.Change.TheVariants as change
use Rattle.etcd_types.specs.declared.watch.Event.{Event}
use Rattle.etcd_types.specs.declared.watch.WatchItem.{WatchItem}
use Rattle.etcd_types.specs.declared.watch.WatchItem.TheVariants.{Created, Events, Canceled}
use Rattle.etcd_types.specs.Keys.{same}
use Rattle.etcd_types.proofs.Bools.{and_first, and_second, and_both}
use Rattle.etcd_types.proofs.KeyOrder.{same-equal, same-itself}
use Rattle.equal_values.specs.Lists.{same_all}
use Rattle.equal_values.specs.Records.{same_header, same_kv, same_prev}
use Rattle.equal_values.specs.Messages.{same_change, same_event, same_message}
use Rattle.equal_values.proofs.Members.{all-equal, all-itself}

pub both : (a b : Bool) → a && b ≡ true → (a ≡ true) × (b ≡ true)
both a b e = (and_first a b e, and_second a b e)

-- ---- what compares as the same is one

pub four : (a b c d : Bool) → a && b && c && d ≡ true → (a ≡ true) × (b ≡ true) × (c ≡ true) × (d ≡ true)
four true true true true e = (refl, refl, refl, refl)
four true true true false e = absurd (cc)
four true true false d e = absurd (cc)
four true false c d e = absurd (cc)
four false b c d e = absurd (cc)

six : (a b c d e f : Bool) → a && b && c && d && e && f ≡ true → ((a ≡ true) × (b ≡ true)) × ((c ≡ true) × (d ≡ true)) × (e ≡ true) × (f ≡ true)
six true true true true true true h = ((refl, refl), (refl, refl), refl, refl)
six true true true true true false h = absurd (cc)
six true true true true false f h = absurd (cc)
six true true true false e f h = absurd (cc)
six true true false d e f h = absurd (cc)
six true false c d e f h = absurd (cc)
six false b c d e f h = absurd (cc)

pub header-equal : (a b : Header) → same_header a b ≡ true → a ≡ b
header-equal a b e =
    let parts = four (a.cluster == b.cluster) (a.member == b.member) (a.revision == b.revision) (a.term == b.term) e in
    λ i. record {
      cluster = eqb-true a.cluster b.cluster parts.0 i;
      member = eqb-true a.member b.member parts.1 i;
      revision = eqb-true a.revision b.revision parts.2 i;
      term = eqb-true a.term b.term parts.3 i;
    }

pub kv-equal : (a b : Kv) → same_kv a b ≡ true → a ≡ b
kv-equal a b e =
    let parts = six (same a.key b.key) (same a.value b.value) (a.create == b.create) (a.modified == b.modified) (a.version == b.version) (a.lease == b.lease) e in
    λ i. record {
      key = same-equal a.key b.key parts.0.0 i;
      value = same-equal a.value b.value parts.0.1 i;
      create = eqb-true a.create b.create parts.1.0 i;
      modified = eqb-true a.modified b.modified parts.1.1 i;
      version = eqb-true a.version b.version parts.2 i;
      lease = eqb-true a.lease b.lease parts.3 i;
    }

pub prev-equal : (a b : Option Kv) → same_prev a b ≡ true → a ≡ b
prev-equal None None e = refl
prev-equal None (Some b) e = absurd (cc)
prev-equal (Some a) None e = absurd (cc)
prev-equal (Some a) (Some b) e = ap Some (kv-equal a b e)

pub change-equal : (a b : Change) → same_change a b ≡ true → a ≡ b
change-equal (change.Put a) (change.Put b) e = ap change.Put (kv-equal a b e)
change-equal (change.Put a) (change.Delete k m) e = absurd (cc)
change-equal (change.Delete k m) (change.Put b) e = absurd (cc)
change-equal (change.Delete k m) (change.Delete l n) e =
    let parts = both (same k l) (m == n) e in
    λ i. change.Delete (same-equal k l parts.0 i) (eqb-true m n parts.1 i)

pub event-equal : (a b : Event) → same_event a b ≡ true → a ≡ b
event-equal a b e =
    let parts = both (same_change a.change b.change) (same_prev a.prev b.prev) e in
    λ i. record { change = change-equal a.change b.change parts.0 i; prev = prev-equal a.prev b.prev parts.1 i }

pub message-equal : (a b : WatchItem) → same_message a b ≡ true → a ≡ b
message-equal (Created g) (Created h) e = ap Created (header-equal g h e)
message-equal (Created g) (Events h es) e = absurd (cc)
message-equal (Created g) (Canceled h c) e = absurd (cc)
message-equal (Events g es) (Created h) e = absurd (cc)
message-equal (Events g es) (Events h fs) e =
    let parts = both (same_header g h) (same_all same_event es fs) e in
    λ i. Events (header-equal g h parts.0 i) (all-equal same_event event-equal es fs parts.1 i)
message-equal (Events g es) (Canceled h c) e = absurd (cc)
message-equal (Canceled g c) (Created h) e = absurd (cc)
message-equal (Canceled g c) (Events h es) e = absurd (cc)
message-equal (Canceled g c) (Canceled h d) e =
    let parts = both (same_header g h) (c == d) e in
    λ i. Canceled (header-equal g h parts.0 i) (eqb-true c d parts.1 i)

-- ---- each compares as the same with itself

yes_four : (a b c d : Bool) → a ≡ true → b ≡ true → c ≡ true → d ≡ true → a && b && c && d ≡ true
yes_four true true true true e f g h = refl
yes_four true true true false e f g h = h
yes_four true true false d e f g h = absurd (cc)
yes_four true false c d e f g h = absurd (cc)
yes_four false b c d e f g h = absurd (cc)

yes_six : (a b c d e f : Bool) → a ≡ true → b ≡ true → c ≡ true → d ≡ true → e ≡ true → f ≡ true → a && b && c && d && e && f ≡ true
yes_six true true true true true true i j k l m n = refl
yes_six true true true true true false i j k l m n = n
yes_six true true true true false f i j k l m n = absurd (cc)
yes_six true true true false e f i j k l m n = absurd (cc)
yes_six true true false d e f i j k l m n = absurd (cc)
yes_six true false c d e f i j k l m n = absurd (cc)
yes_six false b c d e f i j k l m n = absurd (cc)

itself : (n : ℕ) → n == n ≡ true
itself n = eq-eqb n n refl

pub header-itself : (a : Header) → same_header a a ≡ true
header-itself a =
    yes_four (a.cluster == a.cluster) (a.member == a.member) (a.revision == a.revision) (a.term == a.term) (itself a.cluster) (itself a.member) (itself a.revision) (itself a.term)

pub kv-itself : (a : Kv) → same_kv a a ≡ true
kv-itself a =
    yes_six (same a.key a.key) (same a.value a.value) (a.create == a.create) (a.modified == a.modified) (a.version == a.version) (a.lease == a.lease) (same-itself a.key) (same-itself a.value) (itself a.create) (itself a.modified) (itself a.version) (itself a.lease)

pub prev-itself : (a : Option Kv) → same_prev a a ≡ true
prev-itself None = refl
prev-itself (Some kv) = kv-itself kv

change-itself : (a : Change) → same_change a a ≡ true
change-itself (change.Put kv) = kv-itself kv
change-itself (change.Delete k m) = and_both (same k k) (m == m) (same-itself k) (itself m)

pub event-itself : (a : Event) → same_event a a ≡ true
event-itself a = and_both (same_change a.change a.change) (same_prev a.prev a.prev) (change-itself a.change) (prev-itself a.prev)

pub message-itself : (a : WatchItem) → same_message a a ≡ true
message-itself (Created h) = header-itself h
message-itself (Events h es) = and_both (same_header h h) (same_all same_event es es) (header-itself h) (all-itself same_event event-itself es)
message-itself (Canceled h c) = and_both (same_header h h) (c == c) (header-itself h) (itself c)
