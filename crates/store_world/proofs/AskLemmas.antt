-- Asks of watches that compare equal are the same.
use Rattle.std.proofs.Common.{◌≡◌, ◌==◌, ◌&&◌, Bool, true, false, refl, eqb-true}
use Rattle.std.proofs.Math.Bool.{beq}
use Rattle.etcd_types.proofs.Bools.{and_first, and_second}
use Rattle.etcd_types.proofs.KeyOrder.{same-equal}
use Rattle.etcd_types.specs.Keys.{same}
use Rattle.etcd_types.specs.declared.key_range.KeyRange.{KeyRange}
use Rattle.etcd_types.specs.declared.request.WatchAsk.{WatchAsk}

flag_same : (a b : Bool) → beq a b ≡ true → a ≡ b
flag_same true true e = refl
flag_same true false e = absurd (cc)
flag_same false true e = absurd (cc)
flag_same false false e = refl

abbrev ranges_equal : KeyRange → KeyRange → Bool
ranges_equal a b = same a.key b.key && same a.end b.end

range_same : (a b : KeyRange) → ranges_equal a b ≡ true → a ≡ b
range_same a b e =
    let key = same-equal a.key b.key (and_first (same a.key b.key) (same a.end b.end) e) in
    let end = same-equal a.end b.end (and_second (same a.key b.key) (same a.end b.end) e) in
    λ i. record { key = key i; end = end i }

abbrev flags_equal : WatchAsk → WatchAsk → Bool
flags_equal a b = beq a.no_put b.no_put && (beq a.no_delete b.no_delete && (beq a.prev_kv b.prev_kv && beq a.progress b.progress))

abbrev pub asks_equal : WatchAsk → WatchAsk → Bool
asks_equal a b = ranges_equal a.range b.range && ((a.start == b.start) && flags_equal a b)

pub ask_same : (a b : WatchAsk) → asks_equal a b ≡ true → a ≡ b
ask_same a b e =
    let rest = and_second (ranges_equal a.range b.range) ((a.start == b.start) && flags_equal a b) e in
    let flags = and_second (a.start == b.start) (flags_equal a b) rest in
    let others = and_second (beq a.no_put b.no_put) (beq a.no_delete b.no_delete && (beq a.prev_kv b.prev_kv && beq a.progress b.progress)) flags in
    let last = and_second (beq a.no_delete b.no_delete) (beq a.prev_kv b.prev_kv && beq a.progress b.progress) others in
    let range = range_same a.range b.range (and_first (ranges_equal a.range b.range) ((a.start == b.start) && flags_equal a b) e) in
    let start = eqb-true a.start b.start (and_first (a.start == b.start) (flags_equal a b) rest) in
    let no_put = flag_same a.no_put b.no_put (and_first (beq a.no_put b.no_put) (beq a.no_delete b.no_delete && (beq a.prev_kv b.prev_kv && beq a.progress b.progress)) flags) in
    let no_delete = flag_same a.no_delete b.no_delete (and_first (beq a.no_delete b.no_delete) (beq a.prev_kv b.prev_kv && beq a.progress b.progress) others) in
    let prev_kv = flag_same a.prev_kv b.prev_kv (and_first (beq a.prev_kv b.prev_kv) (beq a.progress b.progress) last) in
    let progress = flag_same a.progress b.progress (and_second (beq a.prev_kv b.prev_kv) (beq a.progress b.progress) last) in
    λ i. record { range = range i; start = start i; no_put = no_put i; no_delete = no_delete i; prev_kv = prev_kv i; progress = progress i }
