-- Why a namespace is safe, in laws over its definitions. A variable in them is any list of numbers, so that a key is made of
-- bytes is a premise where it is needed.
use Rattle.std.specs.Prelude.{◌≡◌, ℕ, Bool, false, IsTrue, ◌&&◌, List, [], ◌∷◌, ◌++◌, Some, is_some, map, filter}
use Rattle.etcd_types.specs.declared.key_range.KeyRange.{KeyRange}
use Rattle.etcd_types.specs.declared.answer.Reply.{Reply}
use Rattle.etcd_types.specs.declared.watch.WatchItem.{WatchItem}
use Rattle.etcd_types.specs.Keys.{is_empty, is_zero}
use Rattle.etcd_types.specs.Ranges.{contains}
use Rattle.proxy_model.specs.Prefixes.{are_bytes, without, prefix_end, under}
use Rattle.proxy_model.specs.Unwrapped.{own_keys, reply_without, item_without}
use Rattle.namespace_keys.specs.Foreign.{first_foreign, refused, body_keys, item_keys}

-- every key in a wrapped range has the prefix and, without it, is in the range asked for
abbrev pub WrappedKeysAreAsked : Type 0
WrappedKeysAreAsked =
    (p : List ℕ) (r : KeyRange) (k : List ℕ) → IsTrue (are_bytes k) → IsTrue (contains (under p r) k) → (rest : List ℕ) × (k ≡ p ++ rest) × IsTrue (contains r rest)

-- the empty key in the range of all keys, whose key and end are one zero byte each
abbrev pub is_left_out : KeyRange → List ℕ → Bool
is_left_out r k = is_zero r.key && is_zero r.end && is_empty k

-- every other key of the range asked for is, with the prefix, in the wrapped range
abbrev pub AskedKeysAreWrapped : Type 0
AskedKeysAreWrapped =
    (p : List ℕ) (r : KeyRange) (k : List ℕ) → IsTrue (contains r k) → is_left_out r k ≡ false → IsTrue (contains (under p r) (p ++ k))

-- unwrapping a wrapped key gives the key
abbrev pub WrappedKeysAreUnwrapped : Type 0
WrappedKeysAreUnwrapped = (p k : List ℕ) → without p (p ++ k) ≡ Some k

-- what is unwrapped was wrapped
abbrev pub UnwrappedKeysWereWrapped : Type 0
UnwrappedKeysWereWrapped = (p k rest : List ℕ) → without p k ≡ Some rest → k ≡ p ++ rest

-- a reply is refused by the first of its keys that is foreign, and exactly where there is one
abbrev pub RepliesAreRefusedByName : Type 0
RepliesAreRefusedByName = (p : List ℕ) (reply : Reply) → refused (reply_without p reply) ≡ first_foreign p (body_keys reply.body)

abbrev pub ItemsAreRefusedByName : Type 0
ItemsAreRefusedByName = (p : List ℕ) (item : WatchItem) → refused (item_without p item) ≡ first_foreign p (item_keys item)

-- the keys of a lease that are left over are, with the prefix, those that have it
abbrev pub ForeignLeaseKeysAreLeftOut : Type 0
ForeignLeaseKeysAreLeftOut =
    (p : List ℕ) (ks : List (List ℕ)) → map (λ k. p ++ k) (own_keys p ks) ≡ filter (λ k. is_some (without p k)) ks

-- worked: the end of a prefix, with its last byte raised, and with bytes FF behind it; then all keys of the namespace `n/`
abbrev pub EndsPrefix : Type 0
EndsPrefix = prefix_end (0x61 ∷ 0xff ∷ []) ≡ 0x62 ∷ []

abbrev pub EndsFullPrefix : Type 0
EndsFullPrefix = prefix_end (0xff ∷ []) ≡ 0 ∷ []

abbrev pub WrapsAllKeys : Type 0
WrapsAllKeys =
    under (0x6e ∷ 0x2f ∷ []) (record { key = 0 ∷ []; end = 0 ∷ [] }) ≡ record { key = 0x6e ∷ 0x2f ∷ 0 ∷ []; end = 0x6e ∷ 0x30 ∷ [] }
