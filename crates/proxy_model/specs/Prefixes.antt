-- Keys and ranges under a prefix, which is a list of bytes (etcd's documentation of clientv3's package `namespace`, and of
-- `range_end` in the API reference): a namespace puts one before every key, and the leasing range before ownership keys.
use Rattle.std.specs.Prelude.{ℕ, Bool, ◌+◌, ◌==◌, nat_lt, List, [], ◌∷◌, ◌++◌, Option, None, Some, unwrap_or, if◌then◌else◌}
use Rattle.std.specs.List.{list_all}
use Rattle.etcd_types.specs.declared.key_range.KeyRange.{KeyRange}
use Rattle.etcd_types.specs.Keys.{is_empty, is_zero}

-- in a definition a key is any list of numbers
abbrev pub are_bytes : List ℕ → Bool
are_bytes k = list_all (λ b. nat_lt b 256) k

-- what stands behind the prefix in a key, which may have another beginning
abbrev pub without : List ℕ → List ℕ → Option (List ℕ)
without [] k = Some k
without (b ∷ bs) [] = None
without (b ∷ bs) (c ∷ cs) = if b == c then without bs cs else None

abbrev pub raised_last : ℕ → Option (List ℕ) → Option (List ℕ)
raised_last b None = if b == 255 then None else Some ((b + 1) ∷ [])
raised_last b (Some bs) = Some (b ∷ bs)

-- the bytes with the last one below FF raised by one and what follows it cut off
abbrev pub raised : List ℕ → Option (List ℕ)
raised [] = None
raised (b ∷ bs) = raised_last b (raised bs)

-- the end of the range of all keys with the prefix; where all its bytes are FF, it is the end that stands above every key
abbrev pub prefix_end : List ℕ → List ℕ
prefix_end p = unwrap_or (raised p) (0 ∷ [])

abbrev pub end_under : List ℕ → List ℕ → List ℕ
end_under p end = if is_empty end then [] else if is_zero end then prefix_end p else p ++ end

-- the keys of a range, each under the prefix
abbrev pub under : List ℕ → KeyRange → KeyRange
under p r = record { key = p ++ r.key; end = end_under p r.end }

-- all keys with the prefix
abbrev pub leasing_range : List ℕ → KeyRange
leasing_range p = record { key = p; end = prefix_end p }

abbrev pub only : List ℕ → KeyRange
only k = record { key = k; end = [] }
