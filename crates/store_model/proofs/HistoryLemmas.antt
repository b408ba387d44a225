-- A history with one more revision: its record is the record before, after that revision's changes, and so are its keys.
use Rattle.std.proofs.Common.{◌≡◌, ℕ, suc, ◌+◌, List, [], ◌∷◌, ◌++◌, Option, None, length, refl, arith}
use Rattle.etcd_types.specs.declared.record.Kv.{Kv}
use Rattle.etcd_types.specs.declared.key_range.KeyRange.{KeyRange}
use Rattle.store_model.specs.declared.history.KeyChange.{KeyChange}
use Rattle.store_model.specs.History.{History, with_revision}
use Rattle.store_model.specs.Records.{after_changes, after_revisions, record_now}
use Rattle.store_model.specs.Ranges.{with_changed_keys, with_history_keys, keys_in}

after_revisions-snoc : (revision : ℕ) (k : List ℕ) (h : History) (cs : List KeyChange) (old : Option Kv)
    → after_revisions revision k (h ++ cs ∷ []) old ≡ after_changes (length h + revision) k cs (after_revisions revision k h old)
after_revisions-snoc revision k [] cs old = let e : 0 + revision ≡ revision = omega arith in rw e refl
after_revisions-snoc revision k (ds ∷ h) cs old =
    let e : suc (length h) + revision ≡ length h + (revision + 1) = omega arith in
    rw e (after_revisions-snoc (revision + 1) k h cs (after_changes revision k ds old))

pub record_now-with_revision : (h : History) (k : List ℕ) (made : List KeyChange)
    → record_now (with_revision h made) k ≡ after_changes (length h + 2) k made (record_now h k)
record_now-with_revision h k [] = refl
record_now-with_revision h k (c ∷ cs) = after_revisions-snoc 2 k h (c ∷ cs) None

with_history_keys-snoc : (range : KeyRange) (h : History) (cs : List KeyChange) (keys : List (List ℕ))
    → with_history_keys range (h ++ cs ∷ []) keys ≡ with_changed_keys range cs (with_history_keys range h keys)
with_history_keys-snoc range [] cs keys = refl
with_history_keys-snoc range (ds ∷ h) cs keys = with_history_keys-snoc range h cs (with_changed_keys range ds keys)

pub keys_in-with_revision : (h : History) (range : KeyRange) (made : List KeyChange)
    → keys_in (with_revision h made) range ≡ with_changed_keys range made (keys_in h range)
keys_in-with_revision h range [] = refl
keys_in-with_revision h range (c ∷ cs) = with_history_keys-snoc range h (c ∷ cs) []

pub ruleset history_grows = (record_now-with_revision, keys_in-with_revision)
