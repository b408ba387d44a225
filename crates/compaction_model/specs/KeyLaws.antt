-- What the versions of one key say of a history, and what the kept ones say.
use Rattle.std.specs.Prelude.{◌≡◌, ◌≤◌, ℕ, ◌+◌, ◌-◌, List, [], ◌∷◌, ◌++◌, length, take, drop, None}
use Rattle.store_model.specs.declared.history.KeyChange.{KeyChange}
use Rattle.store_model.specs.History.{History, newest, with_revision}
use Rattle.store_model.specs.Records.{record_now, record_at}
use Rattle.compaction_model.specs.Places.{changed_keys, kept_places}
use Rattle.compaction_model.specs.Versions.{versions, versions_in, versions_from, last_left, up_to, from_on, kept, kept_versions}

-- the last version of a key is its record
abbrev pub VersionsGiveRecords : Type 0
VersionsGiveRecords = (h : History) (k : List ℕ) → last_left (versions h k) None ≡ record_now h k

-- and the last one up to a revision is its record there
abbrev pub VersionsGiveEarlier : Type 0
VersionsGiveEarlier = (h : History) (r : ℕ) (k : List ℕ) → last_left (up_to r (versions h k)) None ≡ record_at h r k

-- a further revision puts its versions behind those that were there
abbrev pub VersionsGrow : Type 0
VersionsGrow =
    (h : History) (k : List ℕ) (made : List KeyChange)
    → versions (with_revision h made) k ≡ versions h k ++ versions_in (newest h + 1) k made (record_now h k)

-- the kept versions tell the record that the history leaves
abbrev pub KeptGiveNow : Type 0
KeptGiveNow = (h : History) (c : ℕ) (k : List ℕ) → last_left (kept_versions h c k) None ≡ record_now h k

-- and the record at every revision from the compaction on
abbrev pub KeptGiveEarlier : Type 0
KeptGiveEarlier = (h : History) (c r : ℕ) (k : List ℕ) → c ≤ r → last_left (up_to r (kept_versions h c k)) None ≡ record_at h r k

-- the versions from a revision on are made by the revisions from there on, on the record that the earlier ones left
abbrev pub VersionsFromRevision : Type 0
VersionsFromRevision =
    (h : History) (n : ℕ) (k : List ℕ) → n ≤ length h
    → from_on (n + 2) (versions h k) ≡ versions_from (n + 2) k (drop n h) (record_now (take n h) k)

-- all versions from the compaction on are kept
abbrev pub KeptHaveLater : Type 0
KeptHaveLater = (h : History) (c r : ℕ) (k : List ℕ) → c ≤ r → from_on r (kept_versions h c k) ≡ from_on r (versions h k)

-- a further revision is made of the kept versions alone; a compaction is at most at the newest revision
abbrev pub KeptGrow : Type 0
KeptGrow =
    (h : History) (c : ℕ) (k : List ℕ) (made : List KeyChange) → c ≤ newest h
    → kept_versions (with_revision h made) c k ≡ kept_versions h c k ++ versions_in (newest h + 1) k made (last_left (kept_versions h c k) None)

-- and so is each further change of the revision that a request is making
abbrev pub KeptGrowByChange : Type 0
KeptGrowByChange =
    (h : History) (c : ℕ) (k : List ℕ) (made : List KeyChange) (change : KeyChange) → c ≤ newest h
    → kept_versions (with_revision h (made ++ change ∷ [])) c k
    ≡ kept_versions (with_revision h made) c k ++ versions_in (newest h + 1) k (change ∷ []) (last_left (kept_versions (with_revision h made) c k) None)

-- and so is a later compaction
abbrev pub KeptAgain : Type 0
KeptAgain = (h : History) (c d : ℕ) (k : List ℕ) → c ≤ d → kept_versions h d k ≡ kept d (kept_versions h c k)

-- the places grow behind, and a later compaction drops their front
abbrev pub PlacesGrow : Type 0
PlacesGrow =
    (h : History) (c : ℕ) (d : KeyChange) (ds : List KeyChange) → c ≤ newest h
    → kept_places (with_revision h (d ∷ ds)) c ≡ kept_places h c ++ changed_keys (d ∷ ds) ∷ []

abbrev pub PlacesAgain : Type 0
PlacesAgain = (h : History) (c d : ℕ) → c ≤ d → kept_places h d ≡ drop (d - 2 - (c - 2)) (kept_places h c)
