-- What is kept of a history, part by part (etcd API reference, `CompactionRequest`): of each key the versions that a compaction
-- keeps, and which keys each revision from the compaction on changed.
use Rattle.std.specs.Prelude.{◌≡◌, ◌≤◌, ℕ, List}
use Rattle.store_model.specs.History.{History, newest}
use Rattle.compaction_model.specs.Versions.{kept_versions}
use Rattle.compaction_model.specs.Places.{kept_places}
use Rattle.store_index.specs.Maps.{Entries, versions_of}

-- these are exactly what is kept of this history, where `latest` is its newest revision and `c` the compaction
pub record Keeps (latest c : ℕ) (es : Entries) (ps : List (List (List ℕ))) (h : History) : Type 0 where
  pub same_newest : latest ≡ newest h
  pub past : c ≤ newest h
  pub versions : (k : List ℕ) → versions_of es k ≡ kept_versions h c k
  pub places : ps ≡ kept_places h c

-- there is a history of which they are kept
abbrev pub KeepsSome : ℕ → ℕ → Entries → List (List (List ℕ)) → Type 0
KeepsSome latest c es ps = ∥ ((h : History) × Keeps latest c es ps h) ∥₁
