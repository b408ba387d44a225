-- The history of a store, by etcd's data model: the revisions that it made, from revision 2 on, each with its changes.
use Rattle.std.specs.Prelude.{ℕ, ◌+◌, ◌-◌, List, [], ◌∷◌, ◌++◌, length, take}
use Rattle.store_model.specs.declared.history.KeyChange.{KeyChange}
use Rattle.store_model.specs.declared.history.KeyChange.TheVariants.{Put, Delete}

-- the first is revision 2: an empty store stands at 1
abbrev pub History : Type 0
History = List (List KeyChange)

abbrev pub newest : History → ℕ
newest h = length h + 1

-- the history as it was at a revision
abbrev pub up_to_revision : History → ℕ → History
up_to_revision h revision = take (revision - 1) h

-- the history with these changes as one further revision, and with none where nothing changed
abbrev pub with_revision : History → List KeyChange → History
with_revision h [] = h
with_revision h (c ∷ cs) = h ++ (c ∷ cs) ∷ []

abbrev pub changed_key : KeyChange → List ℕ
changed_key (Put key value lease) = key
changed_key (Delete key) = key
