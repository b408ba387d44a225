-- What a call of `Hub::step` means for its pass.
use Rattle.std.specs.Prelude.{◌≡◌, ℕ, ◌+◌, ◌≤◌, ◌^◌, List, [], ◌∷◌, ◌++◌, length, Result, Err}
use Rattle.turn_hub.specs.declared.history.Entry.{Entry}
use Rattle.turn_hub.specs.declared.view.Opening.{Opening}
use Rattle.turn_hub.specs.declared.fault.HubFault.{HubFault}
use Rattle.turn_hub.specs.declared.fault.HubFault.TheVariants.{Worn, Machine}
use Rattle.turn_hub.specs.History.{Begins, Runs, Stands, entry_of}
use Rattle.turn_hub.specs.Known.{Known, opening_of, base_of, made}

-- the answer is that the hub makes no more steps
abbrev pub IsWorn : {F : Type 0} → HubFault F → Type 0
IsWorn Worn = Unit {0}
IsWorn (Machine f) = ⊥

-- the own places of a pass, in what it has seen, and the limit of steps
abbrev pub StandsAt : {M N : Type 0} → Known (Opening M) N → Type 0
StandsAt k = Stands k.seen k.own (base_of k.hub)

module _ {M E O F : Type 0} (steps : M → E → ℕ → Result O F → M → Type 0) where
  -- what a pass has seen is allowed by the machine, from the hub's opening state on
  abbrev pub IsAllowed : Known (Opening M) (Entry E O F) → Type 0
  IsAllowed k = (machine : M) × Runs steps (opening_of k.hub) k.seen machine

  -- The history was seen that begins with all that was seen before, then what others made between, and ends with this
  -- one entry, whose place is the pass's own
  pub record Makes (before after : Known (Opening M) (Entry E O F)) (event : E) (now : ℕ) (answer : Result O F) : Type 0 where
    pub between : List (Entry E O F)
    pub seen : after.seen ≡ (before.seen ++ between) ++ entry_of event now answer ∷ []
    pub own : after.own ≡ before.own ++ length (before.seen ++ between) ∷ []
    pub made : made after ≡ made before ++ entry_of event now answer ∷ []
    pub stands : StandsAt after
    pub allowed : IsAllowed after

  -- the whole history was seen, it is at the limit, and the pass made no entry
  pub record Stops (before after : Known (Opening M) (Entry E O F)) : Type 0 where
    pub seen : Begins before.seen after.seen
    pub own : after.own ≡ before.own
    pub made : made after ≡ made before
    pub full : length after.seen + base_of after.hub ≡ 2 ^ 62
    pub allowed : IsAllowed after

  -- the whole history was seen, which has left the machine so, and the pass made no entry
  pub record Sees (before after : Known (Opening M) (Entry E O F)) (machine : M) : Type 0 where
    pub seen : Begins before.seen after.seen
    pub own : after.own ≡ before.own
    pub made : made after ≡ made before
    pub stands : StandsAt after
    pub runs : Runs steps (opening_of after.hub) after.seen machine

  abbrev pub Fails : Known (Opening M) (Entry E O F) → Known (Opening M) (Entry E O F) → E → ℕ → HubFault F → Type 0
  Fails before after event now Worn = Stops before after
  Fails before after event now (Machine fault) = Makes before after event now (Err fault)

  -- The machine is as the hub's history left it, which begins with all that the pass had seen, and whose length and the
  -- opening count are the count
  pub record Closes (pass : Known (Opening M) (Entry E O F)) (machine : M) (count : ℕ) : Type 0 where
    pub log : List (Entry E O F)
    pub begins : Begins pass.seen log
    pub runs : Runs steps (opening_of pass.hub) log machine
    pub counted : length log + base_of pass.hub ≡ count
    pub room : count ≤ 2 ^ 62
