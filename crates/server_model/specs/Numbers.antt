-- The tickets and the words of a connection's Asks.
use Rattle.std.specs.Prelude.{◌≡◌, ℕ, ◌+◌, ◌<◌, ◌≤◌, List, [], ◌∷◌, ◌++◌, Option, None, Some, Result, Ok, Err, map, ◌⊎◌, ⊤}
use Rattle.std.specs.List.{flat_map}
use Rattle.outside.specs.Draw.{Gives}
use Rattle.core_model.specs.declared.event.CoreEvent.{CoreEvent}
use Rattle.core_model.specs.declared.event.CoreEvent.TheVariants.{Ask}
use Rattle.server_model.specs.declared.ends.SessionEnd.{SessionEnd}
use Rattle.server_model.specs.declared.ends.SessionEnd.TheVariants.{Worn, OutOfTickets}
use Rattle.server_model.specs.Steps.{Step, Every, Adds}

abbrev pub ask_of : CoreEvent → List (ℕ × ℕ)
ask_of (Ask ticket request word) = (ticket, word) ∷ []
ask_of _ = []

-- the tickets and words that were asked, in order
abbrev pub asks : List Step → List (ℕ × ℕ)
asks steps = flat_map (λ e. ask_of e.event) steps

-- each ticket is the one after the last, from `from` on, and `to` is the next
abbrev pub Rises : ℕ → ℕ → List (ℕ × ℕ) → Type 0
Rises from to [] = from ≡ to
Rises from to (a ∷ pairs) = (a.0 ≡ from) × Rises (from + 1) to pairs

-- steps were made that ask so
pub record Asked (made made' : Option (List Step)) (pairs : List (ℕ × ℕ)) : Type 0 where
  pub steps : List Step
  pub adds : Adds made made' steps
  pub are : asks steps ≡ pairs

-- The Asks have the next tickets, below the limit, and the words drawn, in order.
pub record Numbered (limit from to : ℕ) (given given' : Option (List ℕ)) (made made' : Option (List Step)) : Type 0 where
  pub pairs : List (ℕ × ℕ)
  pub asked : Asked made made' pairs
  pub rises : Rises from to pairs
  pub below : Every (λ a. a.0 < limit) pairs
  pub drawn : Gives given given' (map (λ a. a.1) pairs)

-- nothing, or one word more where it ends by `Worn`
abbrev pub IsSpare : SessionEnd → List ℕ → Type 0
IsSpare end [] = ⊤
IsSpare end (word ∷ []) = end ≡ Worn
IsSpare end (word ∷ more ∷ words) = ⊥

-- The same of a whole connection: where it ends by `Worn`, one more word may have been drawn, and where it is out of tickets none is left.
pub record LastNumbered (end : SessionEnd) (limit from : ℕ) (given given' : Option (List ℕ)) (made made' : Option (List Step)) : Type 0 where
  pub pairs : List (ℕ × ℕ)
  pub to : ℕ
  pub spare : List ℕ
  pub asked : Asked made made' pairs
  pub rises : Rises from to pairs
  pub below : Every (λ a. a.0 < limit) pairs
  pub drawn : Gives given given' (map (λ a. a.1) pairs ++ spare)
  pub none_spare : IsSpare end spare
  pub none_left : end ≡ OutOfTickets → limit ≤ to

-- an end that isn't for want of tickets
abbrev pub IsElse : SessionEnd → Type 0
IsElse OutOfTickets = ⊥
IsElse _ = ⊤

-- one ticket was asked, or none where the hub was worn
abbrev pub AsksOne : {T : Type 0} → ℕ → ℕ → Option (List Step) → Option (List Step) → Result T SessionEnd → Type 0
AsksOne ticket word made made' (Ok answer) = Asked made made' ((ticket, word) ∷ [])
AsksOne ticket word made made' (Err end) = Asked made made' ((ticket, word) ∷ []) ⊎ (Asked made made' [] × (end ≡ Worn))

abbrev pub NumberedSo : ℕ → ℕ → ℕ → Option (List ℕ) → Option (List ℕ) → Option (List Step) → Option (List Step) → Option SessionEnd → Type 0
NumberedSo limit from to given given' made made' None = Numbered limit from to given given' made made'
NumberedSo limit from to given given' made made' (Some end) = LastNumbered end limit from given given' made made'

abbrev pub NumberedBy : {T : Type 0} → ℕ → ℕ → ℕ → Option (List ℕ) → Option (List ℕ) → Option (List Step) → Option (List Step) → Result T SessionEnd → Type 0
NumberedBy limit from to given given' made made' (Ok x) = Numbered limit from to given given' made made'
NumberedBy limit from to given given' made made' (Err end) = LastNumbered end limit from given given' made made'
