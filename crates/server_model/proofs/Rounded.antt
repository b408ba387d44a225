-- A worker's turns, again and again.
use Rattle.std.proofs.Common.{◌≡◌, ℕ, List, subst}
use Rattle.outside.specs.declared.parts.Part.{Part}
use Rattle.core_model.specs.declared.event.CoreEvent.{CoreEvent}
use Rattle.server_model.specs.declared.ends.WorkEnd.{WorkEnd}
use Rattle.server_model.specs.declared.ends.WorkEnd.TheVariants as how
use Rattle.server_model.specs.Working.{Ledger, IsAt, IsWorked}
use Rattle.server_model.proofs.Late.{worked_late}
use Rattle.server_model.specs.Rounds.{GoesOn, Rounds, IsSpent}

-- what holds where the turn is worn holds where it is worn later
rounds_later : {P C : Type 0} (hosts : List (List ℕ)) (homed : P → Type 0) (rests : CoreEvent → Type 0) (worn worn' : Type 0) (turns : ℕ) (a b : Ledger (Part P C)) → (worn → worn')
    → Rounds hosts homed rests worn turns a b → Rounds hosts homed rests worn' turns a b
rounds_later hosts homed rests worn worn' turns _ _ k (Rounds.none at) = Rounds.none at
rounds_later hosts homed rests worn worn' turns _ _ k (Rounds.more a b c end r w g) =
    Rounds.more a b c end (rounds_later hosts homed rests worn worn' turns a b k r) (worked_late hosts homed rests turns b c end k w) g

pub rounded : {P C : Type 0} (hosts : List (List ℕ)) (homed : P → Type 0) (rests : CoreEvent → Type 0) (worn worn' : Type 0) (turns : ℕ) (a b c : Ledger (Part P C)) (end : WorkEnd)
    → (worn → worn') → Rounds hosts homed rests worn turns a b → IsWorked hosts homed rests worn' turns b c end → GoesOn end → Rounds hosts homed rests worn' turns a c
rounded hosts homed rests worn worn' turns a b c end k r w g = Rounds.more a b c end (rounds_later hosts homed rests worn worn' turns a b k r) w g

pub spent : {P C : Type 0} (hosts : List (List ℕ)) (homed : P → Type 0) (rests : CoreEvent → Type 0) (worn worn' : Type 0) (turns : ℕ) (a b c : Ledger (Part P C)) → (worn → worn')
    → Rounds hosts homed rests worn turns a b → IsWorked hosts homed rests worn' turns b c how.Worn → IsSpent hosts homed rests worn' turns a c
spent hosts homed rests worn worn' turns a b c k r w = record { mid = b; rounds = rounds_later hosts homed rests worn worn' turns a b k r; last = w }

-- what was worked, from another name of the same home
pub worked_at : {P C H : Type 0} (home_of : P → H) (hosts : List (List ℕ)) (rests : CoreEvent → Type 0) (worn : Type 0) (turns : ℕ) (old new : H) (a b : Ledger (Part P C)) (end : WorkEnd) → new ≡ old
    → IsWorked hosts (IsAt home_of new) rests worn turns a b end → IsWorked hosts (IsAt home_of old) rests worn turns a b end
worked_at home_of hosts rests worn turns old new a b end e w = subst (λ (h : _). IsWorked hosts (IsAt home_of h) rests worn turns a b end) e w

-- a worker that is spent is so where the turn is worn later
pub spent_later : {P C : Type 0} (hosts : List (List ℕ)) (homed : P → Type 0) (rests : CoreEvent → Type 0) (worn worn' : Type 0) (turns : ℕ) (a b : Ledger (Part P C)) → (worn → worn')
    → IsSpent hosts homed rests worn turns a b → IsSpent hosts homed rests worn' turns a b
spent_later hosts homed rests worn worn' turns a b k s =
    record { mid = s.mid; rounds = rounds_later hosts homed rests worn worn' turns a s.mid k s.rounds; last = worked_late hosts homed rests turns s.mid b how.Worn k s.last }
