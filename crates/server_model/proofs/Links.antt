-- What is told of the calls on a link, from one moment to a later one.
use Rattle.std.proofs.Common.{ℕ, ◌≤◌, arith, List, [], ◌∷◌, ◌++◌, Option, None, Some, Ok, Err, sym, ap, ◌∙◌, append_assoc, append-nil}
use Rattle.outside.specs.Calls.{Adds, LinkCall, Begun, Ended}
use Rattle.outside.specs.declared.link.LinkFault.TheVariants as link
use Rattle.server_model.specs.Steps.{Every}
use Rattle.server_model.proofs.Steps.{every_append}
use Rattle.server_model.specs.Calls.{IsCaused, OnLink}

pub tells_then : {A : Type 0} (a b c : Option (List A)) (xs ys : List A) → Adds a b xs → Adds b c ys → Adds a c (xs ++ ys)
tells_then a b None xs ys p q = tt
tells_then a None (Some c) xs ys p q = absurd q
tells_then None (Some b) (Some c) xs ys p q = absurd p
tells_then {A} (Some a) (Some b) (Some c) xs ys p q = q ∙ ap (λ (l : List A). l ++ ys) p ∙ append_assoc a xs ys

pub tells_none : {A : Type 0} (a : Option (List A)) → Adds a a []
tells_none None = tt
tells_none (Some a) = sym (append-nil a)

pub every_as : {A : Type 0} (P Q : A → Type 0) (xs : List A) → ((x : A) → P x → Q x) → Every P xs → Every Q xs
every_as P Q [] f e = tt
every_as P Q (x ∷ xs) f e = (f x e.0, every_as P Q xs f e.1)

caused_wider : (a b c d : ℕ) → a ≤ b → c ≤ d → (call : LinkCall) → IsCaused b c call → IsCaused a d call
caused_wider a b c d p q (Begun member kind bytes (Err link.Failed)) r = omega arith
caused_wider a b c d p q (Begun member kind bytes (Err link.NoMemory)) r = tt
caused_wider a b c d p q (Begun member kind bytes (Ok had)) r = tt
caused_wider a b c d p q (Ended left count how) r = tt

pub link_none : (told : Option (List LinkCall)) (faults : ℕ) → OnLink told told faults faults []
link_none told faults = record { told = tells_none told; kept = omega arith; caused = tt }

pub link_then : (a b c : Option (List LinkCall)) (n m k : ℕ) (calls calls' : List LinkCall) → OnLink a b n m calls → OnLink b c m k calls'
    → OnLink a c n k (calls ++ calls')
link_then a b c n m k calls calls' p q = record {
  told = tells_then a b c calls calls' p.told q.told;
  kept = let l = p.kept in let r = q.kept in omega (arith, l, r);
  caused = every_append (IsCaused n k) calls calls'
      (every_as (IsCaused n m) (IsCaused n k) calls (caused_wider n n m k (omega arith) q.kept) p.caused)
      (every_as (IsCaused m k) (IsCaused n k) calls' (caused_wider n m k k p.kept (omega arith)) q.caused);
}
