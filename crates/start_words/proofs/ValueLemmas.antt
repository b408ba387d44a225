-- What was taken of a word with commas, and what is left of it.
use Rattle.std.proofs.Common.{◌≡◌, ◌∙◌, ◌+◌, ◌++◌, ℕ, List, [], ◌∷◌, length, Result, Ok, Err, ap, sym, refl, arith, append_assoc, append-nil, length-append}
use Rattle.clap.specs.Walk.{Text, first_of, rows_of}
use Rattle.clap.specs.Matches.{first_value}
use Rattle.clap.specs.declared.parser.matches.Found.{Found}
use Rattle.clap.proofs.WalkLemmas.{first_value-rows}
use Rattle.start_words.specs.declared.wrong.Wrong.{Wrong}
use Rattle.start_words.specs.declared.wrong.ValueFault.{ValueFault}
use Rattle.start_words.specs.declared.wrong.ValueFault.TheVariants as fault
use Rattle.start_words.specs.Start.{Gives, and_then, each_endpoint, endpoint}

pub value_rows : (f : Found) (id : Text) → first_value f id ≡ first_of id (rows_of f)
value_rows f id = first_value-rows f id

-- these addresses, and then the others
abbrev pub behind : List (List ℕ) → Result (List (List ℕ)) Wrong → Result (List (List ℕ)) Wrong
behind front r = and_then r (λ more. Ok (front ++ more))

pub behind_none : (r : Result (List (List ℕ)) Wrong) → behind [] r ≡ r
behind_none (Ok more) = refl
behind_none (Err e) = refl

behind_one : (front : List (List ℕ)) (address : List ℕ) (r : Result (List (List ℕ)) Wrong)
    → behind front (and_then r (λ more. Ok (address ∷ more))) ≡ behind (front ++ address ∷ []) r
behind_one front address (Ok more) = ap Ok (sym (append_assoc front (address ∷ []) more))
behind_one front address (Err e) = refl

pub goes_on : (front : List (List ℕ)) (word address : List ℕ) (more : List (List ℕ)) → endpoint word ≡ Ok address
    → behind (front ++ address ∷ []) (each_endpoint more) ≡ behind front (each_endpoint (word ∷ more))
goes_on front word address more is =
    sym (ap (λ r. behind front (and_then r (λ address. and_then (each_endpoint more) (λ addresses. Ok (address ∷ addresses))))) is ∙ behind_one front address (each_endpoint more))

pub counted_on : (front new : List (List ℕ)) (address : List ℕ) (words more : List (List ℕ)) (word : List ℕ) (all : ℕ) → new ≡ front ++ address ∷ [] → words ≡ word ∷ more
    → length front + length words ≡ all → length new + length more ≡ all
counted_on front new address words more word all n w e =
    let longer = ap (λ (l : List (List ℕ)). length l) n ∙ length-append front (address ∷ []) in
    let shorter = ap (λ (l : List (List ℕ)). length l) w in
    omega (arith, longer, shorter, e)

pub ends : (front : List (List ℕ)) → behind front (each_endpoint []) ≡ Ok front
ends front = ap Ok (append-nil front)

pub fails : (front : List (List ℕ)) (word : List ℕ) (more : List (List ℕ)) (e : ValueFault) (r : Result (List ℕ) Wrong) → endpoint word ≡ r
    → Gives {T = List ℕ} (Err e) r → Gives {T = List (List ℕ)} (Err e) (behind front (each_endpoint (word ∷ more)))
fails front word more fault.NoMemory r is told = tt
fails front word more (fault.Wrong w) r is told =
    ap (λ s. behind front (and_then s (λ address. and_then (each_endpoint more) (λ addresses. Ok (address ∷ addresses))))) (is ∙ told)
