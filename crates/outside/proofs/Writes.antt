-- Writes one after the other.
use Rattle.std.proofs.Common.{ℕ, List, Option, sym, subst, take, drop, length, ◌+◌, ◌-◌}
use Rattle.std.proofs.lemmas.List.{take_rest}
use Rattle.std.proofs.Math.Seq.{take-add}
use Rattle.std.proofs.KnownBytes.{Appends-trans}
use Rattle.std.specs.Io.KnownBytes.{Appends}

-- what a write takes of the rest follows what was written before it
pub wrote_more : (a b c : Option (List ℕ)) (done count : ℕ) (bytes : List ℕ)
    → Appends a b (take done bytes)
    → Appends b c (take count (take (length bytes - done) (drop done bytes)))
    → Appends a c (take (done + count) bytes)
wrote_more a b c done count bytes first second =
    let taken = subst (λ (rest : List ℕ). Appends b c (take count rest)) (take_rest bytes done) second in
    subst (λ (bs : List ℕ). Appends a c bs) (sym (take-add done count bytes))
    (Appends-trans a b c (take done bytes) (take count (drop done bytes)) first taken)
