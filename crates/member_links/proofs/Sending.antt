-- What was taken of the bytes of a call.
use Rattle.std.proofs.Common.{◌<◌, ◌≤◌, ℕ, List, Option, Some, None, take, drop, length, ◌∙◌, sym, arith, length-take}
use Rattle.std.proofs.lemmas.List.{append-nil, take-append-drop}
use Rattle.std.specs.Io.KnownBytes.{Appends, Keeps}
use Rattle.member_links.specs.Sent.{TakesPrefix}

-- no byte is taken where a prefix of none is
pub none_taken : (old new : Option (List ℕ)) (bytes : List ℕ) → Appends old new (take 0 bytes) → Keeps old new
none_taken None new bytes h = h
none_taken (Some xs) None bytes h = h
none_taken (Some xs) (Some ys) bytes h = h ∙ append-nil xs

pub taken_none : (old new : Option (List ℕ)) (bytes : List ℕ) → Keeps old new → Appends old new (take 0 bytes)
taken_none None new bytes h = h
taken_none (Some xs) None bytes h = h
taken_none (Some xs) (Some ys) bytes h = h ∙ sym (append-nil xs)

-- a prefix of some bytes is
pub prefix_taken : (old new : Option (List ℕ)) (bytes : List ℕ) (done : ℕ) → 0 < done → done ≤ length bytes → Appends old new (take done bytes) → TakesPrefix old new bytes
prefix_taken old new bytes done some within taken =
    record {
      front = take done bytes;
      rest = drop done bytes;
      parts = sym (take-append-drop done bytes);
      some = omega (arith, length-take {A = ℕ});
      taken = taken;
    }
