-- A stream at its place in the list, taken out and put at the end.
use Rattle.std.proofs.Common.{◌≡◌, ℕ, zero, suc, ◌+◌, ◌≤◌, ◌<◌, true, false, not, cond, ◌==◌, List, [], ◌∷◌, ◌++◌, map, get_or, length, Some, refl, ap, sym, ◌∙◌, arith}
use Rattle.std.proofs.lemmas.Bool.Decides.{nat_tests}
use Rattle.std.specs.List.{remove}
use Rattle.watch_model.specs.State.{Stream, Broadcasts}
use Rattle.watch_model.specs.Lookups.{stream_at, without_stream, numbered, is_closing}
use Rattle.watch_streams.specs.Places.{IsAt, again, reopened_at}
use Rattle.watch_model.specs.Cuts.{reopened, renumbered, cut_at}
use Rattle.watch_model.proofs.Streams.{at_number, numbered-without, numbered-push}

pub numbered-more : (low high : ℕ) (ss : List Stream) → numbered low high ss ≡ true → numbered low (high + 1) ss ≡ true
numbered-more low high [] h = refl
numbered-more low high (s ∷ ss) h =
    let rest : numbered s.number high ss ≡ true = grind (arith, nat_tests) in
    let r = numbered-more s.number high ss rest in
    grind (arith, nat_tests)

below_get : (low high i : ℕ) (ss : List Stream) (d : Stream) → numbered low high ss ≡ true → i < length ss → low < (get_or ss i d).number
below_get low high i [] d h l = absurd (omega arith)
below_get low high zero (s ∷ ss) d h l = grind (arith, nat_tests)
below_get low high (suc i) (s ∷ ss) d h l =
    let above : low < s.number = grind (arith, nat_tests) in
    let rest : numbered s.number high ss ≡ true = grind (arith, nat_tests) in
    let r = below_get s.number high i ss d rest (omega arith) in
    omega (arith, r, above)

without_none : (n low high : ℕ) (ss : List Stream) → numbered low high ss ≡ true → n ≤ low → without_stream n ss ≡ ss
without_none n low high [] h l = refl
without_none n low high (s ∷ ss) h l =
    let above : low < s.number = grind (arith, nat_tests) in
    let rest : numbered s.number high ss ≡ true = grind (arith, nat_tests) in
    let e : (s.number == n) ≡ false = grind (arith, nat_tests) in
    ap (λ b. cond (not b) (s ∷ without_stream n ss) (without_stream n ss)) e ∙ ap (λ (l : List Stream). s ∷ l) (without_none n s.number high ss rest (omega (arith, above)))

itself : (n : ℕ) → (n == n) ≡ true
itself n = grind (arith, nat_tests)

other : (a b : ℕ) → a < b → (a == b) ≡ false
other a b l = grind (arith, nat_tests)

pub removed_is : (low high i : ℕ) (ss : List Stream) (d : Stream) → numbered low high ss ≡ true → i < length ss → remove ss i ≡ without_stream (get_or ss i d).number ss
removed_is low high i [] d h l = absurd (omega arith)
removed_is low high zero (s ∷ ss) d h l =
    let rest : numbered s.number high ss ≡ true = grind (arith, nat_tests) in
    sym (ap (λ b. cond (not b) (s ∷ without_stream s.number ss) (without_stream s.number ss)) (itself s.number) ∙ without_none s.number s.number high ss rest (omega arith))
removed_is low high (suc i) (s ∷ ss) d h l =
    let rest : numbered s.number high ss ≡ true = grind (arith, nat_tests) in
    let m : i < length ss = omega arith in
    ap (λ (t : List Stream). s ∷ t) (removed_is s.number high i ss d rest m)
    ∙ sym (ap (λ b. cond (not b) (s ∷ without_stream (get_or ss i d).number ss) (without_stream (get_or ss i d).number ss)) (other s.number (get_or ss i d).number (below_get s.number high i ss d rest m)))

pub reopened_is : (i number step : ℕ) (ss : List Stream) (d : Stream) → i < length ss → remove ss i ++ again number step (get_or ss i d) ∷ [] ≡ reopened_at i number step ss
reopened_is i number step [] d l = absurd (omega arith)
reopened_is zero number step (s ∷ ss) d l = refl
reopened_is (suc i) number step (s ∷ ss) d l = ap (λ (t : List Stream). s ∷ t) (reopened_is i number step ss d (omega arith))

-- what code does to the list of streams at a cut
pub again_is : (low high i number step : ℕ) (ss : List Stream) (d : Stream) → numbered low high ss ≡ true → i < length ss
    → reopened_at i number step ss ≡ without_stream (get_or ss i d).number ss ++ again number step (get_or ss i d) ∷ []
again_is low high i number step ss d h l =
    sym (reopened_is i number step ss d l) ∙ ap (λ (t : List Stream). t ++ again number step (get_or ss i d) ∷ []) (removed_is low high i ss d h l)

-- the same by its number
pub gone_is : (n i high : ℕ) (ss : List Stream) (d : Stream) → numbered 0 high ss ≡ true → IsAt n ss i → remove ss i ≡ without_stream n ss
gone_is n i high ss d h p = removed_is 0 high i ss d h p.bound ∙ ap (λ (k : ℕ). without_stream k ss) (at_number n ss (get_or ss i d) (p.is d))

pub gone_again : (n i number step high : ℕ) (ss : List Stream) (d : Stream) → numbered 0 high ss ≡ true → IsAt n ss i → reopened_at i number step ss ≡ without_stream n ss ++ again number step (get_or ss i d) ∷ []
gone_again n i number step high ss d h p = again_is 0 high i number step ss d h p.bound ∙ ap (λ (k : ℕ). without_stream k ss ++ again number step (get_or ss i d) ∷ []) (at_number n ss (get_or ss i d) (p.is d))

-- A cut, by what code does.

pub cut_away : (b : Broadcasts) (n i : ℕ) (s : Stream) → numbered 0 b.given b.streams ≡ true → IsAt n b.streams i → s ≡ get_or b.streams i s → is_closing s.phase ≡ true
    → record b { streams = remove b.streams i } ≡ cut_at b (stream_at n b.streams)
cut_away b n i s h p g c =
    let found : stream_at n b.streams ≡ Some s = p.is s ∙ ap (λ (t : Stream). Some t) (sym g) in
    let taken : remove b.streams i ≡ without_stream s.number b.streams = removed_is 0 b.given i b.streams s h p.bound ∙ ap (λ (t : Stream). without_stream t.number b.streams) (sym g) in
    (λ j. record b { streams = taken j })
    ∙ sym (ap (cut_at b) found ∙ ap (λ c. cond c (record b { streams = without_stream s.number b.streams }) (reopened b s)) c)

pub cut_again : (b : Broadcasts) (n i : ℕ) (s : Stream) → numbered 0 b.given b.streams ≡ true → IsAt n b.streams i → s ≡ get_or b.streams i s → is_closing s.phase ≡ false
    → record b { streams = reopened_at i (b.given + 1) b.step b.streams; watches = map (renumbered n (b.given + 1)) b.watches; given = b.given + 1 } ≡ cut_at b (stream_at n b.streams)
cut_again b n i s h p g c =
    let found : stream_at n b.streams ≡ Some s = p.is s ∙ ap (λ (t : Stream). Some t) (sym g) in
    let number : n ≡ s.number = sym (at_number n b.streams s found) in
    let taken : reopened_at i (b.given + 1) b.step b.streams ≡ without_stream s.number b.streams ++ again (b.given + 1) b.step s ∷ [] =
    again_is 0 b.given i (b.given + 1) b.step b.streams s h p.bound ∙ ap (λ (t : Stream). without_stream t.number b.streams ++ again (b.given + 1) b.step t ∷ []) (sym g) in
    (λ j. record b { streams = taken j; watches = map (renumbered (number j) (b.given + 1)) b.watches; given = b.given + 1 })
    ∙ sym (ap (cut_at b) found ∙ ap (λ c. cond c (record b { streams = without_stream s.number b.streams }) (reopened b s)) c)

pub cut_numbered : (b : Broadcasts) (n i : ℕ) (s : Stream) → numbered 0 b.given b.streams ≡ true → IsAt n b.streams i → numbered 0 b.given (remove b.streams i) ≡ true
cut_numbered b n i s h p = rw (removed_is 0 b.given i b.streams s h p.bound) (numbered-without (get_or b.streams i s).number 0 b.given b.streams h)

pub again_numbered : (b : Broadcasts) (n i : ℕ) (s : Stream) → numbered 0 b.given b.streams ≡ true → IsAt n b.streams i → numbered 0 (b.given + 1) (reopened_at i (b.given + 1) b.step b.streams) ≡ true
again_numbered b n i s h p =
    rw (again_is 0 b.given i (b.given + 1) b.step b.streams s h p.bound)
    (numbered-push 0 b.given (without_stream (get_or b.streams i s).number b.streams) (again (b.given + 1) b.step (get_or b.streams i s)) (omega arith) refl (numbered-without (get_or b.streams i s).number 0 b.given b.streams h))
