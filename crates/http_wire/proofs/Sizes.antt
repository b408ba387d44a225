-- What a size line makes of a chunked body.
use Rattle.std.proofs.Common.{◌≡◌, ℕ, List, [], ◌++◌, length, take, drop, refl, sym, ap, ◌∙◌, subst, Option, Some, None, Ok, Err, IfSome, ◌≤◌}
use Rattle.std.proofs.lemmas.List.{take-append-le, drop-append-le}
use Rattle.std.specs.Io.KnownBytes.{Keeps, prepend_known}
use Rattle.http_wire.specs.declared.fault.WireFault.{WireFault}
use Rattle.http_wire.specs.declared.fault.WireFault.TheVariants.{BadChunk, EndedEarly}
use Rattle.http_wire.specs.declared.scan.Ending.TheVariants.{At, Over, Cut}
use Rattle.http_wire.specs.Ends.{line_length, bounded}
use Rattle.http_wire.specs.Sizes.{size_of}
use Rattle.http_wire.specs.Bodies.{Content, Broken, only, lessened, chunked, InLine, InData, sized, IsBroken}
use Rattle.http_wire.specs.Steps.{Breaks, SizeRead}
use Rattle.http_wire.specs.Held.{ReadsAhead}
use Rattle.http_wire.proofs.LineScans.{line_at, line_over, line_cut}

-- a body that is nothing but broken
pub broken_only : (c : Content) (fault : WireFault) → c ≡ only (Broken fault) → Breaks c fault
broken_only c fault e = λ _. (ap (λ (x : Content). x.bytes) e, subst (λ (x : Content). IsBroken x.end fault) (sym e) refl)

pub size_over : (all rest : List ℕ) → bounded all (line_length all) ≡ Over → SizeRead all rest (Err BadChunk)
size_over all rest e = λ most. broken_only (chunked most (InLine []) all) BadChunk (line_over most all e)

pub size_cut : (all rest : List ℕ) → bounded all (line_length all) ≡ Cut → SizeRead all rest (Err EndedEarly)
size_cut all rest e = λ most. broken_only (chunked most (InLine []) all) EndedEarly (line_cut most all e)

pub size_bad : (all rest : List ℕ) (n : ℕ) → bounded all (line_length all) ≡ At n → None ≡ size_of (take n all) → SizeRead all rest (Err BadChunk)
size_bad all rest n e none = λ most. broken_only (chunked most (InLine []) all) BadChunk
    (line_at most all n e ∙ ap (λ (o : Option ℕ). sized most o (drop n all) (λ k. chunked (lessened most k) (InData k) (drop n all))) (sym none))

pub size_good : (all rest : List ℕ) (n size : ℕ) → bounded all (line_length all) ≡ At n → Some size ≡ size_of (take n all) → rest ≡ drop n all
    → SizeRead all rest (Ok size)
size_good all rest n size e some is = λ most.
    line_at most all n e
    ∙ (λ i. sized most (sym some i) (sym is i) (λ k. chunked (lessened most k) (InData k) (sym is i)))

-- ---- the same where the line is held

pub held_bad : (a b : Option (List ℕ)) (held : List ℕ) (n : ℕ) → Keeps a (prepend_known held b)
    → IfSome (prepend_known held b) (λ all. bounded all (line_length all) ≡ At n) → n ≤ length held → None ≡ size_of (take n held)
    → ReadsAhead SizeRead a (prepend_known held b) (Err BadChunk)
held_bad None b held n kept e within none = tt
held_bad (Some xs) None held n kept e within none = absurd kept
held_bad (Some xs) (Some ys) held n kept e within none =
    subst (λ (all : List ℕ). SizeRead all (held ++ ys) (Err BadChunk)) kept
    (size_bad (held ++ ys) (held ++ ys) n e (none ∙ ap size_of (sym (take-append-le n held ys within))))

pub held_good : (a b : Option (List ℕ)) (held : List ℕ) (n size : ℕ) → Keeps a (prepend_known held b)
    → IfSome (prepend_known held b) (λ all. bounded all (line_length all) ≡ At n) → n ≤ length held → Some size ≡ size_of (take n held)
    → ReadsAhead SizeRead a (prepend_known (drop n held) b) (Ok size)
held_good None b held n size kept e within some = tt
held_good (Some xs) None held n size kept e within some = absurd kept
held_good (Some xs) (Some ys) held n size kept e within some =
    subst (λ (all : List ℕ). SizeRead all (drop n held ++ ys) (Ok size)) kept
    (size_good (held ++ ys) (drop n held ++ ys) n size e (some ∙ ap size_of (sym (take-append-le n held ys within))) (sym (drop-append-le n held ys within)))
