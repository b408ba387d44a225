-- How the lines of a script grow by a byte, and that they make up the script.
use Rattle.std.proofs.Common.{◌≡◌, ℕ, Bool, true, false, cond, ◌==◌, List, [], ◌∷◌, ◌++◌, refl, sym, ◌∙◌, ap, eqb-true}
use Rattle.std.specs.Prelude.{flat_map}
use Rattle.replay_model.specs.Script.{line_feed, onto_first, whole_lines, begun_from, begun_line}

-- what a byte at the end does to the whole lines and to the line that has begun
abbrev lines_with : Bool → List (List ℕ) → List ℕ → List (List ℕ)
lines_with ends lines begun = cond ends (lines ++ begun ∷ []) lines

abbrev begun_with : Bool → List ℕ → ℕ → List ℕ
begun_with ends begun b = cond ends [] (begun ++ b ∷ [])

-- `begun_from` by the answer of its test
abbrev begun_by : Bool → ℕ → List (List ℕ) → List ℕ → List ℕ
begun_by first a [] begun = cond first begun (a ∷ begun)
begun_by first a (line ∷ lines) begun = begun

begun_is : (a : ℕ) (lines : List (List ℕ)) (begun : List ℕ) → begun_from a lines begun ≡ begun_by (a == line_feed) a lines begun
begun_is a [] begun = refl
begun_is a (line ∷ lines) begun = refl

lines_by : (first ends : Bool) (a : ℕ) (lines : List (List ℕ)) (begun : List ℕ)
    → cond first ([] ∷ lines_with ends lines begun) (onto_first a (lines_with ends lines begun))
    ≡ lines_with ends (cond first ([] ∷ lines) (onto_first a lines)) (begun_by first a lines begun)
lines_by true true a [] begun = refl
lines_by true true a (line ∷ lines) begun = refl
lines_by true false a lines begun = refl
lines_by false true a [] begun = refl
lines_by false true a (line ∷ lines) begun = refl
lines_by false false a lines begun = refl

begun_with_by : (first ends : Bool) (a b : ℕ) (lines : List (List ℕ)) (begun : List ℕ)
    → begun_by first a (lines_with ends lines begun) (begun_with ends begun b) ≡ begun_with ends (begun_by first a lines begun) b
begun_with_by true true a b [] begun = refl
begun_with_by true true a b (line ∷ lines) begun = refl
begun_with_by true false a b [] begun = refl
begun_with_by true false a b (line ∷ lines) begun = refl
begun_with_by false true a b [] begun = refl
begun_with_by false true a b (line ∷ lines) begun = refl
begun_with_by false false a b [] begun = refl
begun_with_by false false a b (line ∷ lines) begun = refl

-- a line feed ends the line that has begun
pub whole_lines-append_one : (bytes : List ℕ) (b : ℕ)
    → whole_lines (bytes ++ b ∷ []) ≡ cond (b == line_feed) (whole_lines bytes ++ begun_line bytes ∷ []) (whole_lines bytes)
whole_lines-append_one [] b = refl
whole_lines-append_one (a ∷ bytes) b =
    ap (λ (lines : List (List ℕ)). cond (a == line_feed) ([] ∷ lines) (onto_first a lines)) (whole_lines-append_one bytes b)
    ∙ lines_by (a == line_feed) (b == line_feed) a (whole_lines bytes) (begun_line bytes)
    ∙ ap (λ (begun : List ℕ). lines_with (b == line_feed) (whole_lines (a ∷ bytes)) begun)
    (sym (begun_is a (whole_lines bytes) (begun_line bytes)))

-- another byte goes onto it
pub begun_line-append_one : (bytes : List ℕ) (b : ℕ)
    → begun_line (bytes ++ b ∷ []) ≡ cond (b == line_feed) [] (begun_line bytes ++ b ∷ [])
begun_line-append_one [] b = refl
begun_line-append_one (a ∷ bytes) b =
    begun_is a (whole_lines (bytes ++ b ∷ [])) (begun_line (bytes ++ b ∷ []))
    ∙ ap (λ (lines : List (List ℕ)). begun_by (a == line_feed) a lines (begun_line (bytes ++ b ∷ []))) (whole_lines-append_one bytes b)
    ∙ ap (λ (begun : List ℕ). begun_by (a == line_feed) a (lines_with (b == line_feed) (whole_lines bytes) (begun_line bytes)) begun) (begun_line-append_one bytes b)
    ∙ begun_with_by (a == line_feed) (b == line_feed) a b (whole_lines bytes) (begun_line bytes)
    ∙ ap (λ (begun : List ℕ). begun_with (b == line_feed) begun b) (sym (begun_is a (whole_lines bytes) (begun_line bytes)))

abbrev with_feed : List ℕ → List ℕ
with_feed line = line ++ line_feed ∷ []

joined_by : (first : Bool) (a : ℕ) (lines : List (List ℕ)) (begun rest : List ℕ) → (first ≡ true → a ≡ line_feed)
    → flat_map with_feed lines ++ begun ≡ rest
    → flat_map with_feed (cond first ([] ∷ lines) (onto_first a lines)) ++ begun_by first a lines begun ≡ a ∷ rest
joined_by true a [] begun rest feed e = ap (λ b. b ∷ begun) (sym (feed refl)) ∙ ap (λ (bs : List ℕ). a ∷ bs) e
joined_by true a (line ∷ lines) begun rest feed e = ap (λ b. b ∷ (flat_map with_feed (line ∷ lines) ++ begun)) (sym (feed refl)) ∙ ap (λ (bs : List ℕ). a ∷ bs) e
joined_by false a [] begun rest feed e = ap (λ (bs : List ℕ). a ∷ bs) e
joined_by false a (line ∷ lines) begun rest feed e = ap (λ (bs : List ℕ). a ∷ bs) e

pub lines_make_bytes : (bytes : List ℕ) → flat_map (λ line. line ++ line_feed ∷ []) (whole_lines bytes) ++ begun_line bytes ≡ bytes
lines_make_bytes [] = refl
lines_make_bytes (a ∷ bytes) =
    ap (λ (begun : List ℕ). flat_map with_feed (whole_lines (a ∷ bytes)) ++ begun) (begun_is a (whole_lines bytes) (begun_line bytes))
    ∙ joined_by (a == line_feed) a (whole_lines bytes) (begun_line bytes) bytes (λ e. eqb-true a line_feed e) (lines_make_bytes bytes)
