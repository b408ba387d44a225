-- Pieces of texts: fractions in decimal, and bytes that stand for themselves in a label (Prometheus: exposition formats, text-based format)
-- and in a page (HTML Living Standard, section 13.1: writing HTML documents).
use Rattle.std.specs.Prelude.{ℕ, ◌+◌, ◌/◌, ◌%◌, ◌==◌, List, [], ◌∷◌, ◌++◌, drop, codes, flat_map, if◌then◌else◌}
use Rattle.std.specs.Fmt.{decimal}

-- so many of a unit's parts, in decimal: a unit has 1,000 or 1,000,000 parts
unfoldable pub fraction : ℕ → ℕ → List ℕ
fraction unit parts = decimal (parts / unit) ++ codes "." ++ drop 1 (decimal (unit + parts % unit))

-- the value of a label stands between quotes
unfoldable pub label_byte : ℕ → List ℕ
label_byte b =
    if b == 92 then codes "\\\\"
    else if b == 34 then codes "\\\""
    else if b == 10 then codes "\\n"
    else b ∷ []

unfoldable pub label_text : List ℕ → List ℕ
label_text bytes = flat_map label_byte bytes

unfoldable pub page_byte : ℕ → List ℕ
page_byte b =
    if b == 38 then codes "&amp;"
    else if b == 60 then codes "&lt;"
    else if b == 62 then codes "&gt;"
    else b ∷ []

unfoldable pub shown : List ℕ → List ℕ
shown bytes = flat_map page_byte bytes
