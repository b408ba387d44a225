-- What a request to the second listener asks for, by its method and its path (RFC 9110, section 9.3: GET and HEAD; section 15.5: what else is
-- refused). What stands behind a question mark in the path says nothing.
use Rattle.std.specs.Prelude.{◌==◌, ◌||◌, Bool, List, ℕ, take, Option, None, Some, bytes_eq, codes, if◌then◌else◌}
use Rattle.std.specs.List.{position}
use Rattle.metrics_pages.specs.declared.asked.Asked.{Asked}
use Rattle.metrics_pages.specs.declared.asked.Asked.TheVariants as asked

abbrev pub only_reads : List ℕ → Bool
only_reads method = bytes_eq method (codes "GET") || bytes_eq method (codes "HEAD")

abbrev pub cut_at : List ℕ → Option ℕ → List ℕ
cut_at path None = path
cut_at path (Some end) = take end path

abbrev pub bare : List ℕ → List ℕ
bare path = cut_at path (position (λ b. b == 63) path)

abbrev pub by_path : List ℕ → Asked
by_path path =
    if bytes_eq path (codes "/metrics") then asked.Metrics
    else if bytes_eq path (codes "/health") then asked.Health
    else if bytes_eq path (codes "/") then asked.Page
    else asked.NoSuchPath

abbrev pub asked_of : List ℕ → List ℕ → Asked
asked_of method path = if only_reads method then by_path (bare path) else asked.NoSuchMethod
