-- Which keys an object may have.
use Rattle.std.specs.Prelude.{ℕ, ◌&&◌, ◌||◌, not, if◌then◌else◌, Bool, false, List, find, Option, Some, None, Result, Ok, Err, ⊤}
use Rattle.std.specs.Str.{bytes_eq}
use Rattle.serde_json.specs.Data.{Members, no_members, member}
use Rattle.json_model.specs.declared.fault.FieldFault.{FieldFault}
use Rattle.json_model.specs.declared.fault.FieldFault.TheVariants.{UnknownField, TwiceNamed}
use Rattle.json_model.specs.Faults.{◌>>=◌}
use Rattle.json_model.specs.Names.{words, camel, field_of}

abbrev pub has_key : List ℕ → Members → Bool
has_key key no_members = false
has_key key (member k d ms) = bytes_eq k key || has_key key ms

-- the object has the field under both names
abbrev pub is_twice : List ℕ → Members → Bool
is_twice name ms = not (bytes_eq name (camel name)) && has_key name ms && has_key (camel name) ms

abbrev pub known : List ℕ → Option (List ℕ) → Members → Result ⊤ FieldFault
known key None all = Err (UnknownField key)
known key (Some name) all = if is_twice name all then Err (TwiceNamed name) else Ok tt

-- each key, in their order
abbrev pub all_known : Members → List (List ℕ) → Members → Result ⊤ FieldFault
all_known no_members names all = Ok tt
all_known (member key d ms) names all = known key (field_of key names) all >>= λ done. all_known ms names all

-- each key names one of these fields, and no two name the same one
unfoldable pub only : Members → List ℕ → Result ⊤ FieldFault
only ms allowed = all_known ms (words allowed) ms

abbrev pub first_twice : List (List ℕ) → Members → Option (List ℕ)
first_twice names ms = find (λ name. is_twice name ms) names

abbrev pub unless_twice : Option (List ℕ) → Result ⊤ FieldFault
unless_twice None = Ok tt
unless_twice (Some name) = Err (TwiceNamed name)

-- no two keys name the same one of these fields; other keys may be there
unfoldable pub once : Members → List ℕ → Result ⊤ FieldFault
once ms names = unless_twice (first_twice (words names) ms)
