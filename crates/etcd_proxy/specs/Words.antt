-- The words of the command line.
use Rattle.std.specs.Prelude.{◌≤◌, ◌&&◌, if◌then◌else◌, List, [], ◌∷◌, ℕ, Option, None, Some, String, codes, bytes_eq, decimal}
use Rattle.std.specs.Str.Parse.{digits_value}
use Rattle.std.specs.String.{string_bytes}
use Rattle.std.specs.declared.alloc.Global.{Global}
use Rattle.text_model.specs.Forms.{respelled}
use Rattle.text_model.specs.Words.{is_within}
use Rattle.etcd_proxy.specs.declared.words.Command.{Command}
use Rattle.etcd_proxy.specs.declared.words.Command.TheVariants.{Replay, Generate, Audit, Explain, Help, Version}

abbrev pub named : List ℕ → Option Command
named name =
    if bytes_eq name (codes "replay") then Some Replay
    else if bytes_eq name (codes "audit") then Some Audit
    else if bytes_eq name (codes "--help") then Some Help
    else if bytes_eq name (codes "--version") then Some Version
    else None

abbrev pub generates : Option ℕ → Option Command
generates None = None
generates (Some number) = Some (Generate number)

-- `replay --generate N`, where N is canonical decimal from 1 to 20,000
abbrev pub named_with : List ℕ → List ℕ → List ℕ → Option Command
named_with name option value =
    if bytes_eq name (codes "replay") && bytes_eq option (codes "--generate")
    then generates (respelled decimal (digits_value 10) (is_within 1 20000) value)
    else None

-- `audit --explain`
abbrev pub named_more : List ℕ → List ℕ → Option Command
named_more name option = if bytes_eq name (codes "audit") && bytes_eq option (codes "--explain") then Some Explain else None

-- one word, which names the command, or a command with an option, or with an option and its value
abbrev pub command_of : List (String Global) → Option Command
command_of (word ∷ []) = named (string_bytes word)
command_of (name ∷ option ∷ []) = named_more (string_bytes name) (string_bytes option)
command_of (name ∷ option ∷ value ∷ []) = named_with (string_bytes name) (string_bytes option) (string_bytes value)
command_of _ = None

-- a script is generated from a number up to 20,000
abbrev pub IsInRange : Command → Type 0
IsInRange (Generate number) = number ≤ 20000
IsInRange _ = Unit {0}
