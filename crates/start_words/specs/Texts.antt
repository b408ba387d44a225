-- What the command tells of its words: what it serves where, and why a value is refused.
use Rattle.std.specs.Prelude.{ℕ, List, [], ◌∷◌, ◌++◌, codes, flat_map}
use Rattle.std.specs.Fmt.{decimal}
use Rattle.start_words.specs.declared.fault.Cause.{Cause}
use Rattle.start_words.specs.declared.fault.Cause.TheVariants.{NotAnAddress, IsSecure, TooMany, NotANumber}
use Rattle.start_words.specs.declared.fault.StartOption.{StartOption}
use Rattle.start_words.specs.declared.fault.StartOption.TheVariants.{Endpoints, ListenAddr, Workers, SessionTtl, MessageLimit, MaxConnections, MetricsAddr}
use Rattle.start_words.specs.declared.wrong.Wrong.{Wrong}

abbrev pub option_text : StartOption → List ℕ
option_text Endpoints = codes "--endpoints"
option_text ListenAddr = codes "--listen-addr"
option_text Workers = codes "--workers"
option_text SessionTtl = codes "--session-ttl"
option_text MessageLimit = codes "--message-limit"
option_text MaxConnections = codes "--max-connections"
option_text MetricsAddr = codes "--metrics-addr"

abbrev pub cause_text : Cause → List ℕ
cause_text NotAnAddress = codes "not HOST:PORT"
cause_text IsSecure = codes "https isn't served"
cause_text TooMany = codes "more than 9 endpoints"
cause_text (NotANumber low high) = codes "not a number from " ++ decimal low ++ codes " to " ++ decimal high

-- the option, the word, and why it is refused
abbrev pub wrong_text : Wrong → List ℕ
wrong_text w = option_text w.option ++ codes " " ++ w.word ++ codes ": " ++ cause_text w.cause ++ codes "\n"

-- with a comma between two of them
abbrev pub hosts_text : List (List ℕ) → List ℕ
hosts_text [] = []
hosts_text (host ∷ hosts) = host ++ flat_map (λ other. 44 ∷ other) hosts

abbrev pub serving_text : List ℕ → List (List ℕ) → List ℕ
serving_text listen hosts = codes "serving " ++ listen ++ codes " for " ++ hosts_text hosts ++ codes "\n"
