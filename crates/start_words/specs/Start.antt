-- What the words of `grpc-proxy start` name: thirteen options, each of them given at most once, with the value that follows it or that
-- is its own where it isn't given; two of them have no value. Words become options by the rules of clap; the options are those of etcd's
-- grpc-proxy manual, as far as they are served here, and nine more: the leasing prefix, workers, the session's time to live, the limit of a
-- message of a watch, the file of the sessions' numbers, whether the server stops at the end of its input, how many clients are connected at
-- once, how refusals are written, and where figures are shown.
use Rattle.std.specs.Prelude.{◌≡◌, ◌==◌, ◌||◌, Bool, bytes_eq, ℕ, ◌≤◌, List, [], ◌∷◌, length, Option, Some, None, unwrap_or, Result, Ok, Err, codes, nat_lt, if◌then◌else◌, true, ⊤}
use Rattle.text_model.specs.Texts.{words}
use Rattle.clap.specs.Walk.{Row, Rule, Text, first_of}
use Rattle.clap.specs.Simple.{App, matches_of, new_app, new_rule, on_top, with_rule}
use Rattle.clap.specs.Faults.{fault_of}
use Rattle.clap.specs.declared.builder.action.ArgAction.TheVariants.{Set, SetTrue}
use Rattle.start_words.specs.declared.fault.Cause.{Cause}
use Rattle.start_words.specs.declared.fault.Cause.TheVariants.{NotAnAddress, NotANumber, TooMany}
use Rattle.start_words.specs.declared.fault.StartOption.{StartOption}
use Rattle.start_words.specs.declared.fault.StartOption.TheVariants.{Endpoints, ListenAddr, Workers, SessionTtl, MessageLimit, MaxConnections, MetricsAddr}
use Rattle.start_words.specs.declared.settings.StartSettings.{StartSettings}
use Rattle.start_words.specs.declared.wrong.Wrong.{Wrong}
use Rattle.start_words.specs.declared.wrong.ValueFault.{ValueFault}
use Rattle.start_words.specs.declared.wrong.ValueFault.TheVariants as fault
use Rattle.start_words.specs.Further.{is_further_listen, further_endpoint_of}
use Rattle.start_words.specs.Values.{endpoint_of, is_address, number_in}

-- ---- the options

-- an option with one value
abbrev pub option_rule : Text → Rule
option_rule name = record (new_rule name) { long = Some name; action = Some Set; value_names = 1 }

abbrev pub required_rule : Text → Rule
required_rule name = record (option_rule name) { required = true }

abbrev pub default_rule : Text → Text → Rule
default_rule name value = record (option_rule name) { defaults = value ∷ [] }

-- an option without a value
abbrev pub flag_rule : Text → Rule
flag_rule name = record (new_rule name) { long = Some name; action = Some SetTrue }

abbrev pub with_rules : App → List Rule → App
with_rules app [] = app
with_rules app (rule ∷ rules) = with_rules (with_rule app rule) rules

abbrev pub place_rules : List Rule
place_rules =
    required_rule (codes "endpoints")
    ∷ default_rule (codes "listen-addr") (codes "127.0.0.1:23790")
    ∷ default_rule (codes "namespace") []
    ∷ []

abbrev pub more_rules : List Rule
more_rules =
    default_rule (codes "leasing-prefix") []
    ∷ default_rule (codes "workers") (codes "8")
    ∷ default_rule (codes "session-ttl") (codes "60")
    ∷ default_rule (codes "message-limit") (codes "64")
    ∷ []

abbrev pub end_rules : List Rule
end_rules =
    default_rule (codes "state-file") []
    ∷ flag_rule (codes "stop-at-end")
    ∷ []

-- how many clients are connected at once, the address that clients are told to come to, and whether refusals are written as etcd's own gateway has them
abbrev pub client_rules : List Rule
client_rules =
    default_rule (codes "max-connections") (codes "4096")
    ∷ default_rule (codes "advertise-client-url") []
    ∷ flag_rule (codes "etcd-errors")
    ∷ []

-- where nothing is given, figures are shown nowhere
abbrev pub metrics_rules : List Rule
metrics_rules = default_rule (codes "metrics-addr") [] ∷ []

-- the words are those behind `start`
abbrev pub bare_app : App
bare_app = on_top (λ s. record s { no_binary_name = true }) (new_app (codes "start"))

abbrev pub start_app : App
start_app =
    with_rules (with_rules (with_rules (with_rules (with_rules bare_app place_rules) more_rules) end_rules) client_rules) metrics_rules

-- ---- their values

abbrev pub wrong : StartOption → List ℕ → Cause → Wrong
wrong option word cause = record { option = option; word = word; cause = cause }

-- the first that is wrong counts
abbrev pub and_then : {A B : Type 0} → Result A Wrong → (A → Result B Wrong) → Result B Wrong
and_then (Ok value) f = f value
and_then (Err e) f = Err e

abbrev pub endpoint_by : List ℕ → Result (List ℕ) Cause → Result (List ℕ) Wrong
endpoint_by word (Ok address) = Ok address
endpoint_by word (Err cause) = Err (wrong Endpoints word cause)

-- a word that isn't `host:port` may be an address of another form
unfoldable pub endpoint_or_further : List ℕ → Result (List ℕ) Cause → Result (List ℕ) Cause
endpoint_or_further word (Err NotAnAddress) = further_endpoint_of word
endpoint_or_further word other = other

abbrev pub endpoint : List ℕ → Result (List ℕ) Wrong
endpoint word = endpoint_by word (endpoint_or_further word (endpoint_of word))

abbrev pub each_endpoint : List (List ℕ) → Result (List (List ℕ)) Wrong
each_endpoint [] = Ok []
each_endpoint (word ∷ more) =
    and_then (endpoint word) (λ address. and_then (each_endpoint more) (λ addresses. Ok (address ∷ addresses)))

-- endpoints, with commas between them
abbrev pub endpoints_of : List ℕ → Result (List (List ℕ)) Wrong
endpoints_of word =
    if nat_lt 9 (length (words 44 word)) then Err (wrong Endpoints word TooMany) else each_endpoint (words 44 word)

abbrev pub listen_of : List ℕ → Result (List ℕ) Wrong
listen_of word = if is_address word || is_further_listen word then Ok word else Err (wrong ListenAddr word NotAnAddress)

abbrev pub metrics_of : List ℕ → Result (List ℕ) Wrong
metrics_of word = if (length word == 0) || is_address word then Ok word else Err (wrong MetricsAddr word NotAnAddress)

abbrev pub number_by : StartOption → ℕ → ℕ → List ℕ → Option ℕ → Result ℕ Wrong
number_by option low high word (Some number) = Ok number
number_by option low high word None = Err (wrong option word (NotANumber low high))

abbrev pub number_of : StartOption → ℕ → ℕ → List ℕ → Result ℕ Wrong
number_of option low high word = number_by option low high word (number_in low high word)

abbrev pub value_of : Text → List Row → List ℕ
value_of name rows = unwrap_or (first_of name rows) []

-- an option without a value is given
abbrev pub is_set : Text → List Row → Bool
is_set name rows = bytes_eq (value_of name rows) (codes "true")

-- the settings that these values are, or the first value that isn't of its form
abbrev pub settings_of : List Row → Result StartSettings Wrong
settings_of rows =
    and_then (endpoints_of (value_of (codes "endpoints") rows)) (λ endpoints.
    and_then (listen_of (value_of (codes "listen-addr") rows)) (λ listen.
    and_then (number_of Workers 1 64 (value_of (codes "workers") rows)) (λ workers.
    and_then (number_of SessionTtl 5 3600 (value_of (codes "session-ttl") rows)) (λ ttl.
    and_then (number_of MessageLimit 8 64 (value_of (codes "message-limit") rows)) (λ message.
    and_then (number_of MaxConnections 1 16384 (value_of (codes "max-connections") rows)) (λ connections.
    and_then (metrics_of (value_of (codes "metrics-addr") rows)) (λ metrics.
    Ok (record {
      endpoints = endpoints;
      listen = listen;
      namespace = value_of (codes "namespace") rows;
      leasing = value_of (codes "leasing-prefix") rows;
      workers = workers;
      session_ttl = ttl;
      message_limit = message;
      state_file = value_of (codes "state-file") rows;
      stop_at_end = is_set (codes "stop-at-end") rows;
      max_connections = connections;
      advertise = value_of (codes "advertise-client-url") rows;
      etcd_errors = is_set (codes "etcd-errors") rows;
      metrics = metrics;
    }))))))))

-- the counts that they have
pub record Within (s : StartSettings) : Type 0 where
  pub some : 1 ≤ length s.endpoints
  pub few : length s.endpoints ≤ 9
  pub workers : s.workers ≤ 64
  pub ttl : s.session_ttl ≤ 3600
  pub message : s.message_limit ≤ 64
  pub connections : s.max_connections ≤ 16384

-- ---- the words

-- clap takes the words, and then their values count
abbrev pub Names : List Text → Result StartSettings Wrong → Type 0
Names words result = (fault_of start_app words ≡ []) × (settings_of (matches_of start_app words) ≡ result)

-- what reading a value gave is what the definition gives, unless memory was wanting
abbrev pub Gives : {T : Type 0} → Result T ValueFault → Result T Wrong → Type 0
Gives (Ok value) named = named ≡ Ok value
Gives (Err (fault.Wrong w)) named = named ≡ Err w
Gives (Err fault.NoMemory) named = ⊤

-- the fault is this one, unless memory was wanting
abbrev pub IsFault : Wrong → ValueFault → Type 0
IsFault w (fault.Wrong told) = told ≡ w
IsFault w fault.NoMemory = ⊤
