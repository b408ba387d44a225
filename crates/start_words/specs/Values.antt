-- The values of the options of `grpc-proxy start`: addresses as `host:port`, the endpoints of a cluster, and numbers in a range.
-- The options are those of etcd's grpc-proxy manual, as far as they are served here.
use Rattle.std.specs.Prelude.{ℕ, ◌+◌, ◌==◌, ◌&&◌, ◌||◌, not, Bool, false, List, length, take, drop, Option, Some, None, is_some, eqb, Result, Ok, Err, if◌then◌else◌, codes}
use Rattle.std.specs.List.{starts_with, position, list_all}
use Rattle.std.specs.Fmt.{decimal}
use Rattle.std.specs.Str.Parse.{digits_value}
use Rattle.std.specs.Char.{is_ascii_alphanumeric}
use Rattle.text_model.specs.Forms.{respelled}
use Rattle.text_model.specs.Words.{is_within}
use Rattle.start_words.specs.declared.fault.Cause.{Cause}
use Rattle.start_words.specs.declared.fault.Cause.TheVariants.{NotAnAddress, IsSecure}

-- a number in canonical decimal, in a range
abbrev pub number_in : ℕ → ℕ → List ℕ → Option ℕ
number_in low high word = respelled decimal (digits_value 10) (is_within low high) word

abbrev pub is_port : List ℕ → Bool
is_port word = is_some (number_in 1 65535 word)

-- letters, digits, `-` and `.`
abbrev pub is_host_byte : ℕ → Bool
is_host_byte b = is_ascii_alphanumeric b || b == 45 || b == 46

-- one or more of these bytes
abbrev pub is_host : List ℕ → Bool
is_host word = not (length word == 0) && list_all is_host_byte word

-- a host, the word's first colon, and a port
abbrev pub address_by : List ℕ → Option ℕ → Bool
address_by word None = false
address_by word (Some end) = is_host (take end word) && is_port (drop (end + 1) word)

abbrev pub is_address : List ℕ → Bool
is_address word = address_by word (position (λ b. b == 58) word)

-- the word begins so
abbrev pub begins : List ℕ → List ℕ → Bool
begins front word = starts_with eqb word front

-- the word without this front, where it has it
abbrev pub without : List ℕ → List ℕ → List ℕ
without front word = if begins front word then drop (length front) word else word

-- the address of an endpoint, before which `http://` may stand
abbrev pub endpoint_of : List ℕ → Result (List ℕ) Cause
endpoint_of word =
    if begins (codes "https://") word then Err IsSecure
    else if is_address (without (codes "http://") word) then Ok (without (codes "http://") word)
    else Err NotAnAddress
