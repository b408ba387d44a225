-- Forms of addresses that are taken beside `host:port`, as programs of Go take them (net.SplitHostPort): a name with `_`, an address of IPv6
-- in brackets (RFC 3986, section 3.2.2), a port alone where clients are served, and an endpoint as an URL with a slash at its end.
use Rattle.std.specs.Prelude.{ℕ, ◌+◌, ◌-◌, ◌==◌, ◌&&◌, ◌||◌, not, Bool, false, List, length, take, drop, bytes_eq, Option, Some, None, Result, Ok, Err, if◌then◌else◌, codes}
use Rattle.std.specs.List.{position, list_all}
use Rattle.std.specs.Char.{is_ascii_hexdigit}
use Rattle.start_words.specs.Values.{is_host_byte, is_port, begins}
use Rattle.start_words.specs.declared.fault.Cause.{Cause}
use Rattle.start_words.specs.declared.fault.Cause.TheVariants.{NotAnAddress}

-- ---- names with `_`

abbrev pub is_name_byte : ℕ → Bool
is_name_byte b = is_host_byte b || b == 95

abbrev pub is_name : List ℕ → Bool
is_name word = not (length word == 0) && list_all is_name_byte word

-- a name, the word's first colon, and a port
abbrev pub named_by : List ℕ → Option ℕ → Bool
named_by word None = false
named_by word (Some end) = is_name (take end word) && is_port (drop (end + 1) word)

abbrev pub is_named : List ℕ → Bool
is_named word = named_by word (position (λ b. b == 58) word)

-- ---- addresses of IPv6

-- a hexadecimal digit, `:` or `.`
abbrev pub is_six_byte : ℕ → Bool
is_six_byte b = is_ascii_hexdigit b || b == 58 || b == 46

abbrev pub is_six : List ℕ → Bool
is_six word = not (length word == 0) && list_all is_six_byte word

-- `:` and a port
abbrev pub is_port_alone : List ℕ → Bool
is_port_alone word = begins (codes ":") word && is_port (drop 1 word)

-- behind the first bracket: an address up to the other one, and then a port
abbrev pub closed_by : List ℕ → Option ℕ → Bool
closed_by rest None = false
closed_by rest (Some end) = is_six (take end rest) && is_port_alone (drop (end + 1) rest)

abbrev pub is_closed : List ℕ → Bool
is_closed rest = closed_by rest (position (λ b. b == 93) rest)

abbrev pub is_bracketed : List ℕ → Bool
is_bracketed word = begins (codes "[") word && is_closed (drop 1 word)

-- ---- what is taken of an endpoint, and where clients are served

abbrev pub is_further : List ℕ → Bool
is_further word = is_named word || is_bracketed word

-- the word without the slash at its end, where it has one
abbrev pub without_slash : List ℕ → List ℕ
without_slash word = if bytes_eq (drop (length word - 1) word) (codes "/") then take (length word - 1) word else word

-- an URL without its scheme and the slash at its end; any other word as it is
abbrev pub trimmed : List ℕ → List ℕ
trimmed word = if begins (codes "http://") word then without_slash (drop 7 word) else word

abbrev pub further_endpoint_of : List ℕ → Result (List ℕ) Cause
further_endpoint_of word = if is_further (trimmed word) then Ok (trimmed word) else Err NotAnAddress

abbrev pub is_further_listen : List ℕ → Bool
is_further_listen word = is_further word || is_port_alone word
