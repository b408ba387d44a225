-- The methods that `httparse` takes are those of `http`.
use Rattle.std.proofs.Common.{ℕ, List}
use Rattle.httparse.specs.Grammar.{IsToken, is_token_byte}
use Rattle.http_header.specs.Token.{IsToken as IsName, is_token_byte as is_name_byte}

pub token_name : (bytes : List ℕ) → IsToken bytes → IsName bytes
unfolding is_token_byte is_name_byte
token_name bytes h = h
