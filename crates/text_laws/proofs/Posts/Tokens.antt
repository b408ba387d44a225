-- The tokens of a JSON text: their strings are bytes, and there are no more of them than the text has bytes, and one.
use Rattle.std.proofs.Common.{ℕ, suc, ◌+◌, ◌≤◌, ◌==◌, Bool, true, false, List, [], ◌∷◌, length, Option, None, Some, arith}
use Rattle.json.specs.Ascii as ascii
use Rattle.json.specs.Lex.{Lexeme, token, comma, colon, Class, quote, backslash, operator, space, other, class, operator_lexeme, string_token, Mode, between, in_word, in_string, in_escape, lex_byte, lex, Place, fresh, after_value, after_comma, after_key, begins_colon, may_begin, may_close, if_allowed, place_token, punctuate, tokens}
use Rattle.json.specs.Text.{plain, content}
use Rattle.json.specs.Token.{Token}
use Rattle.json.specs.Word.{head, ends_word, literal, number_before, after_number, word}
use Rattle.text_laws.specs.Values.Fits.{AllOf, If, Bytes}
use Rattle.text_laws.proofs.Values.Alls.{either}
use Rattle.text_laws.proofs.Posts.Strings.{content_bytes}

abbrev pub TokenBytes : Token → Type 0
TokenBytes Token.begin_object = Unit {0}
TokenBytes Token.end_object = Unit {0}
TokenBytes Token.begin_array = Unit {0}
TokenBytes Token.end_array = Unit {0}
TokenBytes (Token.key s) = Bytes s
TokenBytes (Token.string s) = Bytes s
TokenBytes (Token.number s) = Unit {0}
TokenBytes (Token.boolean b) = Unit {0}
TokenBytes Token.null = Unit {0}
TokenBytes Token.bad = Unit {0}

abbrev LexemeBytes : Lexeme → Type 0
LexemeBytes (token t) = TokenBytes t
LexemeBytes comma = Unit {0}
LexemeBytes colon = Unit {0}

-- ---- lexemes

record Lexed (n : ℕ) (ls : List Lexeme) : Type 0 where
  all : AllOf LexemeBytes ls
  few : length ls ≤ n

string_bytes : (o : Option (List ℕ)) → If Bytes o → TokenBytes (string_token o)
string_bytes None h = tt
string_bytes (Some s) h = h

before_bytes : (t : List ℕ) (o : Option (List ℕ)) → TokenBytes (number_before t o)
before_bytes t None = tt
before_bytes t (Some rest) = either TokenBytes (ends_word rest) (Token.number _) Token.bad tt tt

literal_bytes : (name : List ℕ) (k : Token) (t : List ℕ) → TokenBytes k → TokenBytes (literal name k t)
literal_bytes name k t h = either TokenBytes _ k Token.bad h tt

word_bytes : (t : List ℕ) → TokenBytes (word t)
unfolding word
word_bytes t =
    either TokenBytes (head t == ascii.lower_t) (literal ascii.true_text (Token.boolean true) t) _ (literal_bytes ascii.true_text (Token.boolean true) t tt)
    (either TokenBytes (head t == ascii.lower_f) (literal ascii.false_text (Token.boolean false) t) _ (literal_bytes ascii.false_text (Token.boolean false) t tt)
    (either TokenBytes (head t == ascii.lower_n) (literal ascii.null_text Token.null t) _ (literal_bytes ascii.null_text Token.null t tt) (before_bytes t (after_number t))))

operator_bytes : (x : ℕ) → LexemeBytes (operator_lexeme x)
operator_bytes x =
    either LexemeBytes (x == ascii.open_brace) _ _ tt
    (either LexemeBytes (x == ascii.close_brace) _ _ tt
    (either LexemeBytes (x == ascii.open_bracket) _ _ tt (either LexemeBytes (x == ascii.close_bracket) _ _ tt (either LexemeBytes (x == ascii.comma) comma colon tt tt))))

one : (n : ℕ) (l : Lexeme) (ls : List Lexeme) → LexemeBytes l → Lexed n ls → Lexed (suc n) (l ∷ ls)
one n l ls h k = let few = k.few in record { all = (h, k.all); few = omega (arith, few) }

none : (n : ℕ) (ls : List Lexeme) → Lexed n ls → Lexed (suc n) ls
none n ls k = let few = k.few in record { all = k.all; few = omega (arith, few) }

byte_lexed : (m : Mode) (c : Class) (x : ℕ) (xs : List ℕ) (k : Mode → List Lexeme) → Bytes xs → ((m : Mode) → Lexed (length xs) (k m)) → Lexed (suc (length xs)) (lex_byte m c x xs k)
byte_lexed between quote x xs k h f = one (length xs) (token (string_token (content plain xs))) (k in_string) (string_bytes (content plain xs) (content_bytes plain xs tt h)) (f in_string)
byte_lexed between backslash x xs k h f = one (length xs) (token Token.bad) (k in_word) tt (f in_word)
byte_lexed between operator x xs k h f = one (length xs) (operator_lexeme x) (k between) (operator_bytes x) (f between)
byte_lexed between space x xs k h f = none (length xs) (k between) (f between)
byte_lexed between other x xs k h f = one (length xs) (token (word (x ∷ xs))) (k in_word) (word_bytes (x ∷ xs)) (f in_word)
byte_lexed in_word quote x xs k h f = none (length xs) (k in_word) (f in_word)
byte_lexed in_word backslash x xs k h f = none (length xs) (k in_word) (f in_word)
byte_lexed in_word operator x xs k h f = one (length xs) (operator_lexeme x) (k between) (operator_bytes x) (f between)
byte_lexed in_word space x xs k h f = none (length xs) (k between) (f between)
byte_lexed in_word other x xs k h f = none (length xs) (k in_word) (f in_word)
byte_lexed in_string quote x xs k h f = none (length xs) (k between) (f between)
byte_lexed in_string backslash x xs k h f = none (length xs) (k in_escape) (f in_escape)
byte_lexed in_string operator x xs k h f = none (length xs) (k in_string) (f in_string)
byte_lexed in_string space x xs k h f = none (length xs) (k in_string) (f in_string)
byte_lexed in_string other x xs k h f = none (length xs) (k in_string) (f in_string)
byte_lexed in_escape c x xs k h f = none (length xs) (k in_string) (f in_string)

lexed : (m : Mode) (xs : List ℕ) → Bytes xs → Lexed (length xs) (lex m xs)
unfolding lex
lexed m [] h = record { all = tt; few = omega arith }
lexed m (x ∷ xs) h = byte_lexed m (class x) x xs (λ next. lex next xs) h.1 (λ next. lexed next xs h.1)

-- ---- tokens

pub record Tokens (n : ℕ) (ts : List Token) : Type 0 where
  pub all : AllOf TokenBytes ts
  pub few : length ts ≤ n

bad_alone : (n : ℕ) → Tokens (suc n) (Token.bad ∷ [])
bad_alone n = record { all = (tt, tt); few = omega arith }

allowed : (n : ℕ) (b : Bool) (t : Token) (k : Place → List Token) (next : Place) → TokenBytes t → Tokens n (k next) → Tokens (suc n) (if_allowed b t k next)
allowed n true t k next h f = let few = f.few in record { all = (h, f.all); few = omega (arith, few) }
allowed n false t k next h f = bad_alone n

placed : (n : ℕ) (p : Place) (t : Token) (b : Bool) (k : Place → List Token) → TokenBytes t → ((q : Place) → Tokens n (k q)) → Tokens (suc n) (place_token p t b k)
placed n p Token.begin_object b k h f = allowed n (may_begin p) Token.begin_object k fresh tt (f fresh)
placed n p Token.end_object b k h f = allowed n (may_close p) Token.end_object k after_value tt (f after_value)
placed n p Token.begin_array b k h f = allowed n (may_begin p) Token.begin_array k fresh tt (f fresh)
placed n p Token.end_array b k h f = allowed n (may_close p) Token.end_array k after_value tt (f after_value)
placed n p (Token.key s) b k h f = bad_alone n
placed n p (Token.string s) true k h f = allowed n (may_begin p) (Token.key s) k after_key h (f after_key)
placed n p (Token.string s) false k h f = allowed n (may_begin p) (Token.string s) k after_value h (f after_value)
placed n p (Token.number s) b k h f = allowed n (may_begin p) (Token.number s) k after_value tt (f after_value)
placed n p (Token.boolean c) b k h f = allowed n (may_begin p) (Token.boolean c) k after_value tt (f after_value)
placed n p Token.null b k h f = allowed n (may_begin p) Token.null k after_value tt (f after_value)
placed n p Token.bad b k h f = bad_alone n

wider : (n : ℕ) (ts : List Token) → Tokens n ts → Tokens (suc n) ts
wider n ts h = let few = h.few in record { all = h.all; few = omega (arith, few) }

punctuated : (p : Place) (ls : List Lexeme) → AllOf LexemeBytes ls → Tokens (suc (length ls)) (punctuate p ls)
unfolding punctuate
punctuated fresh [] h = record { all = tt; few = omega arith }
punctuated after_value [] h = record { all = tt; few = omega arith }
punctuated after_comma [] h = bad_alone 0
punctuated after_key [] h = bad_alone 0
punctuated fresh (token t ∷ ls) h = placed (suc (length ls)) fresh t (begins_colon ls) (λ next. punctuate next ls) h.0 (λ next. punctuated next ls h.1)
punctuated after_value (token t ∷ ls) h = placed (suc (length ls)) after_value t (begins_colon ls) (λ next. punctuate next ls) h.0 (λ next. punctuated next ls h.1)
punctuated after_comma (token t ∷ ls) h = placed (suc (length ls)) after_comma t (begins_colon ls) (λ next. punctuate next ls) h.0 (λ next. punctuated next ls h.1)
punctuated after_key (token t ∷ ls) h = placed (suc (length ls)) after_key t (begins_colon ls) (λ next. punctuate next ls) h.0 (λ next. punctuated next ls h.1)
punctuated fresh (comma ∷ ls) h = bad_alone (suc (length ls))
punctuated after_value (comma ∷ ls) h = wider (suc (length ls)) (punctuate after_comma ls) (punctuated after_comma ls h.1)
punctuated after_comma (comma ∷ ls) h = bad_alone (suc (length ls))
punctuated after_key (comma ∷ ls) h = bad_alone (suc (length ls))
punctuated fresh (colon ∷ ls) h = bad_alone (suc (length ls))
punctuated after_value (colon ∷ ls) h = bad_alone (suc (length ls))
punctuated after_comma (colon ∷ ls) h = bad_alone (suc (length ls))
punctuated after_key (colon ∷ ls) h = wider (suc (length ls)) (punctuate fresh ls) (punctuated fresh ls h.1)

pub text_tokens : (text : List ℕ) → Bytes text → Tokens (length text + 1) (tokens text)
text_tokens text h =
    let l = lexed between text h in
    let t = punctuated fresh (lex between text) l.all in
    let a = l.few in
    let b = t.few in
    record { all = t.all; few = omega (arith, a, b) }
