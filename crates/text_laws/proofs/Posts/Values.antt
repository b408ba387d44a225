-- A value that is read of a JSON text has bytes for its strings and names, and lists of no more members than the text has bytes, and one.
use Rattle.std.proofs.Common.{ℕ, zero, suc, ◌+◌, ◌≤◌, List, [], ◌∷◌, length, Option, None, Some, Ordering, Less, Equal, Greater, option_map, option_and_then, arith, nat_cmp}
use Rattle.std.specs.Ordering.{match_ordering}
use Rattle.std.specs.Cmp.Lexicographic.{slice_cmp}
use Rattle.json.specs.Json as json
use Rattle.json.specs.Json.{Parse, parse_map, after_end_array, read_key, items_step, members_step, value_with, if_last}
use Rattle.json.specs.Lex.{tokens}
use Rattle.json.specs.Token.{Token}
use Rattle.serde_json.specs.Data.{Num, Data, null, boolean, number, string, array, object, Items, no_items, item, Members, no_members, member, put}
use Rattle.serde_json.specs.Read.{max_depth, number_of, of_json, of_items, of_members, read}
use Rattle.text_laws.specs.Values.Fits.{If, Bytes}
use Rattle.text_laws.proofs.Posts.Tokens.{Tokens, text_tokens}

abbrev count : json.Items → ℕ
count json.no_items = 0
count (json.item j js) = suc (count js)

abbrev mutual
  Json : ℕ → json.Json → Type 0
  Json n json.null = Unit {0}
  Json n (json.boolean b) = Unit {0}
  Json n (json.number s) = Unit {0}
  Json n (json.string s) = Bytes s
  Json n (json.array js) = (count js ≤ n) × JsonItems n js
  Json n (json.object ms) = JsonMembers n ms

  JsonItems : ℕ → json.Items → Type 0
  JsonItems n json.no_items = Unit {0}
  JsonItems n (json.item j js) = Json n j × JsonItems n js

  JsonMembers : ℕ → json.Members → Type 0
  JsonMembers n json.no_members = Unit {0}
  JsonMembers n (json.member k j ms) = Bytes k × Json n j × JsonMembers n ms

-- what was parsed, and the tokens behind it
abbrev Parsed : {A : Type 0} → (A → Type 0) → ℕ → Option (A × List Token) → Type 0
Parsed P n None = Unit {0}
Parsed P n (Some p) = P p.0 × Tokens n p.1

mapped : {A B : Type 0} (P : A → Type 0) (Q : B → Type 0) (f : A → B) (n : ℕ) (r : Option (A × List Token)) → ((x : A) → P x → Q (f x)) → Parsed P n r → Parsed Q n (parse_map f r)
mapped P Q f n None g h = tt
mapped P Q f n (Some p) g h = (g p.0 h.0, h.1)

tail_of : (n : ℕ) (t : Token) (ts : List Token) → Tokens n (t ∷ ts) → Tokens n ts
tail_of n t ts h = let few = h.few in record { all = h.all.1; few = omega (arith, few) }

abbrev TailIf : ℕ → Option (List Token) → Type 0
TailIf n o = If (Tokens n) o

end_tail : (n : ℕ) (ts : List Token) → Tokens n ts → TailIf n (after_end_array ts)
end_tail n [] h = tt
end_tail n (Token.begin_object ∷ ts) h = tt
end_tail n (Token.end_object ∷ ts) h = tt
end_tail n (Token.begin_array ∷ ts) h = tt
end_tail n (Token.end_array ∷ ts) h = tail_of n Token.end_array ts h
end_tail n (Token.key s ∷ ts) h = tt
end_tail n (Token.string s ∷ ts) h = tt
end_tail n (Token.number s ∷ ts) h = tt
end_tail n (Token.boolean b ∷ ts) h = tt
end_tail n (Token.null ∷ ts) h = tt
end_tail n (Token.bad ∷ ts) h = tt

key_read : (n : ℕ) (ts : List Token) → Tokens n ts → Parsed (If Bytes) n (read_key ts)
key_read n [] h = tt
key_read n (Token.begin_object ∷ ts) h = tt
key_read n (Token.end_object ∷ ts) h = (tt, tail_of n Token.end_object ts h)
key_read n (Token.begin_array ∷ ts) h = tt
key_read n (Token.end_array ∷ ts) h = tt
key_read n (Token.key s ∷ ts) h = (h.all.0, tail_of n (Token.key s) ts h)
key_read n (Token.string s ∷ ts) h = tt
key_read n (Token.number s ∷ ts) h = tt
key_read n (Token.boolean b ∷ ts) h = tt
key_read n (Token.null ∷ ts) h = tt
key_read n (Token.bad ∷ ts) h = tt

-- each value that is parsed of good tokens is good
abbrev Parses : ℕ → Parse json.Json → Type 0
Parses n value = (ts : List Token) → Tokens n ts → Parsed (Json n) n (value ts)

-- so many members at most
abbrev Few : ℕ → ℕ → json.Items → Type 0
Few n m js = (count js ≤ m) × JsonItems n js

items_parsed : (n : ℕ) (value : Parse json.Json) → Parses n value → (m : ℕ) (ts : List Token) → Tokens n ts → Parsed (Few n m) n (json.items value m ts)
unfolding json.items
items_parsed n value f zero ts h = tt
items_parsed n value f (suc m) ts h = by_end (after_end_array ts) (end_tail n ts h) (λ us g. items_parsed n value f m us g)
  where
    behind : (r : Option (json.Json × List Token)) → ((us : List Token) → Tokens n us → Parsed (Few n m) n (json.items value m us)) → Parsed (Json n) n r → Parsed (Few n (suc m)) n (option_and_then (λ p. parse_map (json.item p.0) (json.items value m p.1)) r)
    behind None more k = tt
    behind (Some p) more k = mapped (Few n m) (Few n (suc m)) (json.item p.0) n (json.items value m p.1) (λ js g. (let c = g.0 in omega (arith, c), (k.0, g.1))) (more p.1 k.1)

    by_end : (o : Option (List Token)) → TailIf n o → ((us : List Token) → Tokens n us → Parsed (Few n m) n (json.items value m us)) → Parsed (Few n (suc m)) n (items_step value (json.items value m) ts o)
    by_end (Some rest) k more = ((omega arith, tt), k)
    by_end None k more = behind (value ts) more (f ts h)

members_parsed : (n : ℕ) (value : Parse json.Json) → Parses n value → (m : ℕ) (ts : List Token) → Tokens n ts → Parsed (JsonMembers n) n (json.members value m ts)
unfolding json.members
members_parsed n value f zero ts h = tt
members_parsed n value f (suc m) ts h = by_key (read_key ts) (key_read n ts h) (λ us g. members_parsed n value f m us g)
  where
    behind : (k : List ℕ) (r : Option (json.Json × List Token)) → Bytes k → ((us : List Token) → Tokens n us → Parsed (JsonMembers n) n (json.members value m us)) → Parsed (Json n) n r
        → Parsed (JsonMembers n) n (option_and_then (λ p. parse_map (json.member k p.0) (json.members value m p.1)) r)
    behind k None b more g = tt
    behind k (Some p) b more g = mapped (JsonMembers n) (JsonMembers n) (json.member k p.0) n (json.members value m p.1) (λ ms q. (b, g.0, q)) (more p.1 g.1)

    by_name : (o : Option (List ℕ)) (us : List Token) → If Bytes o → Tokens n us → ((vs : List Token) → Tokens n vs → Parsed (JsonMembers n) n (json.members value m vs)) → Parsed (JsonMembers n) n (members_step value (json.members value m) o us)
    by_name None us b g more = (tt, g)
    by_name (Some k) us b g more = behind k (value us) b more (f us g)

    by_key : (r : Option (Option (List ℕ) × List Token)) → Parsed (If Bytes) n r → ((vs : List Token) → Tokens n vs → Parsed (JsonMembers n) n (json.members value m vs)) → Parsed (JsonMembers n) n (option_and_then (λ p. members_step value (json.members value m) p.0 p.1) r)
    by_key None k more = tt
    by_key (Some p) k more = by_name p.0 p.1 k.0 k.1 more

with_parsed : (n : ℕ) (a : Parse json.Items) (o : Parse json.Members) → ((ts : List Token) → Tokens n ts → Parsed (Few n n) n (a ts)) → ((ts : List Token) → Tokens n ts → Parsed (JsonMembers n) n (o ts)) → Parses n (value_with a o)
with_parsed n a o f g [] h = tt
with_parsed n a o f g (Token.begin_object ∷ ts) h = mapped (JsonMembers n) (Json n) json.object n (o ts) (λ ms k. k) (g ts (tail_of n Token.begin_object ts h))
with_parsed n a o f g (Token.end_object ∷ ts) h = tt
with_parsed n a o f g (Token.begin_array ∷ ts) h = mapped (Few n n) (Json n) json.array n (a ts) (λ js k. k) (f ts (tail_of n Token.begin_array ts h))
with_parsed n a o f g (Token.end_array ∷ ts) h = tt
with_parsed n a o f g (Token.key s ∷ ts) h = tt
with_parsed n a o f g (Token.string s ∷ ts) h = (h.all.0, tail_of n (Token.string s) ts h)
with_parsed n a o f g (Token.number s ∷ ts) h = (tt, tail_of n (Token.number s) ts h)
with_parsed n a o f g (Token.boolean b ∷ ts) h = (tt, tail_of n (Token.boolean b) ts h)
with_parsed n a o f g (Token.null ∷ ts) h = (tt, tail_of n Token.null ts h)
with_parsed n a o f g (Token.bad ∷ ts) h = tt

fewer : (n m : ℕ) (r : Option (json.Items × List Token)) → m ≤ n → Parsed (Few n m) n r → Parsed (Few n n) n r
fewer n m None l h = tt
fewer n m (Some p) l h = ((let c = h.0.0 in omega (arith, c, l), h.0.1), h.1)

value_parsed : (n depth : ℕ) → Parses n (json.value depth)
unfolding json.value
value_parsed n zero = with_parsed n (λ ts. None) (λ ts. None) (λ ts h. tt) (λ ts h. tt)
value_parsed n (suc depth) =
    with_parsed n (λ ts. json.items (json.value depth) (length ts) ts) (λ ts. json.members (json.value depth) (length ts) ts)
    (λ ts h. fewer n (length ts) (json.items (json.value depth) (length ts) ts) h.few (items_parsed n (json.value depth) (value_parsed n depth) (length ts) ts h))
    (λ ts h. members_parsed n (json.value depth) (value_parsed n depth) (length ts) ts h)

-- ---- as data

abbrev pub count_items : Items → ℕ
count_items no_items = 0
count_items (item d ds) = suc (count_items ds)

abbrev mutual
  pub Good : ℕ → Data → Type 0
  Good n null = Unit {0}
  Good n (boolean b) = Unit {0}
  Good n (number x) = Unit {0}
  Good n (string s) = Bytes s
  Good n (array ds) = (count_items ds ≤ n) × GoodItems n ds
  Good n (object ms) = GoodMembers n ms

  pub GoodItems : ℕ → Items → Type 0
  GoodItems n no_items = Unit {0}
  GoodItems n (item d ds) = Good n d × GoodItems n ds

  pub GoodMembers : ℕ → Members → Type 0
  GoodMembers n no_members = Unit {0}
  GoodMembers n (member k d ms) = Bytes k × Good n d × GoodMembers n ms

put_good : (n : ℕ) (k : List ℕ) (d : Data) (ms : Members) → Bytes k → Good n d → GoodMembers n ms → GoodMembers n (put k d ms)
put_good n k d no_members b h f = (b, h, tt)
put_good n k d (member l x ms) b h f = chosen (slice_cmp nat_cmp k l) (put_good n k d ms b h f.2)
  where
    chosen : (o : Ordering) → GoodMembers n (put k d ms) → GoodMembers n (match_ordering o (member k d (member l x ms)) (member l d ms) (member l x (put k d ms)))
    chosen Less later = (b, h, f)
    chosen Equal later = (f.0, h, f.2)
    chosen Greater later = (f.0, f.1, later)

abbrev Some_items : ℕ → ℕ → Items → Type 0
Some_items n m ds = (count_items ds ≤ m) × GoodItems n ds

as_array : (n : ℕ) (o : Option Items) → If (Some_items n n) o → If (Good n) (option_map array o)
as_array n None h = tt
as_array n (Some ds) h = h

as_object : (n : ℕ) (o : Option Members) → If (GoodMembers n) o → If (Good n) (option_map object o)
as_object n None h = tt
as_object n (Some ms) h = h

as_number : (n : ℕ) (o : Option Num) → If (Good n) (option_map number o)
as_number n None = tt
as_number n (Some x) = tt

next_item : (n m : ℕ) (o : Option Data) (r : Option Items) → If (Good n) o → If (Some_items n m) r → If (Some_items n (suc m)) (option_and_then (λ d. option_map (item d) r) o)
next_item n m None r h k = tt
next_item n m (Some d) None h k = tt
next_item n m (Some d) (Some ds) h k = (let c = k.0 in omega (arith, c), (h, k.1))

fewer_items : (n m : ℕ) (o : Option Items) → m ≤ n → If (Some_items n m) o → If (Some_items n n) o
fewer_items n m None l h = tt
fewer_items n m (Some ds) l h = (let c = h.0 in omega (arith, c, l), h.1)

mutual
  data_good : (n : ℕ) (j : json.Json) → Json n j → If (Good n) (of_json j)
  data_good n json.null h = tt
  data_good n (json.boolean b) h = tt
  data_good n (json.number s) h = as_number n (number_of s)
  data_good n (json.string s) h = h
  data_good n (json.array js) h = as_array n (of_items js) (fewer_items n (count js) (of_items js) h.0 (items_good n js h.1))
  data_good n (json.object ms) h = as_object n (of_members ms no_members) (members_good n ms no_members h tt)

  items_good : (n : ℕ) (js : json.Items) → JsonItems n js → If (Some_items n (count js)) (of_items js)
  items_good n json.no_items h = (omega arith, tt)
  items_good n (json.item j js) h = next_item n (count js) (of_json j) (of_items js) (data_good n j h.0) (items_good n js h.1)

  members_good : (n : ℕ) (ms : json.Members) (found : Members) → JsonMembers n ms → GoodMembers n found → If (GoodMembers n) (of_members ms found)
  members_good n json.no_members found h f = f
  members_good n (json.member k j ms) found h f = behind (of_json j) (data_good n j h.1) (λ d g. members_good n ms (put k d found) h.2 (put_good n k d found h.0 g f))
    where
      behind : (o : Option Data) → If (Good n) o → ((d : Data) → Good n d → If (GoodMembers n) (of_members ms (put k d found))) → If (GoodMembers n) (option_and_then (λ d. of_members ms (put k d found)) o)
      behind None g more = tt
      behind (Some d) g more = more d g

pub read_good : (text : List ℕ) → Bytes text → If (Good (length text + 1)) (read text)
read_good text h = by_value (json.value max_depth (tokens text)) (value_parsed (length text + 1) max_depth (tokens text) (text_tokens text h))
  where
    by_last : (j : json.Json) (ts : List Token) → Json (length text + 1) j → If (Good (length text + 1)) (option_and_then of_json (if_last j ts))
    by_last j [] k = data_good (length text + 1) j k
    by_last j (t ∷ ts) k = tt

    by_value : (r : Option (json.Json × List Token)) → Parsed (Json (length text + 1)) (length text + 1) r → If (Good (length text + 1)) (option_and_then of_json (option_and_then (λ p. if_last p.0 p.1) r))
    by_value None k = tt
    by_value (Some p) k = by_last p.0 p.1 k.0
