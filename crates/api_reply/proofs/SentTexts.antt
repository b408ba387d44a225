-- The text of a watch's message, piece by piece, is the text of its object in etcd's order, and so the line is read as the message.
use Rattle.std.proofs.Common.{◌≡◌, ℕ, zero, suc, ◌+◌, ◌≤◌, ◌<◌, ◌^◌, ◌==◌, Bool, true, false, List, [], ◌∷◌, ◌++◌, length, Option, Some, None, Ok, decimal, codes, refl, sym, ap, ◌∙◌, append_assoc, append-nil, arith, subst}
use Rattle.std.specs.Prelude.{IsUtf8}
use Rattle.std.specs.List.{AllByRecursion}
use Rattle.std.proofs.lemmas.Fmt.{IsAscii-decimal}
use Rattle.std.proofs.lemmas.List.{length-append}
use Rattle.std.proofs.lemmas.Str.{IsUtf8-from_ascii, IsUtf8-append}
use Rattle.base64.specs.Engines.{standard}
use Rattle.base64.specs.GeneralPurpose.{IsBytes, encode_of}
use Rattle.base64.proofs.EngineFacts.{IsAscii-encode_of}
use Rattle.json.specs.Print.{escape, escape_byte, quoted}
use Rattle.json.proofs.Printed.Utf8.{IsUtf8-are_ascii}
use Rattle.serde_json.specs.Data.{Data, string, array, object, Items, no_items, item, Members, no_members, member}
use Rattle.serde_json.specs.Written.{compact_text, items_text, members_text}
use Rattle.etcd_types.specs.Keys.{is_empty}
use Rattle.etcd_types.specs.declared.record.Header.{Header}
use Rattle.etcd_types.specs.declared.record.Kv.{Kv}
use Rattle.etcd_types.specs.declared.watch.Change.{Change}
use Rattle.etcd_types.specs.declared.watch.Change.TheVariants as change
use Rattle.etcd_types.specs.declared.watch.Event.{Event}
use Rattle.etcd_types.specs.declared.watch.WatchItem.TheVariants.{Events}
use Rattle.json_model.specs.FieldNames as names
use Rattle.json_model.specs.Fits.{IsNumber}
use Rattle.json_model.specs.FitReplies.{HeaderFits, RecordFits, PrevFits, ChangeFits, EventFits, ItemFits}
use Rattle.json_model.specs.Texts.{without_line_feed}
use Rattle.json_model.specs.WatchItems.{item_of}
use Rattle.json_model.specs.Written.{number_value, bytes_value, list_value, items_of}
use Rattle.json_model.specs.WrittenReplies.{header_written, record_written, deleted_written}
use Rattle.direct_json.proofs.Plain.{escape_decimal, escape_encoded}
use Rattle.json_laws.proofs.PlainValues.{wide}
use Rattle.api_reply.specs.SentItems.{chained, chain, in_order, record_sent, prev_sent, change_sent, event_sent, events_sent, message_sent, sent_text}
use Rattle.api_reply.specs.SentTexts.{number_then, bytes_then, header_then, record_then, deleted_then, change_then, prev_then, event_then, more_then, listed_then, is_none, events_then, message_text, HeaderSent, RecordSent, PrevSent, ChangeSent, EventSent}
use Rattle.api_reply.proofs.SentItems.{item_is}

-- ---- an object's members before what follows it

abbrev rest_of : Members → List ℕ → List ℕ
rest_of ms rest = members_text true ms ++ rest

-- what stands before a text's value, behind other members
abbrev opening : List ℕ → List ℕ
opening name = 44 ∷ (quoted name ++ 58 ∷ 34 ∷ [])

string_then : (name s t : List ℕ) (ms : Members) (rest : List ℕ) → escape s ≡ t
    → rest_of (member name (string s) ms) rest ≡ opening name ++ (t ++ 34 ∷ rest_of ms rest)
string_then name s t ms rest e =
    let so : rest_of (member name (string s) ms) rest ≡ opening name ++ (escape s ++ 34 ∷ rest_of ms rest) = simp append_assoc in
    so ∙ ap (λ (u : List ℕ). opening name ++ (u ++ 34 ∷ rest_of ms rest)) e

number_next : (name : List ℕ) (n : ℕ) (ms : Members) (rest : List ℕ) → n < 2 ^ 64
    → rest_of (chained name (number_value n) ms) rest ≡ number_then (opening name) n (rest_of ms rest)
number_next name zero ms rest h = refl
number_next name (suc n) ms rest h = string_then name (decimal (suc n)) (decimal (suc n)) ms rest (escape_decimal (suc n) h)

bytes_next : (name b : List ℕ) (ms : Members) (rest : List ℕ) → IsBytes b
    → rest_of (chained name (bytes_value b) ms) rest ≡ bytes_then (opening name) b (rest_of ms rest)
bytes_next name [] ms rest h = refl
bytes_next name (x ∷ b) ms rest h = string_then name (encode_of standard (x ∷ b)) (encode_of standard (x ∷ b)) ms rest (escape_encoded (x ∷ b) h)

-- a value behind its name
abbrev named : List ℕ → List ℕ
named name = 44 ∷ (quoted name ++ 58 ∷ [])

value_next : (name : List ℕ) (d : Data) (ms : Members) (rest : List ℕ) → rest_of (member name d ms) rest ≡ named name ++ (compact_text d ++ rest_of ms rest)
value_next name d ms rest = simp append_assoc

-- ---- a member that is the first, behind what stands before its object

abbrev first_named : List ℕ → List ℕ
first_named name = 123 ∷ (quoted name ++ 58 ∷ [])

abbrev first_opening : List ℕ → List ℕ
first_opening name = 123 ∷ (quoted name ++ 58 ∷ 34 ∷ [])

value_first : (name : List ℕ) (d : Data) (ms : Members) (rest : List ℕ)
    → compact_text (object (member name d ms)) ++ rest ≡ first_named name ++ (compact_text d ++ rest_of ms rest)
value_first name d ms rest = simp append_assoc

string_first : (prefix name s t : List ℕ) (ms : Members) (rest : List ℕ) → escape s ≡ t
    → prefix ++ (compact_text (object (member name (string s) ms)) ++ rest) ≡ (prefix ++ first_opening name) ++ (t ++ 34 ∷ rest_of ms rest)
string_first prefix name s t ms rest e =
    let so : prefix ++ (compact_text (object (member name (string s) ms)) ++ rest) ≡ (prefix ++ first_opening name) ++ (escape s ++ 34 ∷ rest_of ms rest) = simp append_assoc in
    so ∙ ap (λ (u : List ℕ). (prefix ++ first_opening name) ++ (u ++ 34 ∷ rest_of ms rest)) e

number_first : (prefix name : List ℕ) (n : ℕ) (ms : Members) (rest : List ℕ) → n < 2 ^ 64 → (n == 0) ≡ false
    → prefix ++ (compact_text (object (chained name (number_value n) ms)) ++ rest) ≡ number_then (prefix ++ first_opening name) n (rest_of ms rest)
number_first prefix name zero ms rest h some = absurd (cc)
number_first prefix name (suc n) ms rest h some = string_first prefix name (decimal (suc n)) (decimal (suc n)) ms rest (escape_decimal (suc n) h)

bytes_first : (prefix name b : List ℕ) (ms : Members) (rest : List ℕ) → IsBytes b → is_empty b ≡ false
    → prefix ++ (compact_text (object (chained name (bytes_value b) ms)) ++ rest) ≡ bytes_then (prefix ++ first_opening name) b (rest_of ms rest)
bytes_first prefix name [] ms rest h some = absurd (cc)
bytes_first prefix name (x ∷ b) ms rest h some = string_first prefix name (encode_of standard (x ∷ b)) (encode_of standard (x ∷ b)) ms rest (escape_encoded (x ∷ b) h)

-- ---- headers and records

header_text : (h : Header) (rest : List ℕ) → HeaderSent h
    → codes "{\"result\":{\"header\":" ++ (compact_text (in_order (header_written h)) ++ rest) ≡ header_then h rest
unfolding header_written escape_byte
header_text h rest s =
    let f = s.fits in
    let term : Members = chained names.raft_term.0 (number_value h.term) no_members in
    let revision : Members = chained names.revision.0 (number_value h.revision) term in
    let member_id : Members = chained names.member_id.0 (number_value h.member) revision in
    number_first (codes "{\"result\":{\"header\":") names.cluster_id.0 h.cluster member_id rest f.cluster s.cluster
    ∙ ap (number_then (codes "{\"result\":{\"header\":{\"cluster_id\":\"") h.cluster)
    (number_next names.member_id.0 h.member revision rest f.member
    ∙ ap (number_then (codes ",\"member_id\":\"") h.member)
    (number_next names.revision.0 h.revision term rest (wide h.revision f.revision)
    ∙ ap (number_then (codes ",\"revision\":\"") h.revision) (number_next names.raft_term.0 h.term no_members rest (wide h.term f.term))))

record_text : (prefix : List ℕ) (kv : Kv) (rest : List ℕ) → RecordSent kv
    → prefix ++ (compact_text (record_sent kv) ++ rest) ≡ record_then (prefix ++ codes "{\"key\":\"") kv rest
unfolding record_written escape_byte
record_text prefix kv rest s =
    let f = s.fits in
    let lease : Members = chained names.lease.0 (number_value kv.lease) no_members in
    let value : Members = chained names.value.0 (bytes_value kv.value) lease in
    let version : Members = chained names.version.0 (number_value kv.version) value in
    let modified : Members = chained names.mod_revision.0 (number_value kv.modified) version in
    let create : Members = chained names.create_revision.0 (number_value kv.create) modified in
    bytes_first prefix names.key.0 kv.key create rest f.key s.key
    ∙ ap (bytes_then (prefix ++ codes "{\"key\":\"") kv.key)
    (number_next names.create_revision.0 kv.create modified rest (wide kv.create f.create)
    ∙ ap (number_then (codes ",\"create_revision\":\"") kv.create)
    (number_next names.mod_revision.0 kv.modified version rest (wide kv.modified f.modified)
    ∙ ap (number_then (codes ",\"mod_revision\":\"") kv.modified)
    (number_next names.version.0 kv.version value rest (wide kv.version f.version)
    ∙ ap (number_then (codes ",\"version\":\"") kv.version)
    (bytes_next names.value.0 kv.value lease rest f.value
    ∙ ap (bytes_then (codes ",\"value\":\"") kv.value) (number_next names.lease.0 kv.lease no_members rest (wide kv.lease f.lease))))))

deleted_text : (key : List ℕ) (modified : ℕ) (rest : List ℕ) → IsBytes key → is_empty key ≡ false → IsNumber modified
    → codes "{\"type\":\"DELETE\",\"kv\":" ++ (compact_text (in_order (deleted_written key modified)) ++ rest) ≡ deleted_then key modified rest
unfolding deleted_written escape_byte
deleted_text key modified rest f some g =
    let later : Members = chained names.mod_revision.0 (number_value modified) no_members in
    bytes_first (codes "{\"type\":\"DELETE\",\"kv\":") names.key.0 key later rest f some
    ∙ ap (bytes_then (codes "{\"type\":\"DELETE\",\"kv\":{\"key\":\"") key) (number_next names.mod_revision.0 modified no_members rest (wide modified g))

-- ---- events

abbrev prev_member : Option Kv → Members
prev_member prev = chained names.prev_kv.0 (prev_sent prev) no_members

prev_text : (prev : Option Kv) (rest : List ℕ) → PrevSent prev → rest_of (prev_member prev) rest ≡ prev_then prev (125 ∷ rest)
unfolding escape_byte
prev_text None rest s = refl
prev_text (Some kv) rest s = value_next names.prev_kv.0 (record_sent kv) no_members rest ∙ record_text (codes ",\"prev_kv\":") kv (125 ∷ rest) s

change_text : (c : Change) (prev : Option Kv) (rest : List ℕ) → ChangeSent c → PrevSent prev
    → compact_text (in_order (change_sent c prev)) ++ rest ≡ change_then c (prev_then prev (125 ∷ rest))
unfolding escape_byte
change_text (change.Put kv) prev rest s p =
    value_first names.kv.0 (record_sent kv) (prev_member prev) rest
    ∙ record_text (codes "{\"kv\":") kv (rest_of (prev_member prev) rest) s
    ∙ ap (record_then (codes "{\"kv\":{\"key\":\"") kv) (prev_text prev rest p)
change_text (change.Delete key modified) prev rest s p =
    let deleted : Data = in_order (deleted_written key modified) in
    value_first names.kind.0 (string (codes "DELETE")) (member names.kv.0 deleted (prev_member prev)) rest
    ∙ ap (λ (t : List ℕ). codes "{\"type\":\"DELETE\"" ++ t) (value_next names.kv.0 deleted (prev_member prev) rest)
    ∙ deleted_text key modified (rest_of (prev_member prev) rest) s.0.0 s.1 s.0.1
    ∙ ap (deleted_then key modified) (prev_text prev rest p)

event_text : (e : Event) (rest : List ℕ) → EventSent e → compact_text (event_sent e) ++ rest ≡ event_then e rest
event_text e rest s = change_text e.change e.prev rest s.change s.prev

-- one more event, and what follows it
event_before : (e : Event) (text rest : List ℕ) → EventSent e → (compact_text (event_sent e) ++ text) ++ rest ≡ event_then e (text ++ rest)
event_before e text rest s = append_assoc (compact_text (event_sent e)) text rest ∙ event_text e (text ++ rest) s

more_text : (es : List Event) (rest : List ℕ) → AllByRecursion EventSent es → items_text true (items_of event_sent es) ++ rest ≡ more_then es (93 ∷ rest)
more_text [] rest s = refl
more_text (e ∷ es) rest s =
    ap (λ (t : List ℕ). 44 ∷ t) (event_before e (items_text true (items_of event_sent es)) rest s.0 ∙ ap (event_then e) (more_text es rest s.1))

events_text : (es : List Event) (rest : List ℕ) → AllByRecursion EventSent es
    → rest_of (chained names.events.0 (list_value (items_of event_sent es)) no_members) rest ≡ events_then es (125 ∷ rest)
unfolding escape_byte
events_text [] rest s = refl
events_text (e ∷ es) rest s =
    value_next names.events.0 (array (items_of event_sent (e ∷ es))) no_members rest
    ∙ ap (λ (t : List ℕ). codes ",\"events\":[" ++ t)
    (event_before e (items_text true (items_of event_sent es)) (125 ∷ rest) s.0 ∙ ap (event_then e) (more_text es (125 ∷ rest) s.1))

-- ---- messages

text_is : (h : Header) (es : List Event) → HeaderSent h → AllByRecursion EventSent es → sent_text h es ≡ message_text h es
unfolding escape_byte
text_is h es s all =
    let header : Data = in_order (header_written h) in
    let later : Members = chained names.events.0 (list_value (items_of event_sent es)) no_members in
    sym (append-nil (sent_text h es))
    ∙ value_first names.result.0 (object (member names.header.0 header later)) no_members []
    ∙ ap (λ (t : List ℕ). codes "{\"result\":" ++ t) (value_first names.header.0 header later (125 ∷ []))
    ∙ header_text h (rest_of later (125 ∷ [])) s
    ∙ ap (header_then h) (events_text es (125 ∷ []) all)

-- ---- the text is UTF-8

quoted_utf8 : (rest : List ℕ) → IsUtf8 rest → IsUtf8 (34 ∷ rest)
quoted_utf8 rest r = IsUtf8-append (34 ∷ []) rest (IsUtf8-are_ascii (34 ∷ []) refl) r

ended_utf8 : (rest : List ℕ) → IsUtf8 rest → IsUtf8 (125 ∷ rest)
ended_utf8 rest r = IsUtf8-append (125 ∷ []) rest (IsUtf8-are_ascii (125 ∷ []) refl) r

number_utf8 : (o : List ℕ) (n : ℕ) (rest : List ℕ) → IsUtf8 o → n < 2 ^ 64 → IsUtf8 rest → IsUtf8 (number_then o n rest)
number_utf8 o zero rest p h r = r
number_utf8 o (suc n) rest p h r = IsUtf8-append o _ p (IsUtf8-append (decimal (suc n)) (34 ∷ rest) (IsUtf8-from_ascii (decimal (suc n)) (IsAscii-decimal (suc n) h)) (quoted_utf8 rest r))

bytes_utf8 : (o b rest : List ℕ) → IsUtf8 o → IsUtf8 rest → IsUtf8 (bytes_then o b rest)
bytes_utf8 o [] rest p r = r
bytes_utf8 o (x ∷ b) rest p r =
    IsUtf8-append o _ p (IsUtf8-append (encode_of standard (x ∷ b)) (34 ∷ rest) (IsUtf8-from_ascii (encode_of standard (x ∷ b)) (IsAscii-encode_of standard (x ∷ b))) (quoted_utf8 rest r))

header_utf8 : (h : Header) (rest : List ℕ) → HeaderFits h → IsUtf8 rest → IsUtf8 (header_then h rest)
header_utf8 h rest f r =
    number_utf8 (codes "{\"result\":{\"header\":{\"cluster_id\":\"") h.cluster _ (IsUtf8-are_ascii _ refl) f.cluster
    (number_utf8 (codes ",\"member_id\":\"") h.member _ (IsUtf8-are_ascii _ refl) f.member
    (number_utf8 (codes ",\"revision\":\"") h.revision _ (IsUtf8-are_ascii _ refl) (wide h.revision f.revision)
    (number_utf8 (codes ",\"raft_term\":\"") h.term _ (IsUtf8-are_ascii _ refl) (wide h.term f.term) (ended_utf8 rest r))))

record_utf8 : (o : List ℕ) (kv : Kv) (rest : List ℕ) → IsUtf8 o → RecordFits kv → IsUtf8 rest → IsUtf8 (record_then o kv rest)
record_utf8 o kv rest p f r =
    bytes_utf8 o kv.key _ p
    (number_utf8 (codes ",\"create_revision\":\"") kv.create _ (IsUtf8-are_ascii _ refl) (wide kv.create f.create)
    (number_utf8 (codes ",\"mod_revision\":\"") kv.modified _ (IsUtf8-are_ascii _ refl) (wide kv.modified f.modified)
    (number_utf8 (codes ",\"version\":\"") kv.version _ (IsUtf8-are_ascii _ refl) (wide kv.version f.version)
    (bytes_utf8 (codes ",\"value\":\"") kv.value _ (IsUtf8-are_ascii _ refl)
    (number_utf8 (codes ",\"lease\":\"") kv.lease _ (IsUtf8-are_ascii _ refl) (wide kv.lease f.lease) (ended_utf8 rest r))))))

change_utf8 : (c : Change) (rest : List ℕ) → ChangeSent c → IsUtf8 rest → IsUtf8 (change_then c rest)
change_utf8 (change.Put kv) rest s r = record_utf8 (codes "{\"kv\":{\"key\":\"") kv rest (IsUtf8-are_ascii _ refl) s.fits r
change_utf8 (change.Delete key modified) rest s r =
    bytes_utf8 (codes "{\"type\":\"DELETE\",\"kv\":{\"key\":\"") key _ (IsUtf8-are_ascii _ refl)
    (number_utf8 (codes ",\"mod_revision\":\"") modified _ (IsUtf8-are_ascii _ refl) (wide modified s.0.1) (ended_utf8 rest r))

prev_utf8 : (prev : Option Kv) (rest : List ℕ) → PrevSent prev → IsUtf8 rest → IsUtf8 (prev_then prev rest)
prev_utf8 None rest s r = r
prev_utf8 (Some kv) rest s r = record_utf8 (codes ",\"prev_kv\":{\"key\":\"") kv rest (IsUtf8-are_ascii _ refl) s.fits r

event_utf8 : (e : Event) (rest : List ℕ) → EventSent e → IsUtf8 rest → IsUtf8 (event_then e rest)
event_utf8 e rest s r = change_utf8 e.change (prev_then e.prev (125 ∷ rest)) s.change (prev_utf8 e.prev (125 ∷ rest) s.prev (ended_utf8 rest r))

more_utf8 : (es : List Event) (rest : List ℕ) → AllByRecursion EventSent es → IsUtf8 rest → IsUtf8 (more_then es rest)
more_utf8 [] rest s r = r
more_utf8 (e ∷ es) rest s r =
    IsUtf8-append (44 ∷ []) _ (IsUtf8-are_ascii (44 ∷ []) refl) (event_utf8 e (more_then es rest) s.0 (more_utf8 es rest s.1 r))

events_utf8 : (es : List Event) → AllByRecursion EventSent es → IsUtf8 (events_then es (codes "}}"))
events_utf8 [] s = IsUtf8-are_ascii (codes "}}") refl
events_utf8 (e ∷ es) s =
    IsUtf8-append (codes ",\"events\":[") _ (IsUtf8-are_ascii _ refl)
    (event_utf8 e (more_then es (codes "]}}")) s.0 (more_utf8 es (codes "]}}") s.1 (IsUtf8-are_ascii (codes "]}}") refl)))

message_utf8 : (h : Header) (es : List Event) → HeaderSent h → AllByRecursion EventSent es → IsUtf8 (message_text h es)
message_utf8 h es s all = header_utf8 h (events_then es (codes "}}")) s.fits (events_utf8 es all)

-- ---- what fits

prev_fits : (prev : Option Kv) → PrevSent prev → PrevFits prev
prev_fits None s = tt
prev_fits (Some kv) s = s.fits

change_fits : (c : Change) → ChangeSent c → ChangeFits c
change_fits (change.Put kv) s = s.fits
change_fits (change.Delete key modified) s = s.0

events_fit : (es : List Event) → AllByRecursion EventSent es → AllByRecursion EventFits es
events_fit [] s = tt
events_fit (e ∷ es) s = (record { change = change_fits e.change s.0.change; prev = prev_fits e.prev s.0.prev }, events_fit es s.1)

pub text_item : (h : Header) (es : List Event) (line : List ℕ) → without_line_feed line ≡ message_text h es → HeaderSent h → AllByRecursion EventSent es → item_of line ≡ Ok (Events h es)
text_item h es line e s all =
    let same = text_is h es s all in
    item_is h es line (e ∙ sym same) (s.fits, events_fit es all) (subst IsUtf8 (sym same) (message_utf8 h es s all))

-- ---- the steps of a reader

pub number_read : (text o behind : List ℕ) (n : ℕ) (rest : List ℕ) → text ≡ o ++ behind → behind ≡ decimal n ++ 34 ∷ rest → (n == 0) ≡ false → text ≡ number_then o n rest
number_read text o behind zero rest e f some = absurd (cc)
number_read text o behind (suc n) rest e f some = e ∙ ap (λ (t : List ℕ). o ++ t) f

pub bytes_read : (text o behind b rest : List ℕ) → text ≡ o ++ behind → behind ≡ encode_of standard b ++ 34 ∷ rest → is_empty b ≡ false → text ≡ bytes_then o b rest
bytes_read text o behind [] rest e f some = absurd (cc)
bytes_read text o behind (x ∷ b) rest e f some = e ∙ ap (λ (t : List ℕ). o ++ t) f

-- ---- one event after another

more_one : (es : List Event) (e : Event) (rest : List ℕ) → more_then (es ++ e ∷ []) rest ≡ more_then es (44 ∷ event_then e rest)
more_one [] e rest = refl
more_one (x ∷ es) e rest = ap (λ (t : List ℕ). 44 ∷ event_then x t) (more_one es e rest)

listed_one : (es : List Event) (e : Event) (rest : List ℕ) → is_none es ≡ false → listed_then (es ++ e ∷ []) rest ≡ listed_then es (44 ∷ event_then e rest)
listed_one [] e rest some = absurd (cc)
listed_one (x ∷ es) e rest some = ap (event_then x) (more_one es e rest)

pub listed_next : (text : List ℕ) (es new : List Event) (rest next : List ℕ) (e : Event) (behind : List ℕ) → text ≡ listed_then es rest → is_none es ≡ false
    → rest ≡ 44 ∷ next → next ≡ event_then e behind → new ≡ es ++ e ∷ [] → text ≡ listed_then new behind
listed_next text es new rest next e behind so_far some comma one added =
    so_far ∙ ap (listed_then es) (comma ∙ ap (λ (t : List ℕ). 44 ∷ t) one) ∙ sym (listed_one es e behind some) ∙ ap (λ (l : List Event). listed_then l behind) (sym added)

all_one : (es : List Event) (e : Event) → AllByRecursion EventSent es → EventSent e → AllByRecursion EventSent (es ++ e ∷ [])
all_one [] e s one = (one, tt)
all_one (x ∷ es) e s one = (s.0, all_one es e s.1 one)

pub all_next : (es new : List Event) (e : Event) → AllByRecursion EventSent es → EventSent e → new ≡ es ++ e ∷ [] → AllByRecursion EventSent new
all_next es new e s one added = subst (AllByRecursion EventSent) (sym added) (all_one es e s one)

some_one : (es : List Event) (e : Event) → is_none (es ++ e ∷ []) ≡ false
some_one [] e = refl
some_one (x ∷ es) e = refl

pub some_next : (es new : List Event) (e : Event) → new ≡ es ++ e ∷ [] → is_none new ≡ false
some_next es new e added = ap is_none added ∙ some_one es e

-- the brackets round the events
pub events_read : (text behind : List ℕ) (es : List Event) (later rest : List ℕ) → text ≡ codes ",\"events\":[" ++ behind → behind ≡ listed_then es later → later ≡ 93 ∷ rest → is_none es ≡ false
    → text ≡ events_then es rest
events_read text behind [] later rest front list end some = absurd (cc)
events_read text behind (e ∷ es) later rest front list end some =
    front ∙ ap (λ (t : List ℕ). codes ",\"events\":[" ++ t) (list ∙ ap (listed_then (e ∷ es)) end)

-- ---- what is left of a text is no longer than it

behind : (a rest : List ℕ) → length rest ≤ length (a ++ rest)
behind a rest = let l = length-append a rest in omega (arith, l)

number_longer : (o : List ℕ) (n : ℕ) (rest : List ℕ) → length rest ≤ length (number_then o n rest)
number_longer o zero rest = omega arith
number_longer o (suc n) rest =
    let one = behind o (decimal (suc n) ++ 34 ∷ rest) in
    let two = behind (decimal (suc n)) (34 ∷ rest) in
    omega (arith, one, two)

bytes_longer : (o b rest : List ℕ) → length rest ≤ length (bytes_then o b rest)
bytes_longer o [] rest = omega arith
bytes_longer o (x ∷ b) rest =
    let one = behind o (encode_of standard (x ∷ b) ++ 34 ∷ rest) in
    let two = behind (encode_of standard (x ∷ b)) (34 ∷ rest) in
    omega (arith, one, two)

record_longer : (o : List ℕ) (kv : Kv) (rest : List ℕ) → length rest ≤ length (record_then o kv rest)
record_longer o kv rest =
    let five = number_then (codes ",\"lease\":\"") kv.lease (125 ∷ rest) in
    let four = bytes_then (codes ",\"value\":\"") kv.value five in
    let three = number_then (codes ",\"version\":\"") kv.version four in
    let two = number_then (codes ",\"mod_revision\":\"") kv.modified three in
    let one = number_then (codes ",\"create_revision\":\"") kv.create two in
    omega (
      arith,
      number_longer (codes ",\"lease\":\"") kv.lease (125 ∷ rest),
      bytes_longer (codes ",\"value\":\"") kv.value five,
      number_longer (codes ",\"version\":\"") kv.version four,
      number_longer (codes ",\"mod_revision\":\"") kv.modified three,
      number_longer (codes ",\"create_revision\":\"") kv.create two,
      bytes_longer o kv.key one,
    )

change_longer : (c : Change) (rest : List ℕ) → length rest ≤ length (change_then c rest)
change_longer (change.Put kv) rest = record_longer (codes "{\"kv\":{\"key\":\"") kv rest
change_longer (change.Delete key modified) rest =
    let one = number_then (codes ",\"mod_revision\":\"") modified (125 ∷ rest) in
    omega (arith, number_longer (codes ",\"mod_revision\":\"") modified (125 ∷ rest), bytes_longer (codes "{\"type\":\"DELETE\",\"kv\":{\"key\":\"") key one)

prev_longer : (prev : Option Kv) (rest : List ℕ) → length rest ≤ length (prev_then prev rest)
prev_longer None rest = omega arith
prev_longer (Some kv) rest = record_longer (codes ",\"prev_kv\":{\"key\":\"") kv rest

event_longer : (e : Event) (rest : List ℕ) → length rest ≤ length (event_then e rest)
event_longer e rest =
    omega (arith, change_longer e.change (prev_then e.prev (125 ∷ rest)), prev_longer e.prev (125 ∷ rest))

pub shorter : (rest next : List ℕ) (e : Event) (behind : List ℕ) → rest ≡ 44 ∷ next → next ≡ event_then e behind → length behind < length rest
shorter rest next e behind comma one =
    let whole = ap length comma in
    let tail = ap length one in
    let longer = event_longer e behind in
    omega (arith, whole, tail, longer)
