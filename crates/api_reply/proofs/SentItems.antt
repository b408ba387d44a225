-- A watch's message as etcd's gateway writes it is read as the message: its objects' members go in one after another, in whatever order.
use Rattle.std.proofs.Common.{◌≡◌, ℕ, zero, suc, ◌≤◌, ◌+◌, max, List, [], ◌∷◌, ◌++◌, Bool, true, false, Option, Some, None, Ok, option_map, option_and_then, refl, sym, ap, ◌∙◌, lit≤, append-nil, arith}
use Rattle.std.specs.Prelude.{IsUtf8, ⊤, codes}
use Rattle.std.specs.List.{AllByRecursion}
use Rattle.json.specs.Token.{Token}
use Rattle.json.specs.Lex.{tokens}
use Rattle.json.specs.Print.{print}
use Rattle.json.specs.Json as json
use Rattle.json.specs.Tree as tree
use Rattle.json.proofs.Printed.Trees.{document-print, value-json_tokens}
use Rattle.json.proofs.Unique.Spelling.{tokens-document}
use Rattle.serde_json.specs.Data.{Data, boolean, string, array, object, Items, no_items, item, Members, no_members, member, put}
use Rattle.serde_json.specs.Find.{as_object}
use Rattle.serde_json.specs.Read.{read, max_depth, of_json, of_items, of_members}
use Rattle.serde_json.specs.Written.{outline, items_outline, members_outline, compact_text}
use Rattle.serde_json.proofs.Texts.{print-outline}
use Rattle.etcd_types.specs.declared.record.Header.{Header}
use Rattle.etcd_types.specs.declared.record.Kv.{Kv}
use Rattle.etcd_types.specs.declared.watch.Change.{Change}
use Rattle.etcd_types.specs.declared.watch.Change.TheVariants as change
use Rattle.etcd_types.specs.declared.watch.Event.{Event}
use Rattle.etcd_types.specs.declared.watch.WatchItem.TheVariants.{Events}
use Rattle.json_model.specs.FieldNames as names
use Rattle.json_model.specs.FitReplies.{ItemFits}
use Rattle.json_model.specs.Texts.{object_of, without_line_feed}
use Rattle.json_model.specs.WatchItems.{item_of}
use Rattle.json_model.specs.Written.{Field, field, number_value, bytes_value, list_value, items_of, with_fields, members_of}
use Rattle.json_model.specs.Written as written
use Rattle.json_model.specs.WrittenReplies.{header_written, record_written, deleted_written, put_event_written, delete_event_written, event_written, event_value, events_written, record_value, prev_value}
use Rattle.json_model.proofs.TextLemmas.{json_is}
use Rattle.json_laws.proofs.ItemsBack.{message_back}
use Rattle.api_reply.specs.SentItems.{chain, in_order, record_sent, prev_sent, change_sent, event_sent, events_sent, message_sent, sent_text}

-- ---- a value as it is sent, and as it is kept

record Sent (n : ℕ) (raw kept : Data) : Type 0 where
  pub reads : of_json (outline raw) ≡ Some kept
  pub numbers : tree.HasNumbers (outline raw)
  pub deep : tree.depth (outline raw) ≤ n

abbrev IsFieldSent : ℕ → Option Data → Option Data → Type 0
IsFieldSent n None None = ⊤
IsFieldSent n (Some raw) (Some kept) = Sent n raw kept
IsFieldSent n _ _ = ⊥

abbrev AreSent : ℕ → List Field → List Field → Type 0
AreSent n [] [] = ⊤
AreSent n (r ∷ rs) (k ∷ ks) = (r.0 ≡ k.0) × IsFieldSent n r.1 k.1 × AreSent n rs ks
AreSent n _ _ = ⊥

members_read : (n : ℕ) (rs ks : List Field) (found : Members) → AreSent n rs ks → of_members (members_outline (chain rs)) found ≡ Some (with_fields found ks)
members_read n [] [] found s = refl
members_read n [] (k ∷ ks) found s = absurd s
members_read n (r ∷ rs) [] found s = absurd s
members_read n ((a, None) ∷ rs) ((b, None) ∷ ks) found s = members_read n rs ks found s.2
members_read n ((a, None) ∷ rs) ((b, Some k) ∷ ks) found s = absurd s.1
members_read n ((a, Some r) ∷ rs) ((b, None) ∷ ks) found s = absurd s.1
members_read n ((a, Some r) ∷ rs) ((b, Some k) ∷ ks) found s =
    ap (option_and_then (λ (d : Data). of_members (members_outline (chain rs)) (put a d found))) s.1.reads
    ∙ members_read n rs ks (put a k found) s.2
    ∙ ap (λ (name : List ℕ). Some (with_fields (put name k found) ks)) s.0

members_numbers : (n : ℕ) (rs ks : List Field) → AreSent n rs ks → tree.MembersHaveNumbers (members_outline (chain rs))
members_numbers n [] [] s = tt
members_numbers n [] (k ∷ ks) s = absurd s
members_numbers n (r ∷ rs) [] s = absurd s
members_numbers n ((a, None) ∷ rs) ((b, None) ∷ ks) s = members_numbers n rs ks s.2
members_numbers n ((a, None) ∷ rs) ((b, Some k) ∷ ks) s = absurd s.1
members_numbers n ((a, Some r) ∷ rs) ((b, None) ∷ ks) s = absurd s.1
members_numbers n ((a, Some r) ∷ rs) ((b, Some k) ∷ ks) s = (s.1.numbers, members_numbers n rs ks s.2)

members_deep : (n : ℕ) (rs ks : List Field) → AreSent n rs ks → tree.members_depth (members_outline (chain rs)) ≤ n
members_deep n [] [] s = omega arith
members_deep n [] (k ∷ ks) s = absurd s
members_deep n (r ∷ rs) [] s = absurd s
members_deep n ((a, None) ∷ rs) ((b, None) ∷ ks) s = members_deep n rs ks s.2
members_deep n ((a, None) ∷ rs) ((b, Some k) ∷ ks) s = absurd s.1
members_deep n ((a, Some r) ∷ rs) ((b, None) ∷ ks) s = absurd s.1
members_deep n ((a, Some r) ∷ rs) ((b, Some k) ∷ ks) s =
    let one = s.1.deep in
    let rest = members_deep n rs ks s.2 in
    omega (arith, one, rest)

object_sent : (n : ℕ) (rs ks : List Field) → AreSent n rs ks → Sent (suc n) (in_order rs) (written.object_of ks)
object_sent n rs ks s = record {
  reads = ap (option_map object) (members_read n rs ks no_members s);
  numbers = members_numbers n rs ks s;
  deep = let inner = members_deep n rs ks s in omega (arith, inner);
}

deeper : (n m : ℕ) (raw kept : Data) → n ≤ m → Sent n raw kept → Sent m raw kept
deeper n m raw kept le s = record { reads = s.reads; numbers = s.numbers; deep = let d = s.deep in omega (arith, d, le) }

-- ---- texts are kept as they are sent

string_sent : (n : ℕ) (s : List ℕ) → Sent n (string s) (string s)
string_sent n s = record { reads = refl; numbers = tt; deep = omega arith }

number_sent : (n m : ℕ) → IsFieldSent n (number_value m) (number_value m)
number_sent n zero = tt
number_sent n (suc m) = string_sent n _

bytes_sent : (n : ℕ) (b : List ℕ) → IsFieldSent n (bytes_value b) (bytes_value b)
bytes_sent n [] = tt
bytes_sent n (x ∷ b) = string_sent n _

-- ---- records and events

header_is_sent : (n : ℕ) (h : Header) → Sent (suc n) (in_order (header_written h)) (written.object_of (header_written h))
unfolding header_written
header_is_sent n h = object_sent n (header_written h) (header_written h)
    (refl, number_sent n h.cluster, (refl, number_sent n h.member, (refl, number_sent n h.revision, (refl, number_sent n h.term, tt))))

record_is_sent : (n : ℕ) (kv : Kv) → Sent (suc n) (record_sent kv) (record_value kv)
unfolding record_written
record_is_sent n kv = object_sent n (record_written kv) (record_written kv)
    (refl, bytes_sent n kv.key, (refl, number_sent n kv.create, (refl, number_sent n kv.modified, (refl, number_sent n kv.version, (refl, bytes_sent n kv.value, (refl, number_sent n kv.lease, tt))))))

deleted_is_sent : (n : ℕ) (key : List ℕ) (modified : ℕ) → Sent (suc n) (in_order (deleted_written key modified)) (written.object_of (deleted_written key modified))
unfolding deleted_written
deleted_is_sent n key modified = object_sent n (deleted_written key modified) (deleted_written key modified) (refl, bytes_sent n key, (refl, number_sent n modified, tt))

prev_is_sent : (n : ℕ) (o : Option Kv) → IsFieldSent (suc n) (prev_sent o) (prev_value o)
prev_is_sent n None = tt
prev_is_sent n (Some kv) = record_is_sent n kv

change_is_sent : (n : ℕ) (c : Change) (prev : Option Kv) → AreSent (suc n) (change_sent c prev) (event_written c prev)
unfolding put_event_written delete_event_written
change_is_sent n (change.Put kv) prev = (refl, record_is_sent n kv, (refl, prev_is_sent n prev, tt))
change_is_sent n (change.Delete key modified) prev =
    (refl, string_sent (suc n) (codes "DELETE"), (refl, deleted_is_sent n key modified, (refl, prev_is_sent n prev, tt)))

event_is_sent : (n : ℕ) (e : Event) → Sent (suc (suc n)) (event_sent e) (event_value e)
event_is_sent n e = object_sent (suc n) (change_sent e.change e.prev) (event_written e.change e.prev) (change_is_sent n e.change e.prev)

-- ---- lists

items_read : (n : ℕ) (es : List Event) → of_items (items_outline (items_of event_sent es)) ≡ Some (items_of event_value es)
items_read n [] = refl
items_read n (e ∷ es) =
    ap (option_and_then (λ (d : Data). option_map (item d) (of_items (items_outline (items_of event_sent es))))) (event_is_sent n e).reads
    ∙ ap (option_map (item (event_value e))) (items_read n es)

items_numbers : (n : ℕ) (es : List Event) → tree.ItemsHaveNumbers (items_outline (items_of event_sent es))
items_numbers n [] = tt
items_numbers n (e ∷ es) = ((event_is_sent n e).numbers, items_numbers n es)

items_deep : (n : ℕ) (es : List Event) → tree.items_depth (items_outline (items_of event_sent es)) ≤ suc (suc n)
items_deep n [] = omega arith
items_deep n (e ∷ es) =
    let one = (event_is_sent n e).deep in
    let rest = items_deep n es in
    omega (arith, one, rest)

list_is_sent : (n : ℕ) (es : List Event) → IsFieldSent (suc (suc (suc n))) (list_value (items_of event_sent es)) (list_value (items_of event_value es))
list_is_sent n [] = tt
list_is_sent n (e ∷ es) = record {
  reads = ap (option_map array) (items_read n (e ∷ es));
  numbers = items_numbers n (e ∷ es);
  deep = let inner = items_deep n (e ∷ es) in omega (arith, inner);
}

-- ---- messages

events_are_sent : (h : Header) (es : List Event) → AreSent 3 (events_sent h es) (events_written h es)
unfolding events_written
events_are_sent h es = (refl, header_is_sent 2 h, (refl, list_is_sent 0 es, tt))

abbrev kept : Header → List Event → Data
kept h es = written.object_of (field names.result (Some (written.object_of (events_written h es))) ∷ [])

message_is_sent : (h : Header) (es : List Event) → Sent 5 (message_sent h es) (kept h es)
message_is_sent h es =
    object_sent 4 (field names.result (Some (in_order (events_sent h es))) ∷ []) (field names.result (Some (written.object_of (events_written h es))) ∷ [])
    (refl, object_sent 3 (events_sent h es) (events_written h es) (events_are_sent h es), tt)

abbrev whole : Option (json.Json × List Token) → Option Data
whole r = option_and_then of_json (option_and_then (λ p. json.if_last p.0 p.1) r)

-- the text of any value that is sent is read as the value that is kept
text_read : (raw k : Data) → Sent 5 raw k → read (compact_text raw) ≡ Some k
text_read raw k s =
    let j : json.Json = outline raw in
    let deep = s.deep in
    let shallow : tree.depth j ≤ max_depth = omega (arith, deep) in
    let printed : tree.depth j ≤ json.max_depth = omega (arith, deep) in
    let same = ap tokens (sym (print-outline raw)) ∙ tokens-document (print (tree.json_tokens j)) j (document-print j s.numbers printed) in
    ap (λ ts. whole (json.value max_depth ts)) (same ∙ sym (append-nil (tree.json_tokens j))) ∙ ap whole (value-json_tokens j max_depth [] shallow) ∙ s.reads

object_is : (h : Header) (es : List Event) → IsUtf8 (sent_text h es)
    → object_of (sent_text h es) ≡ Some (members_of (field names.result (Some (written.object_of (events_written h es))) ∷ []))
unfolding object_of
object_is h es utf8 = ap (option_and_then as_object) (json_is (sent_text h es) (kept h es) utf8 (text_read (message_sent h es) (kept h es) (message_is_sent h es)))

-- a line that is the text of a message, with or without its line feed, is read as the message
pub item_is : (h : Header) (es : List Event) (line : List ℕ) → without_line_feed line ≡ sent_text h es → ItemFits (Events h es) → IsUtf8 (sent_text h es) → item_of line ≡ Ok (Events h es)
unfolding item_of
item_is h es line e fits utf8 = rw (ap object_of e ∙ object_is h es utf8, message_back (Events h es) fits) refl
