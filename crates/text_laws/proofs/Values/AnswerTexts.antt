-- Answers and messages whose parts fit have a text.
use Rattle.std.proofs.Common.{◌≡◌, ℕ, zero, suc, ◌-◌, ◌^◌, ◌<◌, ◌≤◌, Bool, true, false, ◌&&◌, ℤ, List, length, Option, None, Some, refl, sym, ap, subst, ◌∙◌, arith}
use Rattle.std.specs.Prelude.{nat_le, codes}
use Rattle.std.specs.List.{list_all}
use Rattle.std.proofs.lemmas.Bool.{le-leb}
use Rattle.etcd_types.proofs.Bools.{and_both}
use Rattle.text_model.specs.Forms.{Form, never, allowed, after, listed}
use Rattle.text_model.specs.Words.{max_number, is_within, number, bytes}
use Rattle.etcd_types.specs.declared.record.Header.{Header}
use Rattle.etcd_types.specs.declared.record.Kv.{Kv}
use Rattle.etcd_types.specs.declared.answer.Body.{Body, Row_of-Body, end_of-Body, more_of-Body, out-Body, items-the_row-Body, items_shown-the_row-Body-0}
use Rattle.etcd_types.specs.declared.answer.Body.TheVariants as body
use Rattle.etcd_types.specs.declared.answer.Body.TheVariants.{outs-Range, outs-Put, outs-Delete, outs-Txn', outs-Compact, outs-Grant, outs-Revoke, outs-KeepAlive, outs-TimeToLive, outs-Leases}
use Rattle.etcd_types.specs.declared.answer.Body.TheOpen as layer
use Rattle.etcd_types.specs.declared.answer.Answer.{Answer}
use Rattle.etcd_types.specs.declared.answer.Answer.TheVariants.{Done, Refused}
use Rattle.etcd_types.specs.declared.watch.Change.{Change}
use Rattle.etcd_types.specs.declared.watch.Change.TheVariants as change
use Rattle.etcd_types.specs.declared.watch.Event.{Event}
use Rattle.etcd_types.specs.declared.watch.WatchItem.{WatchItem}
use Rattle.etcd_types.specs.declared.watch.WatchItem.TheVariants as item
use Rattle.message_text.specs.Answers.{header_numbers, header, kv, prev, is_ttl, ttl, range_body, delete_body, timetolive_body, leases_body, txn_body, body_words_form, layer_from, one_body, body_form, refusal_words, answer}
use Rattle.message_text.specs.Answers as answers
use Rattle.message_text.specs.WatchItems.{change as a_change, event, watch_item}
use Rattle.text_laws.specs.Values.Fits.{AllOf, Bytes, Number, Few, HeaderFits, KvFits, PrevFits, KvsFit, BodyFits, RowFits, row_length, AnswerFits, ChangeFits, EventFits, MessageFits}
use Rattle.text_laws.proofs.Values.Alls.{is_number, are_bytes_so, all_tests}

-- ---- words

pub bytes_fit : (bs : List ℕ) → Bytes bs → bytes.fits bs ≡ true
unfolding bytes
bytes_fit bs h = are_bytes_so bs h

pub least : (most n : ℕ) → most ≤ max_number → n ≤ most → Number n
least most n m h = omega (arith, m, h)

pub header_fits : (most : ℕ) (h : Header) → most ≤ max_number → HeaderFits most h → header.fits h ≡ true
unfolding header header_numbers
header_fits most h m f =
    and_both (is_within 0 max_number h.cluster) _ (is_number h.cluster f.cluster)
    (and_both (is_within 0 max_number h.member) _ (is_number h.member f.member)
    (and_both (is_within 0 max_number h.revision) (is_within 0 max_number h.term) (is_number h.revision (least most h.revision m f.revision)) (is_number h.term f.term)))

pub kv_fits : (most : ℕ) → most ≤ max_number → (k : Kv) → KvFits most k → kv.fits k ≡ true
unfolding kv
kv_fits most m k f =
    and_both (bytes.fits k.key) _ (bytes_fit k.key f.key)
    (and_both (bytes.fits k.value) _ (bytes_fit k.value f.value)
    (and_both (is_within 0 max_number k.create) _ (is_number k.create (least most k.create m f.create))
    (and_both (is_within 0 max_number k.modified) _ (is_number k.modified (least most k.modified m f.modified))
    (and_both (is_within 0 max_number k.version) (is_within 0 max_number k.lease) (is_number k.version (least most k.version m f.version)) (is_number k.lease f.lease)))))

pub prev_fits : (most : ℕ) → most ≤ max_number → (o : Option Kv) → PrevFits most o → prev.fits o ≡ true
unfolding prev
prev_fits most m None f = refl
prev_fits most m (Some k) f = kv_fits most m k f

kvs_fit : (most : ℕ) → most ≤ max_number → (ks : List Kv) → KvsFit most ks → (listed number kv).fits ks ≡ true
kvs_fit most m ks f = and_both (is_within 0 max_number (length ks)) (list_all kv.fits ks) (is_number (length ks) (least most (length ks) m f.few)) (all_tests (KvFits most) kv.fits (kv_fits most m) ks f.all)

-- ---- bodies

range_fits : (most : ℕ) → most ≤ max_number → (count : ℕ) (more : Bool) (ks : List Kv) → Number count → KvsFit most ks → range_body.fits (count, (more, ks)) ≡ true
unfolding range_body
range_fits most m count more ks n f = and_both (is_within 0 max_number count) ((listed number kv).fits ks) (is_number count n) (kvs_fit most m ks f)

delete_fits : (most : ℕ) → most ≤ max_number → (count : ℕ) (ks : List Kv) → Number count → KvsFit most ks → delete_body.fits (count, ks) ≡ true
unfolding delete_body
delete_fits most m count ks n f = and_both (is_within 0 max_number count) ((listed number kv).fits ks) (is_number count n) (kvs_fit most m ks f)

ttl_fits : (left : ℤ) → is_ttl left ≡ true → ttl.fits left ≡ true
unfolding ttl
ttl_fits left h = h

timetolive_fits : (lease : ℕ) (left : ℤ) (granted : ℕ) (keys : List (List ℕ)) → Number lease → is_ttl left ≡ true → Number granted → AllOf Bytes keys → Few keys
    → timetolive_body.fits (lease, (left, (granted, keys))) ≡ true
unfolding timetolive_body
timetolive_fits lease left granted keys l t g k few =
    and_both (is_within 0 max_number lease) _ (is_number lease l)
    (and_both (ttl.fits left) _ (ttl_fits left t)
    (and_both (is_within 0 max_number granted) _ (is_number granted g)
    (and_both (is_within 0 max_number (length keys)) (list_all bytes.fits keys) (is_number (length keys) few) (all_tests Bytes bytes.fits bytes_fit keys k))))

leases_fit : (ns : List ℕ) → AllOf Number ns → Few ns → leases_body.fits ns ≡ true
unfolding leases_body
leases_fit ns h few =
    and_both (is_within 0 max_number (length ns)) (list_all number.fits ns) (is_number (length ns) few) (all_tests Number number.fits is_number ns h)

pub row_counts : {m : _} (inner : Row_of-Body m) → row_length inner ≡ length (items-the_row-Body m inner)
row_counts end_of-Body = refl
row_counts (more_of-Body one rest) = ap suc (row_counts rest)

two_numbers : (a b : ℕ) → Number a → Number b → is_within 0 max_number a && is_within 0 max_number b ≡ true
two_numbers a b h k = and_both (is_within 0 max_number a) (is_within 0 max_number b) (is_number a h) (is_number b k)

abbrev layer_fits : Bool → Form Body → layer.Body-F Body → Bool
layer_fits nests inner y = (body_words_form (allowed nests (after (codes "txn") (txn_body inner)))).fits (layer_from y)

-- a body fits as its layer does
by_layer : (nests : Bool) (inner : Form Body) (b : Body) (y : layer.Body-F Body) → out-Body b ≡ y → layer_fits nests inner y ≡ true → layer_fits nests inner (out-Body b) ≡ true
by_layer nests inner b y e h = subst (λ (z : layer.Body-F Body). layer_fits nests inner z ≡ true) (sym e) h

out_txn : (succeeded : Bool) (m : _) (row : _) → out-Body (body.Txn' succeeded m row) ≡ layer.Txn succeeded (items-the_row-Body _ row)
out_txn succeeded m row = outs-Txn' succeeded m row ∙ (λ i. layer.Txn succeeded (items_shown-the_row-Body-0 m row i))

mutual
  unfolding body_form

  pub body_fits : (most : ℕ) → most ≤ max_number → (deep : ℕ) (b : Body) → BodyFits most deep b → (body_form deep).fits b ≡ true
  body_fits most m zero (body.Range count more kvs) f = by_layer false never (body.Range count more kvs) (layer.Range count more kvs) (outs-Range count more kvs) (range_fits most m count more kvs f.0 f.1)
  body_fits most m (suc n) (body.Range count more kvs) f = by_layer true (body_form n) (body.Range count more kvs) (layer.Range count more kvs) (outs-Range count more kvs) (range_fits most m count more kvs f.0 f.1)
  body_fits most m zero (body.Put old) f = by_layer false never (body.Put old) (layer.Put old) (outs-Put old) (prev_fits most m old f)
  body_fits most m (suc n) (body.Put old) f = by_layer true (body_form n) (body.Put old) (layer.Put old) (outs-Put old) (prev_fits most m old f)
  body_fits most m zero (body.Delete count kvs) f = by_layer false never (body.Delete count kvs) (layer.Delete count kvs) (outs-Delete count kvs) (delete_fits most m count kvs (least most count m f.0) f.1)
  body_fits most m (suc n) (body.Delete count kvs) f = by_layer true (body_form n) (body.Delete count kvs) (layer.Delete count kvs) (outs-Delete count kvs) (delete_fits most m count kvs (least most count m f.0) f.1)
  body_fits most m zero body.Compact f = by_layer false never body.Compact layer.Compact outs-Compact refl
  body_fits most m (suc n) body.Compact f = by_layer true (body_form n) body.Compact layer.Compact outs-Compact refl
  body_fits most m zero (body.Grant lease left) f = by_layer false never (body.Grant lease left) (layer.Grant lease left) (outs-Grant lease left) (two_numbers lease left f.0 f.1)
  body_fits most m (suc n) (body.Grant lease left) f = by_layer true (body_form n) (body.Grant lease left) (layer.Grant lease left) (outs-Grant lease left) (two_numbers lease left f.0 f.1)
  body_fits most m zero body.Revoke f = by_layer false never body.Revoke layer.Revoke outs-Revoke refl
  body_fits most m (suc n) body.Revoke f = by_layer true (body_form n) body.Revoke layer.Revoke outs-Revoke refl
  body_fits most m zero (body.KeepAlive lease left) f = by_layer false never (body.KeepAlive lease left) (layer.KeepAlive lease left) (outs-KeepAlive lease left) (two_numbers lease left f.0 f.1)
  body_fits most m (suc n) (body.KeepAlive lease left) f = by_layer true (body_form n) (body.KeepAlive lease left) (layer.KeepAlive lease left) (outs-KeepAlive lease left) (two_numbers lease left f.0 f.1)
  body_fits most m zero (body.TimeToLive lease left granted keys) f = by_layer false never (body.TimeToLive lease left granted keys) (layer.TimeToLive lease left granted keys) (outs-TimeToLive lease left granted keys) (timetolive_fits lease left granted keys f.0 f.1 f.2 f.3 f.4)
  body_fits most m (suc n) (body.TimeToLive lease left granted keys) f = by_layer true (body_form n) (body.TimeToLive lease left granted keys) (layer.TimeToLive lease left granted keys) (outs-TimeToLive lease left granted keys) (timetolive_fits lease left granted keys f.0 f.1 f.2 f.3 f.4)
  body_fits most m zero (body.Leases ns) f = by_layer false never (body.Leases ns) (layer.Leases ns) (outs-Leases ns) (leases_fit ns f.0 f.1)
  body_fits most m (suc n) (body.Leases ns) f = by_layer true (body_form n) (body.Leases ns) (layer.Leases ns) (outs-Leases ns) (leases_fit ns f.0 f.1)
  body_fits most m zero (body.Txn' succeeded k inner) f = absurd f.0
  body_fits most m (suc n) (body.Txn' succeeded k inner) f =
      let few : Number (length (items-the_row-Body _ inner)) = subst Number (row_counts inner) (let l = f.1 in omega (arith, l)) in
      by_layer true (body_form n) (body.Txn' succeeded k inner) (layer.Txn succeeded (items-the_row-Body _ inner)) (out_txn succeeded k inner)
      (and_both (is_within 0 max_number (length (items-the_row-Body _ inner))) (list_all (body_form n).fits (items-the_row-Body _ inner)) (is_number _ few) (row_fits most m n inner f.0))

  row_fits : {k : _} (most : ℕ) → most ≤ max_number → (deep : ℕ) (inner : Row_of-Body k) → RowFits most deep inner → list_all (body_form deep).fits (items-the_row-Body k inner) ≡ true
  row_fits most m deep end_of-Body f = refl
  row_fits most m deep (more_of-Body one rest) f =
      and_both ((body_form deep).fits one) (list_all (body_form deep).fits (items-the_row-Body _ rest)) (body_fits most m deep one f.0) (row_fits most m deep rest f.1)

-- ---- answers

below : (n : ℕ) → n < 2 ^ 32 → is_within 0 (2 ^ 32 - 1) n ≡ true
below n h = and_both (nat_le 0 n) (nat_le n (2 ^ 32 - 1)) (le-leb 0 n (omega arith)) (le-leb n (2 ^ 32 - 1) (omega (arith, h)))

pub answer_fits : (most : ℕ) → most ≤ max_number → (a : Answer) → AnswerFits most a → answer.fits a ≡ true
unfolding answer refusal_words answers.body
answer_fits most m (Done reply) f = and_both (header.fits reply.header) _ (header_fits most reply.header m f.0) (body_fits most m 128 reply.body f.1)
answer_fits most m (Refused r) f = and_both (is_within 0 (2 ^ 32 - 1) r.code) (bytes.fits r.text) (below r.code f.0) (bytes_fit r.text f.1)

-- ---- messages

change_fits : (most : ℕ) → most ≤ max_number → (c : Change) → ChangeFits most c → a_change.fits c ≡ true
unfolding a_change
change_fits most m (change.Put k) f = kv_fits most m k f
change_fits most m (change.Delete key modified) f =
    and_both (bytes.fits key) (is_within 0 max_number modified) (bytes_fit key f.0) (is_number modified (least most modified m f.1))

event_fits : (most : ℕ) → most ≤ max_number → (e : Event) → EventFits most e → event.fits e ≡ true
unfolding event
event_fits most m e f = and_both (a_change.fits e.change) (prev.fits e.prev) (change_fits most m e.change f.0) (prev_fits most m e.prev f.1)

pub message_fits : (most : ℕ) → most ≤ max_number → (i : WatchItem) → MessageFits most i → watch_item.fits i ≡ true
unfolding watch_item
message_fits most m (item.Created h) f = header_fits most h m f
message_fits most m (item.Events h es) f =
    and_both (header.fits h) _ (header_fits most h m f.0)
    (and_both (is_within 0 max_number (length es)) (list_all event.fits es) (is_number (length es) f.1.1) (all_tests (EventFits most) event.fits (event_fits most m) es f.1.0))
message_fits most m (item.Canceled h compaction) f =
    and_both (header.fits h) (is_within 0 max_number compaction) (header_fits most h m f.0) (is_number compaction (least most compaction m f.1))
