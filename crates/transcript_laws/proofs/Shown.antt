-- The keys that the answers of a transcript show are made of bytes, since its items have texts.
use Rattle.std.proofs.Common.{◌≡◌, ℕ, zero, suc, Bool, true, false, ◌&&◌, List, [], ◌∷◌, length, refl, sym, ◌∙◌, subst}
use Rattle.std.specs.Prelude.{codes, flat_map}
use Rattle.std.specs.List.{list_all}
use Rattle.std.proofs.lemmas.List.Folds.{list_all-append}
use Rattle.etcd_types.proofs.Bools.{and_both, and_first, and_second}
use Rattle.etcd_types.specs.declared.answer.Answer.{Answer}
use Rattle.etcd_types.specs.declared.answer.Answer.TheVariants.{Done, Refused}
use Rattle.etcd_types.specs.declared.answer.Body.{Body, out-Body, items-the_row-Body, items_shown-the_row-Body-0}
use Rattle.etcd_types.specs.declared.answer.Body.TheVariants as body
use Rattle.etcd_types.specs.declared.answer.Body.TheVariants.{outs-Range, outs-Txn'}
use Rattle.etcd_types.specs.declared.answer.Body.TheOpen as layer
use Rattle.etcd_types.specs.declared.record.Kv.{Kv}
use Rattle.message_text.specs.Answers.{header, kv, range_body, branch, txn_body, body_words_form, layer_from, body_form, answer}
use Rattle.message_text.specs.Answers as answers
use Rattle.proxy_model.specs.Fits.{row_bodies}
use Rattle.proxy_model.specs.Prefixes.{are_bytes}
use Rattle.proxy_model.specs.Readings.{records_of}
use Rattle.renewed_laws.specs.Renewals.{answer_shows, item_shows, AnswersShowBytes}
use Rattle.script_text.specs.declared.item.Item.{Item}
use Rattle.script_text.specs.declared.item.Item.TheVariants as item
use Rattle.text_laws.specs.Items.Texts.{Each, HaveTextsAsMade}
use Rattle.text_model.specs.Forms.{Form, never, allowed, after}
use Rattle.text_model.specs.Words.{number, bytes, flag}
use Rattle.text_laws.specs.Scripts.Whole.{HasText}
use Rattle.core_laws.specs.Writes.Laws.{shows_bytes}

key_bytes : (k : Kv) → kv.fits k ≡ true → are_bytes k.key ≡ true
unfolding kv bytes
key_bytes k e = and_first (are_bytes k.key) _ e

keys_bytes : (ks : List Kv) → list_all kv.fits ks ≡ true → list_all (λ k. are_bytes k.key) ks ≡ true
keys_bytes [] e = refl
keys_bytes (k ∷ ks) e =
    and_both (are_bytes k.key) (list_all (λ k. are_bytes k.key) ks) (key_bytes k (and_first (kv.fits k) (list_all kv.fits ks) e))
    (keys_bytes ks (and_second (kv.fits k) (list_all kv.fits ks) e))

range_bytes : (count : ℕ) (more : Bool) (ks : List Kv) → range_body.fits (count, (more, ks)) ≡ true → list_all (λ k. are_bytes k.key) ks ≡ true
unfolding range_body
range_bytes count more ks e =
    keys_bytes ks
    (and_second (number.fits (length ks)) (list_all kv.fits ks)
    (and_second ((flag 109).fits more) (number.fits (length ks) && list_all kv.fits ks) (and_second (number.fits count) ((flag 109).fits more && (number.fits (length ks) && list_all kv.fits ks)) e)))

abbrev layer_fits : Bool → Form Body → layer.Body-F Body → Bool
layer_fits nests inner y = (body_words_form (allowed nests (after (codes "txn") (txn_body inner)))).fits (layer_from y)

-- where a body fits, so does its layer
to_layer : (nests : Bool) (inner : Form Body) (b : Body) (y : layer.Body-F Body) → out-Body b ≡ y → layer_fits nests inner (out-Body b) ≡ true → layer_fits nests inner y ≡ true
to_layer nests inner b y e h = subst (λ (z : layer.Body-F Body). layer_fits nests inner z ≡ true) e h

records_bytes : (n : ℕ) (b : Body) → (body_form n).fits b ≡ true → list_all (λ k. are_bytes k.key) (records_of b) ≡ true
unfolding body_form
records_bytes zero (body.Range count more ks) e = range_bytes count more ks (to_layer false never (body.Range count more ks) (layer.Range count more ks) (outs-Range count more ks) e)
records_bytes (suc n) (body.Range count more ks) e = range_bytes count more ks (to_layer true (body_form n) (body.Range count more ks) (layer.Range count more ks) (outs-Range count more ks) e)
records_bytes n (body.Put old) e = refl
records_bytes n (body.Delete count ks) e = refl
records_bytes n (body.Txn' succeeded m inner) e = refl
records_bytes n body.Compact e = refl
records_bytes n (body.Grant lease left) e = refl
records_bytes n body.Revoke e = refl
records_bytes n (body.KeepAlive lease left) e = refl
records_bytes n (body.TimeToLive lease left granted keys) e = refl
records_bytes n (body.Leases ns) e = refl

bodies_bytes : (n : ℕ) (bs : List Body) → list_all (body_form n).fits bs ≡ true → list_all (λ k. are_bytes k.key) (flat_map records_of bs) ≡ true
bodies_bytes n [] e = refl
bodies_bytes n (b ∷ bs) e =
    list_all-append (λ k. are_bytes k.key) (records_of b) (flat_map records_of bs)
    ∙ and_both (list_all (λ k. are_bytes k.key) (records_of b)) (list_all (λ k. are_bytes k.key) (flat_map records_of bs)) (records_bytes n b (and_first ((body_form n).fits b) (list_all (body_form n).fits bs) e))
    (bodies_bytes n bs (and_second ((body_form n).fits b) (list_all (body_form n).fits bs) e))

out_txn : (succeeded : Bool) (m : _) (row : _) → out-Body (body.Txn' succeeded m row) ≡ layer.Txn succeeded (items-the_row-Body _ row)
out_txn succeeded m row = outs-Txn' succeeded m row ∙ (λ i. layer.Txn succeeded (items_shown-the_row-Body-0 m row i))

body_bytes : (n : ℕ) (b : Body) → (body_form (suc n)).fits b ≡ true → shows_bytes b ≡ true
unfolding body_form
body_bytes n (body.Txn' succeeded m inner) e =
    bodies_bytes n (row_bodies inner)
    (and_second (number.fits (length (row_bodies inner))) (list_all (body_form n).fits (row_bodies inner)) (and_second (branch.fits succeeded) (number.fits (length (row_bodies inner)) && list_all (body_form n).fits (row_bodies inner)) (to_layer true (body_form n) (body.Txn' succeeded m inner) (layer.Txn succeeded (row_bodies inner)) (out_txn succeeded m inner) e)))
body_bytes n (body.Range count more ks) e = refl
body_bytes n (body.Put old) e = refl
body_bytes n (body.Delete count ks) e = refl
body_bytes n body.Compact e = refl
body_bytes n (body.Grant lease left) e = refl
body_bytes n body.Revoke e = refl
body_bytes n (body.KeepAlive lease left) e = refl
body_bytes n (body.TimeToLive lease left granted keys) e = refl
body_bytes n (body.Leases ns) e = refl

answer_bytes : (a : Answer) → answer.fits a ≡ true → answer_shows a ≡ true
unfolding answer answers.body
answer_bytes (Done reply) e = body_bytes 127 reply.body (and_second (header.fits reply.header) _ e)
answer_bytes (Refused r) e = refl

item_bytes : (i : Item) → HaveTextsAsMade (i ∷ []) → HasText i → item_shows i ≡ true
item_bytes (item.Executed call a) made has = answer_bytes a (sym made.0 ∙ has)
item_bytes (item.World members namespace leasing) made has = refl
item_bytes (item.Started p) made has = refl
item_bytes (item.Restarted p) made has = refl
item_bytes (item.Clock p millis) made has = refl
item_bytes (item.Asked p t q) made has = refl
item_bytes (item.Posted p t path sent) made has = refl
item_bytes (item.Ticked p) made has = refl
item_bytes (item.Sent p call member t q) made has = refl
item_bytes (item.Opened p stream member q) made has = refl
item_bytes (item.Closed p stream) made has = refl
item_bytes (item.Taken p t found) made has = refl
item_bytes (item.Pending p t) made has = refl
item_bytes (item.Left p t) made has = refl
item_bytes (item.Reply p t given) made has = refl
item_bytes (item.Body p t status json) made has = refl
item_bytes (item.Answered call) made has = refl
item_bytes (item.Lost call) made has = refl
item_bytes (item.Pushed stream found) made has = refl
item_bytes (item.Delivered stream) made has = refl
item_bytes (item.Cut stream) made has = refl
item_bytes (item.Expired lease) made has = refl
item_bytes (item.Applied member revision) made has = refl

pub texts_show_bytes : (items : List Item) → HaveTextsAsMade items → Each HasText items → AnswersShowBytes items
texts_show_bytes [] made has = refl
texts_show_bytes (i ∷ items) made has = and_both (item_shows i) (list_all item_shows items) (item_bytes i (made.0, tt) has.0) (texts_show_bytes items made.1 has.1)
