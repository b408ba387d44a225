-- The body of a plain read, or of a plain put, is the text that is written for it, and so is read as it.
use Rattle.std.proofs.Common.{◌≡◌, ℕ, false, List, [], ◌∷◌, ◌++◌, codes, take, drop, Ok, refl, lit<, lit≤, sym, ap, ◌∙◌, append_assoc}
use Rattle.std.proofs.lemmas.List.{take-append-drop}
use Rattle.base64.specs.Engines.{standard}
use Rattle.base64.specs.GeneralPurpose.{IsBytes, encode_of}
use Rattle.json.specs.Print.{escape, escape_byte}
use Rattle.etcd_types.specs.Keys.{is_empty}
use Rattle.etcd_types.specs.declared.request.Request.{Request}
use Rattle.etcd_types.specs.declared.request.Request.TheVariants as request
use Rattle.json_model.specs.declared.extra.Reading.TheVariants.{Client}
use Rattle.json_model.specs.declared.path.Path.TheVariants as path
use Rattle.json_model.specs.Fits.{RequestFits, RequestServed}
use Rattle.json_model.specs.Mapping.{request_of}
use Rattle.json_model.specs.Paths.{path_text}
use Rattle.json_model.specs.WrittenRequests.{range_written, put_written, request_path, request_text}
use Rattle.direct_json.proofs.Plain.{escape_encoded}
use Rattle.json_laws.proofs.RequestBack.{request_back}
use Rattle.api_request.specs.PlainRequests.{plain_read, plain_put}

-- a body that is a request's text is read as it
pub written_back : (body : List ℕ) (r : Request) → body ≡ request_text r → RequestFits r → RequestServed Client r → request_of Client (path_text (request_path r)) body ≡ Ok r
written_back body r e fits served = (λ i. request_of Client (path_text (request_path r)) (e i)) ∙ request_back Client r fits served

-- a base64 text is written as it stands
pub as_written : (text bytes : List ℕ) → text ≡ encode_of standard bytes → IsBytes bytes → text ≡ escape (encode_of standard bytes)
as_written text bytes e h = e ∙ sym (escape_encoded bytes h)

-- ---- a read

read_fits : (x : ℕ) (key : List ℕ) → IsBytes (x ∷ key) → RequestFits (request.Range (plain_read (x ∷ key)))
unfolding range_written
read_fits x key bytes = (
  record {
    range = record { key = bytes; end = λ i. lit< tt };
    revision = lit< tt;
    limit = lit< tt;
    order = lit< tt;
    target = lit< tt;
    min_mod = lit< tt;
    max_mod = lit< tt;
    min_create = lit< tt;
    max_create = lit< tt;
  },
  lit≤ tt,
)

-- the text that is written, where the key's text is this
read_text : (x : ℕ) (key text : List ℕ) → text ≡ escape (encode_of standard (x ∷ key))
    → codes "{\"key\":\"" ++ (text ++ codes "\"}") ≡ request_text (request.Range (plain_read (x ∷ key)))
unfolding range_written escape_byte
read_text x key text e =
    ap (λ (t : List ℕ). codes "{\"key\":\"" ++ (t ++ codes "\"}")) e
    ∙ ap (λ (t : List ℕ). codes "{\"key\":\"" ++ t) (sym (append_assoc (escape (encode_of standard (x ∷ key))) (34 ∷ []) (125 ∷ [])))

pub read_back : (body text key : List ℕ) → body ≡ codes "{\"key\":\"" ++ (text ++ codes "\"}") → text ≡ encode_of standard key → IsBytes key → is_empty key ≡ false
    → request_of Client (path_text path.Range) body ≡ Ok (request.Range (plain_read key))
read_back body text [] b t bytes some = absurd (cc)
read_back body text (x ∷ key) b t bytes some =
    written_back body (request.Range (plain_read (x ∷ key))) (b ∙ read_text x key text (as_written text (x ∷ key) t bytes)) (read_fits x key bytes) tt

-- ---- a put

put_fits : (x : ℕ) (key : List ℕ) (y : ℕ) (value : List ℕ) → IsBytes (x ∷ key) → IsBytes (y ∷ value) → RequestFits (request.Put (plain_put (x ∷ key) (y ∷ value)))
unfolding put_written
put_fits x key y value k v = (record { key = k; value = v; lease = lit< tt }, lit≤ tt)

-- the text of the key, what stands between, and the text of the value
abbrev pub both_texts : List ℕ → List ℕ → List ℕ
both_texts key value = key ++ (codes "\",\"value\":\"" ++ value)

-- the quotation mark behind each text is written with it
ends_within : (key value : List ℕ) → both_texts key value ++ codes "\"}" ≡ (key ++ 34 ∷ []) ++ (codes ",\"value\":\"" ++ ((value ++ 34 ∷ []) ++ 125 ∷ []))
ends_within key value =
    append_assoc key (codes "\",\"value\":\"" ++ value) (codes "\"}")
    ∙ ap (λ (t : List ℕ). key ++ (codes "\",\"value\":\"" ++ t)) (sym (append_assoc value (34 ∷ []) (125 ∷ [])))
    ∙ sym (append_assoc key (34 ∷ []) (codes ",\"value\":\"" ++ ((value ++ 34 ∷ []) ++ 125 ∷ [])))

put_text : (x : ℕ) (key : List ℕ) (y : ℕ) (value k v : List ℕ) → k ≡ escape (encode_of standard (x ∷ key)) → v ≡ escape (encode_of standard (y ∷ value))
    → codes "{\"key\":\"" ++ (both_texts k v ++ codes "\"}") ≡ request_text (request.Put (plain_put (x ∷ key) (y ∷ value)))
unfolding put_written escape_byte
put_text x key y value k v e f =
    (λ i. codes "{\"key\":\"" ++ (both_texts (e i) (f i) ++ codes "\"}"))
    ∙ ap (λ (t : List ℕ). codes "{\"key\":\"" ++ t) (ends_within (escape (encode_of standard (x ∷ key))) (escape (encode_of standard (y ∷ value))))

-- what stands before a place and what begins there with the middle
pub parted : (i : ℕ) (texts front back value : List ℕ) → front ≡ take i texts → back ≡ drop i texts → back ≡ codes "\",\"value\":\"" ++ value → texts ≡ both_texts front value
parted i texts front back value f b e = sym (take-append-drop i texts) ∙ (λ k. sym f k ++ (sym b ∙ e) k)

pub put_back : (body texts k v key value : List ℕ) → body ≡ codes "{\"key\":\"" ++ (texts ++ codes "\"}") → texts ≡ both_texts k v → k ≡ encode_of standard key → v ≡ encode_of standard value
    → IsBytes key → IsBytes value → is_empty key ≡ false → is_empty value ≡ false → request_of Client (path_text path.Put) body ≡ Ok (request.Put (plain_put key value))
put_back body texts k v [] value b t e f are_k are_v some_k some_v = absurd (cc)
put_back body texts k v (x ∷ key) [] b t e f are_k are_v some_k some_v = absurd (cc)
put_back body texts k v (x ∷ key) (y ∷ value) b t e f are_k are_v some_k some_v =
    let written = put_text x key y value k v (as_written k (x ∷ key) e are_k) (as_written v (y ∷ value) f are_v) in
    written_back body (request.Put (plain_put (x ∷ key) (y ∷ value)))
    (b ∙ ap (λ (u : List ℕ). codes "{\"key\":\"" ++ (u ++ codes "\"}")) t ∙ written)
    (put_fits x key y value are_k are_v) refl
