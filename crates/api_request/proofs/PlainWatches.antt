-- The body of a plain watch is the text that is written for it, and so is read as it.
use Rattle.std.proofs.Common.{◌≡◌, ℕ, false, List, [], ◌∷◌, ◌++◌, codes, take, drop, Ok, lit<, lit≤, sym, ap, ◌∙◌, append_assoc}
use Rattle.std.proofs.lemmas.List.{take-append-drop}
use Rattle.base64.specs.Engines.{standard}
use Rattle.base64.specs.GeneralPurpose.{IsBytes, encode_of}
use Rattle.json.specs.Print.{escape, escape_byte}
use Rattle.etcd_types.specs.Keys.{is_empty}
use Rattle.etcd_types.specs.declared.request.Request.TheVariants as request
use Rattle.json_model.specs.declared.extra.Reading.TheVariants.{Client}
use Rattle.json_model.specs.declared.path.Path.TheVariants as path
use Rattle.json_model.specs.Fits.{RequestFits}
use Rattle.json_model.specs.Mapping.{request_of}
use Rattle.json_model.specs.Paths.{path_text}
use Rattle.json_model.specs.WrittenRequests.{create_written, watch_written, request_text}
use Rattle.api_request.specs.PlainRequests.{plain_watch, range_texts}
use Rattle.api_request.proofs.PlainRequests.{written_back, as_written}

abbrev pub opening : List ℕ
opening = codes "{\"create_request\":{\"key\":\""

-- ---- of one key

key_fits : (x : ℕ) (key : List ℕ) → IsBytes (x ∷ key) → RequestFits (request.Watch (plain_watch (x ∷ key) []))
unfolding create_written watch_written
key_fits x key bytes = (record { range = record { key = bytes; end = λ i. lit< tt }; start = lit< tt }, lit≤ tt)

-- the text that is written, where the key's text is this
key_text : (x : ℕ) (key text : List ℕ) → text ≡ escape (encode_of standard (x ∷ key))
    → opening ++ (text ++ codes "\"}}") ≡ request_text (request.Watch (plain_watch (x ∷ key) []))
unfolding create_written watch_written escape_byte
key_text x key text e =
    ap (λ (t : List ℕ). opening ++ (t ++ codes "\"}}")) e
    ∙ ap (λ (t : List ℕ). opening ++ t) (ends_within (escape (encode_of standard (x ∷ key))))
  where
    ends_within : (k : List ℕ) → k ++ codes "\"}}" ≡ ((k ++ 34 ∷ []) ++ 125 ∷ []) ++ 125 ∷ []
    ends_within k = sym (append_assoc (k ++ 34 ∷ []) (125 ∷ []) (125 ∷ []) ∙ append_assoc k (34 ∷ []) (codes "}}"))

pub key_watch_back : (body text key : List ℕ) → body ≡ opening ++ (text ++ codes "\"}}") → text ≡ encode_of standard key → IsBytes key → is_empty key ≡ false
    → request_of Client (path_text path.Watch) body ≡ Ok (request.Watch (plain_watch key []))
key_watch_back body text [] b t bytes some = absurd (cc)
key_watch_back body text (x ∷ key) b t bytes some =
    written_back body (request.Watch (plain_watch (x ∷ key) [])) (b ∙ key_text x key text (as_written text (x ∷ key) t bytes)) (key_fits x key bytes) tt

-- ---- of a range

range_fits : (x : ℕ) (key : List ℕ) (y : ℕ) (end : List ℕ) → IsBytes (x ∷ key) → IsBytes (y ∷ end) → RequestFits (request.Watch (plain_watch (x ∷ key) (y ∷ end)))
unfolding create_written watch_written
range_fits x key y end k e = (record { range = record { key = k; end = e }; start = lit< tt }, lit≤ tt)

range_text : (x : ℕ) (key : List ℕ) (y : ℕ) (end k e : List ℕ) → k ≡ escape (encode_of standard (x ∷ key)) → e ≡ escape (encode_of standard (y ∷ end))
    → opening ++ (range_texts k e ++ codes "\"}}") ≡ request_text (request.Watch (plain_watch (x ∷ key) (y ∷ end)))
unfolding create_written watch_written escape_byte
range_text x key y end k e f g =
    (λ i. opening ++ (range_texts (f i) (g i) ++ codes "\"}}"))
    ∙ ap (λ (t : List ℕ). opening ++ t) (ends_within (escape (encode_of standard (x ∷ key))) (escape (encode_of standard (y ∷ end))))
  where
    -- the quotation mark behind each text is written with it
    ends_within : (k e : List ℕ) → range_texts k e ++ codes "\"}}" ≡ ((k ++ 34 ∷ []) ++ (codes ",\"range_end\":\"" ++ ((e ++ 34 ∷ []) ++ 125 ∷ []))) ++ 125 ∷ []
    ends_within k e =
        append_assoc k (codes "\",\"range_end\":\"" ++ e) (codes "\"}}")
        ∙ ap (λ (t : List ℕ). k ++ (codes "\",\"range_end\":\"" ++ t)) (sym (append_assoc (e ++ 34 ∷ []) (125 ∷ []) (125 ∷ []) ∙ append_assoc e (34 ∷ []) (codes "}}")))
        ∙ sym (append_assoc (k ++ 34 ∷ []) (codes ",\"range_end\":\"" ++ ((e ++ 34 ∷ []) ++ 125 ∷ [])) (125 ∷ []) ∙ append_assoc k (34 ∷ []) (codes ",\"range_end\":\"" ++ (((e ++ 34 ∷ []) ++ 125 ∷ []) ++ 125 ∷ [])))

-- what stands before a place and what begins there with the middle
pub range_parted : (i : ℕ) (texts front back end : List ℕ) → front ≡ take i texts → back ≡ drop i texts → back ≡ codes "\",\"range_end\":\"" ++ end → texts ≡ range_texts front end
range_parted i texts front back end f b e = sym (take-append-drop i texts) ∙ (λ k. sym f k ++ (sym b ∙ e) k)

pub range_watch_back : (body k e key end : List ℕ) → body ≡ opening ++ (range_texts k e ++ codes "\"}}") → k ≡ encode_of standard key → e ≡ encode_of standard end
    → IsBytes key → IsBytes end → is_empty key ≡ false → is_empty end ≡ false → request_of Client (path_text path.Watch) body ≡ Ok (request.Watch (plain_watch key end))
range_watch_back body k e [] end b f g are_k are_e some_k some_e = absurd (cc)
range_watch_back body k e (x ∷ key) [] b f g are_k are_e some_k some_e = absurd (cc)
range_watch_back body k e (x ∷ key) (y ∷ end) b f g are_k are_e some_k some_e =
    written_back body (request.Watch (plain_watch (x ∷ key) (y ∷ end)))
    (b ∙ range_text x key y end k e (as_written k (x ∷ key) f are_k) (as_written e (y ∷ end) g are_e))
    (range_fits x key y end are_k are_e) tt
