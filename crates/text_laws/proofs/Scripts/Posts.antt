-- Posted bodies: what is read of them has a text, and what they are refused with is bytes.
use Rattle.std.proofs.Common.{◌≡◌, ℕ, ◌+◌, true, List, [], ◌∷◌, ◌++◌, Option, None, Some, refl}
use Rattle.std.specs.Prelude.{codes}
use Rattle.json_model.specs.declared.fault.ApiFault.{ApiFault}
use Rattle.json_model.specs.declared.fault.ApiFault.TheVariants as api
use Rattle.json_model.specs.declared.fault.FieldFault.{FieldFault}
use Rattle.json_model.specs.declared.fault.FieldFault.TheVariants as fields
use Rattle.json_model.specs.Faults.{api_fault_text}
use Rattle.text_laws.specs.Values.Fits.{If, IsByte, Bytes}
use Rattle.text_laws.proofs.Values.Alls.{all_append, bytes_are}
use Rattle.text_laws.proofs.Values.RequestTexts.{bytes_of, request_to}
use Rattle.text_laws.specs.Posts.Laws.{FaultBytes, ApiFaultBytes}
use Rattle.text_laws.proofs.Posts.Requests.{requests_fit, refusals_fit}
use Rattle.script_text.specs.declared.line.Line.{Line}
use Rattle.script_text.specs.declared.line.Line.TheVariants as line
use Rattle.script_text.specs.Lines.{is_line}
use Rattle.json_model.specs.FaultNames.{field_named, named_in, with_name}
use Rattle.world_model.specs.PostRefusals.{post_refusal}
use Rattle.text_laws.specs.Items.Texts.{Each, AreRead}
use Rattle.text_laws.proofs.Items.Parts.{parts_of}
use Rattle.text_laws.specs.Scripts.Answered.{PostIsRefusedInBytes}
use Rattle.text_laws.specs.Scripts.Asked.{PostHasText}
use Rattle.text_laws.specs.Scripts.Posts.{PostIsShort, ShortPostsHaveTexts}

-- ---- the text of a refusal

abbrev words : ApiFault → List ℕ
words why = codes "proxy: " ++ api_fault_text why

words_bytes : (why : ApiFault) → Bytes (words why)
words_bytes api.NoSuchPath = bytes_are (words api.NoSuchPath) refl
words_bytes api.NotJson = bytes_are (words api.NotJson) refl
words_bytes (api.Unsupported name) = bytes_are (words (api.Unsupported name)) refl
words_bytes (api.Field (fields.WrongKind name)) = bytes_are (words (api.Field (fields.WrongKind name))) refl
words_bytes (api.Field (fields.BadNumber name)) = bytes_are (words (api.Field (fields.BadNumber name))) refl
words_bytes (api.Field (fields.BadBase64 name)) = bytes_are (words (api.Field (fields.BadBase64 name))) refl
words_bytes (api.Field (fields.UnknownField name)) = bytes_are (words (api.Field (fields.UnknownField name))) refl
words_bytes (api.Field (fields.TwiceNamed name)) = bytes_are (words (api.Field (fields.TwiceNamed name))) refl
words_bytes (api.Field (fields.BadEnum name)) = bytes_are (words (api.Field (fields.BadEnum name))) refl
words_bytes (api.Field fields.NoMemory) = bytes_are (words (api.Field fields.NoMemory)) refl
words_bytes api.NoMemory = bytes_are (words api.NoMemory) refl

field_bytes : (why : FieldFault) → FaultBytes why → If Bytes (field_named why)
field_bytes (fields.WrongKind name) h = h
field_bytes (fields.BadNumber name) h = h
field_bytes (fields.BadBase64 name) h = h
field_bytes (fields.UnknownField name) h = h
field_bytes (fields.TwiceNamed name) h = h
field_bytes (fields.BadEnum name) h = h
field_bytes fields.NoMemory h = tt

name_bytes : (why : ApiFault) → ApiFaultBytes why → If Bytes (named_in why)
name_bytes api.NoSuchPath h = tt
name_bytes api.NotJson h = tt
name_bytes (api.Unsupported name) h = h
name_bytes (api.Field why) h = field_bytes why h
name_bytes api.NoMemory h = tt

named_bytes : (said : List ℕ) (o : Option (List ℕ)) → Bytes said → If Bytes o → Bytes (with_name said o)
named_bytes said None h k = h
named_bytes said (Some name) h k = all_append IsByte (said ++ codes ": ") name (all_append IsByte said (codes ": ") h (bytes_are (codes ": ") refl)) k

refusal_bytes : (why : ApiFault) → ApiFaultBytes why → Bytes (post_refusal why).text
refusal_bytes why h = named_bytes (words why) (named_in why) (words_bytes why) (name_bytes why h)

-- ---- lines

post_has : (n : ℕ) (l : Line) → is_line n l ≡ true → PostIsShort l → PostHasText l
post_has n (line.Post p t path body) e s = λ q f. request_to q (requests_fit path body q (bytes_of body (parts_of n (line.Post p t path body) e).3) s f)
post_has n (line.World members namespace leasing) e s = tt
post_has n (line.Start p) e s = tt
post_has n (line.Clock p millis) e s = tt
post_has n (line.Ask p t q) e s = tt
post_has n (line.Tick p) e s = tt
post_has n (line.Send p) e s = tt
post_has n (line.Exec m) e s = tt
post_has n (line.Answer m) e s = tt
post_has n (line.Lose m) e s = tt
post_has n (line.Push m) e s = tt
post_has n (line.Progress m) e s = tt
post_has n (line.Deliver m) e s = tt
post_has n (line.Cut m) e s = tt
post_has n (line.Take p t) e s = tt
post_has n (line.Leave p t) e s = tt
post_has n (line.Expire lease) e s = tt
post_has n (line.Apply member revision) e s = tt

post_refused : (n : ℕ) (l : Line) → is_line n l ≡ true → PostIsShort l → PostIsRefusedInBytes l
post_refused n (line.Post p t path body) e s = λ why f. refusal_bytes why (refusals_fit path body why (bytes_of body (parts_of n (line.Post p t path body) e).3) s f)
post_refused n (line.World members namespace leasing) e s = tt
post_refused n (line.Start p) e s = tt
post_refused n (line.Clock p millis) e s = tt
post_refused n (line.Ask p t q) e s = tt
post_refused n (line.Tick p) e s = tt
post_refused n (line.Send p) e s = tt
post_refused n (line.Exec m) e s = tt
post_refused n (line.Answer m) e s = tt
post_refused n (line.Lose m) e s = tt
post_refused n (line.Push m) e s = tt
post_refused n (line.Progress m) e s = tt
post_refused n (line.Deliver m) e s = tt
post_refused n (line.Cut m) e s = tt
post_refused n (line.Take p t) e s = tt
post_refused n (line.Leave p t) e s = tt
post_refused n (line.Expire lease) e s = tt
post_refused n (line.Apply member revision) e s = tt

posts_from : (n : ℕ) (lines : List Line) → AreRead n lines → Each PostIsShort lines → Each PostHasText lines × Each PostIsRefusedInBytes lines
posts_from n [] e s = (tt, tt)
posts_from n (l ∷ lines) e s = let rest = posts_from (n + 1) lines e.1 s.1 in ((post_has n l e.0 s.0, rest.0), (post_refused n l e.0 s.0, rest.1))

pub posts_have : ShortPostsHaveTexts
posts_have lines e s = posts_from 1 lines e s
