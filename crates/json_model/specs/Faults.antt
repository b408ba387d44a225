-- Results that may be a fault, and what a body's result has to do with a definition's.
use Rattle.std.specs.Prelude.{◌≡◌, ℕ, List, codes, Result, Ok, Err, ⊤}
use Rattle.json_model.specs.declared.fault.FieldFault.{FieldFault}
use Rattle.json_model.specs.declared.fault.FieldFault.TheVariants as fields
use Rattle.json_model.specs.declared.fault.ApiFault.{ApiFault}
use Rattle.json_model.specs.declared.fault.ApiFault.TheVariants as api
use Rattle.json_model.specs.declared.fault.NotReply.{NotReply}
use Rattle.json_model.specs.declared.fault.NotReply.TheVariants as replies

-- the first fault counts
infixl 10 ◌>>=◌
abbrev pub ◌>>=◌ : {A B E : Type 0} → Result A E → (A → Result B E) → Result B E
(Ok x) >>= f = f x
(Err e) >>= f = Err e

-- ---- what a body gave, seen by view, is what the definition gives, unless memory was wanting

abbrev pub FieldFails : {Y : Type 0} → FieldFault → Result Y FieldFault → Type 0
FieldFails (fields.WrongKind n) read = read ≡ Err (fields.WrongKind n)
FieldFails (fields.BadNumber n) read = read ≡ Err (fields.BadNumber n)
FieldFails (fields.BadBase64 n) read = read ≡ Err (fields.BadBase64 n)
FieldFails (fields.UnknownField n) read = read ≡ Err (fields.UnknownField n)
FieldFails (fields.TwiceNamed n) read = read ≡ Err (fields.TwiceNamed n)
FieldFails (fields.BadEnum n) read = read ≡ Err (fields.BadEnum n)
FieldFails fields.NoMemory read = ⊤

abbrev pub Gives : {X Y : Type 0} → (X → Y) → Result X FieldFault → Result Y FieldFault → Type 0
Gives view (Ok x) read = read ≡ Ok (view x)
Gives view (Err e) read = FieldFails e read

-- the fault is this one, unless memory was wanting
abbrev pub IsFault : FieldFault → FieldFault → Type 0
IsFault (fields.WrongKind n) fault = fields.WrongKind n ≡ fault
IsFault (fields.BadNumber n) fault = fields.BadNumber n ≡ fault
IsFault (fields.BadBase64 n) fault = fields.BadBase64 n ≡ fault
IsFault (fields.UnknownField n) fault = fields.UnknownField n ≡ fault
IsFault (fields.TwiceNamed n) fault = fields.TwiceNamed n ≡ fault
IsFault (fields.BadEnum n) fault = fields.BadEnum n ≡ fault
IsFault fields.NoMemory fault = ⊤

abbrev pub ApiFails : {Y : Type 0} → ApiFault → Result Y ApiFault → Type 0
ApiFails api.NoSuchPath read = read ≡ Err api.NoSuchPath
ApiFails api.NotJson read = read ≡ Err api.NotJson
ApiFails (api.Unsupported n) read = read ≡ Err (api.Unsupported n)
ApiFails (api.Field f) read = read ≡ Err (api.Field f)
ApiFails api.NoMemory read = ⊤

abbrev pub GivesRequest : {X Y : Type 0} → (X → Y) → Result X ApiFault → Result Y ApiFault → Type 0
GivesRequest view (Ok x) read = read ≡ Ok (view x)
GivesRequest view (Err e) read = ApiFails e read

abbrev pub ReplyFails : {Y : Type 0} → NotReply → Result Y NotReply → Type 0
ReplyFails replies.Unreadable read = read ≡ Err replies.Unreadable
ReplyFails replies.NoMemory read = ⊤

abbrev pub GivesReply : {X Y : Type 0} → (X → Y) → Result X NotReply → Result Y NotReply → Type 0
GivesReply view (Ok x) read = read ≡ Ok (view x)
GivesReply view (Err e) read = ReplyFails e read

-- ---- a field's fault as another type's

abbrev pub as_api_fault : FieldFault → ApiFault
as_api_fault (fields.WrongKind n) = api.Field (fields.WrongKind n)
as_api_fault (fields.BadNumber n) = api.Field (fields.BadNumber n)
as_api_fault (fields.BadBase64 n) = api.Field (fields.BadBase64 n)
as_api_fault (fields.UnknownField n) = api.Field (fields.UnknownField n)
as_api_fault (fields.TwiceNamed n) = api.Field (fields.TwiceNamed n)
as_api_fault (fields.BadEnum n) = api.Field (fields.BadEnum n)
as_api_fault fields.NoMemory = api.NoMemory

abbrev pub as_not_reply : FieldFault → NotReply
as_not_reply (fields.WrongKind n) = replies.Unreadable
as_not_reply (fields.BadNumber n) = replies.Unreadable
as_not_reply (fields.BadBase64 n) = replies.Unreadable
as_not_reply (fields.UnknownField n) = replies.Unreadable
as_not_reply (fields.TwiceNamed n) = replies.Unreadable
as_not_reply (fields.BadEnum n) = replies.Unreadable
as_not_reply fields.NoMemory = replies.NoMemory

abbrev pub of_request : {A : Type 0} → Result A FieldFault → Result A ApiFault
of_request (Ok x) = Ok x
of_request (Err e) = Err (as_api_fault e)

abbrev pub of_reply : {A : Type 0} → Result A FieldFault → Result A NotReply
of_reply (Ok x) = Ok x
of_reply (Err e) = Err (as_not_reply e)

-- ---- what a fault shows: its kind, without the field's name

abbrev pub field_fault_text : FieldFault → List ℕ
field_fault_text (fields.WrongKind n) = codes "wrong kind"
field_fault_text (fields.BadNumber n) = codes "bad number"
field_fault_text (fields.BadBase64 n) = codes "bad base64"
field_fault_text (fields.UnknownField n) = codes "unknown field"
field_fault_text (fields.TwiceNamed n) = codes "field named twice"
field_fault_text (fields.BadEnum n) = codes "bad enum"
field_fault_text fields.NoMemory = codes "no memory"

abbrev pub api_fault_text : ApiFault → List ℕ
api_fault_text api.NoSuchPath = codes "no such path"
api_fault_text api.NotJson = codes "not JSON"
api_fault_text (api.Unsupported n) = codes "unsupported"
api_fault_text (api.Field fault) = field_fault_text fault
api_fault_text api.NoMemory = codes "no memory"

abbrev pub not_reply_text : NotReply → List ℕ
not_reply_text replies.Unreadable = codes "unreadable"
not_reply_text replies.NoMemory = codes "no memory"
