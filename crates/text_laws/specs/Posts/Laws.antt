-- A posted body that is read as a request gives one that has a text; one that is refused is refused with names that are bytes.
use Rattle.std.specs.Prelude.{◌≡◌, ◌≤◌, ◌+◌, ℕ, List, length, Ok, Err}
use Rattle.etcd_types.specs.declared.request.Request.{Request}
use Rattle.text_model.specs.Words.{max_number}
use Rattle.json_model.specs.declared.extra.Reading.TheVariants.{Client}
use Rattle.json_model.specs.declared.fault.ApiFault.{ApiFault}
use Rattle.json_model.specs.declared.fault.ApiFault.TheVariants as api
use Rattle.json_model.specs.declared.fault.FieldFault.{FieldFault}
use Rattle.json_model.specs.declared.fault.FieldFault.TheVariants as fields
use Rattle.json_model.specs.Mapping.{request_of}
use Rattle.text_laws.specs.Values.Fits.{Bytes, RequestFits}

-- the field that a fault names is bytes
abbrev pub FaultBytes : FieldFault → Type 0
FaultBytes (fields.WrongKind name) = Bytes name
FaultBytes (fields.BadNumber name) = Bytes name
FaultBytes (fields.BadBase64 name) = Bytes name
FaultBytes (fields.UnknownField name) = Bytes name
FaultBytes (fields.TwiceNamed name) = Bytes name
FaultBytes (fields.BadEnum name) = Bytes name
FaultBytes fields.NoMemory = Unit {0}

abbrev pub ApiFaultBytes : ApiFault → Type 0
ApiFaultBytes api.NoSuchPath = Unit {0}
ApiFaultBytes api.NotJson = Unit {0}
ApiFaultBytes (api.Unsupported name) = Bytes name
ApiFaultBytes (api.Field why) = FaultBytes why
ApiFaultBytes api.NoMemory = Unit {0}

-- a list has no more members than its text has bytes
abbrev pub PostedRequestsFit : Type 0
PostedRequestsFit = (path body : List ℕ) (q : Request) → Bytes body → length body + 1 ≤ max_number → request_of Client path body ≡ Ok q → RequestFits 127 q

abbrev pub PostRefusalsAreBytes : Type 0
PostRefusalsAreBytes = (path body : List ℕ) (why : ApiFault) → Bytes body → length body + 1 ≤ max_number → request_of Client path body ≡ Err why → ApiFaultBytes why
