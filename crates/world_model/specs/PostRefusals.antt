-- How a proxy refuses a path and a body that are no request: gRPC's codes, and the product's own texts.
use Rattle.std.specs.Prelude.{ℕ}
use Rattle.etcd_types.specs.declared.answer.Refusal.{Refusal}
use Rattle.etcd_types.specs.declared.code.TheConstants.{INVALID_ARGUMENT, NOT_FOUND, UNIMPLEMENTED}
use Rattle.json_model.specs.declared.fault.ApiFault.{ApiFault}
use Rattle.json_model.specs.declared.fault.ApiFault.TheVariants as api
use Rattle.json_model.specs.FaultNames.{fault_words}

abbrev pub post_code : ApiFault → ℕ
post_code api.NoSuchPath = NOT_FOUND
post_code api.NotJson = INVALID_ARGUMENT
post_code (api.Unsupported name) = UNIMPLEMENTED
post_code (api.Field why) = INVALID_ARGUMENT
post_code api.NoMemory = INVALID_ARGUMENT

abbrev pub post_refusal : ApiFault → Refusal
post_refusal why = record { code = post_code why; text = fault_words why }
