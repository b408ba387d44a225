-- The stage of a request that is passed on, by what the proxy has of calls and requests (the machine's definition, without the rest
-- of its state).
use Rattle.std.specs.Prelude.{ℕ, List}
use Rattle.etcd_types.specs.declared.request.Request.{Request}
use Rattle.etcd_types.specs.declared.request.Request.TheVariants as request
use Rattle.read_model.specs.declared.asked.Asked.{Asked}
use Rattle.read_model.specs.declared.asked.Stage.{Stage}
use Rattle.read_model.specs.PlainRead.{called}
use Rattle.core_model.specs.declared.out_call.OutCall.{OutCall}
use Rattle.core_model.specs.Groups.{group_stage}

abbrev pub stage_of : ℕ → Request → List OutCall → List Asked → Stage
stage_of step (request.KeepAlive lease) out asks = group_stage step lease out asks
stage_of step _ out asks = called step
