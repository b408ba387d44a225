-- A client's write that a proxy doesn't refuse may be sent, behind whatever it compares; and what its answer says that it left are the
-- operations of the write itself, where it is of single keys.
use Rattle.std.specs.Prelude.{◌≡◌, ◌≢◌, ℕ, true, false, List, None}
use Rattle.etcd_types.specs.declared.answer.Body.{Body}
use Rattle.etcd_types.specs.declared.request.Request.{Request}
use Rattle.std.specs.List.{list_all}
use Rattle.etcd_types.specs.Keys.{is_empty}
use Rattle.etcd_types.specs.Ranges.{is_one}
use Rattle.proxy_model.specs.Guarded.{IsWrite}
use Rattle.proxy_model.specs.SeveralKeys.{written_ranges}
use Rattle.wait_model.specs.Operations.{operations}
use Rattle.core_model.specs.Refusals.{refusal_of}
use Rattle.cache_laws.specs.Guards.Covers.{AreGuards}
use Rattle.cache_laws.specs.Store.CallSteps.{is_unleased}
use Rattle.cache_laws.specs.Store.ToldAnswers.{told_ops}
use Rattle.call_laws.specs.Forms.{MayWrite}

abbrev pub ServedWritesMayBeSent : Type 0
ServedWritesMayBeSent =
    (p : List ℕ) (write : Request) (created : List ℕ → ℕ) → is_empty p ≡ false → IsWrite write → refusal_of p write ≡ None → AreGuards write created
    → ((k : List ℕ) → created k ≢ 0 → is_unleased k write ≡ true) → MayWrite p write created

abbrev pub ToldOpsAreTheWrites : Type 0
ToldOpsAreTheWrites = (p : List ℕ) (write : Request) (b : Body) → list_all is_one (written_ranges write) ≡ true → told_ops p write b ≡ operations write b
