-- What one item tells of a call that is sent.
use Rattle.std.specs.Prelude.{ℕ, false, ◌==◌, if◌then◌else◌, List, Option, None, Some}
use Rattle.etcd_types.specs.declared.request.Request.{Request}
use Rattle.script_text.specs.declared.item.Item.{Item}
use Rattle.script_text.specs.declared.item.Item.TheVariants as item
use Rattle.world_model.specs.declared.sent_call.SentCall.{SentCall}
use Rattle.world_model.specs.Lives.{clock_of}

abbrev pub sent_at : ℕ → ℕ → ℕ → Request → SentCall
sent_at p member clock q =
    record { proxy = p; life = 0; own = 0; member = member; request = q; clock = clock; executed = None; settled = false }

abbrev pub sent_in : ℕ → List Item → Item → Option SentCall
sent_in call before (item.Sent p number member ticket q) = if number == call then Some (sent_at p member (clock_of p before) q) else None
sent_in call before _ = None
