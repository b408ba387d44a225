-- What stays the same of a place, whatever steps are made: its hub, its hosts, how many bytes a message of a watch may have, and how
-- refusals are written.
use Rattle.std.specs.Prelude.{ℕ, List, []}
use Rattle.std.specs.Arc.{arc_value}
use Rattle.turn_hub.specs.Known.{Known}
use Rattle.turn_hub.specs.declared.view.Opening.{Opening}
use Rattle.core_model.specs.State.{Core}
use Rattle.http_talk.specs.declared.form.RefusalForm.{RefusalForm}
use Rattle.server_model.specs.Steps.{Step}
use Rattle.proxy_parts.specs.declared.place.Place.{Place}

abbrev pub home_of : Place → Known (Opening Core) Step × List (List ℕ) × ℕ × RefusalForm
home_of place = (record place.pass { seen = []; own = [] }, arc_value place.hosts, place.message_limit, place.form)
