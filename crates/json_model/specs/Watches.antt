-- What the fields of a watch request say.
use Rattle.std.specs.Prelude.{ℕ, ◌==◌, ◌||◌, if◌then◌else◌, Bool, false, List, [], Option, Some, None, Result, Ok, Err}
use Rattle.std.specs.List.{list_any}
use Rattle.serde_json.specs.Data.{Members}
use Rattle.etcd_types.specs.declared.request.WatchAsk.{WatchAsk}
use Rattle.json_model.specs.declared.fault.FieldFault.{FieldFault}
use Rattle.json_model.specs.declared.fault.FieldFault.TheVariants.{WrongKind}
use Rattle.json_model.specs.Faults.{◌>>=◌}
use Rattle.json_model.specs.Known.{only}
use Rattle.json_model.specs.FieldNames as names
use Rattle.json_model.specs.Fields.{number_at, flag_at, choice_from, list_at, child_at, is_there, items_or_none, each}
use Rattle.json_model.specs.Tables.{watch_fields, create_fields, filters}
use Rattle.json_model.specs.Requests.{key_range_in}

abbrev pub filters_in : Members → Result (List ℕ) FieldFault
filters_in ms = list_at names.filters ms >>= λ ds. each (choice_from filters names.filters.0) (items_or_none ds)

-- `watch_id` and `fragment`
unfoldable pub unserved_in : Members → Result (ℕ × Bool) FieldFault
unserved_in ms = do
  watch_id ← number_at names.watch_id ms
  fragment ← flag_at names.fragment ms
  Ok (watch_id, fragment)

unfoldable pub create_in : Members → Result WatchAsk FieldFault
create_in ms = do
  known ← only ms create_fields
  range ← key_range_in ms
  start ← number_at names.start_revision ms
  progress ← flag_at names.progress_notify ms
  filters ← filters_in ms
  prev_kv ← flag_at names.prev_kv ms
  unserved ← unserved_in ms
  Ok (record {
    range = range;
    start = start;
    no_put = list_any (λ n. n == 0) filters;
    no_delete = list_any (λ n. n == 1) filters;
    prev_kv = prev_kv;
    progress = progress;
  })

-- where something else is asked for, no watch is named; the request is then refused for what it asks
abbrev pub no_watch : WatchAsk
no_watch = record {
  range = record { key = []; end = [] };
  start = 0;
  no_put = false;
  no_delete = false;
  prev_kv = false;
  progress = false;
}

abbrev pub asks_else : Members → Bool
asks_else ms = is_there names.cancel_request ms || is_there names.progress_request ms

unfoldable pub created_in : Members → Option Members → Result WatchAsk FieldFault
created_in ms None = if asks_else ms then Ok no_watch else Err (WrongKind names.create_request.0)
created_in ms (Some create) = create_in create

unfoldable pub watch_in : Members → Result WatchAsk FieldFault
watch_in ms = do
  known ← only ms watch_fields
  create ← child_at names.create_request ms
  ask ← created_in ms create
  cancel ← child_at names.cancel_request ms
  progress ← child_at names.progress_request ms
  Ok ask
