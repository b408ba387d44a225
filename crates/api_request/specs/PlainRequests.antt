-- The read of one key, the put of one and the watch that ask nothing else. Only private clauses cite them.
use Rattle.std.specs.Prelude.{ℕ, List, [], ◌++◌, codes, false}
use Rattle.etcd_types.specs.declared.operation.RangeAsk.{RangeAsk}
use Rattle.etcd_types.specs.declared.operation.PutAsk.{PutAsk}
use Rattle.etcd_types.specs.declared.request.WatchAsk.{WatchAsk}

abbrev pub plain_read : List ℕ → RangeAsk
plain_read key = record {
  range = record { key = key; end = [] };
  revision = 0;
  limit = 0;
  serializable = false;
  keys_only = false;
  count_only = false;
  sort = record { order = 0; target = 0; min_mod = 0; max_mod = 0; min_create = 0; max_create = 0 };
}

abbrev pub plain_put : List ℕ → List ℕ → PutAsk
plain_put key value = record { key = key; value = value; lease = 0; prev_kv = false; ignore_lease = false }

abbrev pub plain_watch : List ℕ → List ℕ → WatchAsk
plain_watch key end = record { range = record { key = key; end = end }; start = 0; no_put = false; no_delete = false; prev_kv = false; progress = false }

-- the text of the key, what stands between, and the text of the range's end
abbrev pub range_texts : List ℕ → List ℕ → List ℕ
range_texts key end = key ++ (codes "\",\"range_end\":\"" ++ end)
