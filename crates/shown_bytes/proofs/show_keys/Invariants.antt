-- Up to here.
use Rattle.std.proofs.Common.{◌≡◌, true, take}
use Rattle.std.specs.List.{list_all}
use Rattle.proxy_model.specs.Prefixes.{are_bytes}
use Rattle.shown_bytes.proofs.show_keys.Given as goal

abbrev pub invariant-loop-kv : goal.invariant-loop-kv
invariant-loop-kv l = list_all (λ kv. are_bytes kv.key) (take l.kv-index l.kvs) ≡ true
