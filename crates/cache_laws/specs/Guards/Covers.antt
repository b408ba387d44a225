-- Which keys a write writes, that it leaves the leasing range alone, and what it may compare.
use Rattle.std.specs.Prelude.{◌≡◌, ℕ, Bool, true, false, not, ◌⊎◌, List}
use Rattle.std.specs.List.{list_all, list_any}
use Rattle.etcd_types.specs.declared.operation.PutAsk.{PutAsk}
use Rattle.etcd_types.specs.declared.operation.DeleteAsk.{DeleteAsk}
use Rattle.etcd_types.specs.declared.operation.Op.TheVariants as op
use Rattle.etcd_types.specs.declared.request.Request.{Request}
use Rattle.etcd_types.specs.declared.request.Request.TheVariants as request
use Rattle.etcd_types.specs.Ranges.{is_one, contains, overlaps}
use Rattle.proxy_model.specs.Prefixes.{leasing_range}
use Rattle.proxy_model.specs.SeveralKeys.{written_ranges}
use Rattle.store_model.specs.Leaves.{all_leaves}

abbrev pub covers : Request → List ℕ → Bool
covers write k = list_any (λ r. contains r k) (written_ranges write)

-- no put and no deletion reaches the leasing range; a range delete goes round it
abbrev pub puts_out : List ℕ → PutAsk → Bool
puts_out p ask = not (contains (leasing_range p) ask.key)

abbrev pub deletes_out : List ℕ → DeleteAsk → Bool
deletes_out p ask = not (overlaps ask.range (leasing_range p))

abbrev pub stays_out : List ℕ → Request → Bool
stays_out p (request.Put ask) = puts_out p ask
stays_out p (request.Delete ask) = not (contains (leasing_range p) ask.range.key)
stays_out p (request.Txn t) = all_leaves (puts_out p) (deletes_out p) (op.Txn t)
stays_out p _ = true

-- what a write compares: of each key by itself a create revision, or of each range that there is none
abbrev pub AreGuards : Request → (List ℕ → ℕ) → Type 0
AreGuards write created = (list_all is_one (written_ranges write) ≡ true) ⊎ ((k : List ℕ) → created k ≡ 0)

-- a write of single keys: a put, a delete of one key, a transaction of such
abbrev pub any_put : PutAsk → Bool
any_put ask = true

abbrev pub deletes_one : DeleteAsk → Bool
deletes_one ask = is_one ask.range

abbrev pub is_single : Request → Bool
is_single (request.Put ask) = true
is_single (request.Delete ask) = deletes_one ask
is_single (request.Txn t) = all_leaves any_put deletes_one (op.Txn t)
is_single write = false

-- so an owner write or an owner transaction may compare any create revisions, and every other write compares 0
abbrev pub SingleWritesAreGuards : Type 0
SingleWritesAreGuards = (write : Request) (created : List ℕ → ℕ) → is_single write ≡ true → AreGuards write created
