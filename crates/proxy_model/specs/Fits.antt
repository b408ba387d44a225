-- Which bodies an answer to a transaction can have: as many as the branch that ran has operations, each of its operation's
-- kind, those of a transaction within it likewise. Each record of a range lies in it, and a range of one key has at most one.
-- Headers, counts and previous records are not looked at.
use Rattle.std.specs.Prelude.{Bool, true, false, not, ◌&&◌, ◌||◌, nat_le, if◌then◌else◌, List, [], ◌∷◌, length, Option, None, Some}
use Rattle.std.specs.List.{list_all}
use Rattle.etcd_types.specs.declared.key_range.KeyRange.{KeyRange}
use Rattle.etcd_types.specs.declared.record.Kv.{Kv}
use Rattle.etcd_types.specs.declared.operation.TxnAsk.{TxnAsk}
use Rattle.etcd_types.specs.declared.operation.Op.{Op, Row_of-Op, end_of-Op, more_of-Op}
use Rattle.etcd_types.specs.declared.operation.Op.TheVariants as op
use Rattle.etcd_types.specs.declared.answer.Body.{Body, Row_of-Body}
use Rattle.etcd_types.specs.declared.answer.Body.TheVariants as body
use Rattle.etcd_types.specs.declared.answer.Body.TheBlock.{items-the_row-Body}
use Rattle.etcd_types.specs.Ranges.{is_one, contains}

abbrev pub row_bodies : {m : _} → Row_of-Body m → List Body
row_bodies {m} bodies = items-the_row-Body m bodies

-- which branch of a transaction ran, and its bodies
abbrev pub branch_of : Body → Option (Bool × List Body)
branch_of (body.Range count more kvs) = None
branch_of (body.Put prev) = None
branch_of (body.Delete deleted prevs) = None
branch_of (body.Txn' succeeded m bodies) = Some (succeeded, row_bodies bodies)
branch_of body.Compact = None
branch_of (body.Grant lease ttl) = None
branch_of body.Revoke = None
branch_of (body.KeepAlive lease ttl) = None
branch_of (body.TimeToLive lease ttl granted keys) = None
branch_of (body.Leases leases) = None

abbrev pub are_records_of : KeyRange → List Kv → Bool
are_records_of r kvs = (not (is_one r) || nat_le (length kvs) 1) && list_all (λ kv. contains r kv.key) kvs

abbrev pub fits_range : KeyRange → Body → Bool
fits_range r (body.Range count more kvs) = are_records_of r kvs
fits_range r _ = false

abbrev pub is_put : Body → Bool
is_put (body.Put prev) = true
is_put _ = false

abbrev pub is_delete : Body → Bool
is_delete (body.Delete deleted prevs) = true
is_delete _ = false

-- the bodies of the branch that ran pass its test
abbrev pub fits_branch : Option (Bool × List Body) → (List Body → Bool) → (List Body → Bool) → Bool
fits_branch None success failure = false
fits_branch (Some ran) success failure = if ran.0 then success ran.1 else failure ran.1

abbrev pub fits_first : List Body → (Body → Bool) → (List Body → Bool) → Bool
fits_first [] first rest = false
fits_first (b ∷ bs) first rest = first b && rest bs

abbrev pub is_nothing : List Body → Bool
is_nothing [] = true
is_nothing (b ∷ bs) = false

abbrev mutual
  pub fits : Op → Body → Bool
  fits (op.Range ask) b = fits_range ask.range b
  fits (op.Put ask) b = is_put b
  fits (op.Delete ask) b = is_delete b
  fits (op.Txn' compare m success n failure) b = fits_branch (branch_of b) (λ bs. fits_row success bs) (λ bs. fits_row failure bs)

  pub fits_row : {m : _} → Row_of-Op m → List Body → Bool
  fits_row end_of-Op bs = is_nothing bs
  fits_row (more_of-Op o rest) bs = fits_first bs (λ b. fits o b) (λ cs. fits_row rest cs)

abbrev pub fits_all : List Op → List Body → Bool
fits_all [] bs = is_nothing bs
fits_all (o ∷ os) bs = fits_first bs (fits o) (fits_all os)

abbrev pub fits_txn : TxnAsk → Body → Bool
fits_txn t b = fits_branch (branch_of b) (fits_all t.success) (fits_all t.failure)
