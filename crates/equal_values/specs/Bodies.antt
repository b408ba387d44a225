-- Whether two bodies of answers are the same, transactions within transactions too. What is reported stands first, and is compared
-- with what is due.
use Rattle.std.specs.Prelude.{ℕ, ℤ, Bool, true, false, ◌==◌, ◌&&◌, List, [], ◌∷◌, nat_eq, Option}
use Rattle.std.specs.Ordering.{int_eq}
use Rattle.etcd_types.specs.declared.answer.Body.{Body, Row_of-Body, end_of-Body, more_of-Body, items-the_row-Body}
use Rattle.etcd_types.specs.declared.answer.Body.TheVariants.{Range, Put, Delete, Txn', Compact, Grant, Revoke, KeepAlive, TimeToLive, Leases}
use Rattle.etcd_types.specs.declared.record.Kv.{Kv}
use Rattle.etcd_types.specs.Keys.{same}
use Rattle.equal_values.specs.Lists.{same_all, same_flag}
use Rattle.equal_values.specs.Records.{same_kv, same_prev}

-- Whether what is due is a body of this kind with these parts.

abbrev pub is_range : ℕ → Bool → List Kv → Body → Bool
is_range count more kvs (Range n m ks) = count == n && same_flag more m && same_all same_kv kvs ks
is_range count more kvs due = false

abbrev pub is_put : Option Kv → Body → Bool
is_put prev (Put p) = same_prev prev p
is_put prev due = false

abbrev pub is_delete : ℕ → List Kv → Body → Bool
is_delete deleted prevs (Delete n ps) = deleted == n && same_all same_kv prevs ps
is_delete deleted prevs due = false

-- by a test of its parts
abbrev pub is_txn : (Bool → List Body → Bool) → Body → Bool
is_txn test (Txn' succeeded m bodies) = test succeeded (items-the_row-Body _ bodies)
is_txn test due = false

abbrev pub is_compact : Body → Bool
is_compact Compact = true
is_compact due = false

abbrev pub is_grant : ℕ → ℕ → Body → Bool
is_grant lease ttl (Grant l t) = lease == l && ttl == t
is_grant lease ttl due = false

abbrev pub is_revoke : Body → Bool
is_revoke Revoke = true
is_revoke due = false

abbrev pub is_keep_alive : ℕ → ℕ → Body → Bool
is_keep_alive lease ttl (KeepAlive l t) = lease == l && ttl == t
is_keep_alive lease ttl due = false

abbrev pub is_time_to_live : ℕ → ℤ → ℕ → List (List ℕ) → Body → Bool
is_time_to_live lease ttl granted keys (TimeToLive l t g ks) =
    lease == l && int_eq ttl t && granted == g && same_all same keys ks
is_time_to_live lease ttl granted keys due = false

abbrev pub is_leases : List ℕ → Body → Bool
is_leases leases (Leases ls) = same_all nat_eq leases ls
is_leases leases due = false

abbrev mutual
  pub same_body : Body → Body → Bool
  same_body (Range count more kvs) due = is_range count more kvs due
  same_body (Put prev) due = is_put prev due
  same_body (Delete deleted prevs) due = is_delete deleted prevs due
  same_body (Txn' succeeded m bodies) due = is_txn (λ flag rest. same_flag succeeded flag && same_row bodies rest) due
  same_body Compact due = is_compact due
  same_body (Grant lease ttl) due = is_grant lease ttl due
  same_body Revoke due = is_revoke due
  same_body (KeepAlive lease ttl) due = is_keep_alive lease ttl due
  same_body (TimeToLive lease ttl granted keys) due = is_time_to_live lease ttl granted keys due
  same_body (Leases leases) due = is_leases leases due

  pub same_row : {m : _} → Row_of-Body m → List Body → Bool
  same_row end_of-Body [] = true
  same_row end_of-Body (due ∷ more) = false
  same_row (more_of-Body told rest) [] = false
  same_row (more_of-Body told rest) (due ∷ more) = same_body told due && same_row rest more

abbrev pub same_bodies : List Body → List Body → Bool
same_bodies told due = same_all same_body told due

-- the body of a transaction
abbrev pub is_txn_of : Bool → List Body → Body → Bool
is_txn_of succeeded bodies due = is_txn (λ flag rest. same_flag succeeded flag && same_bodies bodies rest) due
