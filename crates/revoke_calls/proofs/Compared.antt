-- The list of the entries that a write compares says of each key what the write compares there.
use Rattle.std.proofs.Common.{◌≡◌, ℕ, Bool, true, false, cond, ◌&&◌, ◌||◌, List, [], ◌∷◌, ◌++◌, Option, None, Some, refl, sym, ◌∙◌, ap}
use Rattle.std.specs.List.{list_all}
use Rattle.etcd_types.specs.declared.key_range.KeyRange.{KeyRange}
use Rattle.etcd_types.specs.Keys.{same}
use Rattle.etcd_types.specs.Ranges.{contains, is_one}
use Rattle.etcd_types.proofs.Bools.{and_first, and_second}
use Rattle.etcd_types.proofs.KeyOrder.{same-equal}
use Rattle.proxy_model.specs.declared.lease.Entry.{Entry}
use Rattle.proxy_model.specs.declared.ownership.Owned.{Owned}
use Rattle.proxy_model.specs.Guarded.{create_or, guarded}
use Rattle.etcd_types.specs.declared.request.Request.{Request}
use Rattle.proxy_model.specs.Keyed.{Keyed, at}
use Rattle.proxy_model.specs.LeaseTable.{is_writing, is_writing_phase}
use Rattle.proxy_model.proofs.KeyedLaws.{same-turned}
use Rattle.wait_model.specs.declared.write.Write.{Write}
use Rattle.wait_model.specs.Covers.{covered, covers}
use Rattle.wait_model.specs.Sent.{create_or_zero, compared}
use Rattle.wait_model.specs.Stages.{is_owner}
use Rattle.wait_model.proofs.Covering.{one_key}
use Rattle.revoke_calls.specs.Jobs.{owned_if, owned_over}

-- what is compared at an entry, where the key is one of these
abbrev at_entry : Bool → Option Entry → ℕ
at_entry c o = cond (c && is_writing o) (create_or_zero o) 0

off : (c : Bool) (n : ℕ) → cond (c && false) n 0 ≡ 0
off true n = refl
off false n = refl

here : (k j : List ℕ) (c : Bool) (o : Option Entry) (rest : List Owned) → same j k ≡ true → create_or 0 rest k ≡ at_entry c o → create_or 0 (owned_if j o ++ rest) k ≡ at_entry true o
here k j c None rest t h = h ∙ off c 0
here k j c (Some e) rest t h = by_test (is_writing_phase e.phase) h
  where
    by_test : (b : Bool) → create_or 0 rest k ≡ cond (c && b) e.create 0 → create_or 0 (cond b (record { key = j; create = e.create } ∷ []) [] ++ rest) k ≡ cond b e.create 0
    by_test true i = ap (λ b. cond b e.create (create_or 0 rest k)) t
    by_test false i = i ∙ off c e.create

away : (k j : List ℕ) (o : Option Entry) (rest : List Owned) → same j k ≡ false → create_or 0 (owned_if j o ++ rest) k ≡ create_or 0 rest k
away k j None rest t = refl
away k j (Some e) rest t = by_test (is_writing_phase e.phase)
  where
    by_test : (b : Bool) → create_or 0 (cond b (record { key = j; create = e.create } ∷ []) [] ++ rest) k ≡ create_or 0 rest k
    by_test true = ap (λ b. cond b e.create (create_or 0 rest k)) t
    by_test false = refl

over_ranges : (es : Keyed Entry) (rs : List KeyRange) (k : List ℕ) → list_all is_one rs ≡ true → create_or 0 (owned_over es rs) k ≡ at_entry (covered rs k) (at es k)
over_ranges es [] k a = refl
over_ranges es (r ∷ rs) k a =
    let rest = over_ranges es rs k (and_second (is_one r) (list_all is_one rs) a) in
    let one = one_key r k (and_first (is_one r) (list_all is_one rs) a) ∙ same-turned k r.key in
    elim (same r.key k) as (λ b. same r.key k ≡ b → create_or 0 (owned_over es (r ∷ rs)) k ≡ at_entry (contains r k || covered rs k) (at es k)) [
      | true ↦ λ t. ap (λ (j : List ℕ). create_or 0 (owned_if r.key (at es j) ++ owned_over es rs) k) (same-equal r.key k t) ∙ here k r.key (covered rs k) (at es k) (owned_over es rs) t rest ∙ ap (λ b. at_entry (b || covered rs k) (at es k)) (sym (one ∙ t))
      | false ↦ λ t. away k r.key (at es r.key) (owned_over es rs) t ∙ rest ∙ ap (λ b. at_entry (b || covered rs k) (at es k)) (sym (one ∙ t))
    ] refl

-- an owner compares the entries of its keys that are being written
pub owner_compares : (es : Keyed Entry) (w : Write) (k : List ℕ) → is_owner w.stage ≡ true → list_all is_one w.ranges ≡ true → create_or 0 (owned_over es w.ranges) k ≡ compared w es k
owner_compares es w k o a =
    over_ranges es w.ranges k a ∙ ap (λ b. cond ((b && covers w k) && is_writing (at es k)) (create_or_zero (at es k)) 0) (sym o)

-- another write compares none
pub none_compared : (es : Keyed Entry) (w : Write) (k : List ℕ) → is_owner w.stage ≡ false → 0 ≡ compared w es k
none_compared es w k o = ap (λ b. cond ((b && covers w k) && is_writing (at es k)) (create_or_zero (at es k)) 0) (sym o)

-- what is sent depends on what is compared at each key alone
pub same_txn : (prefix : List ℕ) (ask : Request) (f g : List ℕ → ℕ) → ((k : List ℕ) → f k ≡ g k) → guarded prefix ask f ≡ guarded prefix ask g
same_txn prefix ask f g h = λ i. guarded prefix ask (λ k. h k i)
