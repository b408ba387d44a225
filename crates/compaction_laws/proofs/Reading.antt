-- Two histories of which the same is kept are read alike: now, at each revision from the compaction on, and with what a request
-- has changed so far.
use Rattle.std.proofs.Common.{◌≡◌, ℕ, ◌+◌, ◌-◌, ◌≤◌, ◌<◌, ◌==◌, nat_lt, ◌&&◌, not, Bool, true, false, cond, min, List, [], ◌∷◌, ◌++◌, None, Ok, length, take, refl, sym, ◌∙◌, ap, arith, ◌⊎◌, inl, inr, ltb-false, leb-true, leb-false, nat_le, filter, length-append, length-take}
use Rattle.std.proofs.lemmas.List.{take-append-le, take-take, take_all}
use Rattle.etcd_types.specs.declared.record.Kv.{Kv}
use Rattle.etcd_types.specs.declared.key_range.KeyRange.{KeyRange}
use Rattle.etcd_types.specs.declared.operation.RangeAsk.{RangeAsk}
use Rattle.store_model.specs.declared.history.KeyChange.{KeyChange}
use Rattle.store_model.specs.History.{History, up_to_revision, with_revision}
use Rattle.store_model.specs.Records.{after_changes, record_now, record_at}
use Rattle.store_model.specs.Ranges.{records_now}
use Rattle.store_model.specs.Leases.{is_attached, all_keys}
use Rattle.store_model.specs.Reads.{read, asked_history, is_unsupported, range_body}
use Rattle.store_model.proofs.HistoryLemmas.{record_now-with_revision}
use Rattle.compaction_model.specs.declared.version.Version.{Version}
use Rattle.compaction_model.specs.Versions.{last_left, up_to}
use Rattle.compaction_model.proofs.KeptProofs.{kept_give_earlier}
use Rattle.compaction_laws.specs.Alike.{KeepSame}
use Rattle.compaction_laws.specs.Laws.{RangesByKept, EarlierRangesByKept, AttachedByKept}
use Rattle.compaction_laws.proofs.SameRecords.{same_records}

-- as long, and with the same records at each revision from this one on
pub record AgreeFrom (c : ℕ) (h g : History) : Type 0 where
  pub as_long : length h ≡ length g
  pub records : (r : ℕ) (k : List ℕ) → c ≤ r → record_at h r k ≡ record_at g r k

pub kept_agree : (c : ℕ) (h g : History) → KeepSame c h g → AgreeFrom c h g
kept_agree c h g a = record {
  as_long = let e : length h + 1 ≡ length g + 1 = a.newest in omega (arith, e);
  records = λ r k le.
      sym (kept_give_earlier h c r k le) ∙ ap (λ (vs : List Version). last_left (up_to r vs) None) (a.versions k) ∙ kept_give_earlier g c r k le;
}

past_end : (h : History) (r : ℕ) (k : List ℕ) → length h ≤ r - 1 → record_at h r k ≡ record_now h k
past_end h r k le = ap (λ (l : History). record_now l k) (take_all (r - 1) h le)

pub now_agrees : (c : ℕ) (h g : History) → AgreeFrom c h g → (k : List ℕ) → record_now h k ≡ record_now g k
now_agrees c h g a k =
    let long = a.as_long in
    let le : c ≤ c + length h + 1 = omega arith in
    let far : length h ≤ c + length h + 1 - 1 = omega arith in
    let near : length g ≤ c + length h + 1 - 1 = omega (arith, long) in
    sym (past_end h (c + length h + 1) k far) ∙ a.records (c + length h + 1) k le ∙ past_end g (c + length h + 1) k near

-- with what a request has changed
pub grown_agrees : (c : ℕ) (h g : History) → AgreeFrom c h g → (made : List KeyChange) → AgreeFrom c (with_revision h made) (with_revision g made)
grown_agrees c h g a [] = a
grown_agrees c h g a (d ∷ ds) =
    let long = a.as_long in
    let more : length (h ++ (d ∷ ds) ∷ []) ≡ length h + 1 = length-append h ((d ∷ ds) ∷ []) in
    let most : length (g ++ (d ∷ ds) ∷ []) ≡ length g + 1 = length-append g ((d ∷ ds) ∷ []) in
    record {
      as_long = omega (arith, long, more, most);
      records = λ r k le. by_revision r k le (either r (length h));
    }
  where
    either : (a b : ℕ) → (a - 1 ≤ b) ⊎ (b < a - 1)
    either a b = by_test (nat_le (a - 1) b) refl
      where
        by_test : (t : Bool) → nat_le (a - 1) b ≡ t → (a - 1 ≤ b) ⊎ (b < a - 1)
        by_test true e = inl (leb-true (a - 1) b e)
        by_test false e = inr (leb-false (a - 1) b e)

    new : (k : List ℕ) → record_now (h ++ (d ∷ ds) ∷ []) k ≡ record_now (g ++ (d ∷ ds) ∷ []) k
    new k =
        record_now-with_revision h k (d ∷ ds)
        ∙ ap (λ n. after_changes (n + 2) k (d ∷ ds) (record_now h k)) a.as_long
        ∙ ap (after_changes (length g + 2) k (d ∷ ds)) (now_agrees c h g a k)
        ∙ sym (record_now-with_revision g k (d ∷ ds))

    by_revision : (r : ℕ) (k : List ℕ) → c ≤ r → (r - 1 ≤ length h) ⊎ (length h < r - 1) → record_at (h ++ (d ∷ ds) ∷ []) r k ≡ record_at (g ++ (d ∷ ds) ∷ []) r k
    by_revision r k le (inl f) =
        let long = a.as_long in
        let near : r - 1 ≤ length g = omega (arith, f, long) in
        ap (λ (l : History). record_now l k) (take-append-le (r - 1) h ((d ∷ ds) ∷ []) f)
        ∙ a.records r k le
        ∙ ap (λ (l : History). record_now l k) (sym (take-append-le (r - 1) g ((d ∷ ds) ∷ []) near))
    by_revision r k le (inr f) =
        let long = a.as_long in
        let more : length (h ++ (d ∷ ds) ∷ []) ≡ length h + 1 = length-append h ((d ∷ ds) ∷ []) in
        let most : length (g ++ (d ∷ ds) ∷ []) ≡ length g + 1 = length-append g ((d ∷ ds) ∷ []) in
        let far : length (h ++ (d ∷ ds) ∷ []) ≤ r - 1 = omega (arith, more, f) in
        let near : length (g ++ (d ∷ ds) ∷ []) ≤ r - 1 = omega (arith, most, long, f) in
        past_end (h ++ (d ∷ ds) ∷ []) r k far ∙ new k ∙ sym (past_end (g ++ (d ∷ ds) ∷ []) r k near)

-- as it was at a revision
pub earlier_agrees : (c : ℕ) (h g : History) → AgreeFrom c h g → (b : ℕ) → c ≤ b → AgreeFrom c (up_to_revision h b) (up_to_revision g b)
earlier_agrees c h g a b le = record {
  as_long = length-take (b - 1) h ∙ ap (min (b - 1)) a.as_long ∙ sym (length-take (b - 1) g);
  records = λ r k f. by_order r k f (up_to-either r b);
}
  where
    up_to-either : (a b : ℕ) → (a ≤ b) ⊎ (b ≤ a)
    up_to-either a b = by_test (nat_le a b) refl
      where
        by_test : (t : Bool) → nat_le a b ≡ t → (a ≤ b) ⊎ (b ≤ a)
        by_test true e = inl (leb-true a b e)
        by_test false e = let f : b < a = leb-false a b e in inr (omega (arith, f))

    below : (l : History) (r : ℕ) (k : List ℕ) → r ≤ b → record_at (up_to_revision l b) r k ≡ record_at l r k
    below l r k f = let g : r - 1 ≤ b - 1 = omega (arith, f) in ap (λ (m : History). record_now m k) (take-take (r - 1) (b - 1) l g)

    above : (l : History) (r : ℕ) (k : List ℕ) → b ≤ r → record_at (up_to_revision l b) r k ≡ record_at l b k
    above l r k f =
        let long = length-take (b - 1) l in
        let g : length (take (b - 1) l) ≤ r - 1 = omega (arith, f, long) in
        ap (λ (m : History). record_now m k) (take_all (r - 1) (take (b - 1) l) g)

    by_order : (r : ℕ) (k : List ℕ) → c ≤ r → (r ≤ b) ⊎ (b ≤ r) → record_at (up_to_revision h b) r k ≡ record_at (up_to_revision g b) r k
    by_order r k f (inl e) = below h r k e ∙ a.records r k f ∙ sym (below g r k e)
    by_order r k f (inr e) = above h r k e ∙ a.records b k le ∙ sym (above g r k e)

-- ranges

pub ranges_agree : (c : ℕ) (h g : History) → AgreeFrom c h g → (range : KeyRange) → records_now h range ≡ records_now g range
ranges_agree c h g a range = same_records h g (now_agrees c h g a) range

pub ranges_by_kept : RangesByKept
ranges_by_kept c h g a range = ranges_agree c h g (kept_agree c h g a) range

pub earlier_ranges_by_kept : EarlierRangesByKept
earlier_ranges_by_kept c h g a r range le = same_records (up_to_revision h r) (up_to_revision g r) (λ k. (kept_agree c h g a).records r k le) range

pub attached_by_kept : AttachedByKept
attached_by_kept c h g a lease = ap (λ (kvs : List Kv). filter (is_attached lease) kvs) (ranges_by_kept c h g a all_keys)

asked_agree : (c : ℕ) (h g : History) → AgreeFrom c h g → (revision : ℕ) → not (revision == 0) && nat_lt revision c ≡ false
    → (k : List ℕ) → record_now (asked_history h revision) k ≡ record_now (asked_history g revision) k
asked_agree c h g a revision e k = by_zero (revision == 0) refl
  where
    by_zero : (b : Bool) → (revision == 0) ≡ b → record_now (cond b h (up_to_revision h revision)) k ≡ record_now (cond b g (up_to_revision g revision)) k
    by_zero true f = now_agrees c h g a k
    by_zero false f =
        let below : nat_lt revision c ≡ false = ap (λ (b : Bool). not b && nat_lt revision c) (sym f) ∙ e in
        a.records revision k (ltb-false revision c below)

unless_same : {A : Type 0} (b : Bool) (x y z : A) → (b ≡ false → y ≡ z) → cond b x y ≡ cond b x z
unless_same true x y z f = refl
unless_same false x y z f = f refl

pub reads_agree : (c : ℕ) (h g : History) → AgreeFrom c h g → (latest : ℕ) (ask : RangeAsk) → read h latest c ask ≡ read g latest c ask
reads_agree c h g a latest ask =
    unless_same (nat_lt latest ask.revision) _ _ _
    (λ e. unless_same (not (ask.revision == 0) && nat_lt ask.revision c) _ _ _
    (λ f. unless_same (is_unsupported ask.sort) _ _ _
    (λ u. ap (λ (kvs : List Kv). Ok (range_body ask kvs))
    (same_records (asked_history h ask.revision) (asked_history g ask.revision) (asked_agree c h g a ask.revision f) ask.range))))
