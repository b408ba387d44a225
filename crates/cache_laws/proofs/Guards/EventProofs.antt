-- An event of an ownership key tells the key's record at its revision.
use Rattle.std.proofs.Common.{◌≡◌, ℕ, ◌+◌, ◌-◌, ◌≤◌, ◌==◌, Bool, true, false, cond, not, List, [], ◌∷◌, ◌++◌, length, take, drop, Option, None, Some, inl, inr, refl, sym, ◌∙◌, ap, subst, arith, append_assoc}
use Rattle.std.specs.List.{list_all}
use Rattle.std.proofs.Math.Seq.{take-append-add}
use Rattle.std.proofs.lemmas.Bool.Decides.{nat_tests}
use Rattle.std.proofs.lemmas.List.{length-append, take-append-drop}
use Rattle.std.proofs.lemmas.List.Folds.{list_all-append}
use Rattle.etcd_types.proofs.Bools.{and_first, and_second, or_either}
use Rattle.etcd_types.proofs.KeyOrder.{same-itself}
use Rattle.etcd_types.specs.declared.record.Kv.{Kv}
use Rattle.etcd_types.specs.declared.watch.Event.{Event}
use Rattle.etcd_types.specs.Ranges.{contains}
use Rattle.etcd_types.specs.Records.{after_put}
use Rattle.store_model.specs.declared.history.KeyChange.{KeyChange}
use Rattle.store_model.specs.declared.history.KeyChange.TheVariants as change
use Rattle.store_model.specs.Events.{event_of, events_of_changes, events_after}
use Rattle.store_model.specs.History.{History, newest, with_revision, up_to_revision, changed_key}
use Rattle.store_model.specs.Records.{record_now, record_at}
use Rattle.store_model.proofs.HistoryLemmas.{record_now-with_revision}
use Rattle.proxy_model.specs.Prefixes.{leasing_range}
use Rattle.cache_laws.specs.Guards.OwnerEvents.{puts_no_owner, puts_alone, TellsRecord, OwnerEventsTell}
use Rattle.cache_laws.proofs.Guards.Elements.{Each, each_append, of_each}

abbrev Tells : History → Event → Type 0
Tells h e = TellsRecord h e.change

-- a revision that puts no ownership key

no_owner_put : (p : List ℕ) (h : History) (revision : ℕ) (old : Option Kv) (c : KeyChange) → puts_no_owner p c ≡ true → contains (leasing_range p) (changed_key c) ≡ true → Tells h (event_of revision old c)
no_owner_put p h revision old (change.Put key value lease) e i = absurd (let f : not (contains (leasing_range p) key) ≡ false = ap not i in cc)
no_owner_put p h revision old (change.Delete key) e i = tt

none_put : (p : List ℕ) (h before : History) (made cs : List KeyChange) → list_all (puts_no_owner p) cs ≡ true → Each (Tells h) (events_of_changes (leasing_range p) before made cs)
unfolding Each
none_put p h before made [] a = tt
none_put p h before made (c ∷ cs) a = by_test (contains (leasing_range p) (changed_key c)) refl (none_put p h before (made ++ c ∷ []) cs (and_second (puts_no_owner p c) _ a))
  where
    by_test : (t : Bool) → contains (leasing_range p) (changed_key c) ≡ t → Each (Tells h) (events_of_changes (leasing_range p) before (made ++ c ∷ []) cs)
        → Each (Tells h) (cond t (event_of (newest before + 1) (record_now (with_revision before made) (changed_key c)) c ∷ events_of_changes (leasing_range p) before (made ++ c ∷ []) cs) (events_of_changes (leasing_range p) before (made ++ c ∷ []) cs))
    by_test true e rest = (no_owner_put p h (newest before + 1) (record_now (with_revision before made) (changed_key c)) c (and_first (puts_no_owner p c) _ a) e, rest)
    by_test false e rest = rest

-- a revision of one change

put_key : (old : Option Kv) (k v : List ℕ) (lease revision : ℕ) → (after_put old k v lease revision).key ≡ k
put_key None k v lease revision = refl
put_key (Some kv) k v lease revision = refl

put_revision : (old : Option Kv) (k v : List ℕ) (lease revision : ℕ) → (after_put old k v lease revision).modified ≡ revision
put_revision None k v lease revision = refl
put_revision (Some kv) k v lease revision = refl

at_its_revision : (before rest : History) (c : KeyChange) → up_to_revision (before ++ (c ∷ []) ∷ rest) (newest before + 1) ≡ with_revision before (c ∷ [])
at_its_revision before rest c =
    (let e : newest before + 1 - 1 ≡ length before + 1 = omega arith in ap (λ (n : ℕ). take n (before ++ (c ∷ []) ∷ rest)) e) ∙ take-append-add before ((c ∷ []) ∷ rest) 1

put_there : (before rest : History) (key value : List ℕ) (lease : ℕ)
    → record_at (before ++ (change.Put key value lease ∷ []) ∷ rest) (newest before + 1) key ≡ Some (after_put (record_now before key) key value lease (newest before + 1))
put_there before rest key value lease =
    let old = record_now before key in
    let at : length before + 2 ≡ newest before + 1 = omega arith in
    ap (λ (h : History). record_now h key) (at_its_revision before rest (change.Put key value lease)) ∙ record_now-with_revision before key (change.Put key value lease ∷ [])
    ∙ ap (λ (t : Bool). cond t (Some (after_put old key value lease (length before + 2))) old) (same-itself key)
    ∙ ap (λ (n : ℕ). Some (after_put old key value lease n)) at

past : (before rest : History) (cs : List KeyChange) → newest before + 1 ≤ newest (before ++ cs ∷ rest)
past before rest cs = let e = length-append before (cs ∷ rest) in let l : length (cs ∷ rest) ≡ length rest + 1 = omega arith in omega arith

one_told : (before rest : History) (c : KeyChange) → Tells (before ++ (c ∷ []) ∷ rest) (event_of (newest before + 1) (record_now before (changed_key c)) c)
one_told before rest (change.Put key value lease) =
    let old = record_now before key in
    let h = before ++ (change.Put key value lease ∷ []) ∷ rest in
    let kv = after_put old key value lease (newest before + 1) in
    let at = put_revision old key value lease (newest before + 1) in (
      subst (λ (n : ℕ). n ≤ newest h) (sym at) (past before rest (change.Put key value lease ∷ [])),
      ap (λ (n : ℕ). record_at h n kv.key) at ∙ ap (record_at h (newest before + 1)) (put_key old key value lease (newest before + 1)) ∙ put_there before rest key value lease,
    )
one_told before rest (change.Delete key) = tt

one_change : (p : List ℕ) (before rest : History) (c : KeyChange) → Each (Tells (before ++ (c ∷ []) ∷ rest)) (events_of_changes (leasing_range p) before [] (c ∷ []))
unfolding Each
one_change p before rest c = by_test (contains (leasing_range p) (changed_key c))
  where
    by_test : (t : Bool) → Each (Tells (before ++ (c ∷ []) ∷ rest)) (cond t (event_of (newest before + 1) (record_now before (changed_key c)) c ∷ []) [])
    by_test true = (one_told before rest c, tt)
    by_test false = tt

is_number : (a b : ℕ) → (a == b) ≡ true → a ≡ b
is_number a b e = grind (arith, nat_tests)

single : (p : List ℕ) (before rest : History) (cs : List KeyChange) → (length cs == 1) ≡ true → Each (Tells (before ++ cs ∷ rest)) (events_of_changes (leasing_range p) before [] cs)
single p before rest [] e = absurd (let n = is_number 0 1 e in omega arith)
single p before rest (c ∷ []) e = one_change p before rest c
single p before rest (c ∷ d ∷ cs) e = absurd (let n = is_number (length (c ∷ d ∷ cs)) 1 e in omega arith)

-- all revisions

of_revision : (p : List ℕ) (before rest : History) (cs : List KeyChange) → puts_alone p cs ≡ true → Each (Tells (before ++ cs ∷ rest)) (events_of_changes (leasing_range p) before [] cs)
of_revision p before rest cs a =
    elim (or_either (list_all (puts_no_owner p) cs) _ a) [
      | inl e ↦ none_put p (before ++ cs ∷ rest) before [] cs e
      | inr e ↦ single p before rest cs e
    ]

all_told : (p : List ℕ) (before rest : History) → list_all (puts_alone p) rest ≡ true → Each (Tells (before ++ rest)) (events_after (leasing_range p) before rest)
unfolding Each
all_told p before [] a = tt
all_told p before (cs ∷ rest) a =
    each_append (Tells (before ++ cs ∷ rest)) (events_of_changes (leasing_range p) before [] cs) (events_after (leasing_range p) (before ++ cs ∷ []) rest)
    (of_revision p before rest cs (and_first (puts_alone p cs) _ a))
    (subst (λ (h : History). Each (Tells h) (events_after (leasing_range p) (before ++ cs ∷ []) rest)) (append_assoc before (cs ∷ []) rest)
    (all_told p (before ++ cs ∷ []) rest (and_second (puts_alone p cs) _ a)))

pub owner_events_tell : OwnerEventsTell
owner_events_tell p h from e alone c =
    let before = take (from - 2) h in
    let rest = drop (from - 2) h in
    let whole : before ++ rest ≡ h = take-append-drop (from - 2) h in
    let later = and_second (list_all (puts_alone p) before) _ (sym (list_all-append (puts_alone p) before rest) ∙ ap (list_all (puts_alone p)) whole ∙ alone) in
    subst (λ (g : History). Tells g e) whole (of_each (Tells (before ++ rest)) (events_after (leasing_range p) before rest) e (all_told p before rest later) c)
