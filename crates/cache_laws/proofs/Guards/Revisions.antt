-- At which revision flat operations leave their records: the newest then. Where nothing was changed, no operation put anything, so
-- that the revision has no part in what is left.
use Rattle.std.proofs.Common.{◌≡◌, ℕ, ◌+◌, true, List, [], ◌∷◌, ◌++◌, length, map, Option, Ok, refl, sym, ◌∙◌, ap, arith}
use Rattle.std.specs.List.{list_all}
use Rattle.std.proofs.lemmas.List.{length-append}
use Rattle.etcd_types.specs.declared.record.Kv.{Kv}
use Rattle.etcd_types.specs.declared.operation.Op.{Op}
use Rattle.etcd_types.specs.declared.operation.Op.TheVariants.{Range, Put, Delete, Txn'}
use Rattle.etcd_types.specs.declared.answer.Body.{Body}
use Rattle.store_model.specs.declared.history.KeyChange.{KeyChange}
use Rattle.store_model.specs.declared.history.KeyChange.TheVariants as change
use Rattle.store_model.specs.History.{History, newest, with_revision}
use Rattle.store_model.specs.Records.{record_now}
use Rattle.store_model.specs.Ranges.{records_now}
use Rattle.store_model.specs.Reads.{read}
use Rattle.store_model.specs.State.{State}
use Rattle.store_model.specs.Transactions.{seen, run, run_all, deletion}
use Rattle.store_model.proofs.RunLemmas.{first_then_ok, same_ok, unchanged_ok, put_ok, delete_ok}
use Rattle.etcd_types.proofs.Bools.{and_first, and_second}
use Rattle.store_model.specs.LeftRecords.{left_op, left_by, is_flat}
use Rattle.store_laws.proofs.Requests.Branches.{left_all}

none_before : (made cs : List KeyChange) → made ++ cs ≡ [] → made ≡ []
none_before [] cs e = refl
none_before (c ∷ made) cs e = absurd (cc)

not_one_more : (made : List KeyChange) (c : KeyChange) → made ++ c ∷ [] ≡ [] → ⊥
not_one_more [] c e = absurd (cc)
not_one_more (d ∷ made) c e = absurd (cc)

record MadeNothing (made : List KeyChange) (ops : List Op) : Type 0 where
  before : made ≡ []
  left : (r r' : ℕ) (k : List ℕ) (old : Option Kv) → left_by r k ops old ≡ left_by r' k ops old

one_made_nothing : (s : State) (op : Op) (made next : List KeyChange) (b : Body) → is_flat op ≡ true → run s op made ≡ Ok (next, b) → next ≡ [] → MadeNothing made (op ∷ [])
one_made_nothing s (Range ask) made next b f e n =
    record { before = (unchanged_ok made (read (seen s made) (newest (seen s made)) s.compacted ask) next b e).0 ∙ n; left = λ r r' k old. refl }
one_made_nothing s (Put ask) made next b f e n =
    let m = put_ok s ask made next b e in
    absurd (not_one_more made (change.Put ask.key ask.value m.lease) (sym m.made_so ∙ n))
one_made_nothing s (Delete ask) made next b f e n =
    record { before = none_before made (map deletion (records_now (seen s made) ask.range)) (sym (delete_ok s ask made next b e) ∙ n); left = λ r r' k old. refl }
one_made_nothing s (Txn' compare m success n failure) made next b f e n' = absurd (cc)

all_made_nothing : (s : State) (ops : List Op) (made next : List KeyChange) (bs : List Body) → list_all is_flat ops ≡ true → run_all s ops made ≡ Ok (next, bs) → next ≡ [] → MadeNothing made ops
all_made_nothing s [] made next bs f e n =
    record { before = ap (λ (x : List KeyChange × List Body). x.0) (same_ok (made, []) (next, bs) e) ∙ n; left = λ r r' k old. refl }
all_made_nothing s (op ∷ ops) made next bs f e n =
    let (mid, b, others, first, later, is) = first_then_ok (run s op made) (λ x. run_all s ops x) next bs e in
    let rest = all_made_nothing s ops mid next others (and_second (is_flat op) _ f) later n in
    let here = one_made_nothing s op made mid b (and_first (is_flat op) _ f) first rest.before in
    record {
      before = here.before;
      left = λ r r' k old. rest.left r r' k (left_op r k op old) ∙ ap (left_by r' k ops) (here.left r r' k old);
    }

pub newest-one_more : (h : History) (c : KeyChange) (cs : List KeyChange) → newest (with_revision h (c ∷ cs)) ≡ newest h + 1
newest-one_more h c cs = let e = length-append h ((c ∷ cs) ∷ []) in let l : length ((c ∷ cs) ∷ []) ≡ 1 = refl in omega arith

-- so it is what they leave at the newest revision then
pub left_at_newest : (s : State) (ops : List Op) (made : List KeyChange) (bs : List Body) (k : List ℕ) → list_all is_flat ops ≡ true → run_all s ops [] ≡ Ok (made, bs)
    → record_now (with_revision s.history made) k ≡ left_by (newest (with_revision s.history made)) k ops (record_now s.history k)
left_at_newest s ops [] bs k f e =
    left_all s ops [] [] bs k f e ∙ (all_made_nothing s ops [] [] bs f e refl).left (length s.history + 2) (newest s.history) k (record_now s.history k)
left_at_newest s ops (c ∷ cs) bs k f e =
    left_all s ops [] (c ∷ cs) bs k f e ∙ ap (λ (n : ℕ). left_by n k ops (record_now s.history k)) (two_more ∙ sym (newest-one_more s.history c cs))
  where
    two_more : length s.history + 2 ≡ newest s.history + 1
    two_more = omega arith
