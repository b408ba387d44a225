-- What runs puts no more keys than it has puts, and each of its deletions takes no more records than were put.
use Rattle.std.proofs.Common.{◌≡◌, ℕ, ◌+◌, ◌*◌, ◌^◌, ◌≤◌, ◌==◌, ◌&&◌, not, Bool, true, false, cond, List, [], ◌∷◌, ◌++◌, length, map, Option, None, Some, Result, Ok, Err, refl, sym, subst, arith, length-append}
use Rattle.etcd_types.specs.declared.answer.Body.{Body}
use Rattle.etcd_types.specs.declared.answer.Body.TheVariants as body
use Rattle.etcd_types.specs.declared.answer.Refusal.{Refusal}
use Rattle.etcd_types.specs.declared.operation.DeleteAsk.{DeleteAsk}
use Rattle.etcd_types.specs.declared.operation.Op.{Op, Row_of-Op, end_of-Op, more_of-Op}
use Rattle.etcd_types.specs.declared.operation.Op.TheVariants as op
use Rattle.etcd_types.specs.declared.operation.PutAsk.{PutAsk}
use Rattle.etcd_types.specs.declared.record.Kv.{Kv}
use Rattle.etcd_types.specs.declared.request.Request.{Request}
use Rattle.store_model.specs.declared.history.KeyChange.{KeyChange}
use Rattle.store_model.specs.declared.history.KeyChange.TheVariants as change
use Rattle.store_model.specs.Compares.{all_hold}
use Rattle.store_model.specs.FirstRefusals.{first_refusal}
use Rattle.store_model.specs.History.{History, newest, with_revision}
use Rattle.store_model.specs.Leases.{all_keys, is_attached, attached, ended}
use Rattle.store_model.specs.Ranges.{records_now}
use Rattle.store_model.specs.Reads.{read}
use Rattle.store_model.specs.Records.{record_now}
use Rattle.store_model.specs.Refusals.{lease_not_found}
use Rattle.store_model.specs.State.{State}
use Rattle.store_model.specs.Transactions.{Ran, RanAll, seen, unchanged, has_lease, put_on, run_put, deletion, run_delete, answered, with_body, first_then, run, run_row}
use Rattle.store_laws.proofs.Requests.StepCases.{op_of, StepCases, exec_by}
use Rattle.text_laws.specs.Stores.Stores.{changes}
use Rattle.text_laws.proofs.Stores.Histories.{changes-with}
use Rattle.text_laws.proofs.Values.Alls.{either, length_map, length_filter}
use Rattle.text_laws.specs.Growth.Growth.{put_keys, keys_put, puts, weight, weights, GrewBy, StepsGrowLittle}
use Rattle.text_laws.proofs.Growth.Puts.{records_were_put}

-- ---- puts are counted

puts-append : (xs ys : List KeyChange) → length (put_keys (xs ++ ys)) ≡ length (put_keys xs) + length (put_keys ys)
puts-append [] ys = omega arith
puts-append (change.Put key value lease ∷ xs) ys = let r = puts-append xs ys in omega (arith, r)
puts-append (change.Delete key ∷ xs) ys = puts-append xs ys

history-append : (h g : History) → puts (h ++ g) ≡ puts h + puts g
history-append [] g = omega arith
history-append (cs ∷ h) g =
    let r = history-append h g in
    let a = length-append (put_keys cs) (keys_put (h ++ g)) in
    let b = length-append (put_keys cs) (keys_put h) in
    omega (arith, r, a, b)

puts-with : (h : History) (made : List KeyChange) → puts (with_revision h made) ≡ puts h + length (put_keys made)
puts-with h [] = omega arith
puts-with h (c ∷ cs) =
    let r = history-append h ((c ∷ cs) ∷ []) in
    let a = length-append (put_keys (c ∷ cs)) [] in
    omega (arith, r, a)

deletions_put : (kvs : List Kv) → length (put_keys (map deletion kvs)) ≡ 0
deletions_put [] = refl
deletions_put (kv ∷ kvs) = deletions_put kvs

-- ---- operations

record Grown (made next : List KeyChange) (w : ℕ) : Type 0 where
  puts : length (put_keys next) ≤ length (put_keys made) + w
  changes : length next ≤ length made + w * 1073741824

abbrev Room : State → List KeyChange → ℕ → Type 0
Room s made w = puts s.history + length (put_keys made) + w ≤ 1073741824

abbrev RanGrown : List KeyChange → ℕ → Ran → Type 0
RanGrown made w (Ok ran) = Grown made ran.0 w
RanGrown made w (Err r) = Unit {0}

abbrev AllGrown : List KeyChange → ℕ → RanAll → Type 0
AllGrown made w (Ok ran) = Grown made ran.0 w
AllGrown made w (Err r) = Unit {0}

stays : (made : List KeyChange) → Grown made made 0
stays made = record { puts = omega arith; changes = omega arith }

unchanged_grown : (made : List KeyChange) (r : Result Body Refusal) → RanGrown made 0 (unchanged made r)
unchanged_grown made (Ok b) = stays made
unchanged_grown made (Err r) = tt

one_put : (made : List KeyChange) (key value : List ℕ) (lease : ℕ) → Grown made (made ++ change.Put key value lease ∷ []) 1
one_put made key value lease =
    let a = puts-append made (change.Put key value lease ∷ []) in
    let b = length-append made (change.Put key value lease ∷ []) in
    record { puts = omega (arith, a); changes = omega (arith, b) }

put_on_grown : (ask : PutAsk) (made : List KeyChange) (old : Option Kv) → RanGrown made 1 (put_on ask made old)
put_on_grown ask made None = either (RanGrown made 1) ask.ignore_lease _ (Ok (made ++ change.Put ask.key ask.value ask.lease ∷ [], body.Put None)) tt (one_put made ask.key ask.value ask.lease)
put_on_grown ask made (Some old) = one_put made ask.key ask.value (cond ask.ignore_lease old.lease ask.lease)

put_grown : (s : State) (ask : PutAsk) (made : List KeyChange) → RanGrown made 1 (run_put s ask made)
put_grown s ask made =
    either (RanGrown made 1) (not (ask.lease == 0) && not (has_lease s.leases ask.lease)) (Err lease_not_found) (put_on ask made (record_now (seen s made) ask.key)) tt (put_on_grown ask made (record_now (seen s made) ask.key))

delete_grown : (s : State) (ask : DeleteAsk) (made : List KeyChange) → Room s made 1 → RanGrown made 1 (run_delete s ask made)
delete_grown s ask made room =
    let gone = records_now (seen s made) ask.range in
    let few = records_were_put (seen s made) ask.range in
    let seen_puts = puts-with s.history made in
    let a = puts-append made (map deletion gone) in
    let b = deletions_put gone in
    let c = length-append made (map deletion gone) in
    let d = length_map deletion gone in
    record { puts = omega (arith, a, b); changes = omega (arith, few, seen_puts, c, d, room) }

answered_grown : (made : List KeyChange) (v w : ℕ) (b : Bool) (r : RanAll) → v ≤ w → AllGrown made v r → RanGrown made w (answered b r)
answered_grown made v w b (Ok ran) l h = let a = h.puts in let c = h.changes in record { puts = omega (arith, a, l); changes = omega (arith, c, l) }
answered_grown made v w b (Err r) l h = tt

with_body_grown : (made mid : List KeyChange) (v w : ℕ) (b : Body) (r : RanAll) → Grown made mid v → AllGrown mid w r → AllGrown made (v + w) (with_body b r)
with_body_grown made mid v w b (Ok ran) g h =
    let a = g.puts in
    let c = g.changes in
    let d = h.puts in
    let e = h.changes in
    record { puts = omega (arith, a, d); changes = omega (arith, c, e) }
with_body_grown made mid v w b (Err r) g h = tt

first_grown : (made : List KeyChange) (v w : ℕ) (r : Ran) (rest : List KeyChange → RanAll) → RanGrown made v r → ((mid : List KeyChange) → Grown made mid v → AllGrown mid w (rest mid)) → AllGrown made (v + w) (first_then r rest)
first_grown made v w (Ok ran) rest g f = with_body_grown made ran.0 v w ran.1 (rest ran.0) g (f ran.0 g)
first_grown made v w (Err r) rest g f = tt

less_room : (s : State) (made : List KeyChange) (v w : ℕ) → v ≤ w → Room s made w → Room s made v
less_room s made v w l r = omega (arith, l, r)

next_room : (s : State) (made mid : List KeyChange) (v w : ℕ) → Grown made mid v → Room s made (v + w) → Room s mid w
next_room s made mid v w g r = let a = g.puts in omega (arith, a, r)

mutual
  run_grown : (s : State) (o : Op) (made : List KeyChange) → Room s made (weight o) → RanGrown made (weight o) (run s o made)
  run_grown s (op.Range ask) made r = unchanged_grown made (read (seen s made) (newest (seen s made)) s.compacted ask)
  run_grown s (op.Put ask) made r = put_grown s ask made
  run_grown s (op.Delete ask) made r = delete_grown s ask made r
  run_grown s (op.Txn' compare m success n failure) made r =
      either (RanGrown made (weights success + weights failure)) (all_hold (seen s made) compare) (answered true (run_row s success made)) (answered false (run_row s failure made))
      (answered_grown made (weights success) (weights success + weights failure) true (run_row s success made) (omega arith) (row_grown s success made (less_room s made (weights success) (weights success + weights failure) (omega arith) r)))
      (answered_grown made (weights failure) (weights success + weights failure) false (run_row s failure made) (omega arith) (row_grown s failure made (less_room s made (weights failure) (weights success + weights failure) (omega arith) r)))

  row_grown : {m : _} (s : State) (ops : Row_of-Op m) (made : List KeyChange) → Room s made (weights ops) → AllGrown made (weights ops) (run_row s ops made)
  row_grown s end_of-Op made r = stays made
  row_grown s (more_of-Op one rest) made r =
      first_grown made (weight one) (weights rest) (run s one made) (λ mid. run_row s rest mid) (run_grown s one made (less_room s made (weight one) (weight one + weights rest) (omega arith) r))
      (λ mid g. row_grown s rest mid (next_room s made mid (weight one) (weights rest) g r))

-- ---- steps

pub still : (w : ℕ) (s t : State) → t.history ≡ s.history → GrewBy w s t
still w s t e = record {
  puts = subst (λ (h : History). puts h ≤ puts s.history + w) (sym e) (omega arith);
  changes = subst (λ (h : History). changes h ≤ changes s.history + (w + 1) * 2 ^ 30) (sym e) (omega arith);
}

ran_grew : (s t : State) (made : List KeyChange) (w : ℕ) → t.history ≡ with_revision s.history made → Grown [] made w → GrewBy w s t
ran_grew s t made w e g =
    let a = g.puts in
    let b = g.changes in
    let c = puts-with s.history made in
    let d = changes-with s.history made in
    record {
      puts = subst (λ (h : History). puts h ≤ puts s.history + w) (sym e) (omega (arith, a, c));
      changes = subst (λ (h : History). changes h ≤ changes s.history + (w + 1) * 2 ^ 30) (sym e) (omega (arith, b, d));
    }

pub ended_grew : (s : State) (number w : ℕ) → puts s.history ≤ 2 ^ 30 → GrewBy w s (ended s number)
ended_grew s number w room =
    let kvs = attached s.history number in
    let few = records_were_put s.history all_keys in
    let filtered = length_filter (is_attached number) (records_now s.history all_keys) in
    let a = puts-with s.history (map deletion kvs) in
    let b = deletions_put kvs in
    let c = changes-with s.history (map deletion kvs) in
    let d = length_map deletion kvs in
    record { puts = omega (arith, a, b); changes = omega (arith, few, filtered, c, d, room) }

-- what runs weighs at most so much
abbrev Light : ℕ → Request → Type 0
Light w q = (o : Op) → op_of q ≡ Some o → first_refusal o ≡ None → weight o ≤ w

abbrev Grows : ℕ → State → Request → State → Type 0
Grows w s q t = Light w q → puts s.history + w ≤ 2 ^ 30 → GrewBy w s t

so_grown : (made : List KeyChange) (b : Body) (w : ℕ) (r : Ran) → r ≡ Ok (made, b) → RanGrown [] w r → Grown [] made w
so_grown made b w r e h = subst (RanGrown [] w) e h

runs_grown : (w : ℕ) (s : State) (o : Op) (made : List KeyChange) (b : Body) → weight o ≤ w → run s o [] ≡ Ok (made, b) → puts s.history + w ≤ 2 ^ 30 → Grown [] made w
runs_grown w s o made b l g room =
    let x = so_grown made b (weight o) (run s o []) g (run_grown s o [] (omega (arith, l, room))) in
    let a = x.puts in
    let c = x.changes in
    record { puts = omega (arith, a, l); changes = omega (arith, c, l) }

step_cases : (w : ℕ) (s : State) (member : ℕ) → StepCases s member (λ q x. Grows w s q x.0)
step_cases w s member = record {
  refuses = λ q r k light room. still w s s refl;
  runs = λ q o made b e n f g light room. ran_grew s _ made w refl (runs_grown w s o made b (light o e f) g room);
  reads = λ ask b e light room. still w s s refl;
  compacts = λ revision physical a b light room. still w s (record s { compacted = revision }) refl;
  grants = λ ttl number e light room. still w s _ refl;
  revokes = λ number e light room. ended_grew s number w (omega (arith, room));
  keeps_alive = λ number light room. still w s s refl;
  tells = λ number keys light room. still w s s refl;
  lists = λ light room. still w s s refl;
}

pub steps_grow_little : StepsGrowLittle
steps_grow_little w s member q light room = exec_by s member (λ q x. Grows w s q x.0) (step_cases w s member) q light room
