-- Which rule is broken first, by what was tested.
use Rattle.std.proofs.Common.{◌≡◌, ℕ, zero, suc, ◌≤◌, Bool, true, false, not, cond, ◌&&◌, nat_le, arith, List, [], ◌∷◌, ◌++◌, Option, None, Some, Result, Ok, Err, OnOk, IfErr, refl, sym, ◌∙◌, ap, subst}
use Rattle.std.proofs.lemmas.Bool.{le-leb}
use Rattle.etcd_types.specs.declared.answer.Answer.{Answer}
use Rattle.etcd_types.specs.declared.request.Request.{Request}
use Rattle.etcd_types.specs.declared.watch.WatchItem.{WatchItem}
use Rattle.etcd_types.proofs.Bools.{and_both}
use Rattle.script_text.specs.declared.item.Item.{Item}
use Rattle.script_text.specs.declared.item.Item.TheVariants as item
use Rattle.watch_model.specs.Queues.{is_nil}
use Rattle.world_model.specs.Answers.{Seen, seen, saw}
use Rattle.audit_model.specs.declared.fault.AuditFault.{AuditFault}
use Rattle.audit_model.specs.declared.fault.AuditFault.TheVariants as fault
use Rattle.audit_model.specs.Answers.{answers_so, pushes_so}
use Rattle.audit_model.specs.Broken.{breaks_clients, breaks_store, broken, first_of}
use Rattle.audit_model.specs.Order.{about, fits_behind, is_first, in_order, store_takes}
use Rattle.audit_clients.specs.declared.given.Given.{Given}
use Rattle.audit_clients.specs.Given.{Gave}
use Rattle.audit_clients.proofs.StoreGrows.{seen_next}
use Rattle.audit_text.specs.declared.made.Made.{Made}
use Rattle.audit_text.specs.Standing.{IsFaultOf, MadeBy, Makes, MakesAll, Refuses}

-- of the tests, one behind another
abbrev by_tests : Bool → Bool → Bool → AuditFault → AuditFault → AuditFault → Option AuditFault
by_tests ordered answers pushes f g h = cond (not ordered) (Some f) (cond (not answers) (Some g) (cond (not pushes) (Some h) None))

shown : (before : List Item) (i : Item) → breaks_store before i ≡ by_tests (in_order before i) (answers_so before i) (pushes_so before i) (fault.Order (about i)) (fault.Answer (about i)) (fault.Push (about i))
unfolding breaks_store
shown before i = refl

ordered_by : (before : List Item) (i : Item) (fits takes : Bool) → is_nil before ≡ false → fits_behind before i ≡ fits → store_takes (seen before).store i ≡ takes → in_order before i ≡ fits && takes
ordered_by before i fits takes n f t =
    ap (λ (b : Bool). cond b (is_first i) (fits_behind before i && store_takes (seen before).store i)) n ∙ (λ j. f j && t j)

pub keeps_all : (before : List Item) (i : Item) → is_nil before ≡ false → fits_behind before i ≡ true → store_takes (seen before).store i ≡ true → answers_so before i ≡ true → pushes_so before i ≡ true → breaks_store before i ≡ None
keeps_all before i n f t a p =
    shown before i ∙ (λ j. by_tests (ordered_by before i true true n f t j) (a j) (p j) (fault.Order (about i)) (fault.Answer (about i)) (fault.Push (about i)))

pub out_of_order : (before : List Item) (i : Item) → is_nil before ≡ false → fits_behind before i ≡ false → breaks_store before i ≡ Some (fault.Order (about i))
out_of_order before i n f =
    shown before i ∙ (λ j. by_tests (ordered_by before i false (store_takes (seen before).store i) n f refl j) (answers_so before i) (pushes_so before i) (fault.Order (about i)) (fault.Answer (about i)) (fault.Push (about i)))

not_taken : (before : List Item) (i : Item) → is_nil before ≡ false → fits_behind before i ≡ true → store_takes (seen before).store i ≡ false → breaks_store before i ≡ Some (fault.Order (about i))
not_taken before i n f t =
    shown before i ∙ (λ j. by_tests (ordered_by before i true false n f t j) (answers_so before i) (pushes_so before i) (fault.Order (about i)) (fault.Answer (about i)) (fault.Push (about i)))

other_answer : (before : List Item) (i : Item) → is_nil before ≡ false → fits_behind before i ≡ true → store_takes (seen before).store i ≡ true → answers_so before i ≡ false → breaks_store before i ≡ Some (fault.Answer (about i))
other_answer before i n f t a =
    shown before i ∙ (λ j. by_tests (ordered_by before i true true n f t j) (a j) (pushes_so before i) (fault.Order (about i)) (fault.Answer (about i)) (fault.Push (about i)))

other_message : (before : List Item) (i : Item) → is_nil before ≡ false → fits_behind before i ≡ true → store_takes (seen before).store i ≡ true → answers_so before i ≡ true → pushes_so before i ≡ false → breaks_store before i ≡ Some (fault.Push (about i))
other_message before i n f t a p =
    shown before i ∙ (λ j. by_tests (ordered_by before i true true n f t j) (a j) (p j) (fault.Order (about i)) (fault.Answer (about i)) (fault.Push (about i)))

-- ---- a fault of a step is that of its rule

pub named : (f due : AuditFault) (test : Bool) (found : Option AuditFault) → Refuses f due test → (test ≡ false → found ≡ Some due) → IsFaultOf f found
named fault.NoMemory due test found r h = tt
named f due test found r h = h r.1 ∙ ap Some (sym r.0)

pub refused_order : (before : List Item) (i : Item) (f : AuditFault) → is_nil before ≡ false → fits_behind before i ≡ true → Refuses f (fault.Order (about i)) (store_takes (seen before).store i) → IsFaultOf f (breaks_store before i)
refused_order before i f n fits r = named f (fault.Order (about i)) (store_takes (seen before).store i) (breaks_store before i) r (not_taken before i n fits)

pub refused_answer : (before : List Item) (i : Item) (f : AuditFault) → is_nil before ≡ false → fits_behind before i ≡ true → store_takes (seen before).store i ≡ true → Refuses f (fault.Answer (about i)) (answers_so before i) → IsFaultOf f (breaks_store before i)
refused_answer before i f n fits t r = named f (fault.Answer (about i)) (answers_so before i) (breaks_store before i) r (other_answer before i n fits t)

pub refused_message : (before : List Item) (i : Item) (f : AuditFault) → is_nil before ≡ false → fits_behind before i ≡ true → store_takes (seen before).store i ≡ true → answers_so before i ≡ true → Refuses f (fault.Push (about i)) (pushes_so before i) → IsFaultOf f (breaks_store before i)
refused_message before i f n fits t a r = named f (fault.Push (about i)) (pushes_so before i) (breaks_store before i) r (other_message before i n fits t a)

-- ---- one item more

pub some_next : (before : List Item) (i : Item) → is_nil (before ++ i ∷ []) ≡ false
some_next [] i = refl
some_next (j ∷ before) i = refl

-- ---- an item that is told by its kind

pub kept_as : (before : List Item) (i j : Item) → i ≡ j → is_nil before ≡ false → fits_behind before i ≡ true → store_takes (seen before).store j ≡ true → answers_so before j ≡ true → pushes_so before j ≡ true → breaks_store before i ≡ None
kept_as before i j e n f t a p =
    subst (λ (x : Item). breaks_store before x ≡ None) (sym e) (keeps_all before j n (subst (λ (x : Item). fits_behind before x ≡ true) e f) t a p)

pub fault_as : (before : List Item) (i j : Item) (f : AuditFault) → i ≡ j → fits_behind before i ≡ true → (fits_behind before j ≡ true → IsFaultOf f (breaks_store before j)) → IsFaultOf f (breaks_store before i)
fault_as before i j f e fits h =
    subst (λ (x : Item). IsFaultOf f (breaks_store before x)) (sym e) (h (subst (λ (x : Item). fits_behind before x ≡ true) e fits))

pub makes_as : (made : Made) (s : Seen) (i j : Item) → i ≡ j → Makes made (saw s j) → Makes made (saw s i)
makes_as made s i j e m = subst (λ (x : Item). Makes made (saw s x)) (sym e) m

-- of no other kind is anything looked at
pub others : (before : List Item) (i : Item) (made : Made)
    → ((p stream member : ℕ) (q : Request) → i ≡ item.Opened p stream member q → ⊥)
    → ((call : ℕ) (answer : Answer) → i ≡ item.Executed call answer → ⊥)
    → ((stream : ℕ) (message : WatchItem) → i ≡ item.Pushed stream message → ⊥)
    → ((lease : ℕ) → i ≡ item.Expired lease → ⊥)
    → ((member revision : ℕ) → i ≡ item.Applied member revision → ⊥)
    → MakesAll made before → fits_behind before i ≡ true → (breaks_store before i ≡ None) × Makes made (saw (seen before) i)
others before (item.Sent p call member ticket q) made o x u e a m f =
    (keeps_all before (item.Sent p call member ticket q) m.some f refl refl refl, record { store = m.seen.store })
others before (item.Opened p stream member q) made o x u e a m f = absurd (o p stream member q refl)
others before (item.Executed call answer) made o x u e a m f = absurd (x call answer refl)
others before (item.Pushed stream message) made o x u e a m f = absurd (u stream message refl)
others before (item.Expired lease) made o x u e a m f = absurd (e lease refl)
others before (item.Applied member revision) made o x u e a m f = absurd (a member revision refl)
others before (item.World members namespace leasing) made o x u e a m f = absurd (cc)
others before i made o x u e a m f = (keeps_all before i m.some f refl refl refl, m.seen)

-- ---- a first item

at_least_one : (m : ℕ) → (m ≡ 0 → ⊥) → nat_le 1 m ≡ true
at_least_one zero e = absurd (e refl)
at_least_one (suc m) e = le-leb 1 (suc m) (omega arith)

pub first_kept : (members : ℕ) (namespace leasing : List ℕ) → (members ≡ 0 → ⊥) → members ≤ 9 → broken [] (item.World members namespace leasing) ≡ None
unfolding breaks_clients
first_kept members namespace leasing some few =
    ap (λ (f : Option AuditFault). first_of f None) (shown [] (item.World members namespace leasing)
    ∙ ap (λ (b : Bool). by_tests b true true (fault.Order 0) (fault.Answer 0) (fault.Push 0))
    (and_both (nat_le 1 members) (nat_le members 9) (at_least_one members some) (le-leb members 9 few)))

-- ---- the audit behind one item more

pub followed : (before : List Item) (i : Item) (old new : Made) (o : Option Made) → o ≡ Some old → MadeBy o before → (g : Given) → Gave g before
    → (MakesAll old before → Gave g before → (broken before i ≡ None) × Makes new (saw (seen before) i)) → (broken before i ≡ None) × MadeBy (Some new) (before ++ i ∷ [])
followed before i old new o is made g gave step =
    let all : MakesAll old before = subst (λ (x : Option Made). MadeBy x before) is made in
    let x = step all gave in
    (x.0, record { some = some_next before i; seen = subst (λ (s : Seen). Makes new s) (sym (seen_next before i)) x.1 })

pub refused_so : (before : List Item) (i : Item) (old : Made) (o : Option Made) (f : AuditFault) → o ≡ Some old → MadeBy o before → (g : Given) → Gave g before
    → (MakesAll old before → Gave g before → IsFaultOf f (broken before i)) → IsFaultOf f (broken before i)
refused_so before i old o f is made g gave r = r (subst (λ (x : Option Made). MadeBy x before) is made) gave

-- behind none
abbrev begins_with : Option Made → List Item → Item → Type 0
begins_with new before i = (broken before i ≡ None) × MadeBy new (before ++ i ∷ [])

pub begun : (before : List Item) (i : Item) (o new : Option Made) → o ≡ None → MadeBy o before → begins_with new [] i → begins_with new before i
begun before i o new is made t =
    let none : before ≡ [] = subst (λ (x : Option Made). MadeBy x before) is made in
    subst (λ (xs : List Item). begins_with new xs i) (sym none) t

pub refused_first : (before : List Item) (i : Item) (o : Option Made) (f : AuditFault) → o ≡ None → MadeBy o before → IsFaultOf f (broken [] i) → IsFaultOf f (broken before i)
refused_first before i o f is made r =
    let none : before ≡ [] = subst (λ (x : Option Made). MadeBy x before) is made in
    subst (λ (xs : List Item). IsFaultOf f (broken xs i)) (sym none) r

-- ---- results

pub on_ok : {A E : Type 0} {P Q : Type 0} (r : Result A E) → (P → Q) → OnOk r P → OnOk r Q
on_ok (Ok x) f p = f p
on_ok (Err e) f p = p

pub if_err : {A E : Type 0} {P Q : E → Type 0} (r : Result A E) → ((e : E) → P e → Q e) → IfErr r P → IfErr r Q
if_err (Ok x) f p = p
if_err (Err e) f p = f e p
