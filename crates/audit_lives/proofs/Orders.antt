-- Where items tell the calls in order, behind one item more.
use Rattle.std.proofs.Common.{◌≡◌, ℕ, ◌<◌, ◌+◌, ◌-◌, Bool, true, false, ◌==◌, cond, List, [], ◌∷◌, ◌++◌, length, Option, None, Some, refl, sym, ◌∙◌, ap, subst, eqb-true, arith}
use Rattle.std.specs.Prelude.{slice_get}
use Rattle.std.proofs.lemmas.List.{length-append}
use Rattle.etcd_types.specs.declared.request.Request.{Request}
use Rattle.script_text.specs.declared.item.Item.{Item}
use Rattle.script_text.specs.declared.item.Item.TheVariants as item
use Rattle.world_model.specs.Answers.{Seen, saw, saw_all, seen, sent_call}
use Rattle.world_model.specs.Places.{nth}
use Rattle.audit_lives.specs.Finds.{call_in, told_by, told_of}
use Rattle.audit_lives.specs.Orders.{Order, places_behind}
use Rattle.audit_lives.proofs.Gets.{before_got, last_got, other_got}

saw_more : (s : Seen) (items : List Item) (x : Item) → saw_all s (items ++ x ∷ []) ≡ saw (saw_all s items) x
saw_more s [] x = refl
saw_more s (i ∷ items) x = saw_more (saw s i) items x

pub seen_next : (items : List Item) (x : Item) → seen (items ++ x ∷ []) ≡ saw (seen items) x
seen_next items x = saw_more _ items x

still_told : (items : List Item) (x : Item) (o : Option ℕ) → ((place : ℕ) → o ≡ Some place → place < length items) → told_by call_in (items ++ x ∷ []) o ≡ told_by call_in items o
still_told items x None f = refl
still_told items x (Some place) f = ap (told_of call_in) (before_got items x place (f place refl))

longer : (items : List Item) (x : Item) (place : ℕ) → place < length items → place < length (items ++ x ∷ [])
longer items x place l =
    let size : length (items ++ x ∷ []) ≡ length items + 1 = length-append items (x ∷ []) in
    omega (arith, l, size)

-- ---- one item more

renewed : (items : List Item) (x : Item) (calls : List (ℕ × Request)) → (seen (items ++ x ∷ [])).calls ≡ calls → calls ≡ [] → Order [] (items ++ x ∷ [])
renewed items x calls e n = record {
  found = λ m. sym (ap (λ (cs : List (ℕ × Request)). slice_get cs m) (e ∙ n));
  many = sym (ap length (e ∙ n));
  within = λ m place h. absurd (none_some place h);
}
  where
    none_some : (place : ℕ) → ◌≡◌ {A = Option ℕ} None (Some place) → ⊥
    none_some place h = cc

next_call : (places : List ℕ) (items : List Item) (x : Item) (call : ℕ × Request) → call_in x ≡ Some call → (seen (items ++ x ∷ [])).calls ≡ (seen items).calls ++ call ∷ [] → Order places items
    → Order (places ++ length items ∷ []) (items ++ x ∷ [])
next_call places items x call is e o = record {
  found = λ n. at n (length places == n) refl;
  many =
      length-append places (length items ∷ [])
      ∙ ap (λ (m : ℕ). m + 1) o.many
      ∙ sym (ap length e ∙ length-append (seen items).calls (call ∷ []));
  within = λ n place h. inside n place h (length places == n) refl;
}
  where
    size : length (items ++ x ∷ []) ≡ length items + 1
    size = length-append items (x ∷ [])

    at : (n : ℕ) (b : Bool) → (length places == n) ≡ b → told_by call_in (items ++ x ∷ []) (slice_get (places ++ length items ∷ []) n) ≡ slice_get (seen (items ++ x ∷ [])).calls n
    at n true k =
        let same : length places ≡ n = eqb-true (length places) n k in
        ap (told_by call_in (items ++ x ∷ [])) (ap (slice_get (places ++ length items ∷ [])) (sym same) ∙ last_got places (length items))
        ∙ ap (told_of call_in) (last_got items x)
        ∙ is
        ∙ sym (ap (λ (cs : List (ℕ × Request)). slice_get cs n) e ∙ ap (slice_get ((seen items).calls ++ call ∷ [])) (sym same ∙ o.many) ∙ last_got (seen items).calls call)
    at n false k =
        ap (told_by call_in (items ++ x ∷ [])) (other_got places (length items) n k)
        ∙ still_told items x (slice_get places n) (o.within n)
        ∙ o.found n
        ∙ sym (ap (λ (cs : List (ℕ × Request)). slice_get cs n) e ∙ other_got (seen items).calls call n (ap (λ (m : ℕ). m == n) (sym o.many) ∙ k))

    inside : (n place : ℕ) → slice_get (places ++ length items ∷ []) n ≡ Some place → (b : Bool) → (length places == n) ≡ b → place < length (items ++ x ∷ [])
    inside n place h true k =
        let same : Some place ≡ Some (length items) =
        sym h ∙ ap (slice_get (places ++ length items ∷ [])) (sym (eqb-true (length places) n k)) ∙ last_got places (length items) in
        let here : place ≡ length items = ap (λ (o : Option ℕ). or_place o) same in
        omega (arith, here, size)
      where
        or_place : Option ℕ → ℕ
        or_place None = 0
        or_place (Some m) = m
    inside n place h false k = longer items x place (o.within n place (sym (other_got places (length items) n k) ∙ h))

other_item : (places : List ℕ) (items : List Item) (x : Item) → (seen (items ++ x ∷ [])).calls ≡ (seen items).calls → Order places items → Order places (items ++ x ∷ [])
other_item places items x e o = record {
  found = λ n. still_told items x (slice_get places n) (o.within n) ∙ o.found n ∙ sym (ap (λ (cs : List (ℕ × Request)). slice_get cs n) e);
  many = o.many ∙ sym (ap length e);
  within = λ n place h. longer items x place (o.within n place h);
}

order_at : (places : List ℕ) (items : List Item) (x : Item) → Order places items → Order (places_behind places (length items) x) (items ++ x ∷ [])
order_at places items (item.World members namespace leasing) o = renewed items (item.World members namespace leasing) [] (ap (λ (s : Seen). s.calls) (seen_next items (item.World members namespace leasing))) refl
order_at places items (item.Sent p call member ticket q) o =
    next_call places items (item.Sent p call member ticket q) (member, q) refl (ap (λ (s : Seen). s.calls) (seen_next items (item.Sent p call member ticket q))) o
order_at places items x o = other_item places items x (ap (λ (s : Seen). s.calls) (seen_next items x)) o

pub order_more : (old new : List ℕ) (items : List Item) (x : Item) → new ≡ places_behind old (length items) x → Order old items → Order new (items ++ x ∷ [])
order_more old new items x e o = subst (λ (places : List ℕ). Order places (items ++ x ∷ [])) (sym e) (order_at old items x o)

pub order_none : Order [] []
order_none = record {
  found = λ n. refl;
  many = refl;
  within = λ n place h. absurd (none_some place h);
}
  where
    none_some : (place : ℕ) → ◌≡◌ {A = Option ℕ} None (Some place) → ⊥
    none_some place h = cc

-- ---- the call of a number

pub call_of : (places : List ℕ) (items : List Item) (call : ℕ) → Order places items → told_by call_in items (nth places call) ≡ sent_call (seen items) call
call_of places items call o = by (call == 0)
  where
    by : (b : Bool) → told_by call_in items (cond b None (slice_get places (call - 1))) ≡ cond b None (slice_get (seen items).calls (call - 1))
    by true = refl
    by false = o.found (call - 1)
