-- What a seat's steps come to is what the contract of `Hub::step` says.
use Rattle.std.proofs.Common.{◌≡◌, ℕ, zero, suc, ◌+◌, ◌<◌, ◌≤◌, ◌≢◌, ◌^◌, Bool, true, false, cond, eqb, ltb, List, [], ◌∷◌, ◌++◌, length, Some, Result, refl, sym, ap, ◌∙◌, subst, ⊎_elim, lt_of_not-le, length-append, arith}
use Rattle.std.proofs.lemmas.List.Elements.{filter_map-append}
use Rattle.std.proofs.lemmas.Bool.Decides.{eqb_tells}
use Rattle.std.specs.List.{slice_get, cons_option}
use Rattle.atomic_table.specs.Seated.{TableId}
use Rattle.turn_hub.specs.declared.history.Entry.{Entry}
use Rattle.turn_hub.specs.declared.view.View.{View}
use Rattle.turn_hub.specs.declared.view.Note.{Note}
use Rattle.turn_hub.specs.declared.view.Opening.{Opening}
use Rattle.turn_hub.specs.declared.view.Turn.{Turn}
use Rattle.turn_hub.specs.History.{Begins, Runs, Stands, times, entries_at, entry_of}
use Rattle.turn_hub.specs.Views.{Names, taken, added, given, noted_entry, longer}
use Rattle.turn_hub.specs.Kinds.{Looked, Added}
use Rattle.turn_hub.specs.Passes.{known_of}
use Rattle.turn_hub.specs.Steps.{Makes, Stops, Sees}
use Rattle.turn_hub.proofs.Lists.{longer-length, times-append}

none-front : (k x : ℕ) (ks : List ℕ) (b : Bool) → cond b (1 + times x ks) (times x ks) ≡ 0 → (b ≡ false) × (times x ks ≡ 0)
none-front k x ks true e = absurd (omega arith)
none-front k x ks false e = (refl, e)

here : (k : ℕ) (ks : List ℕ) → times k (k ∷ ks) ≢ 0
here k ks e = ⊎_elim (λ t. let f = none-front k k ks (eqb k k) e in let g : true ≡ false = sym t.0 ∙ f.0 in (cc)) (λ t. t.1 refl) (eqb_tells k k)

module _ {N : Type 0} where
  get-more : (log more : List N) (k : ℕ) → k < length log → slice_get (log ++ more) k ≡ slice_get log k
  get-more [] more k h = absurd (omega arith)
  get-more (x ∷ log) more zero h = refl
  get-more (x ∷ log) more (suc k) h = get-more log more k (omega arith)

  get-last : (log : List N) (e : N) → slice_get (log ++ e ∷ []) (length log) ≡ Some e
  get-last [] e = refl
  get-last (x ∷ log) e = get-last log e

  -- the entries at places within a history stay as it grows
  pub entries-more : (log more : List N) (own : List ℕ) → ((k : ℕ) → length log ≤ k → times k own ≡ 0) → entries_at (log ++ more) own ≡ entries_at log own
  entries-more log more [] none = refl
  entries-more log more (k ∷ ks) none =
      let within : k < length log = lt_of_not-le (λ h. here k ks (none k h)) in
      let rest = entries-more log more ks (λ x h. (none-front k x ks (eqb k x) (none x h)).1) in
      λ i. cons_option (get-more log more k within i) (rest i)

  pub entries-last : (log : List N) (e : N) (own : List ℕ) → ((k : ℕ) → length log ≤ k → times k own ≡ 0) → entries_at (log ++ e ∷ []) (own ++ length log ∷ []) ≡ entries_at log own ++ e ∷ []
  entries-last log e own none =
      filter_map-append (λ (k : ℕ). slice_get (log ++ e ∷ []) k) own (length log ∷ [])
      ∙ (λ i. entries-more log (e ∷ []) own none i ++ cons_option (get-last log e i) [])

  -- the same, of a history that goes on with something
  pub entries-front : (seen log : List N) (own : List ℕ) → Begins seen log → ((k : ℕ) → length seen ≤ k → times k own ≡ 0) → entries_at log own ≡ entries_at seen own
  entries-front seen log own p none = (λ i. entries_at (p.1 i) own) ∙ entries-more seen p.0 own none

  longer-room : (xs ys : List N) (base most : ℕ) → length xs + base ≤ most → length ys + base ≤ most → length (longer xs ys) + base ≤ most
  longer-room xs ys base most p q = elim (ltb (length xs) (length ys)) as (λ b. length (cond b ys xs) + base ≤ most) [ true ↦ q | false ↦ p ]

  -- what two passes have made is what they have made together
  pub joins-made : (one two all : List N) (own own' both : List ℕ) → both ≡ own ++ own' → Begins one all → Begins two all
      → ((k : ℕ) → length one ≤ k → times k own ≡ 0) → ((k : ℕ) → length two ≤ k → times k own' ≡ 0) → entries_at all both ≡ entries_at one own ++ entries_at two own'
  joins-made one two all own own' both is p q none none' =
      (λ i. entries_at all (is i)) ∙ filter_map-append (λ (k : ℕ). slice_get all k) own own' ∙ (λ i. entries-front one all own p none i ++ entries-front two all own' q none' i)

  pub joins-stand : (one two : List N) (own own' : List ℕ) (base : ℕ) → ((k : ℕ) → times k (own ++ own') ≤ 1) → Stands one own base → Stands two own' base → Stands (longer one two) (own ++ own') base
  joins-stand one two own own' base once s t =
      let long = longer-length one two in
      record {
        once = once;
        within = λ k h. let a = s.within k (omega arith) in let b = t.within k (omega arith) in let sum = times-append k own own' in omega arith;
        room = longer-room one two base (2 ^ 62) s.room t.room;
      }

pub stands-at : {N : Type 0} (seen seen' : List N) (own own' : List ℕ) (base base' : ℕ) → seen ≡ seen' → own ≡ own' → base ≡ base' → Stands seen' own' base' → Stands seen own base
stands-at {N} seen seen' own own' base base' p q r s =
    let P : List N → Type 0 = λ l. Stands l own base in
    let Q : List ℕ → Type 0 = λ l. Stands seen' l base in
    let R : ℕ → Type 0 = λ k. Stands seen' own' k in
    subst P (sym p) (subst Q (sym q) (subst R (sym r) s))

module _ {M E O F : Type 0} (steps : M → E → ℕ → Result O F → M → Type 0) (table : TableId) (opened : Opening M) where
  -- the turn was taken, the count read and raised, and the turn given back
  pub makes_step : (v w₁ w₂ w₃ w₄ : View M E O F) (m : M) (found : ℕ) (n : Note M E O F) (event : E) (now : ℕ) (answer : Result O F)
      → ((k : ℕ) → length v.seen ≤ k → times k v.own ≡ 0) → w₁ ≡ taken v m → Looked steps opened.machine.value w₁ found w₂ → w₂.base ≡ opened.base
      → w₃ ≡ added w₂ n → Added steps opened.machine.value w₂ n → w₄ ≡ given w₃ → noted_entry n ≡ entry_of event now answer
      → Makes steps (known_of table opened v) (known_of table opened w₄) event now answer
  makes_step v w₁ w₂ w₃ w₄ m found n event now answer within took told based add made gave is =
      let log = told.log in
      let seen : w₄.seen ≡ log ++ noted_entry n ∷ [] = (λ i. (gave i).seen) ∙ (λ i. (add i).seen) ∙ (λ i. (told.after i).seen ++ noted_entry n ∷ []) in
      let own : w₄.own ≡ v.own ++ length log ∷ [] = (λ i. (gave i).own) ∙ (λ i. (add i).own) ∙ (λ i. (told.after i).own ++ length (told.after i).seen ∷ []) ∙ (λ i. (took i).own ++ length log ∷ []) in
      let B : List (Entry E O F) → Type 0 = λ l. Begins l log in
      let begins : Begins v.seen log = subst B (λ i. (took i).seen) told.begins in
      let rest = begins.0 in
      let whole : log ≡ v.seen ++ rest = begins.1 in
      let long : length v.seen ≤ length log = omega (arith, ap (λ (l : List (Entry E O F)). length l) whole, length-append v.seen rest) in
      let R : List (Entry E O F) → Type 0 = λ l. Runs steps opened.machine.value l n.machine.value in
      record {
        between = rest;
        seen = seen ∙ (λ i. whole i ++ is i ∷ []);
        own = own ∙ (λ i. v.own ++ length (whole i) ∷ []);
        made = (λ i. entries_at (seen i) (own i)) ∙ entries-last log (noted_entry n) v.own (λ k h. within k (omega arith))
            ∙ (λ i. entries_at (whole i) v.own ++ is i ∷ []) ∙ (λ i. entries-more v.seen rest v.own within i ++ entry_of event now answer ∷ []);
        stands = stands-at w₄.seen (added w₂ n).seen w₄.own (added w₂ n).own opened.base w₂.base ((λ i. (gave i).seen) ∙ (λ i. (add i).seen)) ((λ i. (gave i).own) ∙ (λ i. (add i).own)) (sym based) made.stands;
        allowed = (n.machine.value, subst R (sym ((λ i. (gave i).seen) ∙ (λ i. (add i).seen))) made.runs);
      }

  -- the turn was taken, the count read, and the turn given back
  pub sees_step : (v w₁ w₂ w₃ : View M E O F) (m : M) (found : ℕ)
      → ((k : ℕ) → length v.seen ≤ k → times k v.own ≡ 0) → w₁ ≡ taken v m → Looked steps opened.machine.value w₁ found w₂ → w₂.base ≡ opened.base → w₃ ≡ given w₂
      → Sees steps (known_of table opened v) (known_of table opened w₃) m
  sees_step v w₁ w₂ w₃ m found within took told based gave =
      let log = told.log in
      let seen : w₃.seen ≡ log = (λ i. (gave i).seen) ∙ (λ i. (told.after i).seen) in
      let kept : w₃.own ≡ w₁.own = (λ i. (gave i).own) ∙ (λ i. (told.after i).own) in
      let own : w₃.own ≡ v.own = kept ∙ (λ i. (took i).own) in
      let B : List (Entry E O F) → Type 0 = λ l. Begins l log in
      let begins : Begins v.seen log = subst B (λ i. (took i).seen) told.begins in
      let P : List (Entry E O F) → Type 0 = λ l. Begins v.seen l in
      let R : List (Entry E O F) → Type 0 = λ l. Runs steps opened.machine.value l m in
      let N : Turn M → Type 0 = λ t. Names t told.machine in
      let same : m ≡ told.machine = subst N (λ i. (took i).turn) told.named in
      let S : M → Type 0 = λ x. Runs steps opened.machine.value log x in
      record {
        seen = subst P (sym seen) begins;
        own = own;
        made = (λ i. entries_at (seen i) (own i)) ∙ (λ i. entries_at (begins.1 i) v.own) ∙ entries-more v.seen begins.0 v.own within;
        stands = stands-at w₃.seen log w₃.own w₁.own opened.base w₁.base seen kept (sym based ∙ (λ i. (told.after i).base)) told.stands;
        runs = subst R (sym seen) (subst S (sym same) told.runs);
      }

  -- the same, where the count was found at the limit
  pub stops_step : (v w₁ w₂ w₃ : View M E O F) (m : M) (found : ℕ)
      → ((k : ℕ) → length v.seen ≤ k → times k v.own ≡ 0) → w₁ ≡ taken v m → Looked steps opened.machine.value w₁ found w₂ → w₂.base ≡ opened.base → w₃ ≡ given w₂ → 2 ^ 62 ≤ found
      → Stops steps (known_of table opened v) (known_of table opened w₃)
  stops_step v w₁ w₂ w₃ m found within took told based gave most =
      let sees = sees_step v w₁ w₂ w₃ m found within took told based gave in
      let count = told.count in
      let room = told.stands.room in
      let base : w₂.base ≡ w₁.base = λ i. (told.after i).base in
      let long : length w₃.seen ≡ length told.log = λ i. length (((λ j. (gave j).seen) ∙ (λ j. (told.after j).seen)) i) in
      record {
        seen = sees.seen;
        own = sees.own;
        made = sees.made;
        full = omega arith;
        allowed = (m, sees.runs);
      }
