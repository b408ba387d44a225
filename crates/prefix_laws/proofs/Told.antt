-- What each item tells by the items before it, line by line.
use Rattle.std.proofs.Common.{◌≡◌, ℕ, Bool, true, false, List, [], ◌∷◌, ◌++◌, append_assoc, append-nil, Some, Result, Ok, Err, refl, sym, ◌∙◌, subst}
use Rattle.std.specs.Prelude.{flat_map}
use Rattle.std.specs.List.{list_all}
use Rattle.std.specs.BTreeSet.{BTreeSet}
use Rattle.std.proofs.lemmas.List.Folds.{list_all-append}
use Rattle.etcd_types.proofs.Bools.{and_both}
use Rattle.json_model.specs.WrittenReplies.{answer_status, answer_text}
use Rattle.script_text.specs.declared.item.Item.{Item}
use Rattle.script_text.specs.declared.item.Item.TheVariants as item
use Rattle.script_text.specs.declared.line.Line.{Line}
use Rattle.script_text.specs.declared.line.Line.TheVariants as line
use Rattle.world_model.specs.declared.fault.LineRefusal.{LineRefusal}
use Rattle.world_model.specs.Gains.{Replies, body_if, reply_items}
use Rattle.world_model.specs.Places.{is_among}
use Rattle.world_model.specs.State.{World, starting_world}
use Rattle.world_model.specs.Transcript.{Taken, done, counted_as, taken, items_and_then, transcript_from, transcript}
use Rattle.renewed_laws.specs.Renewals.{AnswersShowBytes}
use Rattle.renewed_laws.proofs.Hearing.{show-split}
use Rattle.renewed_laws.proofs.Lines.{TakenSo, taken_so, begun_ok}
use Rattle.renewed_laws.proofs.Replies.{Each}
use Rattle.renewed_laws.proofs.Worlds.{WorldOk}
use Rattle.prefix_laws.proofs.Prefixes.{IsNext, IsKept, Known, AreLeft, next_is, left_behind, first_left}

abbrev pub AllItems : (List Item → Item → Type 0) → List Item → List Item → Type 0
AllItems T before [] = Unit {0}
AllItems T before (i ∷ items) = T before i × AllItems T (before ++ i ∷ []) items

pub items-append : (T : List Item → Item → Type 0) (before xs ys : List Item) → AllItems T before xs → AllItems T (before ++ xs) ys → AllItems T before (xs ++ ys)
items-append T before [] ys h k = subst (λ (b : List Item). AllItems T b ys) (append-nil before) k
items-append T before (x ∷ xs) ys h k = (h.0, items-append T (before ++ x ∷ []) xs ys h.1 (subst (λ (b : List Item). AllItems T b ys) (sym (append_assoc before (x ∷ []) xs)) k))

items_later : (T : List Item → Item → Type 0) (before xs ys : List Item) → AllItems T before (xs ++ ys) → AllItems T (before ++ xs) ys
items_later T before [] ys h = subst (λ (b : List Item). AllItems T b ys) (sym (append-nil before)) h
items_later T before (x ∷ xs) ys h = subst (λ (b : List Item). AllItems T b ys) (append_assoc before (x ∷ []) xs) (items_later T (before ++ x ∷ []) xs ys h.1)

-- where what is known behind a prefix makes the items of the next line tell it
pub record IsTold (script : List Line) (P : List Item → World → Type 0) (T : List Item → Item → Type 0) : Type 0 where
  pub first : (members : ℕ) (namespace leasing : List ℕ) → T [] (item.World members namespace leasing)
  pub line : (namespace : List ℕ) (items : List Item) (w : World) (l : Line) (gained : List Item) → IsNext script w l → (done w l).gained ≡ Ok gained → WorldOk namespace items w → P items w → AllItems T items gained

abbrev ToldIf : (List Item → World → Type 0) → (List Item → Item → Type 0) → List Item → Taken → Type 0
ToldIf P T items (Ok gained) = AllItems T items gained.1 × (AnswersShowBytes gained.1 → Known P (items ++ gained.1) gained.0)
ToldIf P T items (Err why) = Unit {0}

taken_told : (script : List Line) (P : List Item → World → Type 0) (T : List Item → Item → Type 0) → IsKept script P → IsTold script P T → (items : List Item) (w : World) (l : Line) → IsNext script w l → Known P items w → ToldIf P T items (taken w l)
taken_told script P T k t items w l n h = by (done w l).gained refl (taken_so h.namespace items w l h.ok)
  where
    by : (r : Result (List Item) LineRefusal) → (done w l).gained ≡ r → TakenSo h.namespace items (counted_as (done w l).world r) → ToldIf P T items (counted_as (done w l).world r)
    by (Ok gained) e ok = (t.line h.namespace items w l gained n e h.ok h.so, λ s. record { namespace = h.namespace; ok = (ok s).0; so = k.goes_on h.namespace items w l gained n e h.ok h.so })
    by (Err why) e ok = tt

lines_told : (script : List Line) (P : List Item → World → Type 0) (T : List Item → Item → Type 0) → IsKept script P → IsTold script P T → (lines : List Line) (items : List Item) (w : World) → AreLeft script w lines → Known P items w
    → AnswersShowBytes (transcript_from (Some w) lines) → AllItems T items (transcript_from (Some w) lines)
lines_told script P T k t [] items w a h s = tt
lines_told script P T k t (l ∷ lines) items w a h s = by (taken w l) refl (taken_told script P T k t items w l (next_is script w l lines a) h) s (λ items w a h s. lines_told script P T k t lines items w a h s)
  where
    by : (x : Taken) → taken w l ≡ x → ToldIf P T items x → AnswersShowBytes (items_and_then x (λ after. transcript_from (Some after) lines))
        → ((items : List Item) (w : World) → AreLeft script w lines → Known P items w → AnswersShowBytes (transcript_from (Some w) lines) → AllItems T items (transcript_from (Some w) lines))
        → AllItems T items (items_and_then x (λ after. transcript_from (Some after) lines))
    by (Ok gained) e g s ih =
        let rest = transcript_from (Some gained.0) lines in
        let both = show-split gained.1 rest s in
        items-append T items gained.1 rest g.0 (ih (items ++ gained.1) gained.0 (left_behind script w l lines gained e a) (g.1 both.0) both.1)
    by (Err why) e g s ih = tt

all_told : (P : List Item → World → Type 0) (T : List Item → Item → Type 0) → (lines : List Line) → IsKept lines P → IsTold lines P T → AnswersShowBytes (transcript lines) → AllItems T [] (transcript lines)
all_told P T [] k t s = tt
all_told P T (line.World members namespace leasing ∷ lines) k t s = (
  t.first members namespace leasing,
  lines_told (line.World members namespace leasing ∷ lines) P T k t lines (item.World members namespace leasing ∷ []) (starting_world members namespace leasing) (first_left members namespace leasing lines) (record { namespace = namespace; ok = begun_ok members namespace leasing; so = k.begins members namespace leasing }) s,
)
all_told P T (line.Start p ∷ lines) k t s = tt
all_told P T (line.Clock p millis ∷ lines) k t s = tt
all_told P T (line.Ask p ticket q ∷ lines) k t s = tt
all_told P T (line.Post p ticket path body ∷ lines) k t s = tt
all_told P T (line.Tick p ∷ lines) k t s = tt
all_told P T (line.Send p ∷ lines) k t s = tt
all_told P T (line.Exec number ∷ lines) k t s = tt
all_told P T (line.Answer number ∷ lines) k t s = tt
all_told P T (line.Lose number ∷ lines) k t s = tt
all_told P T (line.Push number ∷ lines) k t s = tt
all_told P T (line.Progress number ∷ lines) k t s = tt
all_told P T (line.Deliver number ∷ lines) k t s = tt
all_told P T (line.Cut number ∷ lines) k t s = tt
all_told P T (line.Take p ticket ∷ lines) k t s = tt
all_told P T (line.Leave p ticket ∷ lines) k t s = tt
all_told P T (line.Expire lease ∷ lines) k t s = tt
all_told P T (line.Apply member revision ∷ lines) k t s = tt

-- of every script, also of one with a line that can't be taken
pub every_item : (P : List Item → World → Type 0) (T : List Item → Item → Type 0) → (lines : List Line) → IsKept lines P → IsTold lines P T → AnswersShowBytes (transcript lines)
    → (earlier later : List Item) (i : Item) → transcript lines ≡ earlier ++ i ∷ later → T earlier i
every_item P T lines k t s earlier later i e = (items_later T [] earlier (i ∷ later) (subst (AllItems T []) e (all_told P T lines k t s))).0

-- ---- the replies of a line

-- a reply, or its JSON
abbrev pub is_told : Item → Bool
is_told (item.Reply p ticket a) = true
is_told (item.Body p ticket status text) = true
is_told _ = false

-- each reply that a line tells, behind those before it
pub replies_told : (T : List Item → Item → Type 0) (before : List Item) (p : ℕ) (posted : BTreeSet ℕ)
    → ((told : List Item) (ticket status : ℕ) (text : List ℕ) → list_all is_told told ≡ true → T (before ++ told) (item.Body p ticket status text))
    → (told : List Item) (rs : Replies) → list_all is_told told ≡ true → Each (λ r. (told : List Item) → list_all is_told told ≡ true → T (before ++ told) (item.Reply p r.0 r.1)) rs
    → AllItems T (before ++ told) (flat_map (reply_items p posted) rs)
replies_told T before p posted b told [] h t = tt
replies_told T before p posted b told (r ∷ rs) h t =
    let body = body_if (is_among posted r.0) p r.0 r.1 in
    items-append T (before ++ told) (item.Reply p r.0 r.1 ∷ body) (flat_map (reply_items p posted) rs)
    (t.0 told h, by (is_among posted r.0))
    (subst (λ (xs : List Item). AllItems T xs (flat_map (reply_items p posted) rs)) (sym (append_assoc before told (item.Reply p r.0 r.1 ∷ body)))
    (replies_told T before p posted b (told ++ item.Reply p r.0 r.1 ∷ body) rs (list_all-append is_told told (item.Reply p r.0 r.1 ∷ body) ∙ and_both (list_all is_told told) (list_all is_told body) h (all_body (is_among posted r.0))) t.1))
  where
    all_body : (c : Bool) → list_all is_told (body_if c p r.0 r.1) ≡ true
    all_body false = refl
    all_body true = refl

    by : (c : Bool) → AllItems T ((before ++ told) ++ item.Reply p r.0 r.1 ∷ []) (body_if c p r.0 r.1)
    by false = tt
    by true = (
      subst (λ (xs : List Item). T xs (item.Body p r.0 (answer_status r.1) (answer_text r.1))) (sym (append_assoc before told (item.Reply p r.0 r.1 ∷ [])))
          (b (told ++ item.Reply p r.0 r.1 ∷ []) r.0 (answer_status r.1) (answer_text r.1) (list_all-append is_told told (item.Reply p r.0 r.1 ∷ []) ∙ and_both (list_all is_told told) true h refl)),
      tt,
    )
