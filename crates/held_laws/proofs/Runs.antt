-- Over the lines of a script: what holds of its world, and that its history is as short as the script.
use Rattle.std.proofs.Common.{◌≡◌, ℕ, ◌+◌, ◌-◌, ◌≤◌, ◌<◌, ◌^◌, Bool, true, false, cond, ◌||◌, nat_lt, set, List, [], ◌∷◌, ◌++◌, append_assoc, append-nil, length, length-append, Option, None, Some, Result, Ok, Err, refl, ap, sym, subst, ◌∙◌, arith}
use Rattle.etcd_types.specs.declared.watch.Change.{Change}
use Rattle.store_model.specs.declared.history.KeyChange.{KeyChange}
use Rattle.store_model.specs.History.{History, newest, with_revision}
use Rattle.store_model.specs.State.{State}
use Rattle.store_laws.specs.Requests.Requests.{GainsOneRevision}
use Rattle.store_laws.proofs.Requests.RequestProofs.{whole-exec, expiries_make_one_revision}
use Rattle.store_model.specs.declared.store_fault.StoreFault.{StoreFault}
use Rattle.store_model.specs.Members.{lacks_member, applied}
use Rattle.store_model.specs.State.{applied_by as applied_at}
use Rattle.store_model.specs.Step.{exec}
use Rattle.core_model.specs.declared.event.CoreEvent.{CoreEvent}
use Rattle.core_model.specs.declared.event.Outcome.{Outcome}
use Rattle.world_model.specs.Gains.{Replies}
use Rattle.world_model.specs.Sends.{closed_in}
use Rattle.world_model.specs.State.{Place, OpenedStream}
use Rattle.script_text.specs.declared.item.Item.{Item}
use Rattle.script_text.specs.declared.item.Item.TheVariants as item
use Rattle.script_text.specs.declared.line.Line.{Line}
use Rattle.script_text.specs.declared.line.Line.TheVariants as line
use Rattle.world_model.specs.declared.fault.LineRefusal.{LineRefusal}
use Rattle.world_model.specs.Places.{nth}
use Rattle.world_model.specs.State.{World, starting_world}
use Rattle.world_model.specs.Transcript.{done, Taken, counted_as, taken, items_and_then, transcript_from, transcript, and_then, world_from, world_behind}
use Rattle.held_laws.proofs.Pushes.{Whole}
use Rattle.world_laws.proofs.Effects.{Turn, ticks, asks_it, posts_it, calls, opens, closes, answers, loses, delivers, cuts, takes, waits, leaves, Effect, starts, sets, refuses_post, executes, expires, applies, pushes, turns, effect}
use Rattle.held_laws.proofs.Growing.{Grows, message_leaves, effect_grows}
use Rattle.held_laws.proofs.Lines.{effect_world, begun_world}
use Rattle.held_laws.proofs.Seen.{SeenOk, effect_seen}
use Rattle.world_laws.proofs.Quiet.{saw_all-append}
use Rattle.world_model.specs.Answers.{Seen, unseen, saw_all, seen}
use Rattle.held_laws.proofs.Stories.{Strips, IsShort}
use Rattle.held_laws.proofs.Worlds.{WorldOk}

-- ---- the history grows by one revision at most

abbrev pub Slow : State → State → Type 0
Slow s t = newest t.history ≤ newest s.history + 1

one_more : (h : History) (made : List KeyChange) → newest (with_revision h made) ≤ newest h + 1
one_more h [] = omega arith
one_more h (c ∷ cs) = let l = length-append h ((c ∷ cs) ∷ []) in omega (arith, l)

gained_slow : (s t : State) → GainsOneRevision s t → Slow s t
gained_slow s t g = let l = one_more s.history g.0 in let e : newest t.history ≡ newest (with_revision s.history g.0) = ap newest g.1 in omega (arith, l, e)

same_slow : (s t : State) → t.history ≡ s.history → Slow s t
same_slow s t e = let l : newest t.history ≡ newest s.history = ap newest e in omega (arith, l)

applied_by : (s u t : State) (lacks bad : Bool) (a b : StoreFault) → u.history ≡ s.history → cond lacks (Err a) (cond bad (Err b) (Ok u)) ≡ Ok t → t.history ≡ s.history
applied_by s u t true bad a b h e = absurd (cc)
applied_by s u t false true a b h e = absurd (cc)
applied_by s u t false false a b h e = let one : u ≡ t = cc in ap (λ (x : State). x.history) (sym one) ∙ h

applied_same : (s t : State) (member revision : ℕ) → applied s member revision ≡ Ok t → t.history ≡ s.history
unfolding applied
applied_same s t member revision e =
    applied_by s (record s { applied = set s.applied (member - 1) revision }) t (lacks_member s member) (nat_lt revision (applied_at s member) || nat_lt (newest s.history) revision) _ _ refl e

closed_store : (w : World) (number : ℕ) (o : Option OpenedStream) → (closed_in w number o).store ≡ w.store
closed_store w number None = refl
closed_store w number (Some s) = refl

turn_slow : (w : World) (p : ℕ) (x : Place) (e : CoreEvent) (o : Outcome) (v : World) (y : Place) (own : List Item) (told : Replies) → Turn w p x e o v y own told → v.store.history ≡ w.store.history
turn_slow w p x _ _ _ _ _ _ (ticks o) = refl
turn_slow w p x _ _ _ _ _ _ (asks_it ticket q o n) = refl
turn_slow w p x _ _ _ _ _ _ (posts_it ticket path body q o n) = refl
turn_slow w p x _ _ _ _ _ _ (calls own member ticket q) = refl
turn_slow w p x _ _ _ _ _ _ (opens own member ask) = refl
turn_slow w p x _ _ _ _ _ _ (closes own number e) = ap (λ (s : State). s.history) (closed_store w number (nth w.streams number))
turn_slow w p x _ _ _ _ _ _ (answers number call a o e f) = refl
turn_slow w p x _ _ _ _ _ _ (loses number call o e) = refl
turn_slow w p x _ _ _ _ _ _ (delivers number s i rest o e f g h k) = refl
turn_slow w p x _ _ _ _ _ _ (cuts number s o e f g h) = refl
turn_slow w p x _ _ _ _ _ _ (takes ticket i) = refl
turn_slow w p x _ _ _ _ _ _ (waits ticket o n) = refl
turn_slow w p x _ _ _ _ _ _ (leaves ticket o) = refl

effect_slow : (w after : World) (items : List Item) → Effect w after items → Slow w.store after.store
effect_slow w _ _ (starts p clock life i b) = same_slow w.store w.store refl
effect_slow w _ _ (sets p millis x e forward) = same_slow w.store w.store refl
effect_slow w _ _ (refuses_post p ticket path body a x e) = same_slow w.store w.store refl
effect_slow w _ _ (executes number call e fresh) = gained_slow w.store (exec w.store call.member call.request).0 (whole-exec w.store call.member call.request).gains
effect_slow w _ _ (expires lease t e due) = gained_slow w.store t (expiries_make_one_revision w.store t lease e)
effect_slow w _ _ (applies member revision t e) = same_slow w.store t (applied_same w.store t member revision e)
effect_slow w _ _ (pushes number s t i e a b k) = same_slow w.store t (message_leaves w.store t i number k).history
effect_slow w _ _ (turns p x e o v y own told at out t) = same_slow w.store v.store (turn_slow w p _ e o v y own told t)

-- ---- line by line

-- the world behind the lines that were taken
abbrev pub last_as : (World → World) → World → Taken → World
last_as rest w (Ok gained) = rest gained.0
last_as rest w (Err why) = w

abbrev pub last_from : World → List Line → World
last_from w [] = w
last_from w (l ∷ lines) = last_as (λ v. last_from v lines) w (taken w l)

-- a line that was taken
pub record Took (w : World) (gained : World × List Item) : Type 0 where
  pub after : World
  pub effect : Effect w after gained.1
  pub counted : gained.0 ≡ record after { lines = after.lines + 1 }

abbrev pub TookIf : World → Taken → Type 0
TookIf w (Ok gained) = Took w gained
TookIf w (Err why) = Unit {0}

pub took : (w : World) (l : Line) → TookIf w (taken w l)
took w l = by (done w l).gained refl
  where
    by : (r : Result (List Item) LineRefusal) → (done w l).gained ≡ r → TookIf w (counted_as (done w l).world r)
    by (Ok items) e = record { after = (done w l).world; effect = effect w l items e; counted = refl }
    by (Err why) e = tt

-- by induction over the lines: what each line keeps holds behind them, where `P` doesn't look at their count
pub grows_on : (s t u : State) → Grows s t → Grows t u → Grows s u
grows_on s t u h k = (h.0 ++ k.0, k.1 ∙ ap (λ (x : History). x ++ k.0) h.1 ∙ append_assoc s.history h.0 k.0)

counted_store : (w : World) (gained : World × List Item) (k : Took w gained) → gained.0.store ≡ k.after.store
counted_store w gained k = ap (λ (v : World). v.store) k.counted

pub last_grows : (lines : List Line) (w : World) → Grows w.store (last_from w lines).store
last_grows [] w = ([], sym (append-nil w.store.history))
last_grows (l ∷ lines) w = by (taken w l) (took w l) (last_grows lines)
  where
    by : (t : Taken) → TookIf w t → ((v : World) → Grows v.store (last_from v lines).store) → Grows w.store (last_as (λ v. last_from v lines) w t).store
    by (Ok gained) k ih =
        grows_on w.store gained.0.store (last_from gained.0 lines).store (subst (Grows w.store) (sym (counted_store w gained k)) (effect_grows w k.after gained.1 k.effect)) (ih gained.0)
    by (Err why) k ih = ([], sym (append-nil w.store.history))

pub last_slow : (lines : List Line) (w : World) → newest (last_from w lines).store.history ≤ newest w.store.history + length lines
last_slow [] w = omega arith
last_slow (l ∷ lines) w = by (taken w l) (took w l) (last_slow lines)
  where
    by : (t : Taken) → TookIf w t → ((v : World) → newest (last_from v lines).store.history ≤ newest v.store.history + length lines)
        → newest (last_as (λ v. last_from v lines) w t).store.history ≤ newest w.store.history + length (l ∷ lines)
    by (Ok gained) k ih =
        let a = effect_slow w k.after gained.1 k.effect in
        let b = ih gained.0 in
        let c : newest gained.0.store.history ≡ newest k.after.store.history = ap (λ (s : State). newest s.history) (counted_store w gained k) in
        omega (arith, a, b, c)
    by (Err why) k ih = omega arith

recounted : (namespace : List ℕ) (whole : Whole) (f : Change → Option Change) (items : List Item) (w : World) (n : ℕ) → WorldOk namespace whole f items w → WorldOk namespace whole f items (record w { lines = n })
recounted namespace whole f items w n h = record {
  namespace_is = h.namespace_is;
  many = h.many;
  streams = λ number s e. let k = h.streams number s e in record { place = k.place; at = k.at; life = k.life; ok = k.ok; watched = k.watched };
  places = h.places;
}

-- what is kept from line to line
pub record Kept (namespace : List ℕ) (whole : Whole) (f : Change → Option Change) (items : List Item) (w : World) : Type 0 where
  pub ok : WorldOk namespace whole f items w
  pub told : SeenOk (seen items) w

pub seen-append : (items more : List Item) → saw_all (seen items) more ≡ seen (items ++ more)
seen-append items more = sym (saw_all-append unseen items more)

-- by one line
pub kept_on : (namespace : List ℕ) (whole : Whole) (f : Change → Option Change) → Strips namespace f → IsShort whole → (items : List Item) (w : World) (gained : World × List Item) → Took w gained → (more : History) (rest : List Item)
    → whole.history ≡ gained.0.store.history ++ more → whole.items ≡ (items ++ gained.1) ++ rest → Kept namespace whole f items w → Kept namespace whole f (items ++ gained.1) gained.0
kept_on namespace whole f k short items w gained t more rest e all h =
    let after = effect_world namespace whole f items w t.after gained.1 (grown.0 ++ more) rest k short
    (e ∙ ap (λ (x : History). x ++ more) (ap (λ (s : State). s.history) (counted_store w gained t) ∙ grown.1) ∙ append_assoc w.store.history grown.0 more) all h.told h.ok t.effect in
    let told = effect_seen (seen items) w t.after gained.1 h.told t.effect in
    record {
      ok = subst (WorldOk namespace whole f (items ++ gained.1)) (sym t.counted) (recounted namespace whole f (items ++ gained.1) t.after (t.after.lines + 1) after);
      told = subst (SeenOk (seen (items ++ gained.1))) (sym t.counted) (subst (λ (s : Seen). SeenOk s (record t.after { lines = t.after.lines + 1 })) (seen-append items gained.1) (record { store = told.store; calls = told.calls }));
    }
  where
    grown : Grows w.store t.after.store
    grown = effect_grows w t.after gained.1 t.effect

-- by all of them: what each line keeps, beside what is kept of both stories
pub runs : (namespace : List ℕ) (whole : Whole) (f : Change → Option Change) → Strips namespace f → IsShort whole → (lines : List Line) (items : List Item) (w : World) → whole.history ≡ (last_from w lines).store.history
    → whole.items ≡ items ++ transcript_from (Some w) lines → Kept namespace whole f items w → Kept namespace whole f (items ++ transcript_from (Some w) lines) (last_from w lines)
runs namespace whole f k short [] items w e a h = subst (λ (xs : List Item). Kept namespace whole f xs w) (sym (append-nil items)) h
runs namespace whole f k short (l ∷ lines) items w e a h = by (taken w l) (took w l) e a (λ items v. runs namespace whole f k short lines items v)
  where
    by : (t : Taken) → TookIf w t → whole.history ≡ (last_as (λ v. last_from v lines) w t).store.history
        → whole.items ≡ items ++ items_and_then t (λ after. transcript_from (Some after) lines)
        → ((items : List Item) (v : World) → whole.history ≡ (last_from v lines).store.history → whole.items ≡ items ++ transcript_from (Some v) lines → Kept namespace whole f items v
        → Kept namespace whole f (items ++ transcript_from (Some v) lines) (last_from v lines))
        → Kept namespace whole f (items ++ items_and_then t (λ after. transcript_from (Some after) lines)) (last_as (λ v. last_from v lines) w t)
    by (Ok gained) t e a ih =
        let rest = transcript_from (Some gained.0) lines in
        let g = last_grows lines gained.0 in
        let all : whole.items ≡ (items ++ gained.1) ++ rest = a ∙ sym (append_assoc items gained.1 rest) in
        subst (λ (xs : List Item). Kept namespace whole f xs (last_from gained.0 lines)) (append_assoc items gained.1 rest)
        (ih (items ++ gained.1) gained.0 e all (kept_on namespace whole f k short items w gained t g.0 rest (e ∙ g.1) all h))
    by (Err why) t e a ih = subst (λ (xs : List Item). Kept namespace whole f xs w) (sym (append-nil items)) h

-- ---- whole scripts

-- the world behind the lines, where all of them were taken
last_is : (lines : List Line) (w v : World) → world_from (Some w) lines ≡ Ok (Some v) → last_from w lines ≡ v
last_is [] w v e = by e
  where
    by : ◌≡◌ {A = Result (Option World) LineRefusal} (Ok (Some w)) (Ok (Some v)) → w ≡ v
    by e = cc
last_is (l ∷ lines) w v e = by (taken w l) e (λ u. last_is lines u v)
  where
    by : (t : Taken) → and_then t (λ after. world_from (Some after) lines) ≡ Ok (Some v) → ((u : World) → world_from (Some u) lines ≡ Ok (Some v) → last_from u lines ≡ v) → last_as (λ v. last_from v lines) w t ≡ v
    by (Ok gained) e ih = ih gained.0 e
    by (Err why) e ih = absurd (cc)

pub few : (lines : List Line) (w : World) (items : List Item) → newest w.store.history ≤ 1 → length lines < 2 ^ 60 → IsShort (record { history = (last_from w lines).store.history; items = items })
few lines w items l n = let a = last_slow lines w in omega (arith, a, l, n)

-- the transcript of a script, and the history of the world behind it
abbrev pub whole_of : List Line → World → Whole
whole_of lines w = record { history = w.store.history; items = transcript lines }

-- what holds of the world behind a script
pub behind_script : (f : List ℕ → Change → Option Change) → ((namespace : List ℕ) → Strips namespace (f namespace)) → (lines : List Line) (w : World) → length lines < 2 ^ 60 → world_behind lines ≡ Ok (Some w)
    → Kept w.namespace (whole_of lines w) (f w.namespace) (transcript lines) w
behind_script f k [] w n e = absurd (cc)
behind_script f k (line.World members namespace leasing ∷ lines) w n e =
    let first = starting_world members namespace leasing in
    let last = last_is lines first w e in
    let start : List Item = item.World members namespace leasing ∷ [] in
    let items = start ++ transcript_from (Some first) lines in
    let whole : Whole = record { history = w.store.history; items = items } in
    let short : IsShort whole = subst (λ (v : World). IsShort (record { history = v.store.history; items = items })) last (few lines first items (omega arith) (omega (arith, n))) in
    let same : w.store.history ≡ (last_from first lines).store.history = ap (λ (v : World). v.store.history) (sym last) in
    let begun : Kept namespace whole (f namespace) start first = record { ok = begun_world namespace leasing members whole (f namespace); told = record { store = refl; calls = refl } } in
    let all = runs namespace whole (f namespace) (k namespace) short lines start first same refl begun in
    let there : Kept namespace whole (f namespace) items w = subst (Kept namespace whole (f namespace) items) last all in
    subst (λ (m : List ℕ). Kept m whole (f m) items w) (sym there.ok.namespace_is) there
behind_script f k (line.Start p ∷ lines) w n e = absurd (cc)
behind_script f k (line.Clock p millis ∷ lines) w n e = absurd (cc)
behind_script f k (line.Ask p ticket q ∷ lines) w n e = absurd (cc)
behind_script f k (line.Post p ticket path body ∷ lines) w n e = absurd (cc)
behind_script f k (line.Tick p ∷ lines) w n e = absurd (cc)
behind_script f k (line.Send p ∷ lines) w n e = absurd (cc)
behind_script f k (line.Exec number ∷ lines) w n e = absurd (cc)
behind_script f k (line.Answer number ∷ lines) w n e = absurd (cc)
behind_script f k (line.Lose number ∷ lines) w n e = absurd (cc)
behind_script f k (line.Push number ∷ lines) w n e = absurd (cc)
behind_script f k (line.Progress number ∷ lines) w n e = absurd (cc)
behind_script f k (line.Deliver number ∷ lines) w n e = absurd (cc)
behind_script f k (line.Cut number ∷ lines) w n e = absurd (cc)
behind_script f k (line.Take p ticket ∷ lines) w n e = absurd (cc)
behind_script f k (line.Leave p ticket ∷ lines) w n e = absurd (cc)
behind_script f k (line.Expire lease ∷ lines) w n e = absurd (cc)
behind_script f k (line.Apply member revision ∷ lines) w n e = absurd (cc)
