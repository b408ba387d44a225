-- Behind a prefix of a script: which lines it has, and that its items tell its store, its namespace and its leasing prefix.
use Rattle.std.proofs.Common.{◌≡◌, ℕ, ◌+◌, List, [], ◌∷◌, ◌++◌, append_assoc, append-nil, Option, None, Some, Ok, refl, sym, ◌∙◌, ap}
use Rattle.core_model.specs.declared.event.CoreEvent.{CoreEvent}
use Rattle.core_model.specs.declared.event.Outcome.{Outcome}
use Rattle.script_text.specs.declared.item.Item.{Item}
use Rattle.script_text.specs.declared.line.Line.{Line}
use Rattle.script_text.specs.declared.line.Line.TheVariants as line
use Rattle.world_model.specs.Answers.{Seen, unseen, seen}
use Rattle.world_model.specs.Gains.{Replies}
use Rattle.world_model.specs.Lives.{world_of}
use Rattle.world_model.specs.Places.{nth}
use Rattle.world_model.specs.Sends.{closed_in}
use Rattle.world_model.specs.State.{Place, OpenedStream, World}
use Rattle.world_model.specs.Transcript.{Taken, done, counted_as, taken, items_and_then, world_behind, transcript}
use Rattle.world_laws.proofs.Counting.{goes_on as transcripts_go_on}
use Rattle.world_laws.proofs.Effects.{Turn, ticks, asks_it, posts_it, calls, opens, closes, answers, loses, delivers, cuts, takes, waits, leaves, Effect, starts, sets, refuses_post, executes, expires, applies, pushes, turns, effect}
use Rattle.world_laws.proofs.Quiet.{saw_all-append}
use Rattle.held_laws.proofs.Seen.{SeenOk, effect_seen}
use Rattle.prefix_laws.proofs.Prefixes.{IsKept, left_behind}

-- the namespace and the leasing prefix
abbrev pub prefixes : World → List ℕ × List ℕ
prefixes w = (w.namespace, w.leasing)

pub record Reached (items : List Item) (w : World) : Type 0 where
  pub front : List Line
  pub told : transcript front ≡ items
  pub behind : world_behind front ≡ Ok (Some w)
  pub world : (more : List Item) → world_of (items ++ more) ≡ prefixes w
  pub seen : SeenOk (seen items) w

-- ---- no line changes the namespace or the leasing prefix

abbrev Same : World → World → Type 0
Same w v = prefixes w ≡ prefixes v

closed_same : (w : World) (number : ℕ) (o : Option OpenedStream) → Same w (closed_in w number o)
closed_same w number None = refl
closed_same w number (Some s) = refl

turn_same : (w : World) (p : ℕ) (x : Place) (e : CoreEvent) (o : Outcome) (v : World) (y : Place) (own : List Item) (told : Replies) → Turn w p x e o v y own told → Same w v
turn_same w p x _ _ _ _ _ _ (ticks o) = refl
turn_same w p x _ _ _ _ _ _ (asks_it ticket q o n) = refl
turn_same w p x _ _ _ _ _ _ (posts_it ticket path body q o n) = refl
turn_same w p x _ _ _ _ _ _ (calls own member ticket q) = refl
turn_same w p x _ _ _ _ _ _ (opens own member ask) = refl
turn_same w p x _ _ _ _ _ _ (closes own number e) = closed_same w number (nth w.streams number)
turn_same w p x _ _ _ _ _ _ (answers number call a o e f) = refl
turn_same w p x _ _ _ _ _ _ (loses number call o e) = refl
turn_same w p x _ _ _ _ _ _ (delivers number s i rest o e f g k l) = refl
turn_same w p x _ _ _ _ _ _ (cuts number s o e f g k) = refl
turn_same w p x _ _ _ _ _ _ (takes ticket i) = refl
turn_same w p x _ _ _ _ _ _ (waits ticket o n) = refl
turn_same w p x _ _ _ _ _ _ (leaves ticket o) = refl

effect_same : (w after : World) (gained : List Item) → Effect w after gained → Same w after
effect_same w _ _ (starts p clock life i b) = refl
effect_same w _ _ (sets p millis x e forward) = refl
effect_same w _ _ (refuses_post p ticket path body a x e) = refl
effect_same w _ _ (executes number call e fresh) = refl
effect_same w _ _ (expires lease t e due) = refl
effect_same w _ _ (applies member revision t e) = refl
effect_same w _ _ (pushes number s t i e a b k) = refl
effect_same w _ _ (turns p x e o v y own told at out t) = turn_same w p _ e o v y own told t

-- ---- one line more

taken_so : (w : World) (l : Line) (gained : List Item) → (done w l).gained ≡ Ok gained → taken w l ≡ Ok (record (done w l).world { lines = (done w l).world.lines + 1 }, gained)
taken_so w l gained e = ap (counted_as (done w l).world) e

goes_on : (items : List Item) (w : World) (l : Line) (gained : List Item) → (done w l).gained ≡ Ok gained → Reached items w → Reached (items ++ gained) (record (done w l).world { lines = (done w l).world.lines + 1 })
goes_on items w l gained e r =
    let after = (done w l).world in
    let x = effect w l gained e in
    let t = taken_so w l gained e in
    let left = left_behind (r.front ++ l ∷ []) w l [] (record after { lines = after.lines + 1 }, gained) t (record { before = r.front; split = refl; behind = r.behind }) in
    let k = effect_seen (seen items) w after gained r.seen x in
    let s = saw_all-append unseen items gained in
    record {
      front = left.before;
      told =
          ap transcript (sym (append-nil left.before) ∙ sym left.split) ∙ transcripts_go_on r.front (l ∷ []) (Some w) r.behind
          ∙ ap (λ (y : Taken). transcript r.front ++ items_and_then y (λ v. [])) t ∙ ap (λ (xs : List Item). transcript r.front ++ xs) (append-nil gained) ∙ ap (λ (xs : List Item). xs ++ gained) r.told;
      behind = left.behind;
      world = λ more. ap world_of (append_assoc items gained more) ∙ r.world (gained ++ more) ∙ effect_same w after gained x;
      seen = record { store = ap (λ (z : Seen). z.store) s ∙ k.store; calls = ap (λ (z : Seen). z.calls) s ∙ k.calls };
    }

pub reached_kept : (script : List Line) → IsKept script Reached
reached_kept script = record {
  begins = λ members namespace leasing. record {
    front = line.World members namespace leasing ∷ [];
    told = refl;
    behind = refl;
    world = λ more. refl;
    seen = record { store = refl; calls = refl };
  };
  goes_on = λ namespace items w l gained n e ok r. goes_on items w l gained e r;
}
