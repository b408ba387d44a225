-- A line that is taken is added.
use Rattle.std.proofs.Common.{◌≡◌, ℕ, ◌+◌, ◌++◌, ◌∷◌, [], List, length, Option, Some, Ok, Err, refl, sym, ◌∙◌, ap, subst, length-append}
use Rattle.replay_counts.specs.declared.tally.Tally.{Tally}
use Rattle.replay_counts.specs.Tallies.{no_tally, noted, noted_all}
use Rattle.replay_generated.specs.Made.{Made, IsOf, Gains, Makes, makes, Refuses, Sends, sends, Takes, takes}
use Rattle.replay_world.specs.Step.{Gains as Stepped, StepsTo}
use Rattle.replay_world.specs.World.{Parts, Stands}
use Rattle.script_text.specs.declared.item.Item.{Item}
use Rattle.script_text.specs.declared.line.Line.{Line}
use Rattle.script_text.specs.declared.line.Line.TheVariants as line
use Rattle.world_model.specs.declared.fault.WorldFault.{WorldFault}
use Rattle.world_model.specs.Generated.{Making, add, added_as, call_in, gained_by}
use Rattle.world_model.specs.State.{World}
use Rattle.world_model.specs.Transcript.{Taken, counted, done, next}

noted_more : (t : Tally) (xs ys : List Item) → noted_all t (xs ++ ys) ≡ noted_all (noted_all t xs) ys
noted_more t [] ys = refl
noted_more t (x ∷ xs) ys = noted_more (noted t x) xs ys

counted_more : (lines : List Line) (l : Line) (n : ℕ) → length lines ≡ n → length (lines ++ l ∷ []) ≡ n + 1
counted_more lines l n e = length-append lines (l ∷ []) ∙ ap (λ (k : ℕ). k + 1) e

-- what the code has once the line's items are counted
abbrev with_gained : Made → Parts → List Item → Made
with_gained x new items = record x { world = new; tally = noted_all x.tally items }

-- one line more than these
with_line : (x : Made) (m : Making) (l : Line) (new : Parts) (items : List Item) (w : World) → IsOf x m → Stands new w → new.lines ≡ x.world.lines + 1 → IsOf (with_gained x new items) (record m { lines = m.lines ++ l ∷ []; items = m.items ++ items; world = Some w })
with_line x m l new items w h stands lines = record {
  world = w;
  made = refl;
  stands = stands;
  tally = ap (λ (t : Tally). noted_all t items) h.tally ∙ sym (noted_more no_tally m.items items);
  state = h.state;
  lines = counted_more m.lines l (x.world.lines + 1) h.lines ∙ ap (λ (k : ℕ). k + 1) (sym lines);
}

gains : (x : Made) (m : Making) (l : Line) (new : Parts) (items : List Item) → IsOf x m → ((w : World) → Stands x.world w → StepsTo new (Ok items) (done w l)) → new.lines ≡ x.world.lines + 1 → Gains l items (with_gained x new items) m
gains x m l new items h steps lines =
    let g : Stepped new (done h.world l) items = steps h.world h.stands in
    let after : World = record g.after { lines = g.after.lines + 1 } in
    let so : next m.world l ≡ Ok (after, items) = ap (λ (o : Option World). next o l) h.made ∙ ap counted g.so in
    record {
      is = subst (λ (t : Taken). IsOf (with_gained x new items) (added_as m l t)) (sym so) (with_line x m l new items after h g.stands lines);
      after = after;
      so = so;
    }

-- The code's making was `old`, seen as `x`; `tally` is what is counted with the line's items.
pub takes_so : (x old : Made) (l : Line) (new : Parts) (items : List Item) (tally : Tally) → x ≡ old → ((w : World) → Stands x.world w → StepsTo new (Ok items) (done w l)) → new.lines ≡ x.world.lines + 1 → tally ≡ noted_all x.tally items
    → Takes l items old (record x { world = new; tally = tally })
takes_so x old l new items tally e steps lines put =
    takes (λ m h.
    subst (λ (t : Tally). Gains l items (record x { world = new; tally = t }) m) (sym put)
    (gains x m l new items (subst (λ (v : Made). IsOf v m) (sym e) h) steps lines))

pub refuses_so : (x old : Made) (l : Line) (new : Parts) (why : WorldFault) → x ≡ old → ((w : World) → Stands x.world w → StepsTo new (Err why) (done w l)) → new.lines ≡ x.world.lines → Refuses l why old (record x { world = new })
refuses_so x old l new why e steps lines =
    let seen : Refuses l why x (record x { world = new }) = record { steps = steps; lines = lines; same = refl } in
    subst (λ (v : Made). Refuses l why v (record x { world = new })) e seen

pub adds : {x y : Made} {l : Line} {items : List Item} → Takes l items x y → Makes (add l) x y
adds (takes f) = makes (λ m h. (f m h).is)

pub sends_so : {x y : Made} {p : ℕ} {items : List Item} (call : Option ℕ) → Takes (line.Send p) items x y → call ≡ call_in items → Sends p call x y
sends_so call (takes f) c =
    sends (λ m h. record { is = (f m h).is; call_is = ap (λ (u : Taken). call_in (gained_by u)) (f m h).so ∙ sym c })
