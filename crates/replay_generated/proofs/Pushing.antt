-- The store has a message for a stream exactly where pushing it is no refusal, and a refusal leaves the world as it was.
use Rattle.std.proofs.Common.{◌≡◌, ◌≢◌, ℕ, ◌+◌, Bool, true, false, List, Option, None, Some, Result, Ok, Err, is_ok, refl, sym, ◌∙◌, ap, subst}
use Rattle.replay_generated.specs.Made.{Made, IsOf, Makes, makes, Refuses, Takes, takes}
use Rattle.replay_world.specs.Step.{Refuses as Stepped}
use Rattle.replay_world.specs.World.{Stands}
use Rattle.script_text.specs.declared.item.Item.{Item}
use Rattle.script_text.specs.declared.line.Line.TheVariants as line
use Rattle.store_model.specs.Watches.{Pushed, pushed}
use Rattle.world_model.specs.declared.fault.LineRefusal.{LineRefusal}
use Rattle.world_model.specs.declared.fault.LineRefusal.TheVariants as refusal
use Rattle.world_model.specs.declared.fault.WorldFault.{WorldFault}
use Rattle.world_model.specs.declared.fault.WorldFault.TheVariants as fault
use Rattle.world_model.specs.Generated.{Making, add, of_world, push_one, pushes_if}
use Rattle.world_model.specs.Places.{nth}
use Rattle.world_model.specs.Questions.{can_push, can_push_of, is_there, pushes_if as has_message}
use Rattle.world_model.specs.State.{Place, OpenedStream, World}
use Rattle.world_model.specs.Steps.{Step}
use Rattle.world_model.specs.Streams.{message_pushed, open_place, pushed_as, pushed_at, pushed_of}
use Rattle.world_model.specs.Transcript.{Done, Taken, counted_as, done, next, refused_so}

-- whether it can be pushed, and the world where it can't
record Tells (w : World) (can : Bool) (x : Step) : Type 0 where
  pub taken : is_ok x.gained ≡ can
  pub same : can ≡ false → x.world ≡ w

by_message : (w : World) (number : ℕ) (s : OpenedStream) (p : Pushed) → Tells w (is_ok p) (pushed_as w number s p)
by_message w number s (Ok p) = record { taken = refl; same = λ e. absurd (cc) }
by_message w number s (Err why) = record { taken = refl; same = λ e. refl }

by_place : (w : World) (number : ℕ) (s : OpenedStream) (o : Option Place) → Tells w (has_message w number (is_there o)) (pushed_at w number (pushed w.store) s o)
by_place w number s None = record { taken = refl; same = λ e. refl }
by_place w number s (Some x) = by_message w number s (pushed w.store number)

by_stream : (w : World) (number : ℕ) (o : Option OpenedStream) → Tells w (can_push_of w number o) (pushed_of w number (pushed w.store) o)
by_stream w number None = record { taken = refl; same = λ e. refl }
by_stream w number (Some s) = by_place w number s (open_place w s)

tells : (w : World) (number : ℕ) → Tells w (can_push w number) (message_pushed w number)
tells w number = by_stream w number (nth w.streams number)

refused_is : (r : Result (List Item) WorldFault) → is_ok (refused_so r) ≡ is_ok r
refused_is (Ok items) = refl
refused_is (Err why) = refl

counted_is : (w : World) (r : Result (List Item) LineRefusal) → is_ok (counted_as w r) ≡ is_ok r
counted_is w (Ok items) = refl
counted_is w (Err why) = refl

pub can_push_so : (w : World) (number : ℕ) (got : World × List Item) → next (Some w) (line.Push number) ≡ Ok got → can_push w number ≡ true
can_push_so w number got e =
    let x = message_pushed w number in
    sym (tells w number).taken ∙ sym (refused_is x.gained) ∙ sym (counted_is x.world (refused_so x.gained)) ∙ ap (λ (t : Taken). is_ok t) e

record Cannot (w v : World) (can : Bool) : Type 0 where
  pub cannot : can ≡ false
  pub same : v ≡ w

cannot_push_so : (w v : World) (number : ℕ) (why : LineRefusal) → done w (line.Push number) ≡ record { world = v; gained = Err why } → Cannot w v (can_push w number)
cannot_push_so w v number why e =
    let x = message_pushed w number in
    let no : can_push w number ≡ false = sym (tells w number).taken ∙ sym (refused_is x.gained) ∙ ap (λ (d : Done). is_ok d.gained) e in
    record { cannot = no; same = sym (ap (λ (d : Done). d.world) e) ∙ (tells w number).same no }

-- What a push makes of a script that is being made.

can_is : (x : Made) (m : Making) (number : ℕ) (b : Bool) (h : IsOf x m) → can_push h.world number ≡ b → of_world false (λ w. can_push w number) m.world ≡ b
can_is x m number b h e = ap (λ (o : Option World). of_world false (λ w. can_push w number) o) h.made ∙ e

pushed_so : (x z : Made) (m : Making) (number : ℕ) (got : World × List Item) (h : IsOf x m) → next m.world (line.Push number) ≡ Ok got → IsOf z (add (line.Deliver number) (add (line.Push number) m)) → IsOf z (push_one number m)
pushed_so x z m number got h e is =
    let here : next (Some h.world) (line.Push number) ≡ Ok got = sym (ap (λ (o : Option World). next o (line.Push number)) h.made) ∙ e in
    subst (λ (c : Bool). IsOf z (pushes_if c number m)) (sym (can_is x m number true h (can_push_so h.world number got here))) is

pub pushes : {x y z : Made} {number : ℕ} {items : List Item} → Takes (line.Push number) items x y → Makes (add (line.Deliver number)) y z → Makes (push_one number) x z
pushes {x} {y} {z} {number} {items} (takes f) (makes k) =
    makes (λ m h. pushed_so x z m number ((f m h).after, items) h (f m h).so (k _ (f m h).is))

not_pushed : (x y : Made) (m : Making) (number : ℕ) (why : WorldFault) → why ≢ fault.NoMemory → Refuses (line.Push number) why x y → IsOf x m → IsOf y (push_one number m)
not_pushed x y m number why n r h =
    let g : Stepped y.world (done h.world (line.Push number)) why = r.steps h.world h.stands n in
    let none = cannot_push_so h.world g.after number (refusal.World why) g.so in
    let is : IsOf (record x { world = y.world }) m =
    record {
      world = h.world;
      made = h.made;
      stands = subst (λ (v : World). Stands y.world v) none.same g.stands;
      tally = h.tally;
      state = h.state;
      lines = h.lines ∙ ap (λ (k : ℕ). k + 1) (sym r.lines);
    } in
    subst (λ (c : Bool). IsOf y (pushes_if c number m)) (sym (can_is x m number false h none.cannot)) (subst (λ (v : Made). IsOf v m) (sym r.same) is)

pub pushes_nothing : {x y : Made} (number : ℕ) (why : WorldFault) → why ≢ fault.NoMemory → (why ≢ fault.NoMemory → Refuses (line.Push number) why x y) → Makes (push_one number) x y
pushes_nothing {x} {y} number why n refused = makes (λ m h. not_pushed x y m number why n (refused n) h)
