-- What the code makes step by step is what the definitions make of the steps together.
use Rattle.std.proofs.Common.{◌≡◌, ◌+◌, ◌*◌, ◌==◌, ◌/◌, ◌%◌, ◌^◌, ℕ, Bool, true, false, not, Option, None, Some, refl, sym, ◌∙◌, ap, subst, arith, eq-eqb}
use Rattle.std.proofs.lemmas.Bool.{eqb-true, eqb-false, ne_eqb}
use Rattle.replay_generated.specs.Made.{Made, IsOf, HasStreams, has_streams, IsDue, is_due, Makes, makes, Sends, sends, Turns, turns, all_started}
use Rattle.replay_world.specs.World.{Stands}
use Rattle.script_text.specs.declared.line.Line.{Line}
use Rattle.script_text.specs.declared.line.Line.TheVariants as line
use Rattle.world_model.specs.Generated.{Making, add, all_pushes, asking, asks_once, drawn, ended, of_world, on_time, on_times, pushes, round, send_one, sends as sends_up_to, settle, settles, turn}
use Rattle.world_model.specs.Questions.{has_due, streams}
use Rattle.world_model.specs.State.{World}

-- Settling.

pub settles_all : {x y : Made} → Makes (settles 64) x y → Makes settle x y
settles_all (makes f) = makes f

pub turns_so : {w x y z u : Made} → Makes (sends_up_to 64 1) w x → Makes (sends_up_to 64 2) x y → Makes (sends_up_to 64 3) y z → Makes all_pushes z u → Makes turn w u
turns_so (makes f) (makes g) (makes h) (makes k) = makes (λ m i. k _ (h _ (g _ (f m i))))

pub ends_none : (x : Made) (call : Option ℕ) → call ≡ None → Makes (ended call) x x
ends_none x call e = subst (λ (c : Option ℕ). Makes (ended c) x x) (sym e) (makes (λ m h. h))

pub ends_call : {x y z : Made} (call : Option ℕ) (number : ℕ) → call ≡ Some number → Makes (add (line.Exec number)) x y → Makes (add (line.Answer number)) y z → Makes (ended call) x z
ends_call {x} {y} {z} call number e (makes f) (makes g) =
    subst (λ (c : Option ℕ). Makes (ended c) x z) (sym e) (makes (λ m h. g _ (f m h)))

pub sends_one : {x y z : Made} {p : ℕ} {call : Option ℕ} → Sends p call x y → Makes (ended call) y z → Makes (send_one p) x z
sends_one {x} {y} {z} {p} (sends f) (makes g) =
    makes (λ m h. subst (λ (o : Option ℕ). IsOf z (ended o (add (line.Send p) m))) (sym (f m h).call_is) (g _ (f m h).is))

pub dues : (x old : Made) (p : ℕ) (due : Bool) → x ≡ old → ((w : World) → Stands x.world w → due ≡ has_due w p) → IsDue p due old
dues x old p due e is =
    is_due (λ m h. let seen : IsOf x m = subst (λ (v : Made). IsOf v m) (sym e) h in ap (λ (o : Option World). of_world false (λ w. has_due w p) o) seen.made ∙ sym (is seen.world seen.stands))

pub counts : (x old : Made) (n : ℕ) → x ≡ old → ((w : World) → Stands x.world w → n ≡ streams w) → HasStreams n old
counts x old n e is =
    has_streams (λ m h. let seen : IsOf x m = subst (λ (v : Made). IsOf v m) (sym e) h in ap (λ (o : Option World). of_world 0 streams o) seen.made ∙ sym (is seen.world seen.stands))

pub pushes_all : {x y : Made} {n : ℕ} → HasStreams n x → Makes (pushes n 1) x y → Makes all_pushes x y
pushes_all {x} {y} (has_streams count) (makes f) =
    makes (λ m h. subst (λ (k : ℕ). IsOf y (pushes k 1 m)) (sym (count m h)) (f m h))

one_more : (k l : ℕ) (b : Bool) → (k == l) ≡ b → ((k + 1) == (l + 1)) ≡ b
one_more k l true e = eq-eqb (k + 1) (l + 1) (ap (λ (n : ℕ). n + 1) (eqb-true k l e))
one_more k l false e = ne_eqb (k + 1) (l + 1) (λ f. eqb-false k l e (omega (arith, f)))

not_not : (b : Bool) → not (not b) ≡ b
not_not true = refl
not_not false = refl

same_test : (i j k l : ℕ) (more : Bool) → i ≡ k + 1 → j ≡ l + 1 → more ≡ not (k == l) → (i == j) ≡ not more
same_test i j k l more e f g =
    ap (λ (n : ℕ). n == j) e ∙ ap (λ (n : ℕ). (k + 1) == n) f ∙ one_more k l (k == l) refl ∙ sym (not_not (k == l)) ∙ ap not (sym g)

pub turns_once : {x y : Made} (before after : ℕ) (more : Bool) → before ≡ x.world.lines → after ≡ y.world.lines → more ≡ not (after == before) → Makes turn x y → Turns more x y
turns_once before after more b a e (makes f) =
    turns (λ m h. record {
      is = f m h;
      more_is = same_test _ _ after before more ((f m h).lines ∙ ap (λ (n : ℕ). n + 1) (sym a)) (h.lines ∙ ap (λ (n : ℕ). n + 1) (sym b)) e;
    })

-- Rounds.

pub starts : {a b c d e f g : Made} → Makes (add (line.Start 1)) a b → Makes (add (line.Start 2)) b c → Makes (add (line.Start 3)) c d → Makes (add (line.Tick 1)) d e → Makes (add (line.Tick 2)) e f → Makes (add (line.Tick 3)) f g → Makes all_started a g
starts (makes i) (makes j) (makes k) (makes l) (makes n) (makes o) = makes (λ m h. o _ (n _ (l _ (k _ (j _ (i m h))))))

pub times_one : {x y z : Made} (number p : ℕ) → Makes (add (line.Clock p (200 * number))) x y → Makes (add (line.Tick p)) y z → Makes (on_time number p) x z
times_one number p (makes f) (makes g) = makes (λ m h. g _ (f m h))

pub times_not : (x : Made) (number : ℕ) (b : Bool) → b ≡ false → Makes (on_times b number) x x
times_not x number b e = makes (λ m h. subst (λ (t : Bool). IsOf x (on_times t number m)) (sym e) h)

pub times : {x y z u : Made} (number : ℕ) (b : Bool) → b ≡ true → Makes (on_time number 1) x y → Makes (on_time number 2) y z → Makes (on_time number 3) z u → Makes (on_times b number) x u
times {x} {y} {z} {u} number b e (makes i) (makes j) (makes k) =
    makes (λ m h. subst (λ (t : Bool). IsOf u (on_times t number m)) (sym e) (k _ (j _ (i m h))))

with_state : (x : Made) (m : Making) (state : ℕ) → IsOf x m → IsOf (record x { state = state }) (record m { state = state })
with_state x m state h = record {
  world = h.world;
  made = h.made;
  stands = h.stands;
  tally = h.tally;
  state = refl;
  lines = h.lines;
}

pub asks : {x y z u : Made} (l : Line) (state number : ℕ) → y ≡ record x { state = state } → l ≡ asking (state / 2 ^ 33) number → Makes (add l) y z → Makes settle z u → Makes (asks_once state number) x u
asks {x} {y} {z} {u} l state number put is (makes f) (makes g) =
    makes (λ m h. subst (λ (k : Line). IsOf u (settle (add k (record m { state = state })))) is (g _ (f _ (subst (λ (v : Made). IsOf v (record m { state = state })) (sym put) (with_state x m state h)))))

pub rounds_one : {x y z : Made} (number state : ℕ) → state ≡ drawn x.state → Makes (on_times (number % 10 == 0) number) x y → Makes (asks_once state number) y z → Makes (round number) x z
rounds_one {x} {y} {z} number state is (makes f) (makes g) =
    makes (λ m h. subst (λ (s : ℕ). IsOf z (asks_once s number (on_times (number % 10 == 0) number m))) (is ∙ ap drawn (sym h.state)) (g _ (f m h)))
