-- Along the making of a generated script: the world that the lines so far left takes the next one, and stands as it is to.
use Rattle.std.proofs.Common.{◌≡◌, ℕ, zero, suc, ◌+◌, ◌*◌, ◌≤◌, Bool, true, false, List, [], length, Option, None, Some, is_some, is_ok, Ok, refl, sym, ◌∙◌, ap, subst, arith}
use Rattle.script_text.specs.declared.item.Item.{Item}
use Rattle.script_text.specs.declared.line.Line.{Line}
use Rattle.script_text.specs.declared.line.Line.TheVariants as line
use Rattle.core_model.specs.DueJobs.{has_job}
use Rattle.world_model.specs.Generated.{Making, added_as, add, call_in, of_world, gained_by, ended, send_one, sends_if, sends, pushes_if, push_one, pushes}
use Rattle.world_model.specs.Places.{place_at}
use Rattle.world_model.specs.Questions.{place_has_job, has_due, can_push}
use Rattle.world_model.specs.State.{Place, World}
use Rattle.world_model.specs.Transcript.{Taken, taken, next}
use Rattle.generated_laws.specs.Laws.{Takes, TakesBoth, EndTaken, SendTaken, SendsIf, SendsTaken, PushIf, PushTaken, PushesTaken}
use Rattle.generated_laws.proofs.Delivering.{push_lines}
use Rattle.generated_laws.proofs.Ending.{IsEarly}
use Rattle.generated_laws.proofs.Events.{Sends, a_call, an_opening, work_step}
use Rattle.generated_laws.proofs.Lines.{Both, small}
use Rattle.generated_laws.proofs.Opening.{Opened, opening_line}
use Rattle.generated_laws.proofs.Sending.{Three, call_lines}
use Rattle.generated_laws.proofs.Stepping.{IsSmall}
use Rattle.generated_laws.proofs.Worlds.{stands_core, more_running, LineTaken}
use Rattle.generated_laws.specs.Worlds.{All, IsProxy, Running}

-- ---- a making and its world

-- it has a world in which all stands, with so many streams at most
pub record Good (next most clock many : ℕ) (m : Making) : Type 0 where
  pub world : World
  pub made : m.world ≡ Some world
  pub runs : Running next most clock world
  pub streams : length world.streams ≤ many

pub good_more : (next most more clock later many several : ℕ) (m : Making) → most ≤ more → clock ≤ later → many ≤ several → Good next most clock many m → Good next more later several m
good_more next most more clock later many several m h k l g = record {
  world = g.world;
  made = g.made;
  runs = more_running next most more clock later g.world h k g.runs;
  streams = (let s = g.streams in omega (arith, s, l));
}

abbrev comes : Making → Line → Taken
comes m l = next m.world l

next_is : (m : Making) (w : World) (l : Line) (t : Taken) → m.world ≡ Some w → taken w l ≡ t → next m.world l ≡ t
next_is m w l t e f = ap (λ o. next o l) e ∙ f

takes_so : (m : Making) (w after : World) (l : Line) (items : List Item) → m.world ≡ Some w → taken w l ≡ Ok (after, items) → Takes m l
takes_so m w after l items e f = ap is_ok (next_is m w l (Ok (after, items)) e f)

added : (m : Making) (w after : World) (l : Line) (items : List Item) → m.world ≡ Some w → taken w l ≡ Ok (after, items) → (add l m).world ≡ Some after
added m w after l items e f = ap (λ (t : Taken). (added_as m l t).world) (next_is m w l (Ok (after, items)) e f)

pub the_place : (p : ℕ) (o : Option Place) → is_some o ≡ true → (x : Place) × (o ≡ Some x)
the_place p None e = absurd (cc)
the_place p (Some x) e = (x, refl)

-- ---- one line, and two

pub record Then (next most clock many : ℕ) (m : Making) (l : Line) : Type 0 where
  pub takes : Takes m l
  pub good : Good next most clock many (add l m)

one_more : (a b c : ℕ) → a ≤ b + 1 → b ≤ c → a ≤ c + 1
one_more a b c h k = omega (arith, h, k)

pub line_good : (next most clock many : ℕ) (m : Making) (l : Line) (w : World) → m.world ≡ Some w → length w.streams ≤ many → LineTaken (All next most clock) most w l → Then next most clock (many + 1) m l
line_good next most clock many m l w e n t = record {
  takes = takes_so m w t.after l t.items e t.taken;
  good = record { world = t.after; made = added m w t.after l t.items e t.taken; runs = t.runs; streams = one_more (length t.after.streams) (length w.streams) many t.streams n };
}

pub record ThenBoth (next most clock many : ℕ) (m : Making) (first second : Line) : Type 0 where
  pub takes : TakesBoth m first second
  pub good : Good next most clock many (add second (add first m))

pub both_good : (next most clock many : ℕ) (m : Making) (first second : Line) (w : World) → m.world ≡ Some w → (b : Both (All next most clock) most w first second) → length b.then.after.streams ≤ many → ThenBoth next most clock many m first second
both_good next most clock many m first second w e b n =
    let made = added m w b.between first b.items e b.taken in
    record {
      takes = (takes_so m w b.between first b.items e b.taken, takes_so (add first m) b.between b.then.after second b.then.items made b.then.taken);
      good = record { world = b.then.after; made = added (add first m) b.between b.then.after second b.then.items made b.then.taken; runs = b.then.runs; streams = n };
    }

-- ---- sends

pub record ThenSend (next most clock many p : ℕ) (m : Making) : Type 0 where
  pub takes : SendTaken p m
  pub good : Good next most clock many (send_one p m)

of_call : (next most clock many p : ℕ) (m : Making) (w : World) → m.world ≡ Some w → length w.streams ≤ many → Three (All next most clock) most w p → ThenSend next most clock (many + 1) p m
of_call next most clock many p m w e n t = record {
  takes = (takes_so m w t.first (line.Send p) t.items e t.sent, subst (λ (o : Option ℕ). EndTaken o (add (line.Send p) m)) (sym call) (takes_so (add (line.Send p) m) t.first t.second (line.Exec t.call) t.more first t.executed, takes_so (add (line.Exec t.call) (add (line.Send p) m)) t.second t.then.after (line.Answer t.call) t.then.items second t.then.taken));
  good = subst (λ (o : Option ℕ). Good next most clock (many + 1) (ended o (add (line.Send p) m))) (sym call) (record {
    world = t.then.after;
    made = added (add (line.Exec t.call) (add (line.Send p) m)) t.second t.then.after (line.Answer t.call) t.then.items second t.then.taken;
    runs = t.then.runs;
    streams = one_more (length t.then.after.streams) (length w.streams) many t.streams n;
  });
}
  where
    call : call_in (gained_by (comes m (line.Send p))) ≡ Some t.call
    call = ap (λ (k : Taken). call_in (gained_by k)) (next_is m w (line.Send p) (Ok (t.first, t.items)) e t.sent) ∙ t.named

    first : (add (line.Send p) m).world ≡ Some t.first
    first = added m w t.first (line.Send p) t.items e t.sent

    second : (add (line.Exec t.call) (add (line.Send p) m)).world ≡ Some t.second
    second = added (add (line.Send p) m) t.first t.second (line.Exec t.call) t.more first t.executed

of_opening : (next most clock many p : ℕ) (m : Making) (w : World) → m.world ≡ Some w → length w.streams ≤ many → Opened (All next most clock) most w p → ThenSend next most clock (many + 1) p m
of_opening next most clock many p m w e n t =
    let l = t.line in
    let none : call_in (gained_by (comes m (line.Send p))) ≡ None = ap (λ (k : Taken). call_in (gained_by k)) (next_is m w (line.Send p) (Ok (l.after, l.items)) e l.taken) ∙ t.none in
    record {
      takes = (takes_so m w l.after (line.Send p) l.items e l.taken, subst (λ (o : Option ℕ). EndTaken o (add (line.Send p) m)) (sym none) tt);
      good = subst (λ (o : Option ℕ). Good next most clock (many + 1) (ended o (add (line.Send p) m))) (sym none) (record {
        world = l.after;
        made = added m w l.after (line.Send p) l.items e l.taken;
        runs = l.runs;
        streams = one_more (length l.after.streams) (length w.streams) many l.streams n;
      });
    }

send_good : (next most clock many p : ℕ) (m : Making) → IsSmall (most + 4) → IsEarly clock → IsProxy p → (g : Good next most clock many m) → has_due g.world p ≡ true → ThenSend next (most + 4) clock (many + 1) p m
send_good next most clock many p m s early i g due =
    let at = the_place p (place_at g.world p) (g.runs.there p i) in
    let x = at.0 in
    let job : has_job x.core ≡ true = sym (ap place_has_job at.1) ∙ due in
    by x at.1 (work_step x.clock next most x.core (small most 4 s) (stands_core next most clock [] x (g.runs.places p x at.1)) job)
  where
    by : (x : Place) → place_at g.world p ≡ Some x → Sends x.clock next (most + 1) x.core → ThenSend next (most + 4) clock (many + 1) p m
    by x at (a_call k) = of_call next (most + 4) clock many p m g.world g.made g.streams (call_lines next most clock p g.world x s early g.runs at k)
    by x at (an_opening k) =
        let t = of_opening next (most + 2) clock many p m g.world g.made g.streams (opening_line next most clock p g.world x (small (most + 2) 2 (omega (arith, s))) g.runs at k) in
        record { takes = t.takes; good = good_more next (most + 2) (most + 4) clock clock (many + 1) (many + 1) (send_one p m) (omega (arith)) (omega (arith)) (omega (arith)) t.good }

pub record ThenSends (next most clock many n p : ℕ) (m : Making) : Type 0 where
  pub takes : SendsTaken n p m
  pub good : Good next most clock many (sends n p m)

pub sends_good : (n next most clock many p : ℕ) (m : Making) → IsSmall (most + 4 * n) → IsEarly clock → IsProxy p → Good next most clock many m → ThenSends next (most + 4 * n) clock (many + n) n p m
sends_good zero next most clock many p m s early i g = record { takes = tt; good = good_more next most (most + 4 * 0) clock clock many (many + 0) m (omega (arith)) (omega (arith)) (omega (arith)) g }
sends_good (suc n) next most clock many p m s early i g =
    by (has_due g.world p) refl (λ h k. sends_good n next (most + 4) clock (many + 1) p (send_one p m) h early i k)
  where
    is_due : of_world false (λ w. has_due w p) m.world ≡ has_due g.world p
    is_due = ap (of_world false (λ w. has_due w p)) g.made

    P : Bool → Type 0
    P b = SendsIf b (SendsTaken n p) p m × Good next (most + 4 * suc n) clock (many + suc n) (sends_if b (sends n p) p m)

    so : (b : Bool) → has_due g.world p ≡ b → SendsIf b (SendsTaken n p) p m × Good next (most + 4 * suc n) clock (many + suc n) (sends_if b (sends n p) p m) → ThenSends next (most + 4 * suc n) clock (many + suc n) (suc n) p m
    so b e h =
        let f : b ≡ of_world false (λ w. has_due w p) m.world = sym e ∙ sym is_due in
        record {
          takes = subst (λ c. SendsIf c (SendsTaken n p) p m) f h.0;
          good = subst (λ c. Good next (most + 4 * suc n) clock (many + suc n) (sends_if c (sends n p) p m)) f h.1;
        }

    by : (b : Bool) → has_due g.world p ≡ b → (IsSmall (most + 4 + 4 * n) → Good next (most + 4) clock (many + 1) (send_one p m) → ThenSends next (most + 4 + 4 * n) clock (many + 1 + n) n p (send_one p m)) → ThenSends next (most + 4 * suc n) clock (many + suc n) (suc n) p m
    by false e more = so false e (tt, good_more next most (most + 4 * suc n) clock clock many (many + suc n) m (omega (arith)) (omega (arith)) (omega (arith)) g)
    by true e more =
        let t = send_good next most clock many p m (small (most + 4) (4 * n) (omega (arith, s))) early i g e in
        let u = more (omega (arith, s)) t.good in
        so true e ((t.takes, u.takes), good_more next (most + 4 + 4 * n) (most + 4 * suc n) clock clock (many + 1 + n) (many + suc n) (sends n p (send_one p m)) (omega (arith)) (omega (arith)) (omega (arith)) u.good)

-- ---- pushes

pub record ThenPushes (next most clock many n number : ℕ) (m : Making) : Type 0 where
  pub takes : PushesTaken n number m
  pub good : Good next most clock many (pushes n number m)

push_good : (next most clock many number : ℕ) (m : Making) → IsSmall (most + 3) → (g : Good next most clock many m) → PushTaken number m × Good next (most + 3) clock many (push_one number m)
push_good next most clock many number m s g = by (can_push g.world number) refl
  where
    is_due : of_world false (λ w. can_push w number) m.world ≡ can_push g.world number
    is_due = ap (of_world false (λ w. can_push w number)) g.made

    so : (b : Bool) → can_push g.world number ≡ b → PushIf b number m × Good next (most + 3) clock many (pushes_if b number m) → PushTaken number m × Good next (most + 3) clock many (push_one number m)
    so b e h =
        let f : b ≡ of_world false (λ w. can_push w number) m.world = sym e ∙ sym is_due in
        (subst (λ c. PushIf c number m) f h.0, subst (λ c. Good next (most + 3) clock many (pushes_if c number m)) f h.1)

    le_same : (a b c : ℕ) → a ≡ b → b ≤ c → a ≤ c
    le_same a b c e h = omega (arith, e, h)

    by : (b : Bool) → can_push g.world number ≡ b → PushTaken number m × Good next (most + 3) clock many (push_one number m)
    by false e = so false e (tt, good_more next most (most + 3) clock clock many many m (omega (arith)) (omega (arith)) (omega (arith)) g)
    by true e =
        let t = push_lines next most clock number g.world s g.runs e in
        let b = both_good next (most + 3) clock many m (line.Push number) (line.Deliver number) g.world g.made t.both (le_same (length t.both.then.after.streams) (length g.world.streams) many t.same g.streams) in
        so true e (b.takes, b.good)

pub pushes_good : (n next most clock many number : ℕ) (m : Making) → IsSmall (most + 3 * n) → Good next most clock many m → ThenPushes next (most + 3 * n) clock many n number m
pushes_good zero next most clock many number m s g = record { takes = tt; good = good_more next most (most + 3 * 0) clock clock many many m (omega (arith)) (omega (arith)) (omega (arith)) g }
pushes_good (suc n) next most clock many number m s g =
    let t = push_good next most clock many number m (small (most + 3) (3 * n) (omega (arith, s))) g in
    let u = pushes_good n next (most + 3) clock many (number + 1) (push_one number m) (omega (arith, s)) t.1 in
    record { takes = (t.0, u.takes); good = good_more next (most + 3 + 3 * n) (most + 3 * suc n) clock clock many many (pushes n (number + 1) (push_one number m)) (omega (arith)) (omega (arith)) (omega (arith)) u.good }
