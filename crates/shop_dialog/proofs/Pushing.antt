-- The pushes of a watch, one after the other.
use Rattle.std.proofs.Common.{◌≡◌, ℕ, Bool, true, false, not, ◌||◌, List, [], ◌∷◌, ◌++◌, Option, Result, Ok, Err, refl, append_assoc, subst, sym, ap, ◌∙◌}
use Rattle.std.proofs.KnownBytes.{Appends-trans}
use Rattle.std.specs.Io.KnownBytes.{Appends}
use Rattle.outside.specs.Streams.{WritesFront}
use Rattle.etcd_types.specs.declared.watch.WatchItem.{WatchItem}
use Rattle.http_talk.specs.Replies.{is_cancel}
use Rattle.http_talk.proofs.Said.{front_all, front_none, front_after, keeps_itself, appends_nothing}
use Rattle.turn_hub.specs.History.{entry_of}
use Rattle.shop_model.specs.declared.event.StoreEvent.TheVariants.{Push}
use Rattle.shop_model.specs.declared.event.StoreOutcome.{StoreOutcome}
use Rattle.shop_model.specs.declared.event.StoreOutcome.TheVariants as outcome
use Rattle.shop_model.specs.declared.event.StoreStepFault.{StoreStepFault}
use Rattle.shop_dialog.specs.declared.ends.StoreEnd.{StoreEnd}
use Rattle.shop_dialog.specs.declared.ends.StoreEnd.TheVariants as end
use Rattle.shop_dialog.specs.declared.progress.Pushed.{Pushed}
use Rattle.shop_dialog.specs.declared.progress.Pushed.TheVariants as pushed
use Rattle.shop_dialog.specs.declared.progress.Stop.{Stop}
use Rattle.shop_dialog.specs.declared.progress.Stop.TheVariants as stop
use Rattle.shop_dialog.specs.Steps.{Step}
use Rattle.shop_dialog.specs.Watching.{ArePartial, PushesAll, Stopping, IsUntold, IsOfAny, end_of_step, goes_on}
use Rattle.shop_dialog.specs.Dialog.{begins, said_at, said_from}
use Rattle.shop_dialog.specs.Exchanges.{Partly, Took, PassesOn, Pushes, Stopped, FollowsAll, begun_by}
use Rattle.shop_dialog.proofs.Grown.{grows_not, grows_then, every_append, or_false, or_true, said_append, begun_append, one_said}

-- ---- one push

pub took_nothing : (number now : ℕ) (begun : Bool) (a b : List Step) (w : Option (List ℕ)) → b ≡ a ++ entry_of (Push number) now (Ok outcome.Nothing) ∷ []
    → Took number begun a b w w pushed.Nothing
took_nothing number now begun a b w m = (now, Ok outcome.Nothing, refl, m, appends_nothing w)

took_last : (number now : ℕ) (begun : Bool) (a b : List Step) (w w' : Option (List ℕ)) (item : WatchItem) → b ≡ a ++ entry_of (Push number) now (Ok (outcome.Item item)) ∷ []
    → is_cancel item ≡ true → Appends w w' (said_at begun (Ok (outcome.Item item))) → Took number begun a b w w' pushed.Last
took_last number now begun a b w w' item m c s = (now, Ok (outcome.Item item), c, m, s)

took_part : (number now : ℕ) (begun : Bool) (a b : List Step) (w w' : Option (List ℕ)) (item : WatchItem) → b ≡ a ++ entry_of (Push number) now (Ok (outcome.Item item)) ∷ []
    → is_cancel item ≡ false → Appends w w' (said_at begun (Ok (outcome.Item item))) → Took number begun a b w w' pushed.Part
took_part number now begun a b w w' item m c s = (now, Ok (outcome.Item item), (ap not c, refl), m, s)

-- its message couldn't be written

unsaid_last : (worn : Type 0) (number now : ℕ) (begun : Bool) (a b : List Step) (w w' : Option (List ℕ)) (item : WatchItem) (e : StoreEnd)
    → b ≡ a ++ entry_of (Push number) now (Ok (outcome.Item item)) ∷ [] → is_cancel item ≡ true → IsUntold e → WritesFront w w' (said_at begun (Ok (outcome.Item item)))
    → Stopped worn number begun a b w w' (stop.Answered e)
unsaid_last worn number now begun a b w w' item e m c u s =
    let x = entry_of (Push number) now (Ok (outcome.Item item)) in
    (x ∷ [], PushesAll.up_to now [] (Ok (outcome.Item item)) tt c, u, m, subst (WritesFront w w') (sym (one_said begun x)) s)

unsaid_part : (worn : Type 0) (number now : ℕ) (begun : Bool) (a b : List Step) (w w' : Option (List ℕ)) (item : WatchItem) (e : StoreEnd)
    → b ≡ a ++ entry_of (Push number) now (Ok (outcome.Item item)) ∷ [] → is_cancel item ≡ false → IsUntold e → WritesFront w w' (said_at begun (Ok (outcome.Item item)))
    → Stopped worn number begun a b w w' (stop.Unanswered e)
unsaid_part worn number now begun a b w w' item e m c u s =
    let x = entry_of (Push number) now (Ok (outcome.Item item)) in
    (x ∷ [], [], ((refl, ap not c), tt), Stopping.untold e u, m, subst (WritesFront w w') (sym (one_said begun x)) s)

-- a message was passed on, or couldn't be
pub passed_on : (worn : Type 0) (number now : ℕ) (begun : Bool) (a b : List Step) (w w' : Option (List ℕ)) (item : WatchItem) (result : Result Pushed Stop)
    → b ≡ a ++ entry_of (Push number) now (Ok (outcome.Item item)) ∷ [] → PassesOn begun item w w' result → Pushes worn number begun a b w w' result
passed_on worn number now begun a b w w' item (Ok pushed.Nothing) m p = absurd p
passed_on worn number now begun a b w w' item (Ok pushed.Part) m p = took_part number now begun a b w w' item m p.0 p.1
passed_on worn number now begun a b w w' item (Ok pushed.Last) m p = took_last number now begun a b w w' item m p.0 p.1
passed_on worn number now begun a b w w' item (Err (stop.Unanswered e)) m p = unsaid_part worn number now begun a b w w' item e m p.0 p.1 p.2
passed_on worn number now begun a b w w' item (Err (stop.Answered e)) m p = unsaid_last worn number now begun a b w w' item e m p.0 p.1 p.2

-- the push failed, or no step was made

pub push_failed : (worn : Type 0) (number now : ℕ) (begun : Bool) (a b : List Step) (w : Option (List ℕ)) (fault : StoreStepFault) (e : StoreEnd) → e ≡ end_of_step fault → IsOfAny fault
    → b ≡ a ++ entry_of (Push number) now (Err fault) ∷ [] → Stopped worn number begun a b w w (stop.Unanswered e)
push_failed worn number now begun a b w fault e is f m =
    let tail = entry_of (Push number) now (Err fault) ∷ [] in
    ([], tail, tt, subst (λ (x : StoreEnd). Stopping worn number x tail) (sym is) (Stopping.failed now fault f), m, front_none w w [] (keeps_itself w))

pub push_late : (worn : Type 0) (number : ℕ) (begun : Bool) (a b : List Step) (w : Option (List ℕ)) → worn → b ≡ a → Stopped worn number begun a b w w (stop.Unanswered end.Worn)
push_late worn number begun a b w l m = ([], [], tt, Stopping.late l, m ∙ grows_not a, front_none w w [] (keeps_itself w))

-- ---- pushes

pub nothing_yet : (number : ℕ) (a : List Step) (w : Option (List ℕ)) → Partly number false a a w w
nothing_yet number a w = record { pushes = []; partial = tt; did = grows_not a; said = appends_nothing w; begun_so = refl }

said_then : (number : ℕ) (begun : Bool) (a b : List Step) (u v w : Option (List ℕ)) (p : Partly number begun a b u v) (e : Step)
    → Appends v w (said_at begun e.answer) → Appends u w (said_from false (p.pushes ++ e ∷ []))
said_then number begun a b u v w p e s =
    subst (Appends u w) (sym (said_append false p.pushes (e ∷ []))) (Appends-trans u v w (said_from false p.pushes) (said_from (begun_by p.pushes) (e ∷ [])) p.said
    (subst (Appends v w) (ap (λ (b : Bool). said_at b e.answer) (sym p.begun_so) ∙ sym (one_said (begun_by p.pushes) e)) s))

more : (number now : ℕ) (begun : Bool) (a b c : List Step) (u v w : Option (List ℕ)) (answer : Result StoreOutcome StoreStepFault) → (p : Partly number begun a b u v)
    → goes_on answer ≡ true → c ≡ b ++ entry_of (Push number) now answer ∷ [] → Appends v w (said_at begun answer) → Partly number (begun || begins answer) a c u w
more number now begun a b c u v w answer p g m s =
    let e = entry_of (Push number) now answer in
    record {
      pushes = p.pushes ++ e ∷ [];
      partial = every_append (λ (x : Step). (x.event ≡ Push number) × (goes_on x.answer ≡ true)) p.pushes (e ∷ []) p.partial ((refl, g), tt);
      did = grows_then a b c p.pushes (e ∷ []) p.did m;
      said = said_then number begun a b u v w p e s;
      begun_so = begun_append p.pushes (e ∷ []) ∙ ap (λ (x : Bool). x || (begins answer || false)) p.begun_so ∙ ap (λ (x : Bool). begun || x) (sym (or_false (begins answer)));
    }

pub part_taken : (number : ℕ) (begun : Bool) (a b c : List Step) (u v w : Option (List ℕ)) → Partly number begun a b u v → Took number begun b c v w pushed.Part
    → Partly number true a c u w
part_taken number begun a b c u v w p t =
    let all = more number t.0 begun a b c u v w t.1 p t.2.0 t.3 t.4 in
    subst (λ (x : Bool). Partly number x a c u w) (ap (λ (x : Bool). begun || x) t.2.1 ∙ or_true begun) all

pub nothing_taken : (number : ℕ) (begun : Bool) (a b c : List Step) (u v w : Option (List ℕ)) → Partly number begun a b u v → Took number begun b c v w pushed.Nothing
    → Partly number begun a c u w
nothing_taken number begun a b c u v w p t =
    let all = more number t.0 begun a b c u v w t.1 p (ap goes_on t.2) t.3 t.4 in
    subst (λ (x : Bool). Partly number x a c u w) (ap (λ (x : Bool). begun || x) (ap begins t.2) ∙ sym (or_false begun)) all

pub last_taken : (number : ℕ) (begun : Bool) (a b c : List Step) (u v w : Option (List ℕ)) → Partly number begun a b u v → Took number begun b c v w pushed.Last
    → FollowsAll number a c u w
last_taken number begun a b c u v w p t =
    let e = entry_of (Push number) t.0 t.1 in
    (p.pushes ++ e ∷ [], PushesAll.up_to t.0 p.pushes t.1 p.partial t.2, grows_then a b c p.pushes (e ∷ []) p.did t.3, said_then number begun a b u v w p e t.4)

-- the same by another name
pub taken_as : (number : ℕ) (begun : Bool) (a b : List Step) (u v : Option (List ℕ)) (x y : Pushed) → x ≡ y → Took number begun a b u v x → Took number begun a b u v y
taken_as number begun a b u v x y e t = subst (λ (z : Pushed). Took number begun a b u v z) e t

-- no more is pushed, behind what was pushed before

front_behind : (begun : Bool) (u v w : Option (List ℕ)) (xs ys : List Step) → begun_by xs ≡ begun → Appends u v (said_from false xs) → WritesFront v w (said_from begun ys)
    → WritesFront u w (said_from false (xs ++ ys))
front_behind begun u v w xs ys e a f =
    subst (WritesFront u w) (sym (said_append false xs ys))
    (front_after u v w (said_from false xs) (said_from (begun_by xs) ys) a (subst (λ (b : Bool). WritesFront v w (said_from b ys)) (sym e) f))

all_behind : (number : ℕ) (xs ys : List Step) → ArePartial number xs → PushesAll number ys → PushesAll number (xs ++ ys)
all_behind number xs _ p (PushesAll.up_to now pushes last q f) =
    let e = entry_of (Push number) now last in
    subst (PushesAll number) (append_assoc xs pushes (e ∷ []))
    (PushesAll.up_to now (xs ++ pushes) last (every_append (λ (x : Step). (x.event ≡ Push number) × (goes_on x.answer ≡ true)) xs pushes p q) f)

pub stopped_then : (worn : Type 0) (number : ℕ) (begun : Bool) (a b c : List Step) (u v w : Option (List ℕ)) (why : Stop) → Partly number begun a b u v
    → Stopped worn number begun b c v w why → Stopped worn number false a c u w why
stopped_then worn number begun a b c u v w (stop.Unanswered e) p s = (
  p.pushes ++ s.0,
  s.1,
  every_append (λ (x : Step). (x.event ≡ Push number) × (goes_on x.answer ≡ true)) p.pushes s.0 p.partial s.2,
  s.3,
  subst (λ (xs : List Step). c ≡ a ++ xs) (sym (append_assoc p.pushes s.0 s.1)) (grows_then a b c p.pushes (s.0 ++ s.1) p.did s.4),
  front_behind begun u v w p.pushes s.0 p.begun_so p.said s.5,
)
stopped_then worn number begun a b c u v w (stop.Answered e) p s = (
  p.pushes ++ s.0,
  all_behind number p.pushes s.0 p.partial s.1,
  s.2,
  grows_then a b c p.pushes s.0 p.did s.3,
  front_behind begun u v w p.pushes s.0 p.begun_so p.said s.4,
)

-- the client went away
pub client_went : (worn : Type 0) (number : ℕ) (begun : Bool) (a b : List Step) (u v : Option (List ℕ)) → Partly number begun a b u v
    → Stopped worn number false a b u v (stop.Unanswered end.ReadFault)
client_went worn number begun a b u v p =
    (p.pushes, [], p.partial, Stopping.went, p.did ∙ ap (λ (xs : List Step). a ++ xs) (grows_not p.pushes), front_all u v (said_from false p.pushes) p.said)
