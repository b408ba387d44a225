-- A call is executed, also late and of an earlier life of its proxy: the store of bare keys executes the bare call, which is a move of
-- the view.
use Rattle.std.proofs.Common.{◌≡◌, ◌≢◌, ◌⊎◌, inl, inr, ℕ, zero, suc, ◌+◌, ◌-◌, ◌≤◌, ◌==◌, Bool, true, false, cond, List, [], ◌∷◌, length, slice_get, Option, None, Some, is_some, refl, sym, ◌∙◌, ap, subst, arith}
use Rattle.std.proofs.lemmas.Bool.Decides.{nat_tests}
use Rattle.etcd_types.specs.declared.answer.Answer.{Answer}
use Rattle.etcd_types.specs.declared.request.Request.{Request}
use Rattle.store_model.specs.State.{State}
use Rattle.store_model.specs.Step.{Step, exec}
use Rattle.store_model.specs.Watches.{watch_of}
use Rattle.store_laws.proofs.Requests.RequestProofs.{whole-exec}
use Rattle.namespace_laws.specs.Stored.Stored.{stored, stored_step}
use Rattle.namespace_laws.proofs.Stored.Steps.{stored_stores_answer}
use Rattle.cache_laws.specs.Moves.View.{Call, Outcome, Term, Slot}
use Rattle.cache_laws.proofs.Moves.Numbers.{other_number}
use Rattle.cache_laws.specs.Store.CallSteps.{IsOut}
use Rattle.call_laws.specs.Executions.{Moved}
use Rattle.call_laws.specs.Forms.{asked_by}
use Rattle.call_laws.proofs.Executing.{executions_move}
use Rattle.core_fits.specs.Fits.{EachOf}
use Rattle.world_model.specs.declared.floor.Floor.{Floor}
use Rattle.world_model.specs.declared.sent_call.SentCall.{SentCall}
use Rattle.world_model.specs.Floors.{floors_after}
use Rattle.world_model.specs.Places.{nth, with_nth, place_at}
use Rattle.world_model.specs.State.{Numbered, Place, World}
use Rattle.held_laws.proofs.Worlds.{nth_changed}
use Rattle.bridge_laws.specs.Floors.{FloorsOk}
use Rattle.bridge_laws.specs.Shown.{CallShown, numbers, OutShown, PlaceShown, Shown}
use Rattle.bridge_laws.specs.Executions.{executed_world, ExecutionsStayShown}
use Rattle.bridge_laws.proofs.Floored.{floors_go}
use Rattle.bridge_laws.proofs.Growing.{stream_grown}
use Rattle.std.proofs.lemmas.List.{length-set}

in_range : {A : Type 0} (xs : List A) (n : ℕ) (x : A) → slice_get xs n ≡ Some x → n + 1 ≤ length xs
in_range [] n x e = absurd (cc)
in_range (y ∷ ys) zero x e = omega arith
in_range (y ∷ ys) (suc n) x e = let l = in_range ys n x e in omega (arith, l)

nth_in : {A : Type 0} (xs : List A) (number : ℕ) (x : A) → nth xs number ≡ Some x → number ≤ length xs
nth_in xs number x e = by (number == 0) refl e
  where
    back : (n m : ℕ) → (n == 0) ≡ false → (n - 1) + 1 ≤ m → n ≤ m
    back n m z l = grind (arith, nat_tests)

    by : (b : Bool) → (number == 0) ≡ b → cond b None (slice_get xs (number - 1)) ≡ Some x → number ≤ length xs
    by true z f = absurd (cc)
    by false z f = back number (length xs) z (in_range xs (number - 1) x f)

same_answer : (a b : Answer) → Some a ≡ Some b → a ≡ b
same_answer a b e = cc

module _ (holder : ℕ → ℕ) (w : World) (number : ℕ) (call : SentCall) (at : nth w.calls number ≡ Some call) (fresh : call.executed ≡ None) (x : Place) (there : place_at w call.proxy ≡ Some x) (h : Shown holder w) where
  c : CallShown holder w.namespace w.leasing (h.view.calls number) (h.view.outcomes number) (h.forms number) call
  c = h.calls number call at

  abbrev asked : Request
  asked = asked_by w.leasing (h.forms number)

  -- the world's store executes the image
  image : exec w.store call.member call.request ≡ stored_step w.namespace (exec h.bare call.member asked)
  image =
      ap (λ (s : State). exec s call.member call.request) h.store
      ∙ ap (λ (q : Request). exec (stored w.namespace h.bare) call.member q) c.asked
      ∙ stored_stores_answer w.namespace h.bare call.member asked h.stands.orderly.sound.keys c.keys

  out : IsOut h.view number
  out = record {
    sent = (let l = nth_in w.calls number call at in let k = h.count in omega (arith, l, k));
    fresh = c.done ∙ ap (λ (o : Option Answer). is_some o) fresh;
  }

  moved : Moved holder w.leasing (exec h.bare call.member asked).0 h.view number (h.forms number) (exec h.bare call.member asked).1
  moved = executions_move holder w.leasing h.bare call.member h.view number (h.forms number) h.leases c.formed out h.stands

  abbrev told : Answer
  told = (exec w.store call.member call.request).1

  call_after : (i : ℕ) (t : SentCall) → nth (with_nth w.calls number (record call { executed = Some told })) i ≡ Some t
      → CallShown holder w.namespace w.leasing (moved.after.calls i) (moved.after.outcomes i) (h.forms i) t
  call_after i t e = by (nth_changed w.calls number i call (record call { executed = Some told }) t at e)
    where
      itself : CallShown holder w.namespace w.leasing (h.view.calls number) (moved.after.outcomes number) (h.forms number) (record call { executed = Some told })
      itself = record {
        asked = c.asked;
        keys = c.keys;
        formed = c.formed;
        proxy = c.proxy;
        clock = c.clock;
        granted = c.granted;
        done = moved.done;
        tells = λ a f. ((exec h.bare call.member asked).1, sym (same_answer told a f) ∙ ap (λ (s : Step). s.1) image, moved.tells);
      }

      sent : (j : ℕ) (o : Outcome) (s : SentCall) → CallShown holder w.namespace w.leasing (h.view.calls j) o (h.forms j) s → CallShown holder w.namespace w.leasing (moved.after.calls j) o (h.forms j) s
      sent j o s k = subst (λ (cs : ℕ → Call). CallShown holder w.namespace w.leasing (cs j) o (h.forms j) s) (sym moved.calls) k

      other : (i == number) ≡ false → i ≢ number
      other n f = absurd (other_number i number n f)

      by : ((i ≡ number) × (record call { executed = Some told } ≡ t)) ⊎ (((i == number) ≡ false) × (nth w.calls i ≡ Some t))
          → CallShown holder w.namespace w.leasing (moved.after.calls i) (moved.after.outcomes i) (h.forms i) t
      by (inl g) =
          subst (λ (s : SentCall). CallShown holder w.namespace w.leasing (moved.after.calls i) (moved.after.outcomes i) (h.forms i) s) g.1
          (subst (λ (j : ℕ). CallShown holder w.namespace w.leasing (moved.after.calls j) (moved.after.outcomes j) (h.forms j) (record call { executed = Some told })) (sym g.0)
          (sent number (moved.after.outcomes number) (record call { executed = Some told }) itself))
      by (inr g) = sent i (moved.after.outcomes i) t (subst (λ (o : Outcome). CallShown holder w.namespace w.leasing (h.view.calls i) o (h.forms i) t) (sym (moved.others i (other g.0))) (h.calls i t g.1))

  place_after : (q : ℕ) (y : Place) → place_at w q ≡ Some y → PlaceShown w.namespace w.leasing moved.after h.forms q y
  place_after q y e =
      let k = h.places q y e in
      record {
        sees = record {
          clock = ap (λ (f : ℕ → ℕ). f q) moved.clocks ∙ k.sees.clock;
          term = ap (λ (f : ℕ → Term). f q) moved.terms ∙ k.sees.term;
          row = λ j. ap (λ (f : ℕ → List ℕ → Slot). f q j) moved.slots ∙ k.sees.row j;
        };
        may = k.may;
        namespace = k.namespace;
        prefix = k.prefix;
        out = subst (λ (cs : ℕ → Call). EachOf (OutShown cs h.forms (numbers y.calls) y.core) y.core.out) (sym moved.calls) k.out;
      }

  -- the floors that the world keeps then are those of the view
  floors_behind : FloorsOk holder moved.after.floors moved.after.leases (floors_after call told w.floors) w.places
  floors_behind =
      subst (λ (kept : Numbered Floor). FloorsOk holder moved.after.floors moved.after.leases kept w.places)
      (sym (λ i. floors_after (record call { request = c.asked i }) (ap (λ (s : Step). s.1) image i) w.floors))
      (floors_go holder w.namespace w.leasing h.view moved.after number call w.floors w.places h.floors (h.forms number) (exec h.bare call.member asked).1 x there c.clock c.formed c.granted moved.term)

  shown_after : Shown holder (executed_world w number call)
  shown_after =
      let b : State = (exec h.bare call.member asked).0 in
      let whole = whole-exec h.bare call.member asked in
      record {
        leases = h.leases;
        bare = b;
        store = ap (λ (s : Step). s.0) image;
        view = moved.after;
        stands = moved.stands;
        forms = h.forms;
        count = moved.sent ∙ h.count ∙ sym (length-set w.calls (number - 1) (record call { executed = Some told }));
        calls = call_after;
        places = place_after;
        absent = λ q e. let k = h.absent q e in
            record { clock = ap (λ (f : ℕ → ℕ). f q) moved.clocks ∙ k.clock; term = ap (λ (f : ℕ → Term). f q) moved.terms ∙ k.term; slots = λ j. ap (λ (f : ℕ → List ℕ → Slot). f q j) moved.slots ∙ k.slots j };
        floors = floors_behind;
        drawn = λ n e. h.drawn n (ap (λ (f : ℕ → Bool). f n) (sym moved.drawn) ∙ e);
        streams = λ i s e. stream_grown w.namespace h.bare b whole.gains.0 i s whole.gains.1 whole.watches (h.streams i s e);
        watched = λ q y i s e seen o watch j l d k g. h.watched q y i s e seen o watch j l d k (ap (λ ws. watch_of (record h.bare { watches = ws }) i) (sym whole.watches) ∙ g);
      }

pub executions_stay_shown : ExecutionsStayShown
executions_stay_shown holder w number call x at fresh there h = shown_after holder w number call at fresh x there h
