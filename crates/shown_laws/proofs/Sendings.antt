-- A proxy sends a call.
use Rattle.std.proofs.Common.{◌≡◌, ◌≢◌, ◌⊎◌, inl, inr, ℕ, ◌+◌, ◌≤◌, ◌==◌, Bool, false, List, [], ◌∷◌, ◌++◌, length, length-append, Option, None, Some, Ok, sym, ◌∙◌, ap, subst, arith}
use Rattle.std.proofs.lemmas.Bool.Decides.{nat_tests}
use Rattle.std.specs.List.{Contains}
use Rattle.std.proofs.lemmas.List.Elements.{Contains-append_left}
use Rattle.etcd_types.specs.declared.answer.Answer.{Answer}
use Rattle.etcd_types.specs.declared.request.Request.{Request}
use Rattle.proxy_model.specs.Wrapped.{request_under}
use Rattle.core_model.specs.declared.event.CoreEvent.TheVariants as event
use Rattle.core_model.specs.declared.event.Job.TheVariants as job
use Rattle.core_model.specs.declared.event.Outcome.TheVariants as outcome
use Rattle.core_model.specs.declared.out_call.OutCall.{OutCall}
use Rattle.core_model.specs.declared.settings.Settings.{Settings}
use Rattle.core_model.specs.Sending.{next_call}
use Rattle.core_model.specs.State.{Core}
use Rattle.core_model.specs.Step.{opening_at, stepped}
use Rattle.core_laws.proofs.Steps.Staying.{steps_stay}
use Rattle.core_fits.specs.Fits.{EachOf}
use Rattle.core_fits.proofs.Eachs.{each_pushed}
use Rattle.namespace_laws.specs.Stored.Laws.{request_lacks}
use Rattle.cache_laws.specs.Moves.View.{Call, Outcome, Slot, View, put}
use Rattle.cache_laws.proofs.Moves.Numbers.{other_number, itself, put_here, put_other}
use Rattle.call_laws.specs.Forms.{Form, asked_by, IsFormed}
use Rattle.core_moves.specs.Answers.{form_of_job}
use Rattle.core_moves.specs.Sees.{Sees}
use Rattle.world_model.specs.declared.sent_call.SentCall.{SentCall}
use Rattle.world_model.specs.Places.{nth, place_at, with_core, with_place}
use Rattle.world_model.specs.Sends.{new_call}
use Rattle.world_model.specs.State.{Place, OpenedStream, World}
use Rattle.held_laws.proofs.Opens.{nth_push}
use Rattle.out_laws.proofs.Outs.{out_stays}
use Rattle.out_laws.proofs.Rows.{rows_read_sent}
use Rattle.bridge_laws.specs.Floors.{FloorsOk}
use Rattle.bridge_laws.specs.Messages.{LeasingWatched}
use Rattle.bridge_laws.specs.Shown.{CallShown, numbers, OutShown, PlaceShown, IsUnseen, Shown}
use Rattle.bridge_laws.proofs.Placed.{each_place, none_placed, placed_floors, shows_as}
use Rattle.bridge_laws.proofs.Senders.{senders_last}
use Rattle.shown_laws.specs.Sendings.{CallsAreSent, sender, with_sent, SendingsStayShown}
use Rattle.shown_laws.proofs.Clock.{given_each}
use Rattle.shown_laws.proofs.Lists.{nth_in, each_in, each_both, same_numbers, last_number}
use Rattle.shown_laws.proofs.Works.{CallGoes, call_goes}

other_put : {A : Type 0} (m : ℕ → A) (i j : ℕ) (x : A) → j ≤ i → put m (i + 1) x j ≡ m j
other_put m i j x l = put_other m (i + 1) j x (apart j i l)
  where
    apart : (j i : ℕ) → j ≤ i → (j == i + 1) ≡ false
    apart j i l = grind (arith, nat_tests)

no_answer : {A : Type 0} (a : Answer) → ◌≡◌ {A = Option Answer} None (Some a) → A
no_answer a e = absurd (cc)

module _ (holder : ℕ → ℕ) (w : World) (p : ℕ) (x : Place) (own member ticket : ℕ) (q : Request) (there : place_at w p ≡ Some x) (many : length x.calls ≡ x.core.calls) (sent : CallsAreSent w)
    (out : (stepped x.core event.Work x.clock).outcome ≡ Ok (outcome.Job (Some (job.Call own member ticket q)))) (h : Shown holder w) where
  abbrev v : View
  v = h.view

  abbrev c : Core
  c = x.core

  abbrev d : Core
  d = (stepped x.core event.Work x.clock).core

  abbrev y : Place
  y = sender w x

  abbrev mine : ℕ → ℕ
  mine = numbers x.calls

  abbrev mine' : ℕ → ℕ
  mine' = numbers y.calls

  k : PlaceShown w.namespace w.leasing v h.forms p x
  k = h.places p x there

  -- the proxy's numbers, and its next one

  same : (n : ℕ) → n ≤ c.calls → mine' n ≡ mine n
  same n l = same_numbers x.calls (length w.calls + 1) n (omega (arith, l, many))

  next : mine' (next_call c) ≡ v.sent + 1
  next = ap (λ (n : ℕ). mine' (n + 1)) (sym many) ∙ last_number x.calls (length w.calls + 1) ∙ sym (ap (λ (n : ℕ). n + 1) h.count)

  sees : Sees v p x.clock mine' c
  sees = record { clock = k.sees.clock; term = k.sees.term; row = λ j. k.sees.row j ∙ sym (rows_read_sent c mine mine' k.may.ok (λ n l. same n (omega (arith, l))) j) }

  g : CallGoes holder v p x.clock mine' c d q
  g = call_goes holder v p x.clock mine' c k.may next sees h.stands.inv own member ticket q out

  abbrev u : View
  u = g.after

  abbrev forms : ℕ → Form
  forms = put h.forms (v.sent + 1) g.form

  -- a call that was sent before

  old_form : (i : ℕ) → i ≤ v.sent → forms i ≡ h.forms i
  old_form i l = other_put h.forms v.sent i g.form l

  old_call : (i : ℕ) → i ≤ v.sent → u.calls i ≡ v.calls i
  old_call i l = ap (λ (f : ℕ → Call). f i) g.alike.calls ∙ other_put v.calls v.sent i g.call l

  new_form : forms (v.sent + 1) ≡ g.form
  new_form = put_here h.forms (v.sent + 1) (v.sent + 1) g.form (itself (v.sent + 1))

  new_seen : u.calls (v.sent + 1) ≡ g.call
  new_seen = ap (λ (f : ℕ → Call). f (v.sent + 1)) g.alike.calls ∙ put_here v.calls (v.sent + 1) (v.sent + 1) g.call (itself (v.sent + 1))

  -- ---- calls

  abbrev new : SentCall
  new = new_call p (with_core x d) own member q

  here : CallShown holder w.namespace w.leasing g.call (v.outcomes (v.sent + 1)) g.form new
  here = record {
    asked = g.asked ∙ (λ i. request_under (k.namespace i) (asked_by (k.prefix i) g.form));
    keys = ap (λ (prefix : List ℕ). request_lacks (asked_by prefix g.form)) (sym k.prefix) ∙ g.keys;
    formed = subst (λ (prefix : List ℕ). IsFormed prefix g.form g.call) k.prefix g.formed;
    proxy = g.by;
    clock = g.at;
    granted = g.granted;
    done = (h.stands.inv.unsent (v.sent + 1) (omega arith)).done;
    tells = λ a e. no_answer a e;
  }

  call_there : (i : ℕ) (t : SentCall) → nth (w.calls ++ new ∷ []) i ≡ Some t → CallShown holder w.namespace w.leasing (u.calls i) (u.outcomes i) (forms i) t
  call_there i t e = subst (λ (os : ℕ → Outcome). CallShown holder w.namespace w.leasing (u.calls i) (os i) (forms i) t) (sym g.alike.outcomes) (by (nth_push w.calls new i t e))
    where
      by : (nth w.calls i ≡ Some t) ⊎ ((i ≡ length w.calls + 1) × (new ≡ t)) → CallShown holder w.namespace w.leasing (u.calls i) (v.outcomes i) (forms i) t
      by (inl f) =
          let l : i ≤ v.sent = (let n = nth_in w.calls i t f in let m = h.count in omega (arith, n, m)) in
          subst (λ (z : Call). CallShown holder w.namespace w.leasing z (v.outcomes i) (forms i) t) (sym (old_call i l))
          (subst (λ (z : Form). CallShown holder w.namespace w.leasing (v.calls i) (v.outcomes i) z t) (sym (old_form i l)) (h.calls i t f))
      by (inr f) =
          let is : i ≡ v.sent + 1 = f.0 ∙ sym (ap (λ (n : ℕ). n + 1) h.count) in
          subst (λ (j : ℕ). CallShown holder w.namespace w.leasing (u.calls j) (v.outcomes j) (forms j) t) (sym is)
          (subst (λ (z : Call). CallShown holder w.namespace w.leasing z (v.outcomes (v.sent + 1)) (forms (v.sent + 1)) t) (sym new_seen)
          (subst (λ (z : Form). CallShown holder w.namespace w.leasing g.call (v.outcomes (v.sent + 1)) z t) (sym new_form)
          (subst (λ (z : SentCall). CallShown holder w.namespace w.leasing g.call (v.outcomes (v.sent + 1)) g.form z) f.1 here)))

  -- ---- what is out

  -- of the proxy `z`, whose calls were sent before
  still_out : (z : Core) (o : OutCall) (i : ℕ) → i ≤ v.sent → form_of_job z o.call (h.forms i) o.job × ((v.calls i).at ≡ o.sent_at) → form_of_job z o.call (forms i) o.job × ((u.calls i).at ≡ o.sent_at)
  still_out z o i l t =
      (subst (λ (f : Form). form_of_job z o.call f o.job) (sym (old_form i l)) t.0, ap (λ (b : Call). b.at) (old_call i l) ∙ t.1)

  old_out : (o : OutCall) → Contains c.out o → OutShown v.calls h.forms mine c o × (o.call ≤ c.calls) → OutShown u.calls forms mine' d o
  old_out o among t =
      let i = mine o.call in
      let l : i ≤ v.sent = (let s = sent p x there o.call in let n = h.count in omega (arith, s, n)) in
      let goes = out_stays c event.Work x.clock o (h.forms i) tt k.may.ok k.may.owners (subst (λ (xs : List OutCall). Contains xs o) (sym g.out) (Contains-append_left c.out (g.there ∷ []) o among)) (λ e. below o.call c.calls t.1 e) in
      subst (λ (j : ℕ). form_of_job d o.call (forms j) o.job × ((u.calls j).at ≡ o.sent_at)) (sym (same o.call t.1)) (still_out d o i l (goes.1 t.0.0, t.0.1))
    where
      below : {A : Type 0} (a b : ℕ) → a ≤ b → a ≡ b + 1 → A
      below a b l e = absurd (omega (arith, l, e))

  new_out : OutShown u.calls forms mine' d g.there
  new_out =
      let is : mine' g.there.call ≡ v.sent + 1 = ap mine' g.number ∙ next in
      subst (λ (j : ℕ). form_of_job d g.there.call (forms j) g.there.job × ((u.calls j).at ≡ g.there.sent_at)) (sym is)
      (subst (λ (f : Form). form_of_job d g.there.call f g.there.job) (sym new_form) g.suits, ap (λ (b : Call). b.at) new_seen ∙ g.at ∙ sym g.sent_at)

  out_there : EachOf (OutShown u.calls forms mine' d) d.out
  out_there =
      subst (EachOf (OutShown u.calls forms mine' d)) (sym g.out)
      (each_pushed (OutShown u.calls forms mine' d) g.there c.out
      (each_in (λ o. OutShown v.calls h.forms mine c o × (o.call ≤ c.calls)) (OutShown u.calls forms mine' d) c.out old_out
      (each_both (OutShown v.calls h.forms mine c) (λ o. o.call ≤ c.calls) c.out k.out (given_each c.calls c.out k.may.ok.agrees.numbers.given)))
      new_out)

  -- ---- places

  place_here : PlaceShown w.namespace w.leasing u forms p y
  place_here =
      let s = steps_stay c event.Work x.clock in
      record {
        sees = g.sees;
        may = senders_last c event.Work x.clock tt tt k.may;
        namespace = ap (λ (t : Settings). t.namespace) s.settings ∙ k.namespace;
        prefix = s.prefix ∙ k.prefix;
        out = out_there;
      }

  place_there : (r : ℕ) (z : Place) → (r == p) ≡ false → place_at w r ≡ Some z → PlaceShown w.namespace w.leasing u forms r z
  place_there r z n e =
      let o = h.places r z e in
      let apart : r ≢ p = other_number r p n in
      record {
        sees = record {
          clock = ap (λ (f : ℕ → ℕ). f r) g.alike.clocks ∙ o.sees.clock;
          term = g.alike.terms r apart ∙ o.sees.term;
          row = λ j. ap (λ (f : List ℕ → Slot). f j) (g.alike.slots r apart) ∙ o.sees.row j;
        };
        may = o.may;
        namespace = o.namespace;
        prefix = o.prefix;
        out = each_in (OutShown v.calls h.forms (numbers z.calls) z.core) (OutShown u.calls forms (numbers z.calls) z.core) z.core.out
            (λ a among t. still_out z.core a (numbers z.calls a.call) (let s = sent r z e a.call in let m = h.count in omega (arith, s, m)) t) o.out;
      }

  watched_here : (number : ℕ) (s : OpenedStream) → nth w.streams number ≡ Some s → LeasingWatched w.leasing h.bare p number s y
  watched_here number s e = λ o watch i l n f. h.watched p x number s there e o watch i l n (ap (opening_at s.own) (sym g.leasing) ∙ f)

  sending_shown : Shown holder (with_place (with_sent w p x own member q) p y)
  sending_shown = record {
    leases = h.leases;
    bare = h.bare;
    store = h.store;
    view = u;
    stands = record { shows = shows_as v u g.alike.rev g.alike.owners g.alike.kvs g.alike.told g.alike.leases h.stands.shows; inv = g.inv; orderly = h.stands.orderly };
    forms = forms;
    count = g.alike.sent ∙ ap (λ (n : ℕ). n + 1) h.count ∙ sym (length-append w.calls (new ∷ []));
    calls = call_there;
    places = each_place (PlaceShown w.namespace w.leasing u forms) w p y place_here place_there;
    absent = none_placed (IsUnseen u) w p y (λ r n e.
        let o = h.absent r e in
        let apart : r ≢ p = other_number r p n in
        record { clock = ap (λ (f : ℕ → ℕ). f r) g.alike.clocks ∙ o.clock; term = g.alike.terms r apart ∙ o.term; slots = λ j. ap (λ (f : List ℕ → Slot). f j) (g.alike.slots r apart) ∙ o.slots j });
    floors = subst (λ (fs : ℕ → ℕ). FloorsOk holder fs u.leases w.floors (with_place w p y).places) (sym g.alike.floors)
        (subst (λ (ls : ℕ → Bool). FloorsOk holder v.floors ls w.floors (with_place w p y).places) (sym g.alike.leases) (placed_floors holder v.floors v.leases w.floors w p y h.floors));
    drawn = λ n e. h.drawn n (ap (λ (f : ℕ → Bool). f n) (sym g.alike.drawn) ∙ e);
    streams = h.streams;
    watched = λ r z number s e f.
        each_place (λ (a : ℕ) (b : Place). (m : ℕ) (t : OpenedStream) → nth w.streams m ≡ Some t → LeasingWatched w.leasing h.bare a m t b) w p y watched_here (λ a b n i m t j. h.watched a b m t i j) r z e number s f;
  }

pub sendings_stay_shown : SendingsStayShown
sendings_stay_shown holder w p x own member ticket q there many sent out h = sending_shown holder w p x own member ticket q there many sent out h
