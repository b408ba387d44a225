-- A call of a proxy ends: what items tell of its owned keys goes on, and an acquire that was won makes its key owned.
use Rattle.std.proofs.Common.{◌≡◌, ℕ, ◌+◌, ◌==◌, Bool, true, false, cond, not, List, [], ◌∷◌, ◌++◌, Option, None, Some, Ok, refl, sym, ◌∙◌, ap, subst, arith}
use Rattle.std.specs.List.{list_all}
use Rattle.etcd_types.specs.declared.answer.Answer.{Answer}
use Rattle.etcd_types.proofs.Bools.{and_second, and_both}
use Rattle.etcd_types.proofs.KeyOrder.{same-equal}
use Rattle.wait_model.specs.declared.write.Write.{Write}
use Rattle.wait_model.specs.Writes.{sends as sends_own, stage_sends}
use Rattle.core_model.specs.declared.event.CoreEvent.{CoreEvent}
use Rattle.core_model.specs.declared.event.CoreEvent.TheVariants as event
use Rattle.core_model.specs.declared.event.Outcome.{Outcome}
use Rattle.core_model.specs.declared.out_call.OutCall.{OutCall}
use Rattle.core_model.specs.ClockWork.{clock_work}
use Rattle.core_model.specs.Lookups.{live_number, out_at}
use Rattle.core_model.specs.State.{Seat, Core}
use Rattle.core_model.specs.Step.{happened, stepped}
use Rattle.core_model.specs.Stepped.{Stepped}
use Rattle.core_laws.proofs.Steps.Lists.{same_number, number_itself, number_turned}
use Rattle.script_text.specs.declared.item.Item.{Item}
use Rattle.script_text.specs.declared.item.Item.TheVariants as item
use Rattle.world_model.specs.declared.sent_call.SentCall.{SentCall}
use Rattle.world_model.specs.LiveSessions.{Session, session_of, is_live, is_live_at}
use Rattle.world_model.specs.Places.{nth, with_nth, place_at}
use Rattle.world_model.specs.State.{Place, World}
use Rattle.session_laws.proofs.Calls.{ran_to}
use Rattle.session_laws.proofs.Steps.{gave}
use Rattle.session_laws.proofs.Turns.{bound_of}
use Rattle.cached_laws.proofs.Steps.{stepped_is}
use Rattle.cached_laws.proofs.WaitTold.{Seated, told_seated, seated_behind}
use Rattle.owned_laws.specs.OwnWrites.{OwnWrite, is_in_time, settles_as}
use Rattle.owned_laws.specs.Owned.{Owning, asks, sends, owns, write_asked, write_sent, owner_key, gave_up, awaits_call, claim_in, is_numbered}
use Rattle.owned_laws.proofs.Carrying.{no_true, some_number, some_call, carry_changed, less_later, each_map, plain_so}
use Rattle.owned_laws.proofs.Standing.{Before, later, mine, core_ok, agrees, owners, prefix_is, named, Lets, keep}
use Rattle.owned_laws.proofs.Cores as cores
use Rattle.owned_laws.proofs.Kept.{HasCall, IsSendingIn, Kept, kept_behind, KeysOk, Rescinded}
use Rattle.owned_laws.proofs.Late.{AsksOther, all_other, all_in_time, all_stay, on_time, waits_on_time}
use Rattle.owned_laws.proofs.Modes.{IsMine, first_as, Mode}
use Rattle.owned_laws.proofs.OwnSteps.{own_step_answered}
use Rattle.owned_laws.proofs.Ready.{IsKeptIn, counted_kept}
use Rattle.owned_laws.proofs.Steps.{Leaves, EndsSo, asking_ends, present_ends, sending_ends, holding_ends, writing_ends, Wins, acquire_won}
use Rattle.owned_laws.proofs.Told.{IsWon, IsDone, AnsweredAs, wins_it, settles_it, answers_other, told_answered, told_lost}
use Rattle.owned_laws.proofs.Ways.{NotOf, plain, present, asking, sending_as, holds, writes_own}

module _ {namespace : List ℕ} {items : List Item} {w : World} {p : ℕ} {x : Place} (known : Before namespace items w p x) where
  abbrev next : ℕ
  next = bound_of w + 1

  abbrev lea : List ℕ
  lea = w.leasing

  abbrev nsp : List ℕ
  nsp = w.namespace

  abbrev d : Core
  d = clock_work x.clock x.core

  -- ---- ends of calls

  own_there : (number : ℕ) (call : SentCall) → nth w.calls number ≡ Some call → call.proxy ≡ p → call.life ≡ x.life → nth x.calls call.own ≡ Some number
  own_there number call e its lived = let k = known.beside.ok.calls number call e in by k.place (sym k.at ∙ ap (place_at w) its ∙ known.there) k.own
    where
      by : (y : Place) → Some y ≡ Some x → (call.life ≡ y.life → nth y.calls call.own ≡ Some number) → nth x.calls call.own ≡ Some number
      by y i f = let same : y ≡ x = cc in subst (λ (z : Place). call.life ≡ z.life → nth z.calls call.own ≡ Some number) same f lived

  -- another call's own number is another
  own_apart : (number other : ℕ) (call : SentCall) (m : ℕ) → nth w.calls number ≡ Some call → call.proxy ≡ p → call.life ≡ x.life → HasCall w.calls p x.life other m → (other == number) ≡ false → (call.own == m) ≡ false
  own_apart number other call m e its lived c n = by (call.own == m) refl
    where
      by : (z : Bool) → (call.own == m) ≡ z → z ≡ false
      by true f =
          let same : nth x.calls call.own ≡ Some other = ap (nth x.calls) (same_number call.own m f ∙ sym c.own_is) ∙ own_there other c.call c.there c.mine c.lives in
          let is = some_number number other (sym (own_there number call e its lived) ∙ same) in
          absurd (let z : true ≡ false = sym (number_itself number) ∙ ap (λ (y : ℕ). y == number) is ∙ n in cc)
      by false f = refl

  -- a call that is answered isn't the first write's own
  due_apart : (v : OwnWrite) (call : ℕ) (c : Bool) (y : Write) → IsMine (first_as v None c) y → sends_own call y ≡ false
  due_apart v call true y i = ap (stage_sends call) i.stage.1
  due_apart v call false y i = ap (stage_sends call) i.stage

  out_apart : (v : OwnWrite) (own call : ℕ) (c : Bool) (y : Write) → (own == call) ≡ false → IsMine (first_as v (Some own) c) y → sends_own call y ≡ false
  out_apart v own call c y n i = ap (stage_sends call) i.stage ∙ n

  out_number : (call : ℕ) (out : List OutCall) (o : OutCall) → out_at call out ≡ Some o → o.call ≡ call
  out_number call [] o e = absurd (cc)
  out_number call (y ∷ ys) o e = by (λ g. out_number call ys o g) (y.call == call) refl e
    where
      same_out : (y z : OutCall) → Some y ≡ Some z → y ≡ z
      same_out y z g = cc

      by : (out_at call ys ≡ Some o → o.call ≡ call) → (b : Bool) → (y.call == call) ≡ b → cond b (Some y) (out_at call ys) ≡ Some o → o.call ≡ call
      by more true f g = ap (λ (z : OutCall). z.call) (sym (same_out y o g)) ∙ same_number y.call call f
      by more false f g = more g

  ends_lets : (e : CoreEvent) (number : ℕ) (call : SentCall) (k : List ℕ) (t : ℕ) (o : Owning) → ((i : ℕ) → AsksOther e i) → ((M : Mode) → EndsSo M d call.own → Leaves M d e) → nth w.calls number ≡ Some call → call.proxy ≡ p → call.life ≡ x.life → awaits_call number o ≡ false
      → Lets known e k t o
  ends_lets e number call k t (asks vs) u l i its lived n = (all_other e u vs, ((λ a s. l (asking k t vs a) (asking_ends k t vs a d call.own)), (λ s. l (present k vs) (present_ends k vs d call.own))))
  ends_lets e number call k t (sends c m vs) u l i its lived n =
      (all_other e u vs, λ j v a s. l (sending_as k j m vs a) (sending_ends k j m vs a d call.own (owners known) (own_apart number c call j i its lived v n) s))
  ends_lets e number call k t (owns m create) u l i its lived n = λ y f c z s. l (holds k m y f) (holding_ends k m y f d call.own (owners known) s)
  ends_lets e number call k t (write_asked m create v vs) u l i its lived n =
      (all_other e u (v ∷ vs), λ b a y c s. l (writes_own k m v vs None a y) (writing_ends k m v vs None a y d call.own (owners known) (λ o g i z j. due_apart v o.call i z j) s))
  ends_lets e number call k t (write_sent m create v vs c) u l i its lived n = (
    all_other e u (v ∷ vs),
    λ j h b a y g s.
        l (writes_own k m v vs (Some j) a y)
        (writing_ends k m v vs (Some j) a y d call.own (owners known)
        (λ o g' i' z q. out_apart v j o.call i' z (ap (λ (m : ℕ). j == m) (out_number call.own d.out o g') ∙ number_turned call.own j (own_apart number c call j i its lived h n)) q) s),
  )

  pub lost_keys : (number : ℕ) (call : SentCall) → nth w.calls number ≡ Some call → call.proxy ≡ p → call.life ≡ x.life
      → KeysOk nsp lea next (with_nth w.calls number (record call { settled = true })) (items ++ item.Lost number ∷ []) p x.life x.clock (stepped x.core (event.Lost call.own) x.clock).core
  lost_keys number call e its lived k t o f =
      let u = told_lost nsp lea k p t items number o f in
      keep known (event.Lost call.own) k t o (with_nth w.calls number (record call { settled = true })) (carry_changed w.calls number call (record call { settled = true }) e refl refl refl)
      (ends_lets (event.Lost call.own) number call k t o (λ i. tt) (λ M z. z) e its lived u.1) ((mine known).keys k t o u.0)

  -- the session that is told as live is the proxy's

  pub seated : (n : ℕ) → is_numbered n (session_of p items) ≡ true → is_live p items ≡ true → Seated n x.clock x.core.seat
  seated n i l = by (session_of p items) refl i
    where
      by : (o : Option Session) → session_of p items ≡ o → is_numbered n o ≡ true → Seated n x.clock x.core.seat
      by None f e = no_true e
      by (Some s) f e =
          subst (λ (m : ℕ). Seated m x.clock x.core.seat) (same_number s.number n e)
          (told_seated x.clock (session_of p items) s x.core.seat f (sym (ap (λ (m : ℕ). is_live_at m (session_of p items)) (known.beside.sessions.places p x known.there).clock) ∙ l) ((known.beside.sessions.places p x known.there).known.live x.clock (omega arith) (known.beside.sessions.places p x known.there).below))

  pub seated_number : (n : ℕ) (s : Option Seat) → Seated n x.clock s → live_number s x.clock ≡ Some n
  seated_number n s y =
      ap (λ (s : Option Seat). live_number s x.clock) y.there ∙ ap (λ (b : Bool). cond b (Some y.its.session.number) None) y.live ∙ ap (λ (m : ℕ). Some m) y.number

  not_of : (k : List ℕ) (create : ℕ) → gave_up (owner_key nsp lea k) create p items ≡ false → (call : ℕ) (j : List ℕ) (other : ℕ) → Rescinded nsp lea items p call j other → NotOf k create call j other
  not_of k create n call j other r s = by (create == other) refl
    where
      by : (z : Bool) → (create == other) ≡ z → z ≡ false
      by true f =
          absurd (let y : true ≡ false = sym r ∙ ap (λ (l : List ℕ). gave_up (owner_key nsp lea l) other p items) (same-equal j k s) ∙ ap (λ (m : ℕ). gave_up (owner_key nsp lea k) m p items) (sym (same_number create other f)) ∙ n in cc)
      by false f = refl

  won_kept : (number : ℕ) (call : SentCall) (a : Answer) (o : Outcome) (k : List ℕ) (t : ℕ) (own : Owning) → nth w.calls number ≡ Some call → call.executed ≡ Some a → (stepped x.core (event.Answer call.own a) x.clock).outcome ≡ Ok o → IsWon nsp lea k p t items number own
      → Kept (with_nth w.calls number (record call { settled = true })) next p x.life x.clock k t own (stepped x.core (event.Answer call.own a) x.clock).core
  won_kept number call a o k t own e ran is v =
      let s = (mine known).keys k t (sends number v.n v.writes) v.sent in
      let one = some_call s.call.call call (sym s.call.there ∙ e) in
      let m : s.own ≡ call.own = sym s.call.own_is ∙ ap (λ (y : SentCall). y.own) one in
      let ev = event.Answer call.own a in
      let gave' = gave x.core ev x.clock o is in
      let T = Rescinded nsp lea items p in
      let sits = seated v.n v.numbered v.live in
      subst (λ (y : Owning). Kept (with_nth w.calls number (record call { settled = true })) next p x.life x.clock k t y (stepped x.core ev x.clock).core) (sym v.won)
      (kept_behind (with_nth w.calls number (record call { settled = true })) next p x.life x.clock k t v.n v.create v.writes (stepped x.core ev x.clock).core (less_later v.n (bound_of w) next s.below (later known)) s.clients
      (λ early.
      let u = subst (λ (y : ℕ). IsSendingIn k y v.n v.writes x.core) m (s.so early) in
      let M = sending_as k call.own v.n v.writes u.alone in
      let wins : Wins k v.n call.own x.clock v.writes a v.create d = record {
        alone = u.alone;
        stands = cores.clock_by M x.clock x.core (waits_on_time x.clock k call.own v.n v.writes u.alone early x.core u.asked) u.so;
        agrees = agrees known;
        live = seated_number v.n d.seat (seated_behind v.n x.clock x.core sits);
        claim = ap (λ (l : List ℕ). claim_in l d.own.waits.prefix k (Some a)) (named known) ∙ ap (λ (l : List ℕ). claim_in nsp l k (Some a)) (prefix_is known) ∙ ap (claim_in nsp lea k) (sym ((known.beside.sessions.calls number).ran ∙ ap ran_to e ∙ ran)) ∙ v.claim;
        outs = each_map T (NotOf k v.create) (not_of k v.create v.kept) d.own.waits.out (cores.clock_so (plain [] T) ((λ c. refl), refl) x.clock x.core (plain_so T x.core (mine known).outs) tt tt).0.outs;
      } in (
        subst (λ (z : Stepped). IsKeptIn k v.n v.create v.writes z.core) (sym (stepped_is x.core ev x.clock gave'.0)) (counted_kept k v.n v.create v.writes (happened x.clock ev d) (acquire_won k v.n call.own x.clock v.writes v.create d a wins)),
        all_stay v.writes x.core ev x.clock (core_ok known) (all_other ev (λ i. tt) v.writes) u.asked,
      )))

  -- the first write's own call is answered, in time
  done_kept : (number : ℕ) (call : SentCall) (a : Answer) (o : Outcome) (k : List ℕ) (t : ℕ) (own : Owning) → nth w.calls number ≡ Some call → call.executed ≡ Some a → (stepped x.core (event.Answer call.own a) x.clock).outcome ≡ Ok o → IsDone nsp lea k p t items number own
      → Kept (with_nth w.calls number (record call { settled = true })) next p x.life x.clock k t own (stepped x.core (event.Answer call.own a) x.clock).core
  done_kept number call a o k t own e ran is u =
      let v = u.write in
      let vs = u.behind in
      let s = (mine known).keys k t (write_sent u.n u.create v vs number) u.sent in
      let one = some_call s.call.call call (sym s.call.there ∙ e) in
      let m : s.own ≡ call.own = sym s.call.own_is ∙ ap (λ (y : SentCall). y.own) one in
      let ev = event.Answer call.own a in
      let gave' = gave x.core ev x.clock o is in
      let soon = ap (λ (i : ℕ). is_in_time i v) (sym (known.beside.sessions.places p x known.there).clock) ∙ u.in_time in
      let settled = ap (λ (l : List ℕ). settles_as l d.own.waits.prefix v.request (Some a)) (named known) ∙ ap (λ (l : List ℕ). settles_as nsp l v.request (Some a)) (prefix_is known)
      ∙ ap (settles_as nsp lea v.request) (sym ((known.beside.sessions.calls number).ran ∙ ap ran_to e ∙ ran)) ∙ u.settled in
      subst (λ (y : Owning). Kept (with_nth w.calls number (record call { settled = true })) next p x.life x.clock k t y (stepped x.core ev x.clock).core) (sym u.again)
      (kept_behind (with_nth w.calls number (record call { settled = true })) next p x.life x.clock k t u.n u.create vs (stepped x.core ev x.clock).core (less_later u.n (bound_of w) next s.below (later known))
      (and_second (not (v.ticket == 0)) (list_all (λ v. not (v.ticket == 0)) vs) s.clients)
      (λ rest.
      let early = and_both (is_in_time x.clock v) (all_in_time x.clock vs) soon rest in
      let h = s.so early in
      let g = h.begun in
      let r = own_step_answered k u.n v vs s.own g.alone g.entry x.clock call.own a x.core o gave'.0 (on_time x.clock k u.n v vs (Some s.own) g.alone g.entry early x.core h.asked) m (agrees known) gave'.1 settled g.so in (
        subst (λ (c : ℕ). IsKeptIn k u.n c vs (stepped x.core ev x.clock).core) g.created r,
        all_stay vs x.core ev x.clock (core_ok known) (all_other ev (λ i. tt) vs) h.asked.1,
      )))

  pub answered_keys : (number : ℕ) (call : SentCall) (a : Answer) (o : Outcome) → nth w.calls number ≡ Some call → call.proxy ≡ p → call.life ≡ x.life → call.executed ≡ Some a → (stepped x.core (event.Answer call.own a) x.clock).outcome ≡ Ok o
      → KeysOk nsp lea next (with_nth w.calls number (record call { settled = true })) (items ++ item.Answered number ∷ []) p x.life x.clock (stepped x.core (event.Answer call.own a) x.clock).core
  answered_keys number call a o e its lived ran is k t own f = by (told_answered nsp lea k p t items number own f)
    where
      by : AnsweredAs nsp lea k p t items number own → Kept (with_nth w.calls number (record call { settled = true })) next p x.life x.clock k t own (stepped x.core (event.Answer call.own a) x.clock).core
      by (wins_it v) = won_kept number call a o k t own e ran is v
      by (settles_it v) = done_kept number call a o k t own e ran is v
      by (answers_other u n) =
          keep known (event.Answer call.own a) k t own (with_nth w.calls number (record call { settled = true })) (carry_changed w.calls number call (record call { settled = true }) e refl refl refl)
          (ends_lets (event.Answer call.own a) number call k t own (λ i. tt) (λ M z. z) e its lived n) ((mine known).keys k t own u)
