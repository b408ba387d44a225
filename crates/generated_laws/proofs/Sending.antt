-- What is due is sent by a generated script; a call is executed and answered at once.
use Rattle.std.proofs.Common.{◌≡◌, ℕ, ◌+◌, ◌-◌, ◌≤◌, ◌==◌, Bool, true, false, cond, List, [], ◌∷◌, ◌++◌, length, slice_get, Option, None, Some, Ok, refl, sym, ◌∙◌, ap, subst, arith}
use Rattle.std.proofs.lemmas.Bool.Decides.{nat_tests}
use Rattle.std.specs.Prelude.{flat_map}
use Rattle.std.proofs.Common.{length-append}
use Rattle.etcd_types.specs.declared.answer.Answer.{Answer}
use Rattle.etcd_types.specs.declared.answer.Answer.TheVariants.{Refused}
use Rattle.etcd_types.specs.declared.answer.Refusal.{Refusal}
use Rattle.etcd_types.specs.declared.request.Request.{Request}
use Rattle.proxy_model.specs.Wrapped.{request_under}
use Rattle.script_text.specs.declared.item.Item.{Item}
use Rattle.script_text.specs.declared.item.Item.TheVariants as item
use Rattle.script_text.specs.declared.line.Line.TheVariants as line
use Rattle.store_model.specs.declared.history.KeyChange.{KeyChange}
use Rattle.store_model.specs.declared.watch.OpenWatch.{OpenWatch}
use Rattle.store_model.specs.History.{History, newest, with_revision}
use Rattle.store_model.specs.Leases.{granted_ttl, granted_lease, with_lease, asked_number}
use Rattle.store_model.specs.Refusals.{lease_exists}
use Rattle.store_model.specs.Transactions.{has_lease}
use Rattle.store_model.specs.State.{State}
use Rattle.store_model.specs.Step as store
use Rattle.store_model.specs.Step.{exec}
use Rattle.etcd_types.specs.declared.answer.Body.TheVariants as body
use Rattle.store_laws.proofs.Requests.RequestProofs.{whole-exec}
use Rattle.core_model.specs.declared.out_call.OutJob.{OutJob}
use Rattle.core_model.specs.declared.out_call.OutJob.TheVariants as out
use Rattle.core_model.specs.Heard.{is_known, heard}
use Rattle.world_model.specs.declared.fault.WorldFault.TheVariants as fault
use Rattle.world_model.specs.declared.sent_call.SentCall.{SentCall}
use Rattle.world_model.specs.Calls.{executed_of, answered_at, answered_of, answered, was_answered}
use Rattle.world_model.specs.Floors.{floors_after}
use Rattle.world_model.specs.Gains.{all_fetched, reply_items}
use Rattle.world_model.specs.Generated.{call_in}
use Rattle.world_model.specs.Places.{is_among, with_nth, place_at, with_place, with_core, if_life, call_place}
use Rattle.world_model.specs.Sends.{new_call, worked, sent_at}
use Rattle.world_model.specs.State.{Place, World}
use Rattle.world_model.specs.Steps.{Step, at_place_of, after_core}
use Rattle.world_model.specs.Transcript.{taken, counted, step}
use Rattle.generated_laws.proofs.Ending.{GrantsIf, IsEarly}
use Rattle.generated_laws.proofs.Events.{CallOut, Answered, answer_step}
use Rattle.held_laws.proofs.Kept.{nth_itself}
use Rattle.held_laws.proofs.Opens.{last_nth}
use Rattle.generated_laws.proofs.Lines.{small, itself}
use Rattle.held_laws.proofs.Worlds.{placed_itself}
use Rattle.generated_laws.proofs.Stepping.{more_rests, IsSmall}
use Rattle.generated_laws.proofs.Working.{AsksFor}
use Rattle.generated_laws.proofs.Worlds.{more_place, FetchedSo, fetched_so, fetched_place, but_one, more_but, replaced, same_streams, LineTaken, takes_line}
use Rattle.generated_laws.specs.Worlds.{All, But, Linked, PlaceStands, Running, Runs, held_of}

-- ---- what the store answers to a grant

least_ttl : (ttl : ℕ) → 1 ≤ granted_ttl ttl
least_ttl ttl = omega (arith)

refused_grants : (j : OutJob) (r : Refusal) (known : Bool) → GrantsIf j (cond known (Some (Refused r)) None)
refused_grants (out.Grant lease) r true = tt
refused_grants (out.Keep lease) r true = tt
refused_grants (out.Acquire k) r true = tt
refused_grants out.Wait r true = tt
refused_grants (out.Ask k) r true = tt
refused_grants (out.Group lease) r true = tt
refused_grants j r false = tt

any_grants : (j : OutJob) → ((a : Answer) → GrantsIf j (Some a)) → (o : Option Answer) → GrantsIf j o
any_grants j f None = tt
any_grants j f (Some a) = f a

pub store_grants : (j : OutJob) (q : Request) (namespace other : List ℕ) (s : State) (member : ℕ) → AsksFor j q → GrantsIf j (heard other (exec s member (request_under namespace q)).1)
unfolding exec
store_grants (out.Grant lease) q namespace other s member (ttl, number, is) =
    subst (λ (r : Request). GrantsIf (out.Grant lease) (heard other (exec s member (request_under namespace r)).1)) (sym is) (by (has_lease s.leases number))
  where
    by : (b : Bool) → GrantsIf (out.Grant lease) (heard other (cond b (store.refused s lease_exists) (store.done (record s { leases = with_lease (granted_lease (asked_number s.leases number) ttl) s.leases }) member (body.Grant (asked_number s.leases number) (granted_ttl ttl)))).1)
    by true = refused_grants (out.Grant lease) lease_exists (is_known lease_exists.code)
    by false = least_ttl ttl
store_grants (out.Keep lease) q namespace other s member h = any_grants (out.Keep lease) (λ a. tt) _
store_grants (out.Acquire k) q namespace other s member h = any_grants (out.Acquire k) (λ a. tt) _
store_grants out.Wait q namespace other s member h = any_grants out.Wait (λ a. tt) _
store_grants (out.Ask k) q namespace other s member h = any_grants (out.Ask k) (λ a. tt) _
store_grants (out.Group lease) q namespace other s member h = any_grants (out.Group lease) (λ a. tt) _

-- ---- the store makes a revision at most

one_more : (h : History) (made : List KeyChange) → newest (with_revision h made) ≤ newest h + 1
one_more h [] = omega arith
one_more h (c ∷ cs) = let l = length-append h ((c ∷ cs) ∷ []) in omega (arith, l)

pub exec_slow : (s : State) (member : ℕ) (q : Request) → newest (exec s member q).0.history ≤ newest s.history + 1
exec_slow s member q =
    let g = (whole-exec s member q).gains in
    let l = one_more s.history g.0 in
    let e : newest (exec s member q).0.history ≡ newest (with_revision s.history g.0) = ap newest g.1 in omega (arith, l, e)

two_one : (n : ℕ) → n + 2 + 1 ≡ n + 3
two_one n = omega (arith)

-- ---- a call is sent, executed and answered

-- the world takes the three lines
pub record Three (P : ℕ → Place → Type 0) (most : ℕ) (w : World) (p : ℕ) : Type 0 where
  pub first : World
  pub items : List Item
  pub sent : taken w (line.Send p) ≡ Ok (first, items)
  pub call : ℕ
  pub named : call_in items ≡ Some call
  pub second : World
  pub more : List Item
  pub executed : taken first (line.Exec call) ≡ Ok (second, more)
  pub then : LineTaken P most second (line.Answer call)
  pub streams : length then.after.streams ≤ length w.streams + 1

pub call_lines : (next most clock p : ℕ) (w : World) (x : Place) → IsSmall (most + 4) → IsEarly clock → Running next most clock w → place_at w p ≡ Some x → CallOut x.clock next (most + 1) x.core → Three (All next (most + 4) clock) (most + 4) w p
call_lines next most clock p w x s early h at k = record {
  first = w1;
  items = item.Sent p number k.call.member k.ticket q ∷ ([] ++ flat_map (reply_items p z.posted) (all_fetched y []).replies);
  sent = ap (λ (t : Step). counted (step t)) (ap (λ o. at_place_of w p o (sent_at w p)) at ∙ ap (after_core w p x (fault.NothingToSend p) (worked w p)) k.step.step);
  call = number;
  named = refl;
  second = w2;
  more = item.Executed number a ∷ [];
  executed = ap (λ (t : Step). counted (step t)) (ap (executed_of w1 number) (last_nth w.calls c0));
  then = then;
  streams = then.streams;
}
  where
    r : PlaceStands next most clock [] x
    r = h.places p x at

    q : Request
    q = request_under x.core.settings.namespace k.request

    number : ℕ
    number = length w.calls + 1

    c0 : SentCall
    c0 = new_call p (with_core x k.core) k.call.call k.call.member q

    y : Place
    y = record (with_core x k.core) { calls = x.calls ++ number ∷ [] }

    z : Place
    z = (all_fetched y []).place

    f : FetchedSo next (most + 1) (k.call ∷ []) y z
    f = fetched_so next (most + 1) (k.call ∷ []) (length y.core.asks) y [] (small (most + 1) 3 (omega (arith, s))) k.step.stands

    v1 : World
    v1 = with_place (record w { calls = w.calls ++ c0 ∷ [] }) p z

    w1 : World
    w1 = record v1 { lines = v1.lines + 1 }

    a : Answer
    a = (exec w.store k.call.member q).1

    c1 : SentCall
    c1 = record c0 { executed = Some a }

    v2 : World
    v2 = record w1 { calls = with_nth w1.calls number c1; store = (exec w.store k.call.member q).0; floors = floors_after c0 a w1.floors }

    w2 : World
    w2 = record v2 { lines = v2.lines + 1 }

    there : place_at w2 p ≡ Some z
    there = placed_itself w (record w { calls = w.calls ++ c0 ∷ [] }) p z

    tied : (n m : ℕ) → n ≡ m → (n == m) ≡ true
    tied n m e = grind (arith, nat_tests, e)

    ends : call_place w2 c1 ≡ Some z
    ends = ap (if_life x.life) there ∙ ap (λ b. cond b (Some z) None) (tied z.life x.life f.life)

    t : Answered z.clock next (most + 3) z.core k.call.call a
    t = subst (λ (m : ℕ). Answered z.clock next m z.core k.call.call a) (two_one most) (answer_step z.clock next (most + 2) k.call a z.core (small (most + 2) 2 (omega (arith, s))) (let c = f.clock in let d = r.rests.reads in let e = early in omega (arith, c, d, e)) (k.sent ∙ sym f.clock)
        (store_grants k.call.job k.request x.core.settings.namespace z.core.settings.namespace w.store k.call.member k.asks_for) (more_rests next (most + 1 + 1) (most + 2) (k.call ∷ []) z.core (omega (arith)) f.stands.rests))

    u : Place
    u = with_core z t.core

    g : FetchedSo next (most + 3) [] u (all_fetched u []).place
    g = fetched_so next (most + 3) [] (length u.core.asks) u [] (small (most + 3) 1 (omega (arith, s))) t.step.stands

    v3 : World
    v3 = record w2 { calls = with_nth w2.calls number (record c1 { settled = true }) }

    z' : Place
    z' = (all_fetched u []).place

    but1 : Runs (But p next (most + 4) clock) (most + 4) v1
    but1 = replaced (But p next (most + 4) clock) p next (most + 4) clock w (record w { calls = w.calls ++ c0 ∷ [] }) z (more_but p next most (most + 4) clock clock w (omega (arith)) (omega (arith)) (but_one p next most clock w h)) refl
        (λ n. absurd (itself p n)) (λ i j n l m. l) (same_streams (All next most clock) most w (record w { calls = w.calls ++ c0 ∷ [] }) p x z h at refl f.life (f.leasing ∙ k.leasing) refl refl) h.one h.many (let m = h.short in omega (arith, m))

    watches : v3.store.watches ≡ w.store.watches
    watches = (whole-exec w.store k.call.member q).watches

    but3 : Runs (But p next (most + 4) clock) (most + 4) v3
    but3 = record {
      places = but1.places;
      there = but1.there;
      streams = λ n i e c. subst (λ (o : Option OpenWatch). Linked (held_of (place_at v1 i.proxy)) o i) (ap (λ (ws : List OpenWatch). cond (n == 0) None (slice_get ws (n - 1))) (sym watches)) (but1.streams n i e c);
      one = but1.one;
      many = ap length watches ∙ h.many;
      short = (let m = h.short in let n = exec_slow w.store k.call.member q in omega (arith, m, n));
    }

    then : LineTaken (All next (most + 4) clock) (most + 4) w2 (line.Answer number)
    then =
        takes_line (All next (most + 4) clock) (most + 4) w2 (line.Answer number) (answered w2 number) (with_place v3 p z') _ refl
        (ap (answered_of w2 number) (nth_itself w1.calls number c0 c1 (last_nth w.calls c0)) ∙ ap (answered_at w2 number c1) ends ∙ ap (after_core w2 p z (fault.NoSuchCall number) (was_answered w2 number c1)) t.step.step)
        (replaced (All next (most + 4) clock) p next (most + 4) clock v3 v3 z' but3 refl
        (more_place next (most + 3 + 1) (most + 4) clock clock [] z' (omega (arith)) (omega (arith)) (fetched_place next (most + 3) clock [] u [] (small (most + 3) 1 (omega (arith, s))) (let c = f.clock in let d = r.rests.reads in omega (arith, c, d)) (λ n l. ap (λ ns. is_among ns n) f.tickets ∙ r.rests.tickets n l) t.step.stands))
        (λ i j n m. m)
        (same_streams (But p next (most + 4) clock) (most + 4) v3 v3 p z z' but3 there refl g.life (g.leasing ∙ t.leasing) refl refl) but3.one but3.many but3.short)
        (omega (arith))
