-- The opening of a leasing stream is sent by a generated script.
use Rattle.std.proofs.Common.{◌≡◌, ◌⊎◌, inl, inr, ℕ, ◌+◌, ◌==◌, Bool, true, false, cond, List, [], ◌∷◌, ◌++◌, length, length-append, Option, None, Some, is_some, refl, sym, ◌∙◌, ap, subst, arith}
use Rattle.std.proofs.lemmas.Bool.Decides.{nat_tests}
use Rattle.std.specs.Prelude.{flat_map}
use Rattle.std.specs.BTreeSet.{BTreeSet}
use Rattle.etcd_types.specs.declared.answer.Answer.{Answer}
use Rattle.etcd_types.specs.declared.key_range.KeyRange.{KeyRange}
use Rattle.etcd_types.specs.declared.request.WatchAsk.{WatchAsk}
use Rattle.etcd_types.specs.declared.request.Request.TheVariants as request
use Rattle.proxy_model.specs.Prefixes.{under, end_under}
use Rattle.proxy_model.specs.Wrapped.{watch_under}
use Rattle.script_text.specs.declared.item.Item.{Item}
use Rattle.script_text.specs.declared.item.Item.TheVariants as item
use Rattle.script_text.specs.declared.line.Line.TheVariants as line
use Rattle.store_model.specs.declared.watch.OpenWatch.{OpenWatch}
use Rattle.store_model.specs.Watches.{opened, watch_of}
use Rattle.core_model.specs.State.{Opening}
use Rattle.core_model.specs.LeasingStream.{opening_sent}
use Rattle.world_model.specs.declared.fault.WorldFault.TheVariants as fault
use Rattle.world_model.specs.Gains.{Replies, all_fetched, body_if, reply_items}
use Rattle.world_model.specs.Generated.{call_in}
use Rattle.world_model.specs.Places.{is_among, nth, with_kept, place_at, with_place, with_core}
use Rattle.world_model.specs.Sends.{new_stream, worked, sent_at, sent}
use Rattle.world_model.specs.State.{Place, OpenedStream, World}
use Rattle.world_model.specs.Steps.{at_place_of, after_core}
use Rattle.generated_laws.proofs.Events.{Begun}
use Rattle.held_laws.proofs.Opens.{last_nth, nth_push}
use Rattle.held_laws.proofs.Worlds.{equal, placed_itself, placed_other}
use Rattle.generated_laws.proofs.Numbers.{nth_still}
use Rattle.generated_laws.proofs.Lines.{small}
use Rattle.generated_laws.proofs.Stepping.{IsSmall}
use Rattle.generated_laws.proofs.Worlds.{more_place, FetchedSo, fetched_so, fetched_place, but_one, more_but, replaced, LineTaken, takes_line}
use Rattle.generated_laws.specs.Proxies.{IsFresh}
use Rattle.generated_laws.specs.Worlds.{All, Held, Linked, OneEach, PlaceStands, Running, StreamStands, begins, held_of}

-- ---- replies name no call

call-append : (xs ys : List Item) → call_in xs ≡ None → call_in ys ≡ None → call_in (xs ++ ys) ≡ None
call-append [] ys h k = k
call-append (item.World members namespace leasing ∷ xs) ys h k = call-append xs ys h k
call-append (item.Started p ∷ xs) ys h k = call-append xs ys h k
call-append (item.Restarted p ∷ xs) ys h k = call-append xs ys h k
call-append (item.Clock p millis ∷ xs) ys h k = call-append xs ys h k
call-append (item.Asked p ticket q ∷ xs) ys h k = call-append xs ys h k
call-append (item.Posted p ticket path body ∷ xs) ys h k = call-append xs ys h k
call-append (item.Ticked p ∷ xs) ys h k = call-append xs ys h k
call-append (item.Sent p call member ticket q ∷ xs) ys h k = absurd (cc)
call-append (item.Opened p stream member q ∷ xs) ys h k = call-append xs ys h k
call-append (item.Closed p stream ∷ xs) ys h k = call-append xs ys h k
call-append (item.Executed call a ∷ xs) ys h k = call-append xs ys h k
call-append (item.Answered call ∷ xs) ys h k = call-append xs ys h k
call-append (item.Lost call ∷ xs) ys h k = call-append xs ys h k
call-append (item.Pushed stream i ∷ xs) ys h k = call-append xs ys h k
call-append (item.Delivered stream ∷ xs) ys h k = call-append xs ys h k
call-append (item.Cut stream ∷ xs) ys h k = call-append xs ys h k
call-append (item.Taken p ticket i ∷ xs) ys h k = call-append xs ys h k
call-append (item.Pending p ticket ∷ xs) ys h k = call-append xs ys h k
call-append (item.Left p ticket ∷ xs) ys h k = call-append xs ys h k
call-append (item.Reply p ticket a ∷ xs) ys h k = call-append xs ys h k
call-append (item.Body p ticket status text ∷ xs) ys h k = call-append xs ys h k
call-append (item.Expired lease ∷ xs) ys h k = call-append xs ys h k
call-append (item.Applied member revision ∷ xs) ys h k = call-append xs ys h k

body_call : (b : Bool) (p ticket : ℕ) (a : Answer) → call_in (body_if b p ticket a) ≡ None
body_call true p ticket a = refl
body_call false p ticket a = refl

pub replies_call : (p : ℕ) (posted : BTreeSet ℕ) (rs : Replies) → call_in (flat_map (reply_items p posted) rs) ≡ None
replies_call p posted [] = refl
replies_call p posted (r ∷ rs) = call-append (body_if (is_among posted r.0) p r.0 r.1) (flat_map (reply_items p posted) rs) (body_call (is_among posted r.0) p r.0 r.1) (replies_call p posted rs)

-- ---- the world takes the line, which names no call

pub record Opened (P : ℕ → Place → Type 0) (most : ℕ) (w : World) (p : ℕ) : Type 0 where
  pub line : LineTaken P most w (line.Send p)
  pub none : call_in line.items ≡ None

zero_is : (n : ℕ) → (n == 0) ≡ true → 0 ≡ n
zero_is n e = grind (arith, nat_tests)

end_none : (end : List ℕ) → end_under [] end ≡ end
end_none [] = refl
end_none (b ∷ []) = by (b == 0) refl
  where
    by : (c : Bool) → (b == 0) ≡ c → cond c (0 ∷ []) (b ∷ []) ≡ b ∷ []
    by true e = ap (λ (n : ℕ). n ∷ []) (zero_is b e)
    by false e = refl
end_none (b ∷ c ∷ cs) = refl

under_none : (r : KeyRange) → under [] r ≡ r
under_none r = λ i. record { key = r.key; end = end_none r.end i }

abbrev leasing_in : Option Held → Option Opening
leasing_in None = None
leasing_in (Some g) = g.leasing

one_opening : (a b : Opening) → Some a ≡ Some b → a ≡ b
one_opening a b e = cc

not_due : (a b : Opening) → a ≡ b → a.due ≡ None → is_some b.due ≡ true → ⊥
not_due a b e d u = let t : false ≡ true = sym (ap is_some d) ∙ ap (λ (g : Opening). is_some g.due) e ∙ u in cc

pub opening_line : (next most clock p : ℕ) (w : World) (x : Place) → IsSmall (most + 2) → Running next most clock w → place_at w p ≡ Some x → Begun x.clock next (most + 1) x.core → Opened (All next (most + 2) clock) (most + 2) w p
opening_line next most clock p w x s h at k = record {
  line = takes_line (All next (most + 2) clock) (most + 2) w (line.Send p) (sent w p) (with_place v p z) items refl
      (ap (λ o. at_place_of w p o (sent_at w p)) at ∙ ap (after_core w p x (fault.NothingToSend p) (worked w p)) k.step.step)
      (replaced (All next (most + 2) clock) p next (most + 2) clock w v z (more_but p next most (most + 2) clock clock w (omega (arith)) (omega (arith)) (but_one p next most clock w h)) refl
      (more_place next (most + 1 + 1) (most + 2) clock clock [] z (omega (arith)) (omega (arith)) (fetched_place next (most + 1) clock [] y [] (small (most + 1) 1 (omega (arith, s))) r.rests.reads r.rests.tickets k.step.stands))
      (λ i j n m. m) streams one many (let m = h.short in omega (arith, m)))
      (let e = length-append w.streams (new ∷ []) in omega (arith, e));
  none = replies_call p z.posted (all_fetched y []).replies;
}
  where
    r : PlaceStands next most clock [] x
    r = h.places p x at

    o : Opening
    o = k.opening

    ask : WatchAsk
    ask = watch_under x.core.settings.namespace (record { range = o.stream.range; start = o.stream.next; no_put = false; no_delete = false; prev_kv = false; progress = false })

    number : ℕ
    number = length w.streams + 1

    new : OpenedStream
    new = new_stream p (with_core x k.core) o.number

    y : Place
    y = record (with_core x k.core) { streams = with_kept x.streams o.number number }

    z : Place
    z = (all_fetched y []).place

    v : World
    v = record w { streams = w.streams ++ new ∷ []; store = (opened w.store k.member ask).0 }

    items : List Item
    items = item.Opened p number k.member (request.Watch ask) ∷ ([] ++ flat_map (reply_items p z.posted) (all_fetched y []).replies)

    f : FetchedSo next (most + 1) [] y z
    f = fetched_so next (most + 1) [] (length y.core.asks) y [] (small (most + 1) 1 (omega (arith, s))) k.step.stands

    leasing : z.core.leasing ≡ Some (opening_sent o)
    leasing = f.leasing ∙ k.leasing

    -- no other stream of the proxy is there still
    no_other : (q : ℕ) (t : OpenedStream) → nth w.streams q ≡ Some t → t.cancelled ≡ false → t.proxy ≡ p → ⊥
    no_other q t e c i =
        let l = h.streams q t e c in
        let there : x.core.leasing ≡ Some l.opening = ap leasing_in (sym (ap (λ (n : ℕ). held_of (place_at w n)) i ∙ ap held_of at) ∙ l.stands) in
        not_due l.opening o (one_opening l.opening o (sym there ∙ k.at)) l.due k.due

    fresh : o.stream.created ≡ false
    fresh = subst IsFresh k.at r.rests.core.fresh k.due

    of_new : (q : ℕ) → q ≡ length w.streams + 1 → Linked (held_of (place_at (with_place v p z) p)) (watch_of v.store q) new
    of_new q e = record {
      opening = opening_sent o;
      stands = ap held_of (placed_itself v v p z) ∙ (λ i. Some (record { life = f.life i; leasing = leasing i }));
      number = refl;
      due = refl;
      waiting = refl;
      ended = refl;
      opened = record { member = k.member; ask = ask; next = 0 };
      watched = ap (watch_of v.store) (e ∙ ap (λ (n : ℕ). n + 1) (sym h.many)) ∙ last_nth w.store.watches (record { member = k.member; ask = ask; next = 0 });
      range = ap (λ (n : List ℕ). under n o.stream.range) r.rests.core.namespace ∙ under_none o.stream.range;
      agree = begins refl fresh refl;
    }

    of_old : (q : ℕ) (t : OpenedStream) → nth w.streams q ≡ Some t → t.cancelled ≡ false → (b : Bool) → (t.proxy == p) ≡ b → Linked (held_of (place_at (with_place v p z) t.proxy)) (watch_of v.store q) t
    of_old q t e c true i = absurd (no_other q t e c (equal t.proxy p i))
    of_old q t e c false i =
        let l = h.streams q t e c in
        subst (λ (g : Option Held). Linked g (watch_of v.store q) t) (ap held_of (sym (placed_other w v p t.proxy z refl i)))
        (subst (λ (g : Option OpenWatch). Linked (held_of (place_at w t.proxy)) g t) (l.watched ∙ sym (nth_still w.store.watches (record { member = k.member; ask = ask; next = 0 }) q l.opened l.watched)) l)

    streams : (q : ℕ) (t : OpenedStream) → nth (w.streams ++ new ∷ []) q ≡ Some t → StreamStands (held_of (place_at (with_place v p z) t.proxy)) (watch_of v.store q) t
    streams q t e c = by (nth_push w.streams new q t e)
      where
        by : (nth w.streams q ≡ Some t) ⊎ ((q ≡ length w.streams + 1) × (new ≡ t)) → Linked (held_of (place_at (with_place v p z) t.proxy)) (watch_of v.store q) t
        by (inl d) = of_old q t d c (t.proxy == p) refl
        by (inr d) = subst (λ (u : OpenedStream). Linked (held_of (place_at (with_place v p z) u.proxy)) (watch_of v.store q) u) d.1 (of_new q d.0)

    one : OneEach (w.streams ++ new ∷ [])
    one n q a b d e c g i = by (nth_push w.streams new n a d) (nth_push w.streams new q b e)
      where
        by : (nth w.streams n ≡ Some a) ⊎ ((n ≡ length w.streams + 1) × (new ≡ a)) → (nth w.streams q ≡ Some b) ⊎ ((q ≡ length w.streams + 1) × (new ≡ b)) → n ≡ q
        by (inl j) (inl m) = h.one n q a b j m c g i
        by (inl j) (inr m) = absurd (no_other n a j c (i ∙ sym (ap (λ (u : OpenedStream). u.proxy) m.1)))
        by (inr j) (inl m) = absurd (no_other q b m g (sym i ∙ sym (ap (λ (u : OpenedStream). u.proxy) j.1)))
        by (inr j) (inr m) = j.0 ∙ sym m.0

    many : length v.store.watches ≡ length v.streams
    many =
        let a = length-append w.store.watches (record { member = k.member; ask = ask; next = 0 } ∷ []) in
        let b = length-append w.streams (new ∷ []) in
        let c = h.many in omega (arith, a, b, c)
