-- The law: of every script.
use Rattle.std.proofs.Common.{◌≡◌, ◌≢◌, ◌⊎◌, inl, inr, ℕ, suc, ◌+◌, Bool, true, false, not, cond, List, [], ◌∷◌, ◌++◌, append_assoc, length, Option, None, Some, Ok, refl, sym, ◌∙◌, ap, subst}
use Rattle.std.specs.Prelude.{flat_map}
use Rattle.std.specs.List.{list_all}
use Rattle.etcd_types.specs.declared.answer.Answer.{Answer}
use Rattle.etcd_types.specs.declared.answer.Answer.TheVariants.{Done, Refused}
use Rattle.etcd_types.specs.declared.answer.Refusal.{Refusal}
use Rattle.etcd_types.specs.declared.answer.Reply.{Reply}
use Rattle.etcd_types.specs.declared.request.Request.{Request}
use Rattle.core_model.specs.declared.event.CoreEvent.TheVariants as event
use Rattle.core_model.specs.Heard.{is_known}
use Rattle.core_model.specs.Kinds.{writes_keys}
use Rattle.store_model.specs.Step.{exec}
use Rattle.script_text.specs.declared.item.Item.{Item}
use Rattle.script_text.specs.declared.item.Item.TheVariants as item
use Rattle.script_text.specs.declared.line.Line.{Line}
use Rattle.script_text.specs.declared.line.Line.TheVariants as line
use Rattle.world_model.specs.declared.sent_call.SentCall.{SentCall}
use Rattle.world_model.specs.Gains.{all_fetched, body_if, reply_items}
use Rattle.world_model.specs.Lives.{life, asked_as, is_named, world_of}
use Rattle.world_model.specs.declared.fault.WorldFault.TheVariants as fault
use Rattle.json_model.specs.declared.extra.Reading.TheVariants.{Client}
use Rattle.json_model.specs.Mapping.{request_of}
use Rattle.world_model.specs.Asks.{posted_as, posted_at}
use Rattle.world_model.specs.Steps.{at_place_of, refuses}
use Rattle.world_model.specs.Places.{nth, is_among, place_at, with_posted, with_call}
use Rattle.world_model.specs.State.{Place, World, starting_world}
use Rattle.world_model.specs.Transcript.{step, transcript_from, done, transcript}
use Rattle.world_laws.proofs.Effects.{Begins, first, again, Effect, starts, sets, executes, expires, applies, pushes, turns}
use Rattle.world_laws.proofs.Effects as effects
use Rattle.held_laws.proofs.Items.{reply_silent, reply_unasking}
use Rattle.prefix_laws.proofs.Told.{AllItems, items-append, IsTold, every_item}
use Rattle.renewed_laws.specs.Renewals.{AnswersShowBytes}
use Rattle.renewed_laws.proofs.Gains.{is_other, stepped_to, Gain, gain}
use Rattle.renewed_laws.proofs.Gains as gains
use Rattle.renewed_laws.proofs.Lives.{IsStill, asked_on, life_on, still-append}
use Rattle.world_laws.specs.Laws.{IsOwn}
use Rattle.world_laws.proofs.Lines.{gains_own}
use Rattle.renewed_laws.proofs.Stories.{Executed}
use Rattle.renewed_laws.proofs.Worlds.{WorldOk}
use Rattle.executed_laws.proofs.Naming.{Unnaming, reply_unnaming}
use Rattle.executed_laws.proofs.Worlds.{AllKept, begins_on}
use Rattle.once_laws.specs.Once.{Did, Run, RanOnce}
use Rattle.once_laws.specs.Laws.{EachScriptsWritesRunOnce}
use Rattle.once_laws.proofs.Answers.{Holds}
use Rattle.once_laws.proofs.Holds.{NotDid, never, spared, Most, MostOf, NoneOf}
use Rattle.once_laws.proofs.Lines.{other_most}
use Rattle.once_laws.proofs.Named.{of_named}
use Rattle.once_laws.proofs.Script.{OnceKept, once_kept, turn_ok, answer_ok, start_once, unnamed_of, names_are}
use Rattle.once_laws.proofs.Told.{MostNow, Tells, Both, Calm, body_calm, turn_calm, line_most, own_tells, turn_tells, zipped}
use Rattle.once_laws.proofs.Worlds.{WorldOnce, KnownCall}

-- ---- each line

one_of : (i j : Item) (xs ys : List Item) → i ∷ xs ≡ j ∷ ys → (i ≡ j) × (xs ≡ ys)
one_of i j xs ys e = (cc, cc)

-- of items that begin no life and name and ask nothing
quiet_tells : (items gained : List Item) (w : World) → AllKept items w → WorldOnce w.namespace w.leasing items w → ((q : ℕ) → Calm q gained) → ((q : ℕ) → IsStill q gained) → ((q : ℕ) → Unnaming q gained) → AllItems Tells items gained → AllItems Both items gained
quiet_tells items gained w k h calm still silent tells =
    zipped (λ b i. MostNow (b ++ i ∷ [])) Tells items gained
    (line_most w.namespace w.leasing items gained calm (λ part. names_are (items ++ part) w.namespace w.leasing (begins_on items part w.namespace w.leasing k.sent.begins)) (λ q t. other_most w.namespace w.leasing items gained q t (still q) (silent q) (h.most q t))) tells

-- a post that a line tells is of a ticket that wasn't asked or posted

abbrev Unused : World → List Item → Type 0
Unused w gained = (p ticket : ℕ) (path body : List ℕ) (rest : List Item) (x : Place) → gained ≡ item.Posted p ticket path body ∷ rest → place_at w p ≡ Some x → is_among x.tickets ticket ≡ false

its_line : (l : Line) (p ticket : ℕ) (path body : List ℕ) → IsOwn l (item.Posted p ticket path body) → (a b : List ℕ) × (l ≡ line.Post p ticket a b)
its_line (line.Post q t a b) p ticket path body h = (a, b, (λ i. line.Post (sym h.0 i) (sym h.1 i) a b))
its_line (line.World members namespace leasing) p ticket path body h = absurd h
its_line (line.Start q) p ticket path body h = absurd h
its_line (line.Clock q millis) p ticket path body h = absurd h
its_line (line.Ask q t r) p ticket path body h = absurd h
its_line (line.Tick q) p ticket path body h = absurd h
its_line (line.Send q) p ticket path body h = absurd h
its_line (line.Exec number) p ticket path body h = absurd h
its_line (line.Answer number) p ticket path body h = absurd h
its_line (line.Lose number) p ticket path body h = absurd h
its_line (line.Push number) p ticket path body h = absurd h
its_line (line.Progress number) p ticket path body h = absurd h
its_line (line.Deliver number) p ticket path body h = absurd h
its_line (line.Cut number) p ticket path body h = absurd h
its_line (line.Take q t) p ticket path body h = absurd h
its_line (line.Leave q t) p ticket path body h = absurd h
its_line (line.Expire lease) p ticket path body h = absurd h
its_line (line.Apply member revision) p ticket path body h = absurd h

post_free : (w : World) (p ticket : ℕ) (a b : List ℕ) (gained : List Item) (x : Place) → place_at w p ≡ Some x → (done w (line.Post p ticket a b)).gained ≡ Ok gained → is_among x.tickets ticket ≡ false
post_free w p ticket a b gained x at e = by (is_among x.tickets ticket) refl (sym (ap (λ (o : Option Place). (step (at_place_of w p o (posted_at w p ticket a b))).gained) at) ∙ e)
  where
    by : (c : Bool) → is_among x.tickets ticket ≡ c → (step (cond c (refuses w (fault.TicketUsed ticket)) (posted_as w p ticket (item.Posted p ticket a b ∷ []) x (request_of Client a b)))).gained ≡ Ok gained → c ≡ false
    by true f g = absurd (cc)
    by false f g = refl

unused : (w : World) (l : Line) (gained : List Item) → (done w l).gained ≡ Ok gained → Unused w gained
unused w l gained e p ticket path body rest x is at =
    let g = gains_own w l gained e in
    let own = one_of g.own (item.Posted p ticket path body) g.rest rest (sym g.gained ∙ is) in
    let k = its_line l p ticket path body (subst (IsOwn l) own.0 g.repeats) in
    post_free w p ticket k.0 k.1 gained x at (sym (ap (λ (m : Line). (done w m).gained) k.2) ∙ e)

none_executed : (w : World) (number : ℕ) (call : SentCall) → nth w.calls number ≡ Some call → call.executed ≡ None → KnownCall w number → ⊥
none_executed w number call there fresh k =
    absurd (let same : k.sent ≡ call = one k.sent call (sym k.there ∙ there) in let e : true ≡ false = sym k.done ∙ ap (λ (c : SentCall). Rattle.std.proofs.Common.is_some c.executed) same ∙ ap Rattle.std.proofs.Common.is_some fresh in cc)
  where
    one : (a b : SentCall) → Some a ≡ Some b → a ≡ b
    one a b e = cc

start_tells : (items : List Item) (w : World) (p clock life' : ℕ) (i : Item) → Begins w p clock life' i → Tells items i
start_tells items w p _ _ _ (first e) = tt
start_tells items w p _ _ _ (again x e) = tt

most_of : (items : List Item) (namespace prefix : List ℕ) → world_of items ≡ (namespace, prefix) → ((p t : ℕ) → MostOf namespace prefix p items (life p items) t) → MostNow items
most_of items namespace prefix e h p t = subst (λ (n : List ℕ × List ℕ). MostOf n.0 n.1 p items (life p items) t) (sym e) (h p t)

effect_tells : (items : List Item) (w after : World) (gained : List Item) → WorldOk w.namespace items w → AllKept items w → WorldOnce w.namespace w.leasing items w → Effect w after gained → is_other gained ≡ true → AllItems Both items gained
effect_tells items w _ _ h k c (starts p clock life' i b) o = (
  (most_of (items ++ i ∷ []) w.namespace w.leasing (names_are (items ++ i ∷ []) w.namespace w.leasing (begins_on items (i ∷ []) w.namespace w.leasing k.sent.begins)) (start_once items w p clock life' i b (unnamed_of items w k) c).most, start_tells items w p clock life' i b),
  tt,
)
effect_tells items w _ _ h k c (sets p millis x e forward) o = quiet_tells items (item.Clock p millis ∷ []) w k c (λ q. refl) (λ q. (λ xs. refl, λ t. refl)) (λ q t. refl) (tt, tt)
effect_tells items w _ _ h k c (effects.refuses_post p ticket path body a x e) o = absurd (cc)
effect_tells items w _ _ h k c (executes number call e fresh) o =
    quiet_tells items (item.Executed number (exec w.store call.member call.request).1 ∷ []) w k c (λ q. refl) (λ q. (λ xs. refl, λ t. refl)) (λ q t. refl) ((λ b d. none_executed w number call e fresh (c.once number b d)), tt)
effect_tells items w _ _ h k c (expires lease t e due) o = quiet_tells items (item.Expired lease ∷ []) w k c (λ q. refl) (λ q. (λ xs. refl, λ t. refl)) (λ q t. refl) (tt, tt)
effect_tells items w _ _ h k c (applies member revision t e) o = quiet_tells items (item.Applied member revision ∷ []) w k c (λ q. refl) (λ q. (λ xs. refl, λ t. refl)) (λ q t. refl) (tt, tt)
effect_tells items w _ _ h k c (pushes number st t i e a b d) o = quiet_tells items (item.Pushed number i ∷ []) w k c (λ q. refl) (λ q. (λ xs. refl, λ t. refl)) (λ q t. refl) (tt, tt)
effect_tells items w _ _ h k c (turns p x e out v y own told at is t) o =
    turn_tells items own w v p x y e told k (turn_ok items (flat_map (reply_items p (all_fetched y told).place.posted) (all_fetched y told).replies) w p x e out v y own told h k c at is t o) c
    (λ q. turn_calm q w p (stepped_to x e) e out v y own told t) (own_tells items w p (stepped_to x e) e out v y own told t)

gain_tells : (items : List Item) (w after : World) (gained : List Item) → WorldOk w.namespace items w → AllKept items w → WorldOnce w.namespace w.leasing items w → Gain w after gained → Unused w gained → AllItems Both items gained
gain_tells items w _ _ h k c (gains.answers number call x a o there is at lived out) u =
    turn_tells items (item.Answered number ∷ []) w (with_call w number (record call { settled = true })) call.proxy x (stepped_to x (event.Answer call.own a)) (event.Answer call.own a) [] k (answer_ok items w number call x a h k c there is at lived) c (λ q. refl) (tt, tt)
gain_tells items w _ _ h k c (gains.refuses_post p ticket path body r x e) u =
    let posted = (with_posted ticket x).posted in
    let rest = reply_items p posted (ticket, Refused r) in
    quiet_tells items (item.Posted p ticket path body ∷ rest) w k c (λ q. calm q (is_among posted ticket)) (λ q. still-append q (item.Posted p ticket path body ∷ []) rest (λ xs. refl, λ t. refl) ((reply_silent q p posted (ticket, Refused r)).lives, reply_unasking q p posted (ticket, Refused r)))
    (λ q t. reply_unnaming q p posted (ticket, Refused r) t) (tt, (refused, by (is_among posted ticket)))
  where
    calm : (q : ℕ) (b : Bool) → Calm q (item.Posted p ticket path body ∷ item.Reply p ticket (Refused r) ∷ body_if b p ticket (Refused r))
    calm q true = refl
    calm q false = refl

    refused : Tells (items ++ item.Posted p ticket path body ∷ []) (item.Reply p ticket (Refused r))
    refused code q n asked w' =
        let free = (h.places p x e).unasked ticket (u p ticket path body (reply_items p (with_posted ticket x).posted (ticket, Refused r)) x refl e) in
        let there = sym (asked_on p ticket (life p items) (item.Posted p ticket path body ∷ []) (λ t. refl)) ∙ ap (asked_as p ticket) (sym (life_on p items (item.Posted p ticket path body ∷ []) (λ xs. refl))) ∙ asked in
        absurd (let f : None ≡ Some q = sym free ∙ there in cc)

    by : (b : Bool) → AllItems Tells ((items ++ item.Posted p ticket path body ∷ []) ++ item.Reply p ticket (Refused r) ∷ []) (body_if b p ticket (Refused r))
    by true = (tt, tt)
    by false = tt
gain_tells items w _ _ h k c (gains.other after gained e o) u = effect_tells items w after gained h k c e o

-- ---- a whole transcript

lines_tell : (script : List Line) → IsTold script OnceKept Both
lines_tell script = record {
  first = λ members namespace leasing. (λ p t q n e w. absurd (let f : None ≡ Some q = e in cc), tt);
  line = λ namespace items w l gained n e ok h.
      gain_tells items w (done w l).world gained (subst (λ (ns : List ℕ). WorldOk ns items w) (sym ok.namespace_is) ok) h.kept h.once (gain w l gained e) (unused w l gained e);
}

-- it is empty, or begins with its world's item
data Starts (items : List Item) : Type 0 where
  empty : items ≡ [] → Starts items
  first_is : (members : ℕ) (namespace leasing : List ℕ) (rest : List Item) → items ≡ item.World members namespace leasing ∷ rest → Starts items

it_starts : (lines : List Line) → Starts (transcript lines)
it_starts [] = empty refl
it_starts (line.World members namespace leasing ∷ lines) = first_is members namespace leasing (transcript_from (Some (starting_world members namespace leasing)) lines) refl
it_starts (line.Start p ∷ lines) = empty refl
it_starts (line.Clock p millis ∷ lines) = empty refl
it_starts (line.Ask p ticket q ∷ lines) = empty refl
it_starts (line.Post p ticket path body ∷ lines) = empty refl
it_starts (line.Tick p ∷ lines) = empty refl
it_starts (line.Send p ∷ lines) = empty refl
it_starts (line.Exec number ∷ lines) = empty refl
it_starts (line.Answer number ∷ lines) = empty refl
it_starts (line.Lose number ∷ lines) = empty refl
it_starts (line.Push number ∷ lines) = empty refl
it_starts (line.Progress number ∷ lines) = empty refl
it_starts (line.Deliver number ∷ lines) = empty refl
it_starts (line.Cut number ∷ lines) = empty refl
it_starts (line.Take p ticket ∷ lines) = empty refl
it_starts (line.Leave p ticket ∷ lines) = empty refl
it_starts (line.Expire lease ∷ lines) = empty refl
it_starts (line.Apply member revision ∷ lines) = empty refl

names_stay : (items earlier later : List Item) → Starts items → items ≡ earlier ++ later → (earlier ≡ [] → ⊥) → world_of earlier ≡ world_of items
names_stay items [] later s e n = absurd (n refl)
names_stay items (i ∷ earlier) later (empty s) e n = absurd (let f : [] ≡ i ∷ (earlier ++ later) = sym s ∙ e in cc)
names_stay items (i ∷ earlier) later (first_is members namespace leasing rest s) e n =
    ap (λ (j : Item). world_of (j ∷ earlier)) (sym (one_of (item.World members namespace leasing) i rest (earlier ++ later) (sym s ∙ e)).0) ∙ sym (ap world_of s)

-- a list is empty, or has a last item
data Ends (items : List Item) : Type 0 where
  nothing : items ≡ [] → Ends items
  last_is : (front : List Item) (i : Item) → items ≡ front ++ i ∷ [] → Ends items

ends : (items : List Item) → Ends items
ends [] = nothing refl
ends (x ∷ xs) = by (ends xs)
  where
    by : Ends xs → Ends (x ∷ xs)
    by (nothing e) = last_is [] x (ap (λ (ys : List Item). x ∷ ys) e)
    by (last_is front i e) = last_is (x ∷ front) i (ap (λ (ys : List Item). x ∷ ys) e)

-- two splits of one list at items of one call are one, or one stands before the other
data Splits (c : ℕ) (a b : Answer) (x y : List Item) : Type 0 where
  same : length x ≡ length y → a ≡ b → Splits c a b x y
  before : Executed c a y → Splits c a b x y
  behind : Executed c b x → Splits c a b x y

splits : (c : ℕ) (a b : Answer) (x y xs ys : List Item) → x ++ item.Executed c a ∷ xs ≡ y ++ item.Executed c b ∷ ys → Splits c a b x y
splits c a b [] [] xs ys e = same refl (answer (one_of (item.Executed c a) (item.Executed c b) xs ys e).0)
  where
    answer : item.Executed c a ≡ item.Executed c b → a ≡ b
    answer f = cc
splits c a b [] (j ∷ y) xs ys e = before (record { before = []; after = y; story = ap (λ (i : Item). i ∷ y) (sym (one_of (item.Executed c a) j xs (y ++ item.Executed c b ∷ ys) e).0) })
splits c a b (i ∷ x) [] xs ys e = behind (record { before = []; after = x; story = ap (λ (j : Item). j ∷ x) (one_of i (item.Executed c b) (x ++ item.Executed c a ∷ xs) ys e).0 })
splits c a b (i ∷ x) (j ∷ y) xs ys e = by (splits c a b x y xs ys k.1)
  where
    k : (i ≡ j) × (x ++ item.Executed c a ∷ xs ≡ y ++ item.Executed c b ∷ ys)
    k = one_of i j (x ++ item.Executed c a ∷ xs) (y ++ item.Executed c b ∷ ys) e

    by : Splits c a b x y → Splits c a b (i ∷ x) (j ∷ y)
    by (same f g) = same (ap suc f) g
    by (before f) = before (record { before = j ∷ f.before; after = f.after; story = ap (λ (zs : List Item). j ∷ zs) f.story })
    by (behind f) = behind (record { before = i ∷ f.before; after = f.after; story = ap (λ (zs : List Item). i ∷ zs) f.story })

module _ (lines : List Line) (shows : AnswersShowBytes (transcript lines)) where
  items : List Item
  items = transcript lines

  told : (earlier later : List Item) (i : Item) → transcript lines ≡ earlier ++ i ∷ later → Both earlier i
  told earlier later i e = every_item OnceKept Both lines (once_kept lines) (lines_tell lines) shows earlier later i e

  -- each call is executed once
  executed_once : (c : ℕ) (a b : Answer) (x y xs ys : List Item) → transcript lines ≡ x ++ item.Executed c a ∷ xs → transcript lines ≡ y ++ item.Executed c b ∷ ys → (length x ≡ length y) × (a ≡ b)
  executed_once c a b x y xs ys e f = by (splits c a b x y xs ys (sym e ∙ f))
    where
      by : Splits c a b x y → (length x ≡ length y) × (a ≡ b)
      by (same g h) = (g, h)
      by (before g) = absurd ((told y ys (item.Executed c b) f).1 a g)
      by (behind g) = absurd ((told x xs (item.Executed c a) e).1 b g)

  behind_is : (front later : List Item) (c : ℕ) (a : Answer) → transcript lines ≡ front ++ later → (e : Executed c a front) → transcript lines ≡ e.before ++ item.Executed c a ∷ (e.after ++ later)
  behind_is front later c a s e = s ∙ ap (λ (xs : List Item). xs ++ later) e.story ∙ append_assoc e.before (item.Executed c a ∷ e.after) later

  -- a call that didn't didn't
  spared_none : (namespace prefix : List ℕ) (p : ℕ) (front later : List Item) (q sent : Request) (c : ℕ) (b : Answer) (xs ys : List Item) → transcript lines ≡ front ++ later → transcript lines ≡ xs ++ item.Executed c b ∷ ys → NotDid namespace prefix p front q c sent
      → Did namespace prefix q sent b → ⊥
  spared_none namespace prefix p front later q sent c b xs ys s e (never n) d = n b d
  spared_none namespace prefix p front later q sent c b xs ys s e (spared a k n) d =
      n (subst (Did namespace prefix q sent) (sym (executed_once c a b k.before xs (k.after ++ later) ys (behind_is front later c a s k) e).1) d)

  most_at : (earlier later : List Item) → transcript lines ≡ earlier ++ later → (earlier ≡ [] → ⊥) → MostNow earlier
  most_at earlier later e n = by (ends earlier)
    where
      by : Ends earlier → MostNow earlier
      by (nothing f) = absurd (n f)
      by (last_is front i f) = subst MostNow (sym f) (told front later i (e ∙ ap (λ (xs : List Item). xs ++ later) f ∙ append_assoc front (i ∷ []) later)).0

  asked_some : (p t : ℕ) (q : Request) (earlier : List Item) → asked_as p t (life p earlier) ≡ Some q → earlier ≡ [] → ⊥
  asked_some p t q earlier e f = absurd (let g : None ≡ Some q = sym (ap (λ (xs : List Item). asked_as p t (life p xs)) f) ∙ e in cc)

  -- with the names of the whole
  named : (P : List ℕ → List ℕ → Type 0) (earlier later : List Item) → transcript lines ≡ earlier ++ later → (earlier ≡ [] → ⊥) → P (world_of earlier).0 (world_of earlier).1 → P (world_of (transcript lines)).0 (world_of (transcript lines)).1
  named P earlier later e n h = subst (λ (m : List ℕ × List ℕ). P m.0 m.1) (names_stay (transcript lines) earlier later (it_starts lines) e n) h

  two_once : (namespace prefix : List ℕ) (p t : ℕ) (q : Request) (earlier later : List Item) → transcript lines ≡ earlier ++ later → Most namespace prefix p earlier (life p earlier) t q → (a b : Run namespace prefix (life p earlier) (transcript lines) p t q)
      → length a.unexecuted ≡ length b.unexecuted
  two_once namespace prefix p t q earlier later e m a b =
      (executed_once a.call a.answer b.answer a.unexecuted b.unexecuted a.rest b.rest a.executed (b.executed ∙ ap (λ (c : ℕ). b.unexecuted ++ item.Executed c b.answer ∷ b.rest) (its b ∙ sym (its a)))).0
    where
      its : (r : Run namespace prefix (life p earlier) (transcript lines) p t q) → r.call ≡ m.call
      its r = by (of_named p t r.call r.member r.sent (λ c x. (c ≡ m.call) ⊎ NotDid namespace prefix p earlier q c x) (life p earlier) r.unsent r.later r.named m.others)
        where
          by : (r.call ≡ m.call) ⊎ NotDid namespace prefix p earlier q r.call r.sent → r.call ≡ m.call
          by (inl f) = f
          by (inr f) = absurd (spared_none namespace prefix p earlier later q r.sent r.call r.answer r.unexecuted r.rest e r.executed f r.did)

  none_ran : (namespace prefix : List ℕ) (p t : ℕ) (q : Request) (earlier later : List Item) → transcript lines ≡ earlier ++ later → Rattle.once_laws.proofs.Named.AllNamed p t (NotDid namespace prefix p earlier q) (life p earlier)
      → Run namespace prefix (life p earlier) (transcript lines) p t q → ⊥
  none_ran namespace prefix p t q earlier later e all r =
      spared_none namespace prefix p earlier later q r.sent r.call r.answer r.unexecuted r.rest e r.executed (of_named p t r.call r.member r.sent (NotDid namespace prefix p earlier q) (life p earlier) r.unsent r.later r.named all) r.did

  did_run : (namespace prefix : List ℕ) (p t : ℕ) (q : Request) (earlier : List Item) → t ≢ 0 → asked_as p t (life p earlier) ≡ Some q → writes_keys q ≡ true → Rattle.once_laws.proofs.Holds.DidOf namespace prefix p earlier (life p earlier) t → Run namespace prefix (life p earlier) earlier p t q
  did_run namespace prefix p t q earlier n e w d =
      let same : d.request ≡ q = one d.request q (sym d.asked ∙ e) in
      subst (λ (r : Request). Run namespace prefix (life p earlier) earlier p t r) same (d.so n (ap writes_keys same ∙ w))
    where
      one : (a b : Request) → Some a ≡ Some b → a ≡ b
      one a b f = cc

  pub ran_once : RanOnce (transcript lines)
  ran_once = record {
    once = λ earlier later p t q e n asked w.
        let some = asked_some p t q earlier asked in
        named (λ ns pf. (a b : Run ns pf (life p earlier) (transcript lines) p t q) → length a.unexecuted ≡ length b.unexecuted) earlier later e some (two_once (world_of earlier).0 (world_of earlier).1 p t q earlier later e (most_at earlier later e some p t q n asked w));
    ran = λ earlier later p t q reply e n asked w.
        let some = asked_some p t q earlier asked in
        named (λ ns pf. Run ns pf (life p earlier) earlier p t q) earlier (item.Reply p t (Done reply) ∷ later) e some (did_run (world_of earlier).0 (world_of earlier).1 p t q earlier n asked w (told earlier later (item.Reply p t (Done reply)) e).1);
    none = λ earlier later p t q r e code n asked w.
        let some = asked_some p t q earlier asked in
        named (λ ns pf. Run ns pf (life p earlier) (transcript lines) p t q → ⊥) earlier (item.Reply p t (Refused r) ∷ later) e some
        (none_ran (world_of earlier).0 (world_of earlier).1 p t q earlier (item.Reply p t (Refused r) ∷ later) e ((told earlier later (item.Reply p t (Refused r)) e).1 code q n asked w));
  }

pub writes_run_once : EachScriptsWritesRunOnce
writes_run_once lines shows = ran_once lines shows
