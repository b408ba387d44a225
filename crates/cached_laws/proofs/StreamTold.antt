-- Line by line: the leasing stream that items tell of as open is the one that the proxy has open.
use Rattle.std.proofs.Common.{◌≡◌, ℕ, ◌+◌, ◌==◌, ◌≤◌, Bool, true, false, cond, not, ◌&&◌, List, [], ◌∷◌, ◌++◌, length, Option, None, Some, is_some, Result, Ok, Err, refl, sym, ◌∙◌, ap, subst, arith}
use Rattle.std.specs.List.{list_all}
use Rattle.etcd_types.specs.declared.key_range.KeyRange.{KeyRange}
use Rattle.etcd_types.specs.declared.request.Request.{Request}
use Rattle.etcd_types.specs.declared.request.Request.TheVariants as request
use Rattle.etcd_types.specs.declared.request.WatchAsk.{WatchAsk}
use Rattle.etcd_types.specs.declared.watch.WatchItem.{WatchItem}
use Rattle.etcd_types.specs.Keys.{same}
use Rattle.etcd_types.proofs.Bools.{and_first, and_second, and_both, and_false}
use Rattle.etcd_types.proofs.KeyOrder.{same-itself}
use Rattle.proxy_model.specs.Prefixes.{leasing_range, under}
use Rattle.proxy_model.specs.Unwrapped.{item_without}
use Rattle.proxy_model.specs.Upstream.{Upstream, opened}
use Rattle.core_model.specs.State.{Opening, Core}
use Rattle.core_model.specs.Step.{opening_at}
use Rattle.core_laws.proofs.Steps.Lists.{same_number, number_itself, number_turned}
use Rattle.script_text.specs.declared.item.Item.{Item}
use Rattle.script_text.specs.declared.item.Item.TheVariants as item
use Rattle.held_laws.proofs.Kept.{nth_itself, nth_other}
use Rattle.world_model.specs.Lives.{begins, next_message}
use Rattle.world_model.specs.Places.{nth, with_nth}
use Rattle.world_model.specs.State.{OpenedStream}
use Rattle.cached_laws.specs.Folds.{told_of}
use Rattle.cached_laws.specs.Streams.{ToldStream, told_in, told_if, numbered, delivered_by, cut_by, stream_by, leasing_of, is_created, is_up}
use Rattle.cached_laws.proofs.Folds.{told_next, told_still}
use Rattle.cached_laws.proofs.Openings.{IsAnew}

-- what is told as open is the leasing stream, which is the stream of this number
pub record IsOpen (streams : List OpenedStream) (p life : ℕ) (s : ToldStream) (l : Option Opening) : Type 0 where
  pub opening : Opening
  pub is : l ≡ Some opening
  pub due : opening.due ≡ None
  pub stream : opening.stream ≡ s.stream
  pub at : OpenedStream
  pub there : nth streams s.number ≡ Some at
  pub mine : at.proxy ≡ p
  pub lives : at.life ≡ life
  pub own : at.own ≡ opening.number

-- a stream that this proxy opened in this life
pub record Its (streams : List OpenedStream) (p life m n : ℕ) : Type 0 where
  pub at : OpenedStream
  pub there : nth streams n ≡ Some at
  pub mine : at.proxy ≡ p
  pub lives : at.life ≡ life
  pub own : at.own ≡ m

-- `told` is the leasing stream that is told
pub record StreamTold (told : Option ToldStream) (streams : List OpenedStream) (p life : ℕ) (l : Option Opening) : Type 0 where
  pub told_open : (s : ToldStream) → told ≡ Some s → IsOpen streams p life s l
  pub single : (o : Opening) (n : ℕ) → l ≡ Some o → Its streams p life o.number n → (o.due ≡ None) × (told ≡ Some (record { number = n; stream = o.stream }))
  pub fresh : (o : Opening) (since : ℕ) → l ≡ Some o → o.due ≡ Some since → o.stream.created ≡ false

some_opening : (a b : Opening) → Some a ≡ Some b → a ≡ b
some_opening a b e = cc

some_stream : (a b : OpenedStream) → Some a ≡ Some b → a ≡ b
some_stream a b e = cc

some_told : (a b : ToldStream) → Some a ≡ Some b → a ≡ b
some_told a b e = cc

no_told : {A : Type 0} (s : ToldStream) → ◌≡◌ {A = Option ToldStream} None (Some s) → A
no_told s e = absurd (cc)

no_opening : {A : Type 0} (o : Opening) → ◌≡◌ {A = Option Opening} None (Some o) → A
no_opening o e = absurd (cc)

pub stands : (told : Option ToldStream) (streams : List OpenedStream) (p life : ℕ) (c : Core) → StreamTold told streams p life c.leasing → is_created told ≡ true → Rattle.core_model.specs.Lookups.stands_created c.leasing ≡ true
stands None streams p life c h e = absurd (cc)
stands (Some s) streams p life c h e = let o = h.told_open s refl in ap Rattle.core_model.specs.Lookups.stands_created o.is ∙ ap (λ (u : Upstream). u.created) o.stream ∙ e

-- ---- streams go on

-- each goes on as this proxy's, in this life, by its number there
pub record Forth (streams after : List OpenedStream) : Type 0 where
  pub on : (p life own n : ℕ) → Its streams p life own n → Its after p life own n

-- those of this proxy's life that have this number there were there before
abbrev pub Back : List OpenedStream → List OpenedStream → ℕ → ℕ → ℕ → Type 0
Back streams after p life own = (n : ℕ) → Its after p life own n → Its streams p life own n

pub forth_itself : (streams : List OpenedStream) → Forth streams streams
forth_itself streams = record { on = λ p life own n h. h }

pub forth_changed : (streams : List OpenedStream) (number : ℕ) (s t : OpenedStream) → nth streams number ≡ Some s → t.proxy ≡ s.proxy → t.life ≡ s.life → t.own ≡ s.own → Forth streams (with_nth streams number t)
forth_changed streams number s t at a b c = record { on = λ p life own n h. by p life own n h (n == number) refl }
  where
    by : (p life own n : ℕ) → Its streams p life own n → (b : Bool) → (n == number) ≡ b → Its (with_nth streams number t) p life own n
    by p life own n h true e =
        let is = same_number n number e in
        let one : s ≡ h.at = some_stream s h.at (sym at ∙ ap (nth streams) (sym is) ∙ h.there) in
        record {
          at = t;
          there = ap (nth (with_nth streams number t)) is ∙ nth_itself streams number s t at;
          mine = a ∙ ap (λ (y : OpenedStream). y.proxy) one ∙ h.mine;
          lives = b ∙ ap (λ (y : OpenedStream). y.life) one ∙ h.lives;
          own = c ∙ ap (λ (y : OpenedStream). y.own) one ∙ h.own;
        }
    by p life own n h false e = record { at = h.at; there = nth_other streams number n s t at e ∙ h.there; mine = h.mine; lives = h.lives; own = h.own }

pub back_changed : (streams : List OpenedStream) (number : ℕ) (s t : OpenedStream) → nth streams number ≡ Some s → t.proxy ≡ s.proxy → t.life ≡ s.life → t.own ≡ s.own → (p life own : ℕ) → Back streams (with_nth streams number t) p life own
back_changed streams number s t at a b c p life own n h = by (n == number) refl
  where
    by : (d : Bool) → (n == number) ≡ d → Its streams p life own n
    by true e =
        let is = same_number n number e in
        let one : t ≡ h.at = some_stream t h.at (sym (nth_itself streams number s t at) ∙ ap (nth (with_nth streams number t)) (sym is) ∙ h.there) in
        record {
          at = s;
          there = ap (nth streams) is ∙ at;
          mine = sym a ∙ ap (λ (y : OpenedStream). y.proxy) one ∙ h.mine;
          lives = sym b ∙ ap (λ (y : OpenedStream). y.life) one ∙ h.lives;
          own = sym c ∙ ap (λ (y : OpenedStream). y.own) one ∙ h.own;
        }
    by false e = record { at = h.at; there = sym (nth_other streams number n s t at e) ∙ h.there; mine = h.mine; lives = h.lives; own = h.own }

-- ---- what keeps it

-- the leasing stream is the same, and so is what is told
pub keeps : (told next : Option ToldStream) (streams after : List OpenedStream) (p life : ℕ) (l m : Option Opening) → next ≡ told → m ≡ l → Forth streams after → ((o : Opening) → l ≡ Some o → Back streams after p life o.number) → StreamTold told streams p life l
    → StreamTold next after p life m
keeps told next streams after p life l m e f g b h = record {
  told_open = λ s i.
      let k = h.told_open s (sym e ∙ i) in
      let t = g.on p life k.opening.number s.number (record { at = k.at; there = k.there; mine = k.mine; lives = k.lives; own = k.own }) in
      record { opening = k.opening; is = f ∙ k.is; due = k.due; stream = k.stream; at = t.at; there = t.there; mine = t.mine; lives = t.lives; own = t.own };
  single = λ o n i t. let k = h.single o n (sym f ∙ i) (b o (sym f ∙ i) n t) in (k.0, e ∙ k.1);
  fresh = λ o since i d. h.fresh o since (sym f ∙ i) d;
}

-- it is due anew, under a number that no stream has yet, and nothing is told as open
pub anew_told : (streams : List OpenedStream) (p life : ℕ) (c : Core) (m : Option Opening) → IsAnew c m → ((own n : ℕ) → Its streams p life own n → own ≤ c.watches.given) → StreamTold None streams p life m
anew_told streams p life c m a given = record {
  told_open = λ s i. no_told s i;
  single = λ o n i t.
      let one = some_opening a.opening o (sym a.is ∙ i) in
      above (given o.number n t) (ap (λ (y : Opening). y.number) (sym one) ∙ a.number);
  fresh = λ o since i d. ap (λ (y : Opening). y.stream.created) (sym (some_opening a.opening o (sym a.is ∙ i))) ∙ a.uncreated;
}
  where
    above : {A : Type 0} {x y : ℕ} → x ≤ y → x ≡ y + 1 → A
    above {A} {x} {y} l e = absurd (omega (arith, l, e))

-- it goes on by a message
pub goes_told : (streams after : List OpenedStream) (p life n : ℕ) (o : Opening) (u : Upstream) → o.due ≡ None → Forth streams after → Back streams after p life o.number
    → StreamTold (Some (record { number = n; stream = o.stream })) streams p life (Some o) → StreamTold (Some (record { number = n; stream = u })) after p life (Some (record o { stream = u }))
goes_told streams after p life n o u due g b h =
    let k = h.told_open (record { number = n; stream = o.stream }) refl in
    let one : k.opening ≡ o = some_opening k.opening o (sym k.is) in
    let t = g.on p life o.number n (record { at = k.at; there = k.there; mine = k.mine; lives = k.lives; own = k.own ∙ ap (λ (y : Opening). y.number) one }) in
    record {
      told_open = λ s i.
          let same : record { number = n; stream = u } ≡ s = some_told (record { number = n; stream = u }) s i in
          subst (λ (y : ToldStream). IsOpen after p life y (Some (record o { stream = u }))) same (record { opening = record o { stream = u }; is = refl; due = due; stream = refl; at = t.at; there = t.there; mine = t.mine; lives = t.lives; own = t.own });
      single = λ y m i x.
          let is : record o { stream = u } ≡ y = some_opening (record o { stream = u }) y i in
          let before = h.single o m refl (b m (record { at = x.at; there = x.there; mine = x.mine; lives = x.lives; own = x.own ∙ ap (λ (z : Opening). z.number) (sym is) })) in
          let number : n ≡ m = ap (λ (z : ToldStream). z.number) (some_told (record { number = n; stream = o.stream }) (record { number = m; stream = o.stream }) before.1) in (
            ap (λ (z : Opening). z.due) (sym is) ∙ due,
            λ j. Some (record { number = number j; stream = (ap (λ (z : Opening). z.stream) is) j }),
          );
      fresh = λ y since i d. absurd (let f : None ≡ Some since = sym due ∙ ap (λ (z : Opening). z.due) (some_opening (record o { stream = u }) y i) ∙ d in cc);
    }

-- ---- items that tell nothing of the stream

abbrev pub is_dry : ℕ → Item → Bool
is_dry p (item.Started q) = not (q == p)
is_dry p (item.Restarted q) = not (q == p)
is_dry p (item.Opened q stream member r) = false
is_dry p (item.Delivered stream) = false
is_dry p (item.Cut stream) = false
is_dry p _ = true

off_it : (b : Bool) → not b ≡ true → b ≡ false
off_it true e = absurd (cc)
off_it false e = refl

dry : (namespace leasing : List ℕ) (p : ℕ) (before : List Item) (i : Item) (a : Option ToldStream) → is_dry p i ≡ true → (begins p i ≡ false) × (stream_by namespace leasing p before i a ≡ a)
dry namespace leasing p before (item.Started q) a h = (off_it (q == p) h, refl)
dry namespace leasing p before (item.Restarted q) a h = (off_it (q == p) h, refl)
dry namespace leasing p before (item.Opened q stream member r) a h = absurd (cc)
dry namespace leasing p before (item.Delivered stream) a h = absurd (cc)
dry namespace leasing p before (item.Cut stream) a h = absurd (cc)
dry namespace leasing p before (item.World members ns l) a h = (refl, refl)
dry namespace leasing p before (item.Clock q millis) a h = (refl, refl)
dry namespace leasing p before (item.Asked q t r) a h = (refl, refl)
dry namespace leasing p before (item.Posted q t path body) a h = (refl, refl)
dry namespace leasing p before (item.Ticked q) a h = (refl, refl)
dry namespace leasing p before (item.Sent q call member t r) a h = (refl, refl)
dry namespace leasing p before (item.Closed q stream) a h = (refl, refl)
dry namespace leasing p before (item.Executed call x) a h = (refl, refl)
dry namespace leasing p before (item.Answered call) a h = (refl, refl)
dry namespace leasing p before (item.Lost call) a h = (refl, refl)
dry namespace leasing p before (item.Pushed stream i) a h = (refl, refl)
dry namespace leasing p before (item.Taken q t i) a h = (refl, refl)
dry namespace leasing p before (item.Pending q t) a h = (refl, refl)
dry namespace leasing p before (item.Left q t) a h = (refl, refl)
dry namespace leasing p before (item.Reply q t x) a h = (refl, refl)
dry namespace leasing p before (item.Body q t status text) a h = (refl, refl)
dry namespace leasing p before (item.Expired lease) a h = (refl, refl)
dry namespace leasing p before (item.Applied member revision) a h = (refl, refl)

pub dry_told : (namespace leasing : List ℕ) (p : ℕ) (items more : List Item) → list_all (is_dry p) more ≡ true → leasing_of namespace leasing p (items ++ more) ≡ leasing_of namespace leasing p items
dry_told namespace leasing p items more h = told_still p None (stream_by namespace leasing p) (is_dry p) (dry namespace leasing p) items more h

-- the stream of this number isn't the one that is told
pub delivered_other : (namespace : List ℕ) (number : ℕ) (x : Option WatchItem) (told : Option ToldStream) → ((s : ToldStream) → told ≡ Some s → (s.number == number) ≡ false) → delivered_by namespace number x told ≡ told
delivered_other namespace number x None n = refl
delivered_other namespace number x (Some s) n = ap (λ (b : Bool). cond b (numbered number (told_if namespace s.stream x)) (Some s)) (n s refl)

pub cut_other : (number : ℕ) (told : Option ToldStream) → ((s : ToldStream) → told ≡ Some s → (s.number == number) ≡ false) → cut_by number told ≡ told
cut_other number None n = refl
cut_other number (Some s) n = ap (λ (b : Bool). cond b None (Some s)) (n s refl)

pub delivered_itself : (namespace : List ℕ) (number : ℕ) (u : Upstream) (x : WatchItem) → delivered_by namespace number (Some x) (Some (record { number = number; stream = u })) ≡ numbered number (told_in u (item_without namespace x))
delivered_itself namespace number u x = ap (λ (b : Bool). cond b (numbered number (told_in u (item_without namespace x))) (Some (record { number = number; stream = u }))) (number_itself number)

pub cut_itself : (number : ℕ) (u : Upstream) → cut_by number (Some (record { number = number; stream = u })) ≡ None
cut_itself number u = ap (λ (b : Bool). cond b None (Some (record { number = number; stream = u }))) (number_itself number)

-- without a leasing stream none is told
pub none_told : (told : Option ToldStream) (streams : List OpenedStream) (p life : ℕ) (l : Option Opening) → l ≡ None → StreamTold told streams p life l → told ≡ None
none_told None streams p life l e h = refl
none_told (Some s) streams p life l e h = let k = h.told_open s refl in no_opening k.opening (sym e ∙ k.is)

-- where the stream of this number is another's, or has another number at the proxy, it isn't the one that is told
pub not_told : (told : Option ToldStream) (streams : List OpenedStream) (p life number : ℕ) (l : Option Opening) (s : OpenedStream) → nth streams number ≡ Some s → StreamTold told streams p life l
    → ((o : Opening) → l ≡ Some o → o.due ≡ None → s.proxy ≡ p → s.own ≡ o.number → ⊥) → (t : ToldStream) → told ≡ Some t → (t.number == number) ≡ false
not_told told streams p life number l s at h n t e = by (t.number == number) refl
  where
    by : (b : Bool) → (t.number == number) ≡ b → b ≡ false
    by true f =
        let k = h.told_open t e in
        let one : k.at ≡ s = some_stream k.at s (sym k.there ∙ ap (nth streams) (same_number t.number number f) ∙ at) in
        absurd (n k.opening k.is k.due (ap (λ (y : OpenedStream). y.proxy) (sym one) ∙ k.mine) (ap (λ (y : OpenedStream). y.own) (sym one) ∙ k.own))
    by false f = refl
