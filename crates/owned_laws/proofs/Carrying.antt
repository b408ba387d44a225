-- Calls go on where more are sent and one is settled; what is kept of each proxy, and its rescinds that are out.
use Rattle.std.proofs.Common.{◌≡◌, ℕ, ◌==◌, ◌<◌, ◌≤◌, Bool, true, false, ◌||◌, List, [], ◌∷◌, ◌++◌, Option, Some, refl, sym, ◌∙◌, ap, arith}
use Rattle.proxy_model.specs.Keyed.{at}
use Rattle.wait_model.specs.declared.wait.WaitCall.{WaitCall}
use Rattle.wait_model.specs.declared.wait.WaitJob.{WaitJob}
use Rattle.wait_model.specs.declared.wait.WaitJob.TheVariants as wait
use Rattle.core_model.specs.State.{Core}
use Rattle.core_fits.specs.Fits.{EachOf}
use Rattle.core_laws.proofs.Steps.Lists.{same_number}
use Rattle.step_moves.proofs.Walk.{CoreFit}
use Rattle.script_text.specs.declared.item.Item.{Item}
use Rattle.world_model.specs.declared.sent_call.SentCall.{SentCall}
use Rattle.world_model.specs.Places.{nth, with_nth, place_at}
use Rattle.world_model.specs.State.{Place, World}
use Rattle.held_laws.proofs.Kept.{nth_itself, nth_other}
use Rattle.session_laws.proofs.Lists.{nth_front}
use Rattle.owned_laws.specs.Owned.{Owning, asks, sends, owns, write_asked, write_sent, owner_key, gave_up}
use Rattle.owned_laws.specs.Watched.{AllSpare}
use Rattle.owned_laws.proofs.Cores.{CoreSo}
use Rattle.owned_laws.proofs.Kept.{HasCall, Kept, KeysOk, Rescinded, OutsOk}
use Rattle.owned_laws.proofs.Late.{all_before}
use Rattle.owned_laws.proofs.Ways.{OfRescind, JobSo, CallSo, plain}

pub no_true : {A : Type 0} → false ≡ true → A
no_true e = absurd (cc)

pub some_number : (a b : ℕ) → ◌≡◌ {A = Option ℕ} (Some a) (Some b) → a ≡ b
some_number a b e = cc

pub some_call : (a b : SentCall) → Some a ≡ Some b → a ≡ b
some_call a b e = cc

-- ---- calls go on

pub record GoesAs (after : List SentCall) (number : ℕ) (call : SentCall) : Type 0 where
  pub next : SentCall
  pub is : nth after number ≡ Some next
  pub own : next.own ≡ call.own
  pub proxy : next.proxy ≡ call.proxy
  pub life : next.life ≡ call.life

abbrev pub Carry : List SentCall → List SentCall → Type 0
Carry before after = (number : ℕ) (call : SentCall) → nth before number ≡ Some call → GoesAs after number call

pub carry_itself : (all : List SentCall) → Carry all all
carry_itself all number call e = record { next = call; is = e; own = refl; proxy = refl; life = refl }

pub carry_pushed : (all : List SentCall) (c : SentCall) → Carry all (all ++ c ∷ [])
carry_pushed all c number call e = record { next = call; is = nth_front all c number call e; own = refl; proxy = refl; life = refl }

pub carry_changed : (all : List SentCall) (number : ℕ) (s t : SentCall) → nth all number ≡ Some s → t.own ≡ s.own → t.proxy ≡ s.proxy → t.life ≡ s.life → Carry all (with_nth all number t)
carry_changed all number s t at a b c n call e = by (n == number) refl
  where
    by : (d : Bool) → (n == number) ≡ d → GoesAs (with_nth all number t) n call
    by true f =
        let is = same_number n number f in
        let one : s ≡ call = some_call s call (sym at ∙ ap (nth all) (sym is) ∙ e) in
        record {
          next = t;
          is = ap (nth (with_nth all number t)) is ∙ nth_itself all number s t at;
          own = a ∙ ap (λ (y : SentCall). y.own) one;
          proxy = b ∙ ap (λ (y : SentCall). y.proxy) one;
          life = c ∙ ap (λ (y : SentCall). y.life) one;
        }
    by false f = record { next = call; is = nth_other all number n s t at f ∙ e; own = refl; proxy = refl; life = refl }

pub call_on : (before after : List SentCall) (p life number own : ℕ) → Carry before after → HasCall before p life number own → HasCall after p life number own
call_on before after p life number own c h = let g = c number h.call h.there in record { call = g.next; there = g.is; own_is = g.own ∙ h.own_is; mine = g.proxy ∙ h.mine; lives = g.life ∙ h.lives }

pub less_later : (a b c : ℕ) → a < b → b ≤ c → a < c
less_later a b c h k = omega (arith, h, k)

-- where the core stays, and its clock doesn't go back
pub kept_on : (before after : List SentCall) (bound next p life now later : ℕ) (k : List ℕ) (t : ℕ) (o : Owning) (c : Core) → Carry before after → bound ≤ next → now ≤ later → Kept before bound p life now k t o c → Kept after next p life later k t o c
kept_on before after bound next p life now later k t (asks vs) c g l u h = record { clients = h.clients; so = λ e. h.so (all_before now later vs u e) }
kept_on before after bound next p life now later k t (sends number n vs) c g l u h = record {
  own = h.own;
  call = call_on before after p life number h.own g h.call;
  below = less_later n bound next h.below l;
  clients = h.clients;
  so = λ e. h.so (all_before now later vs u e);
}
kept_on before after bound next p life now later k t (owns n create) c g l u h = (less_later n bound next h.0 l, h.1)
kept_on before after bound next p life now later k t (write_asked n create v vs) c g l u h = record { below = less_later n bound next h.below l; clients = h.clients; so = λ e. h.so (all_before now later (v ∷ vs) u e) }
kept_on before after bound next p life now later k t (write_sent n create v vs number) c g l u h = record {
  own = h.own;
  call = call_on before after p life number h.own g h.call;
  below = less_later n bound next h.below l;
  clients = h.clients;
  so = λ e. h.so (all_before now later (v ∷ vs) u e);
}

-- ---- of one proxy

pub record ProxyOwned (namespace leasing : List ℕ) (bound : ℕ) (items : List Item) (all : List SentCall) (p : ℕ) (x : Place) : Type 0 where
  -- entries stand in the order of their keys
  pub order : CoreFit x.core.own.waits.prefix x.core
  pub outs : OutsOk namespace leasing items p x.core
  pub keys : KeysOk namespace leasing bound all items p x.life x.clock x.core

abbrev pub AllOwned : List Item → World → ℕ → Type 0
AllOwned items w bound = (p : ℕ) (x : Place) → place_at w p ≡ Some x → ProxyOwned w.namespace w.leasing bound items w.calls p x

pub gave_front : (owner : List ℕ) (create p : ℕ) (xs ys : List Item) → gave_up owner create p xs ≡ true → gave_up owner create p (xs ++ ys) ≡ true
gave_front owner create p [] ys h = no_true h
gave_front owner create p (x ∷ xs) ys h = by (told_gives x) h (gave_front owner create p xs ys)
  where
    told_gives : Item → Bool
    told_gives i = Rattle.owned_laws.specs.Owned.gives_up owner create p i

    by : (b : Bool) → b || gave_up owner create p xs ≡ true → (gave_up owner create p xs ≡ true → gave_up owner create p (xs ++ ys) ≡ true) → b || gave_up owner create p (xs ++ ys) ≡ true
    by true f g = refl
    by false f g = g f

pub gave_back : (owner : List ℕ) (create p : ℕ) (xs ys : List Item) → gave_up owner create p ys ≡ true → gave_up owner create p (xs ++ ys) ≡ true
gave_back owner create p [] ys h = h
gave_back owner create p (x ∷ xs) ys h = by (Rattle.owned_laws.specs.Owned.gives_up owner create p x) (gave_back owner create p xs ys h)
  where
    by : (b : Bool) → gave_up owner create p (xs ++ ys) ≡ true → b || gave_up owner create p (xs ++ ys) ≡ true
    by true g = refl
    by false g = g

pub each_map : (T U : OfRescind) → ((call : ℕ) (j : List ℕ) (create : ℕ) → T call j create → U call j create) → (xs : List WaitCall) → EachOf (CallSo T) xs → EachOf (CallSo U) xs
each_map T U f [] h = tt
each_map T U f (x ∷ xs) h = (by x.job h.0, each_map T U f xs h.1)
  where
    by : (j : WaitJob) → JobSo T x.call j → JobSo U x.call j
    by (wait.Rescind j create) g = f x.call j create g
    by (wait.Revoke j) g = tt
    by wait.Write g = tt

pub outs_more : (namespace leasing : List ℕ) (items more : List Item) (p : ℕ) (xs : List WaitCall) → EachOf (CallSo (Rescinded namespace leasing items p)) xs → EachOf (CallSo (Rescinded namespace leasing (items ++ more) p)) xs
outs_more namespace leasing items more p xs h =
    each_map (Rescinded namespace leasing items p) (Rescinded namespace leasing (items ++ more) p) (λ call j create g. gave_front (owner_key namespace leasing j) create p items more g) xs h

-- watched for nothing but the rescinds that are out
pub plain_so : (T : OfRescind) (c : Core) → EachOf (CallSo T) c.own.waits.out → CoreSo (plain [] T) c
plain_so T c h = λ s i. (record { case = tt; outs = h; there = tt; over = λ y. no_true y; mark = λ y. no_true y; entry = λ y. no_true y }, tt)

pub unwatched : (k leasing : List ℕ) (es : List Rattle.etcd_types.specs.declared.watch.Event.Event) → AllSpare k false false 0 leasing es
unwatched k leasing [] = tt
unwatched k leasing (e ∷ es) = (by e.change, unwatched k leasing es)
  where
    by : (x : Rattle.etcd_types.specs.declared.watch.Change.Change) → Rattle.owned_laws.specs.Watched.Spares k false false 0 leasing x
    by (Rattle.etcd_types.specs.declared.watch.Change.TheVariants.Put kv) = λ y. no_true y
    by (Rattle.etcd_types.specs.declared.watch.Change.TheVariants.Delete j revision) = λ y. no_true y
