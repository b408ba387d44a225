-- The replies that are told behind a step: each ok one was given by the step itself, or stood ready behind it.
use Rattle.std.proofs.Common.{◌≡◌, ℕ, zero, suc, List, [], ◌∷◌, length, Option, None, Some, Result, Ok, Err, refl, sym, ◌∙◌, ap, subst}
use Rattle.std.specs.declared.cmp.Ordering.{Ordering}
use Rattle.std.specs.declared.cmp.Ordering.TheVariants.{Less, Equal, Greater}
use Rattle.std.specs.FinMap.{put, nat_cmp-IsAntisymmetric}
use Rattle.std.specs.FinMap.Entries.{by_order}
use Rattle.std.specs.Ordering.{nat_cmp}
use Rattle.etcd_types.specs.declared.answer.Answer.{Answer}
use Rattle.etcd_types.specs.declared.answer.Answer.TheVariants.{Done}
use Rattle.etcd_types.specs.declared.answer.Reply.{Reply}
use Rattle.etcd_types.specs.declared.request.Request.{Request}
use Rattle.read_model.specs.declared.asked.Asked.{Asked}
use Rattle.core_model.specs.declared.event.CoreEvent.{CoreEvent}
use Rattle.core_model.specs.declared.event.CoreEvent.TheVariants as event
use Rattle.core_model.specs.declared.event.Outcome.{Outcome}
use Rattle.core_model.specs.declared.event.Outcome.TheVariants as outcome
use Rattle.core_model.specs.declared.event.StepFault.{StepFault}
use Rattle.core_model.specs.declared.out_call.OutCall.{OutCall}
use Rattle.core_model.specs.Fits.{CoreOk}
use Rattle.core_model.specs.Lookups.{ask_at}
use Rattle.core_model.specs.State.{Core}
use Rattle.core_model.specs.Step.{stepped}
use Rattle.core_model.specs.Takes.{ready}
use Rattle.core_laws.proofs.Steps.Lists.{same_number}
use Rattle.core_laws.proofs.Steps.Stepping.{steps_keep}
use Rattle.keep_laws.proofs.Rows.{All}
use Rattle.keep_laws.proofs.Runs.{found}
use Rattle.world_model.specs.Gains.{Replies, with_reply, fetched_as, fetched_if, fetched, all_fetched}
use Rattle.world_model.specs.Places.{place_at, with_core}
use Rattle.world_model.specs.State.{Place, World, word}
use Rattle.script_text.specs.declared.item.Item.{Item}
use Rattle.core_laws.specs.Steps.Kept.{HeardBytes, IsHeard}
use Rattle.core_model.specs.Heard.{heard}
use Rattle.world_laws.proofs.Effects.{Turn, ticks, asks_it, posts_it, calls, opens, closes, answers, loses, delivers, cuts, takes, waits, leaves}
use Rattle.renewed_laws.proofs.Gains.{stepped_to}
use Rattle.renewed_laws.proofs.Worlds.{WorldOk}
use Rattle.prefix_laws.specs.Comes.{IsReady, Comes, AllCome, ToldRepliesCome, AskedReplyComes}
use Rattle.prefix_laws.specs.Comes as comes
use Rattle.reply_laws.specs.Sources as sources
use Rattle.reply_laws.specs.Sources.{Stood, Hears, Decides, wins, settles, Source, Given}
use Rattle.reply_laws.proofs.Given.{given_have_sources}
use Rattle.reply_laws.proofs.Sources.{replies_have_sources}

-- what is ready in this proxy was ready in that one
abbrev Back : Core → Core → Type 0
Back d c = (ticket : ℕ) (reply : Reply) → IsReady c ticket reply → IsReady d ticket reply

-- a fetch hears no answer
fetch_hears : {A : Type 0} (c : Core) (ticket : ℕ) (o : OutCall) (a : Answer) → Hears c (event.Take ticket) o a → A
fetch_hears c ticket o a h = absurd (let e = h.event in cc)

fetch_decides : {A : Type 0} (c : Core) (ticket now : ℕ) (g : Rattle.read_model.specs.State.Ground) → Decides c (event.Take ticket) now g → A
fetch_decides c ticket now g (wins o h) = fetch_hears c ticket o (Done h.reply) h.hears
fetch_decides c ticket now g (settles o h) = fetch_hears c ticket o h.heard h.hears

-- so what stands ready behind it stood so before
stood_before : (c : Core) (ticket now : ℕ) (a : Asked) (reply : Reply) → Source c (event.Take ticket) now a reply → IsReady c a.ticket reply
stood_before c ticket now a reply (sources.stood s) = record { ask = s.before; there = s.there; stage = s.stage }
stood_before c ticket now a reply (sources.called o k j s h) = fetch_hears c ticket o (Done reply) h
stood_before c ticket now a reply (sources.acquired o answer claim j s h f r) = fetch_hears c ticket o (Done answer) h
stood_before c ticket now a reply (sources.wrote o answer w j s h f n r) = fetch_hears c ticket o (Done answer) h
stood_before c ticket now a reply (sources.shared o lease j s h) = fetch_hears c ticket o (Done reply) h
stood_before c ticket now a reply (sources.cached s g w t d h) = fetch_decides c ticket now g d

ask_ticket : (ticket : ℕ) (xs : List Asked) (a : Asked) → ask_at ticket xs ≡ Some a → a.ticket ≡ ticket
ask_ticket ticket xs a e = same_number a.ticket ticket (found (λ x. Unit {0}) ticket xs a e (every xs)).1
  where
    every : (ys : List Asked) → All (λ x. Unit {0}) ys
    every [] = tt
    every (y ∷ ys) = (tt, every ys)

fetch_back : (d c : Core) (ticket now : ℕ) → CoreOk c → Back d c → Back d (stepped c (event.Take ticket) now).core
fetch_back d c ticket now ok b t reply r =
    let s = stood_before c ticket now r.ask reply (replies_have_sources c (event.Take ticket) now t r.ask reply ok r.there r.stage) in
    b t reply (subst (λ (n : ℕ). IsReady c n reply) (ask_ticket t (stepped c (event.Take ticket) now).core.asks r.ask r.there) s)

same_ticket : (a b : ℕ) → event.Take a ≡ event.Take b → a ≡ b
same_ticket a b e = cc

take_no_ask : {A : Type 0} (a ticket word : ℕ) (q : Request) → event.Take a ≡ event.Ask ticket q word → A
take_no_ask a ticket word q e = absurd (cc)

-- the reply that a fetch gives
given_back : (c : Core) (ticket now : ℕ) (reply : Reply) → Given c (event.Take ticket) now reply → IsReady c ticket reply
given_back c ticket now reply (sources.taken a e f s) = subst (λ (n : ℕ). IsReady c n reply) (sym (same_ticket ticket a.ticket e)) (record { ask = a; there = f; stage = s })
given_back c ticket now reply (sources.held t q s p h) = take_no_ask ticket t s.word q s.event
given_back c ticket now reply (sources.snapshot t q b s w l f r) = take_no_ask ticket t s.word q s.event

come_put : (c : Core) (e : CoreEvent) (now ticket : ℕ) (a : Answer) (rs : Replies) → ((reply : Reply) → a ≡ Done reply → Comes c e now ticket reply) → AllCome c e now rs → AllCome c e now (with_reply ticket a rs)
come_put c e now ticket a [] h t = (h, tt)
come_put c e now ticket a (r ∷ rs) h t = by (nat_cmp ticket r.0) refl (come_put c e now ticket a rs h t.1)
  where
    by : (o : Ordering) → nat_cmp ticket r.0 ≡ o → AllCome c e now (put nat_cmp ticket a rs) → AllCome c e now (by_order o ((ticket, a) ∷ r ∷ rs) ((r.0, a) ∷ rs) (r ∷ put nat_cmp ticket a rs))
    by Less f k = (h, t)
    by Equal f k = (λ reply is. subst (λ (n : ℕ). Comes c e now n reply) (nat_cmp-IsAntisymmetric ticket r.0 f) (h reply is), t.1)
    by Greater f k = (t.0, k)

fetched_come : (c : Core) (e : CoreEvent) (now : ℕ) (n : ℕ) (x : Place) (got : Replies) → CoreOk x.core → Back (stepped c e now).core x.core → AllCome c e now got → AllCome c e now (fetched n x got).replies
fetched_come c e now zero x got ok b t = t
fetched_come c e now (suc n) x got ok b t = by (ready x.core) (λ y g k u v. fetched_come c e now n y g k u v)
  where
    by_outcome : (ticket : ℕ) (y : Place) (r : Result Outcome StepFault) → (stepped x.core (event.Take ticket) x.clock).outcome ≡ r → CoreOk y.core → Back (stepped c e now).core y.core
        → ((y : Place) (g : Replies) → CoreOk y.core → Back (stepped c e now).core y.core → AllCome c e now g → AllCome c e now (fetched n y g).replies)
        → AllCome c e now (fetched_as (fetched n) y ticket got r).replies
    by_outcome ticket y (Ok (outcome.Replied a)) f k u more =
        more y (with_reply ticket a got) k u
        (come_put c e now ticket a got (λ reply is. comes.fetched (b ticket reply (given_back x.core ticket x.clock reply (given_have_sources x.core (event.Take ticket) x.clock reply ok (f ∙ ap (λ (z : Answer). Ok (outcome.Replied z)) is))))) t)
    by_outcome ticket y (Ok outcome.Waiting) f k u more = t
    by_outcome ticket y (Ok outcome.Pending) f k u more = t
    by_outcome ticket y (Ok outcome.Noted) f k u more = t
    by_outcome ticket y (Ok (outcome.Item i)) f k u more = t
    by_outcome ticket y (Ok (outcome.Job j)) f k u more = t
    by_outcome ticket y (Err g) f k u more = t

    by : (o : Option ℕ)
        → ((y : Place) (g : Replies) → CoreOk y.core → Back (stepped c e now).core y.core → AllCome c e now g → AllCome c e now (fetched n y g).replies)
        → AllCome c e now (fetched_if (fetched n) x got o).replies
    by None more = t
    by (Some ticket) more =
        by_outcome ticket (with_core x (stepped x.core (event.Take ticket) x.clock).core) (stepped x.core (event.Take ticket) x.clock).outcome refl (steps_keep x.core (event.Take ticket) x.clock tt ok)
        (fetch_back (stepped c e now).core x.core ticket x.clock ok b) more

pub told_come : ToldRepliesCome
told_come c e now z given ok same t =
    fetched_come c e now (length z.core.asks) z given (subst CoreOk (sym same) ok) (subst (λ (d : Core). Back (stepped c e now).core d) (sym same) (λ ticket reply r. r)) t

pub asked_comes : AskedReplyComes
asked_comes c now ticket q word (outcome.Replied a) e = (λ reply is. comes.at_once q word refl (e ∙ ap (λ (z : Answer). Ok (outcome.Replied z)) is), tt)
asked_comes c now ticket q word outcome.Waiting e = tt
asked_comes c now ticket q word outcome.Pending e = tt
asked_comes c now ticket q word outcome.Noted e = tt
asked_comes c now ticket q word (outcome.Item i) e = tt
asked_comes c now ticket q word (outcome.Job j) e = tt

-- ---- a turn of a proxy in a world

-- what comes to it is made of bytes
pub turn_heard : (namespace : List ℕ) (items : List Item) (w : World) (p : ℕ) (x : Place) (e : CoreEvent) (o : Outcome) (v : World) (y : Place) (own : List Item) (told : Replies) → WorldOk namespace items w → place_at w p ≡ Some x
    → Turn w p (stepped_to x e) e o v y own told → IsHeard x.core e
turn_heard namespace items w p x _ _ _ _ _ _ h at (answers number call a o there is) = subst (λ (n : List ℕ). HeardBytes (heard n a)) (sym (h.places p x at).namespace_is) ((h.calls number call there).heard a is)
turn_heard namespace items w p x _ _ _ _ _ _ h at (ticks o) = tt
turn_heard namespace items w p x _ _ _ _ _ _ h at (asks_it ticket q o n) = tt
turn_heard namespace items w p x _ _ _ _ _ _ h at (posts_it ticket path body q o n) = tt
turn_heard namespace items w p x _ _ _ _ _ _ h at (calls own member ticket q) = tt
turn_heard namespace items w p x _ _ _ _ _ _ h at (opens own member ask) = tt
turn_heard namespace items w p x _ _ _ _ _ _ h at (closes own number e) = tt
turn_heard namespace items w p x _ _ _ _ _ _ h at (loses number call o e) = tt
turn_heard namespace items w p x _ _ _ _ _ _ h at (delivers number s i more o a b c d e) = tt
turn_heard namespace items w p x _ _ _ _ _ _ h at (cuts number s o a b c d) = tt
turn_heard namespace items w p x _ _ _ _ _ _ h at (takes ticket i) = tt
turn_heard namespace items w p x _ _ _ _ _ _ h at (waits ticket o n) = tt
turn_heard namespace items w p x _ _ _ _ _ _ h at (leaves ticket o) = tt

turn_core : (w : World) (p : ℕ) (x : Place) (e : CoreEvent) (o : Outcome) (v : World) (y : Place) (own : List Item) (told : Replies) → Turn w p x e o v y own told → y.core ≡ x.core
turn_core w p x _ _ _ _ _ _ (ticks o) = refl
turn_core w p x _ _ _ _ _ _ (asks_it ticket q o n) = refl
turn_core w p x _ _ _ _ _ _ (posts_it ticket path body q o n) = refl
turn_core w p x _ _ _ _ _ _ (calls own member ticket q) = refl
turn_core w p x _ _ _ _ _ _ (opens own member ask) = refl
turn_core w p x _ _ _ _ _ _ (closes own number e) = refl
turn_core w p x _ _ _ _ _ _ (answers number call a o e k) = refl
turn_core w p x _ _ _ _ _ _ (loses number call o e) = refl
turn_core w p x _ _ _ _ _ _ (delivers number s i more o a b c d e) = refl
turn_core w p x _ _ _ _ _ _ (cuts number s o a b c d) = refl
turn_core w p x _ _ _ _ _ _ (takes ticket i) = refl
turn_core w p x _ _ _ _ _ _ (waits ticket o n) = refl
turn_core w p x _ _ _ _ _ _ (leaves ticket o) = refl

turn_given : (w : World) (p : ℕ) (x : Place) (e : CoreEvent) (o : Outcome) (v : World) (y : Place) (own : List Item) (told : Replies) → (stepped x.core e x.clock).outcome ≡ Ok o → Turn w p (stepped_to x e) e o v y own told
    → AllCome x.core e x.clock told
turn_given w p x _ _ _ _ _ _ is (asks_it ticket q o n) = asked_comes x.core x.clock ticket q (word w) o is
turn_given w p x _ _ _ _ _ _ is (posts_it ticket path body q o n) = asked_comes x.core x.clock ticket q (word w) o is
turn_given w p x _ _ _ _ _ _ is (ticks o) = tt
turn_given w p x _ _ _ _ _ _ is (calls own member ticket q) = tt
turn_given w p x _ _ _ _ _ _ is (opens own member ask) = tt
turn_given w p x _ _ _ _ _ _ is (closes own number e) = tt
turn_given w p x _ _ _ _ _ _ is (answers number call a o e k) = tt
turn_given w p x _ _ _ _ _ _ is (loses number call o e) = tt
turn_given w p x _ _ _ _ _ _ is (delivers number s i more o a b c d e) = tt
turn_given w p x _ _ _ _ _ _ is (cuts number s o a b c d) = tt
turn_given w p x _ _ _ _ _ _ is (takes ticket i) = tt
turn_given w p x _ _ _ _ _ _ is (waits ticket o n) = tt
turn_given w p x _ _ _ _ _ _ is (leaves ticket o) = tt

-- all replies of the line come of its step
pub turn_comes : (namespace : List ℕ) (items : List Item) (w : World) (p : ℕ) (x : Place) (e : CoreEvent) (o : Outcome) (v : World) (y : Place) (own : List Item) (told : Replies) → WorldOk namespace items w → place_at w p ≡ Some x
    → (stepped x.core e x.clock).outcome ≡ Ok o → Turn w p (stepped_to x e) e o v y own told → AllCome x.core e x.clock (all_fetched y told).replies
turn_comes namespace items w p x e o v y own told h at is t =
    told_come x.core e x.clock y told (steps_keep x.core e x.clock (turn_heard namespace items w p x e o v y own told h at t) (h.places p x at).core) (turn_core w p (stepped_to x e) e o v y own told t) (turn_given w p x e o v y own told is t)
