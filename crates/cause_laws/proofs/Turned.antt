-- A step of a proxy in a line, with the replies that are fetched behind it.
use Rattle.std.proofs.Common.{◌≡◌, ℕ, ◌==◌, Bool, true, false, not, cond, List, [], ◌∷◌, ◌++◌, append_assoc, append-nil, length, Option, None, Some, is_some, Result, Ok, Err, refl, sym, ◌∙◌, ap, subst}
use Rattle.std.specs.Prelude.{flat_map}
use Rattle.std.specs.List.{list_any}
use Rattle.std.proofs.lemmas.List.Folds.{list_any-append}
use Rattle.etcd_types.proofs.Bools.{and_first, and_second, and_both, or_second, or_none, not_true, false_not}
use Rattle.etcd_types.specs.declared.answer.Answer.{Answer}
use Rattle.read_model.specs.declared.asked.Asked.{Asked}
use Rattle.core_model.specs.declared.event.CoreEvent.{CoreEvent}
use Rattle.core_model.specs.declared.event.CoreEvent.TheVariants as event
use Rattle.core_model.specs.declared.event.Outcome.{Outcome}
use Rattle.core_model.specs.declared.event.Outcome.TheVariants as outcome
use Rattle.core_model.specs.declared.event.StepFault.{StepFault}
use Rattle.core_model.specs.declared.event.StepFault.TheVariants as fault
use Rattle.core_model.specs.declared.settings.Settings.{Settings}
use Rattle.core_model.specs.ClockWork.{is_replied, clock_work}
use Rattle.core_model.specs.Fits.{CoreOk}
use Rattle.core_model.specs.Lookups.{ask_at}
use Rattle.core_model.specs.State.{Core}
use Rattle.core_model.specs.Step.{is_worn, stepped}
use Rattle.core_model.specs.Stepped.{Stepped}
use Rattle.core_model.specs.Verdicts.{reply_of}
use Rattle.core_laws.specs.Steps.Kept.{IsHeard}
use Rattle.core_laws.proofs.Steps.Asks.{unknown}
use Rattle.core_laws.proofs.Steps.Lists.{same_number}
use Rattle.core_laws.proofs.Steps.Outcomes.{worn_does_nothing}
use Rattle.core_laws.proofs.Steps.Stepping.{steps_keep}
use Rattle.core_fits.specs.Fits.{EachOf}
use Rattle.core_fits.proofs.Ready.{nothing_ready}
use Rattle.script_text.specs.declared.item.Item.{Item}
use Rattle.world_model.specs.Gains.{Replies, all_fetched, reply_items}
use Rattle.world_model.specs.Lives.{begins, life, asked_as}
use Rattle.world_model.specs.LiveSessions.{is_step_of}
use Rattle.world_model.specs.Places.{place_at, with_place}
use Rattle.world_model.specs.State.{Place, World}
use Rattle.world_laws.proofs.Effects.{Begins, first, again}
use Rattle.held_laws.proofs.Worlds.{equal}
use Rattle.keep_laws.proofs.Rows.{All, all_kept}
use Rattle.keep_laws.proofs.Runs.{found}
use Rattle.executed_laws.proofs.Worlds.{begins_on}
use Rattle.held_laws.proofs.Items.{asked_still}
use Rattle.prefix_laws.proofs.Told.{AllItems, items-append, replies_told}
use Rattle.renewed_laws.proofs.Lives.{life_on}
use Rattle.renewed_laws.proofs.Replies.{Each}
use Rattle.renewed_laws.proofs.Rows.{Row}
use Rattle.renewed_laws.proofs.Worlds.{life_of, WorldOk}
use Rattle.reply_laws.proofs.Before.{clock_leaves}
use Rattle.cause_laws.specs.Timeouts.{none, InTime, ends_it, Awaits}
use Rattle.cause_laws.specs.Causes.{members_of}
use Rattle.cause_laws.proofs.After.{After, all_after}
use Rattle.cause_laws.proofs.Caused.{Causing, Before, Counts, caused_after, Whole, take_whole, clock_whole}
use Rattle.cause_laws.proofs.Counting.{counted_of}
use Rattle.cause_laws.proofs.Members.{clock_stays, members_stay}
use Rattle.cause_laws.proofs.Items.{stirs, Quiet, quiet-append, quiet_lives, in_time_of, in_time_on, replies_quiet}
use Rattle.cause_laws.proofs.Knows.{Knows, knows_on, fit_step, all_fetched_known}
use Rattle.cause_laws.proofs.Named.{lives_on, call_of}
use Rattle.cause_laws.proofs.AskKinds.{OfKinds, of_kinds}
use Rattle.cause_laws.proofs.Replies.{take_stands, fetched_each}
use Rattle.cause_laws.proofs.Seen.{Fit}
use Rattle.cause_laws.proofs.Standing.{Standing, StepStands, quiet_unasked, asked_before, open_before, life_more, line_stands}
use Rattle.cause_laws.proofs.Streams.{StreamsTold, same_owners, streams_on}
use Rattle.cause_laws.proofs.Turns.{OwnStep}
use Rattle.cause_laws.proofs.Waits.{Due, Timely, timely_of, Waits, often_lost, often_stale, told_after}
use Rattle.cause_laws.proofs.Known.{members_on, PlaceTold, AllDue, fit_of, waits_on, put_waits, put_counts}
use Rattle.cause_laws.proofs.Answers.{replies_all, replies_open, Tells, Both, all_due, each_both}

-- ---- a turn

pub not_worn : (c : Core) (e : CoreEvent) (now : ℕ) (o : Outcome) → (stepped c e now).outcome ≡ Ok o → is_worn c ≡ false
not_worn c e now o is = by (is_worn c) refl
  where
    by : (b : Bool) → is_worn c ≡ b → b ≡ false
    by false u = refl
    by true u = absurd (let f : ◌≡◌ {A = Result Outcome StepFault} (Err fault.Worn) (Ok o) = sym (ap (λ (s : Stepped). s.outcome) (worn_does_nothing c e now u)) ∙ is in cc)

pub none_there : (ticket : ℕ) (xs : List Asked) (a : Asked) → ask_at ticket xs ≡ Some a → EachOf (λ x. is_replied x.stage ≡ false) xs → is_replied a.stage ≡ false
none_there ticket [] a e h = absurd (cc)
none_there ticket (x ∷ xs) a e h = by (x.ticket == ticket) e (λ f. none_there ticket xs a f h.1)
  where
    by : (b : Bool) → cond b (Some x) (ask_at ticket xs) ≡ Some a → (ask_at ticket xs ≡ Some a → is_replied a.stage ≡ false) → is_replied a.stage ≡ false
    by true f more = let same : x ≡ a = cc in subst (λ (y : Asked). is_replied y.stage ≡ false) same h.0
    by false f more = more f

-- a step of the proxy in a line, with what is known of it
pub record Turning (items own : List Item) (w v : World) (p : ℕ) (x y : Place) (e : CoreEvent) (o : Outcome) (told : Replies) : Type 0 where
  pub at : place_at w p ≡ Some x
  pub is : (stepped x.core e x.clock).outcome ≡ Ok o
  pub step : OwnStep items own x.calls p e
  pub heard : IsHeard x.core e
  pub places : v.places ≡ w.places
  pub members : v.members ≡ w.members
  pub core : y.core ≡ (stepped x.core e x.clock).core
  pub clock : y.clock ≡ x.clock
  pub streams : StreamsTold (items ++ own) v.streams
  pub due : Each (λ r. Due (items ++ own) p r.0 r.1) told
  pub caused : Each (λ r. Causing w.members w.namespace w.leasing (items ++ own) p r.0 r.1) told
  pub timely : Each (λ r. Timely (items ++ own) p r.0 r.1) told
  pub tells : AllItems Tells items own
  pub knows : Knows (items ++ own) p y.calls y.core
  pub stands : StepStands items own p y.core told

-- what holds behind the step, and is kept by each fetch
abbrev pub Stands : ℕ → List ℕ → List ℕ → List Item → ℕ → ℕ → Core → Type 0
Stands members namespace prefix items p now c = (CoreOk c × (c.members.count ≡ members)) × All (Whole members namespace prefix items p now) c.asks

pub stands_on : (members : ℕ) (namespace prefix : List ℕ) (items : List Item) (p now : ℕ) (c : Core) (ticket : ℕ) → Stands members namespace prefix items p now c → Stands members namespace prefix items p now (stepped c (event.Take ticket) now).core
stands_on members namespace prefix items p now c ticket h = by (is_worn c) refl
  where
    by : (b : Bool) → is_worn c ≡ b → Stands members namespace prefix items p now (stepped c (event.Take ticket) now).core
    by true u = subst (λ (s : Stepped). Stands members namespace prefix items p now s.core) (sym (worn_does_nothing c (event.Take ticket) now u)) h
    by false u = ((steps_keep c (event.Take ticket) now tt h.0.0, members_stay c (event.Take ticket) now ∙ h.0.1), take_whole members namespace prefix items p now ticket c h.0.0 u h.1)

pub stands_due : (members : ℕ) (namespace prefix : List ℕ) (items : List Item) (p now : ℕ) (c : Core) (ticket : ℕ) (a : Answer) → Stands members namespace prefix items p now c → (stepped c (event.Take ticket) now).outcome ≡ Ok (outcome.Replied a) → Both members namespace prefix items p (ticket, a)
stands_due members namespace prefix items p now c ticket a h e =
    let s = take_stands c ticket now a e in
    let f = found (Whole members namespace prefix items p now) ticket (clock_work now c).asks s.ask s.there (clock_whole members namespace prefix items p now c h.1) in
    subst (λ (z : Answer). Both members namespace prefix items p (ticket, z)) (sym s.told) (subst (λ (n : ℕ). Both members namespace prefix items p (n, reply_of s.verdict)) (same_number s.ask.ticket ticket f.1) (f.0.told.due s.verdict s.stage, f.0.caused s.verdict s.stage, timely_of items p now s.ask f.0.told s.verdict s.stage))

pub stands_waits : (members : ℕ) (namespace prefix : List ℕ) (items : List Item) (p now : ℕ) (c : Core) → Stands members namespace prefix items p now c → Waits items p c
stands_waits members namespace prefix items p now c h ticket a f o = (found (Whole members namespace prefix items p now) ticket c.asks a f h.1).0.told.waits o

-- the proxy isn't started by its own step
pub own_lives : (items own : List Item) (numbers : List ℕ) (p : ℕ) (e : CoreEvent) → OwnStep items own numbers p e → list_any (begins p) own ≡ false
own_lives items own numbers p e s =
    ap (list_any (begins p)) s.split ∙ list_any-append (begins p) s.pre (s.step ∷ s.post)
    ∙ or_none (list_any (begins p) s.pre) (list_any (begins p) (s.step ∷ s.post)) (quiet_lives p items s.pre (s.quiet p))
    (or_none (begins p s.step) (list_any (begins p) s.post) (s.begins p) (quiet_lives p (items ++ s.pre) s.post (replies_quiet p (items ++ s.pre) s.post s.json)))

-- behind the step
pub stepped_stands : (items own : List Item) (w v : World) (p : ℕ) (x y : Place) (e : CoreEvent) (o : Outcome) (told : Replies) → WorldOk w.namespace items w → AllDue items w → Turning items own w v p x y e o told → Stands w.members w.namespace w.leasing (items ++ own) p x.clock y.core
stepped_stands items own w v p x y e o told ok h t =
    let place = ok.places p x t.at in
    let works = not_worn x.core e x.clock o t.is in
    let none = nothing_ready x.core (h.none p x t.at works) in
    let clock = (h.told.places p x t.at).clock in
    let none_is : (ticket : ℕ) (a : Asked) → ask_at ticket x.core.asks ≡ Some a → is_replied a.stage ≡ false = λ ticket a f. none_there ticket x.core.asks a f none in
    let lives = lives_on p own (own_lives items own x.calls p e t.step) in
    let kinds : OfKinds x.core x.clock = of_kinds x.core x.clock (h.kinds p x t.at).1 (h.writing p x t.at) (h.kept.fits p x t.at).read place.core in
    let before : Before w.namespace items own x.calls p x.clock x.core = record {
      named = ap (λ (s : Settings). s.namespace) (clock_leaves x.clock x.core).settings ∙ place.namespace_is;
      none = none_is;
      of = λ o y number n i. call_of items w p x ok h.kept t.at (h.waits p x t.at).knows o y number n i;
      asked = λ ticket b f.
          let row = (found (Row (life_of w.namespace w.calls items p x)) ticket x.core.asks b f place.rows).0 in
          ap (asked_as p b.ticket) (life_on p items own lives) ∙ asked_still p b.ticket (life p items) own b.request row.asked;
      reads = kinds;
    } in
    let counted = counted_of items own w p x ok h.kept t.at (h.waits p x t.at).knows kinds e t.step in
    let counts : Counts w.members items own p x.clock x.core e = record {
      members_are = clock_stays x.clock x.core ∙ h.members p x t.at;
      lost = often_lost items own x.calls p x.clock x.core e t.step clock none_is (h.waits p x t.at).waits counted;
      stale = often_stale items own x.calls p x.clock x.core e t.step clock none_is (h.waits p x t.at).waits counted;
    } in
    subst (Stands w.members w.namespace w.leasing (items ++ own) p x.clock) (sym t.core) (
      (steps_keep x.core e x.clock t.heard place.core, members_stay x.core e x.clock ∙ h.members p x t.at),
      all_kept (After x.core e x.clock) (Whole w.members w.namespace w.leasing (items ++ own) p x.clock)
          (λ z a.
          let its = told_after items own x.calls p x.clock x.core e t.step clock none_is (h.waits p x t.at).waits counted z a in
          record { told = its; caused = caused_after w.members w.namespace w.leasing items own x.calls p x.clock x.core e t.step before counts z its a })
          (stepped x.core e x.clock).core.asks (all_after x.core e x.clock place.core works),
    )

-- others do nothing
pub own_quiet : (items own : List Item) (numbers : List ℕ) (p : ℕ) (e : CoreEvent) (q : ℕ) → (q == p) ≡ false → OwnStep items own numbers p e → Quiet q items own
own_quiet items own numbers p e q n s =
    subst (Quiet q items) (sym s.split)
    (quiet-append q items s.pre (s.step ∷ s.post) (s.quiet q)
    (and_both (not (stirs q (items ++ s.pre) s.step)) (none (stirs q) ((items ++ s.pre) ++ s.step ∷ []) s.post) (false_not (stirs q (items ++ s.pre) s.step) (or_none (begins q s.step) (is_step_of q (items ++ s.pre) s.step) (s.begins q) (s.others q n)))
    (replies_quiet q ((items ++ s.pre) ++ s.step ∷ []) s.post s.json)))

-- what each step of a proxy tells of the requests that wait there
abbrev pub Rests : List Item → Item → Type 0
Rests before i = (p ticket : ℕ) → is_step_of p before i ≡ true → Awaits before p ticket → InTime before p ticket

-- what the turn leaves
pub record Leaves (w : World) (items gained : List Item) (after : World) : Type 0 where
  pub streams : StreamsTold (items ++ gained) after.streams
  pub waits : (q : ℕ) (y : Place) → place_at after q ≡ Some y → PlaceTold (items ++ gained) q y
  pub tells : AllItems Tells items gained
  pub rests : AllItems Rests items gained
  pub members : after.members ≡ w.members
  pub counts : (q : ℕ) (y : Place) → place_at after q ≡ Some y → y.core.members.count ≡ w.members

pub no_step : {A : Type 0} (b : Bool) → b ≡ false → b ≡ true → A
no_step b n e = absurd (let f : true ≡ false = sym e ∙ n in cc)

pub quiet_rests : (items more : List Item) → ((q : ℕ) → Quiet q items more) → AllItems Rests items more
quiet_rests items [] quiet = tt
quiet_rests items (i ∷ more) quiet = (
  λ q ticket steps a. no_step (is_step_of q items i) (or_second (begins q i) (is_step_of q items i) (not_true (stirs q items i) (and_first (not (stirs q items i)) (none (stirs q) (items ++ i ∷ []) more) (quiet q)))) steps,
  quiet_rests (items ++ i ∷ []) more (λ q. and_second (not (stirs q items i)) (none (stirs q) (items ++ i ∷ []) more) (quiet q)),
)

-- a request that waits stands at its proxy
pub rests_at : (items : List Item) (w : World) (p : ℕ) (x : Place) → WorldOk w.namespace items w → AllDue items w → place_at w p ≡ Some x → is_worn x.core ≡ false → (ticket : ℕ) → Awaits items p ticket → InTime items p ticket
rests_at items w p x ok h at works ticket a = by (ask_at ticket x.core.asks) refl
  where
    all_unit : (xs : List Asked) → All (λ z. Unit {0}) xs
    all_unit [] = tt
    all_unit (z ∷ zs) = (tt, all_unit zs)

    by : (o : Option Asked) → ask_at ticket x.core.asks ≡ o → InTime items p ticket
    by None e = absurd (let f : true ≡ false = sym ((h.waits p x at).stands ticket a.asked a.was_asked a.calls a.unended) ∙ unknown ticket x.core.asks (ap is_some e) in cc)
    by (Some y) e =
        let told = (h.waits p x at).waits ticket y e (none_there ticket x.core.asks y e (nothing_ready x.core (h.none p x at works))) in
        let its : y.ticket ≡ ticket = same_number y.ticket ticket (found (λ z. Unit {0}) ticket x.core.asks y e (all_unit x.core.asks)).1 in
        subst (λ (n : ℕ). InTime items p n) its (in_time_of items p y.ticket y.request y.asked y.losses y.stales told)

-- the line's own step
pub own_rests : (items own : List Item) (w : World) (p : ℕ) (x : Place) (e : CoreEvent) (o : Outcome) → WorldOk w.namespace items w → AllDue items w → place_at w p ≡ Some x → (stepped x.core e x.clock).outcome ≡ Ok o → OwnStep items own x.calls p e → AllItems Rests items own
own_rests items own w p x e o ok h at is s =
    subst (AllItems Rests items) (sym s.split)
    (items-append Rests items s.pre (s.step ∷ s.post) (quiet_rests items s.pre s.quiet)
    (here, quiet_rests ((items ++ s.pre) ++ s.step ∷ []) s.post (λ q. replies_quiet q ((items ++ s.pre) ++ s.step ∷ []) s.post s.json)))
  where
    works : is_worn x.core ≡ false
    works = not_worn x.core e x.clock o is

    before : (ticket : ℕ) → Awaits (items ++ s.pre) p ticket → Awaits items p ticket
    before ticket a =
        let same = life_more p items s.pre (quiet_lives p items s.pre (s.quiet p)) in
        record {
          asked = a.asked;
          was_asked = asked_before p ticket (life p items) s.pre a.asked (quiet_unasked p ticket items s.pre (s.quiet p)) (sym (ap (asked_as p ticket) same) ∙ a.was_asked);
          calls = a.calls;
          unended = open_before p ticket (life p items) s.pre (sym (ap (list_any (ends_it p ticket)) same) ∙ a.unended);
        }

    here : Rests (items ++ s.pre) s.step
    here q ticket steps a = by (q == p) refl
      where
        by : (b : Bool) → (q == p) ≡ b → InTime (items ++ s.pre) q ticket
        by false n = no_step (is_step_of q (items ++ s.pre) s.step) (s.others q n) steps
        by true n =
            let there : q ≡ p = equal q p n in
            subst (λ (j : ℕ). InTime (items ++ s.pre) j ticket) (sym there)
            (in_time_on items s.pre p ticket (s.quiet p) (rests_at items w p x ok h at works ticket (before ticket (subst (λ (j : ℕ). Awaits (items ++ s.pre) j ticket) there a))))

pub start_rests : (items : List Item) (w : World) (p clock life' : ℕ) (i : Item) → Begins w p clock life' i → AllItems Rests items (i ∷ [])
start_rests items w p _ _ _ (first e) = (λ q ticket steps a. absurd (let f : false ≡ true = steps in cc), tt)
start_rests items w p _ _ _ (again x e) = (λ q ticket steps a. absurd (let f : false ≡ true = steps in cc), tt)

pub turn_leaves : (items own : List Item) (w v : World) (p : ℕ) (x y : Place) (e : CoreEvent) (o : Outcome) (told : Replies) → WorldOk w.namespace items w → AllDue items w → Turning items own w v p x y e o told
    → let f = all_fetched y told in Leaves w items (own ++ flat_map (reply_items p f.place.posted) f.replies) (with_place v p f.place)
turn_leaves items own w v p x y e o told ok h t =
    let f = all_fetched y told in
    let rest = flat_map (reply_items p f.place.posted) f.replies in
    let stood = stepped_stands items own w v p x y e o told ok h t in
    let ns = w.namespace in
    let ms = w.members in
    let pre = w.leasing in
    let both = fetched_each (Both ms ns pre (items ++ own) p) (Stands ms ns pre (items ++ own) p x.clock) x.clock (λ c ticket k. stands_on ms ns pre (items ++ own) p x.clock c ticket k) (λ c ticket a k g. stands_due ms ns pre (items ++ own) p x.clock c ticket a k g) (length y.core.asks) y told t.clock stood
    (each_both ms ns pre (items ++ own) p told t.due t.caused t.timely) in
    let quiet : (q : ℕ) → Quiet q (items ++ own) rest = λ q. replies_quiet q (items ++ own) rest (replies_all p f.place.posted f.replies) in
    let same : (items ++ own) ++ rest ≡ items ++ (own ++ rest) = append_assoc items own rest in
    record {
      members = t.members;
      counts = put_counts w v p f.place t.places h.members both.0.0.1;
      streams = subst (λ (xs : List Item). StreamsTold xs v.streams) same (streams_on (items ++ own) rest v.streams v.streams (replies_open p f.place.posted f.replies) (same_owners v.streams) t.streams);
      waits = put_waits items (own ++ rest) w v p f.place t.places (λ q n. quiet-append q items own rest (own_quiet items own x.calls p e q n t.step) (quiet q)) h.waits
          (subst (λ (xs : List Item). PlaceTold xs p f.place) same (record {
            waits = waits_on (items ++ own) rest p f.place.core (quiet p) (stands_waits ms ns pre (items ++ own) p x.clock f.place.core both.0);
            knows = knows_on (items ++ own) rest p f.place.calls f.place.core (quiet_lives p (items ++ own) rest (quiet p))
                (all_fetched_known (items ++ own) p y told (subst Fit (sym t.core) (fit_step x.core e x.clock t.heard (fit_of items w p x ok h t.at))) t.knows);
            stands = subst (λ (xs : List Item). Standing xs p f.place.core) (sym same) (line_stands items own p y told (own_lives items own x.calls p e t.step) t.stands (quiet p));
          }));
      rests = items-append Rests items own rest (own_rests items own w p x e o ok h t.at t.is t.step) (quiet_rests (items ++ own) rest quiet);
      tells = items-append Tells items own rest t.tells
          (subst (λ (xs : List Item). AllItems Tells xs rest) (append-nil (items ++ own))
          (replies_told Tells (items ++ own) p f.place.posted (λ told ticket status text all. tt) [] f.replies refl (all_due ms ns pre (items ++ own) p (begins_on items own ns pre h.kept.sent.begins) (λ more. ap members_of (append_assoc items own more) ∙ members_on items (own ++ more) w h.first) f.replies both.1)));
    }
