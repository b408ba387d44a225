-- What is known of each request of a proxy, by its stage: that it was asked; and of a keepalive, where a call is out for it, that the call was
-- sent behind it, and where it was replied, that it was answered so.
use Rattle.std.proofs.Common.{◌≡◌, ℕ, true, List, [], ◌∷◌, ◌++◌, append_assoc, Option, None, Some, Result, Ok, refl, sym, ◌∙◌, ap, subst}
use Rattle.etcd_types.specs.declared.answer.Answer.{Answer}
use Rattle.etcd_types.specs.declared.answer.Answer.TheVariants.{Done, Refused}
use Rattle.etcd_types.specs.declared.request.Request.{Request}
use Rattle.etcd_types.specs.declared.request.Request.TheVariants as request
use Rattle.wait_model.specs.declared.sending.Sending.TheVariants as sending
use Rattle.read_model.specs.declared.asked.Asked.{Asked}
use Rattle.read_model.specs.declared.asked.Stage.{Stage}
use Rattle.read_model.specs.declared.asked.Stage.TheVariants as stage
use Rattle.read_model.specs.declared.asked.Verdict.TheVariants as verdict
use Rattle.core_model.specs.declared.event.CoreEvent.{CoreEvent}
use Rattle.core_model.specs.declared.event.Job.TheVariants as job
use Rattle.core_model.specs.declared.event.Outcome.{Outcome}
use Rattle.core_model.specs.declared.event.Outcome.TheVariants as outcome
use Rattle.core_model.specs.declared.event.StepFault.{StepFault}
use Rattle.core_model.specs.ClockWork.{clock_work}
use Rattle.core_model.specs.Fits.{is_keepalive, CoreOk}
use Rattle.core_model.specs.Heard.{heard}
use Rattle.core_model.specs.State.{Core}
use Rattle.core_model.specs.Step.{stepped}
use Rattle.core_model.specs.Stepped.{Stepped}
use Rattle.script_text.specs.declared.item.Item.{Item}
use Rattle.script_text.specs.declared.item.Item.TheVariants as item
use Rattle.world_model.specs.Lives.{asked_as}
use Rattle.held_laws.proofs.Items.{asked_still}
use Rattle.keep_laws.proofs.Rows.{All, is_grouped, is_silent, silent_grouped, stays, hushes, Lasts}
use Rattle.keep_laws.proofs.Steps.{IsFresh, Tells, Sends, Brings, stepped_all}
use Rattle.keep_laws.proofs.Runs.{out_is, lease_is}
use Rattle.renewed_laws.specs.Renewals.{Renews}
use Rattle.renewed_laws.proofs.Stories.{Life, later, one_more, Known, known_on, IsExecuted, SentLater, GoesOn, sent_on, renews_on, answered_renews}

-- at each stage
abbrev pub KnownAt : Life → ℕ → ℕ → Stage → Type 0
KnownAt l ticket lease (stage.Grouped (Some (sending.Out number))) = SentLater l ticket lease number
KnownAt l ticket lease (stage.Replied (verdict.Said (Done reply))) = Renews l.namespace l.told l.proxy ticket lease reply
KnownAt l ticket lease _ = Unit {0}

pub record RowOk (l : Life) (lease : ℕ) (a : Asked) : Type 0 where
  pub known : Known l a.ticket lease
  pub grouped : is_grouped a.stage ≡ true
  pub at : KnownAt l a.ticket lease a.stage

pub record Row (l : Life) (a : Asked) : Type 0 where
  pub asked : asked_as l.proxy a.ticket l.told ≡ Some a.request
  pub keeps : (lease : ℕ) → a.request ≡ request.KeepAlive lease → RowOk l lease a

silent_known : (l : Life) (ticket lease : ℕ) (s : Stage) → is_silent s ≡ true → KnownAt l ticket lease s
silent_known l ticket lease (stage.Grouped None) h = tt
silent_known l ticket lease (stage.Grouped (Some (sending.Due since))) h = tt
silent_known l ticket lease (stage.Grouped (Some (sending.Out number))) h = absurd (cc)
silent_known l ticket lease (stage.Replied (verdict.Said (Done reply))) h = absurd (cc)
silent_known l ticket lease (stage.Replied (verdict.Said (Refused r))) h = tt
silent_known l ticket lease (stage.Replied verdict.Lost) h = tt
silent_known l ticket lease (stage.Replied verdict.Stale) h = tt
silent_known l ticket lease (stage.Replied verdict.TimedOut) h = tt
silent_known l ticket lease (stage.Calling s) h = tt
silent_known l ticket lease stage.Acquiring h = tt
silent_known l ticket lease stage.Joined h = tt
silent_known l ticket lease stage.Behind h = tt
silent_known l ticket lease stage.Writes h = tt

some_request : (a b : Request) → a ≡ b → Some a ≡ Some b
some_request a b e = ap (λ (q : Request). Some q) e

pub row_lasts : (l : Life) → Lasts (Row l)
row_lasts l x y (stays e) h = subst (Row l) (sym e) h
row_lasts l x y (hushes t q s) h = record {
  asked = ap (λ (n : ℕ). asked_as l.proxy n l.told) t ∙ h.asked ∙ some_request x.request y.request (sym q);
  keeps = λ lease is.
      let r = h.keeps lease (sym q ∙ is) in
      let silent = s r.grouped in
      record { known = subst (λ (n : ℕ). Known l n lease) (sym t) r.known; grouped = silent_grouped y.stage silent; at = silent_known l y.ticket lease y.stage silent };
}

-- ---- the life goes on

at_on : (l : Life) (own : ℕ → Option ℕ) (answers : ℕ → Option Answer) (more : List Item) → GoesOn l own answers more → (ticket lease : ℕ) (s : Stage) → KnownAt l ticket lease s → KnownAt (later l own answers more) ticket lease s
at_on l own answers more g ticket lease (stage.Grouped None) h = tt
at_on l own answers more g ticket lease (stage.Grouped (Some (sending.Due since))) h = tt
at_on l own answers more g ticket lease (stage.Grouped (Some (sending.Out number))) h = sent_on l own answers more ticket lease number g h
at_on l own answers more g ticket lease (stage.Replied (verdict.Said (Done reply))) h = renews_on l.namespace l.told more l.proxy ticket lease reply h
at_on l own answers more g ticket lease (stage.Replied (verdict.Said (Refused r))) h = tt
at_on l own answers more g ticket lease (stage.Replied verdict.Lost) h = tt
at_on l own answers more g ticket lease (stage.Replied verdict.Stale) h = tt
at_on l own answers more g ticket lease (stage.Replied verdict.TimedOut) h = tt
at_on l own answers more g ticket lease (stage.Calling s) h = tt
at_on l own answers more g ticket lease stage.Acquiring h = tt
at_on l own answers more g ticket lease stage.Joined h = tt
at_on l own answers more g ticket lease stage.Behind h = tt
at_on l own answers more g ticket lease stage.Writes h = tt

pub row_on : (l : Life) (own : ℕ → Option ℕ) (answers : ℕ → Option Answer) (more : List Item) → GoesOn l own answers more → (a : Asked) → Row l a → Row (later l own answers more) a
row_on l own answers more g a h = record {
  asked = asked_still l.proxy a.ticket l.told more a.request h.asked;
  keeps = λ lease is.
      let r = h.keeps lease is in
      record { known = known_on l own answers more a.ticket lease r.known; grouped = r.grouped; at = at_on l own answers more g a.ticket lease a.stage r.at };
}

-- ---- what an event brings

-- a request is asked
pub fresh_ok : (l : Life) (own : ℕ → Option ℕ) (answers : ℕ → Option Answer) (front : List Item) (ticket : ℕ) (q : Request) → asked_as l.proxy ticket (l.told ++ (front ++ item.Asked l.proxy ticket q ∷ [])) ≡ Some q
    → IsFresh (Row (later l own answers (front ++ item.Asked l.proxy ticket q ∷ []))) ticket q
fresh_ok l own answers front ticket q e y t r s = record {
  asked = ap (λ (n : ℕ). asked_as l.proxy n (l.told ++ (front ++ item.Asked l.proxy ticket q ∷ []))) t ∙ e ∙ some_request q y.request (sym r);
  keeps = λ lease is.
      let q_is : q ≡ request.KeepAlive lease = sym r ∙ is in
      let silent = s (ap is_keepalive q_is) in
      let same : item.Asked l.proxy ticket q ≡ item.Asked l.proxy y.ticket (request.KeepAlive lease) =
      ap (λ (n : ℕ). item.Asked l.proxy n q) (sym t) ∙ ap (λ (i : Request). item.Asked l.proxy y.ticket i) q_is in
      record {
        known = record {
          before = l.told ++ front;
          after = [];
          story = sym (append_assoc l.told front (item.Asked l.proxy ticket q ∷ [])) ∙ ap (λ (i : Item). (l.told ++ front) ++ i ∷ []) same;
        };
        grouped = silent_grouped y.stage silent;
        at = silent_known (later l own answers (front ++ item.Asked l.proxy ticket q ∷ [])) y.ticket lease y.stage silent;
      };
}

-- a call is answered
pub told_ok : (l : Life) (own : ℕ → Option ℕ) (answers : ℕ → Option Answer) (number call : ℕ) (a : Answer) → l.own number ≡ Some call → l.answers call ≡ Some a
    → Tells (Row l) (Row (later l own answers (item.Answered call ∷ []))) number (heard l.namespace a)
told_ok l own answers number call a o e row reply h k out r = record {
  asked = asked_still l.proxy row.ticket l.told (item.Answered call ∷ []) row.request r.asked;
  keeps = λ lease is.
      let x = r.keeps lease is in
      let s : SentLater l row.ticket lease number = subst (KnownAt l row.ticket lease) (out_is number row.stage out) x.at in
      record { known = known_on l own answers (item.Answered call ∷ []) row.ticket lease x.known; grouped = refl; at = answered_renews l row.ticket lease number call a reply s o e h };
}

-- a call is sent

same_number : (n m t n' m' t' : ℕ) (q q' : Request) → ◌≡◌ {A = Result Outcome StepFault} (Ok (outcome.Job (Some (job.Call n m t q)))) (Ok (outcome.Job (Some (job.Call n' m' t' q')))) → n ≡ n'
same_number n m t n' m' t' q q' e = cc

same_request : (n m t n' m' t' : ℕ) (q q' : Request) → ◌≡◌ {A = Result Outcome StepFault} (Ok (outcome.Job (Some (job.Call n m t q)))) (Ok (outcome.Job (Some (job.Call n' m' t' q')))) → q ≡ q'
same_request n m t n' m' t' q q' e = cc

pub sent_ok : (l : Life) (own : ℕ → Option ℕ) (answers : ℕ → Option Answer) (number call member named : ℕ) (q : Request) (s : Stepped) → s.outcome ≡ Ok (outcome.Job (Some (job.Call number member named q)))
    → own number ≡ Some call → answers call ≡ None → Sends (Row l) (Row (later l own answers (item.Sent l.proxy call member named q ∷ []))) s
sent_ok l own answers number call member named q s out o none row n m t lease is_out k r = record {
  asked = asked_still l.proxy row.ticket l.told (item.Sent l.proxy call member named q ∷ []) row.request r.asked;
  keeps = λ lease' is.
      let both = sym is_out ∙ out in
      let x = r.keeps lease' is in
      let same : lease' ≡ lease = lease_is lease lease' row.request k is in
      let q_is : q ≡ request.KeepAlive lease' = sym (same_request n m t number member named (request.KeepAlive lease) q both) ∙ ap (λ (i : ℕ). request.KeepAlive i) (sym same) in
      let n_is : n ≡ number = same_number n m t number member named (request.KeepAlive lease) q both in
      let asked = item.Asked l.proxy row.ticket (request.KeepAlive lease') in
      record {
        known = known_on l own answers (item.Sent l.proxy call member named q ∷ []) row.ticket lease' x.known;
        grouped = refl;
        at = record {
          before = x.known.before;
          unsent = x.known.after;
          call = call;
          member = member;
          named = named;
          after = [];
          story =
              one_more l.told x.known.before x.known.after (item.Sent l.proxy call member named q ∷ []) asked x.known.story
              ∙ ap (λ (i : Request). x.known.before ++ asked ∷ (x.known.after ++ item.Sent l.proxy call member named i ∷ [])) q_is;
          numbered = ap own n_is ∙ o;
          executed = subst (λ (a : Option Answer). IsExecuted call a []) (sym none) tt;
        };
      };
}

pub not_sent : (l m : Life) (s : Stepped) → ((own member named : ℕ) (q : Request) → s.outcome ≡ Ok (outcome.Job (Some (job.Call own member named q))) → ⊥) → Sends (Row l) (Row m) s
not_sent l m s n row own member ticket lease out k r = absurd (n own member ticket (request.KeepAlive lease) out)

-- ---- a step of the proxy

pub rows_step : (l : Life) (own : ℕ → Option ℕ) (answers : ℕ → Option Answer) (more : List Item) (e : CoreEvent) (now : ℕ) (c : Core) → GoesOn l own answers more → CoreOk c
    → Brings (Row l) (Row (later l own answers more)) e now (clock_work now c) → All (Row l) c.asks → All (Row (later l own answers more)) (stepped c e now).core.asks
rows_step l own answers more e now c g ok b t =
    stepped_all (Row l) (Row (later l own answers more)) (row_lasts l) (record { turns = row_on l own answers more g; lasts = row_lasts (later l own answers more) }) e now c ok (λ w. b) t
