-- What is known in a life of its proxy of a call that is out: that it was sent behind the asking of the request that it names, and to
-- what it was executed since. It stays known as the life goes on, and is the request's story once the call is answered.
use Rattle.std.proofs.Common.{◌≡◌, ℕ, ◌==◌, ◌&&◌, Bool, true, false, cond, List, [], ◌∷◌, ◌++◌, append_assoc, Option, None, Some, refl, sym, ◌∙◌, ap, subst}
use Rattle.etcd_types.proofs.Bools.{and_first, and_second}
use Rattle.etcd_types.specs.declared.answer.Answer.{Answer}
use Rattle.etcd_types.specs.declared.request.Request.{Request}
use Rattle.core_laws.proofs.Steps.Lists.{same_number}
use Rattle.script_text.specs.declared.item.Item.{Item}
use Rattle.script_text.specs.declared.item.Item.TheVariants as item
use Rattle.world_model.specs.Lives.{asked_as}
use Rattle.held_laws.proofs.Items.{asked_still}
use Rattle.renewed_laws.proofs.Stories.{Life, later, one_more, Executed, IsExecuted, GoesOn}
use Rattle.executed_laws.specs.Executed.{Story}

-- by what the request and the call that was sent for it are
pub record SentFor (R : Request → Request → Type 0) (l : Life) (ticket number : ℕ) : Type 0 where
  pub before : List Item
  pub unsent : List Item
  pub request : Request
  pub call : ℕ
  pub member : ℕ
  pub sent : Request
  pub after : List Item
  pub story : l.told ≡ before ++ item.Asked l.proxy ticket request ∷ (unsent ++ item.Sent l.proxy call member ticket sent ∷ after)
  pub asked : asked_as l.proxy ticket l.told ≡ Some request
  pub is : R request sent
  pub numbered : l.own number ≡ Some call
  pub executed : IsExecuted call (l.answers call) after

-- an item behind another one
two_on : (told before unsent after more : List Item) (i j : Item) → told ≡ before ++ i ∷ (unsent ++ j ∷ after) → told ++ more ≡ before ++ i ∷ (unsent ++ j ∷ (after ++ more))
two_on told before unsent after more i j e = one_more told before (unsent ++ j ∷ after) more i e ∙ ap (λ (xs : List Item). before ++ i ∷ xs) (append_assoc unsent (j ∷ after) more)

pub sent_on : (R : Request → Request → Type 0) (l : Life) (own : ℕ → Option ℕ) (answers : ℕ → Option Answer) (more : List Item) → GoesOn l own answers more → (ticket number : ℕ) → SentFor R l ticket number
    → SentFor R (later l own answers more) ticket number
sent_on R l own answers more g ticket number s = record {
  before = s.before;
  unsent = s.unsent;
  request = s.request;
  call = s.call;
  member = s.member;
  sent = s.sent;
  after = s.after ++ more;
  story = two_on l.told s.before s.unsent s.after more _ _ s.story;
  asked = asked_still l.proxy ticket l.told more s.request s.asked;
  is = s.is;
  numbered = g.numbered number s.call s.numbered;
  executed = g.executed s.call s.after s.executed;
}

-- ---- a call is sent

pub record WasAsked (p ticket : ℕ) (q : Request) (told : List Item) : Type 0 where
  pub before : List Item
  pub after : List Item
  pub split : told ≡ before ++ item.Asked p ticket q ∷ after

next_asked : (p ticket : ℕ) (q : Request) (i : Item) (told : List Item) → WasAsked p ticket q told → WasAsked p ticket q (i ∷ told)
next_asked p ticket q i told w = record { before = i ∷ w.before; after = w.after; split = ap (λ (xs : List Item). i ∷ xs) w.split }

pub was_asked : (p ticket : ℕ) (q : Request) (told : List Item) → asked_as p ticket told ≡ Some q → WasAsked p ticket q told
was_asked p ticket q [] e = absurd (cc)
was_asked p ticket q (item.Asked n t r ∷ told) e = by (n == p && t == ticket) refl e (was_asked p ticket q told)
  where
    same_request : Some r ≡ Some q → r ≡ q
    same_request f = cc

    by : (b : Bool) → (n == p && t == ticket) ≡ b → cond b (Some r) (asked_as p ticket told) ≡ Some q → (asked_as p ticket told ≡ Some q → WasAsked p ticket q told) → WasAsked p ticket q (item.Asked n t r ∷ told)
    by true h f more =
        let there = same_number n p (and_first (n == p) (t == ticket) h) in
        let named = same_number t ticket (and_second (n == p) (t == ticket) h) in
        record { before = []; after = told; split = (λ i. item.Asked (there i) (named i) (same_request f i) ∷ told) }
    by false h f more = next_asked p ticket q (item.Asked n t r) told (more f)
was_asked p ticket q (item.World members namespace leasing ∷ told) e = next_asked p ticket q _ told (was_asked p ticket q told e)
was_asked p ticket q (item.Started n ∷ told) e = next_asked p ticket q _ told (was_asked p ticket q told e)
was_asked p ticket q (item.Restarted n ∷ told) e = next_asked p ticket q _ told (was_asked p ticket q told e)
was_asked p ticket q (item.Clock n millis ∷ told) e = next_asked p ticket q _ told (was_asked p ticket q told e)
was_asked p ticket q (item.Posted n t path body ∷ told) e = next_asked p ticket q _ told (was_asked p ticket q told e)
was_asked p ticket q (item.Ticked n ∷ told) e = next_asked p ticket q _ told (was_asked p ticket q told e)
was_asked p ticket q (item.Sent n call member t r ∷ told) e = next_asked p ticket q _ told (was_asked p ticket q told e)
was_asked p ticket q (item.Opened n stream member r ∷ told) e = next_asked p ticket q _ told (was_asked p ticket q told e)
was_asked p ticket q (item.Closed n stream ∷ told) e = next_asked p ticket q _ told (was_asked p ticket q told e)
was_asked p ticket q (item.Executed call a ∷ told) e = next_asked p ticket q _ told (was_asked p ticket q told e)
was_asked p ticket q (item.Answered call ∷ told) e = next_asked p ticket q _ told (was_asked p ticket q told e)
was_asked p ticket q (item.Lost call ∷ told) e = next_asked p ticket q _ told (was_asked p ticket q told e)
was_asked p ticket q (item.Pushed stream i ∷ told) e = next_asked p ticket q _ told (was_asked p ticket q told e)
was_asked p ticket q (item.Delivered stream ∷ told) e = next_asked p ticket q _ told (was_asked p ticket q told e)
was_asked p ticket q (item.Cut stream ∷ told) e = next_asked p ticket q _ told (was_asked p ticket q told e)
was_asked p ticket q (item.Taken n t i ∷ told) e = next_asked p ticket q _ told (was_asked p ticket q told e)
was_asked p ticket q (item.Pending n t ∷ told) e = next_asked p ticket q _ told (was_asked p ticket q told e)
was_asked p ticket q (item.Left n t ∷ told) e = next_asked p ticket q _ told (was_asked p ticket q told e)
was_asked p ticket q (item.Reply n t a ∷ told) e = next_asked p ticket q _ told (was_asked p ticket q told e)
was_asked p ticket q (item.Body n t status text ∷ told) e = next_asked p ticket q _ told (was_asked p ticket q told e)
was_asked p ticket q (item.Expired lease ∷ told) e = next_asked p ticket q _ told (was_asked p ticket q told e)
was_asked p ticket q (item.Applied member revision ∷ told) e = next_asked p ticket q _ told (was_asked p ticket q told e)

pub new_sent : (R : Request → Request → Type 0) (l : Life) (own : ℕ → Option ℕ) (answers : ℕ → Option Answer) (ticket number call member : ℕ) (q sent : Request) → asked_as l.proxy ticket l.told ≡ Some q → R q sent
    → own number ≡ Some call → answers call ≡ None → SentFor R (later l own answers (item.Sent l.proxy call member ticket sent ∷ [])) ticket number
new_sent R l own answers ticket number call member q sent asked is o none =
    let w = was_asked l.proxy ticket q l.told asked in
    record {
      before = w.before;
      unsent = w.after;
      request = q;
      call = call;
      member = member;
      sent = sent;
      after = [];
      story = one_more l.told w.before w.after (item.Sent l.proxy call member ticket sent ∷ []) _ w.split;
      asked = asked_still l.proxy ticket l.told (item.Sent l.proxy call member ticket sent ∷ []) q asked;
      is = is;
      numbered = o;
      executed = subst (λ (a : Option Answer). IsExecuted call a []) (sym none) tt;
    }

-- ---- it is answered

one_call : (a b : ℕ) → Some a ≡ Some b → a ≡ b
one_call a b e = cc

pub answered_story : (R : Request → Request → Type 0) (l : Life) (ticket number call : ℕ) (answer : Answer) → (s : SentFor R l ticket number) → l.own number ≡ Some call → l.answers call ≡ Some answer
    → Story (l.told ++ item.Answered call ∷ []) l.proxy ticket s.request s.sent answer
answered_story R l ticket number call answer s own executed =
    let same : s.call ≡ call = one_call s.call call (sym s.numbered ∙ own) in
    let to : l.answers s.call ≡ Some answer = ap l.answers same ∙ executed in
    let x : Executed s.call answer s.after = subst (λ (o : Option Answer). IsExecuted s.call o s.after) to s.executed in
    let asked = item.Asked l.proxy ticket s.request in
    let sent = item.Sent l.proxy s.call s.member ticket s.sent in
    let last = item.Answered s.call ∷ [] in
    subst (λ (n : ℕ). Story (l.told ++ item.Answered n ∷ []) l.proxy ticket s.request s.sent answer) same (record {
      before = s.before;
      unsent = s.unsent;
      call = s.call;
      member = s.member;
      unexecuted = x.before;
      unanswered = x.after;
      after = [];
      story =
          two_on l.told s.before s.unsent s.after last asked sent s.story
          ∙ ap (λ (xs : List Item). s.before ++ asked ∷ (s.unsent ++ sent ∷ xs)) (one_more s.after x.before x.after last (item.Executed s.call answer) x.story);
    })

pub story_on : (told more : List Item) (p ticket : ℕ) (asked sent : Request) (answer : Answer) → Story told p ticket asked sent answer → Story (told ++ more) p ticket asked sent answer
story_on told more p ticket asked sent answer s =
    let first = item.Asked p ticket asked in
    let second = item.Sent p s.call s.member ticket sent in
    let third = item.Executed s.call answer in
    let fourth = item.Answered s.call in
    record {
      before = s.before;
      unsent = s.unsent;
      call = s.call;
      member = s.member;
      unexecuted = s.unexecuted;
      unanswered = s.unanswered;
      after = s.after ++ more;
      story =
          two_on told s.before s.unsent (s.unexecuted ++ third ∷ (s.unanswered ++ fourth ∷ s.after)) more first second s.story
          ∙ ap (λ (xs : List Item). s.before ++ first ∷ (s.unsent ++ second ∷ xs))
          (append_assoc s.unexecuted (third ∷ (s.unanswered ++ fourth ∷ s.after)) more
          ∙ ap (λ (xs : List Item). s.unexecuted ++ third ∷ xs) (append_assoc s.unanswered (fourth ∷ s.after) more));
    }
