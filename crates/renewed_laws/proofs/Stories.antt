-- What is known of a keepalive in a life of its proxy, and that it stays known as the life goes on.
use Rattle.std.proofs.Common.{◌≡◌, ℕ, List, [], ◌∷◌, ◌++◌, append_assoc, Option, None, Some, sym, ◌∙◌, ap, subst}
use Rattle.etcd_types.specs.declared.answer.Answer.{Answer}
use Rattle.etcd_types.specs.declared.answer.Answer.TheVariants.{Done}
use Rattle.etcd_types.specs.declared.answer.Reply.{Reply}
use Rattle.etcd_types.specs.declared.request.Request.TheVariants as request
use Rattle.core_model.specs.Heard.{heard}
use Rattle.script_text.specs.declared.item.Item.{Item}
use Rattle.script_text.specs.declared.item.Item.TheVariants as item
use Rattle.renewed_laws.specs.Renewals.{Renews}

-- a life of a proxy, as far as it is told
pub record Life : Type 0 where
  pub namespace : List ℕ
  pub proxy : ℕ
  -- the world's number of a call, by the proxy's own
  pub own : ℕ → Option ℕ
  -- to what a call was executed, by the world's number
  pub answers : ℕ → Option Answer
  pub told : List Item

abbrev pub later : Life → (ℕ → Option ℕ) → (ℕ → Option Answer) → List Item → Life
later l own answers more = record { namespace = l.namespace; proxy = l.proxy; own = own; answers = answers; told = l.told ++ more }

-- one item of a list, and more behind it
behind : (xs rest more : List Item) (i : Item) → (xs ++ i ∷ rest) ++ more ≡ xs ++ i ∷ (rest ++ more)
behind xs rest more i = append_assoc xs (i ∷ rest) more

pub one_more : (told before after more : List Item) (i : Item) → told ≡ before ++ i ∷ after → told ++ more ≡ before ++ i ∷ (after ++ more)
one_more told before after more i e = ap (λ (l : List Item). l ++ more) e ∙ behind before after more i

-- ---- the request was asked

pub record Known (l : Life) (ticket lease : ℕ) : Type 0 where
  pub before : List Item
  pub after : List Item
  pub story : l.told ≡ before ++ item.Asked l.proxy ticket (request.KeepAlive lease) ∷ after

pub known_on : (l : Life) (own : ℕ → Option ℕ) (answers : ℕ → Option Answer) (more : List Item) (ticket lease : ℕ) → Known l ticket lease → Known (later l own answers more) ticket lease
known_on l own answers more ticket lease k =
    record { before = k.before; after = k.after ++ more; story = one_more l.told k.before k.after more (item.Asked l.proxy ticket (request.KeepAlive lease)) k.story }

-- ---- a call is executed

pub record Executed (call : ℕ) (answer : Answer) (items : List Item) : Type 0 where
  pub before : List Item
  pub after : List Item
  pub story : items ≡ before ++ item.Executed call answer ∷ after

abbrev pub IsExecuted : ℕ → Option Answer → List Item → Type 0
IsExecuted call None items = Unit {0}
IsExecuted call (Some answer) items = Executed call answer items

pub executed_on : (call : ℕ) (o : Option Answer) (items more : List Item) → IsExecuted call o items → IsExecuted call o (items ++ more)
executed_on call None items more h = tt
executed_on call (Some answer) items more h =
    record { before = h.before; after = h.after ++ more; story = one_more items h.before h.after more (item.Executed call answer) h.story }

-- ---- a keepalive was sent behind it, and what came of that stands behind

pub record SentLater (l : Life) (ticket lease number : ℕ) : Type 0 where
  pub before : List Item
  pub unsent : List Item
  pub call : ℕ
  pub member : ℕ
  pub named : ℕ
  pub after : List Item
  pub story : l.told ≡ before ++ item.Asked l.proxy ticket (request.KeepAlive lease) ∷ (unsent ++ item.Sent l.proxy call member named (request.KeepAlive lease) ∷ after)
  pub numbered : l.own number ≡ Some call
  pub executed : IsExecuted call (l.answers call) after

-- the numbers stay, and what becomes executed is told
pub record GoesOn (l : Life) (own : ℕ → Option ℕ) (answers : ℕ → Option Answer) (more : List Item) : Type 0 where
  pub numbered : (number call : ℕ) → l.own number ≡ Some call → own number ≡ Some call
  pub executed : (call : ℕ) (items : List Item) → IsExecuted call (l.answers call) items → IsExecuted call (answers call) (items ++ more)

pub sent_on : (l : Life) (own : ℕ → Option ℕ) (answers : ℕ → Option Answer) (more : List Item) (ticket lease number : ℕ) → GoesOn l own answers more → SentLater l ticket lease number → SentLater (later l own answers more) ticket lease number
sent_on l own answers more ticket lease number g s =
    let asked = item.Asked l.proxy ticket (request.KeepAlive lease) in
    let sent = item.Sent l.proxy s.call s.member s.named (request.KeepAlive lease) in
    record {
      before = s.before;
      unsent = s.unsent;
      call = s.call;
      member = s.member;
      named = s.named;
      after = s.after ++ more;
      story = one_more l.told s.before (s.unsent ++ sent ∷ s.after) more asked s.story ∙ ap (λ (xs : List Item). s.before ++ asked ∷ xs) (behind s.unsent s.after more sent);
      numbered = g.numbered number s.call s.numbered;
      executed = g.executed s.call s.after s.executed;
    }

-- ---- it was answered

-- a story that ends so goes on
five_on : (told before unsent unexecuted unanswered after more : List Item) (asked sent executed answered : Item)
    → told ≡ before ++ asked ∷ (unsent ++ sent ∷ (unexecuted ++ executed ∷ (unanswered ++ answered ∷ after)))
    → told ++ more ≡ before ++ asked ∷ (unsent ++ sent ∷ (unexecuted ++ executed ∷ (unanswered ++ answered ∷ (after ++ more))))
five_on told before unsent unexecuted unanswered after more asked sent executed answered e =
    one_more told before (unsent ++ sent ∷ (unexecuted ++ executed ∷ (unanswered ++ answered ∷ after))) more asked e
    ∙ ap (λ (xs : List Item). before ++ asked ∷ xs) (behind unsent (unexecuted ++ executed ∷ (unanswered ++ answered ∷ after)) more sent)
    ∙ ap (λ (xs : List Item). before ++ asked ∷ (unsent ++ sent ∷ xs)) (behind unexecuted (unanswered ++ answered ∷ after) more executed)
    ∙ ap (λ (xs : List Item). before ++ asked ∷ (unsent ++ sent ∷ (unexecuted ++ executed ∷ xs))) (behind unanswered after more answered)

pub renews_on : (namespace : List ℕ) (told more : List Item) (p ticket lease : ℕ) (reply : Reply) → Renews namespace told p ticket lease reply → Renews namespace (told ++ more) p ticket lease reply
renews_on namespace told more p ticket lease reply r = record {
  before = r.before;
  unsent = r.unsent;
  call = r.call;
  member = r.member;
  named = r.named;
  unexecuted = r.unexecuted;
  answer = r.answer;
  unanswered = r.unanswered;
  after = r.after ++ more;
  story = five_on told r.before r.unsent r.unexecuted r.unanswered r.after more _ _ _ _ r.story;
  heard = r.heard;
}

-- the story of one that was sent, with what came behind it
four : (told before unsent after between rest last : List Item) (asked sent executed answered : Item) → told ≡ before ++ asked ∷ (unsent ++ sent ∷ after) → after ≡ between ++ executed ∷ rest
    → told ++ answered ∷ last ≡ before ++ asked ∷ (unsent ++ sent ∷ (between ++ executed ∷ (rest ++ answered ∷ last)))
four told before unsent after between rest last asked sent executed answered e f =
    one_more told before (unsent ++ sent ∷ after) (answered ∷ last) asked e
    ∙ ap (λ (xs : List Item). before ++ asked ∷ xs) (behind unsent after (answered ∷ last) sent)
    ∙ ap (λ (xs : List Item). before ++ asked ∷ (unsent ++ sent ∷ xs)) (one_more after between rest (answered ∷ last) executed f)

pub answered_renews : (l : Life) (ticket lease number call : ℕ) (answer : Answer) (reply : Reply) → SentLater l ticket lease number → l.own number ≡ Some call → l.answers call ≡ Some answer → heard l.namespace answer ≡ Some (Done reply)
    → Renews l.namespace (l.told ++ item.Answered call ∷ []) l.proxy ticket lease reply
answered_renews l ticket lease number call answer reply s own executed h =
    let same : s.call ≡ call = one_call s.call call (sym s.numbered ∙ own) in
    let to : l.answers s.call ≡ Some answer = ap l.answers same ∙ executed in
    let x : Executed s.call answer s.after = subst (λ (o : Option Answer). IsExecuted s.call o s.after) to s.executed in
    subst (λ (n : ℕ). Renews l.namespace (l.told ++ item.Answered n ∷ []) l.proxy ticket lease reply) same (record {
      before = s.before;
      unsent = s.unsent;
      call = s.call;
      member = s.member;
      named = s.named;
      unexecuted = x.before;
      answer = answer;
      unanswered = x.after;
      after = [];
      story = four l.told s.before s.unsent s.after x.before x.after [] _ _ _ _ s.story x.story;
      heard = h;
    })
  where
    one_call : (a b : ℕ) → Some a ≡ Some b → a ≡ b
    one_call a b e = cc
