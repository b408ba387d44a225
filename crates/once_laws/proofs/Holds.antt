-- What is known of the calls that name a write's ticket in a life of its proxy, by the items so far: that none did the write, that one did, or
-- that one alone may have. It stays known as the life goes on.
use Rattle.std.proofs.Common.{◌≡◌, ◌≢◌, ◌⊎◌, inl, inr, ℕ, ◌==◌, ◌||◌, Bool, true, false, List, [], ◌∷◌, ◌++◌, append_assoc, Option, None, Some, refl, sym, ◌∙◌, ap, subst}
use Rattle.etcd_types.specs.declared.answer.Answer.{Answer}
use Rattle.etcd_types.specs.declared.request.Request.{Request}
use Rattle.core_model.specs.Kinds.{writes_keys}
use Rattle.script_text.specs.declared.item.Item.{Item}
use Rattle.script_text.specs.declared.item.Item.TheVariants as item
use Rattle.world_model.specs.Lives.{asked_as, is_named}
use Rattle.held_laws.proofs.Items.{asked_still}
use Rattle.renewed_laws.proofs.Lives.{asked_on}
use Rattle.renewed_laws.proofs.Stories.{one_more, Executed}
use Rattle.executed_laws.proofs.Naming.{Unnamed, named-append}
use Rattle.once_laws.specs.Once.{Did, Run}
use Rattle.once_laws.proofs.FreeSends.{Goes}
use Rattle.once_laws.proofs.Named.{AllNamed, named_more, all-append, none_named}

module _ (namespace prefix : List ℕ) (p : ℕ) where
  -- it is no call that can do it, or it was executed and didn't
  pub data NotDid (items : List Item) (q : Request) (call : ℕ) (sent : Request) : Type 0 where
    never : ((a : Answer) → Did namespace prefix q sent a → ⊥) → NotDid items q call sent
    spared : (a : Answer) → Executed call a items → (Did namespace prefix q sent a → ⊥) → NotDid items q call sent

  -- one is alone but for calls that didn't
  pub record Alone (items told : List Item) (own : ℕ → Option ℕ) (R : Request → Request → Type 0) (t n : ℕ) (q : Request) : Type 0 where
    pub call : ℕ
    pub member : ℕ
    pub sent : Request
    pub numbered : own n ≡ Some call
    pub unsent : List Item
    pub later : List Item
    pub named : told ≡ unsent ++ item.Sent p call member t sent ∷ later
    pub is : R q sent
    pub others : AllNamed p t (λ c r. ((c ≡ call) × (r ≡ sent)) ⊎ NotDid items q c r) told

  pub record Most (items told : List Item) (t : ℕ) (q : Request) : Type 0 where
    pub call : ℕ
    pub others : AllNamed p t (λ c r. (c ≡ call) ⊎ NotDid items q c r) told

  abbrev pub OfWrite : ℕ → List Item → (Request → Type 0) → Type 0
  OfWrite t told P = (q : Request) → t ≢ 0 → asked_as p t told ≡ Some q → writes_keys q ≡ true → P q

  -- of the request that was asked
  pub record Asks (t : ℕ) (told : List Item) (P : Request → Type 0) : Type 0 where
    pub request : Request
    pub asked : asked_as p t told ≡ Some request
    pub so : t ≢ 0 → writes_keys request ≡ true → P request

  abbrev pub NoneOf : List Item → List Item → ℕ → Type 0
  NoneOf items told t = OfWrite t told (λ q. AllNamed p t (NotDid items q) told)

  abbrev pub DidOf : List Item → List Item → ℕ → Type 0
  DidOf items told t = Asks t told (λ q. Run namespace prefix told items p t q)

  abbrev pub MostOf : List Item → List Item → ℕ → Type 0
  MostOf items told t = OfWrite t told (Most items told t)

  abbrev pub OnlyOf : List Item → List Item → (ℕ → Option ℕ) → (Request → Request → Type 0) → ℕ → ℕ → Type 0
  OnlyOf items told own R t n = Asks t told (Alone items told own R t n)

  one_request : (a b : Request) → Some a ≡ Some b → a ≡ b
  one_request a b e = cc

  -- ---- more items

  abbrev pub StillExecuted : List Item → List Item → Type 0
  StillExecuted items after = (call : ℕ) (a : Answer) → Executed call a items → Executed call a after

  pub still_appended : (items more : List Item) → StillExecuted items (items ++ more)
  still_appended items more call a e = record { before = e.before; after = e.after ++ more; story = one_more items e.before e.after more (item.Executed call a) e.story }

  not_on : (items after : List Item) (q : Request) (call : ℕ) (sent : Request) → StillExecuted items after → NotDid items q call sent → NotDid after q call sent
  not_on items after q call sent s (never n) = never n
  not_on items after q call sent s (spared a e n) = spared a (s call a e) n

  either_on : (items after : List Item) (q : Request) (call : ℕ) (sent : Request) (P : Type 0) → StillExecuted items after → P ⊎ NotDid items q call sent → P ⊎ NotDid after q call sent
  either_on items after q call sent P s (inl h) = inl h
  either_on items after q call sent P s (inr h) = inr (not_on items after q call sent s h)

  pub run_on : (items after told more : List Item) (t : ℕ) (q : Request) → ((call : ℕ) (a : Answer) (xs ys : List Item) → items ≡ xs ++ item.Executed call a ∷ ys → Executed call a after) → Run namespace prefix told items p t q → Run namespace prefix (told ++ more) after p t q
  run_on items after told more t q s r =
      let e = s r.call r.answer r.unexecuted r.rest r.executed in
      record {
        call = r.call;
        member = r.member;
        sent = r.sent;
        unsent = r.unsent;
        later = r.later ++ more;
        named = one_more told r.unsent r.later more (item.Sent p r.call r.member t r.sent) r.named;
        answer = r.answer;
        unexecuted = e.before;
        rest = e.after;
        executed = e.story;
        did = r.did;
      }

  -- items that name this ticket in no call
  module _ (items after told more : List Item) (own own' : ℕ → Option ℕ) (s : StillExecuted items after) (grows : (n c : ℕ) → own n ≡ Some c → own' n ≡ Some c) (t : ℕ) (silent : is_named p t more ≡ false) where
    all_on : (P Q : ℕ → Request → Type 0) → ((c : ℕ) (r : Request) → P c r → Q c r) → AllNamed p t P told → AllNamed p t Q (told ++ more)
    all_on P Q f h = all-append p t Q told more (named_more p t P Q f told h) (none_named p t Q more silent)

    alone_on : (R : Request → Request → Type 0) (n : ℕ) (q : Request) → Alone items told own R t n q → Alone after (told ++ more) own' R t n q
    alone_on R n q a = record {
      call = a.call;
      member = a.member;
      sent = a.sent;
      numbered = grows n a.call a.numbered;
      unsent = a.unsent;
      later = a.later ++ more;
      named = one_more told a.unsent a.later more (item.Sent p a.call a.member t a.sent) a.named;
      is = a.is;
      others = all_on (λ c r. ((c ≡ a.call) × (r ≡ a.sent)) ⊎ NotDid items q c r) (λ c r. ((c ≡ a.call) × (r ≡ a.sent)) ⊎ NotDid after q c r) (λ c r h. either_on items after q c r ((c ≡ a.call) × (r ≡ a.sent)) s h) a.others;
    }

    most_on : (q : Request) → Most items told t q → Most after (told ++ more) t q
    most_on q m = record { call = m.call; others = all_on (λ c r. (c ≡ m.call) ⊎ NotDid items q c r) (λ c r. (c ≡ m.call) ⊎ NotDid after q c r) (λ c r h. either_on items after q c r (c ≡ m.call) s h) m.others }

    asks_on : (P Q : Request → Type 0) → ((q : Request) → P q → Q q) → Asks t told P → Asks t (told ++ more) Q
    asks_on P Q f a = record { request = a.request; asked = asked_still p t told more a.request a.asked; so = λ n w. f a.request (a.so n w) }

    -- where the ticket was asked before, or isn't named
    of_write_on : (P Q : Request → Type 0) → ((q : Request) → P q → Q q) → (asked_as p t told ≡ None → t ≢ 0 → (q : Request) → Q q) → OfWrite t told P → OfWrite t (told ++ more) Q
    of_write_on P Q f new h q n e w = by (asked_as p t told) refl
      where
        by : (o : Option Request) → asked_as p t told ≡ o → Q q
        by None g = new g n q
        by (Some r) g = let same = one_request r q (sym (asked_still p t told more r g) ∙ e) in f q (h q n (g ∙ ap (λ (x : Request). Some x) same) w)

    unnamed : (P : ℕ → Request → Type 0) → Unnamed p told → asked_as p t told ≡ None → t ≢ 0 → AllNamed p t P (told ++ more)
    unnamed P u g n = none_named p t P (told ++ more) (named-append p t told more ∙ (λ i. u t n g i || silent i))

    pub goes_on : (R S : Request → Request → Type 0) (Off On : Type 0) → Unnamed p told
        → Goes (NoneOf items told) (DidOf items told) (MostOf items told) (OnlyOf items told own R) (OnlyOf items told own S) (NoneOf after (told ++ more)) (DidOf after (told ++ more)) (MostOf after (told ++ more))
        (OnlyOf after (told ++ more) own' R) (OnlyOf after (told ++ more) own' S) Off On t
    goes_on R S Off On u = record {
      none = of_write_on (λ q. AllNamed p t (NotDid items q) told) (λ q. AllNamed p t (NotDid after q) (told ++ more)) (λ q h. all_on (NotDid items q) (NotDid after q) (λ c r k. not_on items after q c r s k) h) (λ g n q. unnamed (NotDid after q) u g n);
      did = asks_on (λ q. Run namespace prefix told items p t q) (λ q. Run namespace prefix (told ++ more) after p t q) (λ q r. run_on items after told more t q (λ call a xs ys e. s call a (record { before = xs; after = ys; story = e })) r);
      most = of_write_on (Most items told t) (Most after (told ++ more) t) most_on (λ g n q. record { call = 0; others = unnamed (λ c r. (c ≡ 0) ⊎ NotDid after q c r) u g n });
      ask = λ n. asks_on (Alone items told own R t n) (Alone after (told ++ more) own' R t n) (alone_on R n);
      write = λ n. asks_on (Alone items told own S t n) (Alone after (told ++ more) own' S t n) (alone_on S n);
    }

  -- where nothing is asked behind it either
  pub most_still : (items after told more : List Item) (t : ℕ) → StillExecuted items after → is_named p t more ≡ false → ((i : ℕ) → asked_as p i more ≡ None) → MostOf items told t → MostOf after (told ++ more) t
  most_still items after told more t s silent u h q n e w =
      most_on items after told more (λ n. None) (λ n. None) s (λ n c e. e) t silent q (h q n (sym (asked_on p t told more u) ∙ e) w)
