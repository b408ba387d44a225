-- What the items of a transcript tell of a stream, item by item.
use Rattle.std.proofs.Common.{◌≡◌, ℕ, ◌+◌, Bool, true, false, cond, ◌==◌, take, List, [], ◌∷◌, ◌++◌, append_assoc, append-nil, length, filter, slice_get, Option, None, Some, refl, ap, sym, ◌∙◌, arith}
use Rattle.std.proofs.lemmas.Bool.Decides.{nat_tests}
use Rattle.std.proofs.lemmas.List.{length-append}
use Rattle.std.proofs.lemmas.List.Elements.{filter-append}
use Rattle.std.specs.Prelude.{flat_map}
use Rattle.std.specs.BTreeSet.{BTreeSet}
use Rattle.etcd_types.specs.declared.answer.Answer.{Answer}
use Rattle.etcd_types.specs.declared.request.WatchAsk.{WatchAsk}
use Rattle.etcd_types.specs.declared.watch.WatchItem.{WatchItem}
use Rattle.script_text.specs.declared.item.Item.{Item}
use Rattle.script_text.specs.declared.item.Item.TheVariants as item
use Rattle.world_model.specs.Gains.{Replies, body_if, reply_items}
use Rattle.world_model.specs.Lives.{pushed_by, pushed_into, delivers, next_message, life}
use Rattle.world_model.specs.Places.{is_among}
use Rattle.watch_stories.specs.Streams.{opened_by, or_later, opened_as, delivered_of, start_of, next_behind, next_behind_all, stream_next}

-- ---- lists of items, one behind the other

pub pushed-append : (n : ℕ) (xs ys : List Item) → pushed_into n (xs ++ ys) ≡ pushed_into n xs ++ pushed_into n ys
pushed-append n [] ys = refl
pushed-append n (i ∷ xs) ys = ap (λ (l : List WatchItem). pushed_by n i ++ l) (pushed-append n xs ys) ∙ sym (append_assoc (pushed_by n i) (pushed_into n xs) (pushed_into n ys))

or_assoc : (a b c : Option WatchAsk) → or_later (or_later a b) c ≡ or_later a (or_later b c)
or_assoc None b c = refl
or_assoc (Some x) b c = refl

pub opened-append : (p n : ℕ) (xs ys : List Item) → opened_as p n (xs ++ ys) ≡ or_later (opened_as p n xs) (opened_as p n ys)
opened-append p n [] ys = refl
opened-append p n (i ∷ xs) ys = ap (or_later (opened_by p n i)) (opened-append p n xs ys) ∙ sym (or_assoc (opened_by p n i) (opened_as p n xs) (opened_as p n ys))

-- what it was opened with once stays so
pub opened_still : (p n : ℕ) (xs ys : List Item) (a : WatchAsk) → opened_as p n xs ≡ Some a → opened_as p n (xs ++ ys) ≡ Some a
opened_still p n xs ys a e = opened-append p n xs ys ∙ ap (λ o. or_later o (opened_as p n ys)) e

pub opened_later : (p n : ℕ) (xs ys : List Item) → opened_as p n xs ≡ None → opened_as p n (xs ++ ys) ≡ opened_as p n ys
opened_later p n xs ys e = opened-append p n xs ys ∙ ap (λ o. or_later o (opened_as p n ys)) e

pub next-append : (next : ℕ) (xs ys : List WatchItem) → next_behind_all next (xs ++ ys) ≡ next_behind_all (next_behind_all next xs) ys
next-append next [] ys = refl
next-append next (i ∷ xs) ys = next-append (next_behind next i) xs ys

-- ---- a stream's messages: those that were delivered, and those that wait

pub record Fed (n : ℕ) (items : List Item) (front waiting : List WatchItem) : Type 0 where
  pub pushed : pushed_into n items ≡ front ++ waiting
  pub count : length (filter (delivers n) items) ≡ length front

take_front : {A : Type 0} (xs ys : List A) → take (length xs) (xs ++ ys) ≡ xs
take_front [] ys = refl
take_front (x ∷ xs) ys = ap (λ l. x ∷ l) (take_front xs ys)

get_behind : {A : Type 0} (xs ys : List A) (y : A) → slice_get (xs ++ y ∷ ys) (length xs) ≡ Some y
get_behind [] ys y = refl
get_behind (x ∷ xs) ys y = get_behind xs ys y

pub delivered_is : (n : ℕ) (items : List Item) (front waiting : List WatchItem) → Fed n items front waiting → delivered_of n items ≡ front
delivered_is n items front waiting h = ap (λ (k : ℕ). take k (pushed_into n items)) h.count ∙ ap (take (length front)) h.pushed ∙ take_front front waiting

pub next_is : (n : ℕ) (items : List Item) (front : List WatchItem) (i : WatchItem) (rest : List WatchItem) → Fed n items front (i ∷ rest) → next_message n items ≡ Some i
next_is n items front i rest h = ap (λ (k : ℕ). slice_get (pushed_into n items) k) h.count ∙ ap (λ (l : List WatchItem). slice_get l (length front)) h.pushed ∙ get_behind front rest i

-- items that neither push nor deliver
pub record IsMute (items : List Item) : Type 0 where
  pub pushes : (n : ℕ) → pushed_into n items ≡ []
  pub delivers_none : (n : ℕ) → filter (delivers n) items ≡ []

pub mute-append : (xs ys : List Item) → IsMute xs → IsMute ys → IsMute (xs ++ ys)
mute-append xs ys h k = record {
  pushes = λ n. pushed-append n xs ys ∙ ap (λ (l : List WatchItem). l ++ pushed_into n ys) (h.pushes n) ∙ k.pushes n;
  delivers_none = λ n. filter-append (delivers n) xs ys ∙ ap (λ (l : List Item). l ++ filter (delivers n) ys) (h.delivers_none n) ∙ k.delivers_none n;
}

body_mute : (b : Bool) (p ticket : ℕ) (a : Answer) → IsMute (body_if b p ticket a)
body_mute false p ticket a = record { pushes = λ n. refl; delivers_none = λ n. refl }
body_mute true p ticket a = record { pushes = λ n. refl; delivers_none = λ n. refl }

reply_mute : (p : ℕ) (posted : BTreeSet ℕ) (r : ℕ × Answer) → IsMute (reply_items p posted r)
reply_mute p posted r = mute-append (item.Reply p r.0 r.1 ∷ []) _ (record { pushes = λ n. refl; delivers_none = λ n. refl }) (body_mute (is_among posted r.0) p r.0 r.1)

pub replies_mute : (p : ℕ) (posted : BTreeSet ℕ) (got : Replies) → IsMute (flat_map (reply_items p posted) got)
replies_mute p posted [] = record { pushes = λ n. refl; delivers_none = λ n. refl }
replies_mute p posted (r ∷ got) = mute-append (reply_items p posted r) _ (reply_mute p posted r) (replies_mute p posted got)

pub still_fed : (n : ℕ) (items more : List Item) (front waiting : List WatchItem) → pushed_into n more ≡ [] → filter (delivers n) more ≡ [] → Fed n items front waiting → Fed n (items ++ more) front waiting
still_fed n items more front waiting e f h = record {
  pushed = pushed-append n items more ∙ ap (λ (l : List WatchItem). pushed_into n items ++ l) e ∙ append-nil (pushed_into n items) ∙ h.pushed;
  count = ap length (filter-append (delivers n) items more ∙ ap (λ (l : List Item). filter (delivers n) items ++ l) f ∙ append-nil (filter (delivers n) items)) ∙ h.count;
}

itself : (n : ℕ) → (n == n) ≡ true
itself n = grind (arith, nat_tests)

pub pushed_fed : (n : ℕ) (items : List Item) (i : WatchItem) (front waiting : List WatchItem) → Fed n items front waiting → Fed n (items ++ item.Pushed n i ∷ []) front (waiting ++ i ∷ [])
pushed_fed n items i front waiting h = record {
  pushed =
      pushed-append n items (item.Pushed n i ∷ []) ∙ ap (λ (l : List WatchItem). l ++ pushed_into n (item.Pushed n i ∷ [])) h.pushed
      ∙ ap (λ b. (front ++ waiting) ++ (cond b (i ∷ []) [] ++ [])) (itself n) ∙ append_assoc front waiting (i ∷ []);
  count = ap length (filter-append (delivers n) items (item.Pushed n i ∷ []) ∙ append-nil (filter (delivers n) items)) ∙ h.count;
}

pub delivered_fed : (n : ℕ) (items : List Item) (i : WatchItem) (front rest : List WatchItem) → Fed n items front (i ∷ rest) → Fed n (items ++ item.Delivered n ∷ []) (front ++ i ∷ []) rest
delivered_fed n items i front rest h = record {
  pushed = pushed-append n items (item.Delivered n ∷ []) ∙ append-nil (pushed_into n items) ∙ h.pushed ∙ sym (append_assoc front (i ∷ []) rest);
  count =
      ap length (filter-append (delivers n) items (item.Delivered n ∷ [])) ∙ length-append (filter (delivers n) items) (filter (delivers n) (item.Delivered n ∷ []))
      ∙ ap (λ b. length (filter (delivers n) items) + length (cond b (item.Delivered n ∷ []) [])) (itself n)
      ∙ ap (λ (k : ℕ). k + 1) h.count ∙ sym (length-append front (i ∷ []));
}

-- its next revision
pub next_by : (p n : ℕ) (items : List Item) (opened : WatchAsk) (front waiting : List WatchItem) → opened_as p n (life p items) ≡ Some opened → Fed n items front waiting → stream_next p n items ≡ next_behind_all opened.start front
next_by p n items opened front waiting e h = ap (λ o. next_behind_all (start_of o) (delivered_of n items)) e ∙ ap (next_behind_all opened.start) (delivered_is n items front waiting h)
