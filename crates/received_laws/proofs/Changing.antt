-- What a line tells of a proxy's life: nothing of what was taken, or that it starts, or that one message was taken of a watch that stood.
use Rattle.std.proofs.Common.{◌≡◌, ◌⊎◌, inl, inr, ℕ, Bool, true, false, cond, ◌==◌, List, [], ◌∷◌, ◌++◌, Some, Ok, refl, ap, sym, subst, ◌∙◌}
use Rattle.std.specs.Prelude.{flat_map}
use Rattle.std.specs.BTreeSet.{BTreeSet}
use Rattle.etcd_types.specs.declared.watch.WatchItem.{WatchItem}
use Rattle.core_model.specs.declared.event.CoreEvent.{CoreEvent}
use Rattle.core_model.specs.declared.event.CoreEvent.TheVariants as event
use Rattle.core_model.specs.declared.event.Outcome.{Outcome}
use Rattle.core_model.specs.declared.event.Outcome.TheVariants as outcome
use Rattle.core_model.specs.Step.{stepped}
use Rattle.script_text.specs.declared.item.Item.{Item}
use Rattle.script_text.specs.declared.item.Item.TheVariants as item
use Rattle.world_model.specs.Gains.{Replies, all_fetched, reply_items, taken_items}
use Rattle.world_model.specs.Lives.{life}
use Rattle.world_model.specs.Places.{place_at, with_core}
use Rattle.world_model.specs.Received.{taken_for}
use Rattle.world_model.specs.Sends.{next_call, next_stream}
use Rattle.etcd_types.specs.declared.request.Request.TheVariants as request
use Rattle.world_model.specs.State.{Place, World}
use Rattle.world_laws.proofs.Effects.{Turn, ticks, asks_it, posts_it, calls, opens, closes, answers, loses, delivers, cuts, takes, waits, leaves, Begins, Effect, starts, sets, refuses_post, executes, expires, applies, pushes, turns}
use Rattle.held_laws.proofs.Items.{IsSilent, silent-append, reply_silent, replies_silent}
use Rattle.held_laws.proofs.Lines.{start_silent, started_life}
use Rattle.held_laws.proofs.Worlds.{equal, silent_all, take_silent, take_takes, take_lives}

pub record TakesOne (w : World) (q : ℕ) (gained : List Item) : Type 0 where
  pub ticket : ℕ
  pub message : WatchItem
  pub place : Place
  pub at : place_at w q ≡ Some place
  pub out : (stepped place.core (event.Take ticket) place.clock).outcome ≡ Ok (outcome.Item message)
  pub taken : (t : ℕ) → taken_for q t gained ≡ cond (t == ticket) (message ∷ []) []
  pub lives : (items : List Item) → life q (items ++ gained) ≡ life q items ++ gained

pub record Starts (q : ℕ) (gained : List Item) : Type 0 where
  pub start : Item
  pub alone : gained ≡ start ∷ []
  pub anew : (items : List Item) → life q (items ++ gained) ≡ []

abbrev pub Changes : World → ℕ → List Item → Type 0
Changes w q gained = IsSilent q gained ⊎ (Starts q gained ⊎ TakesOne w q gained)

plain : (w : World) (q : ℕ) (gained : List Item) → IsSilent q gained → Changes w q gained
plain w q gained h = inl h

one_silent : (q p : ℕ) (own : List Item) (posted : BTreeSet ℕ) (got : Replies) (w : World) → IsSilent q own → Changes w q (own ++ flat_map (reply_items p posted) got)
one_silent q p own posted got w h = inl (silent_all q p own posted got h)

start_changes : (w : World) (p clock life' : ℕ) (i : Item) (q : ℕ) → Begins w p clock life' i → Changes w q (i ∷ [])
start_changes w p clock life' i q b = by (q == p) refl
  where
    by : (c : Bool) → (q == p) ≡ c → Changes w q (i ∷ [])
    by true e = inr (inl (record { start = i; alone = refl; anew = λ items. ap (λ (n : ℕ). life n (items ++ i ∷ [])) (equal q p e) ∙ started_life items p clock life' w i b }))
    by false e = inl (start_silent p clock life' w i q e b).0

take_changes : (w : World) (p : ℕ) (x : Place) (ticket : ℕ) (i : WatchItem) (posted posted' : BTreeSet ℕ) (got : Replies) (q : ℕ) → place_at w p ≡ Some x → (stepped x.core (event.Take ticket) x.clock).outcome ≡ Ok (outcome.Item i)
    → Changes w q (taken_items p posted ticket i ++ flat_map (reply_items p posted') got)
take_changes w p x ticket i posted posted' got q at out = by (q == p) refl
  where
    rest : List Item
    rest = flat_map (reply_items p posted') got

    itself : TakesOne w p (taken_items p posted ticket i ++ rest)
    itself = record {
      ticket = ticket;
      message = i;
      place = x;
      at = at;
      out = out;
      taken = take_takes p posted ticket i rest (replies_silent p p posted' got);
      lives = λ items. take_lives items p posted ticket i rest (replies_silent p p posted' got);
    }

    by : (c : Bool) → (q == p) ≡ c → Changes w q (taken_items p posted ticket i ++ rest)
    by true e = subst (λ (n : ℕ). Changes w n (taken_items p posted ticket i ++ rest)) (sym (equal q p e)) (inr (inr itself))
    by false e = inl (silent_all q p (taken_items p posted ticket i) posted' got (take_silent p posted ticket i q e))

turn_changes : (w : World) (p : ℕ) (x : Place) (e : CoreEvent) (o : Outcome) (v : World) (y : Place) (own : List Item) (told : Replies) (posted : BTreeSet ℕ) (got : Replies) (q : ℕ) → place_at w p ≡ Some x → (stepped x.core e x.clock).outcome ≡ Ok o
    → Turn w p (with_core x (stepped x.core e x.clock).core) e o v y own told → Changes w q (own ++ flat_map (reply_items p posted) got)
turn_changes w p x _ _ _ _ _ _ posted got q at out (ticks o) = one_silent q p (item.Ticked p ∷ []) posted got w (record { takes = λ t. refl; lives = λ l. refl })
turn_changes w p x _ _ _ _ _ _ posted got q at out (asks_it ticket r o n) = one_silent q p (item.Asked p ticket r ∷ []) posted got w (record { takes = λ t. refl; lives = λ l. refl })
turn_changes w p x _ _ _ _ _ _ posted got q at out (posts_it ticket path body r o n) =
    one_silent q p _ posted got w (silent-append q (item.Posted p ticket path body ∷ []) (item.Asked p ticket r ∷ []) (record { takes = λ t. refl; lives = λ l. refl }) (record { takes = λ t. refl; lives = λ l. refl }))
turn_changes w p x _ _ _ _ _ _ posted got q at out (calls own member ticket r) = one_silent q p (item.Sent p (next_call w) member ticket r ∷ []) posted got w (record { takes = λ t. refl; lives = λ l. refl })
turn_changes w p x _ _ _ _ _ _ posted got q at out (opens own member ask) = one_silent q p (item.Opened p (next_stream w) member (request.Watch ask) ∷ []) posted got w (record { takes = λ t. refl; lives = λ l. refl })
turn_changes w p x _ _ _ _ _ _ posted got q at out (closes own number e) = one_silent q p (item.Closed p number ∷ []) posted got w (record { takes = λ t. refl; lives = λ l. refl })
turn_changes w p x _ _ _ _ _ _ posted got q at out (answers number call a o e f) = one_silent q p (item.Answered number ∷ []) posted got w (record { takes = λ t. refl; lives = λ l. refl })
turn_changes w p x _ _ _ _ _ _ posted got q at out (loses number call o e) = one_silent q p (item.Lost number ∷ []) posted got w (record { takes = λ t. refl; lives = λ l. refl })
turn_changes w p x _ _ _ _ _ _ posted got q at out (delivers number s i rest o e f g h k) = one_silent q p (item.Delivered number ∷ []) posted got w (record { takes = λ t. refl; lives = λ l. refl })
turn_changes w p x _ _ _ _ _ _ posted got q at out (cuts number s o e f g h) = one_silent q p (item.Cut number ∷ []) posted got w (record { takes = λ t. refl; lives = λ l. refl })
turn_changes w p x _ _ _ _ _ _ posted got q at out (takes ticket i) = take_changes w p x ticket i x.posted posted got q at out
turn_changes w p x _ _ _ _ _ _ posted got q at out (waits ticket o n) = one_silent q p (item.Pending p ticket ∷ []) posted got w (record { takes = λ t. refl; lives = λ l. refl })
turn_changes w p x _ _ _ _ _ _ posted got q at out (leaves ticket o) = one_silent q p (item.Left p ticket ∷ []) posted got w (record { takes = λ t. refl; lives = λ l. refl })

pub effect_changes : (w after : World) (gained : List Item) (q : ℕ) → Effect w after gained → Changes w q gained
effect_changes w _ _ q (starts p clock life' i b) = start_changes w p clock life' i q b
effect_changes w _ _ q (sets p millis x e forward) = plain w q _ (record { takes = λ t. refl; lives = λ l. refl })
effect_changes w _ _ q (refuses_post p ticket path body a x e) =
    plain w q _ (silent-append q (item.Posted p ticket path body ∷ []) _ (record { takes = λ t. refl; lives = λ l. refl }) (reply_silent q p _ (ticket, a)))
effect_changes w _ _ q (executes number call e fresh) = plain w q _ (record { takes = λ t. refl; lives = λ l. refl })
effect_changes w _ _ q (expires lease t e due) = plain w q _ (record { takes = λ t. refl; lives = λ l. refl })
effect_changes w _ _ q (applies member revision t e) = plain w q _ (record { takes = λ t. refl; lives = λ l. refl })
effect_changes w _ _ q (pushes number s t i e a b k) = plain w q _ (record { takes = λ t. refl; lives = λ l. refl })
effect_changes w _ _ q (turns p x e o v y own told at out t) = turn_changes w p x e o v y own told (all_fetched y told).place.posted (all_fetched y told).replies q at out t
