-- From what is told without the namespace to what the history has under it: each key of what was told had the namespace.
use Rattle.std.proofs.Common.{◌≡◌, ℕ, ◌≤◌, Bool, true, false, cond, ◌&&◌, ◌==◌, nat_le, nat_lt, List, [], ◌∷◌, ◌++◌, map, filter, length, Option, None, Some, Ok, Err, refl, ap, sym, subst, ◌∙◌, arith}
use Rattle.std.specs.Prelude.{filter_map, ok_or}
use Rattle.std.proofs.lemmas.Bool.Decides.{nat_tests}
use Rattle.etcd_types.specs.declared.record.Kv.{Kv}
use Rattle.etcd_types.specs.declared.request.WatchAsk.{WatchAsk}
use Rattle.etcd_types.specs.declared.watch.Change.{Change}
use Rattle.etcd_types.specs.declared.watch.Change.TheVariants as change
use Rattle.etcd_types.specs.declared.watch.Event.{Event}
use Rattle.proxy_model.specs.Prefixes.{without, under}
use Rattle.proxy_model.specs.Unwrapped.{Unwrapped, ◌>>=◌, key_without, record_without, change_without}
use Rattle.store_model.specs.Events.{events_after, change_revision, change_passes, event_revision}
use Rattle.store_model.specs.History.{History}
use Rattle.watch_model.specs.Joining.{watched_range}
use Rattle.watch_model.specs.Story.{between, changes, wanted, story_of}
use Rattle.world_model.specs.Received.{is_from, history_events, stored_record, stored_change}
use Rattle.held_laws.proofs.Pushes.{Whole}
use Rattle.held_laws.proofs.Stories.{Strips, story_by, picked-between}

-- ---- two ways to see a change without the namespace: another one is left out, or stands as it is

if_own : Change → Unwrapped Change → Option Change
if_own c (Ok d) = Some d
if_own c (Err k) = None

or_itself : Change → Unwrapped Change → Option Change
or_itself c (Ok d) = Some d
or_itself c (Err k) = Some c

pub own_only : List ℕ → Change → Option Change
own_only namespace c = if_own c (change_without namespace c)

pub own_or_whole : List ℕ → Change → Option Change
own_or_whole namespace c = or_itself c (change_without namespace c)

bound : {A B : Type 0} (r : Unwrapped A) (g : A → Unwrapped B) (y : B) → (r >>= g) ≡ Ok y → (x : A) × (r ≡ Ok x) × (g x ≡ Ok y)
bound (Ok x) g y e = (x, refl, e)
bound (Err k) g y e = absurd (cc)

ok_is : {A : Type 0} (x y : A) → ◌≡◌ {A = Unwrapped A} (Ok x) (Ok y) → x ≡ y
ok_is x y e = cc

some_is : (c d : Change) → Some c ≡ Some d → c ≡ d
some_is c d e = cc

-- a key without the prefix, and with it again
without_is : (p k rest : List ℕ) → without p k ≡ Some rest → p ++ rest ≡ k
without_is [] k rest e = cc
without_is (b ∷ bs) [] rest e = absurd (cc)
without_is (b ∷ bs) (c ∷ cs) rest e = by (b == c) refl e (without_is bs cs rest)
  where
    equal : (x y : ℕ) → (x == y) ≡ true → x ≡ y
    equal x y e = grind (arith, nat_tests)

    by : (t : Bool) → (b == c) ≡ t → cond t (without bs cs) None ≡ Some rest → (without bs cs ≡ Some rest → bs ++ rest ≡ cs) → b ∷ (bs ++ rest) ≡ c ∷ cs
    by true q f ih = λ i. equal b c q i ∷ ih f i
    by false q f ih = absurd (cc)

key_is : (p k rest : List ℕ) → key_without p k ≡ Ok rest → p ++ rest ≡ k
key_is p k rest e = by (without p k) refl e
  where
    by : (o : Option (List ℕ)) → without p k ≡ o → ok_or o k ≡ Ok rest → p ++ rest ≡ k
    by None q f = absurd (cc)
    by (Some r) q f = let one : r ≡ rest = ok_is r rest f in ap (λ (l : List ℕ). p ++ l) (sym one) ∙ without_is p k r q

pub record_is : (p : List ℕ) (kv u : Kv) → record_without p kv ≡ Ok u → stored_record p u ≡ kv
record_is p kv u e =
    let a = bound (key_without p kv.key) (λ k. Ok (record kv { key = k })) u e in
    let one : record kv { key = a.0 } ≡ u = ok_is (record kv { key = a.0 }) u a.2 in
    ap (stored_record p) (sym one) ∙ ap (λ (k : List ℕ). record kv { key = k }) (key_is p kv.key a.0 a.1)

pub change_is : (p : List ℕ) (c d : Change) → change_without p c ≡ Ok d → stored_change p d ≡ c
change_is p (change.Put kv) d e =
    let a = bound (record_without p kv) (λ kv. Ok (change.Put kv)) d e in
    ap (stored_change p) (sym (ok_is (change.Put a.0) d a.2)) ∙ ap (λ (r : Kv). change.Put r) (record_is p kv a.0 a.1)
change_is p (change.Delete key modified) d e =
    let a = bound (key_without p key) (λ key. Ok (change.Delete key modified)) d e in
    ap (stored_change p) (sym (ok_is (change.Delete a.0 modified) d a.2)) ∙ ap (λ (k : List ℕ). change.Delete k modified) (key_is p key a.0 a.1)

-- the revision stays, and whether it passes
kept_revision : (p : List ℕ) (c d : Change) → stored_change p d ≡ c → change_revision d ≡ change_revision c
kept_revision p c (change.Put kv) e = ap change_revision e
kept_revision p c (change.Delete key modified) e = ap change_revision e

kept_passes : (p : List ℕ) (ask : WatchAsk) (c d : Change) → stored_change p d ≡ c → change_passes ask d ≡ change_passes ask c
kept_passes p ask c (change.Put kv) e = ap (change_passes ask) e
kept_passes p ask c (change.Delete key modified) e = ap (change_passes ask) e

pub own_strips : (namespace : List ℕ) → Strips namespace (own_only namespace)
unfolding own_only if_own
own_strips namespace = record {
  own = λ c d e. ap (if_own c) e;
  same = λ c d e. by c d (change_without namespace c) refl e;
}
  where
    by : (c d : Change) (r : Unwrapped Change) → change_without namespace c ≡ r → if_own c r ≡ Some d → change_revision d ≡ change_revision c
    by c d (Ok x) q e = let one : x ≡ d = some_is x d e in kept_revision namespace c d (ap (stored_change namespace) (sym one) ∙ change_is namespace c x q)
    by c d (Err k) q e = absurd (cc)

pub whole_strips : (namespace : List ℕ) → Strips namespace (own_or_whole namespace)
unfolding own_or_whole or_itself
whole_strips namespace = record {
  own = λ c d e. ap (or_itself c) e;
  same = λ c d e. by c d (change_without namespace c) refl e;
}
  where
    by : (c d : Change) (r : Unwrapped Change) → change_without namespace c ≡ r → or_itself c r ≡ Some d → change_revision d ≡ change_revision c
    by c d (Ok x) q e = let one : x ≡ d = some_is x d e in kept_revision namespace c d (ap (stored_change namespace) (sym one) ∙ change_is namespace c x q)
    by c d (Err k) q e = ap change_revision (sym (some_is c d e))

-- ---- what passes

joined : Option Change → List Change → List Change
joined None cs = cs
joined (Some d) cs = d ∷ cs

picked : (f : Change → Option Change) (c : Change) (cs : List Change) → filter_map f (c ∷ cs) ≡ joined (f c) (filter_map f cs)
unfolding joined
picked f c cs = by (f c) refl
  where
    by : (o : Option Change) → f c ≡ o → filter_map f (c ∷ cs) ≡ joined o (filter_map f cs)
    by None e = grind (arith)
    by (Some d) e = grind (arith)

-- which of its kind it is stays
abbrev KeepsKind : List ℕ → (Change → Option Change) → Type 0
KeepsKind namespace f = (ask : WatchAsk) (c d : Change) → f c ≡ Some d → change_passes ask d ≡ change_passes ask c

own_kind : (namespace : List ℕ) → KeepsKind namespace (own_only namespace)
unfolding own_only if_own
own_kind namespace ask c d e = by (change_without namespace c) refl e
  where
    by : (r : Unwrapped Change) → change_without namespace c ≡ r → if_own c r ≡ Some d → change_passes ask d ≡ change_passes ask c
    by (Ok x) q e = kept_passes namespace ask c d (ap (stored_change namespace) (sym (some_is x d e)) ∙ change_is namespace c x q)
    by (Err k) q e = absurd (cc)

whole_kind : (namespace : List ℕ) → KeepsKind namespace (own_or_whole namespace)
unfolding own_or_whole or_itself
whole_kind namespace ask c d e = by (change_without namespace c) refl e
  where
    by : (r : Unwrapped Change) → change_without namespace c ≡ r → or_itself c r ≡ Some d → change_passes ask d ≡ change_passes ask c
    by (Ok x) q e = kept_passes namespace ask c d (ap (stored_change namespace) (sym (some_is x d e)) ∙ change_is namespace c x q)
    by (Err k) q e = ap (change_passes ask) (sym (some_is c d e))

wanted-picked : (namespace : List ℕ) (f : Change → Option Change) → KeepsKind namespace f → (ask : WatchAsk) (cs : List Change) → wanted ask (filter_map f cs) ≡ filter_map f (wanted ask cs)
unfolding joined
wanted-picked namespace f k ask [] = refl
wanted-picked namespace f k ask (c ∷ cs) =
    ap (wanted ask) (picked f c cs) ∙ by (f c) refl (change_passes ask c) refl (wanted-picked namespace f k ask cs)
  where
    by : (o : Option Change) → f c ≡ o → (t : Bool) → change_passes ask c ≡ t → wanted ask (filter_map f cs) ≡ filter_map f (wanted ask cs)
        → wanted ask (joined o (filter_map f cs)) ≡ filter_map f (cond (change_passes ask c) (c ∷ wanted ask cs) (wanted ask cs))
    by None e true q ih = ih ∙ ap (λ o. joined o (filter_map f (wanted ask cs))) (sym e) ∙ sym (picked f c (wanted ask cs)) ∙ ap (λ t. filter_map f (cond t (c ∷ wanted ask cs) (wanted ask cs))) (sym q)
    by None e false q ih = ih ∙ ap (λ t. filter_map f (cond t (c ∷ wanted ask cs) (wanted ask cs))) (sym q)
    by (Some d) e true q ih =
        ap (λ t. cond t (d ∷ wanted ask (filter_map f cs)) (wanted ask (filter_map f cs))) (k ask c d e ∙ q)
        ∙ ap (λ (l : List Change). d ∷ l) ih ∙ ap (λ o. joined o (filter_map f (wanted ask cs))) (sym e) ∙ sym (picked f c (wanted ask cs)) ∙ ap (λ t. filter_map f (cond t (c ∷ wanted ask cs) (wanted ask cs))) (sym q)
    by (Some d) e false q ih =
        ap (λ t. cond t (d ∷ wanted ask (filter_map f cs)) (wanted ask (filter_map f cs))) (k ask c d e ∙ q)
        ∙ ih ∙ ap (λ t. filter_map f (cond t (c ∷ wanted ask cs) (wanted ask cs))) (sym q)

-- ---- where both ways tell the same, every change was the namespace's own

fewer : (namespace : List ℕ) (cs : List Change) → length (filter_map (own_only namespace) cs) ≤ length cs
unfolding joined own_only if_own
fewer namespace [] = omega arith
fewer namespace (c ∷ cs) = subst (λ (l : List Change). length l ≤ length (c ∷ cs)) (sym (picked (own_only namespace) c cs)) (by (change_without namespace c) (fewer namespace cs))
  where
    by : (r : Unwrapped Change) → length (filter_map (own_only namespace) cs) ≤ length cs → length (joined (if_own c r) (filter_map (own_only namespace) cs)) ≤ length (c ∷ cs)
    by (Ok d) l = omega (arith, l)
    by (Err k) l = omega (arith, l)

as_many : (namespace : List ℕ) (cs : List Change) → length (filter_map (own_or_whole namespace) cs) ≡ length cs
unfolding joined own_or_whole or_itself
as_many namespace [] = refl
as_many namespace (c ∷ cs) = ap length (picked (own_or_whole namespace) c cs) ∙ by (change_without namespace c) (as_many namespace cs)
  where
    by : (r : Unwrapped Change) → length (filter_map (own_or_whole namespace) cs) ≡ length cs → length (joined (or_itself c r) (filter_map (own_or_whole namespace) cs)) ≡ length (c ∷ cs)
    by (Ok d) l = omega (arith, l)
    by (Err k) l = omega (arith, l)

same_rest : (d e : Change) (xs ys : List Change) → d ∷ xs ≡ e ∷ ys → xs ≡ ys
same_rest d e xs ys q = cc

pub all_own : (namespace : List ℕ) (cs : List Change) → filter_map (own_only namespace) cs ≡ filter_map (own_or_whole namespace) cs → map (stored_change namespace) (filter_map (own_only namespace) cs) ≡ cs
unfolding joined own_only if_own own_or_whole or_itself
all_own namespace [] e = refl
all_own namespace (c ∷ cs) e =
    ap (map (stored_change namespace)) (picked (own_only namespace) c cs)
    ∙ by (change_without namespace c) refl (sym (picked (own_only namespace) c cs) ∙ e ∙ picked (own_or_whole namespace) c cs) (all_own namespace cs)
  where
    by : (r : Unwrapped Change) → change_without namespace c ≡ r → joined (if_own c r) (filter_map (own_only namespace) cs) ≡ joined (or_itself c r) (filter_map (own_or_whole namespace) cs)
        → (filter_map (own_only namespace) cs ≡ filter_map (own_or_whole namespace) cs → map (stored_change namespace) (filter_map (own_only namespace) cs) ≡ cs)
        → map (stored_change namespace) (joined (if_own c r) (filter_map (own_only namespace) cs)) ≡ c ∷ cs
    by (Ok d) q f ih = λ i. change_is namespace c d q i ∷ ih (same_rest d d (filter_map (own_only namespace) cs) (filter_map (own_or_whole namespace) cs) f) i
    by (Err k) q f ih =
        let l : length (filter_map (own_only namespace) cs) ≡ length (c ∷ filter_map (own_or_whole namespace) cs) = ap length f in
        let a = fewer namespace cs in
        let b = as_many namespace cs in
        absurd (omega (arith, l, a, b))

-- of a watch of which both hold
pub told_is : (namespace : List ℕ) (whole : Whole) (ask : WatchAsk) (start next : ℕ) (told : List Change)
    → told ≡ wanted ask (between start next (story_by (own_only namespace) namespace whole ask.range)) → told ≡ wanted ask (between start next (story_by (own_or_whole namespace) namespace whole ask.range))
    → map (stored_change namespace) told ≡ wanted ask (between start next (story_of whole.history (under namespace ask.range)))
told_is namespace whole ask start next told a b =
    let cs = story_of whole.history (under namespace ask.range) in
    let one : told ≡ filter_map (own_only namespace) (wanted ask (between start next cs)) = a ∙ ap (wanted ask) (picked-between namespace (own_only namespace) (own_strips namespace) start next cs) ∙ wanted-picked namespace (own_only namespace) (own_kind namespace) ask (between start next cs) in
    let two : told ≡ filter_map (own_or_whole namespace) (wanted ask (between start next cs)) = b ∙ ap (wanted ask) (picked-between namespace (own_or_whole namespace) (whole_strips namespace) start next cs) ∙ wanted-picked namespace (own_or_whole namespace) (whole_kind namespace) ask (between start next cs) in
    ap (map (stored_change namespace)) one ∙ all_own namespace (wanted ask (between start next cs)) (sym one ∙ two)

-- ---- the history's events of the watch, as the transcripts' law has them

mapped-filter : {X Y : Type 0} (g : X → Y) (p : Y → Bool) (xs : List X) → map g (filter (λ x. p (g x)) xs) ≡ filter p (map g xs)
mapped-filter g p [] = refl
mapped-filter g p (x ∷ xs) = elim (p (g x)) as (λ b. map g (cond b (x ∷ filter (λ x. p (g x)) xs) (filter (λ x. p (g x)) xs)) ≡ cond b (g x ∷ filter p (map g xs)) (filter p (map g xs))) [
  | true ↦ ap (λ l. g x ∷ l) (mapped-filter g p xs)
  | false ↦ mapped-filter g p xs
]

-- the tests one after the other
pub in_turn : {X : Type 0} (p q r : X → Bool) (xs : List X) → filter r (filter q (filter p xs)) ≡ filter q (filter (λ x. p x && r x) xs)
in_turn p q r [] = refl
in_turn p q r (x ∷ xs) =
    elim (p x) as (λ b. filter r (filter q (cond b (x ∷ filter p xs) (filter p xs))) ≡ filter q (cond (b && r x) (x ∷ filter (λ x. p x && r x) xs) (filter (λ x. p x && r x) xs))) [
      | false ↦ in_turn p q r xs
      | true ↦ by (q x) refl (r x) refl (in_turn p q r xs)
    ]
  where
    by : (b : Bool) → q x ≡ b → (c : Bool) → r x ≡ c → filter r (filter q (filter p xs)) ≡ filter q (filter (λ x. p x && r x) xs)
        → filter r (cond (q x) (x ∷ filter q (filter p xs)) (filter q (filter p xs))) ≡ filter q (cond (r x) (x ∷ filter (λ x. p x && r x) xs) (filter (λ x. p x && r x) xs))
    by true e true f ih =
        ap (λ b. filter r (cond b (x ∷ filter q (filter p xs)) (filter q (filter p xs)))) e ∙ ap (λ c. cond c (x ∷ filter r (filter q (filter p xs))) (filter r (filter q (filter p xs)))) f
        ∙ ap (λ l. x ∷ l) ih ∙ ap (λ b. cond b (x ∷ filter q (filter (λ x. p x && r x) xs)) (filter q (filter (λ x. p x && r x) xs))) (sym e)
        ∙ ap (λ c. filter q (cond c (x ∷ filter (λ x. p x && r x) xs) (filter (λ x. p x && r x) xs))) (sym f)
    by true e false f ih =
        ap (λ b. filter r (cond b (x ∷ filter q (filter p xs)) (filter q (filter p xs)))) e ∙ ap (λ c. cond c (x ∷ filter r (filter q (filter p xs))) (filter r (filter q (filter p xs)))) f
        ∙ ih ∙ ap (λ c. filter q (cond c (x ∷ filter (λ x. p x && r x) xs) (filter (λ x. p x && r x) xs))) (sym f)
    by false e true f ih =
        ap (λ b. filter r (cond b (x ∷ filter q (filter p xs)) (filter q (filter p xs)))) e ∙ ih
        ∙ ap (λ b. cond b (x ∷ filter q (filter (λ x. p x && r x) xs)) (filter q (filter (λ x. p x && r x) xs))) (sym e)
        ∙ ap (λ c. filter q (cond c (x ∷ filter (λ x. p x && r x) xs) (filter (λ x. p x && r x) xs))) (sym f)
    by false e false f ih =
        ap (λ b. filter r (cond b (x ∷ filter q (filter p xs)) (filter q (filter p xs)))) e ∙ ih
        ∙ ap (λ c. filter q (cond c (x ∷ filter (λ x. p x && r x) xs) (filter (λ x. p x && r x) xs))) (sym f)

-- the changes of those below a revision
pub history_changes : (namespace : List ℕ) (whole : History) (ask : WatchAsk) (start next : ℕ)
    → map (λ e. e.change) (filter (λ e. nat_lt (event_revision e) next) (history_events whole namespace ask start)) ≡ wanted ask (between start next (story_of whole (under namespace (watched_range ask.range))))
history_changes namespace whole ask start next =
    let all = events_after (under namespace (watched_range ask.range)) [] whole in
    let below : Change → Bool = λ c. nat_lt (change_revision c) next in
    let from : Change → Bool = λ c. nat_le start (change_revision c) in
    mapped-filter (λ (e : Event). e.change) below (history_events whole namespace ask start)
    ∙ ap (filter below) (mapped-filter (λ (e : Event). e.change) (change_passes ask) (filter (is_from start) all))
    ∙ ap (λ (l : List Change). filter below (filter (change_passes ask) l)) (mapped-filter (λ (e : Event). e.change) from all)
    ∙ in_turn from (change_passes ask) below (changes all)
