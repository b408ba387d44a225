-- At a key that isn't reached a read comes upon what stood there before, so one that waits there waits on.
use Rattle.std.proofs.Common.{◌≡◌, ℕ, Bool, true, false, not, cond, ◌&&◌, ◌||◌, List, [], ◌∷◌, map, Option, None, Some, refl, sym, ◌∙◌, ap}
use Rattle.std.specs.List.{list_all}
use Rattle.etcd_types.proofs.Bools.{and_first, and_second, and_false, or_none}
use Rattle.etcd_types.specs.declared.key_range.KeyRange.{KeyRange}
use Rattle.etcd_types.specs.Keys.{same, up_to, before, is_zero}
use Rattle.etcd_types.specs.Ranges.{is_one, contains}
use Rattle.known_asks.specs.Changes.{stage_or, staged_by}
use Rattle.known_asks.specs.Waiting.{waits_at_key}
use Rattle.proxy_model.specs.declared.lease.Entry.{Entry}
use Rattle.proxy_model.specs.declared.ownership.Owner.{Owner}
use Rattle.proxy_model.specs.Keyed.{Keyed, at}
use Rattle.proxy_model.specs.LeaseTable.{is_writing}
use Rattle.proxy_model.proofs.KeyedLaws.{same-turned}
use Rattle.read_core.specs.Falls.{stands_on, again_stage}
use Rattle.read_model.specs.declared.acquire.Acquire.{Acquire}
use Rattle.read_model.specs.declared.asked.Asked.{Asked}
use Rattle.read_model.specs.declared.asked.Stage.{Stage}
use Rattle.read_model.specs.PlainRead.{ask_key}
use Rattle.revoke_calls.specs.declared.entries.Fate.TheVariants.{Back}
use Rattle.revoke_calls.specs.declared.left.Left.{Left}
use Rattle.revoke_calls.specs.Ends.{all_wrote}
use Rattle.revoke_calls.specs.Failed.{failed_entries}
use Rattle.revoke_calls.specs.Fates.{settled_entries}
use Rattle.revoke_core.specs.declared.answers.ReadAnswer.{ReadAnswer}
use Rattle.revoke_core.specs.declared.answers.ReadAnswer.TheVariants as read
use Rattle.revoke_core.specs.Readings.{read_entries}
use Rattle.wait_model.specs.declared.write.Write.{Write}
use Rattle.wait_model.specs.Covers.{covered, is_single}
use Rattle.wait_model.specs.GuardedAnswers.{owns_at, is_shown, is_gone}
use Rattle.wait_model.specs.Stages.{is_owner}
use Rattle.wait_model.specs.Phases.{is_of}
use Rattle.write_answers.specs.declared.steps.When.{When}
use Rattle.write_answers.specs.Answered.{AllWait}
use Rattle.write_answers.specs.Reach.{lefts_reach, ranges_reach, reached, at_key}
use Rattle.write_answers.specs.Seen.{What, what_of, stands_by}
use Rattle.write_answers.proofs.Views.{stands_is, stays_if, rescinded_stays, back_is, other_back, none_left, stays_what}

-- What is seen there.

uncovered : (rs : List KeyRange) (k : List ℕ) → ranges_reach rs k ≡ false → covered rs k ≡ false
uncovered [] k h = refl
uncovered (r ∷ []) k h = one (is_one r) refl h
  where
    one : (b : Bool) → is_one r ≡ b → cond b (same r.key k) true ≡ false → contains r k || false ≡ false
    one true e f =
        or_none (contains r k) false (ap (λ b. cond b (same k r.key) (cond (is_zero r.end) (is_zero r.key || up_to r.key k) (up_to r.key k && before k r.end))) e ∙ same-turned k r.key ∙ f) refl
    one false e f = absurd (cc)
uncovered (r ∷ s ∷ rs) k h = absurd (cc)

unowned : (w : Write) (es : Keyed Entry) (k : List ℕ) → ranges_reach w.ranges k ≡ false → owns_at w es k ≡ false
unowned w es k h =
    ap (λ b. (is_owner w.stage && b) && is_writing (at es k)) (uncovered w.ranges k h) ∙ ap (λ b. b && is_writing (at es k)) (and_false (is_owner w.stage))

back_same : (w : Write) (es : Keyed Entry) (k : List ℕ) → owns_at w es k ≡ false → what_of (at (settled_entries Back w es) k) ≡ what_of (at es k)
back_same w es k h = sym (other_back w es k h ∙ back_is w es k)

failed_same : (session : Option ℕ) (w : Write) (os : List Owner) (es : Keyed Entry) (k : List ℕ) → owns_at w es k ≡ false → what_of (at (failed_entries session w os es) k) ≡ what_of (at es k)
failed_same session w os es k h = sym (other_back w es k h ∙ stays_what session w os es k (kept (is_single w.request)))
  where
    kept : (b : Bool) → cond b (owns_at w es k) (is_gone w es os k) ≡ false
    kept true = h
    kept false = ap (λ b. b && not (is_shown es os k)) h

wrote_same : (ls : List Left) (es : Keyed Entry) (k : List ℕ) → lefts_reach ls k ≡ false → what_of (at (all_wrote ls es) k) ≡ what_of (at es k)
wrote_same [] es k h = refl
wrote_same (l ∷ []) es k h = sym (none_left (l ∷ []) es k (ap (λ b. cond b (Some l) None) h))
wrote_same (l ∷ m ∷ ls) es k h = absurd (cc)

pub seen_same : (session : Option ℕ) (r : ReadAnswer) (o : Option Write) (es : Keyed Entry) (k : List ℕ) → reached r o k ≡ false → what_of (at (read_entries session r o es) k) ≡ what_of (at es k)
seen_same session read.Nothing o es k h = refl
seen_same session (read.Rescinded key create) o es k h = sym (rescinded_stays key create es k (ap (λ b. b && is_of create (at es key)) h))
seen_same session (read.Asked held) o es k h = refl
seen_same session (read.AskRefused x) o es k h = refl
seen_same session (read.Refused x) None es k h = refl
seen_same session (read.Refused x) (Some w) es k h = back_same w es k (unowned w es k h)
seen_same session (read.Wrote reply ls) o es k h = wrote_same ls es k h
seen_same session (read.Blocked os) None es k h = refl
seen_same session (read.Blocked os) (Some w) es k h = failed_same session w os es k (unowned w es k h)

-- What becomes of a read there.

stands_on_so : (es fs : Keyed Entry) (acquires : Keyed Acquire) (a : Asked) → what_of (at fs (ask_key a)) ≡ what_of (at es (ask_key a)) → stands_on es acquires a ≡ true → stands_on fs acquires a ≡ true
stands_on_so es fs acquires a e t =
    let k = ask_key a in
    let c = at acquires k in
    sym (stands_is a.ticket (at fs k) c a.stage) ∙ ap (λ (x : What). stands_by a.ticket x.sight c a.stage) e ∙ stands_is a.ticket (at es k) c a.stage ∙ t

-- the stage that it comes into
abbrev pub stage_then : When → ReadAnswer → Option Write → Keyed Entry → Keyed Acquire → Asked → Option Stage
stage_then w r o es = again_stage w.header w.step (read_entries w.session r o es)

waits_on : (w : When) (r : ReadAnswer) (o : Option Write) (es : Keyed Entry) (acquires : Keyed Acquire) (a : Asked) → reached r o (ask_key a) ≡ false → stands_on es acquires a ≡ true → None ≡ stage_then w r o es acquires a
waits_on w r o es acquires a n t =
    let fs = read_entries w.session r o es in
    stays_if w.header w.step fs acquires a (stands_on_so es fs acquires a (seen_same w.session r o es (ask_key a) n) t)

-- All.

-- two rules that are the same for each that waits for what stands
same_stages : (f g : Asked → Option Stage) (es : Keyed Entry) (acquires : Keyed Acquire) (xs : List Asked) → ((a : Asked) → stands_on es acquires a ≡ true → f a ≡ g a) → AllWait es acquires xs → map (staged_by f) xs ≡ map (staged_by g) xs
same_stages f g es acquires [] e h = refl
same_stages f g es acquires (a ∷ xs) e h = λ i.
    stage_or (e a (and_first (stands_on es acquires a) (list_all (stands_on es acquires) xs) h) i) a ∷ same_stages f g es acquires xs e (and_second (stands_on es acquires a) (list_all (stands_on es acquires) xs) h) i

none_changed : (xs : List Asked) → xs ≡ map (staged_by (λ a. None)) xs
none_changed [] = refl
none_changed (a ∷ xs) = ap (λ (l : List Asked). a ∷ l) (none_changed xs)

pub all_wait_on : (w : When) (r : ReadAnswer) (o : Option Write) (es : Keyed Entry) (acquires : Keyed Acquire) (xs : List Asked) → ((k : List ℕ) → false ≡ reached r o k) → AllWait es acquires xs → xs ≡ map (staged_by (stage_then w r o es acquires)) xs
all_wait_on w r o es acquires xs n h =
    none_changed xs ∙ same_stages (λ a. None) (stage_then w r o es acquires) es acquires xs (λ a t. waits_on w r o es acquires a (sym (n (ask_key a))) t) h

pub others_wait_on : (w : When) (r : ReadAnswer) (o : Option Write) (es : Keyed Entry) (acquires : Keyed Acquire) (xs : List Asked) (key : List ℕ) → ((k : List ℕ) → same key k ≡ reached r o k) → AllWait es acquires xs → map (staged_by (at_key key (stage_then w r o es acquires))) xs ≡ map (staged_by (stage_then w r o es acquires)) xs
others_wait_on w r o es acquires xs key n h =
    same_stages (at_key key (stage_then w r o es acquires)) (stage_then w r o es acquires) es acquires xs (λ a t. here a t (same (ask_key a) key) refl) h
  where
    here : (a : Asked) → stands_on es acquires a ≡ true → (b : Bool) → same (ask_key a) key ≡ b → cond b (stage_then w r o es acquires a) None ≡ stage_then w r o es acquires a
    here a t true e = refl
    here a t false e = waits_on w r o es acquires a (sym (n (ask_key a)) ∙ same-turned key (ask_key a) ∙ e) t

-- by the rule for one key what doesn't wait there stays, where by the rule for all what doesn't wait stays
pub at_key_stays : (key : List ℕ) (rule : Asked → Option Stage) (a : Asked) → (waits_at_key a.stage ≡ false → rule a ≡ None) → waits_at_key a.stage && same (ask_key a) key ≡ false → at_key key rule a ≡ None
at_key_stays key rule a stays e = one (waits_at_key a.stage) (same (ask_key a) key) refl e
  where
    one : (w b : Bool) → waits_at_key a.stage ≡ w → w && b ≡ false → cond b (rule a) None ≡ None
    one true true f e = absurd (cc)
    one true false f e = refl
    one false true f e = stays f
    one false false f e = refl
