-- Items, one behind the other: none of them is of a kind, and a request that was asked waits in time.
use Rattle.std.proofs.Common.{◌≡◌, ℕ, ◌+◌, ◌-◌, ◌≤◌, nat_le, Bool, true, false, cond, not, ◌&&◌, ◌||◌, List, [], ◌∷◌, ◌++◌, append_assoc, append-nil, refl, sym, ◌∙◌, ap, arith}
use Rattle.std.proofs.lemmas.Bool.Decides.{nat_tests}
use Rattle.std.proofs.lemmas.List.Folds.{list_any-append, list_all-append}
use Rattle.std.specs.List.{list_any, list_all}
use Rattle.etcd_types.proofs.Bools.{and_first, and_second, and_both, and_false, or_first, or_second, or_none, not_true, false_not}
use Rattle.etcd_types.specs.declared.request.Request.{Request}
use Rattle.core_model.specs.ClockWork.{request_time}
use Rattle.script_text.specs.declared.item.Item.{Item}
use Rattle.script_text.specs.declared.item.Item.TheVariants as item
use Rattle.world_model.specs.Lives.{begins, clock_of}
use Rattle.world_model.specs.LiveSessions.{is_step_of}
use Rattle.prefix_laws.proofs.Told as told
use Rattle.proxy_model.specs.Limits.{capped}
use Rattle.cause_laws.specs.Causes.{count, is_loss, is_stale_for, Often}
use Rattle.cause_laws.specs.Timeouts.{none, is_late, is_told, TimesOut, InTime}

and_assoc : (a b c : Bool) → a && (b && c) ≡ (a && b) && c
and_assoc true b c = refl
and_assoc false b c = refl

-- ---- one of the items is so

pub or_true : (b : Bool) → b || true ≡ true
or_true true = refl
or_true false = refl

pub any_behind : (f : Item → Bool) (xs ys : List Item) → list_any f ys ≡ true → list_any f (xs ++ ys) ≡ true
any_behind f xs ys h = list_any-append f xs ys ∙ (λ i. list_any f xs || h i) ∙ or_true (list_any f xs)

pub any_front : (f : Item → Bool) (xs ys : List Item) → list_any f xs ≡ true → list_any f (xs ++ ys) ≡ true
any_front f xs ys h = list_any-append f xs ys ∙ (λ i. h i || list_any f ys)

pub none-append : (f : List Item → Item → Bool) (before xs ys : List Item) → none f before (xs ++ ys) ≡ none f before xs && none f (before ++ xs) ys
none-append f before [] ys = ap (λ (b : List Item). none f b ys) (sym (append-nil before))
none-append f before (x ∷ xs) ys =
    ap (λ (b : Bool). not (f before x) && b) (none-append f (before ++ x ∷ []) xs ys ∙ ap (λ (b : List Item). none f (before ++ x ∷ []) xs && none f b ys) (append_assoc before (x ∷ []) xs))
    ∙ and_assoc (not (f before x)) (none f (before ++ x ∷ []) xs) (none f (before ++ x ∷ xs) ys)

-- ---- items with which a proxy does nothing

-- a start or a step of the proxy
abbrev pub stirs : ℕ → List Item → Item → Bool
stirs p before i = begins p i || is_step_of p before i

abbrev pub Quiet : ℕ → List Item → List Item → Type 0
Quiet p items more = none (stirs p) items more ≡ true

pub quiet-append : (p : ℕ) (items xs ys : List Item) → Quiet p items xs → Quiet p (items ++ xs) ys → Quiet p items (xs ++ ys)
quiet-append p items xs ys h k = none-append (stirs p) items xs ys ∙ and_both (none (stirs p) items xs) (none (stirs p) (items ++ xs) ys) h k

pub quiet_lives : (p : ℕ) (items more : List Item) → Quiet p items more → list_any (begins p) more ≡ false
quiet_lives p items [] h = refl
quiet_lives p items (i ∷ more) h =
    or_none (begins p i) (list_any (begins p) more) (or_first (begins p i) (is_step_of p items i) (not_true (stirs p items i) (and_first (not (stirs p items i)) (none (stirs p) (items ++ i ∷ []) more) h)))
    (quiet_lives p (items ++ i ∷ []) more (and_second (not (stirs p items i)) (none (stirs p) (items ++ i ∷ []) more) h))

quiet_late : (p limit : ℕ) (items more : List Item) → Quiet p items more → none (is_late p limit) items more ≡ true
quiet_late p limit items [] h = refl
quiet_late p limit items (i ∷ more) h =
    let still = or_second (begins p i) (is_step_of p items i) (not_true (stirs p items i) (and_first (not (stirs p items i)) (none (stirs p) (items ++ i ∷ []) more) h)) in
    and_both (not (is_late p limit items i)) (none (is_late p limit) (items ++ i ∷ []) more) (false_not (is_late p limit items i) (ap (λ (b : Bool). b && nat_le limit (clock_of p items)) still))
    (quiet_late p limit (items ++ i ∷ []) more (and_second (not (stirs p items i)) (none (stirs p) (items ++ i ∷ []) more) h))

-- ---- how many there are

pub count-append : (f : List Item → Item → Bool) (before xs ys : List Item) → count f before (xs ++ ys) ≡ count f before xs + count f (before ++ xs) ys
count-append f before [] ys = ap (λ (b : List Item). count f b ys) (sym (append-nil before)) ∙ zero_add (count f (before ++ []) ys)
  where
    zero_add : (n : ℕ) → n ≡ 0 + n
    zero_add n = omega (arith)
count-append f before (x ∷ xs) ys =
    ap (λ (n : ℕ). cond (f before x) 1 0 + n) (count-append f (before ++ x ∷ []) xs ys ∙ ap (λ (b : List Item). count f (before ++ x ∷ []) xs + count f b ys) (append_assoc before (x ∷ []) xs))
    ∙ add_assoc (cond (f before x) 1 0) (count f (before ++ x ∷ []) xs) (count f (before ++ x ∷ xs) ys)
  where
    add_assoc : (k m n : ℕ) → k + (m + n) ≡ (k + m) + n
    add_assoc k m n = omega (arith)

count_on : (f : List Item → Item → Bool) (before xs ys : List Item) (n : ℕ) → n ≤ count f before xs → n ≤ count f before (xs ++ ys)
count_on f before xs ys n h = let e = count-append f before xs ys in omega (arith, e, h)

-- one more
count_one : (f : List Item → Item → Bool) (before xs : List Item) (i : Item) (n : ℕ) → f (before ++ xs) i ≡ true → n ≤ count f before xs → n + 1 ≤ count f before (xs ++ i ∷ [])
count_one f before xs i n one h =
    let e = count-append f before xs (i ∷ []) in
    let k : count f (before ++ xs) (i ∷ []) ≡ 1 = ap (λ (b : Bool). cond b 1 0 + 0) one in
    omega (arith, e, k, h)

-- ---- a request that waits

pub record AskTold (items : List Item) (p ticket : ℕ) (q : Request) (at losses stales : ℕ) : Type 0 where
  pub before : List Item
  pub since : List Item
  pub story : items ≡ before ++ item.Asked p ticket q ∷ since
  pub stays : list_any (begins p) since ≡ false
  pub reading : clock_of p before ≡ at
  pub in_time : none (is_late p (at + request_time)) (before ++ item.Asked p ticket q ∷ []) since ≡ true
  pub lost : losses ≤ count (is_loss p ticket) (before ++ item.Asked p ticket q ∷ []) since
  pub stale : stales ≤ count (is_stale_for p ticket) (before ++ item.Asked p ticket q ∷ []) since

pub told_on : (items more : List Item) (p ticket : ℕ) (q : Request) (at losses stales : ℕ) → list_any (begins p) more ≡ false → none (is_late p (at + request_time)) items more ≡ true → AskTold items p ticket q at losses stales → AskTold (items ++ more) p ticket q at losses stales
told_on items more p ticket q at losses stales lives late k =
    let f = is_late p (at + request_time) in
    let so_far = k.before ++ item.Asked p ticket q ∷ [] in
    let same : items ≡ so_far ++ k.since = k.story ∙ sym (append_assoc k.before (item.Asked p ticket q ∷ []) k.since) in
    record {
      before = k.before;
      since = k.since ++ more;
      story = ap (λ (xs : List Item). xs ++ more) k.story ∙ append_assoc k.before (item.Asked p ticket q ∷ k.since) more;
      stays = list_any-append (begins p) k.since more ∙ or_none (list_any (begins p) k.since) (list_any (begins p) more) k.stays lives;
      reading = k.reading;
      in_time = none-append f so_far k.since more ∙ and_both (none f so_far k.since) (none f (so_far ++ k.since) more) k.in_time (ap (λ (xs : List Item). none f xs more) (sym same) ∙ late);
      lost = count_on (is_loss p ticket) so_far k.since more losses k.lost;
      stale = count_on (is_stale_for p ticket) so_far k.since more stales k.stale;
    }

-- so far, as it was told
since_is : (items : List Item) (p ticket : ℕ) (q : Request) (at losses stales : ℕ) → (k : AskTold items p ticket q at losses stales) → items ≡ (k.before ++ item.Asked p ticket q ∷ []) ++ k.since
since_is items p ticket q at losses stales k = k.story ∙ sym (append_assoc k.before (item.Asked p ticket q ∷ []) k.since)

capped_less : (n m : ℕ) → n + 1 ≤ m → capped (n + 1) ≤ m
capped_less n m h = grind (arith, nat_tests, h)

-- where the proxy does nothing
pub told_quiet : (items more : List Item) (p ticket : ℕ) (q : Request) (at losses stales : ℕ) → Quiet p items more → AskTold items p ticket q at losses stales → AskTold (items ++ more) p ticket q at losses stales
told_quiet items more p ticket q at losses stales h k = told_on items more p ticket q at losses stales (quiet_lives p items more h) (quiet_late p (at + request_time) items more h) k

-- ---- a step in time, and one that comes late

early : (now at : ℕ) → nat_le request_time (now - at) ≡ false → nat_le (at + request_time) now ≡ false
early now at h = grind (arith, nat_tests)

late : (now at : ℕ) → nat_le request_time (now - at) ≡ true → nat_le (at + request_time) now ≡ true
late now at h = grind (arith, nat_tests)

-- the proxy's own step comes in time
pub told_step : (items : List Item) (i : Item) (p ticket : ℕ) (q : Request) (at losses stales now : ℕ) → begins p i ≡ false → clock_of p items ≡ now → nat_le request_time (now - at) ≡ false → AskTold items p ticket q at losses stales → AskTold (items ++ i ∷ []) p ticket q at losses stales
told_step items i p ticket q at losses stales now lives clock h k =
    told_on items (i ∷ []) p ticket q at losses stales (or_none (begins p i) false lives refl)
    (and_both (not (is_late p (at + request_time) items i)) true
    (false_not (is_late p (at + request_time) items i) (ap (λ (n : ℕ). is_step_of p items i && nat_le (at + request_time) n) clock ∙ ap (λ (b : Bool). is_step_of p items i && b) (early now at h) ∙ and_false (is_step_of p items i))) refl) k

late_none : (items : List Item) (i : Item) (p ticket : ℕ) (q : Request) (at losses stales now : ℕ) → clock_of p items ≡ now → nat_le request_time (now - at) ≡ false → (k : AskTold items p ticket q at losses stales)
    → none (is_late p (at + request_time)) (k.before ++ item.Asked p ticket q ∷ []) (k.since ++ i ∷ []) ≡ true
late_none items i p ticket q at losses stales now clock h k =
    let f = is_late p (at + request_time) in
    let so_far = k.before ++ item.Asked p ticket q ∷ [] in
    let here : f items i ≡ false = ap (λ (n : ℕ). is_step_of p items i && nat_le (at + request_time) n) clock ∙ ap (λ (b : Bool). is_step_of p items i && b) (early now at h) ∙ and_false (is_step_of p items i) in
    none-append f so_far k.since (i ∷ [])
    ∙ and_both (none f so_far k.since) (none f (so_far ++ k.since) (i ∷ [])) k.in_time
    (ap (λ (xs : List Item). not (f xs i) && true) (sym (since_is items p ticket q at losses stales k)) ∙ and_both (not (f items i)) true (false_not (f items i) here) refl)

-- and a call that is lost with it is one more
pub told_loss : (items : List Item) (i : Item) (p ticket : ℕ) (q : Request) (at losses stales now : ℕ) → begins p i ≡ false → clock_of p items ≡ now → nat_le request_time (now - at) ≡ false → is_loss p ticket items i ≡ true → AskTold items p ticket q at losses stales
    → AskTold (items ++ i ∷ []) p ticket q at (capped (losses + 1)) stales
told_loss items i p ticket q at losses stales now lives clock h one k =
    record {
      before = k.before;
      since = k.since ++ i ∷ [];
      story = ap (λ (xs : List Item). xs ++ i ∷ []) k.story ∙ append_assoc k.before (item.Asked p ticket q ∷ k.since) (i ∷ []);
      stays = list_any-append (begins p) k.since (i ∷ []) ∙ or_none (list_any (begins p) k.since) (list_any (begins p) (i ∷ [])) k.stays (or_none (begins p i) false lives refl);
      reading = k.reading;
      in_time = late_none items i p ticket q at losses stales now clock h k;
      lost = capped_less losses _ (count_one (is_loss p ticket) (k.before ++ item.Asked p ticket q ∷ []) k.since i losses (ap (λ (xs : List Item). is_loss p ticket xs i) (sym (since_is items p ticket q at losses stales k)) ∙ one) k.lost);
      stale = count_on (is_stale_for p ticket) (k.before ++ item.Asked p ticket q ∷ []) k.since (i ∷ []) stales k.stale;
    }

pub told_stale : (items : List Item) (i : Item) (p ticket : ℕ) (q : Request) (at losses stales now : ℕ) → begins p i ≡ false → clock_of p items ≡ now → nat_le request_time (now - at) ≡ false → is_stale_for p ticket items i ≡ true → AskTold items p ticket q at losses stales
    → AskTold (items ++ i ∷ []) p ticket q at losses (capped (stales + 1))
told_stale items i p ticket q at losses stales now lives clock h one k = record {
  before = k.before;
  since = k.since ++ i ∷ [];
  story = ap (λ (xs : List Item). xs ++ i ∷ []) k.story ∙ append_assoc k.before (item.Asked p ticket q ∷ k.since) (i ∷ []);
  stays = list_any-append (begins p) k.since (i ∷ []) ∙ or_none (list_any (begins p) k.since) (list_any (begins p) (i ∷ [])) k.stays (or_none (begins p i) false lives refl);
  reading = k.reading;
  in_time = late_none items i p ticket q at losses stales now clock h k;
  lost = count_on (is_loss p ticket) (k.before ++ item.Asked p ticket q ∷ []) k.since (i ∷ []) losses k.lost;
  stale = capped_less stales _ (count_one (is_stale_for p ticket) (k.before ++ item.Asked p ticket q ∷ []) k.since i stales (ap (λ (xs : List Item). is_stale_for p ticket xs i) (sym (since_is items p ticket q at losses stales k)) ∙ one) k.stale);
}

-- so often, with replies behind
pub told_often : (f : ℕ → ℕ → List Item → Item → Bool) (items more : List Item) (p ticket : ℕ) (q : Request) (at losses stales limit : ℕ) → (k : AskTold items p ticket q at losses stales) → limit ≤ count (f p ticket) (k.before ++ item.Asked p ticket q ∷ []) k.since → list_all is_told more ≡ true
    → Often f (items ++ more) p ticket q limit
told_often f items more p ticket q at losses stales limit k l all =
    record { before = k.before; since = k.since; told = more; story = ap (λ (xs : List Item). xs ++ more) k.story; stays = k.stays; often = l; replies = all }

pub often_on : (f : ℕ → ℕ → List Item → Item → Bool) (items more : List Item) (p ticket : ℕ) (asked : Request) (limit : ℕ) → list_all is_told more ≡ true → Often f items p ticket asked limit → Often f (items ++ more) p ticket asked limit
often_on f items more p ticket asked limit all o = record {
  before = o.before;
  since = o.since;
  told = o.told ++ more;
  story = ap (λ (xs : List Item). xs ++ more) o.story ∙ append_assoc (o.before ++ item.Asked p ticket asked ∷ o.since) o.told more;
  stays = o.stays;
  often = o.often;
  replies = list_all-append is_told o.told more ∙ and_both (list_all is_told o.told) (list_all is_told more) o.replies all;
}

-- it waits in time
abbrev pub in_time_of : (items : List Item) (p ticket : ℕ) (q : Request) (at losses stales : ℕ) → AskTold items p ticket q at losses stales → InTime items p ticket
in_time_of items p ticket q at losses stales k =
    record { before = k.before; asked = q; since = k.since; story = k.story; stays = k.stays; in_time = ap (λ (n : ℕ). none (is_late p (n + request_time)) (k.before ++ item.Asked p ticket q ∷ []) k.since) k.reading ∙ k.in_time }

-- and with replies behind
pub in_time_on : (items more : List Item) (p ticket : ℕ) → Quiet p items more → InTime items p ticket → InTime (items ++ more) p ticket
in_time_on items more p ticket quiet k =
    let f = is_late p (clock_of p k.before + request_time) in
    let so_far = k.before ++ item.Asked p ticket k.asked ∷ [] in
    let same : items ≡ so_far ++ k.since = k.story ∙ sym (append_assoc k.before (item.Asked p ticket k.asked ∷ []) k.since) in
    record {
      before = k.before;
      asked = k.asked;
      since = k.since ++ more;
      story = ap (λ (xs : List Item). xs ++ more) k.story ∙ append_assoc k.before (item.Asked p ticket k.asked ∷ k.since) more;
      stays = list_any-append (begins p) k.since more ∙ or_none (list_any (begins p) k.since) (list_any (begins p) more) k.stays (quiet_lives p items more quiet);
      in_time = none-append f so_far k.since more
          ∙ and_both (none f so_far k.since) (none f (so_far ++ k.since) more) k.in_time (ap (λ (xs : List Item). none f xs more) (sym same) ∙ quiet_late p (clock_of p k.before + request_time) items more quiet);
    }

pub told_late : (items : List Item) (i : Item) (more : List Item) (p ticket : ℕ) (q : Request) (at losses stales now : ℕ) → is_step_of p items i ≡ true → clock_of p items ≡ now → nat_le request_time (now - at) ≡ true → list_all is_told more ≡ true → AskTold items p ticket q at losses stales
    → TimesOut (items ++ i ∷ more) p ticket
told_late items i more p ticket q at losses stales now steps clock h all k = record {
  before = k.before;
  asked = q;
  since = k.since;
  step = i;
  told = more;
  story = ap (λ (xs : List Item). xs ++ i ∷ more) k.story;
  stays = k.stays;
  in_time = ap (λ (n : ℕ). none (is_late p (n + request_time)) (k.before ++ item.Asked p ticket q ∷ []) k.since) k.reading ∙ k.in_time;
  late =
      ap (λ (xs : List Item). is_late p (clock_of p k.before + request_time) xs i) (sym k.story)
      ∙ (λ j. steps j && nat_le (k.reading j + request_time) (clock j)) ∙ late now at h;
  replies = all;
}

-- more replies behind it
pub times_on : (items more : List Item) (p ticket : ℕ) → list_all is_told more ≡ true → TimesOut items p ticket → TimesOut (items ++ more) p ticket
times_on items more p ticket all t = record {
  before = t.before;
  asked = t.asked;
  since = t.since;
  step = t.step;
  told = t.told ++ more;
  story = ap (λ (xs : List Item). xs ++ more) t.story ∙ append_assoc (t.before ++ item.Asked p ticket t.asked ∷ t.since) (t.step ∷ t.told) more;
  stays = t.stays;
  in_time = t.in_time;
  late = t.late;
  replies = list_all-append is_told t.told more ∙ and_both (list_all is_told t.told) (list_all is_told more) t.replies all;
}

-- ---- replies

same_told : (i : Item) → told.is_told i ≡ is_told i
same_told (item.Reply p t a) = refl
same_told (item.Body p t status text) = refl
same_told (item.World members namespace leasing) = refl
same_told (item.Started p) = refl
same_told (item.Restarted p) = refl
same_told (item.Clock p millis) = refl
same_told (item.Asked p t q) = refl
same_told (item.Posted p t path body) = refl
same_told (item.Ticked p) = refl
same_told (item.Sent p call member t q) = refl
same_told (item.Opened p stream member q) = refl
same_told (item.Closed p stream) = refl
same_told (item.Executed call a) = refl
same_told (item.Answered call) = refl
same_told (item.Lost call) = refl
same_told (item.Pushed stream i) = refl
same_told (item.Delivered stream) = refl
same_told (item.Cut stream) = refl
same_told (item.Taken p t i) = refl
same_told (item.Pending p t) = refl
same_told (item.Left p t) = refl
same_told (item.Expired lease) = refl
same_told (item.Applied member revision) = refl

pub all_told : (xs : List Item) → list_all told.is_told xs ≡ true → list_all is_told xs ≡ true
all_told [] h = refl
all_told (x ∷ xs) h = and_both (is_told x) (list_all is_told xs) (sym (same_told x) ∙ and_first (told.is_told x) (list_all told.is_told xs) h) (all_told xs (and_second (told.is_told x) (list_all told.is_told xs) h))

-- the proxy does nothing with one
reply_still : (p : ℕ) (before : List Item) (i : Item) → is_told i ≡ true → stirs p before i ≡ false
reply_still p before (item.Reply n t a) h = refl
reply_still p before (item.Body n t status text) h = refl
reply_still p before (item.World members namespace leasing) h = absurd (cc)
reply_still p before (item.Started n) h = absurd (cc)
reply_still p before (item.Restarted n) h = absurd (cc)
reply_still p before (item.Clock n millis) h = absurd (cc)
reply_still p before (item.Asked n t q) h = absurd (cc)
reply_still p before (item.Posted n t path body) h = absurd (cc)
reply_still p before (item.Ticked n) h = absurd (cc)
reply_still p before (item.Sent n call member t q) h = absurd (cc)
reply_still p before (item.Opened n stream member q) h = absurd (cc)
reply_still p before (item.Closed n stream) h = absurd (cc)
reply_still p before (item.Executed call a) h = absurd (cc)
reply_still p before (item.Answered call) h = absurd (cc)
reply_still p before (item.Lost call) h = absurd (cc)
reply_still p before (item.Pushed stream i) h = absurd (cc)
reply_still p before (item.Delivered stream) h = absurd (cc)
reply_still p before (item.Cut stream) h = absurd (cc)
reply_still p before (item.Taken n t i) h = absurd (cc)
reply_still p before (item.Pending n t) h = absurd (cc)
reply_still p before (item.Left n t) h = absurd (cc)
reply_still p before (item.Expired lease) h = absurd (cc)
reply_still p before (item.Applied member revision) h = absurd (cc)

pub replies_quiet : (p : ℕ) (before xs : List Item) → list_all is_told xs ≡ true → Quiet p before xs
replies_quiet p before [] h = refl
replies_quiet p before (x ∷ xs) h =
    and_both (not (stirs p before x)) (none (stirs p) (before ++ x ∷ []) xs) (false_not (stirs p before x) (reply_still p before x (and_first (is_told x) (list_all is_told xs) h)))
    (replies_quiet p (before ++ x ∷ []) xs (and_second (is_told x) (list_all is_told xs) h))
