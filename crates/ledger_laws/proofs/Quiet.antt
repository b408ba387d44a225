-- Items of a line that tell nothing of a proxy's life: it goes on, no ticket is given in it, and no reply is told.
use Rattle.std.proofs.Common.{◌≡◌, ℕ, ◌==◌, Bool, true, false, cond, ◌&&◌, ◌||◌, List, [], ◌∷◌, ◌++◌, append-nil, refl, sym, ◌∙◌, ap, arith}
use Rattle.std.proofs.lemmas.Bool.Decides.{nat_tests}
use Rattle.std.specs.Prelude.{flat_map}
use Rattle.std.specs.List.{list_all}
use Rattle.std.specs.BTreeSet.{BTreeSet}
use Rattle.std.proofs.lemmas.List.Folds.{list_any-append, list_all-append}
use Rattle.etcd_types.proofs.Bools.{and_first, and_second, and_both}
use Rattle.etcd_types.specs.declared.answer.Answer.{Answer}
use Rattle.script_text.specs.declared.item.Item.{Item}
use Rattle.script_text.specs.declared.item.Item.TheVariants as item
use Rattle.world_model.specs.Gains.{Replies, body_if, reply_items}
use Rattle.world_model.specs.Places.{is_among}
use Rattle.audit_model.specs.Order.{gives_ticket, is_given_ticket, replies_to, is_replied}
use Rattle.core_laws.proofs.Steps.Lists.{number_itself}
use Rattle.renewed_laws.proofs.Lives.{Lives, lives-append}

pub record Quiet (q : ℕ) (more : List Item) : Type 0 where
  pub lives : Lives q more
  pub given : (t : ℕ) → is_given_ticket q t more ≡ false
  pub replied : (t : ℕ) → is_replied q t more ≡ false

pub quiet-append : (q : ℕ) (xs ys : List Item) → Quiet q xs → Quiet q ys → Quiet q (xs ++ ys)
quiet-append q xs ys h k = record {
  lives = lives-append q xs ys h.lives k.lives;
  given = λ t. list_any-append (gives_ticket q t) xs ys ∙ ap (λ b. b || is_given_ticket q t ys) (h.given t) ∙ k.given t;
  replied = λ t. list_any-append (replies_to q t) xs ys ∙ ap (λ b. b || is_replied q t ys) (h.replied t) ∙ k.replied t;
}

quiet_nil : (q : ℕ) → Quiet q []
quiet_nil q = record { lives = λ l. sym (append-nil l); given = λ t. refl; replied = λ t. refl }

-- ---- items of one proxy tell nothing of another

-- what starts a proxy, gives it a ticket or replies to one is of this proxy
abbrev pub is_of : ℕ → Item → Bool
is_of p (item.Started q) = q == p
is_of p (item.Restarted q) = q == p
is_of p (item.Asked q ticket r) = q == p
is_of p (item.Posted q ticket path body) = q == p
is_of p (item.Reply q ticket a) = q == p
is_of p _ = true

-- the proxy is none of these
apart : (p q r : ℕ) → (q == p) ≡ false → (r == p) ≡ true → (r == q) ≡ false
apart p q r n e = grind (arith, nat_tests)

other_one : (p q : ℕ) (i : Item) → (q == p) ≡ false → is_of p i ≡ true → Quiet q (i ∷ [])
other_one p q (item.Started r) n e =
    record { lives = λ l. ap (λ b. cond b [] (l ++ item.Started r ∷ [])) (apart p q r n e); given = λ t. refl; replied = λ t. refl }
other_one p q (item.Restarted r) n e =
    record { lives = λ l. ap (λ b. cond b [] (l ++ item.Restarted r ∷ [])) (apart p q r n e); given = λ t. refl; replied = λ t. refl }
other_one p q (item.Asked r ticket a) n e = record { lives = λ l. refl; given = λ t. ap (λ b. (b && (ticket == t)) || false) (apart p q r n e); replied = λ t. refl }
other_one p q (item.Posted r ticket path body) n e = record { lives = λ l. refl; given = λ t. ap (λ b. (b && (ticket == t)) || false) (apart p q r n e); replied = λ t. refl }
other_one p q (item.Reply r ticket a) n e = record { lives = λ l. refl; given = λ t. refl; replied = λ t. ap (λ b. (b && (ticket == t)) || false) (apart p q r n e) }
other_one p q _ n e = record { lives = λ l. refl; given = λ t. refl; replied = λ t. refl }

pub other_quiet : (p q : ℕ) (more : List Item) → (q == p) ≡ false → list_all (is_of p) more ≡ true → Quiet q more
other_quiet p q [] n e = quiet_nil q
other_quiet p q (i ∷ more) n e =
    quiet-append q (i ∷ []) more (other_one p q i n (and_first (is_of p i) (list_all (is_of p) more) e)) (other_quiet p q more n (and_second (is_of p i) (list_all (is_of p) more) e))

-- ---- items that start nothing, give no ticket and are no replies

abbrev pub is_aside : Item → Bool
is_aside (item.Started q) = false
is_aside (item.Restarted q) = false
is_aside (item.Asked q ticket r) = false
is_aside (item.Posted q ticket path body) = false
is_aside (item.Reply q ticket a) = false
is_aside _ = true

aside_one : (q : ℕ) (i : Item) → is_aside i ≡ true → Quiet q (i ∷ [])
aside_one q (item.Started r) e = absurd (cc)
aside_one q (item.Restarted r) e = absurd (cc)
aside_one q (item.Asked r ticket a) e = absurd (cc)
aside_one q (item.Posted r ticket path body) e = absurd (cc)
aside_one q (item.Reply r ticket a) e = absurd (cc)
aside_one q _ e = record { lives = λ l. refl; given = λ t. refl; replied = λ t. refl }

pub aside_quiet : (q : ℕ) (more : List Item) → list_all is_aside more ≡ true → Quiet q more
aside_quiet q [] e = quiet_nil q
aside_quiet q (i ∷ more) e =
    quiet-append q (i ∷ []) more (aside_one q i (and_first (is_aside i) (list_all is_aside more) e)) (aside_quiet q more (and_second (is_aside i) (list_all is_aside more) e))

-- so are the items of another proxy
aside_of : (p : ℕ) (i : Item) → is_aside i ≡ true → is_of p i ≡ true
aside_of p (item.Started r) e = absurd (cc)
aside_of p (item.Restarted r) e = absurd (cc)
aside_of p (item.Asked r ticket a) e = absurd (cc)
aside_of p (item.Posted r ticket path body) e = absurd (cc)
aside_of p (item.Reply r ticket a) e = absurd (cc)
aside_of p _ e = refl

pub asides_of : (p : ℕ) (more : List Item) → list_all is_aside more ≡ true → list_all (is_of p) more ≡ true
asides_of p [] e = refl
asides_of p (i ∷ more) e =
    and_both (is_of p i) (list_all (is_of p) more) (aside_of p i (and_first (is_aside i) (list_all is_aside more) e)) (asides_of p more (and_second (is_aside i) (list_all is_aside more) e))

-- ---- the replies of a line

pub replies_of : (p : ℕ) (posted : BTreeSet ℕ) (rs : Replies) → list_all (is_of p) (flat_map (reply_items p posted) rs) ≡ true
replies_of p posted [] = refl
replies_of p posted (r ∷ rs) =
    list_all-append (is_of p) (reply_items p posted r) (flat_map (reply_items p posted) rs)
    ∙ and_both (list_all (is_of p) (reply_items p posted r)) (list_all (is_of p) (flat_map (reply_items p posted) rs)) (one (is_among posted r.0)) (replies_of p posted rs)
  where
    one : (b : Bool) → list_all (is_of p) (item.Reply p r.0 r.1 ∷ body_if b p r.0 r.1) ≡ true
    one true = ap (λ b. b && (true && true)) (number_itself p)
    one false = ap (λ b. b && true) (number_itself p)

pub reply_ungiven : (q p : ℕ) (posted : BTreeSet ℕ) (r : ℕ × Answer) (t : ℕ) → is_given_ticket q t (reply_items p posted r) ≡ false
reply_ungiven q p posted r t = by (is_among posted r.0)
  where
    by : (b : Bool) → is_given_ticket q t (item.Reply p r.0 r.1 ∷ body_if b p r.0 r.1) ≡ false
    by true = refl
    by false = refl

pub replies_ungiven : (q p : ℕ) (posted : BTreeSet ℕ) (rs : Replies) (t : ℕ) → is_given_ticket q t (flat_map (reply_items p posted) rs) ≡ false
replies_ungiven q p posted [] t = refl
replies_ungiven q p posted (r ∷ rs) t =
    list_any-append (gives_ticket q t) (reply_items p posted r) (flat_map (reply_items p posted) rs) ∙ ap (λ b. b || is_given_ticket q t (flat_map (reply_items p posted) rs)) (reply_ungiven q p posted r t) ∙ replies_ungiven q p posted rs t
