-- What is left to be made, from where the code stands in a loop.
use Rattle.std.proofs.Common.{◌≡◌, ◌<◌, ◌≤◌, ℕ, suc, ◌+◌, ◌-◌, Bool, true, false, not, sym, ◌∙◌, ap, subst, arith}
use Rattle.replay_generated.specs.Made.{Made, IsOf, IsDue, is_due, Makes, makes, Turns, turns}
use Rattle.world_model.specs.Generated.{Making, sends, sends_if, send_one, pushes, push_one, turn, settles, settles_if, rounds, round}

-- the code stands at a making from which the rest leads to this one
pub record Reaches (y : Made) (rest : Making → Making) (end : Making) : Type 0 where
  pub at : Making
  pub is : IsOf y at
  pub same : rest at ≡ end

-- The code came from the one to the other, and what is left to do from there makes the whole.
pub data Leads (whole rest : Making → Making) (x y : Made) : Type 0 where
  leads : ((m : Making) → IsOf x m → Reaches y rest (whole m)) → Leads whole rest x y

begins : (whole rest : Making → Making) (x : Made) → ((m : Making) → rest m ≡ whole m) → Leads whole rest x x
begins whole rest x e = leads (λ m h. record { at = m; is = h; same = e m })

goes_on : (whole rest step next : Making → Making) (x y z : Made) → ((m : Making) → IsOf y m → rest m ≡ next (step m)) → Leads whole rest x y → Makes step y z → Leads whole next x z
goes_on whole rest step next x y z e (leads f) (makes g) =
    leads (λ m h. let r = f m h in record { at = step r.at; is = g r.at r.is; same = sym (e r.at r.is) ∙ r.same })

-- this step is all that is left
ends : (whole rest step : Making → Making) (x y z : Made) → ((m : Making) → IsOf y m → rest m ≡ step m) → Leads whole rest x y → Makes step y z → Makes whole x z
ends whole rest step x y z e (leads f) (makes g) =
    makes (λ m h. let r = f m h in subst (λ (n : Making). IsOf z n) (sym (e r.at r.is) ∙ r.same) (g r.at r.is))

-- nothing is left
is_done : (whole rest : Making → Making) (x y : Made) → ((m : Making) → IsOf y m → rest m ≡ m) → Leads whole rest x y → Makes whole x y
is_done whole rest x y e (leads f) =
    makes (λ m h. let r = f m h in subst (λ (n : Making). IsOf y n) (sym (e r.at r.is) ∙ r.same) r.is)

one_less : (most counter : ℕ) → counter < most → most - counter ≡ suc (most - (counter + 1))
one_less most counter h = omega arith

none_left : (most counter : ℕ) → most ≤ counter → most - counter ≡ 0
none_left most counter h = omega arith

all_left : (most : ℕ) → most - 0 ≡ most
all_left most = omega arith

-- Sending.

pub sends_first : (x : Made) (most p : ℕ) → Leads (sends most p) (sends (most - 0) p) x x
sends_first x most p = begins (sends most p) (sends (most - 0) p) x (λ m. ap (λ (n : ℕ). sends n p m) (all_left most))

due_so : (n p : ℕ) (due b : Bool) (x : Made) → due ≡ b → IsDue p due x → (m : Making) → IsOf x m → sends (suc n) p m ≡ sends_if b (sends n p) p m
due_so n p due b x e (is_due f) m h = ap (λ (d : Bool). sends_if d (sends n p) p m) (f m h ∙ e)

pub sends_more : (x y z : Made) (most counter p : ℕ) (due : Bool) → counter < most → due ≡ true → IsDue p due y → Makes (send_one p) y z → Leads (sends most p) (sends (most - counter) p) x y → Leads (sends most p) (sends (most - (counter + 1)) p) x z
sends_more x y z most counter p due h e d s l =
    goes_on (sends most p) (sends (most - counter) p) (send_one p) (sends (most - (counter + 1)) p) x y z
    (λ m i. ap (λ (n : ℕ). sends n p m) (one_less most counter h) ∙ due_so (most - (counter + 1)) p due true y e d m i) l s

pub sends_no_more : (x y : Made) (most counter p : ℕ) (due : Bool) → counter < most → due ≡ false → IsDue p due y → Leads (sends most p) (sends (most - counter) p) x y → Makes (sends most p) x y
sends_no_more x y most counter p due h e d l =
    is_done (sends most p) (sends (most - counter) p) x y
    (λ m i. ap (λ (n : ℕ). sends n p m) (one_less most counter h) ∙ due_so (most - (counter + 1)) p due false y e d m i) l

pub sends_all : (x y : Made) (most counter p : ℕ) → most ≤ counter → Leads (sends most p) (sends (most - counter) p) x y → Makes (sends most p) x y
sends_all x y most counter p h l = is_done (sends most p) (sends (most - counter) p) x y (λ m i. ap (λ (n : ℕ). sends n p m) (none_left most counter h)) l

-- Pushing.

pub pushes_first : (x : Made) (count : ℕ) → Leads (pushes count 1) (pushes (count - 0) 1) x x
pushes_first x count = begins (pushes count 1) (pushes (count - 0) 1) x (λ m. ap (λ (n : ℕ). pushes n 1 m) (all_left count))

pub pushes_more : (x y z : Made) (count at : ℕ) → at < count → Makes (push_one (at + 1)) y z → Leads (pushes count 1) (pushes (count - at) (at + 1)) x y → Leads (pushes count 1) (pushes (count - (at + 1)) (at + 1 + 1)) x z
pushes_more x y z count at h s l =
    goes_on (pushes count 1) (pushes (count - at) (at + 1)) (push_one (at + 1)) (pushes (count - (at + 1)) (at + 1 + 1)) x y z (λ m i. ap (λ (n : ℕ). pushes n (at + 1) m) (one_less count at h)) l s

pub pushes_done : (x y : Made) (count at : ℕ) → count ≤ at → Leads (pushes count 1) (pushes (count - at) (at + 1)) x y → Makes (pushes count 1) x y
pushes_done x y count at h l = is_done (pushes count 1) (pushes (count - at) (at + 1)) x y (λ m i. ap (λ (n : ℕ). pushes n (at + 1) m) (none_left count at h)) l

-- Settling.

pub settles_first : (x : Made) (most : ℕ) → Leads (settles most) (settles (most - 0)) x x
settles_first x most = begins (settles most) (settles (most - 0)) x (λ m. ap (λ (n : ℕ). settles n m) (all_left most))

turned : (y z : Made) (n : ℕ) (more : Bool) → Turns more y z → (m : Making) → IsOf y m → settles (suc n) m ≡ settles_if (not more) (settles n) (turn m)
turned y z n more (turns f) m h = ap (λ (b : Bool). settles_if b (settles n) (turn m)) (f m h).more_is

makes_turn : {y z : Made} {more : Bool} → Turns more y z → Makes turn y z
makes_turn (turns f) = makes (λ m h. (f m h).is)

pub settles_more : (x y z : Made) (most counter : ℕ) (more : Bool) → counter < most → more ≡ true → Turns more y z → Leads (settles most) (settles (most - counter)) x y → Leads (settles most) (settles (most - (counter + 1))) x z
settles_more x y z most counter more h e t l =
    let so : Turns true y z = subst (λ (b : Bool). Turns b y z) e t in
    goes_on (settles most) (settles (most - counter)) turn (settles (most - (counter + 1))) x y z
    (λ m i. ap (λ (n : ℕ). settles n m) (one_less most counter h) ∙ turned y z (most - (counter + 1)) true so m i) l (makes_turn so)

pub settled : (x y z : Made) (most counter : ℕ) (more : Bool) → counter < most → more ≡ false → Turns more y z → Leads (settles most) (settles (most - counter)) x y → Makes (settles most) x z
settled x y z most counter more h e t l =
    let so : Turns false y z = subst (λ (b : Bool). Turns b y z) e t in
    ends (settles most) (settles (most - counter)) turn x y z
    (λ m i. ap (λ (n : ℕ). settles n m) (one_less most counter h) ∙ turned y z (most - (counter + 1)) false so m i) l (makes_turn so)

pub settles_done : (x y : Made) (most counter : ℕ) → most ≤ counter → Leads (settles most) (settles (most - counter)) x y → Makes (settles most) x y
settles_done x y most counter h l = is_done (settles most) (settles (most - counter)) x y (λ m i. ap (λ (n : ℕ). settles n m) (none_left most counter h)) l

-- Rounds.

pub rounds_first : (x : Made) (count : ℕ) → Leads (rounds count 1) (rounds (count - 0) 1) x x
rounds_first x count = begins (rounds count 1) (rounds (count - 0) 1) x (λ m. ap (λ (n : ℕ). rounds n 1 m) (all_left count))

pub rounds_more : (x y z : Made) (count at : ℕ) → at < count → Makes (round (at + 1)) y z → Leads (rounds count 1) (rounds (count - at) (at + 1)) x y → Leads (rounds count 1) (rounds (count - (at + 1)) (at + 1 + 1)) x z
rounds_more x y z count at h s l =
    goes_on (rounds count 1) (rounds (count - at) (at + 1)) (round (at + 1)) (rounds (count - (at + 1)) (at + 1 + 1)) x y z (λ m i. ap (λ (n : ℕ). rounds n (at + 1) m) (one_less count at h)) l s

pub rounds_done : (x y : Made) (count at : ℕ) → count ≤ at → Leads (rounds count 1) (rounds (count - at) (at + 1)) x y → Makes (rounds count 1) x y
rounds_done x y count at h l = is_done (rounds count 1) (rounds (count - at) (at + 1)) x y (λ m i. ap (λ (n : ℕ). rounds n (at + 1) m) (none_left count at h)) l
