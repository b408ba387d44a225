-- The request that is due first comes first among all due calls of requests.
use Rattle.std.proofs.Common.{◌≡◌, ℕ, Bool, true, false, not, cond, ◌||◌, ◌&&◌, ◌==◌, nat_lt, List, [], ◌∷◌, ◌++◌, Option, None, Some, refl, sym, ◌∙◌, ap, arith}
use Rattle.std.specs.List.{flat_map, list_all}
use Rattle.std.proofs.lemmas.Bool.Decides.{nat_tests}
use Rattle.etcd_types.proofs.Bools.{and_first, and_second, not_true}
use Rattle.wait_model.specs.declared.sending.Sending.TheVariants as sending
use Rattle.wait_model.specs.declared.due.JobKind.TheVariants.{Call}
use Rattle.wait_model.specs.DueOrder.{place_at, is_earlier}
use Rattle.read_model.specs.declared.asked.Asked.{Asked}
use Rattle.read_model.specs.declared.asked.Stage.{Stage}
use Rattle.read_model.specs.declared.asked.Stage.TheVariants as stage
use Rattle.core_model.specs.DueJobs.{DueJob, ForAsk, ForGroup, Placed, placed, lease_of, due_stage, due_ask, earlier, earliest}
use Rattle.core_model.specs.Lookups.{ask_at}
use Rattle.known_asks.specs.Marks.{stage_number}
use Rattle.known_asks.specs.Firsts.{is_due, due_place, none_due, IsFirstDueOf}
use Rattle.due_order.specs.Parts.{with_first_ask}
use Rattle.due_order.proofs.Streams.{chosen}

abbrev job_in : Asked → Stage → DueJob
job_in a (stage.Grouped s) = ForGroup (lease_of a.request) a.ticket
job_in a _ = ForAsk a

abbrev placed_ask : Asked → Placed
placed_ask a = placed (due_place a) (job_in a a.stage)

due_is : (a : Asked) (s : Stage) → is_due s ≡ true → due_stage a s ≡ placed (place_at (stage_number s) Call a.ticket) (job_in a s) ∷ []
due_is a (stage.Calling (sending.Due since)) e = refl
due_is a (stage.Calling (sending.Out call)) e = absurd (cc)
due_is a stage.Acquiring e = absurd (cc)
due_is a stage.Joined e = absurd (cc)
due_is a stage.Behind e = absurd (cc)
due_is a stage.Writes e = absurd (cc)
due_is a (stage.Grouped None) e = absurd (cc)
due_is a (stage.Grouped (Some (sending.Due since))) e = refl
due_is a (stage.Grouped (Some (sending.Out call))) e = absurd (cc)
due_is a (stage.Replied v) e = absurd (cc)

not_due : (a : Asked) (s : Stage) → is_due s ≡ false → due_stage a s ≡ []
not_due a (stage.Calling (sending.Due since)) e = absurd (cc)
not_due a (stage.Calling (sending.Out call)) e = refl
not_due a stage.Acquiring e = refl
not_due a stage.Joined e = refl
not_due a stage.Behind e = refl
not_due a stage.Writes e = refl
not_due a (stage.Grouped None) e = refl
not_due a (stage.Grouped (Some (sending.Due since))) e = absurd (cc)
not_due a (stage.Grouped (Some (sending.Out call))) e = refl
not_due a (stage.Replied v) e = refl

-- one that isn't due changes nothing, and one that is comes in its place
passed : (first : Option Placed) (a : Asked) (ps : List Placed) → is_due a.stage ≡ false → earliest first (due_ask a ++ ps) ≡ earliest first ps
passed first a ps e = ap (λ qs. earliest first (qs ++ ps)) (not_due a a.stage e)

taken : (first : Option Placed) (a : Asked) (ps : List Placed) → is_due a.stage ≡ true → earliest first (due_ask a ++ ps) ≡ earliest (Some (earlier first (placed_ask a))) ps
taken first a ps e = ap (λ qs. earliest first (qs ++ ps)) (due_is a a.stage e)

none_first : (first : Option Placed) (xs : List Asked) → none_due xs ≡ true → earliest first (flat_map due_ask xs) ≡ first
none_first first [] h = refl
none_first first (a ∷ xs) h =
    passed first a (flat_map due_ask xs) (not_true (is_due a.stage) (and_first (not (is_due a.stage)) (none_due xs) h)) ∙
    none_first first xs (and_second (not (is_due a.stage)) (none_due xs) h)

-- none that is due is sent before it
abbrev no_sooner : Asked → Asked → Bool
no_sooner r a = not (is_due a.stage) || not (is_earlier (due_place a) (due_place r))

not_earlier : (b c : Bool) → b ≡ true → not b || not c ≡ true → c ≡ false
not_earlier true c e f = not_true c f
not_earlier false c e f = absurd (cc)

stays : (r : Asked) (first : Option Placed) (xs : List Asked) → list_all (no_sooner r) xs ≡ true → earliest (Some (earlier first (placed_ask r))) (flat_map due_ask xs) ≡ Some (earlier first (placed_ask r))
stays r first [] h = refl
stays r first (a ∷ xs) h =
    one (stays r first xs (and_second (no_sooner r a) (list_all (no_sooner r) xs) h)) (is_due a.stage) refl
  where
    one : earliest (Some (earlier first (placed_ask r))) (flat_map due_ask xs) ≡ Some (earlier first (placed_ask r)) → (b : Bool) → is_due a.stage ≡ b → earliest (Some (earlier first (placed_ask r))) (due_ask a ++ flat_map due_ask xs) ≡ Some (earlier first (placed_ask r))
    one rest false e = passed (Some (earlier first (placed_ask r))) a (flat_map due_ask xs) e ∙ rest
    one rest true e =
        let later : is_earlier (due_place a) (due_place r) ≡ false = not_earlier (is_due a.stage) (is_earlier (due_place a) (due_place r)) e (and_first (no_sooner r a) (list_all (no_sooner r) xs) h) in
        taken (Some (earlier first (placed_ask r))) a (flat_map due_ask xs) e ∙
        ap (λ p. earliest (Some p) (flat_map due_ask xs)) (chosen first (placed_ask a) (placed_ask r) ∙ ap (λ b. cond b (earlier first (placed_ask a)) (earlier first (placed_ask r))) later) ∙ rest

other_sooner : (n t m u : ℕ) → (t == u) ≡ false → nat_lt n m || ((n == m) && nat_lt t u) ≡ false → nat_lt m n || ((m == n) && nat_lt u t) ≡ true
other_sooner n t m u d e = grind (arith, nat_tests)

found : (r : Asked) (first : Option Placed) (xs : List Asked) → ask_at r.ticket xs ≡ Some r → is_due r.stage ≡ true → list_all (no_sooner r) xs ≡ true → earliest first (flat_map due_ask xs) ≡ Some (earlier first (placed_ask r))
found r first [] t d h = absurd (cc)
found r first (a ∷ xs) t d h =
    one (λ q e. found r q xs e d (and_second (no_sooner r a) (list_all (no_sooner r) xs) h)) (a.ticket == r.ticket) refl t
  where
    sooner : (a.ticket == r.ticket) ≡ false → is_due a.stage ≡ true → is_earlier (due_place r) (due_place a) ≡ true
    sooner s e =
        other_sooner (stage_number a.stage) a.ticket (stage_number r.stage) r.ticket s
        (not_earlier (is_due a.stage) (is_earlier (due_place a) (due_place r)) e (and_first (no_sooner r a) (list_all (no_sooner r) xs) h))

    later : ((q : Option Placed) → ask_at r.ticket xs ≡ Some r → earliest q (flat_map due_ask xs) ≡ Some (earlier q (placed_ask r))) → (a.ticket == r.ticket) ≡ false → ask_at r.ticket xs ≡ Some r → (b : Bool) → is_due a.stage ≡ b → earliest first (due_ask a ++ flat_map due_ask xs) ≡ Some (earlier first (placed_ask r))
    later k s t false e = passed first a (flat_map due_ask xs) e ∙ k first t
    later k s t true e =
        taken first a (flat_map due_ask xs) e ∙ k (Some (earlier first (placed_ask a))) t ∙
        ap Some (chosen first (placed_ask r) (placed_ask a) ∙ ap (λ b. cond b (earlier first (placed_ask r)) (earlier first (placed_ask a))) (sooner s e))

    one : ((q : Option Placed) → ask_at r.ticket xs ≡ Some r → earliest q (flat_map due_ask xs) ≡ Some (earlier q (placed_ask r))) → (b : Bool) → (a.ticket == r.ticket) ≡ b → cond b (Some a) (ask_at r.ticket xs) ≡ Some r → earliest first (due_ask a ++ flat_map due_ask xs) ≡ Some (earlier first (placed_ask r))
    one k true s e =
        let is : a ≡ r = cc in
        ap (λ x. earliest first (due_ask x ++ flat_map due_ask xs)) is ∙ taken first r (flat_map due_ask xs) d ∙ stays r first xs (and_second (no_sooner r a) (list_all (no_sooner r) xs) h)
    one k false s e = later k s e (is_due a.stage) refl

-- the one that is due first among requests comes first among their due calls
pub asks_first : (first : Option Placed) (xs : List Asked) (o : Option Asked) → IsFirstDueOf o xs → with_first_ask first o ≡ earliest first (flat_map due_ask xs)
asks_first first xs None h = sym (none_first first xs h)
asks_first first xs (Some r) h =
    ap (λ ps. earliest first ps) (due_is r r.stage h.due) ∙ sym (found r first xs h.there h.due h.first)
