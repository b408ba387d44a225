-- Each item of a replay is in order, and no session expires below its floor.
use Rattle.std.proofs.Common.{◌≡◌, ℕ, nat_le, Bool, true, ◌&&◌, List, [], ◌∷◌, ◌++◌, Some, Ok, refl, sym, ◌∙◌, ap, subst}
use Rattle.std.specs.List.{list_all}
use Rattle.etcd_types.proofs.Bools.{and_first}
use Rattle.prefix_laws.proofs.Told.{AllItems, IsTold, every_item}
use Rattle.renewed_laws.proofs.Worlds.{WorldOk}
use Rattle.script_text.specs.declared.item.Item.{Item}
use Rattle.script_text.specs.declared.item.Item.TheVariants as item
use Rattle.script_text.specs.declared.line.Line.{Line}
use Rattle.script_text.specs.declared.line.Line.TheVariants as line
use Rattle.world_laws.proofs.Effects.{effect}
use Rattle.world_model.specs.State.{World, starting_world}
use Rattle.world_model.specs.Transcript.{done, transcript_from, transcript}
use Rattle.audit_model.specs.Order.{members_of}
use Rattle.audited_replays.specs.Rules.{OfEach, OfReplays, has_members, OrdersAreKept, FloorsAreKept}
use Rattle.ledger_laws.proofs.Worlds.{Begun}
use Rattle.audited_replays.proofs.Lines.{InOrder, InTime, line_in_order, effect_in_time}
use Rattle.audited_replays.proofs.Orders.{Behind}
use Rattle.audited_replays.proofs.Worlds.{Kept, kept, behind_so}

-- the world of these items has 1 to 9 members
abbrev few : List Item → Bool
few items = nat_le 1 (members_of items) && nat_le (members_of items) 9

-- where it has
abbrev Told : (List Item → Item → Type 0) → List Item → Item → Type 0
Told R before i = few (before ++ i ∷ []) ≡ true → R before i

begun_more : (before : List Item) (i : Item) (w : World) → Begun before w → Begun (before ++ i ∷ []) w
begun_more before i w b = record { rest = b.rest ++ i ∷ []; is = ap (λ (xs : List Item). xs ++ i ∷ []) b.is }

enough : (items : List Item) (w : World) → Begun items w → few items ≡ true → nat_le 1 w.members ≡ true
enough items w b p = and_first (nat_le 1 w.members) (nat_le w.members 9) (sym (ap few b.is) ∙ p)

all_lifted : (R : List Item → Item → Type 0) (w : World) (before gained : List Item) → Begun before w → (nat_le 1 w.members ≡ true → AllItems R before gained) → AllItems (Told R) before gained
all_lifted R w before [] b h = tt
all_lifted R w before (i ∷ gained) b h =
    let c = begun_more before i w b in
    (λ p. (h (enough (before ++ i ∷ []) w c p)).0, all_lifted R w (before ++ i ∷ []) gained c (λ e. (h e).1))

-- ---- the first item of a transcript

head_is : (j i : Item) (xs ys : List Item) → i ∷ xs ≡ j ∷ ys → j ≡ i
head_is j i xs ys e = cc

first_of : (earlier later more : List Item) (i : Item) (members : ℕ) (namespace leasing : List ℕ) → item.World members namespace leasing ∷ more ≡ earlier ++ i ∷ later → members ≡ members_of (earlier ++ i ∷ [])
first_of [] later more i members namespace leasing e = ap (λ (j : Item). members_of (j ∷ [])) (sym (head_is i (item.World members namespace leasing) more later e))
first_of (j ∷ earlier) later more i members namespace leasing e =
    ap (λ (k : Item). members_of (k ∷ (earlier ++ i ∷ []))) (sym (head_is j (item.World members namespace leasing) more (earlier ++ i ∷ later) e))

nothing_in : {A : Type 0} (earlier later : List Item) (i : Item) → [] ≡ earlier ++ i ∷ later → A
nothing_in [] later i e = absurd (cc)
nothing_in (j ∷ earlier) later i e = absurd (cc)

few_so : (lines : List Line) → list_all has_members lines ≡ true → (earlier later : List Item) (i : Item) → transcript lines ≡ earlier ++ i ∷ later → few (earlier ++ i ∷ []) ≡ true
few_so [] m earlier later i e = nothing_in earlier later i e
few_so (line.World members namespace leasing ∷ lines) m earlier later i e =
    subst (λ (n : ℕ). nat_le 1 n && nat_le n 9 ≡ true) (first_of earlier later (transcript_from (Some (starting_world members namespace leasing)) lines) i members namespace leasing e)
    (and_first (nat_le 1 members && nat_le members 9) (list_all has_members lines) m)
few_so (line.Start p ∷ lines) m earlier later i e = nothing_in earlier later i e
few_so (line.Clock p millis ∷ lines) m earlier later i e = nothing_in earlier later i e
few_so (line.Ask p ticket q ∷ lines) m earlier later i e = nothing_in earlier later i e
few_so (line.Post p ticket path body ∷ lines) m earlier later i e = nothing_in earlier later i e
few_so (line.Tick p ∷ lines) m earlier later i e = nothing_in earlier later i e
few_so (line.Send p ∷ lines) m earlier later i e = nothing_in earlier later i e
few_so (line.Exec number ∷ lines) m earlier later i e = nothing_in earlier later i e
few_so (line.Answer number ∷ lines) m earlier later i e = nothing_in earlier later i e
few_so (line.Lose number ∷ lines) m earlier later i e = nothing_in earlier later i e
few_so (line.Push number ∷ lines) m earlier later i e = nothing_in earlier later i e
few_so (line.Progress number ∷ lines) m earlier later i e = nothing_in earlier later i e
few_so (line.Deliver number ∷ lines) m earlier later i e = nothing_in earlier later i e
few_so (line.Cut number ∷ lines) m earlier later i e = nothing_in earlier later i e
few_so (line.Take p ticket ∷ lines) m earlier later i e = nothing_in earlier later i e
few_so (line.Leave p ticket ∷ lines) m earlier later i e = nothing_in earlier later i e
few_so (line.Expire lease ∷ lines) m earlier later i e = nothing_in earlier later i e
few_so (line.Apply member revision ∷ lines) m earlier later i e = nothing_in earlier later i e

-- ---- each item

-- what each line keeps, where the world has a member
abbrev LinesKeep : (List Item → Item → Type 0) → Type 0
LinesKeep R = (namespace : List ℕ) (items : List Item) (w : World) (l : Line) (gained : List Item) → (done w l).gained ≡ Ok gained → WorldOk namespace items w → Kept items w → Behind items w → AllItems R items gained

told_so : (R : List Item → Item → Type 0) (script : List Line) → ((members : ℕ) (namespace leasing : List ℕ) → Told R [] (item.World members namespace leasing)) → LinesKeep R → IsTold script Kept (Told R)
told_so R script first keep = record {
  first = first;
  line = λ namespace items w l gained n e ok h. all_lifted R w items gained h.ledger.begun (λ some. keep namespace items w l gained e ok h (behind_so items w some h));
}

pub each_so : (R : List Item → Item → Type 0) → ((members : ℕ) (namespace leasing : List ℕ) → Told R [] (item.World members namespace leasing)) → LinesKeep R → OfReplays (OfEach R)
each_so R first keep lines m short s earlier later i e =
    every_item Kept (Told R) lines (kept lines) (told_so R lines first keep) s earlier later i e (few_so lines m earlier later i e)

pub orders_kept : OrdersAreKept
orders_kept = each_so InOrder (λ members namespace leasing p. p) (λ namespace items w l gained e ok h b. line_in_order namespace items w ok b h.none l gained e)

pub floors_kept : FloorsAreKept
floors_kept = each_so InTime (λ members namespace leasing p. refl) (λ namespace items w l gained e ok h b. effect_in_time namespace items w ok b h.none (done w l).world gained (effect w l gained e))
