-- A pass over writes that rest changes nothing.
use Rattle.std.proofs.Common.{◌≡◌, ℕ, ◌+◌, ◌<◌, Bool, true, false, not, cond, ◌&&◌, ◌||◌, List, [], ◌∷◌, length, take, drop, get_or, Option, None, Some, refl, sym, ◌∙◌, ap, arith}
use mathlib.Core.List.{reverse}
use Rattle.std.specs.List.{list_any}
use Rattle.std.proofs.lemmas.List.{reverse-append, drop_more, take_more}
use Rattle.etcd_types.proofs.Bools.{and_first, and_second, not_true}
use Rattle.proxy_model.specs.declared.lease.Entry.{Entry}
use Rattle.proxy_model.specs.Keyed.{Keyed}
use Rattle.wait_model.specs.declared.write.Write.{Write}
use Rattle.wait_model.specs.declared.write.WriteStage.{WriteStage}
use Rattle.wait_model.specs.declared.write.WriteStage.TheVariants.{Waiting}
use Rattle.wait_model.specs.Covers.{shares}
use Rattle.wait_model.specs.Passes.{goes, turn, Pass, passed}
use Rattle.wait_model.specs.SingleKeys.{Turn}
use Rattle.wait_model.specs.Stages.{is_waiting, is_found_over, staged, stage_on}
use Rattle.revoke_core.specs.declared.rests.Left.{Left}
use Rattle.revoke_core.specs.Rests.{rests, all_rest, first_rests, is_at_rest, IsKnown, known_rest}
use Rattle.revoke_core.proofs.Passing.{any-reverse}

no_turn : (a b : Bool) → not a || b ≡ true → a && not b ≡ false
no_turn true true h = refl
no_turn true false h = absurd (cc h)
no_turn false b h = refl

turn_rests : (step : ℕ) (earlier : List Write) (es : Keyed Entry) (ss : Keyed Bool) (w : Write) → rests earlier w ≡ true → turn step earlier es ss w ≡ record { entries = es; spoiled = ss; write = w }
turn_rests step earlier es ss w h =
    let b = list_any (shares w) earlier in
    let not_over = not_true (is_found_over w.stage) (and_first (not (is_found_over w.stage)) _ h) in
    let stays : stage_on w.stage ≡ w.stage = ap (λ o. cond o Waiting w.stage) not_over in
    let held : is_waiting w.stage && not b ≡ false = no_turn (is_waiting w.stage) b (and_second (not (is_found_over w.stage)) _ h) in
    let by_stage : WriteStage → Turn = λ s. cond (is_waiting s && not b) (goes step es ss (staged w s)) (record { entries = es; spoiled = ss; write = staged w s }) in
    ap by_stage stays ∙ ap (λ c. cond c (goes step es ss w) (record { entries = es; spoiled = ss; write = w })) held

pub pass_rests : (step : ℕ) (earlier : List Write) (es : Keyed Entry) (ss : Keyed Bool) (ws : List Write) → all_rest earlier ws ≡ true → passed step earlier es ss ws ≡ record { entries = es; spoiled = ss; writes = ws }
unfolding passed
pass_rests step earlier es ss [] h = refl
pass_rests step earlier es ss (w ∷ ws) h =
    let after : Turn → Pass = λ t.
    let p = passed step (t.write ∷ earlier) t.entries t.spoiled ws in record { entries = p.entries; spoiled = p.spoiled; writes = t.write ∷ p.writes } in
    let with_first : Pass → Pass = λ p. record { entries = p.entries; spoiled = p.spoiled; writes = w ∷ p.writes } in
    ap after (turn_rests step earlier es ss w (and_first (rests earlier w) _ h)) ∙ ap with_first (pass_rests step (w ∷ earlier) es ss ws (and_second (rests earlier w) _ h))

-- Place by place.

rests-reverse : (w : Write) (earlier : List Write) → rests (reverse earlier) w ≡ rests earlier w
rests-reverse w earlier = ap (λ b. not (is_found_over w.stage) && (not (is_waiting w.stage) || b)) (any-reverse (shares w) earlier)

rest_at : (ws : List Write) (i : ℕ) (d : Write) → i < length ws → all_rest (reverse (take i ws)) (drop i ws) ≡ is_at_rest ws i && all_rest (reverse (take (i + 1) ws)) (drop (i + 1) ws)
rest_at ws i d l =
    let w = get_or ws i d in
    let rest = drop (i + 1) ws in
    let s : drop i ws ≡ w ∷ rest = drop_more ws i d l in
    let t : reverse (take (i + 1) ws) ≡ w ∷ reverse (take i ws) = ap reverse (take_more ws i d l) ∙ reverse-append (take i ws) (w ∷ []) in
    ap (all_rest (reverse (take i ws))) s ∙ ap (λ b. b && all_rest (w ∷ reverse (take i ws)) rest) (rests-reverse w (take i ws) ∙ ap (first_rests (take i ws)) (sym s)) ∙ ap (λ xs. is_at_rest ws i && all_rest xs rest) (sym t)

pub rest_more : (ws : List Write) (i : ℕ) → i < length ws → all_rest (reverse (take i ws)) (drop i ws) ≡ is_at_rest ws i && all_rest (reverse (take (i + 1) ws)) (drop (i + 1) ws)
rest_more [] i l = absurd (omega arith)
rest_more (w ∷ ws) i l = rest_at (w ∷ ws) i w l

-- a write by the slice of those before it
pub rests_before : (ws : List Write) (i : ℕ) (w : Write) → i < length ws → w ≡ get_or ws i w → rests (take i ws) w ≡ is_at_rest ws i
rests_before ws i w l e = ap (rests (take i ws)) e ∙ ap (first_rests (take i ws)) (sym (drop_more ws i w l))

-- What is known.

pub known_all : (o : Option Left) (ws : List Write) → IsKnown o ws → known_rest o ≡ true → all_rest [] ws ≡ true
known_all None ws h k = absurd (cc k)
known_all (Some l) ws h k = sym h.rests ∙ k
