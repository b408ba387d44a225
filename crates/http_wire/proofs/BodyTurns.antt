-- Turns at a body, among all the bytes ahead.
use Rattle.std.proofs.Common.{◌≡◌, ℕ, zero, suc, ◌-◌, ◌<◌, ◌≤◌, true, false, refl, List, [], ◌++◌, length, take, drop, sym, ap, ◌∙◌, subst, arith, Option, Some, None, Ok, Err, length-append, length-take, append_assoc, append-nil}
use Rattle.std.proofs.lemmas.Bool.{ltb-false, le-ltb, lt-ltb}
use Rattle.std.proofs.lemmas.List.{take-append-le, drop-append-le}
use Rattle.std.specs.Io.KnownBytes.{prepend_known}
use Rattle.http_wire.specs.declared.fault.WireFault.{WireFault}
use Rattle.http_wire.specs.declared.fault.WireFault.TheVariants.{BodyTooLong}
use Rattle.http_wire.specs.declared.message.Framing.{Framing}
use Rattle.http_wire.specs.declared.body.Next.{Next}
use Rattle.http_wire.specs.declared.body.Next.TheVariants as next
use Rattle.http_wire.specs.Bodies.{Content, Ended, Broken, only, after, exceeds, lessened, content, IsEnd, IsBroken, WholeRead}
use Rattle.http_wire.specs.Held.{ReadsAhead}
use Rattle.http_wire.specs.Steps.{over, spent, Claims, Readied, NextRead, KnownAhead, BodyTurn, Pends}

-- ---- at the end

-- the body has ended: none of it is left, and this follows it
IsOver : Content → List ℕ → Type 0
IsOver c rest = (c.bytes ≡ []) × IsEnd c.end rest

over_only : (c : Content) (rest : List ℕ) → c ≡ only (Ended rest) → IsOver c rest
unfolding IsOver
over_only c rest e = (ap (λ (x : Content). x.bytes) e, subst (λ (x : Content). IsEnd x.end rest) (sym e) refl)

ended_content : (f : Framing) (n : Next) (all mid : List ℕ) → NextRead f all mid (Ok n) → Readied n mid (Ok 0) → (most : Option ℕ) → IsOver (content most f all) mid
unfolding IsOver
ended_content f (next.Counted m) all mid read none most = over_only (content most f all) mid (read most ∙ none most)
ended_content f (next.Chunk m) all mid read none most = over_only (content most f all) mid (read most ∙ none most)
ended_content f next.ToEnd all mid read none most = over_only (content most f all) mid (read most ∙ none most)
ended_content f next.Done all mid read none most = read most

pub turn_ended : (most : ℕ) (f : Framing) (n : Next) (count : ℕ) (before : List ℕ) (a m r : Option (List ℕ)) → ReadsAhead (NextRead f) a m (Ok n)
    → KnownAhead (λ all. Readied n all (Ok count)) m r → count ≡ 0 → ReadsAhead (BodyTurn most f f before before) a r (Ok false)
unfolding IsOver
turn_ended most f n count before None m r read none zero_is = tt
turn_ended most f n count before (Some all) None r read none zero_is = absurd read
turn_ended most f n count before (Some all) (Some mid) None read none zero_is = absurd none
turn_ended most f n zero before (Some all) (Some mid) (Some rest) read none zero_is =
    let within : Option ℕ = Some (most - length before) in
    let ended = ended_content f n all mid read none.1 within in
    (refl, ended.0, subst (IsEnd (content within f all).end) (sym none.0) ended.1)
turn_ended most f n (suc k) before (Some all) (Some mid) (Some rest) read none zero_is = absurd (omega arith)

-- ---- beyond the limit

-- what is stated is within the limit, so only a body to the end of the input can go beyond it
over_content : (f : Framing) (n : Next) (room count : ℕ) (all mid : List ℕ) → NextRead f all mid (Ok n) → over (Some room) n ≡ false
    → Claims n count → room < count → count ≤ length mid → IsBroken (content (Some room) f all).end BodyTooLong
over_content f (next.Counted m) room count all mid read e claim more fits = absurd (omega (arith, ltb-false room m e))
over_content f (next.Chunk m) room count all mid read e claim more fits = absurd (omega (arith, ltb-false room m e))
over_content f next.ToEnd room count all mid read e claim more fits =
    let long : room < length mid = omega arith in
    let is : content (Some room) f all ≡ record { bytes = mid; end = Broken BodyTooLong } =
    read (Some room) ∙ rw (lt-ltb room (length mid) long) refl in
    subst (λ (c : Content). IsBroken c.end BodyTooLong) (sym is) refl
over_content f next.Done room count all mid read e claim more fits = absurd (omega arith)

pub turn_over : (most : ℕ) (f : Framing) (n : Next) (count : ℕ) (before : List ℕ) (a m r : Option (List ℕ)) → ReadsAhead (NextRead f) a m (Ok n)
    → KnownAhead (λ all. Readied n all (Ok count)) m r → over (Some (most - length before)) n ≡ false
    → Claims n count → most - length before < count → ReadsAhead (BodyTurn most f f before before) a r (Err BodyTooLong)
turn_over most f n count before None m r read ready e claim more = tt
turn_over most f n count before (Some all) None r read ready e claim more = absurd read
turn_over most f n count before (Some all) (Some mid) None read ready e claim more = absurd ready
turn_over most f n zero before (Some all) (Some mid) (Some rest) read ready e claim more = absurd (omega arith)
turn_over most f n (suc k) before (Some all) (Some mid) (Some rest) read ready e claim more =
    λ _. over_content f n (most - length before) (suc k) all mid read e claim more ready.1.0

-- ---- more of it

pub more_content : (f : Framing) (n : Next) (count : ℕ) (all mid : List ℕ) (most : Option ℕ) → NextRead f all mid (Ok n) → Readied n mid (Ok count)
    → over most n ≡ false → Claims n count → 0 < count → (k : ℕ) → k ≤ count → exceeds most k ≡ false
    → content most f all ≡ after (take k mid) (content (lessened most k) (spent n k) (drop k mid))
more_content f n zero all mid most read ready e claim some k few within = absurd (omega arith)
more_content f (next.Counted m) (suc c) all mid most read ready e claim some k few within = read most ∙ ready.1 most e k few within
more_content f (next.Chunk m) (suc c) all mid most read ready e claim some k few within = read most ∙ ready.1 most e k few within
more_content f next.ToEnd (suc c) all mid most read ready e claim some k few within = read most ∙ ready.1 most e k few within
more_content f next.Done (suc c) all mid most read ready e claim some k few within = absurd (omega arith)

pub turn_more : (most : ℕ) (f : Framing) (n : Next) (count : ℕ) (before now held : List ℕ) (a m b : Option (List ℕ)) → ReadsAhead (NextRead f) a m (Ok n)
    → KnownAhead (λ all. Readied n all (Ok count)) m (prepend_known held b) → over (Some (most - length before)) n ≡ false
    → Claims n count → 0 < count → count ≤ length held → count ≤ most - length before → now ≡ before ++ take count held
    → ReadsAhead (BodyTurn most f (spent n count) before now) a (prepend_known (drop count held) b) (Ok true)
turn_more most f n count before now held None m b read ready e claim some fits room is = tt
turn_more most f n count before now held (Some all) None b read ready e claim some fits room is = absurd read
turn_more most f n count before now held (Some all) (Some mid) None read ready e claim some fits room is = absurd ready
turn_more most f n count before now held (Some all) (Some mid) (Some left) read ready e claim some fits room is =
    let room_left = most - length before in
    let left_room : room_left - count ≡ most - length now =
    omega (arith, ap length is, length-append before (take count held), length-take count held) in
    let front : take count mid ≡ take count held = ap (take count) (sym ready.0) ∙ take-append-le count held left fits in
    let back : drop count mid ≡ drop count held ++ left = ap (drop count) (sym ready.0) ∙ drop-append-le count held left fits in (
      take count held,
      is,
      more_content f n count all mid (Some room_left) read ready.1 e claim some count (omega arith) (le-ltb room_left count room)
          ∙ (λ i. after (front i) (content (Some (left_room i)) (spent n count) (back i))),
    )

-- ---- one turn after the other

pub pends_first : (most : ℕ) (f : Framing) (a : Option (List ℕ)) → Pends most f a [] f a
pends_first most f None = tt
pends_first most f (Some all) =
    let same : most ≡ most - 0 = omega arith in
    ap (λ (m : ℕ). content (Some m) f all) same

after_after : (xs ys : List ℕ) (c : Content) → after xs (after ys c) ≡ after (xs ++ ys) c
after_after xs ys c = λ i. record { bytes = sym (append_assoc xs ys c.bytes) i; end = c.end }

pub pends_more : (most : ℕ) (f g h : Framing) (before now : List ℕ) (o a b : Option (List ℕ)) → Pends most f o before g a
    → ReadsAhead (BodyTurn most g h before now) a b (Ok true) → Pends most f o now h b
pends_more most f g h before now None a b pends turn = tt
pends_more most f g h before now (Some all) None b pends turn = absurd pends
pends_more most f g h before now (Some all) (Some mid) None pends turn = absurd turn
pends_more most f g h before now (Some all) (Some mid) (Some rest) pends turn =
    let c = content (Some (most - length now)) h rest in
    pends ∙ ap (after before) turn.2 ∙ after_after before turn.0 c ∙ ap (λ (l : List ℕ). after l c) (sym turn.1)

pub pends_end : (most : ℕ) (f g h : Framing) (before now : List ℕ) (o a b : Option (List ℕ)) → Pends most f o before g a
    → ReadsAhead (BodyTurn most g h before now) a b (Ok false) → ReadsAhead (WholeRead most f) o b (Ok now)
pends_end most f g h before now None a b pends turn = tt
pends_end most f g h before now (Some all) None b pends turn = absurd pends
pends_end most f g h before now (Some all) (Some mid) None pends turn = absurd turn
pends_end most f g h before now (Some all) (Some mid) (Some rest) pends turn = (
  turn.0 ∙ sym (append-nil before) ∙ ap (λ (l : List ℕ). before ++ l) (sym turn.1) ∙ ap (λ (c : Content). c.bytes) (sym pends),
  subst (λ (c : Content). IsEnd c.end rest) (sym pends) turn.2,
)

pub pends_broken : (most : ℕ) (f g h : Framing) (before now : List ℕ) (fault : WireFault) (o a b : Option (List ℕ)) → Pends most f o before g a
    → ReadsAhead (BodyTurn most g h before now) a b (Err fault) → ReadsAhead (WholeRead most f) o b (Err fault)
pends_broken most f g h before now fault None a b pends turn = tt
pends_broken most f g h before now fault (Some all) None b pends turn = absurd pends
pends_broken most f g h before now fault (Some all) (Some mid) None pends turn = absurd turn
pends_broken most f g h before now fault (Some all) (Some mid) (Some rest) pends turn =
    λ of_bytes. subst (λ (c : Content). IsBroken c.end fault) (sym pends) (turn of_bytes)
