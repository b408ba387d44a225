-- Turns at a line, one after the other.
use Rattle.std.proofs.Common.{◌≡◌, ℕ, ◌+◌, ◌-◌, ◌<◌, ◌≤◌, IsTrue, refl, List, [], ◌∷◌, ◌++◌, length, take, sym, ap, ◌∙◌, subst, arith, Option, Some, None, Ok, Err, length-append, append_assoc, append-nil, inl, inr}
use Rattle.std.proofs.lemmas.List.{take-append-le, nil_from_length}
use Rattle.std.proofs.Math.Seq.{take-append-add}
use Rattle.httparse.specs.Ascii.{line_feed}
use Rattle.http_wire.specs.declared.fault.WireFault.{WireFault}
use Rattle.http_wire.specs.declared.fault.WireFault.TheVariants.{BadHead, HeadTooLong, BodyTooLong, BadChunk, EndedEarly, ReadFault, WriteFault, NoMemory}
use Rattle.http_wire.specs.declared.message.Framing.{Framing}
use Rattle.http_wire.specs.declared.lines.Turn.TheVariants as turn
use Rattle.http_wire.specs.Bodies.{Content, after, content, IsEnd, IsBroken, is_of_bytes, is_unfinished, IsLine, IsLast}
use Rattle.http_wire.specs.Held.{ReadsAhead}
use Rattle.http_wire.specs.Steps.{Breaks, LineTurn, LinePends, NextLine}
use Rattle.http_wire.proofs.LineTurns.{unfinished_append}

after_after : (xs ys : List ℕ) (c : Content) → after xs (after ys c) ≡ after (xs ++ ys) c
after_after xs ys c = λ i. record { bytes = sym (append_assoc xs ys c.bytes) i; end = c.end }

-- what stands behind a piece stands behind what was read before it and the piece
joined : (whole mid rest : Content) (before piece now : List ℕ) → whole ≡ after before mid → mid ≡ after piece rest → now ≡ before ++ piece → whole ≡ after now rest
joined whole mid rest before piece now e f is = e ∙ ap (after before) f ∙ after_after before piece rest ∙ ap (λ (l : List ℕ). after l rest) (sym is)

pub line_first : (f : Framing) (a : Option (List ℕ)) → LinePends f a [] f a
line_first f None = tt
line_first f (Some all) = (refl, refl)

pub line_more : (most : ℕ) (f g h : Framing) (before now : List ℕ) (o a b : Option (List ℕ)) → LinePends f o before g a
    → ReadsAhead (LineTurn most g h before now) a b (Ok turn.More) → LinePends f o now h b
line_more most f g h before now None a b pends turn = tt
line_more most f g h before now (Some all) None b pends turn = absurd pends
line_more most f g h before now (Some all) (Some mid) None pends turn = absurd turn
line_more most f g h before now (Some all) (Some mid) (Some rest) pends turn = (
  subst (λ (l : List ℕ). IsTrue (is_unfinished l)) (sym turn.1) (unfinished_append before turn.0 pends.0 turn.2),
  joined (content None f all) (content None g mid) (content None h rest) before turn.0 now pends.1 turn.3 turn.1,
)

-- a line's end makes what came before it a line
line_ends : (before piece : List ℕ) → IsTrue (is_unfinished before) → IsLine piece → IsLine (before ++ piece)
line_ends before piece h line =
    (before ++ line.0, ap (λ (l : List ℕ). before ++ l) line.1 ∙ sym (append_assoc before line.0 (line_feed ∷ [])), unfinished_append before line.0 h line.2)

pub line_whole : (most : ℕ) (f g h : Framing) (before now : List ℕ) (o a b : Option (List ℕ)) → LinePends f o before g a
    → ReadsAhead (LineTurn most g h before now) a b (Ok turn.Whole) → length now ≤ most → ReadsAhead (NextLine most f h) o b (Ok (Some now))
line_whole most f g h before now None a b pends turn room = tt
line_whole most f g h before now (Some all) None b pends turn room = absurd pends
line_whole most f g h before now (Some all) (Some mid) None pends turn room = absurd turn
line_whole most f g h before now (Some all) (Some mid) (Some rest) pends turn room = (
  room,
  inl (
    subst IsLine (sym turn.1) (line_ends before turn.0 pends.0 turn.2),
    joined (content None f all) (content None g mid) (content None h rest) before turn.0 now pends.1 turn.3 turn.1,
  ),
)

-- the body ends where its line does
last_of : (most : ℕ) (f g h : Framing) (before now all mid rest : List ℕ) → IsTrue (is_unfinished before) → content None f all ≡ after before (content None g mid)
    → LineTurn most g h before now mid rest (Ok turn.Last) → IsLast (content None f all) now rest (content None h rest)
last_of most f g h before now all mid rest unfinished e turn = record {
  bytes = turn.0 ∙ sym (append-nil before) ∙ ap (λ (l : List ℕ). before ++ l) turn.1.bytes ∙ ap (λ (c : Content). c.bytes) (sym e);
  unfinished = subst (λ (l : List ℕ). IsTrue (is_unfinished l)) (sym turn.0) unfinished;
  end = subst (λ (c : Content). IsEnd c.end rest) (sym e) turn.1.end;
  left_is = turn.1.left_is;
}

pub line_last : (most : ℕ) (f g h : Framing) (before now : List ℕ) (o a b : Option (List ℕ)) → LinePends f o before g a
    → ReadsAhead (LineTurn most g h before now) a b (Ok turn.Last) → length now ≤ most → (length now ≡ 0 → ⊥) → ReadsAhead (NextLine most f h) o b (Ok (Some now))
line_last most f g h before now None a b pends turn room some = tt
line_last most f g h before now (Some all) None b pends turn room some = absurd pends
line_last most f g h before now (Some all) (Some mid) None pends turn room some = absurd turn
line_last most f g h before now (Some all) (Some mid) (Some rest) pends turn room some =
    (room, inr (omega arith, last_of most f g h before now all mid rest pends.0 pends.1 turn))

pub line_none : (most : ℕ) (f g h : Framing) (before now : List ℕ) (o a b : Option (List ℕ)) → LinePends f o before g a
    → ReadsAhead (LineTurn most g h before now) a b (Ok turn.Last) → length now ≡ 0 → ReadsAhead (NextLine most f h) o b (Ok None)
line_none most f g h before now None a b pends turn none = tt
line_none most f g h before now (Some all) None b pends turn none = absurd pends
line_none most f g h before now (Some all) (Some mid) None pends turn none = absurd turn
line_none most f g h before now (Some all) (Some mid) (Some rest) pends turn none =
    subst (λ (l : List ℕ). IsLast (content None f all) l rest (content None h rest)) (nil_from_length now (omega arith))
    (last_of most f g h before now all mid rest pends.0 pends.1 turn)

-- ---- faults

-- the rest of the body breaks off before any byte of it
broken_line : (most : ℕ) (f g : Framing) (before all mid : List ℕ) (fault : WireFault) → IsTrue (is_unfinished before) → length before ≤ most
    → content None f all ≡ after before (content None g mid) → Breaks (content None g mid) fault
    → IsTrue (is_of_bytes fault) → (length (content None f all).bytes ≤ most)
    × IsTrue (is_unfinished (content None f all).bytes) × IsBroken (content None f all).end fault
broken_line most f g before all mid fault unfinished room e breaks of_bytes =
    let broken = breaks of_bytes in
    let bytes : (content None f all).bytes ≡ before = ap (λ (c : Content). c.bytes) e ∙ ap (λ (l : List ℕ). before ++ l) broken.0 ∙ append-nil before in (
      omega (arith, ap length bytes),
      subst (λ (l : List ℕ). IsTrue (is_unfinished l)) (sym bytes) unfinished,
      subst (λ (c : Content). IsBroken c.end fault) (sym e) broken.1,
    )

-- a piece goes beyond the limit
long_line : (most : ℕ) (f : Framing) (before piece all : List ℕ) (mid c : Content) → IsTrue (is_unfinished before) → length before ≤ most
    → content None f all ≡ after before mid → mid ≡ after piece c → most < length before + length piece
    → IsTrue (is_unfinished (take (most - length before) piece))
    → (most < length (content None f all).bytes) × IsTrue (is_unfinished (take most (content None f all).bytes))
long_line most f before piece all mid c unfinished room e is long front =
    let k = most - length before in
    let bytes : (content None f all).bytes ≡ before ++ (piece ++ c.bytes) =
    ap (λ (x : Content). x.bytes) (e ∙ ap (after before) is) in
    let at : most ≡ length before + k = omega arith in
    let first : take most (content None f all).bytes ≡ before ++ take k piece =
    ap (take most) bytes ∙ ap (λ (n : ℕ). take n (before ++ (piece ++ c.bytes))) at ∙ take-append-add before (piece ++ c.bytes) k
    ∙ ap (λ (l : List ℕ). before ++ l) (take-append-le k piece c.bytes (omega arith)) in (
      omega (arith, ap length bytes, length-append before (piece ++ c.bytes), length-append piece c.bytes),
      subst (λ (l : List ℕ). IsTrue (is_unfinished l)) (sym first) (unfinished_append before (take k piece) unfinished front),
    )

turn_fault : (most : ℕ) (f g h : Framing) (before now all mid rest : List ℕ) (fault : WireFault) → IsTrue (is_unfinished before) → length before ≤ most
    → content None f all ≡ after before (content None g mid) → LineTurn most g h before now mid rest (Err fault) → NextLine most f h all rest (Err fault)
turn_fault most f g h before now all mid rest BodyTooLong unfinished room e turn =
    long_line most f before turn.0 all (content None g mid) turn.1 unfinished room e turn.2 turn.3 turn.4
turn_fault most f g h before now all mid rest BadHead unfinished room e turn = broken_line most f g before all mid BadHead unfinished room e turn
turn_fault most f g h before now all mid rest HeadTooLong unfinished room e turn = broken_line most f g before all mid HeadTooLong unfinished room e turn
turn_fault most f g h before now all mid rest BadChunk unfinished room e turn = broken_line most f g before all mid BadChunk unfinished room e turn
turn_fault most f g h before now all mid rest EndedEarly unfinished room e turn = broken_line most f g before all mid EndedEarly unfinished room e turn
turn_fault most f g h before now all mid rest ReadFault unfinished room e turn = broken_line most f g before all mid ReadFault unfinished room e turn
turn_fault most f g h before now all mid rest WriteFault unfinished room e turn = broken_line most f g before all mid WriteFault unfinished room e turn
turn_fault most f g h before now all mid rest NoMemory unfinished room e turn = broken_line most f g before all mid NoMemory unfinished room e turn

pub line_fault : (most : ℕ) (f g h : Framing) (before now : List ℕ) (fault : WireFault) (o a b : Option (List ℕ)) → LinePends f o before g a
    → ReadsAhead (LineTurn most g h before now) a b (Err fault) → length before ≤ most → ReadsAhead (NextLine most f h) o b (Err fault)
line_fault most f g h before now fault None a b pends turn room = tt
line_fault most f g h before now fault (Some all) None b pends turn room = absurd pends
line_fault most f g h before now fault (Some all) (Some mid) None pends turn room = absurd turn
line_fault most f g h before now fault (Some all) (Some mid) (Some rest) pends turn room =
    turn_fault most f g h before now all mid rest fault pends.0 room pends.1 turn
