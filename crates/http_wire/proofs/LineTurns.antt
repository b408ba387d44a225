-- Turns at a line, among all the bytes ahead.
use Rattle.std.proofs.Common.{◌≡◌, ℕ, zero, suc, ◌-◌, ◌<◌, ◌≤◌, Bool, true, false, ◌==◌, IsTrue, refl, List, [], ◌∷◌, ◌++◌, length, take, drop, sym, ap, ◌∙◌, subst, arith, Option, Some, None, Ok, Err, length-append, length-take}
use Rattle.std.proofs.lemmas.List.{take-append-le, drop-append-le, take-take}
use Rattle.std.specs.Io.KnownBytes.{prepend_known}
use Rattle.httparse.specs.Ascii.{line_feed}
use Rattle.http_wire.specs.declared.fault.WireFault.{WireFault}
use Rattle.http_wire.specs.declared.fault.WireFault.TheVariants.{BadHead, HeadTooLong, BodyTooLong, BadChunk, EndedEarly, ReadFault, WriteFault, NoMemory}
use Rattle.http_wire.specs.declared.message.Framing.{Framing}
use Rattle.http_wire.specs.declared.body.Next.{Next}
use Rattle.http_wire.specs.declared.body.Next.TheVariants as next
use Rattle.http_wire.specs.declared.lines.Turn.{Turn}
use Rattle.http_wire.specs.declared.lines.Turn.TheVariants as turn
use Rattle.http_wire.specs.Bodies.{Content, Ended, only, after, content, IsEnd, is_unfinished}
use Rattle.http_wire.specs.Held.{ReadsAhead}
use Rattle.http_wire.specs.Steps.{over, spent, ended, Breaks, IsShort, Claims, Readied, NextRead, KnownAhead, LineIn, IsPiece, LineTurn}
use Rattle.http_wire.proofs.BodyTurns.{more_content}

-- ---- bytes without a line feed

unfinished_parts : (b : ℕ) (bs : List ℕ) → IsTrue (is_unfinished (b ∷ bs)) → ((b == line_feed) ≡ false) × IsTrue (is_unfinished bs)
unfinished_parts b bs h = by_test (b == line_feed) refl h
  where
    by_test : (t : Bool) → (b == line_feed) ≡ t → IsTrue (is_unfinished (b ∷ bs)) → ((b == line_feed) ≡ false) × IsTrue (is_unfinished bs)
    by_test true e h = let wrong : false ≡ true = rw e at h in cc
    by_test false e h = let rest : IsTrue (is_unfinished bs) = rw e at h in (e, rest)

unfinished_more : (b : ℕ) (bs : List ℕ) → (b == line_feed) ≡ false → IsTrue (is_unfinished bs) → IsTrue (is_unfinished (b ∷ bs))
unfinished_more b bs e h = rw e h

pub unfinished_take : (k : ℕ) (bs : List ℕ) → IsTrue (is_unfinished bs) → IsTrue (is_unfinished (take k bs))
unfinished_take zero bs h = refl
unfinished_take (suc k) [] h = refl
unfinished_take (suc k) (b ∷ bs) h =
    let parts = unfinished_parts b bs h in
    unfinished_more b (take k bs) parts.0 (unfinished_take k bs parts.1)

pub unfinished_append : (xs ys : List ℕ) → IsTrue (is_unfinished xs) → IsTrue (is_unfinished ys) → IsTrue (is_unfinished (xs ++ ys))
unfinished_append [] ys h k = k
unfinished_append (x ∷ xs) ys h k =
    let parts = unfinished_parts x xs h in
    unfinished_more x (xs ++ ys) parts.0 (unfinished_append xs ys parts.1 k)

-- ---- faults

line_broken : (most : ℕ) (f g : Framing) (before now all rest : List ℕ) (fault : WireFault) → IsShort fault → Breaks (content None f all) fault
    → LineTurn most f g before now all rest (Err fault)
line_broken most f g before now all rest BadHead short breaks = breaks
line_broken most f g before now all rest HeadTooLong short breaks = breaks
line_broken most f g before now all rest BodyTooLong short breaks = absurd short
line_broken most f g before now all rest BadChunk short breaks = breaks
line_broken most f g before now all rest EndedEarly short breaks = breaks
line_broken most f g before now all rest ReadFault short breaks = breaks
line_broken most f g before now all rest WriteFault short breaks = breaks
line_broken most f g before now all rest NoMemory short breaks = breaks

over_none : (n : Next) → over None n ≡ false
over_none (next.Counted n) = refl
over_none (next.Chunk n) = refl
over_none next.ToEnd = refl
over_none next.Done = refl

cut_content : (f : Framing) (n : Next) (all mid : List ℕ) (fault : WireFault) → NextRead f all mid (Ok n) → Readied n mid (Err fault) → Breaks (content None f all) fault
cut_content f (next.Counted m) all mid fault read cut = subst (λ (c : Content). Breaks c fault) (sym (read None)) (cut None refl)
cut_content f (next.Chunk m) all mid fault read cut = subst (λ (c : Content). Breaks c fault) (sym (read None)) (cut None refl)
cut_content f next.ToEnd all mid fault read cut = subst (λ (c : Content). Breaks c fault) (sym (read None)) (cut None refl)
cut_content f next.Done all mid fault read cut = λ of_bytes. absurd (cut None refl of_bytes).1

pub turn_cut : (most : ℕ) (f g : Framing) (n : Next) (before now : List ℕ) (fault : WireFault) (a m r : Option (List ℕ)) → ReadsAhead (NextRead f) a m (Ok n)
    → KnownAhead (λ all. Readied n all (Err fault)) m r → IsShort fault → ReadsAhead (LineTurn most f g before now) a r (Err fault)
turn_cut most f g n before now fault None m r read cut short = tt
turn_cut most f g n before now fault (Some all) None r read cut short = absurd read
turn_cut most f g n before now fault (Some all) (Some mid) None read cut short = absurd cut
turn_cut most f g n before now fault (Some all) (Some mid) (Some rest) read cut short =
    line_broken most f g before now all rest fault short (cut_content f n all mid fault read cut.1)

-- ---- at the end

-- the body has ended: none of it is left
IsOver : Content → List ℕ → Type 0
IsOver c rest = ([] ≡ c.bytes) × IsEnd c.end rest

over_only : (c : Content) (rest : List ℕ) → c ≡ only (Ended rest) → IsOver c rest
unfolding IsOver
over_only c rest e = (sym (ap (λ (x : Content). x.bytes) e), subst (λ (x : Content). IsEnd x.end rest) (sym e) refl)

last_content : (f : Framing) (n : Next) (all mid : List ℕ) → NextRead f all mid (Ok n) → Readied n mid (Ok 0) → Claims n 0
    → IsOver (content None f all) mid × (content None (ended n) mid ≡ only (Ended mid))
unfolding IsOver
last_content f (next.Counted m) all mid read none claim = (over_only (content None f all) mid (read None ∙ none None), refl)
last_content f (next.Chunk m) all mid read none claim = absurd (omega arith)
last_content f next.ToEnd all mid read none claim = (over_only (content None f all) mid (read None ∙ none None), none None)
last_content f next.Done all mid read none claim = ((sym (read None).0, (read None).1), refl)

pub turn_last : (most : ℕ) (f : Framing) (n : Next) (count : ℕ) (before : List ℕ) (a m r : Option (List ℕ)) → ReadsAhead (NextRead f) a m (Ok n)
    → KnownAhead (λ all. Readied n all (Ok count)) m r → count ≡ 0 → Claims n count → ReadsAhead (LineTurn most f (ended n) before before) a r (Ok turn.Last)
unfolding IsOver
turn_last most f n count before None m r read none is claim = tt
turn_last most f n count before (Some all) None r read none is claim = absurd read
turn_last most f n count before (Some all) (Some mid) None read none is claim = absurd none
turn_last most f n (suc k) before (Some all) (Some mid) (Some rest) read none is claim = absurd (omega arith)
turn_last most f n zero before (Some all) (Some mid) (Some rest) read none is claim =
    let last = last_content f n all mid read none.1 claim in
    subst (λ (l : List ℕ). LineTurn most f (ended n) before before all l (Ok turn.Last)) (sym none.0)
    (refl, record { bytes = last.0.0; unfinished = refl; end = last.0.1; left_is = last.1 })

-- ---- a piece

-- what is read of the bytes ahead where a piece of the held bytes is taken
piece_content : (f : Framing) (n : Next) (count k : ℕ) (held all mid left : List ℕ) → NextRead f all mid (Ok n) → Readied n mid (Ok count) → Claims n count
    → 0 < count → k ≤ count → count ≤ length held → held ++ left ≡ mid
    → content None f all ≡ after (take k held) (content None (spent n k) (drop k held ++ left))
piece_content f n count k held all mid left read ready claim some few fits parts =
    let front : take k mid ≡ take k held = ap (take k) (sym parts) ∙ take-append-le k held left (omega arith) in
    let back : drop k mid ≡ drop k held ++ left = ap (drop k) (sym parts) ∙ drop-append-le k held left (omega arith) in
    more_content f n count all mid None read ready (over_none n) claim some k few refl
    ∙ (λ i. after (front i) (content None (spent n k) (back i)))

piece_is : (t : Turn) (count : ℕ) (bytes : List ℕ) → LineIn bytes (count, t) → (count ≤ length bytes) × IsPiece t (take count bytes)
piece_is turn.Whole count bytes h = (h.1, h.2)
piece_is turn.More count bytes h = (omega arith, h.1)
piece_is turn.Last count bytes h = absurd h

line_piece : (most : ℕ) (f g : Framing) (t : Turn) (before now piece all rest : List ℕ) → now ≡ before ++ piece → IsPiece t piece
    → content None f all ≡ after piece (content None g rest) → LineTurn most f g before now all rest (Ok t)
line_piece most f g turn.Whole before now piece all rest is known e = (piece, is, known, e)
line_piece most f g turn.More before now piece all rest is known e = (piece, is, known, e)
line_piece most f g turn.Last before now piece all rest is known e = absurd known

pub turn_piece : (most : ℕ) (f : Framing) (n : Next) (t : Turn) (ready count : ℕ) (before now held : List ℕ) (a m b : Option (List ℕ)) → ReadsAhead (NextRead f) a m (Ok n)
    → KnownAhead (λ all. Readied n all (Ok ready)) m (prepend_known held b) → Claims n ready → 0 < ready → ready ≤ length held
    → LineIn (take ready held) (count, t) → now ≡ before ++ take count held
    → ReadsAhead (LineTurn most f (spent n count) before now) a (prepend_known (drop count held) b) (Ok t)
turn_piece most f n t ready count before now held None m b read known claim some fits line is = tt
turn_piece most f n t ready count before now held (Some all) None b read known claim some fits line is = absurd read
turn_piece most f n t ready count before now held (Some all) (Some mid) None read known claim some fits line is = absurd known
turn_piece most f n t ready count before now held (Some all) (Some mid) (Some left) read known claim some fits line is =
    let piece = piece_is t count (take ready held) line in
    let few : count ≤ ready = omega (arith, piece.0, length-take ready held) in
    let same : take count (take ready held) ≡ take count held = take-take count ready held few in
    line_piece most f (spent n count) t before now (take count held) all (drop count held ++ left)
    is (subst (IsPiece t) same piece.1)
    (piece_content f n ready count held all mid left read known.1 claim some few fits known.0)

-- ---- a line that is too long

unfinished_front : (t : Turn) (k : ℕ) (piece : List ℕ) → IsPiece t piece → k < length piece → IsTrue (is_unfinished (take k piece))
unfinished_front turn.Whole k piece known h =
    let front = known.0 in
    let inside : k ≤ length front = omega (arith, ap length known.1, length-append front (line_feed ∷ [])) in
    subst (λ (l : List ℕ). IsTrue (is_unfinished l)) (sym (ap (take k) known.1 ∙ take-append-le k front (line_feed ∷ []) inside)) (unfinished_take k front known.2)
unfinished_front turn.More k piece known h = unfinished_take k piece known
unfinished_front turn.Last k piece known h = absurd known

pub turn_long : (most : ℕ) (f g : Framing) (n : Next) (t : Turn) (ready count : ℕ) (before now held : List ℕ) (a m b : Option (List ℕ)) → ReadsAhead (NextRead f) a m (Ok n)
    → KnownAhead (λ all. Readied n all (Ok ready)) m (prepend_known held b) → Claims n ready → 0 < ready → ready ≤ length held
    → LineIn (take ready held) (count, t) → most - length before < count → length before ≤ most
    → ReadsAhead (LineTurn most f g before now) a (prepend_known held b) (Err BodyTooLong)
turn_long most f g n t ready count before now held None m b read known claim some fits line long room = tt
turn_long most f g n t ready count before now held (Some all) None b read known claim some fits line long room = absurd read
turn_long most f g n t ready count before now held (Some all) (Some mid) None read known claim some fits line long room = absurd known
turn_long most f g n t ready count before now held (Some all) (Some mid) (Some left) read known claim some fits line long room =
    let piece = piece_is t count (take ready held) line in
    let few : count ≤ ready = omega (arith, piece.0, length-take ready held) in
    let same : take count (take ready held) ≡ take count held = take-take count ready held few in
    let size : length (take count held) ≡ count = omega (arith, length-take count held) in
    let is_piece : IsPiece t (take count held) = subst (IsPiece t) same piece.1 in (
      take count held,
      content None (spent n count) (drop count held ++ left),
      piece_content f n ready count held all mid left read known.1 claim some few fits known.0,
      omega arith,
      unfinished_front t (most - length before) (take count held) is_piece (omega arith),
    )
