-- A turn of the replay, at each of its ends.
use Rattle.std.proofs.Common.{◌≡◌, ◌≢◌, ◌≤◌, ℕ, Bool, true, false, List, [], ◌++◌, length, take, Result, Ok, Err, IfOk, IfErr, inl, inr, refl, sym, ◌∙◌, ap, subst, append_assoc, append-nil, arith}
use Rattle.std.specs.Prelude.{Option, string_bytes}
use Rattle.std.proofs.KnownBytes.{Consumes-trans, Consumes-kept, Consumes-nil, Appends-nil}
use Rattle.std.specs.Io.KnownBytes.{Appends, Consumes, Keeps, IsAtEnd}
use Rattle.etcd_types.specs.Keys.{is_empty}
use Rattle.outside.specs.Faults.{Rose}
use Rattle.outside.specs.Streams.{WritesFront}
use Rattle.replay_model.specs.Endings.{is_open}
use Rattle.replay_model.specs.Progress.{Progress, finished, progress, passes_limit}
use Rattle.replay_model.specs.Script.{begun_line}
use Rattle.replay_model.specs.Transcript.{transcript_text}
use Rattle.replay_model.specs.declared.ending.Ending.{Ending}
use Rattle.replay_model.specs.declared.ending.Ending.TheVariants as ending
use Rattle.replay_model.specs.declared.limits.TheConstants.{MOST_BYTES}
use Rattle.replay_model.proofs.Growing.{is_open-true, finished_grows, finished_stays, finished_passed, refused_adds_nothing}
use Rattle.transcript_laws.proofs.Truth.{transcripts_are_true}
use Rattle.replay_input.specs.Replay.{Follows, HasRefused, Writes, Feeds, Fed, Moves, Breaks, Finishes, taken_of, text_of, text_so_far}
use Rattle.replay_input.specs.Replays.{NoneIsRefused, IsWhole, Replays, Refuses, Interrupts, BreaksOff, Stops, Has, most_at_once}
use Rattle.replay_input.specs.declared.replay.Replay.{Replay}
use Rattle.replay_input.specs.declared.stop.Stop.{Stop}
use Rattle.replay_input.specs.declared.stop.Stop.TheVariants as stop
use Rattle.replay_input.proofs.Feeding.{kept_follows}

-- where nothing is pending, all is written
pub all_written : (start written : Option (List ℕ)) (pending text : List ℕ) → Writes start written pending text → pending ≡ [] → Appends start written text
all_written start written pending text w e =
    subst (Appends start written) (sym (append-nil w.front) ∙ ap (λ (bs : List ℕ). w.front ++ bs) (sym e) ∙ sym w.parts) w.written

pub has_writes : {C : _} {g : _} (left start left' written : Option (List ℕ)) (replay : Replay C g) (read : List ℕ) → Has left start left' written replay read
    → Writes start written (string_bytes replay.pending) (text_so_far read)
has_writes left start left' written replay read h =
    subst (λ (pending : List ℕ). Writes start written pending (text_so_far read)) (sym h.nothing) h.writes

-- a front of the text of the whole lines is one of the text of all
pub front_of_all : (start written : Option (List ℕ)) (bytes : List ℕ) → WritesFront start written (text_so_far bytes) → WritesFront start written (text_of bytes)
front_of_all start written bytes w =
    let g = finished_grows bytes in
    record {
      front = w.front;
      rest = w.rest ++ g.added;
      parts = g.text ∙ ap (λ (bs : List ℕ). bs ++ g.added) w.parts ∙ append_assoc w.front w.rest g.added;
      written = w.written;
    }

-- what stands written breaks off, where a line that has begun isn't one
breaks_off : (left left' start written : Option (List ℕ)) (before piece : List ℕ) (s : Stop) → s ≢ stop.ReadFault → NoneIsRefused before → length piece ≤ most_at_once
    → Consumes left left' (before ++ piece) → WritesFront start written (text_so_far (before ++ piece)) → Stops left left' start written s
breaks_off left left' start written before piece stop.ReadFault n none small c w = absurd (n refl)
breaks_off left left' start written before piece stop.WriteFault n none small c w =
    record { before = before; piece = piece; consumed = c; none_before = none; one_piece = small; headline = transcripts_are_true (before ++ piece); writes = inl w }
breaks_off left left' start written before piece stop.NoMemory n none small c w =
    record { before = before; piece = piece; consumed = c; none_before = none; one_piece = small; headline = transcripts_are_true (before ++ piece); writes = inl w }

pub none_refused : {C : _} {g : _} {left start l written : Option (List ℕ)} {replay : Replay C g} {read : List ℕ} → Has left start l written replay read → NoneIsRefused read
none_refused h = record { whole = h.follows.stands.ending; within = h.follows.within }

-- the input failed
pub read_failed : {C : _} {g : _} (left start l l' written : Option (List ℕ)) (replay : Replay C g) (read : List ℕ) → Has left start l written replay read → Keeps l l'
    → Interrupts left l' start written
read_failed left start l l' written replay read h k = record {
  none_refused = none_refused h;
  read = read;
  consumed = Consumes-kept left l l' read h.consumed k;
  writes = all_written start written [] (text_so_far read) h.writes refl;
  headline = (transcripts_are_true read).whole;
}

-- the input ended, and the last line couldn't be taken or written
stops_at_end : (left left' start written : Option (List ℕ)) (read : List ℕ) (s : Stop) → s ≢ stop.ReadFault → BreaksOff left left' start written → Stops left left' start written s
stops_at_end left left' start written read stop.ReadFault n b = absurd (n refl)
stops_at_end left left' start written read stop.WriteFault n b = b
stops_at_end left left' start written read stop.NoMemory n b = b

pub end_stopped : {C : _} {g : _} (left start l l' old written : Option (List ℕ)) (replay : Replay C g) (read : List ℕ) (s : Stop) → Has left start l old replay read → Consumes l l' [] → IsAtEnd l'
    → s ≢ stop.ReadFault → WritesFront start written (text_of read) → Stops left l' start written s
end_stopped left start l l' old written replay read s h c at_end n w = stops_at_end left l' start written read s n (record {
  before = read;
  piece = [];
  consumed = Consumes-trans left l l' read [] h.consumed c;
  none_before = none_refused h;
  one_piece = omega arith;
  headline = transcripts_are_true (read ++ []);
  writes = inr (at_end, subst (λ (bs : List ℕ). WritesFront start written (text_of bs)) (sym (append-nil read)) w);
})

-- what has the first refused line ends so
has_ended : (e : Ending) (bytes : List ℕ) → HasRefused bytes e → (finished bytes).ending ≡ e
has_ended ending.Open bytes h = absurd h
has_ended (ending.Refused number refusal) bytes h = ap (λ (p : Progress). p.ending) (finished_stays bytes (ap is_open h)) ∙ h
has_ended ending.PastLimit bytes h = finished_passed bytes h

is_whole : (e : Ending) (left : Option (List ℕ)) (bytes : List ℕ) → HasRefused bytes e → IsWhole left bytes e
is_whole ending.Open left bytes h = absurd h
is_whole (ending.Refused number refusal) left bytes h = inl h
is_whole ending.PastLimit left bytes h = tt

is_whole_at_end : (e : Ending) (left : Option (List ℕ)) (bytes : List ℕ) → IsAtEnd left → IsWhole left bytes e
is_whole_at_end ending.Open left bytes at_end = tt
is_whole_at_end (ending.Refused number refusal) left bytes at_end = inr at_end
is_whole_at_end ending.PastLimit left bytes at_end = tt

-- a refused line adds nothing to the text
text_of_refused : (e : Ending) (bytes : List ℕ) → is_open e ≡ false → (finished bytes).ending ≡ e → text_of bytes ≡ text_so_far bytes
text_of_refused e bytes closed ended = ap transcript_text (refused_adds_nothing bytes (ap is_open ended ∙ closed))

-- at the end of the input the last piece is empty
refused_last : (left start l' written : Option (List ℕ)) (read : List ℕ) (e : Ending) → NoneIsRefused read → Consumes left l' (read ++ []) → IsAtEnd l' → Finishes start written read e
    → Refuses left l' start written e
refused_last left start l' written read e none c at_end f = record {
  before = read;
  piece = [];
  consumed = c;
  none_before = none;
  one_piece = omega arith;
  ended = ap (λ (bs : List ℕ). (finished bs).ending) (append-nil read) ∙ f.ended;
  whole = is_whole_at_end e l' (read ++ []) at_end;
  writes = subst (λ (bs : List ℕ). Appends start written (text_of bs)) (sym (append-nil read)) f.writes;
  headline = (transcripts_are_true (read ++ [])).all;
}

-- the input ended
finishes_by : (left start l' written : Option (List ℕ)) (read : List ℕ) (e : Ending) → NoneIsRefused read → Consumes left l' (read ++ []) → IsAtEnd l'
    → Finishes start written read e → Replays left l' start written e
finishes_by left start l' written read ending.Open none c at_end f = record {
  read = read;
  consumed = subst (Consumes left l') (append-nil read) c;
  at_end = at_end;
  ended = f.ended;
  writes = f.writes;
  headline = (transcripts_are_true read).all;
}
finishes_by left start l' written read (ending.Refused number refusal) none c at_end f =
    refused_last left start l' written read (ending.Refused number refusal) none c at_end f
finishes_by left start l' written read ending.PastLimit none c at_end f = refused_last left start l' written read ending.PastLimit none c at_end f

pub end_reached : {C : _} {g : _} (left start l l' old written : Option (List ℕ)) (replay : Replay C g) (read : List ℕ) (e : Ending) → Has left start l old replay read → Consumes l l' []
    → IsAtEnd l' → Finishes start written read e → Replays left l' start written e
end_reached left start l l' old written replay read e h c at_end f =
    finishes_by left start l' written read e (none_refused h) (Consumes-trans left l l' read [] h.consumed c) at_end f

-- a piece couldn't be taken
pub piece_stopped : {C : _} {g : _} (left start l l' old written : Option (List ℕ)) (replay : Replay C g) (read piece : List ℕ) (s : Stop) → Has left start l old replay read → length piece ≤ most_at_once
    → Consumes l l' piece → s ≢ stop.ReadFault → WritesFront start written (text_so_far (read ++ piece)) → Stops left l' start written s
piece_stopped left start l l' old written replay read piece s h small c n w =
    breaks_off left l' start written read piece s n (none_refused h) small (Consumes-trans left l l' read piece h.consumed c) w

fed_writes : {C : _} {g : _} (start mid : Option (List ℕ)) (new : Replay C g) (bytes : List ℕ) (e : Ending) → Feeds start mid new bytes e → Writes start mid (string_bytes new.pending) (text_so_far bytes)
fed_writes start mid new bytes ending.Open f = f.writes
fed_writes start mid new bytes (ending.Refused number refusal) f = f.writes
fed_writes start mid new bytes ending.PastLimit f = f.writes

-- what a piece gained couldn't be written
pub flush_stopped : {C : _} {g : _} (left start l l' mid old written : Option (List ℕ)) (replay new : Replay C g) (read piece : List ℕ) (e : Ending) (s : Stop) → Has left start l old replay read
    → length piece ≤ most_at_once → Consumes l l' piece → s ≢ stop.ReadFault → Feeds start mid new (read ++ piece) e → Breaks mid written (string_bytes new.pending) → Stops left l' start written s
flush_stopped left start l l' mid old written replay new read piece e s h small c n f b =
    breaks_off left l' start written read piece s n (none_refused h) small (Consumes-trans left l l' read piece h.consumed c)
    (b start (text_so_far (read ++ piece)) (fed_writes start mid new (read ++ piece) e f))

open_by : {C : _} {g : _} (start mid : Option (List ℕ)) (new : Replay C g) (bytes : List ℕ) (e : Ending) → is_open e ≡ true → Feeds start mid new bytes e → Fed start mid new bytes
open_by start mid new bytes ending.Open o f = f
open_by start mid new bytes (ending.Refused number refusal) o f = absurd (cc)
open_by start mid new bytes ending.PastLimit o f = absurd (cc)

-- a piece was taken, and no line is refused
pub goes_on : {C : _} {g : _} (left start l l' mid old written : Option (List ℕ)) (replay new last : Replay C g) (read piece : List ℕ) (e : Ending) → Has left start l old replay read
    → Consumes l l' piece → is_open e ≡ true → Feeds start mid new (read ++ piece) e → Moves mid written (string_bytes new.pending) (string_bytes last.pending)
    → last ≡ record new { pending = last.pending } → string_bytes last.pending ≡ [] → Has left start l' written last (read ++ piece)
goes_on left start l l' mid old written replay new last read piece e h c o f m same none =
    let fed = open_by start mid new (read ++ piece) e o f in
    record {
      consumed = Consumes-trans left l l' read piece h.consumed c;
      follows = kept_follows new last (read ++ piece) same fed.follows;
      nothing = none;
      writes = subst (λ (pending : List ℕ). Writes start written pending (text_so_far (read ++ piece))) none (m start (text_so_far (read ++ piece)) fed.writes);
    }

refused_by : (left start l' written : Option (List ℕ)) (read piece : List ℕ) (e : Ending) → NoneIsRefused read → length piece ≤ most_at_once → Consumes left l' (read ++ piece)
    → is_open e ≡ false → HasRefused (read ++ piece) e → Appends start written (text_so_far (read ++ piece)) → Refuses left l' start written e
refused_by left start l' written read piece e none small c closed refused w = record {
  before = read;
  piece = piece;
  consumed = c;
  none_before = none;
  one_piece = small;
  ended = has_ended e (read ++ piece) refused;
  whole = is_whole e l' (read ++ piece) refused;
  writes = subst (Appends start written) (sym (text_of_refused e (read ++ piece) closed (has_ended e (read ++ piece) refused))) w;
  headline = (transcripts_are_true (read ++ piece)).all;
}

-- a line of the piece is refused
refused_piece : {C : _} {g : _} (left start l' mid written : Option (List ℕ)) (new : Replay C g) (read piece : List ℕ) (e : Ending) → NoneIsRefused read → length piece ≤ most_at_once
    → Consumes left l' (read ++ piece) → is_open e ≡ false → Feeds start mid new (read ++ piece) e → Appends start written (text_so_far (read ++ piece)) → Replays left l' start written e
refused_piece left start l' mid written new read piece ending.Open none small c o f w = absurd (cc)
refused_piece left start l' mid written new read piece (ending.Refused number refusal) none small c o f w =
    refused_by left start l' written read piece (ending.Refused number refusal) none small c o f.refused w
refused_piece left start l' mid written new read piece ending.PastLimit none small c o f w =
    refused_by left start l' written read piece ending.PastLimit none small c o f.refused w

pub refuses : {C : _} {g : _} (left start l l' mid old written : Option (List ℕ)) (replay new last : Replay C g) (read piece : List ℕ) (e : Ending) → Has left start l old replay read
    → length piece ≤ most_at_once → Consumes l l' piece → is_open e ≡ false → Feeds start mid new (read ++ piece) e → Moves mid written (string_bytes new.pending) (string_bytes last.pending)
    → string_bytes last.pending ≡ [] → Replays left l' start written e
refuses left start l l' mid old written replay new last read piece e h small c o f m written_all =
    refused_piece left start l' mid written new read piece e (none_refused h) small (Consumes-trans left l l' read piece h.consumed c) o f
    (all_written start written (string_bytes last.pending) _ (m start (text_so_far (read ++ piece)) (fed_writes start mid new (read ++ piece) e f)) written_all)

-- a read of no bytes takes nothing
pub none_read : (l l' : Option (List ℕ)) (count : ℕ) (room : List ℕ) → count ≡ 0 → Consumes l l' (take count room) → Consumes l l' []
none_read l l' count room e c = subst (λ n. Consumes l l' (take n room)) e c

pub not_read : (s : Stop) → s ≡ stop.WriteFault → s ≢ stop.ReadFault
not_read s e f = let different : stop.WriteFault ≡ stop.ReadFault = sym e ∙ f in cc

-- nothing was read or written
pub nothing_done : (left written : Option (List ℕ)) → BreaksOff left left written written
nothing_done left written = record {
  before = [];
  piece = [];
  consumed = Consumes-nil left;
  none_before = record { whole = refl; within = λ some. absurd (cc) };
  one_piece = omega arith;
  headline = transcripts_are_true [];
  writes = inl (record { front = []; rest = text_so_far []; parts = refl; written = Appends-nil written });
}

pub at_start : {C : _} {g : _} (left written : Option (List ℕ)) (replay : Replay C g) → Follows replay [] → string_bytes replay.pending ≡ [] → Has left written left written replay []
at_start left written replay f none = record {
  consumed = Consumes-nil left;
  follows = f;
  nothing = none;
  writes = record { front = []; parts = refl; written = Appends-nil written };
}

pub nothing_taken : {C : _} {g : _} (replay : Replay C g) → Follows replay [] → taken_of replay ≤ MOST_BYTES
nothing_taken replay f = omega (arith, f.stands.bytes, ap length f.begun)

pub rose_since : (a b n : ℕ) → a ≤ b → Rose b n → Rose a n
rose_since a b n le rose = omega (arith, rose)

front_of_text : (start written : Option (List ℕ)) (text : List ℕ) → Appends start written text → WritesFront start written text
front_of_text start written text a = record { front = text; rest = []; parts = sym (append-nil text); written = a }

refused_off : (left left' written written' : Option (List ℕ)) (e : Ending) → is_open e ≡ false → Refuses left left' written written' e → BreaksOff left left' written written'
refused_off left left' written written' e closed r = record {
  before = r.before;
  piece = r.piece;
  consumed = r.consumed;
  none_before = r.none_before;
  one_piece = r.one_piece;
  headline = transcripts_are_true (r.before ++ r.piece);
  writes = inl (subst (WritesFront written written') (text_of_refused e (r.before ++ r.piece) closed r.ended)
      (front_of_text written written' (text_of (r.before ++ r.piece)) r.writes));
}

-- where the end of a script finds no refused line, none of its bytes refuses one
none_by_end : (bytes : List ℕ) → (finished bytes).ending ≡ ending.Open → NoneIsRefused bytes
none_by_end bytes ended = record { whole = by (is_open (progress bytes).ending) refl; within = λ some. within_by some (passes_limit (progress bytes) (length (begun_line bytes)) (length (begun_line bytes))) refl }
  where
    by : (b : Bool) → is_open (progress bytes).ending ≡ b → (progress bytes).ending ≡ ending.Open
    by true e = is_open-true (progress bytes).ending e
    by false e = ap (λ (p : Progress). p.ending) (sym (finished_stays bytes e)) ∙ ended

    within_by : is_empty (begun_line bytes) ≡ false → (b : Bool) → passes_limit (progress bytes) (length (begun_line bytes)) (length (begun_line bytes)) ≡ b
        → passes_limit (progress bytes) (length (begun_line bytes)) (length (begun_line bytes)) ≡ false
    within_by some true e =
        let both : ending.PastLimit ≡ ending.Open =
        sym (finished_passed bytes (inr (record { taken = by (is_open (progress bytes).ending) refl; begun = some; past = e }))) ∙ ended in
        absurd (cc)
    within_by some false e = e

-- whatever came of a replay, a front of the transcript of the lines read is written
pub left_off : (left left' written written' : Option (List ℕ)) (outcome : Result Ending Stop) → IfOk outcome (Replays left left' written written')
    → IfErr outcome (Stops left left' written written') → BreaksOff left left' written written'
left_off left left' written written' (Ok ending.Open) r s = record {
  before = r.read;
  piece = [];
  consumed = subst (Consumes left left') (sym (append-nil r.read)) r.consumed;
  none_before = none_by_end r.read r.ended;
  one_piece = omega arith;
  headline = transcripts_are_true (r.read ++ []);
  writes = inr (r.at_end, subst (λ (bs : List ℕ). WritesFront written written' (text_of bs)) (sym (append-nil r.read)) (front_of_text written written' (text_of r.read) r.writes));
}
left_off left left' written written' (Ok (ending.Refused number refusal)) r s = refused_off left left' written written' (ending.Refused number refusal) refl r
left_off left left' written written' (Ok ending.PastLimit) r s = refused_off left left' written written' ending.PastLimit refl r
left_off left left' written written' (Err stop.ReadFault) r s = record {
  before = s.read;
  piece = [];
  consumed = subst (Consumes left left') (sym (append-nil s.read)) s.consumed;
  none_before = s.none_refused;
  one_piece = omega arith;
  headline = transcripts_are_true (s.read ++ []);
  writes = inl (subst (λ (bs : List ℕ). WritesFront written written' (text_so_far bs)) (sym (append-nil s.read)) (front_of_text written written' (text_so_far s.read) s.writes));
}
left_off left left' written written' (Err stop.WriteFault) r s = s
left_off left left' written written' (Err stop.NoMemory) r s = s
