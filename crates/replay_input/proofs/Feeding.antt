-- A piece of a script, part by part, and what of its transcript is written and what is pending.
use Rattle.std.proofs.Common.{◌≡◌, ℕ, ◌+◌, ◌-◌, true, false, List, [], ◌++◌, length, take, drop, length-drop, arith, refl, sym, ◌∙◌, ap, subst, append_assoc, append-nil}
use Rattle.std.specs.Prelude.{Option, string_bytes}
use Rattle.std.proofs.lemmas.List.{take_all, take-append-drop}
use Rattle.std.proofs.Math.Seq.{take-add}
use Rattle.std.proofs.KnownBytes.{Appends-trans}
use Rattle.std.specs.Io.KnownBytes.{Appends}
use Rattle.outside.specs.Streams.{WritesFront}
use Rattle.replay_model.specs.Endings.{is_open}
use Rattle.replay_model.specs.Progress.{Progress, progress}
use Rattle.replay_model.specs.Transcript.{transcript_text}
use Rattle.replay_model.proofs.Growing.{is_open-true, progress_grows, progress_stays, passed_more, passed_adds_nothing}
use Rattle.replay_model.specs.declared.ending.Ending.{Ending}
use Rattle.replay_model.specs.declared.ending.Ending.TheVariants as ending
use Rattle.script_text.specs.declared.item.Item.{Item}
use Rattle.replay_input.specs.Replay.{Follows, Writes, HasRefused, TakesPart, Fed, Stopped, Feeds, text_so_far}
use Rattle.replay_input.specs.declared.replay.Replay.{Replay}

-- what is added to the text is added to what is pending
pub writes_more : {start written : Option (List ℕ)} {pending text : List ℕ} (pending' text' added : List ℕ) → Writes start written pending text
    → pending' ≡ pending ++ added → text' ≡ text ++ added → Writes start written pending' text'
writes_more pending' text' added w p t = record {
  front = w.front;
  parts = t ∙ ap (λ (bs : List ℕ). bs ++ added) w.parts ∙ append_assoc w.front _ added ∙ ap (λ (bs : List ℕ). w.front ++ bs) (sym p);
  written = w.written;
}

pub writes_front : {start written : Option (List ℕ)} {pending text : List ℕ} → Writes start written pending text → WritesFront start written text
writes_front {pending = pending} w = record { front = w.front; rest = pending; parts = w.parts; written = w.written }

-- what was pending was written
pub flushed : (start old new : Option (List ℕ)) (pending text : List ℕ) → Writes start old pending text → Appends old new pending → Writes start new [] text
flushed start old new pending text w a = record {
  front = w.front ++ pending;
  parts = w.parts ∙ sym (append-nil (w.front ++ pending));
  written = Appends-trans start old new w.front pending w.written a;
}

-- or a front of it
pub broke : (start old new : Option (List ℕ)) (pending text : List ℕ) → Writes start old pending text → WritesFront old new pending → WritesFront start new text
broke start old new pending text w b = record {
  front = w.front ++ b.front;
  rest = b.rest;
  parts = w.parts ∙ ap (λ (bs : List ℕ). w.front ++ bs) b.parts ∙ sym (append_assoc w.front b.front b.rest);
  written = Appends-trans start old new w.front b.front w.written b.written;
}

pub next_part : (bytes piece : List ℕ) (at count : ℕ) → bytes ++ take (at + count) piece ≡ (bytes ++ take at piece) ++ take count (drop at piece)
next_part bytes piece at count =
    ap (λ (bs : List ℕ). bytes ++ bs) (take-add at count piece) ∙ sym (append_assoc bytes (take at piece) (take count (drop at piece)))

-- what stands from a place on is a slice up to the end
pub rest_taken : {C : _} {g : _} (old new : Replay C g) (bytes piece : List ℕ) (at count : ℕ) (e : Ending)
    → TakesPart old new bytes (take count (take (length piece - at) (drop at piece))) e → TakesPart old new bytes (take count (drop at piece)) e
rest_taken old new bytes piece at count e t =
    subst (λ (rest : List ℕ). TakesPart old new bytes (take count rest) e)
    (take_all (length piece - at) (drop at piece) (omega (arith, length-drop {A = ℕ} at piece))) t

fed_part : {C : _} {g : _} (start written : Option (List ℕ)) (old new : Replay C g) (bytes part : List ℕ) → Fed start written old bytes
    → TakesPart old new bytes part ending.Open → Fed start written new (bytes ++ part)
fed_part start written old new bytes part f t =
    record { follows = t.follows refl; writes = writes_more (string_bytes new.pending) (text_so_far (bytes ++ part)) t.added f.writes t.pending t.text }

-- a part more of a piece was taken
pub fed_more : {C : _} {g : _} (start written : Option (List ℕ)) (old new : Replay C g) (bytes piece : List ℕ) (at count : ℕ) (e : Ending)
    → is_open e ≡ true → Fed start written old (bytes ++ take at piece) → TakesPart old new (bytes ++ take at piece) (take count (drop at piece)) e
    → Fed start written new (bytes ++ take (at + count) piece)
fed_more start written old new bytes piece at count e opened f t =
    subst (Fed start written new) (sym (next_part bytes piece at count))
    (fed_part start written old new (bytes ++ take at piece) (take count (drop at piece)) f (subst (TakesPart old new (bytes ++ take at piece) (take count (drop at piece))) (is_open-true e opened) t))

-- a refused line is the first one whatever follows
refused_more : (e : Ending) (bytes more : List ℕ) → HasRefused bytes e → HasRefused (bytes ++ more) e
refused_more ending.Open bytes more h = absurd h
refused_more (ending.Refused number refusal) bytes more h = ap (λ (p : Progress). p.ending) (progress_stays bytes more (ap is_open h)) ∙ h
refused_more ending.PastLimit bytes more h = passed_more bytes more h

items_stay : (e : Ending) (bytes more : List ℕ) → HasRefused bytes e → (progress (bytes ++ more)).items ≡ (progress bytes).items
items_stay ending.Open bytes more h = absurd h
items_stay (ending.Refused number refusal) bytes more h = ap (λ (p : Progress). p.items) (progress_stays bytes more (ap is_open h))
items_stay ending.PastLimit bytes more h = passed_adds_nothing bytes more h

feeds_by : {C : _} {g : _} (start written : Option (List ℕ)) (new : Replay C g) (bytes : List ℕ) (e : Ending) → Stopped start written new bytes e → Feeds start written new bytes e
feeds_by start written new bytes ending.Open s = absurd s.refused
feeds_by start written new bytes (ending.Refused number refusal) s = s
feeds_by start written new bytes ending.PastLimit s = s

parts_of : (bytes piece : List ℕ) (n : ℕ) → (bytes ++ take n piece) ++ drop n piece ≡ bytes ++ piece
parts_of bytes piece n = append_assoc bytes (take n piece) (drop n piece) ∙ ap (λ (bs : List ℕ). bytes ++ bs) (take-append-drop n piece)

-- a part refused a line
pub refused_at : {C : _} {g : _} (start written : Option (List ℕ)) (old new : Replay C g) (bytes piece : List ℕ) (at count : ℕ) (e : Ending)
    → is_open e ≡ false → Fed start written old (bytes ++ take at piece) → TakesPart old new (bytes ++ take at piece) (take count (drop at piece)) e
    → Feeds start written new (bytes ++ piece) e
refused_at start written old new bytes piece at count e closed f t =
    let cut = (bytes ++ take at piece) ++ take count (drop at piece) in
    let more = drop (at + count) piece in
    let all : cut ++ more ≡ bytes ++ piece =
    ap (λ (bs : List ℕ). bs ++ more) (sym (next_part bytes piece at count)) ∙ parts_of bytes piece (at + count) in
    let refused = t.refused closed in
    let written_of_cut : Writes start written (string_bytes new.pending) (text_so_far cut) =
    writes_more (string_bytes new.pending) (text_so_far cut) t.added f.writes t.pending t.text in
    subst (λ (bs : List ℕ). Feeds start written new bs e) all (feeds_by start written new (cut ++ more) e (record {
      refused = refused_more e cut more refused;
      writes = subst (λ (items : List Item). Writes start written (string_bytes new.pending) (transcript_text items)) (sym (items_stay e cut more refused)) written_of_cut;
    }))

-- what stands written is of a front of the bytes, and so of all
pub stopped_at : (start written : Option (List ℕ)) (bytes piece : List ℕ) (i : ℕ)
    → WritesFront start written (text_so_far (bytes ++ take i piece)) → WritesFront start written (text_so_far (bytes ++ piece))
stopped_at start written bytes piece i w =
    let g = progress_grows (bytes ++ take i piece) (drop i piece) in
    subst (λ (bs : List ℕ). WritesFront start written (text_so_far bs)) (parts_of bytes piece i) (record {
      front = w.front;
      rest = w.rest ++ g.added;
      parts = g.text ∙ ap (λ (bs : List ℕ). bs ++ g.added) w.parts ∙ append_assoc w.front w.rest g.added;
      written = w.written;
    })

-- what is pending says nothing of the bytes that were taken
pub kept_follows : {C : _} {g : _} (old new : Replay C g) (bytes : List ℕ) → new ≡ record old { pending = new.pending } → Follows old bytes → Follows new bytes
kept_follows old new bytes same f =
    subst (λ (r : _). Follows r bytes) (sym same) (record { stands = f.stands; within = f.within; ready = f.ready; begun = f.begun })
