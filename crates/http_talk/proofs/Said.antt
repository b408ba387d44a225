-- What was written, all of it or a front.
use Rattle.std.proofs.Common.{◌≡◌, ℕ, Bool, true, false, List, [], ◌++◌, Option, None, Some, Result, Ok, Err, refl, sym, ap, ◌∙◌, append_assoc, append-nil, subst}
use Rattle.std.proofs.KnownBytes.{Appends-trans}
use Rattle.std.specs.Io.KnownBytes.{Appends, Keeps}
use Rattle.outside.specs.Streams.{WritesFront}
use Rattle.etcd_types.specs.declared.watch.WatchItem.{WatchItem}
use Rattle.http_wire.specs.Written.{Writes, chunk, chunks_head, last_chunk}
use Rattle.json_model.specs.WrittenReplies.{item_text}
use Rattle.http_talk.specs.Replies.{is_cancel, head_unless, end_if, said_in_chunk}
use Rattle.http_talk.specs.Telling.{Tells}
use Rattle.http_wire.specs.declared.fault.WireFault.{WireFault}
use Rattle.http_wire.specs.declared.fault.WireFault.TheVariants as wire

-- all of it is a front
pub front_all : (old new : Option (List ℕ)) (bytes : List ℕ) → Appends old new bytes → WritesFront old new bytes
front_all old new bytes a = record { front = bytes; rest = []; parts = sym (append-nil bytes); written = a }

pub appends_kept : (old new : Option (List ℕ)) → Keeps old new → Appends old new []
appends_kept None new k = tt
appends_kept (Some a) None k = absurd k
appends_kept (Some a) (Some b) k = k ∙ sym (append-nil a)

-- none of it is a front
pub front_none : (old new : Option (List ℕ)) (bytes : List ℕ) → Keeps old new → WritesFront old new bytes
front_none old new bytes k = record { front = []; rest = bytes; parts = refl; written = appends_kept old new k }

pub front_by : (old new : Option (List ℕ)) (bytes : List ℕ) (result : Result (Unit {0}) WireFault) → Writes old new bytes result → WritesFront old new bytes
front_by old new bytes (Ok done) w = front_all old new bytes w
front_by old new bytes (Err wire.WriteFault) w = w
front_by old new bytes (Err wire.NoMemory) w = front_none old new bytes w
front_by old new bytes (Err wire.BadHead) w = absurd w
front_by old new bytes (Err wire.HeadTooLong) w = absurd w
front_by old new bytes (Err wire.BodyTooLong) w = absurd w
front_by old new bytes (Err wire.BadChunk) w = absurd w
front_by old new bytes (Err wire.EndedEarly) w = absurd w
front_by old new bytes (Err wire.ReadFault) w = absurd w

-- a front behind what was written whole
pub front_after : (a b c : Option (List ℕ)) (xs ys : List ℕ) → Appends a b xs → WritesFront b c ys → WritesFront a c (xs ++ ys)
front_after a b c xs ys p q = record {
  front = xs ++ q.front;
  rest = q.rest;
  parts = ap (λ (l : List ℕ). xs ++ l) q.parts ∙ sym (append_assoc xs q.front q.rest);
  written = Appends-trans a b c xs q.front p q.written;
}

-- a front of it is a front of more
pub front_more : (old new : Option (List ℕ)) (xs ys : List ℕ) → WritesFront old new xs → WritesFront old new (xs ++ ys)
front_more old new xs ys f = record {
  front = f.front;
  rest = f.rest ++ ys;
  parts = ap (λ (l : List ℕ). l ++ ys) f.parts ∙ append_assoc f.front f.rest ys;
  written = f.written;
}

pub keeps_itself : (written : Option (List ℕ)) → Keeps written written
keeps_itself None = tt
keeps_itself (Some bytes) = refl

pub appends_nothing : (written : Option (List ℕ)) → Appends written written []
appends_nothing written = appends_kept written written (keeps_itself written)

-- ---- what is told piece by piece

pub tells_by : (old new : Option (List ℕ)) (bytes : List ℕ) (result : Result (Unit {0}) WireFault) → Writes old new bytes result → Tells old new bytes result
tells_by old new bytes (Ok done) w = w
tells_by old new bytes (Err fault) w = front_by old new bytes (Err fault) w

pub tells_then : (a b c : Option (List ℕ)) (xs ys : List ℕ) (result : Result (Unit {0}) WireFault) → Appends a b xs → Tells b c ys result → Tells a c (xs ++ ys) result
tells_then a b c xs ys (Ok done) p q = Appends-trans a b c xs ys p q
tells_then a b c xs ys (Err fault) p q = front_after a b c xs ys p q

pub tells_no_more : (a b : Option (List ℕ)) (xs ys : List ℕ) (fault : WireFault) → Tells a b xs (Err fault) → Tells a b (xs ++ ys) (Err fault)
tells_no_more a b xs ys fault p = front_more a b xs ys p

-- the head of a reply in chunks was written before, or is written now
pub head_before : (begun : Bool) → begun ≡ true → head_unless begun ≡ []
unfolding head_unless
head_before true e = refl
head_before false e = absurd (cc)

pub head_now : (begun : Bool) → begun ≡ false → head_unless begun ≡ chunks_head
unfolding head_unless
head_now true e = absurd (cc)
head_now false e = refl

-- the end of the chunks is written now, or isn't there yet
pub end_now : (last : Bool) → last ≡ true → end_if last ≡ last_chunk
unfolding end_if
end_now true e = refl
end_now false e = absurd (cc)

pub end_later : (last : Bool) → last ≡ false → end_if last ≡ []
unfolding end_if
end_later true e = absurd (cc)
end_later false e = refl

pub tells_as : (old new : Option (List ℕ)) (xs ys : List ℕ) (result : Result (Unit {0}) WireFault) → xs ≡ ys → Tells old new xs result → Tells old new ys result
tells_as old new xs ys result e t = subst (λ (l : List ℕ). Tells old new l result) e t

-- a message of a watch was told whole, or the part that is named wasn't
pub item_told : (a b c d : Option (List ℕ)) (begun : Bool) (item : WatchItem) (text : List ℕ) (last : Bool) (result : Result (Unit {0}) WireFault) → text ≡ item_text item
    → last ≡ is_cancel item → Appends a b (head_unless begun) → Appends b c (chunk text) → Tells c d (end_if last) result → Tells a d (said_in_chunk begun item) result
unfolding said_in_chunk
item_told a b c d begun item text last result e f p q t =
    tells_as a d _ _ result (λ i. head_unless begun ++ chunk (e i) ++ end_if (f i))
    (tells_then a c d (head_unless begun ++ chunk text) (end_if last) result (Appends-trans a b c (head_unless begun) (chunk text) p q) t)

pub chunk_untold : (a b c : Option (List ℕ)) (begun : Bool) (item : WatchItem) (text : List ℕ) (fault : WireFault) → text ≡ item_text item → Appends a b (head_unless begun)
    → Writes b c (chunk text) (Err fault) → Tells a c (said_in_chunk begun item) (Err fault)
unfolding said_in_chunk
chunk_untold a b c begun item text fault e p w =
    tells_as a c _ _ (Err fault) (λ i. head_unless begun ++ chunk (e i) ++ end_if (is_cancel item))
    (tells_no_more a c (head_unless begun ++ chunk text) (end_if (is_cancel item)) fault
    (tells_then a b c (head_unless begun) (chunk text) (Err fault) p (tells_by b c (chunk text) (Err fault) w)))

pub head_untold : (a b : Option (List ℕ)) (begun : Bool) (item : WatchItem) (fault : WireFault) → Tells a b (head_unless begun) (Err fault)
    → Tells a b (said_in_chunk begun item) (Err fault)
unfolding said_in_chunk
head_untold a b begun item fault t =
    tells_no_more a b (head_unless begun ++ chunk (item_text item)) (end_if (is_cancel item)) fault (tells_no_more a b (head_unless begun) (chunk (item_text item)) fault t)
