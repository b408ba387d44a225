-- A stream is followed: one message after the other, and its end.
use Rattle.std.proofs.Common.{◌≡◌, ℕ, ◌≤◌, arith, true, false, List, [], ◌∷◌, ◌++◌, Option, None, Some, IfSome, Result, Ok, Err, IfErr, refl, sym, ap, ◌∙◌, subst, append_assoc}
use Rattle.std.proofs.lemmas.List.{map-append}
use Rattle.etcd_types.specs.declared.watch.WatchItem.{WatchItem}
use Rattle.outside.specs.Calls.{Adds as Tells, LinkCall, Begun, Ended, HasLinkCause}
use Rattle.outside.specs.Faults.{Rose}
use Rattle.outside.specs.declared.link.AnswerEnd.{AnswerEnd}
use Rattle.outside.specs.declared.link.AnswerEnd.TheVariants as answer
use Rattle.outside.specs.declared.link.CallKind.TheVariants.{Watches}
use Rattle.outside.specs.declared.link.LinkFault.{LinkFault}
use Rattle.outside.specs.declared.link.LinkFault.TheVariants as link
use Rattle.outside.specs.declared.parts.Follow.{Follow}
use Rattle.json_model.specs.declared.fault.NotReply.TheVariants.{Unreadable}
use Rattle.json_model.specs.WatchItems.{item_of}
use Rattle.http_wire.specs.declared.fault.WireFault.{WireFault}
use Rattle.http_wire.specs.declared.fault.WireFault.TheVariants as wire
use Rattle.http_wire.specs.declared.message.AnswerHead.{AnswerHead}
use Rattle.http_wire.specs.declared.message.Framing.{Framing}
use Rattle.http_wire.specs.Connections.{WireState, bytes_ahead}
use Rattle.http_wire.specs.Heads.{AnswerRead}
use Rattle.http_wire.specs.Held.{ReadsAhead}
use Rattle.http_wire.specs.Steps.{NextLine}
use Rattle.turn_hub.specs.History.{entry_of}
use Rattle.core_model.specs.declared.event.CoreEvent.TheVariants.{Item, Cut}
use Rattle.core_model.specs.declared.event.Outcome.{Outcome}
use Rattle.core_model.specs.declared.event.Outcome.TheVariants.{Noted}
use Rattle.core_model.specs.declared.event.StepFault.TheVariants as step
use Rattle.server_model.specs.declared.fault.TurnFault.{TurnFault}
use Rattle.server_model.specs.declared.fault.TurnFault.TheVariants as turn
use Rattle.server_model.specs.Steps.{Step, Adds, MadeBy, Fits, is_for_memory}
use Rattle.http_talk.specs.Replies.{is_cancel}
use Rattle.server_model.specs.Dialog.{is_worn}
use Rattle.server_model.proofs.Steps.{adds_then, adds_none, every_append}
use Rattle.server_model.specs.declared.ends.StreamEnd.{StreamEnd}
use Rattle.server_model.specs.declared.ends.StreamEnd.TheVariants as how
use Rattle.server_model.specs.declared.ends.StreamStop.{StreamStop}
use Rattle.server_model.specs.Following.{Cause, Message, AllGo, Goes, Lines, IsGood, Opened, Reads, OpenedMore, lines_of, Stands, HasRisen, IsQuiet, wanted, read_to, end_by, steps_of, failed, Cuts, Ends, Following, Fed}
use Rattle.server_model.specs.StreamParts.{Opens, StandsNext, Nexts, end_of, Refuses, IsTaken, Feeds, IsCut, cut_at, stop_by, begun, Follows, IsFollowed}

-- ---- lines

lines_more : (most : ℕ) (old next new : Framing) (lines : List (List ℕ)) (line all mid rest : List ℕ) → Lines most old lines all next mid
    → NextLine most next new mid rest (Ok (Some line)) → Lines most old (lines ++ line ∷ []) all new rest
lines_more most old next new [] line all mid rest l n =
    (new, rest, subst (λ (f : Framing). NextLine most f new all rest (Ok (Some line))) (sym l.0) (subst (λ (bytes : List ℕ). NextLine most next new bytes rest (Ok (Some line))) (sym l.1) n), (refl, refl))
lines_more most old next new (x ∷ xs) line all mid rest l n = (l.0, l.1, l.2, lines_more most l.0 next new xs line l.1 mid rest l.3 n)

opened_more : (most : ℕ) (lines : List (List ℕ)) (next new : Framing) (line all mid rest : List ℕ) → Opened most lines all next mid → NextLine most next new mid rest (Ok (Some line))
    → Opened most (lines ++ line ∷ []) all new rest
opened_more most lines next new line all mid rest o n = (o.0, o.1, o.2, lines_more most o.0 next new lines line o.1 mid rest o.3 n)

reads_more : (most : ℕ) (lines : List (List ℕ)) (next new : Framing) (line : List ℕ) (left mid rest : Option (List ℕ)) → Reads (Opened most lines) left next mid
    → ReadsAhead (NextLine most next new) mid rest (Ok (Some line)) → Reads (Opened most (lines ++ line ∷ [])) left new rest
reads_more most lines next new line None mid rest r n = tt
reads_more most lines next new line (Some all) None rest r n = absurd r
reads_more most lines next new line (Some all) (Some bytes) None r n = absurd n
reads_more most lines next new line (Some all) (Some bytes) (Some after) r n = opened_more most lines next new line all bytes after r n

-- ---- the messages so far

pub just_opened : (most : ℕ) (stream : ℕ) (had rest : Option (List ℕ)) (framing : Framing) (made : Option (List Step)) → Reads IsGood had framing rest → Fed most stream had rest framing made made
just_opened most stream None rest framing made r = record { messages = []; read = tt; goes = tt; opened = tt; adds = adds_none made }
just_opened most stream (Some all) None framing made r = absurd r
just_opened most stream (Some all) (Some bytes) framing made r =
    record { messages = []; read = tt; goes = tt; opened = (framing, bytes, r, (refl, refl)); adds = adds_none made }

pub fed_more : (most : ℕ) (stream : ℕ) (left mid rest : Option (List ℕ)) (old new : Framing) (a b c : Option (List Step)) (earlier later : ℕ) (item : WatchItem) → Fed most stream left mid old a b
    → Nexts most old new mid rest earlier later (Ok item) → is_cancel item ≡ false → IsTaken stream item b c → Fed most stream left rest new a c
fed_more most stream left mid rest old new a b c earlier later item f n g s =
    let m : Message = record { line = n.0; item = item; now = s.0 } in
    record {
      messages = f.messages ++ m ∷ [];
      read = every_append (λ (x : Message). item_of x.line ≡ Ok x.item) f.messages (m ∷ []) f.read (n.2, tt);
      goes = every_append (λ (x : Message). is_cancel x.item ≡ false) f.messages (m ∷ []) f.goes (g, tt);
      opened = subst (λ (ls : List (List ℕ)). Reads (Opened most ls) left new rest) (sym (map-append (λ (x : Message). x.line) f.messages (m ∷ []))) (reads_more most (lines_of f.messages) old new n.0 left mid rest f.opened n.1);
      adds = subst (Adds a c) (sym (map-append (λ (x : Message). entry_of (Item stream x.item) x.now (Ok Noted)) f.messages (m ∷ []))) (adds_then a b c (steps_of stream f.messages) (entry_of (Item stream item) s.0 (Ok Noted) ∷ []) f.adds s.1);
    }

-- ---- the end

quiet_goes : (cause : Cause) (ms : List Message) → IsQuiet cause → AllGo ms → Goes cause ms
quiet_goes Cause.Unready ms q g = g
quiet_goes (Cause.Unanswered fault) ms q g = g
quiet_goes (Cause.Refused head) ms q g = g
quiet_goes (Cause.Broken fault) ms q g = g
quiet_goes Cause.Ended ms q g = g
quiet_goes Cause.Over ms q g = absurd q
quiet_goes (Cause.Unread line) ms q g = g
quiet_goes (Cause.NoMessage line) ms q g = g
quiet_goes (Cause.Unfed m fault) ms q g = absurd q
quiet_goes (Cause.Late m) ms q g = g

quiet_failed : (stream : ℕ) (cause : Cause) → IsQuiet cause → failed stream cause ≡ []
quiet_failed stream Cause.Unready q = refl
quiet_failed stream (Cause.Unanswered fault) q = refl
quiet_failed stream (Cause.Refused head) q = refl
quiet_failed stream (Cause.Broken fault) q = refl
quiet_failed stream Cause.Ended q = refl
quiet_failed stream Cause.Over q = absurd q
quiet_failed stream (Cause.Unread line) q = refl
quiet_failed stream (Cause.NoMessage line) q = refl
quiet_failed stream (Cause.Unfed m fault) q = absurd q
quiet_failed stream (Cause.Late m) q = refl

-- the stream is cut by a cause with no step of its own
quiet_cut : (worn : Type 0) (stream : ℕ) (cause : Cause) (first end : StreamEnd) (steps : List Step) → IsQuiet cause → wanted cause ≡ Some first → Cuts worn stream first end steps
    → Ends worn stream cause end steps
quiet_cut worn stream cause first end steps q w c =
    subst (λ (xs : List Step). Ends worn stream cause end (xs ++ steps)) (quiet_failed stream cause q) (Ends.cutting cause first end steps w c)

-- it was cut before a message came
pub not_opened : (most : ℕ) (worn : Type 0) (stream : ℕ) (had rest : Option (List ℕ)) (earlier later : ℕ) (a b : Option (List Step)) (stop : StreamStop) (end : StreamEnd)
    → Opens most had rest earlier later (Err stop) → IsCut worn stream stop.end end a b → Following worn most stream had earlier later a b stop.read end
not_opened most worn stream had rest earlier later a b stop end o c = record {
  messages = [];
  read = tt;
  cause = o.0;
  goes = quiet_goes o.0 [] o.1.0 tt;
  stands = o.2;
  risen = o.1.3;
  ended = o.1.2;
  tail = c.0;
  ends = quiet_cut worn stream o.0 stop.end end c.0 o.1.0 o.1.1 c.1;
  adds = c.2;
}

-- there was no memory for a wire
no_wire_stands : (most : ℕ) (had : Option (List ℕ)) → IfSome had (Stands most Cause.Unready [])
no_wire_stands most None = tt
no_wire_stands most (Some all) = refl

pub no_wire : (most : ℕ) (worn : Type 0) (stream : ℕ) (had : Option (List ℕ)) (earlier : ℕ) (a b : Option (List Step)) (end : StreamEnd) → IsCut worn stream how.NoMemory end a b
    → Following worn most stream had earlier earlier a b answer.Broken end
no_wire most worn stream had earlier a b end c = record {
  messages = [];
  read = tt;
  cause = Cause.Unready;
  goes = tt;
  stands = no_wire_stands most had;
  risen = tt;
  ended = refl;
  tail = c.0;
  ends = quiet_cut worn stream Cause.Unready how.NoMemory end c.0 tt refl c.1;
  adds = c.2;
}

-- what stands behind the messages
stands_behind : (most : ℕ) (cause : Cause) (ms : List Message) (old : Framing) (all mid : List ℕ) → Opened most (lines_of ms) all old mid → StandsNext most cause old mid → Stands most cause ms all
stands_behind most Cause.Unready ms old all mid o n = absurd n
stands_behind most (Cause.Unanswered fault) ms old all mid o n = absurd n
stands_behind most (Cause.Refused head) ms old all mid o n = absurd n
stands_behind most (Cause.Broken fault) ms old all mid o n = (old, n.0, mid, n.1, o, n.2)
stands_behind most Cause.Ended ms old all mid o n = (old, n.0, mid, n.1, o, n.2)
stands_behind most Cause.Over ms old all mid o n = absurd n
stands_behind most (Cause.Unread line) ms old all mid o n = (n.0, n.1, opened_more most (lines_of ms) old n.0 line all mid n.1 o n.2)
stands_behind most (Cause.NoMessage line) ms old all mid o n = ((n.0.0, n.0.1, opened_more most (lines_of ms) old n.0.0 line all mid n.0.1 o n.0.2), n.1)
stands_behind most (Cause.Unfed m fault) ms old all mid o n = absurd n
stands_behind most (Cause.Late m) ms old all mid o n = absurd n

stands_ahead : (most : ℕ) (cause : Cause) (ms : List Message) (old : Framing) (left mid : Option (List ℕ)) → Reads (Opened most (lines_of ms)) left old mid → IfSome mid (StandsNext most cause old)
    → IfSome left (Stands most cause ms)
stands_ahead most cause ms old None mid o n = tt
stands_ahead most cause ms old (Some all) None o n = absurd o
stands_ahead most cause ms old (Some all) (Some bytes) o n = stands_behind most cause ms old all bytes o n

-- a count that rose since rose since before
risen_since : (cause : Cause) (n m k : ℕ) → n ≤ m → HasRisen cause m k → HasRisen cause n k
risen_since (Cause.Unanswered wire.ReadFault) n m k le r = omega arith
risen_since (Cause.Unanswered wire.BadHead) n m k le r = tt
risen_since (Cause.Unanswered wire.HeadTooLong) n m k le r = tt
risen_since (Cause.Unanswered wire.BodyTooLong) n m k le r = tt
risen_since (Cause.Unanswered wire.BadChunk) n m k le r = tt
risen_since (Cause.Unanswered wire.EndedEarly) n m k le r = tt
risen_since (Cause.Unanswered wire.WriteFault) n m k le r = tt
risen_since (Cause.Unanswered wire.NoMemory) n m k le r = tt
risen_since (Cause.Broken wire.ReadFault) n m k le r = omega arith
risen_since (Cause.Broken wire.BadHead) n m k le r = tt
risen_since (Cause.Broken wire.HeadTooLong) n m k le r = tt
risen_since (Cause.Broken wire.BodyTooLong) n m k le r = tt
risen_since (Cause.Broken wire.BadChunk) n m k le r = tt
risen_since (Cause.Broken wire.EndedEarly) n m k le r = tt
risen_since (Cause.Broken wire.WriteFault) n m k le r = tt
risen_since (Cause.Broken wire.NoMemory) n m k le r = tt
risen_since Cause.Unready n m k le r = tt
risen_since (Cause.Refused head) n m k le r = tt
risen_since Cause.Ended n m k le r = tt
risen_since Cause.Over n m k le r = tt
risen_since (Cause.Unread line) n m k le r = tt
risen_since (Cause.NoMessage line) n m k le r = tt
risen_since (Cause.Unfed message fault) n m k le r = tt
risen_since (Cause.Late message) n m k le r = tt

-- no further message came
pub none_came : (most : ℕ) (worn : Type 0) (stream : ℕ) (had mid rest : Option (List ℕ)) (old new : Framing) (start earlier later : ℕ) (a b c : Option (List Step)) (stop : StreamStop) (end : StreamEnd)
    → Fed most stream had mid old a b → start ≤ earlier → Nexts most old new mid rest earlier later (Err stop) → IsCut worn stream stop.end end b c
    → Following worn most stream had start later a c stop.read end
none_came most worn stream had mid rest old new start earlier later a b c stop end f le n s = record {
  messages = f.messages;
  read = f.read;
  cause = n.0;
  goes = quiet_goes n.0 f.messages n.1.0 f.goes;
  stands = stands_ahead most n.0 f.messages old had mid f.opened n.2;
  risen = risen_since n.0 start earlier later le n.1.3;
  ended = n.1.2;
  tail = s.0;
  ends = quiet_cut worn stream n.0 stop.end end s.0 n.1.0 n.1.1 s.1;
  adds = adds_then a b c (steps_of stream f.messages) s.0 f.adds s.2;
}

opened_at : (most : ℕ) (ms : List Message) (left rest : Option (List ℕ)) (framing : Framing) → Reads (Opened most (lines_of ms)) left framing rest → IfSome left (Stands most Cause.Over ms)
opened_at most ms None rest framing o = tt
opened_at most ms (Some all) None framing o = absurd o
opened_at most ms (Some all) (Some bytes) framing o = (framing, bytes, o)

-- the last message ended the watch
pub was_over : (most : ℕ) (worn : Type 0) (stream : ℕ) (left mid rest : Option (List ℕ)) (old new : Framing) (start later before behind : ℕ) (a b c d : Option (List Step)) (item : WatchItem) (end : StreamEnd)
    → Fed most stream left mid old a b → Nexts most old new mid rest before behind (Ok item) → is_cancel item ≡ true → IsTaken stream item b c → IsCut worn stream how.Cut end c d
    → Following worn most stream left start later a d answer.Broken end
was_over most worn stream left mid rest old new start later before behind a b c d item end f n g s t =
    let m : Message = record { line = n.0; item = item; now = s.0 } in
    let ms = f.messages ++ m ∷ [] in
    let opened = subst (λ (ls : List (List ℕ)). Reads (Opened most ls) left new rest) (sym (map-append (λ (x : Message). x.line) f.messages (m ∷ []))) (reads_more most (lines_of f.messages) old new n.0 left mid rest f.opened n.1) in
    let adds = subst (Adds a c) (sym (map-append (λ (x : Message). entry_of (Item stream x.item) x.now (Ok Noted)) f.messages (m ∷ []))) (adds_then a b c (steps_of stream f.messages) (entry_of (Item stream item) s.0 (Ok Noted) ∷ []) f.adds s.1) in
    record {
      messages = ms;
      read = every_append (λ (x : Message). item_of x.line ≡ Ok x.item) f.messages (m ∷ []) f.read (n.2, tt);
      cause = Cause.Over;
      goes = (f.messages, m, refl, g, f.goes);
      stands = opened_at most ms left rest new opened;
      risen = tt;
      ended = refl;
      tail = t.0;
      ends = Ends.cutting Cause.Over how.Cut end t.0 refl t.1;
      adds = adds_then a c d (steps_of stream ms) t.0 adds t.2;
    }

-- what a message that couldn't be fed is as a cause
abbrev pub IsUnfed : ℕ → Type 0 → ℕ → List ℕ → WatchItem → StreamEnd → List Step → Type 0
IsUnfed most worn stream line item end steps =
    (cause : Cause) × Ends worn stream cause end steps
    × ((ms : List Message) (had : Option (List ℕ)) → IfSome had (λ (all : List ℕ). OpenedMore most ms line all × (item_of line ≡ Ok item)) → IfSome had (Stands most cause ms))
    × ((earlier later : ℕ) → HasRisen cause earlier later)
    × ((ms : List Message) → AllGo ms → Goes cause ms)
    × (answer.Broken ≡ read_to cause)

unfed : (most : ℕ) (worn : Type 0) (stream : ℕ) (line : List ℕ) (item : WatchItem) (end : StreamEnd) (steps : List Step) → Refuses worn stream item end steps → IsUnfed most worn stream line item end steps
unfed most worn stream line item _ _ (Refuses.cutting now last steps c) =
    let m : Message = record { line = line; item = item; now = now } in
    let cause : Cause = Cause.Unfed m step.NoMemory in
    (cause, Ends.cutting cause how.NoMemory last steps refl c, λ ms had p. p, λ earlier later. tt, λ ms g. g, refl)
unfed most worn stream line item _ _ (Refuses.gone now) =
    let m : Message = record { line = line; item = item; now = now } in
    (Cause.Unfed m (step.NoSuchStream stream), Ends.gone m, λ ms had p. p, λ earlier later. tt, λ ms g. g, refl)
unfed most worn stream line item _ _ (Refuses.spent now) =
    let m : Message = record { line = line; item = item; now = now } in
    (Cause.Unfed m step.Worn, Ends.spent m, λ ms had p. p, λ earlier later. tt, λ ms g. g, refl)
unfed most worn stream line item _ _ (Refuses.late l) =
    let m : Message = record { line = line; item = item; now = 0 } in
    (Cause.Late m, Ends.late m l, λ ms had p. p, λ earlier later. tt, λ ms g. g, refl)

-- a message came that couldn't be fed
more_stands : (most : ℕ) (ms : List Message) (old new : Framing) (line : List ℕ) (left mid rest : Option (List ℕ)) → Reads (Opened most (lines_of ms)) left old mid
    → ReadsAhead (NextLine most old new) mid rest (Ok (Some line)) → IfSome left (OpenedMore most ms line)
more_stands most ms old new line None mid rest o n = tt
more_stands most ms old new line (Some all) None rest o n = absurd o
more_stands most ms old new line (Some all) (Some bytes) None o n = absurd n
more_stands most ms old new line (Some all) (Some bytes) (Some after) o n = (new, after, opened_more most (lines_of ms) old new line all bytes after o n)

both_stand : (P : List ℕ → Type 0) (Q : Type 0) (left : Option (List ℕ)) → IfSome left P → Q → IfSome left (λ (all : List ℕ). P all × Q)
both_stand P Q None p q = tt
both_stand P Q (Some all) p q = (p, q)

pub not_fed : (most : ℕ) (worn : Type 0) (stream : ℕ) (had mid rest : Option (List ℕ)) (old new : Framing) (start earlier later : ℕ) (a b c : Option (List Step)) (item : WatchItem) (end : StreamEnd)
    → Fed most stream had mid old a b → Nexts most old new mid rest earlier later (Ok item) → Feeds worn stream item b c (Some end) → Following worn most stream had start later a c answer.Broken end
not_fed most worn stream had mid rest old new start earlier later a b c item end f n s =
    let is = unfed most worn stream n.0 item end s.0 s.1 in
    record {
      messages = f.messages;
      read = f.read;
      cause = is.0;
      goes = is.4 f.messages f.goes;
      stands = is.2 f.messages had (both_stand (OpenedMore most f.messages n.0) (item_of n.0 ≡ Ok item) had (more_stands most f.messages old new n.0 had mid rest f.opened n.1) n.2);
      risen = is.3 start later;
      ended = is.5;
      tail = s.0;
      ends = is.1;
      adds = adds_then a b c (steps_of stream f.messages) s.0 f.adds s.2;
    }

-- ---- one message

pub was_fed : (stream now : ℕ) (item : WatchItem) (a b : Option (List Step)) (outcome : Outcome) → Fits (Item stream item) (Ok outcome)
    → MadeBy a b (Item stream item) now (Ok outcome) → IsTaken stream item a b
was_fed stream now item a b Noted f m = (now, m)
was_fed stream now item a b _ f m = absurd f

pub cut_for_memory : (worn : Type 0) (stream now : ℕ) (item : WatchItem) (a b c : Option (List Step)) (fault : TurnFault) (end : StreamEnd) → is_for_memory fault ≡ true
    → MadeBy a b (Item stream item) now (Err fault) → IsCut worn stream how.NoMemory end b c → Feeds worn stream item a c (Some end)
cut_for_memory worn stream now item a b c (turn.Core step.NoMemory) end i m s =
    let e = entry_of (Item stream item) now (Err step.NoMemory) in
    (e ∷ s.0, Refuses.cutting now end s.0 s.1, adds_then a b c (e ∷ []) s.0 m s.2)
cut_for_memory worn stream now item a b c turn.Worn end i m s = absurd (cc)
cut_for_memory worn stream now item a b c (turn.Core step.Worn) end i m s = absurd (cc)
cut_for_memory worn stream now item a b c (turn.Core (step.TicketUsed n)) end i m s = absurd (cc)
cut_for_memory worn stream now item a b c (turn.Core (step.NoSuchTicket n)) end i m s = absurd (cc)
cut_for_memory worn stream now item a b c (turn.Core (step.NoSuchCall n)) end i m s = absurd (cc)
cut_for_memory worn stream now item a b c (turn.Core (step.NoSuchStream n)) end i m s = absurd (cc)

pub refused : (worn : Type 0) (stream now : ℕ) (item : WatchItem) (a b : Option (List Step)) (fault : TurnFault) → is_for_memory fault ≡ false → Fits (Item stream item) (Err fault)
    → (fault ≡ turn.Worn → worn) → MadeBy a b (Item stream item) now (Err fault) → Feeds worn stream item a b (Some (end_of fault))
refused worn stream now item a b turn.Worn i f l m = ([], Refuses.late (l refl), m)
refused worn stream now item a b (turn.Core step.Worn) i f l m = (_, Refuses.spent now, m)
refused worn stream now item a b (turn.Core (step.NoSuchStream n)) i f l m =
    (_, Refuses.gone now, subst (λ (k : ℕ). Adds a b (entry_of (Item stream item) now (Err (step.NoSuchStream k)) ∷ [])) f m)
refused worn stream now item a b (turn.Core step.NoMemory) i f l m = absurd (cc)
refused worn stream now item a b (turn.Core (step.TicketUsed n)) i f l m = absurd f
refused worn stream now item a b (turn.Core (step.NoSuchTicket n)) i f l m = absurd f
refused worn stream now item a b (turn.Core (step.NoSuchCall n)) i f l m = absurd f

pub refused_as : (worn : Type 0) (stream now : ℕ) (item : WatchItem) (a b : Option (List Step)) (fault : TurnFault) (last : StreamEnd) → last ≡ end_of fault → is_for_memory fault ≡ false
    → Fits (Item stream item) (Err fault) → (fault ≡ turn.Worn → worn) → MadeBy a b (Item stream item) now (Err fault) → Feeds worn stream item a b (Some last)
refused_as worn stream now item a b fault last e i f l m =
    subst (λ (x : StreamEnd). Feeds worn stream item a b (Some x)) (sym e) (refused worn stream now item a b fault i f l m)

-- ---- the cut

pub was_cut : (worn : Type 0) (stream now : ℕ) (a b : Option (List Step)) (end : StreamEnd) (result : Result Outcome TurnFault) → MadeBy a b (Cut stream) now result → is_worn result ≡ false
    → IsCut worn stream end end a b
was_cut worn stream now a b end (Ok outcome) m n = (_, Cuts.cut end now (Ok outcome), m)
was_cut worn stream now a b end (Err (turn.Core fault)) m n = (_, Cuts.cut end now (Err fault), m)
was_cut worn stream now a b end (Err turn.Worn) m n = absurd (cc)

pub was_worn : (worn : Type 0) (stream now : ℕ) (a b : Option (List Step)) (first : StreamEnd) (result : Result Outcome TurnFault) → MadeBy a b (Cut stream) now result
    → IfErr result (λ why. why ≡ turn.Worn → worn) → is_worn result ≡ true → IsCut worn stream first how.Worn a b
was_worn worn stream now a b first (Ok outcome) m l n = absurd (cc)
was_worn worn stream now a b first (Err (turn.Core fault)) m l n = absurd (cc)
was_worn worn stream now a b first (Err turn.Worn) m l n = ([], Cuts.late first (l refl), m)

-- ---- the answer's head

pub opened_as : (had rest : Option (List ℕ)) (head : AnswerHead) → head.status ≡ 200 → ReadsAhead AnswerRead had rest (Ok head) → Reads IsGood had head.framing rest
opened_as None rest head e r = tt
opened_as (Some all) None head e r = absurd r
opened_as (Some all) (Some bytes) head e r = (head, e, refl, r)

refused_at : (most : ℕ) (had rest : Option (List ℕ)) (head : AnswerHead) → (head.status ≡ 200 → ⊥) → ReadsAhead AnswerRead had rest (Ok head) → IfSome had (Stands most (Cause.Refused head) [])
refused_at most None rest head other r = tt
refused_at most (Some all) None head other r = absurd r
refused_at most (Some all) (Some bytes) head other r = (refl, other, (bytes, r))

pub other_status : (most : ℕ) (had rest : Option (List ℕ)) (earlier later : ℕ) (head : AnswerHead) → (head.status ≡ 200 → ⊥) → ReadsAhead AnswerRead had rest (Ok head)
    → Opens most had rest earlier later (Err (cut_at how.Cut))
other_status most had rest earlier later head other r = (Cause.Refused head, (tt, refl, refl, tt), refused_at most had rest head other r)

unanswered_at : (most : ℕ) (had rest : Option (List ℕ)) (fault : WireFault) → ReadsAhead AnswerRead had rest (Err fault) → IfSome had (Stands most (Cause.Unanswered fault) [])
unanswered_at most None rest fault r = tt
unanswered_at most (Some all) None fault r = absurd r
unanswered_at most (Some all) (Some bytes) fault r = (refl, (bytes, r))

unanswered_rose : (fault : WireFault) (earlier later : ℕ) → (fault ≡ wire.ReadFault → Rose earlier later) → HasRisen (Cause.Unanswered fault) earlier later
unanswered_rose wire.ReadFault n k c = c refl
unanswered_rose wire.BadHead n k c = tt
unanswered_rose wire.HeadTooLong n k c = tt
unanswered_rose wire.BodyTooLong n k c = tt
unanswered_rose wire.BadChunk n k c = tt
unanswered_rose wire.EndedEarly n k c = tt
unanswered_rose wire.WriteFault n k c = tt
unanswered_rose wire.NoMemory n k c = tt

broken_rose : (fault : WireFault) (earlier later : ℕ) → (fault ≡ wire.ReadFault → Rose earlier later) → HasRisen (Cause.Broken fault) earlier later
broken_rose wire.ReadFault n k c = c refl
broken_rose wire.BadHead n k c = tt
broken_rose wire.HeadTooLong n k c = tt
broken_rose wire.BodyTooLong n k c = tt
broken_rose wire.BadChunk n k c = tt
broken_rose wire.EndedEarly n k c = tt
broken_rose wire.WriteFault n k c = tt
broken_rose wire.NoMemory n k c = tt

pub no_answer : (most : ℕ) (had rest : Option (List ℕ)) (earlier later : ℕ) (fault : WireFault) (last : StreamEnd) → last ≡ end_by fault → (fault ≡ wire.ReadFault → Rose earlier later)
    → ReadsAhead AnswerRead had rest (Err fault) → Opens most had rest earlier later (Err (cut_at last))
no_answer most had rest earlier later fault last e c r =
    (Cause.Unanswered fault, (tt, ap (λ (x : StreamEnd). Some x) (sym e), refl, unanswered_rose fault earlier later c), unanswered_at most had rest fault r)

-- ---- the next line

broken_at : (most : ℕ) (old new : Framing) (had rest : Option (List ℕ)) (fault : WireFault) → ReadsAhead (NextLine most old new) had rest (Err fault)
    → IfSome had (StandsNext most (Cause.Broken fault) old)
broken_at most old new None rest fault r = tt
broken_at most old new (Some all) None fault r = absurd r
broken_at most old new (Some all) (Some bytes) fault r = (new, bytes, r)

pub no_line : (most : ℕ) (old new : Framing) (had rest : Option (List ℕ)) (earlier later : ℕ) (fault : WireFault) (stop : StreamStop) → stop ≡ stop_by fault
    → (fault ≡ wire.ReadFault → Rose earlier later) → ReadsAhead (NextLine most old new) had rest (Err fault) → Nexts most old new had rest earlier later (Err stop)
no_line most old new had rest earlier later fault stop e c r =
    (Cause.Broken fault, (tt, ap (λ (x : StreamStop). Some x.end) (sym e), ap (λ (x : StreamStop). x.read) e, broken_rose fault earlier later c), broken_at most old new had rest fault r)

ended_at : (most : ℕ) (old new : Framing) (had rest : Option (List ℕ)) → ReadsAhead (NextLine most old new) had rest (Ok None) → IfSome had (StandsNext most Cause.Ended old)
ended_at most old new None rest r = tt
ended_at most old new (Some all) None r = absurd r
ended_at most old new (Some all) (Some bytes) r = (new, bytes, r)

pub body_ended : (most : ℕ) (old new : Framing) (had rest : Option (List ℕ)) (earlier later : ℕ) (x : Option (List ℕ)) → x ≡ None → ReadsAhead (NextLine most old new) had rest (Ok x)
    → Nexts most old new had rest earlier later (Err (cut_at how.Cut))
body_ended most old new had rest earlier later x e r =
    (Cause.Ended, (tt, refl, refl, tt), ended_at most old new had rest (subst (λ (y : Option (List ℕ)). ReadsAhead (NextLine most old new) had rest (Ok y)) e r))

-- a line, told or not
line_at : (most : ℕ) (old new : Framing) (left rest : Option (List ℕ)) (line : List ℕ) → ReadsAhead (NextLine most old new) left rest (Ok (Some line))
    → IfSome left (StandsNext most (Cause.Unread line) old)
line_at most old new None rest line r = tt
line_at most old new (Some all) None line r = absurd r
line_at most old new (Some all) (Some bytes) line r = (new, bytes, r)

line_as : (most : ℕ) (old new : Framing) (left rest : Option (List ℕ)) (x : Option (List ℕ)) (line : List ℕ) → x ≡ Some line → ReadsAhead (NextLine most old new) left rest (Ok x)
    → ReadsAhead (NextLine most old new) left rest (Ok (Some line))
line_as most old new left rest x line e r = subst (λ (y : Option (List ℕ)). ReadsAhead (NextLine most old new) left rest (Ok y)) e r

pub message_came : (most : ℕ) (old new : Framing) (left rest : Option (List ℕ)) (earlier later : ℕ) (x : Option (List ℕ)) (line : List ℕ) (item : WatchItem) → x ≡ Some line
    → ReadsAhead (NextLine most old new) left rest (Ok x) → item_of line ≡ Ok item → Nexts most old new left rest earlier later (Ok item)
message_came most old new left rest earlier later x line item e r i = (line, line_as most old new left rest x line e r, i)

pub no_message : (most : ℕ) (old new : Framing) (had rest : Option (List ℕ)) (earlier later : ℕ) (x : Option (List ℕ)) (line : List ℕ) → x ≡ Some line
    → ReadsAhead (NextLine most old new) had rest (Ok x) → item_of line ≡ Err Unreadable → Nexts most old new had rest earlier later (Err (cut_at how.Cut))
no_message most old new had rest earlier later x line e r i = (
  Cause.NoMessage line,
  (tt, refl, refl, tt),
  both_stand (λ (all : List ℕ). (next : Framing) × (behind : List ℕ) × NextLine most old next all behind (Ok (Some line))) (item_of line ≡ Err Unreadable) had
      (line_at most old new had rest line (line_as most old new had rest x line e r)) i,
)

pub not_read : (most : ℕ) (old new : Framing) (had rest : Option (List ℕ)) (earlier later : ℕ) (x : Option (List ℕ)) (line : List ℕ) → x ≡ Some line
    → ReadsAhead (NextLine most old new) had rest (Ok x) → Nexts most old new had rest earlier later (Err (cut_at how.NoMemory))
not_read most old new had rest earlier later x line e r = (Cause.Unread line, (tt, refl, refl, tt), line_at most old new had rest line (line_as most old new had rest x line e r))

-- a stop under another name
pub opens_as : (most : ℕ) (had rest : Option (List ℕ)) (earlier later : ℕ) (x y : StreamStop) → x ≡ y → Opens most had rest earlier later (Err y) → Opens most had rest earlier later (Err x)
opens_as most had rest earlier later x y e o = subst (λ (z : StreamStop). Opens most had rest earlier later (Err z)) (sym e) o

pub nexts_as : (most : ℕ) (old new : Framing) (had rest : Option (List ℕ)) (earlier later : ℕ) (x y : StreamStop) → x ≡ y → Nexts most old new had rest earlier later (Err y)
    → Nexts most old new had rest earlier later (Err x)
nexts_as most old new had rest earlier later x y e n = subst (λ (z : StreamStop). Nexts most old new had rest earlier later (Err z)) (sym e) n

-- what a source has left under another name
pub rest_as : (most : ℕ) (stream : ℕ) (had x y : Option (List ℕ)) (w : WireState) (framing : Framing) (a b : Option (List Step)) → y ≡ x → Fed most stream had (bytes_ahead x w) framing a b
    → Fed most stream had (bytes_ahead y w) framing a b
rest_as most stream had x y w framing a b e f = subst (λ (z : Option (List ℕ)). Fed most stream had (bytes_ahead z w) framing a b) (sym e) f

-- a whole stream, by its stop
pub following_as : (most : ℕ) (worn : Type 0) (stream : ℕ) (had : Option (List ℕ)) (earlier later : ℕ) (a b : Option (List Step)) (x y : StreamStop) → x ≡ y
    → Following worn most stream had earlier later a b y.read y.end → Following worn most stream had earlier later a b x.read x.end
following_as most worn stream had earlier later a b x y e f = subst (λ (z : StreamStop). Following worn most stream had earlier later a b z.read z.end) (sym e) f

-- ---- from the source's bytes on

-- a new wire holds nothing
ahead_none : (had : Option (List ℕ)) (w : WireState) → w.held ≡ [] → bytes_ahead had w ≡ had
ahead_none None w e = refl
ahead_none (Some bytes) w e = λ i. Some (e i ++ bytes)

pub not_opened_at : (most : ℕ) (worn : Type 0) (stream : ℕ) (had rest : Option (List ℕ)) (w : WireState) (earlier later : ℕ) (a b : Option (List Step)) (stop : StreamStop) (end : StreamEnd) → w.held ≡ []
    → Opens most (bytes_ahead had w) rest earlier later (Err stop) → IsCut worn stream stop.end end a b → Following worn most stream had earlier later a b stop.read end
not_opened_at most worn stream had rest w earlier later a b stop end e o c =
    subst (λ (x : Option (List ℕ)). Following worn most stream x earlier later a b stop.read end) (ahead_none had w e)
    (not_opened most worn stream (bytes_ahead had w) rest earlier later a b stop end o c)

pub just_opened_at : (most : ℕ) (stream : ℕ) (had rest : Option (List ℕ)) (w : WireState) (framing : Framing) (made : Option (List Step)) → w.held ≡ []
    → Reads IsGood (bytes_ahead had w) framing rest → Fed most stream had rest framing made made
just_opened_at most stream had rest w framing made e r =
    subst (λ (x : Option (List ℕ)). Fed most stream x rest framing made made) (ahead_none had w e) (just_opened most stream (bytes_ahead had w) rest framing made r)

-- ---- on the link

tells_then : {A : Type 0} (a b c : Option (List A)) (xs ys : List A) → Tells a b xs → Tells b c ys → Tells a c (xs ++ ys)
tells_then a b None xs ys p q = tt
tells_then a None (Some c) xs ys p q = absurd q
tells_then None (Some b) (Some c) xs ys p q = absurd p
tells_then {A} (Some a) (Some b) (Some c) xs ys p q = q ∙ ap (λ (l : List A). l ++ ys) p ∙ append_assoc a xs ys

-- what was begun, with the bytes under their own name
pub begun_as : (follow : Follow) (bytes : List ℕ) (a b : Option (List LinkCall)) (came : Result (Option (List ℕ)) LinkFault) → bytes ≡ follow.call
    → Tells a b (Begun follow.member (Watches follow.stream) bytes came ∷ []) → Tells a b (begun follow came ∷ [])
begun_as follow bytes a b came e t = subst (λ (x : List ℕ). Tells a b (Begun follow.member (Watches follow.stream) x came ∷ [])) e t

-- the answer was followed and given back. Its count of failures began at none
pub was_followed : (most : ℕ) (worn : Type 0) (follow : Follow) (a b c : Option (List LinkCall)) (n m k : ℕ) (made made' : Option (List Step)) (had left : Option (List ℕ)) (first count : ℕ) (how : AnswerEnd)
    (end : StreamEnd) → Tells a b (begun follow (Ok had) ∷ []) → Tells b c (Ended left count how ∷ []) → n ≤ m → k ≡ m → first ≡ 0
    → Following worn most follow.stream had first count made made' how end → IsFollowed worn most follow a c n k made made' end
was_followed most worn follow a b c n m k made made' had left first count how end t u le same none f = record {
  calls = begun follow (Ok had) ∷ Ended left count how ∷ [];
  told = tells_then a b c (begun follow (Ok had) ∷ []) (Ended left count how ∷ []) t u;
  kept = omega arith;
  follows = Follows.followed had left count how end (subst (λ (x : ℕ). Following worn most follow.stream had x count made made' how end) none f);
}

-- it couldn't be begun
pub was_failed : {T : Type 0} (most : ℕ) (worn : Type 0) (follow : Follow) (a b : Option (List LinkCall)) (n m : ℕ) (made made' : Option (List Step)) (why : LinkFault) (end : StreamEnd) → why ≡ link.Failed
    → Tells a b (begun follow (Err why) ∷ []) → HasLinkCause {T = T} n m (Err why) → IsCut worn follow.stream how.Cut end made made' → IsFollowed worn most follow a b n m made made' end
was_failed most worn follow a b n m made made' why end e t c s = record {
  calls = begun follow (Err link.Failed) ∷ [];
  told = subst (λ (x : LinkFault). Tells a b (begun follow (Err x) ∷ [])) e t;
  kept = c.kept;
  follows = Follows.failed end (c.rose (ap (λ (x : LinkFault). Err x) e)) s;
}

pub was_unbegun : {T : Type 0} (most : ℕ) (worn : Type 0) (follow : Follow) (a b : Option (List LinkCall)) (n m : ℕ) (made made' : Option (List Step)) (why : LinkFault) (end : StreamEnd) → why ≡ link.NoMemory
    → Tells a b (begun follow (Err why) ∷ []) → HasLinkCause {T = T} n m (Err why) → IsCut worn follow.stream how.NoMemory end made made' → IsFollowed worn most follow a b n m made made' end
was_unbegun most worn follow a b n m made made' why end e t c s = record {
  calls = begun follow (Err link.NoMemory) ∷ [];
  told = subst (λ (x : LinkFault). Tells a b (begun follow (Err x) ∷ [])) e t;
  kept = c.kept;
  follows = Follows.unbegun end s;
}
