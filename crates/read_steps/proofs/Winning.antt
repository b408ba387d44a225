-- An acquire that is answered: what its key's reads come to, and that no other read is released.
use Rattle.std.proofs.Common.{◌≡◌, ℕ, Bool, true, false, cond, ◌&&◌, List, [], ◌∷◌, map, Option, None, Some, is_some, refl, sym, ◌∙◌, ap, subst}
use Rattle.std.specs.List.{list_all}
use Rattle.std.specs.Option.{option_to_list}
use Rattle.etcd_types.specs.declared.answer.Answer.TheVariants as answer
use Rattle.etcd_types.specs.declared.record.Header.{Header}
use Rattle.etcd_types.specs.declared.record.Kv.{Kv}
use Rattle.etcd_types.specs.Keys.{same}
use Rattle.etcd_types.proofs.Bools.{and_first, and_second}
use Rattle.etcd_types.proofs.KeyOrder.{same-equal}
use Rattle.proxy_model.specs.declared.lease.Entry.{Entry}
use Rattle.proxy_model.specs.declared.ownership.Claim.TheVariants.{Acquired, OwnedBy}
use Rattle.proxy_model.specs.declared.ownership.Owner.{Owner}
use Rattle.proxy_model.specs.Keyed.{Keyed, at, with_at}
use Rattle.proxy_model.specs.LeaseTable.{is_writing}
use Rattle.proxy_model.specs.Snapshot.{plain_body}
use Rattle.proxy_model.proofs.KeyedLaws.{at-with_at, same-turned}
use Rattle.wait_model.specs.Asked.{acquire_ended}
use Rattle.acquire_rows.proofs.Marking.{absent_stays}
use Rattle.read_model.specs.declared.asked.Asked.{Asked}
use Rattle.read_model.specs.declared.asked.Stage.{Stage}
use Rattle.read_model.specs.declared.asked.Stage.TheVariants as stage
use Rattle.read_model.specs.declared.asked.Verdict.{Verdict}
use Rattle.read_model.specs.declared.asked.Verdict.TheVariants as verdict
use Rattle.read_model.specs.Acquires.{is_acquiring, told, acquire_gone, with_entry, won, found_own, acquired, owned_by, acquire_done}
use Rattle.read_model.specs.Fits.{AllStand, ReadsOk}
use Rattle.read_model.specs.PlainRead.{ask_key, shown, called, in_stage, read_turn}
use Rattle.read_model.specs.Release.{stands, ask_stands, in_place}
use Rattle.read_model.specs.State.{Reads, Moment, Ground, ground_of, on}
use Rattle.core_laws.proofs.PlainReads.InPlace.{plain_in_place, wins_in_place}
use Rattle.known_asks.specs.Changes.{stage_or, staged_by}
use Rattle.read_core.specs.Readers.{reading_stage, readers_stage, joined_stage}
use Rattle.read_steps.specs.Parts.{reads, held_entries}

neither : (b : Bool) → b && false ≡ false
neither true = refl
neither false = refl

-- an acquired key has no entry
pub no_entry : (standing : Bool) (r : Reads) (k : List ℕ) → ReadsOk standing r → is_some (at r.acquires k) ≡ true → at r.own.entries k ≡ None
no_entry standing r k h t = empty (at r.own.entries k) ((h.ground.keys k).ok.apart (h.ground.marks k ∙ t))
  where
    empty : {A : Type 0} (o : Option A) → is_some o ≡ false → o ≡ None
    empty None e = refl
    empty (Some x) e = absurd (cc)

-- the verdict of a read that is shown this record
abbrev shows : Header → Option Kv → Verdict
shows h kv = verdict.Said (answer.Done (record { header = h; body = plain_body (option_to_list kv) }))

-- What reads wait on then.

abbrev pub ground_after : List ℕ → Option Entry → Ground → Ground
ground_after k o g = with_entry k o (acquire_gone k g)

at_other : (k : List ℕ) (o : Option Entry) (g : Ground) (a : Asked) (s : Stage) → same k (ask_key a) ≡ false → ask_stands (ground_after k o g) (in_stage s a) ≡ ask_stands g (in_stage s a)
at_other k o g a s f = λ i.
    stands a.ticket ((at-with_at g.own.entries k (ask_key a) o ∙ ap (λ b. cond b o (at g.own.entries (ask_key a))) f) i) ((at-with_at g.acquires k (ask_key a) None ∙ ap (λ b. cond b None (at g.acquires (ask_key a))) f) i) s

stays : (held : Bool) (h : Header) (g : Ground) (a : Asked) → ask_stands g a ≡ true → in_place held h g a ≡ a
stays held h g a t =
    ap (λ b. cond b a (cond held (in_stage (read_turn h g.own.waits.step (at g.own.entries (ask_key a)) false None).stage a) (in_stage (called g.own.waits.step) a))) t

-- One read: `t` is what one that joined comes to.

one_reader : (h : Header) (held : Bool) (k : List ℕ) (v : Verdict) (t : Stage) (o : Option Entry) (g : Ground) (a : Asked) (s : Stage) → at g.own.entries k ≡ None → cond held (read_turn h g.own.waits.step o false None).stage (called g.own.waits.step) ≡ t → ask_stands g (in_stage s a) ≡ true → in_place held h (ground_after k o g) (told k (stage.Replied v) (in_stage s a)) ≡ staged_by (readers_stage k (stage.Replied v) t) (in_stage s a)
one_reader h held k v t o g a s n turn st = of_key (same (ask_key a) k) refl
  where
    -- of the key itself
    here : same (ask_key a) k ≡ true → (x : Stage) → ask_stands g (in_stage x a) ≡ true → in_place held h (ground_after k o g) (cond (is_acquiring x && true) (in_stage (stage.Replied v) a) (in_stage x a)) ≡ stage_or (reading_stage (stage.Replied v) t x) (in_stage x a)
    here e stage.Acquiring y = refl
    here e stage.Joined y =
        let f : same k (ask_key a) ≡ true = same-turned k (ask_key a) ∙ e in
        let none : at (ground_after k o g).acquires (ask_key a) ≡ None = at-with_at g.acquires k (ask_key a) None ∙ ap (λ b. cond b None (at g.acquires (ask_key a))) f in
        let it : at (ground_after k o g).own.entries (ask_key a) ≡ o = at-with_at g.own.entries k (ask_key a) o ∙ ap (λ b. cond b o (at g.own.entries (ask_key a))) f in
        (λ i. cond (is_some (none i)) (in_stage stage.Joined a) (cond held (in_stage (read_turn h g.own.waits.step (it i) false None).stage a) (in_stage (called g.own.waits.step) a)))
        ∙ either held (read_turn h g.own.waits.step o false None).stage (called g.own.waits.step) turn
      where
        either : (b : Bool) (x y : Stage) → cond b x y ≡ t → cond b (in_stage x a) (in_stage y a) ≡ in_stage t a
        either true x y e = ap (λ (z : Stage). in_stage z a) e
        either false x y e = ap (λ (z : Stage). in_stage z a) e
    here e stage.Behind y =
        let none : at g.own.entries (ask_key a) ≡ None = subst (λ (j : List ℕ). at g.own.entries j ≡ None) (sym (same-equal (ask_key a) k e)) n in
        absurd (let w : is_writing (at g.own.entries (ask_key a)) ≡ false = ap is_writing none in cc)
    here e (stage.Calling x) y = refl
    here e stage.Writes y = refl
    here e (stage.Grouped x) y = refl
    here e (stage.Replied x) y = refl

    of_key : (b : Bool) → same (ask_key a) k ≡ b → in_place held h (ground_after k o g) (cond (is_acquiring s && b) (in_stage (stage.Replied v) a) (in_stage s a)) ≡ stage_or (cond b (reading_stage (stage.Replied v) t s) None) (in_stage s a)
    of_key true e = here e s st
    of_key false e =
        ap (λ b. in_place held h (ground_after k o g) (cond b (in_stage (stage.Replied v) a) (in_stage s a))) (neither (is_acquiring s))
        ∙ stays held h (ground_after k o g) (in_stage s a) (at_other k o g a s (same-turned k (ask_key a) ∙ e) ∙ st)

all_readers : (h : Header) (held : Bool) (k : List ℕ) (v : Verdict) (t : Stage) (o : Option Entry) (g : Ground) (xs : List Asked) → at g.own.entries k ≡ None → cond held (read_turn h g.own.waits.step o false None).stage (called g.own.waits.step) ≡ t → AllStand g xs → map (staged_by (readers_stage k (stage.Replied v) t)) xs ≡ map (in_place held h (ground_after k o g)) (map (told k (stage.Replied v)) xs)
all_readers h held k v t o g [] n turn st = refl
all_readers h held k v t o g (a ∷ xs) n turn st = λ i.
    sym (one_reader h held k v t o g a a.stage n turn (and_first (ask_stands g a) (list_all (ask_stands g) xs) st)) i ∷ all_readers h held k v t o g xs n turn (and_second (ask_stands g a) (list_all (ask_stands g) xs) st) i

-- The key was acquired.

abbrev pub joined_turn : Bool → Header → Option Kv → ℕ → Stage
joined_turn held h kv step = joined_stage (cond held (Some h) None) kv step

won_turn : (held : Bool) (h : Header) (create : ℕ) (kv : Option Kv) (step : ℕ) → cond held (read_turn h step (Some (won held create kv)) false None).stage (called step) ≡ joined_turn held h kv step
won_turn true h create kv step = refl
won_turn false h create kv step = refl

pub won_reads : (standing : Bool) (m : Moment) (k : List ℕ) (held : Bool) (h : Header) (create : ℕ) (kv : Option Kv) (r : Reads) → ReadsOk standing r → is_some (at r.acquires k) ≡ true → reads (with_at r.own.entries k (Some (won held create kv))) (acquire_ended k r.own).waits (with_at r.acquires k None) (map (staged_by (readers_stage k (shown h kv) (joined_turn held m.header kv r.own.waits.step))) r.asks) ≡ acquire_done m k held h (Acquired create kv) r
won_reads standing m k held h create kv r ok t =
    let g = ground_of r in
    ap (on (ground_after k (Some (won held create kv)) g)) (all_readers m.header held k (shows h kv) (joined_turn held m.header kv r.own.waits.step) (Some (won held create kv)) g r.asks (no_entry standing r k ok t) (won_turn held m.header create kv r.own.waits.step) ok.asks)
    ∙ sym (of_held held)
  where
    of_held : (b : Bool) → acquire_done m k b h (Acquired create kv) r ≡ on (ground_after k (Some (won b create kv)) (ground_of r)) (map (in_place b m.header (ground_after k (Some (won b create kv)) (ground_of r))) (map (told k (shown h kv)) r.asks))
    of_held true = wins_in_place standing m k h create kv r ok
    of_held false = plain_in_place m (acquired m k false h create kv r)

-- It is owned already.

held_or_none : (k : List ℕ) (o : Option Entry) (es : Keyed Entry) → at es k ≡ None → held_entries k o es ≡ with_at es k o
held_or_none k None es n = sym (absent_stays k es n)
held_or_none k (Some e) es n = refl

pub owned_reads : (standing : Bool) (m : Moment) (k : List ℕ) (held : Bool) (h : Header) (kv : Option Kv) (owner : Option Owner) (r : Reads) → ReadsOk standing r → is_some (at r.acquires k) ≡ true → reads (held_entries k (found_own m.session owner None) r.own.entries) (acquire_ended k r.own).waits (with_at r.acquires k None) (map (staged_by (readers_stage k (shown h kv) (called r.own.waits.step))) r.asks) ≡ acquire_done m k held h (OwnedBy kv owner) r
owned_reads standing m k held h kv owner r ok t =
    let g = ground_of r in
    let n = no_entry standing r k ok t in
    let o = found_own m.session owner None in
    (λ i. reads (held_or_none k o r.own.entries n i) (acquire_ended k r.own).waits (with_at r.acquires k None) (all_readers m.header false k (shows h kv) (called r.own.waits.step) o g r.asks n refl ok.asks i))
    ∙ ap (λ (e : Option Entry). on (ground_after k (found_own m.session owner e) g) (map (in_place false m.header (ground_after k (found_own m.session owner e) g)) (map (told k (shown h kv)) r.asks))) (sym n)
    ∙ sym (plain_in_place m (owned_by m k h kv owner r))
