-- What items tell of a ticket's acquire and of the writes of its key, item by item.
use Rattle.std.proofs.Common.{◌≡◌, ℕ, ◌==◌, nat_lt, Bool, true, false, cond, not, ◌&&◌, ◌||◌, List, [], ◌∷◌, ◌++◌, Option, None, Some, refl, sym, ◌∙◌, ap}
use Rattle.std.specs.List.{list_all, list_any}
use Rattle.etcd_types.specs.declared.request.Request.{Request}
use Rattle.etcd_types.specs.declared.watch.Change.{Change}
use Rattle.etcd_types.specs.declared.watch.Change.TheVariants as change
use Rattle.etcd_types.specs.declared.watch.Event.{Event}
use Rattle.etcd_types.specs.Keys.{same}
use Rattle.etcd_types.proofs.Bools.{and_first, and_second}
use Rattle.proxy_model.specs.Foreign.{revoke_word}
use Rattle.wait_model.specs.Notices.{owned_key}
use Rattle.core_laws.proofs.Steps.Lists.{same_number, number_itself}
use Rattle.script_text.specs.declared.item.Item.{Item}
use Rattle.script_text.specs.declared.item.Item.TheVariants as item
use Rattle.world_model.specs.Lives.{begins, clock_of, executed_to, next_message}
use Rattle.world_model.specs.LiveSessions.{Session, session_of, is_live}
use Rattle.cached_laws.specs.Streams.{leasing_of}
use Rattle.cached_laws.proofs.Folds.{told_next, told_still}
use Rattle.owned_laws.specs.OwnWrites.{OwnWrite, settles_as, is_in_time}
use Rattle.owned_laws.specs.Owned.{Owning, asks, sends, owns, write_asked, write_sent, owned_behind, owner_key, takes_under, gave_up, claim_in, is_numbered, owned_if, won_under, revokes, told_revokes, is_stream, writes_over, has_write, awaits_call, create_of, unless_so, joined, may_join, written_by, asked_by, sent_under, sent_by, answered_by, delivered_by, owned_by, owned}
use Rattle.owned_laws.specs.Watched.{Spares, AllSpare}

-- ---- items that tell nothing of it

abbrev pub is_calm : ℕ → Item → Bool
is_calm p (item.Started q) = not (q == p)
is_calm p (item.Restarted q) = not (q == p)
is_calm p (item.Asked q ticket r) = not (q == p)
is_calm p (item.Sent q call member ticket r) = not (q == p)
is_calm p (item.Answered call) = false
is_calm p (item.Lost call) = false
is_calm p (item.Delivered number) = false
is_calm p (item.Left q ticket) = not (q == p)
is_calm p _ = true

off_it : (b : Bool) → not b ≡ true → b ≡ false
off_it true e = absurd (cc)
off_it false e = refl

module _ (namespace leasing k : List ℕ) (p ticket : ℕ) where
  abbrev By : List Item → Item → Option Owning → Option Owning
  By = owned_by namespace leasing k p ticket

  abbrev Told : List Item → Option Owning
  Told items = owned namespace leasing k p ticket items

  calm : (before : List Item) (i : Item) (a : Option Owning) → is_calm p i ≡ true → (begins p i ≡ false) × (By before i a ≡ a)
  calm before (item.Started q) a h = (off_it (q == p) h, refl)
  calm before (item.Restarted q) a h = (off_it (q == p) h, refl)
  calm before (item.Asked q t r) a h = (refl, ap (λ (b : Bool). cond b (asked_by leasing k ticket t r (clock_of p before) a) a) (off_it (q == p) h))
  calm before (item.Sent q call member t r) a h = (refl, ap (λ (b : Bool). cond b (sent_by (owner_key namespace leasing k) p ticket call t before r a) a) (off_it (q == p) h))
  calm before (item.Answered call) a h = absurd (cc)
  calm before (item.Lost call) a h = absurd (cc)
  calm before (item.Delivered number) a h = absurd (cc)
  calm before (item.World members ns l) a h = (refl, refl)
  calm before (item.Clock q millis) a h = (refl, refl)
  calm before (item.Posted q t path body) a h = (refl, refl)
  calm before (item.Ticked q) a h = (refl, refl)
  calm before (item.Opened q stream member r) a h = (refl, refl)
  calm before (item.Closed q stream) a h = (refl, refl)
  calm before (item.Executed call x) a h = (refl, refl)
  calm before (item.Pushed stream i) a h = (refl, refl)
  calm before (item.Cut stream) a h = (refl, refl)
  calm before (item.Taken q t i) a h = (refl, refl)
  calm before (item.Pending q t) a h = (refl, refl)
  calm before (item.Left q t) a h = (refl, ap (λ (b : Bool). cond b (unless_so (has_write t) a) a) (off_it (q == p) h))
  calm before (item.Reply q t x) a h = (refl, refl)
  calm before (item.Body q t status text) a h = (refl, refl)
  calm before (item.Expired lease) a h = (refl, refl)
  calm before (item.Applied member revision) a h = (refl, refl)

  pub told_calm : (items more : List Item) → list_all (is_calm p) more ≡ true → Told (items ++ more) ≡ Told items
  told_calm items more h = told_still p None By (is_calm p) calm items more h

  next : (items : List Item) (i : Item) → begins p i ≡ false → Told (items ++ i ∷ []) ≡ By items i (Told items)
  next items i h = told_next p None By items i ∙ ap (λ (b : Bool). cond b None (By items i (Told items))) h

  no_owning : {A : Type 0} (o : Owning) → ◌≡◌ {A = Option Owning} None (Some o) → A
  no_owning o e = absurd (cc)

  some_owning : (a b : Owning) → Some a ≡ Some b → a ≡ b
  some_owning a b e = cc

  -- it doesn't hold of what is left
  unless_told : (q : Owning → Bool) (x : Option Owning) (o : Owning) → unless_so q x ≡ Some o → (x ≡ Some o) × (q o ≡ false)
  unless_told q None o h = no_owning o h
  unless_told q (Some y) o h = by (q y) refl h
    where
      by : (b : Bool) → q y ≡ b → cond b None (Some y) ≡ Some o → (Some y ≡ Some o) × (q o ≡ false)
      by true e f = no_owning o f
      by false e f = (f, ap q (sym (some_owning y o f)) ∙ e)

  -- ---- a request of the proxy: it begins with it, or it writes the key alone and joins the writes of it, or it doesn't write the key
  pub data AskedAs (items : List Item) (t : ℕ) (r : Request) (o : Owning) : Type 0 where
    begins_it : writes_over leasing k r ≡ false → t ≡ ticket → o ≡ asks [] → AskedAs items t r o
    writes_it : (y : Owning) → Told items ≡ Some y → writes_over leasing k r ≡ true → may_join leasing k t r y ≡ true → joined (record { ticket = t; request = r; since = clock_of p items }) y ≡ Some o → AskedAs items t r o
    asks_other : writes_over leasing k r ≡ false → Told items ≡ Some o → has_write t o ≡ false → AskedAs items t r o

  pub told_asked : (items : List Item) (t : ℕ) (r : Request) (o : Owning) → Told (items ++ item.Asked p t r ∷ []) ≡ Some o → AskedAs items t r o
  told_asked items t r o e =
      by (writes_over leasing k r) refl (sym (next items (item.Asked p t r) refl ∙ ap (λ (b : Bool). cond b (asked_by leasing k ticket t r (clock_of p items) (Told items)) (Told items)) (number_itself p)) ∙ e)
    where
      by_join : (y : Owning) → Told items ≡ Some y → writes_over leasing k r ≡ true → (b : Bool) → may_join leasing k t r y ≡ b → cond b (joined (record { ticket = t; request = r; since = clock_of p items }) y) None ≡ Some o → AskedAs items t r o
      by_join y f w true g h = writes_it y f w g h
      by_join y f w false g h = no_owning o h

      by_told : (x : Option Owning) → Told items ≡ x → writes_over leasing k r ≡ true → written_by leasing k t r (clock_of p items) x ≡ Some o → AskedAs items t r o
      by_told None f w h = no_owning o h
      by_told (Some y) f w h = by_join y f w (may_join leasing k t r y) refl h

      by_ticket : writes_over leasing k r ≡ false → (b : Bool) → (t == ticket) ≡ b → cond b (Some (asks [])) (unless_so (has_write t) (Told items)) ≡ Some o → AskedAs items t r o
      by_ticket w true g h = begins_it w (same_number t ticket g) (sym (some_owning (asks []) o h))
      by_ticket w false g h = let u = unless_told (has_write t) (Told items) o h in asks_other w u.0 u.1

      by : (b : Bool) → writes_over leasing k r ≡ b → cond b (written_by leasing k t r (clock_of p items) (Told items)) (cond (t == ticket) (Some (asks [])) (unless_so (has_write t) (Told items))) ≡ Some o → AskedAs items t r o
      by true w h = by_told (Told items) refl w h
      by false w h = by_ticket w (t == ticket) refl h

  -- ---- a call of the proxy: it is the acquire, or the first write, or tells nothing
  pub record IsSent (items : List Item) (call t : ℕ) (r : Request) (o : Owning) : Type 0 where
    pub writes : List OwnWrite
    pub asked : Told items ≡ Some (asks writes)
    pub ticket_is : t ≡ ticket
    pub session : Session
    pub told : session_of p items ≡ Some session
    pub live : is_live p items ≡ true
    pub takes : takes_under (owner_key namespace leasing k) session.number r ≡ true
    pub sent : o ≡ sends call session.number writes

  pub data SentAs (items : List Item) (call t : ℕ) (r : Request) (o : Owning) : Type 0 where
    takes_it : IsSent items call t r o → SentAs items call t r o
    sends_write : (n create : ℕ) (w : OwnWrite) (ws : List OwnWrite) → Told items ≡ Some (write_asked n create w ws) → t ≡ w.ticket → o ≡ write_sent n create w ws call → SentAs items call t r o
    sends_other : Told items ≡ Some o → has_write t o ≡ false → SentAs items call t r o

  pub told_sent : (items : List Item) (call member t : ℕ) (r : Request) (o : Owning) → Told (items ++ item.Sent p call member t r ∷ []) ≡ Some o → SentAs items call t r o
  told_sent items call member t r o e =
      by_told (Told items) refl (sym (next items (item.Sent p call member t r) refl ∙ ap (λ (b : Bool). cond b (sent_by (owner_key namespace leasing k) p ticket call t items r (Told items)) (Told items)) (number_itself p)) ∙ e)
    where
      -- a call under another ticket
      by_other : (y : Owning) → Told items ≡ Some y → unless_so (has_write t) (Some y) ≡ Some o → SentAs items call t r o
      by_other y f h = let u = unless_told (has_write t) (Some y) o h in sends_other (f ∙ u.0) u.1

      by_takes : (ws : List OwnWrite) (s : Session) (b : Bool) → Told items ≡ Some (asks ws) → t ≡ ticket → session_of p items ≡ Some s → is_live p items && takes_under (owner_key namespace leasing k) s.number r ≡ b
          → cond b (Some (sends call s.number ws)) (unless_so (has_write t) (Some (asks ws))) ≡ Some o → SentAs items call t r o
      by_takes ws s true a i f g h =
          takes_it (record {
            writes = ws;
            asked = a;
            ticket_is = i;
            session = s;
            told = f;
            live = and_first (is_live p items) (takes_under (owner_key namespace leasing k) s.number r) g;
            takes = and_second (is_live p items) (takes_under (owner_key namespace leasing k) s.number r) g;
            sent = sym (some_owning (sends call s.number ws) o h);
          })
      by_takes ws s false a i f g h = by_other (asks ws) a h

      by_session : (ws : List OwnWrite) (s : Option Session) → Told items ≡ Some (asks ws) → t ≡ ticket → session_of p items ≡ s → sent_under (owner_key namespace leasing k) t call (is_live p items) r ws s ≡ Some o → SentAs items call t r o
      by_session ws None a i f h = by_other (asks ws) a h
      by_session ws (Some s) a i f h = by_takes ws s (is_live p items && takes_under (owner_key namespace leasing k) s.number r) a i f refl h

      by_ticket : (ws : List OwnWrite) (b : Bool) → (t == ticket) ≡ b → Told items ≡ Some (asks ws) → cond b (sent_under (owner_key namespace leasing k) t call (is_live p items) r ws (session_of p items)) (unless_so (has_write t) (Some (asks ws))) ≡ Some o → SentAs items call t r o
      by_ticket ws true i f h = by_session ws (session_of p items) f (same_number t ticket i) refl h
      by_ticket ws false i f h = by_other (asks ws) f h

      by_write : (n create : ℕ) (w : OwnWrite) (ws : List OwnWrite) (b : Bool) → (t == w.ticket) ≡ b → Told items ≡ Some (write_asked n create w ws)
          → cond b (Some (write_sent n create w ws call)) (unless_so (has_write t) (Some (write_asked n create w ws))) ≡ Some o → SentAs items call t r o
      by_write n create w ws true i f h = sends_write n create w ws f (same_number t w.ticket i) (sym (some_owning (write_sent n create w ws call) o h))
      by_write n create w ws false i f h = by_other (write_asked n create w ws) f h

      by_told : (x : Option Owning) → Told items ≡ x → sent_by (owner_key namespace leasing k) p ticket call t items r x ≡ Some o → SentAs items call t r o
      by_told None f h = no_owning o h
      by_told (Some (asks ws)) f h = by_ticket ws (t == ticket) refl f h
      by_told (Some (sends c n ws)) f h = by_other (sends c n ws) f h
      by_told (Some (owns n create)) f h = by_other (owns n create) f h
      by_told (Some (write_asked n create w ws)) f h = by_write n create w ws (t == w.ticket) refl f h
      by_told (Some (write_sent n create w ws c)) f h = by_other (write_sent n create w ws c) f h

  -- ---- an answer: it is the acquire's, and wins; or the first write's, and settles it; or it is of another call
  pub record IsWon (items : List Item) (call : ℕ) (o : Owning) : Type 0 where
    pub n : ℕ
    pub writes : List OwnWrite
    pub sent : Told items ≡ Some (sends call n writes)
    pub create : ℕ
    pub claim : claim_in namespace leasing k (executed_to call items) ≡ Some create
    pub numbered : is_numbered n (session_of p items) ≡ true
    pub live : is_live p items ≡ true
    pub kept : gave_up (owner_key namespace leasing k) create p items ≡ false
    pub won : o ≡ owned_behind n create writes

  pub record IsDone (items : List Item) (call : ℕ) (o : Owning) : Type 0 where
    pub n : ℕ
    pub create : ℕ
    pub write : OwnWrite
    pub behind : List OwnWrite
    pub sent : Told items ≡ Some (write_sent n create write behind call)
    pub in_time : is_in_time (clock_of p items) write ≡ true
    pub settled : settles_as namespace leasing write.request (executed_to call items) ≡ true
    pub again : o ≡ owned_behind n create behind

  pub data AnsweredAs (items : List Item) (call : ℕ) (o : Owning) : Type 0 where
    wins_it : IsWon items call o → AnsweredAs items call o
    settles_it : IsDone items call o → AnsweredAs items call o
    answers_other : Told items ≡ Some o → awaits_call call o ≡ false → AnsweredAs items call o

  pub told_answered : (items : List Item) (call : ℕ) (o : Owning) → Told (items ++ item.Answered call ∷ []) ≡ Some o → AnsweredAs items call o
  told_answered items call o e = by (Told items) refl (sym (next items (item.Answered call) refl) ∙ e)
    where
      same_of : (y : Owning) → awaits_call call y ≡ false → Told items ≡ Some y → Some y ≡ Some o → AnsweredAs items call o
      same_of y n f h = answers_other (f ∙ h) (ap (awaits_call call) (sym (some_owning y o h)) ∙ n)

      by_claim : (n c : ℕ) (ws : List OwnWrite) → c ≡ call → Told items ≡ Some (sends c n ws) → (x : Option ℕ) → claim_in namespace leasing k (executed_to call items) ≡ x → won_under (owner_key namespace leasing k) p items n ws x ≡ Some o → AnsweredAs items call o
      by_claim n c ws i f None g h = no_owning o h
      by_claim n c ws i f (Some create) g h = by_test (is_numbered n (session_of p items) && is_live p items && not (gave_up (owner_key namespace leasing k) create p items)) refl h
        where
          by_test : (b : Bool) → is_numbered n (session_of p items) && is_live p items && not (gave_up (owner_key namespace leasing k) create p items) ≡ b → owned_if b (owned_behind n create ws) ≡ Some o → AnsweredAs items call o
          by_test true t u =
              let both = and_first (is_numbered n (session_of p items) && is_live p items) (not (gave_up (owner_key namespace leasing k) create p items)) t in
              wins_it (record {
                n = n;
                writes = ws;
                sent = f ∙ ap (λ (m : ℕ). Some (sends m n ws)) i;
                create = create;
                claim = g;
                numbered = and_first (is_numbered n (session_of p items)) (is_live p items) both;
                live = and_second (is_numbered n (session_of p items)) (is_live p items) both;
                kept = off_it (gave_up (owner_key namespace leasing k) create p items) (and_second (is_numbered n (session_of p items) && is_live p items) (not (gave_up (owner_key namespace leasing k) create p items)) t);
                won = sym (some_owning (owned_behind n create ws) o u);
              })
          by_test false t u = no_owning o u

      by_settled : (n create : ℕ) (w : OwnWrite) (ws : List OwnWrite) (c : ℕ) → c ≡ call → Told items ≡ Some (write_sent n create w ws c) → (b : Bool) → is_in_time (clock_of p items) w && settles_as namespace leasing w.request (executed_to call items) ≡ b → cond b (Some (owned_behind n create ws)) None ≡ Some o
          → AnsweredAs items call o
      by_settled n create w ws c i f true g h =
          settles_it (record {
            n = n;
            create = create;
            write = w;
            behind = ws;
            sent = f ∙ ap (λ (m : ℕ). Some (write_sent n create w ws m)) i;
            in_time = and_first (is_in_time (clock_of p items) w) (settles_as namespace leasing w.request (executed_to call items)) g;
            settled = and_second (is_in_time (clock_of p items) w) (settles_as namespace leasing w.request (executed_to call items)) g;
            again = sym (some_owning (owned_behind n create ws) o h);
          })
      by_settled n create w ws c i f false g h = no_owning o h

      by_call : (c n : ℕ) (ws : List OwnWrite) → Told items ≡ Some (sends c n ws) → (b : Bool) → (c == call) ≡ b → cond b (won_under (owner_key namespace leasing k) p items n ws (claim_in namespace leasing k (executed_to call items))) (Some (sends c n ws)) ≡ Some o → AnsweredAs items call o
      by_call c n ws f true g h = by_claim n c ws (same_number c call g) f (claim_in namespace leasing k (executed_to call items)) refl h
      by_call c n ws f false g h = same_of (sends c n ws) g f h

      by_write : (n create : ℕ) (w : OwnWrite) (ws : List OwnWrite) (c : ℕ) → Told items ≡ Some (write_sent n create w ws c) → (b : Bool) → (c == call) ≡ b
          → cond b (cond (is_in_time (clock_of p items) w && settles_as namespace leasing w.request (executed_to call items)) (Some (owned_behind n create ws)) None) (Some (write_sent n create w ws c)) ≡ Some o → AnsweredAs items call o
      by_write n create w ws c f true g h = by_settled n create w ws c (same_number c call g) f (is_in_time (clock_of p items) w && settles_as namespace leasing w.request (executed_to call items)) refl h
      by_write n create w ws c f false g h = same_of (write_sent n create w ws c) g f h

      by : (x : Option Owning) → Told items ≡ x → answered_by namespace leasing k p call items x ≡ Some o → AnsweredAs items call o
      by None f h = no_owning o h
      by (Some (asks ws)) f h = same_of (asks ws) refl f h
      by (Some (owns m create)) f h = same_of (owns m create) refl f h
      by (Some (write_asked m create w ws)) f h = same_of (write_asked m create w ws) refl f h
      by (Some (sends c n ws)) f h = by_call c n ws f (c == call) refl h
      by (Some (write_sent n create w ws c)) f h = by_write n create w ws c f (c == call) refl h

  -- ---- a loss of another call, and another client that leaves
  pub told_lost : (items : List Item) (call : ℕ) (o : Owning) → Told (items ++ item.Lost call ∷ []) ≡ Some o → (Told items ≡ Some o) × (awaits_call call o ≡ false)
  told_lost items call o e = unless_told (awaits_call call) (Told items) o (sym (next items (item.Lost call) refl) ∙ e)

  pub told_left : (items : List Item) (t : ℕ) (o : Owning) → Told (items ++ item.Left p t ∷ []) ≡ Some o → (Told items ≡ Some o) × (has_write t o ≡ false)
  told_left items t o e =
      unless_told (has_write t) (Told items) o (sym (next items (item.Left p t) refl ∙ ap (λ (b : Bool). cond b (unless_so (has_write t) (Told items)) (Told items)) (number_itself p)) ∙ e)

  -- ---- a message that takes nothing back
  pub told_delivered : (items : List Item) (number : ℕ) (o : Owning) → Told (items ++ item.Delivered number ∷ []) ≡ Some o
      → (Told items ≡ Some o) × (is_stream number (leasing_of namespace leasing p items) && told_revokes namespace leasing k (create_of o) (next_message number items) ≡ false)
  told_delivered items number o e = by (Told items) refl (sym (next items (item.Delivered number) refl) ∙ e)
    where
      by_test : (x : Owning) → Told items ≡ Some x → (b : Bool) → is_stream number (leasing_of namespace leasing p items) && told_revokes namespace leasing k (create_of x) (next_message number items) ≡ b → cond b None (Some x) ≡ Some o
          → (Told items ≡ Some o) × (is_stream number (leasing_of namespace leasing p items) && told_revokes namespace leasing k (create_of o) (next_message number items) ≡ false)
      by_test x f true g h = no_owning o h
      by_test x f false g h = (f ∙ h, ap (λ (y : Owning). is_stream number (leasing_of namespace leasing p items) && told_revokes namespace leasing k (create_of y) (next_message number items)) (sym (some_owning x o h)) ∙ g)

      by : (x : Option Owning) → Told items ≡ x → delivered_by namespace leasing k p number items x ≡ Some o → (Told items ≡ Some o) × (is_stream number (leasing_of namespace leasing p items) && told_revokes namespace leasing k (create_of o) (next_message number items) ≡ false)
      by None f h = no_owning o h
      by (Some x) f h = by_test x f (is_stream number (leasing_of namespace leasing p items) && told_revokes namespace leasing k (create_of x) (next_message number items)) refl h

  pub told_begun : (items : List Item) (i : Item) → begins p i ≡ true → Told (items ++ i ∷ []) ≡ None
  told_begun items i h = told_next p None By items i ∙ ap (λ (b : Bool). cond b None (By items i (Told items))) h

-- ---- events that take nothing back

second_off : (a b : Bool) → a ≡ true → a && b ≡ false → b ≡ false
second_off true b e h = h
second_off false b e h = absurd (cc)

or_none : (a b : Bool) → a || b ≡ false → (a ≡ false) × (b ≡ false)
or_none true b h = absurd (cc)
or_none false b h = (refl, h)

one_spares : (k leasing : List ℕ) (w h : Bool) (c : ℕ) (create : Option ℕ) (x : Change) → (h ≡ true → create ≡ Some c) → revokes leasing k create x ≡ false → Spares k w h c leasing x
one_spares k leasing w h c create (change.Put kv) f n = λ y v. second_off (same kv.value revoke_word) (same (owned_key leasing kv.key) k) v n
one_spares k leasing w h c create (change.Delete j revision) f n = λ y s.
    second_off (same (owned_key leasing j) k) (nat_lt c revision) s (ap (λ (o : Option ℕ). revokes leasing k o (change.Delete j revision)) (sym (f y)) ∙ n)

pub all_spare : (k leasing : List ℕ) (w h : Bool) (c : ℕ) (create : Option ℕ) (es : List Event) → (h ≡ true → create ≡ Some c) → list_any (λ e. revokes leasing k create e.change) es ≡ false → AllSpare k w h c leasing es
all_spare k leasing w h c create [] f n = tt
all_spare k leasing w h c create (e ∷ es) f n =
    let o = or_none (revokes leasing k create e.change) (list_any (λ e. revokes leasing k create e.change) es) n in
    (one_spares k leasing w h c create e.change f o.0, all_spare k leasing w h c create es f o.1)
