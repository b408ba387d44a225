-- Writes that are forgotten one after the other, in whichever order: of the writes that cover a key only the first may be active, so no
-- entry is settled by two.
use Rattle.std.proofs.Common.{◌≡◌, ℕ, Bool, true, false, cond, ◌&&◌, ◌==◌, List, [], ◌∷◌, Option, None, Some, refl, sym, ◌∙◌, ap, arith}
use Rattle.std.proofs.lemmas.Bool.Decides.{nat_tests}
use Rattle.etcd_types.proofs.Bools.{and_first, and_second, and_both}
use Rattle.proxy_model.specs.declared.lease.Entry.{Entry}
use Rattle.proxy_model.specs.Keyed.{Keyed}
use Rattle.proxy_model.specs.LeaseTable.{unwritten, leaving}
use Rattle.wait_model.specs.declared.write.Write.{Write}
use Rattle.wait_model.specs.declared.write.WriteStage.{WriteStage}
use Rattle.wait_model.specs.declared.write.WriteStage.TheVariants.{Waiting, Sends, Finds}
use Rattle.wait_model.specs.Covers.{covers}
use Rattle.wait_model.specs.Edits.{each}
use Rattle.wait_model.specs.Endings.{given_back, forgotten_by, forgotten}
use Rattle.wait_model.specs.Fits.{is_quiet, only_first}
use Rattle.wait_model.specs.GuardedAnswers.{ended_by, owns}
use Rattle.wait_model.specs.Phases.{if_written}
use Rattle.wait_model.specs.Stages.{is_waiting, is_owner, is_due}
use Rattle.wait_model.specs.State.{Ownership}
use Rattle.wait_model.specs.Writes.{first_by, without_first, has_ticket}
use Rattle.read_model.specs.declared.asked.Asked.{Asked}
use Rattle.read_model.specs.TakingOff.{is_writes, forgotten_all}
use Rattle.read_steps.specs.Over.{OneOwner}

-- No write passes both tests.

abbrev pub Apart : (Write → Bool) → (Write → Bool) → Type 0
Apart p q = (w : Write) → p w ≡ true → q w ≡ false

turned : (p q : Write → Bool) → Apart p q → (w : Write) → q w ≡ true → p w ≡ false
turned p q h w e = one (p w) refl
  where
    one : (b : Bool) → p w ≡ b → p w ≡ false
    one true f = absurd (let x : q w ≡ false = h w f in cc)
    one false f = f

first_other : (p q : Write → Bool) (ws : List Write) → Apart p q → first_by p (without_first q ws) ≡ first_by p ws
first_other p q [] h = refl
first_other p q (w ∷ ws) h = one (q w) refl (first_other p q ws h)
  where
    one : (b : Bool) → q w ≡ b → first_by p (without_first q ws) ≡ first_by p ws → first_by p (cond b ws (w ∷ without_first q ws)) ≡ cond (p w) (Some w) (first_by p ws)
    one true e r = sym (ap (λ b. cond b (Some w) (first_by p ws)) (turned p q h w e))
    one false e r = ap (λ (o : Option Write). cond (p w) (Some w) o) r

without_both : (p q : Write → Bool) (ws : List Write) → Apart p q → without_first p (without_first q ws) ≡ without_first q (without_first p ws)
without_both p q [] h = refl
without_both p q (w ∷ ws) h = one (p w) (q w) refl refl (without_both p q ws h)
  where
    one : (b c : Bool) → p w ≡ b → q w ≡ c → without_first p (without_first q ws) ≡ without_first q (without_first p ws) → without_first p (cond c ws (w ∷ without_first q ws)) ≡ without_first q (cond b ws (w ∷ without_first p ws))
    one true true e f r = absurd (let x : q w ≡ false = h w e in cc)
    one true false e f r = ap (λ b. cond b (without_first q ws) (w ∷ without_first p (without_first q ws))) e
    one false true e f r = sym (ap (λ b. cond b (without_first p ws) (w ∷ without_first q (without_first p ws))) f)
    one false false e f r =
        ap (λ b. cond b (without_first q ws) (w ∷ without_first p (without_first q ws))) e ∙ ap (λ (vs : List Write). w ∷ vs) r
        ∙ sym (ap (λ b. cond b (without_first p ws) (w ∷ without_first q (without_first p ws))) f)

-- Of two writes one at most compares a key.

not_owner : (s : WriteStage) → is_waiting s ≡ true → is_owner s ≡ false
not_owner Waiting e = refl
not_owner (Sends owner s) e = absurd (cc)
not_owner (Finds found) e = absurd (cc)

neither : (b : Bool) → b && false ≡ false
neither true = refl
neither false = refl

quiet_owns : (q : Write → Bool) (k : List ℕ) (w : Write) (ws : List Write) → is_quiet k ws ≡ true → first_by q ws ≡ Some w → owns w k ≡ false
quiet_owns q k w [] h e = absurd (cc)
quiet_owns q k w (x ∷ ws) h e = one (q x) (covers x k) refl e h (quiet_owns q k w ws)
  where
    one : (b c : Bool) → covers x k ≡ c → cond b (Some x) (first_by q ws) ≡ Some w → cond c (is_waiting x.stage && is_quiet k ws) (is_quiet k ws) ≡ true → (is_quiet k ws ≡ true → first_by q ws ≡ Some w → owns w k ≡ false) → owns w k ≡ false
    one true true s f g r = let is : x ≡ w = cc in ap (λ (v : Write). owns v k) (sym is) ∙ ap (λ b. b && covers x k) (not_owner x.stage (and_first (is_waiting x.stage) (is_quiet k ws) g))
    one true false s f g r = let is : x ≡ w = cc in ap (λ (v : Write). owns v k) (sym is) ∙ ap (λ b. is_owner x.stage && b) s ∙ neither (is_owner x.stage)
    one false true s f g r = r (and_second (is_waiting x.stage) (is_quiet k ws) g) f
    one false false s f g r = r g f

-- one of the two, by a head that passes
head_owns : (q : Write → Bool) (k : List ℕ) (x w : Write) (ws : List Write) → only_first k (x ∷ ws) ≡ true → first_by q ws ≡ Some w → owns x k && owns w k ≡ false
head_owns q k x w ws h e = one (covers x k) refl h
  where
    one : (c : Bool) → covers x k ≡ c → cond c (is_quiet k ws) (only_first k ws) ≡ true → owns x k && owns w k ≡ false
    one true s g = ap (λ b. owns x k && b) (quiet_owns q k w ws g e) ∙ neither (owns x k)
    one false s g = ap (λ b. b && owns w k) (ap (λ b. is_owner x.stage && b) s ∙ neither (is_owner x.stage))

either_way : (b c : Bool) → b && c ≡ false → c && b ≡ false
either_way true c e = ap (λ b. b && true) e
either_way false c e = neither c

pub one_owns : (p q : Write → Bool) (k : List ℕ) (v w : Write) (ws : List Write) → Apart p q → only_first k ws ≡ true → first_by p ws ≡ Some v → first_by q ws ≡ Some w → owns v k && owns w k ≡ false
one_owns p q k v w [] a h e f = absurd (cc)
one_owns p q k v w (x ∷ ws) a h e f = one (p x) (q x) refl refl e f (one_owns p q k v w ws a)
  where
    rest : (c : Bool) → cond c (is_quiet k ws) (only_first k ws) ≡ true → first_by p ws ≡ Some v → first_by q ws ≡ Some w → (only_first k ws ≡ true → first_by p ws ≡ Some v → first_by q ws ≡ Some w → owns v k && owns w k ≡ false) → owns v k && owns w k ≡ false
    rest true g e f r = ap (λ b. b && owns w k) (quiet_owns p k v ws g e)
    rest false g e f r = r g e f

    one : (b c : Bool) → p x ≡ b → q x ≡ c → cond b (Some x) (first_by p ws) ≡ Some v → cond c (Some x) (first_by q ws) ≡ Some w → (only_first k ws ≡ true → first_by p ws ≡ Some v → first_by q ws ≡ Some w → owns v k && owns w k ≡ false) → owns v k && owns w k ≡ false
    one true true s t e f r = absurd (let y : q x ≡ false = a x s in cc)
    one true false s t e f r = let is : x ≡ v = cc in ap (λ (y : Write). owns y k && owns w k) (sym is) ∙ head_owns q k x w ws h f
    one false true s t e f r = let is : x ≡ w = cc in ap (λ (y : Write). owns v k && owns y k) (sym is) ∙ either_way (owns x k) (owns v k) (head_owns p k x v ws h e)
    one false false s t e f r = rest (covers x k) h e f r

-- The entries that a write gives back.

abbrev turn : Write → List ℕ → Entry → Entry
turn w k e = if_written (owns w k) (λ x. cond (is_due w.stage) (unwritten x) (leaving x)) e

given : (w : Write) (es : Keyed Entry) → given_back w es ≡ each (turn w) es
given w es = one (is_due w.stage) refl
  where
    one : (b : Bool) → is_due w.stage ≡ b → cond b (each (λ k e. if_written (owns w k) unwritten e) es) (each (λ k e. if_written (owns w k) leaving e) es) ≡ each (turn w) es
    one true e = λ i. each (λ k x. if_written (owns w k) (λ y. cond (sym e i) (unwritten y) (leaving y)) x) es
    one false e = λ i. each (λ k x. if_written (owns w k) (λ y. cond (sym e i) (unwritten y) (leaving y)) x) es

turns_both : (v w : Write) (k : List ℕ) (e : Entry) → owns v k && owns w k ≡ false → turn v k (turn w k e) ≡ turn w k (turn v k e)
turns_both v w k e h = one (owns v k) (owns w k) h
  where
    f : Entry → Entry
    f x = cond (is_due v.stage) (unwritten x) (leaving x)

    g : Entry → Entry
    g x = cond (is_due w.stage) (unwritten x) (leaving x)

    one : (b c : Bool) → b && c ≡ false → if_written b (λ x. cond (is_due v.stage) (unwritten x) (leaving x)) (if_written c (λ x. cond (is_due w.stage) (unwritten x) (leaving x)) e) ≡ if_written c (λ x. cond (is_due w.stage) (unwritten x) (leaving x)) (if_written b (λ x. cond (is_due v.stage) (unwritten x) (leaving x)) e)
    one true true h = absurd (cc)
    one true false h = refl
    one false c h = refl

each_both : (f g : List ℕ → Entry → Entry) (es : Keyed Entry) → ((k : List ℕ) (e : Entry) → f k (g k e) ≡ g k (f k e)) → each f (each g es) ≡ each g (each f es)
each_both f g [] h = refl
each_both f g (e ∷ es) h = λ i. (e.0, h e.0 e.1 i) ∷ each_both f g es h i

given_both : (v w : Write) (es : Keyed Entry) → ((k : List ℕ) → owns v k && owns w k ≡ false) → given_back v (given_back w es) ≡ given_back w (given_back v es)
given_both v w es h =
    given v (given_back w es) ∙ ap (each (turn v)) (given w es)
    ∙ each_both (turn v) (turn w) es (λ k e. turns_both v w k e (h k))
    ∙ sym (given w (given_back v es) ∙ ap (each (turn w)) (given v es))

-- Both writes are forgotten.

both_by : (p q : Write → Bool) (own : Ownership) → Apart p q → Apart q p → OneOwner own → (o r : Option Write) → first_by p own.waits.writes ≡ o → first_by q own.waits.writes ≡ r →
    forgotten_by p (first_by p (forgotten_by q r own).waits.writes) (forgotten_by q r own) ≡ forgotten_by q (first_by q (forgotten_by p o own).waits.writes) (forgotten_by p o own)
both_by p q own a b h None None e f = ap (λ (o : Option Write). forgotten_by p o own) e ∙ sym (ap (λ (o : Option Write). forgotten_by q o own) f)
both_by p q own a b h None (Some w) e f =
    ap (λ (o : Option Write). forgotten_by p o (ended_by own (given_back w own.entries) q)) (first_other p q own.waits.writes a ∙ e)
    ∙ sym (ap (λ (o : Option Write). forgotten_by q o own) f)
both_by p q own a b h (Some v) None e f =
    ap (λ (o : Option Write). forgotten_by p o own) e
    ∙ sym (ap (λ (o : Option Write). forgotten_by q o (ended_by own (given_back v own.entries) p)) (first_other q p own.waits.writes b ∙ f))
both_by p q own a b h (Some v) (Some w) e f =
    ap (λ (o : Option Write). forgotten_by p o (ended_by own (given_back w own.entries) q)) (first_other p q own.waits.writes a ∙ e)
    ∙ (λ i. record { entries = given_both v w own.entries (λ k. one_owns p q k v w own.waits.writes a (h k) e f) i; waits = record own.waits { writes = without_both p q own.waits.writes a i } })
    ∙ sym (ap (λ (o : Option Write). forgotten_by q o (ended_by own (given_back v own.entries) p)) (first_other q p own.waits.writes b ∙ f))

tickets_apart : (t u : ℕ) → (t == u) ≡ false → Apart (has_ticket t) (has_ticket u)
tickets_apart t u n w e = other w.ticket t u e n
  where
    other : (m t u : ℕ) → (m == t) ≡ true → (t == u) ≡ false → (m == u) ≡ false
    other m t u e f = grind (arith, nat_tests)

pub forgotten_both : (t u : ℕ) (own : Ownership) → (t == u) ≡ false → (u == t) ≡ false → OneOwner own → forgotten t (forgotten u own) ≡ forgotten u (forgotten t own)
unfolding forgotten
forgotten_both t u own n m h = both_by (has_ticket t) (has_ticket u) own (tickets_apart t u n) (tickets_apart u t m) h (first_by (has_ticket t) own.waits.writes) (first_by (has_ticket u) own.waits.writes) refl refl

-- A forgotten write leaves that of the others only the first may be active.

quiet_left : (p : Write → Bool) (k : List ℕ) (ws : List Write) → is_quiet k ws ≡ true → is_quiet k (without_first p ws) ≡ true
quiet_left p k [] h = refl
quiet_left p k (w ∷ ws) h = one (p w) (covers w k) refl h (quiet_left p k ws)
  where
    one : (b c : Bool) → covers w k ≡ c → cond c (is_waiting w.stage && is_quiet k ws) (is_quiet k ws) ≡ true → (is_quiet k ws ≡ true → is_quiet k (without_first p ws) ≡ true) → is_quiet k (cond b ws (w ∷ without_first p ws)) ≡ true
    one true true s g r = and_second (is_waiting w.stage) (is_quiet k ws) g
    one true false s g r = g
    one false true s g r =
        ap (λ c. cond c (is_waiting w.stage && is_quiet k (without_first p ws)) (is_quiet k (without_first p ws))) s
        ∙ and_both (is_waiting w.stage) (is_quiet k (without_first p ws)) (and_first (is_waiting w.stage) (is_quiet k ws) g) (r (and_second (is_waiting w.stage) (is_quiet k ws) g))
    one false false s g r = ap (λ c. cond c (is_waiting w.stage && is_quiet k (without_first p ws)) (is_quiet k (without_first p ws))) s ∙ r g

only_of_quiet : (k : List ℕ) (ws : List Write) → is_quiet k ws ≡ true → only_first k ws ≡ true
only_of_quiet k [] h = refl
only_of_quiet k (w ∷ ws) h = one (covers w k) h (only_of_quiet k ws)
  where
    one : (c : Bool) → cond c (is_waiting w.stage && is_quiet k ws) (is_quiet k ws) ≡ true → (is_quiet k ws ≡ true → only_first k ws ≡ true) → cond c (is_quiet k ws) (only_first k ws) ≡ true
    one true g r = and_second (is_waiting w.stage) (is_quiet k ws) g
    one false g r = r g

only_left : (p : Write → Bool) (k : List ℕ) (ws : List Write) → only_first k ws ≡ true → only_first k (without_first p ws) ≡ true
only_left p k [] h = refl
only_left p k (w ∷ ws) h = one (p w) (covers w k) refl h (only_left p k ws)
  where
    one : (b c : Bool) → covers w k ≡ c → cond c (is_quiet k ws) (only_first k ws) ≡ true → (only_first k ws ≡ true → only_first k (without_first p ws) ≡ true) → only_first k (cond b ws (w ∷ without_first p ws)) ≡ true
    one true true s g r = only_of_quiet k ws g
    one true false s g r = g
    one false true s g r = ap (λ c. cond c (is_quiet k (without_first p ws)) (only_first k (without_first p ws))) s ∙ quiet_left p k ws g
    one false false s g r = ap (λ c. cond c (is_quiet k (without_first p ws)) (only_first k (without_first p ws))) s ∙ r g

pub one_kept : (t : ℕ) (own : Ownership) → OneOwner own → OneOwner (forgotten t own)
unfolding forgotten
one_kept t own h k = one (first_by (has_ticket t) own.waits.writes)
  where
    one : (o : Option Write) → only_first k (forgotten_by (has_ticket t) o own).waits.writes ≡ true
    one None = h k
    one (Some w) = only_left (has_ticket t) k own.waits.writes (h k)

-- Marks of acquires are apart from it.

abbrev pub marked : Keyed Bool → Ownership → Ownership
marked ss own = record own { waits = record own.waits { spoiled = ss } }

forgotten_marked : (t : ℕ) (ss : Keyed Bool) (own : Ownership) → forgotten t (marked ss own) ≡ marked ss (forgotten t own)
unfolding forgotten
forgotten_marked t ss own = one (first_by (has_ticket t) own.waits.writes)
  where
    one : (o : Option Write) → forgotten_by (has_ticket t) o (marked ss own) ≡ marked ss (forgotten_by (has_ticket t) o own)
    one None = refl
    one (Some w) = refl

forgotten_marks : (t : ℕ) (own : Ownership) → (forgotten t own).waits.spoiled ≡ own.waits.spoiled
unfolding forgotten
forgotten_marks t own = one (first_by (has_ticket t) own.waits.writes)
  where
    one : (o : Option Write) → (forgotten_by (has_ticket t) o own).waits.spoiled ≡ own.waits.spoiled
    one None = refl
    one (Some w) = refl

-- By requests.

abbrev pub forgot_if : Bool → Asked → Ownership → Ownership
forgot_if b a own = cond (b && is_writes a.stage) (forgotten a.ticket own) own

pub if_both : (b c : Bool) (x a : Asked) (own : Ownership) → (x.ticket == a.ticket) ≡ false → (a.ticket == x.ticket) ≡ false → OneOwner own → forgot_if b x (forgot_if c a own) ≡ forgot_if c a (forgot_if b x own)
if_both b c x a own n m h = one (b && is_writes x.stage) (c && is_writes a.stage)
  where
    one : (d e : Bool) → cond d (forgotten x.ticket (cond e (forgotten a.ticket own) own)) (cond e (forgotten a.ticket own) own) ≡ cond e (forgotten a.ticket (cond d (forgotten x.ticket own) own)) (cond d (forgotten x.ticket own) own)
    one true true = forgotten_both x.ticket a.ticket own n m h
    one true false = refl
    one false true = refl
    one false false = refl

pub if_kept : (b : Bool) (a : Asked) (own : Ownership) → OneOwner own → OneOwner (forgot_if b a own)
if_kept b a own h = one (b && is_writes a.stage)
  where
    one : (d : Bool) → OneOwner (cond d (forgotten a.ticket own) own)
    one true = one_kept a.ticket own h
    one false = h

pub if_marks : (b : Bool) (a : Asked) (own : Ownership) → (forgot_if b a own).waits.spoiled ≡ own.waits.spoiled
if_marks b a own = one (b && is_writes a.stage)
  where
    one : (d : Bool) → (cond d (forgotten a.ticket own) own).waits.spoiled ≡ own.waits.spoiled
    one true = forgotten_marks a.ticket own
    one false = refl

pub all_marks : (p : Asked → Bool) (xs : List Asked) (own : Ownership) → (forgotten_all p xs own).waits.spoiled ≡ own.waits.spoiled
all_marks p [] own = refl
all_marks p (x ∷ xs) own = all_marks p xs (forgot_if (p x) x own) ∙ if_marks (p x) x own

pub all_marked : (p : Asked → Bool) (xs : List Asked) (ss : Keyed Bool) (own : Ownership) → forgotten_all p xs (marked ss own) ≡ marked ss (forgotten_all p xs own)
all_marked p [] ss own = refl
all_marked p (x ∷ xs) ss own = ap (forgotten_all p xs) (one (p x && is_writes x.stage)) ∙ all_marked p xs ss (forgot_if (p x) x own)
  where
    one : (d : Bool) → cond d (forgotten x.ticket (marked ss own)) (marked ss own) ≡ marked ss (cond d (forgotten x.ticket own) own)
    one true = forgotten_marked x.ticket ss own
    one false = refl
