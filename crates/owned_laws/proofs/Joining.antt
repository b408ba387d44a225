-- A write of the key is asked while its acquire, or another write of it, is on its way: it waits behind that.
use Rattle.std.proofs.Common.{◌≡◌, inl, ℕ, true, List, [], ◌∷◌, ◌++◌, append_assoc, Option, refl, ◌∙◌, ap, subst}
use Rattle.proxy_model.specs.declared.lease.Entry.{Entry}
use Rattle.wait_model.specs.declared.write.Write.{Write}
use Rattle.wait_model.specs.Asked.{new_write, submitted}
use Rattle.wait_model.specs.Covers.{covers}
use Rattle.wait_model.specs.State.{Ownership}
use Rattle.owned_laws.specs.OwnWrites.{OwnWrite}
use Rattle.owned_laws.proofs.Modes.{IsAlone, Mine, IsMine, AllAlone, waits_as, behind_as, first_as, Parts}
use Rattle.owned_laws.proofs.Own.{OverOf, over_append, there_append, OwnSo}
use Rattle.owned_laws.proofs.Ways.{no_true, present, asking, sending_as, writes_own}

behind-append : (vs : List OwnWrite) (v : OwnWrite) → behind_as vs ++ waits_as v ∷ [] ≡ behind_as (vs ++ v ∷ [])
behind-append [] v = refl
behind-append (w ∷ ws) v = ap (λ (ms : List Mine). waits_as w ∷ ms) (behind-append ws v)

pub alone_joined : (k : List ℕ) (vs : List OwnWrite) (v : OwnWrite) → AllAlone k (behind_as vs) → IsAlone k v.request → AllAlone k (behind_as (vs ++ v ∷ []))
alone_joined k [] v h a = (a, tt)
alone_joined k (w ∷ ws) v h a = (h.0, alone_joined k ws v h.1 a)

module _ (k : List ℕ) (v : OwnWrite) (alone : IsAlone k v.request) where
  new_is : IsMine (waits_as v) (new_write v.ticket v.request)
  new_is = record { ticket = refl; request = refl; ranges = refl; stage = refl }

  new_over : covers (new_write v.ticket v.request) k ≡ true
  new_over = alone.over

  -- behind these
  pub joins_over : (ms : List Mine) (ws : List Write) → OverOf k ms ws → OverOf k (ms ++ waits_as v ∷ []) (ws ++ new_write v.ticket v.request ∷ [])
  joins_over ms ws o = over_append k ms (waits_as v ∷ []) ws (new_write v.ticket v.request ∷ []) o (inl (new_is, (new_over, refl)))

  module _ (vs : List OwnWrite) where
    pub sending_joins : (m n : ℕ) (a : AllAlone k (behind_as vs)) (b : AllAlone k (behind_as (vs ++ v ∷ []))) (own : Ownership) → OwnSo (sending_as k m n vs a) own → OwnSo (sending_as k m n (vs ++ v ∷ []) b) (submitted v.ticket v.request own)
    sending_joins m n a b own t = record {
      case = t.case;
      outs = t.outs;
      there = tt;
      over = λ y. subst (λ (ms : List Mine). OverOf k ms (submitted v.ticket v.request own).waits.writes) (behind-append vs v) (joins_over (behind_as vs) own.waits.writes (t.over y));
      mark = t.mark;
      entry = t.entry;
    }

    pub asking_joins : (ticket : ℕ) (a : AllAlone k (behind_as vs)) (b : AllAlone k (behind_as (vs ++ v ∷ []))) (own : Ownership) → OwnSo (asking k ticket vs a) own → OwnSo (asking k ticket (vs ++ v ∷ []) b) (submitted v.ticket v.request own)
    asking_joins ticket a b own t =
        let c : Parts vs = t.case in
        record {
          case = record { front = c.front; rest = c.rest ++ v ∷ []; is = ap (λ (ws : List OwnWrite). ws ++ v ∷ []) c.is ∙ append_assoc c.front c.rest (v ∷ []) };
          outs = t.outs;
          there = tt;
          over = λ y. subst (λ (ms : List Mine). OverOf k ms (submitted v.ticket v.request own).waits.writes) (behind-append c.rest v) (joins_over (behind_as c.rest) own.waits.writes (t.over y));
          mark = t.mark;
          entry = t.entry;
        }

    -- it isn't sent either
    pub present_joins : (own : Ownership) → OwnSo (present k vs) own → OwnSo (present k (vs ++ v ∷ [])) (submitted v.ticket v.request own)
    present_joins own t = record {
      case = t.case;
      outs = t.outs;
      there = there_append k vs (v ∷ []) own.waits.writes (new_write v.ticket v.request ∷ []) t.there (inl (record { ticket = refl; over = new_over; unsent = refl }, tt));
      over = λ y. no_true y;
      mark = λ y. no_true y;
      entry = λ y. no_true y;
    }

    pub writing_joins : (n : ℕ) (w : OwnWrite) (call : Option ℕ) (a : AllAlone k (behind_as (w ∷ vs))) (b : AllAlone k (behind_as (w ∷ (vs ++ v ∷ [])))) (e : Entry) (own : Ownership)
        → OwnSo (writes_own k n w vs call a e) own → OwnSo (writes_own k n w (vs ++ v ∷ []) call b e) (submitted v.ticket v.request own)
    writing_joins n w call a b e own t = record {
      case = t.case;
      outs = t.outs;
      there = tt;
      over = λ y. subst (λ (ms : List Mine). OverOf k (first_as w call t.case ∷ ms) (submitted v.ticket v.request own).waits.writes) (behind-append vs v) (joins_over (first_as w call t.case ∷ behind_as vs) own.waits.writes (t.over y));
      mark = t.mark;
      entry = t.entry;
    }
