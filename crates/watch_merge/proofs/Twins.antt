-- Where no stream has a twin a merge changes nothing.
use Rattle.std.proofs.Common.{◌≡◌, ℕ, Bool, true, false, not, cond, ◌||◌, ◌==◌, List, [], ◌∷◌, map, Option, None, Some, refl, ap, sym, ◌∙◌, arith}
use Rattle.std.specs.List.{list_any}
use Rattle.std.proofs.lemmas.Bool.Decides.{nat_tests}
use Rattle.etcd_types.specs.declared.key_range.KeyRange.{KeyRange}
use Rattle.watch_model.specs.declared.stream.StreamPhase.TheVariants as phase
use Rattle.watch_model.specs.declared.place.WatchPlace.{WatchPlace}
use Rattle.watch_model.specs.declared.place.WatchPlace.TheVariants as place
use Rattle.watch_model.specs.State.{Stream, Watch, Broadcasts}
use Rattle.watch_model.specs.Lookups.{stream_at}
use Rattle.watch_model.specs.Merging.{kept_by, merged_number, merged_place, merged_stream, merged_watch, merged}
use Rattle.watch_model.proofs.Streams.{at_number}
use Rattle.watch_streams.specs.Rows.{row_of}
use Rattle.watch_merge.specs.Twins.{is_twin, has_twins}

neither : (a b : Bool) → (not a || b) ≡ false → (a ≡ true) × (b ≡ false)
neither true false e = (refl, refl)
neither true true e = absurd (cc)
neither false b e = absurd (cc)

streams_stay : (range : KeyRange) (all : List Stream) (step : ℕ) (ss : List Stream) → list_any (is_twin range all) ss ≡ false → map (merged_stream range all step) ss ≡ ss
streams_stay range all step [] e = refl
streams_stay range all step (s ∷ ss) e =
    let p = neither (kept_by range all s == s.number) (list_any (is_twin range all) ss) e in
    λ i. ap (λ b. cond b s (record s { phase = phase.Closing step })) p.0 i ∷ streams_stay range all step ss p.1 i

equal_numbers : (a b : ℕ) → (a == b) ≡ true → a ≡ b
equal_numbers a b e = grind (arith, nat_tests)

kept_itself : (range : KeyRange) (all : List Stream) (n : ℕ) (ss : List Stream) (s : Stream) → list_any (is_twin range all) ss ≡ false → stream_at n ss ≡ Some s → kept_by range all s ≡ s.number
kept_itself range all n [] s e f = absurd (cc)
kept_itself range all n (t ∷ ss) s e f =
    let p = neither (kept_by range all t == t.number) (list_any (is_twin range all) ss) e in
    elim (t.number == n) as (λ b. cond b (Some t) (stream_at n ss) ≡ Some s → kept_by range all s ≡ s.number) [
      | true ↦ λ g. let one : t ≡ s = cc in sym (ap (λ (x : Stream). kept_by range all x) one) ∙ equal_numbers (kept_by range all t) t.number p.0 ∙ ap (λ (x : Stream). x.number) one
      | false ↦ λ g. kept_itself range all n ss s p.1 g
    ] f

number_stays : (range : KeyRange) (ss : List Stream) (n : ℕ) (o : Option Stream) → has_twins range ss ≡ false → stream_at n ss ≡ o → merged_number range ss n o ≡ n
number_stays range ss n None e f = refl
number_stays range ss n (Some s) e f = kept_itself range ss n ss s e f ∙ at_number n ss s f

place_stays : (range : KeyRange) (ss : List Stream) (p : WatchPlace) → has_twins range ss ≡ false → merged_place range ss p ≡ p
place_stays range ss (place.In n) e = ap (λ (m : ℕ). place.In m) (number_stays range ss n (stream_at n ss) e refl)
place_stays range ss place.Split e = refl
place_stays range ss place.Ended e = refl

watches_stay : (range : KeyRange) (ss : List Stream) (ws : List Watch) → has_twins range ss ≡ false → map (merged_watch range ss) ws ≡ ws
watches_stay range ss [] e = refl
watches_stay range ss (w ∷ ws) e = λ i. record w { place = place_stays range ss w.place e i } ∷ watches_stay range ss ws e i

pub nothing_merges : (range : KeyRange) (b : Broadcasts) → has_twins range b.streams ≡ false → merged range b ≡ b
nothing_merges range b e = λ i. record b { streams = streams_stay range b.streams b.step b.streams e i; watches = watches_stay range b.streams b.watches e i }

-- a merge leaves each stream's number and range
pub merged_row : (range : KeyRange) (ss : List Stream) (step : ℕ) (s : Stream) → row_of (merged_stream range ss step s) ≡ row_of s
merged_row range ss step s = elim (kept_by range ss s == s.number) as (λ b. row_of (cond b s (record s { phase = phase.Closing step })) ≡ row_of s) [ true ↦ refl | false ↦ refl ]
