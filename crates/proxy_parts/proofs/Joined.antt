-- A pass that was split off for a connection, and joined again behind it.
use Rattle.std.proofs.Common.{◌≡◌, ℕ, ◌+◌, ◌^◌, ◌==◌, Bool, IsTrue, List, [], ◌++◌, length, Option, Some, sym, ap, ◌∙◌, subst}
use Rattle.turn_hub.specs.declared.view.Opening.{Opening}
use Rattle.turn_hub.specs.History.{Begins, Runs}
use Rattle.turn_hub.specs.Known.{Home, Known, made, opening_of, base_of}
use Rattle.turn_hub.specs.Views.{longer}
use Rattle.core_model.specs.State.{Core}
use Rattle.http_wire.specs.declared.message.Head.{Head}
use Rattle.http_talk.specs.declared.form.RefusalForm.{RefusalForm}
use Rattle.http_talk.specs.declared.ready.Ready.{Ready}
use Rattle.server_model.specs.declared.ends.SessionEnd.{SessionEnd}
use Rattle.server_model.specs.Steps.{Step, NoEvent}
use Rattle.server_model.specs.Complete.{Completes}
use Rattle.server_model.specs.Dialog.{Dialog}
use Rattle.server_model.specs.Numbers.{LastNumbered}
use Rattle.server_model.proofs.Behind.{dialog_behind, numbered_behind, completes_behind}
use Rattle.proxy_core.specs.Faults.{CoreSteps}
use Rattle.proxy_parts.specs.Passes.{is_at_limit, IsSound, Grows}
use Rattle.proxy_parts.proofs.Passes.{longer_one}

-- `apart` was split off `old`, seated as `first`, left as `last`, and joined, which gave `new`
pub record Joins (old apart first last new : Known (Opening Core) Step) : Type 0 where
  pub split : apart ≡ record old { own = [] }
  pub begun : made first ≡ made apart
  pub grows : Grows apart last
  pub hub : last.hub ≡ old.hub
  pub joined_hub : new.hub ≡ old.hub
  pub seen : new.seen ≡ longer old.seen last.seen
  pub made_both : made new ≡ made old ++ made last

-- the same by other names of `old` and `last`
pub joins_as : (old same apart first last other new : Known (Opening Core) Step) → same ≡ old → apart ≡ record old { own = [] } → made first ≡ made apart → Grows apart last → last.hub ≡ old.hub
    → other ≡ last → new.hub ≡ same.hub → new.seen ≡ longer same.seen other.seen → made new ≡ made same ++ made other → Joins old apart first last new
joins_as old same apart first last other new e a b g h o n s m = record {
  split = a;
  begun = b;
  grows = g;
  hub = h;
  joined_hub = n ∙ ap (λ (k : Known (Opening Core) Step). k.hub) e;
  seen = s ∙ (λ i. longer (e i).seen (o i).seen);
  made_both = m ∙ (λ i. made (e i) ++ made (o i));
}

module _ (old apart first last new : Known (Opening Core) Step) (j : Joins old apart first last new) where
  -- it has seen what the connection's pass has
  seen_last : new.seen ≡ last.seen
  seen_last =
      let b : Begins old.seen last.seen = subst (λ (k : Known (Opening Core) Step). Begins k.seen last.seen) j.split j.grows.1 in
      j.seen ∙ longer_one old.seen last.seen b

  hub_last : new.hub ≡ last.hub
  hub_last = j.joined_hub ∙ sym j.hub

  pub joined_grows : Begins old.seen new.seen
  joined_grows =
      let b : Begins old.seen last.seen = subst (λ (k : Known (Opening Core) Step). Begins k.seen last.seen) j.split j.grows.1 in
      subst (Begins old.seen) (sym seen_last) b

  pub joined_sound : IsSound new
  joined_sound =
      let s = j.grows.0 in (
        s.0,
        subst (λ (h : Home (Opening Core)). Runs CoreSteps (opening_of h) new.seen s.0) (sym hub_last)
            (subst (λ (log : List Step). Runs CoreSteps (opening_of last.hub) log s.0) (sym seen_last) s.1),
      )

  limit_last : is_at_limit last ≡ is_at_limit new
  limit_last =
      ap (λ (log : List Step). length log + base_of last.hub == 2 ^ 62) (sym seen_last)
      ∙ ap (λ (h : Home (Opening Core)). length new.seen + base_of h == 2 ^ 62) (sym hub_last)

  none_first : made first ≡ []
  none_first = j.begun ∙ ap (λ (k : Known (Opening Core) Step). made k) j.split

  pub joined_dialog : (form : RefusalForm) (gives : Head → List ℕ → Option Ready → Type 0) (left written written' : Option (List ℕ)) (end : SessionEnd) → Dialog form gives NoEvent (IsTrue (is_at_limit last)) left (Some (made first)) (Some (made last)) written written' end
      → Dialog form gives NoEvent (IsTrue (is_at_limit new)) left (Some (made old)) (Some (made new)) written written' end
  joined_dialog form gives left written written' end d =
      subst (λ (b : Bool). Dialog form gives NoEvent (IsTrue b) left (Some (made old)) (Some (made new)) written written' end) limit_last
      (dialog_behind (made old) (made first) (made last) (made new) none_first j.made_both form gives NoEvent (IsTrue (is_at_limit last)) left written written' end d)

  pub joined_numbers : (end : SessionEnd) (limit from : ℕ) (given given' : Option (List ℕ)) → LastNumbered end limit from given given' (Some (made first)) (Some (made last))
      → LastNumbered end limit from given given' (Some (made old)) (Some (made new))
  joined_numbers end limit from given given' n = numbered_behind (made old) (made first) (made last) (made new) none_first j.made_both end limit from given given' n

  pub joined_completes : (left : Option (List ℕ)) (limit from reads reads' writes writes' : ℕ) (end : SessionEnd)
      → Completes left (Some (made first)) (Some (made last)) (IsTrue (is_at_limit last)) limit from reads reads' writes writes' end
      → Completes left (Some (made old)) (Some (made new)) (IsTrue (is_at_limit new)) limit from reads reads' writes writes' end
  joined_completes left limit from reads reads' writes writes' end k =
      subst (λ (b : Bool). Completes left (Some (made old)) (Some (made new)) (IsTrue b) limit from reads reads' writes writes' end) limit_last
      (completes_behind (made old) (made first) (made last) (made new) none_first j.made_both left (IsTrue (is_at_limit last)) limit from reads reads' writes writes' end k)
