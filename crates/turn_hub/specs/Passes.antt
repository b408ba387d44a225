-- What clauses see of a pass, and what holds of its seat between calls.
use Rattle.std.specs.Prelude.{◌≡◌, [], Some}
use Rattle.atomic_table.specs.Table.{Me}
use Rattle.atomic_table.specs.Seated.{TableId}
use Rattle.turn_hub.specs.declared.view.View.{View}
use Rattle.turn_hub.specs.declared.view.Opening.{Opening}
use Rattle.turn_hub.specs.declared.view.Stowed.{Stowed}
use Rattle.turn_hub.specs.declared.view.Turn.TheVariants.{Away}
use Rattle.turn_hub.specs.declared.history.Entry.{Entry}
use Rattle.turn_hub.specs.History.{Stands}
use Rattle.turn_hub.specs.Known.{Known}

module _ {M E O F : Type 0} where
  -- what clauses see of a pass whose seat has this view
  abbrev pub known_of : TableId → Opening M → View M E O F → Known (Opening M) (Entry E O F)
  known_of table opened v = record { hub = record { table = table; opened = opened }; seen = v.seen; own = v.own }

  -- it has neither the turn nor the slot, and knows what the hub was opened with
  pub record AtRest (opened : Opening M) (me : Me (Stowed M E O F) (View M E O F)) : Type 0 where
    pub carried : me.1 ≡ []
    pub away : me.0.turn ≡ Away
    pub opens : me.0.opening ≡ Some opened.machine.value
    pub counts : me.0.base ≡ opened.base
    pub stands : Stands me.0.seen me.0.own me.0.base
