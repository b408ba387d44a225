-- What a machine keeps: the proxy's state, and beside it ranges of the ownership keys, which are made once.
use Rattle.std.specs.Prelude.{◌≡◌, Option, None, Some}
use Rattle.etcd_types.specs.declared.key_range.KeyRange.{KeyRange}
use Rattle.proxy_model.specs.Prefixes.{leasing_range}
use Rattle.core_model.specs.Fits.{CoreOk}
use Rattle.core_model.specs.State.{Core, Opening}

pub record Ranges : Type 0 where
  -- the range of the ownership keys
  pub leasing : KeyRange
  -- the same, for the leasing stream, until that is first to be opened: a tick takes no memory
  pub first : Option KeyRange

pub record Kept : Type 0 where
  pub core : Core
  pub ranges : Ranges

abbrev pub on : Kept → Core → Kept
on k c = record k { core = c }

-- where there was no leasing stream yet, its range is there
abbrev pub IsFirst : Option Opening → KeyRange → Option KeyRange → Type 0
IsFirst None range first = first ≡ Some range
IsFirst (Some o) range first = Unit {0}

pub record RangesOk (k : Kept) : Type 0 where
  pub leasing : k.ranges.leasing ≡ leasing_range k.core.own.waits.prefix
  pub first : IsFirst k.core.leasing (leasing_range k.core.own.waits.prefix) k.ranges.first

-- what holds of a proxy between its steps
pub record IsKept (k : Kept) : Type 0 where
  pub ok : CoreOk k.core
  pub ranges : RangesOk k

-- the ranges fit again, if they did; and that there was a leasing stream once is remembered
abbrev pub RangesStay : Kept → Kept → Type 0
RangesStay old new = RangesOk old → RangesOk new
