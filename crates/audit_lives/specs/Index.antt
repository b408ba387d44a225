-- What an index of items tells: for each look-up the first place that tells it, and counts; and what is reported of them.
use Rattle.std.specs.Prelude.{◌≡◌, ◌≤◌, ◌-◌, ℕ, false, List, [], ◌∷◌, ◌++◌, length, drop, count_by, nat_lt}
use Rattle.first_places.specs.Firsts.{Firsts}
use Rattle.first_places.specs.Places.{is_number, value_at}
use Rattle.script_text.specs.declared.item.Item.{Item}
use Rattle.audit_model.specs.Calls.{calls_sent, sender_of}
use Rattle.audit_model.specs.Order.{has_started}
use Rattle.audit_model.specs.Streams.{opener_of, streams_opened}
use Rattle.world_model.specs.Lives.{clock_of, delivers, life, opened_it, sent_it}
use Rattle.audit_lives.specs.Finds.{pushes_into}
use Rattle.audit_lives.specs.Keeps.{keeps}
use Rattle.audit_lives.specs.Messages.{Messages}
use Rattle.audit_lives.specs.Orders.{Order}
use Rattle.audit_lives.specs.Sums.{TellsSums}
use Rattle.audit_lives.specs.Pairs.{asked, given, replied, named, sent_own, opened_own, sent, executed, settled, opened, ended, cancelled, compacted}
use Rattle.audit_lives.specs.declared.calls_told.CallsTold.{CallsTold}
use Rattle.audit_lives.specs.declared.index.Index.{Index}
use Rattle.audit_lives.specs.declared.lives_told.LivesTold.{LivesTold}
use Rattle.audit_lives.specs.declared.streams_told.StreamsTold.{StreamsTold}

-- how many items stand before the life that the proxy has now
abbrev pub life_start : ℕ → List Item → ℕ
life_start p items = length items - length (life p items)

-- where the life begins that each proxy has now: behind its last start, or at the first item
pub record Starts (starts : List (ℕ × ℕ)) (items : List Item) : Type 0 where
  pub life : (p : ℕ) → life p items ≡ drop (value_at starts p) items
  pub low : (p : ℕ) → value_at starts p ≤ length items
  pub started : (p : ℕ) → nat_lt 0 (value_at starts p) ≡ has_started p items

pub record TellsLives (l : LivesTold) (items : List Item) : Type 0 where
  pub starts : Starts l.starts items
  pub clocks : (p : ℕ) → value_at l.clocks p ≡ clock_of p items
  pub asked : Firsts l.asked asked (value_at l.starts) items
  pub given : Firsts l.given given (value_at l.starts) items
  pub replied : Firsts l.replied replied (value_at l.starts) items
  pub named : Firsts l.named named (value_at l.starts) items
  pub sent : Firsts l.sent sent_own (value_at l.starts) items
  pub opened : Firsts l.opened opened_own (value_at l.starts) items

-- no start is kept: all items are looked at
pub record TellsCalls (c : CallsTold) (items : List Item) : Type 0 where
  pub none : (a : ℕ) → value_at c.none a ≡ 0
  pub sent : Firsts c.sent sent (value_at c.none) items
  pub executed : Firsts c.executed executed (value_at c.none) items
  pub settled : Firsts c.settled settled (value_at c.none) items
  pub count : c.count ≡ calls_sent items
  pub order : Order c.order items
  -- where no number was sent twice, a call has the one sender
  pub single : c.doubled ≡ false → (k p : ℕ) → sent_it p k items ≡ is_number (sender_of k items) p

pub record TellsStreams (s : StreamsTold) (items : List Item) : Type 0 where
  pub none : (a : ℕ) → value_at s.none a ≡ 0
  pub opened : Firsts s.opened opened (value_at s.none) items
  pub ended : Firsts s.ended ended (value_at s.none) items
  pub cancelled : Firsts s.cancelled cancelled (value_at s.none) items
  pub compacted : Firsts s.compacted compacted (value_at s.none) items
  pub count : s.count ≡ streams_opened items
  pub pushed : (stream : ℕ) → value_at s.pushed stream ≡ count_by (pushes_into stream) items
  pub delivered : (stream : ℕ) → value_at s.delivered stream ≡ count_by (delivers stream) items
  -- where no number was opened twice, a stream has the one opener
  pub single : s.doubled ≡ false → (k p : ℕ) → opened_it p k items ≡ is_number (opener_of k items) p
  pub messages : Messages s.messages items

pub record TellsAll (index : Index) (items : List Item) : Type 0 where
  pub count : index.count ≡ length items
  pub kept : index.kept ≡ keeps items
  pub lives : TellsLives index.lives items
  pub calls : TellsCalls index.calls items
  pub streams : TellsStreams index.streams items
  pub sums : TellsSums index.sums (value_at index.lives.starts) items

-- what it tells where all but what it keeps of the items has gone on by this item
pub record TellsNext (index : Index) (items : List Item) (item : Item) : Type 0 where
  pub count : index.count ≡ length items
  pub kept : index.kept ≡ keeps items
  pub lives : TellsLives index.lives (items ++ item ∷ [])
  pub calls : TellsCalls index.calls (items ++ item ∷ [])
  pub streams : TellsStreams index.streams (items ++ item ∷ [])
  pub sums : TellsSums index.sums (value_at index.lives.starts) (items ++ item ∷ [])
