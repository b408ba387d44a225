-- Which stream a watch joins: of those of its range that it can join one that is furthest ahead, and a new one only where there
-- is none.
use Rattle.std.specs.Prelude.{ℕ, ◌+◌, ◌≤◌, ◌≡◌, Bool, true, false, ◌||◌, ◌==◌, if◌then◌else◌, List, None, Some}
use Rattle.etcd_types.specs.declared.key_range.KeyRange.{KeyRange}
use Rattle.proxy_model.specs.Limits.{capped}
use Rattle.watch_model.specs.State.{Stream}
use Rattle.watch_model.specs.Lookups.{stream_at}
use Rattle.watch_model.specs.Joining.{is_joinable, is_opening_from_now, stream_to_join}

-- a watch of the range with this next, or 0 while it isn't decided, where `seen` is the highest revision seen
abbrev pub can_join : KeyRange → ℕ → ℕ → Stream → Bool
can_join range next seen s = if next == 0 then is_joinable range (capped (seen + 1)) s || is_opening_from_now range s else is_joinable range next s

abbrev pub NewWhereNoneIsJoined : Type 0
NewWhereNoneIsJoined =
    (ss : List Stream) (range : KeyRange) (next seen k : ℕ) (t : Stream) → stream_to_join ss range next seen ≡ None → stream_at k ss ≡ Some t → can_join range next seen t ≡ false

abbrev pub JoinedIsFurthest : Type 0
JoinedIsFurthest =
    (ss : List Stream) (range : KeyRange) (next seen k : ℕ) (s t : Stream) → stream_to_join ss range next seen ≡ Some s → stream_at k ss ≡ Some t → can_join range next seen t ≡ true → t.stream.next ≤ s.stream.next

abbrev pub JoinedCanBe : Type 0
JoinedCanBe = (ss : List Stream) (range : KeyRange) (next seen : ℕ) (s : Stream) → stream_to_join ss range next seen ≡ Some s → can_join range next seen s ≡ true
