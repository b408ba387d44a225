-- Session floors that the world keeps are no lower than those of the view, and are kept by the clock of the proxy that drew the session:
-- a session lives for its time to live from its grant and from each keepalive (etcd's API reference, Lease).
use Rattle.std.specs.Prelude.{◌≡◌, ℕ, ◌≤◌, max, Bool, true, None, Some}
use Rattle.proxy_model.specs.RequestRefusals.{is_session}
use Rattle.world_model.specs.declared.floor.Floor.{Floor}
use Rattle.cache_laws.specs.Moves.View.{put}
use Rattle.world_model.specs.Floors.{later}
use Rattle.world_model.specs.Places.{kept_at, with_kept}
use Rattle.world_model.specs.State.{Numbered, Place}

-- a floor that is kept
pub record FloorOk (holder : ℕ → ℕ) (floors : ℕ → ℕ) (places : Numbered Place) (number : ℕ) (f : Floor) : Type 0 where
  pub by : f.proxy ≡ holder number
  pub above : floors number ≤ f.floor
  -- its proxy was started
  pub place : Place
  pub at : kept_at places f.proxy ≡ Some place

-- `floors` and `leases` are the view's
pub record FloorsOk (holder : ℕ → ℕ) (floors : ℕ → ℕ) (leases : ℕ → Bool) (all : Numbered Floor) (places : Numbered Place) : Type 0 where
  -- a client's lease has none
  pub kept : (number : ℕ) → is_session number ≡ true → (f : Floor) → kept_at all number ≡ Some f → FloorOk holder floors places number f
  -- of a session whose lease is there one is kept
  pub there : (number : ℕ) → is_session number ≡ true → leases number ≡ true → (f : Floor) × (kept_at all number ≡ Some f)
  pub none : (number : ℕ) → is_session number ≡ true → kept_at all number ≡ None → floors number ≡ 0

-- a grant or a keepalive of a session is answered, so that it lives at least until this time of the clock of the proxy that drew it
abbrev pub FloorsRise : Type 0
FloorsRise =
    (holder floors : ℕ → ℕ) (leases : ℕ → Bool) (all : Numbered Floor) (places : Numbered Place) (number until proxy : ℕ) (x : Place) → proxy ≡ holder number → kept_at places proxy ≡ Some x → FloorsOk holder floors leases all places
    → is_session number ≡ true
    → FloorsOk holder (put floors number (max (floors number) until)) (put leases number true) (with_kept all number (record { proxy = proxy; floor = later until (kept_at all number) })) places
