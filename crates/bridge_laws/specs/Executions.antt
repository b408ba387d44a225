-- A call is executed in a world that is shown, also late: the world stays so.
use Rattle.std.specs.Prelude.{◌≡◌, ℕ, None, Some}
use Rattle.store_model.specs.Step.{exec}
use Rattle.world_model.specs.declared.sent_call.SentCall.{SentCall}
use Rattle.world_model.specs.Floors.{floors_after}
use Rattle.world_model.specs.Places.{nth, with_nth, place_at}
use Rattle.world_model.specs.State.{Place, World}
use Rattle.bridge_laws.specs.Shown.{Shown}

-- the world then
abbrev pub executed_world : World → ℕ → SentCall → World
executed_world w number call =
    record w {
      calls = with_nth w.calls number (record call { executed = Some (exec w.store call.member call.request).1 });
      store = (exec w.store call.member call.request).0;
      floors = floors_after call (exec w.store call.member call.request).1 w.floors;
    }

-- the proxy that sent the call was started
abbrev pub ExecutionsStayShown : Type 0
ExecutionsStayShown =
    (holder : ℕ → ℕ) (w : World) (number : ℕ) (call : SentCall) (x : Place) → nth w.calls number ≡ Some call → call.executed ≡ None → place_at w call.proxy ≡ Some x → Shown holder w → Shown holder (executed_world w number call)
