-- A wire: what was read of a connection and not used yet, and the fault that it ended with.
use Rattle.std.specs.Prelude.{◌≡◌, ℕ, List, Option, None, Some, Result, Ok, Err, ⊤}
use Rattle.std.specs.Io.KnownBytes.{prepend_known}
use Rattle.http_wire.specs.declared.fault.WireFault.{WireFault}
use Rattle.http_wire.specs.declared.fault.WireFault.TheVariants.{WriteFault}

-- the bytes that were read and not used yet, and the fault of an earlier call
pub record WireState : Type 0 where
  pub held : List ℕ
  pub fault : Option WireFault

-- the bytes ahead: those that the wire holds, and then those that the source has left, where it tells them
abbrev pub bytes_ahead : Option (List ℕ) → WireState → Option (List ℕ)
bytes_ahead left w = prepend_known w.held left

-- the fault that is answered from now on
abbrev pub fault_after : {T : Type 0} → Result T WireFault → Option WireFault
fault_after (Ok x) = None
fault_after (Err fault) = Some fault

-- the earlier fault is answered again, and nothing is read
pub record Repeats {S T : Type 0} (fault : WireFault) (before now : WireState) (source left : S) (result : Result T WireFault) : Type 0 where
  pub answer : result ≡ Err fault
  pub wire_stays : now ≡ before
  pub source_stays : left ≡ source

-- a fault that reading may have
abbrev pub IsOfReading : WireFault → Type 0
IsOfReading WriteFault = ⊥
IsOfReading _ = ⊤
