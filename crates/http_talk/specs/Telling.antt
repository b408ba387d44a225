-- What writing at a sink does: all of it, or a front of it.
use Rattle.std.specs.Prelude.{ℕ, List, Option, Result, Ok, Err, ⊤}
use Rattle.std.specs.Io.KnownBytes.{Appends}
use Rattle.outside.specs.Streams.{WritesFront}
use Rattle.http_wire.specs.declared.fault.WireFault.{WireFault}
use Rattle.http_wire.specs.declared.fault.WireFault.TheVariants as wire

-- a fault that writing may have
abbrev pub IsOfWriting : WireFault → Type 0
IsOfWriting wire.WriteFault = ⊤
IsOfWriting wire.NoMemory = ⊤
IsOfWriting _ = ⊥

-- it was told, or a front of it
abbrev pub Tells : Option (List ℕ) → Option (List ℕ) → List ℕ → Result (Unit {0}) WireFault → Type 0
Tells old new bytes (Ok done) = Appends old new bytes
Tells old new bytes (Err fault) = WritesFront old new bytes
