-- What is read next of a client's connection (RFC 9112, section 2.1: a request is its head and then its body).
use Rattle.std.specs.Prelude.{Bool, true, false}
use Rattle.outside.specs.declared.marks.ReadMark.{ReadMark}
use Rattle.outside.specs.declared.marks.ReadMark.TheVariants as mark
use Rattle.sockets.specs.declared.phase.Phase.{Phase}
use Rattle.sockets.specs.declared.phase.Phase.TheVariants as phase

-- no byte of a request came
abbrev pub is_between : Phase → Bool
is_between phase.Between = true
is_between (phase.Head until) = false
is_between phase.Due = false
is_between (phase.Body until) = false

-- a mark that ends neither a head nor a body
abbrev pub IsWithin : ReadMark → Type 0
IsWithin mark.Head = ⊥
IsWithin mark.Body = ⊥
IsWithin (mark.Request kind) = Unit {0}
IsWithin mark.Message = Unit {0}
IsWithin mark.Rest = Unit {0}
