-- What is known of an error of a socket.
use Rattle.std.specs.Prelude.{Bool, true, false}
use Rattle.std.specs.declared.io.ErrorKind.{ErrorKind}
use Rattle.std.specs.declared.io.ErrorKind.TheVariants.{Interrupted, WouldBlock}

-- whether what failed so is to be tried again: it was interrupted, or the socket's own wait is over
abbrev pub is_passing : ErrorKind → Bool
is_passing Interrupted = true
is_passing WouldBlock = true
is_passing _ = false
