-- A law of bytes put into a run whose place a function makes itself, where only the run is lent to it.
--     puts_run      what the run holds then
-- Assumes nothing.
use mathlib.Core.List.{List}
use Prim.Native.Nat.{ℕ}
use mathlib.Core.Path.{◌≡◌}
use Rattle.text.specs.Puts.{Put, Puts}
use Rattle.text.specs.declared.put.Out.{Out}

pub puts_run : {old new : Out} {bs after : List ℕ} → Puts old bs new → after ≡ new.bytes.now → Put old.bytes.now old.at bs after new.at
puts_run puts same = rw same puts.put
