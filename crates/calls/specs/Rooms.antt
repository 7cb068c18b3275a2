-- Rooms that no call wrote to.
use Rattle.std.specs.Prelude.{◌≡◌, All}
use Rattle.calls.specs.Bytes.{held}
use Rattle.calls.specs.declared.rooms.Room.{Room}

-- each byte is what a room holds before a call
abbrev pub IsUntouched : Room → Type 0
IsUntouched room = All (λ byte. byte ≡ 9) (held room.bytes)
