-- The bytes of a slice in fixed memory.
use Rattle.std.specs.Prelude.{List, ℕ, take}
use Rattle.calls.specs.declared.bytes.Bytes.{Bytes}

-- what it holds: the first of its places, as many as its length says
abbrev pub held : Bytes → List ℕ
held bytes = take bytes.length bytes.list
