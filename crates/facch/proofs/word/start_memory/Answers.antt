-- `facch::word::start_memory` meets its contract. Assumes nothing.
use borrow.Author.Rules.{rules}
use mathlib.Core.Path.{◌≡◌}
use mathlib.Core.List.{reverse}
use Prim.Native.Nat.{ℕ, ◌*◌, ◌%◌}
use native.Mathlib.Omega.{arith}
use lib.Bits.{bit_or}
use lib.ListN.{take}
use Rattle.std.specs.List.{fold}
use Rattle.facch.proofs.Biting.{starts}
use Rattle.facch.proofs.word.start_memory.Goals as goal

pub returns : goal.returns
returns c =
    let folded : c.fold.result ≡ fold (λ (memory bit : ℕ). bit_or (memory * 2 % 256) (bit % 2)) 0 (reverse (take 5 c.args.word.now)) = search rules in
    starts c.args.word.now (omega arith) folded
