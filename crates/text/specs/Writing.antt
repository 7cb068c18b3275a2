-- What a function that writes into a lent buffer does, and what a buffer of fixed size holds.
use Rattle.std.specs.Prelude.{◌≡◌, List, ℕ, ◌+◌, ◌-◌, ◌≤◌, drop, length, replicate}
use Rattle.std.proofs.lemmas.List.Edits.{sets}

-- `bytes` stand in the buffer from `at`, the rest is as it was, and `next` is past them
pub record Put (before : List ℕ) (at : ℕ) (bytes after : List ℕ) (next : ℕ) : Type 0 where
  pub stored : after ≡ sets before at bytes
  pub kept : length after ≡ length before
  pub past : next ≡ at + length bytes

-- of `size` bytes the first `len` are written, and zeros stand behind them: so two that were written alike are the same
pub record Held (size len : ℕ) (bytes : List ℕ) : Type 0 where
  pub within : len ≤ size
  pub long : length bytes ≡ size
  pub behind : drop len bytes ≡ replicate (size - len) 0
