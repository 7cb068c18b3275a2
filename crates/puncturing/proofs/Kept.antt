-- How many bits are sent. Assumes nothing.
use mathlib.Core.Path.{◌≡◌}
use mathlib.Core.Bool.{Bool}
use mathlib.Core.List.{List}
use lib.ListN.{length, length-append, length-take, length-drop}
use Rattle.puncturing.specs.Punctured.{sent_of}

pub sent_length : (l : List Bool) → length l ≡ 216 → length (sent_of l) ≡ 208
unfolding sent_of
sent_length l e = simp (length-append, length-take, length-drop, e)
