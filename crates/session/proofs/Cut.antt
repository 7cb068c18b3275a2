-- A state and what is written depend on no more than 137 characters of a line. Assumes nothing.
use mathlib.Core.Path.{◌≡◌, ap}
use mathlib.Core.List.{List}
use Prim.Native.Nat.{ℕ}
use lib.ListN.{take}
use Rattle.lines.specs.Printing.{reply_text}
use Rattle.session.specs.Replies.{Replied}
use Rattle.session.specs.Output.{State, next, said}
use Rattle.session.specs.Totals.{added_by, counted, summed}
use Rattle.session.proofs.Replying.{replied_cut}

pub next_cut : (s : State) (l : List ℕ) → next s (take 137 l) ≡ next s l
unfolding next
next_cut s l =
    ap (λ (p : Replied). record { receiver = p.receiver; tally = summed s.tally (added_by p.reply); counts = counted s.counts p.dvcc (added_by p.reply).words })
    (replied_cut s.receiver l)

pub said_cut : (s : State) (l : List ℕ) → said s (take 137 l) ≡ said s l
unfolding said
said_cut s l = ap (λ (p : Replied). reply_text p.reply) (replied_cut s.receiver l)
