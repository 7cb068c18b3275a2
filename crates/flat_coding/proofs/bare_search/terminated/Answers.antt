-- `flat_coding::bare_search::terminated` meets its contract where it searches. Assumes nothing.
use mathlib.Core.Path.{sym, subst}
use lib.ListN.{length}
use Rattle.bits.specs.Bits.{bits}
use Rattle.trellis.specs.Search.{FoundFirst}
use Rattle.trellis.specs.Words.{Terminated}
use Rattle.viterbi.specs.Hard.{weight}
use Rattle.flat_coding.specs.FlatSearch.{SearchAnswer}
use Rattle.flat_coding.proofs.Searches.{by_search}
use Rattle.flat_coding.proofs.bare_search.terminated.Goals as goal

pub returns-in-Ok : goal.returns-in-Ok
returns-in-Ok c =
    let a = c.args in
    subst (SearchAnswer (FoundFirst (Terminated (length a.word.now)) (weight (bits a.coded.now))) a.coded.now a.word.now c.terminated.new.word) (sym c.from.ensures)
    (by_search c.search_arguments.ensures c.in-Ok.is c.terminated.ensures)
