-- The rows of branch metrics, by place (search/specs/Row.antt).
use Rattle.std.specs.Prelude.{◌≡◌, Bool, List, [], ℕ, ◌+◌, ◌*◌, ◌/◌, ◌%◌, ◌<◌, get_or}
use Rattle.bits.specs.Bits.{bit, disagreement}
use Rattle.coding.specs.Codes.{dcch}
use Rattle.search.specs.Row.{output_at, taps}

-- the disagreements of a place's two output bits with a received pair
abbrev pub distance_at : ℕ → Bool → Bool → ℕ
distance_at place first second = disagreement (output_at (taps dcch 0) place) first + disagreement (output_at (taps dcch 1) place) second

-- the first k places of a row hold the distances of a pair
abbrev pub DistancesTo : Bool → Bool → List ℕ → ℕ → Type 0
DistancesTo first second row k = (place : ℕ) → place < k → get_or row place 0 ≡ distance_at place first second

-- the first k rows are those of their pairs, the first bit worth two
abbrev pub PairsTo : List (List ℕ) → ℕ → Type 0
PairsTo rows k = (i : ℕ) → i < k → DistancesTo (bit (i / 2)) (bit (i % 2)) (get_or rows i []) 64

-- the number of the pair that a step receives
abbrev pub pair_of : List ℕ → ℕ → ℕ
pair_of coded k = get_or coded (k * 2) 0 % 2 * 2 + get_or coded (k * 2 + 1) 0 % 2

abbrev pub SymbolsTo : List ℕ → List ℕ → ℕ → Type 0
SymbolsTo coded symbols n = (k : ℕ) → k < n → get_or symbols k 0 ≡ pair_of coded k
