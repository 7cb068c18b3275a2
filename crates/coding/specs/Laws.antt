-- What the codes keep.
use Rattle.std.specs.Prelude.{◌≡◌, refl, Bool, List, [], ◌∷◌, ℕ, ◌<◌, ◌≤◌, length}
use Rattle.std.proofs.Common.{lit<, lit≤}
use Rattle.coding.specs.Codes.{dcch, facch, acelp}
use Rattle.coding.specs.Registers.{memory_high, memory_low}

-- no generator taps more than six inputs
abbrev pub AtMostSix : List (List Bool) → Type 0
AtMostSix [] = Unit {0}
AtMostSix (g ∷ code) = (length g ≤ 6) × AtMostSix code

-- a code of so many generators, and a memory of five inputs
pub record CodeLaws (generators : ℕ) (code : List (List Bool)) (memory : ℕ → List Bool) : Type 0 where
  pub size : length code ≡ generators
  pub few : generators < 64
  pub six : AtMostSix code
  pub five : (s : ℕ) → length (memory s) ≡ 5

pub dcch_laws : CodeLaws 2 dcch memory_high
dcch_laws = record { size = refl; few = lit< tt; six = (lit≤ tt, (lit≤ tt, tt)); five = λ s. refl }

pub facch_laws : CodeLaws 4 facch memory_high
facch_laws = record { size = refl; few = lit< tt; six = (lit≤ tt, (lit≤ tt, (lit≤ tt, (lit≤ tt, tt)))); five = λ s. refl }

pub acelp_laws : CodeLaws 2 acelp memory_low
acelp_laws = record { size = refl; few = lit< tt; six = (lit≤ tt, (lit≤ tt, tt)); five = λ s. refl }
