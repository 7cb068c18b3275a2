-- The coded bits of a run of inputs: their number, runs one after the other, and that only the newest five inputs before a run matter,
-- so that steps of a register make a run. Assumes nothing.
use mathlib.Core.Path.{◌≡◌, refl, sym, ap, ap₂, ◌∙◌}
use mathlib.Core.Bool.{Bool, ◌&&◌}
use mathlib.Core.List.{List, [], ◌∷◌, ◌++◌, append_assoc, append-nil, reverse, reverse_aux, reverse_aux-eq, reverse-append}
use Prim.Native.Nat.{ℕ, zero, suc, ◌+◌, ◌*◌, ◌<◌, ◌≤◌}
use native.Mathlib.Omega.{arith}
use native.Mathlib.Nat.{suc-mul, add_comm}
use lib.ListN.{length, take, length-append, length-map}
use lib.Seq.{take-take}
use Rattle.bits.specs.Bits.{bytes, ◌⊕◌}
use Rattle.bits.proofs.Binary.{bytes-append}
use Rattle.coding.specs.Codes.{tapped, outputs, coded}
use Rattle.coding.specs.Laws.{AtMostSix}
use Rattle.coding.specs.Registers.{Stepped}
use Rattle.coding.specs.Runs.{Ran}

pub coded-length : (code : List (List Bool)) (before u : List Bool) → length (coded code before u) ≡ length u * length code
unfolding coded
coded-length code before [] = sym (omega arith)
coded-length code before (x ∷ u) =
    length-append (outputs code (x ∷ before)) (coded code (x ∷ before) u)
    ∙ ap₂ (λ (m n : ℕ). m + n) (length-map code (λ (g : List Bool). tapped g (x ∷ before))) (coded-length code (x ∷ before) u)
    ∙ add_comm (length code) (length u * length code) ∙ sym (suc-mul (length u) (length code))

-- a run after another: the inputs of the first come before the second
coded_onto : (code : List (List Bool)) (before u v : List Bool) → coded code before (u ++ v) ≡ coded code before u ++ coded code (reverse_aux u before) v
unfolding coded
coded_onto code before [] v = refl
coded_onto code before (x ∷ u) v =
    ap (λ (l : List Bool). outputs code (x ∷ before) ++ l) (coded_onto code (x ∷ before) u v)
    ∙ sym (append_assoc (outputs code (x ∷ before)) (coded code (x ∷ before) u) (coded code (reverse_aux u (x ∷ before)) v))

pub coded-append : (code : List (List Bool)) (before u v : List Bool) → coded code before (u ++ v) ≡ coded code before u ++ coded code (reverse u ++ before) v
coded-append code before u v = coded_onto code before u v ∙ ap (λ (w : List Bool). coded code before u ++ coded code w v) (reverse_aux-eq u before)

-- ---- the newest inputs
-- a generator of n coefficients taps no more than the newest n inputs
tapped_newest : (g w w' : List Bool) (n : ℕ) → length g ≤ n → take n w ≡ take n w' → tapped g w ≡ tapped g w'
unfolding tapped
tapped_newest [] w w' n h e = refl
tapped_newest (a ∷ g) w w' zero h e = absurd (omega arith)
tapped_newest (a ∷ g) [] [] (suc n) h e = refl
tapped_newest (a ∷ g) [] (y ∷ w') (suc n) h e = let z : ◌≡◌ {A = ℕ} 0 1 = cc in absurd (omega arith)
tapped_newest (a ∷ g) (x ∷ w) [] (suc n) h e = let z : ◌≡◌ {A = ℕ} 0 1 = cc in absurd (omega arith)
tapped_newest (a ∷ g) (x ∷ w) (y ∷ w') (suc n) h e =
    let p : x ≡ y = cc in
    let q : take n w ≡ take n w' = cc in
    ap₂ (λ (b c : Bool). (a && b) ⊕ c) p (tapped_newest g w w' n (omega arith) q)

outputs_newest : (code : List (List Bool)) → AtMostSix code → (w w' : List Bool) → take 6 w ≡ take 6 w' → outputs code w ≡ outputs code w'
outputs_newest [] t w w' e = refl
outputs_newest (g ∷ code) t w w' e = ap₂ (λ (b : Bool) (l : List Bool). b ∷ l) (tapped_newest g w w' 6 t.0 e) (outputs_newest code t.1 w w' e)

-- what agrees in its newest n agrees in them after the same inputs r
take_onto : {A : Type 0} (r a b : List A) (n : ℕ) → take n a ≡ take n b → take n (r ++ a) ≡ take n (r ++ b)
take_onto [] a b n e = e
take_onto (x ∷ r) a b zero e = refl
take_onto {A} (x ∷ r) a b (suc n) e =
    ap (λ (l : List A). x ∷ l)
    (take_onto r a b n (sym (take-take n (suc n) a (omega arith)) ∙ ap (take n) e ∙ take-take n (suc n) b (omega arith)))

pub coded_newest : (code : List (List Bool)) → AtMostSix code → (w w' u : List Bool) → take 5 w ≡ take 5 w' → coded code w u ≡ coded code w' u
unfolding coded
coded_newest code t w w' [] e = refl
coded_newest code t w w' (x ∷ u) e =
    ap₂ (λ (k l : List Bool). k ++ l) (outputs_newest code t (x ∷ w) (x ∷ w') (ap (λ (l : List Bool). x ∷ l) e))
    (coded_newest code t (x ∷ w) (x ∷ w') u (take_onto (x ∷ []) w w' 5 e))

-- ---- a register's run
module _ {code : List (List Bool)} {memory : ℕ → List Bool} where
  pub ran_none : {s : ℕ} → s < 32 → memory s ≡ take 5 (memory s) → Ran code memory s [] s []
  unfolding coded
  ran_none h e = record { bits = refl; below = h; holds = e }

  -- a step is a run of one input
  pub ran_step : {s n : ℕ} {x : Bool} {o : List ℕ} → Stepped code memory s x n o → Ran code memory s (x ∷ []) n o
  unfolding coded
  ran_step {s} {x} step =
      record { bits = step.sent ∙ ap bytes (sym (append-nil (outputs code (x ∷ memory s)))); below = step.below; holds = step.holds }

  -- a run goes on from the state that another ended in
  pub ran_append : AtMostSix code → {s n m : ℕ} {u v : List Bool} {out o : List ℕ} → Ran code memory s u n out → Ran code memory n v m o
      → Ran code memory s (u ++ v) m (out ++ o)
  ran_append t {s} {n} {u} {v} run next =
      let w : List Bool = reverse u ++ memory s in
      let e : take 5 (memory n) ≡ take 5 w = ap (take 5) run.holds ∙ take-take 5 5 w (omega arith) in
      record {
        bits =
            ap₂ (λ (k l : List ℕ). k ++ l) run.bits (next.bits ∙ ap bytes (coded_newest code t (memory n) w v e))
            ∙ sym (bytes-append (coded code (memory s) u) (coded code w v)) ∙ ap bytes (sym (coded-append code (memory s) u v));
        below = next.below;
        holds =
            next.holds ∙ take_onto (reverse v) (memory n) w 5 e
            ∙ ap (take 5) (sym (append_assoc (reverse v) (reverse u) (memory s)) ∙ ap (λ (r : List Bool). r ++ memory s) (sym (reverse-append u v)));
      }

  pub ran_more : AtMostSix code → {s n m : ℕ} {u : List Bool} {x : Bool} {out o : List ℕ} → Ran code memory s u n out → Stepped code memory n x m o
      → Ran code memory s (u ++ (x ∷ [])) m (out ++ o)
  ran_more t run step = ran_append t run (ran_step step)
