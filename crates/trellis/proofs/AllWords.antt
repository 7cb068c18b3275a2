-- The lists of all words of a length, and of those that end in five zeros: each stands in its list, once. Assumes nothing.
use mathlib.Core.Path.{◌≡◌, refl, sym, ap, subst, ◌∙◌}
use mathlib.Core.Logic.{⊎_elim}
use mathlib.Core.Bool.{Bool, true, false, false≢true}
use mathlib.Core.List.Memᴰ
use mathlib.Core.List.{List, [], ◌∷◌, ◌++◌, map, Memᴰ}
use Prim.Native.Nat.{ℕ, zero, suc, ◌-◌, ◌≤◌}
use native.Mathlib.Omega.{arith}
use lib.ListN.{length, take, drop, replicate, length-replicate, length-append, length-drop, take-append-drop}
use Rattle.trellis.specs.Nearest.{all_words, terminated_words}
use Rattle.trellis.specs.Words.{OfLength, Terminated}

-- a word stands in a list
abbrev pub In : List Bool → List (List Bool) → Type 0
In w ws = Memᴰ w ws

-- no word stands in a list twice
abbrev pub Once : List (List Bool) → Type 0
Once [] = Unit {0}
Once (w ∷ ws) = (In w ws → ⊥) × Once ws

-- ---- each of them once
once_append : (us ws : List (List Bool)) → Once us → Once ws → ((w : List Bool) → In w us → In w ws → ⊥) → Once (us ++ ws)
once_append [] ws p q apart = q
once_append (u ∷ us) ws p q apart =
    (λ m. ⊎_elim p.0 (apart u (Memᴰ.head refl)) (Memᴰ.append_cases us m), once_append us ws p.1 q (λ w a b. apart w (Memᴰ.tail a) b))

once_map : (f : List Bool → List Bool) → ((u w : List Bool) → f u ≡ f w → u ≡ w) → (ws : List (List Bool)) → Once ws → Once (map f ws)
once_map f apart [] p = tt
once_map f apart (w ∷ ws) p = (λ m. let r = Memᴰ.of_map f ws m in p.0 (Memᴰ.cast (sym (apart r.0 w r.2)) r.1), once_map f apart ws p.1)

once_after : (b : Bool) (ws : List (List Bool)) → Once ws → Once (map (◌∷◌ b) ws)
once_after b = once_map (◌∷◌ b) (λ u w e. cc e)

newest_apart : (ws : List (List Bool)) (w : List Bool) → In w (map (◌∷◌ false) ws) → In w (map (◌∷◌ true) ws) → ⊥
newest_apart ws w a b =
    let p = Memᴰ.of_map (◌∷◌ false) ws a in
    let q = Memᴰ.of_map (◌∷◌ true) ws b in
    let e : false ≡ true = cc (p.2, q.2) in
    false≢true e

pub all_once : (n : ℕ) → Once (all_words n)
unfolding all_words
all_once zero = (Memᴰ.not-nil, tt)
all_once (suc n) =
    once_append (map (◌∷◌ false) (all_words n)) (map (◌∷◌ true) (all_words n)) (once_after false (all_words n) (all_once n)) (once_after true (all_words n) (all_once n))
    (newest_apart (all_words n))

-- ---- exactly the words of the length
pub in_all : (w : List Bool) → In w (all_words (length w))
unfolding all_words
in_all [] = Memᴰ.head refl
in_all (false ∷ w) = Memᴰ.append_left (map (◌∷◌ true) (all_words (length w))) (Memᴰ.map (◌∷◌ false) (in_all w))
in_all (true ∷ w) = Memᴰ.append_right (map (◌∷◌ false) (all_words (length w))) (Memᴰ.map (◌∷◌ true) (in_all w))

longer : (b : Bool) (n : ℕ) (ws : List (List Bool)) → ((u : List Bool) → In u ws → length u ≡ n) → (w : List Bool) → In w (map (◌∷◌ b) ws) → length w ≡ suc n
longer b n ws sizes w m = let r = Memᴰ.of_map (◌∷◌ b) ws m in ap length (sym r.2) ∙ ap suc (sizes r.0 r.1)

pub all_length : (n : ℕ) (w : List Bool) → In w (all_words n) → length w ≡ n
unfolding all_words
all_length zero w m = ap length (Memᴰ.eq_of_singleton m)
all_length (suc n) w m =
    ⊎_elim (longer false n (all_words n) (all_length n) w) (longer true n (all_words n) (all_length n) w) (Memᴰ.append_cases (map (◌∷◌ false) (all_words n)) m)

-- ---- a list holds the words of a set, each once, and at least one
pub record Lists (Word : List Bool → Type 0) (ws : List (List Bool)) : Type 0 where
  pub to : (w : List Bool) → In w ws → Word w
  pub from : (w : List Bool) → Word w → In w ws
  pub once : Once ws
  pub some : (w : List Bool) × Word w

pub all_lists : (n : ℕ) → Lists (OfLength n) (all_words n)
all_lists n =
    record {
      to = all_length n;
      from = λ w l. subst (λ (k : ℕ). In w (all_words k)) l (in_all w);
      once = all_once n;
      some = (replicate n false, length-replicate n false);
    }

pub terminated_lists : (n : ℕ) → 5 ≤ n → Lists (Terminated n) (terminated_words n)
unfolding terminated_words
terminated_lists n h =
    record {
      to = λ w m. let r = Memᴰ.of_map (◌++◌ (replicate 5 false)) (all_words (n - 5)) m in record {
        steps = ap length (sym r.2) ∙ omega (arith, length-append (replicate 5 false) r.0, length-replicate 5 false, all_length (n - 5) r.0 r.1);
        tail = ap (take 5) (sym r.2);
      };
      from = λ w t. Memᴰ.cast (sym (take-append-drop 5 w) ∙ ap (λ (l : List Bool). l ++ drop 5 w) t.tail)
          (Memᴰ.map (◌++◌ (replicate 5 false)) ((all_lists (n - 5)).from (drop 5 w) (length-drop 5 w ∙ ap (λ (k : ℕ). k - 5) t.steps)));
      once = once_map (◌++◌ (replicate 5 false)) (λ u w e. cc e) (all_words (n - 5)) (all_once (n - 5));
      some = (
        replicate 5 false ++ replicate (n - 5) false,
        record { steps = length-append (replicate 5 false) (replicate (n - 5) false) ∙ omega (arith, length-replicate 5 false, length-replicate (n - 5) false); tail = refl },
      );
    }
