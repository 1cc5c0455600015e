-- Solving x·b = c modulo n: there is a solution exactly where the greatest common divisor of b and n divides c, and solutions differ by multiples of n over it.
use Rattle.std.proofs.Common.{◌≡◌, ℕ, zero, suc, ◌+◌, ◌-◌, ◌*◌, ◌/◌, ◌%◌, ◌<◌, ◌≤◌, Bool, true, false, cond, eqb, Some, None, sym, refl, ap, ◌∙◌, subst, mod-lt, mul_comm, arith}
use Prim.Native.Nat.{◌∣◌}
use native.Mathlib.Nat.{div-add-mod, mul-div_cancel', le_of_dvd, dvd-mul_left, dvd-mul_left_of_dvd, dvd_of_mul-dvd-mul_right, mod-eq-zero_of_dvd, dvd_of_mod-eq-zero, mul-mod_right, zero-mod}
use Rattle.std.proofs.lemmas.Bool.{cond-false, eqb-true, eqb-false, eq-eqb, ne_eqb}
use Rattle.modular.specs.Divisor.{common_divisor}
use Rattle.modular.specs.Modular.{multiplier}
use Rattle.modular.specs.Solved.{solved, Solves}
use Rattle.modular.proofs.Leasts.{least_is, least_some, least_none}
use Rattle.modular.proofs.Divisors.{divisor_positive, divisor_left, divisor_right, divisor_at_most}
use Rattle.modular.proofs.Congruences.{Alike, alike_sum, alike_times, alike_cancel, divides_alike, zero_alike}
use Rattle.modular.proofs.Turns.{Factor, factor_exists}

module _ (b n : ℕ) (positive : 0 < n) where
  abbrev d : ℕ
  d = common_divisor b n

  -- n over the greatest common divisor of b and n
  abbrev pub period : ℕ
  period = n / common_divisor b n

  pub period_times : d * period ≡ n
  period_times = mul-div_cancel' d (divisor_right b n positive)

  pub period_positive : 0 < period
  period_positive = above period period_times
    where
      above : (k : ℕ) → d * k ≡ n → 0 < k
      above zero e = absurd (omega (arith, native.Mathlib.Nat.mul-zero d))
      above (suc k) e = omega arith

  pub period_at_most : period ≤ n
  period_at_most = le_of_dvd positive (subst (λ z. period ∣ z) period_times (dvd-mul_left period d))

  -- a solution makes the greatest common divisor divide c
  pub solved_divides : (x c : ℕ) → Alike n (x * b) c → d ∣ c
  solved_divides x c h = divides_alike n d (x * b) c (divisor_right b n positive) h (dvd-mul_left_of_dvd d (divisor_left b n positive) x)

  -- x·b = 0 exactly for the multiples of the period
  pub zero_of_period : (k : ℕ) → Alike n (period * k * b) 0
  zero_of_period k =
      let j = b / d in
      let b_is : d * j ≡ b = mul-div_cancel' d (divisor_left b n positive) in
      let come : period * k * b ≡ n * (k * j) = omega (arith, ap (λ z. period * k * z) (sym b_is), ap (λ z. z * (k * j)) period_times) in
      ap (λ z. z % n) come ∙ mul-mod_right n (k * j) ∙ sym (zero-mod n)

  pub period_of_zero : (x : ℕ) → Alike n (x * b) 0 → period ∣ x
  period_of_zero x h =
      let f = factor_exists b n positive in
      let w = f.0 in
      let scaled : Alike n (x * (w * b)) (x * d) = alike_times n (w * b) d x f.1 in
      let gone : Alike n (x * (w * b)) 0 = ap (λ z. z % n) (omega arith) ∙ alike_times n (x * b) 0 w h ∙ ap (λ z. z % n) (omega arith) in
      let whole : n ∣ x * d = zero_alike n (x * d) (sym scaled ∙ gone) in
      dvd_of_mul-dvd-mul_right {k = d} period (divisor_positive b n positive) (subst (λ z. z ∣ x * d) (sym period_times ∙ mul_comm d period) whole)

  module _ (c w : ℕ) (divided : d ∣ c) (factor : Factor b n w) where
    -- the solution below the period
    abbrev pub solution : ℕ
    solution = w * (c / d) % period

    pub solution_solves : Alike n (solution * b) c
    solution_solves =
        let k = c / d in
        let q = w * k / period in
        let whole : period * q + solution ≡ w * k = div-add-mod (w * k) period in
        let full : Alike n (w * k * b) c = ap (λ z. z % n) (omega arith) ∙ alike_times n (w * b) d k factor ∙ ap (λ z. z % n) (mul_comm k d ∙ mul-div_cancel' d divided) in
        let split : w * k * b ≡ solution * b + period * q * b = omega (arith, ap (λ z. z * b) (sym whole)) in
        let less : Alike n (solution * b + period * q * b) (solution * b) = alike_sum n (solution * b) (solution * b) (period * q * b) 0 refl (zero_of_period q) ∙ ap (λ z. z % n) (omega arith) in
        sym less ∙ ap (λ z. z % n) (sym split) ∙ full

    solution_below : solution < period
    solution_below = mod-lt (w * (c / d)) period_positive

    -- a smaller solution would differ by less than the period
    none_smaller : (y : ℕ) → y < solution → Alike n (y * b) c → ⊥
    none_smaller y l h =
        let gap = solution - y in
        let below = solution_below in
        let split : solution * b ≡ gap * b + y * b = let e : solution ≡ gap + y = omega arith in ap (λ z. z * b) e ∙ omega arith in
        let equal : Alike n (gap * b + y * b) (0 + y * b) = ap (λ z. z % n) (sym split) ∙ solution_solves ∙ sym h ∙ ap (λ z. z % n) (omega arith) in
        let small = le_of_dvd {m = period} {n = gap} (omega arith) (period_of_zero gap (alike_cancel n (gap * b) 0 (y * b) positive equal)) in
        omega arith

    pub multiplier_is : multiplier n b c ≡ Some solution
    multiplier_is =
        let below = solution_below in
        let most = period_at_most in
        least_is (λ x. eqb (x * b % n) (c % n)) n (Some solution) (omega arith, eq-eqb _ _ solution_solves, λ y l t. none_smaller y l (eqb-true _ _ t))

  pub multiplier_none : (c : ℕ) → (d ∣ c → ⊥) → multiplier n b c ≡ None
  multiplier_none c h = least_is (λ x. eqb (x * b % n) (c % n)) n None (λ y l t. h (solved_divides y c (eqb-true _ _ t)))

  -- there is a solution where the greatest common divisor divides c
  pub multiplier_found : (c : ℕ) → d ∣ c → (x : ℕ) × (multiplier n b c ≡ Some x)
  multiplier_found c h = let f = factor_exists b n positive in (solution c f.0 h f.1, multiplier_is c f.0 h f.1)

-- what an answer says
pub multiplier_solves : (b n c x : ℕ) → multiplier n b c ≡ Some x → (x < n) × Alike n (x * b) c × ((y : ℕ) → y < x → Alike n (y * b) c → ⊥)
multiplier_solves b n c x e =
    let s = least_some (λ x. eqb (x * b % n) (c % n)) n x e in
    (s.0, eqb-true _ _ s.1, λ y l h. s.2 y l (eq-eqb _ _ h))

pub multiplier_missing : (b n c : ℕ) → multiplier n b c ≡ None → (y : ℕ) → y < n → Alike n (y * b) c → ⊥
multiplier_missing b n c e y l h = least_none (λ x. eqb (x * b % n) (c % n)) n e y l (eq-eqb _ _ h)

pub multiplier_by_none : (b n c : ℕ) → n ≡ 0 → multiplier n b c ≡ None
multiplier_by_none b n c e = least_is (λ x. eqb (x * b % n) (c % n)) n None (λ y l t. omega arith)

-- where e divides c, and where it does not
solves_by : (b n c w : ℕ) → 0 < n → Factor b n w → (t : Bool) → eqb (c % common_divisor b n) 0 ≡ t
    → multiplier n b c ≡ cond t (Some (w * (c / common_divisor b n) % (n / common_divisor b n))) None
solves_by b n c w p f true e = multiplier_is b n p c w (dvd_of_mod-eq-zero (common_divisor b n) (eqb-true _ _ e)) f
solves_by b n c w p f false e = multiplier_none b n p c (λ k. eqb-false _ _ e (mod-eq-zero_of_dvd (common_divisor b n) k))

pub solves_divisor : (b n e w : ℕ) → 0 < n → e ≡ common_divisor b n → Factor b n w → Solves b n e w
solves_divisor b n e w p is f =
    let most = divisor_at_most b n in
    let above = divisor_positive b n p in
    record {
      divisor = is;
      at_most = omega arith;
      positive = omega arith;
      period_positive = rw is (period_positive b n p);
      solves = λ c. solves_by b n c w p f _ refl ∙ sym (cond-false (eqb (common_divisor b n) 0) _ _ (ne_eqb _ _ (omega arith))) ∙ ap (λ d. solved n c d w) (sym is);
    }
