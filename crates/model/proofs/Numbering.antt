-- Which job a number stands for, both ways.
use Rattle.std.proofs.Common.{◌≡◌, ℕ, zero, suc, ◌+◌, ◌-◌, ◌*◌, ◌/◌, ◌%◌, ◌<◌, ◌≤◌, Bool, true, false, cond, eqb, leb, refl, ap, ◌∙◌, ap₂, mul-le-mul, arith}
use native.Mathlib.Decide.{dec_lt}
use Rattle.std.proofs.lemmas.Bool.{leb-true, leb-false}
use Rattle.model.specs.Jobs.{Job, job, job_of_line, root}

-- r is the greatest number whose square is not above j
abbrev Rooted : ℕ → ℕ → Type 0
Rooted j r = (r * r ≤ j) × (j < suc r * suc r)

rooted : (j : ℕ) → Rooted j (root j)
rooted zero = (omega arith, omega arith)
rooted (suc j) = by (leb (suc (root j) * suc (root j)) (suc j)) refl (rooted j)
  where
    by : (b : Bool) → leb (suc (root j) * suc (root j)) (suc j) ≡ b → Rooted j (root j) → Rooted (suc j) (cond b (suc (root j)) (root j))
    by true e (l, h) = (leb-true (suc (root j) * suc (root j)) (suc j) e, omega arith)
    by false e (l, h) = (omega arith, leb-false (suc (root j) * suc (root j)) (suc j) e)

square : (a b : ℕ) → a ≤ b → a * a ≤ b * b
square a b h = mul-le-mul h h

root_is : (j k : ℕ) → k * k ≤ j → j < suc k * suc k → root j ≡ k
root_is j k l h = by (dec_lt (root j) k) (dec_lt k (root j)) (rooted j)
  where
    by : Dec (root j < k) → Dec (k < root j) → Rooted j (root j) → root j ≡ k
    by (yes a) _ (m, n) = let s = square (suc (root j)) k a in absurd (omega arith)
    by (no a) (yes b) (m, n) = let s = square (suc k) (root j) b in absurd (omega arith)
    by (no a) (no b) _ = omega arith

job_at : (j k d : ℕ) → j ≡ k * k + d → d ≤ 2 * k → job j ≡ job_of_line k d
unfolding job
job_at j k d e h =
    let r : root j ≡ k = root_is j k (omega arith) (omega arith) in
    let m : j - k * k ≡ d = omega arith in
    ap (λ z. job_of_line z (j - z * z)) r ∙ ap (job_of_line k) m

pub job_a : (k : ℕ) → job (k * k) ≡ Job.A k
job_a k = job_at (k * k) k 0 (omega arith) (omega arith)

pub job_g : (i k : ℕ) → i < k → job (k * k + suc (2 * i)) ≡ Job.G i k
job_g i k h = job_at (k * k + suc (2 * i)) k (suc (2 * i)) refl (omega arith) ∙ ap₂ (λ r q. cond (eqb r 0) (Job.G q k) (Job.S q k)) r q
  where
    r : (2 * i) % 2 ≡ 0
    r = omega arith

    q : (2 * i) / 2 ≡ i
    q = omega arith

pub job_s : (i k : ℕ) → i < k → job (k * k + suc (suc (2 * i))) ≡ Job.S i k
job_s i k h = job_at (k * k + suc (suc (2 * i))) k (suc (suc (2 * i))) refl (omega arith) ∙ ap₂ (λ r q. cond (eqb r 0) (Job.G q k) (Job.S q k)) r q
  where
    r : suc (2 * i) % 2 ≡ 1
    r = omega arith

    q : suc (2 * i) / 2 ≡ i
    q = omega arith

-- a job of n lines: it names lines that are there, the first of two before the second
abbrev pub Inside : ℕ → Job → Type 0
Inside n (Job.A k) = k < n
Inside n (Job.G i k) = (i < k) × (k < n)
Inside n (Job.S i k) = (i < k) × (k < n)

inside_line : (n k d : ℕ) → k < n → d ≤ 2 * k → Inside n (job_of_line k d)
inside_line n k zero h l = h
inside_line n k (suc d) h l = by (eqb (d % 2) 0)
  where
    by : (b : Bool) → Inside n (cond b (Job.G (d / 2) k) (Job.S (d / 2) k))
    by true = (omega arith, h)
    by false = (omega arith, h)

pub job_inside : (n j : ℕ) → j < n * n → Inside n (job j)
unfolding job
job_inside n j h = let r = rooted j in inside_line n (root j) (j - root j * root j) (below (dec_lt (root j) n)) (let a = r.0 in let b = r.1 in omega arith)
  where
    below : Dec (root j < n) → root j < n
    below (yes l) = l
    below (no l) = let s = square n (root j) (omega arith) in let r = (rooted j).0 in absurd (omega arith)

pub inside_more : (n m : ℕ) → n ≤ m → (job : Job) → Inside n job → Inside m job
inside_more n m l (Job.A k) h = omega arith
inside_more n m l (Job.G i k) h = (h.0, (let b = h.1 in omega arith))
inside_more n m l (Job.S i k) h = (h.0, (let b = h.1 in omega arith))
