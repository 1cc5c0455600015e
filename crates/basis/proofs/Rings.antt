-- A commutative ring on a carrier, and the rules by which `simp` settles equations in it.
use Rattle.std.proofs.Common.{◌≡◌, sym, ap, ◌∙◌, ap₂}

pub record CommutativeRing (A : Type 0) : Type 0 where
  pub zero : A
  pub one : A
  pub sum : A → A → A
  pub negative : A → A
  pub product : A → A → A
  pub sum_commutes : (a b : A) → sum a b ≡ sum b a
  pub sum_associates : (a b c : A) → sum (sum a b) c ≡ sum a (sum b c)
  pub sum_with_zero : (a : A) → sum a zero ≡ a
  pub sum_with_negative : (a : A) → sum a (negative a) ≡ zero
  pub product_commutes : (a b : A) → product a b ≡ product b a
  pub product_associates : (a b c : A) → product (product a b) c ≡ product a (product b c)
  pub product_with_one : (a : A) → product a one ≡ a
  pub product_over_sum : (a b c : A) → product a (sum b c) ≡ sum (product a b) (product a c)

-- b divides a
abbrev pub Factor : {A : Type 0} → CommutativeRing A → A → A → Type 0
Factor {A} R b a = (q : A) × (R.product q b ≡ a)

module _ {A : Type 0} (R : CommutativeRing A) where
  open R use {zero as 𝟎, one as 𝟏, sum as ◌+◌, negative as −◌, product as ◌*◌}

  infixl 60 ◌+◌
  infixl 70 ◌*◌
  infix 80 −◌
  pub sum_turns : (a b : A) → a + b ≡ b + a
  sum_turns = R.sum_commutes

  pub sum_nests : (a b c : A) → a + b + c ≡ a + (b + c)
  sum_nests = R.sum_associates

  pub sum_swaps : (a b c : A) → a + (b + c) ≡ b + (a + c)
  sum_swaps a b c = sym (sum_nests a b c) ∙ ap (λ x. x + c) (sum_turns a b) ∙ sum_nests b a c

  pub product_turns : (a b : A) → a * b ≡ b * a
  product_turns = R.product_commutes

  pub product_nests : (a b c : A) → a * b * c ≡ a * (b * c)
  product_nests = R.product_associates

  pub product_swaps : (a b c : A) → a * (b * c) ≡ b * (a * c)
  product_swaps a b c = sym (product_nests a b c) ∙ ap (λ x. x * c) (product_turns a b) ∙ product_nests b a c

  pub over_sum_right : (a b c : A) → a * (b + c) ≡ a * b + a * c
  over_sum_right = R.product_over_sum

  pub over_sum_left : (a b c : A) → (b + c) * a ≡ b * a + c * a
  over_sum_left a b c = product_turns (b + c) a ∙ over_sum_right a b c ∙ ap₂ (λ x y. x + y) (product_turns a b) (product_turns a c)

  pub zero_right : (a : A) → a + 𝟎 ≡ a
  zero_right = R.sum_with_zero

  pub zero_left : (a : A) → 𝟎 + a ≡ a
  zero_left a = sum_turns 𝟎 a ∙ zero_right a

  -- a common summand cancels
  pub sum_cancels : (a b c : A) → a + c ≡ b + c → a ≡ b
  sum_cancels a b c h = sym (undo a) ∙ ap (λ x. x + − c) h ∙ undo b
    where
      undo : (x : A) → x + c + − c ≡ x
      undo x = sum_nests x c (− c) ∙ ap (λ y. x + y) (R.sum_with_negative c) ∙ zero_right x

  pub times_zero : (a : A) → a * 𝟎 ≡ 𝟎
  times_zero a = sum_cancels (a * 𝟎) 𝟎 (a * 𝟎) (sym (over_sum_right a 𝟎 𝟎) ∙ ap (λ x. a * x) (zero_right 𝟎) ∙ sym (zero_left (a * 𝟎)))

  pub zero_times : (a : A) → 𝟎 * a ≡ 𝟎
  zero_times a = product_turns 𝟎 a ∙ times_zero a

  pub times_one : (a : A) → a * 𝟏 ≡ a
  times_one = R.product_with_one

  pub one_times : (a : A) → 𝟏 * a ≡ a
  one_times a = product_turns 𝟏 a ∙ times_one a

  pub negative_right : (a : A) → a + − a ≡ 𝟎
  negative_right = R.sum_with_negative

  pub negative_left : (a : A) → − a + a ≡ 𝟎
  negative_left a = sum_turns (− a) a ∙ negative_right a

  pub negative_right_inside : (a b : A) → a + (− a + b) ≡ b
  negative_right_inside a b = sym (sum_nests a (− a) b) ∙ ap (λ x. x + b) (negative_right a) ∙ zero_left b

  pub negative_left_inside : (a b : A) → − a + (a + b) ≡ b
  negative_left_inside a b = sym (sum_nests (− a) a b) ∙ ap (λ x. x + b) (negative_left a) ∙ zero_left b

  -- what adds up to zero with a is its negative
  pub negative_unique : (a b : A) → a + b ≡ 𝟎 → b ≡ − a
  negative_unique a b h = sum_cancels b (− a) a (sum_turns b a ∙ h ∙ sym (negative_left a))

  pub negative_of_sum : (a b : A) → − (a + b) ≡ − a + − b
  negative_of_sum a b = sym (negative_unique (a + b) (− a + − b) (sum_nests a b _ ∙ ap (λ x. a + x) (sum_swaps b (− a) (− b)) ∙ negative_right_inside a (b + − b) ∙ negative_right b))

  pub negative_times : (a b : A) → (− a) * b ≡ − (a * b)
  negative_times a b = negative_unique (a * b) ((− a) * b) (sym (over_sum_left b a (− a)) ∙ ap (λ x. x * b) (negative_right a) ∙ zero_times b)

  pub times_negative : (a b : A) → a * (− b) ≡ − (a * b)
  times_negative a b = product_turns a (− b) ∙ negative_times b a ∙ ap (λ x. − x) (product_turns b a)

  pub negative_twice : (a : A) → − (− a) ≡ a
  negative_twice a = sym (negative_unique (− a) a (negative_left a))

  pub negative_of_zero : − 𝟎 ≡ 𝟎
  negative_of_zero = sym (negative_unique 𝟎 𝟎 (zero_right 𝟎))

  pub ruleset ring_laws = (sum_nests, sum_turns, sum_swaps, product_nests, product_turns, product_swaps, over_sum_right, over_sum_left, zero_right, zero_left, times_zero, zero_times, times_one, one_times, negative_right, negative_right_inside, negative_left, negative_left_inside, negative_of_sum, negative_times, times_negative, negative_twice, negative_of_zero)

  pub factor_of_itself : (a : A) → Factor R a a
  factor_of_itself a = (𝟏, one_times a)

  pub factor_of_factor : (a b c : A) → Factor R a b → Factor R b c → Factor R a c
  factor_of_factor a b c (p, e) (q, f) = (q * p, product_nests q p a ∙ ap (λ z. q * z) e ∙ f)
