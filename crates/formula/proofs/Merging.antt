-- Adding a multiple of a line to a list, product by product.
use Rattle.std.proofs.Common.{◌≡◌, ℕ, ◌≤◌, List, [], ◌∷◌, ◌++◌, length, get_or, take, drop, Ordering, Less, Equal, Greater, sym, refl, ap, ◌∙◌}
use Rattle.std.proofs.Math.Numerals.{one-add}
use Rattle.std.proofs.lemmas.List.{append_assoc, at_drop_all}
use Rattle.std.proofs.lemmas.List.Folds.{list_all-map}
use Rattle.std.proofs.lemmas.List.FromFn.{fill_by_all}
use Rattle.std.specs.List.{list_all, prefix_len, range_with_len}
use Rattle.ring.specs.CoefficientRing.{CoefficientRing}
use Rattle.order.specs.Term.{product}
use Rattle.order.specs.TermOrder.{TermOrder, compared}
use Rattle.term.specs.Packed.{fits}
use Rattle.term.specs.declared.monomial.Monomial.{Monomial}
use Rattle.formula.specs.Formula.{blank, is_after, term}
use Rattle.formula.specs.Sum.{joined, kept, merged, multiplied, nonzero, products_fit, unjoined}

-- the test of each number tells whether the products fit
pub products_fit_is_all : (s : Monomial) (xs : List Monomial) → products_fit s xs ≡ list_all (λ k. fits (product (term s) (term (get_or xs k blank)))) (range_with_len 0 (length xs))
products_fit_is_all s xs =
    ap (products_fit s) (fill_by_all (λ k. get_or xs k blank) xs (length xs) blank refl (λ k h. refl))
    ∙ list_all-map (λ m. fits (product (term s) (term m))) (λ k. get_or xs k blank) (range_with_len 0 (length xs))

module _ (ring : CoefficientRing) (order : TermOrder) where
  -- the monomials in front whose terms are after that of n come first, then n, joined with the next where that has the same term
  abbrev Turn : Monomial → (f g : List Monomial) → Type 0
  Turn n f g =
      let i = prefix_len (is_after order n) f in
      merged ring order f (n ∷ g) ≡ nonzero (take i f) ++ (kept (joined ring order (drop i f) n) ++ merged ring order (unjoined order (drop i f) n) g)

  turn_more : (n m : Monomial) (f g : List Monomial) (o : Ordering) → compared order (term m) (term n) ≡ o → Turn n f g → Turn n (m ∷ f) g
  turn_more n m f g Less e h = rw (e, e)
  turn_more n m f g Equal e h = rw (e, e)
  turn_more n m f g Greater e h = rw (e, one-add) (ap (λ l. kept m ++ l) h ∙ sym (append_assoc (kept m) _ _))

  turn : (n : Monomial) (f g : List Monomial) → Turn n f g
  turn n [] g = refl
  turn n (m ∷ f) g = turn_more n m f g (compared order (term m) (term n)) refl (turn n f g)

  merged_alone : (f : List Monomial) → merged ring order f [] ≡ nonzero f
  merged_alone [] = refl
  merged_alone (m ∷ f) = refl

  -- n goes in: the first i of a list are in front, next and left are as n joins the others
  pub product_in : (f front others left : List Monomial) (i : ℕ) (n next : Monomial) → i ≡ prefix_len (is_after order n) f → front ≡ take i f → others ≡ drop i f → next ≡ joined ring order others n → left ≡ unjoined order others n
      → (g : List Monomial) → merged ring order f (n ∷ g) ≡ nonzero front ++ (kept next ++ merged ring order left g)
  product_in f front others left i n next ei ef eo en el g = turn n f g ∙ rw (en, el, ef, eo, ei)

  pub products_all : (s : Monomial) (line f : List Monomial) (k : ℕ) → length line ≤ k → merged ring order f (multiplied ring s (drop k line)) ≡ nonzero f
  products_all s line f k h = ap (merged ring order f) (at_drop_all (multiplied ring s) line k h) ∙ merged_alone f
