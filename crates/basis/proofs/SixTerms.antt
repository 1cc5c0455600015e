-- Terms of six exponents as the theory asks for them, and each term order over them.
use Rattle.std.proofs.Common.{◌≡◌, Bool, true, false, Decides, refl, arith}
use Rattle.std.proofs.lemmas.Bool.Decides.{Decides-and, Decides-eqb, Decides-like, not_from_Decides}
use Rattle.order.specs.Term.{Term, product, quotient, lcm, Divides, divides}
use Rattle.order.specs.TermOrder.{TermOrder}
use Rattle.order.proofs.Terms.{alike, alike_of, product_laws, division_laws, lcm_laws}
use Rattle.basis.specs.Polynomial.{same_term}
use Rattle.basis.proofs.TermMonoids.{TermMonoid, MonoidOrder, Divisor}

-- a decision from a test
decision : {P : Type 0} (b : Bool) → Decides b P → Dec P
decision true d = yes (d.0 refl)
decision false d = no (not_from_Decides false d refl)

pub divide_terms : (s t : Term) → Dec ((m : Term) × (product s m ≡ t))
divide_terms s t = decision (divides s t) (Decides-like (divides s t) (division_laws.exactly_multiples s t).0 (division_laws.exactly_multiples s t).1 (division_laws.decided s t))

abbrev pub six_terms : TermMonoid Term
six_terms = record {
  product = product;
  commutes = product_laws.commutes;
  associates = product_laws.associates;
  cancels = product_laws.cancels;
  divide = divide_terms;
}

-- a term order as the theory asks for it
abbrev pub order_of_six : TermOrder → MonoidOrder six_terms
order_of_six order = record {
  before = order.before;
  irreflexive = order.irreflexive;
  transitive = order.transitive;
  trichotomy = order.trichotomy;
  kept_by_product = order.kept_by_product;
  well_founded = order.well_founded;
}

-- the test of equal terms, register by register
pub same_term_decides : (s t : Term) → Decides (same_term s t) (s ≡ t)
same_term_decides s t =
    Decides-like (same_term s t) (λ h. alike s t (omega arith)) (λ e. let h = alike_of s t e in omega arith)
    (Decides-and _ _ (Decides-eqb s.a t.a) (Decides-and _ _ (Decides-eqb s.b t.b) (Decides-and _ _ (Decides-eqb s.c t.c) (Decides-and _ _ (Decides-eqb s.d t.d) (Decides-and _ _ (Decides-eqb s.e t.e) (Decides-eqb s.f t.f))))))

pub divisor_of : (s t : Term) → Divides s t → Divisor six_terms s t
divisor_of s t = (division_laws.exactly_multiples s t).0

pub divides_of : (s t : Term) → Divisor six_terms s t → Divides s t
divides_of s t = (division_laws.exactly_multiples s t).1

-- both terms come to their lcm, and it divides each term that both divide
pub lift_left : (s t : Term) → product s (quotient (lcm s t) s) ≡ lcm s t
lift_left s t = division_laws.times_divisor s (lcm s t) (lcm_laws.left_divides s t)

pub lift_right : (s t : Term) → product t (quotient (lcm s t) t) ≡ lcm s t
lift_right s t = division_laws.times_divisor t (lcm s t) (lcm_laws.right_divides s t)

pub lcm_is_least : (s t x : Term) → Divisor six_terms s x → Divisor six_terms t x → Divisor six_terms (lcm s t) x
lcm_is_least s t x d e = divisor_of (lcm s t) x (lcm_laws.divides_common s t x (divides_of s x d) (divides_of t x e))
