-- The monomials that a line lists.
use Rattle.std.specs.Prelude.{ℕ, List, take}
use Rattle.term.specs.declared.monomial.Monomial.{Monomial}
use Rattle.script.specs.declared.listing.Listing.{Listing}

-- how many of them are kept
abbrev pub max_listed : ℕ
max_listed = 65

-- those that are kept
abbrev pub listed : Listing → List Monomial
listed l = take l.len l.items
