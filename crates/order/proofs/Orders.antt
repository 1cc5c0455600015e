-- The keys of lex, reverse and weight: each adds up over a product, and those of lex and of reverse tell terms apart.
use Rattle.std.proofs.Common.{◌≡◌, arith}
use Rattle.order.specs.Term.{Term, weighted}
use Rattle.order.specs.Keys.{lex_keys, reverse_keys}
use Rattle.order.proofs.Keys.{Additive, Each}

pub lex_additive : Each Additive lex_keys
lex_additive = omega arith

pub lex_apart : (s t : Term) → Each (λ key. key s ≡ key t) lex_keys → s ≡ t
lex_apart s t h = grind arith

pub reverse_additive : Each Additive reverse_keys
reverse_additive = omega arith

pub reverse_apart : (s t : Term) → Each (λ key. key s ≡ key t) reverse_keys → s ≡ t
reverse_apart s t h = grind arith

pub weighted_additive : (w : Term) → Additive (weighted w)
weighted_additive w s t = omega arith
