-- Results and options whose case is known, and results that are granted only where a test holds.
use Rattle.std.proofs.Common.{◌≡◌, Bool, true, false, Some, None, Ok, Err, Decides, Option, Result, sym, refl, ap, subst}
use Rattle.std.specs.Option.{option_or}
use Rattle.std.proofs.lemmas.Bool.{false≢true}
use Rattle.refusal.specs.declared.Refusal.{Refusal}
use Rattle.formula.specs.Formula.{provided}
use Rattle.model.specs.Reduction.{then}

abbrev IsOk : {X E : Type 0} → Result X E → Type 0
IsOk (Ok x) = Unit {0}
IsOk (Err e) = ⊥

pub err_ok : {X E P : Type 0} {e : E} {x : X} → ◌≡◌ {A = Result X E} (Err e) (Ok x) → P
err_ok h = absurd (subst IsOk (sym h) tt)

abbrev ok_or : {X E : Type 0} → X → Result X E → X
ok_or d (Ok x) = x
ok_or d (Err e) = d

pub ok_ok : {X E : Type 0} {x y : X} → ◌≡◌ {A = Result X E} (Ok x) (Ok y) → x ≡ y
ok_ok {X} {E} {x} h = ap (ok_or x) h

abbrev IsSome : {X : Type 0} → Option X → Type 0
IsSome (Some x) = Unit {0}
IsSome None = ⊥

pub none_some : {X P : Type 0} {x : X} → ◌≡◌ {A = Option X} None (Some x) → P
none_some h = absurd (subst IsSome (sym h) tt)

abbrev some_or : {X : Type 0} → X → Option X → X
some_or d (Some x) = x
some_or d None = d

pub some_some : {X : Type 0} {x y : X} → ◌≡◌ {A = Option X} (Some x) (Some y) → x ≡ y
some_some {X} {x} h = ap (some_or x) h

pub false_true : {P : Type 0} → false ≡ true → P
false_true h = absurd (false≢true h)

-- a granted result passes its tests, and what comes after them is granted
pub passed : {X : Type 0} (test : Bool) (refusal : Refusal) (next : Result X Refusal) (x : X) → provided test refusal next ≡ Ok x → test ≡ true
passed true refusal next x h = refl
passed false refusal next x h = err_ok h

pub granted : {X : Type 0} (test : Bool) (refusal : Refusal) (next : Result X Refusal) (x : X) → provided test refusal next ≡ Ok x → next ≡ Ok x
granted true refusal next x h = h
granted false refusal next x h = err_ok h

pub provided_true : {X : Type 0} (test : Bool) (refusal : Refusal) (next : Result X Refusal) → test ≡ true → provided test refusal next ≡ next
provided_true true refusal next h = refl
provided_true false refusal next h = false_true h

pub provided_false : {X : Type 0} (test : Bool) (refusal : Refusal) (next : Result X Refusal) → test ≡ false → provided test refusal next ≡ Err refusal
provided_false true refusal next h = false_true (sym h)
provided_false false refusal next h = refl

-- a test fails where what it decides does not hold
pub test_fails : {P : Type 0} (test : Bool) → Decides test P → (P → ⊥) → test ≡ false
test_fails true d n = absurd (n (d.0 refl))
test_fails false d n = refl

-- the parts of a granted result
pub then_first : {X Y : Type 0} (r : Result X Refusal) (next : X → Result Y Refusal) (y : Y) → then r next ≡ Ok y → (x : X) × (r ≡ Ok x) × (next x ≡ Ok y)
then_first (Ok x) next y h = (x, refl, h)
then_first (Err e) next y h = err_ok h

-- the first of two options that is there
pub or_either : {X P : Type 0} (a b : Option X) (x : X) → option_or a b ≡ Some x → (a ≡ Some x → P) → (b ≡ Some x → P) → P
or_either None b x h f g = g h
or_either (Some a) b x h f g = f h

pub or_none : {X : Type 0} (a b : Option X) → option_or a b ≡ None → (a ≡ None) × (b ≡ None)
or_none None b h = (refl, h)
or_none (Some x) b h = none_some (sym h)
