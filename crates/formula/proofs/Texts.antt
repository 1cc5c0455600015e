-- Text that is written piece by piece: of `all`, `left` is still to come.
use Rattle.std.proofs.Common.{◌≡◌, ℕ, ◌+◌, ◌<◌, true, List, [], ◌∷◌, ◌++◌, length, get_or, drop, is_ok, Result, sym, refl, ap, ◌∙◌}
use lib.Utf8.{encode}
use Rattle.std.proofs.Output.{has_written_of_eq, has_written_append, writes_in_calls_nil}
use Rattle.std.proofs.lemmas.List.{append_assoc, append-nil, at_drop_more}
use Rattle.std.specs.Fmt.{IsPlainFormatter, WritesOnOk, HasWritten, digits}
use Rattle.std.specs.declared.fmt.Error.{Error}
use Rattle.std.specs.declared.fmt.Formatter.{Formatter}
use Rattle.term.specs.declared.monomial.Monomial.{Monomial}
use Rattle.formula.specs.Formula.{blank}
use Rattle.formula.specs.Text.{TextReadings, monomial_text, rest_text}

pub text_readings : TextReadings
unfolding encode digits
text_readings = record { no_monomial = refl; three_a²_b = refl; one_left_out = refl; one_alone = refl }

pub rest_text_more : (one : ℕ) (f : List Monomial) (i : ℕ) → i < length f → rest_text one (drop i f) ≡ (43 ∷ monomial_text one (get_or f i blank)) ++ rest_text one (drop (i + 1) f)
rest_text_more one f i h = at_drop_more (rest_text one) f i blank h

module _ {W : Type 0} (took : W → List ℕ → W → Type 0) where
  abbrev pub Writing : (entry now : Formatter W) → (left all : List ℕ) → Type 0
  Writing entry now left all = IsPlainFormatter entry → (w : List ℕ) × HasWritten took entry w now × (w ++ left ≡ all)

  pub writing_first : (f : Formatter W) (left all : List ℕ) → left ≡ all → Writing f f left all
  writing_first f left all e plain = ([], record { wrote = writes_in_calls_nil took f.writer; plain = plain }, e)

  pub writing_more : (entry f g : Formatter W) (r : Result (Unit {0}) Error) (piece rest left all : List ℕ) → left ≡ piece ++ rest → WritesOnOk took f r piece g → is_ok r ≡ true → Writing entry f left all → Writing entry g rest all
  writing_more entry f g r piece rest left all split p ok w plain =
      let x = w plain in
      (x.0 ++ piece, has_written_append took entry x.0 f piece g x.1 (p x.1.plain ok), append_assoc x.0 piece rest ∙ ap (λ l. x.0 ++ l) (sym split) ∙ x.2)

  pub writing_all : (entry f : Formatter W) (r : Result (Unit {0}) Error) (left all : List ℕ) → left ≡ [] → Writing entry f left all → WritesOnOk took entry r all f
  writing_all entry f r left all none w plain ok =
      let x = w plain in
      has_written_of_eq took entry x.0 all f (sym (append-nil x.0) ∙ ap (λ l. x.0 ++ l) (sym none) ∙ x.2) x.1
