-- What `parse` says of a word is what the test of a number says.
use Rattle.std.proofs.Common.{◌≡◌, ℕ, ◌<◌, ◌^◌, Bool, true, cond, Decides, List, length, Option, Some, None, Result, Ok, Err, is_ok, refl, ap, ◌∙◌}
use Rattle.std.proofs.lemmas.Bool.Decides.{Decides-and, Decides-ltb, same_from_decides}
use Rattle.std.proofs.lemmas.Result.{OkIff-decides}
use Rattle.std.proofs.lemmas.Str.Parse.{IsNumeralModel, numerals_by_value, tells_all_ascii_digits}
use Rattle.std.specs.Str.{all_ascii_digits}
use Rattle.std.specs.Str.Parse.{IsNumeral, ParsesUnsigned, digits_value}
use Rattle.agree.specs.Reading.{digits, is_number, number}

own : IsNumeralModel (λ ds. all_ascii_digits ds ≡ true) (digits_value 10)
own = numerals_by_value _ tells_all_ascii_digits

abbrev Fits : ℕ → List ℕ → Type 0
Fits bits word = IsNumeral 10 (digits word) × (digits_value 10 (digits word) < 2 ^ bits)

is_number_decides : (bits : ℕ) (word : List ℕ) → Decides (is_number bits word) (Fits bits word)
is_number_decides bits word =
    Decides-and _ _
    (Decides-and _ _ (Decides-ltb 0 (length (digits word))) (own.to (digits word), own.from (digits word)))
    (Decides-ltb (digits_value 10 (digits word)) (2 ^ bits))

abbrev pub ok_of : {E : Type 0} → Result ℕ E → Option ℕ
ok_of (Ok n) = Some n
ok_of (Err e) = None

gives : {E : Type 0} (bits : ℕ) (word : List ℕ) (r : Result ℕ E) → ParsesUnsigned bits 10 word r → ok_of r ≡ cond (is_ok r) (Some (digits_value 10 (digits word))) None
gives bits word (Ok n) h = ap Some h.1
gives bits word (Err e) h = refl

pub parsed_number : {E : Type 0} (bits : ℕ) (word : List ℕ) (r : Result ℕ E) → ParsesUnsigned bits 10 word r → ok_of r ≡ number bits word
parsed_number bits word r h =
    let value = digits_value 10 (digits word) in
    let tested : is_ok r ≡ is_number bits word =
    same_from_decides (is_ok r) (is_number bits word) (OkIff-decides r (Fits bits word) value h) (is_number_decides bits word)
    in
    gives bits word r h ∙ ap (λ (b : Bool). cond b (Some value) None) tested
