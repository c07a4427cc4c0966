-- Equality by tests: what the derived comparisons answer is whether the entries are the same.
use Rattle.std.proofs.Common.{◌≡◌, ℕ, Bool, cond, ◌&&◌, eqb, Decides, List, Result, Ok, Err, vec_items, refl, ap, sym, ◌∙◌}
use Rattle.std.proofs.lemmas.Bool.Decides.{Decides-eqb, Decides-and, Decides-like}
use Rattle.std.proofs.lemmas.Slice.Eq.{slice_eq-Decides, bytes_eq-Decides}
use Rattle.std.specs.Cmp.Lexicographic.{pointwise}
use Rattle.std.specs.Result.{result_eq}
use Rattle.std.specs.Str.{bytes_eq}
use denote.Enum.Bare.{sameb, same_true, true_same}
use Rattle.model.specs.Answers.{Answer}
use Rattle.traces.specs.Runs.{Entry}
use Rattle.worked_cases.specs.Pairs.{pair}
use Rattle.worked_cases.specs.declared.Pair.{Pair}
use Rattle.agree.specs.Likeness.{same_pair}
use Rattle.agree.specs.Tellings.{number_of, given_answer, told_entry}
use Rattle.agree.specs.contracts.telling.Refusal.{the_type}
use Rattle.agree.specs.declared.telling.Given.{Given}
use Rattle.agree.specs.declared.telling.Refusal.{Refusal}
use Rattle.agree.specs.declared.telling.Refusal.TheVariants.{SharedKey, Full, NotThere, ScratchShort}
use Rattle.agree.specs.declared.telling.Told.{Told}

pub pair_decides : (a b : Pair) → Decides (same_pair a b) (a ≡ b)
pair_decides a b =
    Decides-like (same_pair a b) (λ h. ap (λ n. pair n a.second) h.0 ∙ ap (λ n. pair b.first n) h.1) (λ h. (ap (λ (x : Pair). x.first) h, ap (λ (x : Pair). x.second) h))
    (Decides-and _ _ (Decides-eqb a.first b.first) (Decides-eqb a.second b.second))

abbrev given : ℕ → ℕ → Given
given i n = record { slot = i; count = n }

abbrev same_parts : Given → Given → Bool
same_parts a b = eqb a.slot b.slot && eqb a.count b.count

parts_decide : (a b : Given) → Decides (same_parts a b) (a ≡ b)
parts_decide a b =
    Decides-like (same_parts a b) (λ h. ap (λ n. given n a.count) h.0 ∙ ap (λ n. given b.slot n) h.1) (λ h. (ap (λ (x : Given). x.slot) h, ap (λ (x : Given). x.count) h))
    (Decides-and _ _ (Decides-eqb a.slot b.slot) (Decides-eqb a.count b.count))

abbrev pub same_refusal : Refusal → Refusal → Bool
same_refusal d e = sameb the_type d e

abbrev same_given : Result Given Refusal → Result Given Refusal → Bool
same_given = result_eq same_parts same_refusal

given_decides : (a b : Result Given Refusal) → Decides (same_given a b) (a ≡ b)
given_decides (Ok a) (Ok b) = Decides-like (same_parts a b) (λ h. ap Ok h) (λ h. cc) (parts_decide a b)
given_decides (Ok a) (Err e) = (λ h. cc, λ h. cc)
given_decides (Err d) (Ok b) = (λ h. cc, λ h. cc)
given_decides (Err d) (Err e) = (λ h. ap Err (same_true the_type tt d e h), λ h. true_same the_type d e cc)

-- a number tells the refusal
abbrev pub refusal_from : ℕ → Refusal
refusal_from n = cond (eqb n 1) SharedKey (cond (eqb n 2) Full (cond (eqb n 3) NotThere ScratchShort))

pub refusal_back : (e : Refusal) → refusal_from (number_of e) ≡ e
refusal_back SharedKey = refl
refusal_back Full = refl
refusal_back NotThere = refl
refusal_back ScratchShort = refl

-- and so an answer of the model tells what was given, or why it was refused
abbrev given_from : Answer Pair → Result Given Refusal
given_from a = cond (eqb a.refusal 0) (Ok (given a.slot a.count)) (Err (refusal_from a.refusal))

given_back : (g : Result Given Refusal) (rs : List Pair) → given_from (given_answer g rs) ≡ g
given_back (Ok g) rs = refl
given_back (Err SharedKey) rs = refl
given_back (Err Full) rs = refl
given_back (Err NotThere) rs = refl
given_back (Err ScratchShort) rs = refl

records_back : (g : Result Given Refusal) (rs : List Pair) → (given_answer g rs).records ≡ rs
records_back (Ok g) rs = refl
records_back (Err e) rs = refl

-- as the derived comparison of what was told goes through its fields
abbrev pub same_told : Told → Told → Bool
same_told a b =
    (same_given a.answer.given b.answer.given && pointwise same_pair (vec_items a.answer.records) (vec_items b.answer.records))
    && (bytes_eq (vec_items a.scratch) (vec_items b.scratch) && pointwise same_pair (vec_items a.standing) (vec_items b.standing))

module _ (a b : Told) where
  same_fields : Type 0
  same_fields =
      ((a.answer.given ≡ b.answer.given) × (vec_items a.answer.records ≡ vec_items b.answer.records))
      × ((vec_items a.scratch ≡ vec_items b.scratch) × (vec_items a.standing ≡ vec_items b.standing))

  fields_entry : same_fields → told_entry a ≡ told_entry b
  unfolding same_fields
  fields_entry h =
      let given = h.0.0 in let records = h.0.1 in
      let scratches = h.1.0 in let standing = h.1.1 in
      cc

  entry_fields : told_entry a ≡ told_entry b → same_fields
  unfolding same_fields
  entry_fields h = (
    (
      sym (given_back a.answer.given (vec_items a.answer.records)) ∙ (ap (λ (e : Entry Pair). given_from e.answer) h ∙ given_back b.answer.given (vec_items b.answer.records)),
      sym (records_back a.answer.given (vec_items a.answer.records)) ∙ (ap (λ (e : Entry Pair). e.answer.records) h ∙ records_back b.answer.given (vec_items b.answer.records)),
    ),
    (ap (λ (e : Entry Pair). e.scratch) h, ap (λ (e : Entry Pair). e.standing) h),
  )

  fields_decide : Decides (same_told a b) same_fields
  unfolding same_fields
  fields_decide =
      Decides-and _ _
      (Decides-and _ _ (given_decides a.answer.given b.answer.given)
      (slice_eq-Decides pair_decides (vec_items a.answer.records) (vec_items b.answer.records) _ refl))
      (Decides-and _ _ (bytes_eq-Decides (vec_items a.scratch) (vec_items b.scratch))
      (slice_eq-Decides pair_decides (vec_items a.standing) (vec_items b.standing) _ refl))

  pub told_decides : Decides (same_told a b) (told_entry a ≡ told_entry b)
  told_decides = Decides-like (same_told a b) fields_entry entry_fields fields_decide
