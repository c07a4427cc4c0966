-- Whether two entries are alike by the law, by tests.
use Rattle.std.proofs.Common.{◌≡◌, Bool, ◌&&◌, eqb, Decides, List, Result, Ok, Err, length, vec_items, refl, ap, sym, ◌∙◌, arith}
use Rattle.std.proofs.lemmas.Bool.Decides.{Decides-eqb, Decides-and, Decides-like}
use Rattle.std.specs.Result.{result_eq}
use denote.Enum.Bare.{same_true, true_same}
use Rattle.base.proofs.Counts.{times_map}
use Rattle.base.specs.Counting.{Same}
use Rattle.traces.specs.Laws.{Alike, SameInside, over, inside}
use Rattle.worked_cases.specs.declared.Pair.{Pair}
use Rattle.agree.specs.Likeness.{same_pair, same_pairs, count_or_refusal, overs, crossed_entry}
use Rattle.agree.specs.Tellings.{number_of, given_answer, told_entry}
use Rattle.agree.specs.contracts.telling.Refusal.{the_type}
use Rattle.agree.specs.declared.telling.Given.{Given}
use Rattle.agree.specs.declared.telling.Refusal.{Refusal}
use Rattle.agree.specs.declared.telling.Refusal.TheVariants.{SharedKey, Full, NotThere, ScratchShort}
use Rattle.agree.specs.declared.telling.Told.{Told}
use Rattle.agree.proofs.Counted.{same_decides}
use Rattle.agree.proofs.Equality.{pair_decides, same_refusal, refusal_from, refusal_back}

-- crossing the records of a list changes no count of what is inside
same_inside : (xs ys : List Pair) → Same xs ys → SameInside xs (overs ys)
same_inside xs ys h q = h q ∙ sym (times_map (inside q) over ys)

inside_same : (xs ys : List Pair) → SameInside xs (overs ys) → Same xs ys
inside_same xs ys h q = h q ∙ times_map (inside q) over ys

lists_decide : (xs ys : List Pair) → Decides (same_pairs xs ys) (SameInside xs (overs ys))
lists_decide xs ys = Decides-like (same_pairs xs ys) (same_inside xs ys) (inside_same xs ys) (same_decides same_pair pair_decides xs ys)

-- as the derived comparison goes
abbrev pub alike_given : Result Given Refusal → Result Given Refusal → Bool
alike_given g h = result_eq eqb same_refusal (count_or_refusal g) (count_or_refusal h)

-- refused alike, or with the same count: a refusal has none, and its number is not 0
given_decides : (g h : Result Given Refusal) (rs ss : List Pair) → Decides (alike_given g h) (((given_answer g rs).refusal ≡ (given_answer h ss).refusal) × ((given_answer g rs).count ≡ (given_answer h ss).count))
given_decides (Ok a) (Ok b) rs ss = Decides-like (eqb a.count b.count) (λ e. (refl, e)) (λ e. e.1) (Decides-eqb a.count b.count)
given_decides (Ok a) (Err SharedKey) rs ss = (λ e. cc, λ e. absurd (omega (arith, e.0)))
given_decides (Ok a) (Err Full) rs ss = (λ e. cc, λ e. absurd (omega (arith, e.0)))
given_decides (Ok a) (Err NotThere) rs ss = (λ e. cc, λ e. absurd (omega (arith, e.0)))
given_decides (Ok a) (Err ScratchShort) rs ss = (λ e. cc, λ e. absurd (omega (arith, e.0)))
given_decides (Err SharedKey) (Ok b) rs ss = (λ e. cc, λ e. absurd (omega (arith, e.0)))
given_decides (Err Full) (Ok b) rs ss = (λ e. cc, λ e. absurd (omega (arith, e.0)))
given_decides (Err NotThere) (Ok b) rs ss = (λ e. cc, λ e. absurd (omega (arith, e.0)))
given_decides (Err ScratchShort) (Ok b) rs ss = (λ e. cc, λ e. absurd (omega (arith, e.0)))
given_decides (Err d) (Err e) rs ss = (
  λ h. (ap number_of (same_true the_type tt d e h), refl),
  λ p. true_same the_type d e (sym (refusal_back d) ∙ (ap refusal_from p.0 ∙ refusal_back e)),
)

-- the tests in the order in which the program makes them
abbrev pub alike_test : Told → Told → Bool
alike_test a b =
    alike_given a.answer.given b.answer.given && (same_pairs (vec_items a.answer.records) (vec_items b.answer.records) && (eqb (length (vec_items a.scratch)) (length (vec_items b.scratch)) && same_pairs (vec_items a.standing) (vec_items b.standing)))

records_decide : (g h : Result Given Refusal) (rs ss : List Pair) → Decides (same_pairs rs ss) (SameInside (given_answer g rs).records (overs (given_answer h ss).records))
records_decide (Ok a) (Ok b) rs ss = lists_decide rs ss
records_decide (Ok a) (Err e) rs ss = lists_decide rs ss
records_decide (Err d) (Ok b) rs ss = lists_decide rs ss
records_decide (Err d) (Err e) rs ss = lists_decide rs ss

pub alike_decides : (a b : Told) → Decides (alike_test a b) (Alike (told_entry a) (crossed_entry (told_entry b)))
alike_decides a b =
    Decides-like (alike_test a b)
    (λ h. record { refusals = h.0.0; counts = h.0.1; records = h.1.0; scratches = h.1.1.0; standing = h.1.1.1 })
    (λ h. ((h.refusals, h.counts), (h.records, (h.scratches, h.standing))))
    (Decides-and _ _ (given_decides a.answer.given b.answer.given (vec_items a.answer.records) (vec_items b.answer.records))
    (Decides-and _ _ (records_decide a.answer.given b.answer.given (vec_items a.answer.records) (vec_items b.answer.records))
    (Decides-and _ _ (Decides-eqb (length (vec_items a.scratch)) (length (vec_items b.scratch)))
    (lists_decide (vec_items a.standing) (vec_items b.standing)))))
