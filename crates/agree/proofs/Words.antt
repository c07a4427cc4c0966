-- A line ends in words: whatever was taken off its front, the calls that are left give some words and then none. So a few words say
-- what a line says, and the others need not be looked at.
use Rattle.std.proofs.Common.{◌≡◌, ℕ, zero, suc, ◌<◌, ◌≤◌, Bool, true, false, cond, List, [], ◌∷◌, ◌++◌, length, Option, Some, None, Result, Ok, Err, refl, sym, ap, ◌∙◌, subst, append_assoc, arith}
use Rattle.std.proofs.lemmas.Bool.{and_parts, not-true}
use Rattle.std.proofs.lemmas.List.{append-nil, length-append}
use Rattle.std.proofs.lemmas.Str.{encodes-append, IsUtf8-past_char, length-encode, len_utf8_bounds}
use Rattle.std.proofs.Math.Utf8.{scalar, scalars, encode, encodes}
use Rattle.std.specs.Prelude.{⊤, ◌==◌, slice_index}
use Rattle.std.specs.Borrow.{Bor}
use Rattle.std.specs.Char.{is_whitespace, is_not_whitespace}
use Rattle.std.specs.Str.{IsUtf8, NonePass, EmptyOrStartsWithPassing}
use Rattle.std.specs.Iterator.{DrainsIf}
use Rattle.std.specs.Str.Iter.{split_whitespace_rest, split_whitespace_steps}
use Rattle.std.specs.declared.str.SplitWhitespace.{SplitWhitespace}
use Rattle.agree.specs.declared.reading.Line.{Line}
use Rattle.agree.specs.declared.reading.ReadError.{ReadError}
use Rattle.agree.specs.declared.reading.ReadError.TheVariants as error
use Rattle.agree.specs.Reading.{Words, blank, texts, hash, is_remark, named, behind, or_expected, read_words, IsWordsOf, Reads, ReadsLine}

abbrev Starts : (ℕ → Bool) → List ℕ → Type 0
Starts p [] = ⊤
Starts p (c ∷ cs) = p c ≡ true

-- characters up to the first that passes a test
record Cut (p : ℕ → Bool) (cs : List ℕ) : Type 0 where
  front : List ℕ
  rest : List ℕ
  is : cs ≡ front ++ rest
  none : NonePass p front
  starts : Starts p rest
  scalar : scalars rest ≡ true

cut : (p : ℕ → Bool) (cs : List ℕ) → scalars cs ≡ true → Cut p cs
cut p [] u = record { front = []; rest = []; is = refl; none = tt; starts = tt; scalar = refl }
cut p (c ∷ cs) u = by (cut p cs (and_parts (scalar c) (scalars cs) u).1) (p c) refl
  where
    by : Cut p cs → (b : Bool) → p c ≡ b → Cut p (c ∷ cs)
    by k true e = record { front = []; rest = c ∷ cs; is = refl; none = tt; starts = e; scalar = u }
    by k false e =
        record { front = c ∷ k.front; rest = k.rest; is = ap (λ l. c ∷ l) k.is; none = (e, k.none); starts = k.starts; scalar = k.scalar }

begins : (cs : List ℕ) → scalars cs ≡ true → Starts is_whitespace cs → (more : List ℕ) × EmptyOrStartsWithPassing is_whitespace (encodes cs) more
begins [] u s = ([], λ l. absurd (omega (arith, l)))
begins (c ∷ cs) u s = (encodes cs, λ l. (c, s, refl, (and_parts (scalar c) (scalars cs) u).0))

abbrev Drained : SplitWhitespace → Type 0
Drained s = (ws : Words) × DrainsIf split_whitespace_steps ⊤ s ws

-- white space alone
no_word : (gap : List ℕ) (s : SplitWhitespace) → NonePass is_not_whitespace gap → encodes gap ≡ split_whitespace_rest s → Drained s
no_word gap s none e = ([], (s, refl, λ _. (s, (refl, (gap, e, none)))))

drained : (n : ℕ) (cs : List ℕ) (s : SplitWhitespace) → length cs ≤ n → scalars cs ≡ true → encodes cs ≡ split_whitespace_rest s → Drained s
drained zero [] s l u e = no_word [] s tt e
drained zero (c ∷ cs) s l u e = absurd (omega (arith, l))
drained (suc m) cs s l u e = let g = cut is_not_whitespace cs u in by (drained m) g.front g.rest g.is g.none g.starts g.scalar
  where
    by : ((ds : List ℕ) (t : SplitWhitespace) → length ds ≤ m → scalars ds ≡ true → encodes ds ≡ split_whitespace_rest t → Drained t) → (gap rest : List ℕ) → cs ≡ gap ++ rest → NonePass is_not_whitespace gap → Starts is_not_whitespace rest → scalars rest ≡ true → Drained s
    by again gap [] is none starts v = no_word gap s none (ap encodes (sym (is ∙ append-nil gap)) ∙ e)
    by again gap (c ∷ tail) is none starts v =
        let k = cut is_whitespace tail (and_parts (scalar c) (scalars tail) v).1 in
        let x : Bor (List ℕ) = record { ref_ptr = s.rest.ref_ptr; now = encodes (c ∷ k.front) } in
        let t : SplitWhitespace = record { rest = record { ref_ptr = s.rest.ref_ptr; now = encodes k.rest } } in
        let whole : cs ≡ gap ++ ((c ∷ k.front) ++ k.rest) = is ∙ ap (λ v. gap ++ (c ∷ v)) k.is in
        let text : split_whitespace_rest s ≡ encodes gap ++ (encodes (c ∷ k.front) ++ encodes k.rest) =
        sym e ∙ ap encodes whole ∙ encodes-append gap ((c ∷ k.front) ++ k.rest) ∙ ap (λ v. encodes gap ++ v) (encodes-append (c ∷ k.front) k.rest) in
        let some : 0 < length x.now = omega (arith, length-append (encode c) (encodes k.front), length-encode c, (len_utf8_bounds c).0) in
        let shorter : length k.rest ≤ m = omega (arith, l, ap length whole, length-append gap ((c ∷ k.front) ++ k.rest), length-append (c ∷ k.front) k.rest) in
        let more = again k.rest t shorter k.scalar refl in
        (x ∷ more.0, (more.1.0, (t, (encodes gap, text, some, (gap, refl, none), (c ∷ k.front, refl, (not-true (is_whitespace c) starts, k.none)), begins k.rest k.scalar k.starts), more.1.1), more.1.2))

-- what a word leaves is a text again
past : (gs rest bs : List ℕ) → IsUtf8 bs → bs ≡ encodes gs ++ rest → IsUtf8 rest
past [] rest bs u e = subst IsUtf8 e u
past (g ∷ gs) rest bs u e = past gs rest (encodes gs ++ rest) (IsUtf8-past_char bs (encodes gs ++ rest) g u (e ∙ append_assoc (encode g) (encodes gs) rest)) refl

left : (s t : SplitWhitespace) (x : Bor (List ℕ)) → split_whitespace_steps s (Some x) t → IsUtf8 (split_whitespace_rest s) → IsUtf8 (split_whitespace_rest t)
left s t x h u =
    let gs = h.3 in
    let xs = h.4 in
    past xs.0 (split_whitespace_rest t) (x.now ++ split_whitespace_rest t) (past gs.0 (x.now ++ split_whitespace_rest t) (split_whitespace_rest s) u (h.1 ∙ ap (λ v. v ++ (x.now ++ split_whitespace_rest t)) (sym gs.1))) (ap (λ v. v ++ split_whitespace_rest t) (sym xs.1))

others : (s : SplitWhitespace) → IsUtf8 (split_whitespace_rest s) → Drained s
others s u = drained (length u.0) u.0 s (omega arith) u.1.0 u.1.1

-- three calls behind a name tell what the line says
three : (name : List ℕ) (s t u v : SplitWhitespace) (a b c : Option (Bor (List ℕ))) → split_whitespace_steps s a t → split_whitespace_steps t b u → split_whitespace_steps u c v → IsUtf8 (split_whitespace_rest s)
    → (ws : Words) × DrainsIf split_whitespace_steps ⊤ s ws × (named name (texts ws) ≡ named name (behind a b c))
three name s t u v None b c p q r w = ([], (s, refl, λ _. (t, p)), refl)
three name s t u v (Some x) None c p q r w = (x ∷ [], (t, (t, p, refl), λ _. (u, q)), refl)
three name s t u v (Some x) (Some y) None p q r w = (x ∷ y ∷ [], (u, (t, p, (u, q, refl)), λ _. (v, r)), refl)
three name s t u v (Some x) (Some y) (Some z) p q r w =
    let more = others v (left u v z r (left t u y q (left s t x p w))) in
    (x ∷ y ∷ z ∷ more.0, (more.1.0, (t, p, (u, q, (v, r, more.1.1))), more.1.2), refl)

-- `starts_with('#')` looks at the first byte
pub remark_byte : (word : List ℕ) → is_remark word ≡ (slice_index word 0 == hash)
remark_byte [] = refl
remark_byte (c ∷ cs) = refl

-- what is read of a line whose first word begins a remark
pub remark : (text : List ℕ) (s t : SplitWhitespace) (name : Bor (List ℕ)) → split_whitespace_rest s ≡ text → IsUtf8 text → split_whitespace_steps s (Some name) t → is_remark name.now ≡ true
    → (ws : Words) × IsWordsOf text ws × (Ok blank ≡ read_words (texts ws))
remark text s t name e u p h =
    let more = others t (left s t name p (subst IsUtf8 (sym e) u)) in
    (name ∷ more.0, (s, e, (more.1.0, (t, p, more.1.1), more.1.2)), ap (λ b. cond b (Ok blank) (or_expected name.now (named name.now (texts more.0)))) (sym h))

-- and of any other line
pub line : (text : List ℕ) (r : Result Line ReadError) (s t u v w : SplitWhitespace) (name : Bor (List ℕ)) (a b c : Option (Bor (List ℕ))) → split_whitespace_rest s ≡ text → IsUtf8 text
    → split_whitespace_steps s (Some name) t → split_whitespace_steps t a u → split_whitespace_steps u b v → split_whitespace_steps v c w → is_remark name.now ≡ false
    → Reads r (or_expected name.now (named name.now (behind a b c))) → ReadsLine text r
line text r s t u v w name a b c e k p q q' q'' h reads =
    let more = three name.now t u v w a b c q q' q'' (left s t name p (subst IsUtf8 (sym e) k)) in
    let said : or_expected name.now (named name.now (behind a b c)) ≡ read_words (texts (name ∷ more.0)) =
    ap (λ o. or_expected name.now o) (sym more.2) ∙ ap (λ b. cond b (Ok blank) (or_expected name.now (named name.now (texts more.0)))) (sym h) in
    told text r (name ∷ more.0) (s, e, (more.1.0, (t, p, more.1.1), more.1.2)) (subst (Reads r) said reads)
  where
    told : (text : List ℕ) (r : Result Line ReadError) (ws : Words) → IsWordsOf text ws → Reads r (read_words (texts ws)) → ReadsLine text r
    told text (Ok l) ws i k = (ws, i, k)
    told text (Err (error.Expected f)) ws i k = (ws, i, k)
    told text (Err (error.OutOfMemory o)) ws i k = tt
