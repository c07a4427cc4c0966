-- What a search through a table's candidates shows of the slots.
use Rattle.std.proofs.Common.{◌≡◌, ℕ, zero, suc, ◌+◌, ◌<◌, ◌≤◌, Bool, true, false, eqb, ◌⊎◌, List, [], ◌∷◌, length, Some, None, Option, sym, refl, ap, ◌∙◌, inl, inr, arith}
use Rattle.std.specs.List.{slice_get}
use Rattle.std.proofs.lemmas.Bool.{cases_eq, cases_lt, eq-eqb, eqb-true, false≢true, and_from}
use Rattle.base.specs.Counting.{one, times, Same}
use Rattle.base.proofs.Options.{none_some, some_same}
use Rattle.hash_table.specs.Pairs.{slots_of, candidate, is_pair}
use Rattle.item_set.specs.declared.slot.ItemSlot.{ItemSlot}
use Rattle.item_set.specs.declared.slot.ItemSlot.TheVariants.{Occupied, Vacant}
use Rattle.item_set.specs.Slots.{at, held, weigh, tally}
use Rattle.item_set.proofs.Holding.{occupied, occupied_within}
use Rattle.map_tables.specs.Due.{due}
use Rattle.map_tables.proofs.Indexing.{due_there}
use Rattle.model.specs.Model.{find, has}
use Rattle.model.proofs.Finding.{find_is, find_none}

-- a pair that stands in a table is a candidate of its hash
abbrev Candidate : List (ℕ × ℕ) → ℕ → ℕ → Type 0
Candidate ps h s = (j : ℕ) × (j < length ps) × (candidate ps h j ≡ Some s)

candidate_next : (p : ℕ × ℕ) (ps : List (ℕ × ℕ)) (h s : ℕ) (b : Bool) → eqb p.0 h ≡ b → Candidate ps h s → Candidate (p ∷ ps) h s
candidate_next p ps h s true e r = (suc r.0, omega arith, rw e r.2)
candidate_next p ps h s false e r = (r.0, omega arith, rw e r.2)

is_candidate : (h s : ℕ) (ps : List (ℕ × ℕ)) → 1 ≤ times (is_pair h s) ps → Candidate ps h s
is_candidate h s [] e = absurd (omega arith)
is_candidate h s (p ∷ ps) e = go (eqb p.0 h) (eqb p.1 s) refl refl (is_candidate h s ps)
  where
    go : (b c : Bool) → eqb p.0 h ≡ b → eqb p.1 s ≡ c → (1 ≤ times (is_pair h s) ps → Candidate ps h s) → Candidate (p ∷ ps) h s
    go true true eb ec ih = (0, omega arith, rw eb (ap Some (eqb-true p.1 s ec)))
    go true false eb ec ih = let d = rw (eb, ec) at e in candidate_next p ps h s true eb (ih (omega arith))
    go false c eb ec ih = let d = rw eb at e in candidate_next p ps h s false eb (ih (omega arith))

nth_beyond : {X : Type 0} (xs : List X) (n j : ℕ) → slice_get xs n ≡ None → n ≤ j → slice_get xs j ≡ None
nth_beyond [] n j e l = refl
nth_beyond (x ∷ xs) zero j e l = absurd (none_some (sym e))
nth_beyond (x ∷ xs) (suc n) zero e l = absurd (omega arith)
nth_beyond (x ∷ xs) (suc n) (suc j) e l = nth_beyond xs n j e (omega arith)

module _ {R : Type 0} where
  tally_none : (q : R → Bool) (xs : List (ItemSlot R)) → ((i : ℕ) → i < length xs → weigh q (at xs i) ≡ 0) → tally q xs ≡ 0
  tally_none q [] h = refl
  tally_none q (x ∷ xs) h = omega (arith, h 0 (omega arith), tally_none q xs (λ i l. h (suc i) (omega arith)))

  weigh_none : (q : R → Bool) (x : ItemSlot R) → ((r : R) → x ≡ Occupied r → q r ≡ true → ⊥) → weigh q x ≡ 0
  weigh_none q (Occupied r) n = go (q r) refl
    where
      go : (b : Bool) → q r ≡ b → one b ≡ 0
      go true e = absurd (n r refl e)
      go false e = refl
  weigh_none q (Vacant m) n = refl

  -- none of the first n candidates passes the test
  abbrev pub Passed : (R → Bool) → List (ItemSlot R) → List (ℕ × ℕ) → ℕ → ℕ → Type 0
  Passed q xs ps h n = (j s : ℕ) (r : R) → j < n → candidate ps h j ≡ Some s → at xs s ≡ Occupied r → q r ≡ true → ⊥

  -- one candidate more, by what stands in its slot
  pub passed_more : (q : R → Bool) (xs : List (ItemSlot R)) (ps : List (ℕ × ℕ)) (h n s : ℕ) → Passed q xs ps h n → Some s ≡ candidate ps h n → ((r : R) → at xs s ≡ Occupied r → q r ≡ true → ⊥) → Passed q xs ps h (n + 1)
  passed_more q xs ps h n s before here none j t r l e a = go (cases_eq j n)
    where
      go : (j ≡ n) ⊎ (j ≡ n → ⊥) → q r ≡ true → ⊥
      go (inl w) = let u : t ≡ s = some_same (sym e ∙ ap (candidate ps h) w ∙ sym here) in none r (sym (ap (at xs) u) ∙ a)
      go (inr w) = before j t r (omega arith) e a

  -- a slot that was read holds no record, or one that does not pass
  pub empty_fails : (q : R → Bool) (x : ItemSlot R) (got : Option R) → got ≡ held x → got ≡ None → (r : R) → x ≡ Occupied r → q r ≡ true → ⊥
  empty_fails q x got e n r a h = none_some (sym n ∙ e ∙ ap held a)

  pub other_fails : (q : R → Bool) (x : ItemSlot R) (got : Option R) (y : R) (answer : Bool) → got ≡ held x → got ≡ Some y → answer ≡ q y → answer ≡ false → (r : R) → x ≡ Occupied r → q r ≡ true → ⊥
  other_fails q x got y answer e s ea ef r a h =
      let same : y ≡ r = some_same (sym s ∙ e ∙ ap held a) in
      false≢true (sym ef ∙ ea ∙ ap q same ∙ h)

-- the hash of a key, as `code` says, and that equal keys have equal hashes
module _ {R K : Type 0} (key : R → K) (same : K → K → Bool) (hash : K → ℕ) (alike : (a b : K) → same a b ≡ true → hash a ≡ hash b) where
  -- where no candidate has the key, no slot does
  pub found_nowhere : (k : K) (xs : List (ItemSlot R)) (ps : List (ℕ × ℕ)) (h n : ℕ) → Same ps (due (λ r. hash (key r)) 0 xs) → h ≡ hash k → length ps ≤ n → Passed (has key same k) xs ps h n → None ≡ find (has key same k) 0 xs
  found_nowhere k xs ps h n s eh le passed =
      sym (find_none (has key same k) xs (tally_none (has key same k) xs (λ i l. weigh_none (has key same k) (at xs i) (λ r a e.
      let eq : hash (key r) ≡ h = sym (alike k (key r) e) ∙ sym eh in
      let there = due_there (λ x. hash (key x)) (is_pair h i) xs i r l a (and_from (eqb (hash (key r)) h) (eqb i i) (eq-eqb _ _ eq) (eq-eqb i i refl)) in
      let c = is_candidate h i ps (omega (arith, s (is_pair h i))) in
      passed c.0 i r (omega (arith, c.1)) c.2 a e))))

  -- the same where the candidates end
  pub found_no_more : (k : K) (xs : List (ItemSlot R)) (ps : List (ℕ × ℕ)) (h n : ℕ) → Same ps (due (λ r. hash (key r)) 0 xs) → h ≡ hash k → None ≡ candidate ps h n → Passed (has key same k) xs ps h n → None ≡ find (has key same k) 0 xs
  found_no_more k xs ps h n s eh end passed = found_nowhere k xs ps h (n + length ps) s eh (omega arith) (λ j t r b e a. go j t r e a (cases_lt j n))
    where
      go : (j t : ℕ) (r : R) → candidate ps h j ≡ Some t → at xs t ≡ Occupied r → (j < n) ⊎ (n ≤ j) → has key same k r ≡ true → ⊥
      go j t r e a (inl b) = passed j t r b e a
      go j t r e a (inr b) = absurd (none_some (sym (nth_beyond (slots_of h ps) n j (sym end) b) ∙ e))

-- a candidate that has the key is what the model finds
pub found_here : {R : Type 0} (q : R → Bool) (xs : List (ItemSlot R)) (slot : ℕ) (r : R) (got : Option R) (answer : Bool) → got ≡ held (at xs slot) → got ≡ Some r → answer ≡ q r → answer ≡ true → tally q xs ≤ 1 → Some (record { slot = slot; item = r }) ≡ find q 0 xs
found_here q xs slot r got answer e s ea et few =
    let a = occupied (at xs slot) r (sym e ∙ s) in
    sym (find_is q xs slot r (occupied_within xs slot r a) a (sym ea ∙ et) few)
