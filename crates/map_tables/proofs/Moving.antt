-- The pairs that are due once the records have moved forward: each pair with its slot's new place.
use Rattle.std.proofs.Common.{◌≡◌, ℕ, suc, ◌+◌, ◌≤◌, List, [], ◌∷◌, ◌++◌, map, length, get_or, drop, sym, refl, ap, ◌∙◌, append_assoc, arith}
use Rattle.std.proofs.lemmas.List.{get_or_at, length_push}
use Rattle.std.proofs.lemmas.Bool.{eq-eqb, ne_eqb}
use Rattle.base.specs.Counting.{sentinel, times}
use Rattle.base.proofs.Counts.{times_map}
use Rattle.hash_table.specs.declared.HashTable as table
use Rattle.hash_table.specs.Pairs.{homeless, moved, remapping}
use Rattle.item_set.specs.declared.slot.ItemSlot.{ItemSlot}
use Rattle.item_set.specs.declared.slot.ItemSlot.TheVariants.{Occupied, Vacant}
use Rattle.item_set.specs.Chains.{Linked}
use Rattle.item_set.specs.Compacting.{noted}
use Rattle.item_set.specs.States.{State, closed, moves, packed}
use Rattle.map_tables.specs.Due.{due, Indexed}

module _ {R : Type 0} (hash : R → ℕ) where
  -- `pre` is where the slots before went, and `post` what the list has after these
  shifted : (n : ℕ) (pre : List ℕ) (v : ℕ) (xs : List (ItemSlot R)) (post : List ℕ) → ((pre ++ v ∷ []) ++ moves n xs) ++ post ≡ (pre ++ v ∷ moves n xs) ++ post
  shifted n pre v xs post = ap (λ (zs : List ℕ). zs ++ post) (append_assoc pre (v ∷ []) (moves n xs))

  longer : (pre : List ℕ) (v : ℕ) → length (pre ++ v ∷ []) ≡ suc (length pre)
  longer pre v = length_push pre v ∙ omega arith

  here : (pre : List ℕ) (v : ℕ) (rest post : List ℕ) → get_or ((pre ++ v ∷ rest) ++ post) (length pre) sentinel ≡ v
  here pre v rest post = ap (λ (zs : List ℕ). get_or zs (length pre) sentinel) (append_assoc pre (v ∷ rest) post) ∙ get_or_at pre v (rest ++ post) sentinel (length pre) refl

  pub due_closed : (n : ℕ) (pre : List ℕ) (xs : List (ItemSlot R)) (post : List ℕ) → due hash n (closed xs) ≡ map (moved ((pre ++ moves n xs) ++ post)) (due hash (length pre) xs)
  due_closed n pre [] post = refl
  due_closed n pre (Occupied r ∷ xs) post =
      let ih : due hash (suc n) (closed xs) ≡ map (moved ((pre ++ n ∷ moves (suc n) xs) ++ post)) (due hash (suc (length pre)) xs) =
      rw (shifted (suc n) pre n xs post, longer pre n) at (due_closed (suc n) (pre ++ n ∷ []) xs post) in
      rw (here pre n (moves (suc n) xs) post, ih) refl
  due_closed n pre (Vacant m ∷ xs) post = rw (shifted n pre sentinel xs post, longer pre sentinel) at (due_closed n (pre ++ sentinel ∷ []) xs post)

  -- every one of them has a new place
  pub due_placed : (n : ℕ) (pre : List ℕ) (xs : List (ItemSlot R)) (post : List ℕ) → n + length xs ≤ 4096 → times (homeless ((pre ++ moves n xs) ++ post)) (due hash (length pre) xs) ≡ 0
  due_placed n pre [] post l = refl
  due_placed n pre (Occupied r ∷ xs) post l =
      let ih : times (homeless ((pre ++ n ∷ moves (suc n) xs) ++ post)) (due hash (suc (length pre)) xs) ≡ 0 =
      rw (shifted (suc n) pre n xs post, longer pre n) at (due_placed (suc n) (pre ++ n ∷ []) xs post (omega arith)) in
      rw (here pre n (moves (suc n) xs) post, ne_eqb n sentinel (λ e. omega arith)) (omega arith)
  due_placed n pre (Vacant m ∷ xs) post l = rw (shifted n pre sentinel xs post, longer pre sentinel) at (due_placed n (pre ++ sentinel ∷ []) xs post (omega arith))

module _ {R A : Type 0} (a : table.Ghosts A) (hash : R → ℕ) where
  -- a table that was moved along is the table of the compacted slots
  pub indexed_packed : (s : State R) (t t' : A) (ws : List ℕ) (n : ℕ) → Linked s → Indexed a hash s t → a.room t' ≡ a.room t → ◌≡◌ {A = ℕ × List (ℕ × ℕ)} (n, a.pairs t') (remapping (noted s ws) (a.pairs t)) → Indexed a hash (packed s) t'
  indexed_packed s t t' ws n k x er e =
      let places : List ℕ = noted s ws in
      let z : times (homeless places) (a.pairs t) ≡ 0 = x.pairs (homeless places) ∙ due_placed hash 0 [] s.slots (drop (length s.slots) ws) (omega (arith, k.within, k.small)) in
      let e' = rw (eq-eqb (times (homeless places) (a.pairs t)) 0 z) at e in
      let f : a.pairs t' ≡ map (moved places) (a.pairs t) = ap (λ p. p.1) e' in
      record {
        pairs = λ q.
            ap (times q) f ∙ times_map q (moved places) (a.pairs t) ∙ x.pairs (λ p. q (moved places p)) ∙ sym (times_map q (moved places) (due hash 0 s.slots))
            ∙ sym (ap (times q) (due_closed hash 0 [] s.slots (drop (length s.slots) ws)));
        room = omega (arith, x.room);
      }
