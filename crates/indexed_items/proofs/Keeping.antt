-- Each step keeps the records and the tables sound.
use Rattle.std.proofs.Common.{◌≡◌, ℕ, List, Ok, Err, Result, Some, None, Option, get_or, sym, ap, subst, MatchResult}
use Rattle.std.specs.Result.{result_ok}
use Rattle.base.proofs.Options.{none_some}
use Rattle.hash_table.specs.declared.HashTable as table
use Rattle.hash_table.specs.Pairs.{adding, removing as removing_pair}
use Rattle.hashing.specs.declared.WordHash as hasher
use Rattle.item.specs.declared.BiHashItem as item
use Rattle.item.specs.declared.Key as key
use Rattle.item.specs.Kinds.{kind_of}
use Rattle.item_set.specs.Slots.{at, held}
use Rattle.item_set.specs.States.{State, growing, freeing, removing}
use Rattle.item_set.proofs.Granting.{growing_some}
use Rattle.item_set.proofs.Holding.{occupied, occupied_within}
use Rattle.map_tables.specs.declared.BiHashMapTables.{BiHashMapTables}
use Rattle.map_tables.specs.Due.{key_hash, Indexed}
use Rattle.map_tables.proofs.Indexing.{never_full, never_missing}
use Rattle.memory.specs.declared.StorageRefusal.{StorageRefusal}
use Rattle.memory.specs.Refusals.{number, code}
use Rattle.model.specs.Model.{WellFormed}
use Rattle.indexed_items.specs.Items.{hashes_of, Sound}

module _ {T K1 K2 H : Type 0} (i : item.Ghosts T K1 K2) (k1 : key.Ghosts K1) (k2 : key.Ghosts K2) (h : hasher.Ghosts H) where
  -- sound by the state that the records are in
  pub sound_by : {A B : Type 0} (a : table.Ghosts A) (b : table.Ghosts B) (x s : State T) (t : BiHashMapTables A B H) → x ≡ s → WellFormed (kind_of i k1 k2) s → Indexed a (key_hash h t.state k1 i.first) s t.k1_to_item.items → Indexed b (key_hash h t.state k2 i.second) s t.k2_to_item.items → Sound i k1 k2 a b h x t
  sound_by a b x s t e w first second = record {
    well = subst (WellFormed (kind_of i k1 k2)) (sym e) w;
    first = subst (λ u. Indexed a (key_hash h t.state k1 i.first) u t.k1_to_item.items) (sym e) first;
    second = subst (λ u. Indexed b (key_hash h t.state k2 i.second) u t.k2_to_item.items) (sym e) second;
  }

  -- each of the two hashes
  pub first_hash : (state : H) (r : T) (l : List ℕ) → l ≡ hashes_of i k1 k2 h state r → get_or l 0 0 ≡ key_hash h state k1 i.first r
  first_hash state r l e = ap (λ x. get_or x 0 0) e

  pub second_hash : (state : H) (r : T) (l : List ℕ) → l ≡ hashes_of i k1 k2 h state r → get_or l 1 0 ≡ key_hash h state k2 i.second r
  second_hash state r l e = ap (λ x. get_or x 1 0) e

module _ {R : Type 0} where
  stood : (s t : State R) (x : R) (i : ℕ) (o : Option R) → ◌≡◌ {A = Option R × State R} (Some x, t) (freeing s i o) → o ≡ Some x
  stood s t x i None e = absurd (none_some (sym (ap (λ p. p.0) e)))
  stood s t x i (Some y) e = sym (ap (λ p. p.0) e)

  -- a record that was taken out stood in its slot
  pub removing_some : (s t : State R) (i : ℕ) (x : R) → ◌≡◌ {A = Option R × State R} (Some x, t) (removing s i) → held (at s.slots i) ≡ Some x
  removing_some s t i x e = stood s t x i (held (at s.slots i)) e

-- what a table did where it did not refuse, and that it has no reason to
module _ {U : Type 0} (r : Result U StorageRefusal) where
  pub did : (u : U) (P Q : Type 0) → Some u ≡ result_ok r → MatchResult r (λ _. P) (λ _. Q) → P
  did u P Q e m = go r e m
    where
      go : (r : Result U StorageRefusal) → Some u ≡ result_ok r → MatchResult r (λ _. P) (λ _. Q) → P
      go (Ok v) e m = m
      go (Err f) e m = absurd (none_some (sym e))

  refuses : (n : ℕ) → None ≡ result_ok r → code r ≡ n → ((f : StorageRefusal) → number f ≡ n → ⊥) → ⊥
  refuses n e q never = go r e q
    where
      go : (r : Result U StorageRefusal) → None ≡ result_ok r → code r ≡ n → ⊥
      go (Ok v) e q = none_some e
      go (Err f) e q = never f q

  module _ {R A : Type 0} (a : table.Ghosts A) (hash : R → ℕ) (s t : State R) (before : A) (x : Indexed a hash s before) where
    -- it has room for every record that may stand
    pub not_full : (v : R) (slot : ℕ) → ◌≡◌ {A = Option ℕ × State R} (Some slot, t) (growing s v) → None ≡ result_ok r → code r ≡ adding (a.room before) (a.pairs before) → ⊥
    not_full v slot e none q = refuses _ none q (λ f. never_full a hash s before f x (growing_some s t v slot e).0)

    -- it has the pair of every standing record
    pub not_missing : (v : R) (h slot : ℕ) → ◌≡◌ {A = Option R × State R} (Some v, t) (removing s slot) → h ≡ hash v → None ≡ result_ok r → code r ≡ removing_pair (a.pairs before) h slot → ⊥
    not_missing v h slot e eh none q =
        let o = occupied (at s.slots slot) v (removing_some s t slot v e) in
        refuses _ none q (λ f. never_missing a hash s before v h slot f (occupied_within s.slots slot v o) o x eh)
