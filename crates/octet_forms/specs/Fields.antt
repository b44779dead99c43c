-- Octets that spell two values one after the other, and octets that only begin with a spelling.
use Rattle.std.specs.Prelude.{ℕ, List}
use Rattle.octet_forms.specs.Sequences.{Begins}

-- the octets are a spelling of the first value of the pair, by `First`, and then one of the second, by
-- `Second`, a relation that may depend on the first value
pub record SpellsPair {A B : Type 0} (First : A → List ℕ → Type 0) (Second : A → B → List ℕ → Type 0) (values : A × B) (octets : List ℕ) : Type 0 where
  pub rest : List ℕ
  pub first : Begins First values.0 rest octets
  pub second : Second values.0 values.1 rest

-- the octets spell some value, which may be any, by `First`, and then `value` by `Second`, a relation that
-- may depend on the first value
abbrev pub SpellsAfter : {A B : Type 0} → (A → List ℕ → Type 0) → (A → B → List ℕ → Type 0) → B → List ℕ → Type 0
SpellsAfter {A} First Second value octets = (first : A) × SpellsPair First Second (first, value) octets

-- `octets` begin with a spelling of `value` by `Spells`; any octets may follow it, or none
abbrev pub SpellsFront : {A : Type 0} → (A → List ℕ → Type 0) → A → List ℕ → Type 0
SpellsFront Spells value octets = (more : List ℕ) × Begins Spells value more octets
