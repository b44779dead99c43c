-- Private.
-- Octets that begin with no spelling of a value, and spellings from which the value can be told.
use Rattle.std.specs.Prelude.{◌≡◌, ℕ, List, []}
use Rattle.octet_forms.specs.Sequences.{Begins}

-- the octets don't begin with a spelling, by `Spells`, of any value
abbrev pub BeginsWithNone : {A : Type 0} → (A → List ℕ → Type 0) → List ℕ → Type 0
BeginsWithNone {A} Spells octets = (value : A) (rest : List ℕ) → Begins Spells value rest octets → ⊥

-- octets begin with a spelling of at most one value, and with one spelling of it: if they are a spelling of
-- `a` and then `x`, and also a spelling of `b` and then `y`, then `a` is `b`, and `x` is `y`
abbrev pub HasOneFront : {A : Type 0} → (A → List ℕ → Type 0) → Type 0
HasOneFront {A} Spells = (a b : A) (x y octets : List ℕ) → Begins Spells a x octets → Begins Spells b y octets → (a ≡ b) × (x ≡ y)

-- spellings can be told apart in a sequence (a prefix-free code): none is empty, and no octets begin with two
pub record IsSelfDelimiting {A : Type 0} (Spells : A → List ℕ → Type 0) : Type 0 where
  pub some : (a : A) → Spells a [] → ⊥
  pub same : HasOneFront Spells

-- no octets spell two different values by `Spells`; `B` is the type of octets, such as lists of numbers
abbrev pub IsUnambiguous : {A B : Type 0} → (A → B → Type 0) → Type 0
IsUnambiguous {A} {B} Spells = (value other : A) (octets : B) → Spells value octets → Spells other octets → value ≡ other
