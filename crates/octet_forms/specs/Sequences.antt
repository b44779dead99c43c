-- Octets that begin with a value, and octets that spell a list. `Spells value octets` says that the octets
-- encode the value.
use Rattle.std.specs.Prelude.{◌≡◌, ℕ, List, [], ◌∷◌, ◌++◌}

-- the octets are a spelling of the value, and then `rest`
pub record Begins {A : Type 0} (Spells : A → List ℕ → Type 0) (value : A) (rest octets : List ℕ) : Type 0 where
  pub front : List ℕ
  pub spelled : Spells value front
  pub whole : octets ≡ front ++ rest

-- the octets are spellings of the values, in order and with nothing between them; of no values, no octets
abbrev pub SpellsAll : {A : Type 0} → (A → List ℕ → Type 0) → List A → List ℕ → Type 0
SpellsAll Spells [] octets = octets ≡ []
SpellsAll Spells (value ∷ values) octets = (rest : List ℕ) × Begins Spells value rest octets × SpellsAll Spells values rest
