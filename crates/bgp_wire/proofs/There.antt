-- Values that are there.
use Rattle.std.proofs.Common.{◌≡◌, ℕ, Option, Some, List, arith}
use Rattle.bgp_wire.specs.Attribute.{SpellsOptional}

-- a value that is there is spelled
pub spelled_there : {A : Type 0} (Spells : A → List ℕ → Type 0) (value : Option A) (octets : Option (List ℕ)) (there : List ℕ) → SpellsOptional Spells value octets → octets ≡ Some there
    → (a : A) × Spells a there
spelled_there Spells value octets there s e = grind arith
