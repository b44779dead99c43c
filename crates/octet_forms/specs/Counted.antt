-- Octets that spell a list of values after its length.
use Rattle.std.specs.Prelude.{◌≡◌, ℕ, ◌<◌, ◌^◌, List, ◌++◌, length}
use Rattle.std.specs.Int.{to_be_bytes, w16}
use Rattle.octet_forms.specs.Sequences.{SpellsAll}

-- the octets are the length of the list, in two octets, big-endian, and then a spelling of each value, in
-- order
pub record SpellsCounted {A : Type 0} (Spells : A → List ℕ → Type 0) (values : List A) (octets : List ℕ) : Type 0 where
  pub fits : length values < 2 ^ 16
  pub body : List ℕ
  pub spelled : SpellsAll Spells values body
  pub whole : octets ≡ to_be_bytes w16 (length values) ++ body
