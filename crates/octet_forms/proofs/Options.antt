-- Whether a value is there, and what follows from it.
use Rattle.std.proofs.Common.{◌≡◌, false, Option, Some, None, refl, is_some, option_map}

-- a function of a value that was found keeps whether one was
pub is_some-option_map : {A B : Type 0} (f : A → B) (found : Option A) → is_some (option_map f found) ≡ is_some found
is_some-option_map f None = refl
is_some-option_map f (Some x) = refl

-- where none is there the option is `None`
pub None_from_is_some : {A : Type 0} (found : Option A) → is_some found ≡ false → found ≡ None
None_from_is_some None e = refl
None_from_is_some (Some x) e = cc
