-- Tests, and choices by them.
use Rattle.std.proofs.Common.{◌≡◌, Bool, true, false, cond, ◌||◌, refl, sym}

-- ---- tests

-- two tests of which each passes where the other does answer alike
pub same_tests : (s t : Bool) → (s ≡ true → t ≡ true) → (t ≡ true → s ≡ true) → s ≡ t
same_tests true t there back = sym (there refl)
same_tests false true there back = back refl
same_tests false false there back = refl

-- ---- choices

-- a choice in what another leaves is one by either test, where both choose alike
pub cond-cond : {A : Type 0} (b c : Bool) (x y z : A) → (b ≡ true → y ≡ x) → cond c x (cond b y z) ≡ cond (b || c) x z
cond-cond true true x y z same = refl
cond-cond true false x y z same = same refl
cond-cond false c x y z same = refl

-- and so is one before another
pub cond_or : {A : Type 0} (b c : Bool) (x y rest none : A) → (b ≡ true → x ≡ y) → rest ≡ cond c y none → cond b x rest ≡ cond (b || c) y none
cond_or true c x y rest none same is = same refl
cond_or false c x y rest none same is = is

-- what is the other value where the test fails needs no test
pub cond_untested : {A : Type 0} (b : Bool) (x none : A) → (b ≡ false → x ≡ none) → cond b x none ≡ x
cond_untested true x none is = refl
cond_untested false x none is = sym (is refl)
