-- The rule of the table of runs.
use Rattle.std.proofs.Common.{◌≡◌, ℕ, zero, suc, ◌+◌, ◌*◌, ◌/◌, ◌%◌, ◌^◌, ◌==◌, ◌<◌, Bool, cond, List, [], ◌∷◌, length, get_or, drop, drop-cons, length-drop, refl, ap, sym, ◌∙◌, arith}
use Rattle.std.specs.Prelude.{nat_le, if◌then◌else◌}
use mir.Val.{bool_byte}
use Rattle.std.specs.Net.Text.{zero_run, longest_zero_run}
use Rattle.ip_prefix.specs.declared.zero_runs.TheConstants.{ZERO_RUNS}
use Rattle.ip_prefix.specs.Marks.{zero_mask}
use Rattle.octet_text.proofs.DigitRows.{row_at}

-- so many groups, 0 where a mask's bit is set and 1 elsewhere
abbrev masked_groups : ℕ → ℕ → List ℕ
masked_groups zero mask = []
masked_groups (suc count) mask = (if mask % 2 == 0 then 1 else 0) ∷ masked_groups count (mask / 2)

-- the start and the size of the longest run of groups whose bits are set in a mask of eight
abbrev pub run_row : ℕ → List ℕ
run_row mask = (longest_zero_run (masked_groups 8 mask)).0 ∷ (longest_zero_run (masked_groups 8 mask)).1 ∷ []

-- each mask of eight groups has its run
pub ZERO_RUNS_at : (mask : ℕ) → mask < 2 ^ 8 → get_or ZERO_RUNS mask [] ≡ run_row mask
ZERO_RUNS_at mask h = row_at run_row 0 ZERO_RUNS tt mask mask (omega arith) (omega arith)

-- ---- groups of which only it matters whether they are 0

-- a group without its value
abbrev plain : ℕ → ℕ
plain g = cond (g == 0) 0 1

abbrev plain_groups : List ℕ → List ℕ
plain_groups [] = []
plain_groups (g ∷ groups) = plain g ∷ plain_groups groups

plain_zero : (b : Bool) → (cond {A = ℕ} b 0 1 == 0) ≡ b
plain_zero b = grind arith

zero_run_plain : (groups : List ℕ) → zero_run (plain_groups groups) ≡ zero_run groups
zero_run_plain [] = refl
zero_run_plain (g ∷ groups) = λ i. cond (plain_zero (g == 0) i) (1 + zero_run_plain groups i) 0

-- the run depends on no more
longest_plain : (groups : List ℕ) → longest_zero_run (plain_groups groups) ≡ longest_zero_run groups
longest_plain [] = refl
longest_plain (g ∷ groups) =
    λ i. cond (nat_le (longest_plain groups i).1 (zero_run_plain (g ∷ groups) i)) (0, zero_run_plain (g ∷ groups) i)
    ((longest_plain groups i).0 + 1, (longest_plain groups i).1)

-- ---- the mask of groups

first_plain : (b : Bool) (m : ℕ) → cond {A = ℕ} ((cond b 1 0 + 2 * m) % 2 == 0) 1 0 ≡ cond b 0 1
first_plain b m = grind arith

rest_mask : (b : Bool) (m : ℕ) → (cond b 1 0 + 2 * m) / 2 ≡ m
rest_mask b m = grind arith

masked_plain : (groups : List ℕ) → masked_groups (length groups) (zero_mask groups) ≡ plain_groups groups
masked_plain [] = refl
masked_plain (g ∷ groups) =
    let rest = ap (masked_groups (length groups)) (rest_mask (g == 0) (zero_mask groups)) ∙ masked_plain groups in
    λ i. first_plain (g == 0) (zero_mask groups) i ∷ rest i

-- the mask tells the run
pub masked_run : (groups : List ℕ) → length groups ≡ 8 → longest_zero_run (masked_groups 8 (zero_mask groups)) ≡ longest_zero_run groups
masked_run groups e =
    ap (λ n. longest_zero_run (masked_groups n (zero_mask groups))) (sym e) ∙ ap longest_zero_run (masked_plain groups) ∙ longest_plain groups

-- a group's bit
abbrev zero_bit : List ℕ → ℕ → ℕ
zero_bit groups k = bool_byte (get_or groups k 0 == 0)

byte_bit : (b : Bool) → cond {A = ℕ} b 1 0 ≡ bool_byte b
byte_bit b = grind arith

mask_step : (groups : List ℕ) (k : ℕ) → k < length groups → zero_mask (drop k groups) ≡ zero_bit groups k + 2 * zero_mask (drop (suc k) groups)
mask_step groups k h =
    ap zero_mask (drop-cons groups k 0 h) ∙ ap (λ b. b + 2 * zero_mask (drop (suc k) groups)) (byte_bit (get_or groups k 0 == 0))

no_mask : (groups : List ℕ) → length groups ≡ 0 → zero_mask groups ≡ 0
no_mask [] e = refl
no_mask (g ∷ groups) e = absurd (omega (arith, e))

-- the mask of eight groups, bit by bit
pub mask_of_eight : (groups : List ℕ) → length groups ≡ 8
    → zero_bit groups 0 + 2 * zero_bit groups 1 + 4 * zero_bit groups 2 + 8 * zero_bit groups 3
    + 16 * zero_bit groups 4 + 32 * zero_bit groups 5 + 64 * zero_bit groups 6 + 128 * zero_bit groups 7 ≡ zero_mask groups
mask_of_eight groups eight =
    let step : (k : ℕ) → k < 8 → zero_mask (drop k groups) ≡ zero_bit groups k + 2 * zero_mask (drop (suc k) groups) = λ k h. mask_step groups k (omega arith) in
    let none : zero_mask (drop 8 groups) ≡ 0 = no_mask (drop 8 groups) (omega (arith, length-drop {A = ℕ} 8 groups)) in
    omega (arith, none, step 0 (omega arith), step 1 (omega arith), step 2 (omega arith), step 3 (omega arith), step 4 (omega arith), step 5 (omega arith), step 6 (omega arith), step 7 (omega arith))
