-- Private.
-- Where a text has its last slash, texts of groups with colons, and runs of groups that are 0.
use Rattle.std.specs.Prelude.{◌≡◌, ℕ, ◌+◌, ◌*◌, ◌==◌, ◌≤◌, if◌then◌else◌, List, [], ◌∷◌, take, drop, replicate, ◌≢◌, ◌<◌, length, slice_index, flat_map}
use Rattle.std.specs.Net.Text.{hex}
use Rattle.ip_prefix.specs.declared.text.TheConstants.{SLASH, COLON}

-- ---- runs of groups that are 0 (RFC 5952, section 4.2)

-- `groups` has `size` groups from the index `start` on, and they are all 0; this always holds if `size` is 0
abbrev pub IsZeroRun : List ℕ → ℕ → ℕ → Type 0
IsZeroRun groups start size = take size (drop start groups) ≡ replicate size 0

-- of the runs of zeros in `groups`, this one (the index of its first group, and its length) is the longest,
-- and of several longest ones the first
pub record IsFirstLongestRun (groups : List ℕ) (run : ℕ × ℕ) : Type 0 where
  pub zeros : IsZeroRun groups run.0 run.1
  pub longest : (start size : ℕ) → IsZeroRun groups start size → size ≤ run.1
  pub first : (start size : ℕ) → IsZeroRun groups start size → run.1 ≤ size → run.0 ≤ start

-- the number whose bit `i`, counted from the lowest, is 1 if the group at index `i` is 0
abbrev pub zero_mask : List ℕ → ℕ
zero_mask [] = 0
zero_mask (g ∷ groups) = (if g == 0 then 1 else 0) + 2 * zero_mask groups

-- ---- slashes and colons

-- the text has no slash
abbrev pub HasNoSlash : List ℕ → Type 0
HasNoSlash text = (k : ℕ) → k < length text → slice_index text k ≢ SLASH

-- the text has its last slash at index `at`
pub record IsLastSlash (text : List ℕ) (at : ℕ) : Type 0 where
  pub within : at < length text
  pub slash : slice_index text at ≡ SLASH
  pub last : (k : ℕ) → at < k → k < length text → slice_index text k ≢ SLASH

-- the groups in lower-case hexadecimal without leading zeros, a colon before each
abbrev pub colon_led_groups : List ℕ → List ℕ
colon_led_groups groups = flat_map (λ group. COLON ∷ hex group) groups
