-- The longest run of groups that are 0.
use Rattle.std.proofs.Common.{◌≡◌, ℕ, ◌+◌, ◌≤◌, List, length, drop, ap, inl, inr, arith, length-drop}
use Rattle.std.specs.Net.Text.{longest_zero_run}
use Rattle.std.proofs.NetLemmas.Texts.{IsZeroRun-longest_zero_run, longest_zero_run_first}
use Rattle.std.proofs.lemmas.Bool.{cases_lt}
use Rattle.std.proofs.lemmas.List.{length-replicate, length-take}
use Rattle.ip_prefix.specs.Marks.{IsZeroRun, IsFirstLongestRun}

-- no run is longer, and none as long starts before it; one that doesn't lie within the groups has none
none_before : (groups : List ℕ) (start size : ℕ) → IsZeroRun groups start size
    → (size ≤ (longest_zero_run groups).1) × ((longest_zero_run groups).1 ≤ size → (longest_zero_run groups).0 ≤ start)
none_before groups start size e = elim (cases_lt (length groups) (start + size)) [
  | inl beyond ↦
      let none : size ≡ 0 = omega (arith, ap length e, length-take {A = ℕ} size (drop start groups), length-drop {A = ℕ} start groups, length-replicate {A = ℕ} size 0) in
      (omega arith, λ _. omega (arith, (IsZeroRun-longest_zero_run groups).0))
  | inr inside ↦
      let found = longest_zero_run_first groups start size (inside, e) in
      (found.0, λ long. found.1 (omega (arith, found.0)))
]

-- the run that is found is the first of the longest
pub longest_zero_run_is : (groups : List ℕ) → IsFirstLongestRun groups (longest_zero_run groups)
longest_zero_run_is groups = record {
  zeros = (IsZeroRun-longest_zero_run groups).1;
  longest = λ start size e. (none_before groups start size e).0;
  first = λ start size e. (none_before groups start size e).1;
}
