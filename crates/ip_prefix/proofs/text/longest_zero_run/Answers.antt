use Rattle.std.proofs.Common.{◌≡◌, ◌+◌, ◌*◌, get_or, ap, ◌∙◌, arith, rules}
use Rattle.std.specs.Net.Text.{longest_zero_run}
use Rattle.ip_prefix.specs.Marks.{zero_mask}
use Rattle.ip_prefix.proofs.RunRows.{run_row, ZERO_RUNS_at, mask_of_eight, masked_run}
use Rattle.std.proofs.NetLemmas.Texts.{IsZeroRun-longest_zero_run}
use Rattle.ip_prefix.proofs.text.longest_zero_run.Goals as goal

is_run : (c : goal.After-from-10) → (c.from-9.result, c.from-10.result) ≡ longest_zero_run c.args.groups.now
is_run c =
    let mask = c.from.result + 2 * c.from-2.result + 4 * c.from-3.result + 8 * c.from-4.result + 16 * c.from-5.result + 32 * c.from-6.result + 64 * c.from-7.result + 128 * c.from-8.result in
    let value : mask ≡ zero_mask c.args.groups.now = (λ i. c.from.ensures i + 2 * c.from-2.ensures i + 4 * c.from-3.ensures i + 8 * c.from-4.ensures i
    + 16 * c.from-5.ensures i + 32 * c.from-6.ensures i + 64 * c.from-7.ensures i + 128 * c.from-8.ensures i)
    ∙ mask_of_eight c.args.groups.now (omega arith) in
    let row = ZERO_RUNS_at mask (search rules) ∙ ap run_row value in
    let first = c.from-9.ensures ∙ ap (λ r. get_or r 0 0) row in
    let size = c.from-10.ensures ∙ ap (λ r. get_or r 1 0) row in
    (λ i. (first i, size i)) ∙ masked_run c.args.groups.now (omega arith)

pub returns-clause-value : goal.returns-clause-value
returns-clause-value c = is_run c

pub returns-clause-within : goal.returns-clause-within
returns-clause-within c =
    omega (arith, ap (λ r. r.0) (is_run c), ap (λ r. r.1) (is_run c), (IsZeroRun-longest_zero_run c.args.groups.now).0)
