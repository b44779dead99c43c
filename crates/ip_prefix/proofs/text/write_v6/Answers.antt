-- The groups on each side of the run, and two colons between them.
use Rattle.std.proofs.Common.{◌≡◌, ◌+◌, ◌-◌, ◌≤◌, ◌<◌, ◌++◌, ◌∷◌, [], length, drop, take, ap, subst, ◌∙◌, sym, append_assoc, arith}
use Rattle.std.proofs.lemmas.List.{take_rest, length-take-le}
use Rattle.std.specs.Net.Text.{groups_text, longest_zero_run, hex_groups_text}
use Rattle.octet_text.specs.Written.{IsWritten}
use Rattle.ip_prefix.specs.Network.{groups_of}
use Rattle.ip_prefix.specs.Text.{v6_text}
use Rattle.ip_prefix.proofs.HexText.{whole_text, shortened_text}
use Rattle.octet_text.proofs.Writing.{written_row, written_then}
use Rattle.ip_prefix.proofs.text.write_v6.Goals as goal

pub returns-then-len-lt-LEAST_RUN-clause-written : goal.returns-then-len-lt-LEAST_RUN-clause-written
unfolding v6_text
returns-then-len-lt-LEAST_RUN-clause-written c =
    let groups = c.group.result ∷ c.group-2.result ∷ c.group-3.result ∷ c.group-4.result ∷ c.group-5.result ∷ c.group-6.result ∷ c.group-7.result ∷ c.group-8.result ∷ [] in
    let own : groups ≡ groups_of c.args.address.now = λ i. c.group.ensures i ∷ c.group-2.ensures i ∷ c.group-3.ensures i ∷ c.group-4.ensures i ∷ c.group-5.ensures i ∷ c.group-6.ensures i ∷ c.group-7.ensures i ∷ c.group-8.ensures i ∷ [] in
    let short : (longest_zero_run groups).1 ≤ 1 = omega (arith, ap (λ p. p.1) c.longest_zero_run-first.ensures.value) in
    subst (λ t. IsWritten c.args.text.now c.args.at t c.write_groups.new.text c.write_groups.result) (sym (whole_text groups short) ∙ ap hex_groups_text own)
    c.write_groups.ensures.written

pub returns-clause-written : goal.returns-clause-written
unfolding v6_text
returns-clause-written c =
    let groups = c.group.result ∷ c.group-2.result ∷ c.group-3.result ∷ c.group-4.result ∷ c.group-5.result ∷ c.group-6.result ∷ c.group-7.result ∷ c.group-8.result ∷ [] in
    let own : groups ≡ groups_of c.args.address.now = λ i. c.group.ensures i ∷ c.group-2.ensures i ∷ c.group-3.ensures i ∷ c.group-4.ensures i ∷ c.group-5.ensures i ∷ c.group-6.ensures i ∷ c.group-7.ensures i ∷ c.group-8.ensures i ∷ [] in
    let run = c.longest_zero_run-first.result in
    let gap = c.write_groups-gap.result in
    let mid = c.write_groups-gap.new.text in
    let same = c.longest_zero_run-first.ensures.value in
    let front = groups_text (take run.0 groups) in
    let long : 1 < (longest_zero_run groups).1 = omega (arith, ap (λ p. p.1) same) in
    let eight : length groups ≡ 8 = omega arith in
    let size : length (take run.0 groups) ≡ run.0 = length-take-le run.0 groups (omega (arith, c.longest_zero_run-first.ensures.within)) in
    let room : gap + 2 ≤ length mid = omega (arith, size, c.requires, c.longest_zero_run-first.ensures.within, c.write_groups-gap.ensures.short, c.write_groups-gap.ensures.written.size) in
    let colons = written_row mid (58 ∷ 58 ∷ []) c.copy_octets_at.new.text gap 2 room (omega arith) c.copy_octets_at.ensures in
    let whole = append_assoc front (58 ∷ 58 ∷ []) _
    ∙ ap (λ t. front ++ 58 ∷ 58 ∷ groups_text t) (ap (λ n. take (n - (run.0 + run.1)) (drop (run.0 + run.1) groups)) (sym eight) ∙ take_rest groups (run.0 + run.1))
    ∙ ap (λ p. groups_text (take p.0 groups) ++ 58 ∷ 58 ∷ groups_text (drop (p.0 + p.1) groups)) same
    ∙ sym (shortened_text groups long) ∙ ap hex_groups_text own in
    subst (λ t. IsWritten c.args.text.now c.args.at t c.write_groups-2.new.text c.write_groups-2.result) whole
    (written_then _ _ _ _ _ _ _ _ (written_then _ _ _ _ _ _ _ _ c.write_groups-gap.ensures.written colons) c.write_groups-2.ensures.written)
