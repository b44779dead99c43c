use Rattle.std.proofs.Common.{◌≡◌, [], ◌∷◌, slice_set, sym, subst, arith}
use Rattle.std.proofs.lemmas.Grind.{common_steps}
use Rattle.std.proofs.lemmas.Result.{on_ok_weaker, IfErr-weaker}
use Rattle.ip_prefix.specs.Sequences.{SpellsAll}
use Rattle.bgp_paths.specs.Path.{SpellsSegment}
use Rattle.bgp_paths.proofs.Refusing.{only_filled, only_refused}
use Rattle.bgp_paths.proofs.path_reader.fill_segments.Goals as goal

pub returns-in-One-clause-filled : goal.returns-in-One-clause-filled
returns-in-One-clause-filled c =
    let f = c.in-Some.framed in
    on_ok_weaker c.fill_segment.result (only_filled c.args.width f.kind f.body.now c.args.octets.now c.fill_segment.new.segment c.in-Some.ensures c.fill_segment.ensures.kind) c.fill_segment.ensures.filled

pub returns-in-One-clause-refused : goal.returns-in-One-clause-refused
returns-in-One-clause-refused c =
    let f = c.in-Some.framed in
    IfErr-weaker c.fill_segment.result _ _ (λ fault. only_refused c.args.width f.kind f.body.now c.args.octets.now fault c.in-Some.ensures) c.fill_segment.ensures.refused

pub returns-then-len-eq1-clause-filled : goal.returns-then-len-eq1-clause-filled
returns-then-len-eq1-clause-filled c =
    let f = c.in-Some.framed in
    let filled = c.fill_segment-then-len-eq1 in
    let alone : slice_set c.in-Listed.list.items 0 filled.new.segment ≡ filled.new.segment ∷ [] = grind (arith, common_steps) in
    on_ok_weaker filled.result
    (λ numbers. subst (λ segments. SpellsAll (SpellsSegment c.args.width) segments c.args.octets.now) (sym alone) (only_filled c.args.width f.kind f.body.now c.args.octets.now filled.new.segment c.in-Some.ensures filled.ensures.kind numbers))
    filled.ensures.filled

pub returns-then-len-eq1-clause-refused : goal.returns-then-len-eq1-clause-refused
returns-then-len-eq1-clause-refused c =
    let f = c.in-Some.framed in
    let filled = c.fill_segment-then-len-eq1 in
    IfErr-weaker filled.result _ _ (λ fault. only_refused c.args.width f.kind f.body.now c.args.octets.now fault c.in-Some.ensures) filled.ensures.refused
