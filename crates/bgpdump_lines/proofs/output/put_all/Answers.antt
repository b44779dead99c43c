use Rattle.std.proofs.Common.{◌++◌, rules, take}
use Rattle.std.proofs.KnownBytes.{Appends-trans}
use Rattle.bgpdump_lines.proofs.output.put_all.Goals as goal
use Rattle.octet_forms.proofs.Lists.{front_moved}

pub loop-rest-preserved : goal.loop-rest-preserved
loop-rest-preserved g c =
    let (front, kept) = c.loop-rest.invariant in
    let rest = c.loop-rest.rest.now in
    let n = c.in_ok-count.count in (
      front ++ take n rest,
      record {
        split = front_moved _ front rest n kept.split;
        appended = Appends-trans _ _ _ _ _ kept.appended c.in_ok-count.ensures.octets;
        failed = search rules;
      },
    )
