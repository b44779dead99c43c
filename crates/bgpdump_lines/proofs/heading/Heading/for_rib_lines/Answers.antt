-- What the prover finds, named so that it refuses a wrong body sooner.
use Rattle.std.proofs.Common.{refl}
use Rattle.bgpdump_lines.proofs.heading.Heading.for_rib_lines.Goals as goal

pub returns : goal.returns
returns c peer prefix route = refl
