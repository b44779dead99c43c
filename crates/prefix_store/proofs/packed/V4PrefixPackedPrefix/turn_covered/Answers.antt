-- The prefix has as many bits as its length says.
use Rattle.std.proofs.Common.{rules}
use Rattle.prefix_store.specs.Contents.{v4_network}
use Rattle.prefix_store.proofs.PackedLaws.{v4_length}
use Rattle.prefix_store.proofs.packed.V4PrefixPackedPrefix.turn_covered.Goals as goal

pub returns : goal.returns
returns c = c.turn_under.ensures (v4_network c.args.self.now) (v4_length c.args.self.now (search rules) c.args.self.now.within) c.requires
