-- The prefix has as many bits as its length says.
use Rattle.std.proofs.Common.{rules, sym}
use Rattle.prefix_store.proofs.PackedLaws.{v4_length}
use Rattle.prefix_store.proofs.packed.V4PrefixPackedPrefix.len.Goals as goal

pub returns : goal.returns
returns c = sym (v4_length c.args.self.now (search rules) c.args.self.now.within)
