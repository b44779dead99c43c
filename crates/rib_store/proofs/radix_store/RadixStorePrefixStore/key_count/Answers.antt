use Rattle.std.proofs.Common.{subst}
use Rattle.prefix_store.specs.Stored.{ContainsDomain}
use Rattle.rib_store.specs.Store.{slots_in, trees_of}
use Rattle.rib_store.proofs.SlotLaws.{among-slots}
use Rattle.rib_store.proofs.radix_store.RadixStorePrefixStore.key_count.Goals as goal

pub returns-clause-among : goal.returns-clause-among
returns-clause-among g c = subst (λ s. ContainsDomain s.keys s.routes) c.self.view_is (among-slots (slots_in (trees_of c.self.inside.v4 c.self.inside.v6)))
