use Rattle.std.proofs.Common.{arith, ap, ◌∙◌}
use Rattle.std.specs.FinSet as set
use Rattle.rib_store.specs.Nodes.{is_node}
use Rattle.rib_store.specs.Store.{trees_of}
use Rattle.rib_store.proofs.NodeSetLaws.{all_nodes, are_nodes, len-all_nodes, twice_both}
use Rattle.rib_store.proofs.radix_store.RadixStore.nodes.Goals as goal

pub returns : goal.returns
returns g c =
    let f = trees_of c.self.inside.v4 c.self.inside.v6 in
    let planted = c.self.invariant.planted in
    record {
      nodes = (
        all_nodes f,
        λ n. are_nodes f planted n ∙ ap (λ s. is_node s.keys n) c.self.view_is,
        omega (arith, len-all_nodes f planted, c.count_nodes.ensures, c.count_nodes-2.ensures, c.saturating_add.ensures),
      );
      twice = omega (arith, twice_both f planted, ap (λ s. set.len s.keys) c.self.view_is, c.count_nodes.ensures, c.count_nodes-2.ensures, c.saturating_add.ensures);
    }
