use Rattle.std.proofs.Common.{◌≡◌, ℕ, ◌+◌, ◌≤◌, ◌&&◌, Option, length, sym, ap, subst, ◌∙◌, arith}
use Rattle.std.specs.FinSet as set
use Rattle.ip_prefix.specs.declared.addr.Family.{Family}
use Rattle.ip_prefix.specs.declared.addr.Family.TheVariants.{V4, V6}
use Rattle.ip_prefix.specs.Network.{Address, Network, contains}
use Rattle.ip_prefix.specs.Turns.{way}
use Rattle.prefix_store.specs.Contents.{Contents}
use Rattle.prefix_store.specs.Lookups.{IsLongestMatch}
use Rattle.prefix_store.specs.Stored.{Keys}
use Rattle.rib_store.specs.Nodes.{is_node, AreNodesContaining, IsOrOneMore}
use Rattle.rib_store.specs.Store.{Trees, trees_of, tree_of, contents_of, AreRadixTrees}
use Rattle.rib_store.specs.Walks.{deepest_route, visit_count}
use Rattle.rib_store.proofs.DeepestLaws.{host, longest-is}
use Rattle.rib_store.proofs.VisitLaws.{met_nodes, are_nodes_to, visit_count-met, visit_count-few}
use Rattle.rib_store.proofs.radix_store.RadixStore.longest_counting_nodes.Goals as goal

-- the nodes that a look-up meets are those of the address in the tree of its family
same_visits : {R : Type 0} (trees : Trees R) (address : Address) (family : Family) (key : Network) → family ≡ address.family → key ≡ host address → visit_count (tree_of family trees) (way key) ≡ visit_count (tree_of address.family trees) (way (host address))
same_visits f address family key e k = λ i. visit_count (tree_of (e i) f) (way (k i))

-- what a look-up in the tree of a family answers, where the trees have these contents
looked_up : {R : Type 0} (trees : Trees R) (contents : Contents R) (address : Address) (family : Family) (key : Network) (found : Option (Network × R)) (old new : ℕ) → AreRadixTrees trees → contents_of trees ≡ contents → family ≡ address.family → key ≡ host address
    → found ≡ deepest_route (tree_of family trees) (way key) → new ≡ old + visit_count (tree_of family trees) (way key)
    → IsLongestMatch contents.routes address found × (new ≤ old + length address.bits + 1) × ((nodes : Keys) × AreNodesContaining contents.keys address nodes × IsOrOneMore (old + set.len nodes) new)
looked_up f contents address family key found old new planted holds e k is met =
    let same = same_visits f address family key e k in (
      subst (IsLongestMatch contents.routes address) (sym (is ∙ (λ i. deepest_route (tree_of (e i) f) (way (k i))))) (subst (λ s. IsLongestMatch s.routes address (deepest_route (tree_of address.family f) (way (host address)))) holds (longest-is f planted address)),
      omega (arith, same, visit_count-few f planted address, met),
      (
        met_nodes f address,
        λ n. are_nodes_to f planted address n ∙ ap (λ s. is_node s.keys n && contains n address) holds,
        visit_count-met f planted address old new (met ∙ ap (λ n. old + n) same),
      ),
    )

pub longest-requires : goal.longest-requires
longest-requires g c =
    let f = trees_of c.self.inside.v4 c.self.inside.v6 in
    omega (arith, same_visits f c.args.addr.now V4 c.host-key.result (sym c.in-V4.is ∙ c.family.ensures.value) c.host-key.ensures, visit_count-few f c.self.invariant.planted c.args.addr.now, c.family.ensures.whole, c.requires)

pub longest-requires-in-V6 : goal.longest-requires-in-V6
longest-requires-in-V6 g c =
    let f = trees_of c.self.inside.v4 c.self.inside.v6 in
    omega (arith, same_visits f c.args.addr.now V6 c.host-key.result (sym c.in-V6.is ∙ c.family.ensures.value) c.host-key.ensures, visit_count-few f c.self.invariant.planted c.args.addr.now, c.family.ensures.whole, c.requires)

pub returns-in-V4 : goal.returns-in-V4
returns-in-V4 g c =
    let answer = looked_up (trees_of c.self.inside.v4 c.self.inside.v6) c.args.self.now c.args.addr.now V4 c.host-key.result _ c.args.met.now c.longest.new.met c.self.invariant.planted c.self.view_is
    (sym c.in-V4.is ∙ c.family.ensures.value) c.host-key.ensures c.longest.ensures.found c.longest.ensures.met in
    record { longest = answer.0; most = omega (arith, answer.1, c.family.ensures.whole); met = answer.2 }

pub returns-in-V6 : goal.returns-in-V6
returns-in-V6 g c =
    let answer = looked_up (trees_of c.self.inside.v4 c.self.inside.v6) c.args.self.now c.args.addr.now V6 c.host-key.result _ c.args.met.now c.longest-in-V6.new.met c.self.invariant.planted c.self.view_is
    (sym c.in-V6.is ∙ c.family.ensures.value) c.host-key.ensures c.longest-in-V6.ensures.found c.longest-in-V6.ensures.met in
    record { longest = answer.0; most = omega (arith, answer.1, c.family.ensures.whole); met = answer.2 }
