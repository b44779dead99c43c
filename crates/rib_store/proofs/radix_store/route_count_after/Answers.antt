use Rattle.std.proofs.Common.{arith}
use Rattle.rib_store.specs.Store.{trees_of}
use Rattle.rib_store.proofs.TakenLaws.{all-count}
use Rattle.rib_store.proofs.radix_store.route_count_after.Goals as goal

pub returns-then-count-eq-GREATEST_COUNT : goal.returns-then-count-eq-GREATEST_COUNT
returns-then-count-eq-GREATEST_COUNT g c =
    omega (arith, all-count (trees_of c.args.v4.now c.args.v6.now) c.requires.planted, c.count_routes.ensures, c.count_routes-then-count-eq-GREATEST_COUNT.ensures, c.saturating_add-then-count-eq-GREATEST_COUNT.ensures)
