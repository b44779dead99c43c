use Rattle.std.proofs.Common.{ap, length, arith}
use Rattle.rib_player.specs.Claims.{claims_beyond}
use Rattle.rib_player.proofs.PlayedLaws.{played-new}
use Rattle.rib_player.proofs.player.Player.new.Goals as goal

pub invariant_of-result : goal.invariant_of-result
invariant_of-result g c = record {
  played = played-new c.new.result (claims_beyond c.new-3.result) c.new-2.result.items c.new.ensures c.new-3.ensures c.new-2.ensures.items;
  saturated_count = omega (arith, ap length c.new-2.ensures.items);
}
