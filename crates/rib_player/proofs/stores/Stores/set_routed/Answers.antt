use Rattle.rib_player.proofs.NumberLaws.{numbered-along, stores-replaced}
use Rattle.std.proofs.Common.{sym}
use Rattle.rib_player.proofs.stores.Stores.set_routed.Goals as goal

pub returns-clause-noted : goal.returns-clause-noted
returns-clause-noted g c peer found =
    let s = c.args.self.now in
    stores-replaced (numbered-along s.numbered (sym s.each)) c.set_member.ensures peer found
