use Rattle.std.proofs.Common.{◌∷◌, [], ap, sym, subst, length, arith, length-append}
use Rattle.ip_prefix.specs.Sequences.{Begins, SpellsAll}
use Rattle.octet_forms.proofs.Sequences.{one_more}
use Rattle.mrt_wire.specs.Rib.{SpellsPeer}
use Rattle.ip_prefix.specs.Counted.{SpellsCounted}
use Rattle.ip_prefix.specs.Fields.{SpellsFront}
use Rattle.mrt_wire.proofs.ReadingLaws.{no_count, not_counted, counted, reads_none}
use Rattle.mrt_wire.proofs.PeerIndexLaws.{peer_code}
use Rattle.mrt_wire.proofs.peer_index.read_peers.Goals as goal

pub returns-in_err-count : goal.returns-in_err-count
returns-in_err-count c =
    reads_none _ (SpellsFront (SpellsCounted SpellsPeer)) c.args.octets.now c.from_residual.result c.from_residual.ensures.1
    (no_count SpellsPeer c.args.octets.now (rw c.in_err-count.ensures.ok_part at c.split_u16.ensures))

pub returns-in_default : goal.returns-in_default
returns-in_default c peers s =
    not_counted SpellsPeer peer_code c.loop.peers.items c.in_ok-count.count.value c.loop.rest.now c.in_ok-count.count.rest.now c.args.octets.now (rw c.in_ok-count.ensures.ok_part at c.split_u16.ensures)
    (omega (arith, c.loop.invariant.size, c.loop-test.true)) c.loop.invariant.read c.in_default.ensures peers s

pub loop-preserved : goal.loop-preserved
loop-preserved c =
    let body = c.in_ok-count.count.rest.now in
    let peer = c.in-Some.peer in
    record {
      size = omega (arith, ap length c.in_ok-push.ensures.items, length-append c.loop.peers.items (peer.value ∷ []), c.loop.invariant.size);
      read = subst (λ peers. Begins (SpellsAll SpellsPeer) peers peer.rest.now body) (sym c.in_ok-push.ensures.items)
          (one_more SpellsPeer c.loop.peers.items peer.value peer.rest.now c.loop.rest.now body c.loop.invariant.read c.in-Some.ensures);
    }

pub returns : goal.returns
returns c = (
  c.loop.rest.now,
  subst (λ peers. Begins (SpellsCounted SpellsPeer) peers c.loop.rest.now c.args.octets.now) (sym c.from_vec.ensures)
      (counted SpellsPeer c.loop.peers.items c.in_ok-count.count.value c.loop.rest.now c.in_ok-count.count.rest.now c.args.octets.now (rw c.in_ok-count.ensures.ok_part at c.split_u16.ensures)
      (omega (arith, c.loop.invariant.size, c.loop-test.false, c.loop.auto.counter-end)) c.loop.invariant.read),
)
