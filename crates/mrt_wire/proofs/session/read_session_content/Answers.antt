use Rattle.mrt_wire.proofs.session.read_session_content.Goals as goal

pub returns-in-StateChange : goal.returns-in-StateChange
returns-in-StateChange c = rw c.in-StateChange.is (c.read_state_change.ensures c.args.seconds)

pub returns-then-octets-gt-LONGEST_KEPT : goal.returns-then-octets-gt-LONGEST_KEPT
returns-then-octets-gt-LONGEST_KEPT c = rw c.in-Message.is c.read_peer_message-result.ensures

pub returns-else-octets-gt-LONGEST_KEPT : goal.returns-else-octets-gt-LONGEST_KEPT
returns-else-octets-gt-LONGEST_KEPT c = rw c.in-Message.is c.read_peer_message-result.ensures
