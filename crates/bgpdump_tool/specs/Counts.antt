-- Private.
-- The lines of peers that are listed with the numbers of their routes.
use Rattle.std.specs.Prelude.{ℕ, List, [], ◌∷◌, flat_map}
use Rattle.mrt_events.specs.declared.peer.Peer.{Peer}
use Rattle.bgpdump_tool.specs.Replies.{none_text, peer_line_of}

-- The line `PEER|address|AS number|number of routes` of a peer with this number of routes.
abbrev pub count_line : Peer × ℕ → List ℕ
count_line entry = peer_line_of entry.0 entry.1

-- The `PEER` lines (`count_line`) of these peers with the numbers of their routes, in order, or the line `none` if
-- there are no peers.
abbrev pub peer_counts_text : List (Peer × ℕ) → List ℕ
peer_counts_text [] = none_text
peer_counts_text (entry ∷ entries) = flat_map count_line (entry ∷ entries)
