-- The replies to the commands of a script.
use Rattle.std.specs.Prelude.{ℕ, Bool, List, [], ◌∷◌, ◌++◌, length, nat_lt, if◌then◌else◌, Option, Some, None, decimal, codes, flat_map, filter, option_map}
use Rattle.std.specs.FinMap as finite
use Rattle.ip_prefix.specs.Network.{Address, Network, contains}
use Rattle.ip_prefix.specs.Text.{address_text}
use Rattle.mrt_events.specs.declared.peer.Peer.{Peer}
use Rattle.mrt_events.specs.declared.event.Route.{Route}
use Rattle.prefix_store.specs.Stored.{saturated_count}
use Rattle.rib_player.specs.History.{pair_of}
use Rattle.rib_player.specs.Tables.{Routes, peer_routes, routed_peers}
use Rattle.bgpdump_lines.specs.Lines.{line_feed, line_from_fields, rib_reply_line}

-- the words, in order, each with its number in decimal right after it, and then the octets `ending`
abbrev pub labelled_numbers_text : List (List ℕ × ℕ) → List ℕ → List ℕ
labelled_numbers_text [] ending = ending
labelled_numbers_text ((word, number) ∷ numbers) ending = word ++ (decimal number ++ labelled_numbers_text numbers ending)

-- a line: each word followed by its number in decimal, with nothing added between them, and a line feed at the end
abbrev pub labelled_numbers_line : List (List ℕ × ℕ) → List ℕ
labelled_numbers_line numbers = labelled_numbers_text numbers (line_feed ∷ [])

-- the reply to a command that moves the cursor: the line `at POSITION`, or `at POSITION end` if `ended`, where the
-- command met the end of the input
abbrev pub at_text : ℕ → Bool → List ℕ
at_text position ended = labelled_numbers_text ((codes "at ", position) ∷ []) ((if ended then codes " end" else []) ++ line_feed ∷ [])

-- the reply to a command that finds nothing: the line `none`
abbrev pub none_text : List ℕ
none_text = codes "none" ++ line_feed ∷ []

-- the `RIB` line of `peer` with this prefix and route to it (`rib_reply_line`), or the line `none` if there is none
abbrev pub found_text : Peer → Option (Network × Route) → List ℕ
found_text peer (Some entry) = rib_reply_line peer entry
found_text peer None = none_text

-- the reply to `route`: the `RIB` line of the route that `peer` has to just this prefix in `routes`, or the line
-- `none` if it has none
abbrev pub route_text : Routes → Peer → Network → List ℕ
route_text routes peer network = found_text peer (option_map (λ route. (network, route)) (finite.get routes (pair_of peer network)))

-- the entry with the longer prefix of two, where the second may be absent. The first one, if both are equally
-- long
abbrev pub longer : {R : Type 0} → Network × R → Option (Network × R) → Option (Network × R)
longer entry None = Some entry
longer entry (Some other) = Some (if nat_lt (length entry.0.bits) (length other.0.bits) then other else entry)

-- the first of the entries with the longest prefix, or `None` if there are no entries
abbrev pub longest : {R : Type 0} → List (Network × R) → Option (Network × R)
longest [] = None
longest (entry ∷ entries) = longer entry (longest entries)

-- the longest match of `address` in the table of `peer`: of the prefixes to which the peer has a route in `routes`
-- and which contain the address, the longest one, with its route; `None` if there are none
abbrev pub longest_match : Routes → Peer → Address → Option (Network × Route)
longest_match routes peer address = longest (filter (λ entry. contains entry.0 address) (finite.entries (peer_routes routes peer)))

-- the reply to `table`: the `RIB` lines of all routes of `peer` in `routes`, in the order of their prefixes, and then
-- the line `routes NUMBER` with their number, at most 2^64 - 1
abbrev pub table_text : Routes → Peer → List ℕ
table_text routes peer =
    flat_map (rib_reply_line peer) (finite.entries (peer_routes routes peer)) ++ labelled_numbers_line ((codes "routes ", saturated_count (finite.len (peer_routes routes peer))) ∷ [])

-- the line `PEER|address|AS number|number of routes` of a peer that has `number` routes, as the reply to
-- `peers` has it
abbrev pub peer_line_of : Peer → ℕ → List ℕ
peer_line_of peer number = line_from_fields (codes "PEER" ∷ address_text peer.addr ∷ decimal peer.asn ∷ decimal number ∷ [])

-- the line `PEER|address|AS number|number of routes` of a peer, whose routes are those in `routes`; the
-- number is at most 2^64 - 1
abbrev pub peer_line : Routes → Peer → List ℕ
peer_line routes peer = peer_line_of peer (saturated_count (finite.len (peer_routes routes peer)))

-- the `PEER` lines of these peers, in order, whose routes are those in `routes`, or the line `none` if there are no
-- peers
abbrev pub peer_lines : Routes → List Peer → List ℕ
peer_lines routes [] = none_text
peer_lines routes (peer ∷ peers) = flat_map (peer_line routes) (peer ∷ peers)

-- the reply to `peers`: the `PEER` lines of all peers that have a route in `routes`, in the order of address and AS
-- number, or the line `none` if there are none
abbrev pub peers_text : Routes → List ℕ
peers_text routes = peer_lines routes (routed_peers routes)
