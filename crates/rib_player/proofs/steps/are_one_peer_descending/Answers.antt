-- Each entry is below the last one, and so below all before it.
use Rattle.std.proofs.Common.{◌≡◌, ◌+◌, ◌<◌, suc, false, ◌∷◌, List, length, take, get_or, sym, ap, subst, ◌∙◌, arith, is_ge, Ordering, Less}
use Rattle.std.proofs.lemmas.List.{nil_from_length}
use Rattle.ip_prefix.specs.Network.{Network, network_cmp}
use Rattle.mrt_events.specs.declared.peer.Peer.{Peer}
use Rattle.rib_player.specs.Entries.{Entry}
use Rattle.rib_player.specs.History.{pair_cmp, pair_of}
use Rattle.rib_player.specs.Journal.{Side, side_of, sides_of}
use Rattle.rib_player.specs.Sides.{AreDistinct}
use Rattle.rib_player.proofs.RowLaws.{AreNotBelow, distinct-none, falling-one, falling-more, sides-more}
use Rattle.rib_player.proofs.LostLaws.{of_one_peer}
use Rattle.rib_player.proofs.steps.are_one_peer_descending.Goals as goal
use Rattle.rib_player.proofs.steps.are_one_peer_descending.Goals.{Else-ge}

not_ge : (r : Ordering) → is_ge r ≡ false → r ≡ Less
not_ge r e = grind arith

-- of one peer the prefixes tell
below : (c : Else-ge) → pair_cmp c.entry-item.result.pair c.entries.last.now.pair ≡ Less
below c =
    let one = c.entry-item.result.pair in
    let other = c.entries.last.now.pair in
    let peers : one.peer ≡ other.peer = sym c.peer.ensures ∙ c.same_peer.ensures.0 c.if-not-same_peer.false ∙ c.peer-in-entries.ensures in
    ap (λ (peer : Peer). pair_cmp (pair_of peer one.prefix) other) peers
    ∙ of_one_peer other.peer one.prefix other.prefix
    ∙ ap (λ (n : Network). network_cmp n other.prefix) (sym c.prefix.ensures) ∙ ap (network_cmp c.prefix.result) (sym c.prefix-else-not-same_peer.ensures)
    ∙ not_ge _ (sym c.ge.ensures ∙ c.if-ge.false)

pub returns-in_default : goal.returns-in_default
returns-in_default c = λ so. subst (λ (es : List Entry). AreDistinct (sides_of es)) (sym (nil_from_length c.args.entries.now c.in_default.ensures.cases)) distinct-none

pub entries-init : goal.entries-init
entries-init c =
    subst (λ (es : List Entry). AreDistinct (sides_of (take 1 es)) × AreNotBelow c.in-Some.first.now.pair (sides_of (take 1 es)))
    (sym c.in-Some.ensures.cases.0) (falling-one (side_of c.in-Some.first.now))

pub entries-preserved : goal.entries-preserved
entries-preserved c =
    let entries = c.args.entries.now in
    let entry = c.entry-item.result in
    let next = c.entries.entry-index + 1 in
    let parts : entries ≡ c.in-Some.first.now ∷ c.in-Some.rest.now = c.in-Some.ensures.cases.0 in
    let within : next < length entries = omega (arith, c.entries-test.true, ap length parts) in
    let behind : suc c.entries.entry-index ≡ next = omega arith in
    let is : entry ≡ get_or entries next entry =
    c.entry-item.is ∙ ap (λ k. get_or (c.in-Some.first.now ∷ c.in-Some.rest.now) k entry) behind ∙ ap (λ (es : List Entry). get_or es next entry) (sym parts) in
    subst (λ (so_far : List Side). AreDistinct so_far × AreNotBelow entry.pair so_far) (sym (sides-more entries next entry is within))
    (falling-more c.entries.last.now.pair (side_of entry) (below c) (sides_of (take next entries)) c.entries.invariant)
