-- Which items of a message share a route.
use Rattle.std.proofs.Common.{◌≡◌, ℕ, ◌+◌, ◌-◌, map, take, List, [], ◌∷◌, ◌++◌, length, length-append, All, false, nat_eq, Option, refl, ap, sym, subst, ◌∙◌, arith, append_assoc, append-nil}
use Rattle.std.proofs.lemmas.List.{take_at, drop_at, length-map}
use Rattle.std.proofs.Math.Dec.{eqb-suc-zero}
use Rattle.std.proofs.lemmas.List.Elements.{All-map}
use Rattle.ip_prefix.specs.Network.{Address, Network}
use Rattle.bgp_wire.specs.Reach.{attrs_with_next_hop}
use Rattle.bgp_wire.specs.declared.attrs.Attrs.{Attrs}
use Rattle.mrt_events.specs.declared.peer.Peer.{Peer}
use Rattle.mrt_events.specs.declared.event.Route.{Route}
use Rattle.mrt_events.specs.declared.event.Item.{Item}
use Rattle.mrt_events.specs.Event.{ItemValue, Announced, item_value}
use Rattle.mrt_events.specs.SharedRoute.{Announces, AnnounceOneRoute, IsSharedRange, AreSharedRanges}
use Rattle.mrt_wire.specs.Items.{announcements, mp_announcements, route_of}
use Rattle.mrt_wire.specs.Decoding.{AddsItems}

-- announcements with one route are all with this route
all_announce : (peer : Peer) (route : Route) (prefixes : List Network) → All (Announces peer route) (announcements peer route prefixes)
all_announce peer route prefixes = All-map (Announces peer route) (λ prefix. Announced peer prefix route) prefixes (λ k d less. (refl, refl))

pub one_route : (peer : Peer) (route : Route) (prefixes : List Network) → AnnounceOneRoute (announcements peer route prefixes)
one_route peer route [] = tt
one_route peer route (prefix ∷ prefixes) = all_announce peer route prefixes

-- announcements of MP_REACH_NLRI, with attributes that were kept for them where there are any
pub mp_alike : (peer : Peer) (seconds : ℕ) (attrs kept : Attrs) (hop : Option Address) (prefixes : List Network) → (nat_eq (length prefixes) 0 ≡ false → kept ≡ attrs)
    → announcements peer (route_of (record kept { next_hop = hop }) seconds) prefixes ≡ mp_announcements peer seconds (attrs_with_next_hop attrs hop prefixes) prefixes
mp_alike peer seconds attrs kept hop [] same = refl
mp_alike peer seconds attrs kept hop (prefix ∷ prefixes) same = ap (λ a. announcements peer (route_of (record a { next_hop = hop }) seconds) (prefix ∷ prefixes)) (same (eqb-suc-zero (length prefixes)))

-- a part of what is said, of one route, between others
part_shared : (before part behind : List ItemValue) (a b : ℕ) → a ≡ length before → b ≡ length before + length part → AnnounceOneRoute part → IsSharedRange (record { start = a; end = b }) (before ++ (part ++ behind))
part_shared before part behind a b start end one =
    let size : length part ≡ b - a = omega (arith, start, end) in
    record {
      ordered = omega (arith, start, end);
      within = omega (arith, start, end, length-append before (part ++ behind), length-append part behind);
      alike = subst AnnounceOneRoute (sym (ap (take (b - a)) (drop_at before (part ++ behind) a (sym start)) ∙ take_at part behind (b - a) size)) one;
    }

-- how many say so much more
added_count : (old new : List Item) (more : List ItemValue) → AddsItems old new more → length new ≡ length (map item_value old) + length more
added_count old new more adds = sym (length-map new item_value) ∙ ap length adds ∙ length-append (map item_value old) more

-- the ranges of two kinds of announcements that were added
pub shared_ranges : (old between new : List Item) (first second : List ItemValue) (a b c : ℕ) → a ≡ length old → b ≡ length between → c ≡ length new → AddsItems old between first → AddsItems between new second
    → AnnounceOneRoute first → AnnounceOneRoute second → AreSharedRanges (record { start = a; middle = b; end = c }) (map item_value new)
shared_ranges old between new first second a b c start middle end adds adds' one one' =
    let all : map item_value new ≡ map item_value old ++ (first ++ second) = adds' ∙ ap (λ l. l ++ second) adds ∙ append_assoc (map item_value old) first second in
    let last : map item_value new ≡ map item_value between ++ (second ++ []) = adds' ∙ ap (λ l. map item_value between ++ l) (sym (append-nil second)) in
    record {
      first = subst (λ l. IsSharedRange (record { start = a; end = b }) l) (sym all)
          (part_shared (map item_value old) first second a b (start ∙ sym (length-map old item_value)) (middle ∙ added_count old between first adds) one);
      second = subst (λ l. IsSharedRange (record { start = b; end = c }) l) (sym last)
          (part_shared (map item_value between) second [] b c (middle ∙ sym (length-map between item_value)) (end ∙ added_count between new second adds') one');
    }
