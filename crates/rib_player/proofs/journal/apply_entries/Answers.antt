use Rattle.std.proofs.lemmas.Bool.{and_parts}
use Rattle.std.proofs.Common.{◌≡◌, ◌+◌, ◌<◌, ◌||◌, ◌&&◌, true, false, is_some, List, [], ◌∷◌, ◌++◌, length, take, drop, set, get_or, arith, sym, ap, ap₂, subst, ◌∙◌}
use Rattle.std.specs.List.{AllByRecursion, IsDistinct, list_any}
use Rattle.std.specs.FinMap as finite
use Rattle.std.specs.FinSet as names
use Rattle.std.proofs.lemmas.List.{length-set, length-drop, drop-drop, drop-set-lt, drop_more, map-append, take-set, take_more_set, get_or-map, length-map}
use Rattle.octet_forms.proofs.Lists.{AllByRecursion-get_or, AllByRecursion-push}
use Rattle.rib_player.specs.declared.entry.JournalEnd.TheVariants.{Last}
use Rattle.prefix_store.specs.Stored.{put}
use Rattle.rib_player.specs.Claims.{one_if, claims_beyond, held_claims}
use Rattle.rib_player.specs.Entries.{Entry}
use Rattle.rib_player.specs.Tables.{pointed_route}
use Rattle.rib_player.specs.Journal.{Side, side_of, sides_of, pairs_in, routes_across}
use Rattle.rib_player.specs.Sides.{sides_across, Mark, mark_of, marks_of, marks_across, releases_claim, any_releases_claim_of}
use Rattle.rib_player.proofs.PairLaws.{same_pair}
use Rattle.rib_player.proofs.JournalLaws.{rest_of_entries, take-through, routes_across-push, sides_across-push, pairs_in-sides_across, get-restored_elsewhere, routes_across-sides_across}
use Rattle.rib_player.proofs.MarkLaws.{tied, pairs_marked, pairs-same, pairs_in-take, distinct-take, distinct-before, marks-more, any_releases_claim_of-push, any_releases_claim_of-named, gives-none}
use Rattle.rib_player.proofs.HeldLaws.{same-key, same-beyond, one-or, put-among, inserted, still-inserted}
use Rattle.rib_player.proofs.ListLaws.{all-then}
use Rattle.rib_player.proofs.journal.apply_entries.Given.{Over}
use Rattle.rib_player.proofs.journal.apply_entries.Goals as goal
use Rattle.rib_player.proofs.journal.apply_entries.Goals.{After-index-entries-made, In-Err}

-- ---- the next entry

abbrev here : (g : Over) (c : After-index-entries-made g) → Entry
here g c = get_or c.entries.entries c.entries.made c.index-entries-made.result

-- is as it was
rest : (g : Over) (c : After-index-entries-made g) → drop c.entries.made c.args.entries.now ≡ here g c ∷ drop (c.entries.made + 1) c.args.entries.now
rest g c = rest_of_entries c.entries.made c.entries.entries c.args.entries.now c.index-entries-made.result (omega arith) c.entries.invariant.unchanged

first_within : (g : Over) (c : After-index-entries-made g) → c.entries.made < length c.args.entries.now
first_within g c = omega (arith, ap length (rest g c), length-drop c.entries.made c.args.entries.now)

head : (g : Over) (c : After-index-entries-made g) → get_or c.args.entries.now c.entries.made (here g c) ≡ here g c
head g c = ap (λ l. get_or l 0 (here g c)) (sym (drop_more c.args.entries.now c.entries.made (here g c) (first_within g c)) ∙ rest g c)

-- its pair is none of those before it
apart : (g : Over) (c : After-index-entries-made g) → list_any (tied (here g c).pair) (pairs_in (sides_of (take c.entries.made c.args.entries.now))) ≡ false
apart g c =
    ap (list_any (tied (here g c).pair)) (sym (pairs-same (take c.entries.made c.args.entries.now)))
    ∙ ap (λ (e : Entry). list_any (tied e.pair) (pairs_marked (marks_of (take c.entries.made c.args.entries.now)))) (sym (head g c))
    ∙ distinct-before c.args.entries.now c.entries.made (here g c) (first_within g c) c.requires.distinct

same_route : (g : Over) (c : After-index-entries-made g) → finite.get c.entries.table.routes (here g c).pair ≡ finite.get c.args.table.now.routes (here g c).pair
same_route g c =
    ap (λ r. finite.get r (here g c).pair) c.entries.invariant.routes
    ∙ get-restored_elsewhere (sides_of (take c.entries.made c.args.entries.now)) c.args.table.now.routes (here g c).pair (apart g c)

-- so the entries so far make no claim of it
unnamed : (g : Over) (c : After-index-entries-made g) → any_releases_claim_of Last (marks_of (take c.entries.made c.entries.entries)) (here g c).pair ≡ false
unnamed g c =
    let marks : List Mark = marks_of (take c.entries.made c.entries.entries) in
    let sides : List Side = sides_of (take c.entries.made c.args.entries.now) in
    let pairs : pairs_marked marks ≡ pairs_in sides = pairs-same (take c.entries.made c.entries.entries) ∙ ap pairs_in c.entries.invariant.crossed ∙ pairs_in-sides_across c.args.table.now.routes sides in
    any_releases_claim_of-named Last marks (here g c).pair (ap (list_any (tied (here g c).pair)) pairs ∙ apart g c)

-- and as many are counted as at first
pub apply_entry-requires-clause-few : goal.apply_entry-requires-clause-few
apply_entry-requires-clause-few g c =
    let b = (goal.at.apply_entry-requires-clause-few g c).After-index-entries-made in
    let q = (here g b).pair in
    let keys = c.args.table.now.keys in
    let beyond = claims_beyond c.args.claims.now in
    let held : held_claims c.entries.table.keys (claims_beyond c.entries.claims) q ≡ held_claims keys beyond q = omega (arith, c.entries.invariant.claimed q, ap one_if (unnamed g b)) in
    omega (arith, same-beyond keys c.entries.table.keys beyond (claims_beyond c.entries.claims) q c.requires.held c.entries.invariant.held held, c.requires.few q)

pub apply_entry-requires-clause-named : goal.apply_entry-requires-clause-named
apply_entry-requires-clause-named g c =
    let b = (goal.at.apply_entry-requires-clause-named g c).After-index-entries-made in
    let routes = c.args.table.now.routes in
    let first = c.args.entries.now in
    let side : Side = side_of (here g b) in
    ap (λ r. is_some r || is_some side.1) (same_route g b)
    ∙ subst (λ (s : Side). (is_some (finite.get routes s.0) || is_some s.1) ≡ true) (get_or-map side_of first c.entries.made (here g b) side (first_within g b) ∙ ap side_of (head g b))
    (AllByRecursion-get_or (λ (s : Side). (is_some (finite.get routes s.0) || is_some s.1) ≡ true) (sides_of first) c.entries.made side (omega (arith, first_within g b, length-map first side_of)) c.requires.named)

-- ---- refused: the entries in front

abbrev front : (g : Over) (c : In-Err g) → List Entry
front g c = take c.entries.made (set c.entries.entries c.entries.made c.apply_entry.new.entry)

abbrev front_first : (g : Over) (c : In-Err g) → List Side
front_first g c = sides_of (take c.entries.made c.args.entries.now)

same_front : (g : Over) (c : In-Err g) → front g c ≡ take c.entries.made c.entries.entries
same_front g c = take-set c.entries.entries c.entries.made c.apply_entry.new.entry

sides_front : (g : Over) (c : In-Err g) → sides_of (front g c) ≡ sides_across c.args.table.now.routes (front_first g c)
sides_front g c = ap sides_of (same_front g c) ∙ c.entries.invariant.crossed

pairs_front : (g : Over) (c : In-Err g) → pairs_in (sides_of (front g c)) ≡ pairs_in (front_first g c)
pairs_front g c = ap pairs_in (sides_front g c) ∙ pairs_in-sides_across c.args.table.now.routes (front_first g c)

-- crossed back, they leave the routes that were there at first
whole : (g : Over) (c : In-Err g) → routes_across (sides_of (front g c)) c.apply_entry.new.table.routes ≡ c.args.table.now.routes
whole g c =
    ap₂ routes_across (sides_front g c) (c.in-Err.ensures.kept ∙ c.entries.invariant.routes)
    ∙ routes_across-sides_across (front_first g c) c.args.table.now.routes

distinct_front : (g : Over) (c : In-Err g) → IsDistinct tied (pairs_in (sides_of (front g c)))
distinct_front g c =
    subst (IsDistinct tied) (sym (pairs_front g c ∙ pairs_in-take c.entries.made c.args.entries.now)) (distinct-take c.entries.made (pairs_in (sides_of c.args.entries.now)) c.requires.distinct)

pub swap_routes-requires : goal.swap_routes-requires
swap_routes-requires g c =
    let b = (goal.at.swap_routes-requires g c).In-Err in
    record {
      distinct = distinct_front g b;
      among_keys = subst (AllByRecursion (λ p. names.contains c.apply_entry.new.table.keys p ≡ true)) (sym (pairs_front g b))
          (all-then (λ p. names.contains c.entries.table.keys p ≡ true) (λ p. names.contains c.apply_entry.new.table.keys p ≡ true) (pairs_in (front_first g b))
          (λ q there. same-key c.entries.table.keys c.apply_entry.new.table.keys (claims_beyond c.entries.claims) (claims_beyond c.apply_entry.new.claims) q c.entries.invariant.held c.in-Err.ensures.held (c.in-Err.ensures.refused q) ∙ there)
          c.entries.invariant.keys);
    }

pub release_claims-requires-clause-distinct : goal.release_claims-requires-clause-distinct
release_claims-requires-clause-distinct g c =
    let b = (goal.at.release_claims-requires-clause-distinct g c).In-Err in
    subst (IsDistinct tied) (sym (ap pairs_in c.swap_routes.ensures.entries ∙ pairs_in-sides_across c.apply_entry.new.table.routes (sides_of (front g b)))) (distinct_front g b)

pub release_claims-requires-clause-free : goal.release_claims-requires-clause-free
release_claims-requires-clause-free g c = λ q gives none.
    let b = (goal.at.release_claims-requires-clause-free g c).In-Err in
    ap (λ r. finite.get r q) (c.swap_routes.ensures.routes ∙ whole g b)
    ∙ gives-none c.args.table.now.routes (front_first g b) q
    (ap (λ ms. any_releases_claim_of Last ms q) (sym (c.swap_routes.ensures.marks ∙ ap marks_of (same_front g b) ∙ c.entries.invariant.marks)) ∙ gives)

pub returns-in-Err-clause-kept : goal.returns-in-Err-clause-kept
returns-in-Err-clause-kept g c = c.release_claims.ensures.routes ∙ c.swap_routes.ensures.routes ∙ whole g (goal.at.returns-in-Err-clause-kept g c).In-Err

-- ---- one entry more

pub entries-preserved : goal.entries-preserved
entries-preserved g c =
    let b = (goal.at.entries-preserved g c).After-index-entries-made in
    let made = c.entries.made in
    let entries = c.entries.entries in
    let first = c.args.entries.now in
    let routes = c.args.table.now.routes in
    let known = c.entries.invariant in
    let within : made < length entries = omega arith in
    let old : Entry = here g b in
    let new = c.apply_entry.new.entry in
    let said = c.in_default-apply_entry.ensures in
    let side_is : side_of new ≡ (old.pair, finite.get c.entries.table.routes old.pair) = ap (λ l. get_or l 0 (side_of new)) said.put.sides in
    let pair = ap (λ (s : Side). s.0) side_is in
    let sides : List Side = sides_of (take made first) in
    let marks : List Mark = marks_of (take made entries) in
    let sides_more : sides_of (take (made + 1) first) ≡ sides ++ side_of old ∷ [] = ap sides_of (take-through made first old (drop (made + 1) first) (rest g b)) ∙ map-append side_of (take made first) (old ∷ []) in
    let marks_more : marks_of (take (made + 1) (set entries made new)) ≡ marks ++ mark_of new ∷ [] = marks-more entries made new within in
    let mark : Side → Mark = λ side. record { pair = side.0; before = is_some (finite.get routes side.0); after = is_some side.1 } in
    let mark_is : mark_of new ≡ mark (side_of old) =
    ap (λ l. get_or l 0 (mark_of new)) said.put.marks ∙ (λ k. record { pair = old.pair; before = is_some (same_route g b k); after = is_some (pointed_route old.other) }) in
    record {
      within = omega (arith, length-set entries made new);
      unchanged = drop-set-lt (made + 1) entries made new (omega arith) ∙ sym (drop-drop 1 made entries) ∙ ap (drop 1) known.unchanged ∙ drop-drop 1 made first;
      keys = subst (λ ss. AllByRecursion (λ p. names.contains c.apply_entry.new.table.keys p ≡ true) (pairs_in ss)) (sym sides_more)
          (subst (AllByRecursion (λ p. names.contains c.apply_entry.new.table.keys p ≡ true)) (sym (map-append (λ (s : Side). s.0) sides (side_of old ∷ [])))
          (AllByRecursion-push (λ p. names.contains c.apply_entry.new.table.keys p ≡ true) (pairs_in sides) old.pair
          (all-then (λ p. names.contains c.entries.table.keys p ≡ true) (λ p. names.contains c.apply_entry.new.table.keys p ≡ true) (pairs_in sides)
          (λ q. still-inserted c.entries.table.keys c.apply_entry.new.table.keys old.pair q said.keys) known.keys)
          (inserted c.entries.table.keys c.apply_entry.new.table.keys old.pair said.keys)));
      among = put-among c.entries.table.keys c.apply_entry.new.table.keys c.entries.table.routes c.apply_entry.new.table.routes old.pair (pointed_route old.other) said.keys said.put.routes known.among;
      held = said.held;
      claimed = λ q.
          let one = ap (λ ms. one_if (any_releases_claim_of Last ms q)) marks_more ∙ ap one_if (any_releases_claim_of-push Last marks (mark_of new) q)
          ∙ one-or (any_releases_claim_of Last marks q) (releases_claim Last (mark_of new) && tied q new.pair) (λ t. ap (any_releases_claim_of Last marks) (same_pair q old.pair (ap (tied q) (sym pair) ∙ (and_parts (releases_claim Last (mark_of new)) (tied q new.pair) t).1)) ∙ unnamed g b) in
          omega (arith, one, said.claimed q, known.claimed q);
      marks = marks_more ∙ ap₂ (λ (ms : List Mark) (m : Mark). ms ++ m ∷ []) known.marks mark_is
          ∙ sym (map-append mark sides (side_of old ∷ [])) ∙ sym (ap (marks_across routes) sides_more);
      routes = said.put.routes ∙ ap (λ r. put r old.pair (pointed_route old.other)) known.routes ∙ sym (routes_across-push sides (side_of old) routes)
          ∙ sym (ap (λ s. routes_across s routes) sides_more);
      crossed = ap sides_of (take_more_set entries made new within) ∙ map-append side_of (take made entries) (new ∷ [])
          ∙ ap₂ (λ (s : List Side) (t : Side). s ++ t ∷ []) known.crossed (side_is ∙ ap (λ r. (old.pair, r)) (same_route g b))
          ∙ sym (sides_across-push sides (side_of old) routes) ∙ sym (ap (sides_across routes) sides_more);
    }
