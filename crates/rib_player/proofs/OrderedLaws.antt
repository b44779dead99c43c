-- Entries in the order of their pairs: of those of a pair the first counts.
use Rattle.std.proofs.Common.{◌≡◌, Bool, true, false, List, [], ◌∷◌, Option, Some, None, refl, sym, ap, ◌∙◌, arith, Ordering, Less}
use Rattle.std.specs.List.{AllByRecursion, dedup, dedup_from, filter}
use Rattle.std.specs.List.Sorted.{IsSortedByKey, IsStableByKey, IsStrictlySortedBy, ties}
use Rattle.std.specs.Ordering.{eq_by_cmp, is_lt, on}
use Rattle.std.specs.Cmp.{on_total}
use Rattle.std.proofs.lemmas.List.Kept.{IsStrictlySortedBy-dedup}
use Rattle.mrt_events.specs.declared.event.Route.{Route}
use Rattle.rib_player.specs.declared.pair.Pair.{Pair}
use Rattle.rib_player.specs.Entries.{Entry}
use Rattle.rib_player.specs.History.{pair_cmp}
use Rattle.rib_player.specs.Tables.{pointed_route}
use Rattle.rib_player.specs.Journal.{sides_of, pairs_in}
use Rattle.rib_player.specs.Changes.{found}
use Rattle.rib_player.proofs.PairLaws.{pair_cmp_total, same_pair}

-- whether two entries are of one pair
abbrev pub of_one_pair : Entry → Entry → Bool
of_one_pair one other = eq_by_cmp pair_cmp one.pair other.pair

-- the order of entries
abbrev entry_cmp : Entry → Entry → Ordering
entry_cmp = on (λ entry. entry.pair) pair_cmp

-- what entries have for a pair
abbrev found_in : List Entry → Pair → Option (Option Route)
found_in entries q = found (sides_of entries) q

-- ---- each pair once

-- what stands for a pair behind an entry of another doesn't change where a further entry of that pair is left out
passed : (q : Pair) (kept left : Entry) (rest : List Entry) → of_one_pair left kept ≡ true → found_in (kept ∷ rest) q ≡ found_in (kept ∷ left ∷ rest) q
passed q kept left rest same = let one = same_pair left.pair kept.pair same in grind arith

found_from : (q : Pair) (kept : Entry) (entries : List Entry) → found_in (dedup_from of_one_pair kept entries) q ≡ found_in (kept ∷ entries) q
found_from q kept [] = refl
found_from q kept (entry ∷ entries) =
    let left = found_from q kept entries in
    let stays = found_from q entry entries in
    let past = passed q kept entry entries in
    grind arith

-- of each pair the first entry stays
pub found-dedup : (q : Pair) (entries : List Entry) → found (sides_of (dedup of_one_pair entries)) q ≡ found (sides_of entries) q
found-dedup q [] = refl
found-dedup q (entry ∷ entries) = found_from q entry entries

-- ---- in order

-- an entry of this pair, to compare others with
abbrev entry_of : Pair → Entry
entry_of q = record { pair = q; other = None; before = false; after = false }

-- whether an entry ties with those of this pair
abbrev tied : Pair → Entry → Bool
tied q = ties (λ (x y : Entry). is_lt (pair_cmp x.pair y.pair)) (entry_of q)

-- entries of one pair tie, and no others
tie : (q : Pair) (entry : Entry) → tied q entry ≡ eq_by_cmp pair_cmp q entry.pair
tie q entry = let turned = pair_cmp_total.antisymm entry.pair q in grind arith

-- what stands for a pair is the first of those that tie with it
abbrev first_of : List Entry → Option (Option Route)
first_of [] = None
first_of (entry ∷ entries) = Some (pointed_route entry.other)

found-tied : (q : Pair) (entries : List Entry) → found_in entries q ≡ first_of (filter (tied q) entries)
found-tied q [] = refl
found-tied q (entry ∷ entries) = grind (arith, found-tied q entries, tie q entry)

-- a stable sort keeps what stands for each pair
pub found-sorted : (q : Pair) (entries sorted : List Entry) → IsStableByKey (λ (entry : Entry). entry.pair) pair_cmp entries sorted
    → found (sides_of sorted) q ≡ found (sides_of entries) q
found-sorted q entries sorted stable = found-tied q sorted ∙ ap first_of (stable (entry_of q)) ∙ sym (found-tied q entries)

-- the pairs of entries that lie above one do so too
above_pairs : (pair : Pair) (entries : List Entry) → AllByRecursion (λ (entry : Entry). pair_cmp pair entry.pair ≡ Less) entries
    → AllByRecursion (λ other. pair_cmp pair other ≡ Less) (pairs_in (sides_of entries))
above_pairs pair [] above = tt
above_pairs pair (entry ∷ entries) above = (above.0, above_pairs pair entries above.1)

strictly_pairs : (entries : List Entry) → IsStrictlySortedBy entry_cmp entries → IsStrictlySortedBy pair_cmp (pairs_in (sides_of entries))
unfolding IsStrictlySortedBy
strictly_pairs [] sorted = tt
strictly_pairs (entry ∷ entries) sorted = (above_pairs entry.pair entries sorted.0, strictly_pairs entries sorted.1)

-- sorted entries of which each pair's is kept once are strictly in order
pub ordered-dedup : (entries : List Entry) → IsSortedByKey (λ (entry : Entry). entry.pair) pair_cmp entries
    → IsStrictlySortedBy pair_cmp (pairs_in (sides_of (dedup of_one_pair entries)))
ordered-dedup entries sorted = strictly_pairs (dedup of_one_pair entries) (IsStrictlySortedBy-dedup (on_total (λ entry. entry.pair) pair_cmp_total) (λ x y. refl) entries sorted)
