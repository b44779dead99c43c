-- The marks of entries, and what they say of the tables around their steps.
use Rattle.std.proofs.Common.{◌≡◌, ℕ, zero, suc, ◌+◌, ◌<◌, length, take, drop, get_or, set, slice_index_or, append_assoc, Bool, true, false, ◌||◌, ◌&&◌, None, List, [], ◌∷◌, ◌++◌, map, refl, sym, ap, ap₂, ◌∙◌, arith}
use Rattle.std.specs.List.{AllByRecursion, list_any, IsDistinct}
use Rattle.std.specs.Ordering.{eq_by_cmp}
use Rattle.std.specs.Cmp.{eq_by_cmp_equiv}
use Rattle.std.specs.FinMap as finite
use Rattle.std.specs.FinSet as set
use Rattle.std.specs.FinSet.{contains-from_list}
use Rattle.std.proofs.lemmas.List.{take_more, take_more_set, map-append}
use Rattle.std.proofs.lemmas.Map.Keys.{IsDistinct-head, IsDistinct-tail}
use Rattle.std.proofs.Math.Bool.{or-true}
use Rattle.octet_forms.proofs.Lists.{AllByRecursion-take}
use Rattle.rib_player.specs.declared.pair.Pair.{Pair}
use Rattle.rib_player.specs.declared.entry.Step.{Step}
use Rattle.rib_player.specs.declared.entry.JournalEnd.{JournalEnd}
use Rattle.rib_player.specs.declared.entry.JournalEnd.TheVariants.{Last}
use Rattle.rib_player.specs.Entries.{Entry}
use Rattle.rib_player.specs.History.{pair_cmp}
use Rattle.rib_player.specs.Tables.{Routes}
use Rattle.rib_player.specs.Claims.{is_routed}
use Rattle.rib_player.specs.Journal.{Side, sides_of, pairs_in, step_sides}
use Rattle.rib_player.specs.Sides.{Mark, mark_of, marks_of, step_marks, named_by, releases_at, releases_claim, any_releases_claim_of, marks_across, IsMarkOf, AreMarksOf, AreMarksOfSteps}
use Rattle.rib_player.proofs.PairLaws.{pair_cmp_total, same_pair, pair_symm}

abbrev pub tied : Pair → Pair → Bool
tied = eq_by_cmp pair_cmp

pub tied_itself : (q : Pair) → tied q q ≡ true
tied_itself q = (eq_by_cmp_equiv pair_cmp_total).refl q

-- what holds of each pair that is among some holds of all of them
pub all-among : (P : Pair → Type 0) (pairs : List Pair) → ((q : Pair) → list_any (tied q) pairs ≡ true → P q) → AllByRecursion P pairs
all-among P [] have = tt
all-among P (p ∷ pairs) have = (
  have p (ap (λ b. b || list_any (tied p) pairs) (tied_itself p)),
  all-among P pairs (λ q there. have q (ap (λ b. tied q p || b) there ∙ or-true (tied q p))),
)

abbrev pub pairs_marked : List Mark → List Pair
pairs_marked marks = map (λ (m : Mark). m.pair) marks

-- a pair apart from each is not among them
pub none-any : (q : Pair) (pairs : List Pair) → AllByRecursion (λ p. tied q p ≡ false) pairs → list_any (tied q) pairs ≡ false
none-any q [] none = refl
none-any q (p ∷ pairs) none = ap (λ b. b || list_any (tied q) pairs) none.0 ∙ none-any q pairs none.1

-- ---- entries

-- a loop that changes entries one by one has changed one more
pub turn-more : {A : Type 0} (f : Entry → A) (entries : List Entry) (i : ℕ) (new : Entry) (x : A) (xs whole : List A) → i < length entries → f new ≡ x
    → map f (take i entries) ++ x ∷ xs ≡ whole → map f (take (i + 1) (set entries i new)) ++ xs ≡ whole
turn-more f entries i new x xs whole within is before =
    ap (λ es. map f es ++ xs) (take_more_set entries i new within)
    ∙ ap (λ s. s ++ xs) (map-append f (take i entries) (new ∷ []))
    ∙ append_assoc (map f (take i entries)) (f new ∷ []) xs
    ∙ ap (λ y. map f (take i entries) ++ (y ∷ xs)) is
    ∙ before

-- the first of distinct keys are distinct
pub distinct-take : (i : ℕ) (pairs : List Pair) → IsDistinct tied pairs → IsDistinct tied (take i pairs)
unfolding IsDistinct
distinct-take zero pairs all = tt
distinct-take (suc i) [] all = tt
distinct-take (suc i) (p ∷ pairs) all = (AllByRecursion-take (λ q. tied p q ≡ false) i pairs all.0, distinct-take i pairs all.1)

pub pairs_in-take : (i : ℕ) (entries : List Entry) → pairs_in (sides_of (take i entries)) ≡ take i (pairs_in (sides_of entries))
pairs_in-take zero entries = refl
pairs_in-take (suc i) [] = refl
pairs_in-take (suc i) (e ∷ entries) = ap (λ ps. e.pair ∷ ps) (pairs_in-take i entries)

-- the pairs of marks are those of the sides
pub pairs-same : (entries : List Entry) → pairs_marked (marks_of entries) ≡ pairs_in (sides_of entries)
pairs-same [] = refl
pairs-same (e ∷ entries) = ap (λ ps. e.pair ∷ ps) (pairs-same entries)

pub apart-at : (k : Pair) (entries : List Entry) (i : ℕ) (d : Entry) → i < length entries → AllByRecursion (λ p. tied k p ≡ false) (pairs_in (sides_of entries)) → tied k (get_or entries i d).pair ≡ false
apart-at k [] i d within all = absurd (omega arith)
apart-at k (e ∷ entries) zero d within all = all.0
apart-at k (e ∷ entries) (suc i) d within all = apart-at k entries i d (omega arith) all.1

-- an entry's pair is not among those of the entries before it
pub distinct-before : (entries : List Entry) (i : ℕ) (d : Entry) → i < length entries → IsDistinct tied (pairs_in (sides_of entries)) → named_by (marks_of (take i entries)) (get_or entries i d).pair ≡ false
distinct-before [] i d within all = absurd (omega arith)
distinct-before (e ∷ entries) zero d within all = refl
distinct-before (e ∷ entries) (suc i) d within all =
    ap₂ (λ a b. a || b) (pair_symm (get_or entries i d).pair e.pair ∙ apart-at e.pair entries i d (omega arith) (IsDistinct-head tied e.pair (pairs_in (sides_of entries)) all))
    (distinct-before entries i d (omega arith) (IsDistinct-tail tied e.pair (pairs_in (sides_of entries)) all))

pub marks-more : (entries : List Entry) (i : ℕ) (new : Entry) → i < length entries → marks_of (take (i + 1) (set entries i new)) ≡ marks_of (take i entries) ++ mark_of new ∷ []
marks-more entries i new within = ap marks_of (take_more_set entries i new within) ∙ map-append mark_of (take i entries) (new ∷ [])

pub all-front : {X : Type 0} (P : X → Type 0) (xs : List X) (x : X) → AllByRecursion P (xs ++ x ∷ []) → AllByRecursion P xs
all-front P [] x all = tt
all-front P (y ∷ xs) x all = (all.0, all-front P xs x all.1)

pub all-last : {X : Type 0} (P : X → Type 0) (xs : List X) (x : X) → AllByRecursion P (xs ++ x ∷ []) → P x
all-last P [] x all = all.0
all-last P (y ∷ xs) x all = all-last P xs x all.1

pub length-pairs : (entries : List Entry) → length (pairs_in (sides_of entries)) ≡ length entries
length-pairs [] = refl
length-pairs (e ∷ entries) = ap suc (length-pairs entries)

-- a mark more
pub any_releases_claim_of-push : (end : JournalEnd) (marks : List Mark) (m : Mark) (q : Pair) → any_releases_claim_of end (marks ++ m ∷ []) q ≡ (any_releases_claim_of end marks q || (releases_claim end m && tied q m.pair))
any_releases_claim_of-push end [] m q = grind arith
any_releases_claim_of-push end (first ∷ marks) m q = grind (arith, any_releases_claim_of-push end marks m q)

-- a step gives up claims of pairs that it names alone
pub any_releases_claim_of-named : (end : JournalEnd) (marks : List Mark) (q : Pair) → named_by marks q ≡ false → any_releases_claim_of end marks q ≡ false
any_releases_claim_of-named end [] q out = refl
any_releases_claim_of-named end (m ∷ marks) q out = let later = any_releases_claim_of-named end marks q in grind arith

-- ---- marks that are right

-- of a pair on whose sides of a step there is a route on both or on none nothing is given up
same-sides : (end : JournalEnd) (a b : Bool) → a ≡ b → releases_at end a b ≡ false
same-sides end a b e = grind arith

-- what right marks give up is what the tables say of the pairs that they name
gives-named : (end : JournalEnd) (before after : Routes) (marks : List Mark) (q : Pair) → AllByRecursion (IsMarkOf before after) marks
    → any_releases_claim_of end marks q ≡ (named_by marks q && releases_at end (is_routed q before) (is_routed q after))
gives-named end before after [] q all = refl
gives-named end before after (m ∷ marks) q all =
    let one = same_pair q m.pair in
    let later = gives-named end before after marks q all.1 in
    grind (arith, all.0.mark_before, all.0.mark_after)

-- so of all pairs: a dropped step gives up a claim of those that it brings, a forgotten one of those that it clears
pub gives-between : (end : JournalEnd) (before after : Routes) (marks : List Mark) (q : Pair) → AreMarksOf before after marks → any_releases_claim_of end marks q ≡ releases_at end (is_routed q before) (is_routed q after)
gives-between end before after marks q are =
    let named = gives-named end before after marks q are.right in
    let none = same-sides end (is_routed q before) (is_routed q after) in
    let out = are.unnamed q in
    grind arith

-- a pair that is named has a route on one side
pub named-routed : (before after : Routes) (marks : List Mark) (q : Pair) → AllByRecursion (IsMarkOf before after) marks → named_by marks q ≡ true → (is_routed q before || is_routed q after) ≡ true
named-routed before after [] q all there = cc
named-routed before after (m ∷ marks) q all there =
    let one = same_pair q m.pair in
    let later = named-routed before after marks q all.1 in
    grind (arith, all.0.mark_before, all.0.mark_after, all.0.some)

-- ---- marks by step

pub marked-length : (tables : List Routes) (steps : List (List Mark)) → AreMarksOfSteps tables steps → length tables ≡ suc (length steps)
marked-length [] steps all = absurd all
marked-length (last ∷ []) [] all = refl
marked-length (last ∷ []) (marks ∷ steps) all = absurd all
marked-length (before ∷ after ∷ tables) [] all = absurd all
marked-length (before ∷ after ∷ tables) (marks ∷ steps) all = ap suc (marked-length (after ∷ tables) steps all.1)

-- the first steps
pub marked-take : (n : ℕ) (tables : List Routes) (steps : List (List Mark)) → AreMarksOfSteps tables steps → AreMarksOfSteps (take (suc n) tables) (take n steps)
marked-take n [] steps all = absurd all
marked-take zero (last ∷ []) steps all = tt
marked-take zero (before ∷ after ∷ tables) steps all = tt
marked-take (suc n) (last ∷ []) [] all = tt
marked-take (suc n) (last ∷ []) (marks ∷ steps) all = absurd all
marked-take (suc n) (before ∷ after ∷ tables) [] all = absurd all
marked-take (suc n) (before ∷ after ∷ tables) (marks ∷ steps) all = (all.0, marked-take n (after ∷ tables) steps all.1)

-- the last of them
pub marked-last : (tables : List Routes) (steps : List (List Mark)) (gone : List Mark) → AreMarksOfSteps tables (steps ++ gone ∷ [])
    → AreMarksOf (slice_index_or tables (length steps) finite.empty) (slice_index_or tables (suc (length steps)) finite.empty) gone
marked-last [] steps gone all = absurd all
marked-last (last ∷ []) [] gone all = absurd all
marked-last (last ∷ []) (marks ∷ steps) gone all = absurd all
marked-last (before ∷ after ∷ tables) [] gone all = all.0
marked-last (before ∷ after ∷ tables) (marks ∷ steps) gone all = marked-last (after ∷ tables) steps gone all.1

-- one more
pub marked-push : (tables : List Routes) (steps : List (List Mark)) (next : Routes) (marks : List Mark) → AreMarksOfSteps tables steps → AreMarksOf (slice_index_or tables (length steps) finite.empty) next marks
    → AreMarksOfSteps (tables ++ next ∷ []) (steps ++ marks ∷ [])
marked-push [] steps next marks all one = absurd all
marked-push (last ∷ []) [] next marks all one = (one, tt)
marked-push (last ∷ []) (first ∷ steps) next marks all one = absurd all
marked-push (before ∷ after ∷ tables) [] next marks all one = absurd all
marked-push (before ∷ after ∷ tables) (first ∷ steps) next marks all one = (all.0, marked-push (after ∷ tables) steps next marks all.1 one)

-- the first of them, and the others
pub marked-first : (tables : List Routes) (marks : List Mark) (steps : List (List Mark)) → AreMarksOfSteps tables (marks ∷ steps)
    → AreMarksOf (slice_index_or tables 0 finite.empty) (slice_index_or tables 1 finite.empty) marks × AreMarksOfSteps (drop 1 tables) steps
marked-first [] marks steps all = absurd all
marked-first (last ∷ []) marks steps all = absurd all
marked-first (before ∷ after ∷ tables) marks steps all = all

-- a step's pairs are those of its marks
pub step-names : (step : Step) (q : Pair) → set.contains (set.from_list {R = pair_cmp} (pairs_in (step_sides step))) q ≡ named_by (step_marks step) q
step-names step q = contains-from_list pair_cmp_total (pairs_in (step_sides step)) q ∙ ap (list_any (tied q)) (sym (pairs-same step.entries.items))

-- a claim that an entry gives up is given up by its step
pub gives-at : (end : JournalEnd) (entries : List Entry) (i : ℕ) (d : Entry) → i < length entries → releases_claim end (mark_of (get_or entries i d)) ≡ true
    → any_releases_claim_of end (marks_of entries) (get_or entries i d).pair ≡ true
gives-at end [] i d within gives = absurd (omega arith)
gives-at end (e ∷ entries) zero d within gives = let itself = tied_itself e.pair in grind arith
gives-at end (e ∷ entries) (suc i) d within gives = let later = gives-at end entries i d (omega arith) gives in grind arith

-- and not by those before it
pub gives-before : (end : JournalEnd) (entries : List Entry) (i : ℕ) (d : Entry) → i < length entries → IsDistinct tied (pairs_in (sides_of entries))
    → any_releases_claim_of end (marks_of (take i entries)) (get_or entries i d).pair ≡ false
gives-before end entries i d within distinct = any_releases_claim_of-named end (marks_of (take i entries)) (get_or entries i d).pair (distinct-before entries i d within distinct)

-- what the first entries and one more give up
pub gives-more : (end : JournalEnd) (entries : List Entry) (i : ℕ) (e : Entry) (q : Pair) → i < length entries → e ≡ get_or entries i e
    → any_releases_claim_of end (marks_of (take (i + 1) entries)) q ≡ (any_releases_claim_of end (marks_of (take i entries)) q || (releases_claim end (mark_of e) && tied q e.pair))
gives-more end entries i e q within is =
    ap (λ es. any_releases_claim_of end (marks_of es) q) (take_more entries i e within ∙ ap (λ x. take i entries ++ x ∷ []) (sym is))
    ∙ ap (λ ms. any_releases_claim_of end ms q) (map-append mark_of (take i entries) (e ∷ []))
    ∙ any_releases_claim_of-push end (marks_of (take i entries)) (mark_of e) q

-- a pair that a step brings has no route before it
pub gives-none : (routes : Routes) (sides : List Side) (q : Pair) → any_releases_claim_of Last (marks_across routes sides) q ≡ true → finite.get routes q ≡ None
gives-none routes [] q e = cc
gives-none routes (side ∷ sides) q e =
    let later = gives-none routes sides q in
    let one = same_pair q side.0 in
    grind arith
