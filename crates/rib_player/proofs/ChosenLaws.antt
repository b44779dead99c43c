-- What is known of numbers and their places.
use Rattle.std.proofs.Common.{◌≡◌, ◌≢◌, ℕ, zero, suc, ◌+◌, ◌<◌, ◌≤◌, Bool, true, false, nat_lt, List, [], ◌∷◌, ◌++◌, map, set, take, length, Option, Some, None, slice_get, refl, sym, ap, ◌∙◌, inl, inr, arith, option_map}
use Rattle.std.proofs.lemmas.Bool.{cases_eq, lt-ltb, le-ltb, ltb-true}
use Rattle.std.proofs.lemmas.Bool.Decides.{nat_tests}
use Rattle.std.proofs.lemmas.List.{length-set, length-map, length_push, length-take, map-append}
use Rattle.std.proofs.lemmas.Option.{slice_get_within, slice_get-map, slice_get_past, get_or_from_slice_get, same_Some}
use Rattle.rib_player.specs.Indices.{PointsBack, AreInverse, IsSetAt, IsSwapRemoved, ContainsEachChosen, swapped_index}
use Rattle.rib_player.proofs.ListLaws.{get-set_same, get-set_other, get-push_last, get-push_other, get-past}

-- ---- what changes places

changed-one : (one other : ℕ) → swapped_index one other one ≡ other
changed-one one other = grind (arith, nat_tests)

changed-other : (one other : ℕ) → swapped_index one other other ≡ one
changed-other one other = grind (arith, nat_tests)

changed-none : (one other n : ℕ) → n ≢ one → n ≢ other → swapped_index one other n ≡ n
changed-none one other n not_one not_other = grind (arith, nat_tests)

-- two places are written
abbrev pub both_set : List ℕ → ℕ → ℕ → ℕ → ℕ → List ℕ
both_set xs one second other first = set (set xs one second) other first

module _ (xs ys : List ℕ) (tells : PointsBack xs ys) where
  -- one thing doesn't stand at two places
  one_place : (i j k : ℕ) → slice_get xs i ≡ Some k → slice_get xs j ≡ Some k → i ≡ j
  one_place i j k is is' = same_Some i j (sym (tells i k is) ∙ tells j k is')

  tells-exchanged : PointsBack ys xs → (one other first second : ℕ) → slice_get xs one ≡ Some first → slice_get xs other ≡ Some second
      → PointsBack (both_set xs one second other first) (both_set ys second one first other)
  tells-exchanged back one other first second at_one at_other i j is =
      let xs1 = set xs one second in
      let ys1 = set ys second one in
      let other_within : other < length xs1 = omega (arith, slice_get_within xs other second at_other, length-set xs one second) in
      let first_within : first < length ys1 = omega (arith, slice_get_within ys first one (tells one first at_one), length-set ys second one) in
      elim (cases_eq i other) [
        | inl here ↦
            let what : first ≡ j = same_Some first j (sym (get-set_same xs1 other first other_within) ∙ ap (slice_get (set xs1 other first)) (sym here) ∙ is) in
            ap (slice_get (set ys1 first other)) (sym what) ∙ get-set_same ys1 first other first_within ∙ ap Some (sym here)
        | inr not_other ↦ elim (cases_eq i one) [
          | inl here ↦
              let what : second ≡ j = same_Some second j (sym (get-set_same xs one second (slice_get_within xs one first at_one)) ∙ ap (slice_get xs1) (sym here) ∙ sym (get-set_other xs1 other i first not_other) ∙ is) in
              let apart : second ≢ first = λ same. not_other (here ∙ one_place one other first at_one (at_other ∙ ap Some same)) in
              ap (slice_get (set ys1 first other)) (sym what) ∙ get-set_other ys1 first second other apart
              ∙ get-set_same ys second one (slice_get_within ys second other (tells other second at_other)) ∙ ap Some (sym here)
          | inr not_one ↦
              let was : slice_get xs i ≡ Some j = sym (get-set_other xs1 other i first not_other ∙ get-set_other xs one i second not_one) ∙ is in
              let not_first : j ≢ first = λ same. not_one (one_place i one first (was ∙ ap Some same) at_one) in
              let not_second : j ≢ second = λ same. not_other (one_place i other second (was ∙ ap Some same) at_other) in
              get-set_other ys1 first j other not_first ∙ get-set_other ys second j one not_second ∙ tells i j was
        ]
      ]

module _ {xs ys : List ℕ} (inverse : AreInverse xs ys) where
  pub told-within : (i j : ℕ) → slice_get xs i ≡ Some j → j < length ys
  told-within i j is = slice_get_within ys j i (inverse.there i j is)

  pub turned : AreInverse ys xs
  turned = record { there = inverse.back; back = inverse.there; even = sym inverse.even }

  module _ (one other : ℕ) {first second : ℕ} (at_one : slice_get xs one ≡ Some first) (at_other : slice_get xs other ≡ Some second) where
    pub inverse-exchanged : AreInverse (both_set xs one second other first) (both_set ys second one first other)
    inverse-exchanged = record {
      there = tells-exchanged xs ys inverse.there inverse.back one other first second at_one at_other;
      back = tells-exchanged ys xs inverse.back inverse.there second first other one (inverse.there other second at_other) (inverse.there one first at_one);
      even = length-set (set xs one second) other first ∙ length-set xs one second ∙ inverse.even ∙ sym (length-set (set ys second one) first other ∙ length-set ys second one);
    }

    pub exchanged-at : (n : ℕ) → slice_get (both_set xs one second other first) (swapped_index one other n) ≡ slice_get xs n
    exchanged-at n =
        let xs1 = set xs one second in
        let other_within : other < length xs1 = omega (arith, slice_get_within xs other second at_other, length-set xs one second) in
        elim (cases_eq n one) [
          | inl here ↦
              ap (slice_get (set xs1 other first)) (ap (swapped_index one other) here ∙ changed-one one other) ∙ get-set_same xs1 other first other_within ∙ sym at_one ∙ ap (slice_get xs) (sym here)
          | inr not_one ↦ elim (cases_eq n other) [
            | inl here ↦
                ap (slice_get (set xs1 other first)) (ap (swapped_index one other) here ∙ changed-other one other)
                ∙ get-set_other xs1 other one first (λ same. not_one (here ∙ sym same)) ∙ get-set_same xs one second (slice_get_within xs one first at_one)
                ∙ sym at_other ∙ ap (slice_get xs) (sym here)
            | inr not_other ↦
                ap (slice_get (set xs1 other first)) (changed-none one other n not_one not_other) ∙ get-set_other xs1 other n first not_other ∙ get-set_other xs one n second not_one
          ]
        ]

-- ---- which are chosen

-- whether each of these places is among so many
abbrev pub in_front : ℕ → List ℕ → List Bool
in_front count places = map (λ place. nat_lt place count) places

front-at : (count : ℕ) (places : List ℕ) (n place : ℕ) → slice_get places n ≡ Some place → slice_get (in_front count places) n ≡ Some (nat_lt place count)
front-at count places n place is = slice_get-map (λ place. nat_lt place count) places n ∙ ap (option_map (λ place. nat_lt place count)) is

-- what a choice says of the place
pub told-choice : (count : ℕ) (places : List ℕ) (n place : ℕ) (is : Bool) → slice_get places n ≡ Some place → slice_get (in_front count places) n ≡ Some is → nat_lt place count ≡ is
told-choice count places n place is at told = same_Some (nat_lt place count) is (sym (front-at count places n place at) ∙ told)

pub told-place : (count : ℕ) (places : List ℕ) (n : ℕ) (is : Bool) → slice_get (in_front count places) n ≡ Some is → n < length places
told-place count places n is told = omega (arith, slice_get_within (in_front count places) n is told, length-map places (λ place. nat_lt place count))

-- where something stands
pub some_place : (places : List ℕ) (n : ℕ) → n < length places → (place : ℕ) × (slice_get places n ≡ Some place)
some_place [] n within = absurd (omega (arith, within))
some_place (p ∷ places) zero within = (p, refl)
some_place (p ∷ places) (suc n) within = some_place places n (omega (arith, within))

module _ {numbers places numbers' places' : List ℕ} (inverse : AreInverse numbers places) (inverse' : AreInverse numbers' places') (one other : ℕ)
    (moved : (n : ℕ) → slice_get numbers' (swapped_index one other n) ≡ slice_get numbers n) where
  -- a place has changed with another
  pub place-after : (n place : ℕ) → slice_get places n ≡ Some place → slice_get places' n ≡ Some (swapped_index one other place)
  place-after n place is = inverse'.there (swapped_index one other place) n (moved place ∙ inverse.back n place is)

  module _ (len : length places' ≡ length places) (number place : ℕ) (at : slice_get places number ≡ Some place) where
    -- two numbers don't stand at one place
    pub place-differs : (n p : ℕ) → n ≢ number → slice_get places n ≡ Some p → p ≢ place
    place-differs n p differs is same = differs (same_Some n number (sym (inverse.back n p is) ∙ ap (slice_get numbers) same ∙ inverse.back number place at))

    replaced-within : (count count' : ℕ) → ((p : ℕ) → p ≢ place → nat_lt (swapped_index one other p) count' ≡ nat_lt p count)
        → (n : ℕ) → n ≢ number → slice_get (in_front count' places') n ≡ slice_get (in_front count places) n
    replaced-within count count' others n differs = at_last (slice_get places n) refl
      where
        at_last : (o : Option ℕ) → slice_get places n ≡ o → slice_get (in_front count' places') n ≡ slice_get (in_front count places) n
        at_last (Some p) is =
            front-at count' places' n (swapped_index one other p) (place-after n p is) ∙ ap Some (others p (place-differs n p differs is)) ∙ sym (front-at count places n p is)
        at_last None is =
            slice_get_past (in_front count' places') n (omega (arith, get-past places n is, len, length-map places' (λ place. nat_lt place count')))
            ∙ sym (slice_get_past (in_front count places) n (omega (arith, get-past places n is, length-map places (λ place. nat_lt place count))))

    pub replaced : (count count' : ℕ) (is : Bool) → nat_lt (swapped_index one other place) count' ≡ is
        → ((p : ℕ) → p ≢ place → nat_lt (swapped_index one other p) count' ≡ nat_lt p count) → IsSetAt (in_front count places) (in_front count' places') number is
    replaced count count' is here others = record {
      here = front-at count' places' number (swapped_index one other place) (place-after number place at) ∙ ap Some here;
      others = replaced-within count count' others;
      len = length-map places' (λ place. nat_lt place count') ∙ len ∙ sym (length-map places (λ place. nat_lt place count));
    }

-- the first behind, and the last in front
pub first-more : (place count : ℕ) → nat_lt (swapped_index place count place) (count + 1) ≡ true
first-more place count = ap (λ n. nat_lt n (count + 1)) (changed-one place count) ∙ lt-ltb count (count + 1) (omega arith)

pub last-less : (place count : ℕ) → nat_lt (swapped_index place count place) count ≡ false
last-less place count = ap (λ n. nat_lt n count) (changed-one place count) ∙ le-ltb count count (omega arith)

-- one more stands in front, or one less
pub front-more : (place count : ℕ) → count ≤ place → (p : ℕ) → p ≢ place → nat_lt (swapped_index place count p) (count + 1) ≡ nat_lt p count
front-more place count behind p differs = elim (cases_eq p count) [
  | inl here ↦
      let apart : place ≢ count = λ same. differs (here ∙ sym same) in
      ap (λ n. nat_lt n (count + 1)) (ap (swapped_index place count) here ∙ changed-other place count)
      ∙ le-ltb place (count + 1) (omega (arith, behind, apart)) ∙ sym (le-ltb p count (omega (arith, here)))
  | inr not_count ↦ ap (λ n. nat_lt n (count + 1)) (changed-none place count p differs not_count) ∙ grind (arith, nat_tests, not_count)
]

pub front-less : (place count : ℕ) → place < count + 1 → (p : ℕ) → p ≢ place → nat_lt (swapped_index place count p) count ≡ nat_lt p (count + 1)
front-less place count before p differs = elim (cases_eq p count) [
  | inl here ↦
      let apart : place ≢ count = λ same. differs (here ∙ sym same) in
      ap (λ n. nat_lt n count) (ap (swapped_index place count) here ∙ changed-other place count)
      ∙ lt-ltb place count (omega (arith, before, apart)) ∙ sym (lt-ltb p (count + 1) (omega (arith, here)))
  | inr not_count ↦ ap (λ n. nat_lt n count) (changed-none place count p differs not_count) ∙ grind (arith, nat_tests, not_count)
]

-- ---- a number that is taken out

get-take : {X : Type 0} (n : ℕ) (xs : List X) (i : ℕ) → i < n → slice_get (take n xs) i ≡ slice_get xs i
get-take zero xs i within = absurd (omega (arith, within))
get-take (suc n) [] i within = refl
get-take (suc n) (x ∷ xs) zero within = refl
get-take (suc n) (x ∷ xs) (suc i) within = get-take n xs i (omega (arith, within))

-- where the last one stands last
tells-popped : (xs ys : List ℕ) → PointsBack xs ys → (end : ℕ) → length ys ≡ end + 1 → slice_get xs end ≡ Some end → PointsBack (take end xs) (take end ys)
tells-popped xs ys tells end len last i j is =
    let within : i < end = omega (arith, slice_get_within (take end xs) i j is, length-take end xs) in
    let was : slice_get xs i ≡ Some j = sym (get-take end xs i within) ∙ is in
    let not_last : j ≢ end = λ same. absurd (omega (arith, within, one_place xs ys tells i end end (was ∙ ap Some same) last)) in
    get-take end ys j (omega (arith, slice_get_within ys j i (tells i j was), len, not_last)) ∙ tells i j was

module _ {numbers places numbers1 places1 numbers2 places2 : List ℕ} (inverse : AreInverse numbers places) (inverse1 : AreInverse numbers1 places1) (inverse2 : AreInverse places2 numbers2)
    (number place end : ℕ) (at : slice_get places number ≡ Some place) (len : length places ≡ end + 1) (len1 : length places1 ≡ length places) (len2 : length places2 ≡ length places)
    (moved : (n : ℕ) → slice_get numbers1 (swapped_index place end n) ≡ slice_get numbers n) (renamed : (n : ℕ) → slice_get places2 (swapped_index number end n) ≡ slice_get places1 n) where
  last-there : slice_get places2 end ≡ Some end
  last-there = ap (slice_get places2) (sym (changed-one number end)) ∙ renamed number ∙ place-after inverse inverse1 place end moved number place at ∙ ap Some (changed-one place end)

  pub inverse-left : AreInverse (take end numbers2) (take end places2)
  inverse-left = record {
    there = tells-popped numbers2 places2 inverse2.back end (len2 ∙ len) (inverse2.there end end last-there);
    back = tells-popped places2 numbers2 inverse2.there end (sym inverse2.even ∙ len2 ∙ len) last-there;
    even = omega (arith, length-take end numbers2, length-take end places2, inverse2.even);
  }

  module _ (count : ℕ) (behind : count ≤ place) where
    -- a number that stays is chosen as before
    stays : (n : ℕ) → n ≢ number → n < length places → slice_get (in_front count places1) n ≡ slice_get (in_front count places) n
    stays n differs within =
        let p = some_place places n within in
        front-at count places1 n (swapped_index place end p.0) (place-after inverse inverse1 place end moved n p.0 p.1)
        ∙ ap Some (same p.0 (place-differs inverse inverse1 place end moved len1 number place at n p.0 differs p.1)) ∙ sym (front-at count places n p.0 p.1)
      where
        same : (p : ℕ) → p ≢ place → nat_lt (swapped_index place end p) count ≡ nat_lt p count
        same p not_this = elim (cases_eq p end) [
          | inl here ↦
              let last : place < end + 1 = omega (arith, slice_get_within numbers place number (inverse.back number place at), inverse.even, len) in
              ap (λ n. nat_lt n count) (ap (swapped_index place end) here ∙ changed-other place end)
              ∙ le-ltb place count behind ∙ sym (le-ltb p count (omega (arith, here, last, behind)))
          | inr not_last ↦ ap (λ n. nat_lt n count) (changed-none place end p not_this not_last)
        ]

    after : (n m : ℕ) → n < end → swapped_index number end m ≡ n → slice_get (in_front count (take end places2)) n ≡ slice_get (in_front count places1) m
    after n m within is =
        slice_get-map (λ place. nat_lt place count) (take end places2) n
        ∙ ap (option_map (λ place. nat_lt place count)) (get-take end places2 n within ∙ ap (slice_get places2) (sym is) ∙ renamed m)
        ∙ sym (slice_get-map (λ place. nat_lt place count) places1 m)

    many : length (in_front count (take end places2)) ≡ end
    many = length-map (take end places2) (λ place. nat_lt place count) ∙ omega (arith, length-take end places2, len2, len)

    pub swapped-front : IsSwapRemoved (in_front count places) (in_front count (take end places2)) number
    swapped-front = record {
      len = omega (arith, many, len, length-map places (λ place. nat_lt place count));
      last = λ within.
          let below : number < end = omega (arith, within, many) in
          let apart : end ≢ number = λ same. absurd (omega (arith, same, below)) in
          after number end below (changed-other number end) ∙ stays end apart (omega (arith, len)) ∙ ap (slice_get (in_front count places)) (sym many);
      others = λ n differs within.
          let below : n < end = omega (arith, within, many) in
          let apart : n ≢ end = λ same. absurd (omega (arith, same, below)) in
          after n n below (changed-none number end n differs apart) ∙ stays n differs (omega (arith, len, below));
    }

-- one that was written, and then taken out
pub replaced-swapped : {X : Type 0} {old between new : List X} {i : ℕ} {x : X} → IsSetAt old between i x → IsSwapRemoved between new i → IsSwapRemoved old new i
replaced-swapped {old = old} {new = new} {i = i} written out = record {
  len = out.len ∙ written.len;
  last = λ within. out.last within ∙ written.others (length new) (λ same. absurd (omega (arith, same, within)));
  others = λ j differs within. out.others j differs within ∙ written.others j differs;
}

-- ---- a number that is added, and those in front

tells-more : (xs ys : List ℕ) → PointsBack xs ys → (n : ℕ) → n ≡ length xs → length xs ≡ length ys → PointsBack (xs ++ n ∷ []) (ys ++ n ∷ [])
tells-more xs ys tells n many even i j is = elim (cases_eq i (length xs)) [
  | inl last ↦
      let what : n ≡ j = same_Some n j (sym (get-push_last xs n) ∙ ap (slice_get (xs ++ n ∷ [])) (sym last) ∙ is) in
      ap (slice_get (ys ++ n ∷ [])) (sym what ∙ many ∙ even) ∙ get-push_last ys n ∙ ap Some (many ∙ sym last)
  | inr differs ↦
      let within = slice_get_within (xs ++ n ∷ []) i j is in
      let was : slice_get xs i ≡ Some j = sym (get-push_other xs n i (omega (arith, within, differs, length_push xs n))) ∙ is in
      get-push_other ys n j (slice_get_within ys j i (tells i j was)) ∙ tells i j was
]

pub inverse-more : {numbers places : List ℕ} → AreInverse numbers places → (n : ℕ) → n ≡ length numbers → AreInverse (numbers ++ n ∷ []) (places ++ n ∷ [])
inverse-more {numbers = numbers} {places = places} inverse n many = record {
  there = tells-more numbers places inverse.there n many inverse.even;
  back = tells-more places numbers inverse.back n (many ∙ inverse.even) (sym inverse.even);
  even = omega (arith, inverse.even, length_push numbers n, length_push places n);
}

pub front-added : (count : ℕ) (places places' : List ℕ) (n : ℕ) → places' ≡ places ++ n ∷ [] → count ≤ n → in_front count places' ≡ in_front count places ++ false ∷ []
front-added count places places' n is behind =
    ap (in_front count) is ∙ map-append (λ place. nat_lt place count) places (n ∷ []) ∙ ap (λ b. in_front count places ++ b ∷ []) (le-ltb n count behind)

-- those in front are listed
pub front-listed : (count : ℕ) {numbers places : List ℕ} → AreInverse numbers places → ContainsEachChosen (in_front count places) (take count numbers)
front-listed count {numbers = numbers} {places = places} inverse n told =
    let p = some_place places n (told-place count places n true told) in
    let before = ltb-true p.0 count (told-choice count places n p.0 true p.1 told) in
    let there = inverse.back n p.0 p.1 in
    let within = slice_get_within numbers p.0 n there in (
      p.0,
      omega (arith, length-take count numbers, before, within),
      get_or_from_slice_get (take count numbers) p.0 n n (get-take count numbers p.0 before ∙ there),
    )
