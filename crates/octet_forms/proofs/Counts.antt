-- Values that are counted.
use Rattle.std.proofs.Common.{◌≡◌, ℕ, ◌<◌, ◌^◌, List, [], ◌∷◌, ◌++◌, length, refl, ap, sym, subst, ◌∙◌, arith, append_assoc}
use Rattle.std.specs.Int.{w16, to_be_bytes}
use Rattle.octet_forms.specs.Sequences.{Begins, SpellsAll}
use Rattle.octet_forms.specs.Fronts.{BeginsWithNone, IsSelfDelimiting}
use Rattle.octet_forms.specs.Counted.{SpellsCounted}
use Rattle.octet_forms.proofs.Numbers.{one_w16}

-- ---- with one count

-- octets that begin with spellings begin with that of the first, and then with those of the others
pub in_front : {A : Type 0} (Spells : A → List ℕ → Type 0) (value : A) (values : List A) (rest octets : List ℕ) → Begins (SpellsAll Spells) (value ∷ values) rest octets
    → (more : List ℕ) × Begins Spells value more octets × Begins (SpellsAll Spells) values rest more
in_front Spells value values rest octets b =
    let more = b.spelled.0 in
    let first = b.spelled.1 in (
      more ++ rest,
      record { front = first.front; spelled = first.spelled; whole = b.whole ∙ ap (λ l. l ++ rest) first.whole ∙ append_assoc first.front more rest },
      record { front = more; spelled = b.spelled.2; whole = refl },
    )

-- two lists of one count in front of the same octets are one, and so is what follows them
pub same_counted : {A : Type 0} (Spells : A → List ℕ → Type 0) → IsSelfDelimiting Spells → (values others : List A) (x y octets : List ℕ) → length values ≡ length others
    → Begins (SpellsAll Spells) values x octets → Begins (SpellsAll Spells) others y octets → (values ≡ others) × (x ≡ y)
same_counted Spells code [] [] x y octets e p q =
    (refl, sym (p.whole ∙ ap (λ l. l ++ x) p.spelled) ∙ (q.whole ∙ ap (λ l. l ++ y) q.spelled))
same_counted Spells code [] (b ∷ others) x y octets e p q = absurd (omega (arith, e))
same_counted Spells code (a ∷ values) [] x y octets e p q = absurd (omega (arith, e))
same_counted Spells code (a ∷ values) (b ∷ others) x y octets e p q =
    let s = in_front Spells a values x octets p in
    let t = in_front Spells b others y octets q in
    let one = code.same a b s.0 t.0 octets s.1 t.1 in
    let more = same_counted Spells code values others x y t.0 (omega (arith, e)) (subst (Begins (SpellsAll Spells) values x) one.1 s.2) t.2 in
    ((λ i. one.0 i ∷ more.0 i), more.1)

-- where no value stands in front of what is left before a count is reached, no list of that count is there
pub none_counted : {A : Type 0} (Spells : A → List ℕ → Type 0) → IsSelfDelimiting Spells → (values others : List A) (rest more octets : List ℕ) → length values < length others
    → Begins (SpellsAll Spells) values rest octets → BeginsWithNone Spells rest → Begins (SpellsAll Spells) others more octets → ⊥
none_counted Spells code values [] rest more octets e p none q = absurd (omega (arith, e))
none_counted Spells code [] (b ∷ others) rest more octets e p none q =
    let t = in_front Spells b others more octets q in
    none b t.0 (subst (Begins Spells b t.0) (p.whole ∙ ap (λ l. l ++ rest) p.spelled) t.1)
none_counted Spells code (a ∷ values) (b ∷ others) rest more octets e p none q =
    let s = in_front Spells a values rest octets p in
    let t = in_front Spells b others more octets q in
    let one = code.same a b s.0 t.0 octets s.1 t.1 in
    none_counted Spells code values others rest more t.0 (omega (arith, e)) (subst (Begins (SpellsAll Spells) values rest) one.1 s.2) none t.2

-- ---- behind their number

-- octets that begin with counted values are their number, their spellings, and the rest
pub counted_begun : {A : Type 0} (Spells : A → List ℕ → Type 0) (values : List A) (rest octets : List ℕ) → Begins (SpellsCounted Spells) values rest octets
    → (body : List ℕ) × (octets ≡ to_be_bytes w16 (length values) ++ body) × Begins (SpellsAll Spells) values rest body
counted_begun Spells values rest octets b =
    let s = b.spelled in (
      s.body ++ rest,
      b.whole ∙ ap (λ l. l ++ rest) s.whole ∙ append_assoc (to_be_bytes w16 (length values)) s.body rest,
      record { front = s.body; spelled = s.spelled; whole = refl },
    )

-- no octets begin with two lists of counted values
pub counted_code : {A : Type 0} (Spells : A → List ℕ → Type 0) → IsSelfDelimiting Spells → IsSelfDelimiting (SpellsCounted Spells)
counted_code {A} Spells code = record { some = some; same = same }
  where
    some : (values : List A) → SpellsCounted Spells values [] → ⊥
    some values s = let e = s.whole in cc

    same : (a b : List A) (x y octets : List ℕ) → Begins (SpellsCounted Spells) a x octets → Begins (SpellsCounted Spells) b y octets → (a ≡ b) × (x ≡ y)
    same a b x y octets p q =
        let s = counted_begun Spells a x octets p in
        let t = counted_begun Spells b y octets q in
        let one = one_w16 (length a) (length b) s.0 t.0 p.spelled.fits q.spelled.fits (sym s.1 ∙ t.1) in
        same_counted Spells code a b x y t.0 one.0 (subst (Begins (SpellsAll Spells) a x) one.1 s.2) t.2

-- the values that are read after a count are counted
pub counted : {A : Type 0} (Spells : A → List ℕ → Type 0) (values : List A) (count : ℕ) (rest body octets : List ℕ) → count < 2 ^ 16 → octets ≡ to_be_bytes w16 count ++ body
    → length values ≡ count → Begins (SpellsAll Spells) values rest body → Begins (SpellsCounted Spells) values rest octets
counted Spells values count rest body octets fits e size b = record {
  front = to_be_bytes w16 (length values) ++ b.front;
  spelled = record { fits = omega (arith, fits, size); body = b.front; spelled = b.spelled; whole = refl };
  whole = e ∙ (λ i. to_be_bytes w16 (sym size i) ++ b.whole i) ∙ sym (append_assoc (to_be_bytes w16 (length values)) b.front rest);
}

-- none are where none stands in front of the rest before the count is reached
pub not_counted : {A : Type 0} (Spells : A → List ℕ → Type 0) → IsSelfDelimiting Spells → (values : List A) (count : ℕ) (rest body octets : List ℕ) → count < 2 ^ 16 → octets ≡ to_be_bytes w16 count ++ body
    → length values < count → Begins (SpellsAll Spells) values rest body → BeginsWithNone Spells rest → BeginsWithNone (SpellsCounted Spells) octets
not_counted Spells code values count rest body octets fits e less b none others more s =
    let t = counted_begun Spells others more octets s in
    let one = one_w16 (length others) count t.0 body s.spelled.fits fits (sym t.1 ∙ e) in
    none_counted Spells code values others rest more body (omega (arith, less, one.0)) b none (subst (Begins (SpellsAll Spells) others more) one.1 t.2)
