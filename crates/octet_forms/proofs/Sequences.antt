-- Values spelled one behind the other.
use Rattle.std.proofs.Common.{◌≡◌, ℕ, ◌*◌, List, [], ◌∷◌, ◌++◌, length, refl, ap, sym, subst, ◌∙◌, arith, append_assoc, append-nil, length-append}
use Rattle.octet_forms.specs.Sequences.{Begins, SpellsAll}
use Rattle.octet_forms.specs.Fronts.{BeginsWithNone, IsSelfDelimiting}
use Rattle.octet_forms.proofs.Lists.{nothing_before}

-- ---- one list

-- nothing begins with no spelling
pub never_begins : {A : Type 0} (Spells : A → List ℕ → Type 0) → IsSelfDelimiting Spells → (value : A) (rest octets : List ℕ) → Begins Spells value rest octets → octets ≡ [] → ⊥
never_begins Spells code value rest octets b e =
    code.some value (subst (Spells value) (nothing_before b.front rest (sym e ∙ b.whole)) b.spelled)

-- so no octets are spellings of two lists
pub one_list : {A : Type 0} (Spells : A → List ℕ → Type 0) → IsSelfDelimiting Spells → (octets : List ℕ) (values others : List A)
    → SpellsAll Spells values octets → SpellsAll Spells others octets → values ≡ others
one_list Spells code octets [] [] p q = refl
one_list Spells code octets [] (b ∷ others) p q = absurd (never_begins Spells code b q.0 octets q.1 p)
one_list Spells code octets (a ∷ values) [] p q = absurd (never_begins Spells code a p.0 octets p.1 q)
one_list Spells code octets (a ∷ values) (b ∷ others) p q =
    let one = code.same a b p.0 q.0 octets p.1 q.1 in
    let more = one_list Spells code q.0 values others (subst (SpellsAll Spells values) one.1 p.2) q.2 in
    λ i. one.0 i ∷ more i

-- ---- as far as they have been read

-- octets that begin with a spelling still do with more behind them
pub longer : {A : Type 0} (Spells : A → List ℕ → Type 0) (value : A) (rest octets more : List ℕ) → Begins Spells value rest octets → Begins Spells value (rest ++ more) (octets ++ more)
longer Spells value rest octets more b = record {
  front = b.front;
  spelled = b.spelled;
  whole = ap (λ l. l ++ more) b.whole ∙ append_assoc b.front rest more;
}

-- the spellings of two lists, one behind the other, are those of both
pub both : {A : Type 0} (Spells : A → List ℕ → Type 0) (values others : List A) (front back : List ℕ) → SpellsAll Spells values front → SpellsAll Spells others back → SpellsAll Spells (values ++ others) (front ++ back)
both Spells [] others front back p q = subst (λ l. SpellsAll Spells others (l ++ back)) (sym p) q
both Spells (value ∷ values) others front back p q =
    (p.0 ++ back, longer Spells value p.0 front back p.1, both Spells values others p.0 back p.2 q)

-- one value is spelled alone as in a list
pub alone : {A : Type 0} (Spells : A → List ℕ → Type 0) (value : A) (octets : List ℕ) → Spells value octets → SpellsAll Spells (value ∷ []) octets
alone Spells value octets s = ([], record { front = octets; spelled = s; whole = sym (append-nil octets) }, refl)

-- with one more value read, as much more is done
pub one_more : {A : Type 0} (Spells : A → List ℕ → Type 0) (values : List A) (value : A) (more rest octets : List ℕ) → Begins (SpellsAll Spells) values rest octets → Begins Spells value more rest
    → Begins (SpellsAll Spells) (values ++ value ∷ []) more octets
one_more Spells values value more rest octets b c = record {
  front = b.front ++ c.front;
  spelled = both Spells values (value ∷ []) b.front c.front b.spelled (alone Spells value c.front c.spelled);
  whole = b.whole ∙ ap (λ l. b.front ++ l) c.whole ∙ sym (append_assoc b.front c.front more);
}

-- a list that is spelled by octets which others begin goes on after those
after : {A : Type 0} (Spells : A → List ℕ → Type 0) → IsSelfDelimiting Spells → (values others : List A) (front rest : List ℕ) → SpellsAll Spells values front → SpellsAll Spells others (front ++ rest)
    → (more : List A) × SpellsAll Spells more rest
after Spells code [] others front rest p q = (others, subst (λ l. SpellsAll Spells others (l ++ rest)) p q)
after Spells code (value ∷ values) [] front rest p q =
    absurd (never_begins Spells code value (p.0 ++ rest) (front ++ rest) (longer Spells value p.0 front rest p.1) q)
after Spells code (value ∷ values) (other ∷ others) front rest p q =
    let one = code.same value other (p.0 ++ rest) q.0 (front ++ rest) (longer Spells value p.0 front rest p.1) q.1 in
    after Spells code values others p.0 rest p.2 (subst (SpellsAll Spells others) (sym one.1) q.2)

-- and it is those and more
pub goes_on : {A : Type 0} (Spells : A → List ℕ → Type 0) → IsSelfDelimiting Spells → (values others : List A) (rest octets : List ℕ) → Begins (SpellsAll Spells) values rest octets → SpellsAll Spells others octets
    → (more : List A) × (others ≡ values ++ more)
goes_on Spells code values others rest octets b s =
    let left = after Spells code values others b.front rest b.spelled (subst (SpellsAll Spells others) b.whole s) in
    let whole = subst (SpellsAll Spells (values ++ left.0)) (sym b.whole) (both Spells values left.0 b.front rest b.spelled left.1) in
    (left.0, one_list Spells code octets others (values ++ left.0) s whole)

-- where nothing is left, a list that was read is all
pub all_read : {A : Type 0} (Spells : A → List ℕ → Type 0) (values : List A) (rest octets : List ℕ) → Begins (SpellsAll Spells) values rest octets → rest ≡ [] → SpellsAll Spells values octets
all_read Spells values rest octets b e = subst (SpellsAll Spells values) (sym (b.whole ∙ ap (λ l. b.front ++ l) e ∙ append-nil b.front)) b.spelled

-- where no value stands in front of what is left, and something is, no list is spelled
pub none_at_all : {A : Type 0} (Spells : A → List ℕ → Type 0) → IsSelfDelimiting Spells → (values : List A) (rest octets : List ℕ) → (rest ≡ [] → ⊥) → Begins (SpellsAll Spells) values rest octets
    → BeginsWithNone Spells rest → (others : List A) → SpellsAll Spells others octets → ⊥
none_at_all {A} Spells code values rest octets some b none others s =
    let left = after Spells code values others b.front rest b.spelled (subst (SpellsAll Spells others) b.whole s) in
    refused left.0 left.1
  where
    refused : (more : List A) → SpellsAll Spells more rest → ⊥
    refused [] e = some e
    refused (value ∷ more) t = none value t.0 t.1

-- values that take so many octets each take as many together
pub length_together : {A : Type 0} (Spells : A → List ℕ → Type 0) (size : ℕ) → ((value : A) (octets : List ℕ) → Spells value octets → length octets ≡ size) → (values : List A) (octets : List ℕ)
    → SpellsAll Spells values octets → length octets ≡ size * length values
length_together Spells size each [] octets s = ap length s ∙ omega arith
length_together Spells size each (value ∷ values) octets s =
    let first = each value s.1.front s.1.spelled in
    let others = length_together Spells size each values s.0 s.2 in
    omega (arith, ap length s.1.whole, length-append s.1.front s.0, first, others)
