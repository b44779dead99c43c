-- Values of two kinds, one behind the other.
use Rattle.std.proofs.Common.{ℕ, List, [], ◌++◌, refl, ap, sym, subst, ◌∙◌, append_assoc, append-nil}
use Rattle.octet_forms.specs.Sequences.{Begins}
use Rattle.octet_forms.specs.Fronts.{BeginsWithNone, HasOneFront, IsSelfDelimiting, IsUnambiguous}
use Rattle.octet_forms.specs.Fields.{SpellsPair, SpellsAfter, SpellsFront}
use Rattle.octet_forms.proofs.Sequences.{longer}

-- ---- in front

-- octets that begin with two values begin with the first, and behind it with the second
pub first_front : {A B : Type 0} (First : A → List ℕ → Type 0) (Second : A → B → List ℕ → Type 0) (values : A × B) (rest octets : List ℕ) → Begins (SpellsPair First Second) values rest octets
    → (more : List ℕ) × Begins First values.0 more octets × Begins (Second values.0) values.1 rest more
first_front First Second values rest octets b =
    let s = b.spelled in (
      s.rest ++ rest,
      subst (Begins First values.0 (s.rest ++ rest)) (sym b.whole) (longer First values.0 s.rest b.front rest s.first),
      record { front = s.rest; spelled = s.second; whole = refl },
    )

-- and with both where they begin so
pub both_front : {A B : Type 0} (First : A → List ℕ → Type 0) (Second : A → B → List ℕ → Type 0) (a : A) (b : B) (more rest octets : List ℕ) → Begins First a more octets → Begins (Second a) b rest more
    → Begins (SpellsPair First Second) (a, b) rest octets
both_front First Second a b more rest octets p q = record {
  front = p.front ++ q.front;
  spelled = record { rest = q.front; first = record { front = p.front; spelled = p.spelled; whole = refl }; second = q.spelled };
  whole = p.whole ∙ ap (λ l. p.front ++ l) q.whole ∙ sym (append_assoc p.front q.front rest);
}

-- no octets begin with two pairs
pub then_front : {A B : Type 0} (First : A → List ℕ → Type 0) (Second : A → B → List ℕ → Type 0) → HasOneFront First → ((a : A) → HasOneFront (Second a)) → HasOneFront (SpellsPair First Second)
then_front First Second one two p q x y octets s t =
    let u = first_front First Second p x octets s in
    let v = first_front First Second q y octets t in
    let firsts = one p.0 q.0 u.0 v.0 octets u.1 v.1 in
    let seconds = two q.0 p.1 q.1 x y v.0
    (subst (λ a. Begins (Second a) p.1 x v.0) firsts.0 (subst (Begins (Second p.0) p.1 x) firsts.1 u.2)) v.2 in
    ((λ i. (firsts.0 i, seconds.0 i)), seconds.1)

-- where the first doesn't stand in front, there are no two
pub none_first : {A B : Type 0} (First : A → List ℕ → Type 0) (Second : A → B → List ℕ → Type 0) (octets : List ℕ) → BeginsWithNone First octets → BeginsWithNone (SpellsPair First Second) octets
none_first First Second octets none values rest b =
    let s = first_front First Second values rest octets b in
    none values.0 s.0 s.1

-- nor are there where the second doesn't stand behind it
pub none_second : {A B : Type 0} (First : A → List ℕ → Type 0) (Second : A → B → List ℕ → Type 0) → HasOneFront First → (a : A) (more octets : List ℕ) → Begins First a more octets
    → BeginsWithNone (Second a) more → BeginsWithNone (SpellsPair First Second) octets
none_second First Second one a more octets p none values rest b =
    let s = first_front First Second values rest octets b in
    let firsts = one values.0 a s.0 more octets s.1 p in
    none values.1 rest (subst (λ f. Begins (Second f) values.1 rest more) firsts.0 (subst (Begins (Second values.0) values.1 rest) firsts.1 s.2))

-- ---- to the end

-- octets that are no front of two values aren't spellings of two
pub one_of_front : {A : Type 0} (Spells : A → List ℕ → Type 0) → HasOneFront Spells → IsUnambiguous Spells
one_of_front Spells one value other octets s t =
    (one value other [] [] octets
    record { front = octets; spelled = s; whole = sym (append-nil octets) }
    record { front = octets; spelled = t; whole = sym (append-nil octets) }).0

-- so with a code
pub one_of_code : {A : Type 0} (Spells : A → List ℕ → Type 0) → IsSelfDelimiting Spells → IsUnambiguous Spells
one_of_code Spells code = one_of_front Spells code.same

-- and with any octets behind them
pub more_one : {A : Type 0} (Spells : A → List ℕ → Type 0) → HasOneFront Spells → IsUnambiguous (SpellsFront Spells)
more_one Spells one a b octets s t = (one a b s.0 t.0 octets s.1 t.1).0

-- no octets are spellings of two pairs
pub then_one : {A B : Type 0} (First : A → List ℕ → Type 0) (Second : A → B → List ℕ → Type 0) → HasOneFront First → ((a : A) → IsUnambiguous (Second a)) → IsUnambiguous (SpellsPair First Second)
then_one First Second one two p q octets s t =
    let firsts = one p.0 q.0 s.rest t.rest octets s.first t.first in
    let seconds = two q.0 p.1 q.1 t.rest (subst (λ a. Second a p.1 t.rest) firsts.0 (subst (Second p.0 p.1) firsts.1 s.second)) t.second in
    λ i. (firsts.0 i, seconds i)

-- nor of two values behind others
pub behind_one : {A B : Type 0} (First : A → List ℕ → Type 0) (Second : A → B → List ℕ → Type 0) → HasOneFront First → ((a : A) → IsUnambiguous (Second a)) → IsUnambiguous (SpellsAfter First Second)
behind_one First Second one two a b octets s t = let same = then_one First Second one two (s.0, a) (t.0, b) octets s.1 t.1 in λ i. (same i).1

-- where no second value is spelled behind the first there are no two
pub none_behind : {A B : Type 0} (First : A → List ℕ → Type 0) (Second : A → B → List ℕ → Type 0) → HasOneFront First → (a : A) (more octets : List ℕ) → Begins First a more octets
    → ((b : B) → Second a b more → ⊥) → (values : A × B) → SpellsPair First Second values octets → ⊥
none_behind First Second one a more octets p none values s =
    let firsts = one values.0 a s.rest more octets s.first p in
    none values.1 (subst (λ f. Second f values.1 more) firsts.0 (subst (Second values.0 values.1) firsts.1 s.second))
