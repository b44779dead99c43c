-- No octets begin with spellings of two attributes.
use Rattle.std.proofs.Common.{◌≡◌, ℕ, ◌<◌, Bool, true, false, List, [], ◌∷◌, ◌++◌, length, ap, sym, subst, ◌∙◌, append_assoc}
use Rattle.ip_prefix.specs.Sequences.{Begins}
use Rattle.ip_prefix.specs.Fronts.{IsSelfDelimiting}
use Rattle.octet_forms.proofs.Numbers.{one_w16}
use Rattle.octet_forms.proofs.Lists.{append_parts}
use Rattle.bgp_wire.specs.Attribute.{Attribute, is_extended, length_octets, length_limit, SpellsAttribute}

-- ---- attributes

-- octets that begin with an attribute are its flags, its type, its length, its value, and the rest
pub attribute_begun : (a : Attribute) (rest octets : List ℕ) → Begins SpellsAttribute a rest octets → octets ≡ a.flags ∷ a.kind ∷ (length_octets (is_extended a.flags) (length a.value) ++ (a.value ++ rest))
attribute_begun a rest octets b =
    b.whole ∙ ap (λ l. l ++ rest) b.spelled.whole
    ∙ ap (λ l. a.flags ∷ a.kind ∷ l) (append_assoc (length_octets (is_extended a.flags) (length a.value)) a.value rest)

-- octets that begin with a length begin with one alone
pub same_length : (extended : Bool) (m n : ℕ) (x y : List ℕ) → m < length_limit extended → n < length_limit extended → length_octets extended m ++ x ≡ length_octets extended n ++ y → (m ≡ n) × (x ≡ y)
same_length false m n x y p q e =
    let first : m ≡ n = cc in
    let rest : x ≡ y = cc in
    (first, rest)
same_length true m n x y p q e = one_w16 m n x y p q e

pub attribute_code : IsSelfDelimiting SpellsAttribute
attribute_code = record { some = some; same = same }
  where
    some : (a : Attribute) → SpellsAttribute a [] → ⊥
    some a p = let e = p.whole in cc

    same : (a b : Attribute) (x y octets : List ℕ) → Begins SpellsAttribute a x octets → Begins SpellsAttribute b y octets → (a ≡ b) × (x ≡ y)
    same a b x y octets p q =
        let m = length a.value in
        let n = length b.value in
        let one : a.flags ∷ a.kind ∷ (length_octets (is_extended a.flags) m ++ (a.value ++ x)) ≡ b.flags ∷ b.kind ∷ (length_octets (is_extended b.flags) n ++ (b.value ++ y))
        = sym (attribute_begun a x octets p) ∙ attribute_begun b y octets q in
        let flags : a.flags ≡ b.flags = cc in
        let kinds : a.kind ≡ b.kind = cc in
        let bodies : length_octets (is_extended a.flags) m ++ (a.value ++ x) ≡ length_octets (is_extended b.flags) n ++ (b.value ++ y) = cc in
        let forms : is_extended b.flags ≡ is_extended a.flags = ap is_extended (sym flags) in
        let lengths = same_length (is_extended a.flags) m n (a.value ++ x) (b.value ++ y) p.spelled.length_fits
        (subst (λ extended. n < length_limit extended) forms q.spelled.length_fits)
        (bodies ∙ ap (λ extended. length_octets extended n ++ (b.value ++ y)) forms) in
        let parts = append_parts a.value b.value x y lengths.0 lengths.1 in
        ((λ i. record { flags = flags i; kind = kinds i; value = parts.0 i }), parts.1)
