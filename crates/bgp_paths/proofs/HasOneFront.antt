-- No octets begin with spellings of two numbers or segments, nor spell two paths.
use Rattle.std.proofs.Common.{◌≡◌, ℕ, ◌*◌, ◌<◌, List, [], ◌∷◌, ◌++◌, length, ap, sym, subst, ◌∙◌, arith}
use Rattle.std.specs.Int.{to_be_bytes}
use Rattle.ip_prefix.specs.Sequences.{Begins, SpellsAll}
use Rattle.ip_prefix.specs.Fronts.{IsSelfDelimiting}
use Rattle.octet_forms.proofs.Lists.{append_parts}
use Rattle.octet_forms.proofs.Numbers.{same_w16, same_w32}
use Rattle.octet_forms.proofs.Sequences.{one_list, length_together}
use Rattle.bgp_paths.specs.declared.numbers.AsWidth.{AsWidth}
use Rattle.bgp_paths.specs.declared.numbers.AsWidth.TheVariants.{Two, Four}
use Rattle.bgp_paths.specs.declared.segment.SegmentKind.{SegmentKind}
use Rattle.bgp_paths.specs.declared.segment.Segment.{Segment}
use Rattle.bgp_paths.specs.Path.{asn_bits, asn_size, asn_limit, SpellsAsn, kind_code, SpellsPath, SpellsSegment}
use Rattle.bgp_paths.specs.declared.path.AsPath.{AsPath}

-- ---- numbers

-- how many octets a number takes
pub length-number : (width : AsWidth) (n : ℕ) (octets : List ℕ) → SpellsAsn width n octets → length octets ≡ asn_size width
length-number Two n octets s = ap length s.whole
length-number Four n octets s = ap length s.whole

-- numbers of one width with the same octets are one
same_number : (width : AsWidth) (m n : ℕ) → m < asn_limit width → n < asn_limit width → to_be_bytes (asn_bits width) m ≡ to_be_bytes (asn_bits width) n → m ≡ n
same_number Two m n p q e = same_w16 m n p q e
same_number Four m n p q e = same_w32 m n p q e

pub number_code : (width : AsWidth) → IsSelfDelimiting (SpellsAsn width)
number_code width = record { some = some; same = same }
  where
    some : (n : ℕ) → SpellsAsn width n [] → ⊥
    some n s = let e = length-number width n [] s in grind arith

    same : (a b : ℕ) (x y octets : List ℕ) → Begins (SpellsAsn width) a x octets → Begins (SpellsAsn width) b y octets → (a ≡ b) × (x ≡ y)
    same a b x y octets p q =
        let sizes : length p.front ≡ length q.front = length-number width a p.front p.spelled ∙ sym (length-number width b q.front q.spelled) in
        let parts = append_parts p.front q.front x y sizes (sym p.whole ∙ q.whole) in
        (same_number width a b p.spelled.fits q.spelled.fits (sym p.spelled.whole ∙ parts.0 ∙ q.spelled.whole), parts.1)

-- how many octets numbers take together
pub length-numbers : (width : AsWidth) (ns : List ℕ) (octets : List ℕ) → SpellsAll (SpellsAsn width) ns octets → length octets ≡ asn_size width * length ns
length-numbers width ns octets s = length_together (SpellsAsn width) (asn_size width) (length-number width) ns octets s

-- ---- segments

pub same_kind : (a b : SegmentKind) → kind_code a ≡ kind_code b → a ≡ b
same_kind a b e = grind arith

-- octets that begin with a segment are its kind, its count, its numbers' octets, and the rest
pub segment_begun : (width : AsWidth) (s : Segment) (rest octets : List ℕ) (b : Begins (SpellsSegment width) s rest octets) → octets ≡ kind_code s.kind ∷ length s.numbers ∷ (b.spelled.body ++ rest)
segment_begun width s rest octets b = b.whole ∙ ap (λ l. l ++ rest) b.spelled.whole

pub segment_code : (width : AsWidth) → IsSelfDelimiting (SpellsSegment width)
segment_code width = record { some = some; same = same }
  where
    some : (s : Segment) → SpellsSegment width s [] → ⊥
    some s p = let e = p.whole in cc

    same : (a b : Segment) (x y octets : List ℕ) → Begins (SpellsSegment width) a x octets → Begins (SpellsSegment width) b y octets → (a ≡ b) × (x ≡ y)
    same a b x y octets p q =
        let one : kind_code a.kind ∷ length a.numbers ∷ (p.spelled.body ++ x) ≡ kind_code b.kind ∷ length b.numbers ∷ (q.spelled.body ++ y)
        = sym (segment_begun width a x octets p) ∙ segment_begun width b y octets q in
        let kinds : kind_code a.kind ≡ kind_code b.kind = cc in
        let counts : length a.numbers ≡ length b.numbers = cc in
        let bodies : p.spelled.body ++ x ≡ q.spelled.body ++ y = cc in
        let sizes : length p.spelled.body ≡ length q.spelled.body
        = length-numbers width a.numbers p.spelled.body p.spelled.spelled ∙ ap (λ n. asn_size width * n) counts
        ∙ sym (length-numbers width b.numbers q.spelled.body q.spelled.spelled) in
        let parts = append_parts p.spelled.body q.spelled.body x y sizes bodies in
        let numbers = one_list (SpellsAsn width) (number_code width) q.spelled.body a.numbers b.numbers (subst (SpellsAll (SpellsAsn width) a.numbers) parts.0 p.spelled.spelled) q.spelled.spelled in
        let kind = same_kind a.kind b.kind kinds in
        ((λ i. record { numbers = numbers i; kind = kind i }), parts.1)

-- ---- paths

pub one_path_of : (width : AsWidth) (octets : List ℕ) (path other : AsPath) → SpellsPath width path octets → SpellsPath width other octets → path ≡ other
one_path_of width octets path other s t =
    let segments = one_list (SpellsSegment width) (segment_code width) octets path.segments other.segments s t in
    λ i. record { segments = segments i }
