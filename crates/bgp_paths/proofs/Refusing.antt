-- What is refused when a part of it is.
use Rattle.std.proofs.Common.{◌≡◌, ℕ, ◌*◌, IfErr, IsErrAnd, Option, Some, None, Result, Ok, Err, List, [], ◌∷◌, ◌++◌, length, get_or, drop, refl, ap, sym, subst, ◌∙◌, arith}
use Rattle.ip_prefix.specs.Sequences.{Begins, SpellsAll}
use Rattle.ip_prefix.specs.Fronts.{IsSelfDelimiting}
use Rattle.octet_forms.proofs.Lists.{append_parts}
use Rattle.octet_forms.proofs.Sequences.{none_at_all}
use Rattle.bgp_paths.specs.declared.fault.WireFault.{WireFault}
use Rattle.bgp_paths.specs.declared.fault.WireFault.TheVariants.{Malformed, Memory}
use Rattle.bgp_paths.specs.declared.numbers.AsWidth.{AsWidth}
use Rattle.bgp_paths.specs.declared.segment.SegmentKind.{SegmentKind}
use Rattle.bgp_paths.specs.declared.segment.Segment.{Segment}
use Rattle.bgp_paths.specs.Path.{asn_size, SpellsAsn, kind_code, SpellsSegment}
use Rattle.bgp_paths.specs.Readers.{IsSplitSegment, ParsesTo, Refuses, MayRefuseFront}
use Rattle.bgp_paths.proofs.HasOneFront.{segment_code, segment_begun, length-numbers}

-- what is found by a part is found by the whole, where the two spell the same values
pub finds_whole : {A C D : Type 0} (Part : A → D → Type 0) (Whole : A → C → Type 0) (part : D) (octets : C) (answer : Option A)
    → ((a : A) → Part a part → Whole a octets) → ((a : A) → Whole a octets → Part a part) → ParsesTo Part part answer → ParsesTo Whole octets answer
finds_whole Part Whole part octets None up down h = λ a s. h a (down a s)
finds_whole Part Whole part octets (Some a) up down h = up a h

-- a value has a part that the other octets spell, so where none is spelled by those it isn't there
pub refused_part : {A B C D : Type 0} (Whole : A → C → Type 0) (Part : B → D → Type 0) (octets : C) (part : D) (fault : WireFault)
    → ((value : A) → Whole value octets → (b : B) × Part b part) → Refuses Part part fault → Refuses Whole octets fault
refused_part Whole Part octets part Malformed has none = λ value s. none (has value s).0 (has value s).1
refused_part Whole Part octets part Memory has none = tt

-- and the fault is handed on
pub refused_on : {A B C D R : Type 0} (Whole : A → C → Type 0) (Part : B → D → Type 0) (octets : C) (part : D) (fault : WireFault) (answer : Result R WireFault) → IsErrAnd answer (λ y. y ≡ fault)
    → ((value : A) → Whole value octets → (b : B) × Part b part) → Refuses Part part fault → IfErr answer (Refuses Whole octets)
refused_on Whole Part octets part fault (Ok r) e has none = tt
refused_on Whole Part octets part fault (Err y) e has none = refused_part Whole Part octets part y has (subst (Refuses Part part) (sym e) none)

-- where no value is spelled, every fault may be answered
pub refused_always : {A C : Type 0} (Spells : A → C → Type 0) (octets : C) (fault : WireFault) → ((value : A) → Spells value octets → ⊥) → Refuses Spells octets fault
refused_always Spells octets Malformed none = none
refused_always Spells octets Memory none = tt

-- where no value stands in front of what is left of a list, no list is spelled
pub refused_rest : {A : Type 0} (Spells : A → List ℕ → Type 0) → IsSelfDelimiting Spells → (values : List A) (rest octets : List ℕ) (fault : WireFault) → (rest ≡ [] → ⊥) → Begins (SpellsAll Spells) values rest octets
    → MayRefuseFront Spells rest fault → Refuses (SpellsAll Spells) octets fault
refused_rest Spells code values rest octets Malformed some b none = none_at_all Spells code values rest octets some b none
refused_rest Spells code values rest octets Memory some b none = tt

-- a segment in front has the numbers that stand where it is framed
numbers_framed : (width : AsWidth) (kind : SegmentKind) (count : ℕ) (body rest octets : List ℕ) → IsSplitSegment width kind count body rest octets
    → (segment : Segment) (more : List ℕ) → Begins (SpellsSegment width) segment more octets → SpellsAll (SpellsAsn width) segment.numbers body
numbers_framed width kind count body rest octets f segment more b =
    let s = b.spelled in
    let one : kind_code kind ∷ count ∷ (body ++ rest) ≡ kind_code segment.kind ∷ length segment.numbers ∷ (s.body ++ more) = sym f.whole ∙ segment_begun width segment more octets b in
    let counts : count ≡ length segment.numbers = ap (λ l. get_or l 1 0) one in
    let sizes : length body ≡ length s.body = f.size ∙ ap (λ n. asn_size width * n) counts ∙ sym (length-numbers width segment.numbers s.body s.spelled) in
    let parts = append_parts body s.body rest more sizes (ap (drop 2) one) in
    subst (SpellsAll (SpellsAsn width) segment.numbers) (sym parts.0) s.spelled

pub refused_numbers : (width : AsWidth) (kind : SegmentKind) (count : ℕ) (body rest octets : List ℕ) (fault : WireFault) → IsSplitSegment width kind count body rest octets
    → Refuses (SpellsAll (SpellsAsn width)) body fault → MayRefuseFront (SpellsSegment width) octets fault
refused_numbers width kind count body rest octets Malformed f none = λ segment more b. none segment.numbers (numbers_framed width kind count body rest octets f segment more b)
refused_numbers width kind count body rest octets Memory f none = tt

same_count : (width : AsWidth) (m n : ℕ) → asn_size width * m ≡ asn_size width * n → m ≡ n
same_count width m n e = grind arith

-- a segment that is framed, with its numbers
pub segment_framed : (width : AsWidth) (kind : SegmentKind) (count : ℕ) (body rest octets : List ℕ) (ns : List ℕ) → IsSplitSegment width kind count body rest octets → SpellsAll (SpellsAsn width) ns body
    → Begins (SpellsSegment width) record { numbers = ns; kind = kind } rest octets
segment_framed width kind count body rest octets ns f s =
    let counts : count ≡ length ns = same_count width count (length ns) (sym f.size ∙ length-numbers width ns body s) in
    record {
      front = kind_code kind ∷ count ∷ body;
      spelled = record {
        some = omega (arith, f.some, counts);
        count_fits = omega (arith, f.fits, counts);
        body = body;
        spelled = s;
        whole = ap (λ n. kind_code kind ∷ n ∷ body) counts;
      };
      whole = f.whole;
    }

-- the same, where the segment's kind is known by an equation
pub segment_filled : (width : AsWidth) (kind : SegmentKind) (count : ℕ) (body rest octets : List ℕ) (segment : Segment) → IsSplitSegment width kind count body rest octets
    → segment.kind ≡ kind → SpellsAll (SpellsAsn width) segment.numbers body → Begins (SpellsSegment width) segment rest octets
segment_filled width kind count body rest octets segment f same s =
    subst (λ k. Begins (SpellsSegment width) record { numbers = segment.numbers; kind = k } rest octets) (sym same)
    (segment_framed width kind count body rest octets segment.numbers f s)

-- octets that are one segment and nothing else spell the list of it alone
pub only_filled : (width : AsWidth) (kind : SegmentKind) (body octets : List ℕ) (segment : Segment) → (count : ℕ) × IsSplitSegment width kind count body [] octets
    → segment.kind ≡ kind → SpellsAll (SpellsAsn width) segment.numbers body → SpellsAll (SpellsSegment width) (segment ∷ []) octets
only_filled width kind body octets segment f same s = ([], segment_filled width kind f.0 body [] octets segment f.1 same s, refl)

-- where its numbers can't be parsed, no list of segments is spelled
pub only_refused : (width : AsWidth) (kind : SegmentKind) (body octets : List ℕ) (fault : WireFault) → (count : ℕ) × IsSplitSegment width kind count body [] octets
    → Refuses (SpellsAll (SpellsAsn width)) body fault → Refuses (SpellsAll (SpellsSegment width)) octets fault
only_refused width kind body octets fault f none =
    let some : octets ≡ [] → ⊥ = λ e. omega (arith, ap length (sym f.1.whole ∙ e)) in
    refused_rest (SpellsSegment width) (segment_code width) [] octets octets fault some record { front = []; spelled = refl; whole = refl }
    (refused_numbers width kind f.0 body [] octets fault f.1 none)
