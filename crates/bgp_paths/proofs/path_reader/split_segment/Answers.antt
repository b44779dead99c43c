use Rattle.std.proofs.Common.{◌≡◌, ℕ, ◌*◌, ◌<◌, ◌≤◌, List, ◌∷◌, ◌++◌, length, get_or, drop, Fits, w64, ap, ap₂, sym, subst, ◌∙◌, arith, mul_comm, length-append, take-append-drop}
use Rattle.ip_prefix.specs.Sequences.{Begins}
use Rattle.bgp_paths.specs.declared.numbers.AsWidth.{AsWidth}
use Rattle.bgp_paths.specs.declared.segment.Segment.{Segment}
use Rattle.bgp_paths.specs.Path.{asn_size, kind_code, SpellsSegment}
use Rattle.bgp_paths.proofs.HasOneFront.{segment_begun, length-numbers}
use Rattle.bgp_paths.proofs.path_reader.split_segment.Goals as goal

few_octets : (width : AsWidth) (count : ℕ) → count < 256 → Fits w64 (count * asn_size width)
few_octets width count h = grind arith

-- a segment in front has the count that its octets say, and its numbers stand behind that
held : (width : AsWidth) (segment : Segment) (rest octets : List ℕ) (code count : ℕ) (numbers : List ℕ) → Begins (SpellsSegment width) segment rest octets → octets ≡ code ∷ count ∷ numbers
    → (0 < count) × (count * asn_size width ≤ length numbers)
held width segment rest octets code count numbers b e =
    let s = b.spelled in
    let one : code ∷ count ∷ numbers ≡ kind_code segment.kind ∷ length segment.numbers ∷ (s.body ++ rest) = sym e ∙ segment_begun width segment rest octets b in
    let counts : count ≡ length segment.numbers = ap (λ l. get_or l 1 0) one in
    let size : length s.body ≡ count * asn_size width = length-numbers width segment.numbers s.body s.spelled ∙ ap (λ n. asn_size width * n) (sym counts) ∙ mul_comm (asn_size width) count in
    (omega (arith, counts, s.some), omega (arith, ap length (ap (drop 2) one), length-append s.body rest, size))

pub overflow_mul-size : goal.overflow_mul-size
overflow_mul-size c =
    let count = c.in_ok-count.field-0-0.now in
    let octet : count < 256 = omega (arith, c.type_inv.octets 1, ap (λ l. get_or l 1 0) (c.in_ok-code.ensures.cases.0 ∙ ap (λ l. c.in_ok-code.field-0-0.now ∷ l) c.in_ok-count.ensures.cases.0)) in
    subst (Fits w64) (sym (λ i. c.from.ensures i * c.octets.ensures i)) (few_octets c.args.width count octet)

pub returns-then-count-eq0-clause-none : goal.returns-then-count-eq0-clause-none
returns-then-count-eq0-clause-none c segment rest b =
    let front = c.in_ok-code.ensures.cases.0 ∙ ap (λ l. c.in_ok-code.field-0-0.now ∷ l) c.in_ok-count.ensures.cases.0 in
    let h = held c.args.width segment rest c.args.octets.now c.in_ok-code.field-0-0.now c.in_ok-count.field-0-0.now c.in_ok-count.numbers.now b front in
    omega (arith, h.0, c.if-count-eq0.true)

pub returns-in_err-body-clause-none : goal.returns-in_err-body-clause-none
returns-in_err-body-clause-none c = rw c.from_residual-in_err-body.ensures λ segment rest b.
    let front = c.in_ok-code.ensures.cases.0 ∙ ap (λ l. c.in_ok-code.field-0-0.now ∷ l) c.in_ok-count.ensures.cases.0 in
    let h = held c.args.width segment rest c.args.octets.now c.in_ok-code.field-0-0.now c.in_ok-count.field-0-0.now c.in_ok-count.numbers.now b front in
    let size : c.from.result * c.octets.result ≡ c.in_ok-count.field-0-0.now * asn_size c.args.width = λ i. c.from.ensures i * c.octets.ensures i in
    omega (arith, h.1, c.in_err-body.ensures.cases, size)

pub returns-clause-some : goal.returns-clause-some
returns-clause-some c =
    let count = c.in_ok-count.field-0-0.now in
    let numbers = c.in_ok-count.numbers.now in
    let code : c.in_ok-code.field-0-0.now ≡ kind_code c.match-code.kind = grind (arith, c.match-code.branch) in
    let cut = c.in_ok-body.ensures.cases in
    let parts : numbers ≡ c.in_ok-body.body.now ++ c.in_ok-body.rest.now = sym (ap₂ (λ front back. front ++ back) cut.1 cut.2 ∙ take-append-drop (c.from.result * c.octets.result) numbers) in
    let front : c.args.octets.now ≡ c.in_ok-code.field-0-0.now ∷ count ∷ c.in_ok-count.numbers.now
    = c.in_ok-code.ensures.cases.0 ∙ ap (λ l. c.in_ok-code.field-0-0.now ∷ l) c.in_ok-count.ensures.cases.0 in (
      count,
      record {
        some = omega (arith, c.if-count-eq0.false);
        fits = omega (arith, c.type_inv.octets 1, ap (λ l. get_or l 1 0) front);
        size = cut.3 ∙ (λ i. c.from.ensures i * c.octets.ensures i) ∙ mul_comm count (asn_size c.args.width);
        whole = front ∙ (λ i. code i ∷ count ∷ parts i);
      },
    )
